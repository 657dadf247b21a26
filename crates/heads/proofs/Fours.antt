-- Heads that lie in eight four-number arrays: as what is left, and one of them replaced.
use mathlib.Core.Path.{◌≡◌, refl, ap, ◌∙◌}
use mathlib.Core.List.{List, [], ◌∷◌, map}
use Prim.Native.Nat.{ℕ, zero, suc}
use lib.ListN.{get_or, set, get_or-map}
use Rattle.basics.specs.Build.{build}
use Rattle.basics.proofs.BuildLaws.{build_same}
use Rattle.rules.specs.declared.Base.{Base}
use Rattle.rules.specs.Rows.{Record}
use Rattle.rules.specs.Merge.{pick}
use Rattle.rules.specs.Streams.{ahead}
use Rattle.least.specs.Fours.{left_at}
use Rattle.heads.specs.declared.Next.{Next}
use Rattle.heads.specs.declared.Move.{Move}
use Rattle.std.specs.Prelude.{Result}
use Rattle.rules.specs.declared.End.{End}
use Rattle.heads.specs.View.{Cols, column_in, heads_by, rest_at, rests_of}
use Rattle.heads.specs.Move.{move_of, turn_of, behind_by, goes_at}

map_set : {A B : Type 0} (f : A → B) (l : List A) (i : ℕ) (x : A) → map f (set l i x) ≡ set (map f l) i (f x)
map_set f [] i x = refl
map_set f (y ∷ l) zero x = refl
map_set {B = B} f (y ∷ l) (suc i) x = ap (λ (z : List B). f y ∷ z) (map_set f l i x)

pub column_get : (i : ℕ) (q : List (List ℕ)) (k : ℕ) → get_or (column_in i q) k 0 ≡ get_or (get_or q k []) i 0
column_get i q k = get_or-map (λ (x : List ℕ). get_or x i 0) q k []

column_set : (i : ℕ) (q : List (List ℕ)) (k : ℕ) (x : List ℕ) → column_in i (set q k x) ≡ set (column_in i q) k (get_or x i 0)
column_set i q k x = map_set (λ (y : List ℕ). get_or y i 0) q k x

module _ (s : Cols) (q : List (List ℕ)) (e next from to : List ℕ) (n : ℕ) where
  shown : build (left_at q e (behind_by s next from to)) n 0 ≡ rests_of s (heads_by q e next from to n)
  unfolding rests_of
  shown =
      build_same (rest_at s (heads_by q e next from to n)) (left_at q e (behind_by s next from to)) n 0
      (λ k a b. rw (column_get 0 q k, column_get 1 q k, column_get 2 q k, column_get 3 q k))

  -- what the choice over the arrays comes to is the turn of the heads
  pub turned : (m : Result Move End) (N : ℕ) (b : Base) → m ≡ move_of N b next (pick ahead (build (left_at q e (behind_by s next from to)) n 0)) → m ≡ turn_of s N b (heads_by q e next from to n)
  turned m N b f = f ∙ ap (λ (l : List (List Record)). move_of N b next (pick ahead l)) shown

-- the head of stream k replaced
pub goes_by : (q : List (List ℕ)) (e next from to : List ℕ) (n k : ℕ) (x : Next) → heads_by (set q k (x.chrom.0 ∷ x.start ∷ x.stop ∷ x.row ∷ [])) (set e k 0) (set next k x.next) from to n ≡ goes_at (heads_by q e next from to n) k x
goes_by q e next from to n k x = rw (column_set 0 q k (x.chrom.0 ∷ x.start ∷ x.stop ∷ x.row ∷ []), column_set 1 q k (x.chrom.0 ∷ x.start ∷ x.stop ∷ x.row ∷ []), column_set 2 q k (x.chrom.0 ∷ x.start ∷ x.stop ∷ x.row ∷ []), column_set 3 q k (x.chrom.0 ∷ x.start ∷ x.stop ∷ x.row ∷ []))

-- The walk in closed form: the start that is taken is drawn, and there is room or not for its live records.
use mathlib.Core.Path.{◌≡◌, refl, ◌∙◌}
use mathlib.Core.Bool.{Bool, true, false, cond}
use mathlib.Core.Option.{Option, none, some}
use mathlib.Core.List.{List, [], ◌∷◌, ◌++◌, append-nil, append_assoc}
use Prim.Native.Nat.{ℕ, ◌≤◌, ◌<◌}
use native.Mathlib.Omega.{arith}
use lib.Dec.{leb}
use lib.ListN.{length, length-append}
use borrow.Author.Tests.{leb-true, leb-false, le-leb, lt-leb}
use Rattle.basics.specs.Lists.{keep, filter, front, back}
use Rattle.theory.proofs.Mode.{Mode, State, walk}

-- the queue q with l left, if there is room for q
abbrev pub load : {R : Type 0} → ℕ → List R → List R → Option (State R)
load Q q l = cond (leb (length q) Q) (some (record { left = l; queue = q })) none

module _ {R B : Type 0} (m : Mode R B) (Q : ℕ) (b : B) where
  open m use {take, live}

  rests : (q l : List R) → length q ≤ Q → some (record { left = l; queue = q }) ≡ load Q (q ++ []) l
  rests q l h = rw (append-nil, le-leb (length q) Q h)

  -- one record drawn, live or not, where w is the walk over the others, F their live ones and k what is left
  drew : (q F k : List R) (r : R) (w : List R → Option (State R)) → ((p : List R) → length p ≤ Q → w p ≡ load Q (p ++ F) k) → length q ≤ Q
      → (u v : Bool) → leb Q (length q) ≡ v
      → cond u (cond v none (w (q ++ r ∷ []))) (w q) ≡ load Q (q ++ keep u r F) k
  drew q F k r w f h false v e = f q h
  drew q F k r w f h true true e =
      let over : Q < length (q ++ r ∷ F) = rw length-append (omega (arith, leb-true Q (length q) e)) in
      rw (lt-leb (length (q ++ r ∷ F)) Q over)
  drew q F k r w f h true false e =
      let more : length (q ++ r ∷ []) ≤ Q = rw length-append (omega (arith, leb-false Q (length q) e)) in
      f (q ++ r ∷ []) more ∙ rw append_assoc

  pub walk_load : (q l : List R) → length q ≤ Q → walk m Q b q l ≡ load Q (q ++ filter (live b) (front (take b) l)) (back (take b) l)
  unfolding walk
  walk_load q [] h = rests q [] h
  walk_load q (r ∷ l) h = go (take b r) (drew q (filter (live b) (front (take b) l)) (back (take b) l) r (λ p. walk m Q b p l) (λ p k. walk_load p l k) h (live b r) (leb Q (length q)) refl)
    where
      go : (t : Bool) → cond (live b r) (cond (leb Q (length q)) none (walk m Q b (q ++ r ∷ []) l)) (walk m Q b q l) ≡ load Q (q ++ keep (live b r) r (filter (live b) (front (take b) l))) (back (take b) l)
          → cond t (cond (live b r) (cond (leb Q (length q)) none (walk m Q b (q ++ r ∷ []) l)) (walk m Q b q l)) (some (record { left = r ∷ l; queue = q }))
          ≡ load Q (q ++ filter (live b) (cond t (r ∷ front (take b) l) [])) (cond t (back (take b) l) (r ∷ l))
      go false f = rests q (r ∷ l) h
      go true f = f

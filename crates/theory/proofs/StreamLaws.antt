-- The merged list: each stream's rows ahead of its first fault are in it, each once and in order; it is sorted by chromosome and start;
-- and where the loading meets no fault, it is the records of the heads in the order in which they are taken.
use mathlib.Core.Path.{◌≡◌, refl, sym, ap, ◌∙◌}
use mathlib.Core.Bool.{Bool, true, false, cond}
use mathlib.Core.Option.{Option, none, some}
use mathlib.Core.List.{List, [], ◌∷◌, map}
use Prim.Native.Nat.{ℕ, zero, suc, ◌+◌}
use native.Mathlib.Omega.{arith}
use lib.Dec.{eqb, leb}
use lib.ListN.{get_or}
use borrow.Author.Tests.{leb-true}
use Rattle.basics.specs.Lists.{filter, All, nil, cons, Sorted, next}
use Rattle.basics.proofs.ListLaws.{all_map}
use Rattle.basics.proofs.LexLaws.{lex_true, lex_false, lex_map, lex_refl, lex_trans}
use Rattle.rules.specs.declared.Row.{Row}
use Rattle.rules.specs.declared.End.{End}
use Rattle.rules.specs.declared.End.TheVariants.{Faulty, Unsorted}
use Rattle.rules.specs.Rows.{Record, number, numbered, good, follows, behind, fault}
use Rattle.rules.specs.Streams.{else, unless, check, first_fault, sound, valid, ahead, merged, Head, heads, taking}
use Rattle.rules.specs.Streams as streams
use Rattle.rules.specs.Call.{loading}
use Rattle.rules.specs.Promise.{records}
use Rattle.theory.proofs.MergeLaws.{Each, Decides, merge_own, merge_sorted, merge_all, merge_map}
use Rattle.theory.proofs.Modes.{Onward, Le}

-- ---- streams by their number

numbered_at : (i : ℕ) (ss : List (List Row)) (j : ℕ) → get_or (numbered i ss) j [] ≡ number (i + j) 0 (get_or ss j [])
numbered_at i [] j = refl
numbered_at i (s ∷ ss) zero = ap (λ (k : ℕ). number k 0 s) (omega arith)
numbered_at i (s ∷ ss) (suc j) = numbered_at (suc i) ss j ∙ ap (λ (k : ℕ). number k 0 (get_or ss j [])) (omega arith)

pub numbered_zero : (ss : List (List Row)) (j : ℕ) → get_or (numbered 0 ss) j [] ≡ number j 0 (get_or ss j [])
numbered_zero ss j = numbered_at 0 ss j ∙ ap (λ (k : ℕ). number k 0 (get_or ss j [])) (omega arith)

number_stream : (i k : ℕ) (l : List Row) → All (λ a. a.stream.0 ≡ i) (number i k l)
number_stream i k [] = nil
number_stream i k (r ∷ l) = cons refl (number_stream i (suc k) l)

map_at : {A B : Type 0} (f : List A → List B) → f [] ≡ [] → (ss : List (List A)) (j : ℕ) → get_or (map f ss) j [] ≡ f (get_or ss j [])
map_at f e [] j = sym e
map_at f e (s ∷ ss) zero = refl
map_at f e (s ∷ ss) (suc j) = map_at f e ss j

-- a fact of each stream's list is a fact of each list that is merged
each_map : {A B : Type 0} (P : List B → Type 0) (f : List A → List B) → f [] ≡ [] → ((l : List A) → P (f l)) → (ss : List (List A)) → Each P (map f ss)
each_map P f e h ss j = rw (map_at f e ss j) (h (get_or ss j []))

-- ---- the rows ahead of a fault

-- a row behind the row p, if there is one
abbrev Past : Option Row → Row → Type 0
Past none r = Unit {0}
Past (some p) r = Onward p r

follows_on : (p r : Row) → follows p r ≡ true → Onward p r
follows_on p r e = lex_map (leb-true p.start r.start) (lex_true p.chrom.0 r.chrom.0 (leb p.start r.start) e)

behind_past : (p : Option Row) (r : Row) → behind p r ≡ true → Past p r
behind_past none r e = tt
behind_past (some p) r e = follows_on p r e

past_trans : (p : Option Row) (q r : Row) → Past p q → Onward q r → Past p r
past_trans none q r h k = tt
past_trans (some p) q r h k = lex_trans (λ u v. omega arith) h k

-- a record with no fault
pub record Fine (n : ℕ) (p : Option Row) (x : Record) : Type 0 where
  pub good_row : good n x.it ≡ true
  pub past : Past p x.it

pub fault_fine : (n : ℕ) (p : Option Row) (x : Record) → fault n p x ≡ none → Fine n p x
fault_fine n p x e = go (good n x.it) (behind p x.it) refl refl e
  where
    go : (u v : Bool) → good n x.it ≡ u → behind p x.it ≡ v
        → cond u (cond v none (some (Unsorted x.stream x.row))) (some (Faulty x.stream x.row)) ≡ none → Fine n p x
    go true true g h z = record { good_row = g; past = behind_past p x.it h }
    go true false g h z = let w : ◌≡◌ {A = ℕ} 0 1 = cc in absurd (omega arith)
    go false v g h z = let w : ◌≡◌ {A = ℕ} 0 1 = cc in absurd (omega arith)

record Sound (n : ℕ) (p : Option Row) (l : List Record) : Type 0 where
  onward : All (λ x. Past p x.it) l
  ordered : Sorted Le l
  fine : All (λ x. good n x.it ≡ true) l

sound_cons : (n : ℕ) (p : Option Row) (x : Record) {l : List Record} → Fine n p x → Sound n (some x.it) l → Sound n p (x ∷ l)
sound_cons n p x f s = record {
  onward = cons f.past (all_map (λ y h. past_trans p x.it y.it f.past h) s.onward);
  ordered = next s.onward s.ordered;
  fine = cons f.good_row s.fine;
}

sound_sound : (n : ℕ) (p : Option Row) (l : List Record) → Sound n p (sound n p l)
sound_sound n p [] = record { onward = nil; ordered = Sorted.none; fine = nil }
sound_sound n p (x ∷ l) = go (fault n p x) refl (sound_sound n (some x.it) l)
  where
    go : (o : Option End) → fault n p x ≡ o → Sound n (some x.it) (sound n (some x.it) l) → Sound n p (unless o (x ∷ sound n (some x.it) l))
    go none e s = sound_cons n p x (fault_fine n p x e) s
    go (some f) e s = record { onward = nil; ordered = Sorted.none; fine = nil }

sound_stream : (n i : ℕ) (p : Option Row) {l : List Record} → All (λ a. a.stream.0 ≡ i) l → All (λ a. a.stream.0 ≡ i) (sound n p l)
sound_stream n i p nil = nil
sound_stream n i p (cons {x} {l} h k) = go (fault n p x) (cons h (sound_stream n i (some x.it) k))
  where
    go : (o : Option End) → All (λ a. a.stream.0 ≡ i) (x ∷ sound n (some x.it) l) → All (λ a. a.stream.0 ≡ i) (unless o (x ∷ sound n (some x.it) l))
    go none a = a
    go (some e) a = nil

-- ---- the merged list

module _ (n : ℕ) (ss : List (List Row)) where
  sound_at : (j : ℕ) → get_or (map (sound n none) (numbered 0 ss)) j [] ≡ sound n none (number j 0 (get_or ss j []))
  sound_at j = map_at (sound n none) refl (numbered 0 ss) j ∙ ap (sound n none) (numbered_zero ss j)

  -- "The merged list [..] For faulty streams, only the rows ahead of each stream's first fault count": these are stream j's, in order, each once
  pub merged_own : (j : ℕ) → filter (λ a. eqb a.stream.0 j) (merged n ss) ≡ sound n none (number j 0 (get_or ss j []))
  unfolding merged
  merged_own j =
      merge_own ahead (λ a. a.stream.0) (map (sound n none) (numbered 0 ss)) (λ i. rw (sound_at i) (sound_stream n i none (number_stream i 0 (get_or ss i [])))) j ∙ sound_at j

  -- the merged list is sorted by chromosome and start
  pub merged_sorted : Sorted Le (merged n ss)
  unfolding merged
  merged_sorted = merge_sorted Le ahead decides (map (sound n none) (numbered 0 ss)) (each_map (Sorted Le) (sound n none) refl (λ l. (sound_sound n none l).ordered) (numbered 0 ss))
    where
      decides : Decides Le ahead
      decides = record {
        refl_le = λ x. lex_refl x.it.chrom.0 (omega arith);
        trans_le = λ x y z h k. lex_trans (λ p q. omega arith) h k;
        passes = λ x y e. lex_map (λ f. (lex_true x.it.start y.it.start _ f).below) (lex_true x.it.chrom.0 y.it.chrom.0 _ e);
        fails = λ x y e. lex_map (λ f. (lex_false x.it.start y.it.start _ f).below) (lex_false x.it.chrom.0 y.it.chrom.0 _ e);
      }

  -- every row of the merged list is good
  pub merged_good : All (λ a. good n a.it ≡ true) (merged n ss)
  unfolding merged
  merged_good = merge_all ahead (λ a. good n a.it ≡ true) (map (sound n none) (numbered 0 ss)) (each_map (All (λ a. good n a.it ≡ true)) (sound n none) refl (λ l. (sound_sound n none l).fine) (numbered 0 ss))

-- ---- the heads that are taken

-- the records of a stream's heads are its rows ahead of the first fault
sound_heads : (n : ℕ) (p : Option Row) (l : List Record) → sound n p l ≡ records (unless (check n p l) (heads (streams.next n) l))
sound_heads n p [] = refl
sound_heads n p (x ∷ l) = go (fault n p x) (sound_heads n (some x.it) l)
  where
    go : (o : Option End) → sound n (some x.it) l ≡ records (unless (check n (some x.it) l) (heads (streams.next n) l))
        → unless o (x ∷ sound n (some x.it) l) ≡ records (unless o (heads (streams.next n) (x ∷ l)))
    go none e = rw e
    go (some f) e = refl

module _ (n : ℕ) where
  loaded : (ss : List (List Record)) → loading n ss ≡ none → All (λ s. check n none s ≡ none) ss
  loaded [] e = nil
  loaded (s ∷ ss) e = go (check n none s) refl e (loaded ss)
    where
      go : (o : Option End) → check n none s ≡ o → else o (loading n ss) ≡ none → (loading n ss ≡ none → All (λ s. check n none s ≡ none) ss) → All (λ s. check n none s ≡ none) (s ∷ ss)
      go none q z k = cons q (k z)
      go (some f) q z k = let w : ◌≡◌ {A = ℕ} 0 1 = cc in absurd (omega arith)

  sound_all : {ss : List (List Record)} → All (λ s. check n none s ≡ none) ss → map (sound n none) ss ≡ map (map (λ h. h.it)) (map (heads (streams.next n)) ss)
  sound_all nil = refl
  sound_all (cons {x} h k) = let e : sound n none x ≡ records (heads (streams.next n) x) = sound_heads n none x ∙ rw h in rw (sound_all k, e)

  -- where the loading meets no fault, the merged list is what the heads give
  pub merged_taking : (ss : List (List Row)) → loading n (numbered 0 ss) ≡ none → merged n ss ≡ records (taking n (numbered 0 ss))
  unfolding merged taking
  merged_taking ss e = rw (sound_all (loaded (numbered 0 ss) e)) (merge_map (λ h. h.it) ahead (map (heads (streams.next n)) (numbered 0 ss)))

-- Valid streams: nothing is wrong at the loading or behind a head, so that only a lack of room ends a run.
use mathlib.Core.Path.{◌≡◌, refl, sym, ap, ◌∙◌}
use mathlib.Core.Bool.{true, false, cond, not}
use mathlib.Core.Option.{Option, none, some}
use mathlib.Core.List.{List, [], ◌∷◌, map}
use Prim.Native.Nat.{ℕ, zero, suc}
use native.Mathlib.Omega.{arith}
use lib.Dec.{ltb}
use lib.ListN.{length, get_or}
use Rattle.basics.specs.Lists.{is_some, All, nil, cons}
use Rattle.basics.proofs.BoolLaws.{clash}
use Rattle.basics.proofs.ListLaws.{all_map, all_mapped, front_whole, back_whole}
use Rattle.rules.specs.declared.Row.{Row}
use Rattle.rules.specs.declared.Base.{Base}
use Rattle.rules.specs.declared.End.{End}
use Rattle.rules.specs.declared.End.TheVariants.{NoRoom}
use Rattle.rules.specs.Rows.{Record, number, numbered, fault}
use Rattle.rules.specs.Streams.{else, check, first_fault, sound, valid, ahead, heads, next, taking}
use Rattle.rules.specs.Call.{loading}
use Rattle.rules.specs.Job.{Job, merged_of}
use Rattle.rules.specs.Promise.{crowd, clear, wall, ending}
use Rattle.rules.specs.Demands.{ValidStreams}
use Rattle.theory.proofs.MergeLaws.{Each, merge_all}
use Rattle.theory.proofs.StreamLaws.{numbered_zero, merged_taking}

-- nothing is wrong with the first of l behind p, nor behind any head of l
record Unfailing (n : ℕ) (p : Option Row) (l : List Record) : Type 0 where
  first : check n p l ≡ none
  others : All (λ h. is_some h.fault ≡ false) (heads (next n) l)
  whole : sound n p l ≡ l

unfailing : (n : ℕ) (p : Option Row) (l : List Record) → first_fault n p l ≡ none → Unfailing n p l
unfailing n p [] e = record { first = refl; others = nil; whole = refl }
unfailing n p (x ∷ l) e = go (fault n p x) refl e (unfailing n (some x.it) l)
  where
    go : (o : Option End) → fault n p x ≡ o → else o (first_fault n (some x.it) l) ≡ none → (first_fault n (some x.it) l ≡ none → Unfailing n (some x.it) l) → Unfailing n p (x ∷ l)
    go none q z k =
        let u : Unfailing n (some x.it) l = k z in
        record { first = q; others = rw u.first (cons refl u.others); whole = rw (q, u.whole) }
    go (some f) q z k = let w : ◌≡◌ {A = ℕ} 0 1 = cc in absurd (omega arith)

no_fault : (o : Option End) → not (is_some o) ≡ true → o ≡ none
no_fault none e = refl
no_fault (some x) e = clash e refl

valid_unfailing : (n : ℕ) (l : List Record) → valid n l ≡ true → Unfailing n none l
valid_unfailing n l e = unfailing n none l (no_fault (first_fault n none l) e)

-- a valid stream has all its rows ahead of a fault
pub valid_whole : (n : ℕ) (l : List Record) → valid n l ≡ true → sound n none l ≡ l
valid_whole n l e = (valid_unfailing n l e).whole

all_each : {A : Type 0} (P : List A → Type 0) → P [] → {ss : List (List A)} → All P ss → Each P ss
all_each P e nil j = e
all_each P e (cons h k) zero = h
all_each P e (cons h k) (suc j) = all_each P e k j

pub valid_loading : (n : ℕ) {ss : List (List Record)} → All (λ s. valid n s ≡ true) ss → loading n ss ≡ none
valid_loading n nil = refl
valid_loading n (cons {x} h k) = rw (valid_unfailing n x h).first (valid_loading n k)

valid_taking : (n : ℕ) {ss : List (List Record)} → All (λ s. valid n s ≡ true) ss → All (λ h. is_some h.fault ≡ false) (taking n ss)
unfolding taking
valid_taking n {ss} h =
    merge_all (λ x y. ahead x.it y.it) (λ h. is_some h.fault ≡ false) (map (heads (next n)) ss) (all_each (All (λ h. is_some h.fault ≡ false)) nil (all_mapped (heads (next n)) (all_map (λ s v. (valid_unfailing n s v).others) h)))

module _ (j : Job) (ok : ValidStreams j) where
  abbrev n : ℕ
  n = length j.lengths

  abbrev ss : List (List Record)
  ss = numbered 0 j.streams

  pub loads : loading n ss ≡ none
  loads = valid_loading n ok

  sound_heads : All (λ h. not (is_some h.fault) ≡ true) (taking n ss)
  sound_heads = all_map (λ h e. rw e) (valid_taking n ok)

  pub all_clear : clear (taking n ss) ≡ taking n ss
  all_clear = front_whole sound_heads

  pub no_wall : wall (taking n ss) ≡ []
  no_wall = back_whole sound_heads

  -- only a lack of room ends the run
  pub valid_ending : (hs : List Base) (b : Base) → ending n j.room ss hs b ≡ cond (ltb j.room (length (crowd (merged_of j) hs b))) (some NoRoom) none
  valid_ending hs b = rw (loads, all_clear, no_wall, merged_taking n j.streams loads)

  -- each stream is whole
  pub valid_row : (i : ℕ) → sound n none (number i 0 (get_or j.streams i [])) ≡ number i 0 (get_or j.streams i [])
  valid_row i = ap (sound n none) (sym (numbered_zero j.streams i)) ∙ all_each (λ s. sound n none s ≡ s) refl (all_map (λ s v. valid_whole n s v) ok) i ∙ numbered_zero j.streams i

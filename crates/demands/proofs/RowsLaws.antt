-- 10 never comes where at least Q answer rows are lent: no more than Q records wait, so how many rows are lent beyond Q changes nothing. And 1
-- comes exactly where it is due.
use mathlib.Core.Path.{◌≡◌, refl, sym, ap, subst, ◌∙◌}
use mathlib.Core.Bool.{Bool, true, false, cond}
use mathlib.Core.Option.{Option, none, some}
use mathlib.Core.List.{List, [], ◌∷◌, ◌++◌}
use Prim.Native.Nat.{ℕ, zero, suc, ◌≤◌}
use native.Mathlib.Omega.{arith}
use lib.Dec.{leb, ltb}
use lib.ListN.{length, length-append, get_or}
use borrow.Author.Tests.{leb-false, le-ltb}
use Rattle.basics.specs.Lists.{total, filter}
use Rattle.basics.proofs.ListLaws.{length_filter}
use Rattle.rules.specs.declared.Base.{Base}
use Rattle.rules.specs.declared.End.{End}
use Rattle.rules.specs.declared.End.TheVariants.{NoRoom, NoRows}
use Rattle.rules.specs.declared.Refusal.{Refusal}
use Rattle.rules.specs.declared.Stage.{Stage}
use Rattle.rules.specs.declared.Stage.TheVariants.{Fresh, After, Over}
use Rattle.rules.specs.Rows.{Record}
use Rattle.rules.specs.Merge.{Pick, pick}
use Rattle.rules.specs.Streams.{ahead, next}
use Rattle.rules.specs.Overlap.{taken, live, overlaps}
use Rattle.rules.specs.Offer.{offer}
use Rattle.rules.specs.Pull.{Pull, paused, ends, unless_wrong, turn, turns, pull}
use Rattle.rules.specs.Bases.{in_order, beyond, judge}
use Rattle.rules.specs.Call.{Run, Reply, found, refused, ended, Lent, refuse, end, loading, coming, after_pull, pulling, accept, judged, by_stage, give}
use Rattle.rules.specs.Job.{lending}

-- ---- a pull leaves no more than Q

module _ {R E : Type 0} (ahead : R → R → Bool) (flaw : R → List R → Option E) (full : E) (taken live : R → Bool) (Q : ℕ) where
  abbrev Few : Pull R E → Type 0
  Few (paused ss queue) = length queue ≤ Q
  Few (ends e) = Unit {0}

  turns_few : (n : ℕ) (ss : List (List R)) (queue : List R) → length queue ≤ Q → Few (turns ahead flaw full taken live Q n ss queue)
  unfolding turns
  turns_few zero ss queue h = h
  turns_few (suc n) ss queue h = go (pick ahead ss) (turns_few n)
    where
      go : (o : Pick R) → ((ts : List (List R)) (q : List R) → length q ≤ Q → Few (turns ahead flaw full taken live Q n ts q)) → Few (turn ahead flaw full taken live Q (turns ahead flaw full taken live Q n) ss queue o)
      go Pick.none k = h
      go (Pick.one a rest ts) k = case (taken a) (flaw a rest) (live a) (leb Q (length queue)) refl
        where
          case : (t : Bool) (w : Option E) (v f : Bool) → leb Q (length queue) ≡ f
              → Few (cond t (unless_wrong w (cond v (cond f (ends full) (turns ahead flaw full taken live Q n ts (queue ++ a ∷ []))) (turns ahead flaw full taken live Q n ts queue))) (paused ss queue))
          case false w v f e = h
          case true (some x) v f e = tt
          case true none true true e = tt
          case true none true false e = k ts (queue ++ a ∷ []) (omega (arith, leb-false Q (length queue) e, length-append queue (a ∷ [])))
          case true none false f e = k ts queue h

  pull_few : (ss : List (List R)) (queue : List R) → length queue ≤ Q → Few (pull ahead flaw full taken live Q ss queue)
  unfolding pull
  pull_few ss queue h = turns_few (total ss) ss queue h

-- ---- more answer rows

module _ (lengths : List (Option ℕ)) (Q rows : ℕ) (r : Run) (b : Base) (enough : Q ≤ rows) (few : length r.queue ≤ Q) where
  abbrev N : ℕ
  N = length lengths

  after_rows : (p : Pull Record End) → Few ahead (next N) NoRoom (taken b) (live b) Q p → after_pull rows r b p ≡ after_pull Q r b p
  after_rows (ends e) h = refl
  after_rows (paused ss queue) h =
      rw (le-ltb rows (length (filter (overlaps b) queue)) (omega (arith, length_filter (overlaps b) queue)), le-ltb Q (length (filter (overlaps b) queue)) (omega (arith, length_filter (overlaps b) queue)))

  pulling_rows : pulling N Q rows r b ≡ pulling N Q Q r b
  pulling_rows = after_rows (pull ahead (next N) NoRoom (taken b) (live b) Q r.left (filter (live b) r.queue)) (pull_few ahead (next N) NoRoom (taken b) (live b) Q r.left (filter (live b) r.queue) (omega (arith, length_filter (live b) r.queue)))

  judged_rows : (w : Option End) (o : Option Refusal) → judged N Q rows r b w o ≡ judged N Q Q r b w o
  judged_rows w (some x) = refl
  judged_rows (some e) none = refl
  judged_rows none none = pulling_rows

  pub give_rows : give lengths Q (record { right = true; rows = rows }) r b ≡ give lengths Q (lending Q) r b
  unfolding give
  give_rows = go r.stage
    where
      go : (t : Stage) → by_stage lengths Q (record { right = true; rows = rows }) r b t ≡ by_stage lengths Q (lending Q) r b t
      go Fresh = judged_rows (loading N r.left) (judge lengths none b)
      go (After p) = judged_rows none (judge lengths (some p) b)
      go (Over e) = refl

-- ---- 1

-- an ended run does not look at what is lent
pub give_over : (lengths : List (Option ℕ)) (Q : ℕ) (l m : Lent) (r : Run) (b : Base) (e : End) → r.stage ≡ Over e → give lengths Q l r b ≡ give lengths Q m r b
unfolding give
give_over lengths Q l m r b e i = ap (by_stage lengths Q l r b) i ∙ sym (ap (by_stage lengths Q m r b) i)

-- where 1 is due a run that goes on is refused so
pub give_wrong : (lengths : List (Option ℕ)) (Q rows : ℕ) (r : Run) (b : Base) → ((e : End) → r.stage ≡ Over e → ⊥) → give lengths Q (record { right = false; rows = rows }) r b ≡ refuse r Refusal.Sizes
unfolding give
give_wrong lengths Q rows r b h = go r.stage refl
  where
    go : (t : Stage) → r.stage ≡ t → by_stage lengths Q (record { right = false; rows = rows }) r b t ≡ refuse r Refusal.Sizes
    go Fresh i = refl
    go (After p) i = refl
    go (Over e) i = absurd (h e i)

-- a reply other than 1
abbrev Heeded : Reply → Type 0
Heeded (found l o) = Unit {0}
Heeded (refused Refusal.Sizes) = ⊥
Heeded (refused Refusal.Beyond) = Unit {0}
Heeded (refused Refusal.Unlisted) = Unit {0}
Heeded (refused Refusal.Unordered) = Unit {0}
Heeded (refused Refusal.Reversed) = Unit {0}
Heeded (ended e) = Unit {0}

-- 4, 6, 3 and 5 are not 1
judged_heeded : (n Q rows : ℕ) (r : Run) (b : Base) (w : Option End) (lengths : List (Option ℕ)) (last : Option Base) → Heeded (judged n Q rows r b w (judge lengths last b)).reply
unfolding judge
judged_heeded n Q rows r b w lengths last =
    go (leb (length lengths) b.chrom.0) (ltb b.stop b.start) (beyond (get_or lengths b.chrom.0 none) b.stop) (in_order last b)
  where
    after : (p : Pull Record End) → Heeded (after_pull rows r b p).reply
    after (ends e) = tt
    after (paused ss queue) = by_rows (ltb rows (length (filter (overlaps b) queue)))
      where
        by_rows : (u : Bool) → Heeded (cond u (end r NoRows) (record { run = record { left = ss; queue = queue; stage = After b }; reply = found (filter (overlaps b) queue) (offer (coming ss queue) b) })).reply
        by_rows true = tt
        by_rows false = tt

    accepted : (o : Option End) → Heeded (accept n Q rows r b o).reply
    accepted (some e) = tt
    accepted none = after (pull ahead (next n) NoRoom (taken b) (live b) Q r.left (filter (live b) r.queue))

    go : (t u v k : Bool) → Heeded (judged n Q rows r b w (cond t (some Refusal.Unlisted) (cond u (some Refusal.Reversed) (cond v (some Refusal.Beyond) (cond k none (some Refusal.Unordered)))))).reply
    go true u v k = tt
    go false true v k = tt
    go false false true k = tt
    go false false false false = tt
    go false false false true = accepted w

-- where 1 is not due no base is refused so
pub give_heeded : (lengths : List (Option ℕ)) (Q rows : ℕ) (r : Run) (b : Base) → (give lengths Q (record { right = true; rows = rows }) r b).reply ≡ refused Refusal.Sizes → ⊥
unfolding give
give_heeded lengths Q rows r b e = subst Heeded e (go r.stage)
  where
    go : (t : Stage) → Heeded (by_stage lengths Q (record { right = true; rows = rows }) r b t).reply
    go Fresh = judged_heeded (length lengths) Q rows r b (loading (length lengths) r.left) lengths none
    go (After p) = judged_heeded (length lengths) Q rows r b none lengths (some p)
    go (Over x) = tt

-- A fact of every record that is left or waits: a pull keeps it, and so does a call.
use mathlib.Core.Bool.{Bool, true, false, cond}
use mathlib.Core.Option.{Option, none, some}
use mathlib.Core.List.{List, [], ◌∷◌, ◌++◌}
use Prim.Native.Nat.{ℕ, zero, suc}
use lib.Dec.{leb, ltb}
use lib.ListN.{length}
use Rattle.basics.specs.Lists.{total, filter, All, nil, cons}
use Rattle.basics.proofs.ListLaws.{all_append, all_filter, all_head, all_mapped, all_of, all_tail}
use Rattle.rules.specs.declared.Base.{Base}
use Rattle.rules.specs.declared.End.{End}
use Rattle.rules.specs.declared.End.TheVariants.{NoRoom, NoRows}
use Rattle.rules.specs.declared.Refusal.{Refusal}
use Rattle.rules.specs.declared.Refusal.TheVariants.{Sizes}
use Rattle.rules.specs.declared.Stage.{Stage}
use Rattle.rules.specs.declared.Stage.TheVariants.{Fresh, After, Over}
use Rattle.rules.specs.Rows.{Record}
use Rattle.rules.specs.Merge.{Pick, pick}
use Rattle.rules.specs.Streams.{ahead, next}
use Rattle.rules.specs.Overlap.{taken, live, overlaps}
use Rattle.rules.specs.Offer.{offer}
use Rattle.rules.specs.Pull.{Pull, paused, ends, unless_wrong, turn, turns, pull}
use Rattle.rules.specs.Bases.{judge}
use Rattle.rules.specs.Call.{Run, Lent, Reply, found, refused, ended, refuse, over, end, loading, coming, after_pull, pulling, judged, by_stage, give}
use Rattle.theory.proofs.MergeLaws.{Each, Picks, pick_picks, took_by}

-- a fact of all elements of all lists is one of each list's, by its number
pub each_all : {A : Type 0} (P : A → Type 0) {ss : List (List A)} → All (All P) ss → Each (All P) ss
each_all P nil j = nil
each_all P (cons h k) zero = h
each_all P (cons h k) (suc j) = each_all P k j

-- ---- a pull

module _ {R E : Type 0} (ahead : R → R → Bool) (flaw : R → List R → Option E) (full : E) (taken live : R → Bool) (Q : ℕ) (P : R → Type 0) where
  abbrev Keeps : Pull R E → Type 0
  Keeps (paused ss queue) = Each (All P) ss × All P queue
  Keeps (ends e) = Unit {0}

  turns_keep : (n : ℕ) (ss : List (List R)) (queue : List R) → Each (All P) ss → All P queue → Keeps (turns ahead flaw full taken live Q n ss queue)
  unfolding turns
  turns_keep zero ss queue h k = (h, k)
  turns_keep (suc n) ss queue h k = go (pick ahead ss) (pick_picks ahead ss) (turns_keep n)
    where
      go : (o : Pick R) → Picks ss o → ((ts : List (List R)) (q : List R) → Each (All P) ts → All P q → Keeps (turns ahead flaw full taken live Q n ts q))
          → Keeps (turn ahead flaw full taken live Q (turns ahead flaw full taken live Q n) ss queue o)
      go Pick.none w on = (h, k)
      go (Pick.one a rest ts) w on = case (taken a) (flaw a rest) (live a) (leb Q (length queue))
        where
          -- the head that is taken, and what is left without it
          first : P a
          first = all_head (rw w.here at (h w.at))

          others : Each (All P) ts
          others = took_by w (λ j l. All P l) all_tail h

          case : (t : Bool) (o : Option E) (v f : Bool)
              → Keeps (cond t (unless_wrong o (cond v (cond f (ends full) (turns ahead flaw full taken live Q n ts (queue ++ a ∷ []))) (turns ahead flaw full taken live Q n ts queue))) (paused ss queue))
          case false o v f = (h, k)
          case true (some e) v f = tt
          case true none true true = tt
          case true none true false = on ts (queue ++ a ∷ []) others (all_append k (cons first nil))
          case true none false f = on ts queue others k

  pull_keeps : (ss : List (List R)) (queue : List R) → Each (All P) ss → All P queue → Keeps (pull ahead flaw full taken live Q ss queue)
  unfolding pull
  pull_keeps ss queue h k = turns_keep (total ss) ss queue h k

-- ---- a call

module _ (P : Record → Type 0) where
  -- so of all that is left and all that waits
  abbrev pub Holds : Run → Type 0
  Holds r = Each (All P) r.left × All P r.queue

  over_holds : (r : Run) (e : End) → Holds (over r e)
  over_holds r e = (each_all P (all_mapped {P = All P} (λ s. []) (all_of (λ s. nil) r.left)), nil)

  module _ (n Q rows : ℕ) (r : Run) (b : Base) (h : Holds r) where
    after_holds : (p : Pull Record End) → Keeps ahead (next n) NoRoom (taken b) (live b) Q P p → Holds (after_pull rows r b p).run
    after_holds (ends e) k = over_holds r e
    after_holds (paused ss queue) k = go (ltb rows (length (filter (overlaps b) queue)))
      where
        go : (u : Bool) → Holds (cond u (end r NoRows) (record { run = record { left = ss; queue = queue; stage = After b }; reply = found (filter (overlaps b) queue) (offer (coming ss queue) b) })).run
        go true = over_holds r NoRows
        go false = k

    pulling_holds : Holds (pulling n Q rows r b).run
    pulling_holds =
        after_holds (pull ahead (next n) NoRoom (taken b) (live b) Q r.left (filter (live b) r.queue))
        (pull_keeps ahead (next n) NoRoom (taken b) (live b) Q P r.left (filter (live b) r.queue) h.0 (all_filter (live b) h.1))

    judged_holds : (u : Bool) (w : Option End) (o : Option Refusal) → Holds (cond u (judged n Q rows r b w o) (refuse r Sizes)).run
    judged_holds false w o = h
    judged_holds true w (some x) = h
    judged_holds true (some e) none = over_holds r e
    judged_holds true none none = pulling_holds

  -- so of a base's records
  abbrev pub Hits : Reply → Type 0
  Hits (found l o) = All P l
  Hits (refused x) = Unit {0}
  Hits (ended e) = Unit {0}

  module _ (n Q rows : ℕ) (r : Run) (b : Base) (h : Holds r) where
    after_hits : (p : Pull Record End) → Keeps ahead (next n) NoRoom (taken b) (live b) Q P p → Hits (after_pull rows r b p).reply
    after_hits (ends e) k = tt
    after_hits (paused ss queue) k = go (ltb rows (length (filter (overlaps b) queue)))
      where
        go : (u : Bool) → Hits (cond u (end r NoRows) (record { run = record { left = ss; queue = queue; stage = After b }; reply = found (filter (overlaps b) queue) (offer (coming ss queue) b) })).reply
        go true = tt
        go false = all_filter (overlaps b) k.1

    judged_hits : (u : Bool) (w : Option End) (o : Option Refusal) → Hits (cond u (judged n Q rows r b w o) (refuse r Sizes)).reply
    judged_hits false w o = tt
    judged_hits true w (some x) = tt
    judged_hits true (some e) none = tt
    judged_hits true none none =
        after_hits (pull ahead (next n) NoRoom (taken b) (live b) Q r.left (filter (live b) r.queue))
        (pull_keeps ahead (next n) NoRoom (taken b) (live b) Q P r.left (filter (live b) r.queue) h.0 (all_filter (live b) h.1))

  pub give_hits : (lengths : List (Option ℕ)) (Q : ℕ) (l : Lent) (r : Run) (b : Base) → Holds r → Hits (give lengths Q l r b).reply
  unfolding give
  give_hits lengths Q l r b h = go r.stage
    where
      go : (t : Stage) → Hits (by_stage lengths Q l r b t).reply
      go Fresh = judged_hits (length lengths) Q l.rows r b h l.right (loading (length lengths) r.left) (judge lengths none b)
      go (After p) = judged_hits (length lengths) Q l.rows r b h l.right none (judge lengths (some p) b)
      go (Over e) = tt

  -- whatever is answered
  pub give_holds : (lengths : List (Option ℕ)) (Q : ℕ) (l : Lent) (r : Run) (b : Base) → Holds r → Holds (give lengths Q l r b).run
  unfolding give
  give_holds lengths Q l r b h = go r.stage
    where
      go : (t : Stage) → Holds (by_stage lengths Q l r b t).run
      go Fresh = judged_holds (length lengths) Q l.rows r b h l.right (loading (length lengths) r.left) (judge lengths none b)
      go (After p) = judged_holds (length lengths) Q l.rows r b h l.right none (judge lengths (some p) b)
      go (Over e) = h

-- One base: no room exactly if more records are held than there is room for, else the records that are due.
use mathlib.Core.Path.{◌≡◌, refl, sym, ap, ◌∙◌}
use mathlib.Core.Bool.{Bool, true, false, cond}
use mathlib.Core.Option.{none, some}
use mathlib.Core.List.{List, ◌∷◌, ◌++◌, append_assoc}
use Prim.Native.Nat.{ℕ}
use native.Mathlib.Omega.{arith}
use lib.Dec.{leb}
use lib.ListN.{length}
use borrow.Author.Tests.{leb-true, leb-false}
use Rattle.basics.specs.Lists.{filter, front, back, All, nil, cons, Sorted}
use Rattle.basics.proofs.BoolLaws.{and_right, and_own, or_true, or_cases, iff}
use Rattle.basics.proofs.ListLaws.{filter_append, filter_cong, filter_filter, filter_ahead, filter_parted, filter_passes, length_filter, all_of, all_map, all_both, all_append, all_right, sorted_right, front_back, front_all, back_none}
use Rattle.theory.proofs.Mode.{Mode, State, Laws, Since, step, own, took, due, held, Swept, Tells}
use Rattle.theory.proofs.Walk.{walk_load}

module _ {R B : Type 0} (m : Mode R B) (laws : Laws m) where
  open m use {le, before, take, live, wait}

  -- a record that was drawn waits exactly if it is live
  pub took_wait : {b : B} {bs : List B} (r : R) → Since m bs b → took m bs r ≡ true → wait b r ≡ live b r
  took_wait r nil t = cc
  took_wait {b} r (cons {x = p} {l = bs} o os) t =
      or_cases (take p r) (took m bs r) t (λ e. iff (laws.drawn p b r o e) (laws.waits b b r (laws.same b))) (λ e. took_wait r os e)

  -- a record that was drawn, and is live for a later base, was live for the base between
  pub took_live : {bs : List B} {b c : B} (r : R) → Since m bs b → before b c → took m bs r ≡ true → live c r ≡ true → live b r ≡ true
  took_live {b} {c} r o h t v = sym (took_wait r o t) ∙ laws.waits b c r h v

  module _ (M : List R) (Q : ℕ) (bs : List B) (s : State R) (w : Swept m M Q bs s) (b : B) (order : Since m bs b) where
    abbrev new : List R
    new = front (take b) s.left

    abbrev rest : List R
    rest = back (take b) s.left

    abbrev done : List R
    done = w.done ++ new

    abbrev queue : List R
    queue = filter (live b) s.queue ++ filter (live b) new

    split : M ≡ done ++ rest
    split = w.split ∙ rw (append_assoc, front_back)

    drawn : All (λ r. took m (b ∷ bs) r ≡ true) done
    drawn = all_append (all_map (λ r e. or_true (take b r) (took m bs r) e) w.drawn) (all_map (λ r e. rw e) (front_all (take b) s.left))

    untaken : All (λ r. take b r ≡ false) rest
    untaken = back_none (take b) (laws.closed b) w.sorted

    ahead : All (λ r. took m (b ∷ bs) r ≡ false) rest
    ahead = all_map (λ r e. rw e.0 e.1) (all_both untaken (all_right new (rw front_back w.ahead)))

    sorted : Sorted le rest
    sorted = sorted_right new (rw front_back w.sorted)

    queued : queue ≡ filter (live b) done
    queued = rw (w.kept b order, filter_append)

    held_queue : held m M bs b ≡ queue
    held_queue = rw (split, queued) (filter_parted (took m (b ∷ bs)) (live b) done rest drawn ahead)

    exact : filter (own m b) queue ≡ due m M b
    exact = rw (split, queued, filter_filter, filter_ahead (take b) (live b) done rest untaken) (filter_cong (all_of (λ r. and_own (take b r) (live b r)) done))

    kept : (c : B) → Since m (b ∷ bs) c → filter (live c) queue ≡ filter (live c) done
    kept c (cons o os) =
        ap (filter (live c)) queued ∙ filter_filter (live c) (live b) done
        ∙ filter_cong (all_map (λ r e. and_right (live b r) (live c r) (took_live r (cons (laws.same b) order) o e)) drawn)

    pub step_tells : Tells m M Q bs b (step m Q s b)
    step_tells = rw (walk_load m Q b (filter (live b) s.queue) s.left (omega (arith, w.room, length_filter (live b) s.queue))) (go (leb (length queue) Q) refl)
      where
        go : (t : Bool) → leb (length queue) Q ≡ t → Tells m M Q bs b (cond t (some (record { left = rest; queue = queue })) none)
        go false e = rw held_queue (leb-false (length queue) Q e)
        go true e = record {
          fits = rw held_queue (leb-true (length queue) Q e);
          exact = exact;
          lively = all_append (filter_passes (live b) s.queue) (filter_passes (live b) new);
          swept = record { done = done; split = split; drawn = drawn; ahead = ahead; sorted = sorted; room = leb-true (length queue) Q e; kept = kept };
        }

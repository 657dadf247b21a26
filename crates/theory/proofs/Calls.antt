-- One base of a run, for any mode: how the run stands after the bases so far, and what the next one comes to.
use mathlib.Core.Path.{◌≡◌, refl, sym, ap, ◌∙◌}
use mathlib.Core.Bool.{false, cond}
use mathlib.Core.Option.{Option, none, some}
use mathlib.Core.List.{List, [], ◌∷◌, ◌++◌, map, append_assoc}
use Prim.Native.Nat.{ℕ, ◌≤◌}
use native.Mathlib.Omega.{arith}
use lib.Dec.{ltb}
use lib.ListN.{length}
use borrow.Author.Tests.{lt-ltb, le-ltb}
use Rattle.basics.specs.Lists.{filter, All, nil, cons, Sorted}
use Rattle.basics.proofs.BoolLaws.{and_more, or_left}
use Rattle.basics.proofs.ListLaws.{filter_append, filter_all, filter_cong, filter_ahead, length_mono, all_of, all_map, all_append, sorted_left, sorted_right, map_append}
use Rattle.rules.specs.Streams.{Head}
use Rattle.rules.specs.Promise.{clear, wall, records, struck}
use Rattle.theory.proofs.Mode.{Mode, Laws, State, Since, step, own, took, due, held, Swept, Good, Tells}
use Rattle.theory.proofs.Step.{step_tells, took_wait}
use Rattle.theory.proofs.Stride.{Drawn, halted, broke, unless_broken, sure, walled, wall_faulted, clear_wall, stride, meet, struck_none, stride_walk}

module _ {R B E : Type 0} (m : Mode R B) (full : E) (C : List (Head R E)) (Q : ℕ) where
  -- the records ahead of the first one with something wrong behind it, that one with all behind it, and all
  abbrev pub free : List R
  free = records (clear C)

  abbrev pub rest : List (Head R E)
  rest = wall C

  abbrev pub whole : List R
  whole = records C

  -- the run stands after the accepted bases `hs`, the last first
  pub record Reached (hs : List B) (left : List (Head R E)) (queue : List R) : Type 0 where
    pub inner : State R
    pub same : halted left queue ≡ walled rest inner
    pub swept : Swept m free Q hs inner

  -- what ends the run at b: no room for what it holds; else what is wrong at the wall, if b draws that far
  abbrev pub stops : List B → B → Option E
  stops hs b = cond (ltb Q (length (held m free hs b))) (some full) (struck (m.take b) rest)

  pub record Answered (hs : List B) (b : B) (left : List (Head R E)) (queue : List R) : Type 0 where
    pub unstopped : stops hs b ≡ none
    pub exact : filter (own m b) queue ≡ due m whole b
    pub few : length (due m whole b) ≤ Q
    pub awaits : filter (m.wait b) (queue ++ records left) ≡ filter (m.wait b) whole
    pub undrawn : All (λ r. m.take b r ≡ false) (records left)
    pub done : List R
    pub split : whole ≡ done ++ records left
    pub reached : Reached (b ∷ hs) left queue

  -- what a base comes to, by the accepted bases ahead of it
  abbrev pub Call : List B → B → Drawn R E → Type 0
  Call hs b (halted left queue) = Answered hs b left queue
  Call hs b (broke e) = stops hs b ≡ some e

module _ {R B E : Type 0} (m : Mode R B) (laws : Laws m) (full : E) (C : List (Head R E)) (Q : ℕ) (sorted : Sorted m.le (records C)) where
  abbrev F : List R
  F = free m full C Q

  abbrev W : List (Head R E)
  W = rest m full C Q

  abbrev M : List R
  M = whole m full C Q

  -- records of sure heads
  records_sure : (l : List R) → records {E = E} (map sure l) ≡ l
  records_sure [] = refl
  records_sure (r ∷ l) = rw (records_sure l)

  records_behind : (l : List R) → records (map sure l ++ W) ≡ l ++ records W
  records_behind l = map_append (λ h. h.it) (map sure l) W ∙ rw (records_sure l)

  pub parts : M ≡ F ++ records W
  parts = ap records (sym (clear_wall C)) ∙ records_behind F

  in_parts : Sorted m.le (F ++ records W)
  in_parts = rw parts at sorted

  pub fresh_reached : Reached m full C Q [] C []
  fresh_reached = record {
    inner = record { left = F; queue = [] };
    same = ap (λ (l : List (Head R E)). halted l []) (sym (clear_wall C));
    swept = record { done = []; split = refl; drawn = nil; ahead = all_of (λ r. refl) F; sorted = sorted_left F (records W) in_parts; room = omega arith; kept = λ b o. refl };
  }

  undrawn : (b : B) → struck (m.take b) W ≡ none → All (λ r. m.take b r ≡ false) (records W)
  undrawn b e = struck_none m laws full b W (wall_faulted C) (sorted_right F in_parts) e

  due_free : (b : B) → struck (m.take b) W ≡ none → due m M b ≡ due m F b
  due_free b e = ap (λ (l : List R). due m l b) parts ∙ filter_ahead (m.take b) (m.live b) F (records W) (undrawn b e)

  -- what was drawn, and what is left
  cut : (hs : List B) (s : State R) (w : Swept m F Q hs s) → M ≡ w.done ++ (s.left ++ records W)
  cut hs s w = parts ∙ ap (λ (l : List R). l ++ records W) w.split ∙ append_assoc w.done s.left (records W)

  -- all that waits for b is queued or left: what was drawn waits exactly if it is live
  awaits_same : (hs : List B) (b : B) (s : State R) → Since m hs b → Good m F Q hs b s → filter (m.wait b) (s.queue ++ (s.left ++ records W)) ≡ filter (m.wait b) M
  awaits_same hs b s o g =
      let w : Swept m F Q (b ∷ hs) s = g.swept in
      let order : Since m (b ∷ hs) b = cons (laws.same b) o in
      let drawn : filter (m.wait b) w.done ≡ filter (m.live b) w.done = filter_cong {q = m.live b} (all_map (λ r e. took_wait m laws r order e) w.drawn) in
      let queued : filter (m.live b) w.done ≡ s.queue = sym (w.kept b order) ∙ filter_all g.lively in
      let waiting : filter (m.wait b) s.queue ≡ s.queue = filter_all (all_map (λ r e. laws.waits b b r (laws.same b) e) g.lively) in
      rw (cut (b ∷ hs) s w, filter_append (m.wait b) s.queue (s.left ++ records W), filter_append (m.wait b) w.done (s.left ++ records W), waiting, drawn, queued)

  due_held : (hs : List B) (b : B) → length (due m F b) ≤ length (held m F hs b)
  due_held hs b = length_mono (all_of (λ r. and_more (m.take b r) (took m hs r) (m.live b r)) F)

  met : (hs : List B) (b : B) → Since m hs b → (o : Option (State R)) → Tells m F Q hs b o → Call m full C Q hs b (meet m full b W o)
  met hs b o none t = rw (lt-ltb Q (length (held m F hs b)) t)
  met hs b o (some s) t = go (struck (m.take b) W) refl
    where
      roomy : ltb Q (length (held m F hs b)) ≡ false
      roomy = le-ltb Q (length (held m F hs b)) t.fits

      go : (x : Option E) → struck (m.take b) W ≡ x → Call m full C Q hs b (unless_broken x (walled W s))
      go none e = record {
        unstopped = rw roomy e;
        exact = t.exact ∙ sym (due_free b e);
        few = rw (due_free b e) (omega (arith, due_held hs b, t.fits));
        awaits = rw (records_behind s.left) (awaits_same hs b s o t);
        undrawn = rw (records_behind s.left) (all_append (all_map (λ r f. or_left (m.take b r) (took m hs r) f) t.swept.ahead) (undrawn b e));
        done = t.swept.done;
        split = rw (records_behind s.left) (cut (b ∷ hs) s t.swept);
        reached = record { inner = s; same = refl; swept = t.swept };
      }
      go (some y) e = rw roomy e

  left_sorted : (hs : List B) (s : State R) → Swept m F Q hs s → Sorted m.le (s.left ++ records W)
  left_sorted hs s w = sorted_right w.done (rw (← append_assoc w.done s.left (records W), ← w.split) in_parts)

  -- one base: the records that are due, or what ends the run
  pub call : (hs : List B) (b : B) (left : List (Head R E)) (queue : List R) → Reached m full C Q hs left queue → Since m hs b
      → Call m full C Q hs b (stride m full Q b (filter (m.live b) queue) left)
  call hs b left queue r o = go left queue r.inner r.same r.swept
    where
      go : (l : List (Head R E)) (q : List R) (s : State R) → halted l q ≡ walled W s → Swept m F Q hs s → Call m full C Q hs b (stride m full Q b (filter (m.live b) q) l)
      go l q s e w =
          let le : l ≡ map sure s.left ++ W = cc in
          let qe : q ≡ s.queue = cc in
          rw (le, qe, stride_walk m laws full Q b (filter (m.live b) s.queue) W (wall_faulted C) s.left (left_sorted hs s w))
          (met hs b o (step m Q s b) (step_tells m laws F Q hs s w b o))

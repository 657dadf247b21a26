-- The parts of a call that gives a base, and the whole.
use mathlib.Core.Path.{◌≡◌, refl, sym, ap, subst, ◌∙◌}
use mathlib.Core.Bool.{Bool, true, false, cond}
use mathlib.Core.Option.{none, some}
use mathlib.Core.List.{List}
use Prim.Native.Nat.{ℕ, ◌≤◌}
use native.Mathlib.Omega.{arith}
use lib.Dec.{ltb}
use lib.ListN.{length, length-map}
use Rattle.basics.specs.Lists.{filter}
use Rattle.rules.specs.declared.Base.{Base}
use Rattle.rules.specs.declared.End.{End}
use Rattle.rules.specs.declared.End.TheVariants.{NoRoom, NoRows}
use Rattle.rules.specs.declared.Refusal.{Refusal}
use Rattle.rules.specs.declared.Refusal.TheVariants.{Sizes}
use Rattle.rules.specs.declared.Stage.{Stage}
use Rattle.rules.specs.declared.Stage.TheVariants.{Fresh, After, Over}
use Rattle.rules.specs.declared.Answer.TheVariants as answer
use Rattle.rules.specs.Offered.{Offer}
use Rattle.rules.specs.Rows.{Record}
use Rattle.rules.specs.Streams.{ahead, next}
use Rattle.rules.specs.Overlap.{taken, live, overlaps}
use Rattle.rules.specs.Offer.{offer}
use Rattle.rules.specs.Pull.{Pull, paused, ends, pull}
use Rattle.rules.specs.Bases.{judge}
use Rattle.rules.specs.Call.{Reply, found, refused, ended, answer_of, refuse, over, end, loading, coming, after_pull, pulling, accept, judged, by_stage, give}
use Rattle.rules.specs.Call as rules
use Rattle.std.specs.Prelude.{⊤, Result, Ok, Err}
use Rattle.heads.specs.View.{Cols, Heads, rests_of, fresh_of}
use Rattle.heads.specs.Move.{Placed, Shaped}
use Rattle.heads.specs.Load.{load_to, LoadsAs}
use Rattle.heads.proofs.CheckLaws.{check_fine, check_wrong}
use Rattle.heads.proofs.LoadLaws.{Upto, loaded_upto, load_rests}
use Rattle.queue.specs.declared.Ring.{Ring}
use Rattle.queue.specs.Ring.{Fair, waiting}
use Rattle.admit.specs.Gates.{Gate, known, lengths_of, last_of, gate_of}
use Rattle.admit.specs.Fits.{Fits}
use Rattle.admit.proofs.RightLaws.{right_fits}
use Rattle.admit.proofs.GateLaws.{gate_open, gate_refuses}
use Rattle.pulls.specs.declared.Answered.{Answered}
use Rattle.pulls.specs.Pulls.{drawn_to, Found, Lent, stands_at, FoundIn, SettlesIn, Settleable, SettlesAs}
use Rattle.runs.specs.declared.Run.{Run}
use Rattle.runs.specs.declared.Given.{Given}
use Rattle.runs.specs.View.{heads_of, ring_of, stage_of, run_in, run_with, left_by, run_of, held_of, over_of}
use Rattle.runs.specs.Comes.{lens_of, right_of, given_of}
use Rattle.runs.proofs.ViewLaws.{over_view, over_held}
use Rattle.step.specs.Settle.{ended_by, run_by, Going, Settles}
use Rattle.step.specs.Give.{opened_by, Gives}
use Rattle.step.specs.Step.{Answerable, AnswersAs}

-- ---- how a base stands

-- what is answered by the tests that come before the pull
abbrev pub Gated : Cols → List ℕ → Run → Base → Lent → Gate → Type 0
Gated s lengths r b l g = g ≡ gate_of (right_of s lengths r l) (judge (lengths_of lengths) (last_of (stage_of r)) b)

-- a run that has accepted a base
pub record Underway (r : Run) : Type 0 where
  pub last : Base
  pub is : stage_of r ≡ After last

-- ---- a run that goes on

pub fresh_going : (r : Run) → stage_of r ≡ Fresh → Going (stage_of r)
fresh_going r i = subst Going (sym i) tt

pub under_going : (r : Run) → Underway r → Going (stage_of r)
under_going r w = subst Going (sym w.is) tt

-- a run that goes on is ended
pub ended_going : (t : Stage) (r : Run) (e : End) → Going t → ended_by t r e ≡ over_of r e
ended_going Fresh r e g = refl
ended_going (After p) r e g = refl
ended_going (Over x) r e g = absurd g

-- ---- what a pull answers

-- an accepted base is not refused
abbrev pub Pulled : Reply → Type 0
Pulled (found hits o) = Unit {0}
Pulled (refused x) = ⊥
Pulled (ended e) = Unit {0}

unrefused : (t : Reply) (x : Refusal) → Pulled t → t ≡ refused x → ⊥
unrefused t x p e = subst Pulled e p

pulled : (rows : ℕ) (r : rules.Run) (b : Base) (p : Pull Record End) → Pulled (after_pull rows r b p).reply
pulled rows r b (ends e) = tt
pulled rows r b (paused ss w) = go (ltb rows (length (filter (overlaps b) w)))
  where
    go : (u : Bool) → Pulled (cond u (end r NoRows) (record { run = record { left = ss; queue = w; stage = After b }; reply = found (filter (overlaps b) w) (offer (coming ss w) b) })).reply
    go true = tt
    go false = tt

pulling_pulled : (n Q rows : ℕ) (r : rules.Run) (b : Base) → Pulled (pulling n Q rows r b).reply
pulling_pulled n Q rows r b = pulled rows r b (pull ahead (next n) NoRoom (taken b) (live b) Q r.left (filter (live b) r.queue))

-- ---- what an accepted base gets, told of the run

-- an answer tells the reply
reply_ended : (y : Reply) (e : End) → answer_of y ≡ answer.Ended e → y ≡ ended e
reply_ended (found hits o) e i = let z : ◌≡◌ {A = ℕ} 0 1 = cc in absurd (omega arith)
reply_ended (refused x) e i = let z : ◌≡◌ {A = ℕ} 0 1 = cc in absurd (omega arith)
reply_ended (ended f) e i = let z : f ≡ e = cc in ap ended z

reply_found : (y : Reply) (m : ℕ) (o : Offer) → answer_of y ≡ answer.Found m o → Found y
reply_found (found hits p) m o i = tt
reply_found (refused x) m o i = let z : ◌≡◌ {A = ℕ} 0 1 = cc in absurd (omega arith)
reply_found (ended f) m o i = let z : ◌≡◌ {A = ℕ} 0 1 = cc in absurd (omega arith)

reply_refused : (y : Reply) (x : Refusal) → answer_of y ≡ answer.Refused x → y ≡ refused x
reply_refused (found hits p) x i = let z : ◌≡◌ {A = ℕ} 0 1 = cc in absurd (omega arith)
reply_refused (refused w) x i = let z : w ≡ x = cc in ap refused z
reply_refused (ended f) x i = let z : ◌≡◌ {A = ℕ} 0 1 = cc in absurd (omega arith)

-- the run after an end
over_run : (rows : ℕ) (r : rules.Run) (b : Base) (p : Pull Record End) (e : End) → (after_pull rows r b p).reply ≡ ended e → (after_pull rows r b p).run ≡ over r e
over_run rows r b (ends f) e i = let z : f ≡ e = cc in ap (over r) z
over_run rows r b (paused ss w) e i = go (ltb rows (length (filter (overlaps b) w))) i
  where
    at : Bool → rules.Given
    at t = cond t (end r NoRows) (record { run = record { left = ss; queue = w; stage = After b }; reply = found (filter (overlaps b) w) (offer (coming ss w) b) })

    go : (t : Bool) → (at t).reply ≡ ended e → (at t).run ≡ over r e
    go true j = let z : NoRows ≡ e = cc in ap (over r) z
    go false j = let z : ◌≡◌ {A = ℕ} 0 1 = cc in absurd (omega arith)

found_run : (y : Reply) (b : Base) (h : Heads) (r : Run) (q : Ring) → Found y → run_by y b h r q ≡ run_with r h q (After b)
found_run (found hits o) b h r q f = refl
found_run (refused x) b h r q f = absurd f
found_run (ended e) b h r q f = absurd f

pub settleable : (s : Cols) (r : Run) (l : Lent) → Answerable s r l → Shaped (heads_of r) → Settleable s (heads_of r) (ring_of r) l
settleable s r l z w = record { shaped = w; placed = z.placed; fair = z.fair; answers = z.answers }

module _ (s : Cols) (r : Run) (b : Base) (l : Lent) (z : Answerable s r l) (a : Answered) (h' : Heads) (l' : Lent) (k : SettlesAs s r.settings.chroms (heads_of r) b (ring_of r) l a h' l') where
  abbrev T : rules.Given
  T = pulling r.settings.chroms r.settings.room (length l.answers) (held_of s l.cells r) b

  -- how the run stands is not looked at
  same_pull : pulling r.settings.chroms r.settings.room (length l.answers) (stands_at s (heads_of r) (ring_of r) l.cells b) b ≡ T
  same_pull = go (pull ahead (next r.settings.chroms) NoRoom (taken b) (live b) r.settings.room (rests_of s (heads_of r)) (filter (live b) (waiting (ring_of r) l.cells)))
    where
      go : (p : Pull Record End) → after_pull (length l.answers) (stands_at s (heads_of r) (ring_of r) l.cells b) b p ≡ after_pull (length l.answers) (held_of s l.cells r) b p
      go (ends e) = refl
      go (paused ss v) = refl

  settled_in : SettlesIn s r.settings.chroms b (heads_of r) r.settings.room T l a h' l'
  settled_in = subst (λ (t : rules.Given). SettlesIn s r.settings.chroms b (heads_of r) r.settings.room t l a h' l') same_pull k

  pub ends_as : (e : End) → a.answer ≡ answer.Ended e → (g : Given) → g ≡ record { run = over_of r e; answer = answer.Ended e } → AnswersAs s r b l g l'
  ends_as e i g gs =
      let is : T.reply ≡ ended e = reply_ended T.reply e (sym settled_in.answer ∙ i) in
      subst (λ (x : Given). AnswersAs s r b l x l') (sym gs) (record {
        answer = sym i ∙ settled_in.answer;
        run = over_held s l.cells l'.cells r e z.placed.few ∙ sym (over_run (length l.answers) (held_of s l.cells r) b (pull ahead (next r.settings.chroms) NoRoom (taken b) (live b) r.settings.room (rests_of s (heads_of r)) (filter (live b) (waiting (ring_of r) l.cells))) e is);
        exact = sym (ended_going (stage_of r) r e z.going) ∙ ap (λ (y : Reply). run_by y b (drawn_to s r.settings.chroms b (heads_of r)) r (ring_of (over_of r e))) (sym is);
        room = refl;
        fair = λ y. absurd (subst Found is y);
        kept = settled_in.kept;
        answers = settled_in.answers;
      })

  pub found_as : (m : ℕ) (o : Offer) → a.answer ≡ answer.Found m o → (u : Run) → u ≡ run_with r h' a.ring (After b) → AnswersAs s r b l (record { run = u; answer = answer.Found m o }) l'
  found_as m o i u us =
      let f : Found T.reply = reply_found T.reply m o (sym settled_in.answer ∙ i) in
      let g : FoundIn s r.settings.chroms b (heads_of r) r.settings.room T a.ring h' l'.cells = settled_in.found f in
      subst (λ (x : Run). AnswersAs s r b l (record { run = x; answer = answer.Found m o }) l') (sym us) (record {
        answer = sym i ∙ settled_in.answer;
        run = g.run;
        exact = ap (λ (x : Heads). run_with r x a.ring (After b)) g.heads ∙ sym (found_run T.reply b (drawn_to s r.settings.chroms b (heads_of r)) r a.ring f);
        room = g.room;
        fair = λ y. g.fair;
        kept = settled_in.kept;
        answers = settled_in.answers;
      })

  -- an accepted base is not refused
  pub not_refused : (x : Refusal) → a.answer ≡ answer.Refused x → ⊥
  not_refused x i = unrefused T.reply x (pulling_pulled r.settings.chroms r.settings.room (length l.answers) (held_of s l.cells r) b) (reply_refused T.reply x (sym settled_in.answer ∙ i))

-- ---- the tests before the pull, and the call

module _ (s : Cols) (lengths : List ℕ) (r : Run) (b : Base) (l : Lent) where
  abbrev pub R : rules.Run
  R = run_of s l.cells r

  -- the number of chromosomes by the rules
  abbrev N : ℕ
  N = length (lengths_of lengths)

  -- what a base comes to, by how the run stands
  given_fresh : stage_of r ≡ Fresh → given_of s lengths r b l ≡ cond (right_of s lengths r l) (judged N r.settings.room (length l.answers) R b (loading N R.left) (judge (lengths_of lengths) none b)) (refuse R Sizes)
  unfolding give
  given_fresh i = ap (by_stage (lengths_of lengths) r.settings.room (record { right = right_of s lengths r l; rows = length l.answers }) R b) i

  given_after : (p : Base) → stage_of r ≡ After p → given_of s lengths r b l ≡ cond (right_of s lengths r l) (judged N r.settings.room (length l.answers) R b none (judge (lengths_of lengths) (some p) b)) (refuse R Sizes)
  unfolding give
  given_after p i = ap (by_stage (lengths_of lengths) r.settings.room (record { right = right_of s lengths r l; rows = length l.answers }) R b) i

  given_over : (e : End) → stage_of r ≡ Over e → given_of s lengths r b l ≡ record { run = R; reply = ended e }
  unfolding give
  given_over e i = ap (by_stage (lengths_of lengths) r.settings.room (record { right = right_of s lengths r l; rows = length l.answers }) R b) i

  -- the gate, by how the run stands
  gate_at : (g : Gate) (t : Stage) → stage_of r ≡ t → Gated s lengths r b l g → g ≡ gate_of (right_of s lengths r l) (judge (lengths_of lengths) (last_of t) b)
  gate_at g t i e = e ∙ ap (λ (x : Stage). gate_of (right_of s lengths r l) (judge (lengths_of lengths) (last_of x) b)) i

  -- a base that is refused
  shut_so : (t : Stage) → stage_of r ≡ t → Going t → (x : Refusal) → Gated s lengths r b l (Err x) → given_of s lengths r b l ≡ refuse R x
  shut_so Fresh i g x e = given_fresh i ∙ gate_refuses (right_of s lengths r l) (judge (lengths_of lengths) none b) N r.settings.room (length l.answers) R b (loading N R.left) x (sym (gate_at (Err x) Fresh i e))
  shut_so (After p) i g x e = given_after p i ∙ gate_refuses (right_of s lengths r l) (judge (lengths_of lengths) (some p) b) N r.settings.room (length l.answers) R b none x (sym (gate_at (Err x) (After p) i e))
  shut_so (Over y) i g x e = absurd g

  -- 1
  wrong_given : (t : Stage) → stage_of r ≡ t → Going t → right_of s lengths r l ≡ false → given_of s lengths r b l ≡ refuse R Sizes
  wrong_given Fresh i g e = given_fresh i ∙ rw e
  wrong_given (After p) i g e = given_after p i ∙ rw e
  wrong_given (Over y) i g e = absurd g

  unchanged : (x : Refusal) → given_of s lengths r b l ≡ refuse R x → Gives s lengths r b l (record { run = r; answer = answer.Refused x }) l
  unchanged x is = record {
    settles = rw is (record { answer = refl; run = refl; exact = refl; room = refl; fair = λ z. absurd z; kept = refl; answers = refl });
    still = λ y z. refl;
    again = λ y z. refl;
  }

  -- "run unchanged", and all that was lent
  pub refused_so : Going (stage_of r) → (k : Gate) → Gated s lengths r b l k → (x : Refusal) → k ≡ Err x → Gives s lengths r b l (record { run = r; answer = answer.Refused x }) l
  refused_so g k e x i = unchanged x (shut_so (stage_of r) refl g x (rw i at e))

  pub wrong_so : Going (stage_of r) → right_of s lengths r l ≡ false → Gives s lengths r b l (record { run = r; answer = answer.Refused Sizes }) l
  wrong_so g e = unchanged Sizes (wrong_given (stage_of r) refl g e)

  -- "an ended run first (its old answer again)"
  pub over_so : (e : End) → stage_of r ≡ Over e → Gives s lengths r b l (record { run = r; answer = answer.Ended e }) l
  over_so e i = record {
    settles = rw (given_over e i) (record { answer = refl; run = refl; exact = ap (λ (t : Stage). ended_by t r e) (sym i); room = refl; fair = λ z. absurd z; kept = refl; answers = refl });
    still = λ y z. refl;
    again = λ y z. refl;
  }

  -- ---- an accepted base

  module _ (k : Gate) (gated : Gated s lengths r b l k) (opened : k ≡ Ok tt) where
    opens_at : (t : Stage) → stage_of r ≡ t → (right_of s lengths r l ≡ true) × (judge (lengths_of lengths) (last_of t) b ≡ none)
    opens_at t i = gate_open (right_of s lengths r l) (judge (lengths_of lengths) (last_of t) b) (sym (gate_at k t i gated) ∙ opened)

    pub fits : Fits (lens_of s lengths l) r.settings.streams r.settings.chroms (ring_of r) r.ended r.row r.next r.from r.to l.cells
    fits =
        right_fits (lens_of s lengths l) r.settings.streams r.settings.chroms (ring_of r) r.ended r.row r.next r.from r.to l.cells
        refl (opens_at (stage_of r) refl).0

    chroms_so : N ≡ r.settings.chroms
    chroms_so = length-map lengths known ∙ fits.lengths

    -- a run whose heads are loaded, with the same rows and the same room
    pub answerable : (u : Run) → Going (stage_of u) → Placed s u.settings.streams u.next u.from u.to → ring_of u ≡ ring_of r → Answerable s u l
    answerable u g p i = record { going = g; placed = p; fair = subst (λ (q : Ring). Fair q l.cells) (sym i) fits.fair; answers = subst (λ (q : Ring). q.room ≤ length l.answers) (sym i) fits.answer }

    -- t is what the base comes to, from the heads h
    settled : (t : rules.Given) → given_of s lengths r b l ≡ t → Pulled t.reply → Going (stage_of r) → (h : Heads) → opened_by (stage_of r) s (heads_of r) ≡ h
        → (g : Given) (l' : Lent) → Settles s b (drawn_to s r.settings.chroms b h) r t l g l' → Gives s lengths r b l g l'
    settled t is p z h o g l' a = record {
      settles =
          subst (λ (x : Heads). Settles s b (drawn_to s r.settings.chroms b x) r (given_of s lengths r b l) l g l') (sym o)
          (subst (λ (x : rules.Given). Settles s b (drawn_to s r.settings.chroms b h) r x l g l') (sym is) a);
      still = λ x e. absurd (unrefused t.reply x p (ap (λ (y : rules.Given). y.reply) (sym is) ∙ e));
      again = λ e i. absurd (subst Going i z);
    }

    -- a base after the first
    pub further_so : Underway r → (g : Given) (l' : Lent) → AnswersAs s r b l g l' → Gives s lengths r b l g l'
    further_so w g l' a =
        let held : held_of s l.cells r ≡ R = ap (λ (t : Stage). record { left = left_by t s (heads_of r); queue = waiting (ring_of r) l.cells; stage = stage_of r }) (sym w.is) in
        let at : (right_of s lengths r l ≡ true) × (judge (lengths_of lengths) (some w.last) b ≡ none) = opens_at (After w.last) w.is in
        let is : given_of s lengths r b l ≡ pulling r.settings.chroms r.settings.room (length l.answers) (held_of s l.cells r) b =
        given_after w.last w.is ∙ rw (at.0, at.1, chroms_so) (ap (λ (x : rules.Run). pulling r.settings.chroms r.settings.room (length l.answers) x b) (sym held)) in
        settled (pulling r.settings.chroms r.settings.room (length l.answers) (held_of s l.cells r) b) is (pulling_pulled r.settings.chroms r.settings.room (length l.answers) (held_of s l.cells r) b) (under_going r w) (heads_of r)
        (ap (λ (t : Stage). opened_by t s (heads_of r)) w.is) g l' a

    -- ---- the first base

    -- h: the heads after the loading, w: what was wrong
    module _ (fresh : stage_of r ≡ Fresh) (shaped : Shaped (heads_of r)) (w : Result ⊤ End) (h : Heads) (loads : LoadsAs s r.settings.chroms (heads_of r) w h) where
      goes : Going (stage_of r)
      goes = fresh_going r fresh

      -- what is left is all rows
      lefts : R.left ≡ fresh_of s (heads_of r)
      lefts = ap (λ (t : Stage). left_by t s (heads_of r)) fresh

      first_given : given_of s lengths r b l ≡ accept r.settings.chroms r.settings.room (length l.answers) R b (loading r.settings.chroms (fresh_of s (heads_of r)))
      first_given =
          let at : (right_of s lengths r l ≡ true) × (judge (lengths_of lengths) none b ≡ none) = opens_at Fresh fresh in
          given_fresh fresh ∙ rw (at.0, at.1, chroms_so, lefts)

      -- the first fault ends the run
      pub first_wrong : (e : End) → w ≡ Err e → Gives s lengths r b l (record { run = over_of r e; answer = answer.Ended e }) l
      first_wrong e i =
          let is : given_of s lengths r b l ≡ end R e = first_given ∙ ap (accept r.settings.chroms r.settings.room (length l.answers) R b) (check_wrong (loading r.settings.chroms (fresh_of s (heads_of r))) e (sym loads.check ∙ i)) in
          settled (end R e) is tt goes (opened_by (stage_of r) s (heads_of r)) refl (record { run = over_of r e; answer = answer.Ended e }) l
          (record {
            answer = refl;
            run = over_view s l.cells l.cells r e fits.few;
            exact = sym (ended_going (stage_of r) r e goes);
            room = refl;
            fair = λ z. absurd z;
            kept = refl;
            answers = refl;
          })

      -- the run u with its heads loaded goes on
      module _ (fine : w ≡ Ok tt) where
        abbrev u : Run
        u = run_in h r.settings.chroms (ring_of r) r.mark

        nothing_wrong : loading r.settings.chroms (fresh_of s (heads_of r)) ≡ none
        nothing_wrong = check_fine (loading r.settings.chroms (fresh_of s (heads_of r))) (sym loads.check ∙ fine)

        loaded : h ≡ load_to s (heads_of r) r.settings.streams
        loaded = loads.heads nothing_wrong

        up : Upto s (heads_of r) h r.settings.streams
        up = loaded_upto s (heads_of r) shaped fits.placed r.settings.chroms w h loads fine

        pub first_shaped : Shaped h
        first_shaped = up.shaped

        pub first_answerable : Answerable s u l
        first_answerable = answerable u goes up.placed refl

        held_first : held_of s l.cells u ≡ R
        held_first = ap (λ (x : List (List Record)). record { left = x; queue = waiting (ring_of r) l.cells; stage = stage_of r }) (ap (rests_of s) loaded ∙ load_rests s (heads_of r) shaped fits.placed ∙ sym lefts)

        pub over_same : (e : End) → over_of u e ≡ over_of r e
        over_same e = rw (up.from, up.to, up.streams)

        run_same : (t : Reply) → Pulled t → (g : Heads) (q : Ring) → run_by t b g u q ≡ run_by t b g r q
        run_same (found hits y) p g q = refl
        run_same (refused x) p g q = absurd p
        run_same (ended e) p g q = ended_going (stage_of u) u e goes ∙ over_same e ∙ sym (ended_going (stage_of r) r e goes)

        pub first_so : (g : Given) (l' : Lent) → AnswersAs s u b l g l' → Gives s lengths r b l g l'
        first_so g l' a =
            let t : rules.Given = pulling r.settings.chroms r.settings.room (length l.answers) (held_of s l.cells u) b in
            let is : given_of s lengths r b l ≡ t =
            first_given ∙ ap (accept r.settings.chroms r.settings.room (length l.answers) R b) nothing_wrong
            ∙ ap (λ (x : rules.Run). pulling r.settings.chroms r.settings.room (length l.answers) x b) (sym held_first) in
            let p : Pulled t.reply = pulling_pulled r.settings.chroms r.settings.room (length l.answers) (held_of s l.cells u) b in
            settled t is p goes h (ap (λ (x : Stage). opened_by x s (heads_of r)) fresh ∙ sym loaded) g l'
            (record {
              answer = a.answer;
              run = a.run;
              exact = a.exact ∙ run_same t.reply p (drawn_to s r.settings.chroms b h) (ring_of g.run);
              room = a.room;
              fair = a.fair;
              kept = a.kept;
              answers = a.answers;
            })

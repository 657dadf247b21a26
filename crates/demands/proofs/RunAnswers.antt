-- What the bases get by the calls of a run is what the rules' own run gives them: for every job, room and number of streams.
use mathlib.Core.Path.{◌≡◌, refl, sym, ap, subst, ◌∙◌}
use mathlib.Core.Bool.{Bool, true, false}
use mathlib.Core.List.{List}
use Prim.Native.Nat.{ℕ}
use native.Mathlib.Omega.{arith}
use lib.ListN.{length}
use Rattle.rules.specs.declared.Base.{Base}
use Rattle.rules.specs.declared.End.{End}
use Rattle.rules.specs.declared.Refusal.TheVariants.{Sizes}
use Rattle.rules.specs.declared.Stage.{Stage}
use Rattle.rules.specs.declared.Stage.TheVariants.{Fresh, After, Over}
use Rattle.rules.specs.declared.Answer.TheVariants as answer
use Rattle.rules.specs.Call.{Reply, found, refused, ended, answer_of, column, refuse, fresh, give}
use Rattle.rules.specs.Call as rules
use Rattle.rules.specs.Job.{lending, replies, answers}
use Rattle.heads.specs.View.{Cols}
use Rattle.basics.specs.Lists.{Pairs}
use Rattle.queue.specs.Ring.{Cells}
use Rattle.queue.specs.Deeds.{answer_row}
use Rattle.queue.proofs.Waiting.{length_waiting}
use Rattle.admit.specs.Gates.{lengths_of}
use Rattle.admit.specs.Fits.{Told, Fits}
use Rattle.admit.proofs.RightLaws.{right_fits, fits_right}
use Rattle.runs.specs.declared.Run.{Run}
use Rattle.runs.specs.declared.Given.{Given}
use Rattle.runs.specs.View.{heads_of, run_of, ring_of, stage_of}
use Rattle.pulls.specs.Pulls.{drawn_to, Lent, lent}
use Rattle.step.specs.Settle.{run_by}
use Rattle.step.specs.Give.{opened_by}
use Rattle.runs.specs.Comes.{lens_of, right_of, given_of}
use Rattle.runs.specs.Start.{Plan}
use Rattle.runs.proofs.Starting.{begun_is}
use Rattle.runs.proofs.StartLaws.{begun_fresh}
use Rattle.demands.specs.Calls.{Unheeded, Came, Calls, none, call, unheeded, job_of, Runs}
use Rattle.demands.proofs.Shown.{Shows}
use Rattle.demands.proofs.RowsLaws.{give_rows, give_over, give_wrong, give_heeded}

-- a reply that is answered by 1
sizes_reply : (t : Reply) → answer_of t ≡ answer.Refused Sizes → t ≡ refused Sizes
sizes_reply (found l o) e = let z : ◌≡◌ {A = ℕ} 0 1 = cc in absurd (omega arith)
sizes_reply (refused x) e = let i : x ≡ Sizes = cc in rw i
sizes_reply (ended x) e = let z : ◌≡◌ {A = ℕ} 0 1 = cc in absurd (omega arith)

-- the facts behind 1's test, of a run and what is lent with a base
abbrev pub FitsOf : Cols → List ℕ → Run → Lent → Type 0
FitsOf s lengths r l = Fits (lens_of s lengths l) r.settings.streams r.settings.chroms (ring_of r) r.ended r.row r.next r.from r.to l.cells

module _ (s : Cols) (lengths : List ℕ) where
  -- ---- one call

  -- 1 is not due exactly where all fits
  module _ (r : Run) (l : Lent) where
    told : Told (lens_of s lengths l) l.cells
    told = refl

    pub fits_so : right_of s lengths r l ≡ true → FitsOf s lengths r l
    fits_so e = right_fits (lens_of s lengths l) r.settings.streams r.settings.chroms (ring_of r) r.ended r.row r.next r.from r.to l.cells told e

    pub right_so : FitsOf s lengths r l → right_of s lengths r l ≡ true
    right_so f = fits_right (lens_of s lengths l) r.settings.streams r.settings.chroms (ring_of r) r.ended r.row r.next r.from r.to l.cells told f

  module _ (r : Run) (b : Base) (l : Lent) where
    abbrev R : rules.Run
    R = run_of s l.cells r

    -- what fits has no more waiting than there is room for, and as many answer rows
    pub right_given : right_of s lengths r l ≡ true → given_of s lengths r b l ≡ give (lengths_of lengths) r.settings.room (lending r.settings.room) R b
    right_given e =
        let f : FitsOf s lengths r l = fits_so r l e in
        ap (λ (u : Bool). give (lengths_of lengths) r.settings.room (record { right = u; rows = length l.answers }) R b) e
        ∙ give_rows (lengths_of lengths) r.settings.room (length l.answers) R b f.answer (omega (arith, length_waiting (ring_of r) l.cells, f.fair.sound.fits))

    -- a call at which 1 is not due is not refused so
    pub right_heeded : (g : Given) → right_of s lengths r l ≡ true → g.answer ≡ answer_of (given_of s lengths r b l).reply → Unheeded g → ⊥
    right_heeded g e a u =
        give_heeded (lengths_of lengths) r.settings.room (length l.answers) R b
        (ap (λ (t : Bool). (give (lengths_of lengths) r.settings.room (record { right = t; rows = length l.answers }) R b).reply) (sym e) ∙ sizes_reply (given_of s lengths r b l).reply (sym a ∙ u))

    -- a call that 1 does not refuse is one of the rules', with Q answer rows
    heeded_given : (g : Given) → g.answer ≡ answer_of (given_of s lengths r b l).reply → (Unheeded g → ⊥) → given_of s lengths r b l ≡ give (lengths_of lengths) r.settings.room (lending r.settings.room) R b
    heeded_given g a h = by_stage_lem (stage_of r) refl
      where
        by_right : ((e : End) → stage_of r ≡ Over e → ⊥) → (u : Bool) → right_of s lengths r l ≡ u → given_of s lengths r b l ≡ give (lengths_of lengths) r.settings.room (lending r.settings.room) R b
        by_right n true e = right_given e
        by_right n false e =
            let is : given_of s lengths r b l ≡ refuse R Sizes =
            ap (λ (u : Bool). give (lengths_of lengths) r.settings.room (record { right = u; rows = length l.answers }) R b) e ∙ give_wrong (lengths_of lengths) r.settings.room (length l.answers) R b n in
            absurd (h (a ∙ ap (λ (t : rules.Given). answer_of t.reply) is))

        by_stage_lem : (t : Stage) → stage_of r ≡ t → given_of s lengths r b l ≡ give (lengths_of lengths) r.settings.room (lending r.settings.room) R b
        by_stage_lem Fresh i = by_right (λ e j. let z : Fresh ≡ Over e = sym i ∙ j in let y : ◌≡◌ {A = ℕ} 0 1 = cc in absurd (omega arith)) (right_of s lengths r l) refl
        by_stage_lem (After p) i = by_right (λ e j. let z : After p ≡ Over e = sym i ∙ j in let y : ◌≡◌ {A = ℕ} 0 1 = cc in absurd (omega arith)) (right_of s lengths r l) refl
        by_stage_lem (Over e) i = give_over (lengths_of lengths) r.settings.room (record { right = right_of s lengths r l; rows = length l.answers }) (lending r.settings.room) R b e i

  -- ---- all calls

  -- what came of each call is what the rules' reply says
  pub calls_shown : (Q : ℕ) {r v : Run} {c d : Cells} {bs : List Base} {os : List Came} → r.settings.room ≡ Q → Calls s lengths r c bs os v d → Pairs Shows (replies (lengths_of lengths) Q (run_of s c r) bs) os
  unfolding replies
  calls_shown Q q none = Pairs.nil
  calls_shown Q q (call {r = r} {c = c} {b = b} {bs = bs} {os = os} rows g l' gives heeded k) =
      let l : Lent = lent c rows in
      let is : given_of s lengths r b l ≡ give (lengths_of lengths) Q (lending Q) (run_of s c r) b =
      heeded_given r b l g gives.settles.answer heeded ∙ ap (λ (n : ℕ). give (lengths_of lengths) n (lending n) (run_of s c r) b) q in
      let next : run_of s l'.cells g.run ≡ (give (lengths_of lengths) Q (lending Q) (run_of s c r) b).run = gives.settles.run ∙ ap (λ (x : rules.Given). x.run) is in
      Pairs.cons
      (record { answer = gives.settles.answer ∙ ap (λ (x : rules.Given). answer_of x.reply) is; rows = gives.settles.answers ∙ ap (λ (x : rules.Given). column answer_row x.reply rows) is })
      (subst (λ (x : rules.Run). Pairs Shows (replies (lengths_of lengths) Q x bs) os) next (calls_shown Q (gives.settles.room ∙ q) k))
  calls_shown Q q (unheeded {r = r} {c = c} {b = b} {bs = bs} {os = os} rows g l' gives u k) =
      let l : Lent = lent c rows in
      let no : (given_of s lengths r b l).reply ≡ refused Sizes = sizes_reply (given_of s lengths r b l).reply (sym gives.settles.answer ∙ u) in
      let run_same : g.run ≡ r = gives.settles.exact ∙ ap (λ (t : Reply). run_by t b (drawn_to s r.settings.chroms b (opened_by (stage_of r) s (heads_of r))) r (ring_of g.run)) no in
      let cells_same : l'.cells ≡ c = ap (λ (x : Lent). x.cells) (gives.still Sizes no) in
      subst (λ (x : Run). Pairs Shows (replies (lengths_of lengths) Q (run_of s c x) bs) os) run_same
      (subst (λ (x : Cells). Pairs Shows (replies (lengths_of lengths) Q (run_of s x g.run) bs) os) cells_same (calls_shown Q (gives.settles.room ∙ q) k))

-- of the bases that are given to a run that begins, what came of each is what the job's answers by the rules say
pub run_answers : (p : Plan) (lengths : List ℕ) (bs : List Base) (os : List Came) → Runs p lengths bs os → Pairs Shows (answers (job_of p lengths) bs) os
run_answers p lengths bs os k =
    subst (λ (x : rules.Run). Pairs Shows (replies (lengths_of lengths) p.settings.room x bs) os) (begun_fresh p k.begun k.cells)
    (calls_shown p.cols lengths p.settings.room (ap (λ (x : Run). x.settings.room) (begun_is p k.begun).1) k.calls)

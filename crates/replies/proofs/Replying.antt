-- The lines of an answer, read from the answer rows as the call leaves them, are those of the reply.
use Prim.Native.Nat.{ℕ}
use mathlib.Core.Path.{◌≡◌, refl, sym, ap, ◌∙◌}
use mathlib.Core.List.{List, [], ◌∷◌, ◌++◌, map}
use lib.ListN.{length, get_or, drop}
use Rattle.basics.specs.Build.{build}
use Rattle.basics.proofs.EdgeLaws.{build_shift}
use Rattle.rules.specs.declared.Base.{Base}
use Rattle.rules.specs.declared.Answer.{Answer}
use Rattle.rules.specs.Rows.{Record}
use Rattle.rules.specs.Call.{Reply, found, refused, ended, answer_of, column}
use Rattle.heads.specs.View.{Cols}
use Rattle.queue.specs.Deeds.{answer_row}
use Rattle.std.specs.Prelude.{Result}
use Rattle.lines.specs.declared.Cut.{Cut}
use Rattle.lines.specs.Lines.{line_b}
use Rattle.lines.specs.Laid.{Lays}
use Rattle.lines.proofs.LaidLaws.{lays_alike}
use Rattle.runs.specs.declared.Run.{Run}
use Rattle.runs.specs.declared.Given.{Given}
use Rattle.pulls.specs.Pulls.{Lent}
use Rattle.step.specs.Give.{Gives}
use Rattle.runs.specs.Comes.{given_of}
use Rattle.replies.specs.declared.Listed.{Listed}
use Rattle.replies.specs.Lines.{row_line, lines_of}
use Rattle.replies.specs.List.{Lists}
use Rattle.replies.specs.Source.{source, answer_lines}

-- the first answer rows are the records', whatever stands behind them
rows_map : (g : ℕ → ℕ → List ℕ) (hits : List Record) (old : List (List ℕ))
    → build (λ k. g (get_or (get_or (map answer_row hits ++ old) k []) 0 0) (get_or (get_or (map answer_row hits ++ old) k []) 1 0)) (length hits) 0 ≡ map (λ a. g a.stream.0 a.row) hits
unfolding build
rows_map g [] old = refl
rows_map g (h ∷ hits) old =
    let f : ℕ → List ℕ = λ k. g (get_or (get_or (map answer_row (h ∷ hits) ++ old) k []) 0 0) (get_or (get_or (map answer_row (h ∷ hits) ++ old) k []) 1 0) in
    let at : ℕ → List ℕ = λ k. g (get_or (get_or (map answer_row hits ++ old) k []) 0 0) (get_or (get_or (map answer_row hits ++ old) k []) 1 0) in
    ap (λ (l : List (List ℕ)). g h.stream.0 h.row ∷ l) (sym (build_shift f at (length hits) 0 (λ j p q. refl)) ∙ rows_map g hits old)

module _ (s : Cols) (from name : List ℕ) (row : ℕ) (b : Base) (old : List (List ℕ)) {a : Answer} {new : List (List ℕ)} where
  lines_by : (t : Reply) → a ≡ answer_of t → new ≡ column answer_row t old → answer_lines (source s.start s.stop from new) name row b a ≡ lines_of s from name row b t
  lines_by (found hits o) e p = rw (e, p) (ap (λ (l : List (List ℕ)). line_b name b.start b.stop (length hits) ∷ l) (rows_map (row_line s.start s.stop from) hits (drop (length hits) old)))
  lines_by (refused x) e p = rw e
  lines_by (ended x) e p = rw e

-- ---- the call

module _ {s : Cols} {lengths : List ℕ} {r : Run} {b : Base} {l l' : Lent} {g : Given} (w : Gives s lengths r b l g l') where
  pub reply_lists : {x : Result ℕ Cut} (name : List ℕ) (row : ℕ) (out : List ℕ) (at : ℕ) (out' : List ℕ)
      → Lays out at (answer_lines (source s.start s.stop r.from l'.answers) name row b g.answer) x out'
      → Lists s lengths r b row name l out at (record { run = g.run; answer = g.answer; lines = x }) l' out'
  reply_lists name row out at out' v = record {
    gives = w;
    lays = rw (lines_by s r.from name row b l.answers (given_of s lengths r b l).reply w.settles.answer w.settles.answers) at v;
  }

-- any two results have the same lines; of the run and what is lent with it the sweep's own statement says what is the same
pub lists_alike : {s : Cols} {lengths : List ℕ} {r : Run} {b : Base} {row : ℕ} {name : List ℕ} {l : Lent} {out : List ℕ} {at : ℕ} {x y : Listed} {l₁ l₂ : Lent} {out₁ out₂ : List ℕ}
    → Lists s lengths r b row name l out at x l₁ out₁ → Lists s lengths r b row name l out at y l₂ out₂ → (x.answer ≡ y.answer) × (x.lines ≡ y.lines) × (out₁ ≡ out₂)
lists_alike v w =
    let k = lays_alike v.lays w.lays in
    (v.gives.settles.answer ∙ sym w.gives.settles.answer, k.0, k.1)

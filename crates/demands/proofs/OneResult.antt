-- "Show that any two results allowed by a statement are equal": two results that a call's statement allows are, but for the records' places in the
-- queue, its dead slots and, after an end, all of its memory.
use mathlib.Core.Path.{◌≡◌, refl, sym, ap, ◌∙◌}
use mathlib.Core.List.{List}
use Prim.Native.Nat.{ℕ}
use Rattle.rules.specs.declared.Base.{Base}
use Rattle.rules.specs.declared.Refusal.{Refusal}
use Rattle.rules.specs.Call.{Reply, found, refused, ended, column}
use Rattle.rules.specs.Call as rules
use Rattle.heads.specs.View.{Heads}
use Rattle.heads.specs.View.{Cols}
use Rattle.queue.specs.declared.Ring.{Ring}
use Rattle.queue.specs.Ring.{waiting}
use Rattle.runs.specs.declared.Run.{Run}
use Rattle.runs.specs.declared.Given.{Given}
use Rattle.runs.specs.View.{heads_of, run_in, ring_of, stage_of}
use Rattle.pulls.specs.Pulls.{drawn_to, Found, Lent}
use Rattle.step.specs.Settle.{run_by}
use Rattle.step.specs.Give.{opened_by, Gives}
use Rattle.runs.specs.Comes.{given_of}

-- two results of one call, g and k, with what was lent after them
pub record Alike (t : Reply) (g : Given) (l : Lent) (k : Given) (m : Lent) : Type 0 where
  pub answer : g.answer ≡ k.answer
  -- all of the run but the ring, and of that the room and the list of the records that wait
  pub run : g.run ≡ run_in (heads_of k.run) k.run.settings.chroms (ring_of g.run) k.run.mark
  pub room : g.run.settings.room ≡ k.run.settings.room
  pub waits : waiting (ring_of g.run) l.cells ≡ waiting (ring_of k.run) m.cells
  -- where the base was not answered, all of the run
  pub whole : (Found t → ⊥) → g.run ≡ k.run
  -- where it was refused, the queue's memory too
  pub cells : (x : Refusal) → t ≡ refused x → l.cells ≡ m.cells
  pub answers : l.answers ≡ m.answers

-- a run with its own ring in its place
same_but : (p : Ring) (g k : Run) → g ≡ k → ring_of g ≡ p → g ≡ run_in (heads_of k) k.settings.chroms p k.mark
same_but p g k e i = ap (λ (q : Ring). run_in (heads_of g) g.settings.chroms q g.mark) i ∙ ap (λ (x : Run). run_in (heads_of x) x.settings.chroms p x.mark) e

-- the run by a reply, from two rings
runs_but : (t : Reply) (b : Base) (h : Heads) (r : Run) (p q : Ring) (g k : Run) → g ≡ run_by t b h r p → k ≡ run_by t b h r q → ring_of g ≡ p → g ≡ run_in (heads_of k) k.settings.chroms p k.mark
runs_but (found hits o) b h r p q g k e f i = e ∙ ap (λ (x : Run). run_in (heads_of x) x.settings.chroms p x.mark) (sym f)
runs_but (refused x) b h r p q g k e f i = same_but p g k (e ∙ sym f) i
runs_but (ended x) b h r p q g k e f i = same_but p g k (e ∙ sym f) i

runs_whole : (t : Reply) (b : Base) (h : Heads) (r : Run) (p q : Ring) (g k : Run) → g ≡ run_by t b h r p → k ≡ run_by t b h r q → (Found t → ⊥) → g ≡ k
runs_whole (found hits o) b h r p q g k e f n = absurd (n tt)
runs_whole (refused x) b h r p q g k e f n = e ∙ sym f
runs_whole (ended x) b h r p q g k e f n = e ∙ sym f

pub one_result : (s : Cols) (lengths : List ℕ) (r : Run) (b : Base) (l : Lent) (g : Given) (m : Lent) (k : Given) (n : Lent) → Gives s lengths r b l g m → Gives s lengths r b l k n
    → Alike (given_of s lengths r b l).reply g m k n
one_result s lengths r b l g m k n x y =
    let t : Reply = (given_of s lengths r b l).reply in
    let h : Heads = drawn_to s r.settings.chroms b (opened_by (stage_of r) s (heads_of r)) in
    record {
      answer = x.settles.answer ∙ sym y.settles.answer;
      run = runs_but t b h r (ring_of g.run) (ring_of k.run) g.run k.run x.settles.exact y.settles.exact refl;
      room = x.settles.room ∙ sym y.settles.room;
      waits = ap (λ (z : rules.Run). z.queue) (x.settles.run ∙ sym y.settles.run);
      whole = runs_whole t b h r (ring_of g.run) (ring_of k.run) g.run k.run x.settles.exact y.settles.exact;
      cells = λ z e. ap (λ (u : Lent). u.cells) (x.still z e ∙ sym (y.still z e));
      answers = x.settles.answers ∙ sym y.settles.answers;
    }

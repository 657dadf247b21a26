-- What an ended run stands for.
use mathlib.Core.Path.{◌≡◌, refl, ap, ◌∙◌}
use mathlib.Core.List.{List, [], map}
use Prim.Native.Nat.{ℕ, zero, suc, ◌<◌, ◌≤◌}
use native.Mathlib.Omega.{arith}
use lib.ListN.{get_or}
use Rattle.basics.specs.Build.{build}
use Rattle.basics.proofs.BuildLaws.{build_same}
use Rattle.rules.specs.declared.End.{End}
use Rattle.rules.specs.declared.Stage.{Stage}
use Rattle.rules.specs.declared.Stage.TheVariants.{Fresh, After, Over}
use Rattle.rules.specs.Rows.{Record}
use Rattle.rules.specs.Call.{over}
use Rattle.heads.specs.View.{Cols, Heads, behind_at, rest_at, rests_of, fresh_of}
use Rattle.queue.specs.Ring.{Cells, waiting}
use Rattle.queue.proofs.Calls.{fresh_none}
use Rattle.runs.specs.declared.Run.{Run}
use Rattle.runs.specs.View.{heads_of, ring_of, stage_of, left_by, run_of, held_of, eight, over_of}
use Rattle.runs.proofs.MarkLaws.{stage_back}

-- eight times the same
pub eight_at : {A : Type 0} (x d : A) (k : ℕ) → k < 8 → get_or (eight x) k d ≡ x
eight_at x d zero h = refl
eight_at x d (suc zero) h = refl
eight_at x d (suc (suc zero)) h = refl
eight_at x d (suc (suc (suc zero))) h = refl
eight_at x d (suc (suc (suc (suc zero)))) h = refl
eight_at x d (suc (suc (suc (suc (suc zero))))) h = refl
eight_at x d (suc (suc (suc (suc (suc (suc zero)))))) h = refl
eight_at x d (suc (suc (suc (suc (suc (suc (suc zero))))))) h = refl
eight_at x d (suc (suc (suc (suc (suc (suc (suc (suc k)))))))) h = absurd (omega arith)

-- nothing of each
map_build : {A : Type 0} (f : ℕ → List A) (k i : ℕ) → map {B = List A} (λ s. []) (build f k i) ≡ build (λ j. []) k i
unfolding build
map_build f zero i = refl
map_build f (suc k) i = rw (map_build f k (suc i))

rests_none : (s : Cols) (h : Heads) → map {B = List Record} (λ l. []) (rests_of s h) ≡ build (λ j. []) h.streams 0
unfolding rests_of
rests_none s h = map_build (rest_at s h) h.streams 0

left_none : (t : Stage) (s : Cols) (h : Heads) → map {B = List Record} (λ l. []) (left_by t s h) ≡ build (λ j. []) h.streams 0
unfolding fresh_of
left_none Fresh s h = map_build (behind_at s h) h.streams 0
left_none (After p) s h = rests_none s h
left_none (Over e) s h = rests_none s h

-- of an ended run nothing is left
over_rests : (s : Cols) (r : Run) (e : End) → r.settings.streams ≤ 8 → rests_of s (heads_of (over_of r e)) ≡ build (λ j. []) r.settings.streams 0
unfolding rests_of
over_rests s r e few = build_same (λ j. []) (rest_at s (heads_of (over_of r e))) r.settings.streams 0 (λ j a b. rw (eight_at {A = ℕ} 1 0 j (omega arith)))

-- a run that stands so
shown : (s : Cols) (c : Cells) (r : Run) (t : Stage) → stage_of r ≡ t → run_of s c r ≡ record { left = left_by t s (heads_of r); queue = waiting (ring_of r) c; stage = t }
shown s c r t e = ap (λ (u : Stage). record { left = left_by u s (heads_of r); queue = waiting (ring_of r) c; stage = u }) e

pub over_view : (s : Cols) (c c' : Cells) (r : Run) (e : End) → r.settings.streams ≤ 8 → run_of s c' (over_of r e) ≡ over (run_of s c r) e
over_view s c c' r e few = shown s c' (over_of r e) (Over e) (stage_back (Over e)) ∙ rw (over_rests s r e few, left_none (stage_of r) s (heads_of r), fresh_none r.settings.room (record { 0 = 0 }) c')

pub over_held : (s : Cols) (c c' : Cells) (r : Run) (e : End) → r.settings.streams ≤ 8 → run_of s c' (over_of r e) ≡ over (held_of s c r) e
over_held s c c' r e few = shown s c' (over_of r e) (Over e) (stage_back (Over e)) ∙ rw (over_rests s r e few, rests_none s (heads_of r), fresh_none r.settings.room (record { 0 = 0 }) c')

-- What a run and all that is lent with it stand for: what is left of each stream, what waits, how the run stands. Of any values.
use Rattle.std.specs.Prelude.{List, [], ◌∷◌, ℕ}
use Rattle.rules.specs.declared.Stage.{Stage}
use Rattle.rules.specs.declared.Stage.TheVariants.{Fresh, After, Over}
use Rattle.rules.specs.declared.End.{End}
use Rattle.rules.specs.Rows.{Record}
use Rattle.rules.specs.Call as rules
use Rattle.heads.specs.View.{Cols, Heads, rests_of, fresh_of}
use Rattle.queue.specs.declared.Ring.{Ring}
use Rattle.queue.specs.Ring.{Cells, waiting}
use Rattle.runs.specs.declared.Run.{Run}
use Rattle.runs.specs.declared.mark.Mark.{Mark}
use Rattle.runs.specs.Marks.{stage_in, mark_of}

-- "A run carries the heads of its eight streams"
abbrev pub heads_of : Run → Heads
heads_of r = record { chrom = r.chrom; start = r.start; stop = r.stop; row = r.row; ended = r.ended; next = r.next; from = r.from; to = r.to; streams = r.settings.streams }

-- "The queue is part of the run": where it stands in its memory
abbrev pub ring_of : Run → Ring
ring_of r = record { head = r.head; len = r.len; room = r.settings.room; chrom = record { 0 = r.place } }

-- how the run stands
abbrev pub stage_of : Run → Stage
stage_of r = stage_in r.mark

-- a run from its heads, its number of chromosomes, its ring and its mark
abbrev pub run_in : Heads → ℕ → Ring → Mark → Run
run_in h n q m = record { chrom = h.chrom; start = h.start; stop = h.stop; row = h.row; ended = h.ended; next = h.next; from = h.from; to = h.to; settings = record { streams = h.streams; chroms = n; room = q.room }; head = q.head; len = q.len; place = q.chrom.0; mark = m }

-- the run with other heads, another ring and another stage
abbrev pub run_with : Run → Heads → Ring → Stage → Run
run_with r h q t = run_in h r.settings.chroms q (mark_of t)

-- "Heads are loaded at the first accepted base": what is left of each stream before that, and after it
abbrev pub left_by : Stage → Cols → Heads → List (List Record)
left_by Fresh s h = fresh_of s h
left_by (After p) s h = rests_of s h
left_by (Over e) s h = rests_of s h

-- a run over its columns and its queue's memory
abbrev pub run_of : Cols → Cells → Run → rules.Run
run_of s c r = record { left = left_by (stage_of r) s (heads_of r); queue = waiting (ring_of r) c; stage = stage_of r }

-- the same, where the heads are loaded
abbrev pub held_of : Cols → Cells → Run → rules.Run
held_of s c r = record { left = rests_of s (heads_of r); queue = waiting (ring_of r) c; stage = stage_of r }

-- eight times the same
abbrev pub eight : {A : Type 0} → A → List A
eight x = x ∷ x ∷ x ∷ x ∷ x ∷ x ∷ x ∷ x ∷ []

-- "run ended": all its streams have ended and nothing waits; the sizes and the streams' ranges stay
abbrev pub over_of : Run → End → Run
over_of r e = record { chrom = eight 0; start = eight 0; stop = eight 0; row = eight 0; ended = eight 1; next = r.from; from = r.from; to = r.to; settings = r.settings; head = 0; len = 0; place = 0; mark = mark_of (Over e) }

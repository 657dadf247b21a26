-- How a run stands, in numbers: what each mark means, and the mark of each stage. A mark of no meaning is read as an end by 10.
use Rattle.std.specs.Prelude.{cond, ℕ, eqb}
use Rattle.rules.specs.declared.End.{End}
use Rattle.rules.specs.declared.End.TheVariants.{Faulty, Unsorted, NoRoom, NoRows}
use Rattle.rules.specs.declared.Stage.{Stage}
use Rattle.rules.specs.declared.Stage.TheVariants.{Fresh, After, Over}
use Rattle.runs.specs.declared.mark.Mark.{Mark}

-- ---- from numbers

-- the end by the number of its refusal, "Numbers 7 and 8 name stream and row"; a mark of no meaning is read as 10
abbrev pub end_in : Mark → End
end_in m =
    cond (eqb m.kind 7) (Faulty (record { 0 = m.first }) m.second)
    (cond (eqb m.kind 8) (Unsorted (record { 0 = m.first }) m.second)
    (cond (eqb m.kind 9) NoRoom NoRows))

-- how a run stands: 0, no base accepted yet; 1, the last accepted base; else its end
abbrev pub stage_in : Mark → Stage
stage_in m =
    cond (eqb m.kind 0) Fresh
    (cond (eqb m.kind 1) (After (record { chrom = record { 0 = m.first }; start = m.second; stop = m.third }))
    (Over (end_in m)))

-- ---- to numbers

abbrev pub marked : ℕ → ℕ → ℕ → ℕ → Mark
marked kind first second third = record { kind = kind; first = first; second = second; third = third }

abbrev pub mark_of_end : End → Mark
mark_of_end (Faulty s k) = marked 7 s.0 k 0
mark_of_end (Unsorted s k) = marked 8 s.0 k 0
mark_of_end NoRoom = marked 9 0 0 0
mark_of_end NoRows = marked 10 0 0 0

abbrev pub mark_of : Stage → Mark
mark_of Fresh = marked 0 0 0 0
mark_of (After b) = marked 1 b.chrom.0 b.start b.stop
mark_of (Over e) = mark_of_end e

-- The number of an answer, and when 1 is due.
use Rattle.std.specs.Prelude.{ℕ, List, length, Bool, ◌&&◌, eqb, Result, Ok, Err}
use Rattle.layouts.specs.declared.Refusal.{Refusal}
use Rattle.layouts.specs.Numbers.{refusal_number}
use Rattle.layouts.specs.declared.Written.{Written}
use Rattle.layouts.specs.Columns.{Columns}

-- the number of an answer: 0 where the fragments are written
abbrev pub number_of : Result Written Refusal → ℕ
number_of (Ok w) = 0
number_of (Err x) = refusal_number x

-- not "lent columns differ in length": the record columns, the fragment columns and the piece columns, each among themselves
abbrev pub sized_of : List ℕ → List ℕ → Columns → Bool
sized_of starts stops c =
    eqb (length starts) (length stops)
    && eqb (length c.present) (length c.bstart)
    && eqb (length c.present) (length c.bstop)
    && eqb (length c.present) (length c.from)
    && eqb (length c.present) (length c.to)
    && eqb (length c.pstart) (length c.pstop)

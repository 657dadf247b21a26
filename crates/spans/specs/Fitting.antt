-- Whether a record fits a base and the record ahead: what 13 says of one record.
use Rattle.std.specs.Prelude.{ℕ, Bool, ◌&&◌, leb}
use Rattle.rules.specs.Overlap.{meets}
use Rattle.spans.specs.declared.Span.{Span}

-- not "a record given to the parts has start > stop, doesn't overlap the base, or starts before the one ahead", which started at `ahead`
abbrev pub fitting : Span → ℕ → Span → Bool
fitting base ahead r = leb r.start r.stop && meets base.start base.stop r.start r.stop && leb ahead r.start

-- Which records a base takes, which stay live for it and which are its own.
use Rattle.std.specs.Prelude.{Bool, ◌&&◌, ℕ, eqb, ltb}
use Rattle.basics.specs.Lex.{lex}
use Rattle.rules.specs.declared.Base.{Base}
use Rattle.rules.specs.Rows.{Record}

-- "start < b.stop": how far a base reaches
abbrev pub reaches : ℕ → ℕ → Bool
reaches base_stop start = ltb start base_stop

-- "ends after b.start": how long a record lasts
abbrev pub lasts : ℕ → ℕ → Bool
lasts base_start stop = ltb base_start stop

-- "start < base stop and stop > base start": two spans, half-open
abbrev pub meets : ℕ → ℕ → ℕ → ℕ → Bool
meets base_start base_stop start stop = reaches base_stop start && lasts base_start stop

-- "exactly the records of its chromosome with start < base stop and stop > base start"
abbrev pub overlaps : Base → Record → Bool
overlaps b r = eqb r.it.chrom.0 b.chrom.0 && meets b.start b.stop r.it.start r.it.stop

-- "heads are taken while they lie on an earlier chromosome, or on b's with start < b.stop"
abbrev pub taken : Base → Record → Bool
taken b r = lex r.it.chrom.0 b.chrom.0 (reaches b.stop r.it.start)

-- "A queued record is live for b if it is on b's chromosome and ends after b.start."
abbrev pub live : Base → Record → Bool
live b r = eqb r.it.chrom.0 b.chrom.0 && lasts b.start r.it.stop

-- "that lies on a later chromosome, or on p's and ends after p.start"
abbrev pub awaited : Base → Record → Bool
awaited p r = lex p.chrom.0 r.it.chrom.0 (lasts p.start r.it.stop)

-- Bases: their order, and the refusals 4, 6, 3 and 5.
use Rattle.std.specs.Prelude.{Bool, true, false, cond, List, ℕ, ltb, leb, length, get_or}
use Rattle.std.proofs.Math.Option.{Option, none, some}
use Rattle.basics.specs.Lex.{lex}
use Rattle.rules.specs.declared.Base.{Base}
use Rattle.rules.specs.declared.Refusal.{Refusal}
use Rattle.rules.specs.declared.Refusal.TheVariants.{Beyond, Unlisted, Unordered, Reversed}

-- "Base order: chromosome number must not fall; on one chromosome start must not fall; at equal start stop must not fall."
abbrev pub not_before : Base → Base → Bool
not_before p b = lex p.chrom.0 b.chrom.0 (lex p.start b.start (leb p.stop b.stop))

-- "It is measured from the last accepted base."
abbrev pub in_order : Option Base → Base → Bool
in_order none b = true
in_order (some p) b = not_before p b

-- "base stop beyond a known chromosome length": a length is known or unknown
abbrev pub beyond : Option ℕ → ℕ → Bool
beyond none stop = false
beyond (some length) stop = ltb length stop

-- "then 4, 6, 3, 5": the first that is due, of the chromosomes' lengths, the last accepted base and a base
unfoldable pub judge : List (Option ℕ) → Option Base → Base → Option Refusal
judge lengths last b =
    cond (leb (length lengths) b.chrom.0) (some Unlisted)
    (cond (ltb b.stop b.start) (some Reversed)
    (cond (beyond (get_or lengths b.chrom.0 none) b.stop) (some Beyond)
    (cond (in_order last b) none (some Unordered))))

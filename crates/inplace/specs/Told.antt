-- "Where an answer is an enum, the promises use a definition that gives this paper's number and values for each of its cases."
use Rattle.std.specs.Prelude.{ℕ, get_or}
use Rattle.std.specs.Prelude.{Option, Some, None}
use Rattle.rules.specs.Offered.{Offer}
use Rattle.rules.specs.declared.End.{End}
use Rattle.rules.specs.declared.Answer.{Answer}
use Rattle.rules.specs.declared.Answer.TheVariants.{Found, Refused, Ended}
use Rattle.rules.specs.Numbers.{refusal_number, end_number, end_values}
use Rattle.many.specs.declared.Passed.{Passed}
use Rattle.inplace.specs.declared.Swept.{Swept}
use Rattle.inplace.specs.declared.told.Offered.{Offered}
use Rattle.inplace.specs.declared.told.Stopped.{Stopped}

-- the offered place, if one is
abbrev pub offered_of : Offer → Offered
offered_of None = record { any = 0; chrom = 0; stop = 0 }
offered_of (Some p) = record { any = 1; chrom = p.chrom.0; stop = p.stop }

-- a refusal's number and values
abbrev pub stops_by : ℕ → ℕ → ℕ → Stopped
stops_by number stream row = record { refusal = number; stream = stream; row = row }

-- "Numbers 7 and 8 name stream and row"
abbrev pub end_stops : End → Stopped
end_stops e = stops_by (end_number e) (get_or (end_values e) 0 0) (get_or (end_values e) 1 0)

-- what is told of a base's answer
abbrev pub stopped_by : Answer → Stopped
stopped_by (Found n o) = stops_by 0 0 0
stopped_by (Refused x) = stops_by (refusal_number x) 0 0
stopped_by (Ended e) = end_stops e

-- what stopped the bases, if anything did
abbrev pub stopped_of : Option Answer → Stopped
stopped_of None = stops_by 0 0 0
stopped_of (Some a) = stopped_by a

-- what a host is told of bases that were given
abbrev pub swept_of : Passed → Swept
swept_of p = record { bases = p.bases; records = p.records; offer = offered_of p.offer; last = stopped_of p.last }

-- what a host is told of a base that was given alone, of its answer
abbrev pub alone_of : Answer → Swept
alone_of (Found n o) = record { bases = 1; records = n; offer = offered_of o; last = stops_by 0 0 0 }
alone_of (Refused x) = record { bases = 0; records = 0; offer = offered_of None; last = stopped_by (Refused x) }
alone_of (Ended e) = record { bases = 0; records = 0; offer = offered_of None; last = stopped_by (Ended e) }

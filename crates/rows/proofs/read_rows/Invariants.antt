use Rattle.std.specs.Prelude.{◌-◌, length}
use Rattle.fields.specs.Names.{listed, number_in}
use Rattle.fields.proofs.Tables.{Filling}
use Rattle.rows.specs.Row.{row_of, chrom_of, start_of, stop_of}
use Rattle.rows.specs.Read.{Knows}
use Rattle.rows.proofs.read_rows.Given as goal

abbrev pub invariant-loop-at : goal.invariant-loop-at
invariant-loop-at l = record {
  filling : Filling (row_of (number_in (listed l.names.list))) chrom_of start_of stop_of l.text l.initial.chrom l.initial.start l.initial.stop l.chrom l.start l.stop l.n l.at;
  knows : Knows l.text (listed l.names.list) l.seen;
}

abbrev pub decreases-loop-at : goal.decreases-loop-at
decreases-loop-at l = length l.text - l.at

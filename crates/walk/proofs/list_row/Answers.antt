-- `walk::list_row` meets its contract: the base and its chromosome's name are read, and the base is given. Assumes nothing.
use lib.ListN.{get_or}
use Rattle.walk.proofs.NameLaws.{name_apart, name_inside, name_listed}
use Rattle.walk.proofs.list_row.Goals as goal

pub slice_bounds-entry-count : goal.slice_bounds-entry-count
slice_bounds-entry-count c =
    name_apart c.requires (get_or c.args.tables.bases.chrom.now c.args.i 0) c.place_at-first.ensures c.place_at-end.ensures

pub slice_bounds-entry-start : goal.slice_bounds-entry-start
slice_bounds-entry-start c =
    name_apart c.requires (get_or c.args.tables.bases.chrom.now c.args.i 0) c.place_at-first.ensures c.place_at-end.ensures

pub slice_bounds-entry-end : goal.slice_bounds-entry-end
slice_bounds-entry-end c =
    name_inside c.requires (get_or c.args.tables.bases.chrom.now c.args.i 0) c.place_at-first.ensures c.place_at-end.ensures

pub returns : goal.returns
returns c =
    name_listed c.requires (get_or c.args.tables.bases.chrom.now c.args.i 0) c.place_at-first.ensures c.place_at-end.ensures c.list_base.ensures

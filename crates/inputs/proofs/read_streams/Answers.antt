-- `inputs::read_streams` meets its contract: one stream's text more at a time. Assumes nothing.
use Rattle.inputs.proofs.Streaming.{some_ends, few_ends, streams_few, streams_all, ends_apart, ends_within, stream_text, stream_slots, streaming_got, streaming_top, streaming_end}
use native.Mathlib.Omega.{arith}
use mathlib.Core.Path.{refl}
use Rattle.inputs.proofs.read_streams.Goals as goal

pub overflow_sub-n : goal.overflow_sub-n
overflow_sub-n c = some_ends c.requires

pub overflow_mul-p : goal.overflow_mul-p
overflow_mul-p c =
    omega (arith, few_ends c.requires)

pub slice_bounds-read_part-count : goal.slice_bounds-read_part-count
slice_bounds-read_part-count c =
    ends_apart c.requires _ c.loop-k-test.true

pub slice_bounds-read_part-start : goal.slice_bounds-read_part-start
slice_bounds-read_part-start c =
    ends_apart c.requires _ c.loop-k-test.true

pub slice_bounds-read_part-end : goal.slice_bounds-read_part-end
slice_bounds-read_part-end c =
    ends_within c.requires _ c.loop-k-test.true

pub read_part-r-requires : goal.read_part-r-requires
read_part-r-requires c =
    stream_slots c.requires _ c.loop-k-test.true c.loop-k.invariant.even

pub overflow_add-to : goal.overflow_add-to
overflow_add-to c =
    omega (arith, few_ends c.requires, streaming_top c.loop-k.invariant (omega (arith, streams_all c.requires, c.loop-k-test.true)) (streams_few c.requires) refl (stream_text c.requires _ c.loop-k-test.true) c.read_part-r.ensures c.rows_ahead.ensures)

pub bounds-to-k : goal.bounds-to-k
bounds-to-k c =
    omega (arith, few_ends c.requires, c.loop-k.invariant.eight)

pub loop-k-preserved : goal.loop-k-preserved
loop-k-preserved c =
    streaming_got c.loop-k.invariant (omega (arith, streams_all c.requires, c.loop-k-test.true)) (streams_few c.requires) refl (stream_text c.requires _ c.loop-k-test.true) c.read_part-r.ensures c.rows_ahead.ensures c.verdict_at.ensures c.and-verdict.ensures

pub returns : goal.returns
returns c =
    streaming_end c.loop-k.invariant (omega (arith, streams_all c.requires, c.loop-k-test.false)) (streams_few c.requires)

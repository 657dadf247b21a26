use Rattle.inputs.proofs.Streaming.{Streaming}
use Rattle.inputs.specs.Parted.{stream_texts}
use Rattle.heads.specs.View.{cols}
use Rattle.fields.specs.Names.{listed}
use Rattle.inputs.proofs.read_streams.Given as goal

abbrev pub invariant-loop-k : goal.invariant-loop-k
invariant-loop-k l = Streaming (listed l.names) (stream_texts l.texts.bytes.now l.texts.ends.now) (cols l.chrom l.start l.stop) l.verdict l.to l.k

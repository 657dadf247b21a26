-- `listing_program::files::read_files` meets its contract: the place stays within the buffer. Assumes nothing.
use Rattle.std.proofs.Common.{◌≤◌, length}
use Rattle.listing_program.proofs.files.read_files.Given as goal

abbrev pub invariant-loop-k : goal.invariant-loop-k
invariant-loop-k g l = l.at ≤ length l.bytes

-- `Reader::number`: the place stays, and what is passed stands in the text. Assumes nothing.
use Rattle.std.proofs.Common.{◌≡◌, ◌+◌, ◌≤◌, length}
use Rattle.tests_shared.proofs.reader.Reader.number.Given as goal

abbrev pub invariant-loop-i : goal.invariant-loop-i
invariant-loop-i l = (l.self ≡ l.initial.self) × (l.self.at + length l.rest ≤ length l.self.text.now)

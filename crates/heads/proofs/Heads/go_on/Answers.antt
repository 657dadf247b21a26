-- `go_on` meets its contract: the stores are those of the turn.
use Rattle.heads.proofs.Fours.{goes_by}
use Rattle.heads.proofs.Heads.go_on.Goals as goal

pub returns-in-Some : goal.returns-in-Some
returns-in-Some c =
    let h = c.args.self.now in rw c.in-Some.is (goes_by h.fours h.ended h.next h.from h.to h.streams c.args.k c.in-Some.x)

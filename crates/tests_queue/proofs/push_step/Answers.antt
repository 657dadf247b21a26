-- `push_step`: by the two answers of a push.
use Rattle.tests_queue.proofs.push_step.Goals as goal

pub show_waiting-requires-2 : goal.show_waiting-requires-2
show_waiting-requires-2 g c = (c.push.ensures.done _ c.in-Some.is).fair

pub returns-clause-ok : goal.returns-clause-ok
returns-clause-ok g c = ((c.push.ensures.done _ c.in-Some.is).fair, (c.push.ensures.done _ c.in-Some.is).room)

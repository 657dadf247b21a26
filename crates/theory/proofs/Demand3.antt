-- Demand 3, of the definitions' own run: "Leaving out bases never changes a report. [..] The offer is made exactly as 01 says. "No room" comes at a
-- base exactly if more than Q records of its chromosome end after its start and begin before the largest stop given on that chromosome so far,
-- or the run has ended so. A larger Q agrees until a smaller one refuses."
use mathlib.Core.Path.{◌≡◌, ◌∙◌}
use mathlib.Core.List.{List, [], ◌∷◌, ◌++◌}
use Prim.Native.Nat.{ℕ, ◌≤◌}
use Rattle.basics.specs.Lists.{Pairs, nil}
use Rattle.basics.proofs.ListLaws.{pairs_at}
use Rattle.rules.specs.declared.Base.{Base}
use Rattle.rules.specs.declared.Refusal.TheVariants.{Sizes}
use Rattle.rules.specs.Call.{refused}
use Rattle.rules.specs.Job.{Job, answers, merged_of}
use Rattle.rules.specs.Demands.{ValidStreams, Spot, reply_at, overfull, is_no_room, with_room, Demand3}
use Rattle.theory.proofs.Answers.{answers_promised}
use Rattle.theory.proofs.Room.{Agree, room_exact, larger}
use Rattle.theory.proofs.When.{full_when}
use Rattle.theory.proofs.LeftOut.{Exact, said_exact, given_same, missed_none}

offers : (j : Job) (bs : List Base) (at : Spot bs) → Exact (merged_of j) at.base (reply_at at (answers j bs))
offers j bs at = rw (answers_promised j bs, at.whole) (pairs_at (refused Sizes) at.ahead at.base at.later (said_exact j [] (at.ahead ++ at.base ∷ at.later)))

room : (j : Job) (bs : List Base) → ValidStreams j → (at : Spot bs) → is_no_room (reply_at at (answers j bs)) ≡ overfull j [] (at.ahead ++ at.base ∷ [])
room j bs ok at = rw (answers_promised j bs, at.whole) (room_exact j ok at.base at.later [] at.ahead)

wider : (j : Job) (Q : ℕ) (bs : List Base) → j.room ≤ Q → Pairs Agree (answers j bs) (answers (with_room j Q) bs)
wider j Q bs h = rw (answers_promised j bs, answers_promised (with_room j Q) bs) (larger j Q h [] bs)

pub demand3 : Demand3 answers
demand3 = record {
  offers = λ j bs ok at e. offers j bs at e;
  room = room;
  when = λ j bs ok at. room j bs ok at ∙ full_when j [] (at.ahead ++ at.base ∷ []) (λ b e. nil) nil;
  larger = wider;
  skips = λ j ok l fit legal. (given_same j ok l fit legal, missed_none j ok l fit legal);
}

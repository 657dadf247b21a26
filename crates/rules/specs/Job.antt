-- A whole job: the replies to a list of bases, by one call after the other.
use Rattle.std.specs.Prelude.{true, List, [], ◌∷◌, ℕ, length}
use Rattle.std.proofs.Math.Option.{Option}
use Rattle.rules.specs.declared.Row.{Row}
use Rattle.rules.specs.declared.Base.{Base}
use Rattle.rules.specs.Rows.{Record}
use Rattle.rules.specs.Streams.{merged}
use Rattle.rules.specs.Call.{Run, Reply, Given, Lent, fresh, give}

-- what a run is begun with: the chromosomes' lengths in list order, the streams and the room
pub record Job : Type 0 where
  pub lengths : List (Option ℕ)
  pub streams : List (List Row)
  pub room : ℕ

-- "Answer rows lent: at least Q."
abbrev pub lending : ℕ → Lent
lending Q = record { right = true; rows = Q }

-- what a base got, and what comes from the run after it
abbrev pub onward : Given → (Run → List Reply) → List Reply
onward g on = g.reply ∷ on g.run

-- the replies to the bases, from a run on
unfoldable pub replies : List (Option ℕ) → ℕ → Run → List Base → List Reply
replies lengths Q r [] = []
replies lengths Q r (b ∷ bs) = onward (give lengths Q (lending Q) r b) (λ t. replies lengths Q t bs)

-- the replies to the bases of a job
abbrev pub answers : Job → List Base → List Reply
answers j bs = replies j.lengths j.room (fresh j.streams) bs

-- the merged list of a job
abbrev pub merged_of : Job → List Record
merged_of j = merged (length j.lengths) j.streams

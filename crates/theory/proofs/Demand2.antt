-- "With room enough and valid streams, each accepted base gets exactly the records of its chromosome with start < base stop and stop > base
-- start, once each, in the merged order of 01." And with it: "The offer is made exactly as 01 says."
use mathlib.Core.Path.{◌≡◌, refl, ap, ◌∙◌}
use mathlib.Core.Bool.{cond}
use mathlib.Core.Option.{Option, none, some}
use mathlib.Core.List.{List, [], ◌∷◌, ◌++◌}
use Prim.Native.Nat.{◌≤◌}
use lib.ListN.{length, get_or}
use borrow.Author.Tests.{le-ltb}
use Rattle.basics.specs.Lists.{is_some, filter, first_one}
use Rattle.rules.specs.declared.Base.{Base}
use Rattle.rules.specs.declared.Refusal.{Refusal}
use Rattle.rules.specs.declared.Refusal.TheVariants.{Sizes}
use Rattle.rules.specs.Numbers.{number_of}
use Rattle.rules.specs.Rows.{Record, numbered}
use Rattle.rules.specs.Overlap.{overlaps}
use Rattle.rules.specs.Bases.{judge}
use Rattle.rules.specs.Offer.{offer}
use Rattle.rules.specs.Call.{Reply, found, refused, answer_of, rows_of}
use Rattle.rules.specs.Job.{Job, answers, merged_of}
use Rattle.rules.specs.Promise.{crowd, unless_refused, unless_ended, ending, said}
use Rattle.rules.specs.Demands.{ValidStreams, accepted, Spot, Accepted, reply_at, RoomEnough, Demand2}
use Rattle.theory.proofs.ValidLaws.{valid_ending, valid_row}
use Rattle.theory.proofs.StreamLaws.{merged_own}
use Rattle.theory.proofs.Answers.{answers_promised}

module _ (j : Job) (ok : ValidStreams j) where
  abbrev M : List Record
  M = merged_of j

  -- each accepted base of `bs`, behind the accepted ones `hs`, has room
  abbrev Roomy : List Base → List Base → Type 0
  Roomy hs bs = (pre : List Base) (b : Base) (post : List Base) → bs ≡ pre ++ b ∷ post → judge j.lengths (first_one (accepted j.lengths hs pre)) b ≡ none
      → length (crowd M (accepted j.lengths hs pre) b) ≤ j.room

  room_goes : (hs : List Base) (b : Base) → length (crowd M hs b) ≤ j.room → ending (length j.lengths) j.room (numbered 0 j.streams) hs b ≡ none
  room_goes hs b h = valid_ending j ok hs b ∙ rw (le-ltb j.room (length (crowd M hs b)) h)

  abbrev due : Base → Reply
  due b = found (filter (overlaps b) M) (offer M b)

  -- the accepted bases of k, where `o` is what a is refused for
  abbrev on : List Base → Base → Option Refusal → List Base → List Base
  on hs a o k = cond (is_some o) (accepted j.lengths hs k) (accepted j.lengths (a ∷ hs) k)

  said_at : (hs pre : List Base) (b : Base) (post : List Base) → Roomy hs (pre ++ b ∷ post) → judge j.lengths (first_one (accepted j.lengths hs pre)) b ≡ none
      → get_or (said j hs (pre ++ b ∷ post)) (length pre) (refused Sizes) ≡ due b
  unfolding said
  said_at hs [] b post r e = rw (e, room_goes hs b (r [] b post refl e))
  said_at hs (a ∷ pre) b post r e =
      go (judge j.lengths (first_one hs) a) refl e (λ k d f q z. r (a ∷ k) d f (rw q) z) (said_at hs pre b post) (said_at (a ∷ hs) pre b post)
    where
      go : (o : Option Refusal) → judge j.lengths (first_one hs) a ≡ o → judge j.lengths (first_one (on hs a o pre)) b ≡ none
          → ((k : List Base) (d : Base) (f : List Base) → pre ++ b ∷ post ≡ k ++ d ∷ f → judge j.lengths (first_one (on hs a (judge j.lengths (first_one hs) a) k)) d ≡ none → length (crowd M (on hs a (judge j.lengths (first_one hs) a) k) d) ≤ j.room)
          → (Roomy hs (pre ++ b ∷ post) → judge j.lengths (first_one (accepted j.lengths hs pre)) b ≡ none → get_or (said j hs (pre ++ b ∷ post)) (length pre) (refused Sizes) ≡ due b)
          → (Roomy (a ∷ hs) (pre ++ b ∷ post) → judge j.lengths (first_one (accepted j.lengths (a ∷ hs) pre)) b ≡ none → get_or (said j (a ∷ hs) (pre ++ b ∷ post)) (length pre) (refused Sizes) ≡ due b)
          → get_or (unless_refused o (said j hs (pre ++ b ∷ post)) (unless_ended (ending (length j.lengths) j.room (numbered 0 j.streams) hs a) (a ∷ pre ++ b ∷ post) (due a ∷ said j (a ∷ hs) (pre ++ b ∷ post)))) (length (a ∷ pre)) (refused Sizes)
          ≡ due b
      go (some x) q z s same more = same (rw q at s) z
      go none q z s same more = rw (room_goes hs a (r [] a (pre ++ b ∷ post) refl q)) (more (rw q at s) z)

  -- an accepted base gets its records and its offer
  pub answer_at : (bs : List Base) → RoomEnough j bs → (at : Spot bs) → Accepted j at → reply_at at (answers j bs) ≡ due at.base
  answer_at bs room at e = rw (answers_promised j bs, at.whole) (said_at [] at.ahead at.base at.later (rw at.whole at roomy) e)
    where
      roomy : Roomy [] bs
      roomy pre b post q z = room (record { ahead = pre; base = b; later = post; whole = q }) z

-- demand 2, of the definitions' own run
pub demand2 : Demand2 answers
demand2 = record {
  exact = λ j bs ok room at e. ap rows_of (answer_at j ok bs room at e);
  answered = λ j bs ok room at e. ap (λ (r : Reply). number_of (answer_of r)) (answer_at j ok bs room at e);
  once = λ j ok i. merged_own (length j.lengths) j.streams i ∙ valid_row j ok i;
}

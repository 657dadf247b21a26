-- The demands, of every sequence of calls of a run that begins: over any room and any number of streams at once.
use mathlib.Core.Path.{◌≡◌, refl, sym, ap, subst, ◌∙◌}
use mathlib.Core.Bool.{true}
use mathlib.Core.Logic.{◌⊎◌, inl, inr}
use mathlib.Core.List.{List, [], ◌∷◌, ◌++◌, map}
use Prim.Native.Nat.{ℕ, ◌≤◌}
use lib.Dec.{eqb}
use lib.ListN.{length, get_or}
use Rattle.basics.specs.Lists.{filter, All, Pairs}
use Rattle.basics.proofs.ListLaws.{pairs_same}
use Rattle.rules.specs.declared.Base.{Base}
use Rattle.rules.specs.declared.End.TheVariants.{NoRoom}
use Rattle.rules.specs.declared.Refusal.TheVariants.{Sizes}
use Rattle.std.specs.Prelude.{None}
use Rattle.rules.specs.Numbers.{number_of}
use Rattle.rules.specs.Rows.{Record, number}
use Rattle.rules.specs.Overlap.{overlaps}
use Rattle.rules.specs.Offer.{offer}
use Rattle.rules.specs.declared.Answer.{Answer}
use Rattle.rules.specs.declared.Answer.TheVariants as answer
use Rattle.rules.specs.Call.{Reply, refused, ended, answer_of}
use Rattle.rules.specs.Job.{Job, answers, merged_of}
use Rattle.rules.specs.Promise.{promised}
use Rattle.rules.specs.Skip.{Mark, every, given, missed, heard, lawful}
use Rattle.rules.specs.Demands.{ValidStreams, Spot, Accepted, reply_at, RoomEnough, overfull, crowded, with_room}
use Rattle.theory.proofs.Answers.{answers_promised}
use Rattle.theory.proofs.Demand2.{demand2}
use Rattle.theory.proofs.Demand3.{demand3}
use Rattle.runs.specs.Start.{Plan}
use Rattle.demands.specs.Calls.{job_of, Came, came, Runs, came_at, Brings, offer_in, Same}
use Rattle.demands.proofs.Shown.{Shows, pairs_get_d, pairs_both, shows_nothing, brings, shown_offer, shown_offers, shown_same, heard_shown}
use Rattle.demands.proofs.RunAnswers.{run_answers}

module _ (p : Plan) (lengths : List ℕ) (bs : List Base) (os : List Came) (runs : Runs p lengths bs os) where
  abbrev j : Job
  j = job_of p lengths

  -- one of the bases: the rules' reply, and what came of its call
  shown : (at : Spot bs) → Shows (reply_at at (answers j bs)) (came_at at os)
  shown at = pairs_get_d (refused Sizes) (came (answer.Refused Sizes) [] []) shows_nothing (run_answers p lengths bs os runs) (length at.ahead)

  -- For every job, faulty streams too: exactly when 7, 8 and 9 come, with which stream and row, and what each base gets until then: the answers are the
  -- promised ones, and the answer rows hold the promised records' streams and rows, the others as they were.
  pub calls_promised : Pairs Shows (promised j bs) os
  calls_promised = subst (λ (l : List Reply). Pairs Shows l os) (answers_promised j bs) (run_answers p lengths bs os runs)

  -- "With room enough and valid streams, each accepted base gets exactly the records of its chromosome with start < base stop and stop > base
  -- start, once each, in the merged order of 01.": it is answered with their count, and the first so many answer rows hold them
  pub calls_exact : ValidStreams j → RoomEnough j bs → (at : Spot bs) → Accepted j at → Brings (filter (overlaps at.base) (merged_of j)) (came_at at os)
  calls_exact ok room at a = subst (λ (l : List Record). Brings l (came_at at os)) (demand2.exact j bs ok room at a) (brings (reply_at at (answers j bs)) (came_at at os) (shown at) (demand2.answered j bs ok room at a))

  -- it is answered, and not refused
  pub calls_answered : ValidStreams j → RoomEnough j bs → (at : Spot bs) → Accepted j at → number_of (came_at at os).answer ≡ 0
  calls_answered ok room at a = ap number_of (shown at).answer ∙ demand2.answered j bs ok room at a

  -- "once each": the merged list has each record of each stream once, in the stream's order
  pub calls_once : ValidStreams j → (i : ℕ) → filter (λ r. eqb r.stream.0 i) (merged_of j) ≡ number i 0 (get_or j.streams i [])
  calls_once ok i = demand2.once j ok i

  -- "The offer is made exactly as 01 says.": the returned one
  pub calls_offers : ValidStreams j → (at : Spot bs) → number_of (came_at at os).answer ≡ 0 → offer_in (came_at at os).answer ≡ offer (merged_of j) at.base
  calls_offers ok at e = shown_offer (shown at) ∙ demand3.offers j bs ok at (ap number_of (sym (shown at).answer) ∙ e)

  -- ""No room" comes at a base exactly if more than Q records of its chromosome end after its start and begin before the largest stop given on
  -- that chromosome so far, or the run has ended so."
  pub calls_room : ValidStreams j → (at : Spot bs) → eqb (number_of (came_at at os).answer) 9 ≡ overfull j [] (at.ahead ++ at.base ∷ [])
  calls_room ok at = ap (λ (a : Answer). eqb (number_of a) 9) (shown at).answer ∙ demand3.room j bs ok at

  -- "Then say exactly when": 9 comes at the first accepted base that more than Q records overlap, and to every base behind it
  pub calls_when : ValidStreams j → (at : Spot bs) → eqb (number_of (came_at at os).answer) 9 ≡ crowded j [] (at.ahead ++ at.base ∷ [])
  calls_when ok at = ap (λ (a : Answer). eqb (number_of a) 9) (shown at).answer ∙ demand3.when j bs ok at

-- "A larger Q agrees until a smaller one refuses.": two runs of one job but for their rooms
pub calls_larger : (p q : Plan) (lengths : List ℕ) (bs : List Base) (os us : List Came) → Runs p lengths bs os → Runs q lengths bs us → job_of q lengths ≡ with_room (job_of p lengths) q.settings.room → p.settings.room ≤ q.settings.room
    → Pairs (λ o u. (o.answer ≡ answer.Ended NoRoom) ⊎ Same o u) os us
calls_larger p q lengths bs os us k m same h =
    pairs_both agree (demand3.larger (job_of p lengths) q.settings.room bs h) (run_answers p lengths bs os k)
    (subst (λ (x : Job). Pairs Shows (answers x bs) us) same (run_answers q lengths bs us m))
  where
    agree : (r s : Reply) (o u : Came) → (r ≡ ended NoRoom) ⊎ (r ≡ s) → Shows r o → Shows s u → (o.answer ≡ answer.Ended NoRoom) ⊎ Same o u
    agree r s o u (inl e) x y = inl (x.answer ∙ ap answer_of e)
    agree r s o u (inr e) x y = inr (shown_same x (subst (λ (t : Reply). Shows t u) (sym e) y))

-- "Take valid streams and bases whose rows are all valid and in order. A base source may leave out any bases that the last offered place permits.
-- Every base given is then answered or refused as in the full run, and every base left out has no record there.": two runs of one job; the places are those
-- that the calls offered
pub calls_skips : (p : Plan) (lengths : List ℕ) (l : List (Mark Base)) (os us : List Came) → Runs p lengths (given l) os → Runs p lengths (every l) us → ValidStreams (job_of p lengths)
    → ((at : Spot (every l)) → Accepted (job_of p lengths) at) → lawful None l (map (λ (o : Came). offer_in o.answer) os) ≡ true
    → Pairs Same os (heard l us) × All (λ c. filter (overlaps c) (merged_of (job_of p lengths)) ≡ []) (missed l)
calls_skips p lengths l os us k m ok fit legal =
    let few = run_answers p lengths (given l) os k in
    let all = run_answers p lengths (every l) us m in
    let z = demand3.skips (job_of p lengths) ok l fit (ap (lawful None l) (sym (shown_offers few)) ∙ legal) in (
      pairs_both {R = λ r s. r ≡ s} (λ x y o u e a b. shown_same a (subst (λ (t : Reply). Shows t u) (sym e) b)) (pairs_same (λ r. refl) (answers (job_of p lengths) (given l))) few
          (subst (λ (t : List Reply). Pairs Shows t (heard l us)) (sym z.0) (heard_shown l all)),
      z.1,
    )

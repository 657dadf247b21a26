-- The offer from the first that waits and the least head is the one of the rules.
use mathlib.Core.Path.{◌≡◌, refl, ap}
use mathlib.Core.Bool.{Bool, true, false, cond}
use mathlib.Core.Option.{Option}
use mathlib.Core.List.{List, [], ◌∷◌}
use lib.Dec.{ltb, eqb}
use borrow.Author.Tests.{eqb-true}
use Rattle.basics.specs.Lists.{keep, first_one, first, All, cons}
use Rattle.basics.proofs.BoolLaws.{and_left}
use Rattle.rules.specs.declared.Base.{Base}
use Rattle.std.specs.Prelude.{None}
use Rattle.rules.specs.Rows.{Record}
use Rattle.rules.specs.Merge.{Pick, none, one, pick, onto}
use Rattle.rules.specs.Streams.{ahead}
use Rattle.rules.specs.Overlap.{live, awaited}
use Rattle.rules.specs.Offer.{place_for, offer}
use Rattle.rules.specs.Call.{coming}
use Rattle.theory.proofs.Modes.{overlap_laws}
use Rattle.least.specs.Least.{best_of}
use Rattle.queue.specs.Deeds.{front_of}
use Rattle.offers.specs.Offers.{start_at, target_by, offer_by}

-- a live record lies on the base's chromosome, so its start gives the place
live_place : (b : Base) (r : Record) → live b r ≡ true → place_for b (Option.some (start_at b.chrom r.it.start)) ≡ place_for b (Option.some r)
live_place b r e =
    let on : r.it.chrom.0 ≡ b.chrom.0 = eqb-true r.it.chrom.0 b.chrom.0 (and_left (eqb r.it.chrom.0 b.chrom.0) _ e) in
    rw on

module _ (b : Base) (left : List (List Record)) where
  by_head : (o : Pick Record) → place_for b (target_by b (front_of Option.none) (best_of o)) ≡ place_for b (first (awaited b) (onto (λ ts. []) o))
  by_head none = refl
  by_head (one a rest ts) = go (awaited b a)
    where
      go : (u : Bool) → place_for b (cond u (Option.some (start_at a.it.chrom a.it.start)) Option.none) ≡ place_for b (first_one (keep u a []))
      go true = refl
      go false = refl

  by_both : (queue : List Record) → All (λ r. live b r ≡ true) queue
      → place_for b (target_by b (front_of (first_one queue)) (best_of (pick ahead left))) ≡ place_for b (first (awaited b) (coming left queue))
  by_both [] h = by_head (pick ahead left)
  by_both (r ∷ queue) (cons e h) = rw (overlap_laws.waits b b r (overlap_laws.same b) e) (live_place b r e)

  -- what waits is live for the base
  pub offer_by_lem : (queue : List Record) → All (λ r. live b r ≡ true) queue → offer_by b (front_of (first_one queue)) (best_of (pick ahead left)) ≡ offer (coming left queue) b
  unfolding offer_by offer
  offer_by_lem queue h = ap (λ (o : _). cond (ltb b.start b.stop) o None) (by_both queue h)

-- The heads in the order in which they are taken: one at a time, from what is left of each list.
use mathlib.Core.Path.{◌≡◌, refl, ap}
use mathlib.Core.Bool.{Bool, true, false, cond}
use mathlib.Core.Option.{Option}
use mathlib.Core.List.{List, [], ◌∷◌, map}
use Rattle.rules.specs.Merge.{Pick, none, one, better, pick, merge}
use Rattle.rules.specs.Streams.{Head, unless, heads}
use Rattle.theory.proofs.MergeLaws.{merge_next, merge_none}

module _ {R E : Type 0} (ahead : R → R → Bool) (flaw : R → List R → Option E) where
  -- heads compare as their records do
  abbrev pub before : Head R E → Head R E → Bool
  before x y = ahead x.it y.it

  abbrev pub head_of : R → List R → Head R E
  head_of a rest = record { it = a; fault = flaw a rest }

  -- what is picked of the heads is the head that is picked; where nothing is wrong behind it, the rest are the heads of the rest
  pub data Shows : Pick R → Pick (Head R E) → Type 0 where
    nothing : Shows none none
    picked : {a : R} {rest : List R} {ts : List (List R)} {more : List (Head R E)} {us : List (List (Head R E))}
        → (flaw a rest ≡ Option.none → us ≡ map (heads flaw) ts) → Shows (one a rest ts) (one (head_of a rest) more us)

  onward_here : (x : R) (xs : List R) (ss : List (List R)) → flaw x xs ≡ Option.none → unless (flaw x xs) (heads flaw xs) ∷ map (heads flaw) ss ≡ map (heads flaw) (xs ∷ ss)
  onward_here x xs ss e = rw e

  onward_there : (s : List R) (a : R) (rest : List R) (ts : List (List R)) {us : List (List (Head R E))} → (flaw a rest ≡ Option.none → us ≡ map (heads flaw) ts)
      → flaw a rest ≡ Option.none → heads flaw s ∷ us ≡ map (heads flaw) (s ∷ ts)
  onward_there s a rest ts h e = rw (h e)

  better_shows : (s : List R) (ss : List (List R)) {o : Pick R} {p : Pick (Head R E)} → Shows o p
      → Shows (better ahead s ss o) (better before (heads flaw s) (map (heads flaw) ss) p)
  better_shows [] ss nothing = nothing
  better_shows [] ss (picked {a} {rest} {ts} h) = picked (onward_there [] a rest ts h)
  better_shows (x ∷ xs) ss nothing = picked (onward_here x xs ss)
  better_shows (x ∷ xs) ss (picked {a} {rest} {ts} {more} {us} h) = go (ahead x a)
    where
      go : (t : Bool) → Shows (cond t (one x xs (xs ∷ ss)) (one a rest ((x ∷ xs) ∷ ts)))
          (cond t (one (head_of x xs) (unless (flaw x xs) (heads flaw xs)) (unless (flaw x xs) (heads flaw xs) ∷ map (heads flaw) ss))
          (one (head_of a rest) more (heads flaw (x ∷ xs) ∷ us)))
      go true = picked (onward_here x xs ss)
      go false = picked (onward_there (x ∷ xs) a rest ts h)

  pick_shows : (ss : List (List R)) → Shows (pick ahead ss) (pick before (map (heads flaw) ss))
  unfolding pick
  pick_shows [] = nothing
  pick_shows (s ∷ ss) = better_shows s ss (pick_shows ss)

  abbrev pub all : List (List R) → List (Head R E)
  all ss = merge before (map (heads flaw) ss)

  -- the first of the heads, and the others
  pub record Next (ss : List (List R)) (a : R) (rest : List R) (ts : List (List R)) : Type 0 where
    pub others : List (Head R E)
    pub whole : all ss ≡ head_of a rest ∷ others
    pub onward : flaw a rest ≡ Option.none → others ≡ all ts

  pub all_next : (ss : List (List R)) {a : R} {rest : List R} {ts : List (List R)} → pick ahead ss ≡ one a rest ts → Next ss a rest ts
  all_next ss {a} {rest} {ts} e = go refl (rw e at (pick_shows ss))
    where
      go : {p : Pick (Head R E)} → pick before (map (heads flaw) ss) ≡ p → Shows (one a rest ts) p → Next ss a rest ts
      go q (picked {more} {us} h) =
          record { others = merge before us; whole = merge_next before (map (heads flaw) ss) q; onward = λ f. ap (merge before) (h f) }

  pub all_none : (ss : List (List R)) → pick ahead ss ≡ none → all ss ≡ []
  all_none ss e = go refl (rw e at (pick_shows ss))
    where
      go : {p : Pick (Head R E)} → pick before (map (heads flaw) ss) ≡ p → Shows none p → all ss ≡ []
      go q nothing = merge_none before (map (heads flaw) ss) q

-- The merge: each list is in it, in its order; of sorted lists it is sorted; it goes on by one head.
use mathlib.Core.Path.{◌≡◌, refl, sym, ap, ◌∙◌}
use mathlib.Core.Bool.{Bool, true, false, cond}
use mathlib.Core.List.{List, [], ◌∷◌, map}
use mathlib.Core.Logic.{◌≢◌}
use Prim.Native.Nat.{ℕ, zero, suc, ◌<◌}
use native.Mathlib.Omega.{arith}
use lib.Dec.{eqb}
use lib.ListN.{length, length-map, get_or, set}
use lib.Seq.{get_or-set_same, get_or-set_other}
use borrow.Author.Tests.{eqb-true, eqb-false}
use Rattle.basics.specs.Lists.{keep, filter, total, All, nil, cons, Sorted, next}
use Rattle.basics.proofs.ListLaws.{all_map, all_head, all_tail}
use Rattle.rules.specs.Merge.{Pick, none, one, onto, better, pick, draw, merge}

-- a is the head of the list number `at`, rest is what follows it there, and ts are the lists without it
pub record Took {A : Type 0} (ss : List (List A)) (a : A) (rest : List A) (ts : List (List A)) : Type 0 where
  pub at : ℕ
  pub inside : at < length ss
  pub here : get_or ss at [] ≡ a ∷ rest
  pub put : ts ≡ set ss at rest
  pub fewer : total ss ≡ suc (total ts)

abbrev pub Picks : {A : Type 0} → List (List A) → Pick A → Type 0
Picks ss none = All (λ s. s ≡ []) ss
Picks ss (one a rest ts) = Took ss a rest ts

took_here : {A : Type 0} (x : A) (xs : List A) (ss : List (List A)) → Took ((x ∷ xs) ∷ ss) x xs (xs ∷ ss)
took_here x xs ss = record { at = 0; inside = omega arith; here = refl; put = refl; fewer = omega arith }

took_there : {A : Type 0} (s : List A) {ss : List (List A)} {y : A} {rest : List A} {ts : List (List A)} → Took ss y rest ts → Took (s ∷ ss) y rest (s ∷ ts)
took_there s w = record { at = suc w.at; inside = omega arith; here = w.here; put = rw w.put; fewer = omega arith }

module _ {A : Type 0} (ahead : A → A → Bool) where
  better_picks : (s : List A) (ss : List (List A)) (o : Pick A) → Picks ss o → Picks (s ∷ ss) (better ahead s ss o)
  better_picks [] ss none h = cons refl h
  better_picks [] ss (one y rest ts) h = took_there [] h
  better_picks (x ∷ xs) ss none h = took_here x xs ss
  better_picks (x ∷ xs) ss (one y rest ts) h = go (ahead x y)
    where
      go : (t : Bool) → Picks ((x ∷ xs) ∷ ss) (cond t (one x xs (xs ∷ ss)) (one y rest ((x ∷ xs) ∷ ts)))
      go true = took_here x xs ss
      go false = took_there (x ∷ xs) h

  -- what is picked is the head of a list
  pub pick_picks : (ss : List (List A)) → Picks ss (pick ahead ss)
  unfolding pick
  pick_picks [] = nil
  pick_picks (s ∷ ss) = better_picks s ss (pick ahead ss) (pick_picks ss)

  pub picked : (ss : List (List A)) (o : Pick A) → pick ahead ss ≡ o → Picks ss o
  picked ss o e = rw e at (pick_picks ss)

empty_at : {A : Type 0} {ss : List (List A)} → All (λ s. s ≡ []) ss → (j : ℕ) → get_or ss j [] ≡ []
empty_at nil j = refl
empty_at (cons h k) zero = h
empty_at (cons h k) (suc j) = empty_at k j

pub total_zero : {A : Type 0} (ss : List (List A)) → total ss ≡ 0 → All (λ s. s ≡ []) ss
total_zero [] e = nil
total_zero ([] ∷ ss) e = cons refl (total_zero ss (omega arith))
total_zero ((x ∷ s) ∷ ss) e = absurd (omega arith)

pub total_none : {A : Type 0} {ss : List (List A)} → All (λ s. s ≡ []) ss → total ss ≡ 0
total_none nil = refl
total_none (cons h k) = rw (h, total_none k)

-- ---- the merge without its count

module _ {A : Type 0} (ahead : A → A → Bool) where
  pub merge_next : (ss : List (List A)) {a : A} {rest : List A} {ts : List (List A)} → pick ahead ss ≡ one a rest ts → merge ahead ss ≡ a ∷ merge ahead ts
  unfolding merge draw
  merge_next ss {a} {rest} {ts} e = ap (λ (n : ℕ). draw ahead n ss) (picked ahead ss (one a rest ts) e).fewer ∙ rw e

  pub merge_none : (ss : List (List A)) → pick ahead ss ≡ none → merge ahead ss ≡ []
  unfolding merge draw
  merge_none ss e = ap (λ (n : ℕ). draw ahead n ss) (total_none (picked ahead ss none e))

-- ---- each list by its number

module _ {A : Type 0} {ss : List (List A)} {a : A} {rest : List A} {ts : List (List A)} (w : Took ss a rest ts) where
  pub took_at : get_or ts w.at [] ≡ rest
  took_at = rw w.put (get_or-set_same ss w.at rest [] w.inside)

  pub took_off : (j : ℕ) → j ≢ w.at → get_or ts j [] ≡ get_or ss j []
  took_off j h = rw w.put (get_or-set_other ss w.at j rest [] h)

  -- a fact of each list, by its number, that the list without its head keeps
  pub took_by : (P : ℕ → List A → Type 0) → (P w.at (a ∷ rest) → P w.at rest) → ((j : ℕ) → P j (get_or ss j [])) → (j : ℕ) → P j (get_or ts j [])
  took_by P f h j = go (eqb j w.at) refl
    where
      go : (t : Bool) → eqb j w.at ≡ t → P j (get_or ts j [])
      go true e = rw (eqb-true j w.at e, took_at) (f (rw w.here at (h w.at)))
      go false e = rw (took_off j (eqb-false j w.at e)) (h j)

-- the elements of list j have the number j
abbrev pub Numbered : {A : Type 0} → (A → ℕ) → List (List A) → Type 0
Numbered {A} num ss = (j : ℕ) → All (λ a. num a ≡ j) (get_or ss j [])

module _ {A : Type 0} (ahead : A → A → Bool) (num : A → ℕ) where
  own : (j : ℕ) (ss : List (List A)) → Numbered num ss → (o : Pick A) → Picks ss o → (f : List (List A) → List A)
      → ((a : A) (rest : List A) (ts : List (List A)) → Took ss a rest ts → filter (λ x. eqb (num x) j) (f ts) ≡ get_or ts j [])
      → filter (λ x. eqb (num x) j) (onto f o) ≡ get_or ss j []
  own j ss h none p f k = sym (empty_at p j)
  own j ss h (one a rest ts) p f k = rw (k a rest ts p, all_head (rw p.here at (h p.at))) (go (eqb p.at j) refl)
    where
      go : (t : Bool) → eqb p.at j ≡ t → keep t a (get_or ts j []) ≡ get_or ss j []
      go true e = rw (← eqb-true p.at j e, took_at p, p.here)
      go false e = took_off p j (λ q. eqb-false p.at j e (sym q))

  draw_own : (n : ℕ) (ss : List (List A)) → total ss ≡ n → Numbered num ss → (j : ℕ) → filter (λ x. eqb (num x) j) (draw ahead n ss) ≡ get_or ss j []
  unfolding draw
  draw_own zero ss e h j = sym (empty_at (total_zero ss e) j)
  draw_own (suc n) ss e h j =
      own j ss h (pick ahead ss) (pick_picks ahead ss) (draw ahead n)
      (λ a rest ts w. draw_own n ts (omega (arith, w.fewer)) (took_by w (λ i l. All (λ x. num x ≡ i) l) all_tail h) j)

  -- the elements numbered j are list j, in its order, each once
  pub merge_own : (ss : List (List A)) → Numbered num ss → (j : ℕ) → filter (λ x. eqb (num x) j) (merge ahead ss) ≡ get_or ss j []
  unfolding merge
  merge_own ss h j = draw_own (total ss) ss refl h j

-- ---- a fact of all, and order

-- a fact of each list
abbrev pub Each : {A : Type 0} → (List A → Type 0) → List (List A) → Type 0
Each P ss = (j : ℕ) → P (get_or ss j [])

each_cons : {A : Type 0} (P : List A → Type 0) (s : List A) (ss : List (List A)) → P s → Each P ss → Each P (s ∷ ss)
each_cons P s ss h k zero = h
each_cons P s ss h k (suc j) = k j

took_each : {A : Type 0} {ss : List (List A)} {a : A} {rest : List A} {ts : List (List A)} (P : List A → Type 0) → ((l : List A) → P (a ∷ l) → P l) → Took ss a rest ts → Each P ss → Each P ts
took_each {rest} P f w h = took_by w (λ i l. P l) (f rest) h

module _ {A : Type 0} (ahead : A → A → Bool) (P : A → Type 0) where
  drawn_all : (ss : List (List A)) → Each (All P) ss → (o : Pick A) → Picks ss o → (f : List (List A) → List A) → ((ts : List (List A)) → Each (All P) ts → All P (f ts)) → All P (onto f o)
  drawn_all ss h none p f k = nil
  drawn_all ss h (one a rest ts) p f k = cons (all_head (rw p.here at (h p.at))) (k ts (took_each (All P) (λ l. all_tail) p h))

  pub draw_all : (n : ℕ) (ss : List (List A)) → Each (All P) ss → All P (draw ahead n ss)
  unfolding draw
  draw_all zero ss h = nil
  draw_all (suc n) ss h = drawn_all ss h (pick ahead ss) (pick_picks ahead ss) (draw ahead n) (λ ts k. draw_all n ts k)

  -- a fact of all elements is a fact of all of the merge
  pub merge_all : (ss : List (List A)) → Each (All P) ss → All P (merge ahead ss)
  unfolding merge
  merge_all ss h = draw_all (total ss) ss h

-- what the test of a merge has to satisfy for an order
pub record Decides {A : Type 0} (le : A → A → Type 0) (ahead : A → A → Bool) : Type 0 where
  pub refl_le : (x : A) → le x x
  pub trans_le : (x y z : A) → le x y → le y z → le x z
  pub passes : (x y : A) → ahead x y ≡ true → le x y
  pub fails : (x y : A) → ahead x y ≡ false → le y x

module _ {A : Type 0} (le : A → A → Type 0) (ahead : A → A → Bool) (laws : Decides le ahead) where
  abbrev Low : List (List A) → Pick A → Type 0
  Low ss none = All (λ s. s ≡ []) ss
  Low ss (one a rest ts) = Each (All (le a)) ss

  -- an element that stands ahead of a head stands ahead of its list
  all_from : (x : A) {y : A} {l : List A} → le x y → Sorted le (y ∷ l) → All (le x) (y ∷ l)
  all_from x {y} h (next k _) = cons h (all_map (λ z q. laws.trans_le x y z h q) k)

  better_low : (s : List A) (ss : List (List A)) → Sorted le s → (o : Pick A) → Low ss o → Low (s ∷ ss) (better ahead s ss o)
  better_low [] ss h none k = cons refl k
  better_low [] ss h (one y rest ts) k = each_cons (All (le y)) [] ss nil k
  better_low (x ∷ xs) ss h none k = each_cons (All (le x)) (x ∷ xs) ss (all_from x (laws.refl_le x) h) (λ j. rw (empty_at k j) nil)
  better_low (x ∷ xs) ss h (one y rest ts) k = go (ahead x y) refl
    where
      go : (t : Bool) → ahead x y ≡ t → Low ((x ∷ xs) ∷ ss) (cond t (one x xs (xs ∷ ss)) (one y rest ((x ∷ xs) ∷ ts)))
      go true e = each_cons (All (le x)) (x ∷ xs) ss (all_from x (laws.refl_le x) h) (λ j. all_map (λ z q. laws.trans_le x y z (laws.passes x y e) q) (k j))
      go false e = each_cons (All (le y)) (x ∷ xs) ss (all_from y (laws.fails x y e) h) k

  pick_low : (ss : List (List A)) → Each (Sorted le) ss → Low ss (pick ahead ss)
  unfolding pick
  pick_low [] h = nil
  pick_low (s ∷ ss) h = better_low s ss (h 0) (pick ahead ss) (pick_low ss (λ j. h (suc j)))

  sorted_tail : (x : A) (l : List A) → Sorted le (x ∷ l) → Sorted le l
  sorted_tail x l (next _ k) = k

  drawn_sorted : (n : ℕ) (ss : List (List A)) → Each (Sorted le) ss → (o : Pick A) → Picks ss o → Low ss o
      → ((ts : List (List A)) → Each (Sorted le) ts → Sorted le (draw ahead n ts)) → Sorted le (onto (draw ahead n) o)
  drawn_sorted n ss h none p k f = Sorted.none
  drawn_sorted n ss h (one a rest ts) p k f =
      next (draw_all ahead (le a) n ts (took_each (All (le a)) (λ l. all_tail) p k)) (f ts (took_each (Sorted le) (sorted_tail a) p h))

  draw_sorted : (n : ℕ) (ss : List (List A)) → Each (Sorted le) ss → Sorted le (draw ahead n ss)
  unfolding draw
  draw_sorted zero ss h = Sorted.none
  draw_sorted (suc n) ss h = drawn_sorted n ss h (pick ahead ss) (pick_picks ahead ss) (pick_low ss h) (λ ts k. draw_sorted n ts k)

  -- the merge of sorted lists is sorted
  pub merge_sorted : (ss : List (List A)) → Each (Sorted le) ss → Sorted le (merge ahead ss)
  unfolding merge
  merge_sorted ss h = draw_sorted (total ss) ss h

-- ---- a function that keeps the order goes through the merge

module _ {A B : Type 0} (f : A → B) (ahead : B → B → Bool) where
  abbrev pub through : A → A → Bool
  through x y = ahead (f x) (f y)

  abbrev pick_map : Pick A → Pick B
  pick_map none = none
  pick_map (one a rest ts) = one (f a) (map f rest) (map (map f) ts)

  better_map : (s : List A) (ss : List (List A)) (o : Pick A) → better ahead (map f s) (map (map f) ss) (pick_map o) ≡ pick_map (better through s ss o)
  better_map [] ss none = refl
  better_map [] ss (one y rest ts) = refl
  better_map (x ∷ xs) ss none = refl
  better_map (x ∷ xs) ss (one y rest ts) = go (ahead (f x) (f y))
    where
      go : (t : Bool) → cond t (one (f x) (map f xs) (map f xs ∷ map (map f) ss)) (one (f y) (map f rest) (map f (x ∷ xs) ∷ map (map f) ts))
          ≡ pick_map (cond t (one x xs (xs ∷ ss)) (one y rest ((x ∷ xs) ∷ ts)))
      go true = refl
      go false = refl

  pick_map_lem : (ss : List (List A)) → pick ahead (map (map f) ss) ≡ pick_map (pick through ss)
  unfolding pick
  pick_map_lem [] = refl
  pick_map_lem (s ∷ ss) = rw (pick_map_lem ss) (better_map s ss (pick through ss))

  draw_map : (n : ℕ) (ss : List (List A)) → draw ahead n (map (map f) ss) ≡ map f (draw through n ss)
  unfolding draw
  draw_map zero ss = refl
  draw_map (suc n) ss = rw (pick_map_lem ss) (go (pick through ss) (draw_map n))
    where
      go : (o : Pick A) → ((ts : List (List A)) → draw ahead n (map (map f) ts) ≡ map f (draw through n ts)) → onto (draw ahead n) (pick_map o) ≡ map f (onto (draw through n) o)
      go none k = refl
      go (one a rest ts) k = rw (k ts)

  total_map : (ss : List (List A)) → total (map (map f) ss) ≡ total ss
  total_map [] = refl
  total_map (s ∷ ss) = rw (total_map ss, length-map s f)

  pub merge_map : (ss : List (List A)) → merge ahead (map (map f) ss) ≡ map f (merge through ss)
  unfolding merge
  merge_map ss = rw (total_map ss) (draw_map (total ss) ss)

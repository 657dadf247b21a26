-- The best of the heads is the one that the merge takes next.
use mathlib.Core.Path.{◌≡◌, refl, sym, ap, ◌∙◌}
use mathlib.Core.Bool.{Bool, true, false, cond, not, ◌||◌}
use mathlib.Core.List.{List, [], ◌∷◌}
use Prim.Native.Nat.{ℕ, zero, suc, ◌+◌, ◌-◌, ◌<◌, ◌≤◌}
use native.Mathlib.Omega.{arith}
use lib.Dec.{ltb, leb}
use lib.ListN.{get_or}
use borrow.Author.Tests.{le-leb, lt-leb, leb-true, leb-false}
use Rattle.basics.specs.Lex.{lex}
use Rattle.basics.specs.Build.{build}
use Rattle.basics.proofs.LexLaws.{lex_not, lex_off}
use Rattle.basics.proofs.BuildLaws.{build_front, build_none, build_get, build_length}
use Rattle.rules.specs.Rows.{Record}
use Rattle.rules.specs.Merge.{Pick, none, one, better, pick}
use Rattle.rules.specs.Streams.{ahead}
use Rattle.theory.proofs.MergeLaws.{Picks, pick_picks}
use Rattle.least.specs.declared.Best.{Best}
use Rattle.least.specs.Fours.{is_ended, unless_ended, record_from, left_at}
use Rattle.least.specs.Least.{head_of, best_of, sooner, best_at, earlier, better_of, best_from, least_in, stream_of}
use Rattle.std.specs.Prelude.{Option, Some, None}
use Rattle.rules.specs.declared.Stream.{Stream}

-- places past the streams have no head
pub best_none : (q : List (List ℕ)) (ended : List ℕ) (n k i : ℕ) → n ≤ i → best_from q ended n k i ≡ None
unfolding better_of
best_none q ended n zero i h = refl
best_none q ended n (suc k) i h = rw (le-leb n i h) (best_none q ended n k (suc i) (omega arith))

-- of one or two streams, the first two places alone
pub of_two : (q : List (List ℕ)) (ended : List ℕ) (n : ℕ) → n ≤ 2
    → least_in q ended n ≡ better_of (record { 0 = 0 }) n (get_or q 0 []) (is_ended (get_or ended 0 0)) (better_of (record { 0 = 1 }) n (get_or q 1 []) (is_ended (get_or ended 1 0)) None)
of_two q ended n h = rw (best_none q ended n 6 2 h)

-- the stream of the least head of one stream, and of two
abbrev only : ℕ → Option Stream
only k = Some (record { 0 = k })

of_few : (q : List (List ℕ)) (ended : List ℕ) (n : ℕ) → 0 < n → n ≤ 2 → (t u s : Bool) → t ≡ is_ended (get_or ended 0 0) → u ≡ (leb n 1 || is_ended (get_or ended 1 0)) → s ≡ sooner (best_at (record { 0 = 1 }) (get_or q 1 [])) (get_or q 0 [])
    → cond u (cond t None (only 0)) (cond t (only 1) (cond s (only 1) (only 0))) ≡ stream_of (least_in q ended n)
unfolding better_of
of_few q ended n lo hi t u s e f g = rw (of_two q ended n hi, lt-leb n 0 lo, ← e) (past (leb n 1) (is_ended (get_or ended 1 0)) f)
  where
    go : (t u s : Bool) → s ≡ sooner (best_at (record { 0 = 1 }) (get_or q 1 [])) (get_or q 0 []) → cond u (cond t None (only 0)) (cond t (only 1) (cond s (only 1) (only 0)))
        ≡ stream_of (let b = cond u None (Some (best_at (record { 0 = 1 }) (get_or q 1 []))) in cond t b (Some (earlier (record { 0 = 0 }) (get_or q 0 []) b)))
    go true true s g = refl
    go false true s g = refl
    go true false s g = refl
    go false false s g = rw (← g) (last s)
      where
        last : (s : Bool) → cond s (only 1) (only 0) ≡ Some (cond s (best_at (record { 0 = 1 }) (get_or q 1 [])) (best_at (record { 0 = 0 }) (get_or q 0 []))).stream
        last true = refl
        last false = refl

    past : (a d : Bool) → u ≡ (a || d) → cond u (cond t None (only 0)) (cond t (only 1) (cond s (only 1) (only 0)))
        ≡ stream_of (let b = cond a None (cond d None (Some (best_at (record { 0 = 1 }) (get_or q 1 [])))) in cond t b (Some (earlier (record { 0 = 0 }) (get_or q 0 []) b)))
    past true d z = rw z (go t true s g)
    past false true z = rw z (go t true s g)
    past false false z = rw z (go t false s g)

pub of_one : (q : List (List ℕ)) (ended : List ℕ) (n : ℕ) → 0 < n → n < 2 → (t : Bool) → t ≡ is_ended (get_or ended 0 0) → cond t None (only 0) ≡ stream_of (least_in q ended n)
of_one q ended n lo hi t e =
    let u : true ≡ (leb n 1 || is_ended (get_or ended 1 0)) = rw (le-leb n 1 (omega arith)) refl in
    of_few q ended n lo (omega arith) t true (sooner (best_at (record { 0 = 1 }) (get_or q 1 [])) (get_or q 0 [])) e u refl

pub of_both : (q : List (List ℕ)) (ended : List ℕ) (n : ℕ) → 2 ≤ n → n ≤ 2 → (t u s : Bool) → t ≡ is_ended (get_or ended 0 0) → u ≡ is_ended (get_or ended 1 0) → s ≡ sooner (best_at (record { 0 = 1 }) (get_or q 1 [])) (get_or q 0 [])
    → cond u (cond t None (only 0)) (cond t (only 1) (cond s (only 1) (only 0))) ≡ stream_of (least_in q ended n)
of_both q ended n lo hi t u s e f g =
    let v : u ≡ (leb n 1 || is_ended (get_or ended 1 0)) = rw (lt-leb n 1 (omega arith)) f in
    of_few q ended n (omega arith) hi t u s e v g

-- the best is the head of the stream that it names, one of eight
module _ (q : List (List ℕ)) (ended : List ℕ) (n : ℕ) where
  pub record Mine (b : Best) : Type 0 where
    pub inside : b.stream.0 < 8
    pub is : best_at b.stream (get_or q b.stream.0 []) ≡ b

  abbrev Named : Option Best → Type 0
  Named None = Unit {0}
  Named (Some b) = Mine b

  either : (t : Bool) (x y : Option Best) → Named x → Named y → Named (cond t x y)
  either true x y u v = u
  either false x y u v = v

  chosen_mine : (t : Bool) {x y : Best} → Mine x → Mine y → Mine (cond t x y)
  chosen_mine true u v = u
  chosen_mine false u v = v

  sooner_mine : (k : Stream) (o : Option Best) → k.0 < 8 → Named o → Mine (earlier k (get_or q k.0 []) o)
  sooner_mine k None h m = record { inside = h; is = refl }
  sooner_mine k (Some b) h m = chosen_mine (sooner b (get_or q k.0 [])) m (record { inside = h; is = refl })

  named : (k i : ℕ) → i + k ≡ 8 → Named (best_from q ended n k i)
  unfolding better_of
  named zero i e = tt
  named (suc k) i e =
      let later : Named (best_from q ended n k (suc i)) = named k (suc i) (omega arith) in
      either (leb n i) _ _ later (either (is_ended (get_or ended i 0)) _ _ later (sooner_mine (record { 0 = i }) (best_from q ended n k (suc i)) (omega arith) later))

  pub record LeastAt (k : Stream) : Type 0 where
    pub inside : k.0 < 8
    pub is : Some (best_at k (get_or q k.0 [])) ≡ least_in q ended n

  pub least_none : None ≡ stream_of (least_in q ended n) → None ≡ least_in q ended n
  least_none e = go (least_in q ended n) e
    where
      go : (o : Option Best) → None ≡ stream_of o → None ≡ o
      go None e = refl
      go (Some b) e = let z : ◌≡◌ {A = ℕ} 0 1 = cc in absurd (omega arith)

  pub least_at : (k : Stream) → Some k ≡ stream_of (least_in q ended n) → LeastAt k
  least_at k e = let w = go (least_in q ended n) (named 8 0 (omega arith)) e in record { inside = w.0; is = w.1 }
    where
      go : (o : Option Best) → Named o → Some k ≡ stream_of o → (k.0 < 8) × (Some (best_at k (get_or q k.0 [])) ≡ o)
      go None m e = let z : ◌≡◌ {A = ℕ} 0 1 = cc in absurd (omega arith)
      go (Some b) m e = let z : k ≡ b.stream = cc in rw z (m.inside, ap Some m.is)

  pub least_inside : (h : Best) → Some h ≡ least_in q ended n → h.stream.0 < 8
  least_inside h e = (least_at h.stream (ap stream_of e)).inside

-- of two heads, the earlier stream's is taken unless the other is sooner
ahead_sooner : (x y : Record) (l : List ℕ) → x.stream.0 ≤ y.stream.0 → x ≡ record_from x.stream.0 l → ahead x y ≡ not (sooner (head_of y) l)
unfolding sooner
ahead_sooner x y l h e =
    rw (e, le-leb x.stream.0 y.stream.0 h)
    (ap (λ (t : Bool). lex (get_or l 0 0) y.it.chrom.0 (lex (get_or l 1 0) y.it.start t)) (lex_not (get_or l 2 0) y.it.stop false ∙ ap not (lex_off y.it.stop (get_or l 2 0)))
    ∙ ap (lex (get_or l 0 0) y.it.chrom.0) (lex_not (get_or l 1 0) y.it.start (ltb y.it.stop (get_or l 2 0)))
    ∙ lex_not (get_or l 0 0) y.it.chrom.0 (lex y.it.start (get_or l 1 0) (ltb y.it.stop (get_or l 2 0))))

-- what is picked, if anything, is of the streams from i on, of eight
abbrev From : ℕ → Pick Record → Type 0
From i none = Unit {0}
From i (one y rest ts) = (i ≤ y.stream.0) × (y.stream.0 < 8)

-- one stream's head against what is picked of the later ones
best_better : (i n : ℕ) (l : List ℕ) (dead : Bool) (xs : List Record) (ss : List (List Record)) (o : Pick Record) → i < n → From (suc i) o
    → best_of (better ahead (unless_ended dead (record_from i l ∷ xs)) ss o) ≡ better_of (record { 0 = i }) n l dead (best_of o)
unfolding better_of
best_better i n l true xs ss none h f = rw (lt-leb n i h)
best_better i n l true xs ss (one y rest ts) h f = rw (lt-leb n i h)
best_better i n l false xs ss none h f = rw (lt-leb n i h)
best_better i n l false xs ss (one y rest ts) h f =
    rw (lt-leb n i h, ahead_sooner (record_from i l) y l (omega (arith, f.0)) refl) (go (sooner (head_of y) l))
  where
    go : (t : Bool) → best_of (cond (not t) (one (record_from i l) xs (xs ∷ ss)) (one y rest ((record_from i l ∷ xs) ∷ ts))) ≡ Some (cond t (head_of y) (best_at (record { 0 = i }) l))
    go true = refl
    go false = refl

module _ (q : List (List ℕ)) (ended : List ℕ) (behind : ℕ → List Record) (n : ℕ) (few : n ≤ 8) where
  abbrev left : ℕ → List Record
  left = left_at q ended behind

  -- the head of a list that is built has that list's number
  pub own_number : (k : ℕ) (dead : Bool) (l : List ℕ) (xs : List Record) {y : Record} {rest : List Record} → unless_ended dead (record_from k l ∷ xs) ≡ y ∷ rest → y.stream.0 ≡ k
  own_number k true l xs e = let z : ◌≡◌ {A = ℕ} 0 1 = cc in absurd (omega arith)
  own_number k false l xs {y} e = let z : y ≡ record_from k l = cc in rw z

  from_here_lem : (i : ℕ) → i ≤ n → (o : Pick Record) → Picks (build left (n - i) i) o → From i o
  from_here_lem i h none p = tt
  from_here_lem i h (one y rest ts) p =
      let inside : p.at < n - i = rw (build_length left (n - i) i) at p.inside in
      let k : ℕ = i + p.at in
      let mine : y.stream.0 ≡ k = own_number k (is_ended (get_or ended k 0)) (get_or q k []) (behind k) (sym (build_get left (n - i) i p.at [] inside) ∙ p.here) in
      (omega arith, omega arith)

  -- one more stream
  best_next : (k i : ℕ) → best_from q ended n k (suc i) ≡ best_of (pick ahead (build left (n - suc i) (suc i))) → (t : Bool) → leb n i ≡ t
      → best_from q ended n (suc k) i ≡ best_of (pick ahead (build left (n - i) i))
  unfolding pick
  best_next k i ih true u = best_none q ended n (suc k) i (leb-true n i u) ∙ rw (build_none left n i (leb-true n i u))
  best_next k i ih false u =
      let below : i < n = leb-false n i u in
      let one_on : i + 1 ≡ suc i = omega arith in
      rw (build_front left n i below, one_on, ih)
      (sym (best_better i n (get_or q i []) (is_ended (get_or ended i 0)) (behind i) (build left (n - suc i) (suc i)) (pick ahead (build left (n - suc i) (suc i))) below
      (from_here_lem (suc i) below (pick ahead (build left (n - suc i) (suc i))) (pick_picks ahead (build left (n - suc i) (suc i))))))

  best_from_lem : (k i : ℕ) → i + k ≡ 8 → best_from q ended n k i ≡ best_of (pick ahead (build left (n - i) i))
  unfolding pick
  best_from_lem zero i e = rw (build_none left n i (omega arith))
  best_from_lem (suc k) i e = best_next k i (best_from_lem k (suc i) (omega arith)) (leb n i) refl

  -- the least head is the one that the merge takes next
  pub least_pick : least_in q ended n ≡ best_of (pick ahead (build left n 0))
  least_pick = let z : n - 0 ≡ n = omega arith in rw z at (best_from_lem 8 0 (omega arith))

-- the best of the places from k on, and place k - 1 ahead of them
pub one_back : (q : List (List ℕ)) (ended : List ℕ) (n k : ℕ) → 0 < k → k ≤ 8 → {b r : Option Best} → b ≡ best_from q ended n (8 - k) k
    → r ≡ better_of (record { 0 = k - 1 }) n (get_or q (k - 1) []) (is_ended (get_or ended (k - 1) 0)) b → r ≡ best_from q ended n (8 - (k - 1)) (k - 1)
one_back q ended n k low high {b} {r} p e =
    let i : 8 - (k - 1) ≡ suc (8 - k) = omega arith in
    let j : suc (k - 1) ≡ k = omega arith in
    rw (i, j) (rw p at e)

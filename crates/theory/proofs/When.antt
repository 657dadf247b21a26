-- "Then say exactly when": for valid streams, 9 comes exactly at the first accepted base that more than Q records overlap. What 9 counts beyond the records
-- of the base in hand is what an earlier base of its chromosome reached further for, and all of that overlaps the earlier one.
use mathlib.Core.Path.{◌≡◌, refl, sym, ◌∙◌}
use mathlib.Core.Bool.{Bool, true, false, cond}
use mathlib.Core.Option.{Option, none, some}
use mathlib.Core.List.{List, [], ◌∷◌}
use Prim.Native.Nat.{ℕ, ◌≤◌, max}
use native.Mathlib.Omega.{arith}
use lib.Dec.{eqb, ltb, leb}
use lib.ListN.{length}
use borrow.Author.Tests.{ltb-true, ltb-false, lt-ltb, le-ltb, leb-true, leb-false, eqb-true, eq-eqb}
use Rattle.basics.specs.Lists.{is_some, filter, first_one, All, nil, cons}
use Rattle.basics.specs.Lex.{lex, Lex}
use Rattle.basics.proofs.BoolLaws.{and_left, and_also}
use Rattle.basics.proofs.LexLaws.{lex_true, lex_map, lex_trans}
use Rattle.basics.proofs.ListLaws.{all_map, all_both, all_of, length_mono}
use Rattle.rules.specs.declared.Base.{Base}
use Rattle.rules.specs.declared.Refusal.{Refusal}
use Rattle.rules.specs.Rows.{Record}
use Rattle.rules.specs.Overlap.{reaches, lasts, meets, overlaps}
use Rattle.rules.specs.Bases.{not_before, in_order, judge}
use Rattle.rules.specs.Job.{Job, merged_of}
use Rattle.rules.specs.Promise.{top, crowds, crowd}
use Rattle.rules.specs.Demands.{overfull, crowded}
use Rattle.theory.proofs.Answers.{judge_order}

-- ---- bases in order

-- b lies on a later chromosome than p, or on p's and starts no earlier
abbrev Behind : Base → Base → Type 0
Behind p b = Lex p.chrom.0 b.chrom.0 (p.start ≤ b.start)

not_before_lem : (p b : Base) → not_before p b ≡ true → Behind p b
not_before_lem p b e = lex_map (λ (i : lex p.start b.start (leb p.stop b.stop) ≡ true). (lex_true p.start b.start (leb p.stop b.stop) i).below)
    (lex_true p.chrom.0 b.chrom.0 (lex p.start b.start (leb p.stop b.stop)) e)

-- whatever may follow lies behind all of them
abbrev Ordered : List Base → Type 0
Ordered hs = (b : Base) → in_order (first_one hs) b ≡ true → All (λ p. Behind p b) hs

ordered : (hs : List Base) (a : Base) → Ordered hs → in_order (first_one hs) a ≡ true → Ordered (a ∷ hs)
ordered hs a o e b f =
    let i : Behind a b = not_before_lem a b f in
    cons i (all_map (λ p (k : Behind p a). lex_trans {a = p.chrom.0} (λ (x : p.start ≤ a.start) (y : a.start ≤ b.start). omega (arith, x, y)) k i) (o a e))

-- the largest stop is at least the base's own
top_most : (c n : ℕ) (hs : List Base) → n ≤ top c n hs
top_most c n [] = omega arith
top_most c n (p ∷ ps) = go (eqb p.chrom.0 c) (top c n ps) (top_most c n ps)
  where
    go : (u : Bool) (t : ℕ) → n ≤ t → n ≤ cond u (max p.stop t) t
    go true t h = omega (arith, h)
    go false t h = h

-- ---- what 9 counts

-- of an earlier base that reaches further: what is counted up to its stop overlaps it
further : (p b : Base) → eqb p.chrom.0 b.chrom.0 ≡ true → Behind p b → (r : Record) → crowds b p.stop r ≡ true → overlaps p r ≡ true
further p b e i r h =
    let on : r.it.chrom.0 ≡ b.chrom.0 = eqb-true r.it.chrom.0 b.chrom.0 (and_left (eqb r.it.chrom.0 b.chrom.0) (meets b.start p.stop r.it.start r.it.stop) h) in
    let m : meets b.start p.stop r.it.start r.it.stop ≡ true = and_also (eqb r.it.chrom.0 b.chrom.0) (meets b.start p.stop r.it.start r.it.stop) h in
    let near : reaches p.stop r.it.start ≡ true = and_left (reaches p.stop r.it.start) (lasts b.start r.it.stop) m in
    let long : lasts b.start r.it.stop ≡ true = and_also (reaches p.stop r.it.start) (lasts b.start r.it.stop) m in
    let same : p.chrom.0 ≡ b.chrom.0 = eqb-true p.chrom.0 b.chrom.0 e in
    let still : lasts p.start r.it.stop ≡ true = lt-ltb p.start r.it.stop (omega (arith, i.tie same, ltb-true b.start r.it.stop long)) in
    rw (eq-eqb r.it.chrom.0 p.chrom.0 (on ∙ sym same), near, still)

-- its own records are counted
own : (b : Base) (hs : List Base) (r : Record) → overlaps b r ≡ true → crowds b (top b.chrom.0 b.stop hs) r ≡ true
own b hs r h =
    let on : eqb r.it.chrom.0 b.chrom.0 ≡ true = and_left (eqb r.it.chrom.0 b.chrom.0) (meets b.start b.stop r.it.start r.it.stop) h in
    let m : meets b.start b.stop r.it.start r.it.stop ≡ true = and_also (eqb r.it.chrom.0 b.chrom.0) (meets b.start b.stop r.it.start r.it.stop) h in
    let near : reaches b.stop r.it.start ≡ true = and_left (reaches b.stop r.it.start) (lasts b.start r.it.stop) m in
    let long : lasts b.start r.it.stop ≡ true = and_also (reaches b.stop r.it.start) (lasts b.start r.it.stop) m in
    let nearer : reaches (top b.chrom.0 b.stop hs) r.it.start ≡ true = lt-ltb r.it.start (top b.chrom.0 b.stop hs) (omega (arith, ltb-true r.it.start b.stop near, top_most b.chrom.0 b.stop hs)) in
    rw (on, nearer, long)

module _ (j : Job) where
  abbrev M : List Record
  M = merged_of j

  -- no more than Q records overlap it
  abbrev Few : Base → Type 0
  Few b = length (filter (overlaps b) M) ≤ j.room

  -- up to the stop of an earlier base, or up to t, whichever is larger
  up_to : (b p : Base) (t : ℕ) → eqb p.chrom.0 b.chrom.0 ≡ true → Behind p b → Few p → length (filter (crowds b t) M) ≤ j.room → length (filter (crowds b (max p.stop t)) M) ≤ j.room
  up_to b p t e i few f = go (leb p.stop t) refl
    where
      go : (d : Bool) → leb p.stop t ≡ d → length (filter (crowds b (max p.stop t)) M) ≤ j.room
      go true u =
          let m : max p.stop t ≡ t = omega (arith, leb-true p.stop t u) in
          rw m f
      go false u =
          let m : max p.stop t ≡ p.stop = omega (arith, leb-false p.stop t u) in
          rw m (omega (arith, few, length_mono {p = crowds b p.stop} {q = overlaps p} (all_of (further p b e i) M)))

  counted : (b : Base) (hs : List Base) → All (λ p. Behind p b × Few p) hs → Few b → length (crowd M hs b) ≤ j.room
  counted b [] nil f = f
  counted b (p ∷ ps) (cons (i, few) k) f = go (eqb p.chrom.0 b.chrom.0) refl (top b.chrom.0 b.stop ps) (counted b ps k f)
    where
      go : (c : Bool) → eqb p.chrom.0 b.chrom.0 ≡ c → (t : ℕ) → length (filter (crowds b t) M) ≤ j.room → length (filter (crowds b (cond c (max p.stop t) t)) M) ≤ j.room
      go true e t h = up_to b p t e i few h
      go false e t h = h

  -- so the two tests agree, where the bases ahead have room
  same_test : (b : Base) (hs : List Base) → All (λ p. Behind p b × Few p) hs → ltb j.room (length (crowd M hs b)) ≡ ltb j.room (length (filter (overlaps b) M))
  same_test b hs k = go (ltb j.room (length (filter (overlaps b) M))) refl
    where
      go : (c : Bool) → ltb j.room (length (filter (overlaps b) M)) ≡ c → ltb j.room (length (crowd M hs b)) ≡ c
      go true e = lt-ltb j.room (length (crowd M hs b)) (omega (arith, ltb-true j.room (length (filter (overlaps b) M)) e, length_mono {p = overlaps b} {q = crowds b (top b.chrom.0 b.stop hs)} (all_of (own b hs) M)))
      go false e = le-ltb j.room (length (crowd M hs b)) (counted b hs k (omega (arith, ltb-false j.room (length (filter (overlaps b) M)) e)))

  -- so 9 comes exactly at the first accepted base that more than Q records overlap
  pub full_when : (hs bs : List Base) → Ordered hs → All Few hs → overfull j hs bs ≡ crowded j hs bs
  full_when hs [] o f = refl
  full_when hs (b ∷ bs) o f = go (judge j.lengths (first_one hs) b) refl (full_when hs bs o f) (full_when (b ∷ hs) bs)
    where
      on : (c : Bool) → ltb j.room (length (filter (overlaps b) M)) ≡ c → in_order (first_one hs) b ≡ true → (Ordered (b ∷ hs) → All Few (b ∷ hs) → overfull j (b ∷ hs) bs ≡ crowded j (b ∷ hs) bs)
          → cond c true (overfull j (b ∷ hs) bs) ≡ cond c true (crowded j (b ∷ hs) bs)
      on true e i more = refl
      on false e i more = more (ordered hs b o i) (cons (omega (arith, ltb-false j.room (length (filter (overlaps b) M)) e)) f)

      go : (x : Option Refusal) → judge j.lengths (first_one hs) b ≡ x → overfull j hs bs ≡ crowded j hs bs → (Ordered (b ∷ hs) → All Few (b ∷ hs) → overfull j (b ∷ hs) bs ≡ crowded j (b ∷ hs) bs)
          → cond (is_some x) (overfull j hs bs) (cond (ltb j.room (length (crowd M hs b))) true (overfull j (b ∷ hs) bs))
          ≡ cond (is_some x) (crowded j hs bs) (cond (ltb j.room (length (filter (overlaps b) M))) true (crowded j (b ∷ hs) bs))
      go (some x) e same more = same
      go none e same more =
          let i : in_order (first_one hs) b ≡ true = judge_order j.lengths (first_one hs) b e in
          rw (same_test b hs (all_both (o b i) f)) (on (ltb j.room (length (filter (overlaps b) M))) refl i more)

-- The modes over records: two tests on numbers say how far a base reaches and how long a record lasts. Overlap is one of them.
use mathlib.Core.Path.{◌≡◌, refl, sym, ◌∙◌}
use mathlib.Core.Bool.{Bool, true, false, cond, ◌&&◌, ◌||◌}
use mathlib.Core.List.{List, ◌∷◌}
use Prim.Native.Nat.{ℕ, suc, ◌≤◌, ◌<◌, max}
use native.Mathlib.Omega.{arith}
use lib.Dec.{eqb, ltb, leb}
use borrow.Author.Tests.{ltb-true, ltb-false, leb-true, leb-false, lt-ltb, le-ltb, le-leb, lt-leb, eqb-true, eqb-false, eq-eqb}
use Rattle.basics.specs.Lists.{filter, All, nil, cons}
use Rattle.basics.specs.Lex.{lex, Lex}
use Rattle.basics.proofs.BoolLaws.{and_left, and_also, and_cong, and_swap, or_none, or_swap}
use Rattle.basics.proofs.ListLaws.{filter_cong, all_of, all_map}
use Rattle.basics.proofs.LexLaws.{lex_true, lex_false, lex_pass, lex_fail, lex_map, lex_refl, lex_trans, lex_on, lex_same, lex_above}
use Rattle.rules.specs.declared.Row.{Row}
use Rattle.rules.specs.declared.Base.{Base}
use Rattle.rules.specs.Rows.{Record}
use Rattle.rules.specs.Overlap.{overlaps, taken, live, awaited}
use Rattle.rules.specs.Bases.{not_before}
use Rattle.rules.specs.Promise.{top, crowd}
use Rattle.theory.proofs.Mode.{Mode, Laws, Since, took, due, held}

-- ---- the orders, as facts

-- of rows in a stream and of records in the merged list: by chromosome and start
abbrev pub Onward : Row → Row → Type 0
Onward p r = Lex p.chrom.0 r.chrom.0 (p.start ≤ r.start)

abbrev pub Le : Record → Record → Type 0
Le a b = Onward a.it b.it

-- of bases: by chromosome, start and stop
abbrev pub Before : Base → Base → Type 0
Before a b = Lex a.chrom.0 b.chrom.0 (Lex a.start b.start (a.stop ≤ b.stop))

pub before_not : (p b : Base) → not_before p b ≡ true → Before p b
before_not p b e = lex_map (λ f. lex_map (leb-true p.stop b.stop) (lex_true p.start b.start _ f)) (lex_true p.chrom.0 b.chrom.0 _ e)

pub before_trans : (p q r : Base) → Before p q → Before q r → Before p r
before_trans p q r h k = lex_trans (λ x y. lex_trans (λ u v. omega arith) x y) h k

-- ---- any two tests

-- `reach start stop`: a record that starts at `start` is within a base that stops at `stop`
-- `last start stop`: a record that stops at `stop` is kept for a base that starts at `start`
abbrev pub mode : (ℕ → ℕ → Bool) → (ℕ → ℕ → Bool) → Mode Record Base
mode reach last = record {
  le = Le;
  before = Before;
  take = λ b r. lex r.it.chrom.0 b.chrom.0 (reach r.it.start b.stop);
  live = λ b r. eqb r.it.chrom.0 b.chrom.0 && last b.start r.it.stop;
  wait = λ b r. lex b.chrom.0 r.it.chrom.0 (last b.start r.it.stop);
}

-- what the two tests have to satisfy
pub record Tests (reach last : ℕ → ℕ → Bool) : Type 0 where
  pub falls : (a c s : ℕ) → a ≤ c → reach a s ≡ false → reach c s ≡ false
  pub joins : (a s t : ℕ) → reach a (max s t) ≡ reach a s || reach a t
  pub rises : (s t e : ℕ) → s ≤ t → last t e ≡ true → last s e ≡ true
  -- a record beyond a base of some length lasts for it
  pub beyond : (a s p e : ℕ) → reach a s ≡ false → a ≤ e → p < s → last p e ≡ true

module _ (reach last : ℕ → ℕ → Bool) (tests : Tests reach last) where
  abbrev m : Mode Record Base
  m = mode reach last

  closed : (b : Base) (r s : Record) → Le r s → m.take b r ≡ false → m.take b s ≡ false
  closed b r s h e =
      lex_fail s.it.chrom.0 b.chrom.0 _
      (lex_trans (λ f k. tests.falls r.it.start s.it.start b.stop k f) (lex_false r.it.chrom.0 b.chrom.0 _ e) h)

  waits : (b c : Base) (r : Record) → Before b c → m.live c r ≡ true → m.wait b r ≡ true
  waits b c r h e =
      let on : r.it.chrom.0 ≡ c.chrom.0 = eqb-true r.it.chrom.0 c.chrom.0 (and_left (eqb r.it.chrom.0 c.chrom.0) _ e) in
      lex_pass b.chrom.0 r.it.chrom.0 _
      (record { below = omega arith; tie = λ q. tests.rises b.start c.start r.it.stop (h.tie (omega arith)).below (and_also (eqb r.it.chrom.0 c.chrom.0) _ e) })

  drawn : (p b : Base) (r : Record) → Before p b → m.take p r ≡ true → m.wait b r ≡ true → m.live b r ≡ true
  drawn p b r h t v =
      let x : Lex r.it.chrom.0 p.chrom.0 _ = lex_true r.it.chrom.0 p.chrom.0 _ t in
      let y : Lex b.chrom.0 r.it.chrom.0 _ = lex_true b.chrom.0 r.it.chrom.0 _ v in
      let on : r.it.chrom.0 ≡ b.chrom.0 = omega arith in
      rw (eq-eqb r.it.chrom.0 b.chrom.0 on) (y.tie (sym on))

  pub mode_laws : Laws m
  mode_laws = record {
    same = λ b. lex_refl b.chrom.0 (lex_refl b.start (omega arith));
    closed = closed;
    waits = waits;
    drawn = drawn;
  }

  -- what is due to a base: on its chromosome, within it, and lasting
  pub due_own : (M : List Record) (b : Base) → due m M b ≡ filter (λ r. eqb r.it.chrom.0 b.chrom.0 && (reach r.it.start b.stop && last b.start r.it.stop)) M
  due_own M b = filter_cong (all_of (λ r. lex_on r.it.chrom.0 b.chrom.0 (reach r.it.start b.stop) (last b.start r.it.stop)) M)

  -- what the bases have drawn, as far as it lies on the last one's chromosome
  took_top : (r : Record) (c : ℕ) → r.it.chrom.0 ≡ c → {ps : List Base} → All (λ p. p.chrom.0 ≤ c) ps → (u : Bool) (n : ℕ) → u ≡ reach r.it.start n
      → u || took m ps r ≡ reach r.it.start (top c n ps)
  took_top r c q nil u n e = or_none u ∙ e
  took_top r c q (cons {x = p} {l = ps} h k) u n e = go (eqb p.chrom.0 c) refl (took_top r c q k u n e)
    where
      go : (t : Bool) → eqb p.chrom.0 c ≡ t → u || took m ps r ≡ reach r.it.start (top c n ps)
          → u || (m.take p r || took m ps r) ≡ reach r.it.start (cond t (max p.stop (top c n ps)) (top c n ps))
      go true f ih =
          rw (lex_same r.it.chrom.0 p.chrom.0 (reach r.it.start p.stop) (q ∙ sym (eqb-true p.chrom.0 c f)), tests.joins, ← ih)
          (or_swap u (reach r.it.start p.stop) (took m ps r))
      go false f ih = rw (lex_above r.it.chrom.0 p.chrom.0 (reach r.it.start p.stop) (omega (arith, eqb-false p.chrom.0 c f))) ih

  -- what a base needs room for: on its chromosome, within the largest stop so far, and lasting
  pub held_top : (M : List Record) (hs : List Base) (b : Base) → Since m hs b
      → held m M hs b ≡ filter (λ r. eqb r.it.chrom.0 b.chrom.0 && (reach r.it.start (top b.chrom.0 b.stop hs) && last b.start r.it.stop)) M
  held_top M hs b o = filter_cong (all_of each M)
    where
      each : (r : Record) → took m (b ∷ hs) r && m.live b r
          ≡ eqb r.it.chrom.0 b.chrom.0 && (reach r.it.start (top b.chrom.0 b.stop hs) && last b.start r.it.stop)
      each r =
          and_cong (took m (b ∷ hs) r) (reach r.it.start (top b.chrom.0 b.stop hs)) (m.live b r)
          (λ v. let on : r.it.chrom.0 ≡ b.chrom.0 = eqb-true r.it.chrom.0 b.chrom.0 (and_left (eqb r.it.chrom.0 b.chrom.0) _ v) in
          took_top r b.chrom.0 on (all_map (λ p h. h.below) o) (m.take b r) b.stop (lex_same r.it.chrom.0 b.chrom.0 (reach r.it.start b.stop) on))
          ∙ and_swap (reach r.it.start (top b.chrom.0 b.stop hs)) (eqb r.it.chrom.0 b.chrom.0) (last b.start r.it.stop)

  -- a record beyond a base of some length waits for it
  pub waits_beyond : (p : Base) (r : Record) → p.start < p.stop → r.it.start ≤ r.it.stop → m.take p r ≡ false → m.wait p r ≡ true
  waits_beyond p r h k e =
      lex_pass p.chrom.0 r.it.chrom.0 _ (lex_map (λ f. tests.beyond r.it.start p.stop p.start r.it.stop f k h) (lex_false r.it.chrom.0 p.chrom.0 _ e))

-- ---- overlap

leb_max : (a s t : ℕ) → leb a (max s t) ≡ leb a s || leb a t
leb_max a s t = go (leb a s) (leb a t) refl refl
  where
    go : (u v : Bool) → leb a s ≡ u → leb a t ≡ v → leb a (max s t) ≡ u || v
    go true v e f = le-leb a (max s t) (omega (arith, leb-true a s e))
    go false true e f = le-leb a (max s t) (omega (arith, leb-true a t f))
    go false false e f = lt-leb a (max s t) (omega (arith, leb-false a s e, leb-false a t f))

overlap_tests : Tests ltb ltb
overlap_tests = record {
  falls = λ a c s h e. le-ltb c s (omega (arith, ltb-false a s e));
  joins = λ a s t. leb_max (suc a) s t;
  rises = λ s t e h k. lt-ltb s e (omega (arith, ltb-true t e k));
  beyond = λ a s p e f h k. lt-ltb p e (omega (arith, ltb-false a s f));
}

-- the document's tests
abbrev pub overlap : Mode Record Base
overlap = record { le = Le; before = Before; take = taken; live = live; wait = awaited }

pub overlap_laws : Laws overlap
overlap_laws = mode_laws ltb ltb overlap_tests

pub due_overlaps : (M : List Record) (b : Base) → due overlap M b ≡ filter (overlaps b) M
due_overlaps M b = due_own ltb ltb overlap_tests M b

pub held_crowd : (M : List Record) (hs : List Base) (b : Base) → Since overlap hs b → held overlap M hs b ≡ crowd M hs b
held_crowd M hs b o = held_top ltb ltb overlap_tests M hs b o

pub awaits_beyond : (p : Base) (r : Record) → p.start < p.stop → r.it.start ≤ r.it.stop → taken p r ≡ false → awaited p r ≡ true
awaits_beyond p r h k e = waits_beyond ltb ltb overlap_tests p r h k e

-- the last accepted base stands for all
pub since_next : {hs : List Base} (p b : Base) → Since overlap hs p → Before p b → Since overlap (p ∷ hs) b
since_next p b o h = cons h (all_map (λ q k. before_trans q p b k h) o)

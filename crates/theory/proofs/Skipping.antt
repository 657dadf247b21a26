-- Leaving out bases that nothing is due to, for any mode: the others are answered or refused as before.
use mathlib.Core.Path.{◌≡◌, refl, ◌∙◌}
use mathlib.Core.Bool.{Bool, true, false, cond, ◌&&◌, ◌||◌}
use mathlib.Core.Option.{Option, none, some}
use mathlib.Core.List.{List, [], ◌∷◌, ◌++◌, map}
use Prim.Native.Nat.{ℕ, ◌≤◌}
use native.Mathlib.Omega.{arith}
use lib.Dec.{ltb}
use lib.ListN.{length}
use borrow.Author.Tests.{le-ltb, ltb-false}
use Rattle.basics.specs.Lists.{filter, first, All, nil, cons, Sorted, Has}
use Rattle.basics.proofs.BoolLaws.{off, clash, and_comm, and_drop, and_cong, and_both}
use Rattle.basics.proofs.ListLaws.{filter_cong, filter_none, length_mono, all_map, all_both, all_of, all_at, all_head, all_tail, all_left, all_right, sorted_right, first_none}
use Rattle.rules.specs.Streams.{Head}
use Rattle.rules.specs.Promise.{records, struck}
use Rattle.rules.specs.Skip.{Mark, give, skip, every, given, missed, heard}
use Rattle.theory.proofs.Mode.{Mode, Laws, Since, took, due, held}
use Rattle.theory.proofs.Step.{took_live}
use Rattle.theory.proofs.Stride.{wall_faulted, struck_none}
use Rattle.theory.proofs.Calls.{free, rest, whole, stops, parts}

-- the bases `bs` follow the bases `hs` in order
pub data InOrder {R B : Type 0} (m : Mode R B) : List B → List B → Type 0 where
  stop : {hs : List B} → InOrder m hs []
  go : {hs : List B} {b : B} {bs : List B} → Since m hs b → InOrder m (b ∷ hs) bs → InOrder m hs (b ∷ bs)

-- c may be left out after the bases `hs`: one of them waits for a record that c does not draw, and for all that it does not draw itself
pub record Idle {R B : Type 0} (m : Mode R B) (M : List R) (hs : List B) (c : B) : Type 0 where
  pub from : B
  pub was : Has from hs
  pub target : R
  pub offered : first (m.wait from) M ≡ some target
  pub short : m.take c target ≡ false
  pub beyond : All (λ r. m.take from r ≡ false → m.wait from r ≡ true) M

-- each base left out may be
pub data Skips {R B : Type 0} (m : Mode R B) (M : List R) : List B → List (Mark B) → Type 0 where
  stop : {hs : List B} → Skips m M hs []
  gave : {hs : List B} {b : B} {l : List (Mark B)} → Skips m M (b ∷ hs) l → Skips m M hs (give b ∷ l)
  left : {hs : List B} {c : B} {l : List (Mark B)} → Idle m M hs c → Skips m M hs l → Skips m M hs (skip c ∷ l)

module _ {R B E : Type 0} (m : Mode R B) (full : E) (C : List (Head R E)) (Q : ℕ) where
  -- what ends the run ends it for all bases from there on
  abbrev pub from_here : Option E → List B → List (Option E) → List (Option E)
  from_here none bs vs = none ∷ vs
  from_here (some e) bs vs = map (λ b. some e) bs

  -- how the run has ended, if it has, at each of the bases behind the bases `hs`
  unfoldable pub verdicts : List B → List B → List (Option E)
  verdicts hs [] = []
  verdicts hs (b ∷ bs) = from_here (stops m full C Q hs b) (b ∷ bs) (verdicts (b ∷ hs) bs)

module _ {R B E : Type 0} (m : Mode R B) (laws : Laws m) (full : E) (C : List (Head R E)) (Q : ℕ) (sorted : Sorted m.le (records C)) where
  open m use {le, before, take, live, wait}

  abbrev F : List R
  F = free m full C Q

  abbrev W : List (Head R E)
  W = rest m full C Q

  abbrev M : List R
  M = whole m full C Q

  cut : M ≡ F ++ records W
  cut = parts m laws full C Q sorted

  -- what a base that may be left out would draw does not wait for the offer's base, so it is dead for each base after that one
  idle_dead : {hs : List B} {c : B} (i : Idle m M hs c) → All (λ r. take c r && wait i.from r ≡ false) M
  idle_dead {c} i = first_none (wait i.from) (take c) (laws.closed c) sorted i.offered i.short

  idle_live : {hs : List B} {c : B} (b : B) → Idle m M hs c → Since m hs b → All (λ r. live b r ≡ true → take c r ≡ false) M
  idle_live {c} b i o =
      all_map (λ r e v. off (take c r) (λ t. clash {u = take c r && wait i.from r} (rw t (laws.waits i.from b r (all_at i.was o) v)) e)) (idle_dead i)

  -- and it does not meet the wall, where the bases before have not
  pass : (p c : B) (U : List (Head R E)) → All (λ r. take p r ≡ false) (records U)
      → All (λ r. (take c r && wait p r ≡ false) × (take p r ≡ false → wait p r ≡ true)) (records U) → struck (take c) U ≡ none
  pass p c [] u h = refl
  pass p c (y ∷ U) (cons u us) (cons h hs) =
      let d : take c y.it ≡ false = off (take c y.it) (λ t. clash {u = take c y.it && wait p y.it} (rw t (h.1 u)) h.0) in
      rw d

  idle_pass : {hs : List B} {c : B} → Idle m M hs c → All (λ p. struck (take p) W ≡ none) hs → struck (take c) W ≡ none
  idle_pass {c} i h =
      pass i.from c W (struck_none m laws full i.from W (wall_faulted C) (sorted_right F (rw cut at sorted)) (all_at i.was h))
      (all_right F (rw cut at (all_both (idle_dead i) i.beyond)))

  -- it has no record
  idle_due : {hs : List B} (c : B) → Idle m M hs c → Since m hs c → due m M c ≡ []
  idle_due c i o = filter_none {p = λ r. take c r && live c r} (all_map (λ r f. and_comm (take c r) (live c r) ∙ and_drop (live c r) (take c r) f) (idle_live c i o))

  idle_clear : {hs : List B} {c : B} (b : B) → Idle m M hs c → Since m hs b → All (λ r. live b r ≡ true → take c r ≡ false) F
  idle_clear b i o = all_left F (records W) (rw cut at (idle_live b i o))

  -- the bases given, among all: they have drawn the same, as far as any later base can see
  record Twin (hs ks : List B) : Type 0 where
    since : (b : B) → Since m hs b → Since m ks b
    agree : (b : B) → Since m hs b → All (λ r. live b r ≡ true → took m hs r ≡ took m ks r) F

  abbrev held_by : List B → B → List R
  held_by hs b = filter (λ r. took m hs r && live b r) F

  -- there was room so far
  abbrev Fits : List B → Type 0
  Fits hs = (b : B) → Since m hs b → length (held_by hs b) ≤ Q

  held_twin : {hs ks : List B} (b : B) → Twin hs ks → Since m hs b → held m F hs b ≡ held m F ks b
  held_twin {hs} {ks} b w o = filter_cong (all_map (λ r f. and_cong (take b r || took m hs r) (take b r || took m ks r) (live b r) (λ v. rw (f v))) (w.agree b o))

  stops_twin : {hs ks : List B} (b : B) → Twin hs ks → Since m hs b → stops m full C Q hs b ≡ stops m full C Q ks b
  stops_twin b w o = rw (held_twin b w o)

  twin_give : {hs ks : List B} (b : B) → Twin hs ks → Twin (b ∷ hs) (b ∷ ks)
  twin_give b w = record {
    since = λ c o. cons (all_head o) (w.since c (all_tail o));
    agree = λ c o. all_map (λ r f v. rw (f v)) (w.agree c (all_tail o));
  }

  fits_give : {hs : List B} (b : B) → Since m hs b → length (held m F hs b) ≤ Q → Fits (b ∷ hs)
  fits_give {hs} b o h c k =
      let less : length (held_by (b ∷ hs) c) ≤ length (held m F hs b) =
      length_mono (all_of (λ r. and_both (took m (b ∷ hs) r) (live c r) (live b r) (took_live m laws r (cons (laws.same b) o) (all_head k))) F) in
      omega arith

  twin_skip : {hs ks : List B} (c : B) → Idle m M ks c → Twin hs ks → Twin (c ∷ hs) ks
  twin_skip c i w = record {
    since = λ b o. w.since b (all_tail o);
    agree = λ b o. all_map (λ r f v. rw (f.0 v) (f.1 v)) (all_both (idle_clear b i (w.since b (all_tail o))) (w.agree b (all_tail o)));
  }

  -- what is left out draws nothing that a later base keeps
  skip_drawn : (hs : List B) {ks : List B} (c b : B) → Idle m M ks c → Since m ks b → held_by (c ∷ hs) b ≡ held_by hs b
  skip_drawn hs c b i o = filter_cong (all_map (λ r f. and_cong (take c r || took m hs r) (took m hs r) (live b r) (λ v. rw (f v))) (idle_clear b i o))

  fits_skip : {hs ks : List B} (c : B) → Idle m M ks c → Twin hs ks → Fits hs → Fits (c ∷ hs)
  fits_skip {hs} c i w f b o = rw (skip_drawn hs c b i (w.since b (all_tail o))) (f b (all_tail o))

  heard_ended : {A : Type 0} (x : A) (l : List (Mark B)) → heard l (map (λ b. x) (every l)) ≡ map (λ b. x) (given l)
  heard_ended x [] = refl
  heard_ended x (give b ∷ l) = rw (heard_ended x l)
  heard_ended x (skip b ∷ l) = heard_ended x l

  -- a base that nothing stops: it found room, and did not meet the wall
  pub record Unstopped (hs : List B) (b : B) : Type 0 where
    pub fits : length (held m F hs b) ≤ Q
    pub clear_of : struck (take b) W ≡ none

  pub unstopped : (hs : List B) (b : B) → stops m full C Q hs b ≡ none → Unstopped hs b
  unstopped hs b e = case (ltb Q (length (held m F hs b))) refl e
    where
      case : (t : Bool) → ltb Q (length (held m F hs b)) ≡ t → cond t (some full) (struck (take b) W) ≡ none → Unstopped hs b
      case true q z = let x : ◌≡◌ {A = ℕ} 0 1 = cc in absurd (omega arith)
      case false q z = record { fits = ltb-false Q (length (held m F hs b)) q; clear_of = z }

  stops_none : (hs : List B) (b : B) → length (held m F hs b) ≤ Q → struck (take b) W ≡ none → stops m full C Q hs b ≡ none
  stops_none hs b h e = rw (le-ltb Q (length (held m F hs b)) h, e)

  skip_from : (hs ks : List B) → Twin hs ks → Fits hs → All (λ p. struck (take p) W ≡ none) ks → (l : List (Mark B)) → InOrder m hs (every l) → Skips m M ks l
      → heard l (verdicts m full C Q hs (every l)) ≡ verdicts m full C Q ks (given l)
  unfolding verdicts
  skip_from hs ks w f a [] o k = refl
  skip_from hs ks w f a (give b ∷ l) (InOrder.go o os) (gave k) =
      rw (stops_twin b w o)
      (case (stops m full C Q ks b) refl
      (λ u. skip_from (b ∷ hs) (b ∷ ks) (twin_give b w) (fits_give b o (rw (held_twin b w o) u.fits)) (cons u.clear_of a) l os k))
    where
      case : (v : Option E) → stops m full C Q ks b ≡ v
          → (Unstopped ks b → heard l (verdicts m full C Q (b ∷ hs) (every l)) ≡ verdicts m full C Q (b ∷ ks) (given l))
          → heard (give b ∷ l) (from_here m full C Q v (b ∷ every l) (verdicts m full C Q (b ∷ hs) (every l))) ≡ from_here m full C Q v (b ∷ given l) (verdicts m full C Q (b ∷ ks) (given l))
      case none e h = rw (h (unstopped ks b e))
      case (some y) e h = rw (heard_ended (some y) l)
  skip_from hs ks w f a (skip c ∷ l) (InOrder.go o os) (left i k) =
      rw (stops_none hs c (rw (skip_drawn hs c c i (w.since c o)) (f c o)) (idle_pass i a))
      (skip_from (c ∷ hs) ks (twin_skip c i w) (fits_skip c i w f) a l os k)

  -- the given bases get what they get with all bases given
  pub skip_same : (l : List (Mark B)) → InOrder m [] (every l) → Skips m M [] l → heard l (verdicts m full C Q [] (every l)) ≡ verdicts m full C Q [] (given l)
  skip_same l o k =
      skip_from [] [] (record { since = λ b h. h; agree = λ b h. all_of (λ r v. refl) F })
      (λ b h. rw (filter_none {p = λ r. false} (all_of (λ r. refl) F)) (omega arith)) nil l o k

  missed_from : (hs ks : List B) → ((b : B) → Since m hs b → Since m ks b) → (l : List (Mark B)) → InOrder m hs (every l) → Skips m M ks l → All (λ c. due m M c ≡ []) (missed l)
  missed_from hs ks f [] o k = nil
  missed_from hs ks f (give b ∷ l) (InOrder.go o os) (gave k) = missed_from (b ∷ hs) (b ∷ ks) (λ c h. cons (all_head h) (f c (all_tail h))) l os k
  missed_from hs ks f (skip c ∷ l) (InOrder.go o os) (left i k) = cons (idle_due c i (f c o)) (missed_from (c ∷ hs) ks (λ b h. f b (all_tail h)) l os k)

  -- a base left out has no record
  pub missed_due : (l : List (Mark B)) → InOrder m [] (every l) → Skips m M [] l → All (λ c. due m M c ≡ []) (missed l)
  missed_due l o k = missed_from [] [] (λ b h. h) l o k

-- the given bases are in order where all are
pub given_order : {R B : Type 0} (m : Mode R B) (hs ks : List B) → ((b : B) → Since m hs b → Since m ks b) → (l : List (Mark B)) → InOrder m hs (every l) → InOrder m ks (given l)
given_order m hs ks f [] o = InOrder.stop
given_order m hs ks f (give b ∷ l) (InOrder.go o os) = InOrder.go (f b o) (given_order m (b ∷ hs) (b ∷ ks) (λ c k. cons (all_head k) (f c (all_tail k))) l os)
given_order m hs ks f (skip c ∷ l) (InOrder.go o os) = given_order m (c ∷ hs) ks (λ b k. f b (all_tail k)) l os

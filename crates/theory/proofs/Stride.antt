-- The walk over heads, with what is wrong behind each: over the clear ones it is the walk over their records, and then it meets the wall.
use mathlib.Core.Path.{◌≡◌, refl, sym, ap}
use mathlib.Core.Bool.{Bool, true, false, cond, not}
use mathlib.Core.Option.{Option, none, some}
use mathlib.Core.List.{List, [], ◌∷◌, ◌++◌, map}
use Prim.Native.Nat.{ℕ}
use native.Mathlib.Omega.{arith}
use lib.Dec.{leb}
use lib.ListN.{length}
use borrow.Author.Tests.{not-true}
use Rattle.basics.specs.Lists.{is_some, All, nil, cons, Sorted, next}
use Rattle.basics.proofs.BoolLaws.{clash}
use Rattle.basics.proofs.ListLaws.{all_map, all_head, all_right, front_back, front_all}
use Rattle.rules.specs.Streams.{Head}
use Rattle.rules.specs.Promise.{clear, wall, records, struck}
use Rattle.theory.proofs.Mode.{Mode, Laws, State, walk}

-- where a walk over heads stops: the heads that are left and what is queued; or why the run has ended
pub data Drawn (R E : Type 0) : Type 0 where
  halted : List (Head R E) → List R → Drawn R E
  broke : E → Drawn R E

abbrev pub unless_broken : {R E : Type 0} → Option E → Drawn R E → Drawn R E
unless_broken none d = d
unless_broken (some e) d = broke e

-- a record with nothing wrong behind it
abbrev pub sure : {R E : Type 0} → R → Head R E
sure r = record { it = r; fault = none }

-- the records of a state, with the wall behind them
abbrev pub walled : {R E : Type 0} → List (Head R E) → State R → Drawn R E
walled W s = halted (map sure s.left ++ W) s.queue

-- something is wrong behind the first
abbrev pub Faulted : {R E : Type 0} → List (Head R E) → Type 0
Faulted [] = Unit {0}
Faulted (y ∷ W) = is_some y.fault ≡ true

module _ {R E : Type 0} where
  pub wall_faulted : (C : List (Head R E)) → Faulted (wall C)
  wall_faulted [] = tt
  wall_faulted (h ∷ C) = go (is_some h.fault) refl (wall_faulted C)
    where
      go : (t : Bool) → is_some h.fault ≡ t → Faulted (wall C) → Faulted (cond (not t) (wall C) (h ∷ C))
      go true e w = e
      go false e w = w

  sure_clear : {l : List (Head R E)} → All (λ h. is_some h.fault ≡ false) l → map sure (records l) ≡ l
  sure_clear nil = refl
  sure_clear (cons {x} {l} h k) = go x.fault h refl (sure_clear k)
    where
      go : (f : Option E) → is_some f ≡ false → x.fault ≡ f → map sure (records l) ≡ l → sure x.it ∷ map sure (records l) ≡ x ∷ l
      go none e q r = rw r (ap (λ (f : Option E). record { it = x.it; fault = f } ∷ l) (sym q))
      go (some f) e q r = clash {u = true} refl e

  -- the clear heads are sure
  pub clear_sure : (C : List (Head R E)) → map sure (records (clear C)) ≡ clear C
  clear_sure C = sure_clear (all_map (λ h e. not-true (is_some h.fault) e) (front_all (λ h. not (is_some h.fault)) C))

  pub clear_wall : (C : List (Head R E)) → map sure (records (clear C)) ++ wall C ≡ C
  clear_wall C = rw (clear_sure C) (front_back (λ h. not (is_some h.fault)) C)

module _ {R B E : Type 0} (m : Mode R B) (full : E) where
  -- heads are drawn while they are taken; what is wrong behind one ends the run; a live record is queued
  unfoldable pub stride : ℕ → B → List R → List (Head R E) → Drawn R E
  stride Q b q [] = halted [] q
  stride Q b q (h ∷ l) =
      cond (m.take b h.it)
      (unless_broken h.fault (cond (m.live b h.it) (cond (leb Q (length q)) (broke full) (stride Q b (q ++ h.it ∷ []) l)) (stride Q b q l)))
      (halted (h ∷ l) q)

  -- the walk over the clear records, and then the wall
  abbrev pub meet : B → List (Head R E) → Option (State R) → Drawn R E
  meet b W none = broke full
  meet b W (some s) = unless_broken (struck (m.take b) W) (walled W s)

module _ {R B E : Type 0} (m : Mode R B) (laws : Laws m) (full : E) where
  open m use {le, take, live}

  -- where the base does not draw the first, it draws none
  pub struck_none : (b : B) (W : List (Head R E)) → Faulted W → Sorted le (records W) → struck (take b) W ≡ none → All (λ r. take b r ≡ false) (records W)
  struck_none b [] f s e = nil
  struck_none b (y ∷ W) f (next h k) e = go (take b y.it) y.fault refl f e
    where
      go : (t : Bool) (o : Option E) → take b y.it ≡ t → is_some o ≡ true → cond t o none ≡ none → All (λ r. take b r ≡ false) (y.it ∷ records W)
      go true (some f) q g z = let w : ◌≡◌ {A = ℕ} 0 1 = cc in absurd (omega arith)
      go true none q g z = clash g refl
      go false o q g z = cons q (all_map (λ r a. laws.closed b y.it r a q) h)

  module _ (Q : ℕ) (b : B) where
    at_wall : (q : List R) (W : List (Head R E)) → Faulted W → stride m full Q b q W ≡ meet m full b W (some (record { left = []; queue = q }))
    unfolding stride
    at_wall q [] h = refl
    at_wall q (y ∷ W) h = go y.fault h (take b y.it) _
      where
        go : (o : Option E) → is_some o ≡ true → (t : Bool) (d : Drawn R E) → cond t (unless_broken o d) (halted (y ∷ W) q) ≡ unless_broken (cond t o none) (halted (y ∷ W) q)
        go none e t d = clash e refl
        go (some f) e true d = refl
        go (some f) e false d = refl

    -- a record that is not drawn keeps the wall from being met
    not_met : (r : R) (W : List (Head R E)) → All (le r) (records W) → take b r ≡ false → struck (take b) W ≡ none
    not_met r [] h e = refl
    not_met r (y ∷ W) h e = rw (laws.closed b r y.it (all_head h) e)

    pub stride_walk : (q : List R) (W : List (Head R E)) → Faulted W → (l : List R) → Sorted le (l ++ records W)
        → stride m full Q b q (map sure l ++ W) ≡ meet m full b W (walk m Q b q l)
    unfolding stride walk
    stride_walk q W v [] s = at_wall q W v
    stride_walk q W v (r ∷ l) (next k s) =
        go (take b r) (live b r) (leb Q (length q)) refl (stride_walk (q ++ r ∷ []) W v l s) (stride_walk q W v l s)
      where
        go : (t u f : Bool) → take b r ≡ t
            → stride m full Q b (q ++ r ∷ []) (map sure l ++ W) ≡ meet m full b W (walk m Q b (q ++ r ∷ []) l)
            → stride m full Q b q (map sure l ++ W) ≡ meet m full b W (walk m Q b q l)
            → cond t (cond u (cond f (broke full) (stride m full Q b (q ++ r ∷ []) (map sure l ++ W))) (stride m full Q b q (map sure l ++ W))) (halted (sure r ∷ map sure l ++ W) q)
            ≡ meet m full b W (cond t (cond u (cond f none (walk m Q b (q ++ r ∷ []) l)) (walk m Q b q l)) (some (record { left = r ∷ l; queue = q })))
        go true true true e x y = refl
        go true true false e x y = x
        go true false f e x y = y
        go false u f e x y = rw (not_met r W (all_right l k) e)

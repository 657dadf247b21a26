-- The sweep over a sorted list, for any mode: what a base draws from the list, what it keeps, and what is due to it.
use mathlib.Core.Path.{◌≡◌}
use mathlib.Core.Bool.{Bool, true, false, cond, ◌&&◌, ◌||◌}
use mathlib.Core.Option.{Option, none, some}
use mathlib.Core.List.{List, [], ◌∷◌, ◌++◌}
use Prim.Native.Nat.{ℕ, ◌≤◌, ◌<◌}
use lib.Dec.{leb}
use lib.ListN.{length}
use Rattle.basics.specs.Lists.{filter, All, Sorted}

-- a mode, over records R and bases B
pub record Mode (R B : Type 0) : Type 1 where
  -- the order of the merged list, and the order of bases
  pub le : R → R → Type 0
  pub before : B → B → Type 0
  -- the base draws the record; the record is live for it; the record is live, or lies ahead of all that the base can keep
  pub take : B → R → Bool
  pub live : B → R → Bool
  pub wait : B → R → Bool

-- what the tests of a mode have to satisfy
pub record Laws {R B : Type 0} (m : Mode R B) : Type 0 where
  pub same : (b : B) → m.before b b
  pub closed : (b : B) (r s : R) → m.le r s → m.take b r ≡ false → m.take b s ≡ false
  pub waits : (b c : B) (r : R) → m.before b c → m.live c r ≡ true → m.wait b r ≡ true
  pub drawn : (p b : B) (r : R) → m.before p b → m.take p r ≡ true → m.wait b r ≡ true → m.live b r ≡ true

-- what is left of the list, and what is queued
pub record State (R : Type 0) : Type 0 where
  pub left : List R
  pub queue : List R

-- the bases `bs` all stand ahead of b
abbrev pub Since : {R B : Type 0} → Mode R B → List B → B → Type 0
Since m bs b = All (λ p. m.before p b) bs

module _ {R B : Type 0} (m : Mode R B) where
  -- records are drawn while they are taken; a live one is queued, and `none` is no room
  unfoldable pub walk : ℕ → B → List R → List R → Option (State R)
  walk Q b q [] = some (record { left = []; queue = q })
  walk Q b q (r ∷ l) =
      cond (m.take b r)
      (cond (m.live b r) (cond (leb Q (length q)) none (walk Q b (q ++ r ∷ []) l)) (walk Q b q l))
      (some (record { left = r ∷ l; queue = q }))

  abbrev pub step : ℕ → State R → B → Option (State R)
  step Q s b = walk Q b (filter (m.live b) s.queue) s.left

  -- the base draws the record, and it is live
  abbrev pub own : B → R → Bool
  own b r = m.take b r && m.live b r

  -- some base has drawn r
  abbrev pub took : List B → R → Bool
  took [] r = false
  took (b ∷ bs) r = m.take b r || took bs r

  -- what is due: the records of a base, and those that it needs room for after the bases `bs`
  abbrev pub due : List R → B → List R
  due M b = filter (own b) M

  abbrev pub held : List R → List B → B → List R
  held M bs b = filter (λ r. took (b ∷ bs) r && m.live b r) M

-- a state after the bases `bs`, the last first: what was drawn, and what is left
pub record Swept {R B : Type 0} (m : Mode R B) (M : List R) (Q : ℕ) (bs : List B) (s : State R) : Type 0 where
  pub done : List R
  pub split : M ≡ done ++ s.left
  pub drawn : All (λ r. took m bs r ≡ true) done
  pub ahead : All (λ r. took m bs r ≡ false) s.left
  pub sorted : Sorted m.le s.left
  pub room : length s.queue ≤ Q
  pub kept : (b : B) → Since m bs b → filter (m.live b) s.queue ≡ filter (m.live b) done

-- a base that found room: its records are due, and the state holds good for the next one
pub record Good {R B : Type 0} (m : Mode R B) (M : List R) (Q : ℕ) (bs : List B) (b : B) (s : State R) : Type 0 where
  pub fits : length (held m M bs b) ≤ Q
  pub exact : filter (own m b) s.queue ≡ due m M b
  pub lively : All (λ r. m.live b r ≡ true) s.queue
  pub swept : Swept m M Q (b ∷ bs) s

-- what a base comes to: no room exactly if more records are held than there is room for
abbrev pub Tells : {R B : Type 0} (m : Mode R B) (M : List R) (Q : ℕ) (bs : List B) (b : B) → Option (State R) → Type 0
Tells m M Q bs b none = Q < length (held m M bs b)
Tells m M Q bs b (some s) = Good m M Q bs b s

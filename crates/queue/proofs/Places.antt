-- Where the numbers of a ring stand, and what a store to one of them changes.
use mathlib.Core.Path.{◌≡◌, ◌∙◌}
use mathlib.Core.List.{List, []}
use Prim.Native.Nat.{ℕ, suc, ◌+◌, ◌-◌, ◌≤◌, ◌<◌}
use native.Mathlib.Omega.{arith}
use native.Mathlib.Decide.{dec_lt}
use lib.ListN.{set, length-set}
use lib.Seq.{get_or-set_same, get_or-set_other}
use borrow.Author.Tests.{lt-ltb, le-ltb}
use Rattle.basics.proofs.BuildLaws.{build_same}
use Rattle.queue.specs.declared.Ring.{Ring}
use Rattle.queue.specs.Ring.{Cells, Fair, record_of, slot_in, place, nth, oldest}

-- ---- places

pub place_low : (h n k : ℕ) → h + k < n → place h n k ≡ h + k
unfolding place
place_low h n k p = rw (lt-ltb (h + k) n p)

pub place_high : (h n k : ℕ) → n ≤ h + k → place h n k ≡ h + k - n
unfolding place
place_high h n k p = rw (le-ltb (h + k) n p)

-- the two cases, to be gone through
data Placed (h n k p : ℕ) : Type 0 where
  low : h + k < n → p ≡ h + k → Placed h n k p
  high : n ≤ h + k → p ≡ h + k - n → Placed h n k p

placed : (h n k : ℕ) → Placed h n k (place h n k)
placed h n k = go (dec_lt (h + k) n)
  where
    go : Dec (h + k < n) → Placed h n k (place h n k)
    go (yes p) = low p (place_low h n k p)
    go (no p) = high (omega arith) (place_high h n k (omega arith))

module _ (h n : ℕ) (hn : h < n) where
  pub place_lt : (k : ℕ) → k ≤ n → place h n k < n
  place_lt k kn = go (placed h n k)
    where
      go : Placed h n k (place h n k) → place h n k < n
      go (low a e) = omega arith
      go (high a e) = omega arith

  -- no two numbers stand at one place
  pub place_apart : (j k : ℕ) → j < n → k < n → place h n j ≡ place h n k → j ≡ k
  place_apart j k jn kn same = go (placed h n j) (placed h n k)
    where
      go : Placed h n j (place h n j) → Placed h n k (place h n k) → j ≡ k
      go (low a d) (low b e) = omega arith
      go (low a d) (high b e) = omega arith
      go (high a d) (low b e) = omega arith
      go (high a d) (high b e) = omega arith

  -- counted from one place on
  pub place_next : (k : ℕ) → k < n → place (place h n 1) n k ≡ place h n (suc k)
  place_next k kn = go (placed h n 1) (placed (place h n 1) n k) (placed h n (suc k))
    where
      go : Placed h n 1 (place h n 1) → Placed (place h n 1) n k (place (place h n 1) n k) → Placed h n (suc k) (place h n (suc k)) → place (place h n 1) n k ≡ place h n (suc k)
      go (low a d) (low b e) (low c f) = omega arith
      go (low a d) (low b e) (high c f) = omega arith
      go (low a d) (high b e) (low c f) = omega arith
      go (low a d) (high b e) (high c f) = omega arith
      go (high a d) (low b e) (low c f) = omega arith
      go (high a d) (low b e) (high c f) = omega arith
      go (high a d) (high b e) (low c f) = omega arith
      go (high a d) (high b e) (high c f) = omega arith

-- ---- stores

-- one of the numbers of a ring, and where it stands
module _ (q : Ring) (c : Cells) (f : Fair q c) (k at : ℕ) (kn : k < q.room) (here : at ≡ place q.head q.room k) (x : List ℕ) where
  pub nth_put : nth q (set c at x) k ≡ record_of q.chrom (slot_in x)
  nth_put =
      let i : at < q.room = rw here (place_lt q.head q.room (omega arith) k (omega arith)) in
      rw (← here, get_or-set_same c at x [] (omega arith))

  pub nth_other : (j : ℕ) → j < q.room → (j ≡ k → ⊥) → nth q (set c at x) j ≡ nth q c j
  nth_other j jn other =
      rw (get_or-set_other c at (place q.head q.room j) x [] (λ e. other (place_apart q.head q.room (omega arith) j k jn kn (e ∙ here))))

  -- those ahead of it stay
  pub oldest_put : (n : ℕ) → n ≤ k → oldest n q (set c at x) ≡ oldest n q c
  oldest_put n h = build_same (nth q c) (nth q (set c at x)) n 0 (λ j a b. nth_other j (omega arith) (λ e. omega arith))

-- the length stays
pub fair_put : (q : Ring) (c : Cells) (at : ℕ) (x : List ℕ) → Fair q c → Fair q (set c at x)
fair_put q c at x f = record { sound = f.sound; slots = simp length-set f.slots }

-- Laws of lists that are built from a function of the place.
use mathlib.Core.Path.{◌≡◌, refl, ◌∙◌, ap}
use mathlib.Core.List.{List, [], ◌∷◌, ◌++◌}
use Prim.Native.Nat.{ℕ, zero, suc, ◌+◌, ◌-◌, ◌<◌, ◌≤◌}
use native.Mathlib.Omega.{arith}
use lib.ListN.{length, get_or, set}
use Rattle.basics.specs.Build.{build}

module _ {A : Type 0} (f : ℕ → A) where
  -- from behind
  pub build_back : (n i : ℕ) → 0 < i → i ≤ n → build f (n - (i - 1)) (i - 1) ≡ f (i - 1) ∷ build f (n - i) i
  unfolding build
  build_back n i g h =
      let a : n - (i - 1) ≡ suc (n - i) = omega arith in
      let b : suc (i - 1) ≡ i = omega arith in
      rw a (ap (λ (m : ℕ). f (i - 1) ∷ build f (n - i) m) b)

  -- from the front
  pub build_front : (t p : ℕ) → p < t → build f (t - p) p ≡ f p ∷ build f (t - (p + 1)) (p + 1)
  unfolding build
  build_front t p h =
      let a : t - p ≡ suc (t - (p + 1)) = omega arith in
      let b : suc p ≡ p + 1 = omega arith in
      rw a (ap (λ (m : ℕ). f p ∷ build f (t - (p + 1)) m) b)

  pub build_none : (t p : ℕ) → t ≤ p → build f (t - p) p ≡ []
  unfolding build
  build_none t p h =
      let a : t - p ≡ 0 = omega arith in
      rw a

  pub build_length : (k i : ℕ) → length (build f k i) ≡ k
  unfolding build
  build_length zero i = refl
  build_length (suc k) i = ap suc (build_length k (suc i))

  pub build_get : (k i j : ℕ) (d : A) → j < k → get_or (build f k i) j d ≡ f (i + j)
  unfolding build
  build_get zero i j d h = absurd (omega arith)
  build_get (suc k) i zero d h = ap f (let e : i ≡ i + 0 = omega arith in e)
  build_get (suc k) i (suc j) d h = build_get k (suc i) j d (omega arith) ∙ ap f (let e : suc i + j ≡ i + suc j = omega arith in e)

module _ {A : Type 0} (f g : ℕ → A) where
  pub build_same : (k i : ℕ) → ((j : ℕ) → i ≤ j → j < i + k → g j ≡ f j) → build g k i ≡ build f k i
  unfolding build
  build_same zero i h = refl
  build_same (suc k) i h =
      let t = build_same k (suc i) (λ j a b. h j (omega arith) (omega arith)) in
      let s = h i (omega arith) (omega arith) in
      cc

  -- one place changed
  pub build_set : (k i j : ℕ) → j < k → ((m : ℕ) → (m ≡ i + j → ⊥) → g m ≡ f m) → build g k i ≡ set (build f k i) j (g (i + j))
  unfolding build
  build_set zero i j h same = absurd (omega arith)
  build_set (suc k) i zero h same =
      let t = build_same k (suc i) (λ m a b. same m (λ e. omega arith)) in
      let e : i + 0 ≡ i = omega arith in
      rw (e, t)
  build_set (suc k) i (suc j) h same =
      let e : i + suc j ≡ suc i + j = omega arith in
      let t = build_set k (suc i) j (omega arith) (λ m a. same m (λ b. a (omega arith))) in
      let s = same i (λ b. omega arith) in
      rw (e, t, s)

-- one place changed, from 0 on
pub build_set0 : {A : Type 0} (f g : ℕ → A) (k j : ℕ) → j < k → ((m : ℕ) → (m ≡ j → ⊥) → g m ≡ f m) → build g k 0 ≡ set (build f k 0) j (g j)
build_set0 f g k j h same =
    let e : 0 + j ≡ j = omega arith in
    rw e at (build_set f g k 0 j h (λ m a. same m (λ b. a (omega arith))))

-- a larger number at one place
pub set_raise : (l : List ℕ) (i v k : ℕ) → get_or l i 0 ≤ v → get_or l k 0 ≤ get_or (set l i v) k 0
set_raise [] i v k h = omega arith
set_raise (x ∷ l) zero v zero h = h
set_raise (x ∷ l) zero v (suc k) h = omega arith
set_raise (x ∷ l) (suc i) v zero h = omega arith
set_raise (x ∷ l) (suc i) v (suc k) h = set_raise l i v k h

-- one more at the end
pub build_snoc : {A : Type 0} (f : ℕ → A) (k i : ℕ) → build f (suc k) i ≡ build f k i ++ (f (i + k) ∷ [])
unfolding build
build_snoc f zero i = let e : i + 0 ≡ i = omega arith in rw e
build_snoc f (suc k) i =
    let e : i + suc k ≡ suc i + k = omega arith in
    ap (λ (l : List _). f i ∷ l) (build_snoc f k (suc i)) ∙ rw e

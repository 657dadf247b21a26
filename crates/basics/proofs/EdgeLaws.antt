-- Laws of built lists and of what a test keeps, one element more or fewer.
use mathlib.Core.Path.{◌≡◌, refl, ap}
use mathlib.Core.Bool.{Bool, true, false, cond, not}
use mathlib.Core.List.{List, [], ◌∷◌, ◌++◌, append-nil}
use Prim.Native.Nat.{ℕ, zero, suc, ◌+◌, ◌<◌, ◌≤◌}
use native.Mathlib.Omega.{arith}
use native.Mathlib.Nat.{zero-add}
use Rattle.basics.specs.Build.{build, upto}
use Rattle.basics.specs.Lists.{keep, filter, front, back, all, All, nil, cons}
use Rattle.basics.proofs.BoolLaws.{off, clash}
use Rattle.basics.proofs.ListLaws.{filter_append, all_true, all_pass}

module _ {A : Type 0} where
  -- from one place on
  pub build_shift : (f g : ℕ → A) (k i : ℕ) → ((j : ℕ) → i ≤ j → j < i + k → g j ≡ f (suc j)) → build g k i ≡ build f k (suc i)
  unfolding build
  build_shift f g zero i h = refl
  build_shift f g (suc k) i h =
      let s = h i (omega arith) (omega arith) in
      let t = build_shift f g k (suc i) (λ j a b. h j (omega arith) (omega arith)) in
      cc

  -- in two parts
  pub build_append : (f : ℕ → A) (k m i : ℕ) → build f (k + m) i ≡ build f k i ++ build f m (i + k)
  unfolding build
  build_append f zero m i =
      let a : 0 + m ≡ m = omega arith in
      let b : i + 0 ≡ i = omega arith in
      rw (a, b)
  build_append f (suc k) m i =
      let a : suc k + m ≡ suc (k + m) = omega arith in
      let b : i + suc k ≡ suc i + k = omega arith in
      rw (a, b) (ap (λ (l : List A). f i ∷ l) (build_append f k m (suc i)))

  pub all_build : {P : A → Type 0} (f : ℕ → A) (k i : ℕ) → ((j : ℕ) → i ≤ j → j < i + k → P (f j)) → All P (build f k i)
  unfolding build
  all_build f zero i h = nil
  all_build f (suc k) i h = cons (h i (omega arith) (omega arith)) (all_build f k (suc i) (λ j a b. h j (omega arith) (omega arith)))

  pub all_built : {P : A → Type 0} (f : ℕ → A) (k i j : ℕ) → j < k → All P (build f k i) → P (f (i + j))
  unfolding build
  all_built f zero i j h a = absurd (omega arith)
  all_built f (suc k) i zero h (cons a b) = let e : i + 0 ≡ i = omega arith in rw e a
  all_built f (suc k) i (suc j) h (cons a b) = let e : i + suc j ≡ suc i + j = omega arith in rw e (all_built f k (suc i) j (omega arith) b)

  -- one element more at the end, kept or not
  pub filter_keeps : (p : A → Bool) (l : List A) (x : A) → p x ≡ true → filter p (l ++ (x ∷ [])) ≡ filter p l ++ (x ∷ [])
  filter_keeps p l x e = rw (filter_append p l (x ∷ []), e)

  pub filter_drops : (p : A → Bool) (l : List A) (x : A) → p x ≡ false → filter p (l ++ (x ∷ [])) ≡ filter p l
  filter_drops p l x e = rw (filter_append p l (x ∷ []), e) (append-nil (filter p l))

  -- what fails at the front, a test drops anyway
  pub filter_back : (p : A → Bool) (l : List A) → filter p (back (λ x. not (p x)) l) ≡ filter p l
  filter_back p [] = refl
  filter_back p (x ∷ l) = go (p x) refl (filter_back p l)
    where
      go : (t : Bool) → p x ≡ t → filter p (back (λ y. not (p y)) l) ≡ filter p l → filter p (cond (not t) (back (λ y. not (p y)) l) (x ∷ l)) ≡ keep (p x) x (filter p l)
      go true e h = refl
      go false e h = rw e h

  -- the start that passes ends at the first that fails
  pub front_stops : {p : A → Bool} {l : List A} (x : A) (m : List A) → All (λ y. p y ≡ true) l → p x ≡ false → front p (l ++ x ∷ m) ≡ l
  front_stops x m nil e = rw e
  front_stops x m (cons h k) e = rw (h, front_stops x m k e)

-- a test of each number below n
module _ (p : ℕ → Bool) (n : ℕ) where
  pub upto_true : all p (upto n) ≡ true → (k : ℕ) → k < n → p k ≡ true
  upto_true e k h = rw zero-add at (all_built {P = λ (j : ℕ). p j ≡ true} (λ j. j) n 0 k h (all_true p (upto n) e))

  pub upto_pass : ((k : ℕ) → k < n → p k ≡ true) → all p (upto n) ≡ true
  upto_pass h = all_pass (all_build (λ j. j) n 0 (λ j a b. h j (omega arith)))

  pub upto_fail : (k : ℕ) → k < n → p k ≡ false → all p (upto n) ≡ false
  upto_fail k h e = off (all p (upto n)) (λ t. clash (upto_true t k h) e)

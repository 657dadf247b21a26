-- A list that is built from a function of the place.
use Rattle.std.specs.Prelude.{List, [], ◌∷◌, ℕ, zero, suc}

-- f i, f (i + 1), .., k of them
unfoldable pub build : {A : Type 0} → (ℕ → A) → ℕ → ℕ → List A
build f zero i = []
build f (suc k) i = f i ∷ build f k (suc i)

-- 0, 1, .., n of them
abbrev pub upto : ℕ → List ℕ
upto n = build (λ k. k) n 0

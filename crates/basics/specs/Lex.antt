-- Order by a first number and, where two are equal, by what follows: as a test, and as a fact.
use Rattle.std.specs.Prelude.{◌≡◌, Bool, ◌&&◌, ◌||◌, ℕ, ◌≤◌, eqb, ltb}

-- a is below b, or equal to it and the rest passes
abbrev pub lex : ℕ → ℕ → Bool → Bool
lex a b rest = ltb a b || (eqb a b && rest)

pub record Lex (a b : ℕ) (P : Type 0) : Type 0 where
  pub below : a ≤ b
  pub tie : a ≡ b → P

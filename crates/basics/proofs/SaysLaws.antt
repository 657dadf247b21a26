-- Tests that decide statements, put together: both directions at once.
use mathlib.Core.Path.{◌≡◌, refl, sym}
use mathlib.Core.Bool.{Bool, true, false, ◌&&◌, ◌||◌}
use mathlib.Core.List.{List}
use Prim.Native.Nat.{ℕ, ◌<◌, ◌≤◌}
use native.Mathlib.Omega.{arith}
use lib.Dec.{eqb, leb, ltb}
use borrow.Author.Tests.{leb-true, leb-false, ltb-true, ltb-false, eqb-true, eqb-false}
use Rattle.basics.specs.Build.{upto}
use Rattle.basics.specs.Lists.{Says, all, All}
use Rattle.basics.proofs.BoolLaws.{clash, off, says_yes, says_no}
use Rattle.basics.proofs.ListLaws.{all_true, all_pass, all_map}
use Rattle.basics.proofs.EdgeLaws.{upto_true, upto_pass}

-- what holds passes
pub says_true : {P : Type 0} {u : Bool} → Says u P → P → u ≡ true
says_true {u = true} h p = refl
says_true {u = false} h p = absurd (h.no refl p)

-- two tests of one statement
pub says_same : {P : Type 0} {u v : Bool} → Says u P → Says v P → u ≡ v
says_same {u = true} h k = sym (says_true k (h.yes refl))
says_same {u = false} {v} h k = sym (off v (λ e. h.no refl (k.yes e)))

-- the same statement in other words
pub says_map : {P Q : Type 0} {u : Bool} → (P → Q) → (Q → P) → Says u P → Says u Q
says_map f g h = record { yes = λ e. f (h.yes e); no = λ e q. h.no e (g q) }

-- ---- tests of numbers

pub says_is : (u : Bool) → Says u (u ≡ true)
says_is u = record { yes = λ e. e; no = λ e p. clash p e }

pub says_le : (a b : ℕ) → Says (leb a b) (a ≤ b)
says_le a b = record { yes = leb-true a b; no = λ e p. omega (arith, leb-false a b e) }

pub says_lt : (a b : ℕ) → Says (ltb a b) (a < b)
says_lt a b = record { yes = ltb-true a b; no = λ e p. omega (arith, ltb-false a b e) }

pub says_eq : (a b : ℕ) → Says (eqb a b) (a ≡ b)
says_eq a b = record { yes = eqb-true a b; no = eqb-false a b }

-- ---- tests that are joined

-- the second test is asked only where the first passes
pub says_then : {P Q : Type 0} {u v : Bool} → Says u P → (P → Says v Q) → Says (u && v) (P × Q)
says_then {u = true} h k =
    let p = h.yes refl in
    record { yes = λ e. (p, (k p).yes e); no = λ e b. (k p).no e b.1 }
says_then {u = false} h k = says_no (λ p. h.no refl p.0)

pub says_and : {P Q : Type 0} {u v : Bool} → Says u P → Says v Q → Says (u && v) (P × Q)
says_and h k = says_then h (λ _. k)

-- unless the first passes
pub says_or : {Q : Type 0} (u : Bool) {v : Bool} → Says v Q → Says (u || v) (u ≡ false → Q)
says_or true k = says_yes (λ e. clash {u = true} refl e)
says_or false k = record { yes = λ e _. k.yes e; no = λ e q. k.no e (q refl) }

-- ---- a test of each element, and of each number below n

pub says_all : {A : Type 0} {P : A → Type 0} {p : A → Bool} → ((x : A) → Says (p x) (P x)) → (l : List A) → Says (all p l) (All P l)
says_all {p} h l = record {
  yes = λ e. all_map (λ x t. (h x).yes t) (all_true p l e);
  no = λ e k. clash (all_pass (all_map (λ x t. says_true (h x) t) k)) e;
}

pub says_upto : {P : ℕ → Type 0} {p : ℕ → Bool} → ((k : ℕ) → Says (p k) (P k)) → (n : ℕ) → Says (all p (upto n)) ((k : ℕ) → k < n → P k)
says_upto {p} h n = record {
  yes = λ e k b. (h k).yes (upto_true p n e k b);
  no = λ e k. clash (upto_pass p n (λ j b. says_true (h j) (k j b))) e;
}

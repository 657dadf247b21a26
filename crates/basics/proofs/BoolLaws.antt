-- Laws of tests that are joined: `&&`, `||`, and cases on a test.
use mathlib.Core.Path.{◌≡◌, refl, sym, ◌∙◌}
use mathlib.Core.Bool.{Bool, true, false, ◌&&◌, ◌||◌, true≢false}
use Rattle.basics.specs.Lists.{Says}

pub and_comm : (u v : Bool) → u && v ≡ v && u
and_comm true true = refl
and_comm true false = refl
and_comm false true = refl
and_comm false false = refl

pub and_right : (u v : Bool) → (v ≡ true → u ≡ true) → u && v ≡ v
and_right true v h = refl
and_right false true h = h refl
and_right false false h = refl

-- the same test twice
pub and_own : (u v : Bool) → v && (u && v) ≡ u && v
and_own u true = refl
and_own true false = refl
and_own false false = refl

pub or_true : (u v : Bool) → v ≡ true → u || v ≡ true
or_true true v h = refl
or_true false v h = h

pub and_false : (u v : Bool) → u ≡ false → u && v ≡ false
and_false u v e = rw e

pub and_true : (u v : Bool) → u ≡ true → u && v ≡ v
and_true u v e = rw e

-- by cases, with the test's equation
pub or_left : (u v : Bool) → u || v ≡ false → u ≡ false
or_left true v e = e
or_left false v e = refl

pub or_cases : {P : Type 0} (u v : Bool) → u || v ≡ true → (u ≡ true → P) → (v ≡ true → P) → P
or_cases true v e f g = f refl
or_cases false v e f g = g e

pub off : (u : Bool) → (u ≡ true → ⊥) → u ≡ false
off true h = absurd (h refl)
off false h = refl

pub clash : {P : Type 0} {u : Bool} → u ≡ true → u ≡ false → P
clash p q = absurd (true≢false (sym p ∙ q))

pub iff : {u v : Bool} → (u ≡ true → v ≡ true) → (v ≡ true → u ≡ true) → u ≡ v
iff {u = true} {v} f g = sym (f refl)
iff {u = false} {v = true} f g = g refl
iff {u = false} {v = false} f g = refl

pub and_drop : (u v : Bool) → (u ≡ true → v ≡ false) → u && v ≡ false
and_drop true v h = h refl
and_drop false v h = refl

-- under a test, what holds where it passes
pub and_cong : (u v w : Bool) → (w ≡ true → u ≡ v) → u && w ≡ v && w
and_cong u v true h = rw (h refl)
and_cong u v false h = and_drop u false (λ _. refl) ∙ sym (and_drop v false (λ _. refl))

pub and_both : (u v w : Bool) → (u ≡ true → v ≡ true → w ≡ true) → u && v ≡ true → u && w ≡ true
and_both true v w h e = h refl e
and_both false v w h e = e

pub and_left : (u v : Bool) → u && v ≡ true → u ≡ true
and_left true v e = refl
and_left false v e = e

pub and_also : (u v : Bool) → u && v ≡ true → v ≡ true
and_also true v e = e
and_also false v e = clash e refl

pub and_swap : (u v w : Bool) → u && (v && w) ≡ v && (u && w)
and_swap true v w = refl
and_swap false true w = refl
and_swap false false w = refl

pub or_none : (u : Bool) → u || false ≡ u
or_none true = refl
or_none false = refl

pub or_swap : (u v w : Bool) → u || (v || w) ≡ v || (u || w)
or_swap true true w = refl
or_swap true false w = refl
or_swap false v w = refl

-- a weaker test first
pub and_more : (t u v : Bool) → t && v ≡ true → (t || u) && v ≡ true
and_more true u v e = e
and_more false u v e = clash e refl

-- a test that passes, and one that fails
pub says_yes : {P : Type 0} → P → Says true P
says_yes p = record { yes = λ e. p; no = λ e. clash {u = true} refl e }

pub says_no : {P : Type 0} → (P → ⊥) → Says false P
says_no f = record { yes = λ e. clash e refl; no = λ e p. f p }

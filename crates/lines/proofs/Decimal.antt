-- A number in decimal: its digits one by one, how many there are, and that reading them back gives the number.
use Prim.Native.Nat.{ℕ, zero, suc, ◌+◌, ◌-◌, ◌*◌, ◌/◌, ◌%◌, ◌^◌, ◌≤◌, ◌<◌}
use mathlib.Core.Path.{◌≡◌, refl, sym, ap, ◌∙◌}
use mathlib.Core.List.{List, [], ◌∷◌, ◌++◌}
use mathlib.Core.Bool.{true}
use native.Mathlib.Omega.{arith}
use native.Mathlib.Decide.{dec_lt}
use native.Mathlib.Nat.{pow-suc}
use native.Mathlib.Numerals.{add-one}
use lib.ListN.{length, length-append}
use borrow.Author.Tests.{lt-ltb, le-ltb}
use Rattle.fields.specs.Number.{good, digits, value, is_digit, number_of}
use Rattle.fields.proofs.Numbers.{digit_is, good_number}
use Rattle.lines.specs.Lines.{digit, spelled, decimal}

-- ---- digit by digit

spelled_one : (f n : ℕ) → n < 10 → spelled f n ≡ digit n ∷ []
unfolding spelled
spelled_one zero n h = refl
spelled_one (suc f) n h = rw (lt-ltb n 10 h)

spelled_more : (f n : ℕ) → 10 ≤ n → spelled (suc f) n ≡ spelled f (n / 10) ++ (digit (n % 10) ∷ [])
unfolding spelled
spelled_more f n h = rw (le-ltb n 10 h)

-- a bound of n or more leaves nothing out
spelled_same : (f g n : ℕ) → n ≤ f → n ≤ g → spelled f n ≡ spelled g n
spelled_same zero g n h k = spelled_one zero n (omega arith) ∙ sym (spelled_one g n (omega arith))
spelled_same (suc f) zero n h k = spelled_one (suc f) n (omega arith) ∙ sym (spelled_one zero n (omega arith))
spelled_same (suc f) (suc g) n h k = go (dec_lt n 10) (λ m. spelled_same f g (n / 10) (omega arith) (omega arith))
  where
    go : Dec (n < 10) → (10 ≤ n → spelled f (n / 10) ≡ spelled g (n / 10)) → spelled (suc f) n ≡ spelled (suc g) n
    go (yes l) ih = spelled_one (suc f) n l ∙ sym (spelled_one (suc g) n l)
    go (no l) ih =
        let m : 10 ≤ n = omega arith in
        spelled_more f n m ∙ rw (ih m) (sym (spelled_more g n m))

pub decimal_one : (n : ℕ) → n < 10 → decimal n ≡ digit n ∷ []
unfolding decimal
decimal_one n h = spelled_one n n h

pub decimal_more : (n : ℕ) → 10 ≤ n → decimal n ≡ decimal (n / 10) ++ (digit (n % 10) ∷ [])
unfolding decimal
decimal_more zero h = absurd (omega arith)
decimal_more (suc m) h = spelled_more m (suc m) h ∙ rw (spelled_same m (suc m / 10) (suc m / 10) (omega arith) (omega arith))

-- what holds of the numbers of one digit, and goes on from n / 10 to n, holds of every number
by_digits : (P : ℕ → Type 0) → ((n : ℕ) → n < 10 → P n) → ((n : ℕ) → 10 ≤ n → P (n / 10) → P n) → (n : ℕ) → P n
by_digits P one more n = below n n (omega arith)
  where
    step : (n : ℕ) → Dec (n < 10) → (10 ≤ n → P (n / 10)) → P n
    step n (yes l) ih = one n l
    step n (no l) ih = more n (omega arith) (ih (omega arith))

    below : (f n : ℕ) → n ≤ f → P n
    below zero n h = one n (omega arith)
    below (suc f) n h = step n (dec_lt n 10) (λ m. below f (n / 10) (omega arith))

-- ---- how many digits

pub places_one : (n : ℕ) → n < 10 → length (decimal n) ≡ 1
places_one n h = rw (decimal_one n h)

pub places_more : (n : ℕ) → 10 ≤ n → length (decimal n) ≡ length (decimal (n / 10)) + 1
places_more n h = ap length (decimal_more n h) ∙ length-append (decimal (n / 10)) (digit (n % 10) ∷ [])

pub places_some : (n : ℕ) → 1 ≤ length (decimal n)
places_some n = by_digits (λ m. 1 ≤ length (decimal m)) (λ m h. omega (arith, places_one m h)) (λ m h ih. omega (arith, places_more m h)) n

-- a number below 10 ^ k has at most k digits
places_within : (k n : ℕ) → n < 10 ^ suc k → length (decimal n) ≤ suc k
places_within zero n h = omega (arith, places_one n (rw (pow-suc 10 0) at h))
places_within (suc k) n h = go (dec_lt n 10) (λ l. places_within k (n / 10) l)
  where
    go : Dec (n < 10) → (n / 10 < 10 ^ suc k → length (decimal (n / 10)) ≤ suc k) → length (decimal n) ≤ suc (suc k)
    go (yes l) ih = omega (arith, places_one n l)
    go (no l) ih = omega (arith, places_more n (omega arith), ih (omega (arith, h, pow-suc 10 (suc k))))

ten_some : (k : ℕ) → 1 ≤ 10 ^ k
ten_some zero = omega arith
ten_some (suc k) = omega (arith, pow-suc 10 k, ten_some k)

-- a number of 10 ^ k or more has more than k digits
places_beyond : (k n : ℕ) → 10 ^ k ≤ n → suc k ≤ length (decimal n)
places_beyond zero n h = places_some n
places_beyond (suc k) n h =
    let p : 10 ^ suc k ≡ 10 ^ k * 10 = pow-suc 10 k in
    let one : 1 ≤ 10 ^ k = ten_some k in
    omega (arith, places_more n (omega (arith, p, one)), places_beyond k (n / 10) (omega (arith, p)))

-- so that its digits are counted by the powers of 10 that lie below it
pub places_power : (k n : ℕ) → 10 ^ k ≤ n → n < 10 * 10 ^ k → length (decimal n) ≡ k + 1
places_power k n low high =
    omega (arith, places_beyond k n low, places_within k n (omega (arith, pow-suc 10 k)))

-- and a number lies below the power of 10 that has one digit more
pub places_above : (n : ℕ) → n < 10 ^ length (decimal n)
places_above n = go (dec_lt n (10 ^ length (decimal n)))
  where
    go : Dec (n < 10 ^ length (decimal n)) → n < 10 ^ length (decimal n)
    go (yes l) = l
    go (no l) = absurd (omega (arith, places_beyond (length (decimal n)) n (omega arith)))

-- "1 to 20 digits"
pub places_few : (n : ℕ) → n ≤ 18446744073709551615 → length (decimal n) ≤ 20
places_few n h = places_within 19 n (omega arith)

-- ---- the last digit first

-- the last k digits of a number, zeros ahead of its first
unfoldable pub padded : ℕ → ℕ → List ℕ
padded zero n = []
padded (suc k) n = padded k (n / 10) ++ (digit (n % 10) ∷ [])

pub padded_length : (k n : ℕ) → length (padded k n) ≡ k
unfolding padded
padded_length zero n = refl
padded_length (suc k) n = omega (arith, length-append (padded k (n / 10)) (digit (n % 10) ∷ []), padded_length k (n / 10))

-- the last digit, and those ahead of it
pub padded_last : (k n : ℕ) → padded (k + 1) n ≡ padded k (n / 10) ++ (digit (n % 10) ∷ [])
unfolding padded
padded_last k n = rw (add-one k)

pub padded_none : (n : ℕ) → padded 0 n ≡ []
unfolding padded
padded_none n = refl

-- as many as the number has are the number
pub padded_all : (n : ℕ) → padded (length (decimal n)) n ≡ decimal n
padded_all n =
    by_digits
    (λ m. padded (length (decimal m)) m ≡ decimal m)
    (λ m h. one m h)
    (λ m h ih. rw (places_more m h, padded_last (length (decimal (m / 10))) m, ih) (sym (decimal_more m h)))
    n
  where
    one : (m : ℕ) → m < 10 → padded (length (decimal m)) m ≡ decimal m
    one m h =
        let e : m % 10 ≡ m = omega arith in
        rw (places_one m h, padded_last 0 m, padded_none (m / 10), e) (sym (decimal_one m h))

-- ---- read back

value_snoc : (l : List ℕ) (v b : ℕ) → value v (l ++ (b ∷ [])) ≡ value v l * 10 + (b - 48)
unfolding value
value_snoc [] v b = refl
value_snoc (a ∷ l) v b = value_snoc l (v * 10 + (a - 48)) b

digits_snoc : (l : List ℕ) (b : ℕ) → is_digit b ≡ true → digits (l ++ (b ∷ [])) ≡ digits l
unfolding digits
digits_snoc [] b h = rw h
digits_snoc (a ∷ l) b h = rw (digits_snoc l b h)

digit_reads : (d : ℕ) → d < 10 → is_digit (digit d) ≡ true
digit_reads d h = digit_is (digit d) (omega arith) (omega arith)

all_digits : (n : ℕ) → digits (decimal n) ≡ true
unfolding digits
all_digits n =
    by_digits
    (λ m. digits (decimal m) ≡ true)
    (λ m h. rw (decimal_one m h, digit_reads m h))
    (λ m h ih. rw (decimal_more m h, digits_snoc (decimal (m / 10)) (digit (m % 10)) (digit_reads (m % 10) (omega arith))) ih)
    n

decimal_value : (n : ℕ) → value 0 (decimal n) ≡ n
unfolding value
decimal_value n =
    by_digits
    (λ m. value 0 (decimal m) ≡ m)
    (λ m h. rw (decimal_one m h) (omega arith))
    (λ m h ih. rw (decimal_more m h, value_snoc (decimal (m / 10)) 0 (digit (m % 10)), ih) (omega arith))
    n

-- what is written of a number of 64 bits is read as that number
pub decimal_reads : (n : ℕ) → n ≤ 18446744073709551615 → number_of (decimal n) ≡ good n
decimal_reads n h =
    good_number (decimal n) (places_some n) (places_few n h) (all_digits n) (omega (arith, decimal_value n)) ∙ rw (decimal_value n)

-- Laws of `number_at`, by a walk over the digits of a field. Assumes nothing.
use Prim.Native.Nat.{ℕ, suc, ◌+◌, ◌-◌, ◌*◌, ◌^◌, ◌≤◌, ◌<◌}
use mathlib.Core.Path.{◌≡◌, refl, sym, ap, ◌∙◌}
use Rattle.std.specs.Prelude.{Some, None}
use mathlib.Core.List.{List, [], ◌∷◌}
use mathlib.Core.Bool.{Bool, true, false, ◌&&◌}
use native.Mathlib.Omega.{arith}
use native.Mathlib.Decide.{dec_lt}
use native.Mathlib.Nat.{le_refl, sub_self, pow-succ', pow-le-pow_right}
use lib.ListN.{length, get_or}
use lib.Dec.{leb}
use borrow.Author.Tests.{le-leb, lt-leb}
use Rattle.fields.specs.Number.{Read, good, bad, is_digit, digits, value, number_of}
use Rattle.fields.specs.Scan.{in_field, field_at, number_read, number_at, Counting, FieldTo}
use Rattle.fields.specs.declared.Number.{Number}
use Rattle.fields.proofs.Both.{and_no}
use Rattle.fields.proofs.Scan.{front_in, front_out, front_none, front_within, walk_start, walk_in, field_in}

-- which bytes are digits
module _ (b : ℕ) where
  pub digit_low : b < 48 → is_digit b ≡ false
  digit_low h = rw (lt-leb 48 b h)

  pub digit_high : 57 < b → is_digit b ≡ false
  digit_high h = and_no (leb 48 b) (leb b 57) (lt-leb b 57 h)

  pub digit_none : (48 ≤ b → b ≤ 57 → ⊥) → is_digit b ≡ false
  digit_none h = go (dec_lt b 48)
    where
      go : Dec (b < 48) → is_digit b ≡ false
      go (yes k) = digit_low k
      go (no k) = digit_high (omega (arith, h))

  pub digit_is : 48 ≤ b → b ≤ 57 → is_digit b ≡ true
  digit_is h k = rw (le-leb 48 b h, le-leb b 57 k)

-- each way not to be a number, and the way to be one
module _ (l : List ℕ) where
  bad_short : length l < 1 → number_of l ≡ bad
  unfolding number_of
  bad_short h = rw (lt-leb 1 (length l) h)

  bad_long : 20 < length l → number_of l ≡ bad
  unfolding number_of
  bad_long h = rw (and_no (leb 1 (length l)) (leb (length l) 20) (lt-leb (length l) 20 h))

  bad_digits : digits l ≡ false → number_of l ≡ bad
  unfolding number_of
  bad_digits h = rw (and_no (leb 1 (length l) && leb (length l) 20) (digits l) h)

  bad_large : 18446744073709551615 < value 0 l → number_of l ≡ bad
  unfolding number_of
  bad_large h = rw (and_no (leb 1 (length l) && leb (length l) 20 && digits l) (leb (value 0 l) 18446744073709551615) (lt-leb (value 0 l) 18446744073709551615 h))

  pub good_number : 1 ≤ length l → length l ≤ 20 → digits l ≡ true → value 0 l ≤ 18446744073709551615 → number_of l ≡ good (value 0 l)
  unfolding number_of
  good_number p q r s = rw (le-leb 1 (length l) p, le-leb (length l) 20 q, r, le-leb (value 0 l) 18446744073709551615 s)

-- one digit more
ten_more : (from i : ℕ) → from ≤ i → 10 ^ ((i + 1) - from) ≡ 10 ^ (i - from) * 10
ten_more from i h =
    let e : (i + 1) - from ≡ suc (i - from) = omega arith in
    rw (e, pow-succ') (omega arith)

-- a value only grows
value_grows : (l : List ℕ) (v : ℕ) → v ≤ value v l
unfolding value
value_grows [] v = le_refl v
value_grows (b ∷ l) v = omega (arith, value_grows l (v * 10 + (b - 48)))

pub counting_start : (text : List ℕ) (from : ℕ) → from ≤ length text → Counting text from from 0
counting_start text from h = record {
  walk = walk_start in_field text from h;
  low = omega arith;
  small = rw (sub_self from) (omega arith);
  same_digits = refl;
  same_value = refl;
}

bad_at : (text : List ℕ) (from : ℕ) → number_of (field_at text from) ≡ bad → number_at text from ≡ None
unfolding number_at
bad_at text from h = rw h

module _ {text : List ℕ} {from i v : ℕ} (r : Counting text from i v) where
  -- k digits are a number below 10 ^ k
  pub counting_few : (k : ℕ) → i - from ≤ k → v < 10 ^ k
  counting_few k h = omega (arith, r.small, pow-le-pow_right {n = 10} (omega arith) h)

  pub counting_fits : i < from + 19 → v < 1000000000000000000
  counting_fits h = omega (arith, counting_few 18 (omega arith))

  -- the byte at i
  module _ (h : i < length text) where
    module _ (low : 48 ≤ get_or text i 0) (high : get_or text i 0 ≤ 57) where
      digit_in : field_at text i ≡ get_or text i 0 ∷ field_at text (i + 1)
      digit_in = front_in in_field text i h (field_in (get_or text i 0) (λ e. omega arith) (λ e. omega arith))

      pub counting_digit : Counting text from (i + 1) (v * 10 + (get_or text i 0 - 48))
      unfolding digits value
      counting_digit = record {
        walk = walk_in r.walk h (field_in (get_or text i 0) (λ e. omega arith) (λ e. omega arith));
        low = omega (arith, r.low);
        small = omega (arith, r.small, r.low, ten_more from i r.low);
        same_digits = r.same_digits ∙ rw (digit_in, digit_is (get_or text i 0) low high);
        same_value = r.same_value ∙ rw digit_in;
      }

      pub number_large : 18446744073709551615 < v * 10 + (get_or text i 0 - 48) → number_at text from ≡ None
      number_large k =
          let g = value_grows (field_at text (i + 1)) (v * 10 + (get_or text i 0 - 48)) in
          bad_at text from (bad_large (field_at text from) (omega (arith, counting_digit.same_value)))

    module _ (here : in_field (get_or text i 0) ≡ true) where
      pub number_other : is_digit (get_or text i 0) ≡ false → number_at text from ≡ None
      unfolding digits
      number_other e = bad_at text from (bad_digits (field_at text from) (r.same_digits ∙ rw (front_in in_field text i h here, e)))

      pub number_long : 20 ≤ i - from → number_at text from ≡ None
      number_long k = bad_at text from (bad_long (field_at text from) (omega (arith, r.walk.same_end, ap length (front_in in_field text i h here))))

  pub counting_more : i < length text → 48 ≤ get_or text i 0 → get_or text i 0 ≤ 57 → {w : ℕ} → w ≡ v * 10 + (get_or text i 0 - 48) → Counting text from (i + 1) w
  counting_more h low high e = rw e (counting_digit h low high)

  -- the field ends at i
  module _ (none : field_at text i ≡ []) where
    pub number_none : i ≡ from → number_at text from ≡ None
    number_none e = bad_at text from (bad_short (field_at text from) (omega (arith, r.walk.same_end, ap length none)))

    pub number_ends : 1 ≤ i - from → i - from ≤ 20 → v ≤ 18446744073709551615 → number_at text from ≡ Some (record { value = v; end = i })
    unfolding digits value number_at
    number_ends p q s =
        let len : from + length (field_at text from) ≡ i = omega (arith, r.walk.same_end, ap length none) in
        let val : value 0 (field_at text from) ≡ v = r.same_value ∙ rw none in
        rw (good_number (field_at text from) (omega arith) (omega arith) (r.same_digits ∙ rw none) (omega arith), len, val)

-- no digit stands where the field starts
pub number_empty : {text : List ℕ} {from i v : ℕ} → Counting text from i v → i ≡ from → (i < length text → is_digit (get_or text i 0) ≡ false) → number_at text from ≡ None
number_empty {text} {from} {i} r e h = go (dec_lt i (length text))
  where
    at_byte : i < length text → (t : Bool) → in_field (get_or text i 0) ≡ t → number_at text from ≡ None
    at_byte k true q = number_other r k q (h k)
    at_byte k false q = number_none r (front_out in_field text i k q) e

    go : Dec (i < length text) → number_at text from ≡ None
    go (yes k) = at_byte k (in_field (get_or text i 0)) refl
    go (no k) = number_none r (front_none in_field text i (omega (arith, r.walk.inside))) e

-- what a walk over digits meets
pub ruleset counts = (counting_start, counting_fits, digit_none)

-- what an answer says of the field
read_bad : (stop : ℕ) (r : Read ℕ) → number_read stop r ≡ None → r ≡ bad
read_bad stop (good v) e = let z : ◌≡◌ {A = ℕ} 0 1 = cc in absurd (omega arith)
read_bad stop bad e = refl

read_value : (stop : ℕ) (r : Read ℕ) (v b : ℕ) → number_read stop r ≡ Some (record { value = v; end = b }) → (r ≡ good v) × (b ≡ stop)
read_value stop (good w) v b e =
    let q : ◌≡◌ {A = Number} (record { value = w; end = stop }) (record { value = v; end = b }) = cc in
    (ap good (ap (λ (n : Number). n.value) q), sym (ap (λ (n : Number). n.end) q))
read_value stop bad v b e = let z : ◌≡◌ {A = ℕ} 0 1 = cc in absurd (omega arith)

pub number_bad : (text : List ℕ) (at : ℕ) → number_at text at ≡ None → number_of (field_at text at) ≡ bad
unfolding number_at
number_bad text at e = read_bad (at + length (field_at text at)) (number_of (field_at text at)) e

module _ (text : List ℕ) (at v b : ℕ) (e : number_at text at ≡ Some (record { value = v; end = b })) where
  pub number_good : number_of (field_at text at) ≡ good v
  unfolding number_at
  number_good = (read_value (at + length (field_at text at)) (number_of (field_at text at)) v b e).0

  pub number_to : at ≤ length text → FieldTo text at b
  unfolding number_at
  number_to h =
      let q : b ≡ at + length (field_at text at) = (read_value (at + length (field_at text at)) (number_of (field_at text at)) v b e).1 in
      record { ends = q; inside = omega (arith, front_within in_field text at h) }

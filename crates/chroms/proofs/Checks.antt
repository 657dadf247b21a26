-- Laws of a check of names, one name at a time. Assumes nothing.
use Prim.Native.Nat.{ℕ, zero, suc, ◌+◌, ◌-◌, ◌≤◌, ◌<◌}
use mathlib.Core.Path.{◌≡◌, refl, sym, ◌∙◌}
use Rattle.std.specs.Prelude.{Some, None, Ok, Err, IsTrue, ◌↔◌}
use mathlib.Core.List.{List}
use mathlib.Core.Bool.{Bool, true, false, cond, ◌&&◌, true≢false}
use native.Mathlib.Omega.{arith}
use native.Mathlib.Decide.{dec_lt}
use native.Mathlib.Nat.{zero-add}
use lib.ListN.{length, get_or, drop, length-drop}
use lib.Dec.{leb, eqb}
use borrow.Author.Tests.{le-leb, lt-leb, eq-eqb, ne_eqb, eqb-true}
use Rattle.fields.specs.Names.{part, within, names, number_in}
use Rattle.fields.proofs.Both.{and_no, and_left, and_right}
use Rattle.fields.proofs.Scan.{rest_none}
use Rattle.fields.proofs.Naming.{within_even, within_from, names_cons, names_length}
use Rattle.chroms.specs.Check.{all_named, fine_at, check_of, found_of, lookup_number}
use Rattle.rules.specs.declared.Unbegun.TheVariants.{Sizes, Names}

-- the name with the number k
module _ (text from to : List ℕ) (k : ℕ) (name : List ℕ) (is : name ≡ part (get_or from k 0) (get_or to k 0) text) where
  pub fine_empty : length name < 1 → false ≡ fine_at text from to k
  fine_empty e = rw (← is, lt-leb 1 (length name) e)

  pub fine_long : 255 < length name → false ≡ fine_at text from to k
  fine_long e = rw (← is, and_no (leb 1 (length name)) (leb (length name) 255) (lt-leb (length name) 255 e))

  pub fine_found : within (length text) from to ≡ true → k < length from → 1 ≤ length name → length name ≤ 255 →
      {found count : ℕ} → found ≡ (k + 1) + number_in (names text (drop (k + 1) from) (drop (k + 1) to)) name → count ≡ length from → eqb found count ≡ fine_at text from to k
  fine_found ok h some few {found} {count} f e =
      let behind : length (names text (drop (k + 1) from) (drop (k + 1) to)) ≡ length from - (k + 1) =
      names_length (length text) text (drop (k + 1) from) (drop (k + 1) to) (within_from (length text) from to (k + 1) (omega arith) ok) ∙ length-drop (k + 1) from in
      rw (← is, le-leb 1 (length name) some, le-leb (length name) 255 few) (go (number_in (names text (drop (k + 1) from) (drop (k + 1) to)) name) (length (names text (drop (k + 1) from) (drop (k + 1) to))) (omega arith) (omega (arith, behind)))
    where
      go : (i n : ℕ) → found ≡ k + 1 + i → count ≡ k + 1 + n → eqb found count ≡ eqb i n
      go i n p q = by_test (eqb i n) refl
        where
          by_test : (t : Bool) → eqb i n ≡ t → eqb found count ≡ t
          by_test true r = eq-eqb found count (omega (arith, p, q, eqb-true i n r))
          by_test false r = ne_eqb found count (λ u. true≢false (sym (eq-eqb i n (omega (arith, p, q, u))) ∙ r))

-- what the check of a name meets
pub ruleset fines = (fine_empty, fine_long, fine_found)

-- the names from k on are named where each of them is fine
module _ (text from to : List ℕ) (ok : within (length text) from to ≡ true) where
  from_here : (k : ℕ) → k < length from → all_named (names text (drop k from) (drop k to)) ≡ fine_at text from to k && all_named (names text (drop (k + 1) from) (drop (k + 1) to))
  unfolding all_named
  from_here k h = rw (names_cons from to k h (omega (arith, within_even (length text) from to ok)) text)

  each_named : (n k : ℕ) → k + n ≡ length from → ((i : ℕ) → i < length from → fine_at text from to i ≡ true) → all_named (names text (drop k from) (drop k to)) ≡ true
  unfolding all_named names
  each_named zero k e h = rw (rest_none from k (omega (arith, e)))
  each_named (suc n) k e h = from_here k (omega (arith, e)) ∙ rw (h k (omega (arith, e))) (each_named n (k + 1) (omega (arith, e)) h)

  named_each : (n k : ℕ) → k + n ≡ length from → all_named (names text (drop k from) (drop k to)) ≡ true → (i : ℕ) → k ≤ i → i < length from → fine_at text from to i ≡ true
  named_each zero k e t i low high = absurd (omega (arith, e))
  named_each (suc n) k e t i low high =
      let both : fine_at text from to k && all_named (names text (drop (k + 1) from) (drop (k + 1) to)) ≡ true = sym (from_here k (omega (arith, e))) ∙ t in
      go (dec_lt k i)
      (λ l. named_each n (k + 1) (omega (arith, e)) (and_right (fine_at text from to k) (all_named (names text (drop (k + 1) from) (drop (k + 1) to))) both) i (omega (arith, l)) high)
      (and_left (fine_at text from to k) (all_named (names text (drop (k + 1) from) (drop (k + 1) to))) both)
    where
      go : Dec (k < i) → (k < i → fine_at text from to i ≡ true) → fine_at text from to k ≡ true → fine_at text from to i ≡ true
      go (yes l) further here = further l
      go (no l) further here =
          let z : i ≡ k = omega arith in
          rw z here

  pub all_fine : (r : Bool) → (IsTrue r ↔ ((k : ℕ) → k < length from → fine_at text from to k ≡ true)) → r ≡ all_named (names text from to)
  all_fine true h = sym (each_named (length from) 0 (omega arith) (h.0 refl))
  all_fine false h = go (all_named (names text from to)) refl
    where
      go : (t : Bool) → all_named (names text from to) ≡ t → false ≡ t
      go true q = h.1 (λ k l. named_each (length from) 0 (omega arith) q k (omega arith) l)
      go false q = refl

-- each way for a list to be refused, and to be fine
module _ (text from to : List ℕ) where
  pub check_outside : within (length text) from to ≡ false → check_of text from to ≡ Err Sizes
  unfolding check_of
  check_outside e = rw e

  module _ (ok : within (length text) from to ≡ true) where
    pub check_uncounted : (1 ≤ length from → length from ≤ 256 → ⊥) → check_of text from to ≡ Err Sizes
    unfolding check_of
    check_uncounted h = go (dec_lt (length from) 1)
      where
        go : Dec (length from < 1) → check_of text from to ≡ Err Sizes
        go (yes k) = rw (ok, lt-leb 1 (length from) k)
        go (no k) = rw (ok, and_no (leb 1 (length from)) (leb (length from) 256) (lt-leb (length from) 256 (omega (arith, h))))

    module _ (some : 1 ≤ length from) (few : length from ≤ 256) where
      judged : check_of text from to ≡ cond (all_named (names text from to)) (Ok tt) (Err Names)
      unfolding check_of
      judged = rw (ok, le-leb 1 (length from) some, le-leb (length from) 256 few)

      pub check_fine : all_named (names text from to) ≡ true → check_of text from to ≡ Ok tt
      check_fine e = judged ∙ rw e

      pub check_names : all_named (names text from to) ≡ false → check_of text from to ≡ Err Names
      check_names e = judged ∙ rw e

  pub found_at : (name : List ℕ) (k : ℕ) → within (length text) from to ≡ true → k ≡ 0 + number_in (names text (drop 0 from) (drop 0 to)) name → found_of text from to name ≡ Some k
  unfolding found_of
  found_at name k ok e = rw (ok, e, zero-add)

  pub found_refused : (name : List ℕ) → within (length text) from to ≡ false → found_of text from to name ≡ None
  unfolding found_of
  found_refused name e = rw e

-- a lookup is refused by 1 exactly where the list names what is not in its text
pub lookup_number_lem : (text from to name : List ℕ) → lookup_number (found_of text from to name) ≡ cond (within (length text) from to) 0 1
unfolding found_of
lookup_number_lem text from to name = go (within (length text) from to) (number_in (names text from to) name)
  where
    go : (c : Bool) (n : ℕ) → lookup_number (cond c (Some n) None) ≡ cond c 0 1
    go true n = refl
    go false n = refl

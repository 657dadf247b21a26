-- Texts that stand one behind the other: by number, in all, and what their ends are.
use mathlib.Core.Path.{◌≡◌, refl, sym, ap, ◌∙◌}
use mathlib.Core.Bool.{Bool, true, false, cond, ◌&&◌}
use mathlib.Core.Option.{none, some}
use mathlib.Core.List.{List, [], ◌∷◌}
use Prim.Native.Nat.{ℕ, zero, suc, ◌+◌, ◌-◌, ◌≤◌, ◌<◌}
use native.Mathlib.Omega.{arith}
use lib.Dec.{leb, eqb}
use lib.ListN.{length, get_or}
use borrow.Author.Tests.{le-leb, leb-true, eqb-true}
use Rattle.basics.specs.Lists.{total}
use Rattle.basics.proofs.SaysLaws.{says_same, says_map, says_le, says_and}
use Rattle.fields.specs.Names.{part}
use Rattle.fields.proofs.Both.{and_left, and_right, and_no}
use Rattle.fields.proofs.Naming.{part_length}
use Rattle.std.specs.Option.{unwrap_or}
use Rattle.std.specs.Prelude.{MatchBool, slice_get, slice_index_or}
use Rattle.rules.specs.Start.{within}
use Rattle.inputs.specs.Texts.{fault, bytes_most, bytes_of, sizes_fault}
use Rattle.inputs.specs.Parted.{parted_at, parts_all, stream_texts, texts_from, texts_of, sized_by}

-- ---- each text

pub parted_length : (bytes : List ℕ) (at : ℕ) (ends : List ℕ) → length (parted_at bytes at ends) ≡ length ends
unfolding parted_at
parted_length bytes at [] = refl
parted_length bytes at (e ∷ ends) = ap suc (parted_length bytes e ends)

-- text k begins where the one ahead of it ends
pub parted_get : (bytes : List ℕ) (at : ℕ) (ends : List ℕ) (k : ℕ) → k < length ends → get_or (parted_at bytes at ends) k [] ≡ part (get_or (at ∷ ends) k 0) (get_or ends k 0) bytes
unfolding parted_at
parted_get bytes at [] k h = absurd (omega arith)
parted_get bytes at (e ∷ ends) zero h = refl
parted_get bytes at (e ∷ ends) (suc k) h = parted_get bytes e ends k (omega arith)

-- ---- the ends

-- the last end is that of the bytes, and none falls
pub ends_last : (n at : ℕ) (ends : List ℕ) → parts_all n at ends ≡ true → at ≤ n
unfolding parts_all
ends_last n at [] e = omega (arith, eqb-true at n e)
ends_last n at (x ∷ ends) e =
    omega (arith, leb-true at x (and_left (leb at x) (parts_all n x ends) e), ends_last n x ends (and_right (leb at x) (parts_all n x ends) e))

pub ends_rise : (n at : ℕ) (ends : List ℕ) (k : ℕ) → parts_all n at ends ≡ true → k < length ends → get_or (at ∷ ends) k 0 ≤ get_or ends k 0
unfolding parts_all
ends_rise n at [] k e h = absurd (omega arith)
ends_rise n at (x ∷ ends) zero e h = leb-true at x (and_left (leb at x) (parts_all n x ends) e)
ends_rise n at (x ∷ ends) (suc k) e h = ends_rise n x ends k (and_right (leb at x) (parts_all n x ends) e) (omega arith)

pub ends_inside : (n at : ℕ) (ends : List ℕ) (k : ℕ) → parts_all n at ends ≡ true → k < length ends → get_or ends k 0 ≤ n
unfolding parts_all
ends_inside n at [] k e h = absurd (omega arith)
ends_inside n at (x ∷ ends) zero e h = ends_last n x ends (and_right (leb at x) (parts_all n x ends) e)
ends_inside n at (x ∷ ends) (suc k) e h = ends_inside n x ends k (and_right (leb at x) (parts_all n x ends) e) (omega arith)

-- ends of which none falls part as many bytes as the last says
ends_risen : (n at : ℕ) (ends : List ℕ) → ((k : ℕ) → k < length ends → get_or (at ∷ ends) k 0 ≤ get_or ends k 0) → eqb (get_or (at ∷ ends) (length ends) 0) n ≡ parts_all n at ends
unfolding parts_all
ends_risen n at [] h = refl
ends_risen n at (x ∷ ends) h = rw (le-leb at x (h 0 (omega arith))) (ends_risen n x ends (λ k b. h (suc k) (omega arith)))

-- ends of which one falls part none
ends_fallen : (n : ℕ) (ends : List ℕ) (k : ℕ) → k + 1 < length ends → get_or ends (k + 1) 0 < get_or ends k 0 → false ≡ parts_all n 0 ends
ends_fallen n ends k b f = go (parts_all n 0 ends) refl
  where
    go : (t : Bool) → parts_all n 0 ends ≡ t → false ≡ t
    go true e = let one : k + 1 ≡ suc k = omega arith in absurd (omega (arith, ends_rise n 0 ends (suc k) e (omega arith), ap (λ (m : ℕ). get_or ends m 0) one))
    go false e = refl

-- the last of them; 0 where there is none
item_is : (xs : List ℕ) (k : ℕ) → unwrap_or (slice_get xs k) 0 ≡ get_or xs k 0
item_is [] k = refl
item_is (x ∷ xs) zero = refl
item_is (x ∷ xs) (suc k) = item_is xs k

pub last_is : (ends : List ℕ) → unwrap_or (slice_get ends (length ends - 1)) 0 ≡ get_or (0 ∷ ends) (length ends) 0
last_is [] = refl
last_is (x ∷ ends) = let e : suc (length ends) - 1 ≡ length ends = omega arith in rw e (item_is (x ∷ ends) (length ends))

-- no end falls, and one does
abbrev Rises : List ℕ → Type 0
Rises ends = (i j d : ℕ) → i ≤ j → j < length ends → slice_index_or ends i d ≤ slice_index_or ends j d

abbrev Falls : List ℕ → Type 0
Falls ends = (k : ℕ) × (k + 1 < length ends) × ((d : ℕ) → get_or ends (k + 1) d < get_or ends k d)

-- the test of the ends, by whether they rise and by the last of them
pub ends_tested : (n : ℕ) (ends : List ℕ) (s : Bool) {last : ℕ} → MatchBool s (Rises ends) (Falls ends) → last ≡ get_or (0 ∷ ends) (length ends) 0 → s && eqb last n ≡ parts_all n 0 ends
ends_tested n ends true h e = rw e (ends_risen n 0 ends below)
  where
    below : (k : ℕ) → k < length ends → get_or (0 ∷ ends) k 0 ≤ get_or ends k 0
    below zero b = omega arith
    below (suc k) b = h k (suc k) 0 (omega arith) b
ends_tested n ends false h e = ends_fallen n ends h.0 h.1 (h.2 0)

-- ---- in all

pub parted_total : (bytes : List ℕ) (at : ℕ) (ends : List ℕ) → parts_all (length bytes) at ends ≡ true → total (parted_at bytes at ends) ≡ length bytes - at
unfolding parts_all parted_at
parted_total bytes at [] e = omega (arith, eqb-true at (length bytes) e)
parted_total bytes at (x ∷ ends) e =
    let more = and_right (leb at x) (parts_all (length bytes) x ends) e in
    let low = leb-true at x (and_left (leb at x) (parts_all (length bytes) x ends) e) in
    let high = ends_last (length bytes) x ends more in
    let a = parted_total bytes x ends more in
    let b = part_length bytes at x low high in
    omega (arith, a, b)

-- ---- sizes

-- what the test of sizes says
pub record Sized (n : ℕ) (ends : List ℕ) : Type 0 where
  pub bytes : n ≤ bytes_most
  pub some : 3 ≤ length ends
  pub few : length ends ≤ 10
  pub parts : parts_all n 0 ends ≡ true

pub sized_says : (n : ℕ) (ends : List ℕ) → sized_by n ends ≡ true → Sized n ends
unfolding sized_by
sized_says n ends e =
    let more : within 3 10 (length ends) && parts_all n 0 ends ≡ true = and_right (leb n bytes_most) (within 3 10 (length ends) && parts_all n 0 ends) e in
    let b : within 3 10 (length ends) ≡ true = and_left (within 3 10 (length ends)) (parts_all n 0 ends) more in
    record {
      bytes = leb-true n bytes_most (and_left (leb n bytes_most) (within 3 10 (length ends) && parts_all n 0 ends) e);
      some = leb-true 3 (length ends) (and_left (leb 3 (length ends)) (leb (length ends) 10) b);
      few = leb-true (length ends) 10 (and_right (leb 3 (length ends)) (leb (length ends) 10) b);
      parts = and_right (within 3 10 (length ends)) (parts_all n 0 ends) more;
    }

-- the test, from what the test of the ends says
pub sized_by_lem : (n : ℕ) (ends : List ℕ) {p : Bool} → p ≡ parts_all n 0 ends → leb n bytes_most && (within 3 10 (length ends) && p) ≡ sized_by n ends
unfolding sized_by
sized_by_lem n ends h = ap (λ (p : Bool). leb n bytes_most && (within 3 10 (length ends) && p)) h

-- ---- the streams' texts

module _ (bytes : List ℕ) where
  pub streams_count : (ends : List ℕ) → 2 ≤ length ends → length (stream_texts bytes ends) + 2 ≡ length ends
  streams_count [] h = absurd (omega arith)
  streams_count (a ∷ []) h = absurd (omega arith)
  streams_count (a ∷ b ∷ ends) h = omega (arith, parted_length bytes b ends)

  pub streams_get : (ends : List ℕ) (k : ℕ) → k + 2 < length ends → get_or (stream_texts bytes ends) k [] ≡ part (get_or ends (k + 1) 0) (get_or ends (k + 2) 0) bytes
  streams_get [] k h = absurd (omega arith)
  streams_get (a ∷ []) k h = absurd (omega arith)
  streams_get (a ∷ b ∷ ends) k h =
      let one : k + 1 ≡ suc k = omega arith in
      let two : k + 2 ≡ suc (suc k) = omega arith in
      rw (one, two) (parted_get bytes b ends k (omega arith))

-- an end and the one behind it
pub ends_follow : (n : ℕ) (ends : List ℕ) (k : ℕ) → parts_all n 0 ends ≡ true → k + 1 < length ends → get_or ends k 0 ≤ get_or ends (k + 1) 0
ends_follow n ends k e h =
    let one : k + 1 ≡ suc k = omega arith in
    rw one (ends_rise n 0 ends (suc k) e (omega arith))

-- ---- the texts

pub texts_list : (bytes ends : List ℕ) → sized_by (length bytes) ends ≡ true → (texts_of bytes ends).list ≡ part 0 (get_or ends 0 0) bytes
unfolding texts_of parted_at
texts_list bytes ends e = let z = sized_says (length bytes) ends e in rw z.parts (go ends z.some)
  where
    go : (ends : List ℕ) → 3 ≤ length ends → (texts_from (parted_at bytes 0 ends)).list ≡ part 0 (get_or ends 0 0) bytes
    go [] h = absurd (omega arith)
    go (a ∷ []) h = absurd (omega arith)
    go (a ∷ b ∷ more) h = refl

pub texts_bases : (bytes ends : List ℕ) → sized_by (length bytes) ends ≡ true → (texts_of bytes ends).bases ≡ part (get_or ends 0 0) (get_or ends 1 0) bytes
unfolding texts_of parted_at
texts_bases bytes ends e = let z = sized_says (length bytes) ends e in rw z.parts (go ends z.some)
  where
    go : (ends : List ℕ) → 3 ≤ length ends → (texts_from (parted_at bytes 0 ends)).bases ≡ part (get_or ends 0 0) (get_or ends 1 0) bytes
    go [] h = absurd (omega arith)
    go (a ∷ []) h = absurd (omega arith)
    go (a ∷ b ∷ more) h = refl

pub texts_streams : (bytes ends : List ℕ) → sized_by (length bytes) ends ≡ true → (texts_of bytes ends).streams ≡ stream_texts bytes ends
unfolding texts_of parted_at
texts_streams bytes ends e = let z = sized_says (length bytes) ends e in rw z.parts (go ends z.some)
  where
    go : (ends : List ℕ) → 3 ≤ length ends → (texts_from (parted_at bytes 0 ends)).streams ≡ stream_texts bytes ends
    go [] h = absurd (omega arith)
    go (a ∷ []) h = absurd (omega arith)
    go (a ∷ b ∷ more) h = refl

and_one : (u : Bool) → u && true ≡ u
and_one true = refl
and_one false = refl

-- one to eight streams are three to ten texts
streams_within : (k : ℕ) → within 1 8 k ≡ within 3 10 (suc (suc k))
streams_within k = says_same (says_and (says_le 1 k) (says_le k 8)) (says_map (λ h. (omega (arith, h.0), omega (arith, h.1))) (λ h. (omega (arith, h.0), omega (arith, h.1))) (says_and (says_le 3 (suc (suc k))) (says_le (suc (suc k)) 10)))

-- "text size or stream count": the texts' test is that of the bytes and the ends
sizes_test : (bytes ends : List ℕ) → leb (bytes_of (texts_of bytes ends)) bytes_most && within 1 8 (length (texts_of bytes ends).streams) ≡ sized_by (length bytes) ends
unfolding texts_of sized_by parted_at
sizes_test bytes ends = go (parts_all (length bytes) 0 ends) refl
  where
    by_texts : (ends : List ℕ) → total (parted_at bytes 0 ends) ≡ length bytes →
        leb (bytes_of (texts_from (parted_at bytes 0 ends))) bytes_most && within 1 8 (length (texts_from (parted_at bytes 0 ends)).streams) ≡ leb (length bytes) bytes_most && (within 3 10 (length ends) && true)
    by_texts [] h = sym (and_no (leb (length bytes) bytes_most) false refl)
    by_texts (a ∷ []) h = and_no (leb (bytes_of (texts_from (parted_at bytes 0 (a ∷ [])))) bytes_most) false refl ∙ sym (and_no (leb (length bytes) bytes_most) false refl)
    by_texts (a ∷ b ∷ more) h =
        let w : within 1 8 (length (parted_at bytes b more)) ≡ within 3 10 (suc (suc (length more))) && true =
        ap (within 1 8) (parted_length bytes b more) ∙ streams_within (length more) ∙ sym (and_one (within 3 10 (suc (suc (length more))))) in
        ap (λ (n : ℕ). leb n bytes_most && within 1 8 (length (parted_at bytes b more))) h ∙ ap (λ (u : Bool). leb (length bytes) bytes_most && u) w

    go : (t : Bool) → parts_all (length bytes) 0 ends ≡ t →
        leb (bytes_of (cond t (texts_from (parted_at bytes 0 ends)) (texts_from []))) bytes_most && within 1 8 (length (cond t (texts_from (parted_at bytes 0 ends)) (texts_from [])).streams) ≡
        leb (length bytes) bytes_most && (within 3 10 (length ends) && t)
    go true e = by_texts ends (parted_total bytes 0 ends e ∙ omega arith)
    go false e = sym (and_no (leb (length bytes) bytes_most) (within 3 10 (length ends) && false) (and_no (within 3 10 (length ends)) false refl))

-- "First 1 for text size or stream count", by the ends
pub texts_sizes : (bytes ends : List ℕ) → sizes_fault (texts_of bytes ends) ≡ cond (sized_by (length bytes) ends) none (some (fault 1 0 0))
texts_sizes bytes ends = ap (λ (t : Bool). cond t none (some (fault 1 0 0))) (sizes_test bytes ends)

-- A name held against the one seen last. Assumes nothing.
use Prim.Native.Nat.{ℕ, ◌+◌, ◌-◌, ◌≤◌}
use mathlib.Core.Path.{◌≡◌, refl, sym, ap, ◌∙◌}
use mathlib.Core.List.{List, [], ◌∷◌, ◌++◌, append-nil}
use native.Mathlib.Omega.{arith}
use native.Mathlib.Nat.{zero-add}
use lib.ListN.{length, take, drop, length-drop, length-append, take-append-drop}
use lib.Seq.{take-take, drop-drop, length-take-le}
use Rattle.fields.specs.Names.{part, number_in}
use Rattle.fields.specs.Scan.{front, in_field, field_at, FieldTo}
use Rattle.fields.proofs.Scan.{front_append, front_prefix, front_take, front_front}
use Rattle.rows.specs.Read.{Knows, NameAt}
use Rattle.rows.specs.declared.Name.{Name}

-- a field as a part of the text
pub part_field : {text : List ℕ} {at a : ℕ} → FieldTo text at a → part at a text ≡ field_at text at
part_field {text} {at} {a} f =
    let e : a - at ≡ length (field_at text at) = omega (arith, f.ends) in
    rw e (front_take in_field (drop at text))

-- a name looked up by its bytes
pub names_found : {text : List ℕ} {at a : ℕ} (ns : List (List ℕ)) → FieldTo text at a → (k : ℕ) → k ≡ 0 + number_in ns (part at a text) → NameAt text (number_in ns) at (record { from = at; to = a; chrom = k })
names_found ns f k e = record { from = refl; field = f; number_of = e ∙ rw (zero-add, part_field f) }

-- before any row: the empty name
pub knows_none : (text : List ℕ) (ns : List (List ℕ)) (s : Name) → s.from ≡ 0 → s.to ≡ 0 → s.chrom ≡ number_in ns [] → Knows text ns s
unfolding front
knows_none text ns s p q r = record {
  low = omega arith;
  high = omega arith;
  plain = rw (p, q);
  number = r ∙ rw (p, q);
}

-- the name of a row that was read
pub knows_next : {text : List ℕ} {at : ℕ} {ns : List (List ℕ)} {r : Name} → NameAt text (number_in ns) at r → Knows text ns r
knows_next {text} {at} {ns} {r} d =
    let is : part r.from r.to text ≡ field_at text at = rw d.from (part_field d.field) in
    record {
      low = omega (arith, d.from, d.field.ends);
      high = d.field.inside;
      plain = rw is (front_front in_field (drop at text));
      number = d.number_of ∙ rw is;
    }

-- k bytes at `at` are those of the name seen
module _ {text : List ℕ} {ns : List (List ℕ)} {s : Name} (w : Knows text ns s) (at k : ℕ) (le : k ≤ s.to - s.from) (fits : at + k ≤ length text)
    (e : take k (drop s.from text) ≡ take k (drop at text)) where
  start : take k (drop at text) ≡ take k (part s.from s.to text)
  start = sym e ∙ sym (take-take k (s.to - s.from) (drop s.from text) le)

  plain : front in_field (take k (drop at text)) ≡ take k (drop at text)
  plain = rw start (front_prefix in_field (part s.from s.to text) k w.plain)

  field_is : field_at text at ≡ take k (drop at text) ++ field_at text (at + k)
  field_is =
      let cut : take k (drop at text) ++ drop (at + k) text ≡ drop at text = rw (← drop-drop k at text) (take-append-drop k (drop at text)) in
      sym (ap (λ (l : List ℕ). front in_field l) cut) ∙ front_append in_field (take k (drop at text)) (drop (at + k) text) plain

  long : length (take k (drop at text)) ≡ k
  long = length-take-le k (drop at text) (omega (arith, length-drop at text))

  module _ {a : ℕ} (f : FieldTo text (at + k) a) where
    pub seen_to : FieldTo text at a
    seen_to = record {
      ends = omega (arith, f.ends, ap length field_is, length-append (take k (drop at text)) (field_at text (at + k)), long);
      inside = f.inside;
    }

    -- all of them, and nothing else
    pub seen_same : s.to - s.from ≤ k → a ≤ at + k → NameAt text (number_in ns) at (record { from = at; to = a; chrom = s.chrom })
    seen_same h g =
        let all : k ≡ s.to - s.from = omega arith in
        let over : field_at text (at + k) ≡ [] = empty (field_at text (at + k)) (omega (arith, f.ends)) in
        let same : part s.from s.to text ≡ field_at text at = sym (field_is ∙ rw (over, append-nil) (start ∙ rw (all, take-take (s.to - s.from) (s.to - s.from) (drop s.from text) (omega arith)))) in
        record { from = refl; field = seen_to; number_of = w.number ∙ rw same }
      where
        empty : (l : List ℕ) → length l ≡ 0 → l ≡ []
        empty [] q = refl
        empty (b ∷ l) q = absurd (omega (arith, q))

-- what a name met tells of the one at hand
pub ruleset sights = (names_found, seen_to, seen_same)

-- What the bytes of a chromosome line say of it, field by field. Assumes nothing.
use Prim.Native.Nat.{ℕ, ◌+◌, ◌<◌}
use mathlib.Core.Path.{◌≡◌, refl, sym, ◌∙◌}
use Rattle.std.specs.Prelude.{Some, None}
use mathlib.Core.List.{List, [], ◌∷◌}
use native.Mathlib.Omega.{arith}
use lib.ListN.{length, get_or, drop}
use Rattle.fields.specs.Cut.{cut}
use Rattle.fields.specs.Number.{good, bad, number_of}
use Rattle.fields.specs.Table.{read_text}
use borrow.Author.Tests.{eq-eqb}
use Rattle.fields.specs.Scan.{line_at, field_at, number_at, FieldTo}
use Rattle.fields.specs.declared.Number.{Number}
use Rattle.fields.proofs.Lines.{further, field_to, fields_are, fields_none, fields_out, fields_tab, next_none, next_lf, next_tab, stops_lf, stops_tab}
use Rattle.fields.proofs.Numbers.{number_bad, number_good, number_to}
use Rattle.chroms.specs.Entry.{unknown, entry_from, entry_of, list_found, ReadsLine}

-- a bad length is malformed whatever follows it
unsized : (at : ℕ) (name len : List ℕ) (fs : List (List ℕ)) → number_of len ≡ bad → entry_from at (name ∷ len ∷ fs) ≡ bad
unsized at name len [] e = rw e
unsized at name len (f ∷ fs) e = refl

-- the name that starts at `at` ends at a
module _ {text : List ℕ} {at a : ℕ} (f : FieldTo text at a) where
  -- and the line with it
  alone : cut 9 (line_at text at) ≡ field_at text at ∷ [] → entry_of at (line_at text at) ≡ good (record { from = at; to = a; len = unknown })
  unfolding entry_of
  alone e = rw (e, f.ends)

  pub one_none : a ≡ length text → ReadsLine text at (Some (record { entry = record { from = at; to = a; len = unknown }; next = a }))
  one_none h = record { line = alone (fields_none f h); next = sym (next_none f h) }

  pub one_lf : a < length text → (get_or text a 0 ≡ 9 → ⊥) → ReadsLine text at (Some (record { entry = record { from = at; to = a; len = unknown }; next = a + 1 }))
  one_lf h n = record { line = alone (fields_out f h n); next = sym (next_lf f h (stops_lf f h n)) }

  -- a tab follows it
  module _ (h : a < length text) (tab : get_or text a 0 ≡ 9) where
    pub two_bad : number_at text (a + 1) ≡ None → ReadsLine text at None
    unfolding entry_of
    two_bad e =
        let g = field_to text (a + 1) (omega arith) in
        record {
          line = rw (fields_tab f h tab, fields_are g) (unsized at (field_at text at) (field_at text (a + 1)) (further (drop (a + 1 + length (field_at text (a + 1))) text)) (number_bad text (a + 1) e));
          next = refl;
        }

    -- a length
    module _ {n : Number} (e : number_at text (a + 1) ≡ Some n) where
      pub length_to : FieldTo text (a + 1) n.end
      length_to = number_to text (a + 1) n.value n.end e (omega arith)

      known : cut 9 (line_at text (a + 1)) ≡ field_at text (a + 1) ∷ [] → entry_of at (line_at text at) ≡ good (record { from = at; to = a; len = n.value })
      unfolding entry_of
      known k = rw (fields_tab f h tab, k, number_good text (a + 1) n.value n.end e, f.ends)

      pub two_none : n.end ≡ length text → ReadsLine text at (Some (record { entry = record { from = at; to = a; len = n.value }; next = n.end }))
      two_none k = record { line = known (fields_none length_to k); next = sym (next_tab f h tab ∙ next_none length_to k) }

      pub two_lf : n.end < length text → get_or text n.end 0 ≡ 10 → ReadsLine text at (Some (record { entry = record { from = at; to = a; len = n.value }; next = n.end + 1 }))
      two_lf k q = record { line = known (fields_out length_to k (λ t. omega arith)); next = sym (next_tab f h tab ∙ next_lf length_to k q) }

      pub three : n.end < length text → (get_or text n.end 0 ≡ 10 → ⊥) → ReadsLine text at None
      unfolding entry_of
      three k q =
          let t = stops_tab length_to k q in
          let g = field_to text (n.end + 1) (omega arith) in
          record { line = rw (fields_tab f h tab, fields_tab length_to k t, fields_are g); next = refl }

-- each way for a line to end
pub ruleset lines = (one_none, one_lf, two_bad, two_none, two_lf, three)

-- columns that are equally long are filled
pub list_read : (text : List ℕ) (a b c : ℕ) → b ≡ a → c ≡ a → list_found text a b c ≡ read_text entry_of a text
list_read text a b c p q = rw (eq-eqb b a p, eq-eqb c a q)

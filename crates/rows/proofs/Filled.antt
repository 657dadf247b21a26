-- What is tested ahead of the lines. Assumes nothing.
use Prim.Native.Nat.{ℕ}
use mathlib.Core.Path.{◌≡◌, refl}
use mathlib.Core.List.{List}
use mathlib.Core.Bool.{Bool, true, false, ◌&&◌}
use lib.ListN.{length}
use lib.Dec.{eqb}
use borrow.Author.Tests.{eq-eqb, eqb-true}
use Rattle.fields.specs.Names.{listed, is_within, within, number_in}
use Rattle.fields.specs.declared.NameList.{NameList}
use Rattle.fields.specs.Table.{refused, ends, read_text}
use Rattle.fields.proofs.Both.{and_left, and_right, and_no}
use Rattle.rows.specs.Row.{row_of, ready, rows_found}

module _ (text : List ℕ) (a b c : ℕ) (list : NameList) where
  pub rows_uneven : (b ≡ a → c ≡ a → ⊥) → rows_found text list.text.now list.from.now list.to.now a b c ≡ ends refused
  unfolding ready
  rows_uneven n = go (eqb b a && eqb c a) refl
    where
      go : (t : Bool) → eqb b a && eqb c a ≡ t → rows_found text list.text.now list.from.now list.to.now a b c ≡ ends refused
      go true e = absurd (n (eqb-true b a (and_left (eqb b a) (eqb c a) e)) (eqb-true c a (and_right (eqb b a) (eqb c a) e)))
      go false e = rw e

  pub rows_outside : is_within list ≡ false → rows_found text list.text.now list.from.now list.to.now a b c ≡ ends refused
  unfolding ready
  rows_outside e = rw (and_no (eqb b a && eqb c a) (within (length list.text.now) list.from.now list.to.now) e)

  pub rows_read : (same : NameList) → same ≡ list → b ≡ a → c ≡ a → is_within list ≡ true → rows_found text list.text.now list.from.now list.to.now a b c ≡ read_text (row_of (number_in (listed same))) a text
  unfolding ready
  rows_read same s p q e = rw (s, eq-eqb b a p, eq-eqb c a q, e)

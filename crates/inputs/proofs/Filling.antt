-- A text is read to its part of the columns.
use mathlib.Core.Path.{◌≡◌, refl, sym, ap, subst, ◌∙◌}
use mathlib.Core.List.{List, ◌++◌, map}
use Prim.Native.Nat.{ℕ, ◌+◌, ◌-◌, ◌≤◌}
use native.Mathlib.Omega.{arith}
use lib.ListN.{length, take, drop, length-take, length-drop}
use Rattle.fields.specs.Names.{names, number_in}
use Rattle.fields.specs.Table.{Found, read_text, answer, Fills}
use Rattle.std.specs.Prelude.{Result}
use Rattle.fields.specs.declared.ReadError.{ReadError}
use Rattle.fields.specs.declared.NameList.{NameList}
use Rattle.rows.specs.declared.Row.{Row}
use Rattle.rows.specs.Row.{row_of, rows_found, chrom_of, start_of, stop_of}
use Rattle.rows.proofs.Filled.{rows_read}
use Rattle.heads.specs.View.{Cols, cols}
use Rattle.inputs.specs.Texts.{rows_most, rows_in}
use Rattle.inputs.specs.Read.{read_in, Slots, PartRead}
use Rattle.inputs.proofs.Columns.{read_back, filled, filled_length, filled_below, filled_row}
use Rattle.inputs.proofs.Faults.{text_few}

-- a column after its part from p up to e was lent and came back as `back`
abbrev joined_to : ℕ → ℕ → List ℕ → List ℕ → List ℕ
joined_to p e old back = take p old ++ (back ++ drop (e - p) (drop p old))

abbrev lent_of : ℕ → ℕ → List ℕ → List ℕ
lent_of p e old = take (e - p) (drop p old)

module _ (text : List ℕ) (l : NameList) (p e : ℕ) (s : Cols) (r : Result ℕ ReadError) (cs₁ cs₂ cs₃ : List ℕ) (slots : Slots l.text.now l.from.now l.to.now p s) (is-end : e ≡ p + rows_most)
    (fills : Fills chrom_of start_of stop_of (rows_found text l.text.now l.from.now l.to.now (length (lent_of p e s.chrom)) (length (lent_of p e s.start)) (length (lent_of p e s.stop))) (lent_of p e s.chrom) (lent_of p e s.start) (lent_of p e s.stop) r cs₁ cs₂ cs₃) where
  wide : e - p ≡ rows_most
  wide = omega (arith, is-end)

  lent_long : (old : List ℕ) → length old ≡ length s.chrom → length (lent_of p e old) ≡ rows_most
  lent_long old h = length-take (e - p) (drop p old) ∙ omega (arith, length-drop p old, slots.room, h, wide)

  abbrev ns : List (List ℕ)
  ns = names l.text.now l.from.now l.to.now

  abbrev rows : List Row
  rows = (rows_in ns text).rows

  found_is : rows_found text l.text.now l.from.now l.to.now (length (lent_of p e s.chrom)) (length (lent_of p e s.start)) (length (lent_of p e s.stop)) ≡ rows_in ns text
  found_is =
      let a = lent_long s.chrom refl in
      let b = lent_long s.start slots.starts in
      let c = lent_long s.stop slots.stops in
      rows_read text (length (lent_of p e s.chrom)) (length (lent_of p e s.start)) (length (lent_of p e s.stop)) l l refl (b ∙ sym a) (c ∙ sym a) slots.inside
      ∙ ap (λ (n : ℕ). read_text (row_of (number_in ns)) n text) a

  few : length rows ≤ rows_most
  few = text_few (row_of (number_in ns)) rows_most text

  -- a column is the filled one
  joined_filled : (f : Row → ℕ) (old back : List ℕ) →
      back ≡ map f (rows_found text l.text.now l.from.now l.to.now (length (lent_of p e s.chrom)) (length (lent_of p e s.start)) (length (lent_of p e s.stop))).rows
      ++ drop (length (rows_found text l.text.now l.from.now l.to.now (length (lent_of p e s.chrom)) (length (lent_of p e s.start)) (length (lent_of p e s.stop))).rows) (lent_of p e old) →
      (fits : p + rows_most ≤ length old) → joined_to p e old back ≡ filled f rows p rows_most old fits few
  joined_filled f old back is fits =
      ap (λ (b : List ℕ). joined_to p e old b) (is ∙ ap (λ (g : Found Row). map f g.rows ++ drop (length g.rows) (lent_of p e old)) found_is)
      ∙ ap (λ (w : ℕ). take p old ++ (map f rows ++ drop (length rows) (take w (drop p old)) ++ drop w (drop p old))) wide

  abbrev after : Cols
  after = cols (joined_to p e s.chrom cs₁) (joined_to p e s.start cs₂) (joined_to p e s.stop cs₃)

  in_chrom : p + rows_most ≤ length s.chrom
  in_chrom = slots.room

  in_start : p + rows_most ≤ length s.start
  in_start = omega (arith, slots.room, slots.starts)

  in_stop : p + rows_most ≤ length s.stop
  in_stop = omega (arith, slots.room, slots.stops)

  abbrev full : Cols
  full = cols (filled chrom_of rows p rows_most s.chrom in_chrom few) (filled start_of rows p rows_most s.start in_start few) (filled stop_of rows p rows_most s.stop in_stop few)

  after_full : after ≡ full
  after_full = rw (joined_filled chrom_of s.chrom cs₁ fills.first in_chrom, joined_filled start_of s.start cs₂ fills.second in_start, joined_filled stop_of s.stop cs₃ fills.third in_stop)

  full_read : PartRead ns text p s r full
  full_read = record {
    answered = fills.answered ∙ ap (λ (g : Found Row). answer g.end (length g.rows)) found_is;
    few = few;
    rows = read_back (read_in full) rows p (λ i h.
        let a = filled_row chrom_of rows p rows_most s.chrom in_chrom few i (read_in full 0) h in
        let b = filled_row start_of rows p rows_most s.start in_start few i (read_in full 0) h in
        let c = filled_row stop_of rows p rows_most s.stop in_stop few i (read_in full 0) h in
        rw (a, b, c));
    below = λ i h.
        let a = filled_below chrom_of rows p rows_most s.chrom in_chrom few i h in
        let b = filled_below start_of rows p rows_most s.start in_start few i h in
        let c = filled_below stop_of rows p rows_most s.stop in_stop few i h in
        rw (a, b, c);
    kept = record {
      chrom = filled_length chrom_of rows p rows_most s.chrom in_chrom few;
      start = filled_length start_of rows p rows_most s.start in_start few;
      stop = filled_length stop_of rows p rows_most s.stop in_stop few;
    };
  }

  pub part_read : PartRead ns text p s r after
  part_read = subst (PartRead ns text p s r) (sym after_full) full_read

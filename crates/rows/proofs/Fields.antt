-- What the bytes of a row's line say of it, field by field. Assumes nothing.
use Prim.Native.Nat.{ℕ, ◌+◌, ◌<◌}
use mathlib.Core.Path.{◌≡◌, refl, sym, ap, ◌∙◌}
use Rattle.std.specs.Prelude.{Option, Some, None}
use mathlib.Core.List.{List, [], ◌∷◌}
use native.Mathlib.Omega.{arith}
use lib.ListN.{length, get_or, drop}
use Rattle.fields.specs.Number.{good, bad, number_of}
use Rattle.fields.specs.Scan.{line_at, field_at, next_line, number_at, FieldTo}
use Rattle.fields.specs.declared.Number.{Number}
use Rattle.fields.proofs.Lines.{further, field_to, fields_are, fields_none, fields_out, fields_tab, next_same, next_tab}
use Rattle.fields.proofs.Numbers.{number_bad, number_good, number_to}
use Rattle.rows.specs.Row.{row_from, row_of}
use Rattle.rows.specs.Read.{Named, NameAt, IfGoes, ReadsRow}
use Rattle.rows.specs.declared.Name.{Name}
use Rattle.rows.specs.declared.Line.{Line}

module _ (number : List ℕ → ℕ) where
  -- a name that is empty, a start or a stop that is no number: malformed whatever follows
  nameless : (fs : List (List ℕ)) → row_from number ([] ∷ fs) ≡ bad
  nameless [] = refl
  nameless (s ∷ []) = refl
  nameless (s ∷ t ∷ fs) = refl

  unstarted : (name s : List ℕ) (fs : List (List ℕ)) → number_of s ≡ bad → row_from number (name ∷ s ∷ fs) ≡ bad
  unstarted name s [] e = refl
  unstarted [] s (t ∷ fs) e = refl
  unstarted (b ∷ name) s (t ∷ fs) e = rw e

  unstopped : (name s t : List ℕ) (fs : List (List ℕ)) (v : ℕ) → number_of s ≡ good v → number_of t ≡ bad → row_from number (name ∷ s ∷ t ∷ fs) ≡ bad
  unstopped [] s t fs v p q = refl
  unstopped (b ∷ name) s t fs v p q = rw (p, q)

  whole_row : (name s t : List ℕ) (fs : List (List ℕ)) (v w : ℕ) → 0 < length name → number_of s ≡ good v → number_of t ≡ good w →
      row_from number (name ∷ s ∷ t ∷ fs) ≡ good (record { chrom = number name; start = v; stop = w })
  whole_row [] s t fs v w h p q = absurd (omega (arith, h))
  whole_row (b ∷ name) s t fs v w h p q = rw (p, q)

  -- only the number of its own name counts
  own_name : (name : List ℕ) (fs : List (List ℕ)) → row_from (λ _. number name) (name ∷ fs) ≡ row_from number (name ∷ fs)
  own_name name [] = refl
  own_name name (s ∷ []) = refl
  own_name [] (s ∷ t ∷ fs) = refl
  own_name (b ∷ name) (s ∷ t ∷ fs) = refl

  not_row : {text : List ℕ} {at : ℕ} → row_of number at (line_at text at) ≡ bad → ReadsRow text number at None
  not_row e = record { line = e; goes = tt }

  -- the name ends at a
  module _ {text : List ℕ} {at a : ℕ} (f : FieldTo text at a) where
    pub row_unnamed : a ≡ at → ReadsRow text number at None
    unfolding row_of
    row_unnamed h =
        let e : field_at text at ≡ [] = empty (field_at text at) (omega (arith, f.ends)) in
        not_row (rw (fields_are f, e) (nameless (further (drop a text))))
      where
        empty : (l : List ℕ) → length l ≡ 0 → l ≡ []
        empty [] q = refl
        empty (b ∷ l) q = absurd (omega (arith, q))

    pub row_one_none : a ≡ length text → ReadsRow text number at None
    unfolding row_of
    row_one_none h = not_row (rw (fields_none f h))

    pub row_one_out : a < length text → (get_or text a 0 ≡ 9 → ⊥) → ReadsRow text number at None
    unfolding row_of
    row_one_out h n = not_row (rw (fields_out f h n))

  -- and a tab follows it
  module _ {text : List ℕ} {m : Name} (d : Named text m) where
    pub row_unstarted : number_at text (m.to + 1) ≡ None → ReadsRow text number m.from None
    unfolding row_of
    row_unstarted e =
        let g = field_to text (m.to + 1) (omega (arith, d.more)) in
        not_row (rw (fields_tab d.field d.more d.tab, fields_are g)
        (unstarted (field_at text m.from) (field_at text (m.to + 1)) (further (drop (m.to + 1 + length (field_at text (m.to + 1))) text)) (number_bad text (m.to + 1) e)))

    -- the start, and where it ends
    module _ {v : Number} (e : number_at text (m.to + 1) ≡ Some v) where
      pub start_to : FieldTo text (m.to + 1) v.end
      start_to = number_to text (m.to + 1) v.value v.end e (omega (arith, d.more))

      pub row_two_none : v.end ≡ length text → ReadsRow text number m.from None
      unfolding row_of
      row_two_none h = not_row (rw (fields_tab d.field d.more d.tab, fields_none start_to h))

      pub row_two_out : v.end < length text → (get_or text v.end 0 ≡ 9 → ⊥) → ReadsRow text number m.from None
      unfolding row_of
      row_two_out h n = not_row (rw (fields_tab d.field d.more d.tab, fields_out start_to h n))

      -- and a tab follows it
      module _ (more : v.end < length text) (tab : get_or text v.end 0 ≡ 9) where
        pub row_unstopped : number_at text (v.end + 1) ≡ None → ReadsRow text number m.from None
        unfolding row_of
        row_unstopped q =
            let g = field_to text (v.end + 1) (omega arith) in
            not_row (rw (fields_tab d.field d.more d.tab, fields_tab start_to more tab, fields_are g)
            (unstopped (field_at text m.from) (field_at text (m.to + 1)) (field_at text (v.end + 1)) (further (drop (v.end + 1 + length (field_at text (v.end + 1))) text)) v.value (number_good text (m.to + 1) v.value v.end e) (number_bad text (v.end + 1) q)))

        -- the stop, and where it ends
        module _ {w : Number} (q : number_at text (v.end + 1) ≡ Some w) where
          pub stop_to : FieldTo text (v.end + 1) w.end
          stop_to = number_to text (v.end + 1) w.value w.end q (omega arith)

          pub row_whole : (next : ℕ) → next ≡ next_line text w.end → m.chrom ≡ number (field_at text m.from) →
              ReadsRow text number m.from (Some (record { row = record { chrom = m.chrom; start = v.value; stop = w.value }; name = m; next = next }))
          unfolding row_of
          row_whole next n own = record {
            line =
                rw (fields_tab d.field d.more d.tab, fields_tab start_to more tab, fields_are stop_to, own)
                (whole_row (field_at text m.from) (field_at text (m.to + 1)) (field_at text (v.end + 1)) (further (drop w.end text)) v.value w.value (omega (arith, d.some, d.field.ends)) (number_good text (m.to + 1) v.value v.end e) (number_good text (v.end + 1) w.value w.end q));
            goes = record {
              next = n ∙ sym (next_tab d.field d.more d.tab ∙ next_tab start_to more tab ∙ next_same stop_to);
              name = record { from = refl; field = d.field; number_of = own };
            };
          }

-- a line read with the number of its name
named_goes : (text : List ℕ) (at : ℕ) {k : ℕ} (number : List ℕ → ℕ) (r : Option Line) → k ≡ number (field_at text at) → IfGoes text (λ _. k) at r → IfGoes text number at r
named_goes text at number None e g = tt
named_goes text at number (Some l) e g = record { next = g.next; name = record { from = g.name.from; field = g.name.field; number_of = g.name.number_of ∙ e } }

pub row_named_lem : {text : List ℕ} {at : ℕ} (number : List ℕ → ℕ) {m : Name} (r : Option Line) → NameAt text number at m → ReadsRow text (λ _. m.chrom) m.from r → ReadsRow text number at r
unfolding row_of
row_named_lem {text} {at} number {m} r f g =
    let h : ReadsRow text (λ _. m.chrom) at r = rw f.from at g in
    record {
      line =
          rw (fields_are f.field)
          (sym (own_name number (field_at text at) (further (drop m.to text))) ∙
          ap (λ (k : ℕ). row_from (λ _. k) (field_at text at ∷ further (drop m.to text))) (sym f.number_of) ∙ rw (fields_are f.field) at h.line);
      goes = named_goes text at number r f.number_of h.goes;
    }

-- each way for a line to be malformed
pub ruleset ends = (row_unnamed, row_one_none, row_one_out, row_unstarted, row_two_none, row_two_out, row_unstopped, start_to, stop_to)

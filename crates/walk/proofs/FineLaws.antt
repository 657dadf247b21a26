-- Texts that were read with nothing wrong: where the list stands in the bytes, and that its names and the bases stand in the columns.
use mathlib.Core.Path.{◌≡◌, refl, sym, ap, subst, ◌∙◌}
use mathlib.Core.Bool.{Bool, true, false, cond}
use mathlib.Core.Option.{none, some}
use mathlib.Core.List.{List}
use Prim.Native.Nat.{ℕ, ◌≤◌, ◌<◌}
use native.Mathlib.Omega.{arith}
use native.Mathlib.Nat.{sub-zero}
use lib.ListN.{length, get_or, take}
use lib.Seq.{length-take-le}
use Rattle.fields.specs.Names.{within}
use Rattle.heads.specs.View.{Cols, cols_of}
use Rattle.inputs.specs.Texts.{Texts, fault, fault_of}
use Rattle.inputs.specs.Parted.{texts_of, sized_by}
use Rattle.inputs.specs.Read.{Reads}
use Rattle.inputs.specs.declared.Read.{Read}
use Rattle.std.specs.Prelude.{Ok}
use Rattle.inputs.proofs.Parting.{texts_list, texts_sizes}
use Rattle.inputs.proofs.Reading.{some_texts, list_within}
use Rattle.walk.specs.Run.{Bases, Fine}
use Rattle.walk.specs.Memory.{FineIn, Stands}
use Rattle.walk.specs.declared.Memory.{Memory}
use Rattle.walk.specs.declared.Tables.{Tables}
use Rattle.walk.proofs.Beginning.{fine_sizes}

-- nothing is wrong where the answer says so
pub fine_read : {t : Texts} {r : Read} {from to len : List ℕ} {b s : Cols} → Reads t (Ok r) from to len b s → Fine t r from to len b s
fine_read {t} h =
    let fine : fault_of t ≡ none = sym h.fault in
    record { fine = fine; eight = h.eight; rooms = h.rooms; columns = h.columns (fine_sizes t fine) }

module _ {t : Texts} {r : Read} {from to len : List ℕ} {b s : Cols} (f : Fine t r from to len b s) where
  -- the names' columns have as many slots as there are names
  pub names_from : r.names ≤ length from
  names_from = omega (arith, f.columns.names.few, f.rooms.names_from)

  pub names_to : r.names ≤ length to
  names_to = omega (arith, f.columns.names.few, f.rooms.names_to)

module _ (bytes ends : List ℕ) {r : Read} {from to len : List ℕ} {b s : Cols} (f : Fine (texts_of bytes ends) r from to len b s) where
  sized : sized_by (length bytes) ends ≡ true
  sized = passed (sized_by (length bytes) ends) (sym (texts_sizes bytes ends) ∙ fine_sizes (texts_of bytes ends) f.fine)
    where
      passed : (u : Bool) → cond u none (some (fault 1 0 0)) ≡ none → u ≡ true
      passed true e = refl
      passed false e = let z : ◌≡◌ {A = ℕ} 0 1 = cc in absurd (omega arith)

  -- the list is the first text
  pub list_ends : 0 < length ends
  list_ends = omega (arith, some_texts bytes ends sized)

  pub list_in : get_or ends 0 0 ≤ length bytes
  list_in = list_within bytes ends sized

  pub list_is : (texts_of bytes ends).list ≡ take (get_or ends 0 0) bytes
  list_is = texts_list bytes ends sized ∙ ap (λ (n : ℕ). take n bytes) (sub-zero (get_or ends 0 0))

  pub bases_read : Bases (take (get_or ends 0 0) bytes) (take r.names from) (take r.names to) b r.bases
  bases_read = record {
    inside = subst (λ (l : List ℕ). within (length l) (take r.names from) (take r.names to) ≡ true) list_is f.columns.names.inside;
    chrom = omega (arith, f.columns.few, f.rooms.base_chrom);
    start = omega (arith, f.columns.few, f.rooms.base_start);
    stop = omega (arith, f.columns.few, f.rooms.base_stop);
  }

-- ---- the tables

module _ {bytes ends : List ℕ} {r : Read} {m : Memory} {t : Tables} (f : FineIn (texts_of bytes ends) r m) (h : Stands bytes ends r m t) where
  -- the bases stand in the tables, and the names in the list's text
  pub stands_bases : Bases t.names.text.now t.names.from.now t.names.to.now (cols_of t.bases) r.bases
  stands_bases = rw (h.text, h.from, h.to, h.bases) (bases_read bytes ends f)

  -- as many names are there as were read
  pub stands_from : length t.names.from.now ≡ r.names
  stands_from = ap length h.from ∙ length-take-le r.names m.from (names_from f)

  pub stands_to : length t.names.to.now ≡ r.names
  stands_to = ap length h.to ∙ length-take-le r.names m.to (names_to f)

-- Numbers as fields, one after the other: how many bytes they take, and that they are written.
use Prim.Native.Nat.{ℕ, ◌+◌, ◌≤◌, ◌<◌}
use mathlib.Core.Path.{◌≡◌, sym, ap, ◌∙◌}
use mathlib.Core.List.{List, [], ◌∷◌, ◌++◌}
use native.Mathlib.Omega.{arith}
use native.Mathlib.Numerals.{add-one}
use lib.ListN.{length, get_or, drop, length-append, drop_of_length-le}
use lib.Seq.{drop-cons}
use Rattle.lines.specs.Lines.{decimal, numbered}
use Rattle.lines.specs.Put.{laid, Wrote}
use Rattle.lines.proofs.Laying.{laid_none, laid_append, wrote_length}

module _ (ns : List ℕ) (k : ℕ) where
  numbered_more : k < length ns → numbered (drop k ns) ≡ (9 ∷ decimal (get_or ns k 0)) ++ numbered (drop (k + 1) ns)
  numbered_more h = rw (drop-cons ns k 0 h, add-one k)

  numbered_none : length ns ≤ k → numbered (drop k ns) ≡ []
  numbered_none h = rw (drop_of_length-le ns h)

  pub size_more : k < length ns → length (numbered (drop k ns)) ≡ 1 + length (decimal (get_or ns k 0)) + length (numbered (drop (k + 1) ns))
  size_more h = ap length (numbered_more h) ∙ omega (arith, length-append (9 ∷ decimal (get_or ns k 0)) (numbered (drop (k + 1) ns)))

  pub size_none : length ns ≤ k → length (numbered (drop k ns)) ≡ 0
  size_none h = ap length (numbered_none h)

-- the first k numbers are written, and the next goes to place i
pub record Writing (old : List ℕ) (at : ℕ) (ns out : List ℕ) (i k : ℕ) : Type 0 where
  pub few : k ≤ length ns
  pub kept : length out ≡ length old
  pub place : i + length (numbered (drop k ns)) ≡ at + length (numbered ns)
  pub left : laid out i (numbered (drop k ns)) ≡ laid old at (numbered ns)

module _ {old : List ℕ} {at : ℕ} {ns out : List ℕ} {i k : ℕ} (w : Writing old at ns out i k) (fits : at + length (numbered ns) ≤ length old) where
  pub writing_room : k < length ns → i + 1 + length (decimal (get_or ns k 0)) ≤ length out
  writing_room h = omega (arith, w.kept, w.place, size_more ns k h)

  pub writing_field : {j : ℕ} {m : List ℕ} → k < length ns → Wrote out i (9 ∷ decimal (get_or ns k 0)) j m → Writing old at ns m j (k + 1)
  writing_field {j} {m} h v =
      let room : i + length (9 ∷ decimal (get_or ns k 0)) ≤ length out = omega (arith, writing_room h) in
      record {
        few = omega arith;
        kept = wrote_length v room ∙ w.kept;
        place = omega (arith, v.stop, w.place, size_more ns k h);
        left =
            rw (v.laid_in, v.stop) (sym (laid_append out i (9 ∷ decimal (get_or ns k 0)) room (numbered (drop (k + 1) ns))))
            ∙ rw (numbered_more ns k h) at w.left;
      }

  pub writing_done : length ns ≤ k → Wrote old at (numbered ns) i out
  writing_done h = record {
    stop = omega (arith, w.place, size_none ns k h);
    laid_in = sym (laid_none out i) ∙ rw (numbered_none ns k h) at w.left;
  }

-- What a buffer holds of lines from its start on, as the call says it; a fault before the run.
use mathlib.Core.Path.{◌≡◌, refl, sym, ap, subst, ◌∙◌}
use mathlib.Core.Bool.{Bool, true, false, cond}
use mathlib.Core.Option.{Option, some}
use mathlib.Core.List.{List, [], ◌∷◌, ◌++◌}
use Prim.Native.Nat.{ℕ, ◌-◌, ◌≤◌}
use native.Mathlib.Omega.{arith}
use native.Mathlib.Nat.{sub-zero, zero-add}
use lib.Dec.{leb}
use lib.ListN.{length, drop, length-append}
use borrow.Author.Tests.{le-leb, leb-true}
use Rattle.std.specs.Prelude.{Option as Maybe, Result, Ok, ok_or}
use Rattle.lines.specs.declared.Cut.{Cut}
use Rattle.lines.specs.Put.{Puts, laid}
use Rattle.lines.specs.Lines.{line_f}
use Rattle.lines.specs.Laid.{joined, fitting, cut, laid_of, Lays}
use Rattle.lines.proofs.LaidLaws.{lays_only}
use Rattle.heads.specs.View.{Cols}
use Rattle.inputs.specs.Texts.{Texts, Fault, fault, fault_of, names_of, bases_of, job_of}
use Rattle.inputs.specs.Read.{told, Reads}
use Rattle.std.specs.Prelude.{Err}
use Rattle.inputs.specs.declared.Misread.{Misread}
use Rattle.rules.specs.Job.{answers}
use Rattle.listing.specs.Listing.{run_lines, unless_fault, listing}
use Rattle.listing.specs.Run.{told_of}
use Rattle.listing.specs.Call.{held_of, Writes}
use Rattle.listing.specs.declared.Listing.{Listing}

-- ---- the verdict

module _ {t : Texts} {x : Misread} {from to len : List ℕ} {b s : Cols} (h : Reads t (Err x) from to len b s) where
  -- "A fault before the run gives one line"
  pub reads_fault : {number text ahead : ℕ} {put : Maybe ℕ} {l : Result ℕ Cut} {old new : List ℕ} → number ≡ (told x.error).number → text ≡ (told x.error).text → ahead ≡ (told x.error).ahead → Puts old 0 (line_f number text ahead) put new → l ≡ ok_or put (record { 0 = 0 }) → Lays old 0 (listing t) l new
  unfolding listing
  reads_fault {number} {text} {ahead} {put} {l} {old} {new} n k m p q =
      let wrong : fault_of t ≡ some (fault number text ahead) = sym h.fault ∙ rw (n, k, m) in
      let lines : line_f number text ahead ∷ [] ≡ listing t = sym (ap (λ (o : Option Fault). unless_fault o (run_lines (names_of t) 0 (bases_of t) (answers (job_of t) (bases_of t)))) wrong) in
      subst (λ (ls : List (List ℕ)). Lays old 0 ls l new) lines (subst (λ (y : Result ℕ Cut). Lays old 0 (line_f number text ahead ∷ []) y new) (sym q) (lays_only put (omega arith) p))

-- ---- the answer

-- lines that fit stand whole
all_fit : (space : ℕ) (ls : List (List ℕ)) → length (joined ls) ≤ space → fitting space ls ≡ ls
all_fit space [] h = refl
all_fit space (l ∷ ls) h =
    let n = length-append l (joined ls) in
    rw (le-leb (length l) space (omega (arith, n, h)), all_fit (space - length l) ls (omega (arith, n, h)))

-- whether they fit, and where they end, from the buffer's start on
laid_from_start : (old : List ℕ) (ls : List (List ℕ)) → laid_of old 0 ls ≡ cond (leb (length (joined ls)) (length old)) (Ok (length (joined ls))) (cut (length (joined (fitting (length old) ls))))
laid_from_start old ls = rw (zero-add (length (joined ls)), sub-zero (length old), zero-add (length (joined (fitting (length old) ls))))

written_from_start : (old bytes : List ℕ) → laid old 0 bytes ≡ bytes ++ drop (length bytes) old
unfolding laid
written_from_start old bytes = ap (λ (n : ℕ). bytes ++ drop n old) (zero-add (length bytes))

pub told_written : {t : Texts} {old new : List ℕ} {l : Result ℕ Cut} {x : Listing} → Lays old 0 (listing t) l new → x ≡ told_of l → Writes t old x new
told_written {t} {old} {new} {l} {x} h e =
    let is : x ≡ told_of (cond (leb (length (joined (listing t))) (length old)) (Ok (length (joined (listing t)))) (cut (length (held_of (length old) t)))) = e ∙ ap told_of (h.answer ∙ laid_from_start old (listing t)) in
    record {
      number = ap (λ (y : Listing). y.number) is ∙ number (leb (length (joined (listing t))) (length old));
      size = ap (λ (y : Listing). y.length) is ∙ size (leb (length (joined (listing t))) (length old)) refl;
      written = h.written ∙ ap (λ (n : ℕ). laid old 0 (joined (fitting n (listing t)))) (sub-zero (length old)) ∙ written_from_start old (held_of (length old) t);
    }
  where
    number : (u : Bool) → (told_of (cond u (Ok (length (joined (listing t)))) (cut (length (held_of (length old) t))))).number ≡ cond u 0 14
    number true = refl
    number false = refl

    size : (u : Bool) → leb (length (joined (listing t))) (length old) ≡ u → (told_of (cond u (Ok (length (joined (listing t)))) (cut (length (held_of (length old) t))))).length ≡ length (held_of (length old) t)
    size true k = ap (λ (ls : List (List ℕ)). length (joined ls)) (sym (all_fit (length old) (listing t) (leb-true (length (joined (listing t))) (length old) k)))
    size false k = refl

-- a listing that is no longer than its buffer stands there whole, and behind it what stood there
pub writes_whole : {t : Texts} {old new : List ℕ} {x : Listing} → Writes t old x new → length (joined (listing t)) ≤ length old → (x.number ≡ 0) × (new ≡ joined (listing t) ++ drop (length (joined (listing t))) old)
writes_whole {t} {old} {new} {x} h fits =
    let held : held_of (length old) t ≡ joined (listing t) = ap joined (all_fit (length old) (listing t) fits) in
    (h.number ∙ ap (λ (u : Bool). cond u 0 14) (le-leb (length (joined (listing t))) (length old) fits), h.written ∙ ap (λ (l : List ℕ). l ++ drop (length l) old) held)

-- any two results are equal
pub writes_alike : {t : Texts} {old a b : List ℕ} {x y : Listing} → Writes t old x a → Writes t old y b → (x ≡ y) × (a ≡ b)
writes_alike {t} {old} {a} {b} {x} {y} h k =
    let n : x.number ≡ y.number = h.number ∙ sym k.number in
    let l : x.length ≡ y.length = h.size ∙ sym k.size in
    (rw (n, l), h.written ∙ sym k.written)

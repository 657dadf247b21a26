-- What is wrong with a text, as it is read and as it is said; the first of several.
use mathlib.Core.Path.{◌≡◌, refl}
use mathlib.Core.Bool.{Bool, true, false, cond, not, ◌&&◌}
use mathlib.Core.Option.{Option, none, some}
use mathlib.Core.List.{List, [], ◌∷◌}
use Prim.Native.Nat.{ℕ, zero, suc, pred, ◌+◌, ◌≤◌}
use native.Mathlib.Omega.{arith}
use lib.Dec.{leb}
use lib.ListN.{length}
use borrow.Author.Tests.{le-leb}
use Rattle.rules.specs.declared.Unbegun.TheVariants as unbegun
use Rattle.rules.specs.Streams.{else}
use Rattle.rules.specs.Start.{misnamed, refuses_start}
use Rattle.fields.specs.Number.{Read, good, bad}
use Rattle.fields.specs.Names.{within, names}
use Rattle.fields.specs.Cut.{lines}
use Rattle.fields.specs.Table.{End, whole, malformed, full, refused, passed, row_step, read_lines, read_text, answer, rows_of}
use Rattle.fields.proofs.Naming.{names_length}
use Rattle.chroms.specs.Check.{check_of}
use Rattle.std.specs.Prelude.{Result, Ok, Err}
use Rattle.runs.proofs.Starting.{names_agree}
use Rattle.std.specs.Result.{result_and}
use Rattle.inputs.specs.Texts.{end_fault, unbegun_fault, settings_in}
use Rattle.inputs.specs.Read.{fault_by, verdict_at, check_verdict}
use Rattle.inputs.specs.declared.InputError.{InputError}

-- ---- the first of two

pub first_else : {A : Type 0} (a : Result (Unit {0}) InputError) (b : Result A InputError) → fault_by (result_and a b) ≡ else (fault_by a) (fault_by b)
first_else (Ok u) b = refl
first_else (Err e) b = refl

pub else_assoc : {A : Type 0} (a b c : Option A) → else (else a b) c ≡ else a (else b c)
else_assoc none b c = refl
else_assoc (some x) b c = refl

-- ---- a text

-- how a reading of lines ends: never refused
abbrev Ends : End → Type 0
Ends whole = Unit {0}
Ends malformed = Unit {0}
Ends full = Unit {0}
Ends refused = ⊥

module _ {A : Type 0} (row : ℕ → List ℕ → Read A) where
  lines_end : (slots at : ℕ) (ls : List (List ℕ)) → Ends (read_lines row slots at ls).end
  unfolding read_lines
  lines_end slots at [] = tt
  lines_end slots at (l ∷ ls) = go (λ n. lines_end n (at + suc (length l)) ls) (passed l) slots (row at l)
    where
      go : ((n : ℕ) → Ends (read_lines row n (at + suc (length l)) ls).end) → (t : Bool) (slots : ℕ) (r : Read A) → Ends (cond t (read_lines row slots (at + suc (length l)) ls) (row_step slots r (read_lines row (pred slots) (at + suc (length l)) ls))).end
      go ih true slots r = ih slots
      go ih false slots bad = tt
      go ih false zero (good x) = tt
      go ih false (suc slots) (good x) = ih slots

  -- "1,024 rows a text": no more rows than slots
  lines_few : (slots at : ℕ) (ls : List (List ℕ)) → length (read_lines row slots at ls).rows ≤ slots
  unfolding read_lines
  lines_few slots at [] = omega arith
  lines_few slots at (l ∷ ls) = go (λ n. lines_few n (at + suc (length l)) ls) (passed l) slots (row at l)
    where
      go : ((n : ℕ) → length (read_lines row n (at + suc (length l)) ls).rows ≤ n) → (t : Bool) (slots : ℕ) (r : Read A) → length (cond t (read_lines row slots (at + suc (length l)) ls) (row_step slots r (read_lines row (pred slots) (at + suc (length l)) ls))).rows ≤ slots
      go ih true slots r = ih slots
      go ih false slots bad = omega arith
      go ih false zero (good x) = omega arith
      go ih false (suc slots) (good x) = omega (arith, ih slots)

  pub text_few : (slots : ℕ) (text : List ℕ) → length (read_text row slots text).rows ≤ slots
  text_few slots text = lines_few slots 0 (lines text)

  -- as many rows were read as are found
  pub text_count : (slots : ℕ) (text : List ℕ) → rows_of (answer (read_text row slots text).end (length (read_text row slots text).rows)) ≡ length (read_text row slots text).rows
  text_count slots text = go (read_text row slots text).end (lines_end slots 0 (lines text))
    where
      go : (e : End) → Ends e → rows_of (answer e (length (read_text row slots text).rows)) ≡ length (read_text row slots text).rows
      go whole h = refl
      go malformed h = refl
      go full h = refl
      go refused h = absurd h

pub read_fault : (k : ℕ) (e : End) (n : ℕ) → fault_by (verdict_at k (answer e n)) ≡ end_fault k e n
read_fault k whole n = refl
read_fault k malformed n = refl
read_fault k full n = refl
read_fault k refused n = refl

-- ---- the list's names

-- 1 for the count of names and then 2, as the list's check gives them, are those of a start with 1 to 8 streams
pub check_fault : (k : ℕ) (list from to : List ℕ) → 1 ≤ k → k ≤ 8 → within (length list) from to ≡ true →
    fault_by (check_verdict (check_of list from to)) ≡ unbegun_fault (refuses_start (settings_in k (names list from to)) (names list from to))
unfolding check_of refuses_start
check_fault k list from to low high inside =
    rw (inside, names_length (length list) list from to inside, le-leb 1 k low, le-leb k 8 high, names_agree (names list from to)) (go (leb 1 (length from)) (leb (length from) 256) (misnamed (names list from to)))
  where
    go : (a b m : Bool) → fault_by (check_verdict (cond (a && b) (cond (not m) (Ok tt) (Err unbegun.Names)) (Err unbegun.Sizes))) ≡ unbegun_fault (cond (a && b && true) (cond m (some unbegun.Names) none) (some unbegun.Sizes))
    go true true true = refl
    go true true false = refl
    go true false m = refl
    go false b m = refl

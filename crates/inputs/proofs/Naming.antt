-- The names of a list stand in its text, and in the columns that are read from it.
use mathlib.Core.Path.{◌≡◌, refl, sym, ap, ◌∙◌}
use mathlib.Core.Bool.{Bool, true, false, cond}
use mathlib.Core.Option.{Option}
use mathlib.Core.List.{List, [], ◌∷◌, ◌++◌, map}
use Prim.Native.Nat.{ℕ, zero, suc, pred, ◌+◌, ◌≤◌}
use native.Mathlib.Omega.{arith}
use lib.Dec.{eqb}
use lib.ListN.{length, take, drop, length-map, length-append, length-drop}
use lib.Seq.{take_at}
use borrow.Author.Tests.{le-leb}
use Rattle.basics.specs.Lists.{All, nil, cons}
use Rattle.rules.specs.Streams.{else}
use Rattle.rules.specs.Start.{refuses_start}
use Rattle.fields.specs.Number.{Read, good, bad, number_of}
use Rattle.fields.specs.Names.{part, within, names}
use Rattle.fields.specs.Cut.{onto, cut, lines}
use Rattle.fields.specs.Table.{Found, passed, row_step, read_lines, read_text, answer, rows_of, Fills}
use Rattle.std.specs.Prelude.{Result}
use Rattle.fields.specs.declared.ReadError.{ReadError}
use Rattle.chroms.specs.declared.Entry.{Entry}
use Rattle.chroms.specs.Entry.{sized, entry_from, entry_of, list_found, from_of, to_of, len_of}
use Rattle.chroms.specs.Check.{check_of}
use Rattle.chroms.proofs.Entries.{list_read}
use Rattle.std.specs.Result.{result_and}
use Rattle.inputs.specs.Texts.{rows_most, entries_in, names_in, Fault, unbegun_fault, settings_in}
use Rattle.inputs.specs.Read.{fault_by, verdict_at, check_verdict, Named, NamesRead}
use Rattle.inputs.specs.declared.InputError.{InputError}
use Rattle.inputs.proofs.Faults.{first_else, text_few, text_count, read_fault, check_fault}

-- ---- lines and fields are no longer than what they part

-- how far parts reach, each with the byte behind it
spread : List (List ℕ) → ℕ
spread [] = 0
spread (l ∷ ls) = suc (length l) + spread ls

cut_spread : (c : ℕ) (l : List ℕ) → spread (cut c l) ≡ suc (length l)
unfolding cut spread
cut_spread c [] = refl
cut_spread c (b ∷ l) = go (eqb b c) (cut c l) (cut_spread c l)
  where
    go : (t : Bool) (ps : List (List ℕ)) → spread ps ≡ suc (length l) → spread (cond t ([] ∷ ps) (onto b ps)) ≡ suc (suc (length l))
    go true ps h = omega (arith, h)
    go false [] h = absurd (omega (arith, h))
    go false (p ∷ ps) h = omega (arith, h)

-- ---- an entry stands in its line

abbrev Inside : ℕ → Entry → Type 0
Inside n e = (e.from ≤ e.to) × (e.to ≤ n)

abbrev InsideIf : ℕ → Read Entry → Type 0
InsideIf n (good e) = Inside n e
InsideIf n bad = Unit {0}

entry_inside : (at : ℕ) (line : List ℕ) (n : ℕ) → at + length line ≤ n → InsideIf n (entry_of at line)
unfolding entry_of spread
entry_inside at line n h = go (cut 9 line) (cut_spread 9 line)
  where
    by_length : (name : List ℕ) (r : Read ℕ) → length name ≤ length line → InsideIf n (sized at name r)
    by_length name (good len) b = (omega arith, omega arith)
    by_length name bad b = tt

    go : (fs : List (List ℕ)) → spread fs ≡ suc (length line) → InsideIf n (entry_from at fs)
    go [] e = tt
    go (name ∷ []) e = (omega arith, omega arith)
    go (name ∷ len ∷ []) e = by_length name (number_of len) (omega arith)
    go (name ∷ len ∷ third ∷ more) e = tt

entries_inside : (n slots at : ℕ) (ls : List (List ℕ)) → at + spread ls ≤ suc n → All (Inside n) (read_lines entry_of slots at ls).rows
unfolding read_lines spread
entries_inside n slots at [] h = nil
entries_inside n slots at (l ∷ ls) h = go (λ k. entries_inside n k (at + suc (length l)) ls (omega arith)) (passed l) slots (entry_of at l) (entry_inside at l n (omega arith))
  where
    go : ((k : ℕ) → All (Inside n) (read_lines entry_of k (at + suc (length l)) ls).rows) → (t : Bool) (slots : ℕ) (r : Read Entry) → InsideIf n r →
        All (Inside n) (cond t (read_lines entry_of slots (at + suc (length l)) ls) (row_step slots r (read_lines entry_of (pred slots) (at + suc (length l)) ls))).rows
    go ih true slots r i = ih slots
    go ih false slots bad i = nil
    go ih false zero (good e) i = nil
    go ih false (suc slots) (good e) i = cons i (ih slots)

-- ---- entries as columns

within_map : (n : ℕ) {es : List Entry} → All (Inside n) es → within n (map from_of es) (map to_of es) ≡ true
unfolding within
within_map n nil = refl
within_map n (cons {x = e} i more) = rw (le-leb e.from e.to i.0, le-leb e.to n i.1) (within_map n more)

names_map : (list : List ℕ) (es : List Entry) → names list (map from_of es) (map to_of es) ≡ map (λ e. part e.from e.to list) es
unfolding names
names_map list [] = refl
names_map list (e ∷ es) = ap (λ (l : List (List ℕ)). part e.from e.to list ∷ l) (names_map list es)

-- ---- the reading of a list

pub names_few : (list : List ℕ) → length (entries_in list).rows ≤ rows_most
names_few list = text_few entry_of rows_most list

module _ (list from to len : List ℕ) (r : Result ℕ ReadError) (from' to' len' : List ℕ) (lf : length from ≡ rows_most) (lt : length to ≡ rows_most) (ll : length len ≡ rows_most)
    (fills : Fills from_of to_of len_of (list_found list (length from) (length to) (length len)) from to len r from' to' len') where
  found_is : list_found list (length from) (length to) (length len) ≡ entries_in list
  found_is = list_read list (length from) (length to) (length len) (lt ∙ sym lf) (ll ∙ sym lf) ∙ ap (λ (n : ℕ). read_text entry_of n list) lf

  abbrev rows : List Entry
  rows = (entries_in list).rows

  answered : r ≡ answer (entries_in list).end (length rows)
  answered = fills.answered ∙ ap (λ (f : Found Entry). answer f.end (length f.rows)) found_is

  pub names_count : rows_of r ≡ length rows
  names_count = ap rows_of answered ∙ text_count entry_of rows_most list

  -- a column: what was read, and its length
  module _ (f : Entry → ℕ) (old new : List ℕ) (long : length old ≡ rows_most) (is : new ≡ map f (list_found list (length from) (length to) (length len)).rows ++ drop (length (list_found list (length from) (length to) (length len)).rows) old) where
    is_rows : new ≡ map f rows ++ drop (length rows) old
    is_rows = is ∙ ap (λ (g : Found Entry). map f g.rows ++ drop (length g.rows) old) found_is

    read_part : take (rows_of r) new ≡ map f rows
    read_part = rw (is_rows) (take_at (map f rows) (drop (length rows) old) (rows_of r) (length-map rows f ∙ sym names_count))

    read_long : length new ≡ rows_most
    read_long =
        let a = length-append (map f rows) (drop (length rows) old) in
        let b = length-drop (length rows) old in
        let c = length-map rows f in
        rw (is_rows) (omega (arith, a, b, c, names_few list, long))

  pub from_long : length from' ≡ rows_most
  from_long = read_long from_of from from' lf fills.first

  pub to_long : length to' ≡ rows_most
  to_long = read_long to_of to to' lt fills.second

  pub len_long : length len' ≡ rows_most
  len_long = read_long len_of len len' ll fills.third

  inside : within (length list) (take (rows_of r) from') (take (rows_of r) to') ≡ true
  unfolding spread
  inside =
      let a : 0 + spread (lines list) ≤ suc (length list) = omega (arith, cut_spread 10 list) in
      rw (read_part from_of from from' lf fills.first, read_part to_of to to' lt fills.second) (within_map (length list) (entries_inside (length list) rows_most 0 (lines list) a))

  pub names_named : Named list (rows_of r) from' to' len'
  names_named = record {
    few = omega (arith, names_count, names_few list);
    inside = inside;
    named = rw (read_part from_of from from' lf fills.first, read_part to_of to to' lt fills.second) (names_map list rows);
    lengths = read_part len_of len len' ll fills.third;
  }

  abbrev judged : ℕ → List (List ℕ) → Option Fault
  judged k ns = unbegun_fault (refuses_start (settings_in k ns) ns)

  pub names_read : NamesRead list (record { verdict = result_and (verdict_at 0 r) (check_verdict (check_of list (take (rows_of r) from') (take (rows_of r) to'))); count = rows_of r }) from' to' len'
  names_read = record {
    verdict = λ k low high.
        first_else (verdict_at 0 r) (check_verdict (check_of list (take (rows_of r) from') (take (rows_of r) to')))
        ∙ ap (λ (o : Option Fault). else (fault_by (verdict_at 0 r)) o) (check_fault k list (take (rows_of r) from') (take (rows_of r) to') low high inside ∙ ap (judged k) names_named.named)
        ∙ ap (λ (o : Option Fault). else o (judged k (names_in list))) (ap (λ (x : Result ℕ ReadError). fault_by (verdict_at 0 x)) answered ∙ read_fault 0 (entries_in list).end (length rows));
    columns = names_named;
  }

  -- the same, from what each call answers
  pub names_got : {n : ℕ} {a b v : Result (Unit {0}) InputError} → n ≡ rows_of r → b ≡ check_verdict (check_of list (take n from') (take n to')) → a ≡ verdict_at 0 r → v ≡ result_and a b → NamesRead list (record { verdict = v; count = n }) from' to' len'
  names_got {n} {a} {b} {v} hn hb ha hv =
      let is : v ≡ result_and (verdict_at 0 r) (check_verdict (check_of list (take (rows_of r) from') (take (rows_of r) to'))) = hv ∙ rw (ha, hb, hn) in
      rw (is, hn) names_read

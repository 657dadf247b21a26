-- Each stream's text is read to its own part of the columns, one more at a time.
use mathlib.Core.Path.{◌≡◌, refl, sym, ap, subst, ◌∙◌}
use mathlib.Core.Option.{Option, none, some}
use mathlib.Core.List.{List, [], map}
use Prim.Native.Nat.{ℕ, suc, ◌+◌, ◌-◌, ◌*◌, ◌≤◌, ◌<◌}
use native.Mathlib.Omega.{arith}
use native.Mathlib.Decide.{dec_lt}
use lib.ListN.{length, get_or, set, drop, length-set, drop_of_length-le, length-map}
use lib.Seq.{drop-cons, get_or-set_same, get_or-set_other}
use Rattle.basics.specs.Build.{build}
use Rattle.basics.proofs.BuildLaws.{build_get, build_same}
use Rattle.rules.specs.declared.Row as rules
use Rattle.rules.specs.Streams.{else}
use Rattle.fields.specs.Table.{rows_of}
use Rattle.fields.specs.Names.{part, number_in}
use Rattle.std.specs.Prelude.{Result}
use Rattle.fields.specs.declared.ReadError.{ReadError}
use Rattle.rows.specs.Row.{row_of}
use Rattle.heads.specs.View.{Cols}
use Rattle.runs.specs.Start.{row_in, streams_of}
use Rattle.std.specs.Result.{result_and}
use Rattle.inputs.specs.Texts.{Fault, rows_most, rows_in, row_from, streams_in, found_fault, streams_fault}
use Rattle.inputs.specs.Read.{fault_by, verdict_at, places, read_in, Slots, PartRead, Readable, StreamsRead}
use Rattle.inputs.specs.declared.InputError.{InputError}
use Rattle.inputs.specs.Parted.{stream_texts}
use Rattle.inputs.proofs.Parting.{Sized, sized_says, streams_count, streams_get, ends_follow, ends_inside}
use Rattle.inputs.proofs.Columns.{read_back, get_map, map_build}
use Rattle.inputs.proofs.Faults.{first_else, else_assoc, text_count, read_fault}

-- the columns have a part for each of eight streams
pub record Even (s : Cols) : Type 0 where
  pub chrom : length s.chrom ≡ 8 * rows_most
  pub start : length s.start ≡ 8 * rows_most
  pub stop : length s.stop ≡ 8 * rows_most

-- what can be read: how many streams, where each text stands, and the slots for it
module _ {bytes ends list from to : List ℕ} {s : Cols} (h : Readable bytes ends list from to s) where
  size : Sized (length bytes) ends
  size = sized_says (length bytes) ends h.sized

  pub some_ends : 2 ≤ length ends
  some_ends = omega (arith, size.some)

  pub few_ends : length ends ≤ 10
  few_ends = size.few

  pub streams_few : length (stream_texts bytes ends) ≤ 8
  streams_few = omega (arith, size.few, size.some, streams_count bytes ends some_ends)

  pub streams_all : length ends - 2 ≡ length (stream_texts bytes ends)
  streams_all = omega (arith, streams_count bytes ends some_ends)

  module _ (k : ℕ) (below : k < length ends - 2) where
    pub ends_apart : get_or ends (k + 1) 0 ≤ get_or ends (k + 2) 0
    ends_apart = let two : k + 1 + 1 ≡ k + 2 = omega arith in subst (λ (m : ℕ). get_or ends (k + 1) 0 ≤ get_or ends m 0) two (ends_follow (length bytes) ends (k + 1) size.parts (omega arith))

    pub ends_within : get_or ends (k + 2) 0 ≤ length bytes
    ends_within = ends_inside (length bytes) 0 ends (k + 2) size.parts (omega arith)

    pub stream_text : part (get_or ends (k + 1) 0) (get_or ends (k + 2) 0) bytes ≡ get_or (stream_texts bytes ends) k []
    stream_text = sym (streams_get bytes ends k (omega arith))

    pub stream_slots : {s' : Cols} → Even s' → Slots list from to (k * rows_most) s'
    stream_slots e = record { inside = h.inside; starts = e.start ∙ sym e.chrom; stops = e.stop ∙ sym e.chrom; room = omega (arith, e.chrom, size.few) }

-- the first k streams are read
pub record Streaming (ns ss : List (List ℕ)) (s : Cols) (v : Result (Unit {0}) InputError) (tops : List ℕ) (k : ℕ) : Type 0 where
  pub inside : k ≤ length ss
  pub even : Even s
  pub eight : length tops ≡ 8
  -- what is wrong with them, or else with what is left
  pub rest : else (fault_by v) (streams_fault ns (k + 2) (drop k ss)) ≡ streams_fault ns 2 ss
  pub low : (j : ℕ) → j < k → j * rows_most ≤ get_or tops j 0
  pub high : (j : ℕ) → j < k → get_or tops j 0 ≤ j * rows_most + rows_most
  pub done : (j : ℕ) → j < k → build (read_in s) (get_or tops j 0 - j * rows_most) (j * rows_most) ≡ (rows_in ns (get_or ss j [])).rows

-- the text of stream k is read from place p on
module _ {ns ss : List (List ℕ)} {s s' : Cols} {v : Result (Unit {0}) InputError} {tops : List ℕ} {k p : ℕ} {r : Result ℕ ReadError} {text : List ℕ} (w : Streaming ns ss s v tops k) (below : k < length ss) (few : length ss ≤ 8) (at : p ≡ k * rows_most)
    (is : text ≡ get_or ss k []) (got : PartRead ns text p s r s') where
  count : rows_of r ≡ length (rows_in ns text).rows
  count = ap rows_of got.answered ∙ text_count (row_of (number_in ns)) rows_most text

  -- the place behind its rows
  abbrev top : ℕ
  top = p + rows_of r

  wrong : fault_by (verdict_at (k + 2) r) ≡ found_fault (k + 2) (rows_in ns text)
  wrong = ap (λ (x : Result ℕ ReadError). fault_by (verdict_at (k + 2) x)) got.answered ∙ read_fault (k + 2) (rows_in ns text).end (length (rows_in ns text).rows)

  rest_next : else (fault_by (result_and v (verdict_at (k + 2) r))) (streams_fault ns (k + 1 + 2) (drop (k + 1) ss)) ≡ streams_fault ns 2 ss
  rest_next =
      let one : suc k ≡ k + 1 = omega arith in
      let next : suc (k + 2) ≡ k + 1 + 2 = omega arith in
      let cut : streams_fault ns (k + 2) (drop k ss) ≡ else (found_fault (k + 2) (rows_in ns text)) (streams_fault ns (k + 1 + 2) (drop (k + 1) ss)) =
      ap (streams_fault ns (k + 2)) (drop-cons ss k [] below)
      ∙ ap (λ (t : List ℕ). else (found_fault (k + 2) (rows_in ns t)) (streams_fault ns (suc (k + 2)) (drop (suc k) ss))) (sym is)
      ∙ ap (λ (m : ℕ). else (found_fault (k + 2) (rows_in ns text)) (streams_fault ns m (drop (suc k) ss))) next
      ∙ ap (λ (m : ℕ). else (found_fault (k + 2) (rows_in ns text)) (streams_fault ns (k + 1 + 2) (drop m ss))) one in
      ap (λ (o : Option Fault). else o (streams_fault ns (k + 1 + 2) (drop (k + 1) ss))) (first_else v (verdict_at (k + 2) r) ∙ ap (λ (o : Option Fault). else (fault_by v) o) wrong)
      ∙ else_assoc (fault_by v) (found_fault (k + 2) (rows_in ns text)) (streams_fault ns (k + 1 + 2) (drop (k + 1) ss))
      ∙ ap (λ (o : Option Fault). else (fault_by v) o) (sym cut)
      ∙ w.rest

  top_own : get_or (set tops k top) k 0 ≡ top
  top_own = get_or-set_same tops k top 0 (omega (arith, w.eight, below, few))

  top_other : (j : ℕ) → j < k → get_or (set tops k top) j 0 ≡ get_or tops j 0
  top_other j h = get_or-set_other tops k j top 0 (λ e. omega arith)

  pub streaming_next : Streaming ns ss s' (result_and v (verdict_at (k + 2) r)) (set tops k top) (k + 1)
  streaming_next = record {
    inside = omega arith;
    even = record { chrom = got.kept.chrom ∙ w.even.chrom; start = got.kept.start ∙ w.even.start; stop = got.kept.stop ∙ w.even.stop };
    eight = length-set tops k top ∙ w.eight;
    rest = rest_next;
    low = λ j h. by_low j h (dec_lt j k);
    high = λ j h. by_high j h (dec_lt j k);
    done = λ j h. by_done j h (dec_lt j k);
  }
    where
      by_low : (j : ℕ) → j < k + 1 → Dec (j < k) → j * rows_most ≤ get_or (set tops k top) j 0
      by_low j h (yes b) = omega (arith, top_other j b, w.low j b)
      by_low j h (no b) = let e : j ≡ k = omega arith in rw e (omega (arith, top_own, at))

      by_high : (j : ℕ) → j < k + 1 → Dec (j < k) → get_or (set tops k top) j 0 ≤ j * rows_most + rows_most
      by_high j h (yes b) = omega (arith, top_other j b, w.high j b)
      by_high j h (no b) = let e : j ≡ k = omega arith in rw e (omega (arith, top_own, at, count, got.few))

      by_done : (j : ℕ) → j < k + 1 → Dec (j < k) → build (read_in s') (get_or (set tops k top) j 0 - j * rows_most) (j * rows_most) ≡ (rows_in ns (get_or ss j [])).rows
      by_done j h (yes b) =
          rw (top_other j b) (build_same (read_in s) (read_in s') (get_or tops j 0 - j * rows_most) (j * rows_most) (λ i l u. got.below i (omega (arith, w.high j b, at)))
          ∙ w.done j b)
      by_done j h (no b) =
          let e : j ≡ k = omega arith in
          let n : top - k * rows_most ≡ length (rows_in ns text).rows = omega (arith, at, count) in
          rw (e, top_own, n, sym at, sym is) got.rows

  -- the same, from what each call answers
  pub streaming_got : {n : ℕ} {x v' : Result (Unit {0}) InputError} → n ≡ rows_of r → x ≡ verdict_at (k + 2) r → v' ≡ result_and v x → Streaming ns ss s' v' (set tops k (p + n)) (k + 1)
  streaming_got {n} {x} {v'} hn hx hv =
      let is-first : v' ≡ result_and v (verdict_at (k + 2) r) = hv ∙ ap (result_and v) hx in
      rw (is-first, hn) streaming_next

  pub streaming_top : {n : ℕ} → n ≡ rows_of r → n ≤ rows_most
  streaming_top h = omega (arith, h, count, got.few)

-- ---- the end

places_built : build (λ j. j * rows_most) 8 0 ≡ places
unfolding build
places_built = refl

pub place_at : (k : ℕ) → k < 8 → get_or places k 0 ≡ k * rows_most
place_at k h =
    let z : 0 + k ≡ k = omega arith in
    ap (λ (l : List ℕ). get_or l k 0) (sym places_built) ∙ build_get (λ j. j * rows_most) 8 0 k 0 h ∙ ap (λ (j : ℕ). j * rows_most) z

else_none : {A : Type 0} (o : Option A) → else o none ≡ o
else_none none = refl
else_none (some x) = refl

-- the rows of a text
abbrev given : List (List ℕ) → List ℕ → List rules.Row
given ns text = map row_from (rows_in ns text).rows

pub streaming_end : {ns ss : List (List ℕ)} {s : Cols} {v : Result (Unit {0}) InputError} {tops : List ℕ} {k : ℕ} → Streaming ns ss s v tops k → length ss ≤ k → length ss ≤ 8 → StreamsRead ns ss (record { verdict = v; to = tops }) s
streaming_end {ns} {ss} {s} {v} {tops} {k} w over few =
    let all : k ≡ length ss = omega (arith, w.inside) in
    record {
      verdict = sym (else_none (fault_by v)) ∙ ap (λ (o : Option Fault). else (fault_by v) o) (sym (ap (streams_fault ns (k + 2)) (drop_of_length-le ss over))) ∙ w.rest;
      rows = rows;
      eight = w.eight;
      low = λ j h. w.low j (omega (arith, all));
      high = λ j h. w.high j (omega (arith, all));
      chrom = w.even.chrom;
      start = w.even.start;
      stop = w.even.stop;
    }
  where
    at_one : (j : ℕ) → j < length ss → build (row_in s) (get_or tops j 0 - get_or places j 0) (get_or places j 0) ≡ given ns (get_or ss j [])
    at_one j h =
        rw (place_at j (omega arith)) (sym (map_build row_from (read_in s) (get_or tops j 0 - j * rows_most) (j * rows_most))
        ∙ ap (map row_from) (w.done j (omega (arith, w.inside))))

    rows : streams_of s (length ss) places tops ≡ streams_in ns ss
    rows =
        let n : length (map (given ns) ss) ≡ length ss = length-map ss (given ns) in
        ap (λ (m : ℕ). streams_of s m places tops) (sym n)
        ∙ read_back (λ j. build (row_in s) (get_or tops j 0 - get_or places j 0) (get_or places j 0)) (map (given ns) ss) 0
        (λ i h. let z : 0 + i ≡ i = omega arith in rw z (at_one i (omega (arith, n)) ∙ sym (get_map (given ns) ss i [] _ (omega (arith, n)))))

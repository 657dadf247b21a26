-- All texts are read: what is wrong before the run, and what the columns hold.
use mathlib.Core.Path.{◌≡◌, refl, sym, ap, subst, ◌∙◌}
use mathlib.Core.Bool.{Bool, true, false, cond}
use mathlib.Core.Option.{Option, none, some}
use mathlib.Core.List.{List, map}
use Prim.Native.Nat.{ℕ, ◌+◌, ◌-◌, ◌≤◌}
use native.Mathlib.Omega.{arith}
use native.Mathlib.Nat.{sub-zero}
use lib.ListN.{length, get_or, take}
use Rattle.basics.specs.Build.{build}
use Rattle.rules.specs.Streams.{else}
use Rattle.fields.specs.Names.{part, number_in, names}
use Rattle.fields.specs.Table.{rows_of}
use Rattle.std.specs.Prelude.{Result, Ok, Err, replicate}
use Rattle.fields.specs.declared.ReadError.{ReadError}
use Rattle.rows.specs.Row.{row_of}
use Rattle.heads.specs.View.{Cols}
use Rattle.std.specs.Result.{result_and}
use Rattle.inputs.specs.Texts.{Texts, Fault, fault, rows_most, names_in, rows_in, base_from, bases_of, streams_in, found_fault, list_fault, streams_fault, sizes_fault, fault_of}
use Rattle.inputs.specs.Parted.{stream_texts, texts_of, sized_by}
use Rattle.inputs.specs.Read.{fault_by, verdict_at, NamesRead, read_in, base_in, PartRead, StreamsRead, Rooms, Reads, read_by, wrong_by}
use Rattle.inputs.specs.declared.InputError.{InputError}
use Rattle.inputs.specs.declared.InputError.TheVariants.{Sizes}
use Rattle.inputs.specs.declared.Read.{Read}
use Rattle.inputs.specs.declared.Misread.{Misread}
use Rattle.inputs.specs.declared.ListRead.{ListRead}
use Rattle.inputs.specs.declared.Streams.{Streams}
use Rattle.inputs.proofs.Columns.{map_build}
use Rattle.inputs.proofs.Parting.{Sized, sized_says, ends_follow, ends_inside, streams_count, texts_list, texts_bases, texts_streams, texts_sizes}
use Rattle.inputs.proofs.Faults.{first_else, text_count, read_fault}

-- the texts whose sizes are not right: nothing is read
pub texts_refused : (bytes ends from to len : List ℕ) (b s : Cols) → sized_by (length bytes) ends ≡ false → Rooms from to len b s →
    Reads (texts_of bytes ends) (Err (record { error = Sizes; read = record { names = 0; bases = 0; streams = 0; to = replicate 8 0 } })) from to len b s
unfolding fault_of
texts_refused bytes ends from to len b s e rooms =
    let sizes : sizes_fault (texts_of bytes ends) ≡ some (fault 1 0 0) = texts_sizes bytes ends ∙ ap (λ (u : Bool). cond u none (some (fault 1 0 0))) e in
    record {
      fault = sym (ap (λ (o : Option Fault). else o (else (list_fault (length (texts_of bytes ends).streams) (texts_of bytes ends).list) (else (found_fault 1 (rows_in (names_in (texts_of bytes ends).list) (texts_of bytes ends).bases)) (streams_fault (names_in (texts_of bytes ends).list) 2 (texts_of bytes ends).streams)))) sizes);
      eight = refl;
      rooms = rooms;
      columns = λ h. absurd (differ (sym h ∙ sizes));
    }
  where
    differ : ◌≡◌ {A = Option Fault} none (some (fault 1 0 0)) → ⊥
    differ h = let z : ◌≡◌ {A = ℕ} 0 1 = ap (λ (o : Option Fault). count o) h in absurd (omega arith)
      where
        count : Option Fault → ℕ
        count none = 0
        count (some f) = 1

-- where the list and the bases stand
module _ (bytes ends : List ℕ) (ok : sized_by (length bytes) ends ≡ true) where
  pub some_texts : 3 ≤ length ends
  some_texts = (sized_says (length bytes) ends ok).some

  pub list_within : get_or ends 0 0 ≤ length bytes
  list_within = ends_inside (length bytes) 0 ends 0 (sized_says (length bytes) ends ok).parts (omega (arith, some_texts))

  pub bases_apart : get_or ends 0 0 ≤ get_or ends 1 0
  bases_apart = ends_follow (length bytes) ends 0 (sized_says (length bytes) ends ok).parts (omega (arith, some_texts))

  pub bases_within : get_or ends 1 0 ≤ length bytes
  bases_within = ends_inside (length bytes) 0 ends 1 (sized_says (length bytes) ends ok).parts (omega (arith, some_texts))

-- the texts whose sizes are right
module _ (bytes ends from to len : List ℕ) (b₀ b s : Cols) (named : ListRead) (r : Result ℕ ReadError) (st : Streams) (ok : sized_by (length bytes) ends ≡ true) where
  abbrev a : ℕ
  a = get_or ends 0 0

  abbrev list : List ℕ
  list = take a bytes

  abbrev bases : List ℕ
  bases = part a (get_or ends 1 0) bytes

  abbrev streams : List (List ℕ)
  streams = stream_texts bytes ends

  abbrev texts : Texts
  texts = record { list = list; bases = bases; streams = streams }

  texts_are : texts_of bytes ends ≡ texts
  texts_are =
      let l : (texts_of bytes ends).list ≡ list = texts_list bytes ends ok ∙ ap (λ (n : ℕ). take n bytes) (sub-zero a) in
      let m : (texts_of bytes ends).bases ≡ bases = texts_bases bytes ends ok in
      let n : (texts_of bytes ends).streams ≡ streams = texts_streams bytes ends ok in
      rw (l, m, n)

  size : Sized (length bytes) ends
  size = sized_says (length bytes) ends ok

  count : length streams + 2 ≡ length ends
  count = streams_count bytes ends (omega (arith, size.some))

  -- the names that the rows are read with
  abbrev ns : List (List ℕ)
  ns = names list (take named.count from) (take named.count to)

  module _ (hn : NamesRead list named from to len) (lf : length from ≡ rows_most) (lt : length to ≡ rows_most) (ll : length len ≡ rows_most)
      (hb : PartRead ns bases 0 b₀ r b) (bc : length b₀.chrom ≡ rows_most) (bs : length b₀.start ≡ rows_most) (be : length b₀.stop ≡ rows_most)
      (hs : StreamsRead ns streams st s) (x y v : Result (Unit {0}) InputError) (n m : ℕ) (hx : x ≡ verdict_at 1 r) (hy : y ≡ result_and x st.verdict) (hv : v ≡ result_and named.verdict y) (hr : n ≡ rows_of r) (hm : m ≡ length ends - 2) where
    abbrev same : ns ≡ names_in list
    same = hn.columns.named

    base_wrong : fault_by (verdict_at 1 r) ≡ found_fault 1 (rows_in (names_in list) bases)
    base_wrong = ap (λ (z : Result ℕ ReadError). fault_by (verdict_at 1 z)) hb.answered ∙ read_fault 1 (rows_in ns bases).end (length (rows_in ns bases).rows) ∙ ap (λ (k : List (List ℕ)). found_fault 1 (rows_in k bases)) same

    sizes : sizes_fault texts ≡ none
    sizes = ap sizes_fault (sym texts_are) ∙ texts_sizes bytes ends ∙ ap (λ (u : Bool). cond u none (some (fault 1 0 0))) ok

    wrong : fault_by v ≡ fault_of texts
    unfolding fault_of
    wrong =
        ap fault_by hv ∙ first_else named.verdict y
        ∙ ap (λ (o : Option Fault). else o (fault_by y)) (hn.verdict (length streams) (omega (arith, count, size.some)) (omega (arith, count, size.few)))
        ∙ ap (λ (o : Option Fault). else (list_fault (length streams) list) o)
        (ap fault_by hy ∙ first_else x st.verdict
        ∙ ap (λ (o : Option Fault). else o (fault_by st.verdict)) (ap fault_by hx ∙ base_wrong)
        ∙ ap (λ (o : Option Fault). else (found_fault 1 (rows_in (names_in list) bases)) o) (hs.verdict ∙ ap (λ (k : List (List ℕ)). streams_fault k 2 streams) same))
        ∙ ap (λ (o : Option Fault). else o (else (list_fault (length streams) list) (else (found_fault 1 (rows_in (names_in list) bases)) (streams_fault (names_in list) 2 streams)))) (sym sizes)

    rows_count : n ≡ length (rows_in ns bases).rows
    rows_count = hr ∙ ap rows_of hb.answered ∙ text_count (row_of (number_in ns)) rows_most bases

    base_rows : build (base_in b) n 0 ≡ bases_of texts
    base_rows =
        ap (λ (k : ℕ). build (base_in b) k 0) rows_count
        ∙ sym (map_build base_from (read_in b) (length (rows_in ns bases).rows) 0)
        ∙ ap (map base_from) hb.rows
        ∙ ap (λ (k : List (List ℕ)). map base_from (rows_in k bases).rows) same

    abbrev found : Read
    found = record { names = named.count; bases = n; streams = m; to = st.to }

    -- the answer: what was read, and what is wrong, if anything is
    texts_answer : (z : Result Read Misread) → wrong_by z ≡ fault_by v → read_by z ≡ found → Reads (texts_of bytes ends) z from to len b s
    texts_answer z wrong_so read_so = subst (λ (t : Texts). Reads t z from to len b s) (sym texts_are) (record {
      fault = wrong_so ∙ wrong;
      eight = rw (read_so) hs.eight;
      rooms = record {
        names_from = lf;
        names_to = lt;
        lengths = ll;
        base_chrom = hb.kept.chrom ∙ bc;
        base_start = hb.kept.start ∙ bs;
        base_stop = hb.kept.stop ∙ be;
        chrom = hs.chrom;
        start = hs.start;
        stop = hs.stop;
      };
      columns = λ h. rw (read_so) (record {
        names = hn.columns;
        few = omega (arith, rows_count, hb.few);
        bases = base_rows;
        streams = omega (arith, hm, count);
        rows = hs.rows ∙ ap (λ (k : List (List ℕ)). streams_in k streams) same;
        low = hs.low;
        high = hs.high;
      });
    })

    pub texts_wrong : (e : InputError) → v ≡ Err e → Reads (texts_of bytes ends) (Err (record { error = e; read = found })) from to len b s
    texts_wrong e q = texts_answer (Err (record { error = e; read = found })) (sym (ap fault_by q)) refl

    pub texts_read : {u : Unit {0}} → v ≡ Ok u → Reads (texts_of bytes ends) (Ok found) from to len b s
    texts_read q = texts_answer (Ok found) (sym (ap fault_by q)) refl

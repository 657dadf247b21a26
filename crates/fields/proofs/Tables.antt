-- Reading a text line by line, for any kind of row: what is left of the text gives the rest of what is found. Assumes nothing.
use Prim.Native.Nat.{ℕ, suc, pred, ◌+◌, ◌-◌, ◌≤◌, ◌<◌}
use mathlib.Core.Path.{◌≡◌, refl, sym, ap, ◌∙◌}
use mathlib.Core.List.{List, [], ◌∷◌, ◌++◌, map, map-append, append_assoc}
use mathlib.Core.Bool.{Bool, true, false, cond}
use native.Mathlib.Omega.{arith}
use native.Mathlib.Decide.{dec_lt}
use native.Mathlib.Nat.{sub-zero, add-zero}
use native.Mathlib.Numerals.{add-one}
use lib.ListN.{length, get_or, set, take, drop, length-map, length-drop, length-set}
use lib.Seq.{drop-drop, take_all, take-suc, get_or-drop, set_at, length-take-le}
use borrow.Author.Tests.{eq-eqb, ne_eqb}
use Rattle.fields.specs.Cut.{cut}
use Rattle.fields.specs.Number.{Read, good, bad}
use Rattle.fields.specs.Table.{End, whole, malformed, full, Found, passed, refused, ends, ahead, row_step, read_lines, read_text, answer, Fills}
use Rattle.std.specs.Prelude.{Result, Ok, Err}
use Rattle.fields.specs.declared.ReadError.{ReadError}
use Rattle.fields.specs.declared.ReadError.TheVariants.{Malformed, Full, Refused}
use Rattle.fields.specs.Scan.{in_line, line_at, next_line, Past}
use Rattle.fields.proofs.Scan.{rest_cons, rest_none, front_in, front_out, front_within, lf_ends, line_in}
use Rattle.fields.proofs.Lines.{lines_first, behind}

module _ {A : Type 0} (row : ℕ → List ℕ → Read A) where
  -- nothing is found in an empty text
  reads_none : (room at : ℕ) → read_lines row room at (cut 10 []) ≡ ends whole
  unfolding read_lines cut
  reads_none room at = refl

  -- a text gives what its first line gives, and what is behind it
  module _ (text : List ℕ) (at : ℕ) (inside : at ≤ length text) where
    next : ℕ
    next = at + suc (length (line_at text at))

    behind_is : (room : ℕ) → read_lines row room next (behind (drop (length (line_at text at)) (drop at text))) ≡ read_lines row room (next_line text at) (cut 10 (drop (next_line text at) text))
    unfolding next read_lines
    behind_is room = go (dec_lt (at + length (line_at text at)) (length text))
      where
        place : drop (length (line_at text at)) (drop at text) ≡ drop (at + length (line_at text at)) text
        place = drop-drop (length (line_at text at)) at text

        go : Dec (at + length (line_at text at) < length text) →
            read_lines row room (at + suc (length (line_at text at))) (behind (drop (length (line_at text at)) (drop at text))) ≡ read_lines row room (next_line text at) (cut 10 (drop (next_line text at) text))
        go (yes h) =
            let n : next_line text at ≡ at + length (line_at text at) + 1 = omega arith in
            let m : at + suc (length (line_at text at)) ≡ at + length (line_at text at) + 1 = omega arith in
            rw (place, rest_cons text (at + length (line_at text at)) h, n, m)
        go (no h) =
            let e : at + length (line_at text at) ≡ length text = omega (arith, front_within in_line text at inside) in
            let n : next_line text at ≡ length text = omega arith in
            rw (place, e, rest_none text (length text) refl, n, rest_none text (length text) refl) (sym (reads_none room (length text)))

    pub reads_line : (room : ℕ) → read_lines row room at (cut 10 (drop at text)) ≡
        cond (passed (line_at text at)) (read_lines row room (next_line text at) (cut 10 (drop (next_line text at) text)))
        (row_step room (row at (line_at text at)) (read_lines row (pred room) (next_line text at) (cut 10 (drop (next_line text at) text))))
    unfolding read_lines next
    reads_line room = rw (lines_first (drop at text), behind_is room, behind_is (pred room))

-- what is found is its rows and its end
both : {A : Type 0} (f : Found A) {l : List A} {e : End} → f.rows ≡ l → f.end ≡ e → f ≡ record { rows = l; end = e }
both f p q = rw (← p, ← q)

-- the lines before `at` are read, and n rows stand in them: what is left gives the others
pub record Reads {A : Type 0} (row : ℕ → List ℕ → Read A) (room : ℕ) (text : List ℕ) (n at : ℕ) : Type 0 where
  pub inside : at ≤ length text
  pub few : n ≤ room
  pub some : n ≤ length (read_text row room text).rows
  pub rest : read_lines row (room - n) at (cut 10 (drop at text)) ≡ record { rows = drop n (read_text row room text).rows; end = (read_text row room text).end }

-- the reading ends with n rows
pub record Ended {A : Type 0} (row : ℕ → List ℕ → Read A) (room : ℕ) (text : List ℕ) (n : ℕ) (e : End) : Type 0 where
  pub count : length (read_text row room text).rows ≡ n
  pub why : (read_text row room text).end ≡ e

-- the row after n others is x
pub record Nth {A : Type 0} (row : ℕ → List ℕ → Read A) (room : ℕ) (text : List ℕ) (n : ℕ) (x : A) : Type 0 where
  pub cons : drop n (read_text row room text).rows ≡ x ∷ drop (n + 1) (read_text row room text).rows
  pub more : n < length (read_text row room text).rows

pub reads_start : {A : Type 0} (row : ℕ → List ℕ → Read A) (room : ℕ) (text : List ℕ) → Reads row room text 0 0
reads_start row room text = record { inside = omega arith; few = omega arith; some = omega arith; rest = rw sub-zero }

module _ {A : Type 0} {row : ℕ → List ℕ → Read A} {room : ℕ} {text : List ℕ} {n at : ℕ} (v : Reads row room text n at) where
  stopped : (e : End) → read_lines row (room - n) at (cut 10 (drop at text)) ≡ ends e → Ended row room text n e
  stopped e h =
      let all : drop n (read_text row room text).rows ≡ [] = ap (λ (f : Found A). f.rows) (sym v.rest ∙ h) in
      record {
        count = omega (arith, v.some, ap length all, length-drop n (read_text row room text).rows);
        why = ap (λ (f : Found A). f.end) (sym v.rest ∙ h);
      }

  pub reads_end : length text ≤ at → Ended row room text n whole
  reads_end h = stopped whole (rw (rest_none text at (omega (arith, v.inside))) (reads_none row (room - n) at))

  -- the line at `at`
  module _ (p : Bool) (is : passed (line_at text at) ≡ p) where
    after_line : (room : ℕ) → Found A
    after_line r = read_lines row r (next_line text at) (cut 10 (drop (next_line text at) text))

    line_is : read_lines row (room - n) at (cut 10 (drop at text)) ≡ cond p (after_line (room - n)) (row_step (room - n) (row at (line_at text at)) (after_line (pred (room - n))))
    unfolding after_line
    line_is = reads_line row text at v.inside (room - n) ∙ rw is

  pub reads_pass : passed (line_at text at) ≡ true → Reads row room text n (next_line text at)
  unfolding after_line
  reads_pass p = record {
    inside = omega arith;
    few = v.few;
    some = v.some;
    rest = sym (line_is true p) ∙ v.rest;
  }

  module _ (np : passed (line_at text at) ≡ false) where
    pub reads_bad : row at (line_at text at) ≡ bad → Ended row room text n malformed
    reads_bad h = stopped malformed (line_is false np ∙ rw h)

    module _ (x : A) (h : row at (line_at text at) ≡ good x) where
      pub reads_full : n ≡ room → Ended row room text n full
      reads_full e =
          let z : room - n ≡ 0 = omega arith in
          stopped full (line_is false np ∙ rw (h, z))

      module _ (lt : n < room) where
        put : read_lines row (room - n) at (cut 10 (drop at text)) ≡ ahead x (read_lines row (room - (n + 1)) (next_line text at) (cut 10 (drop (next_line text at) text)))
        unfolding after_line
        put =
            let z : room - n ≡ suc (room - (n + 1)) = omega arith in
            line_is false np ∙ rw (h, z)

        grown : drop n (read_text row room text).rows ≡ x ∷ (read_lines row (room - (n + 1)) (next_line text at) (cut 10 (drop (next_line text at) text))).rows
        grown = ap (λ (f : Found A). f.rows) (sym v.rest ∙ put)

        tail : (read_lines row (room - (n + 1)) (next_line text at) (cut 10 (drop (next_line text at) text))).rows ≡ drop (n + 1) (read_text row room text).rows
        tail = sym (ap (λ (l : List A). drop 1 l) grown) ∙ drop-drop 1 n (read_text row room text).rows

        pub reads_nth : Nth row room text n x
        reads_nth = record {
          cons = grown ∙ rw tail;
          more = omega (arith, ap length grown, length-drop n (read_text row room text).rows);
        }

        pub reads_put : Reads row room text (n + 1) (next_line text at)
        reads_put = record {
          inside = omega arith;
          few = omega arith;
          some = omega (arith, reads_nth.more);
          rest = both _ tail (ap (λ (f : Found A). f.end) (sym put ∙ v.rest));
        }

-- a column that holds n rows, and behind them what stood there
pub record Column {A : Type 0} (f : A → ℕ) (rows : List A) (n : ℕ) (old now : List ℕ) : Type 0 where
  pub long : length now ≡ length old
  pub holds : now ≡ map f (take n rows) ++ drop n old

module _ {A : Type 0} (f : A → ℕ) where
  pub column_start : (rows : List A) (old : List ℕ) → Column f rows 0 old old
  column_start rows old = record { long = refl; holds = refl }

  module _ {rows : List A} {n : ℕ} {old now : List ℕ} (c : Column f rows n old now) where
    pub column_put : (x : A) → drop n rows ≡ x ∷ drop (n + 1) rows → n < length rows → n < length old → Column f rows (n + 1) old (set now n (f x))
    column_put x e h g =
        let here : get_or rows n x ≡ x = rw add-zero at (sym (get_or-drop n rows 0 x) ∙ ap (λ (l : List A). get_or l 0 x) e) in
        record {
          long = simp length-set c.long;
          holds =
              rw (
                c.holds,
                rest_cons old n g,
                set_at (map f (take n rows)) (get_or old n 0) (drop (n + 1) old) (f x) n (length-map (take n rows) f ∙ length-take-le n rows (omega arith)),
                add-one,
                take-suc rows n x h,
                here,
                map-append,
                append_assoc,
              );
        }

    pub column_end : length rows ≡ n → now ≡ map f rows ++ drop (length rows) old
    column_end e = c.holds ∙ rw (take_all n rows (omega arith), e)

-- which lines are passed by
module _ (text : List ℕ) (at : ℕ) (h : at < length text) where
  pub past_empty : get_or text at 0 ≡ 10 → Past text at (at + 1)
  past_empty e =
      let none = front_out in_line text at h (lf_ends (get_or text at 0) e) in
      record { gone = λ _. rw none; next = λ _. omega (arith, ap length none); stays = λ q. absurd (omega (arith, q)) }

  module _ (n : get_or text at 0 ≡ 10 → ⊥) where
    first : line_at text at ≡ get_or text at 0 ∷ line_at text (at + 1)
    first = front_in in_line text at h (line_in (get_or text at 0) n)

    pub past_comment : get_or text at 0 ≡ 35 → {r : ℕ} → r ≡ next_line text at → Past text at r
    past_comment e {r} q = record { gone = λ _. rw first (eq-eqb (get_or text at 0) 35 e); next = λ _. q; stays = λ k. absurd (omega (arith, k, q)) }

    pub past_none : (get_or text at 0 ≡ 35 → ⊥) → Past text at at
    past_none e = record { gone = λ q. absurd (omega (arith, q)); next = λ q. absurd (omega (arith, q)); stays = λ _. rw first (ne_eqb (get_or text at 0) 35 e) }

pub ruleset pasts = (past_empty, past_comment, past_none)

-- three columns a, b, c are being filled with f, g and h of the rows: the lines before `at` are read, with n rows
pub record Filling {A : Type 0} (row : ℕ → List ℕ → Read A) (f g h : A → ℕ) (text a₀ b₀ c₀ a b c : List ℕ) (n at : ℕ) : Type 0 where
  pub reads : Reads row (length a₀) text n at
  pub even_b : length b₀ ≡ length a₀
  pub even_c : length c₀ ≡ length a₀
  pub in_a : Column f (read_text row (length a₀) text).rows n a₀ a
  pub in_b : Column g (read_text row (length a₀) text).rows n b₀ b
  pub in_c : Column h (read_text row (length a₀) text).rows n c₀ c

module _ {A : Type 0} (row : ℕ → List ℕ → Read A) (f g h : A → ℕ) where
  pub fill_start : (text a b c : List ℕ) → length b ≡ length a → length c ≡ length a → Filling row f g h text a b c a b c 0 0
  fill_start text a b c p q = record {
    reads = reads_start row (length a) text;
    even_b = p;
    even_c = q;
    in_a = column_start f (read_text row (length a) text).rows a;
    in_b = column_start g (read_text row (length a) text).rows b;
    in_c = column_start h (read_text row (length a) text).rows c;
  }

-- nothing is written
pub fill_none : {A : Type 0} (f g h : A → ℕ) (found : Found A) (a b c : List ℕ) → found ≡ ends refused → Fills f g h found a b c (Err Refused) a b c
fill_none f g h found a b c e = record { answered = rw e; first = rw e; second = rw e; third = rw e }

module _ {A : Type 0} {row : ℕ → List ℕ → Read A} {f g h : A → ℕ} {text a₀ b₀ c₀ a b c : List ℕ} {n at : ℕ} (v : Filling row f g h text a₀ b₀ c₀ a b c n at) where
  -- what is found once the reading has ended
  module _ (found : Found A) (same : found ≡ read_text row (length a₀) text) where
    ended : (e : End) → Ended row (length a₀) text n e → Fills f g h found a₀ b₀ c₀ (answer e n) a b c
    ended e d = record {
      answered = rw (same, d.why, d.count);
      first = rw same (column_end f v.in_a d.count);
      second = rw same (column_end g v.in_b d.count);
      third = rw same (column_end h v.in_c d.count);
    }

    pub fill_end : length text ≤ at → Fills f g h found a₀ b₀ c₀ (Ok n) a b c
    fill_end k = ended whole (reads_end v.reads k)

    module _ {p : ℕ} (w : Past text at p) (q : p ≤ at) where
      pub fill_bad : row at (line_at text at) ≡ bad → Fills f g h found a₀ b₀ c₀ (Err (Malformed n)) a b c
      fill_bad e = ended malformed (reads_bad v.reads (w.stays q) e)

      pub fill_full : (x : A) → row at (line_at text at) ≡ good x → n ≡ length a₀ → Fills f g h found a₀ b₀ c₀ (Err (Full n)) a b c
      fill_full x e k = ended full (reads_full v.reads (w.stays q) x e k)

  pub fill_pass : {next : ℕ} → Past text at next → at < next → Filling row f g h text a₀ b₀ c₀ a b c n next
  fill_pass p q = record { reads = rw (p.next q) (reads_pass v.reads (p.gone q)); even_b = v.even_b; even_c = v.even_c; in_a = v.in_a; in_b = v.in_b; in_c = v.in_c }

  pub fill_put : {p next : ℕ} → Past text at p → p ≤ at → next ≡ next_line text at → (x : A) → row at (line_at text at) ≡ good x → n < length a₀ →
      Filling row f g h text a₀ b₀ c₀ (set a n (f x)) (set b n (g x)) (set c n (h x)) (n + 1) next
  fill_put p q is x e lt =
      let w = reads_nth v.reads (p.stays q) x e lt in
      record {
        reads = rw is (reads_put v.reads (p.stays q) x e lt);
        even_b = v.even_b;
        even_c = v.even_c;
        in_a = column_put f v.in_a x w.cons w.more lt;
        in_b = column_put g v.in_b x w.cons w.more (omega (arith, v.even_b));
        in_c = column_put h v.in_c x w.cons w.more (omega (arith, v.even_c));
      }

-- any two results that a reader's contract allows are equal
pub fills_one : {A : Type 0} {f g h : A → ℕ} {found : Found A} {a b c : List ℕ} {r s : Result ℕ ReadError} {a' b' c' a'' b'' c'' : List ℕ} →
    Fills f g h found a b c r a' b' c' → Fills f g h found a b c s a'' b'' c'' → (r ≡ s) × (a' ≡ a'') × (b' ≡ b'') × (c' ≡ c'')
fills_one v w = (v.answered ∙ sym w.answered, v.first ∙ sym w.first, v.second ∙ sym w.second, v.third ∙ sym w.third)

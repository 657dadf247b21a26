-- What a turn does to what is left of each stream.
use mathlib.Core.Path.{◌≡◌, refl, sym, ap, ◌∙◌}
use mathlib.Core.Bool.{Bool, true, false, cond}
use mathlib.Core.Option.{Option}
use mathlib.Core.List.{List, [], ◌∷◌, ◌++◌}
use Prim.Native.Nat.{ℕ, zero, suc, ◌+◌, ◌<◌, ◌≤◌}
use native.Mathlib.Omega.{arith}
use lib.Dec.{eqb, leb}
use lib.ListN.{length, length-set, get_or, set}
use lib.Seq.{get_or-set_same, get_or-set_other}
use borrow.Author.Tests.{eqb-true, leb-true, leb-false}
use Rattle.basics.specs.Lists.{total}
use Rattle.basics.specs.Build.{build}
use Rattle.basics.proofs.BoolLaws.{and_left}
use Rattle.basics.proofs.BuildLaws.{build_same, build_set0, build_front, build_none, set_raise}
use Rattle.rules.specs.declared.Base.{Base}
use Rattle.rules.specs.declared.End.{End}
use Rattle.rules.specs.Rows.{Record}
use Rattle.rules.specs.Merge.{Pick, none, one, pick}
use Rattle.rules.specs.Streams.{ahead, next}
use Rattle.rules.specs.Overlap.{taken, live}
use Rattle.rules.specs.Pull.{Pull, paused, ends, unless_wrong, turn, pull}
use Rattle.theory.proofs.Turns.{pull_turn}
use Rattle.heads.specs.View.{Heads}
use Rattle.least.specs.declared.Best.{Best}
use Rattle.heads.specs.declared.Taken.{Taken}
use Rattle.heads.specs.declared.Next.{Next}
use Rattle.std.specs.Prelude.{⊤, Result, Ok, Err, Some, None}
use Rattle.std.specs.Prelude as std
use Rattle.heads.specs.declared.Move.{Move}
use Rattle.heads.specs.declared.Move.TheVariants as move
use Rattle.heads.specs.View.{Cols, row_at, rows_from, four_at, fours_of, behind_at, head_at, rest_at, rests_of}
use Rattle.least.specs.Fours.{record_in, unless_ended, record_from, left_at, is_ended}
use Rattle.least.specs.Least.{head_of, best_of}
use Rattle.heads.specs.Move.{next_record, taken_of, next_of, takes, move_of, behind_by, Placed, Shaped, ends_at, goes_at, turn_at, moved, taken_record}
use Rattle.heads.proofs.MoveLaws.{Standing, standing}

-- ---- the heads as fours, and as what is left

fours_at : (c a e r : List ℕ) (k : ℕ) → k < 8 → get_or (fours_of c a e r) k [] ≡ four_at c a e r k
fours_at c a e r zero h = refl
fours_at c a e r (suc zero) h = refl
fours_at c a e r (suc (suc zero)) h = refl
fours_at c a e r (suc (suc (suc zero))) h = refl
fours_at c a e r (suc (suc (suc (suc zero)))) h = refl
fours_at c a e r (suc (suc (suc (suc (suc zero))))) h = refl
fours_at c a e r (suc (suc (suc (suc (suc (suc zero)))))) h = refl
fours_at c a e r (suc (suc (suc (suc (suc (suc (suc zero))))))) h = refl
fours_at c a e r (suc (suc (suc (suc (suc (suc (suc (suc k)))))))) h = absurd (omega arith)

module _ (s : Cols) (h : Heads) where
  abbrev pub q : List (List ℕ)
  q = fours_of h.chrom h.start h.stop h.row

  abbrev pub after : ℕ → List Record
  after = behind_by s h.next h.from h.to

  pub rests_shown : h.streams ≤ 8 → build (left_at q h.ended after) h.streams 0 ≡ rests_of s h
  unfolding rests_of
  rests_shown few =
      build_same (rest_at s h) (left_at q h.ended after) h.streams 0
      (λ k a b. ap (λ (l : List ℕ). unless_ended (is_ended (get_or h.ended k 0)) (record_from k l ∷ behind_at s h k)) (fours_at h.chrom h.start h.stop h.row k (omega (arith, b))))

-- ---- one stream's head replaced

module _ (s : Cols) (h : Heads) (k : ℕ) (in8 : Shaped h) (few : h.streams ≤ 8) (below : k < h.streams) where
  pub ends_rests : rests_of s (ends_at h k) ≡ set (rests_of s h) k []
  unfolding rests_of
  ends_rests =
      build_set0 (rest_at s h) (rest_at s (ends_at h k)) h.streams k below (λ m a. simp get_or-set_other)
      ∙ ap (set (build (rest_at s h) h.streams 0) k) (ap (λ (t : Bool). unless_ended t (head_at h k ∷ behind_at s h k)) (ap is_ended (get_or-set_same h.ended k 1 0 (omega (arith, in8.ended)))))

  -- the new head, and the rows from its next place on
  pub goes_rests : (x : Next) → rests_of s (goes_at h k x) ≡ set (rests_of s h) k (next_record (record { 0 = k }) x ∷ rows_from s (get_or h.from k 0) (get_or h.to k 0) k x.next)
  unfolding rests_of
  goes_rests x =
      let in_c : k < length h.chrom = omega (arith, in8.chrom) in
      let in_a : k < length h.start = omega (arith, in8.start) in
      let in_e : k < length h.stop = omega (arith, in8.stop) in
      let in_r : k < length h.row = omega (arith, in8.row) in
      let in_d : k < length h.ended = omega (arith, in8.ended) in
      let in_n : k < length h.next = omega (arith, in8.next) in
      build_set0 (rest_at s h) (rest_at s (goes_at h k x)) h.streams k below (λ m a. simp get_or-set_other)
      ∙ simp (get_or-set_same, in_c, in_a, in_e, in_r, in_d, in_n)

-- ---- a turn

-- a record that is taken is queued, if it is live and there is room, and the pull goes on from ss
abbrev pub queued : ℕ → Base → End → ℕ → List Record → Taken → List (List Record) → Pull Record End
queued N b full Q queue t ss =
    cond t.live
    (cond (leb Q (length queue)) (ends full) (pull ahead (next N) full (taken b) (live b) Q ss (queue ++ taken_record b t ∷ [])))
    (pull ahead (next N) full (taken b) (live b) Q ss queue)

-- what a turn does to a pull
abbrev pub on_move : Cols → Heads → ℕ → Base → End → ℕ → List Record → Result Move End → Pull Record End
on_move s h N b full Q queue (Ok (move.Stay x)) = paused (rests_of s h) queue
on_move s h N b full Q queue (Err e) = ends e
on_move s h N b full Q queue (Ok (move.Takes t a)) = queued N b full Q queue t (rests_of s (turn_at h t.stream.0 a))

-- a turn that takes a head leaves one row less
abbrev pub Shorter : Cols → Heads → Result Move End → Type 0
Shorter s h (Ok (move.Stay x)) = Unit {0}
Shorter s h (Err e) = Unit {0}
Shorter s h (Ok (move.Takes t a)) = total (rests_of s h) ≡ suc (total (rests_of s (turn_at h t.stream.0 a)))

-- a live record lies on the base's chromosome
pub taken_same : (b : Base) (a : Record) → live b a ≡ true → taken_record b (taken_of b a) ≡ a
taken_same b a e =
    let on : a.it.chrom.0 ≡ b.chrom.0 = eqb-true a.it.chrom.0 b.chrom.0 (and_left (eqb a.it.chrom.0 b.chrom.0) _ e) in
    ap (λ (c : ℕ). record_in a.stream (record { 0 = c }) a.it.start a.it.stop a.row) (sym on)

module _ (s : Cols) (h : Heads) (in8 : Shaped h) (few : h.streams ≤ 8) (N : ℕ) (b : Base) where
  abbrev pub move_here : Result Move End
  move_here = move_of N b h.next (pick ahead (rests_of s h))

  -- what the picked record leaves, as the heads have it
  record Left (a : Record) (rest : List Record) (ts : List (List Record)) : Type 0 where
    last : rest ≡ [] → rests_of s (ends_at h a.stream.0) ≡ ts
    more : (x : Record) (l : List Record) → rest ≡ x ∷ l → rests_of s (goes_at h a.stream.0 (next_of x (get_or h.next a.stream.0 0 + 1))) ≡ ts
    fewer : total (rests_of s h) ≡ suc (total ts)

  -- the first of the rows behind a head is the one at the next place
  first_row : (k : ℕ) (x : Record) (l : List Record) → behind_at s h k ≡ x ∷ l
      → next_record (record { 0 = k }) (next_of x (get_or h.next k 0 + 1)) ∷ rows_from s (get_or h.from k 0) (get_or h.to k 0) k (get_or h.next k 0 + 1) ≡ x ∷ l
  first_row k x l e = go (leb (get_or h.to k 0) (get_or h.next k 0)) refl
    where
      go : (t : Bool) → leb (get_or h.to k 0) (get_or h.next k 0) ≡ t
          → next_record (record { 0 = k }) (next_of x (get_or h.next k 0 + 1)) ∷ rows_from s (get_or h.from k 0) (get_or h.to k 0) k (get_or h.next k 0 + 1) ≡ x ∷ l
      go true u =
          let none_left : [] ≡ x ∷ l = sym (build_none (row_at s (get_or h.from k 0) k) (get_or h.to k 0) (get_or h.next k 0) (leb-true (get_or h.to k 0) (get_or h.next k 0) u)) ∙ e in
          let w : ◌≡◌ {A = ℕ} 0 1 = cc in absurd (omega arith)
      go false u =
          let whole : row_at s (get_or h.from k 0) k (get_or h.next k 0) ∷ rows_from s (get_or h.from k 0) (get_or h.to k 0) k (get_or h.next k 0 + 1) ≡ x ∷ l =
          sym (build_front (row_at s (get_or h.from k 0) k) (get_or h.to k 0) (get_or h.next k 0) (leb-false (get_or h.to k 0) (get_or h.next k 0) u)) ∙ e in
          let is : x ≡ row_at s (get_or h.from k 0) k (get_or h.next k 0) = cc in
          ap (λ (r : Record). next_record (record { 0 = k }) (next_of r (get_or h.next k 0 + 1)) ∷ rows_from s (get_or h.from k 0) (get_or h.to k 0) k (get_or h.next k 0 + 1)) is ∙ whole

  pub stands : (a : Record) (rest : List Record) (ts : List (List Record)) → pick ahead (rests_of s h) ≡ one a rest ts → Standing (q s h) h.ended (after s h) h.streams few a rest ts
  stands a rest ts z = standing (q s h) h.ended (after s h) h.streams few a rest ts (ap (pick ahead) (rests_shown s h few) ∙ z)

  left_by : (a : Record) (rest : List Record) (ts : List (List Record)) → pick ahead (rests_of s h) ≡ one a rest ts → Left a rest ts
  left_by a rest ts z =
      let w : Standing (q s h) h.ended (after s h) h.streams few a rest ts = stands a rest ts z in
      let k : ℕ = a.stream.0 in
      let gives : ts ≡ set (rests_of s h) k rest = w.without ∙ ap (λ (l : List (List Record)). set l k rest) (rests_shown s h few) in
      record {
        last = λ e. ends_rests s h k in8 few w.place ∙ ap (set (rests_of s h) k) (sym e) ∙ sym gives;
        more = λ x l e. goes_rests s h k in8 few w.place (next_of x (get_or h.next k 0 + 1)) ∙ ap (set (rests_of s h) k) (first_row k x l (sym w.after ∙ e) ∙ sym e) ∙ sym gives;
        fewer = ap total (sym (rests_shown s h few)) ∙ w.fewer;
      }

  module _ (full : End) (Q : ℕ) (queue : List Record) where
    -- the record that is queued is the one that was taken
    queued_same : (a : Record) (ss ts : List (List Record)) → ss ≡ ts → (v : Bool) → live b a ≡ v
        → cond v (cond (leb Q (length queue)) (ends full) (pull ahead (next N) full (taken b) (live b) Q ts (queue ++ a ∷ []))) (pull ahead (next N) full (taken b) (live b) Q ts queue)
        ≡ cond v (cond (leb Q (length queue)) (ends full) (pull ahead (next N) full (taken b) (live b) Q ss (queue ++ taken_record b (taken_of b a) ∷ []))) (pull ahead (next N) full (taken b) (live b) Q ss queue)
    queued_same a ss ts e true v = rw (e, taken_same b a v)
    queued_same a ss ts e false v = rw e

    -- a head that is taken, by what is wrong behind it and by the rows behind it
    took_move : (a : Record) (rest : List Record) (ts : List (List Record)) → Left a rest ts → (o : Option End) (k : List Record) → rest ≡ k
        → unless_wrong o (cond (live b a) (cond (leb Q (length queue)) (ends full) (pull ahead (next N) full (taken b) (live b) Q ts (queue ++ a ∷ []))) (pull ahead (next N) full (taken b) (live b) Q ts queue))
        ≡ on_move s h N b full Q queue (takes (taken_of b a) (get_or h.next a.stream.0 0 + 1) o k)
    took_move a rest ts w (Option.some e) k q = refl
    took_move a rest ts w Option.none [] q = queued_same a (rests_of s (ends_at h a.stream.0)) ts (w.last q) (live b a) refl
    took_move a rest ts w Option.none (x ∷ l) q = queued_same a (rests_of s (goes_at h a.stream.0 (next_of x (get_or h.next a.stream.0 0 + 1)))) ts (w.more x l q) (live b a) refl

    -- a pull is a turn, and the pull from the heads after it
    pub pull_move : pull ahead (next N) full (taken b) (live b) Q (rests_of s h) queue ≡ on_move s h N b full Q queue move_here
    unfolding move_of
    pull_move = pull_turn ahead (next N) full (taken b) (live b) Q (rests_of s h) queue ∙ go (pick ahead (rests_of s h)) refl
      where
        go : (o : Pick Record) → pick ahead (rests_of s h) ≡ o
            → turn ahead (next N) full (taken b) (live b) Q (pull ahead (next N) full (taken b) (live b) Q) (rests_of s h) queue o ≡ on_move s h N b full Q queue (move_of N b h.next o)
        go none z = refl
        go (one a rest ts) z = case (taken b a)
          where
            case : (t : Bool) → cond t (unless_wrong (next N a rest) (cond (live b a) (cond (leb Q (length queue)) (ends full) (pull ahead (next N) full (taken b) (live b) Q ts (queue ++ a ∷ []))) (pull ahead (next N) full (taken b) (live b) Q ts queue))) (paused (rests_of s h) queue)
                ≡ on_move s h N b full Q queue (cond t (takes (taken_of b a) (get_or h.next a.stream.0 0 + 1) (next N a rest) rest) (Ok (move.Stay (Some (head_of a)))))
            case true = took_move a rest ts (left_by a rest ts z) (next N a rest) rest refl
            case false = refl

  -- each turn that takes a head leaves exactly one row less
  pub shorter : Shorter s h move_here
  unfolding move_of
  shorter = go (pick ahead (rests_of s h)) refl
    where
      go : (o : Pick Record) → pick ahead (rests_of s h) ≡ o → Shorter s h (move_of N b h.next o)
      go none z = tt
      go (one a rest ts) z = case (taken b a) (next N a rest) rest refl
        where
          case : (t : Bool) (o : Option End) (k : List Record) → rest ≡ k → Shorter s h (cond t (takes (taken_of b a) (get_or h.next a.stream.0 0 + 1) o k) (Ok (move.Stay (Some (head_of a)))))
          case false o k q = tt
          case true (Option.some e) k q = tt
          case true Option.none [] q = (left_by a rest ts z).fewer ∙ ap (λ (l : List (List Record)). suc (total l)) (sym ((left_by a rest ts z).last q))
          case true Option.none (x ∷ l) q = (left_by a rest ts z).fewer ∙ ap (λ (m : List (List Record)). suc (total m)) (sym ((left_by a rest ts z).more x l q))

  -- ---- what every turn keeps

  abbrev pub Fit : Heads → Type 0
  Fit g = Placed s g.streams g.next g.from g.to

  goes_placed : (k : ℕ) (x : Next) → x.next ≡ get_or h.next k 0 + 1 → Fit h → Fit (goes_at h k x)
  goes_placed k x e p = record {
    few = p.few;
    starts = p.starts;
    stops = p.stops;
    low = λ j b. omega (arith, p.low j b, set_raise h.next k x.next j (omega arith));
    high = p.high;
  }

  -- the heads after a turn are placed as they were
  pub moved_placed : Fit h → Fit (moved h move_here)
  unfolding move_of
  moved_placed p = go (pick ahead (rests_of s h))
    where
      go : (o : Pick Record) → Fit (moved h (move_of N b h.next o))
      go none = p
      go (one a rest ts) = case (taken b a) (next N a rest) rest
        where
          case : (t : Bool) (o : Option End) (k : List Record) → Fit (moved h (cond t (takes (taken_of b a) (get_or h.next a.stream.0 0 + 1) o k) (Ok (move.Stay (Some (head_of a))))))
          case false o k = p
          case true (Option.some e) k = p
          case true Option.none [] = p
          case true Option.none (x ∷ l) = goes_placed a.stream.0 (next_of x (get_or h.next a.stream.0 0 + 1)) refl p

  -- a head that is taken is one of a stream
  abbrev pub InPlace : Result Move End → Type 0
  InPlace (Ok (move.Stay x)) = Unit {0}
  InPlace (Err e) = Unit {0}
  InPlace (Ok (move.Takes t a)) = t.stream.0 < h.streams

  pub in_place : InPlace move_here
  unfolding move_of
  in_place = go (pick ahead (rests_of s h)) refl
    where
      go : (o : Pick Record) → pick ahead (rests_of s h) ≡ o → InPlace (move_of N b h.next o)
      go none z = tt
      go (one a rest ts) z = case (taken b a) (next N a rest) rest
        where
          case : (t : Bool) (o : Option End) (k : List Record) → InPlace (cond t (takes (taken_of b a) (get_or h.next a.stream.0 0 + 1) o k) (Ok (move.Stay (Some (head_of a)))))
          case false o k = tt
          case true (Option.some e) k = tt
          case true Option.none [] = (stands a rest ts z).place
          case true Option.none (x ∷ l) = (stands a rest ts z).place

  -- a turn that takes nothing tells the head that the merge would take next
  pub stayed : (x : std.Option Best) → move_here ≡ Ok (move.Stay x) → x ≡ best_of (pick ahead (rests_of s h))
  unfolding move_of
  stayed x = go (pick ahead (rests_of s h))
    where
      go : (o : Pick Record) → move_of N b h.next o ≡ Ok (move.Stay x) → x ≡ best_of o
      go none e = cc
      go (one a rest ts) e = case (taken b a) (next N a rest) rest e
        where
          case : (t : Bool) (o : Option End) (k : List Record) → cond t (takes (taken_of b a) (get_or h.next a.stream.0 0 + 1) o k) (Ok (move.Stay (Some (head_of a)))) ≡ Ok (move.Stay x) → x ≡ Some (head_of a)
          case false o k z = cc
          case true (Option.some f) k z = let w : ◌≡◌ {A = ℕ} 0 1 = cc in absurd (omega arith)
          case true Option.none [] z = let w : ◌≡◌ {A = ℕ} 0 1 = cc in absurd (omega arith)
          case true Option.none (y ∷ l) z = let w : ◌≡◌ {A = ℕ} 0 1 = cc in absurd (omega arith)

-- the arrays after a turn have their eight places
pub turned_shaped : (h : Heads) (k : ℕ) (a : std.Option Next) → Shaped h → Shaped (turn_at h k a)
turned_shaped h k None w = record { chrom = w.chrom; start = w.start; stop = w.stop; row = w.row; ended = length-set h.ended k 1 ∙ w.ended; next = w.next }
turned_shaped h k (Some x) w = record {
  chrom = length-set h.chrom k x.chrom.0 ∙ w.chrom;
  start = length-set h.start k x.start ∙ w.start;
  stop = length-set h.stop k x.stop ∙ w.stop;
  row = length-set h.row k x.row ∙ w.row;
  ended = length-set h.ended k 0 ∙ w.ended;
  next = length-set h.next k x.next ∙ w.next;
}

pub moved_shaped : (h : Heads) (m : Result Move End) → Shaped h → Shaped (moved h m)
moved_shaped h (Ok (move.Stay x)) w = w
moved_shaped h (Err e) w = w
moved_shaped h (Ok (move.Takes t a)) w = turned_shaped h t.stream.0 a w

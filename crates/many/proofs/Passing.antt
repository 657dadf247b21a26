-- The loop over the bases: what was answered so far, and that 1 is not due at the next one.
use mathlib.Core.Path.{◌≡◌, refl, sym, ap, subst, ◌∙◌}
use mathlib.Core.Bool.{true}
use mathlib.Core.List.{List, map}
use Prim.Native.Nat.{ℕ, zero, suc, ◌+◌, ◌-◌, ◌≤◌, ◌<◌}
use native.Mathlib.Omega.{arith}
use lib.ListN.{length, set, drop, length-append, length-map, length-drop, length-set}
use borrow.Rule.Slice.PartMut.{mid_of, put_mid, take_put}
use Rattle.rules.specs.declared.Base.{Base}
use Rattle.rules.specs.declared.End.{End}
use Rattle.rules.specs.Offered.{Offer}
use Rattle.std.specs.Prelude.{Some, None}
use Rattle.rules.specs.declared.Refusal.{Refusal}
use Rattle.rules.specs.declared.Stage.TheVariants.{After}
use Rattle.rules.specs.declared.Answer.TheVariants as answer
use Rattle.rules.specs.Call.{Reply, found, refused, ended, answer_of, rows_of}
use Rattle.heads.specs.View.{Cols, Heads}
use Rattle.heads.specs.Move.{Shaped}
use Rattle.queue.specs.declared.Ring.{Ring}
use Rattle.queue.specs.Ring.{Cells}
use Rattle.queue.specs.Deeds.{answer_row}
use Rattle.pulls.specs.declared.Answered.{Answered}
use Rattle.pulls.specs.Pulls.{Found, Kept, Lent, lent}
use Rattle.runs.specs.declared.Run.{Run}
use Rattle.runs.specs.declared.Given.{Given}
use Rattle.runs.specs.declared.mark.Mark.{Mark}
use Rattle.runs.specs.Marks.{stage_in, mark_of}
use Rattle.runs.specs.View.{heads_of, ring_of, run_in, over_of}
use Rattle.runs.specs.Comes.{right_of, given_of}
use Rattle.step.specs.declared.State.{State}
use Rattle.step.specs.Settle.{Going}
use Rattle.step.specs.Give.{Gives}
use Rattle.step.specs.Step.{Ready, Steps}
use Rattle.demands.specs.Calls.{Blameless}
use Rattle.demands.proofs.RunAnswers.{fits_so}
use Rattle.demands.proofs.ComesBack.{right_blameless, comes_back, comes_sized}
use Rattle.many.specs.declared.Passed.{Passed}
use Rattle.many.specs.Many.{base_at, behind, Stays, Passes, none, one, all, short, other, Even, Answers}
use Rattle.many.specs.Inner.{Passable}
use Rattle.many.proofs.Parts.{mid_drop, drop_mid, put_length}

-- ---- one call

-- an answer with records tells the reply, and how many
pub found_reply : (t : Reply) (m : ℕ) (o : Offer) → answer.Found m o ≡ answer_of t → Found t × (m ≡ length (rows_of t))
found_reply (found hits p) m o i = let z : m ≡ length hits = cc in (tt, z)
found_reply (refused x) m o i = let z : ◌≡◌ {A = ℕ} 0 1 = cc in absurd (omega arith)
found_reply (ended f) m o i = let z : ◌≡◌ {A = ℕ} 0 1 = cc in absurd (omega arith)

-- a base's records lie within the answer rows
found_fit : (s : Cols) (lengths : List ℕ) (r : Run) (b : Base) (l : Lent) (m : ℕ) (o : Offer) (u : Run) (l' : Lent) → Gives s lengths r b l (record { run = u; answer = answer.Found m o }) l' → m ≤ length l'.answers
found_fit s lengths r b l m o u l' g =
    let t : Reply = (given_of s lengths r b l).reply in
    let n : m ≡ length (rows_of t) = (found_reply t m o g.settles.answer).1 in
    let e : length l'.answers ≡ length (map answer_row (rows_of t)) + length (drop (length (rows_of t)) l.answers) = ap length g.settles.answers ∙ length-append (map answer_row (rows_of t)) (drop (length (rows_of t)) l.answers) in
    omega (arith, n, e, length-map (rows_of t) answer_row)

-- ---- the loop

-- what the loop is given: the streams' columns, the chromosomes' lengths, the bases, the run, what was lent and the counts
pub record Job : Type 0 where
  pub s : Cols
  pub lengths : List ℕ
  pub t : Cols
  pub v : Run
  pub l : Lent
  pub ns : List ℕ

-- what came of it
abbrev Gets : Job → Passed → Lent → List ℕ → Type 0
Gets j = Answers j.s j.lengths j.t j.v j.l j.ns

-- heads that are of the run's streams
pub record Like (j : Job) (h : Heads) : Type 0 where
  pub from : h.from ≡ j.v.from
  pub to : h.to ≡ j.v.to
  pub streams : h.streams ≡ j.v.settings.streams

-- at base number k: the heads, the ring, the mark, what was offered, the first free answer row, what is lent and the counts
pub record Passing (j : Job) (h : Heads) (q : Ring) (x : Mark) (p : Offer) (u k : ℕ) (m : Lent) (ms : List ℕ) : Type 0 where
  pub passes : Passes j.s j.lengths j.t j.v j.l j.ns k u p (run_in h j.v.settings.chroms q x) m ms
  pub blameless : Blameless j.s j.lengths (run_in h j.v.settings.chroms q x) m.cells
  pub shaped : Shaped h
  pub like : Like j h
  pub going : Going (stage_in x)
  pub room : q.room ≡ j.v.settings.room
  pub most : k ≤ length j.t.chrom
  pub free : u ≤ length m.answers
  pub even : Even j.t ms
  pub kept : Kept j.l.cells m.cells
  pub answers : length m.answers ≡ length j.l.answers
  pub counts : length ms ≡ length j.ns

-- the next base can be given
pub record Next (j : Job) (h : Heads) (q : Ring) (x : Mark) (p : Offer) (u k : ℕ) (m : Lent) (ms : List ℕ) : Type 0 where
  pub passing : Passing j h q x p u k m ms
  pub below : k < length j.t.chrom
  pub enough : j.v.settings.room ≤ length m.answers - u

pub begins : (j : Job) → Passable j.s j.lengths j.t j.v j.l j.ns → Shaped (heads_of j.v) → (h : Heads) → h ≡ heads_of j.v → (q : Ring) → q ≡ ring_of j.v → Passing j h q j.v.mark None 0 0 j.l j.ns
begins j z shaped h i q e = rw (i, e) (record {
  passes = none;
  blameless = right_blameless j.s j.lengths j.v j.l z.right;
  shaped = shaped;
  like = record { from = refl; to = refl; streams = refl };
  going = z.going;
  room = refl;
  most = omega arith;
  free = omega arith;
  even = z.even;
  kept = refl;
  answers = refl;
  counts = refl;
})

-- there are answer rows for the first
pub first_enough : (j : Job) → Passable j.s j.lengths j.t j.v j.l j.ns → j.v.settings.room ≤ length j.l.answers - 0
first_enough j z = omega (arith, (fits_so j.s j.lengths j.v j.l z.right).answer)

positive : (k a b : ℕ) → (k ≡ 0 → b ≤ a) → a < b → 0 < k
positive zero a b f e = absurd (omega (arith, f refl, e))
positive (suc k) a b f e = omega arith

-- there is none, or there are too few rows for it
module _ {j : Job} {h : Heads} {q : Ring} {x : Mark} {p : Offer} {u k : ℕ} {m : Lent} {ms : List ℕ} (z : Passing j h q x p u k m ms) where
  abbrev stops : Passed
  stops = record { run = run_in h j.v.settings.chroms q x; bases = k; records = u; offer = p; last = None }

  pub none_left : length j.t.chrom ≤ k → Gets j stops m ms
  none_left e = record { run = run_in h j.v.settings.chroms q x; lent = m; passes = z.passes; ends = all (omega (arith, e, z.most)) }

  pub too_few : (k ≡ 0 → j.v.settings.room ≤ length m.answers - u) → k < length j.t.chrom → length m.answers - u < j.v.settings.room → Gets j stops m ms
  too_few f b e = record { run = run_in h j.v.settings.chroms q x; lent = m; passes = z.passes; ends = short b (positive k (length m.answers - u) j.v.settings.room f e) (omega (arith, e, z.free, z.room)) }

-- the next one is given
module _ {j : Job} {h : Heads} {q : Ring} {x : Mark} {p : Offer} {u k : ℕ} {m : Lent} {ms : List ℕ} (n : Next j h q x p u k m ms) where
  abbrev z : Passing j h q x p u k m ms
  z = n.passing

  abbrev r : Run
  r = run_in h j.v.settings.chroms q x

  -- the answer rows from the first free one on, as they are lent
  abbrev part : Lent
  part = lent m.cells (mid_of u (length m.answers - u) m.answers)

  abbrev at : State
  at = record { fixed = j.v.settings; ring = q; mark = x }

  part_is : part ≡ behind u m
  part_is = ap (lent m.cells) (mid_drop u m.answers)

  right : right_of j.s j.lengths r (behind u m) ≡ true
  right = z.blameless (drop u m.answers) (omega (arith, n.enough, z.room, length-drop u m.answers))

  pub ready : Ready j.s j.lengths h at part
  ready = subst (Ready j.s j.lengths h at) (sym part_is) (record { right = right; shaped = z.shaped; going = z.going })

  -- a is what it got
  module _ {b : Base} (bs : b ≡ base_at j.t k) {a : Answered} {h' : Heads} {c : Cells} {rs : List (List ℕ)} (was : Steps j.s j.lengths h at b part a h' (lent c rs)) where
    abbrev pub l' : Lent
    l' = lent c (put_mid u (length m.answers - u) m.answers rs)

    back_is : behind u l' ≡ lent c rs
    back_is = ap (lent c) (drop_mid u m.answers rs z.free)

    f : Steps j.s j.lengths h at (base_at j.t k) (behind u m) a h' (behind u l')
    f = subst (λ (y : Lent). Steps j.s j.lengths h at (base_at j.t k) (behind u m) a h' y) (sym back_is)
        (subst (λ (y : Lent). Steps j.s j.lengths h at (base_at j.t k) y a h' (lent c rs)) part_is
        (subst (λ (y : Base). Steps j.s j.lengths h at y part a h' (lent c rs)) bs was))

    stays : Stays u m l'
    stays = take_put u (length m.answers - u) m.answers rs z.free

    over_is : (e : End) → over_of r e ≡ over_of j.v e
    over_is e = rw (z.like.from, z.like.to, z.like.streams, z.room)

    -- the run ended
    pub over_out : (e : End) → a.answer ≡ answer.Ended e → Gets j (record { run = over_of j.v e; bases = k; records = u; offer = p; last = Some (answer.Ended e) }) l' ms
    over_out e i = record {
      run = r;
      lent = m;
      passes = z.passes;
      ends = other (answer.Ended e) (over_of j.v e) l' n.below (λ o. omega (arith, n.enough, z.free, z.room)) tt
          (subst (λ (y : Run). Gives j.s j.lengths r (base_at j.t k) (behind u m) (record { run = y; answer = answer.Ended e }) (behind u l')) (over_is e) (f.ended e i)) stays;
    }

    -- it was refused
    pub refused_out : (y : Refusal) → a.answer ≡ answer.Refused y → Gets j (record { run = run_in h' j.v.settings.chroms q x; bases = k; records = u; offer = p; last = Some (answer.Refused y) }) l' ms
    refused_out y e = record {
      run = r;
      lent = m;
      passes = z.passes;
      ends = other (answer.Refused y) (run_in h' j.v.settings.chroms q x) l' n.below (λ o. omega (arith, n.enough, z.free, z.room)) tt (f.refused y e) stays;
    }

    -- the queue and the answer rows are as long as they were
    module _ (kept : length c ≡ length m.cells) (whole : length rs ≡ length part.answers) where
      same : length l'.answers ≡ length m.answers
      same = put_length u m.answers rs z.free whole

      -- it was answered
      module _ (i : ℕ) (o : Offer) (e : a.answer ≡ answer.Found i o) where
        abbrev g : Given
        g = record { run = run_in h' j.v.settings.chroms a.ring (mark_of (After (base_at j.t k))); answer = answer.Found i o }

        gives : Gives j.s j.lengths r (base_at j.t k) (behind u m) g (behind u l')
        gives = f.found i o e

        back : Blameless j.s j.lengths g.run l'.cells × Shaped (heads_of g.run)
        back = comes_back j.s j.lengths r (base_at j.t k) (behind u m) g (behind u l') gives right z.shaped (found_reply (given_of j.s j.lengths r (base_at j.t k) (behind u m)).reply i o gives.settles.answer).0

        pub more_fit : u + i ≤ length l'.answers
        more_fit = omega (arith, found_fit j.s j.lengths r (base_at j.t k) (behind u m) i o g.run (behind u l') gives, length-drop u l'.answers, z.free, same)

        pub more_place : u + i ≤ length j.l.answers
        more_place = omega (arith, more_fit, same, z.answers)

        like : Like j h'
        like =
            let z' = comes_sized j.s j.lengths r (base_at j.t k) (behind u m) g (behind u l') gives right z.shaped in
            record { from = z'.from ∙ z.like.from; to = z'.to ∙ z.like.to; streams = z'.streams ∙ z.like.streams }

        pub goes_on : (y : Mark) → y ≡ mark_of (After b) → Passing j h' a.ring y o (u + i) (k + 1) l' (set ms k i)
        goes_on y d = subst (λ (y' : Mark). Passing j h' a.ring y' o (u + i) (k + 1) l' (set ms k i)) (ap (λ (y' : Base). mark_of (After y')) (sym bs) ∙ sym d) (record {
          passes = one i o g.run l' z.passes gives stays;
          blameless = back.0;
          shaped = back.1;
          like = like;
          going = tt;
          room = gives.settles.room ∙ z.room;
          most = omega (arith, n.below);
          free = more_fit;
          even = record { starts = z.even.starts; stops = z.even.stops; counts = omega (arith, z.even.counts, length-set ms k i) };
          kept = kept ∙ z.kept;
          answers = same ∙ z.answers;
          counts = length-set ms k i ∙ z.counts;
        })

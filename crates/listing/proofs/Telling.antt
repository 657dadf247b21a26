-- The bases of a listing, one more at a time: what stands in the buffer, and what is left gives the rest.
use mathlib.Core.Path.{◌≡◌, refl, sym, ap, subst, ◌∙◌}
use mathlib.Core.Bool.{true}
use mathlib.Core.List.{List, [], ◌∷◌, ◌++◌, map, append-nil, append_assoc}
use Prim.Native.Nat.{ℕ, suc, ◌+◌, ◌-◌, ◌≤◌, ◌<◌}
use native.Mathlib.Omega.{arith}
use lib.ListN.{length, get_or}
use Rattle.basics.specs.Lists.{All, nil, cons}
use Rattle.basics.specs.Build.{build}
use Rattle.basics.proofs.BuildLaws.{build_front, build_none}
use Rattle.rules.specs.declared.Base.{Base}
use Rattle.rules.specs.declared.Answer.{Answer}
use Rattle.rules.specs.declared.Answer.TheVariants as answer
use Rattle.rules.specs.Rows.{Record}
use Rattle.rules.specs.Call.{Reply, found, refused, ended, answer_of, give}
use Rattle.rules.specs.Call as rules
use Rattle.rules.specs.Job.{lending, replies}
use Rattle.heads.specs.View.{Cols}
use Rattle.admit.specs.Gates.{lengths_of}
use Rattle.std.specs.Prelude.{Some, None, Result, Ok, Err}
use Rattle.lines.specs.declared.Cut.{Cut}
use Rattle.lines.specs.Laid.{Lays}
use Rattle.lines.specs.Lines.{line_b}
use Rattle.lines.proofs.LaidLaws.{lays_none, lays_append, lays_part}
use Rattle.runs.specs.declared.Run.{Run}
use Rattle.runs.specs.declared.Given.{Given}
use Rattle.runs.specs.View.{run_of}
use Rattle.pulls.specs.Pulls.{Lent}
use Rattle.step.specs.Give.{Gives}
use Rattle.runs.specs.Comes.{right_of, given_of}
use Rattle.replies.specs.declared.Listed.{Listed}
use Rattle.replies.specs.Lines.{lines_of}
use Rattle.replies.specs.Lines as replies
use Rattle.replies.specs.List.{Lists}
use Rattle.demands.proofs.KeptLaws.{Hits, give_hits, give_holds}
use Rattle.demands.proofs.RunAnswers.{right_given}
use Rattle.demands.proofs.ComesBack.{Returns, returns}
use Rattle.inputs.specs.Texts.{room}
use Rattle.inputs.specs.Read.{base_in}
use Rattle.walk.specs.Run.{Own, Comes, Bases}
use Rattle.listing.specs.Listing.{record_line, reply_lines, run_lines}
use Rattle.listing.specs.Run.{lines_from, step_of}

-- ---- the lines of one base

-- a record's line, read from the columns, is the record's own
own_lines : (s : Cols) (from : List ℕ) {hits : List Record} → All (Own s from) hits → map (replies.record_line s from) hits ≡ map record_line hits
own_lines s from nil = refl
own_lines s from (cons {x = a} {l = l} e more) = rw (e, own_lines s from more)

-- "after an ended run the listing stops": what follows a reply
abbrev more_of : Reply → List (List ℕ) → List (List ℕ)
more_of (found hits o) more = more
more_of (refused x) more = more
more_of (ended e) more = []

reply_lines_lem : (s : Cols) (from : List ℕ) (ns : List (List ℕ)) (i : ℕ) (b : Base) (t : Reply) (more : List (List ℕ)) → Hits (Own s from) t →
    reply_lines ns i b t more ≡ lines_of s from (get_or ns b.chrom.0 []) i b t ++ more_of t more
reply_lines_lem s from ns i b (found hits o) more h = ap (λ (l : List (List ℕ)). line_b (get_or ns b.chrom.0 []) b.start b.stop (length hits) ∷ l ++ more) (sym (own_lines s from h))
reply_lines_lem s from ns i b (refused x) more h = refl
reply_lines_lem s from ns i b (ended e) more h = refl

-- ---- the run

-- a call of a run that comes back leaves one that does
comes_next : (s : Cols) (lengths : List ℕ) (r : Run) (b : Base) (l : Lent) (g : Given) (l' : Lent) → Gives s lengths r b l g l' → Comes s lengths r l.cells → Comes s lengths g.run l'.cells
comes_next s lengths r b l g l' gives c =
    let back : Returns s lengths r g.run l'.cells = returns s lengths r b l g l' gives c.blameless c.whole in
    let held = give_holds (Own s r.from) (lengths_of lengths) r.settings.room (record { right = right_of s lengths r l; rows = length l.answers }) (run_of s l.cells r) b (c.left, c.queue) in
    record {
      blameless = back.blameless;
      whole = back.whole;
      room = back.sized.room ∙ c.room;
      left = λ k. subst (λ (f : List ℕ). All (Own s f) (get_or (run_of s l'.cells g.run).left k [])) (sym back.sized.from)
          (subst (λ (x : rules.Run). All (Own s r.from) (get_or x.left k [])) (sym gives.settles.run) (held.0 k));
      queue = subst (λ (f : List ℕ). All (Own s f) (run_of s l'.cells g.run).queue) (sym back.sized.from)
          (subst (λ (x : rules.Run). All (Own s r.from) x.queue) (sym gives.settles.run) held.1);
    }

-- fewer bases stand in the columns, too
pub bases_fewer : {list from to : List ℕ} {b : Cols} {n i : ℕ} → Bases list from to b n → i < n → Bases list from to b (i + 1)
bases_fewer w h = record { inside = w.inside; chrom = omega (arith, w.chrom); start = omega (arith, w.start); stop = omega (arith, w.stop) }

-- ---- the loop

-- the lines ahead of base i stand in the buffer up to a place, and with those of the bases from i on they are all
pub record Telling (ns : List (List ℕ)) (lengths : List ℕ) (b s : Cols) (n : ℕ) (whole : List (List ℕ)) (old : List ℕ) (i at : ℕ) (r : Run) (l : Lent) (out : List ℕ) : Type 0 where
  pub inside : i ≤ n
  pub comes : Comes s lengths r l.cells
  pub answers : length l.answers ≡ room
  pub sofar : List (List ℕ)
  pub rest : sofar ++ lines_from ns lengths b s (n - i) i r l.cells ≡ whole
  pub laid : Lays old 0 sofar (Ok at) out

pub telling_start : (ns : List (List ℕ)) (lengths : List ℕ) (b s : Cols) (n : ℕ) (r : Run) (l : Lent) (out : List ℕ) → Comes s lengths r l.cells → length l.answers ≡ room →
    Telling ns lengths b s n (lines_from ns lengths b s n 0 r l.cells) out 0 0 r l out
telling_start ns lengths b s n r l out c enough = record {
  inside = omega arith;
  comes = c;
  answers = enough;
  sofar = [];
  rest = ap (λ (m : ℕ). lines_from ns lengths b s m 0 r l.cells) (let e : n - 0 ≡ n = omega arith in e);
  laid = lays_none out 0 (omega arith);
}

module _ {ns : List (List ℕ)} {lengths : List ℕ} {b s : Cols} {n : ℕ} {whole : List (List ℕ)} {old : List ℕ} {i at : ℕ} {r : Run} {l : Lent} {out : List ℕ} (w : Telling ns lengths b s n whole old i at r l out) where
  -- no base is left
  pub telling_end : n ≤ i → Lays old 0 whole (Ok at) out
  unfolding replies
  telling_end over =
      let none : lines_from ns lengths b s (n - i) i r l.cells ≡ [] = ap (λ (bs : List Base). run_lines ns i bs (replies (lengths_of lengths) room (run_of s l.cells r) bs)) (build_none (base_in b) n i over) in
      subst (λ (ls : List (List ℕ)). Lays old 0 ls (Ok at) out) (sym (append-nil w.sofar) ∙ ap (λ (ls : List (List ℕ)). w.sofar ++ ls) (sym none) ∙ w.rest) w.laid

  -- base i is given, and its lines are written
  module _ (below : i < n) {x : Listed} {l' : Lent} {out' : List ℕ} (h : Lists s lengths r (base_in b i) i (get_or ns (get_or b.chrom i 0) []) l out at x l' out') where
    abbrev reply : Reply
    reply = (given_of s lengths r (base_in b i) l).reply

    abbrev own : List (List ℕ)
    own = lines_of s r.from (get_or ns (get_or b.chrom i 0) []) i (base_in b i) reply

    abbrev later : List (List ℕ)
    later = lines_from ns lengths b s (n - (i + 1)) (i + 1) x.run l'.cells

    right : right_of s lengths r l ≡ true
    right = w.comes.blameless l.answers (omega (arith, w.comes.room, w.answers))

    given_is : given_of s lengths r (base_in b i) l ≡ give (lengths_of lengths) room (lending room) (run_of s l.cells r) (base_in b i)
    given_is = right_given s lengths r (base_in b i) l right ∙ ap (λ (q : ℕ). give (lengths_of lengths) q (lending q) (run_of s l.cells r) (base_in b i)) w.comes.room

    hits : Hits (Own s r.from) reply
    hits = give_hits (Own s r.from) (lengths_of lengths) r.settings.room (record { right = right_of s lengths r l; rows = length l.answers }) (run_of s l.cells r) (base_in b i) (w.comes.left, w.comes.queue)

    -- the lines from base i on: its own, and what follows
    lines_next : lines_from ns lengths b s (n - i) i r l.cells ≡ reply_lines ns i (base_in b i) reply later
    unfolding replies
    lines_next =
        let next : rules.Run = run_of s l'.cells x.run in
        let run_is : (give (lengths_of lengths) room (lending room) (run_of s l.cells r) (base_in b i)).run ≡ run_of s l'.cells x.run =
        ap (λ (g : rules.Given). g.run) (sym given_is) ∙ sym h.gives.settles.run in
        let reply-is : (give (lengths_of lengths) room (lending room) (run_of s l.cells r) (base_in b i)).reply ≡ reply = ap (λ (g : rules.Given). g.reply) (sym given_is) in
        ap (λ (bs : List Base). run_lines ns i bs (replies (lengths_of lengths) room (run_of s l.cells r) bs)) (build_front (base_in b) n i below)
        ∙ ap (λ (t : Reply). reply_lines ns i (base_in b i) t (run_lines ns (suc i) (build (base_in b) (n - (i + 1)) (i + 1)) (replies (lengths_of lengths) room (give (lengths_of lengths) room (lending room) (run_of s l.cells r) (base_in b i)).run (build (base_in b) (n - (i + 1)) (i + 1))))) reply-is
        ∙ ap (λ (u : rules.Run). reply_lines ns i (base_in b i) reply (run_lines ns (suc i) (build (base_in b) (n - (i + 1)) (i + 1)) (replies (lengths_of lengths) room u (build (base_in b) (n - (i + 1)) (i + 1))))) run_is
        ∙ ap (λ (k : ℕ). reply_lines ns i (base_in b i) reply (run_lines ns k (build (base_in b) (n - (i + 1)) (i + 1)) (replies (lengths_of lengths) room (run_of s l'.cells x.run) (build (base_in b) (n - (i + 1)) (i + 1))))) (let e : suc i ≡ i + 1 = omega arith in e)

    -- all lines: those ahead, the base's own, and what follows
    whole_is : (w.sofar ++ own) ++ more_of reply later ≡ whole
    whole_is =
        append_assoc w.sofar own (more_of reply later)
        ∙ ap (λ (ls : List (List ℕ)). w.sofar ++ ls) (sym (lines_next ∙ reply_lines_lem s r.from ns i (base_in b i) reply later hits))
        ∙ w.rest

    laid_next : Lays old 0 (w.sofar ++ own) x.lines out'
    laid_next = lays_append own w.laid h.lays

    answer_is : x.answer ≡ answer_of reply
    answer_is = h.gives.settles.answer

    -- the listing stops: a line doesn't fit, or the run has ended
    pub telling_done : step_of x.answer x.lines ≡ None → Lays old 0 whole x.lines out'
    telling_done e = go x.lines laid_next (ap (λ (a : Answer). step_of a x.lines) (sym answer_is) ∙ e)
      where
        by_reply : (t : Reply) (p : ℕ) (ls : List (List ℕ)) → step_of (answer_of t) (Ok p) ≡ None → more_of t ls ≡ []
        by_reply (found hs o) p ls k = let z : ◌≡◌ {A = ℕ} 0 1 = cc in absurd (omega arith)
        by_reply (refused y) p ls k = let z : ◌≡◌ {A = ℕ} 0 1 = cc in absurd (omega arith)
        by_reply (ended y) p ls k = refl

        go : (v : Result ℕ Cut) → Lays old 0 (w.sofar ++ own) v out' → step_of (answer_of reply) v ≡ None → Lays old 0 whole v out'
        go (Err c) y k = subst (λ (ls : List (List ℕ)). Lays old 0 ls (Err c) out') whole_is (lays_part (more_of reply later) y)
        go (Ok p) y k = subst (λ (ls : List (List ℕ)). Lays old 0 ls (Ok p) out') (sym (append-nil (w.sofar ++ own)) ∙ ap (λ (ls : List (List ℕ)). (w.sofar ++ own) ++ ls) (sym (by_reply reply p later k)) ∙ whole_is) y

    -- it goes on at the next base
    pub telling_on : {p : ℕ} → step_of x.answer x.lines ≡ Some p → length l'.answers ≡ length l.answers → Telling ns lengths b s n whole old (i + 1) p x.run l' out'
    telling_on {p} e kept = record {
      inside = omega arith;
      comes = comes_next s lengths r (base_in b i) l (record { run = x.run; answer = x.answer }) l' h.gives w.comes;
      answers = kept ∙ w.answers;
      sofar = w.sofar ++ own;
      rest = ap (λ (ls : List (List ℕ)). (w.sofar ++ own) ++ ls) (sym (goes_on reply x.lines later step)) ∙ whole_is;
      laid = subst (λ (v : Result ℕ Cut). Lays old 0 (w.sofar ++ own) v out') (all_stand (answer_of reply) x.lines step) laid_next;
    }
      where
        step : step_of (answer_of reply) x.lines ≡ Some p
        step = ap (λ (a : Answer). step_of a x.lines) (sym answer_is) ∙ e

        goes_on : (t : Reply) (v : Result ℕ Cut) (ls : List (List ℕ)) → step_of (answer_of t) v ≡ Some p → more_of t ls ≡ ls
        goes_on (found hs o) v ls k = refl
        goes_on (refused y) v ls k = refl
        goes_on (ended y) (Ok q) ls k = let z : ◌≡◌ {A = ℕ} 0 1 = cc in absurd (omega arith)
        goes_on (ended y) (Err c) ls k = let z : ◌≡◌ {A = ℕ} 0 1 = cc in absurd (omega arith)

        all_stand : (a : Answer) (v : Result ℕ Cut) → step_of a v ≡ Some p → v ≡ Ok p
        all_stand (answer.Found m o) (Ok q) k = cc
        all_stand (answer.Refused y) (Ok q) k = cc
        all_stand (answer.Ended y) (Ok q) k = let z : ◌≡◌ {A = ℕ} 0 1 = cc in absurd (omega arith)
        all_stand a (Err c) k = let z : ◌≡◌ {A = ℕ} 0 1 = cc in absurd (omega arith)

-- all that is lent keeps its length
pub record Lengths (l : Lent) (out : List ℕ) (l' : Lent) (out' : List ℕ) : Type 0 where
  pub queue : length l'.cells ≡ length l.cells
  pub answers : length l'.answers ≡ length l.answers
  pub buffer : length out' ≡ length out

-- Any two results of a call for many bases agree.
use mathlib.Core.Path.{◌≡◌, refl, sym, ap, subst, ◌∙◌}
use mathlib.Core.Bool.{Bool, true, false}
use mathlib.Core.List.{List, ◌++◌}
use Prim.Native.Nat.{ℕ, ◌≤◌, ◌<◌}
use native.Mathlib.Omega.{arith}
use lib.Dec.{eqb, leb, ltb}
use lib.ListN.{length, set, drop, take, take-append-drop, length-drop}
use borrow.Author.Tests.{leb-true, leb-false, ltb-true, ltb-false, eqb-true, eqb-false}
use Rattle.rules.specs.declared.Base.{Base}
use Rattle.rules.specs.Offered.{Offer}
use Rattle.std.specs.Prelude.{Option, Some}
use Rattle.rules.specs.declared.Answer.{Answer}
use Rattle.rules.specs.declared.Answer.TheVariants as answer
use Rattle.rules.specs.Call as rules
use Rattle.rules.specs.Call.{Reply, answer_of, column, give}
use Rattle.heads.specs.View.{Cols}
use Rattle.heads.specs.Move.{Shaped}
use Rattle.queue.specs.Ring.{Cells}
use Rattle.queue.specs.Deeds.{answer_row}
use Rattle.admit.specs.Gates.{lengths_of}
use Rattle.pulls.specs.Pulls.{Lent, lent}
use Rattle.runs.specs.declared.Run.{Run}
use Rattle.runs.specs.declared.Given.{Given}
use Rattle.runs.specs.View.{heads_of, run_of}
use Rattle.runs.specs.Comes.{right_of, given_of}
use Rattle.step.specs.Give.{Gives}
use Rattle.demands.specs.Calls.{Blameless}
use Rattle.demands.proofs.RunAnswers.{fits_so}
use Rattle.demands.proofs.ComesBack.{comes_back, found_right}
use Rattle.many.specs.declared.Passed.{Passed}
use Rattle.many.specs.Many as many
use Rattle.many.specs.Many.{base_at, behind, Stays, Passes, Unfound, Ends, all, short, other, Even, Answers, GivesAll}
use Rattle.many.specs.Alike.{AllAlike}
use Rattle.many.proofs.Passing.{found_reply}

module _ (s : Cols) (lengths : List ℕ) where
  -- ---- two states that every base is answered alike in

  record Twins (r : Run) (c : Cells) (v : Run) (d : Cells) : Type 0 where
    seen : run_of s c r ≡ run_of s d v
    room : r.settings.room ≡ v.settings.room
    right : (rows : List (List ℕ)) → right_of s lengths r (lent c rows) ≡ right_of s lengths v (lent d rows)

  same_given : {r v : Run} {c d : Cells} → Twins r c v d → (b : Base) (rows : List (List ℕ)) → given_of s lengths r b (lent c rows) ≡ given_of s lengths v b (lent d rows)
  same_given {r} {v} {c} {d} w b rows =
      ap (λ (n : ℕ). give (lengths_of lengths) n (record { right = right_of s lengths r (lent c rows); rows = length rows }) (run_of s c r) b) w.room
      ∙ ap (λ (u : Bool). give (lengths_of lengths) v.settings.room (record { right = u; rows = length rows }) (run_of s c r) b) (w.right rows)
      ∙ ap (λ (x : rules.Run). give (lengths_of lengths) v.settings.room (record { right = right_of s lengths v (lent d rows); rows = length rows }) x b) w.seen

  -- what comes of one base in both
  record Step (g : Given) (l : Lent) (k : Given) (m : Lent) : Type 0 where
    answer : g.answer ≡ k.answer
    answers : l.answers ≡ m.answers
    seen : run_of s l.cells g.run ≡ run_of s m.cells k.run
    room : g.run.settings.room ≡ k.run.settings.room

  step : {r v : Run} {c d : Cells} {b e : Base} {rows olds : List (List ℕ)} {g k : Given} {l m : Lent} → Twins r c v d → b ≡ e → rows ≡ olds → Gives s lengths r b (lent c rows) g l → Gives s lengths v e (lent d olds) k m → Step g l k m
  step {r} {v} {c} {d} {b} {e} {rows} {olds} w i j x y =
      let is : given_of s lengths r b (lent c rows) ≡ given_of s lengths v e (lent d olds) =
      same_given w b rows ∙ ap (λ (z : Base). given_of s lengths v z (lent d rows)) i ∙ ap (λ (z : List (List ℕ)). given_of s lengths v e (lent d z)) j in
      record {
        answer = x.settles.answer ∙ ap (λ (z : rules.Given). answer_of z.reply) is ∙ sym y.settles.answer;
        answers = x.settles.answers ∙ ap (λ (z : rules.Given). column answer_row z.reply rows) is ∙ ap (column answer_row (given_of s lengths v e (lent d olds)).reply) j ∙ sym y.settles.answers;
        seen = x.settles.run ∙ ap (λ (z : rules.Given). z.run) is ∙ sym y.settles.run;
        room = x.settles.room ∙ w.room ∙ sym y.settles.room;
      }

  -- of a run that is not the cause of 1, the test asks for the answer rows alone
  rows_right : (r : Run) (c : Cells) → Blameless s lengths r c → (rows : List (List ℕ)) → right_of s lengths r (lent c rows) ≡ leb r.settings.room (length rows)
  rows_right r c ok rows = go (leb r.settings.room (length rows)) refl (right_of s lengths r (lent c rows)) refl
    where
      go : (u : Bool) → leb r.settings.room (length rows) ≡ u → (v : Bool) → right_of s lengths r (lent c rows) ≡ v → right_of s lengths r (lent c rows) ≡ u
      go true e v f = ok rows (leb-true r.settings.room (length rows) e)
      go false e false f = f
      go false e true f = absurd (omega (arith, leb-false r.settings.room (length rows) e, (fits_so s lengths r (lent c rows) f).answer))

  twins : (r v : Run) (c d : Cells) → Blameless s lengths r c → Blameless s lengths v d → run_of s c r ≡ run_of s d v → r.settings.room ≡ v.settings.room → Twins r c v d
  twins r v c d ok fine i j = record { seen = i; room = j; right = λ rows. rows_right r c ok rows ∙ ap (λ (n : ℕ). leb n (length rows)) j ∙ sym (rows_right v d fine rows) }

  -- ---- the answered bases

  module _ (t : Cols) (r : Run) (l : Lent) (ns : List ℕ) (shaped : Shaped (heads_of r)) where
    record Met (u : ℕ) (p : Offer) (v : Run) (m : Lent) (ms : List ℕ) (u₂ : ℕ) (p₂ : Offer) (v₂ : Run) (m₂ : Lent) (ms₂ : List ℕ) : Type 0 where
      free : u ≡ u₂
      offer : p ≡ p₂
      counts : ms ≡ ms₂
      answers : m.answers ≡ m₂.answers
      both : Twins v m.cells v₂ m₂.cells
      shape : Shaped (heads_of v)
      shape₂ : Shaped (heads_of v₂)

    -- rows that begin and go on alike
    same_rows : {a e : List (List ℕ)} (u : ℕ) → take u a ≡ take u e → drop u a ≡ drop u e → a ≡ e
    same_rows {a} {e} u i j = sym (take-append-drop u a) ∙ ap (λ (x : List (List ℕ)). x ++ drop u a) i ∙ ap (λ (x : List (List ℕ)). take u e ++ x) j ∙ take-append-drop u e

    met : {k u : ℕ} {p : Offer} {v : Run} {m : Lent} {ms : List ℕ} {k₂ u₂ : ℕ} {p₂ : Offer} {v₂ : Run} {m₂ : Lent} {ms₂ : List ℕ}
        → Passes s lengths t r l ns k u p v m ms → Passes s lengths t r l ns k₂ u₂ p₂ v₂ m₂ ms₂ → k ≡ k₂ → Met u p v m ms u₂ p₂ v₂ m₂ ms₂
    met many.none many.none e = record { free = refl; offer = refl; counts = refl; answers = refl; both = record { seen = refl; room = refl; right = λ rows. refl }; shape = shaped; shape₂ = shaped }
    met many.none (many.one i o w n q g z) e = absurd (omega (arith, e))
    met (many.one i o w n q g z) many.none e = absurd (omega (arith, e))
    met (many.one {k} {u} {p} {r₁} {l₁} {ns₁} i o w n q g z) (many.one {k = k₂} {u = u₂} {r₁ = r₂} {l₁ = l₂} {ns₁ = ns₂} i₂ o₂ w₂ n₂ q₂ g₂ z₂) e =
        let ks : k ≡ k₂ = omega (arith, e) in
        let y = met q q₂ ks in
        let b : base_at t k ≡ base_at t k₂ = ap (base_at t) ks in
        let rows : drop u l₁.answers ≡ drop u₂ l₂.answers = ap (λ (x : ℕ). drop x l₁.answers) y.free ∙ ap (drop u₂) y.answers in
        let x = step y.both b rows g g₂ in
        let is : answer.Found i o ≡ answer.Found i₂ o₂ = x.answer in
        let is-count : i ≡ i₂ = cc in
        let is-offer : o ≡ o₂ = cc in
        let found = (found_reply (given_of s lengths r₁ (base_at t k) (behind u l₁)).reply i o g.settles.answer).0 in
        let found₂ = (found_reply (given_of s lengths r₂ (base_at t k₂) (behind u₂ l₂)).reply i₂ o₂ g₂.settles.answer).0 in
        let back = comes_back s lengths r₁ (base_at t k) (behind u l₁) (record { run = w; answer = answer.Found i o }) (behind u n) g (found_right s lengths r₁ (base_at t k) (behind u l₁) found) y.shape found in
        let back₂ = comes_back s lengths r₂ (base_at t k₂) (behind u₂ l₂) (record { run = w₂; answer = answer.Found i₂ o₂ }) (behind u₂ n₂) g₂ (found_right s lengths r₂ (base_at t k₂) (behind u₂ l₂) found₂) y.shape₂ found₂ in
        let front : take u n.answers ≡ take u n₂.answers = z ∙ ap (take u) y.answers ∙ ap (λ (x : ℕ). take x l₂.answers) y.free ∙ sym z₂ ∙ ap (λ (x : ℕ). take x n₂.answers) (sym y.free) in
        let behind-it : drop u n.answers ≡ drop u n₂.answers = x.answers ∙ ap (λ (x : ℕ). drop x n₂.answers) (sym y.free) in
        record {
          free = omega (arith, y.free, is-count);
          offer = is-offer;
          counts = ap (λ (x : List ℕ). set x k i) y.counts ∙ ap (λ (x : ℕ). set ns₂ x i) ks ∙ ap (set ns₂ k₂) is-count;
          answers = same_rows u front behind-it;
          both = twins w w₂ n.cells n₂.cells back.0 back₂.0 x.seen x.room;
          shape = back.1;
          shape₂ = back₂.1;
        }

    -- ---- how many

    -- an answered base, and those ahead of it
    record Ahead (k : ℕ) : Type 0 where
      u : ℕ
      p : Offer
      v : Run
      m : Lent
      ms : List ℕ
      passes : Passes s lengths t r l ns k u p v m ms
      i : ℕ
      o : Offer
      w : Run
      n : Lent
      gives : Gives s lengths v (base_at t k) (behind u m) (record { run = w; answer = answer.Found i o }) (behind u n)

    ahead_of : {k k₂ u : ℕ} {p : Offer} {v : Run} {m : Lent} {ms : List ℕ} → Passes s lengths t r l ns k₂ u p v m ms → k < k₂ → Ahead k
    ahead_of many.none h = absurd (omega (arith, h))
    ahead_of {k = k} (many.one {k = j} i o w n q g z) h = go (eqb k j) refl (λ h'. ahead_of {k = k} q h')
      where
        here : Ahead j
        here = record { u = _; p = _; v = _; m = _; ms = _; passes = q; i = i; o = o; w = w; n = n; gives = g }

        go : (c : Bool) → eqb k j ≡ c → (k < j → Ahead k) → Ahead k
        go true e more = subst Ahead (sym (eqb-true k j e)) here
        go false e more = more (omega (arith, h, eqb-false k j e))

    -- a base that is answered by one is not where the other stops
    stops_here : {k u : ℕ} {p : Offer} {v : Run} {m : Lent} {ms : List ℕ} {a : Option Answer} {w : Run} {l' : Lent} → Passes s lengths t r l ns k u p v m ms → Ends s lengths t k u v m a w l' → Ahead k → k < length t.chrom → ⊥
    stops_here q (all e) y h = absurd (omega (arith, e, h))
    stops_here {k} {u} {v = v} {m = m} q (short b z f) y h =
        let x = met q y.passes refl in
        let found = (found_reply (given_of s lengths y.v (base_at t k) (behind y.u y.m)).reply y.i y.o y.gives.settles.answer).0 in
        let enough = fits_so s lengths y.v (behind y.u y.m) (found_right s lengths y.v (base_at t k) (behind y.u y.m) found) in
        omega (arith, f, enough.answer, enough.fair.sound.inside, x.free, x.both.room, ap length x.answers, length-drop y.u y.m.answers)
    stops_here {k} {u} {v = v} {m = m} q (other a w l' b z n g st) y h =
        let x = met q y.passes refl in
        let is : a ≡ answer.Found y.i y.o = (step x.both refl (ap (λ (i : ℕ). drop i m.answers) x.free ∙ ap (drop y.u) x.answers) g y.gives).answer in
        subst Unfound is n

    most : {k u : ℕ} {v : Run} {m : Lent} {a : Option Answer} {w : Run} {l' : Lent} → Ends s lengths t k u v m a w l' → k ≤ length t.chrom
    most (all e) = omega (arith, e)
    most (short b z f) = omega (arith, b)
    most (other a w l' b z x g st) = omega (arith, b)

    no_more : {k u : ℕ} {p : Offer} {v : Run} {m : Lent} {ms : List ℕ} {a : Option Answer} {w : Run} {l' : Lent} {k₂ u₂ : ℕ} {p₂ : Offer} {v₂ : Run} {m₂ : Lent} {ms₂ : List ℕ}
        → Passes s lengths t r l ns k u p v m ms → Ends s lengths t k u v m a w l' → Passes s lengths t r l ns k₂ u₂ p₂ v₂ m₂ ms₂ → k₂ ≤ length t.chrom → k < k₂ → ⊥
    no_more q e q₂ h i = stops_here q e (ahead_of q₂ i) (omega (arith, h, i))

    same_bases : (x y : ℕ) → (x < y → ⊥) → (y < x → ⊥) → x ≡ y
    same_bases x y f g = go (ltb x y) refl (ltb y x) refl
      where
        go : (c : Bool) → ltb x y ≡ c → (d : Bool) → ltb y x ≡ d → x ≡ y
        go true e d i = absurd (f (ltb-true x y e))
        go false e true i = absurd (g (ltb-true y x i))
        go false e false i = omega (arith, ltb-false x y e, ltb-false y x i)

    -- ---- how it ended

    record Done (a : Option Answer) (w : Run) (l' : Lent) (a₂ : Option Answer) (w₂ : Run) (l₂ : Lent) : Type 0 where
      last : a ≡ a₂
      answers : l'.answers ≡ l₂.answers
      seen : run_of s l'.cells w ≡ run_of s l₂.cells w₂
      room : w.settings.room ≡ w₂.settings.room

    done : {k u : ℕ} {p : Offer} {v : Run} {m : Lent} {ms : List ℕ} {a : Option Answer} {w : Run} {l' : Lent} {k₂ u₂ : ℕ} {p₂ : Offer} {v₂ : Run} {m₂ : Lent} {ms₂ : List ℕ} {a₂ : Option Answer} {w₂ : Run} {l₂ : Lent}
        → Met u p v m ms u₂ p₂ v₂ m₂ ms₂ → k ≡ k₂ → Ends s lengths t k u v m a w l' → Ends s lengths t k₂ u₂ v₂ m₂ a₂ w₂ l₂ → Done a w l' a₂ w₂ l₂
    done x e (all f) (all g) = record { last = refl; answers = x.answers; seen = x.both.seen; room = x.both.room }
    done x e (all f) (short b z g) = absurd (omega (arith, e, f, b))
    done x e (all f) (other a w l' b z n g st) = absurd (omega (arith, e, f, b))
    done x e (short b z f) (all g) = absurd (omega (arith, e, g, b))
    done x e (short b z f) (short b₂ z₂ g) = record { last = refl; answers = x.answers; seen = x.both.seen; room = x.both.room }
    done x e (short b z f) (other a w l' b₂ z₂ n g st) = absurd (omega (arith, f, z₂ (omega (arith, e, z)), x.free, x.both.room, ap length x.answers))
    done x e (other a w l' b z n g st) (all f) = absurd (omega (arith, e, f, b))
    done x e (other a w l' b z n g st) (short b₂ z₂ f) = absurd (omega (arith, f, z (omega (arith, e, z₂)), x.free, x.both.room, ap length x.answers))
    done {u = u} {m = m} {u₂ = u₂} {m₂ = m₂} x e (other a w l' b z n g st) (other a₂ w₂ l₂ b₂ z₂ n₂ g₂ st₂) =
        let y = step x.both (ap (base_at t) e) (ap (λ (i : ℕ). drop i m.answers) x.free ∙ ap (drop u₂) x.answers) g g₂ in
        let front : take u l'.answers ≡ take u l₂.answers = st ∙ ap (take u) x.answers ∙ ap (λ (i : ℕ). take i m₂.answers) x.free ∙ sym st₂ ∙ ap (λ (i : ℕ). take i l₂.answers) (sym x.free) in
        let behind-it : drop u l'.answers ≡ drop u l₂.answers = y.answers ∙ ap (λ (i : ℕ). drop i l₂.answers) (sym x.free) in
        record { last = ap Some y.answer; answers = same_rows u front behind-it; seen = y.seen; room = y.room }

    even_alike : {p q : Passed} {l' m' : Lent} {ns' ms' : List ℕ} → Answers s lengths t r l ns p l' ns' → Answers s lengths t r l ns q m' ms' → AllAlike s p l' ns' q m' ms'
    even_alike {p} {q} x y =
        let n : p.bases ≡ q.bases = same_bases p.bases q.bases (no_more x.passes x.ends y.passes (most y.ends)) (no_more y.passes y.ends x.passes (most x.ends)) in
        let a = met x.passes y.passes n in
        let e = done a n x.ends y.ends in
        record { bases = n; records = a.free; offer = a.offer; last = e.last; counts = a.counts; answers = e.answers; run = e.seen; room = e.room }

  -- "any two results allowed by a statement are equal", but for what docs/EXCEPTIONS.md names
  pub all_alike : (t : Cols) (r : Run) (l : Lent) (ns : List ℕ) → Shaped (heads_of r) → (even : Even t ns) {p q : Passed} {l' m' : Lent} {ns' ms' : List ℕ}
      → GivesAll s lengths t r l ns p l' ns' → GivesAll s lengths t r l ns q m' ms' → AllAlike s p l' ns' q m' ms'
  all_alike t r l ns shaped even x y = even_alike t r l ns shaped (x.even even) (y.even even)

  -- bases in columns that differ in length: nothing is left open
  pub uneven_alike : {t : Cols} {r : Run} {l : Lent} {ns : List ℕ} {p q : Passed} {l' m' : Lent} {ns' ms' : List ℕ} → (Even t ns → ⊥)
      → GivesAll s lengths t r l ns p l' ns' → GivesAll s lengths t r l ns q m' ms' → (p ≡ q) × ((l' ≡ m') × (ns' ≡ ms'))
  uneven_alike d x y = (
    (x.uneven d).passed ∙ sym (y.uneven d).passed,
    ((x.uneven d).lent ∙ sym (y.uneven d).lent, (x.uneven d).counts ∙ sym (y.uneven d).counts),
  )

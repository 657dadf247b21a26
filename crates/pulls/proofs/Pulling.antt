-- The loop of `draw`, from what `decide`, `keep` and `report` say.
use mathlib.Core.Path.{◌≡◌, refl, sym, ap, subst, ◌∙◌}
use mathlib.Core.List.{List}
use Prim.Native.Nat.{ℕ, ◌<◌}
use native.Mathlib.Omega.{arith}
use Rattle.basics.specs.Lists.{total}
use Rattle.rules.specs.declared.Base.{Base}
use Rattle.rules.specs.declared.End.{End}
use Rattle.rules.specs.declared.End.TheVariants.{NoRoom}
use Rattle.rules.specs.declared.Answer.{Answer}
use Rattle.rules.specs.declared.Answer.TheVariants as answer
use Rattle.least.specs.declared.Best.{Best}
use Rattle.heads.specs.declared.Taken.{Taken}
use Rattle.heads.specs.declared.Next.{Next}
use Rattle.std.specs.Prelude.{Result, Ok, Err}
use Rattle.std.specs.Prelude as std
use Rattle.heads.specs.declared.Move.{Move}
use Rattle.heads.specs.declared.Move.TheVariants as move
use Rattle.heads.specs.View.{Cols, Heads, rests_of}
use Rattle.heads.specs.Move.{turn_of, turn_at, moved}
use Rattle.heads.specs.Load.{RangesStay}
use Rattle.heads.proofs.LoadLaws.{turn_stays, stays_on}
use Rattle.heads.proofs.RestLaws.{on_move, queued}
use Rattle.heads.proofs.TurnLaws.{Takes, takes_so}
use Rattle.queue.specs.declared.Ring.{Ring}
use Rattle.queue.specs.Ring.{Cells, waiting}
use Rattle.offers.specs.Offers.{Reports}
use Rattle.pulls.specs.Pulls.{Lent, lent, Drawable, KeptAs, FullAs, DrawsAs}
use Rattle.pulls.proofs.Drawing.{Drawing, starts, on_move_lem, queued_full, steps, ends_so, stays_so}

-- h, q and l: the heads, the ring and what was lent at the start; n: the number of chromosomes
module _ (s : Cols) (n : ℕ) (h : Heads) (b : Base) (q : Ring) (l : Lent) where
  -- u, w and m: the heads, the ring and what is lent at a turn
  pub record Pulling (u : Heads) (w : Ring) (m : Lent) : Type 0 where
    pub asked : Drawable s h b q l
    pub drawing : Drawing s n h b q l u w m.cells
    pub answers : m.answers ≡ l.answers
    pub ranges : RangesStay h u

  pub pulling : Drawable s h b q l → Pulling h q l
  pulling d = record { asked = d; drawing = starts s n h b q l d; answers = refl; ranges = record { streams = refl; from = refl; to = refl } }

  -- each turn leaves fewer rows
  abbrev pub rows_left : Heads → ℕ
  rows_left u = total (rests_of s u)

  module _ (u : Heads) (w : Ring) (m : Lent) (k : Pulling u w m) where
    -- what `decide` answered
    module _ (t : Result Move End) (is : t ≡ turn_of s n b u) where
      pub stay_out : (x : std.Option Best) → t ≡ Ok (move.Stay x) → (a : Answer) (r : List (List ℕ)) → Reports w m.cells x b m.answers a r → DrawsAs s n h b q l (record { ring = w; answer = a }) u (lent m.cells r)
      stay_out x e a r j = stays_so s n h b q l u w m.cells k.drawing k.asked t is x e a r (rw k.answers at j)

      pub wrong_out : (e : End) → t ≡ Err e → DrawsAs s n h b q l (record { ring = w; answer = answer.Ended e }) u m
      wrong_out e i =
          ends_so s n h b q l u w m.cells k.drawing e m.cells m.answers k.drawing.kept
          (sym k.drawing.pulls ∙ on_move_lem s n h b q l u w m.cells k.drawing t is ∙ ap (on_move s u n b NoRoom q.room (waiting w m.cells)) i) k.answers

      -- a head was taken
      module _ (a : Taken) (y : std.Option Next) (e : t ≡ Ok (move.Takes a y)) where
        on : on_move s u n b NoRoom q.room (waiting w m.cells) t ≡ queued n b NoRoom q.room (waiting w m.cells) a (rests_of s (turn_at u a.stream.0 y))
        on = ap (on_move s u n b NoRoom q.room (waiting w m.cells)) e

        took : Takes s b u a (turn_at u a.stream.0 y)
        took = takes_so s u k.drawing.turning n b t is a y e

        pub takes_full : {u' : Heads} (c' : Cells) → FullAs w m.cells a c' → DrawsAs s n h b q l (record { ring = w; answer = answer.Ended NoRoom }) u' (lent c' m.answers)
        takes_full c' f = rw f.same
            (ends_so s n h b q l u w m.cells k.drawing NoRoom m.cells m.answers k.drawing.kept
            (sym k.drawing.pulls ∙ on_move_lem s n h b q l u w m.cells k.drawing t is ∙ on ∙ queued_full s n h b q l u w m.cells k.drawing a c' f (rests_of s (turn_at u a.stream.0 y))) k.answers)

        pub takes_place : (i : ℕ) → i ≡ a.stream.0 → i < 8
        takes_place i z = omega (arith, took.place)

        -- g: the heads that went on in place
        module _ (i : ℕ) (z : i ≡ a.stream.0) (g : Heads) (gone : g ≡ turn_at u i y) where
          there : turn_at u a.stream.0 y ≡ g
          there = ap (λ (j : ℕ). turn_at u j y) (sym z) ∙ sym gone

          pub takes_stay : RangesStay h g
          takes_stay = subst (λ (x : Heads). RangesStay h x) there (stays_on k.ranges (turn_stays u a.stream.0 y))

          pub takes_less : total (rests_of s g) < rows_left u
          takes_less = subst (λ (x : Heads). total (rests_of s x) < rows_left u) there (omega (arith, took.less))

          pub takes_again : (w' : Ring) (c' : Cells) → KeptAs w m.cells a w' c' → Pulling g w' (lent c' m.answers)
          takes_again w' c' x = subst (λ (v : Heads). Pulling v w' (lent c' m.answers)) there (record {
            asked = k.asked;
            drawing = steps s n h b q l u w m.cells k.drawing t is a (turn_at u a.stream.0 y) took (ap (moved u) e) on w' c' x;
            answers = k.answers;
            ranges = stays_on k.ranges (turn_stays u a.stream.0 y);
          })

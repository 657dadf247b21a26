-- Loading and every turn of a pull leave the heads in place, and of the streams that they were of.
use mathlib.Core.Path.{◌≡◌, refl, ◌∙◌}
use Prim.Native.Nat.{ℕ, zero, suc}
use native.Mathlib.Omega.{arith}
use Rattle.basics.specs.Lists.{total}
use Rattle.rules.specs.declared.Base.{Base}
use Rattle.rules.specs.declared.Stage.{Stage}
use Rattle.rules.specs.declared.Stage.TheVariants.{Fresh, After, Over}
use Rattle.heads.specs.declared.Move.{Move}
use Rattle.heads.specs.declared.Move.TheVariants as move
use Rattle.std.specs.Prelude.{Result, Ok, Err, Some, None}
use Rattle.rules.specs.declared.End.{End}
use Rattle.heads.specs.View.{Cols, Heads, rests_of}
use Rattle.heads.specs.Move.{moved, turn_of}
use Rattle.heads.proofs.RestLaws.{moved_placed, moved_shaped}
use Rattle.heads.proofs.TurnLaws.{Turning}
use Rattle.heads.proofs.LoadLaws.{upto}
use Rattle.pulls.specs.Pulls.{after_turns, drawn_to}
use Rattle.step.specs.Give.{opened_by}

-- the heads g are in place, and of the streams of h
pub record Ranged (s : Cols) (h g : Heads) : Type 0 where
  pub turning : Turning s g
  pub streams : g.streams ≡ h.streams
  pub from : g.from ≡ h.from
  pub to : g.to ≡ h.to

module _ (s : Cols) where
  ranged_same : (h : Heads) → Turning s h → Ranged s h h
  ranged_same h w = record { turning = w; streams = refl; from = refl; to = refl }

  ranged_trans : {h g f : Heads} → Ranged s h g → Ranged s g f → Ranged s h f
  ranged_trans a b = record { turning = b.turning; streams = b.streams ∙ a.streams; from = b.from ∙ a.from; to = b.to ∙ a.to }

  opened_ranged : (t : Stage) (h : Heads) → Turning s h → Ranged s h (opened_by t s h)
  opened_ranged Fresh h w =
      let u = upto s h w.shaped w.placed h.streams (omega arith) in
      record { turning = record { placed = u.placed; shaped = u.shaped }; streams = u.streams; from = u.from; to = u.to }
  opened_ranged (After p) h w = ranged_same h w
  opened_ranged (Over e) h w = ranged_same h w

  module _ (n : ℕ) (b : Base) where
    moved_ranged : (h : Heads) → Turning s h → Ranged s h (moved h (turn_of s n b h))
    moved_ranged h w =
        by_move (turn_of s n b h)
        (record { placed = moved_placed s h w.shaped w.placed.few n b w.placed; shaped = moved_shaped h (turn_of s n b h) w.shaped })
      where
        by_move : (m : Result Move End) → Turning s (moved h m) → Ranged s h (moved h m)
        by_move (Ok (move.Stay x)) v = ranged_same h v
        by_move (Err e) v = ranged_same h v
        by_move (Ok (move.Takes t None)) v = record { turning = v; streams = refl; from = refl; to = refl }
        by_move (Ok (move.Takes t (Some x))) v = record { turning = v; streams = refl; from = refl; to = refl }

    turns_ranged : (k : ℕ) (h : Heads) → Turning s h → Ranged s h (after_turns s n b k h)
    unfolding after_turns
    turns_ranged zero h w = ranged_same h w
    turns_ranged (suc k) h w =
        let m : Ranged s h (moved h (turn_of s n b h)) = moved_ranged h w in
        ranged_trans m (turns_ranged k (moved h (turn_of s n b h)) m.turning)

    -- the heads after a pull, from those of a run by how it stands
    pub drawn_ranged : (t : Stage) (h : Heads) → Turning s h → Ranged s h (drawn_to s n b (opened_by t s h))
    drawn_ranged t h w =
        let o : Ranged s h (opened_by t s h) = opened_ranged t h w in
        ranged_trans o (turns_ranged (total (rests_of s (opened_by t s h))) (opened_by t s h) o.turning)

-- Clearing, and then a pull.
use mathlib.Core.Path.{◌≡◌, refl, subst, ap, ◌∙◌}
use Prim.Native.Nat.{ℕ}
use native.Mathlib.Omega.{arith}
use lib.ListN.{length}
use Rattle.basics.specs.Lists.{filter}
use Rattle.rules.specs.declared.Base.{Base}
use Rattle.rules.specs.declared.End.{End}
use Rattle.rules.specs.declared.End.TheVariants.{NoRoom}
use Rattle.rules.specs.Rows.{Record}
use Rattle.rules.specs.Streams.{ahead, next}
use Rattle.rules.specs.Overlap.{taken, live}
use Rattle.rules.specs.Pull.{Pull, paused, ends, pull}
use Rattle.rules.specs.Call.{after_pull, pulling}
use Rattle.heads.specs.View.{Cols, Heads, rests_of}
use Rattle.queue.specs.declared.Ring.{Ring}
use Rattle.queue.specs.Ring.{Cells, waiting}
use Rattle.queue.specs.Deeds.{Clears}
use Rattle.queue.proofs.Calls.{cleared_live}
use Rattle.pulls.specs.declared.Answered.{Answered}
use Rattle.pulls.specs.Pulls.{Lent, lent, stands_at, SettlesIn, pull_of, Drawable, DrawsAs, Settleable, SettlesAs}
use Rattle.pulls.proofs.Drawing.{fair_kept}

module _ (s : Cols) (n : ℕ) (h : Heads) (b : Base) (q : Ring) (l : Lent) (z : Settleable s h q l) (w : Ring) (c : Cells) (k : Clears q l.cells b w c) where
  pub drawable : Drawable s h b w (lent c l.answers)
  drawable = record {
    shaped = z.shaped;
    placed = z.placed;
    fair = k.fair;
    chrom = k.chrom;
    cleared = cleared_live b k;
    answers = omega (arith, z.answers, k.room);
  }

  -- what waits is what was live
  pulls_so : after_pull (length l.answers) (stands_at s h w c b) b (pull_of s n h b w c) ≡ pulling n q.room (length l.answers) (stands_at s h q l.cells b) b
  pulls_so = go (pull_of s n h b w c) ∙ ap (after_pull (length l.answers) (stands_at s h q l.cells b) b) same
    where
      same : pull_of s n h b w c ≡ pull ahead (next n) NoRoom (taken b) (live b) q.room (rests_of s h) (filter (live b) (waiting q l.cells))
      same = rw (k.left, k.room)

      go : (p : Pull Record End) → after_pull (length l.answers) (stands_at s h w c b) b p ≡ after_pull (length l.answers) (stands_at s h q l.cells b) b p
      go (ends e) = refl
      go (paused ss v) = refl

  pub settles_so : (a : Answered) (h' : Heads) (l' : Lent) → DrawsAs s n h b w (lent c l.answers) a h' l' → SettlesAs s n h b q l a h' l'
  settles_so a h' l' d =
      let x : SettlesIn s n b h q.room (pulling n q.room (length l.answers) (stands_at s h q l.cells b) b) (lent c l.answers) a h' l' = subst (λ (m : ℕ). SettlesIn s n b h m (pulling n q.room (length l.answers) (stands_at s h q l.cells b) b) (lent c l.answers) a h' l') k.room (rw pulls_so at d) in
      record { answer = x.answer; found = x.found; kept = x.kept ∙ fair_kept z.fair k.fair k.room; answers = x.answers }

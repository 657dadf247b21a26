-- What a loop of turns cites: the heads stay in place, each turn that takes a head leaves one row less, and the last one shows the least head.
use mathlib.Core.Path.{◌≡◌, sym, subst, ◌∙◌}
use mathlib.Core.Bool.{Bool, true, false, cond}
use mathlib.Core.Option.{Option}
use mathlib.Core.List.{List, [], ◌∷◌}
use Prim.Native.Nat.{ℕ, suc, ◌+◌, ◌<◌}
use native.Mathlib.Omega.{arith}
use lib.ListN.{get_or}
use Rattle.basics.specs.Lists.{total}
use Rattle.rules.specs.declared.Base.{Base}
use Rattle.rules.specs.declared.End.{End}
use Rattle.rules.specs.Rows.{Record}
use Rattle.rules.specs.Merge.{Pick, none, one, pick}
use Rattle.rules.specs.Streams.{ahead, next}
use Rattle.rules.specs.Overlap.{taken, live}
use Rattle.heads.specs.View.{Heads}
use Rattle.least.specs.declared.Best.{Best}
use Rattle.heads.specs.declared.Taken.{Taken}
use Rattle.heads.specs.declared.Next.{Next}
use Rattle.std.specs.Prelude.{⊤, Result, Ok, Err, Some, None}
use Rattle.std.specs.Prelude as std
use Rattle.heads.specs.declared.Move.{Move}
use Rattle.heads.specs.declared.Move.TheVariants as move
use Rattle.heads.specs.View.{Cols, rests_of}
use Rattle.least.specs.Least.{head_of, best_of}
use Rattle.heads.specs.Move.{move_of, takes, taken_of, Placed, Shaped, turn_at, moved, taken_record}
use Rattle.heads.proofs.RestLaws.{Shorter, shorter, InPlace, in_place, moved_placed, moved_shaped, move_here, taken_same, stayed}

-- the heads are placed, and each array has its eight places
pub record Turning (s : Cols) (h : Heads) : Type 0 where
  pub placed : Placed s h.streams h.next h.from h.to
  pub shaped : Shaped h

-- a turn takes t and leaves the heads g
pub record Takes (s : Cols) (b : Base) (h : Heads) (t : Taken) (g : Heads) : Type 0 where
  pub place : t.stream.0 < 8
  pub turning : Turning s g
  pub less : total (rests_of s h) ≡ suc (total (rests_of s g))
  -- what is live lies on the base's chromosome
  pub lively : t.live ≡ true → live b (taken_record b t) ≡ true

module _ (s : Cols) (h : Heads) (w : Turning s h) (N : ℕ) (b : Base) where
  abbrev pub turn_here : Result Move End
  turn_here = move_here s h w.shaped w.placed.few N b

  -- a record that is taken and live is the one that was picked
  abbrev Lively : Result Move End → Type 0
  Lively (Ok (move.Stay x)) = Unit {0}
  Lively (Err e) = Unit {0}
  Lively (Ok (move.Takes t a)) = t.live ≡ true → live b (taken_record b t) ≡ true

  lively_here : Lively turn_here
  unfolding move_of
  lively_here = go (pick ahead (rests_of s h))
    where
      go : (o : Pick Record) → Lively (move_of N b h.next o)
      go none = tt
      go (one a rest ts) = case (taken b a) (next N a rest) rest
        where
          case : (t : Bool) (o : Option End) (k : List Record) → Lively (cond t (takes (taken_of b a) (get_or h.next a.stream.0 0 + 1) o k) (Ok (move.Stay (Some (head_of a)))))
          case false o k = tt
          case true (Option.some e) k = tt
          case true Option.none [] = λ e. subst (λ (r : Record). live b r ≡ true) (sym (taken_same b a e)) e
          case true Option.none (x ∷ l) = λ e. subst (λ (r : Record). live b r ≡ true) (sym (taken_same b a e)) e

  module _ (m : Result Move End) (here : m ≡ turn_here) where
    turned : Turning s (moved h m)
    turned = record { placed = rw here (moved_placed s h w.shaped w.placed.few N b w.placed); shaped = moved_shaped h m w.shaped }

    less : Shorter s h m
    less = rw here (shorter s h w.shaped w.placed.few N b)

    inside : InPlace s h w.shaped w.placed.few N b m
    inside = rw here (in_place s h w.shaped w.placed.few N b)

    lives : Lively m
    lives = rw here lively_here

    pub takes_so : (t : Taken) (a : std.Option Next) → m ≡ Ok (move.Takes t a) → Takes s b h t (turn_at h t.stream.0 a)
    takes_so t a e =
        let i : t.stream.0 < h.streams = rw e at inside in
        record { place = omega (arith, w.placed.few); turning = rw e at turned; less = rw e at less; lively = rw e at lives }

    -- where no head is taken the turn says which is the least
    pub stays_best : (x : std.Option Best) → m ≡ Ok (move.Stay x) → x ≡ best_of (pick ahead (rests_of s h))
    stays_best x e = stayed s h w.shaped w.placed.few N b x (sym here ∙ e)

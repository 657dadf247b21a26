-- `decide` meets its contract: no head, or one that stays; else the row behind it decides.
use Rattle.std.proofs.Common.{refl, sym, ◌∙◌, List, ℕ, arith}
use Rattle.rules.specs.Rows.{Record}
use Rattle.heads.specs.View.{Cols, cols_of}
use Rattle.heads.specs.Move.{behind_by}
use Rattle.heads.proofs.Fours.{turned}
use Rattle.heads.proofs.MoveLaws.{Chosen, chosen, stays_none, stays_untaken, decided_ends, decided_follows}
use Rattle.heads.proofs.Heads.decide.Goals as goal

pub returns-in_default : goal.returns-in_default
returns-in_default c =
    let h = c.args.self.now in
    let sc : Cols = cols_of c.args.s in
    let after : ℕ → List Record = behind_by sc h.next h.from h.to in
    turned sc h.fours h.ended h.next h.from h.to h.streams _ c.args.n c.args.b
    (sym (stays_none h.fours h.ended after h.streams c.requires.few c.args.n c.args.b h.next (sym c.in_default.is ∙ c.least.ensures)))

pub returns-then-not-is_taken : goal.returns-then-not-is_taken
returns-then-not-is_taken c =
    let h = c.args.self.now in
    let sc : Cols = cols_of c.args.s in
    let after : ℕ → List Record = behind_by sc h.next h.from h.to in
    let w : Chosen h.fours h.ended after h.streams c.requires.few c.in-Some.h = chosen h.fours h.ended after h.streams c.requires.few c.in-Some.h c.in-Some.ensures in
    turned sc h.fours h.ended h.next h.from h.to h.streams _ c.args.n c.args.b
    (sym (stays_untaken h.fours h.ended after h.streams c.requires.few c.args.n c.args.b h.next c.in-Some.h w (sym c.is_taken.ensures ∙ c.if-not-is_taken.true)))

pub returns-then-self-k : goal.returns-then-self-k
returns-then-self-k c =
    let h = c.args.self.now in
    let sc : Cols = cols_of c.args.s in
    let after : ℕ → List Record = behind_by sc h.next h.from h.to in
    let w : Chosen h.fours h.ended after h.streams c.requires.few c.in-Some.h = chosen h.fours h.ended after h.streams c.requires.few c.in-Some.h c.in-Some.ensures in
    turned sc h.fours h.ended h.next h.from h.to h.streams _ c.args.n c.args.b
    (decided_ends h.fours h.ended sc h.next h.from h.to h.streams c.requires.few c.args.n c.args.b c.in-Some.h w c.is_live.result c.is_live.ensures (sym c.is_taken.ensures ∙ c.if-not-is_taken.false) c.in-Some.h.stream.0 refl c.if-self-k.true)

pub follow-requires : goal.follow-requires
follow-requires c =
    let h = c.args.self.now in
    let sc : Cols = cols_of c.args.s in
    let after : ℕ → List Record = behind_by sc h.next h.from h.to in
    let w : Chosen h.fours h.ended after h.streams c.requires.few c.in-Some.h = chosen h.fours h.ended after h.streams c.requires.few c.in-Some.h c.in-Some.ensures in
    let k : ℕ = c.in-Some.h.stream.0 in
    (c.requires.low k w.inside, omega (arith, c.requires.high k w.inside, c.if-self-k.false), c.requires.starts, c.requires.stops)

pub returns : goal.returns
returns c =
    let h = c.args.self.now in
    let sc : Cols = cols_of c.args.s in
    let after : ℕ → List Record = behind_by sc h.next h.from h.to in
    let w : Chosen h.fours h.ended after h.streams c.requires.few c.in-Some.h = chosen h.fours h.ended after h.streams c.requires.few c.in-Some.h c.in-Some.ensures in
    turned sc h.fours h.ended h.next h.from h.to h.streams _ c.args.n c.args.b
    (decided_follows h.fours h.ended sc h.next h.from h.to h.streams c.requires.few c.args.n c.args.b c.in-Some.h w c.is_live.result c.is_live.ensures (sym c.is_taken.ensures ∙ c.if-not-is_taken.false) c.in-Some.h.stream.0 refl c.follow.result c.if-self-k.false c.follow.ensures)

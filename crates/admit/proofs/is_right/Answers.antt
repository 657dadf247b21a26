-- `is_right` meets its contract: 1 by its four tests.
use mathlib.Core.Path.{sym, ◌∙◌}
use Rattle.admit.proofs.RightLaws.{Measured, measured_says, right_off, right_on}
use Rattle.admit.proofs.is_right.Goals as goal

pub returns-then-not-is_measured : goal.returns-then-not-is_measured
returns-then-not-is_measured c =
    let s = c.args.streams in
    sym (right_off c.args.l s.count c.args.chroms c.args.ring s.ended.now s.row.now s.next.now s.from.now s.to.now c.args.queue.now (sym c.is_measured.ensures ∙ c.if-not-is_measured.true))

pub returns-then-not-is_placed : goal.returns-then-not-is_placed
returns-then-not-is_placed c =
    let s = c.args.streams in
    sym (right_on c.args.l s.count c.args.chroms c.args.ring s.ended.now s.row.now s.next.now s.from.now s.to.now c.args.queue.now (sym c.is_measured.ensures ∙ c.if-not-is_measured.false) _ c.is_placed.ensures ∙ rw c.if-not-is_placed.true)

pub slots_named-requires : goal.slots_named-requires
slots_named-requires c =
    let m : Measured c.args.l c.args.streams.count c.args.chroms c.args.ring = (measured_says c.args.l c.args.streams.count c.args.chroms c.args.ring).yes (sym c.is_measured.ensures ∙ c.if-not-is_measured.false) in
    (record { sound = m.sound; slots = c.requires ∙ m.slots }, m.few)

pub returns-then-heads_named : goal.returns-then-heads_named
returns-then-heads_named c =
    let s = c.args.streams in
    sym (right_on c.args.l s.count c.args.chroms c.args.ring s.ended.now s.row.now s.next.now s.from.now s.to.now c.args.queue.now (sym c.is_measured.ensures ∙ c.if-not-is_measured.false) _ c.is_placed.ensures ∙ rw (c.if-not-is_placed.false, sym c.heads_named.ensures ∙ c.if-heads_named.true) (sym c.slots_named.ensures))

pub returns-else-heads_named : goal.returns-else-heads_named
returns-else-heads_named c =
    let s = c.args.streams in
    sym (right_on c.args.l s.count c.args.chroms c.args.ring s.ended.now s.row.now s.next.now s.from.now s.to.now c.args.queue.now (sym c.is_measured.ensures ∙ c.if-not-is_measured.false) _ c.is_placed.ensures ∙ rw (c.if-not-is_placed.false, sym c.heads_named.ensures ∙ c.if-heads_named.false) (sym c.if-heads_named.false))

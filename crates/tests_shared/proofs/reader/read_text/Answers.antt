-- `tests_shared::reader::read_text` meets its contract: a read puts what the input gives behind what was read before. Assumes nothing.
use Rattle.std.proofs.Common.{◌≡◌, ℕ, ◌+◌, ◌-◌, ◌≤◌, List, ◌++◌, rules, length, take, sym, ap, ◌∙◌, subst, le_refl, drop_at, length-take-le}
use Rattle.std.proofs.lemmas.Slice.{take-put_mid_below}
use Rattle.std.specs.Io.KnownBytes.{Consumes}
use Rattle.std.proofs.KnownBytes.{Consumes-trans}
use borrow.Rule.Slice.PartMut.{put_mid, post_of}
use lib.Seq.{take-add, take-append-le}
use Rattle.tests_shared.proofs.reader.read_text.Goals as goal

-- what a read put behind the place stands there
read_part : (a k n : ℕ) (xs ys : List ℕ) → a ≤ length xs → n ≤ length ys → take a (put_mid a k xs ys) ++ take n ys ≡ take (a + n) (put_mid a k xs ys)
read_part a k n xs ys within fits =
    let after = post_of a k xs in
    let rest = drop_at (take a xs) (ys ++ after) a (length-take-le a xs within) in
    ap (λ l. take a (put_mid a k xs ys) ++ l) (sym (ap (take n) rest ∙ take-append-le n ys after fits)) ∙ sym (take-add a n (put_mid a k xs ys))

pub loop-done-preserved : goal.loop-done-preserved
loop-done-preserved g c =
    let from = c.loop-done.done in
    let room = length c.loop-done.memory - from in
    let within = c.loop-done.invariant.1 in
    let new = put_mid from room c.loop-done.memory c.read.new.buf in
    let front = take-put_mid_below _ _ _ _ _ (le_refl _) within in
    let joined = ap (λ l. l ++ take c.in_ok-n.n c.read.new.buf) (sym front) ∙ read_part from room c.in_ok-n.n c.loop-done.memory c.read.new.buf within c.in_ok-n.ensures.bound.0 in
    (search rules, search rules, subst (Consumes _ _) joined (Consumes-trans _ _ _ _ _ c.loop-done.invariant.2 c.in_ok-n.ensures.bytes.0))

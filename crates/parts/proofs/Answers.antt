-- From the answer of a call to its promise. Assumes nothing.
use Prim.Native.Nat.{ℕ, ◌≤◌}
use mathlib.Core.Path.{◌≡◌, refl, sym, ap, ◌∙◌}
use mathlib.Core.List.{List}
use mathlib.Core.Bool.{Bool, true, false, ◌&&◌}
use native.Mathlib.Omega.{arith}
use borrow.Author.Tests.{eq-eqb, leb-true}
use lib.Dec.{leb}
use lib.ListN.{length}
use Rattle.spans.specs.declared.Span.{Span}
use Rattle.fragment_rules.specs.declared.Choice.{Choice}
use Rattle.fragment_rules.specs.declared.Rule.{Rule}
use Rattle.layouts.specs.declared.Refusal.{Refusal}
use Rattle.layouts.specs.declared.Refusal.TheVariants.{Backwards, Records, Room}
use Rattle.layouts.specs.declared.Written.{Written}
use Rattle.std.specs.Prelude.{Result, Ok, Err}
use Rattle.spans.specs.Spans.{spans}
use Rattle.fragment_rules.specs.Rules.{rule_of}
use Rattle.layouts.specs.Columns.{Columns, holding}
use Rattle.layouts.specs.Layout.{layout}
use Rattle.parts.specs.Valid.{sized_of}
use Rattle.layouts.specs.Judged.{unless, wrote, judged, all_fitting}
use Rattle.parts.specs.Promise.{Parted}
use Rattle.layouts.proofs.Reading.{reads_back}

and_true : (s t : Bool) → s && t ≡ true → (s ≡ true) × (t ≡ true)
and_true true t e = (refl, e)
and_true false t e = absurd (let z : ◌≡◌ {A = ℕ} 0 1 = cc in omega arith)

-- the columns that belong together are of one length
pub sized : (starts stops : List ℕ) (c : Columns) → length starts ≡ length stops →
    length c.bstart ≡ length c.present → length c.bstop ≡ length c.present → length c.from ≡ length c.present → length c.to ≡ length c.present →
    length c.pstop ≡ length c.pstart → sized_of starts stops c ≡ true
sized starts stops c r s e f t p =
    rw (eq-eqb _ _ r, eq-eqb _ _ (sym s), eq-eqb _ _ (sym e), eq-eqb _ _ (sym f), eq-eqb _ _ (sym t), eq-eqb _ _ (sym p))

-- what is written passed the test
passed : {n m : ℕ} (t : Bool) (x : Refusal) (r : Result Written Refusal) → Ok (wrote n m) ≡ unless t x r → (t ≡ true) × (Ok (wrote n m) ≡ r)
passed true x r e = (refl, e)
passed false x r e = absurd (let z : ◌≡◌ {A = ℕ} 0 1 = cc in omega arith)

-- the counts of an answer, none at a refusal
abbrev fragments_in : Result Written Refusal → ℕ
fragments_in (Ok w) = w.fragments
fragments_in (Err x) = 0

abbrev pieces_in : Result Written Refusal → ℕ
pieces_in (Ok w) = w.pieces
pieces_in (Err x) = 0

-- what is written are the layout's counts, for which there is room
pub record Counted (n m slots room fragments pieces : ℕ) : Type 0 where
  pub fragments_are : n ≡ fragments
  pub pieces_are : m ≡ pieces
  pub slots_do : fragments ≤ slots
  pub room_does : pieces ≤ room

pub counted : (rule : Rule) (base : Span) (rs : List Span) (slots room : ℕ) {n m : ℕ} → Ok (wrote n m) ≡ judged rule base rs slots room →
    Counted n m slots room (length (layout rule base rs).bases) (length (layout rule base rs).pieces)
counted rule base rs slots room {n} {m} e =
    let k = length (layout rule base rs).bases in
    let j = length (layout rule base rs).pieces in
    let w : Result Written Refusal = Ok (wrote k j) in
    let fit = leb k slots && leb j room in
    let e1 = passed (leb base.start base.stop) Backwards (unless (all_fitting base 0 rs) Records (unless fit Room w)) e in
    let e2 = passed (all_fitting base 0 rs) Records (unless fit Room w) e1.1 in
    let e3 = passed fit Room w e2.1 in
    let q = and_true (leb k slots) (leb j room) e3.0 in
    let same : ◌≡◌ {A = Result Written Refusal} (Ok (wrote n m)) (Ok (wrote k j)) = e3.1 in
    record { fragments_are = ap fragments_in same; pieces_are = ap pieces_in same; slots_do = leb-true k slots q.0; room_does = leb-true j room q.1 }

-- what is written, at a rule that is the pair's, is what the call promises
pub written : (a b : Choice) (base : Span) (starts stops : List ℕ) (c : Columns) {rule : Rule} {r : Result Written Refusal} {w : Written} {c' : Columns} →
    sized_of starts stops c ≡ true → rule ≡ rule_of a b → r ≡ judged rule base (spans starts stops) (length c.present) (length c.pstart) → r ≡ Ok w →
    c' ≡ holding (layout rule base (spans starts stops)) c → Parted a b base starts stops c (Ok w) c'
written a b base starts stops c {w = w} {c' = c'} s p j k h =
    let l = layout (rule_of a b) base (spans starts stops) in
    let e : Ok w ≡ judged (rule_of a b) base (spans starts stops) (length c.present) (length c.pstart) = rw p at (sym k ∙ j) in
    let held : c' ≡ holding l c = rw p at h in
    let counts = counted (rule_of a b) base (spans starts stops) (length c.present) (length c.pstart) e in
    record {
      answer_is = rw s e;
      columns_are = held;
      reads_back = λ n m q.
          let same : n ≡ length l.bases = sym (ap fragments_in q) ∙ counts.fragments_are in
          rw (same, held) (reads_back a b base (spans starts stops) c);
    }

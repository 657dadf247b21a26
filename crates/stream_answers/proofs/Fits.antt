-- One stream's answer to a base never meets 13: each of its records is no span that runs backwards, overlaps the base and starts no earlier than the one
-- ahead. It holds of every job: a faulty stream's records are those ahead of its first fault.
use mathlib.Core.Path.{◌≡◌, refl, sym, ◌∙◌}
use mathlib.Core.Bool.{Bool, true, false, ◌&&◌}
use mathlib.Core.List.{List, map}
use Prim.Native.Nat.{ℕ, ◌≤◌}
use native.Mathlib.Omega.{arith}
use lib.Dec.{eqb, leb, ltb}
use lib.ListN.{length}
use borrow.Author.Tests.{le-leb, eqb-true}
use Rattle.basics.specs.Lists.{keep, filter, All, cons, Sorted}
use Rattle.basics.proofs.BoolLaws.{and_left, and_also}
use Rattle.basics.proofs.ListLaws.{all_map, all_both, all_filter, filter_passes}
use Rattle.rules.specs.declared.Base.{Base}
use Rattle.rules.specs.Rows.{Record, good}
use Rattle.rules.specs.Overlap.{meets, overlaps}
use Rattle.rules.specs.Job.{Job, merged_of}
use Rattle.theory.proofs.Modes.{Le}
use Rattle.theory.proofs.StreamLaws.{merged_sorted, merged_good}
use Rattle.fragment_rules.specs.declared.Rule.{Rule}
use Rattle.layouts.specs.declared.Refusal.TheVariants as refusal
use Rattle.std.specs.Prelude.{Ok, Err}
use Rattle.layouts.specs.Layout.{layout}
use Rattle.layouts.specs.Judged.{all_fitting, unless, wrote, judged}
use Rattle.stream_answers.specs.Answer.{base_span, record_span, stream_answer}

-- what passes a test stands in the order that it stood in
sorted_filter : {A : Type 0} {le : A → A → Type 0} (p : A → Bool) {l : List A} → Sorted le l → Sorted le (filter p l)
sorted_filter p Sorted.none = Sorted.none
sorted_filter {le = le} p (Sorted.next {x} {l} a s) = go (p x) (sorted_filter p s)
  where
    go : (c : Bool) → Sorted le (filter p l) → Sorted le (keep c x (filter p l))
    go true k = Sorted.next (all_filter p a) k
    go false k = k

-- on the base's chromosome, good and sorted: each fits
module _ (n : ℕ) (b : Base) where
  abbrev Fit : Record → Type 0
  Fit r = (good n r.it ≡ true) × (overlaps b r ≡ true)

  start_on : (x y : Record) → Fit x → Fit y → Le x y → x.it.start ≤ y.it.start
  start_on x y f g h = h.tie (eqb-true x.it.chrom.0 b.chrom.0 (and_left (eqb x.it.chrom.0 b.chrom.0) (meets b.start b.stop x.it.start x.it.stop) f.1)
      ∙ sym (eqb-true y.it.chrom.0 b.chrom.0 (and_left (eqb y.it.chrom.0 b.chrom.0) (meets b.start b.stop y.it.start y.it.stop) g.1)))

  fits : (ahead : ℕ) {l : List Record} → Sorted Le l → All Fit l → All (λ r. ahead ≤ r.it.start) l → all_fitting (base_span b) ahead (map record_span l) ≡ true
  unfolding all_fitting
  fits ahead Sorted.none k m = refl
  fits ahead (Sorted.next {x} {l} a s) (cons f k) (cons h m) =
      let up : leb x.it.start x.it.stop ≡ true = and_also (ltb x.it.chrom.0 n) (leb x.it.start x.it.stop) f.0 in
      let on : meets b.start b.stop x.it.start x.it.stop ≡ true = and_also (eqb x.it.chrom.0 b.chrom.0) (meets b.start b.stop x.it.start x.it.stop) f.1 in
      rw (up, on, le-leb ahead x.it.start h) (fits x.it.start s k (all_map (λ y e. start_on x y f e.0 e.1) (all_both k a)))

-- "a record given to the parts has start > stop, doesn't overlap the base, or starts before the one ahead": none of these
pub answer_fits : (j : Job) (b : Base) (i : ℕ) → all_fitting (base_span b) 0 (stream_answer j b i) ≡ true
answer_fits j b i =
    let n : ℕ = length j.lengths in
    let own = filter (overlaps b) (merged_of j) in
    let mine : Record → Bool = λ r. eqb r.stream.0 i in
    fits n b 0 (sorted_filter mine (sorted_filter (overlaps b) (merged_sorted n j.streams)))
    (all_filter mine (all_both (all_filter (overlaps b) (merged_good n j.streams)) (filter_passes (overlaps b) (merged_of j))))
    (all_map (λ r e. omega arith) (all_filter mine (all_both (all_filter (overlaps b) (merged_good n j.streams)) (filter_passes (overlaps b) (merged_of j)))))

-- so the parts are never refused by 13
pub never_13 : (j : Job) (b : Base) (i : ℕ) (rule : Rule) (slots room : ℕ) → judged rule (base_span b) (stream_answer j b i) slots room ≡ Err refusal.Records → ⊥
never_13 j b i rule slots room e =
    go (leb b.start b.stop) (leb (length (layout rule (base_span b) (stream_answer j b i)).bases) slots && leb (length (layout rule (base_span b) (stream_answer j b i)).pieces) room) _ _ (rw (answer_fits j b i) at e)
  where
    go : (c d : Bool) (m k : ℕ) → unless c refusal.Backwards (unless d refusal.Room (Ok (wrote m k))) ≡ Err refusal.Records → ⊥
    go true true m k z = let y : ◌≡◌ {A = ℕ} 0 1 = cc in absurd (omega arith)
    go true false m k z = let y : ◌≡◌ {A = ℕ} 0 1 = cc in absurd (omega arith)
    go false d m k z = let y : ◌≡◌ {A = ℕ} 0 1 = cc in absurd (omega arith)

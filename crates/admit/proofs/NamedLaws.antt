-- The streams and rows that the waiting records name, one after the other.
use mathlib.Core.Path.{◌≡◌}
use mathlib.Core.Bool.{Bool, true, false}
use mathlib.Core.List.{List}
use Prim.Native.Nat.{ℕ, ◌<◌}
use Rattle.basics.proofs.BoolLaws.{off, clash}
use Rattle.basics.proofs.ListLaws.{all_true, all_pass}
use Rattle.rules.specs.Rows.{Record}
use Rattle.queue.specs.declared.Ring.{Ring}
use Rattle.queue.specs.Ring.{Cells, nth, waiting}
use Rattle.queue.proofs.Calls.{all_waiting, waiting_all}
use Rattle.admit.specs.Right.{named, slots_named}

module _ (n : ℕ) (from to : List ℕ) where
  -- what a record names
  abbrev pub is_named : Record → Bool
  is_named r = named n from to r.stream.0 r.row

  module _ (q : Ring) (c : Cells) where
    pub slots_pass : ((k : ℕ) → k < q.len → is_named (nth q c k) ≡ true) → slots_named n from to q c ≡ true
    unfolding slots_named
    slots_pass h = all_pass (all_waiting q c h)

    pub slots_fail : (k : ℕ) → k < q.len → is_named (nth q c k) ≡ false → slots_named n from to q c ≡ false
    unfolding slots_named
    slots_fail k h e = off _ (λ t. clash (waiting_all q c (all_true is_named (waiting q c) t) k h) e)

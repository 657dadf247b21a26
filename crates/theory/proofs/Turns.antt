-- The pull, turn by turn, is the walk over the heads in the order in which they are taken.
use mathlib.Core.Path.{◌≡◌, refl, ap, ◌∙◌}
use mathlib.Core.Bool.{Bool, true, false, cond}
use mathlib.Core.Option.{Option}
use mathlib.Core.List.{List, [], ◌∷◌, ◌++◌}
use Prim.Native.Nat.{ℕ, zero, suc}
use native.Mathlib.Omega.{arith}
use lib.Dec.{leb}
use lib.ListN.{length}
use Rattle.basics.specs.Lists.{total}
use Rattle.rules.specs.Merge.{Pick, none, one, pick}
use Rattle.rules.specs.Pull.{Pull, paused, ends, unless_wrong, turn, turns, pull}
use Rattle.theory.proofs.MergeLaws.{picked, total_none}
use Rattle.theory.proofs.TakingLaws.{all, head_of, Next, all_next, all_none}
use Rattle.theory.proofs.Mode.{Mode}
use Rattle.theory.proofs.Stride.{Drawn, halted, broke, unless_broken, stride}

module _ {R E : Type 0} (ahead : R → R → Bool) (flaw : R → List R → Option E) (full : E) where
  -- where a pull stops, as the heads see it
  abbrev pub shown : Pull R E → Drawn R E
  shown (paused ss q) = halted (all ahead flaw ss) q
  shown (ends e) = broke e

  module _ (taken live : R → Bool) (Q : ℕ) where
    -- the pull without its count
    pub pull_turn : (ss : List (List R)) (q : List R) → pull ahead flaw full taken live Q ss q ≡ turn ahead flaw full taken live Q (pull ahead flaw full taken live Q) ss q (pick ahead ss)
    unfolding pull turns
    pull_turn ss q = go (pick ahead ss) refl
      where
        go : (o : Pick R) → pick ahead ss ≡ o → turns ahead flaw full taken live Q (total ss) ss q ≡ turn ahead flaw full taken live Q (λ ts p. turns ahead flaw full taken live Q (total ts) ts p) ss q o
        go none e = ap (λ (n : ℕ). turns ahead flaw full taken live Q n ss q) (total_none (picked ahead ss none e))
        go (one a rest ts) e = ap (λ (n : ℕ). turns ahead flaw full taken live Q n ss q) (picked ahead ss (one a rest ts) e).fewer ∙ rw e

  module _ {B : Type 0} (m : Mode R B) (Q : ℕ) (b : B) where
    abbrev go_on : ℕ → List (List R) → List R → Pull R E
    go_on n = turns ahead flaw full (m.take b) (m.live b) Q n

    -- one turn, where the others are as they should be
    turn_stride : (n : ℕ) (ss : List (List R)) (q : List R) (a : R) (rest : List R) (ts : List (List R)) → Next ahead flaw ss a rest ts
        → ((p : List R) → shown (go_on n ts p) ≡ stride m full Q b p (all ahead flaw ts))
        → shown (turn ahead flaw full (m.take b) (m.live b) Q (go_on n) ss q (one a rest ts)) ≡ stride m full Q b q (all ahead flaw ss)
    unfolding stride
    turn_stride n ss q a rest ts x k = rw x.whole (go (m.take b a) (flaw a rest) (m.live b a) (leb Q (length q)) refl)
      where
        go : (t : Bool) (o : Option E) (u f : Bool) → flaw a rest ≡ o
            → shown (cond t (unless_wrong o (cond u (cond f (ends full) (go_on n ts (q ++ a ∷ []))) (go_on n ts q))) (paused ss q))
            ≡ cond t (unless_broken o (cond u (cond f (broke full) (stride m full Q b (q ++ a ∷ []) x.others)) (stride m full Q b q x.others))) (halted (head_of ahead flaw a rest ∷ x.others) q)
        go true (Option.some e) u f z = refl
        go true Option.none true true z = refl
        go true Option.none true false z = rw (x.onward z) (k (q ++ a ∷ []))
        go true Option.none false f z = rw (x.onward z) (k q)
        go false o u f z = rw x.whole

    turns_stride : (n : ℕ) (ss : List (List R)) (q : List R) → total ss ≡ n → shown (go_on n ss q) ≡ stride m full Q b q (all ahead flaw ss)
    unfolding turns stride
    turns_stride zero ss q e = go (pick ahead ss) refl
      where
        go : (o : Pick R) → pick ahead ss ≡ o → halted (all ahead flaw ss) q ≡ stride m full Q b q (all ahead flaw ss)
        go none z = rw (all_none ahead flaw ss z)
        go (one a rest ts) z = absurd (omega (arith, (picked ahead ss (one a rest ts) z).fewer))
    turns_stride (suc n) ss q e = go (pick ahead ss) refl (λ ts p h. turns_stride n ts p h)
      where
        go : (o : Pick R) → pick ahead ss ≡ o → ((ts : List (List R)) (p : List R) → total ts ≡ n → shown (go_on n ts p) ≡ stride m full Q b p (all ahead flaw ts))
            → shown (turn ahead flaw full (m.take b) (m.live b) Q (go_on n) ss q o) ≡ stride m full Q b q (all ahead flaw ss)
        go none z k = rw (all_none ahead flaw ss z)
        go (one a rest ts) z k = turn_stride n ss q a rest ts (all_next ahead flaw ss z) (λ p. k ts p (omega (arith, (picked ahead ss (one a rest ts) z).fewer)))

    pub pull_stride : (ss : List (List R)) (q : List R) → shown (pull ahead flaw full (m.take b) (m.live b) Q ss q) ≡ stride m full Q b q (all ahead flaw ss)
    unfolding pull
    pull_stride ss q = turns_stride (total ss) ss q refl

-- Calls behind one another.
use mathlib.Core.Path.{◌≡◌, refl, sym, ap, ◌∙◌}
use mathlib.Core.List.{List, [], ◌∷◌, ◌++◌, append-nil, append_assoc}
use Prim.Native.Nat.{ℕ}
use Rattle.rules.specs.declared.Base.{Base}
use Rattle.heads.specs.View.{Cols}
use Rattle.queue.specs.Ring.{Cells}
use Rattle.runs.specs.declared.Run.{Run}
use Rattle.runs.specs.declared.Given.{Given}
use Rattle.pulls.specs.Pulls.{Lent, lent}
use Rattle.step.specs.Give.{Gives}
use Rattle.demands.specs.Calls.{Unheeded, Came, came, Calls, none, call, unheeded, offer_in, rows_in, all_rows, last_offer}

module _ {s : Cols} {lengths : List ℕ} where
  -- calls, and then others
  pub calls_then : {r v w : Run} {c d e : Cells} {bs cs : List Base} {os us : List Came} → Calls s lengths r c bs os v d → Calls s lengths v d cs us w e → Calls s lengths r c (bs ++ cs) (os ++ us) w e
  calls_then none k = k
  calls_then (call answers g l' gives heeded q) k = call answers g l' gives heeded (calls_then q k)
  calls_then (unheeded answers g l' gives u q) k = unheeded answers g l' gives u (calls_then q k)

  -- and then one
  pub calls_one : {r v : Run} {c d : Cells} {b : Base} {bs : List Base} {os : List Came} (answers : List (List ℕ)) (g : Given) (l' : Lent) → Calls s lengths r c bs os v d
      → Gives s lengths v b (lent d answers) g l' → (Unheeded g → ⊥) → Calls s lengths r c (bs ++ b ∷ []) (os ++ came g.answer answers l'.answers ∷ []) g.run l'.cells
  calls_one answers g l' q gives heeded = calls_then q (call answers g l' gives heeded none)

pub all_rows_then : (os us : List Came) → all_rows (os ++ us) ≡ all_rows os ++ all_rows us
all_rows_then [] us = refl
all_rows_then (o ∷ os) us = ap (λ (l : List (List ℕ)). rows_in o ++ l) (all_rows_then os us) ∙ sym (append_assoc (rows_in o) (all_rows os) (all_rows us))

pub all_rows_one : (os : List Came) (o : Came) → all_rows (os ++ o ∷ []) ≡ all_rows os ++ rows_in o
all_rows_one os o = all_rows_then os (o ∷ []) ∙ ap (λ (l : List (List ℕ)). all_rows os ++ l) (append-nil (rows_in o))

pub last_offer_lem : (os : List Came) (o : Came) → last_offer (os ++ o ∷ []) ≡ offer_in o.answer
last_offer_lem [] o = refl
last_offer_lem (u ∷ []) o = refl
last_offer_lem (u ∷ w ∷ os) o = last_offer_lem (w ∷ os) o

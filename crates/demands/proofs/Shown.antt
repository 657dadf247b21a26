-- What came of a call, beside the rules' reply.
use mathlib.Core.Path.{◌≡◌, refl, sym, ap, ◌∙◌}
use mathlib.Core.List.{List, [], ◌∷◌, map}
use Prim.Native.Nat.{ℕ, zero, suc}
use native.Mathlib.Omega.{arith}
use lib.ListN.{length, get_or, take, drop, length-map}
use lib.Seq.{take-append_seam}
use Rattle.basics.specs.Lists.{Pairs}
use Rattle.rules.specs.declared.Answer.TheVariants as answer
use Rattle.rules.specs.declared.Refusal.{Refusal}
use Rattle.rules.specs.declared.Refusal.TheVariants as refusal
use Rattle.rules.specs.declared.Refusal.TheVariants.{Sizes}
use Rattle.rules.specs.declared.End.{End}
use Rattle.rules.specs.declared.End.TheVariants as end
use Rattle.rules.specs.Numbers.{number_of}
use Rattle.rules.specs.Call.{Reply, found, refused, ended, answer_of, offered, rows_of, column}
use Rattle.rules.specs.Skip.{Mark, give, skip, heard}
use Rattle.queue.specs.Deeds.{answer_row}
use Rattle.demands.specs.Calls.{Came, came, Brings, count_in, offer_in, rows_in, Same}

-- it shows the reply t: the answer is t's, and so are the answer rows
pub record Shows (t : Reply) (o : Came) : Type 0 where
  pub answer : o.answer ≡ answer_of t
  pub rows : o.after ≡ column answer_row t o.before

-- ---- pairs

pub pairs_get_d : {A B : Type 0} {P : A → B → Type 0} (d : A) (e : B) → P d e → {l : List A} {m : List B} → Pairs P l m → (i : ℕ) → P (get_or l i d) (get_or m i e)
pairs_get_d d e h Pairs.nil i = h
pairs_get_d d e h (Pairs.cons x k) zero = x
pairs_get_d d e h (Pairs.cons x k) (suc i) = pairs_get_d d e h k i

-- two lists in a relation, each shown by another
pub pairs_both : {A C : Type 0} {P : A → C → Type 0} {R : A → A → Type 0} {S : C → C → Type 0} → ((x y : A) (z w : C) → R x y → P x z → P y w → S z w)
    → {l m : List A} {k n : List C} → Pairs R l m → Pairs P l k → Pairs P m n → Pairs S k n
pairs_both f Pairs.nil Pairs.nil Pairs.nil = Pairs.nil
pairs_both f (Pairs.cons r rs) (Pairs.cons p ps) (Pairs.cons q qs) = Pairs.cons (f _ _ _ _ r p q) (pairs_both f rs ps qs)

-- ---- what is shown

pub shows_nothing : Shows (refused Sizes) (came (answer.Refused Sizes) [] [])
shows_nothing = record { answer = refl; rows = refl }

-- an answer of number 0 brings the reply's records
pub brings : (t : Reply) (o : Came) → Shows t o → number_of (answer_of t) ≡ 0 → Brings (rows_of t) o
brings (found rs p) o s e = record { offer = p; answer = s.answer; rows = s.rows }
brings (refused x) o s e = absurd (no x e)
  where
    no : (y : Refusal) → number_of (answer.Refused y) ≡ 0 → ⊥
    no refusal.Sizes i = omega (arith, i)
    no refusal.Beyond i = omega (arith, i)
    no refusal.Unlisted i = omega (arith, i)
    no refusal.Unordered i = omega (arith, i)
    no refusal.Reversed i = omega (arith, i)
brings (ended f) o s e = absurd (no f e)
  where
    no : (y : End) → number_of (answer.Ended y) ≡ 0 → ⊥
    no (end.Faulty a b) i = omega (arith, i)
    no (end.Unsorted a b) i = omega (arith, i)
    no end.NoRoom i = omega (arith, i)
    no end.NoRows i = omega (arith, i)

offer_of : (t : Reply) → offer_in (answer_of t) ≡ offered t
offer_of (found rs p) = refl
offer_of (refused x) = refl
offer_of (ended e) = refl

pub shown_offer : {t : Reply} {o : Came} → Shows t o → offer_in o.answer ≡ offered t
shown_offer {t} s = ap offer_in s.answer ∙ offer_of t

pub shown_offers : {ts : List Reply} {os : List Came} → Pairs Shows ts os → map (λ (o : Came). offer_in o.answer) os ≡ map offered ts
shown_offers Pairs.nil = refl
shown_offers (Pairs.cons s k) = rw (shown_offer s, shown_offers k)

count_of : (t : Reply) → count_in (answer_of t) ≡ length (rows_of t)
count_of (found rs p) = refl
count_of (refused x) = refl
count_of (ended e) = refl

shown_rows : {t : Reply} {o : Came} → Shows t o → rows_in o ≡ map answer_row (rows_of t)
shown_rows {t} {o} s =
    let n : count_in o.answer ≡ length (map answer_row (rows_of t)) = ap count_in s.answer ∙ count_of t ∙ sym (length-map (rows_of t) answer_row) in
    ap (λ (k : ℕ). take k o.after) n ∙ ap (λ (l : List (List ℕ)). take (length (map answer_row (rows_of t))) l) s.rows ∙ take-append_seam (map answer_row (rows_of t)) (drop (length (rows_of t)) o.before)

-- two that show one reply are the same
pub shown_same : {t : Reply} {o u : Came} → Shows t o → Shows t u → Same o u
shown_same s w = record { answer = s.answer ∙ sym w.answer; rows = shown_rows s ∙ sym (shown_rows w) }

-- of what all bases get, what the given ones get
pub heard_shown : {B : Type 0} (l : List (Mark B)) {ts : List Reply} {os : List Came} → Pairs Shows ts os → Pairs Shows (heard l ts) (heard l os)
heard_shown [] k = k
heard_shown (give b ∷ l) Pairs.nil = Pairs.nil
heard_shown (skip b ∷ l) Pairs.nil = Pairs.nil
heard_shown (give b ∷ l) (Pairs.cons s k) = Pairs.cons s (heard_shown l k)
heard_shown (skip b ∷ l) (Pairs.cons s k) = heard_shown l k

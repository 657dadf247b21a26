-- What the tests of a start come to, one by one, and that the two tests of names agree.
use mathlib.Core.Path.{◌≡◌, refl, sym, ap, ◌∙◌}
use mathlib.Core.Bool.{Bool, true, false, cond, not, ◌&&◌, ◌||◌}
use mathlib.Core.Option.{Option, none, some}
use mathlib.Core.List.{List, [], ◌∷◌}
use Prim.Native.Nat.{ℕ, suc, ◌<◌, ◌≤◌}
use lib.Dec.{eqb, eqb-zero-suc, eqb-suc-suc}
use lib.ListN.{length, get_or}
use native.Mathlib.Omega.{arith}
use borrow.Author.Tests.{le-leb, eqb-true}
use Rattle.basics.specs.Lists.{Says, any}
use Rattle.basics.proofs.BoolLaws.{off}
use Rattle.basics.proofs.SaysLaws.{says_same, says_map, says_eq, says_le, says_and, says_upto}
use Rattle.rules.specs.declared.Unbegun.TheVariants as unbegun
use Rattle.rules.specs.Start.{sized, misnamed, refuses_start}
use Rattle.rules.specs.Start as rules
use Rattle.fields.specs.Names.{number_in}
use Rattle.fields.specs.Names as text
use Rattle.std.specs.Prelude.{Result, Ok, Err}
use Rattle.rules.specs.declared.Unbegun.{Unbegun}
use Rattle.chroms.specs.Check.{named, absent, all_named, check_of}
use Rattle.runs.specs.declared.Run.{Run}
use Rattle.runs.specs.Start.{Plan, names_of, counted, evened, ranged, in_rows, in_text, lendable, refused_of, fresh_run, started, start_of}

-- ---- names: the list's test and the rules'

eqb_turned : (a b : ℕ) → eqb b a ≡ eqb a b
eqb_turned a b = says_same (says_eq b a) (says_map sym sym (says_eq a b))

same_turned : (k l : List ℕ) → text.same l k ≡ rules.same k l
unfolding text.same
same_turned [] [] = refl
same_turned [] (b ∷ l) = refl
same_turned (a ∷ k) [] = refl
same_turned (a ∷ k) (b ∷ l) = rw (eqb_turned a b, same_turned k l)

-- a name's number is the one after the last where it is none of the names
absent_any : (n : List ℕ) (ns : List (List ℕ)) → absent n ns ≡ not (any (rules.same n) ns)
unfolding number_in
absent_any n [] = refl
absent_any n (m ∷ ns) = rw (← (same_turned n m)) (go (text.same m n) (absent_any n ns))
  where
    go : (t : Bool) → eqb (number_in ns n) (length ns) ≡ not (any (rules.same n) ns) →
        eqb (cond t 0 (suc (number_in ns n))) (suc (length ns)) ≡ not (cond t true (any (rules.same n) ns))
    go true e = eqb-zero-suc (length ns)
    go false e = eqb-suc-suc (number_in ns n) (length ns) ∙ e

not_or : (u v w : Bool) → u && not v && not w ≡ not (not u || (v || w))
not_or true true w = refl
not_or true false w = refl
not_or false v w = refl

-- no name "is empty, too long or there twice", as the list tests it and as the rules say it
pub names_agree : (ns : List (List ℕ)) → all_named ns ≡ not (misnamed ns)
unfolding all_named
names_agree [] = refl
names_agree (n ∷ ns) = rw (absent_any n ns, names_agree ns) (not_or (named n) (any (rules.same n) ns) (misnamed ns))

-- ---- ranges

-- each of n ranges stands among the rows
abbrev pub Ranged : ℕ → ℕ → List ℕ → List ℕ → Type 0
Ranged rows n from to = (k : ℕ) → k < n → (get_or from k 0 ≤ get_or to k 0) × (get_or to k 0 ≤ rows)

pub ranged_says : (rows n : ℕ) (from to : List ℕ) → Says (ranged rows n from to) ((n ≤ 8) × Ranged rows n from to)
unfolding ranged
ranged_says rows n from to = says_and (says_le n 8) (says_upto (λ k. says_and (says_le (get_or from k 0) (get_or to k 0)) (says_le (get_or to k 0) rows)) n)

pub unranged : (rows n : ℕ) (from to : List ℕ) → ((n ≤ 8) × Ranged rows n from to → ⊥) → false ≡ ranged rows n from to
unranged rows n from to h = sym (off (ranged rows n from to) (λ e. h ((ranged_says rows n from to).yes e)))

-- ---- sizes

-- "1 to 8 streams. 1 to 256 chromosomes [..]. Queue room Q from 1 to 65,536."
abbrev pub sized_of : Plan → Bool
sized_of p = sized p.settings

pub record Sized (p : Plan) : Type 0 where
  pub some : 1 ≤ p.settings.streams
  pub few : p.settings.streams ≤ 8
  pub any : 1 ≤ p.settings.chroms
  pub listed : p.settings.chroms ≤ 256
  pub roomy : 1 ≤ p.settings.room
  pub small : p.settings.room ≤ 65536

pub sized_true : (p : Plan) → sized_of p ≡ true → Sized p
sized_true p e =
    let h = (says_and (says_and (says_le 1 p.settings.streams) (says_le _ _)) (says_and (says_and (says_le _ _) (says_le _ _)) (says_and (says_le _ _) (says_le _ _)))).yes e in
    record { some = h.0.0; few = h.0.1; any = h.1.0.0; listed = h.1.0.1; roomy = h.1.1.0; small = h.1.1.1 }

-- ---- the answer

-- all that is lent fits but for the names' text
abbrev pub fits : Plan → Bool
fits p = counted p && evened p.cols && in_rows p

module _ (p : Plan) where
  -- 1, then 2, by the list's test of the names
  pub judged : refused_of p ≡ cond (sized_of p && lendable p) (cond (all_named (names_of p)) none (some unbegun.Names)) (some unbegun.Sizes)
  unfolding refused_of refuses_start
  judged = rw (names_agree (names_of p)) (go (lendable p) (sized_of p) (misnamed (names_of p)))
    where
      go : (t u m : Bool) → cond t (cond u (cond m (some unbegun.Names) none) (some unbegun.Sizes)) (some unbegun.Sizes) ≡ cond (u && t) (cond (not m) none (some unbegun.Names)) (some unbegun.Sizes)
      go true true true = refl
      go true true false = refl
      go true false m = refl
      go false true m = refl
      go false false m = refl

  -- the same as the code judges it: where all fits but for the names' text, what the check of the list says
  abbrev judged_by : Bool → Result (Unit {0}) Unbegun → Result Run Unbegun
  judged_by fits (Ok u) = cond fits (Ok (fresh_run p.settings p.from p.to)) (Err unbegun.Sizes)
  judged_by fits (Err x) = cond fits (Err x) (Err unbegun.Sizes)

  start_judged : start_of p ≡ judged_by (sized_of p && fits p) (check_of p.text p.names_from p.names_to)
  unfolding lendable check_of
  start_judged = ap (λ o. started o p) judged ∙ go (sized_of p) (counted p) refl refl
    where
      unsized : (list : Result (Unit {0}) Unbegun) → ◌≡◌ {A = Result Run Unbegun} (Err unbegun.Sizes) (judged_by false list)
      unsized (Ok u) = refl
      unsized (Err x) = refl

      by_tests : (f w a : Bool) → started (cond (f && w) (cond a none (some unbegun.Names)) (some unbegun.Sizes)) p ≡ judged_by f (cond (w && true) (cond a (Ok tt) (Err unbegun.Names)) (Err unbegun.Sizes))
      by_tests true true true = refl
      by_tests true true false = refl
      by_tests true false a = refl
      by_tests false w a = unsized (cond (w && true) (cond a (Ok tt) (Err unbegun.Names)) (Err unbegun.Sizes))

      go : (t k : Bool) → sized_of p ≡ t → counted p ≡ k → started (cond (t && (k && evened p.cols && in_rows p && in_text p)) (cond (all_named (names_of p)) none (some unbegun.Names)) (some unbegun.Sizes)) p ≡
          judged_by (t && (k && evened p.cols && in_rows p)) (check_of p.text p.names_from p.names_to)
      go true true e f =
          let z = sized_true p e in
          let n : length p.names_from ≡ p.settings.chroms = eqb-true _ _ f in
          rw (le-leb 1 (length p.names_from) (omega (arith, z.any)), le-leb (length p.names_from) 256 (omega (arith, z.listed))) (by_tests (true && evened p.cols && in_rows p) (in_text p) (all_named (names_of p)))
      go true false e f = unsized (check_of p.text p.names_from p.names_to)
      go false k e f = unsized (check_of p.text p.names_from p.names_to)

  -- the answer, from what each test says
  module _ (fit range : Bool) (fits_so : fit ≡ sized_of p) (ranges_so : range ≡ in_rows p) where
    tested : fit && (counted p && evened p.cols && range) ≡ sized_of p && fits p
    tested = rw (fits_so, ranges_so)

    pub start_unfit : fit && (counted p && evened p.cols && range) ≡ false → ◌≡◌ {A = Result Run Unbegun} (Err unbegun.Sizes) (start_of p)
    start_unfit e = sym (start_judged ∙ rw (sym tested ∙ e) (unfit (check_of p.text p.names_from p.names_to)))
      where
        unfit : (list : Result (Unit {0}) Unbegun) → ◌≡◌ {A = Result Run Unbegun} (judged_by false list) (Err unbegun.Sizes)
        unfit (Ok u) = refl
        unfit (Err x) = refl

    module _ (fit_all : fit && (counted p && evened p.cols && range) ≡ true) where
      pub start_named : {u : Unit {0}} → Ok u ≡ check_of p.text p.names_from p.names_to → {r : Run} → r ≡ fresh_run p.settings p.from p.to → Ok r ≡ start_of p
      start_named e f = rw f (sym (start_judged ∙ rw (sym tested ∙ fit_all, ← e)))

      pub start_misnamed : {x : Unbegun} → Err x ≡ check_of p.text p.names_from p.names_to → Err x ≡ start_of p
      start_misnamed e = sym (start_judged ∙ rw (sym tested ∙ fit_all, ← e))

-- a start that begins a run refused nothing, and the run is the fresh one
pub begun_is : (p : Plan) {r : Run} → start_of p ≡ Ok r → (refused_of p ≡ none) × (r ≡ fresh_run p.settings p.from p.to)
begun_is p {r} e = go (refused_of p) e
  where
    go : (o : Option Unbegun) → started o p ≡ Ok r → (o ≡ none) × (r ≡ fresh_run p.settings p.from p.to)
    go none q = (refl, cc)
    go (some x) q = cc

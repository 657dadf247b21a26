-- A turn of a pull, from the head that is chosen.
use mathlib.Core.Path.{◌≡◌, refl, sym, ap, ◌∙◌}
use mathlib.Core.Bool.{Bool, true, false}
use mathlib.Core.Option.{Option}
use mathlib.Core.List.{List, [], ◌∷◌}
use Prim.Native.Nat.{ℕ, suc, ◌+◌, ◌-◌, ◌<◌, ◌≤◌}
use native.Mathlib.Omega.{arith}
use lib.ListN.{get_or, set}
use Rattle.basics.specs.Lists.{total}
use Rattle.basics.specs.Build.{build}
use Rattle.basics.proofs.BuildLaws.{build_get, build_length, build_front, build_none}
use Rattle.rules.specs.declared.Base.{Base}
use Rattle.rules.specs.declared.End.{End}
use Rattle.rules.specs.Rows.{Record, fault}
use Rattle.rules.specs.Merge.{Pick, none, one, pick}
use Rattle.rules.specs.Streams.{ahead, next}
use Rattle.rules.specs.Overlap.{taken, live}
use Rattle.theory.proofs.MergeLaws.{Took, picked}
use Rattle.least.specs.declared.Best.{Best}
use Rattle.heads.specs.declared.Taken.{Taken}
use Rattle.heads.specs.declared.Move.{Move}
use Rattle.heads.specs.declared.Move.TheVariants as move
use Rattle.heads.specs.View.{Cols, row_at, rows_from}
use Rattle.least.specs.Fours.{record_from, unless_ended, left_at, is_ended}
use Rattle.least.specs.Least.{head_of, best_of, least_in}
use Rattle.std.specs.Prelude.{Result, Ok, Some, None}
use Rattle.heads.specs.Move.{best_record, taken_of, takes, move_of, behind_by}
use Rattle.least.proofs.LeastLaws.{own_number, least_pick}

module _ (q : List (List ℕ)) (ended : List ℕ) (behind : ℕ → List Record) (n : ℕ) (few : n ≤ 8) where
  abbrev ss : List (List Record)
  ss = build (left_at q ended behind) n 0

  -- the head h is chosen: it and the rows behind it are what is left of its stream
  pub record Chosen (h : Best) : Type 0 where
    pub others : List (List Record)
    pub is : pick ahead ss ≡ one (best_record h) (behind h.stream.0) others
    pub inside : h.stream.0 < n

  rest_is : (k : ℕ) (dead : Bool) (l : List ℕ) (xs : List Record) {y : Record} {rest : List Record} → unless_ended dead (record_from k l ∷ xs) ≡ y ∷ rest → rest ≡ xs
  rest_is k true l xs e = let z : ◌≡◌ {A = ℕ} 0 1 = cc in absurd (omega arith)
  rest_is k false l xs e = cc

  alive : (k : ℕ) (dead : Bool) (l : List ℕ) (xs : List Record) {y : Record} {rest : List Record} → unless_ended dead (record_from k l ∷ xs) ≡ y ∷ rest → dead ≡ false
  alive k true l xs e = let z : ◌≡◌ {A = ℕ} 0 1 = cc in absurd (omega arith)
  alive k false l xs e = refl

  -- where a picked record stands, and the lists without it
  pub record Standing (a : Record) (rest : List Record) (ts : List (List Record)) : Type 0 where
    pub place : a.stream.0 < n
    pub goes_on : is_ended (get_or ended a.stream.0 0) ≡ false
    pub after : rest ≡ behind a.stream.0
    pub without : ts ≡ set ss a.stream.0 rest
    pub fewer : total ss ≡ suc (total ts)

  pub standing : (a : Record) (rest : List Record) (ts : List (List Record)) → pick ahead ss ≡ one a rest ts → Standing a rest ts
  standing a rest ts z =
      let w : Took ss a rest ts = picked ahead ss (one a rest ts) z in
      let k : ℕ = w.at in
      let inside : k < n = rw (build_length (left_at q ended behind) n 0) at w.inside in
      let zero-add : 0 + k ≡ k = omega arith in
      let here : left_at q ended behind k ≡ a ∷ rest = rw zero-add at (sym (build_get (left_at q ended behind) n 0 k [] inside) ∙ w.here) in
      let mine : a.stream.0 ≡ k = own_number q ended behind n few k (is_ended (get_or ended k 0)) (get_or q k []) (behind k) here in
      record {
        place = omega arith;
        goes_on = rw mine (alive k (is_ended (get_or ended k 0)) (get_or q k []) (behind k) here);
        after = rest_is k (is_ended (get_or ended k 0)) (get_or q k []) (behind k) here ∙ ap behind (sym mine);
        without = w.put ∙ ap (λ (i : ℕ). set ss i rest) (sym mine);
        fewer = w.fewer;
      }

  pub chosen : (h : Best) → Some h ≡ least_in q ended n → Chosen h
  chosen h e = go (pick ahead ss) refl
    where
      go : (o : Pick Record) → pick ahead ss ≡ o → Chosen h
      go none z =
          let is : Some h ≡ None = e ∙ least_pick q ended behind n few ∙ ap best_of z in
          let w : ◌≡◌ {A = ℕ} 0 1 = cc in absurd (omega arith)
      go (one a rest ts) z =
          let given : Some h ≡ Some (head_of a) = e ∙ least_pick q ended behind n few ∙ ap best_of z in
          let is : h ≡ head_of a = cc in
          let w : Standing a rest ts = standing a rest ts z in
          let same : best_record h ≡ a = ap best_record is in
          let place : h.stream.0 ≡ a.stream.0 = ap (λ (b : Best). b.stream.0) is in
          record {
            others = ts;
            is = z ∙ ap (λ (r : Record). one r rest ts) (sym same) ∙ ap (λ (l : List Record). one (best_record h) l ts) (w.after ∙ ap behind (sym place));
            inside = omega (arith, w.place);
          }

  -- no head stays; nor is a head taken that is not to be
  pub stays_none : (N : ℕ) (b : Base) (nexts : List ℕ) → None ≡ least_in q ended n → move_of N b nexts (pick ahead ss) ≡ Ok (move.Stay None)
  unfolding move_of
  stays_none N b nexts e = go (pick ahead ss) refl
    where
      go : (o : Pick Record) → pick ahead ss ≡ o → move_of N b nexts o ≡ Ok (move.Stay None)
      go none z = refl
      go (one a rest ts) z =
          let is : None ≡ Some (head_of a) = e ∙ least_pick q ended behind n few ∙ ap best_of z in
          let w : ◌≡◌ {A = ℕ} 0 1 = cc in absurd (omega arith)

  module _ (N : ℕ) (b : Base) (nexts : List ℕ) (h : Best) (c : Chosen h) where
    pub stays_untaken : taken b (best_record h) ≡ false → move_of N b nexts (pick ahead ss) ≡ Ok (move.Stay (Some h))
    unfolding move_of
    stays_untaken e = rw (c.is, e)

    pub takes_chosen : taken b (best_record h) ≡ true
        → move_of N b nexts (pick ahead ss) ≡ takes (taken_of b (best_record h)) (get_or nexts h.stream.0 0 + 1) (next N (best_record h) (behind h.stream.0)) (behind h.stream.0)
    unfolding move_of
    takes_chosen e = rw (c.is, e)

-- what is taken depends on the first of the rows behind alone
pub takes_first : (t : Taken) (place : ℕ) (o : Option End) (x : Record) (l : List Record) → takes t place o (x ∷ l) ≡ takes t place o (x ∷ [])
takes_first t place Option.none x l = refl
takes_first t place (Option.some e) x l = refl

-- the rows behind a head: none, or the one at the next place
module _ (N : ℕ) (s : Cols) (from to k at : ℕ) (t : Taken) (a : Record) where
  pub takes_last : to ≤ at → takes t (at + 1) (next N a (rows_from s from to k at)) (rows_from s from to k at) ≡ Ok (move.Takes t None)
  takes_last h = rw (build_none (row_at s from k) to at h)

  pub takes_more : at < to → takes t (at + 1) (next N a (rows_from s from to k at)) (rows_from s from to k at)
      ≡ takes t (at + 1) (fault N (Option.some a.it) (row_at s from k at)) (row_at s from k at ∷ [])
  takes_more h = rw (build_front (row_at s from k) to at h) (takes_first t (at + 1) (fault N (Option.some a.it) (row_at s from k at)) (row_at s from k at) (build (row_at s from k) (to - (at + 1)) (at + 1)))

-- the turn of a head that is taken, from the rows behind the heads
module _ (q : List (List ℕ)) (ended : List ℕ) (s : Cols) (nexts from to : List ℕ) (n : ℕ) (few : n ≤ 8) (N : ℕ) (b : Base) (h : Best)
    (c : Chosen q ended (behind_by s nexts from to) n few h) (v : Bool) (lives : v ≡ live b (best_record h)) (t : taken b (best_record h) ≡ true) (k : ℕ) (place : k ≡ h.stream.0) where
  abbrev pub head_taken : Taken
  head_taken = record { stream = h.stream; live = v; row = h.row; start = h.start; stop = h.stop }

  abbrev answer : Result Move End
  answer = move_of N b nexts (pick ahead (build (left_at q ended (behind_by s nexts from to)) n 0))

  turns : answer ≡ takes head_taken (get_or nexts k 0 + 1) (next N (best_record h) (behind_by s nexts from to k)) (behind_by s nexts from to k)
  turns = takes_chosen q ended (behind_by s nexts from to) n few N b nexts h c t ∙ rw (lives, place)

  pub decided_ends : get_or to k 0 ≤ get_or nexts k 0 → Ok (move.Takes head_taken None) ≡ answer
  decided_ends e = sym (turns ∙ takes_last N s (get_or from k 0) (get_or to k 0) k (get_or nexts k 0) head_taken (best_record h) e)

  -- from the row that stands at the next place, as one of stream i
  abbrev by_row : ℕ → Result Move End
  by_row i = takes head_taken (get_or nexts k 0 + 1) (fault N (Option.some (best_record h).it) (row_at s (get_or from k 0) i (get_or nexts k 0))) (row_at s (get_or from k 0) i (get_or nexts k 0) ∷ [])

  pub decided_follows : (r : Result Move End) → get_or nexts k 0 < get_or to k 0 → r ≡ by_row h.stream.0 → r ≡ answer
  decided_follows r e z = z ∙ ap by_row (sym place) ∙ sym (turns ∙ takes_more N s (get_or from k 0) (get_or to k 0) k (get_or nexts k 0) head_taken (best_record h) e)

-- A part of the columns is filled with the rows of a text: what stands in it, and what stays ahead of it.
use mathlib.Core.Path.{◌≡◌, refl, sym, ap, ◌∙◌}
use mathlib.Core.List.{List, [], ◌∷◌, ◌++◌, map}
use Prim.Native.Nat.{ℕ, zero, suc, ◌+◌, ◌≤◌, ◌<◌}
use native.Mathlib.Omega.{arith}
use lib.ListN.{length, get_or, take, drop, length-append, length-take, length-drop, length-map, get_or-append}
use lib.Seq.{get_or-append-add, get_or-take}
use Rattle.basics.specs.Build.{build}

-- a list that is read back from where its elements stand
pub read_back : {A : Type 0} (g : ℕ → A) (l : List A) (p : ℕ) → ((i : ℕ) → i < length l → g (p + i) ≡ get_or l i (g 0)) → build g (length l) p ≡ l
unfolding build
read_back g [] p h = refl
read_back g (x ∷ l) p h =
    let first : g p ≡ x = ap g (let e : p ≡ p + 0 = omega arith in e) ∙ h 0 (omega arith) in
    let rest : build g (length l) (suc p) ≡ l = read_back g l (suc p) (λ i b. ap g (let e : suc p + i ≡ p + suc i = omega arith in e) ∙ h (suc i) (omega arith)) in
    rw (first, rest)

pub get_map : {A B : Type 0} (f : A → B) (l : List A) (i : ℕ) (d : A) (e : B) → i < length l → get_or (map f l) i e ≡ f (get_or l i d)
get_map f [] i d e h = absurd (omega arith)
get_map f (x ∷ l) zero d e h = refl
get_map f (x ∷ l) (suc i) d e h = get_map f l i d e (omega arith)

pub map_build : {A B : Type 0} (f : A → B) (g : ℕ → A) (k i : ℕ) → map f (build g k i) ≡ build (λ j. f (g j)) k i
unfolding build
map_build f g zero i = refl
map_build f g (suc k) i = ap (λ (l : List _). f (g i) ∷ l) (map_build f g k (suc i))

-- a column whose part of `room` slots from p on was filled with f of each row
module _ {A : Type 0} (f : A → ℕ) (l : List A) (p room : ℕ) (old : List ℕ) (fits : p + room ≤ length old) (few : length l ≤ room) where
  abbrev pub filled : List ℕ
  filled = take p old ++ (map f l ++ drop (length l) (take room (drop p old)) ++ drop room (drop p old))

  ahead : length (take p old) ≡ p
  ahead = length-take p old ∙ omega arith

  pub filled_length : length filled ≡ length old
  filled_length =
      let a = length-append (take p old) (map f l ++ drop (length l) (take room (drop p old)) ++ drop room (drop p old)) in
      let b = length-append (map f l ++ drop (length l) (take room (drop p old))) (drop room (drop p old)) in
      let c = length-append (map f l) (drop (length l) (take room (drop p old))) in
      let d = length-drop (length l) (take room (drop p old)) in
      let e = length-take room (drop p old) in
      let g = length-drop p old in
      let h = length-drop room (drop p old) in
      let m = length-map l f in
      omega (arith, a, b, c, d, e, g, h, m, ahead)

  pub filled_below : (i : ℕ) → i < p → get_or filled i 0 ≡ get_or old i 0
  filled_below i h = get_or-append (take p old) _ 0 i (omega (arith, ahead)) ∙ get_or-take p old i 0 h

  pub filled_row : (i : ℕ) (d : A) → i < length l → get_or filled (p + i) 0 ≡ f (get_or l i d)
  filled_row i d h =
      let m = length-map l f in
      ap (λ (n : ℕ). get_or filled (n + i) 0) (sym ahead)
      ∙ get_or-append-add (take p old) (map f l ++ drop (length l) (take room (drop p old)) ++ drop room (drop p old)) i 0
      ∙ get_or-append (map f l ++ drop (length l) (take room (drop p old))) (drop room (drop p old)) 0 i (omega (arith, m, length-append (map f l) (drop (length l) (take room (drop p old)))))
      ∙ get_or-append (map f l) (drop (length l) (take room (drop p old))) 0 i (omega (arith, m))
      ∙ get_map f l i d 0 h

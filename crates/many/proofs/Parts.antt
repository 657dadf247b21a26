-- The part of a list from a place on, lent and given back.
use mathlib.Core.Path.{◌≡◌, ap, ◌∙◌}
use mathlib.Core.List.{List, [], ◌++◌, append-nil}
use Prim.Native.Nat.{ℕ, ◌-◌, ◌≤◌}
use native.Mathlib.Omega.{arith}
use lib.ListN.{length, take, drop, length-append, length-drop, drop_of_length-le}
use lib.Seq.{length-take-le, take_all, drop_at}
use borrow.Rule.Slice.PartMut.{mid_of, post_of, put_mid}

-- the part from a on is all that is left
pub mid_drop : {A : Type 0} (a : ℕ) (l : List A) → mid_of a (length l - a) l ≡ drop a l
mid_drop a l = take_all (length l - a) (drop a l) (omega (arith, length-drop a l))

-- what is given back stands from a on
pub drop_mid : {A : Type 0} (a : ℕ) (l m : List A) → a ≤ length l → drop a (put_mid a (length l - a) l m) ≡ m
drop_mid {A} a l m h =
    let none : post_of a (length l - a) l ≡ [] = drop_of_length-le (drop a l) {i = length l - a} (omega (arith, length-drop a l)) in
    drop_at (take a l) (m ++ post_of a (length l - a) l) a (length-take-le a l h) ∙ ap (λ (t : List A). m ++ t) none ∙ append-nil m

-- and the list is as long as it was
pub put_length : {A : Type 0} (a : ℕ) (l m : List A) → a ≤ length l → length m ≡ length (mid_of a (length l - a) l) → length (put_mid a (length l - a) l m) ≡ length l
put_length a l m h e =
    let none : length (post_of a (length l - a) l) ≡ length l - a - (length l - a) = length-drop (length l - a) (drop a l) ∙ ap (λ (n : ℕ). n - (length l - a)) (length-drop a l) in
    let all : length m ≡ length l - a = e ∙ ap length (mid_drop a l) ∙ length-drop a l in
    length-append (take a l) (m ++ post_of a (length l - a) l) ∙ omega (arith, length-append m (post_of a (length l - a) l), none, all, length-take-le a l h)

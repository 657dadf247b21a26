-- Two tests that both pass. Assumes nothing.
use mathlib.Core.Path.{◌≡◌, refl, sym}
use mathlib.Core.Bool.{Bool, true, false, ◌&&◌, true≢false}

pub and_left : (u v : Bool) → u && v ≡ true → u ≡ true
and_left true v e = refl
and_left false v e = e

pub and_right : (u v : Bool) → u && v ≡ true → v ≡ true
and_right true v e = e
and_right false v e = absurd (true≢false (sym e))

pub and_no : (u v : Bool) → v ≡ false → u && v ≡ false
and_no true v e = e
and_no false v e = refl

-- "Heads are loaded at the first accepted base, stream 0 first, each checked; the first fault ends the run."
use Rattle.std.specs.Prelude.{◌≡◌, ⊤, Result, cond, ℕ, zero, suc, ◌+◌, leb, get_or}
use Rattle.std.proofs.Math.Option.{Option, none}
use Rattle.rules.specs.declared.End.{End}
use Rattle.rules.specs.Rows.{fault}
use Rattle.rules.specs.Call.{loading}
use Rattle.heads.specs.declared.Next.{Next}
use Rattle.heads.specs.View.{Cols, Heads, row_at, fresh_of}
use Rattle.heads.specs.Move.{check_of, next_of, ends_at, goes_at, Shaped, Placed}

-- the row at stream k's next place, and the place after it
abbrev pub first_of : Cols → Heads → ℕ → Next
first_of s h k = next_of (row_at s (get_or h.from k 0) k (get_or h.next k 0)) (get_or h.next k 0 + 1)

-- the first head of stream k is loaded; a stream with no rows has ended
unfoldable pub load_one : Cols → Heads → ℕ → Heads
load_one s h k = cond (leb (get_or h.to k 0) (get_or h.next k 0)) (ends_at h k) (goes_at h k (first_of s h k))

-- the first heads of the streams ahead of stream k
unfoldable pub load_to : Cols → Heads → ℕ → Heads
load_to s h zero = h
load_to s h (suc k) = load_one s (load_to s h k) k

-- what is wrong with the first row of stream k
abbrev pub wrong_first : Cols → ℕ → Heads → ℕ → Option End
wrong_first s n h k = cond (leb (get_or h.to k 0) (get_or h.next k 0)) none (fault n none (row_at s (get_or h.from k 0) k (get_or h.next k 0)))

-- how many streams there are, and where their rows begin and end, stays as it is
pub record RangesStay (h h' : Heads) : Type 0 where
  pub streams : h'.streams ≡ h.streams
  pub from : h'.from ≡ h.from
  pub to : h'.to ≡ h.to

-- the heads h with the first head of stream k read and checked: what is wrong, and the heads after it where nothing is
pub record BeginsAs (s : Cols) (n : ℕ) (h : Heads) (k : ℕ) (w : Result ⊤ End) (h' : Heads) : Type 0 where
  pub check : w ≡ check_of (wrong_first s n h k)
  pub heads : wrong_first s n h k ≡ none → h' ≡ load_one s h k

-- what loading asks: the arrays have their eight places, and the streams are placed
pub record Loadable (s : Cols) (h : Heads) : Type 0 where
  pub shaped : Shaped h
  pub placed : Placed s h.streams h.next h.from h.to

-- all first heads are read and checked: the first fault, and the heads after it where there is none
pub record LoadsAs (s : Cols) (n : ℕ) (h : Heads) (w : Result ⊤ End) (h' : Heads) : Type 0 where
  pub check : w ≡ check_of (loading n (fresh_of s h))
  pub heads : loading n (fresh_of s h) ≡ none → h' ≡ load_to s h h.streams

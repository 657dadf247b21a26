-- "One call for hosts takes all texts as bytes and writes this listing": what it answers and what the buffer holds, for all inputs.
use Rattle.std.specs.Prelude.{◌≡◌, cond, List, ◌++◌, ℕ, leb, length, drop}
use Rattle.lines.specs.Laid.{joined, fitting}
use Rattle.inputs.specs.Texts.{Texts}
use Rattle.listing.specs.Listing.{listing}
use Rattle.listing.specs.declared.Listing.{Listing}

-- "of a listing, the lines ahead of the first that doesn't fit": all of them where it is no longer than its buffer
abbrev pub held_of : ℕ → Texts → List ℕ
held_of space t = joined (fitting space (listing t))

pub record Writes (t : Texts) (old : List ℕ) (r : Listing) (new : List ℕ) : Type 0 where
  -- 14: "a listing longer than its buffer"
  pub number : r.number ≡ cond (leb (length (joined (listing t))) (length old)) 0 14
  pub size : r.length ≡ length (held_of (length old) t)
  pub written : new ≡ held_of (length old) t ++ drop (length (held_of (length old) t)) old

-- Laws of two columns read side by side as spans. Assumes nothing.
use Prim.Native.Nat.{ℕ, suc}
use mathlib.Core.Path.{◌≡◌, refl, ap}
use mathlib.Core.List.{List, [], ◌∷◌, zip_with}
use native.Mathlib.Omega.{arith}
use lib.ListN.{length}
use Rattle.spans.specs.declared.records.Records.{Records}
use Rattle.spans.specs.Spans.{spans}
use Rattle.spans.specs.Records.{spans_of}

pub length_spans : (ss es : List ℕ) → length ss ≡ length es → length (spans ss es) ≡ length ss
unfolding zip_with
length_spans [] es h = refl
length_spans (s ∷ ss) [] h = absurd (omega arith)
length_spans (s ∷ ss) (e ∷ es) h = ap suc (length_spans ss es (omega arith))

-- as many records as starts
pub count_of : (s : Records) → length (spans_of s) ≡ length s.starts.now
count_of s = length_spans s.starts.now s.stops.now s.even

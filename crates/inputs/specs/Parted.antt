-- "One call for hosts takes all texts as bytes": one text behind the other, and where each ends.
use Rattle.std.specs.Prelude.{Bool, cond, ◌&&◌, List, [], ◌∷◌, ℕ, leb, eqb, length}
use Rattle.fields.specs.Names.{part}
use Rattle.inputs.specs.Texts.{Texts, bytes_most}
use Rattle.rules.specs.Start.{within}

-- the texts from the place `at` on, by where each ends
unfoldable pub parted_at : List ℕ → ℕ → List ℕ → List (List ℕ)
parted_at bytes at [] = []
parted_at bytes at (e ∷ ends) = part at e bytes ∷ parted_at bytes e ends

-- the streams' texts: those behind the list's and the bases'
abbrev pub stream_texts : List ℕ → List ℕ → List (List ℕ)
stream_texts bytes [] = []
stream_texts bytes (a ∷ []) = []
stream_texts bytes (a ∷ b ∷ ends) = parted_at bytes b ends

-- the ends part n bytes: none of them falls, and the last is the end of the bytes
unfoldable pub parts_all : ℕ → ℕ → List ℕ → Bool
parts_all n at [] = eqb at n
parts_all n at (e ∷ ends) = leb at e && parts_all n e ends

-- the list, the bases, and the streams; of fewer texts than that there is no stream
abbrev pub texts_from : List (List ℕ) → Texts
texts_from [] = record { list = []; bases = []; streams = [] }
texts_from (l ∷ []) = record { list = l; bases = []; streams = [] }
texts_from (l ∷ b ∷ ss) = record { list = l; bases = b; streams = ss }

-- the texts that a call is given; ends that part no text give none, so that 1 is due for the stream count
unfoldable pub texts_of : List ℕ → List ℕ → Texts
texts_of bytes ends = cond (parts_all (length bytes) 0 ends) (texts_from (parted_at bytes 0 ends)) (texts_from [])

-- "First 1 for text size or stream count": not so of these
unfoldable pub sized_by : ℕ → List ℕ → Bool
sized_by n ends = leb n bytes_most && (within 3 10 (length ends) && parts_all n 0 ends)

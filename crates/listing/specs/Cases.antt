-- Listings, computed from the bytes of their texts: 01's own, and each of its sentences on what is judged before the run and what ends a listing.
use Rattle.std.specs.Prelude.{◌≡◌, refl, List, [], ◌∷◌, map, ℕ}
use Rattle.rules.specs.Merge.{pick}
use Rattle.rules.specs.Pull.{turns, pull}
use Rattle.rules.specs.Bases.{judge}
use Rattle.rules.specs.Offer.{offer}
use Rattle.rules.specs.Start.{refuses_start}
use Rattle.rules.specs.Call.{give}
use Rattle.rules.specs.Job.{replies}
use Rattle.fields.specs.Cut.{cut}
use Rattle.fields.specs.Number.{digits, value, number_of}
use Rattle.fields.specs.Names.{same, number_in}
use Rattle.fields.specs.Table.{read_lines}
use Rattle.chroms.specs.Entry.{entry_of}
use Rattle.rows.specs.Row.{row_of}
use Rattle.lines.specs.Lines.{spelled, decimal}
use Rattle.lines.specs.Laid.{joined}
use Rattle.inputs.specs.Texts.{fault_of}
use Rattle.listing.specs.Listing.{listing}

-- the texts, and the whole listing
pub record Case : Type 0 where
  pub list : List ℕ
  pub bases : List ℕ
  pub streams : List (List ℕ)
  pub whole : List ℕ

abbrev pub listing_of : Case → List ℕ
listing_of c = joined (listing (record { list = c.list; bases = c.bases; streams = c.streams }))

abbrev pub cases : List Case
cases =
    -- "The chromosome list `one 1000`, `two` (no length); bases on `one` 25-35, then 40-30; stream 0 on `one` 0-100, 10-20, 30-40. The whole listing"
    record {
      list = 111 ∷ 110 ∷ 101 ∷ 9 ∷ 49 ∷ 48 ∷ 48 ∷ 48 ∷ 10 ∷ 116 ∷ 119 ∷ 111 ∷ 10 ∷ [];
      bases = 111 ∷ 110 ∷ 101 ∷ 9 ∷ 50 ∷ 53 ∷ 9 ∷ 51 ∷ 53 ∷ 10 ∷ 111 ∷ 110 ∷ 101 ∷ 9 ∷ 52 ∷ 48 ∷ 9 ∷ 51 ∷ 48 ∷ 10 ∷ [];
      streams = (111 ∷ 110 ∷ 101 ∷ 9 ∷ 48 ∷ 9 ∷ 49 ∷ 48 ∷ 48 ∷ 10 ∷ 111 ∷ 110 ∷ 101 ∷ 9 ∷ 49 ∷ 48 ∷ 9 ∷ 50 ∷ 48 ∷ 10 ∷ 111 ∷ 110 ∷ 101 ∷ 9 ∷ 51 ∷ 48 ∷ 9 ∷ 52 ∷ 48 ∷ 10 ∷ []) ∷ [];
      whole = 66 ∷ 9 ∷ 111 ∷ 110 ∷ 101 ∷ 9 ∷ 50 ∷ 53 ∷ 9 ∷ 51 ∷ 53 ∷ 9 ∷ 50 ∷ 10 ∷ 82 ∷ 9 ∷ 48 ∷ 9 ∷ 48 ∷ 9 ∷ 48 ∷ 9 ∷ 49 ∷ 48 ∷ 48 ∷ 10 ∷ 82 ∷ 9 ∷ 48 ∷ 9 ∷ 50 ∷ 9 ∷ 51 ∷ 48 ∷ 9 ∷ 52 ∷ 48 ∷ 10 ∷ 88 ∷ 9 ∷ 54 ∷ 9 ∷ 49 ∷ 10 ∷ [];
    }
    ∷
    -- "First 1 for text size or stream count": no stream, and a list that is malformed
    record {
      list = 111 ∷ 110 ∷ 101 ∷ 9 ∷ 120 ∷ 10 ∷ [];
      bases = [];
      streams = [];
      whole = 88 ∷ 9 ∷ 49 ∷ 9 ∷ 48 ∷ 9 ∷ 48 ∷ 10 ∷ [];
    }
    ∷
    -- the list's 11, with the rows ahead, comes before 2: its names are there twice
    record {
      list = 111 ∷ 110 ∷ 101 ∷ 10 ∷ 111 ∷ 110 ∷ 101 ∷ 10 ∷ 120 ∷ 9 ∷ 49 ∷ 9 ∷ 50 ∷ 10 ∷ [];
      bases = [];
      streams = [] ∷ [];
      whole = 88 ∷ 9 ∷ 49 ∷ 49 ∷ 9 ∷ 48 ∷ 9 ∷ 50 ∷ 10 ∷ [];
    }
    ∷
    -- "1 for its count of names" comes before the bases' 11
    record {
      list = [];
      bases = 111 ∷ 110 ∷ 101 ∷ 10 ∷ [];
      streams = [] ∷ [];
      whole = 88 ∷ 9 ∷ 49 ∷ 9 ∷ 48 ∷ 9 ∷ 48 ∷ 10 ∷ [];
    }
    ∷
    -- "then 2": it comes before the bases' 11
    record {
      list = 111 ∷ 110 ∷ 101 ∷ 10 ∷ 111 ∷ 110 ∷ 101 ∷ 10 ∷ [];
      bases = 111 ∷ 110 ∷ 101 ∷ 10 ∷ [];
      streams = [] ∷ [];
      whole = 88 ∷ 9 ∷ 50 ∷ 9 ∷ 48 ∷ 9 ∷ 48 ∷ 10 ∷ [];
    }
    ∷
    -- "an empty name is 2"
    record {
      list = 9 ∷ 53 ∷ 10 ∷ [];
      bases = [];
      streams = [] ∷ [];
      whole = 88 ∷ 9 ∷ 50 ∷ 9 ∷ 48 ∷ 9 ∷ 48 ∷ 10 ∷ [];
    }
    ∷
    -- the bases' 11 comes before a stream's
    record {
      list = 111 ∷ 110 ∷ 101 ∷ 10 ∷ [];
      bases = 111 ∷ 110 ∷ 101 ∷ 9 ∷ 49 ∷ 9 ∷ 50 ∷ 10 ∷ 111 ∷ 110 ∷ 101 ∷ 9 ∷ 49 ∷ 10 ∷ [];
      streams = (111 ∷ 110 ∷ 101 ∷ 10 ∷ []) ∷ [];
      whole = 88 ∷ 9 ∷ 49 ∷ 49 ∷ 9 ∷ 49 ∷ 9 ∷ 49 ∷ 10 ∷ [];
    }
    ∷
    -- "2 and up streams": the second stream's first line is malformed
    record {
      list = 111 ∷ 110 ∷ 101 ∷ 10 ∷ [];
      bases = 111 ∷ 110 ∷ 101 ∷ 9 ∷ 49 ∷ 9 ∷ 50 ∷ 10 ∷ [];
      streams = (111 ∷ 110 ∷ 101 ∷ 9 ∷ 49 ∷ 9 ∷ 50 ∷ 10 ∷ []) ∷ (111 ∷ 110 ∷ 101 ∷ 9 ∷ 120 ∷ 9 ∷ 50 ∷ 10 ∷ []) ∷ [];
      whole = 88 ∷ 9 ∷ 49 ∷ 49 ∷ 9 ∷ 51 ∷ 9 ∷ 48 ∷ 10 ∷ [];
    }
    ∷
    -- "for 7 and 8 stream and row follow"; "after an ended run the listing stops"
    record {
      list = 111 ∷ 110 ∷ 101 ∷ 10 ∷ [];
      bases = 111 ∷ 110 ∷ 101 ∷ 9 ∷ 48 ∷ 9 ∷ 50 ∷ 48 ∷ 10 ∷ 111 ∷ 110 ∷ 101 ∷ 9 ∷ 48 ∷ 9 ∷ 51 ∷ 48 ∷ 10 ∷ [];
      streams = (111 ∷ 110 ∷ 101 ∷ 9 ∷ 53 ∷ 9 ∷ 57 ∷ 10 ∷ 111 ∷ 110 ∷ 101 ∷ 9 ∷ 51 ∷ 9 ∷ 52 ∷ 10 ∷ []) ∷ [];
      whole = 88 ∷ 9 ∷ 56 ∷ 9 ∷ 48 ∷ 9 ∷ 48 ∷ 9 ∷ 49 ∷ 10 ∷ [];
    }
    ∷
    -- 7 comes at the first accepted base: a name not on the list
    record {
      list = 111 ∷ 110 ∷ 101 ∷ 10 ∷ [];
      bases = 116 ∷ 119 ∷ 111 ∷ 9 ∷ 48 ∷ 9 ∷ 50 ∷ 48 ∷ 10 ∷ 111 ∷ 110 ∷ 101 ∷ 9 ∷ 48 ∷ 9 ∷ 51 ∷ 48 ∷ 10 ∷ [];
      streams = (111 ∷ 110 ∷ 101 ∷ 9 ∷ 49 ∷ 9 ∷ 50 ∷ 10 ∷ []) ∷ (116 ∷ 119 ∷ 111 ∷ 9 ∷ 53 ∷ 9 ∷ 57 ∷ 10 ∷ []) ∷ [];
      whole = 88 ∷ 9 ∷ 52 ∷ 9 ∷ 48 ∷ 10 ∷ 88 ∷ 9 ∷ 55 ∷ 9 ∷ 49 ∷ 9 ∷ 49 ∷ 9 ∷ 48 ∷ 10 ∷ [];
    }
    ∷
    -- "No base is left out": a refused base is listed, and the run goes on; a comment is passed by, and the last line may lack its LF
    record {
      list = 111 ∷ 110 ∷ 101 ∷ 9 ∷ 49 ∷ 48 ∷ 48 ∷ 48 ∷ 10 ∷ 116 ∷ 119 ∷ 111 ∷ 10 ∷ [];
      bases = 35 ∷ 32 ∷ 120 ∷ 10 ∷ 111 ∷ 110 ∷ 101 ∷ 9 ∷ 57 ∷ 57 ∷ 48 ∷ 9 ∷ 49 ∷ 48 ∷ 48 ∷ 49 ∷ 10 ∷ 10 ∷ 111 ∷ 110 ∷ 101 ∷ 9 ∷ 57 ∷ 57 ∷ 48 ∷ 9 ∷ 49 ∷ 48 ∷ 48 ∷ 48 ∷ [];
      streams = (111 ∷ 110 ∷ 101 ∷ 9 ∷ 57 ∷ 57 ∷ 53 ∷ 9 ∷ 49 ∷ 56 ∷ 52 ∷ 52 ∷ 54 ∷ 55 ∷ 52 ∷ 52 ∷ 48 ∷ 55 ∷ 51 ∷ 55 ∷ 48 ∷ 57 ∷ 53 ∷ 53 ∷ 49 ∷ 54 ∷ 49 ∷ 53 ∷ 9 ∷ 120 ∷ 10 ∷ []) ∷ [];
      whole = 88 ∷ 9 ∷ 51 ∷ 9 ∷ 48 ∷ 10 ∷ 66 ∷ 9 ∷ 111 ∷ 110 ∷ 101 ∷ 9 ∷ 57 ∷ 57 ∷ 48 ∷ 9 ∷ 49 ∷ 48 ∷ 48 ∷ 48 ∷ 9 ∷ 49 ∷ 10 ∷ 82 ∷ 9 ∷ 48 ∷ 9 ∷ 48 ∷ 9 ∷ 57 ∷ 57 ∷ 53 ∷ 9 ∷ 49 ∷ 56 ∷ 52 ∷ 52 ∷ 54 ∷ 55 ∷ 52 ∷ 52 ∷ 48 ∷ 55 ∷ 51 ∷ 55 ∷ 48 ∷ 57 ∷ 53 ∷ 53 ∷ 49 ∷ 54 ∷ 49 ∷ 53 ∷ 10 ∷ [];
    }
    ∷ []

pub listed : map listing_of cases ≡ map (λ c. c.whole) cases
unfolding listing fault_of refuses_start read_lines cut entry_of row_of number_in same number_of digits value decimal spelled replies give judge pull turns pick offer
listed = refl

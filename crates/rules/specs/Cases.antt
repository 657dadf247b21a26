-- "Boundary cases: Marked * are proved together of the definitions, as a single table with one fact". The easy slips that the document names
-- stand in it too, what 7, 8 and 9 come to behind one another, and bases that are left out, lawfully and not.
use Rattle.std.specs.Prelude.{◌≡◌, refl, Bool, true, false, not, ◌&&◌, List, [], ◌∷◌, map, ℕ, eqb}
use Rattle.std.proofs.Math.Option.{none, some}
use Rattle.rules.specs.declared.Row.{Row}
use Rattle.rules.specs.declared.Base.{Base}
use Rattle.rules.specs.Offered.{Offer}
use Rattle.std.specs.Prelude.{None, Some}
use Rattle.rules.specs.Numbers.{number_of, end_number, end_values}
use Rattle.rules.specs.Rows.{Record}
use Rattle.rules.specs.Merge.{pick, draw, merge}
use Rattle.rules.specs.Streams.{merged, taking}
use Rattle.rules.specs.Pull.{turns, pull}
use Rattle.rules.specs.Bases.{judge}
use Rattle.rules.specs.Offer.{offer}
use Rattle.rules.specs.Call as call
use Rattle.rules.specs.Call.{Reply, found, refused, ended, answer_of, offered}
use Rattle.rules.specs.Job.{Job, replies, answers}
use Rattle.rules.specs.Promise.{said, promised}
use Rattle.rules.specs.Skip.{Mark, give, skip, given, lawful}

-- where a record stands
pub record Seat : Type 0 where
  pub stream : ℕ
  pub row : ℕ

-- what a base must get: its records, in order, and the offer; or the refusal of a number; or 7 or 8, which name a record
pub data Want : Type 0 where
  rows : List Seat → Offer → Want
  number : ℕ → Want
  fault : ℕ → Seat → Want

-- a job, its bases, given or left out, whether those are left out lawfully, and what the given ones must get
pub record Case : Type 0 where
  pub job : Job
  pub bases : List (Mark Base)
  pub lawful : Bool
  pub wants : List Want

-- ---- how a case is written

abbrev one : ℕ → ℕ → Row
one s e = record { chrom = record { 0 = 0 }; start = s; stop = e }

abbrev two : ℕ → ℕ → Row
two s e = record { chrom = record { 0 = 1 }; start = s; stop = e }

abbrev on : Row → Base
on r = record { chrom = r.chrom; start = r.start; stop = r.stop }

abbrev bases : List Row → List (Mark Base)
bases [] = []
bases (r ∷ l) = give (on r) ∷ bases l

-- the chromosome list `one 1000`, `two` (no length)
abbrev job : ℕ → List (List Row) → Job
job Q ss = record { lengths = some 1000 ∷ none ∷ []; streams = ss; room = Q }

abbrev case : ℕ → List (List Row) → List Row → List Want → Case
case Q ss bs ws = record { job = job Q ss; bases = bases bs; lawful = true; wants = ws }

-- with bases left out: lawfully, or not
abbrev leaving : Bool → List (List Row) → List (Mark Base) → List Want → Case
leaving u ss l ws = record { job = job 4 ss; bases = l; lawful = u; wants = ws }

abbrev yes : Row → Mark Base
yes r = give (on r)

abbrev no : Row → Mark Base
no r = skip (on r)

abbrev at : ℕ → ℕ → Seat
at s r = record { stream = s; row = r }

-- records, with no offer; with an offer
abbrev just : List Seat → Want
just l = rows l None

abbrev upto : ℕ → ℕ → Offer
upto c s = Some (record { chrom = record { 0 = c }; stop = s })

-- ---- what it is for a reply to be the one that is wanted

abbrev same_offer : Offer → Offer → Bool
same_offer None None = true
same_offer None (Some h) = false
same_offer (Some g) None = false
same_offer (Some g) (Some h) = eqb g.chrom.0 h.chrom.0 && eqb g.stop h.stop

abbrev same_rows : List Seat → List Record → Bool
same_rows [] [] = true
same_rows [] (r ∷ rs) = false
same_rows (s ∷ l) [] = false
same_rows (s ∷ l) (r ∷ rs) = eqb s.stream r.stream.0 && (eqb s.row r.row && same_rows l rs)

abbrev same_values : List ℕ → List ℕ → Bool
same_values [] [] = true
same_values [] (n ∷ ns) = false
same_values (m ∷ ms) [] = false
same_values (m ∷ ms) (n ∷ ns) = eqb m n && same_values ms ns

abbrev same_bool : Bool → Bool → Bool
same_bool true u = u
same_bool false u = not u

abbrev meant : Want → Reply → Bool
meant (rows l o) (found rs p) = same_rows l rs && same_offer o p
meant (rows l o) (refused x) = false
meant (rows l o) (ended e) = false
meant (number k) r = eqb k (number_of (answer_of r))
meant (fault k s) (found rs p) = false
meant (fault k s) (refused x) = false
meant (fault k s) (ended e) = eqb k (end_number e) && same_values (s.stream ∷ s.row ∷ []) (end_values e)

abbrev all_meant : List Want → List Reply → Bool
all_meant [] [] = true
all_meant [] (r ∷ rs) = false
all_meant (w ∷ ws) [] = false
all_meant (w ∷ ws) (r ∷ rs) = meant w r && all_meant ws rs

-- the run gives what is wanted, and so does the promise; and bases are left out as the offers permit exactly if the case says so
abbrev right : Case → Bool
right c =
    let gets : List Reply = answers c.job (given c.bases) in
    all_meant c.wants gets && (all_meant c.wants (promised c.job (given c.bases)) && same_bool c.lawful (lawful None c.bases (map offered gets)))

abbrev all_right : List Case → Bool
all_right [] = true
all_right (c ∷ cs) = right c && all_right cs

-- ---- the table

abbrev four : List (List Row)
four = (one 0 100 ∷ one 10 20 ∷ one 30 40 ∷ one 50 60 ∷ []) ∷ []

abbrev pair : List (List Row)
pair = (one 10 12 ∷ one 50 60 ∷ []) ∷ []

abbrev far : List (List Row)
far = (two 200000 200010 ∷ []) ∷ []

abbrev further : List (List Row)
further = (two 200000 200010 ∷ two 900000 900010 ∷ []) ∷ []

abbrev next : List (List Row)
next = (two 500 600 ∷ []) ∷ []

abbrev pub cases : List Case
cases =
    -- "Base 10-20, records 0-10 and 20-30: none."
    case 4 ((one 0 10 ∷ one 20 30 ∷ []) ∷ []) (one 10 20 ∷ []) (just [] ∷ [])
    -- "Records 0-100, 10-20, 30-40; base 25-35: rows 0 and 2."
    ∷ case 4 ((one 0 100 ∷ one 10 20 ∷ one 30 40 ∷ []) ∷ []) (one 25 35 ∷ []) (just (at 0 0 ∷ at 0 2 ∷ []) ∷ [])
    -- "Base 5-5: record 3-8 yes, record 5-5 no. Base 3-8: record 5-5 yes."
    ∷ case 4 ((one 3 8 ∷ one 5 5 ∷ []) ∷ []) (one 5 5 ∷ []) (just (at 0 0 ∷ []) ∷ [])
    ∷ case 4 ((one 5 5 ∷ []) ∷ []) (one 3 8 ∷ []) (just (at 0 0 ∷ []) ∷ [])
    -- "Stream 0: 5-9. Stream 1: 5-9, 5-7. Base 0-6: stream 0 row 0, stream 1 rows 0, 1."
    ∷ case 4 ((one 5 9 ∷ []) ∷ (one 5 9 ∷ one 5 7 ∷ []) ∷ []) (one 0 6 ∷ []) (just (at 0 0 ∷ at 1 0 ∷ at 1 1 ∷ []) ∷ [])
    -- "Bases 10-30, 10-20, 10-30: accepted, 5, accepted."
    ∷ case 4 ([] ∷ []) (one 10 30 ∷ one 10 20 ∷ one 10 30 ∷ []) (just [] ∷ number 5 ∷ just [] ∷ [])
    -- "990-1000 accepted, 990-1001 is 3; on `two` both are accepted."
    ∷ case 4 ([] ∷ []) (one 990 1000 ∷ one 990 1001 ∷ two 990 1000 ∷ two 990 1001 ∷ []) (just [] ∷ number 3 ∷ just [] ∷ just [] ∷ [])
    -- "Records 0-100, 10-20, 30-40, 50-60, bases 0-5, 25-35, 32-60: with Q = 2 the third is 9, with Q = 3 it gets rows 0, 2, 3."
    ∷ case 2 four (one 0 5 ∷ one 25 35 ∷ one 32 60 ∷ []) (just (at 0 0 ∷ []) ∷ just (at 0 0 ∷ at 0 2 ∷ []) ∷ number 9 ∷ [])
    ∷ case 3 four (one 0 5 ∷ one 25 35 ∷ one 32 60 ∷ []) (just (at 0 0 ∷ []) ∷ just (at 0 0 ∷ at 0 2 ∷ []) ∷ just (at 0 0 ∷ at 0 2 ∷ at 0 3 ∷ []) ∷ [])
    -- "Records 10-12, 50-60, base 0-100: Q = 1 gives 9. Q = 2: base 1-2 after it gets none."
    ∷ case 1 pair (one 0 100 ∷ []) (number 9 ∷ [])
    ∷ case 2 pair (one 0 100 ∷ one 1 2 ∷ []) (just (at 0 0 ∷ at 0 1 ∷ []) ∷ just [] ∷ [])
    -- "On `two`, base 0-10, record 100010-100020: no offer. Record 100011-100020: place 100010."
    ∷ case 4 ((two 100010 100020 ∷ []) ∷ []) (two 0 10 ∷ []) (just [] ∷ [])
    ∷ case 4 ((two 100011 100020 ∷ []) ∷ []) (two 0 10 ∷ []) (rows [] (upto 1 100010) ∷ [])
    -- "On `two`, records 5-50, 200000-200010, 900000-900010: after 0-10 no offer, after 60-70 place 199999."
    ∷ case 4 ((two 5 50 ∷ two 200000 200010 ∷ two 900000 900010 ∷ []) ∷ []) (two 0 10 ∷ two 60 70 ∷ []) (just (at 0 0 ∷ []) ∷ rows [] (upto 1 199999) ∷ [])
    -- "Easy slips: stopping the queue scan at the first expired record; letting expired records cause 9": row 0 expires ahead of row 1
    ∷ case 2 ((one 0 10 ∷ one 5 100 ∷ one 20 30 ∷ []) ∷ []) (one 0 15 ∷ one 15 25 ∷ []) (just (at 0 0 ∷ at 0 1 ∷ []) ∷ just (at 0 1 ∷ at 0 2 ∷ []) ∷ [])
    -- "counting a touching record": it would use up room, too
    ∷ case 1 pair (one 0 50 ∷ []) (just (at 0 0 ∷ []) ∷ [])
    -- "7 is tested before 8": a row that starts too early and stops before it starts
    ∷ case 4 ((one 10 20 ∷ one 5 3 ∷ []) ∷ []) (one 0 100 ∷ []) (number 7 ∷ [])
    -- "offering by heads alone": the record that waits lies far behind the second base
    ∷ case 4 ((two 900000 900010 ∷ []) ∷ []) (two 0 1000000 ∷ two 10 20 ∷ []) (just (at 0 0 ∷ []) ∷ rows [] (upto 1 899999) ∷ [])
    -- "T on a later chromosome: the place is T's chromosome and start."; "After a base of length zero nothing is offered."
    ∷ case 4 ((two 500 600 ∷ []) ∷ []) (one 0 10 ∷ one 10 10 ∷ []) (rows [] (upto 1 500) ∷ just [] ∷ [])
    -- by chromosome, start, stop and stream: two streams, a tie at the start that the stop decides
    ∷ case 4 ((one 5 9 ∷ []) ∷ (one 5 7 ∷ []) ∷ []) (one 0 6 ∷ []) (just (at 1 0 ∷ at 0 0 ∷ []) ∷ [])
    -- "Numbers 7 and 8 name stream and row": at the loading; at a row behind a head that is taken; a chromosome that falls is 8
    ∷ case 4 ((one 0 10 ∷ []) ∷ (one 9 3 ∷ []) ∷ []) (one 0 100 ∷ one 0 100 ∷ []) (fault 7 (at 1 0) ∷ fault 7 (at 1 0) ∷ [])
    ∷ case 4 ((one 0 10 ∷ []) ∷ (one 0 5 ∷ one 10 20 ∷ one 5 30 ∷ []) ∷ []) (one 0 8 ∷ one 0 100 ∷ []) (just (at 1 0 ∷ at 0 0 ∷ []) ∷ fault 8 (at 1 2) ∷ [])
    ∷ case 4 ((two 0 10 ∷ one 20 30 ∷ []) ∷ []) (two 0 100 ∷ []) (fault 8 (at 0 1) ∷ [])
    -- a record that finds no room behind one whose successor is at fault: the fault; ahead of it: 9
    ∷ case 1 ((one 10 20 ∷ one 12 22 ∷ one 5 8 ∷ []) ∷ []) (one 0 100 ∷ []) (fault 8 (at 0 2) ∷ [])
    ∷ case 1 ((one 10 20 ∷ one 12 22 ∷ one 14 24 ∷ one 5 8 ∷ []) ∷ []) (one 0 100 ∷ []) (number 9 ∷ [])
    -- "those with stop at or below it", of the place 199999; one past it; before any offer
    ∷ leaving true far (yes (two 0 10) ∷ no (two 20 199999) ∷ yes (two 199990 200005) ∷ []) (rows [] (upto 1 199999) ∷ just (at 0 0 ∷ []) ∷ [])
    ∷ leaving false far (yes (two 0 10) ∷ no (two 20 200000) ∷ []) (rows [] (upto 1 199999) ∷ [])
    ∷ leaving false far (no (two 0 10) ∷ yes (two 20 30) ∷ []) (rows [] (upto 1 199999) ∷ [])
    -- "it holds until the next offer": over a base that offers nothing; the next offer reaches further
    ∷ leaving true far (yes (two 0 10) ∷ yes (two 15 15) ∷ no (two 20 199999) ∷ []) (rows [] (upto 1 199999) ∷ just [] ∷ [])
    ∷ leaving true further (yes (two 0 10) ∷ yes (two 250000 250010) ∷ no (two 250020 899999) ∷ []) (rows [] (upto 1 199999) ∷ rows [] (upto 1 899999) ∷ [])
    ∷ leaving false further (yes (two 0 10) ∷ no (two 250020 899999) ∷ yes (two 250030 250040) ∷ []) (rows [] (upto 1 199999) ∷ rows [] (upto 1 899999) ∷ [])
    -- "the following bases on earlier chromosomes", and on its own those with stop at or below it
    ∷ leaving true next (yes (one 0 10) ∷ no (one 20 1000) ∷ no (two 0 500) ∷ yes (two 0 501) ∷ []) (rows [] (upto 1 500) ∷ just (at 0 0 ∷ []) ∷ [])
    ∷ leaving false next (yes (one 0 10) ∷ no (two 0 501) ∷ []) (rows [] (upto 1 500) ∷ [])
    ∷ []

-- the one fact
pub starred : all_right cases ≡ true
unfolding pick draw merge merged taking turns pull judge offer call.give replies said
starred = refl

-- "Leaving out bases never changes a report. Take valid streams and bases whose rows are all valid and in order. A base source may leave out any
-- bases that the last offered place permits. Every base given is then answered or refused as in the full run, and every base left out has no
-- record there."
use mathlib.Core.Path.{◌≡◌, refl, sym, ap, ◌∙◌}
use mathlib.Core.Bool.{Bool, true, false, cond}
use mathlib.Core.Logic.{◌⊎◌, inl, inr}
use mathlib.Core.Option.{Option, none, some}
use mathlib.Core.List.{List, [], ◌∷◌, ◌++◌, map}
use Prim.Native.Nat.{ℕ, ◌-◌, ◌≤◌, ◌<◌}
use native.Mathlib.Omega.{arith}
use lib.Dec.{ltb, leb}
use lib.ListN.{length, get_or}
use borrow.Author.Tests.{ltb-true, leb-true, le-ltb, le-leb}
use Rattle.basics.specs.Lists.{filter, first_one, All, cons, Pairs, Has, here, there}
use Rattle.basics.proofs.BoolLaws.{and_left, and_also, clash}
use Rattle.basics.proofs.ListLaws.{all_map, all_head, all_tail, pairs_map, pairs_to}
use Rattle.basics.proofs.LexLaws.{lex_true, lex_fail, lex_map, lex_pass}
use Rattle.rules.specs.declared.Base.{Base}
use Rattle.rules.specs.declared.Place.{Place}
use Rattle.rules.specs.Offered.{Offer}
use Rattle.std.specs.Prelude.{None, Some}
use Rattle.rules.specs.declared.Refusal.{Refusal}
use Rattle.rules.specs.declared.Refusal.TheVariants.{Beyond, Unlisted, Unordered, Reversed}
use Rattle.rules.specs.declared.End.{End}
use Rattle.rules.specs.declared.End.TheVariants.{NoRoom}
use Rattle.rules.specs.Numbers.{refusal_number, end_number, number_of}
use Rattle.rules.specs.Rows.{Record, numbered, good}
use Rattle.rules.specs.Streams.{taking}
use Rattle.rules.specs.Overlap.{overlaps, taken, awaited}
use Rattle.rules.specs.Bases.{not_before, in_order, beyond, judge}
use Rattle.rules.specs.Offer.{target, far, place_for, offer, permits, hold, allowed}
use Rattle.rules.specs.Call.{Reply, found, refused, ended, answer_of, offered, loading}
use Rattle.rules.specs.Job.{Job, answers, merged_of}
use Rattle.rules.specs.Promise.{records, unless_refused, unless_ended, ending, said}
use Rattle.rules.specs.Skip.{Mark, give, skip, every, given, missed, heard, lawful}
use Rattle.rules.specs.Demands.{ValidStreams, accepted, Spot, Accepted}
use Rattle.theory.proofs.Mode.{Since}
use Rattle.theory.proofs.Modes.{Before, overlap, overlap_laws, due_overlaps, awaits_beyond}
use Rattle.theory.proofs.StreamLaws.{merged_good}
use Rattle.theory.proofs.ValidLaws.{loads}
use Rattle.theory.proofs.Calls.{stops}
use Rattle.theory.proofs.Answers.{judge_order, Chain, start, more, chain_since, same, sorted, stops_ending, answers_promised}
use Rattle.theory.proofs.Skipping.{InOrder, Idle, Skips, gave, left, from_here, verdicts, skip_same, missed_due}

-- ---- a place permits only what draws no record from T on

short : (t : Record) (c : Base) (u : ℕ) → u ≤ t.it.start → permits (record { chrom = t.it.chrom; stop = u }) c ≡ true → taken c t ≡ false
short t c u h e =
    lex_fail t.it.chrom.0 c.chrom.0 _
    (lex_map (λ f. le-ltb t.it.start c.stop (omega (arith, leb-true c.stop u f))) (lex_true c.chrom.0 t.it.chrom.0 (leb c.stop u) e))

place_short : (p c : Base) (t : Record) (g : Place) → place_for p (some t) ≡ Some g → permits g c ≡ true → taken c t ≡ false
place_short p c t g e h = case (ltb p.chrom.0 t.it.chrom.0) (far p t) e
  where
    case : (u v : Bool) → cond u (Some (record { chrom = t.it.chrom; stop = t.it.start })) (cond v (Some (record { chrom = t.it.chrom; stop = t.it.start - 1 })) None) ≡ Some g → taken c t ≡ false
    case true v q = let z : g ≡ record { chrom = t.it.chrom; stop = t.it.start } = cc in short t c t.it.start (omega arith) (rw z at h)
    case false true q = let z : g ≡ record { chrom = t.it.chrom; stop = t.it.start - 1 } = cc in short t c (t.it.start - 1) (omega arith) (rw z at h)
    case false false q = let z : ◌≡◌ {A = ℕ} 0 1 = cc in absurd (omega arith)

-- ---- what the last offered place permits may be left out

module _ (n : ℕ) (M : List Record) (goods : All (λ r. good n r.it ≡ true) M) where
  -- all that a base of some length does not draw waits for it
  ready : (p : Base) → p.start < p.stop → All (λ r. taken p r ≡ false → awaited p r ≡ true) M
  ready p h = all_map (λ r g f. awaits_beyond p r h (leb-true r.it.start r.it.stop (and_also (ltb r.it.chrom.0 n) _ g)) f) goods

  offer_idle : (hs : List Base) (p c : Base) (g : Place) → Has p hs → offer M p ≡ Some g → permits g c ≡ true → Idle overlap M hs c
  unfolding offer
  offer_idle hs p c g i e h = case (ltb p.start p.stop) (target M p) refl refl e
    where
      case : (u : Bool) (o : Option Record) → ltb p.start p.stop ≡ u → target M p ≡ o → cond u (place_for p o) None ≡ Some g → Idle overlap M hs c
      case true (some t) d f q =
          record { from = p; was = i; target = t; offered = f; short = place_short p c t g q h; beyond = ready p (ltb-true p.start p.stop d) }
      case true none d f q = let z : ◌≡◌ {A = ℕ} 0 1 = cc in absurd (omega arith)
      case false o d f q = let z : ◌≡◌ {A = ℕ} 0 1 = cc in absurd (omega arith)

  -- the place in force was offered after one of the bases
  record Offered (hs : List Base) (g : Place) : Type 0 where
    after : Base
    was : Has after hs
    made : offer M after ≡ Some g

  abbrev InForce : List Base → Offer → Type 0
  InForce hs None = Unit {0}
  InForce hs (Some g) = Offered hs g

  -- what a reply offers is nothing, or the base's offer
  abbrev pub Made : Base → Reply → Type 0
  Made b r = (offered r ≡ None) ⊎ (offered r ≡ offer M b)

  kept : (hs : List Base) (b : Base) (g : Offer) → InForce hs g → InForce (b ∷ hs) g
  kept hs b None h = tt
  kept hs b (Some g) h = record { after = h.after; was = there h.was; made = h.made }

  hold_next : (hs : List Base) (b : Base) (g : Offer) → InForce hs g → (o : Offer) → (o ≡ None) ⊎ (o ≡ offer M b) → InForce (b ∷ hs) (hold g o)
  hold_next hs b g h None e = kept hs b g h
  hold_next hs b g h (Some x) (inl e) = let z : ◌≡◌ {A = ℕ} 0 1 = cc in absurd (omega arith)
  hold_next hs b g h (Some x) (inr e) = record { after = b; was = here; made = sym e }

  allowed_idle : (hs : List Base) (c : Base) (g : Offer) → InForce hs g → allowed g c ≡ true → Idle overlap M hs c
  allowed_idle hs c None h e = clash e refl
  allowed_idle hs c (Some g) h e = offer_idle hs h.after c g h.was h.made e

  lawful_skips : (hs : List Base) (g : Offer) → InForce hs g → (l : List (Mark Base)) {rs : List Reply} → Pairs Made (given l) rs → lawful g l (map offered rs) ≡ true → Skips overlap M hs l
  lawful_skips hs g h [] Pairs.nil e = Skips.stop
  lawful_skips hs g h (give b ∷ l) (Pairs.cons {y = r} p ps) e = gave (lawful_skips (b ∷ hs) (hold g (offered r)) (hold_next hs b g h (offered r) p) l ps e)
  lawful_skips hs g h (skip c ∷ l) {rs} ps e =
      left (allowed_idle hs c g h (and_left (allowed g c) (lawful g l (map offered rs)) e)) (lawful_skips hs g h l ps (and_also (allowed g c) (lawful g l (map offered rs)) e))

  pub permitted : (l : List (Mark Base)) {rs : List Reply} → Pairs Made (given l) rs → lawful None l (map offered rs) ≡ true → Skips overlap M [] l
  permitted l ps e = lawful_skips [] None tt l ps e

-- ---- bases that are all accepted

pub data AllAccepted (lengths : List (Option ℕ)) : List Base → List Base → Type 0 where
  stop : {hs : List Base} → AllAccepted lengths hs []
  go : {hs : List Base} {b : Base} {bs : List Base} → judge lengths (first_one hs) b ≡ none → AllAccepted lengths (b ∷ hs) bs → AllAccepted lengths hs (b ∷ bs)

module _ (lengths : List (Option ℕ)) where
  pub from_spots : (hs bs : List Base) → ((pre : List Base) (b : Base) (post : List Base) → bs ≡ pre ++ b ∷ post → judge lengths (first_one (accepted lengths hs pre)) b ≡ none) → AllAccepted lengths hs bs
  from_spots hs [] f = AllAccepted.stop
  from_spots hs (b ∷ bs) f =
      let e : judge lengths (first_one hs) b ≡ none = f [] b bs refl in
      AllAccepted.go e (from_spots (b ∷ hs) bs (λ pre c post q. rw e at (f (b ∷ pre) c post (rw q))))

  accepted_order : {hs bs : List Base} → Chain hs → AllAccepted lengths hs bs → InOrder overlap hs bs
  accepted_order c AllAccepted.stop = InOrder.stop
  accepted_order {hs} c (AllAccepted.go {b = b} e a) =
      let o : Since overlap hs b = chain_since c b (judge_order lengths (first_one hs) b e) in
      InOrder.go o (accepted_order (more o c) a)

  -- what is accepted behind one base is accepted behind any other that it follows
  judge_any : (p q : Option Base) (b : Base) → judge lengths p b ≡ none → in_order q b ≡ true → judge lengths q b ≡ none
  unfolding judge
  judge_any p q b e h = rw h (case (leb (length lengths) b.chrom.0) (ltb b.stop b.start) (beyond (get_or lengths b.chrom.0 none) b.stop) (in_order p b) e)
    where
      case : (u v w t : Bool) → cond u (some Unlisted) (cond v (some Reversed) (cond w (some Beyond) (cond t none (some Unordered)))) ≡ none
          → cond u (some Unlisted) (cond v (some Reversed) (cond w (some Beyond) none)) ≡ none
      case true v w t z = z
      case false true w t z = z
      case false false true t z = z
      case false false false t z = refl

  not_before_lem : (p b : Base) → Before p b → not_before p b ≡ true
  not_before_lem p b h = lex_pass p.chrom.0 b.chrom.0 _ (lex_map (λ k. lex_pass p.start b.start _ (lex_map (λ x. le-leb p.stop b.stop x) k)) h)

  since_order : (ks : List Base) (b : Base) → Since overlap ks b → in_order (first_one ks) b ≡ true
  since_order [] b o = refl
  since_order (p ∷ ks) b (cons h k) = not_before_lem p b h

  given_accepted : {hs : List Base} (ks : List Base) → Chain hs → ((b : Base) → Since overlap hs b → Since overlap ks b) → (l : List (Mark Base)) → AllAccepted lengths hs (every l) → AllAccepted lengths ks (given l)
  given_accepted ks c f [] a = AllAccepted.stop
  given_accepted {hs} ks c f (give b ∷ l) (AllAccepted.go e a) =
      let o : Since overlap hs b = chain_since c b (judge_order lengths (first_one hs) b e) in
      AllAccepted.go (judge_any (first_one hs) (first_one ks) b e (since_order ks b (f b o))) (given_accepted (b ∷ ks) (more o c) (λ d k. cons (all_head k) (f d (all_tail k))) l a)
  given_accepted {hs} ks c f (skip b ∷ l) (AllAccepted.go e a) =
      let o : Since overlap hs b = chain_since c b (judge_order lengths (first_one hs) b e) in
      given_accepted ks (more o c) (λ d k. f d (all_tail k)) l a

-- ---- the replies of accepted bases, from the verdicts

module _ (M : List Record) where
  abbrev dress : Base → Option End → Reply
  dress b none = found (filter (overlaps b) M) (offer M b)
  dress b (some e) = ended e

  abbrev dressed : List Base → List (Option End) → List Reply
  dressed [] vs = []
  dressed (b ∷ bs) [] = []
  dressed (b ∷ bs) (v ∷ vs) = dress b v ∷ dressed bs vs

  dressed_none : (bs : List Base) → dressed bs [] ≡ []
  dressed_none [] = refl
  dressed_none (b ∷ bs) = refl

  dressed_ended : (e : End) (bs : List Base) → dressed bs (map (λ b. some e) bs) ≡ map (λ b. ended e) bs
  dressed_ended e [] = refl
  dressed_ended e (b ∷ bs) = rw (dressed_ended e bs)

  heard_dressed : (l : List (Mark Base)) (vs : List (Option End)) → heard l (dressed (every l) vs) ≡ dressed (given l) (heard l vs)
  heard_dressed [] vs = refl
  heard_dressed (give b ∷ l) [] = refl
  heard_dressed (give b ∷ l) (v ∷ vs) = rw (heard_dressed l vs)
  heard_dressed (skip c ∷ l) [] = sym (dressed_none (given l))
  heard_dressed (skip c ∷ l) (v ∷ vs) = heard_dressed l vs

-- a refusal's number, and an end's, is no base's answer
refusal_positive : {P : Type 0} (x : Refusal) → refusal_number x ≡ 0 → P
refusal_positive Refusal.Sizes e = absurd (omega arith)
refusal_positive Refusal.Beyond e = absurd (omega arith)
refusal_positive Refusal.Unlisted e = absurd (omega arith)
refusal_positive Refusal.Unordered e = absurd (omega arith)
refusal_positive Refusal.Reversed e = absurd (omega arith)

end_positive : {P : Type 0} (x : End) → end_number x ≡ 0 → P
end_positive (End.Faulty s r) e = absurd (omega arith)
end_positive (End.Unsorted s r) e = absurd (omega arith)
end_positive End.NoRoom e = absurd (omega arith)
end_positive End.NoRows e = absurd (omega arith)

-- a base that is answered is offered what the document says
abbrev pub Exact : List Record → Base → Reply → Type 0
Exact M b r = number_of (answer_of r) ≡ 0 → offered r ≡ offer M b

pub said_exact : (j : Job) (hs bs : List Base) → Pairs (Exact (merged_of j)) bs (said j hs bs)
unfolding said
said_exact j hs [] = Pairs.nil
said_exact j hs (b ∷ bs) = case (judge j.lengths (first_one hs) b) (ending (length j.lengths) j.room (numbered 0 j.streams) hs b) (said_exact j hs bs) (said_exact j (b ∷ hs) bs)
  where
    case : (o : Option Refusal) (e : Option End) → Pairs (Exact (merged_of j)) bs (said j hs bs) → Pairs (Exact (merged_of j)) bs (said j (b ∷ hs) bs)
        → Pairs (Exact (merged_of j)) (b ∷ bs)
        (unless_refused o (said j hs bs) (unless_ended e (b ∷ bs) (found (filter (overlaps b) (merged_of j)) (offer (merged_of j) b) ∷ said j (b ∷ hs) bs)))
    case (some x) e h k = Pairs.cons (λ z. refusal_positive x z) h
    case none (some e) h k = pairs_to (ended e) (λ x z. end_positive e z) (b ∷ bs)
    case none none h k = Pairs.cons (λ z. refl) k

exact_made : (n : ℕ) (M : List Record) (goods : All (λ r. good n r.it ≡ true) M) (b : Base) (r : Reply) → Exact M b r → Made n M goods b r
exact_made n M goods b (found l o) h = inr (h refl)
exact_made n M goods b (refused x) h = inl refl
exact_made n M goods b (ended e) h = inl refl

module _ (j : Job) (ok : ValidStreams j) where
  abbrev all : List Record
  all = merged_of j

  abbrev ends : List Base → List Base → List (Option End)
  ends hs bs = verdicts overlap NoRoom (taking (length j.lengths) (numbered 0 j.streams)) j.room hs bs

  sure : loading (length j.lengths) (numbered 0 j.streams) ≡ none
  sure = loads j ok

  goods : All (λ r. good (length j.lengths) r.it ≡ true) all
  goods = merged_good (length j.lengths) j.streams

  said_dressed : {hs : List Base} (bs : List Base) → Chain hs → AllAccepted j.lengths hs bs → said j hs bs ≡ dressed all bs (ends hs bs)
  unfolding said verdicts
  said_dressed [] c a = refl
  said_dressed {hs} (b ∷ bs) c (AllAccepted.go e a) =
      let o : Since overlap hs b = chain_since c b (judge_order j.lengths (first_one hs) b e) in
      rw (e, ← stops_ending j sure hs b o) (case (stops overlap NoRoom (taking (length j.lengths) (numbered 0 j.streams)) j.room hs b) (said_dressed bs (more o c) a))
    where
      case : (v : Option End) → said j (b ∷ hs) bs ≡ dressed all bs (ends (b ∷ hs) bs)
          → unless_ended v (b ∷ bs) (dress all b none ∷ said j (b ∷ hs) bs)
          ≡ dressed all (b ∷ bs) (from_here overlap NoRoom (taking (length j.lengths) (numbered 0 j.streams)) j.room v (b ∷ bs) (ends (b ∷ hs) bs))
      case none h = rw h
      case (some x) h = sym (dressed_ended all x (b ∷ bs))

  module _ (l : List (Mark Base)) (fit : (at : Spot (every l)) → Accepted j at) (legal : lawful None l (map offered (answers j (given l))) ≡ true) where
    fits : AllAccepted j.lengths [] (every l)
    fits = from_spots j.lengths [] (every l) (λ pre b post q. fit (record { ahead = pre; base = b; later = post; whole = q }))

    fits_given : AllAccepted j.lengths [] (given l)
    fits_given = given_accepted j.lengths [] start (λ b h. h) l fits

    order : InOrder overlap [] (every l)
    order = accepted_order j.lengths start fits

    idle : Skips overlap (records (taking (length j.lengths) (numbered 0 j.streams))) [] l
    idle = rw (same j sure) at (permitted (length j.lengths) all goods l (pairs_map (exact_made (length j.lengths) all goods) (said_exact j [] (given l))) (rw (answers_promised j (given l)) at legal))

    -- every base given is answered or refused as in the full run
    pub given_same : answers j (given l) ≡ heard l (answers j (every l))
    given_same =
        answers_promised j (given l) ∙ said_dressed (given l) start fits_given
        ∙ ap (dressed all (given l)) (sym (skip_same overlap overlap_laws NoRoom (taking (length j.lengths) (numbered 0 j.streams)) j.room (sorted j sure) l order idle))
        ∙ sym (heard_dressed all l (ends [] (every l)))
        ∙ ap (heard l) (sym (said_dressed (every l) start fits) ∙ sym (answers_promised j (every l)))

    -- every base left out has no record
    pub missed_none : All (λ c. filter (overlaps c) all ≡ []) (missed l)
    missed_none =
        all_map (λ c h. rw (same j sure) (sym (due_overlaps (records (taking (length j.lengths) (numbered 0 j.streams))) c) ∙ h))
        (missed_due overlap overlap_laws NoRoom (taking (length j.lengths) (numbered 0 j.streams)) j.room (sorted j sure) l order idle)

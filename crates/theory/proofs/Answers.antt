-- The replies of a run, one pull after the other, are those that are promised: for every job, valid or not.
use mathlib.Core.Path.{◌≡◌, refl, sym, ap, ◌∙◌}
use mathlib.Core.Bool.{Bool, true, false, cond}
use mathlib.Core.Option.{Option, none, some}
use mathlib.Core.List.{List, [], ◌∷◌, ◌++◌, map, cons≢nil}
use Prim.Native.Nat.{ℕ, ◌<◌}
use native.Mathlib.Omega.{arith}
use lib.Dec.{ltb, leb}
use lib.ListN.{length, get_or}
use borrow.Author.Tests.{le-ltb, ltb-true, leb-true}
use Rattle.basics.specs.Lists.{keep, filter, first_one, first, All, nil, Sorted}
use Rattle.basics.proofs.BoolLaws.{and_also}
use Rattle.basics.proofs.ListLaws.{all_right, all_first}
use Rattle.rules.specs.declared.Base.{Base}
use Rattle.rules.specs.declared.Refusal.{Refusal}
use Rattle.rules.specs.declared.Refusal.TheVariants.{Beyond, Unlisted, Unordered, Reversed}
use Rattle.rules.specs.declared.End.{End}
use Rattle.rules.specs.declared.End.TheVariants.{NoRoom}
use Rattle.rules.specs.declared.Stage.{Stage}
use Rattle.rules.specs.declared.Stage.TheVariants.{Fresh, After, Over}
use Rattle.std.specs.Prelude.{None}
use Rattle.rules.specs.Rows.{Record, numbered, good}
use Rattle.rules.specs.Merge.{Pick, pick, onto}
use Rattle.rules.specs.Streams.{ahead, next, Head, taking}
use Rattle.rules.specs.Overlap.{overlaps, taken, live, awaited}
use Rattle.rules.specs.Pull.{Pull, paused, ends, pull}
use Rattle.rules.specs.Bases.{in_order, beyond, judge}
use Rattle.rules.specs.Offer.{target, place_for, offer}
use Rattle.rules.specs.Call.{Run, Reply, found, ended, fresh, loading, coming, after_pull, judged, give}
use Rattle.rules.specs.Job.{Job, lending, onward, replies, answers, merged_of}
use Rattle.rules.specs.Promise.{clear, records, ending, unless_ended, unless_refused, said, promised}
use Rattle.theory.proofs.Mode.{Since, own, due}
use Rattle.theory.proofs.Modes.{Le, before_not, overlap, overlap_laws, due_overlaps, held_crowd, awaits_beyond, since_next}
use Rattle.theory.proofs.StreamLaws.{merged_sorted, merged_good, merged_taking}
use Rattle.theory.proofs.TakingLaws.{all, all_next, all_none}
use Rattle.theory.proofs.Turns.{shown, pull_stride}
use Rattle.theory.proofs.Calls.{Reached, Call, stops, fresh_reached, call}

-- ---- 4, 6, 3 and 5

-- an accepted base is in order
pub judge_order : (lengths : List (Option ℕ)) (last : Option Base) (b : Base) → judge lengths last b ≡ none → in_order last b ≡ true
unfolding judge
judge_order lengths last b e = go (leb (length lengths) b.chrom.0) (ltb b.stop b.start) (beyond (get_or lengths b.chrom.0 none) b.stop) (in_order last b) refl e
  where
    go : (u v w t : Bool) → in_order last b ≡ t → cond u (some Unlisted) (cond v (some Reversed) (cond w (some Beyond) (cond t none (some Unordered)))) ≡ none → in_order last b ≡ true
    go true v w t q z = let x : ◌≡◌ {A = ℕ} 0 1 = cc in absurd (omega arith)
    go false true w t q z = let x : ◌≡◌ {A = ℕ} 0 1 = cc in absurd (omega arith)
    go false false true t q z = let x : ◌≡◌ {A = ℕ} 0 1 = cc in absurd (omega arith)
    go false false false true q z = q
    go false false false false q z = let x : ◌≡◌ {A = ℕ} 0 1 = cc in absurd (omega arith)

-- the accepted bases, the last first, each in order behind the one before it
pub data Chain : List Base → Type 0 where
  start : Chain []
  more : {b : Base} {hs : List Base} → Since overlap hs b → Chain hs → Chain (b ∷ hs)

pub chain_since : {hs : List Base} → Chain hs → (b : Base) → in_order (first_one hs) b ≡ true → Since overlap hs b
chain_since start b e = nil
chain_since (more {b = p} o c) b e = since_next p b o (before_not p b e)

-- ---- after an end

replies_over : (lengths : List (Option ℕ)) (Q : ℕ) (left : List (List Record)) (queue : List Record) (e : End) (bs : List Base)
    → replies lengths Q (record { left = left; queue = queue; stage = Over e }) bs ≡ map (λ b. ended e) bs
unfolding replies give
replies_over lengths Q left queue e [] = refl
replies_over lengths Q left queue e (b ∷ bs) = ap (λ (l : List Reply). ended e ∷ l) (replies_over lengths Q left queue e bs)

-- ---- the offer is the same for lists that have the same records to wait for

pub offer_same : (l k : List Record) (p : Base) → filter (awaited p) l ≡ filter (awaited p) k → offer l p ≡ offer k p
unfolding offer
offer_same l k p e = rw e

-- nothing behind the first that passes is looked for
first_passes : {A : Type 0} (p : A → Bool) (q : List A) (t : A) (l : List A) → p t ≡ true → first p (q ++ t ∷ []) ≡ first p (q ++ t ∷ l)
first_passes p [] t l e = rw e
first_passes p (x ∷ q) t l e = go (p x) (first_passes p q t l e)
  where
    go : (u : Bool) → first p (q ++ t ∷ []) ≡ first p (q ++ t ∷ l) → first_one (keep u x (filter p (q ++ t ∷ []))) ≡ first_one (keep u x (filter p (q ++ t ∷ l)))
    go true k = refl
    go false k = k

-- the least head stands for all that is left: a good record that a base of some length does not take is awaited
offer_least : (n : ℕ) (b : Base) (left : List (List Record)) (queue : List Record) → All (λ r. taken b r ≡ false) (records (taking n left)) → All (λ r. good n r.it ≡ true) (records (taking n left))
    → offer (coming left queue) b ≡ offer (queue ++ records (taking n left)) b
unfolding offer taking
offer_least n b left queue off fine = go (ltb b.start b.stop) refl
  where
    seek : b.start < b.stop → (o : Pick Record) → pick ahead left ≡ o → first (awaited b) (queue ++ onto (λ ts. []) o) ≡ first (awaited b) (queue ++ records (all ahead (next n) left))
    seek h Pick.none e = rw (all_none ahead (next n) left e)
    seek h (Pick.one t rest ts) e =
        let w : all ahead (next n) left ≡ _ = (all_next ahead (next n) left e).whole in
        let waits : awaited b t ≡ true =
        awaits_beyond b t h (leb-true t.it.start t.it.stop (and_also (ltb t.it.chrom.0 n) _ (all_first (rw w at fine)))) (all_first (rw w at off)) in
        rw w (first_passes (awaited b) queue t _ waits)

    go : (u : Bool) → ltb b.start b.stop ≡ u → cond u (place_for b (target (coming left queue) b)) None ≡ cond u (place_for b (target (queue ++ records (taking n left)) b)) None
    go false e = refl
    go true e = ap (place_for b) (seek (ltb-true b.start b.stop e) (pick ahead left) refl)

module _ (j : Job) where
  abbrev pub n : ℕ
  n = length j.lengths

  abbrev pub ss : List (List Record)
  ss = numbered 0 j.streams

  abbrev pub C : List (Head Record End)
  C = taking n ss

  -- a run after the accepted bases `hs`
  abbrev stage_of : List Base → Stage
  stage_of [] = Fresh
  stage_of (p ∷ hs) = After p

  abbrev standing : List Base → List (List Record) → List Record → Run
  standing hs left queue = record { left = left; queue = queue; stage = stage_of hs }

  record Stands (hs : List Base) (left : List (List Record)) (queue : List Record) : Type 0 where
    loads : hs ≡ [] → left ≡ ss
    chain : Chain hs
    reached : Reached overlap NoRoom C j.room hs (taking n left) queue

  -- a fault at the loading ends the run at the first accepted base
  module _ (e : End) (wrong : loading n ss ≡ some e) where
    replies_wrong : (bs : List Base) → replies j.lengths j.room (fresh j.streams) bs ≡ said j [] bs
    unfolding replies said give
    replies_wrong [] = refl
    replies_wrong (b ∷ bs) =
        rw wrong (go (judge j.lengths none b) (replies_wrong bs) (replies_over j.lengths j.room (map (λ s. []) ss) [] e bs))
      where
        go : (o : Option Refusal) → replies j.lengths j.room (fresh j.streams) bs ≡ said j [] bs
            → replies j.lengths j.room (record { left = map (λ s. []) ss; queue = []; stage = Over e }) bs ≡ map (λ b. ended e) bs
            → onward (judged n j.room j.room (fresh j.streams) b (some e) o) (λ t. replies j.lengths j.room t bs)
            ≡ unless_refused o (said j [] bs) (map (λ b. ended e) (b ∷ bs))
        go (some x) k q = rw k
        go none k q = rw q

  module _ (sure : loading n ss ≡ none) where
    abbrev pub M : List Record
    M = merged_of j

    pub same : M ≡ records C
    same = merged_taking n j.streams sure

    pub sorted : Sorted Le (records C)
    sorted = rw same at (merged_sorted n j.streams)

    -- what ends the run, in the document's words
    pub stops_ending : (hs : List Base) (b : Base) → Since overlap hs b → stops overlap NoRoom C j.room hs b ≡ ending n j.room ss hs b
    stops_ending hs b o = rw (sure, held_crowd (records (clear C)) hs b o)

    -- the next base's pull
    abbrev pulled : Base → List (List Record) → List Record → Pull Record End
    pulled b left queue = pull ahead (next n) NoRoom (taken b) (live b) j.room left (filter (live b) queue)

    called : (hs : List Base) (b : Base) (left : List (List Record)) (queue : List Record) → Stands hs left queue → Since overlap hs b
        → Call overlap NoRoom C j.room hs b (shown ahead (next n) NoRoom (pulled b left queue))
    unfolding taking
    called hs b left queue s o =
        rw (pull_stride ahead (next n) NoRoom overlap j.room b left (filter (live b) queue))
        (call overlap overlap_laws NoRoom C j.room sorted hs b (taking n left) queue s.reached o)

    -- the records that are found, and the offer
    found_exact : (b : Base) (queue : List Record) → filter (own overlap b) queue ≡ due overlap (records C) b → filter (overlaps b) queue ≡ filter (overlaps b) M
    found_exact b queue e = sym (due_overlaps queue b) ∙ e ∙ due_overlaps (records C) b ∙ rw same

    -- a base that is accepted, and what comes after it
    went : (hs : List Base) (b : Base) (left : List (List Record)) (queue : List Record) → Stands hs left queue → Since overlap hs b → (bs : List Base)
        → ((l : List (List Record)) (q : List Record) → Stands (b ∷ hs) l q → replies j.lengths j.room (standing (b ∷ hs) l q) bs ≡ said j (b ∷ hs) bs)
        → (p : Pull Record End) → Call overlap NoRoom C j.room hs b (shown ahead (next n) NoRoom p)
        → onward (after_pull j.room (standing hs left queue) b p) (λ t. replies j.lengths j.room t bs)
        ≡ unless_ended (ending n j.room ss hs b) (b ∷ bs) (found (filter (overlaps b) M) (offer M b) ∷ said j (b ∷ hs) bs)
    unfolding taking
    went hs b left queue s o bs k (ends e) c = rw (← stops_ending hs b o, c, replies_over j.lengths j.room (map (λ s. []) left) [] e bs)
    went hs b left queue s o bs k (paused l q) c =
        let hits : filter (overlaps b) q ≡ filter (overlaps b) M = found_exact b q c.exact in
        let few : ltb j.room (length (filter (overlaps b) M)) ≡ false =
        le-ltb j.room (length (filter (overlaps b) M)) (rw (same, ← due_overlaps (records C) b) c.few) in
        let fine : All (λ r. good n r.it ≡ true) (records (taking n l)) = all_right c.done (rw (same, c.split) at (merged_good n j.streams)) in
        let place : offer (coming l q) b ≡ offer M b =
        offer_least n b l q c.undrawn fine ∙ offer_same (q ++ records (taking n l)) M b (rw same c.awaits) in
        let on : Stands (b ∷ hs) l q = record { loads = λ e. absurd (cons≢nil e); chain = more o s.chain; reached = c.reached } in
        rw (← stops_ending hs b o, c.unstopped, hits, few, place, k l q on)

    give_judged : (hs : List Base) (b : Base) (left : List (List Record)) (queue : List Record) → Stands hs left queue
        → give j.lengths j.room (lending j.room) (standing hs left queue) b ≡ judged n j.room j.room (standing hs left queue) b none (judge j.lengths (first_one hs) b)
    unfolding give
    give_judged [] b left queue s = rw (s.loads refl, sure)
    give_judged (p ∷ hs) b left queue s = refl

    replies_from : (bs hs : List Base) (left : List (List Record)) (queue : List Record) → Stands hs left queue
        → replies j.lengths j.room (standing hs left queue) bs ≡ said j hs bs
    unfolding replies said
    replies_from [] hs left queue s = refl
    replies_from (b ∷ bs) hs left queue s =
        rw (give_judged hs b left queue s) (go (judge j.lengths (first_one hs) b) refl (replies_from bs hs left queue s) (replies_from bs (b ∷ hs)))
      where
        go : (o : Option Refusal) → judge j.lengths (first_one hs) b ≡ o → replies j.lengths j.room (standing hs left queue) bs ≡ said j hs bs
            → ((l : List (List Record)) (q : List Record) → Stands (b ∷ hs) l q → replies j.lengths j.room (standing (b ∷ hs) l q) bs ≡ said j (b ∷ hs) bs)
            → onward (judged n j.room j.room (standing hs left queue) b none o) (λ t. replies j.lengths j.room t bs)
            ≡ unless_refused o (said j hs bs) (unless_ended (ending n j.room ss hs b) (b ∷ bs) (found (filter (overlaps b) M) (offer M b) ∷ said j (b ∷ hs) bs))
        go (some x) e k f = rw k
        go none e k f =
            let o : Since overlap hs b = chain_since s.chain b (judge_order j.lengths (first_one hs) b e) in
            went hs b left queue s o bs f (pulled b left queue) (called hs b left queue s o)

-- the replies of every job are those that are promised
pub answers_promised : (j : Job) (bs : List Base) → answers j bs ≡ promised j bs
answers_promised j bs = go (loading (length j.lengths) (numbered 0 j.streams)) refl
  where
    go : (o : Option End) → loading (length j.lengths) (numbered 0 j.streams) ≡ o → answers j bs ≡ promised j bs
    go (some e) w = replies_wrong j e w bs
    go none w =
        replies_from j w bs [] (numbered 0 j.streams) []
        (record { loads = λ e. refl; chain = start; reached = fresh_reached overlap overlap_laws NoRoom (taking (length j.lengths) (numbered 0 j.streams)) j.room (sorted j w) })

-- The loop of a pull: what is left and what waits give the same pull as at its start, and each way out settles the call.
use mathlib.Core.Path.{◌≡◌, refl, sym, ap, ◌∙◌}
use mathlib.Core.Bool.{Bool, true, false, cond}
use mathlib.Core.List.{List, [], ◌∷◌, ◌++◌, append-nil}
use Prim.Native.Nat.{ℕ, zero, suc}
use native.Mathlib.Omega.{arith}
use lib.Dec.{leb, ltb}
use lib.ListN.{length}
use borrow.Author.Tests.{le-leb, lt-leb, le-ltb}
use Rattle.basics.specs.Lists.{total, filter, keep, first_one, All, nil, cons}
use Rattle.basics.proofs.ListLaws.{all_append, length_filter}
use Rattle.rules.specs.declared.Base.{Base}
use Rattle.rules.specs.declared.Chrom.{Chrom}
use Rattle.rules.specs.declared.End.{End}
use Rattle.rules.specs.declared.End.TheVariants.{NoRoom}
use Rattle.rules.specs.declared.Answer.{Answer}
use Rattle.rules.specs.declared.Answer.TheVariants as answer
use Rattle.rules.specs.Rows.{Record}
use Rattle.rules.specs.Streams.{ahead, next}
use Rattle.rules.specs.Overlap.{taken, live, overlaps}
use Rattle.rules.specs.Pull.{Pull, paused, ends, pull}
use Rattle.rules.specs.Offer.{offer}
use Rattle.rules.specs.Call.{coming}
use Rattle.least.specs.declared.Best.{Best}
use Rattle.std.specs.Prelude.{Result, Ok, Err}
use Rattle.std.specs.Prelude as std
use Rattle.heads.specs.declared.Taken.{Taken}
use Rattle.heads.specs.declared.Move.{Move}
use Rattle.heads.specs.declared.Move.TheVariants as move
use Rattle.heads.specs.View.{Cols, Heads, rests_of}
use Rattle.heads.specs.Move.{turn_of, moved, taken_record}
use Rattle.heads.proofs.RestLaws.{on_move, queued, pull_move}
use Rattle.heads.proofs.TurnLaws.{Turning, Takes, turn_here, stays_best}
use Rattle.queue.specs.declared.Ring.{Ring}
use Rattle.queue.specs.Ring.{Cells, Fair, record_of, waiting}
use Rattle.queue.specs.Deeds.{front_of}
use Rattle.queue.proofs.Waiting.{length_waiting}
use Rattle.offers.specs.Offers.{offer_by, Reports}
use Rattle.offers.proofs.OfferLaws.{offer_by_lem}
use Rattle.pulls.specs.Pulls.{after_turns, drawn_to, Kept, Lent, lent, Drawable, slot_of, KeptAs, FullAs, DrawsAs}

-- ---- the heads

-- where no head is to be taken the heads stay
turns_stay : (s : Cols) (n : ℕ) (b : Base) (k : ℕ) (h : Heads) (x : std.Option Best) → turn_of s n b h ≡ Ok (move.Stay x) → after_turns s n b k h ≡ h
unfolding after_turns
turns_stay s n b zero h x e = refl
turns_stay s n b (suc k) h x e = ap (λ (m : Result Move End). after_turns s n b k (moved h m)) e ∙ turns_stay s n b k h x e

-- a turn that leaves one row less is one of the turns
turns_next : (s : Cols) (n : ℕ) (b : Base) (h g : Heads) → moved h (turn_of s n b h) ≡ g → total (rests_of s h) ≡ suc (total (rests_of s g)) → drawn_to s n b h ≡ drawn_to s n b g
unfolding after_turns
turns_next s n b h g e f = ap (λ (k : ℕ). after_turns s n b k h) f ∙ ap (after_turns s n b (total (rests_of s g))) e

-- ---- the queue

pub fair_kept : {q w : Ring} {c d : Cells} → Fair q c → Fair w d → w.room ≡ q.room → Kept c d
fair_kept f g e = g.slots ∙ e ∙ sym f.slots

-- ---- the loop

-- h, q and l: the heads, the ring and what was lent at the start; n: the number of chromosomes
module _ (s : Cols) (n : ℕ) (h : Heads) (b : Base) (q : Ring) (l : Lent) where
  -- the pull from what is left and what waits
  abbrev from : Heads → List Record → Pull Record End
  from u queue = pull ahead (next n) NoRoom (taken b) (live b) q.room (rests_of s u) queue

  -- u, w and c: the heads, the ring and the queue's memory at a turn
  pub record Drawing (u : Heads) (w : Ring) (c : Cells) : Type 0 where
    pub turning : Turning s u
    pub fair : Fair w c
    pub chrom : w.chrom ≡ b.chrom
    pub cleared : All (λ a. live b a ≡ true) (waiting w c)
    pub room : w.room ≡ q.room
    pub kept : Kept l.cells c
    pub pulls : from u (waiting w c) ≡ from h (waiting q l.cells)
    pub draws : drawn_to s n b u ≡ drawn_to s n b h

  pub starts : Drawable s h b q l → Drawing h q l.cells
  starts d = record {
    turning = record { placed = d.placed; shaped = d.shaped };
    fair = d.fair;
    chrom = d.chrom;
    cleared = d.cleared;
    room = refl;
    kept = refl;
    pulls = refl;
    draws = refl;
  }

  module _ (u : Heads) (w : Ring) (c : Cells) (d : Drawing u w c) where
    abbrev pub here : Result Move End
    here = turn_here s u d.turning n b

    -- a turn of the pull
    pub on_move_lem : (m : Result Move End) → m ≡ here → from u (waiting w c) ≡ on_move s u n b NoRoom q.room (waiting w c) m
    on_move_lem m e = pull_move s u d.turning.shaped d.turning.placed.few n b NoRoom q.room (waiting w c) ∙ ap (on_move s u n b NoRoom q.room (waiting w c)) (sym e)

    -- what waits after a head was taken
    more_kept : (t : Taken) (w' : Ring) (c' : Cells) → KeptAs w c t w' c' → waiting w' c' ≡ waiting w c ++ keep t.live (taken_record b t) []
    more_kept t w' c' k = k.more ∙ ap (λ (x : Chrom). waiting w c ++ keep t.live (record_of x (slot_of t)) []) d.chrom

    -- the pull goes on from it
    queued_kept : (t : Taken) (w' : Ring) (c' : Cells) → KeptAs w c t w' c' → (ss : List (List Record))
        → queued n b NoRoom q.room (waiting w c) t ss ≡ pull ahead (next n) NoRoom (taken b) (live b) q.room ss (waiting w' c')
    queued_kept t w' c' k ss = rw (more_kept t w' c' k) (go t.live refl)
      where
        go : (v : Bool) → t.live ≡ v
            → cond v (cond (leb q.room (length (waiting w c))) (ends NoRoom) (pull ahead (next n) NoRoom (taken b) (live b) q.room ss (waiting w c ++ taken_record b t ∷ []))) (pull ahead (next n) NoRoom (taken b) (live b) q.room ss (waiting w c))
            ≡ pull ahead (next n) NoRoom (taken b) (live b) q.room ss (waiting w c ++ keep v (taken_record b t) [])
        go true e = rw (lt-leb q.room (length (waiting w c)) (omega (arith, k.fewer e, d.room)))
        go false e = rw (append-nil (waiting w c))

    pub queued_full : (t : Taken) (c' : Cells) → FullAs w c t c' → (ss : List (List Record)) → queued n b NoRoom q.room (waiting w c) t ss ≡ ends NoRoom
    queued_full t c' k ss = rw (k.lives, le-leb q.room (length (waiting w c)) (omega (arith, k.full, d.room)))

    still_live : (t : Taken) (w' : Ring) (c' : Cells) → KeptAs w c t w' c' → (t.live ≡ true → live b (taken_record b t) ≡ true) → All (λ a. live b a ≡ true) (waiting w' c')
    still_live t w' c' k lively = rw (more_kept t w' c' k) (all_append d.cleared (go t.live lively))
      where
        go : (v : Bool) → (v ≡ true → live b (taken_record b t) ≡ true) → All (λ a. live b a ≡ true) (keep v (taken_record b t) [])
        go true f = cons (f refl) nil
        go false f = nil

    -- a head was taken: g are the heads after it
    pub steps : (m : Result Move End) → m ≡ here → (t : Taken) (g : Heads) → Takes s b u t g → moved u m ≡ g
        → on_move s u n b NoRoom q.room (waiting w c) m ≡ queued n b NoRoom q.room (waiting w c) t (rests_of s g)
        → (w' : Ring) (c' : Cells) → KeptAs w c t w' c' → Drawing g w' c'
    steps m e t g k to-g on w' c' p = record {
      turning = k.turning;
      fair = p.fair;
      chrom = p.chrom ∙ d.chrom;
      cleared = still_live t w' c' p k.lively;
      room = p.room ∙ d.room;
      kept = fair_kept d.fair p.fair p.room ∙ d.kept;
      pulls = sym (queued_kept t w' c' p (rests_of s g)) ∙ sym on ∙ sym (on_move_lem m e) ∙ d.pulls;
      draws = sym (turns_next s n b u g (ap (moved u) (sym e) ∙ to-g) k.less) ∙ d.draws;
    }

    -- ---- the ways out

    -- the run ends by e
    pub ends_so : {u' : Heads} (e : End) (c' : Cells) (r : List (List ℕ)) → Kept l.cells c' → from h (waiting q l.cells) ≡ ends e
        → r ≡ l.answers → DrawsAs s n h b q l (record { ring = w; answer = answer.Ended e }) u' (lent c' r)
    ends_so e c' r k is same = rw (is, same) (record { answer = refl; found = λ z. absurd z; kept = k; answers = refl })

    -- no head is to be taken: the base is answered
    pub stays_so : Drawable s h b q l → (m : Result Move End) → m ≡ here → (x : std.Option Best) → m ≡ Ok (move.Stay x) → (a : Answer) (r : List (List ℕ)) → Reports w c x b l.answers a r
        → DrawsAs s n h b q l (record { ring = w; answer = a }) u (lent c r)
    stays_so z m e x i a r k = rw is_paused (rw few (record {
      answer = k.answer ∙ rw place;
      found = λ y. record { shaped = d.turning.shaped; heads = sym last_heads; run = refl; fair = d.fair; room = d.room };
      kept = d.kept;
      answers = k.answers;
    }))
      where
        is_paused : from h (waiting q l.cells) ≡ paused (rests_of s u) (waiting w c)
        is_paused = sym d.pulls ∙ on_move_lem m e ∙ ap (on_move s u n b NoRoom q.room (waiting w c)) i

        few : ltb (length l.answers) (length (filter (overlaps b) (waiting w c))) ≡ false
        few = le-ltb (length l.answers) (length (filter (overlaps b) (waiting w c))) (omega (arith, length_filter (overlaps b) (waiting w c), length_waiting w c, d.fair.sound.fits, d.room, z.answers))

        place : offer_by b (front_of (first_one (waiting w c))) x ≡ offer (coming (rests_of s u) (waiting w c)) b
        place = ap (offer_by b (front_of (first_one (waiting w c)))) (stays_best s u d.turning n b m e x i)
            ∙ offer_by_lem b (rests_of s u) (waiting w c) d.cleared

        last_heads : drawn_to s n b h ≡ u
        last_heads = sym d.draws ∙ turns_stay s n b (total (rests_of s u)) u x (sym e ∙ i)

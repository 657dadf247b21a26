-- ""No room" comes at a base exactly if more than Q records of its chromosome end after its start and begin before the largest stop given on
-- that chromosome so far, or the run has ended so. A larger Q agrees until a smaller one refuses."
use mathlib.Core.Path.{◌≡◌, refl, ap}
use mathlib.Core.Bool.{Bool, true, false, cond}
use mathlib.Core.Logic.{◌⊎◌, inl, inr}
use mathlib.Core.Option.{Option, none, some}
use mathlib.Core.List.{List, [], ◌∷◌, ◌++◌, map}
use Prim.Native.Nat.{ℕ, suc, ◌≤◌}
use native.Mathlib.Omega.{arith}
use lib.Dec.{ltb}
use lib.ListN.{length, length-map, get_or}
use borrow.Author.Tests.{le-ltb, ltb-false}
use Rattle.basics.specs.Lists.{is_some, filter, first_one, Pairs}
use Rattle.basics.proofs.BoolLaws.{clash}
use Rattle.basics.proofs.ListLaws.{pairs_same, pairs_all, get_d_constant}
use Rattle.rules.specs.declared.Base.{Base}
use Rattle.rules.specs.declared.Refusal.{Refusal}
use Rattle.rules.specs.declared.Refusal.TheVariants.{Sizes}
use Rattle.rules.specs.declared.End.{End}
use Rattle.rules.specs.declared.End.TheVariants.{NoRoom}
use Rattle.rules.specs.Rows.{Record, numbered}
use Rattle.rules.specs.Streams.{else, taking}
use Rattle.rules.specs.Overlap.{overlaps, taken}
use Rattle.rules.specs.Bases.{judge}
use Rattle.rules.specs.Offer.{offer}
use Rattle.rules.specs.Call.{Reply, found, refused, ended, loading}
use Rattle.rules.specs.Job.{Job, merged_of}
use Rattle.rules.specs.Promise.{crowd, clear, wall, records, struck, unless_refused, unless_ended, ending, said}
use Rattle.rules.specs.Demands.{ValidStreams, overfull, is_no_room, with_room}
use Rattle.theory.proofs.ValidLaws.{valid_ending}

module _ (j : Job) where
  abbrev M : List Record
  M = merged_of j

  abbrev due : Base → Reply
  due b = found (filter (overlaps b) M) (offer M b)

  -- ---- exactly then

  module _ (ok : ValidStreams j) (b : Base) (post : List Base) where
    -- where b is not refused: it is full, or the others come
    full_here : (hs : List Base) (pre : List Base) (o : Option Refusal) (f : Bool)
        → is_no_room (get_or (said j hs (pre ++ b ∷ post)) (length pre) (refused Sizes)) ≡ overfull j hs (pre ++ b ∷ [])
        → (a : Base) → is_no_room (get_or (said j (a ∷ hs) (pre ++ b ∷ post)) (length pre) (refused Sizes)) ≡ overfull j (a ∷ hs) (pre ++ b ∷ [])
        → is_no_room (get_or (unless_refused o (said j hs (pre ++ b ∷ post)) (unless_ended (cond f (some NoRoom) none) (a ∷ pre ++ b ∷ post) (due a ∷ said j (a ∷ hs) (pre ++ b ∷ post)))) (suc (length pre)) (refused Sizes))
        ≡ cond (is_some o) (overfull j hs (pre ++ b ∷ [])) (cond f true (overfull j (a ∷ hs) (pre ++ b ∷ [])))
    full_here hs pre (some x) f same a more = same
    full_here hs pre none true same a more = rw (get_d_constant (ended NoRoom) (refused Sizes) pre b post)
    full_here hs pre none false same a more = more

    pub room_exact : (hs pre : List Base) → is_no_room (get_or (said j hs (pre ++ b ∷ post)) (length pre) (refused Sizes)) ≡ overfull j hs (pre ++ b ∷ [])
    unfolding said
    room_exact hs [] = rw (valid_ending j ok hs b) (go (judge j.lengths (first_one hs) b) (ltb j.room (length (crowd M hs b))))
      where
        go : (o : Option Refusal) (f : Bool)
            → is_no_room (get_or (unless_refused o (said j hs post) (unless_ended (cond f (some NoRoom) none) (b ∷ post) (due b ∷ said j (b ∷ hs) post))) 0 (refused Sizes))
            ≡ cond (is_some o) false (cond f true false)
        go (some Refusal.Sizes) f = refl
        go (some Refusal.Beyond) f = refl
        go (some Refusal.Unlisted) f = refl
        go (some Refusal.Unordered) f = refl
        go (some Refusal.Reversed) f = refl
        go none true = refl
        go none false = refl
    room_exact hs (a ∷ pre) = rw (valid_ending j ok hs a) (full_here hs pre (judge j.lengths (first_one hs) a) (ltb j.room (length (crowd M hs a))) (room_exact hs pre) a (room_exact (a ∷ hs) pre))

-- ---- a larger room

abbrev pub Agree : Reply → Reply → Type 0
Agree r s = (r ≡ ended NoRoom) ⊎ (r ≡ s)

ended_length : (o : Option End) (bs : List Base) (rs : List Reply) → length rs ≡ length bs → length (unless_ended o bs rs) ≡ length bs
ended_length none bs rs h = h
ended_length (some e) bs rs h = length-map bs (λ (x : Base). ended e)

refused_length : (o : Option Refusal) (n : ℕ) (same rs : List Reply) → length same ≡ n → length rs ≡ suc n → length (unless_refused o same rs) ≡ suc n
refused_length (some x) n same rs h k = ap suc h
refused_length none n same rs h k = k

said_length : (j : Job) (hs bs : List Base) → length (said j hs bs) ≡ length bs
unfolding said
said_length j hs [] = refl
said_length j hs (b ∷ bs) =
    refused_length (judge j.lengths (first_one hs) b) (length bs) (said j hs bs)
    (unless_ended (ending (length j.lengths) j.room (numbered 0 j.streams) hs b) (b ∷ bs) (due j b ∷ said j (b ∷ hs) bs))
    (said_length j hs bs)
    (ended_length (ending (length j.lengths) j.room (numbered 0 j.streams) hs b) (b ∷ bs) (due j b ∷ said j (b ∷ hs) bs) (ap suc (said_length j (b ∷ hs) bs)))

module _ (j : Job) (Q : ℕ) (more : j.room ≤ Q) where
  abbrev wide : Job
  wide = with_room j Q

  -- one base: `load` is the fault of the loading, f and g are the lacks of room, `wrong` is what is met otherwise
  agree_here : (hs : List Base) (b : Base) (bs : List Base) (o : Option Refusal) (load : Option End) (f g : Bool) (wrong : Option End) → (f ≡ false → g ≡ false)
      → Pairs Agree (said j hs bs) (said wide hs bs) → Pairs Agree (said j (b ∷ hs) bs) (said wide (b ∷ hs) bs)
      → Pairs Agree
      (unless_refused o (said j hs bs) (unless_ended (else load (cond f (some NoRoom) wrong)) (b ∷ bs) (due j b ∷ said j (b ∷ hs) bs)))
      (unless_refused o (said wide hs bs) (unless_ended (else load (cond g (some NoRoom) wrong)) (b ∷ bs) (due j b ∷ said wide (b ∷ hs) bs)))
  agree_here hs b bs (some x) load f g wrong h same next = Pairs.cons (inr refl) same
  agree_here hs b bs none (some e) f g wrong h same next = pairs_same (λ r. inr refl) (map (λ (x : Base). ended e) (b ∷ bs))
  agree_here hs b bs none none true g wrong h same next =
      pairs_all (ended NoRoom) (λ y. inl refl) (b ∷ bs) (unless_ended (cond g (some NoRoom) wrong) (b ∷ bs) (due j b ∷ said wide (b ∷ hs) bs))
      (ended_length (cond g (some NoRoom) wrong) (b ∷ bs) (due j b ∷ said wide (b ∷ hs) bs) (ap suc (said_length wide (b ∷ hs) bs)))
  agree_here hs b bs none none false true wrong h same next = clash {u = true} refl (h refl)
  agree_here hs b bs none none false false (some e) h same next = pairs_same (λ r. inr refl) (map (λ (x : Base). ended e) (b ∷ bs))
  agree_here hs b bs none none false false none h same next = Pairs.cons (inr refl) next

  pub larger : (hs bs : List Base) → Pairs Agree (said j hs bs) (said wide hs bs)
  unfolding said
  larger hs [] = Pairs.nil
  larger hs (b ∷ bs) =
      let held : ℕ = length (crowd (records (clear (taking (length j.lengths) (numbered 0 j.streams)))) hs b) in
      agree_here hs b bs (judge j.lengths (first_one hs) b) (loading (length j.lengths) (numbered 0 j.streams)) (ltb j.room held) (ltb Q held)
      (struck (taken b) (wall (taking (length j.lengths) (numbered 0 j.streams))))
      (λ e. le-ltb Q held (omega (arith, ltb-false j.room held e))) (larger hs bs) (larger (b ∷ hs) bs)

-- Laws of lists: what a test keeps, the start that passes, facts of each element, order, pairs.
use mathlib.Core.Path.{◌≡◌, refl, ◌∙◌}
use mathlib.Core.Bool.{Bool, true, false, cond, ◌&&◌}
use mathlib.Core.List.{List, [], ◌∷◌, ◌++◌, append-nil, map}
use mathlib.Core.Option.{some}
use Prim.Native.Nat.{ℕ, suc, ◌≤◌}
use native.Mathlib.Omega.{arith}
use lib.ListN.{length, get_or}
use Rattle.basics.proofs.BoolLaws.{and_false, and_true, and_drop, and_left, and_also, clash}
use Rattle.basics.specs.Lists.{keep, filter, front, back, first, all, All, nil, cons, Pairs, Sorted, next, Has, here, there}

module _ {A : Type 0} where
  keep_append : (t : Bool) (x : A) (l m : List A) → keep t x (l ++ m) ≡ keep t x l ++ m
  keep_append true x l m = refl
  keep_append false x l m = refl

  pub filter_append : (p : A → Bool) (l m : List A) → filter p (l ++ m) ≡ filter p l ++ filter p m
  filter_append p [] m = refl
  filter_append p (x ∷ l) m = rw (filter_append p l m) (keep_append (p x) x (filter p l) (filter p m))

  pub filter_cong : {p q : A → Bool} {l : List A} → All (λ x. p x ≡ q x) l → filter p l ≡ filter q l
  filter_cong nil = refl
  filter_cong (cons h k) = rw (h, filter_cong k)

  keep_keep : (p : A → Bool) (t : Bool) (x : A) (l : List A) → filter p (keep t x l) ≡ keep (t && p x) x (filter p l)
  keep_keep p true x l = refl
  keep_keep p false x l = refl

  pub filter_filter : (p q : A → Bool) (l : List A) → filter p (filter q l) ≡ filter (λ x. q x && p x) l
  filter_filter p q [] = refl
  filter_filter p q (x ∷ l) = rw (keep_keep p (q x) x (filter q l), filter_filter p q l)

  pub filter_none : {p : A → Bool} {l : List A} → All (λ x. p x ≡ false) l → filter p l ≡ []
  filter_none nil = refl
  filter_none (cons h k) = rw h (filter_none k)

  pub filter_all : {p : A → Bool} {l : List A} → All (λ x. p x ≡ true) l → filter p l ≡ l
  filter_all nil = refl
  filter_all (cons h k) = rw (h, filter_all k)

  pub all_map : {P Q : A → Type 0} {l : List A} → ((x : A) → P x → Q x) → All P l → All Q l
  all_map f nil = nil
  all_map f (cons h k) = cons (f _ h) (all_map f k)

  pub all_both : {P Q : A → Type 0} {l : List A} → All P l → All Q l → All (λ x. P x × Q x) l
  all_both nil k = nil
  all_both (cons h t) (cons k u) = cons (h, k) (all_both t u)

  pub all_first : {P : A → Type 0} {x : A} {l : List A} → All P (x ∷ l) → P x
  all_first (cons h k) = h

  pub all_append : {P : A → Type 0} {l m : List A} → All P l → All P m → All P (l ++ m)
  all_append nil k = k
  all_append (cons h t) k = cons h (all_append t k)

  pub all_left : {P : A → Type 0} (l m : List A) → All P (l ++ m) → All P l
  all_left [] m h = nil
  all_left (x ∷ l) m (cons h k) = cons h (all_left l m k)

  pub all_right : {P : A → Type 0} (l : List A) {m : List A} → All P (l ++ m) → All P m
  all_right [] h = h
  all_right (x ∷ l) (cons h k) = all_right l k

  pub sorted_left : {le : A → A → Type 0} (l m : List A) → Sorted le (l ++ m) → Sorted le l
  sorted_left [] m h = Sorted.none
  sorted_left (x ∷ l) m (next h k) = next (all_left l m h) (sorted_left l m k)

  pub sorted_right : {le : A → A → Type 0} (l : List A) {m : List A} → Sorted le (l ++ m) → Sorted le m
  sorted_right [] h = h
  sorted_right (x ∷ l) (next h k) = sorted_right l k

  cond_append : (t : Bool) (x : A) (f b l : List A) → f ++ b ≡ l → cond t (x ∷ f) [] ++ cond t b (x ∷ l) ≡ x ∷ l
  cond_append true x f b l e = rw e
  cond_append false x f b l e = refl

  pub front_back : (p : A → Bool) (l : List A) → front p l ++ back p l ≡ l
  front_back p [] = refl
  front_back p (x ∷ l) = cond_append (p x) x (front p l) (back p l) l (front_back p l)

  pub front_all : (p : A → Bool) (l : List A) → All (λ x. p x ≡ true) (front p l)
  front_all p [] = nil
  front_all p (x ∷ l) = go (p x) refl (front_all p l)
    where
      go : (t : Bool) → p x ≡ t → All (λ y. p y ≡ true) (front p l) → All (λ y. p y ≡ true) (cond t (x ∷ front p l) [])
      go true e h = cons e h
      go false e h = nil

  keep_passes : (p : A → Bool) (x : A) {l : List A} → All (λ y. p y ≡ true) l → (t : Bool) → p x ≡ t → All (λ y. p y ≡ true) (keep t x l)
  keep_passes p x h true e = cons e h
  keep_passes p x h false e = h

  pub filter_passes : (p : A → Bool) (l : List A) → All (λ x. p x ≡ true) (filter p l)
  filter_passes p [] = nil
  filter_passes p (x ∷ l) = keep_passes p x (filter_passes p l) (p x) refl

  keep_all : {P : A → Type 0} (t : Bool) (x : A) {l : List A} → P x → All P l → All P (keep t x l)
  keep_all true x h k = cons h k
  keep_all false x h k = k

  -- what a test keeps is as all were
  pub all_filter : {P : A → Type 0} (p : A → Bool) {l : List A} → All P l → All P (filter p l)
  all_filter p nil = nil
  all_filter p (cons {x} h k) = keep_all (p x) x h (all_filter p k)

  pub back_none : {le : A → A → Type 0} (p : A → Bool) → ((x y : A) → le x y → p x ≡ false → p y ≡ false) → {l : List A} → Sorted le l → All (λ x. p x ≡ false) (back p l)
  back_none p f Sorted.none = nil
  back_none p f (next {x} {l} h k) = go (p x) refl (back_none p f k)
    where
      go : (t : Bool) → p x ≡ t → All (λ y. p y ≡ false) (back p l) → All (λ y. p y ≡ false) (cond t (back p l) (x ∷ l))
      go true e b = b
      go false e b = cons e (all_map (λ y a. f x y a e) h)

  pub all_of : {P : A → Type 0} → ((x : A) → P x) → (l : List A) → All P l
  all_of f [] = nil
  all_of f (x ∷ l) = cons (f x) (all_of f l)

  -- a part that fails a test adds nothing to what passes it
  pub filter_ahead : (p q : A → Bool) (D L : List A) → All (λ x. p x ≡ false) L → filter (λ x. p x && q x) (D ++ L) ≡ filter (λ x. p x && q x) D
  filter_ahead p q D L l =
      filter_append (λ x. p x && q x) D L
      ∙ rw (filter_none {p = λ x. p x && q x} (all_map (λ x e. and_false (p x) (q x) e) l)) (append-nil (filter (λ x. p x && q x) D))

  -- a list that a test parts in two: both tests on the whole are the second on the first part
  pub filter_parted : (p q : A → Bool) (D L : List A) → All (λ x. p x ≡ true) D → All (λ x. p x ≡ false) L → filter (λ x. p x && q x) (D ++ L) ≡ filter q D
  filter_parted p q D L d l = filter_ahead p q D L l ∙ filter_cong {p = λ x. p x && q x} (all_map (λ x e. and_true (p x) (q x) e) d)

  length_keep : (t : Bool) (x : A) (l : List A) (n : ℕ) → length l ≤ n → length (keep t x l) ≤ suc n
  length_keep true x l n h = omega arith
  length_keep false x l n h = omega arith

  pub length_filter : (p : A → Bool) (l : List A) → length (filter p l) ≤ length l
  length_filter p [] = omega arith
  length_filter p (x ∷ l) = length_keep (p x) x (filter p l) (length l) (length_filter p l)

  pub all_head : {P : A → Type 0} {x : A} {l : List A} → All P (x ∷ l) → P x
  all_head (cons h k) = h

  pub all_tail : {P : A → Type 0} {x : A} {l : List A} → All P (x ∷ l) → All P l
  all_tail (cons h k) = k

  pub all_at : {P : A → Type 0} {x : A} {l : List A} → Has x l → All P l → P x
  all_at here (cons h k) = h
  all_at (there i) (cons h k) = all_at i k

  -- the first that passes f fails g, and g fails on all that come after a failure: no element passes both
  pub first_none : {le : A → A → Type 0} (f g : A → Bool) → ((x y : A) → le x y → g x ≡ false → g y ≡ false) → {l : List A} → Sorted le l → {t : A} → first f l ≡ some t → g t ≡ false → All (λ x. g x && f x ≡ false) l
  first_none f g c Sorted.none e h = nil
  first_none f g c (next {x} {l} a k) {t} e h = go (f x) refl (first_none f g c k)
    where
      go : (u : Bool) → f x ≡ u → (first f l ≡ some t → g t ≡ false → All (λ y. g y && f y ≡ false) l) → All (λ y. g y && f y ≡ false) (x ∷ l)
      go true q r =
          let e₂ : some x ≡ some t = rw q at e in
          let z : x ≡ t = cc in
          let d : g x ≡ false = rw z h in
          cons (and_false (g x) (f x) d) (all_map (λ y b. and_false (g y) (f y) (c x y b d)) a)
      go false q r = cons (and_drop (g x) (f x) (λ _. q)) (r (rw q at e) h)

  keep_mono : (t u : Bool) (x : A) (l k : List A) → (t ≡ true → u ≡ true) → length l ≤ length k → length (keep t x l) ≤ length (keep u x k)
  keep_mono true true x l k f h = omega arith
  keep_mono true false x l k f h = clash (f refl) refl
  keep_mono false true x l k f h = omega arith
  keep_mono false false x l k f h = omega arith

  pub length_mono : {p q : A → Bool} {l : List A} → All (λ x. p x ≡ true → q x ≡ true) l → length (filter p l) ≤ length (filter q l)
  length_mono nil = omega arith
  length_mono {p} {q} (cons {x} {l} h k) = keep_mono (p x) (q x) x (filter p l) (filter q l) h (length_mono k)

-- the test that every element passes, and the fact
pub all_true : {A : Type 0} (p : A → Bool) (l : List A) → all p l ≡ true → All (λ x. p x ≡ true) l
all_true p [] e = nil
all_true p (x ∷ l) e = cons (and_left (p x) (all p l) e) (all_true p l (and_also (p x) (all p l) e))

pub all_pass : {A : Type 0} {p : A → Bool} {l : List A} → All (λ x. p x ≡ true) l → all p l ≡ true
all_pass nil = refl
all_pass (cons h k) = rw (h, all_pass k)

pub all_mapped : {A B : Type 0} {P : B → Type 0} (f : A → B) {l : List A} → All (λ x. P (f x)) l → All P (map f l)
all_mapped f nil = nil
all_mapped f (cons h k) = cons h (all_mapped f k)

pub map_append : {A B : Type 0} (f : A → B) (l m : List A) → map f (l ++ m) ≡ map f l ++ map f m
map_append f [] m = refl
map_append f (x ∷ l) m = rw (map_append f l m)

-- where all pass, the start that passes is the whole
pub front_whole : {A : Type 0} {p : A → Bool} {l : List A} → All (λ x. p x ≡ true) l → front p l ≡ l
front_whole nil = refl
front_whole (cons h k) = rw (h, front_whole k)

pub back_whole : {A : Type 0} {p : A → Bool} {l : List A} → All (λ x. p x ≡ true) l → back p l ≡ []
back_whole nil = refl
back_whole (cons h k) = rw h (back_whole k)

-- ---- two lists of one length

pub pairs_at : {A B : Type 0} {P : A → B → Type 0} (d : B) (pre : List A) (x : A) (post : List A) {m : List B} → Pairs P (pre ++ x ∷ post) m → P x (get_or m (length pre) d)
pairs_at d [] x post (Pairs.cons h k) = h
pairs_at d (y ∷ pre) x post (Pairs.cons h k) = pairs_at d pre x post k

pub pairs_map : {A B : Type 0} {P Q : A → B → Type 0} {l : List A} {m : List B} → ((x : A) (y : B) → P x y → Q x y) → Pairs P l m → Pairs Q l m
pairs_map f Pairs.nil = Pairs.nil
pairs_map f (Pairs.cons h k) = Pairs.cons (f _ _ h) (pairs_map f k)

pub pairs_same : {A : Type 0} {P : A → A → Type 0} → ((x : A) → P x x) → (l : List A) → Pairs P l l
pairs_same f [] = Pairs.nil
pairs_same f (x ∷ l) = Pairs.cons (f x) (pairs_same f l)

-- one value against any list
pub pairs_all : {A B C : Type 0} {P : B → C → Type 0} (x : B) → ((y : C) → P x y) → (l : List A) (m : List C) → length m ≡ length l → Pairs P (map (λ a. x) l) m
pairs_all x f [] [] e = Pairs.nil
pairs_all x f [] (y ∷ m) e = absurd (omega arith)
pairs_all x f (a ∷ l) [] e = absurd (omega arith)
pairs_all x f (a ∷ l) (y ∷ m) e = Pairs.cons (f y) (pairs_all x f l m (omega arith))

-- any list against one value
pub pairs_to : {A B : Type 0} {P : A → B → Type 0} (y : B) → ((x : A) → P x y) → (l : List A) → Pairs P l (map (λ a. y) l)
pairs_to y f [] = Pairs.nil
pairs_to y f (x ∷ l) = Pairs.cons (f x) (pairs_to y f l)

-- a constant at a place
pub get_d_constant : {A B : Type 0} (y d : B) (pre : List A) (x : A) (post : List A) → get_or (map (λ a. y) (pre ++ x ∷ post)) (length pre) d ≡ y
get_d_constant y d [] x post = refl
get_d_constant y d (z ∷ pre) x post = get_d_constant y d pre x post

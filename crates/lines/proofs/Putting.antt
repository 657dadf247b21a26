-- Bytes put to a buffer, all or none: what the proofs here show, and what a caller cites.
use Prim.Native.Nat.{ℕ, ◌+◌, ◌≤◌, ◌<◌}
use mathlib.Core.Path.{◌≡◌, refl, sym, ap, ◌∙◌}
use mathlib.Core.List.{List, ◌++◌}
use native.Mathlib.Omega.{arith}
use native.Mathlib.Decide.{dec_lt}
use lib.ListN.{length, take, drop, length-append}
use Rattle.std.specs.Prelude.{Option, Some, None}
use Rattle.lines.specs.Put.{laid, Wrote, Puts}
use Rattle.lines.proofs.Laying.{length_laid, laid_take, laid_drop, wrote_append}

-- ---- a line of four parts

module _ (xs ys zs ws : List ℕ) where
  pub length_parts : length (xs ++ ys ++ zs ++ ws) ≡ length xs + length ys + length zs + length ws
  length_parts = omega (arith, length-append xs ys, length-append (xs ++ ys) zs, length-append (xs ++ ys ++ zs) ws)

module _ {old : List ℕ} {at : ℕ} {bytes : List ℕ} where
  pub puts_none : length old < at + length bytes → Puts old at bytes None old
  puts_none h = record { fits = λ k. absurd (omega arith); full = λ k. (refl, refl) }

  pub puts_all : {r : ℕ} {new : List ℕ} → at + length bytes ≤ length old → Wrote old at bytes r new → Puts old at bytes (Some r) new
  puts_all h w = record { fits = λ k. (ap (λ (n : ℕ). Some n) w.stop, w.laid_in); full = λ k. absurd (omega arith) }

pub puts_parts : {old m₁ m₂ m₃ new xs ys zs ws : List ℕ} {at a b c d : ℕ} → at + length xs + length ys + length zs + length ws ≤ length old →
    Wrote old at xs a m₁ → Wrote m₁ a ys b m₂ → Wrote m₂ b zs c m₃ → Wrote m₃ c ws d new → Puts old at (xs ++ ys ++ zs ++ ws) (Some d) new
puts_parts {xs} {ys} {zs} {ws} h p q r s =
    let two = length-append xs ys in
    let three = length-append (xs ++ ys) zs in
    let pq = wrote_append p (omega arith) q in
    let pqr = wrote_append pq (omega arith) r in
    puts_all (omega (arith, length_parts xs ys zs ws)) (wrote_append pqr (omega arith) s)

-- ---- what an answer says

module _ {old : List ℕ} {at : ℕ} {bytes : List ℕ} {new : List ℕ} where
  pub puts_at : {r : ℕ} → Puts old at bytes (Some r) new → (at + length bytes ≤ length old) × (r ≡ at + length bytes) × (new ≡ laid old at bytes)
  puts_at {r} p = go (dec_lt (length old) (at + length bytes))
    where
      go : Dec (length old < at + length bytes) → (at + length bytes ≤ length old) × (r ≡ at + length bytes) × (new ≡ laid old at bytes)
      go (yes h) = let e = (p.full h).0 in let z : ◌≡◌ {A = ℕ} 0 1 = cc in absurd (omega arith)
      go (no h) =
          let k : at + length bytes ≤ length old = omega arith in
          let e = (p.fits k).0 in
          (k, cc, (p.fits k).1)

  pub puts_full : Puts old at bytes None new → (length old < at + length bytes) × (new ≡ old)
  puts_full p = go (dec_lt (length old) (at + length bytes))
    where
      go : Dec (length old < at + length bytes) → (length old < at + length bytes) × (new ≡ old)
      go (yes h) = (h, (p.full h).1)
      go (no h) = let e = (p.fits (omega arith)).0 in let z : ◌≡◌ {A = ℕ} 0 1 = cc in absurd (omega arith)

  -- the buffer up to the place behind the bytes, and from there on
  pub puts_ahead : {r : ℕ} → Puts old at bytes (Some r) new → (take r new ≡ take at old ++ bytes) × (drop r new ≡ drop r old)
  puts_ahead p =
      let a = puts_at p in
      rw (a.1, a.2) (laid_take old at bytes a.0, laid_drop old at bytes a.0)

  pub puts_length : (r : Option ℕ) → Puts old at bytes r new → length new ≡ length old
  puts_length (Some r) p = let a = puts_at p in ap length a.2 ∙ length_laid old at bytes a.0
  puts_length None p = ap length (puts_full p).1

  -- what the next line asks
  pub puts_inside : {r : ℕ} → Puts old at bytes (Some r) new → r ≤ length new
  puts_inside {r} p = let a = puts_at p in omega (arith, puts_length (Some r) p)

-- any two results are equal
pub puts_alike : {old : List ℕ} {at : ℕ} {bytes : List ℕ} {r s : Option ℕ} {new also : List ℕ} → Puts old at bytes r new → Puts old at bytes s also → (r ≡ s) × (new ≡ also)
puts_alike {old} {at} {bytes} {r} {s} {new} {also} p q = go (dec_lt (length old) (at + length bytes))
  where
    go : Dec (length old < at + length bytes) → (r ≡ s) × (new ≡ also)
    go (yes h) = ((p.full h).0 ∙ sym (q.full h).0, (p.full h).1 ∙ sym (q.full h).1)
    go (no h) =
        let k : at + length bytes ≤ length old = omega arith in
        ((p.fits k).0 ∙ sym (q.fits k).0, (p.fits k).1 ∙ sym (q.fits k).1)

-- Laws of minimal varints, how long one is, and of the loop that writes one. Assumes nothing.
use Prim.Native.Nat.{ℕ, zero, suc, ◌+◌, ◌*◌, ◌/◌, ◌%◌, ◌^◌, ◌≤◌, ◌<◌, max}
use mathlib.Core.Path.{◌≡◌, refl, sym, ap, ◌∙◌, subst}
use mathlib.Core.Logic.{⊎_elim}
use mathlib.Core.List.{List, [], ◌∷◌}
use mathlib.Core.Bool.{Bool, true, false}
use native.Mathlib.Omega.{arith}
use native.Mathlib.Nat.{pow-suc, div-lt_iff_lt-mul, le-div_iff_mul-le, one-le-pow, le_trans, lt_of_lt_of_le}
use lib.Pow.{pow-add, pow_mono}
use native.Mathlib.Numerals.{add-one}
use lib.ListN.{length, set, length-set}
use lib.Seq.{sets}
use lib.Dec.{ltb, lit<}
use borrow.Author.Tests.{lt-ltb, le-ltb, le-leb, lt-leb, ltb-true, ltb-false}
use Rattle.octets.specs.Octets.{Bytes}
use Rattle.octets.proofs.Bools.{either}
use Rattle.octets.proofs.Parts.{bytes-nil, bytes-cons}
use Rattle.octets.proofs.Stores.{sets-out}
use Rattle.wire.specs.Items.{digits, minimal, past, Put}

pub digits_last : (k v : ℕ) → v < 128 → digits (suc k) v ≡ v ∷ []
unfolding digits
digits_last k v h = rw (lt-ltb v 128 h)

pub digits_more : (k v : ℕ) → 128 ≤ v → digits (suc k) v ≡ (v % 128 + 128) ∷ digits k (v / 128)
unfolding digits
digits_more k v h = rw (le-ltb v 128 h)

pub fewer : (k v : ℕ) → v < 128 ^ suc k → v / 128 < 128 ^ k
fewer k v h = (div-lt_iff_lt-mul (lit< tt)).1 (rw (pow-suc 128 k) at h)

pub digits-short : (j k v : ℕ) → v < 128 ^ suc j → length (digits k v) ≤ suc j
unfolding digits
digits-short j zero v h = omega arith
digits-short j (suc k) v h = go j (ltb v 128) refl h (λ j'. digits-short j' k (v / 128))
  where
    go : (j : ℕ) (t : Bool) → ltb v 128 ≡ t → v < 128 ^ suc j → ((j' : ℕ) → v / 128 < 128 ^ suc j' → length (digits k (v / 128)) ≤ suc j') → length (digits (suc k) v) ≤ suc j
    go j true e h ih = rw (digits_last k v (ltb-true _ _ e)) (omega arith)
    go zero false e h ih = absurd (omega (arith, ltb-false v 128 e))
    go (suc j) false e h ih = rw (digits_more k v (ltb-false _ _ e)) (omega (arith, ih j (fewer (suc j) v h)))

digits-pos : (k v : ℕ) → 0 < length (digits (suc k) v)
digits-pos k v = ⊎_elim (λ e. rw (digits_last k v (ltb-true _ _ e)) (omega arith)) (λ e. rw (digits_more k v (ltb-false _ _ e)) (omega arith)) (either (ltb v 128))

digits-bytes : (k v : ℕ) → Bytes (digits k v)
unfolding digits
digits-bytes zero v = bytes-nil
digits-bytes (suc k) v =
    ⊎_elim (λ e. rw (digits_last k v (ltb-true _ _ e)) (bytes-cons v [] (omega (arith, ltb-true v 128 e)) bytes-nil))
    (λ e. rw (digits_more k v (ltb-false _ _ e)) (bytes-cons (v % 128 + 128) (digits k (v / 128)) (omega arith) (digits-bytes k (v / 128))))
    (either (ltb v 128))

-- ---- sizes
pub minimal-pos : (v : ℕ) → 0 < length (minimal v)
unfolding minimal
minimal-pos v = digits-pos 9 v

pub minimal-most : (v : ℕ) → v < 2 ^ 64 → length (minimal v) ≤ 10
unfolding minimal
minimal-most v h = digits-short 9 10 v (omega arith)

pub minimal-one : (v : ℕ) → v < 128 → length (minimal v) ≡ 1
unfolding minimal
minimal-one v h = ap length (digits_last 9 v h)

pub minimal-two : (v : ℕ) → v < 16384 → length (minimal v) ≤ 2
unfolding minimal
minimal-two v h = digits-short 1 10 v (omega arith)

pub minimal-three : (v : ℕ) → v < 2097152 → length (minimal v) ≤ 3
unfolding minimal
minimal-three v h = digits-short 2 10 v (omega arith)

pub minimal-bytes : (v : ℕ) → Bytes (minimal v)
unfolding minimal
minimal-bytes v = digits-bytes 10 v

-- ---- how many digits: by the highest bit
digits-many : (q k v : ℕ) → 128 ^ q ≤ v → v < 128 ^ suc q → q < k → length (digits k v) ≡ suc q
digits-many q zero v g h l = absurd (omega arith)
digits-many zero (suc k) v g h l = ap length (digits_last k v (omega arith))
digits-many (suc q) (suc k) v g h l =
    let m : 128 ^ q * 128 ≤ v = rw (pow-suc 128 q) at g in
    let p : 128 ≤ v = omega (arith, m, one-le-pow q 128 (lit< tt)) in
    ap length (digits_more k v p) ∙ ap suc (digits-many q k (v / 128) ((le-div_iff_mul-le (lit< tt)).1 m) (fewer (suc q) v h) (omega arith))

power : (q : ℕ) → 128 ^ q ≡ 2 ^ (7 * q)
power zero = refl
power (suc q) =
    let e : 7 * suc q ≡ 7 + 7 * q = omega arith in
    pow-suc 128 q ∙ rw (e, pow-add 2 7 (7 * q)) (omega (arith, power q))

-- where r is the place of the highest bit of v
highest : (v r : ℕ) → 2 ^ r ≤ v → v < 2 * 2 ^ r → r < 64 → r / 7 + 1 ≡ length (minimal v)
unfolding minimal
highest v r g h l =
    let q : ℕ = r / 7 in
    let d : 2 * 2 ^ r ≡ 2 ^ suc r = omega (arith, pow-suc 2 r) in
    let low : 128 ^ q ≤ v = le_trans (rw (power q) (pow_mono {i = 7 * q} {j = r} (omega arith))) g in
    let high : v < 128 ^ suc q = lt_of_lt_of_le h (rw (d, power (suc q)) (pow_mono {i = suc r} {j = 7 * suc q} (omega arith))) in
    omega (arith, digits-many q 10 v low high (omega arith))

pub counted : (v w r : ℕ) → w ≡ max v 1 → 2 ^ r ≤ w → w < 2 * 2 ^ r → r < 64 → r / 7 + 1 ≡ length (minimal v)
counted v w r e g h l = ⊎_elim none some (either (ltb v 1))
  where
    none : ltb v 1 ≡ true → r / 7 + 1 ≡ length (minimal v)
    none t = omega (arith, highest w r g h l, minimal-one w (omega (arith, ltb-true v 1 t)), minimal-one v (omega (arith, ltb-true v 1 t)))

    some : ltb v 1 ≡ false → r / 7 + 1 ≡ length (minimal v)
    some t = let q : w ≡ v = omega (arith, ltb-false v 1 t) in highest w r g h l ∙ ap (λ (n : ℕ). length (minimal n)) q

-- ---- the place after a run of bytes
pub past_fits : (size at n : ℕ) → at + n ≤ size → at + n ≡ past size at n
unfolding past
past_fits size at n h = rw (le-leb (at + n) size h)

pub past-full : (size at n : ℕ) → at ≤ size → size < at + n → size ≡ past size at n
unfolding past
past-full size at n h l = rw (lt-leb (at + n) size l, le-leb at size h)

pub past-over : (size at n : ℕ) → size < at → at ≡ past size at n
unfolding past
past-over size at n h =
    let l : size < at + n = omega arith in
    rw (lt-leb (at + n) size l, lt-leb at size h)

-- ---- the loop that writes: what is left to write from i on
pub record Writing (buf₀ : List ℕ) (at v : ℕ) (buf : List ℕ) (i rest : ℕ) : Type 0 where
  pub k : ℕ
  pub bound : rest < 128 ^ suc k
  pub kept : length buf ≡ length buf₀
  pub start : at ≤ i
  pub top : length buf₀ < i → i ≡ at
  pub end : i + length (digits (suc k) rest) ≡ at + length (minimal v)
  pub same : sets buf i (digits (suc k) rest) ≡ sets buf₀ at (minimal v)

pub writing : (buf : List ℕ) (at v : ℕ) → v < 2 ^ 64 → Writing buf at v buf at v
unfolding minimal
writing buf at v h = record { k = 9; bound = omega arith; kept = refl; start = omega arith; top = λ l. refl; end = refl; same = refl }

module _ (buf₀ : List ℕ) (at v : ℕ) (buf : List ℕ) (i rest : ℕ) (g : Writing buf₀ at v buf i rest) where
  -- where there is no room for the next byte
  pub write-full : length buf ≤ i → Put buf₀ at (minimal v) buf i
  write-full h =
      record {
        end = ⊎_elim (λ t. past-over' (ltb-true _ _ t)) (λ t. past-full' (ltb-false _ _ t)) (either (ltb (length buf₀) i));
        same = sym (sets-out buf i (digits (suc g.k) rest) h) ∙ g.same;
      }
    where
      past-over' : length buf₀ < i → i ≡ past (length buf₀) at (length (minimal v))
      past-over' l = g.top l ∙ past-over (length buf₀) at (length (minimal v)) (omega (arith, g.top l))

      past-full' : i ≤ length buf₀ → i ≡ past (length buf₀) at (length (minimal v))
      past-full' l =
          let e : i ≡ length buf₀ = omega (arith, g.kept) in
          e ∙ past-full (length buf₀) at (length (minimal v)) (omega (arith, g.start)) (omega (arith, g.end, digits-pos g.k rest))

  -- at the end of the loop, the place is the buffer's end, or beyond it where there was no room at all
  pub write-end : (r : ℕ) → r ≡ max at (length buf) → length buf ≤ i → Put buf₀ at (minimal v) buf r
  write-end r e h = subst (λ (n : ℕ). Put buf₀ at (minimal v) buf n) (sym (⊎_elim past_it (λ t. omega (arith, g.start, g.kept, ltb-false (length buf₀) i t)) (either (ltb (length buf₀) i)))) (write-full h)
    where
      past_it : ltb (length buf₀) i ≡ true → r ≡ i
      past_it t = omega (arith, g.kept, g.top (ltb-true (length buf₀) i t))

  pub write-on : (b : ℕ) → b ≡ rest % 128 + 128 → 128 ≤ rest → i < length buf → Writing buf₀ at v (set buf i b) (i + 1) (rest / 128)
  write-on b e h room = go g.k g.bound g.end g.same
    where
      go : (k : ℕ) → rest < 128 ^ suc k → i + length (digits (suc k) rest) ≡ at + length (minimal v)
          → sets buf i (digits (suc k) rest) ≡ sets buf₀ at (minimal v) → Writing buf₀ at v (set buf i b) (i + 1) (rest / 128)
      go zero p r s = absurd (omega arith)
      go (suc k) p r s =
          let l : length (digits (suc (suc k)) rest) ≡ suc (length (digits (suc k) (rest / 128))) = ap length (digits_more (suc k) rest h) in
          record {
            k = k;
            bound = fewer (suc k) rest p;
            kept = length-set buf i b ∙ g.kept;
            start = omega (arith, g.start);
            top = λ t. absurd (omega (arith, g.kept));
            end = omega arith;
            same = rw (add-one i, e) (rw (digits_more (suc k) rest h) at s);
          }

  pub write-last : (b : ℕ) → b ≡ rest → rest < 128 → i < length buf → Put buf₀ at (minimal v) (set buf i b) (i + 1)
  write-last b e h room =
      let l : length (digits (suc g.k) rest) ≡ 1 = ap length (digits_last g.k rest h) in
      let r : i + 1 ≡ at + length (minimal v) = omega (arith, g.end) in
      record {
        end = r ∙ past_fits (length buf₀) at (length (minimal v)) (omega (arith, g.kept));
        same = rw e (rw (digits_last g.k rest h) at g.same);
      }

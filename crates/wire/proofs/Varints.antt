-- Laws of varints by position, and of the loop that reads one. Assumes nothing.
use Prim.Native.Nat.{ℕ, zero, suc, ◌+◌, ◌-◌, ◌*◌, ◌^◌, ◌≤◌, ◌<◌}
use mathlib.Core.Path.{◌≡◌, refl, ap, ◌∙◌}
use mathlib.Core.List.{List, []}
use mathlib.Core.Bool.{Bool, true, false}
use native.Mathlib.Omega.{arith}
use native.Mathlib.Nat.{pow-suc, pow-le-pow_right, mul-add, mul_comm, mul_assoc}
use native.Mathlib.Numerals.{add-one}
use lib.ListN.{length, get_or, drop, drop_of_length-le}
use lib.Seq.{drop-cons}
use lib.Arith.{digits_lt}
use lib.Dec.{ltb, lit<}
use borrow.Author.Tests.{lt-ltb, le-ltb, ltb-true, ltb-false}
use Rattle.wire.specs.Wire.{before, varint, placed, varint_at}
use Rattle.wire.specs.Inner.{resumed, tenth_at}
use Rattle.std.specs.Prelude.{Some, None, Option}

-- ---- at the first byte

varint-nil : (k : ℕ) → varint k [] ≡ None
unfolding varint
varint-nil zero = refl
varint-nil (suc k) = refl

varint-past : (k : ℕ) (s : List ℕ) (at : ℕ) → length s ≤ at → varint k (drop at s) ≡ None
varint-past k s at h = rw (drop_of_length-le s h) (varint-nil k)

varint-stop : (k : ℕ) (s : List ℕ) (at : ℕ) → at < length s → get_or s at 0 < 128 → varint (suc k) (drop at s) ≡ Some ((get_or s at 0), 1)
unfolding varint
varint-stop k s at h l = rw (drop-cons s at 0 h) (rw (lt-ltb (get_or s at 0) 128 l) refl)

varint-more : (k : ℕ) (s : List ℕ) (at : ℕ) → at < length s → 128 ≤ get_or s at 0 → varint (suc k) (drop at s) ≡ before (get_or s at 0) (varint k (drop (at + 1) s))
unfolding varint
varint-more k s at h l = rw (drop-cons s at 0 h) (rw (add-one at, le-ltb (get_or s at 0) 128 l) refl)

-- ---- half read

resumed-start : (at : ℕ) (r : Option (ℕ × ℕ)) → resumed 0 1 at r ≡ placed at r
unfolding resumed placed
resumed-start at (Some (v, n)) = let e : 0 + 1 * v ≡ v = omega arith in rw e
resumed-start at None = refl

shift : (acc place x v : ℕ) → acc + place * (x + 128 * v) ≡ acc + x * place + place * 128 * v
shift acc place x v = omega (arith, mul-add place x (128 * v), mul_comm place x, mul_assoc place 128 v)

resumed-before : (acc place i b : ℕ) (r : Option (ℕ × ℕ)) → resumed acc place i (before b r) ≡ resumed (acc + (b - 128) * place) (place * 128) (i + 1) r
unfolding resumed before
resumed-before acc place i b (Some (v, n)) = let e : i + suc n ≡ i + 1 + n = omega arith in rw (shift acc place (b - 128) v, e)
resumed-before acc place i b None = refl

digit : (x acc place : ℕ) → x < 128 → acc < place → acc + x * place < place * 128
digit x acc place h l = omega (arith, digits_lt {q = x} {m = 128} h l)

room : (left : ℕ) → 0 < left → left ≤ 9 → 128 ^ (9 - left) * 128 ≤ 2 ^ 63
room left p l =
    let e : suc (9 - left) ≤ 9 = omega arith in
    rw (← pow-suc 128 (9 - left)) (pow-le-pow_right {n = 128} (lit< tt) e)

next_place : (left : ℕ) → 0 < left → left ≤ 9 → 128 ^ (9 - left) * 128 ≡ 128 ^ (9 - (left - 1))
next_place left p l =
    let e : 9 - (left - 1) ≡ suc (9 - left) = omega arith in
    rw (e, pow-suc 128 (9 - left))

-- ---- the tenth byte

pub tenth-none : (s : List ℕ) (at acc : ℕ) → length s ≤ at → None ≡ tenth_at s at acc
unfolding tenth_at resumed
tenth-none s at acc h = rw (varint-past 1 s at h)

pub tenth-one : (s : List ℕ) (at acc b : ℕ) → acc < 2 ^ 63 → at < length s → b ≡ get_or s at 0 → b < 2 → (Some ((acc + b * 2 ^ 63), (at + 1))) ≡ tenth_at s at acc
unfolding tenth_at resumed
tenth-one s at acc b l h e lb =
    rw (varint-stop 0 s at h (omega arith), ← e, lt-ltb (acc + 2 ^ 63 * b) (2 ^ 64) (omega arith), mul_comm b (2 ^ 63))

pub tenth-big : (s : List ℕ) (at acc b : ℕ) → at < length s → b ≡ get_or s at 0 → 2 ≤ b → None ≡ tenth_at s at acc
unfolding tenth_at resumed varint before
tenth-big s at acc b h e lb = go (ltb (get_or s at 0) 128) refl
  where
    go : (t : Bool) → ltb (get_or s at 0) 128 ≡ t → None ≡ tenth_at s at acc
    go true q = rw (varint-stop 0 s at h (ltb-true _ _ q), le-ltb (acc + 2 ^ 63 * get_or s at 0) (2 ^ 64) (omega arith))
    go false q = rw (varint-more 0 s at h (ltb-false _ _ q)) refl

-- ---- the loop: acc and place stand for the bytes before i, and the rest of the varint is read at i

pub record Going (s : List ℕ) (at acc place i left : ℕ) : Type 0 where
  pub few : left ≤ 9
  pub place_is : place ≡ 128 ^ (9 - left)
  pub small : acc < place
  pub same : resumed acc place i (varint (suc left) (drop i s)) ≡ varint_at s at

pub going_start : (s : List ℕ) (at : ℕ) → Going s at 0 1 at 9
unfolding varint_at
going_start s at = record { few = omega arith; place_is = refl; small = omega arith; same = resumed-start at (varint 10 (drop at s)) }

module _ (s : List ℕ) (at acc place i left b : ℕ) (g : Going s at acc place i left) where
  pub place-fits : 0 < left → place * 128 ≤ 2 ^ 63
  place-fits p = rw g.place_is (room left p g.few)

  pub digit-fits : (x : ℕ) → 0 < left → x < 128 → acc + x * place < 2 ^ 63
  digit-fits x p l = omega (arith, digit x acc place l g.small, place-fits p)

  pub going-past : length s ≤ i → None ≡ varint_at s at
  unfolding resumed
  going-past h = rw (← g.same, varint-past (suc left) s i h)

  pub going-stop : 0 < left → i < length s → b ≡ get_or s i 0 → b < 128 → (Some ((acc + b * place), (i + 1))) ≡ varint_at s at
  unfolding resumed
  going-stop p h e l =
      let m : place * b ≡ b * place = mul_comm place b in
      let f : acc + b * place < 2 ^ 63 = digit-fits b p l in
      rw (← g.same, varint-stop left s i h (omega arith), ← e, m, lt-ltb (acc + b * place) (2 ^ 64) (omega arith))

  pub going_more : 0 < left → i < length s → b ≡ get_or s i 0 → 128 ≤ b → b < 256 → Going s at (acc + (b - 128) * place) (place * 128) (i + 1) (left - 1)
  going_more p h e l u =
      let d : suc (left - 1) ≡ left = omega arith in
      record {
        few = omega (arith, g.few);
        place_is = ap (λ (k : ℕ). k * 128) g.place_is ∙ next_place left p g.few;
        small = digit (b - 128) acc place (omega arith) g.small;
        same = rw (d, ← resumed-before acc place i b (varint left (drop (i + 1) s)), e, ← varint-more left s i h (omega arith)) g.same;
      }

  pub going-last : left ≤ 0 → tenth_at s i acc ≡ varint_at s at
  unfolding tenth_at
  going-last z =
      let d : left ≡ 0 = omega arith in
      let q : place ≡ 2 ^ 63 = g.place_is ∙ ap (λ (k : ℕ). 128 ^ (9 - k)) d in
      rw (← g.same, d, q)

  pub acc-fits : left ≤ 0 → acc < 2 ^ 63
  acc-fits z =
      let d : left ≡ 0 = omega arith in
      let q : place ≡ 2 ^ 63 = g.place_is ∙ ap (λ (k : ℕ). 128 ^ (9 - k)) d in
      omega (arith, g.small)

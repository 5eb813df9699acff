-- Laws of minimal varints, as `short_varint` reads them. Assumes nothing.
use Prim.Native.Nat.{ℕ, zero, suc, ◌+◌, ◌-◌, ◌*◌, ◌≤◌, ◌<◌}
use mathlib.Core.Path.{◌≡◌, refl, ap}
use mathlib.Core.List.{List, [], ◌∷◌}
use mathlib.Core.Bool.{Bool, true, false, cond}
use native.Mathlib.Omega.{arith}
use native.Mathlib.Numerals.{add-one}
use lib.ListN.{length, get_or, drop, drop_of_length-le}
use lib.Seq.{drop-cons}
use lib.Dec.{ltb}
use borrow.Author.Tests.{lt-ltb, le-ltb}
use Rattle.std.specs.Prelude.{Option, Some, None}
use Rattle.recipe.specs.Recipe.{continued, varint, on_varint}
use Rattle.recipe.specs.Inner.{short}

-- a varint that is read
abbrev pub a_varint : ℕ → ℕ → Option (ℕ × ℕ)
a_varint value size = Some (value, size)

pub same-value : {v n w k : ℕ} → a_varint v n ≡ a_varint w k → v ≡ w
same-value e = ap (λ (r : Option (ℕ × ℕ)). on_varint r (λ v n. v) 0) e

pub same-size : {v n w k : ℕ} → a_varint v n ≡ a_varint w k → n ≡ k
same-size e = ap (λ (r : Option (ℕ × ℕ)). on_varint r (λ v n. n) 0) e

pub no-varint : {v n : ℕ} → None ≡ a_varint v n → ⊥
no-varint e = let z : ◌≡◌ {A = ℕ} 0 1 = cc in omega arith

pub varint-past : (s : List ℕ) (at : ℕ) → length s ≤ at → varint (drop at s) ≡ None
unfolding varint
varint-past s at h = rw (drop_of_length-le s h)

pub varint-stop : (s : List ℕ) (at : ℕ) → at < length s → get_or s at 0 < 128 → varint (drop at s) ≡ a_varint (get_or s at 0) 1
unfolding varint
varint-stop s at h l = rw (drop-cons s at 0 h) (rw (lt-ltb (get_or s at 0) 128 l) refl)

pub varint-more : (s : List ℕ) (at : ℕ) → at < length s → 128 ≤ get_or s at 0 → varint (drop at s) ≡ continued (get_or s at 0) (varint (drop (at + 1) s))
unfolding varint
varint-more s at h l = rw (drop-cons s at 0 h) (rw (add-one at, le-ltb (get_or s at 0) 128 l) refl)

pub continued-zero : (b v n : ℕ) → v < 1 → continued b (a_varint v n) ≡ None
unfolding continued
continued-zero b zero n h = refl
continued-zero b (suc v) n h = absurd (omega arith)

pub continued-more : (b v n : ℕ) → 1 ≤ v → continued b (a_varint v n) ≡ a_varint (b - 128 + 128 * v) (suc n)
unfolding continued
continued-more b zero n h = absurd (omega arith)
continued-more b (suc v) n h = refl

continued-broken : (b : ℕ) → continued b None ≡ None
unfolding continued
continued-broken b = refl

pub short-is : (v n : ℕ) → v < 2097152 → a_varint v n ≡ short (a_varint v n)
unfolding short
short-is v n l = rw (lt-ltb v 2097152 l)

short-over : (v n : ℕ) → 2097152 ≤ v → None ≡ short (a_varint v n)
unfolding short
short-over v n l = rw (le-ltb v 2097152 l)

short-broken : None ≡ short None
unfolding short
short-broken = refl

long : (a b c : ℕ) (r : Option (ℕ × ℕ)) → None ≡ short (continued a (continued b (continued c r)))
long a b c None = rw (continued-broken c, continued-broken b, continued-broken a) short-broken
long a b c (Some (zero, n)) = rw (continued-zero c 0 n (omega arith), continued-broken b, continued-broken a) short-broken
long a b c (Some (suc v, n)) =
    rw (continued-more c (suc v) n (omega arith), continued-more b (c - 128 + 128 * suc v) (suc n) (omega arith), continued-more a (b - 128 + 128 * (c - 128 + 128 * suc v)) (suc (suc n)) (omega arith))
    (short-over _ _ (omega arith))

module _ (s : List ℕ) (at : ℕ) where
  pub short-past : length s ≤ at → None ≡ short (varint (drop at s))
  short-past h = rw (varint-past s at h) short-broken

  pub short-1 : (a : ℕ) → at < length s → a ≡ get_or s at 0 → a < 128 → a_varint a 1 ≡ short (varint (drop at s))
  short-1 a h e l = rw (varint-stop s at h (omega arith), ← e) (short-is a 1 (omega arith))

  module _ (a : ℕ) (ha : at < length s) (ea : a ≡ get_or s at 0) (la : 128 ≤ a) (ua : a < 256) where
    head : varint (drop at s) ≡ continued a (varint (drop (at + 1) s))
    head = rw (varint-more s at ha (omega arith), ← ea)

    pub short-1-past : length s - at ≤ 1 → None ≡ short (varint (drop at s))
    short-1-past h = rw (head, varint-past s (at + 1) (omega arith), continued-broken a) short-broken

    module _ (b : ℕ) (hb : 1 < length s - at) (eb : b ≡ get_or s (at + 1) 0) (ub : b < 256) where
      stop-2 : b < 128 → varint (drop at s) ≡ continued a (a_varint b 1)
      stop-2 l = rw (head, varint-stop s (at + 1) (omega arith) (omega arith), ← eb)

      pub short-2-zero : b < 1 → None ≡ short (varint (drop at s))
      short-2-zero l = rw (stop-2 (omega arith), continued-zero a b 1 l) short-broken

      pub short-2 : 1 ≤ b → b < 128 → a_varint (a - 128 + 128 * b) 2 ≡ short (varint (drop at s))
      short-2 p l = rw (stop-2 l, continued-more a b 1 p) (short-is _ _ (omega arith))

      module _ (lb : 128 ≤ b) where
        head-2 : varint (drop at s) ≡ continued a (continued b (varint (drop (at + 2) s)))
        head-2 =
            let e : at + 1 + 1 ≡ at + 2 = omega arith in
            rw (head, varint-more s (at + 1) (omega arith) (omega arith), ← eb, e)

        pub short-2-past : length s - at ≤ 2 → None ≡ short (varint (drop at s))
        short-2-past h = rw (head-2, varint-past s (at + 2) (omega arith), continued-broken b, continued-broken a) short-broken

        module _ (c : ℕ) (hc : 2 < length s - at) (ec : c ≡ get_or s (at + 2) 0) (uc : c < 256) where
          stop-3 : c < 128 → varint (drop at s) ≡ continued a (continued b (a_varint c 1))
          stop-3 l = rw (head-2, varint-stop s (at + 2) (omega arith) (omega arith), ← ec)

          pub short-3-zero : c < 1 → None ≡ short (varint (drop at s))
          short-3-zero l = rw (stop-3 (omega arith), continued-zero b c 1 l, continued-broken a) short-broken

          pub short-3 : 1 ≤ c → c < 128 → a_varint (a - 128 + 128 * (b - 128 + 128 * c)) 3 ≡ short (varint (drop at s))
          short-3 p l =
              rw (stop-3 l, continued-more b c 1 p, continued-more a (b - 128 + 128 * c) 2 (omega arith)) (short-is _ _ (omega arith))

          pub short-4 : 128 ≤ c → None ≡ short (varint (drop at s))
          short-4 l = rw (head-2, varint-more s (at + 2) (omega arith) (omega arith)) (long a b _ _)

-- a varint has at least one byte, and no more than there are
continued-size : (b : ℕ) (r : Option (ℕ × ℕ)) (m v n : ℕ) → ((w k : ℕ) → r ≡ a_varint w k → k ≤ m) → continued b r ≡ a_varint v n → n ≤ suc m
unfolding continued
continued-size b None m v n h e = absurd (no-varint e)
continued-size b (Some (zero, k)) m v n h e = absurd (no-varint e)
continued-size b (Some (suc w, k)) m v n h e = omega (arith, same-size e, h (suc w) k refl)

pub varint-size : (s : List ℕ) (v n : ℕ) → varint s ≡ a_varint v n → n ≤ length s
unfolding varint
varint-size [] v n e = absurd (no-varint e)
varint-size (b ∷ s) v n e = go (λ w k p. varint-size s w k p) (ltb b 128) refl
  where
    one : cond true (a_varint b 1) (continued b (varint s)) ≡ a_varint v n → n ≤ suc (length s)
    one q = omega (arith, same-size q)

    go : ((w k : ℕ) → varint s ≡ a_varint w k → k ≤ length s) → (t : Bool) → ltb b 128 ≡ t → n ≤ suc (length s)
    go ih true q = one (rw q at e)
    go ih false q = continued-size b (varint s) (length s) v n ih (rw q at e)

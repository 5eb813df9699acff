-- A connection's prefixes are the wire format's varints. Assumes nothing.
use Prim.Native.Nat.{ℕ, zero, suc, ◌+◌, ◌-◌, ◌*◌, ◌/◌, ◌%◌, ◌^◌, ◌≤◌, ◌<◌}
use mathlib.Core.Path.{◌≡◌, refl, sym, ap, ◌∙◌, subst}
use mathlib.Core.Logic.{⊎_elim}
use mathlib.Core.List.{List, [], ◌∷◌}
use mathlib.Core.Bool.{Bool, true, false, cond}
use native.Mathlib.Omega.{arith}
use lib.ListN.{length, take}
use lib.Dec.{ltb, leb}
use borrow.Author.Tests.{lt-ltb, le-ltb, ltb-true, ltb-false, le-leb, lt-leb, leb-true, ne_eqb}
use Rattle.octets.specs.Octets.{Bytes, same}
use Rattle.octets.proofs.Bools.{either}
use Rattle.octets.proofs.Strings.{same-eq, same-yes, same_size}
use Rattle.limits.specs.Limits.{most_body}
use Rattle.refusal.specs.declared.Refusal.TheVariants.{PrefixNotMinimal, TooLong}
use Rattle.wire.specs.Wire.{before, varint, placed, varint_at}
use Rattle.wire.specs.Items.{digits, minimal}
use Rattle.wire_put.proofs.Digits.{digits_last, digits_more, minimal-one, minimal-two}
use Rattle.stream.specs.declared.Held.{Held}
use Rattle.stream.specs.declared.Held.TheVariants.{Nothing, One, Two}
use Rattle.stream.specs.declared.Lead.{Lead}
use Rattle.stream.specs.declared.Lead.TheVariants.{On, Length}
use Rattle.stream.specs.declared.Prefixed.{Prefixed}
use Rattle.stream.specs.Stream as stream
use Rattle.stream.specs.Stream.{limited, prefix_step, prefixed, later, onward, prefix_of}
use Rattle.cutting.specs.Frames.{prefix_at}
use Rattle.framing_back.specs.Claims.{begun, called_for, PrefixIsVarint}
use Rattle.framing_back.proofs.Prefix.{first-last, first_on, second-last, second-on, third_last, prefix_back}
use Rattle.std.specs.Prelude.{Ok, Err, Some, None, Result, Option}
use Rattle.refusal.specs.declared.Refusal.{Refusal}

-- ---- the wire format, byte by byte
reads-last : (k z : ℕ) (s : List ℕ) → z < 128 → varint (suc k) (z ∷ s) ≡ Some (z, 1)
unfolding varint
reads-last k z s h = rw (lt-ltb z 128 h)

reads_on : (k a : ℕ) (s : List ℕ) → 128 ≤ a → varint (suc k) (a ∷ s) ≡ before a (varint k s)
unfolding varint
reads_on k a s h = rw (le-ltb a 128 h)

-- a varint that is read within k bytes is read within more
one_more : (k : ℕ) (s : List ℕ) (v n : ℕ) → varint k s ≡ Some (v, n) → varint (suc k) s ≡ Some (v, n)
unfolding varint before
one_more zero s v n e = absurd (let z : ◌≡◌ {A = ℕ} 0 1 = cc in omega arith)
one_more (suc k) [] v n e = absurd (let z : ◌≡◌ {A = ℕ} 0 1 = cc in omega arith)
one_more (suc k) (b ∷ s) v n e = go (ltb b 128) refl (varint k s) refl (one_more k s)
  where
    go : (t : Bool) → ltb b 128 ≡ t → (x : Option (ℕ × ℕ)) → varint k s ≡ x → ((w m : ℕ) → varint k s ≡ Some (w, m) → varint (suc k) s ≡ Some (w, m)) → varint (suc (suc k)) (b ∷ s) ≡ Some (v, n)
    go true t x q ih = reads-last (suc k) b s (ltb-true b 128 t) ∙ sym (reads-last k b s (ltb-true b 128 t)) ∙ e
    go false t (Some (w, m)) q ih =
        reads_on (suc k) b s (ltb-false b 128 t) ∙ ap (before b) (ih w m q) ∙ sym (reads_on k b s (ltb-false b 128 t) ∙ ap (before b) q) ∙ e
    go false t None q ih =
        let f : None ≡ (Some (v, n)) = sym (reads_on k b s (ltb-false b 128 t) ∙ ap (before b) q) ∙ e in
        absurd (let z : ◌≡◌ {A = ℕ} 0 1 = cc in omega arith)

more-read : (d k : ℕ) (s : List ℕ) (v n : ℕ) → varint k s ≡ Some (v, n) → varint (d + k) s ≡ Some (v, n)
more-read zero k s v n e = let q : 0 + k ≡ k = omega arith in rw q e
more-read (suc d) k s v n e = let q : suc d + k ≡ suc (d + k) = omega arith in rw q (one_more (d + k) s v n (more-read d k s v n e))

-- the digits of a number that has a byte's low seven bits below v
digits-on : (k a v : ℕ) → 128 ≤ a → a < 256 → 0 < v → digits (suc k) (a - 128 + 128 * v) ≡ a ∷ digits k v
digits-on k a v l u p =
    let n : ℕ = a - 128 + 128 * v in
    let e : n % 128 + 128 ≡ a = omega arith in
    let q : n / 128 ≡ v = omega arith in
    digits_more k n (omega arith) ∙ rw (e, q)

-- ---- a connection, byte by byte
steps : (h : Held) (z : ℕ) (s : List ℕ) (l : Result Lead Refusal) → prefix_step h z ≡ l → prefix_of h (z ∷ s) ≡ onward l (λ k. prefix_of k s)
unfolding prefix_of
steps h z s l e = ap (λ (x : Result Lead Refusal). onward x (λ k. prefix_of k s)) e

then : (h k : Held) (a : ℕ) (s : List ℕ) (p : Prefixed) → prefix_step h a ≡ Ok (On k) → prefix_of k s ≡ p → prefix_of h (a ∷ s) ≡ later p
then h k a s p e q = steps h a s (Ok (On k)) e ∙ ap (λ (x : Prefixed). later x) q

second-zero : (a : ℕ) → prefix_step (One a) 0 ≡ Err PrefixNotMinimal
unfolding prefix_step stream.minimal
second-zero a = refl

third-zero : (a b : ℕ) → prefix_step (Two a b) 0 ≡ Err PrefixNotMinimal
unfolding prefix_step stream.minimal
third-zero a b = refl

third-over : (a b z n : ℕ) → 0 < z → z < 128 → most_body < n → a % 128 + b % 128 * 128 + z * 16384 ≡ n → prefix_step (Two a b) z ≡ Err TooLong
unfolding prefix_step stream.minimal limited
third-over a b z n p h l e = let q : z ≡ 0 → ⊥ = λ f. omega arith in rw (lt-ltb z 128 h, ne_eqb z 0 q, e, lt-ltb most_body n l)

third-on : (a b z : ℕ) → 128 ≤ z → prefix_step (Two a b) z ≡ Err TooLong
unfolding prefix_step
third-on a b z h = rw (le-ltb z 128 h)

-- ---- what is called for
module _ (bs : List ℕ) (n k : ℕ) where
  taken-for : take k bs ≡ minimal n → n ≤ most_body → called_for bs (Some (n, k)) ≡ prefixed k (Ok (Length n))
  taken-for e h = rw (same-yes (take k bs) (minimal n) e, le-leb n most_body h)

  over-for : take k bs ≡ minimal n → most_body < n → called_for bs (Some (n, k)) ≡ prefixed k (Err TooLong)
  over-for e h = rw (same-yes (take k bs) (minimal n) e, lt-leb n most_body h)

  padded-for : (length (take k bs) ≡ length (minimal n) → ⊥) → called_for bs (Some (n, k)) ≡ prefixed k (Err PrefixNotMinimal)
  padded-for e = rw (same_size (take k bs) (minimal n) e)

Reads : List ℕ → Type 0
Reads bs = prefix_at bs ≡ called_for bs (varint 3 bs)

both : (bs : List ℕ) (v : Option (ℕ × ℕ)) (p : Prefixed) → prefix_at bs ≡ p → varint 3 bs ≡ v → called_for bs v ≡ p → Reads bs
unfolding Reads
both bs v p q e c = q ∙ sym (ap (called_for bs) e ∙ c)

-- ---- one, two and three bytes
none : Reads []
unfolding Reads prefix_of varint
none = refl

one : (z : ℕ) (s : List ℕ) → z < 128 → Reads (z ∷ s)
unfolding minimal
one z s h =
    both (z ∷ s) (Some (z, 1)) (prefixed 1 (Ok (Length z))) (steps Nothing z s (Ok (Length z)) (first-last z h)) (reads-last 2 z s h)
    (taken-for (z ∷ s) z 1 (sym (digits_last 9 z h)) (omega arith))

module _ (a : ℕ) (l : 128 ≤ a) (u : a < 256) where
  -- the first byte goes on
  goes : (s : List ℕ) (p : Prefixed) → prefix_of (One a) s ≡ p → prefix_at (a ∷ s) ≡ later p
  goes s p q = then Nothing (One a) a s p (first_on a l) q

  read : (s : List ℕ) (v : Option (ℕ × ℕ)) → varint 2 s ≡ v → varint 3 (a ∷ s) ≡ before a v
  read s v e = reads_on 2 a s l ∙ ap (before a) e

  begun-one : Reads (a ∷ [])
  unfolding prefix_of varint before
  begun-one = both (a ∷ []) None (prefixed 1 (Ok (On (One a)))) (goes [] (prefixed 0 (Ok (On (One a)))) refl) (read [] None refl) refl

  two-zero : (s : List ℕ) → Reads (a ∷ zero ∷ s)
  unfolding before
  two-zero s =
      let n : ℕ = a - 128 + 128 * 0 in
      both (a ∷ zero ∷ s) (Some (n, 2)) (prefixed 2 (Err PrefixNotMinimal)) (goes (zero ∷ s) (prefixed 1 (Err PrefixNotMinimal)) (steps (One a) 0 s (Err PrefixNotMinimal) (second-zero a)))
      (read (zero ∷ s) (Some (0, 1)) (reads-last 1 0 s (omega arith)))
      (padded-for (a ∷ zero ∷ s) n 2 (λ e. omega (arith, e, minimal-one n (omega arith))))

  two : (z : ℕ) (s : List ℕ) → 0 < z → z < 128 → Reads (a ∷ z ∷ s)
  unfolding before minimal
  two z s p h =
      let n : ℕ = a - 128 + 128 * z in
      let e : a % 128 + z * 128 ≡ n = omega arith in
      both (a ∷ z ∷ s) (Some (n, 2)) (prefixed 2 (Ok (Length n))) (goes (z ∷ s) (prefixed 1 (Ok (Length n))) (steps (One a) z s (Ok (Length n)) (second-last a z n p h (omega arith) e)))
      (read (z ∷ s) (Some (z, 1)) (reads-last 1 z s h))
      (taken-for (a ∷ z ∷ s) n 2 (sym (digits-on 9 a z l u p ∙ ap (λ (x : List ℕ). a ∷ x) (digits_last 8 z h))) (omega arith))

  module _ (b : ℕ) (m : 128 ≤ b) (w : b < 256) where
    -- the second goes on too
    goes-two : (s : List ℕ) (p : Prefixed) → prefix_of (Two a b) s ≡ p → prefix_at (a ∷ b ∷ s) ≡ later (later p)
    goes-two s p q = goes (b ∷ s) (later p) (then (One a) (Two a b) b s p (second-on a b m) q)

    read-two : (s : List ℕ) (v : Option (ℕ × ℕ)) → varint 1 s ≡ v → varint 3 (a ∷ b ∷ s) ≡ before a (before b v)
    read-two s v e = read (b ∷ s) (before b v) (reads_on 1 b s m ∙ ap (before b) e)

    begun-two : Reads (a ∷ b ∷ [])
    unfolding prefix_of varint before
    begun-two = both (a ∷ b ∷ []) None (prefixed 2 (Ok (On (Two a b)))) (goes-two [] (prefixed 0 (Ok (On (Two a b)))) refl) (read-two [] None refl) refl

    three-zero : (s : List ℕ) → Reads (a ∷ b ∷ zero ∷ s)
    unfolding before
    three-zero s =
        let n : ℕ = a - 128 + 128 * (b - 128 + 128 * 0) in
        both (a ∷ b ∷ zero ∷ s) (Some (n, 3)) (prefixed 3 (Err PrefixNotMinimal)) (goes-two (zero ∷ s) (prefixed 1 (Err PrefixNotMinimal)) (steps (Two a b) 0 s (Err PrefixNotMinimal) (third-zero a b)))
        (read-two (zero ∷ s) (Some (0, 1)) (reads-last 0 0 s (omega arith)))
        (padded-for (a ∷ b ∷ zero ∷ s) n 3 (λ e. omega (arith, e, minimal-two n (omega arith))))

    module _ (z : ℕ) (s : List ℕ) (p : 0 < z) (h : z < 128) where
      abbrev value : ℕ
      value = a - 128 + 128 * (b - 128 + 128 * z)

      value-is : a % 128 + b % 128 * 128 + z * 16384 ≡ value
      value-is = omega arith

      read-three : varint 3 (a ∷ b ∷ z ∷ s) ≡ Some (value, 3)
      unfolding before
      read-three = read-two (z ∷ s) (Some (z, 1)) (reads-last 0 z s h)

      bytes-three : take 3 (a ∷ b ∷ z ∷ s) ≡ minimal value
      unfolding minimal
      bytes-three =
          let v : ℕ = b - 128 + 128 * z in
          let q : 0 < v = omega arith in
          sym (digits-on 9 a v l u q ∙ ap (λ (x : List ℕ). a ∷ x) (digits-on 8 b z m w p ∙ ap (λ (x : List ℕ). b ∷ x) (digits_last 7 z h)))

      three : Reads (a ∷ b ∷ z ∷ s)
      three =
          ⊎_elim
          (λ t. both (a ∷ b ∷ z ∷ s) (Some (value, 3)) (prefixed 3 (Err TooLong))
          (goes-two (z ∷ s) (prefixed 1 (Err TooLong)) (steps (Two a b) z s (Err TooLong) (third-over a b z value p h (ltb-true most_body value t) value-is)))
          read-three (over-for (a ∷ b ∷ z ∷ s) value 3 bytes-three (ltb-true most_body value t)))
          (λ t. both (a ∷ b ∷ z ∷ s) (Some (value, 3)) (prefixed 3 (Ok (Length value)))
          (goes-two (z ∷ s) (prefixed 1 (Ok (Length value))) (steps (Two a b) z s (Ok (Length value)) (third_last a b z value p h (ltb-false most_body value t) value-is)))
          read-three (taken-for (a ∷ b ∷ z ∷ s) value 3 bytes-three (ltb-false most_body value t)))
          (either (ltb most_body value))

    too_many : (z : ℕ) (s : List ℕ) → 128 ≤ z → Reads (a ∷ b ∷ z ∷ s)
    unfolding varint before
    too_many z s h =
        both (a ∷ b ∷ z ∷ s) None (prefixed 3 (Err TooLong)) (goes-two (z ∷ s) (prefixed 1 (Err TooLong)) (steps (Two a b) z s (Err TooLong) (third-on a b z h)))
        (read-two (z ∷ s) None (reads_on 0 z s h))
        (let e : 3 ≤ length (a ∷ b ∷ z ∷ s) = omega arith in rw (le-ltb (length (a ∷ b ∷ z ∷ s)) 3 e))

    third : (s : List ℕ) → Reads (a ∷ b ∷ s)
    third [] = begun-two
    third (zero ∷ s) = three-zero s
    third (suc z ∷ s) = ⊎_elim (λ t. three (suc z) s (omega arith) (ltb-true (suc z) 128 t)) (λ t. too_many (suc z) s (ltb-false (suc z) 128 t)) (either (ltb (suc z) 128))

  second : (s : List ℕ) → Bytes s → Reads (a ∷ s)
  second [] w = begun-one
  second (zero ∷ s) w = two-zero s
  second (suc z ∷ s) w = ⊎_elim (λ t. two (suc z) s (omega arith) (ltb-true (suc z) 128 t)) (λ t. third (suc z) (ltb-false (suc z) 128 t) (w 0) s) (either (ltb (suc z) 128))

prefix-read : (bs : List ℕ) → Bytes bs → Reads bs
prefix-read [] w = none
prefix-read (a ∷ s) w = ⊎_elim (λ t. one a s (ltb-true a 128 t)) (λ t. second a (ltb-false a 128 t) (w 0) s (λ i. w (suc i))) (either (ltb a 128))

-- ---- a length that is taken
abbrev IsMinimal : List ℕ → ℕ → ℕ → Type 0
IsMinimal bs n k = (n ≤ most_body) × (take k bs ≡ minimal n) × (varint_at bs 0 ≡ Some (n, k))

module _ (bs : List ℕ) (n k : ℕ) where
  at-start : n ≤ most_body → varint 3 bs ≡ Some (n, k) → varint_at bs 0 ≡ Some (n, k)
  unfolding varint_at placed
  at-start h e = let z : 0 + k ≡ k = omega arith in rw (more-read 7 3 bs n k e, lt-ltb n (2 ^ 64) (omega arith), z)

  lead_is : (l : Result Lead Refusal) (j : ℕ) → prefixed j l ≡ prefixed k (Ok (Length n)) → l ≡ Ok (Length n)
  lead_is l j q = ap (λ (p : Prefixed). p.lead) q

  by-varint : (v : Option (ℕ × ℕ)) → varint 3 bs ≡ v → called_for bs v ≡ prefixed k (Ok (Length n)) → IsMinimal bs n k
  by-varint (Some (m, j)) e q = go (same (take j bs) (minimal m)) refl (leb m most_body) refl q
    where
      go : (s : Bool) → same (take j bs) (minimal m) ≡ s → (t : Bool) → leb m most_body ≡ t
          → prefixed j (cond s (cond t (Ok (Length m)) (Err TooLong)) (Err PrefixNotMinimal)) ≡ prefixed k (Ok (Length n)) → IsMinimal bs n k
      go true f true g q =
          let a : m ≡ n = let y : (Ok (Length m)) ≡ (Ok (Length n)) = lead_is (Ok (Length m)) j q in cc in
          let b : j ≡ k = ap (λ (p : Prefixed). p.taken) q in
          let h : n ≤ most_body = subst (λ (x : ℕ). x ≤ most_body) a (leb-true m most_body g) in
          let i : take k bs ≡ minimal n = ap (λ (x : ℕ). take x bs) (sym b) ∙ same-eq (take j bs) (minimal m) f ∙ ap minimal a in
          (h, i, at-start h (e ∙ ap (λ (x : ℕ). Some (x, j)) a ∙ ap (λ (y : ℕ). Some (n, y)) b))
      go true f false g q = absurd (let y : Err TooLong ≡ (Ok (Length n)) = lead_is (Err TooLong) j q in let z : ◌≡◌ {A = ℕ} 0 1 = cc in omega arith)
      go false f t g q = absurd (let y : Err PrefixNotMinimal ≡ (Ok (Length n)) = lead_is (Err PrefixNotMinimal) j q in let z : ◌≡◌ {A = ℕ} 0 1 = cc in omega arith)
  by-varint None e q = go (ltb (length bs) 3) q
    where
      go : (t : Bool) → cond t (prefixed (length bs) (Ok (On (begun bs)))) (prefixed 3 (Err TooLong)) ≡ prefixed k (Ok (Length n)) → IsMinimal bs n k
      go true q = absurd (let y : (Ok (On (begun bs))) ≡ (Ok (Length n)) = lead_is (Ok (On (begun bs))) (length bs) q in let z : ◌≡◌ {A = ℕ} 0 1 = cc in omega arith)
      go false q = absurd (let y : Err TooLong ≡ (Ok (Length n)) = lead_is (Err TooLong) 3 q in let z : ◌≡◌ {A = ℕ} 0 1 = cc in omega arith)

prefix-taken : (bs : List ℕ) → Bytes bs → (n k : ℕ) → prefix_at bs ≡ prefixed k (Ok (Length n)) → IsMinimal bs n k
unfolding Reads
prefix-taken bs w n k e = by-varint bs n k (varint 3 bs) refl (sym (prefix-read bs w) ∙ e)

pub prefix-is-varint : PrefixIsVarint
unfolding Reads
prefix-is-varint = record { read = prefix-read; taken = prefix-taken; every = prefix_back }

-- The minimal varint that a recipe has is the one that wire writes. Assumes nothing.
use Prim.Native.Nat.{ℕ, zero, suc, ◌+◌, ◌-◌, ◌*◌, ◌/◌, ◌%◌, ◌^◌, ◌≤◌, ◌<◌}
use mathlib.Core.Path.{◌≡◌, refl, sym, ap, ◌∙◌}
use mathlib.Core.List.{List, [], ◌∷◌, ◌++◌}
use mathlib.Core.Bool.{Bool, true, false, cond}
use native.Mathlib.Omega.{arith}
use lib.ListN.{length, take}
use lib.Dec.{ltb}
use borrow.Author.Tests.{lt-ltb, le-ltb, ltb-true, ltb-false}
use Rattle.std.specs.Prelude.{Option, Some, None}
use Rattle.octets.specs.Octets.{Bytes}
use Rattle.wire.specs.Items.{digits, minimal}
use Rattle.wire_put.proofs.Digits.{digits_last, digits_more, fewer}
use Rattle.recipe.specs.Recipe.{continued, varint}
use Rattle.recipe.proofs.Varints.{a_varint, same-value, same-size, no-varint, continued-more}

-- ---- read after writing, whatever follows
varint-last : (k v : ℕ) (post : List ℕ) → v < 128 → varint (digits (suc k) v ++ post) ≡ a_varint v (length (digits (suc k) v))
unfolding varint
varint-last k v post l = rw (digits_last k v l, lt-ltb v 128 l)

varint-digits : (k v : ℕ) (post : List ℕ) → v < 128 ^ suc k → varint (digits (suc k) v ++ post) ≡ a_varint v (length (digits (suc k) v))
unfolding varint
varint-digits zero v post h = varint-last 0 v post (omega arith)
varint-digits (suc k) v post h = go (ltb v 128) refl (varint-digits k (v / 128) post)
  where
    go : (t : Bool) → ltb v 128 ≡ t → (v / 128 < 128 ^ suc k → varint (digits (suc k) (v / 128) ++ post) ≡ a_varint (v / 128) (length (digits (suc k) (v / 128))))
        → varint (digits (suc (suc k)) v ++ post) ≡ a_varint v (length (digits (suc (suc k)) v))
    go true e ih = varint-last (suc k) v post (ltb-true _ _ e)
    go false e ih =
        let l : 128 ≤ v = ltb-false v 128 e in
        let b : 128 ≤ v % 128 + 128 = omega arith in
        let q : v % 128 + 128 - 128 + 128 * (v / 128) ≡ v = omega arith in
        let p : 1 ≤ v / 128 = omega arith in
        rw (digits_more (suc k) v l, le-ltb (v % 128 + 128) 128 b, ih (fewer (suc k) v h), continued-more (v % 128 + 128) (v / 128) (length (digits (suc k) (v / 128))) p, q)

pub varint-minimal : (v : ℕ) (post : List ℕ) → v < 2 ^ 64 → varint (minimal v ++ post) ≡ a_varint v (length (minimal v))
unfolding minimal
varint-minimal v post h = varint-digits 9 v post (omega arith)

-- ---- written after reading
bytes-tail : (b : ℕ) (s : List ℕ) → Bytes (b ∷ s) → Bytes s
bytes-tail b s h i = h (suc i)

digits-on : (k b w m : ℕ) (s : List ℕ) → 128 ≤ b → b < 256 → b - 128 + 128 * suc w < 128 ^ suc k
    → ((k' : ℕ) → suc w < 128 ^ suc k' → digits (suc k') (suc w) ≡ take m s) → digits (suc k) (b - 128 + 128 * suc w) ≡ b ∷ take m s
digits-on zero b w m s l u h ih = absurd (omega arith)
digits-on (suc k) b w m s l u h ih =
    let v : ℕ = b - 128 + 128 * suc w in
    let q : v / 128 ≡ suc w = omega arith in
    let r : v % 128 + 128 ≡ b = omega arith in
    digits_more (suc k) v (omega arith) ∙ rw (q, r) (ap (λ (t : List ℕ). b ∷ t) (ih k (rw q at (fewer (suc k) v h))))

digits-varint : (s : List ℕ) → Bytes s → (v n : ℕ) → varint s ≡ a_varint v n → (k : ℕ) → v < 128 ^ suc k → digits (suc k) v ≡ take n s
unfolding varint continued
digits-varint [] bs v n e k h = absurd (no-varint e)
digits-varint (b ∷ s) bs v n e k h = go (ltb b 128) refl (digits-varint s (bytes-tail b s bs))
  where
    one : b < 128 → cond true (a_varint b 1) (continued b (varint s)) ≡ a_varint v n → digits (suc k) v ≡ take n (b ∷ s)
    one l q =
        rw (sym (same-value q), sym (same-size q)) (digits_last k b l)

    more : 128 ≤ b → (r : Option (ℕ × ℕ)) → varint s ≡ r → continued b r ≡ a_varint v n → ((w m : ℕ) → varint s ≡ a_varint w m → (k' : ℕ) → w < 128 ^ suc k' → digits (suc k') w ≡ take m s) → digits (suc k) v ≡ take n (b ∷ s)
    more l None f q ih = absurd (no-varint q)
    more l (Some (zero, m)) f q ih = absurd (no-varint q)
    more l (Some (suc w, m)) f q ih =
        let ev : v ≡ b - 128 + 128 * suc w = sym (same-value q) in
        rw (ev, sym (same-size q)) (digits-on k b w m s l (bs 0) (rw ev at h) (λ k' g. ih (suc w) m f k' g))

    go : (t : Bool) → ltb b 128 ≡ t → ((w m : ℕ) → varint s ≡ a_varint w m → (k' : ℕ) → w < 128 ^ suc k' → digits (suc k') w ≡ take m s) → digits (suc k) v ≡ take n (b ∷ s)
    go true t ih = one (ltb-true b 128 t) (rw t at e)
    go false t ih = more (ltb-false b 128 t) (varint s) refl (rw t at e) ih

pub minimal-varint : (s : List ℕ) → Bytes s → (v n : ℕ) → varint s ≡ a_varint v n → v < 2 ^ 64 → minimal v ≡ take n s
unfolding minimal
minimal-varint s bs v n e h = digits-varint s bs v n e 9 (omega arith)

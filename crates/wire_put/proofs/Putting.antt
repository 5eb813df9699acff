-- One run of bytes after another. Assumes nothing.
use Prim.Native.Nat.{ℕ, ◌+◌, ◌*◌, ◌≤◌, ◌<◌}
use mathlib.Core.Path.{◌≡◌, refl, sym, ap, subst, ◌∙◌}
use mathlib.Core.Logic.{⊎_elim}
use mathlib.Core.List.{List, [], ◌∷◌, ◌++◌, append_assoc, append-nil}
use mathlib.Core.Bool.{true, false}
use native.Mathlib.Omega.{arith}
use lib.ListN.{length, length-append}
use lib.Seq.{sets, length-sets}
use lib.Dec.{leb}
use borrow.Author.Tests.{leb-true, leb-false}
use Rattle.octets.proofs.Bools.{either}
use Rattle.octets.proofs.Stores.{sets-append, sets-out}
use Rattle.wire.specs.Items.{Item, num, bytes, minimal, tagged, written1, written, single, repeated, past, Put}
use Rattle.wire_put.proofs.Digits.{past_fits, past-full, past-over, minimal-one, minimal-two}

pub put-start : (buf : List ℕ) (at : ℕ) → Put buf at [] buf at
put-start buf at = record { end = ⊎_elim fits over (either (leb at (length buf))); same = refl }
  where
    fits : leb at (length buf) ≡ true → at ≡ past (length buf) at 0
    fits t = let z : at ≡ at + 0 = omega arith in z ∙ past_fits (length buf) at 0 (omega (arith, leb-true at (length buf) t))

    over : leb at (length buf) ≡ false → at ≡ past (length buf) at 0
    over t = past-over (length buf) at 0 (leb-false at (length buf) t)

pub put-length : (buf : List ℕ) (at : ℕ) (a buf₁ : List ℕ) (r : ℕ) → Put buf at a buf₁ r → length buf₁ ≡ length buf
put-length buf at a buf₁ r p = ap length p.same ∙ length-sets buf at a

pub put_is : (buf : List ℕ) (at : ℕ) (a b buf₁ : List ℕ) (r : ℕ) → a ≡ b → Put buf at a buf₁ r → Put buf at b buf₁ r
put_is buf at a b buf₁ r e p = subst (λ (x : List ℕ). Put buf at x buf₁ r) e p

-- with room for them, the place after the bytes is their end
pub put-end : (buf : List ℕ) (at : ℕ) (a buf₁ : List ℕ) (r : ℕ) → Put buf at a buf₁ r → at + length a ≤ length buf → r ≡ at + length a
put-end buf at a buf₁ r p h = p.end ∙ sym (past_fits (length buf) at (length a) h)

module _ (size at m n r : ℕ) (e : r ≡ past size at m) where
  past_room : at + m ≤ size → past size r n ≡ past size at (m + n)
  past_room h =
      let q : r ≡ at + m = e ∙ sym (past_fits size at m h) in
      let x : at + m + n ≡ at + (m + n) = omega arith in
      rw q
      (⊎_elim
      (λ t. let l = leb-true _ _ t in sym (past_fits size (at + m) n l) ∙ x ∙ past_fits size at (m + n) (omega arith))
      (λ t. let l = leb-false _ _ t in sym (past-full size (at + m) n h l) ∙ past-full size at (m + n) (omega arith) (omega arith))
      (either (leb (at + m + n) size)))

  past-no : size < at + m → past size r n ≡ past size at (m + n)
  past-no h = ⊎_elim (λ t. full (leb-true _ _ t)) (λ t. over (leb-false _ _ t)) (either (leb at size))
    where
      after : size < at + m → r ≡ size → past size r n ≡ size
      after h q = rw q (⊎_elim (λ t. let l = leb-true _ _ t in (let z : size + n ≡ size = omega arith in sym (past_fits size size n l) ∙ z)) (λ t. sym (past-full size size n (omega arith) (leb-false _ _ t))) (either (leb (size + n) size)))

      full : at ≤ size → past size r n ≡ past size at (m + n)
      full l = after h (e ∙ sym (past-full size at m l h)) ∙ past-full size at (m + n) l (omega arith)

      over : size < at → past size r n ≡ past size at (m + n)
      over l =
          let q : r ≡ at = e ∙ sym (past-over size at m l) in
          rw q (sym (past-over size at n l) ∙ past-over size at (m + n) l)

  pub past-past : past size r n ≡ past size at (m + n)
  past-past = ⊎_elim (λ t. past_room (leb-true _ _ t)) (λ t. past-no (leb-false _ _ t)) (either (leb (at + m) size))

  pub past-most : size < at + m → size ≤ r
  past-most h = ⊎_elim (λ t. omega (arith, e, past-full size at m (leb-true _ _ t) h)) (λ t. omega (arith, e, past-over size at m (leb-false _ _ t), leb-false at size t)) (either (leb at size))

-- two runs make one
pub put_on : (buf : List ℕ) (at : ℕ) (a buf₁ : List ℕ) (r₁ : ℕ) (b buf₂ : List ℕ) (r₂ : ℕ) → Put buf at a buf₁ r₁ → Put buf₁ r₁ b buf₂ r₂ → Put buf at (a ++ b) buf₂ r₂
put_on buf at a buf₁ r₁ b buf₂ r₂ p q =
    record {
      end = q.end ∙ ap (λ (n : ℕ). past n r₁ (length b)) kept ∙ past-past (length buf) at (length a) (length b) r₁ p.end ∙ ap (past (length buf) at) (sym (length-append a b));
      same = q.same ∙ ap (λ (l : List ℕ). sets l r₁ b) p.same ∙ there ∙ sym (sets-append buf at a b);
    }
  where
    kept : length buf₁ ≡ length buf
    kept = put-length buf at a buf₁ r₁ p

    there : sets (sets buf at a) r₁ b ≡ sets (sets buf at a) (at + length a) b
    there =
        ⊎_elim
        (λ t. ap (λ (n : ℕ). sets (sets buf at a) n b) (put-end buf at a buf₁ r₁ p (leb-true _ _ t)))
        (λ t.
        let l : length buf < at + length a = leb-false _ _ t in
        sets-out (sets buf at a) r₁ b (omega (arith, length-sets buf at a, past-most (length buf) at (length a) (length b) r₁ p.end l))
        ∙ sym (sets-out (sets buf at a) (at + length a) b (omega (arith, length-sets buf at a))))
        (either (leb (at + length a) (length buf)))

-- ---- pieces
pub put-number : (buf : List ℕ) (at f v : ℕ) (tag : ℕ) (buf₁ : List ℕ) (r₁ : ℕ) (buf₂ : List ℕ) (r₂ : ℕ) → tag ≡ f * 8 → Put buf at (minimal tag) buf₁ r₁ → Put buf₁ r₁ (minimal v) buf₂ r₂
    → Put buf at (written1 (num f v)) buf₂ r₂
unfolding written1 tagged
put-number buf at f v tag buf₁ r₁ buf₂ r₂ e p q =
    let z : tag ≡ f * 8 + 0 = omega arith in
    rw z at (put_on buf at (minimal tag) buf₁ r₁ (minimal v) buf₂ r₂ p q)

pub put-tag : (buf : List ℕ) (at tag v : ℕ) (buf₁ : List ℕ) (r₁ : ℕ) (buf₂ : List ℕ) (r₂ : ℕ) → Put buf at (minimal tag) buf₁ r₁ → Put buf₁ r₁ (minimal v) buf₂ r₂
    → Put buf at (tagged tag v) buf₂ r₂
unfolding tagged
put-tag buf at tag v buf₁ r₁ buf₂ r₂ p q = put_on buf at (minimal tag) buf₁ r₁ (minimal v) buf₂ r₂ p q

pub put-bytes : (buf : List ℕ) (at f : ℕ) (b buf₁ : List ℕ) (r₁ : ℕ) (buf₂ : List ℕ) (r₂ : ℕ) → Put buf at (tagged (f * 8 + 2) (length b)) buf₁ r₁ → Put buf₁ r₁ b buf₂ r₂
    → Put buf at (written1 (bytes f b)) buf₂ r₂
unfolding written1
put-bytes buf at f b buf₁ r₁ buf₂ r₂ p q = put_on buf at (tagged (f * 8 + 2) (length b)) buf₁ r₁ b buf₂ r₂ p q

pub single-empty : (f : ℕ) (b : List ℕ) → length b ≡ 0 → written (single f b) ≡ []
unfolding single written
single-empty f [] e = refl
single-empty f (x ∷ b) e = absurd (omega arith)

pub single-full : (f : ℕ) (b : List ℕ) → (length b ≡ 0 → ⊥) → written (single f b) ≡ written1 (bytes f b)
unfolding single written
single-full f [] e = absurd (e refl)
single-full f (x ∷ b) e = append-nil (written1 (bytes f (x ∷ b)))

-- ---- fields after fields
pub written-append : (a b : List Item) → written (a ++ b) ≡ written a ++ written b
unfolding written
written-append [] b = refl
written-append (i ∷ a) b = rw (written-append a b) (sym (append_assoc (written1 i) (written a) (written b)))

pub written_one : (i : Item) → written (i ∷ []) ≡ written1 i
unfolding written
written_one i = append-nil (written1 i)

pub repeated-append : (f : ℕ) (a b : List (List ℕ)) → repeated f (a ++ b) ≡ repeated f a ++ repeated f b
unfolding repeated
repeated-append f [] b = refl
repeated-append f (x ∷ a) b = rw (repeated-append f a b)

pub repeated-snoc : (f : ℕ) (a : List (List ℕ)) (b : List ℕ) → written (repeated f (a ++ (b ∷ []))) ≡ written (repeated f a) ++ written1 (bytes f b)
unfolding repeated
repeated-snoc f a b = rw (repeated-append f a (b ∷ []), written-append (repeated f a) (bytes f b ∷ []), written_one (bytes f b))

-- ---- sizes
pub tagged-length : (t v : ℕ) → t < 128 → length (tagged t v) ≡ 1 + length (minimal v)
unfolding tagged
tagged-length t v h = omega (arith, length-append (minimal t) (minimal v), minimal-one t h)

pub number-length : (f v : ℕ) → f < 16 → length (written1 (num f v)) ≡ 1 + length (minimal v)
unfolding written1
number-length f v h = tagged-length (f * 8 + 0) v (omega arith)

pub bytes-length : (f : ℕ) (b : List ℕ) → f < 16 → length (written1 (bytes f b)) ≡ 1 + length (minimal (length b)) + length b
unfolding written1
bytes-length f b h = omega (arith, length-append (tagged (f * 8 + 2) (length b)) b, tagged-length (f * 8 + 2) (length b) (omega arith))

pub bytes-short : (f : ℕ) (b : List ℕ) → f < 16 → length b < 16384 → length (written1 (bytes f b)) ≤ 3 + length b
bytes-short f b h k = omega (arith, bytes-length f b h, minimal-two (length b) k)

pub put-raw : (buf : List ℕ) (at : ℕ) (b buf₁ : List ℕ) (n r : ℕ) → buf₁ ≡ sets buf at b → n ≡ length buf₁ → r ≡ past n at (length b) → Put buf at b buf₁ r
put-raw buf at b buf₁ n r e q p =
    let k : n ≡ length buf = q ∙ ap length e ∙ length-sets buf at b in
    record { end = p ∙ ap (λ (x : ℕ). past x at (length b)) k; same = e }

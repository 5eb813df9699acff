-- Laws of parts of a byte string. Assumes nothing.
use Prim.Native.Nat.{ℕ, zero, suc, ◌+◌, ◌-◌, ◌<◌, ◌≤◌, min}
use mathlib.Core.Path.{◌≡◌, refl, sym, ap, ap₂, ◌∙◌}
use mathlib.Core.Logic.{⊎_elim}
use mathlib.Core.List.{List, [], ◌∷◌, ◌++◌}
use native.Mathlib.Omega.{arith}
use lib.ListN.{length, get_or, take, drop, length-take, length-drop, drop_of_length-le}
use lib.Seq.{get_or-take, get_or-drop, drop-drop, take-nil, take-take, take-add, take_all}
use lib.Dec.{ltb}
use borrow.Author.Tests.{ltb-true, ltb-false}
use Rattle.octets.specs.Octets.{Bytes, part}
use Rattle.octets.proofs.Bools.{either}

-- ---- bytes
pub bytes_take : (n : ℕ) (s : List ℕ) → Bytes s → Bytes (take n s)
bytes_take zero s h i = omega arith
bytes_take (suc n) [] h i = omega arith
bytes_take (suc n) (b ∷ s) h zero = h zero
bytes_take (suc n) (b ∷ s) h (suc i) = bytes_take n s (λ j. h (suc j)) i

pub bytes_drop : (n : ℕ) (s : List ℕ) → Bytes s → Bytes (drop n s)
bytes_drop n s h i = rw get_or-drop (h (n + i))

pub bytes-part : (s : List ℕ) (a e : ℕ) → Bytes s → Bytes (part s a e)
bytes-part s a e h = bytes_take (e - a) (drop a s) (bytes_drop a s h)

pub bytes-nil : Bytes []
bytes-nil i = omega arith

pub bytes-cons : (b : ℕ) (s : List ℕ) → b < 256 → Bytes s → Bytes (b ∷ s)
bytes-cons b s l h zero = l
bytes-cons b s l h (suc i) = h i

pub bytes-append : (s t : List ℕ) → Bytes s → Bytes t → Bytes (s ++ t)
bytes-append [] t hs ht i = ht i
bytes-append (b ∷ s) t hs ht zero = hs zero
bytes-append (b ∷ s) t hs ht (suc i) = bytes-append s t (λ j. hs (suc j)) ht i

-- ---- lengths and elements
pub part_length : (s : List ℕ) (a e : ℕ) → e ≤ length s → length (part s a e) ≡ e - a
part_length s a e h = simp (length-take, length-drop) (omega arith)

pub part-size : (s : List ℕ) (a n : ℕ) → a + n ≤ length s → length (part s a (a + n)) ≡ n
part-size s a n h = simp (length-take, length-drop) (omega arith)

pub part_at : (s : List ℕ) (a e i : ℕ) → a + i < e → get_or (part s a e) i 0 ≡ get_or s (a + i) 0
part_at s a e i h = get_or-take (e - a) (drop a s) i 0 (omega arith) ∙ get_or-drop a s i 0

-- n bytes from a on
pub part-is : (s : List ℕ) (a n : ℕ) → part s a (a + n) ≡ take n (drop a s)
part-is s a n = let e : a + n - a ≡ n = omega arith in rw e

pub part-whole : (s : List ℕ) (e : ℕ) → length s ≤ e → part s 0 e ≡ s
part-whole s e h = let z : e - 0 ≡ e = omega arith in rw z (take_all e s h)

-- a part of a part
pub drop-take : (j n : ℕ) (s : List ℕ) → drop j (take n s) ≡ take (n - j) (drop j s)
drop-take zero n s = let z : n - 0 ≡ n = omega arith in rw z
drop-take (suc j) zero s = nil j
  where
    nil : (j : ℕ) → drop (suc j) (take zero s) ≡ take (zero - suc j) (drop (suc j) s)
    nil j = let e : 0 - suc j ≡ 0 = omega arith in rw e
drop-take (suc j) (suc n) [] = nil (suc n - suc j)
  where
    nil : (m : ℕ) → ◌≡◌ {A = List ℕ} [] (take m [])
    nil zero = refl
    nil (suc m) = refl
drop-take (suc j) (suc n) (b ∷ s) = let e : suc n - suc j ≡ n - j = omega arith in rw e (drop-take j n s)

pub part-part : (s : List ℕ) (a e b f : ℕ) → f ≤ e - a → part (part s a e) b f ≡ part s (a + b) (a + f)
part-part s a e b f h =
    let m : a + f - (a + b) ≡ f - b = omega arith in
    ap (take (f - b)) (drop-take b (e - a) (drop a s))
    ∙ take-take (f - b) (e - a - b) (drop b (drop a s)) (omega arith)
    ∙ ap₂ (λ (n : ℕ) (t : List ℕ). take n t) (sym m) (drop-drop b a s)

-- two parts that meet
pub part_join : (s : List ℕ) (a b e : ℕ) → a ≤ b → b ≤ e → part s a b ++ part s b e ≡ part s a e
part_join s a b e p q =
    let x : a + (b - a) ≡ b = omega arith in
    let y : (b - a) + (e - b) ≡ e - a = omega arith in
    sym (ap (λ (n : ℕ). take n (drop a s)) (sym y) ∙ take-add (b - a) (e - b) (drop a s)
    ∙ ap (λ (t : List ℕ). part s a b ++ take (e - b) t) (drop-drop (b - a) a s ∙ ap (λ (n : ℕ). drop n s) x))

-- ---- a cut: from a to the end, and n bytes or as many as there are
pub cut-end : (s : List ℕ) (a : ℕ) → take (length s - a) (drop a s) ≡ drop a s
cut-end s a = take_all (length s - a) (drop a s) (simp length-drop (omega arith))

pub cut-none : (s : List ℕ) (a n : ℕ) → length s ≤ a → drop (length s) s ≡ take n (drop a s)
cut-none s a n h =
    let z : length s ≤ length s = omega arith in
    drop_of_length-le s z ∙ sym (ap (take n) (drop_of_length-le s h) ∙ take-nil n)

pub cut-few : (s : List ℕ) (a n : ℕ) → length s - a ≤ n → drop a s ≡ take n (drop a s)
cut-few s a n h = sym (take_all n (drop a s) (simp length-drop (omega arith)))

pub cut-whole : (s : List ℕ) (a n : ℕ) → take (a + n - a) (drop a s) ≡ take n (drop a s)
cut-whole s a n = let e : a + n - a ≡ n = omega arith in ap (λ (k : ℕ). take k (drop a s)) e

-- a part cut at a limit
pub take_part : (s : List ℕ) (a n m : ℕ) → take m (part s a (a + n)) ≡ take (min n m) (drop a s)
take_part s a n m = let e : a + n - a ≡ n = omega arith in ap (λ (k : ℕ). take m (take k (drop a s))) e ∙ both m n (drop a s)
  where
    both : (m n : ℕ) (l : List ℕ) → take m (take n l) ≡ take (min n m) l
    both m n l = ⊎_elim (λ h. low (ltb-true n m h)) (λ h. high (ltb-false n m h)) (either (ltb n m))
      where
        low : n < m → take m (take n l) ≡ take (min n m) l
        low h =
            let e : min n m ≡ n = omega arith in
            take_all m (take n l) (omega (arith, length-take n l)) ∙ ap (λ (k : ℕ). take k l) (sym e)

        high : m ≤ n → take m (take n l) ≡ take (min n m) l
        high h = let e : min n m ≡ m = omega arith in take-take m n l h ∙ ap (λ (k : ℕ). take k l) (sym e)

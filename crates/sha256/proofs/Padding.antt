-- The last blocks of a message, and the hash as the whole blocks and then the last. Assumes nothing.
use Rattle.std.proofs.Common.{◌≡◌, ℕ, zero, suc, ◌+◌, ◌-◌, ◌*◌, ◌/◌, ◌%◌, ◌<◌, ◌≤◌, List, ◌∷◌, ◌++◌, length, get_or, take, drop, set, replicate, sym, refl, ap, ◌∙◌, append_assoc, add-zero, add-suc, add-one, arith, length-append, length-drop, take-append-drop, length-take-le, take_all, take-suc, drop-drop, take_at}
use lib.ListN.{length-replicate, replicate-append-replicate}
use lib.Seq.{sets, sets-eq, set_at, take-append-le, drop-append-le, append_snoc}
use Rattle.octets.specs.Octets.{part, big_endian}
use Rattle.sha256.specs.declared.State.{State}
use Rattle.sha256.specs.Inner.{last_blocks}
use Rattle.sha256.specs.Sha256.{absorbed, initial, pad, digest, sha256}

-- ---- copying the last bytes

pub part-take : (s : List ℕ) (a n : ℕ) → part s a (a + n) ≡ take n (drop a s)
part-take s a n = let e : a + n - a ≡ n = omega arith in rw e

pub copy_more : (s : List ℕ) (i x : ℕ) → i < length s → i < 128 → x ≡ get_or s i 0
    → set (take i s ++ replicate (128 - i) 0) i x ≡ take (i + 1) s ++ replicate (128 - (i + 1)) 0
copy_more s i x h hb e =
    let z : List ℕ = replicate (128 - (i + 1)) 0 in
    let p : 128 - i ≡ suc (128 - (i + 1)) = omega arith in
    rw p
    (set_at (take i s) 0 z x i (length-take-le i s (omega arith))
    ∙ ap (λ (v : ℕ). take i s ++ v ∷ z) e
    ∙ sym (append_snoc (take i s) (get_or s i 0) z)
    ∙ ap (λ (l : List ℕ). l ++ z) (sym (take-suc s i 0 h) ∙ ap (λ (k : ℕ). take k s) (sym (add-one i))))

-- ---- the last blocks

-- the one bit, stored in zeros
one_bit : (rest : List ℕ) (n z k : ℕ) → length rest ≡ n → 128 - n ≡ suc (z + k)
    → set (rest ++ replicate (128 - n) 0) n 0x80 ≡ (rest ++ (0x80 ∷ replicate z 0)) ++ replicate k 0
one_bit rest n z k h e =
    let r : replicate {A = ℕ} (z + k) 0 ≡ replicate z 0 ++ replicate k 0 = sym (replicate-append-replicate z k 0) in
    rw (e, r)
    (set_at rest 0 (replicate z 0 ++ replicate k 0) 0x80 n h ∙ sym (append_assoc rest (0x80 ∷ replicate z 0) (replicate k 0)))

-- the length, stored after the zeros
put-after : (p z b : List ℕ) (a : ℕ) → length p ≡ a → length b ≤ length z → take (a + length b) (sets (p ++ z) a b) ≡ p ++ b
put-after p z b a h g =
    let e : sets (p ++ z) a b ≡ (p ++ b) ++ drop (a + length b) (p ++ z) =
    sets-eq b (p ++ z) a (simp length-append (omega arith)) ∙ ap (λ (q : List ℕ). (q ++ b) ++ drop (a + length b) (p ++ z)) (take_at p z a h) in
    rw e (take_at (p ++ b) (drop (a + length b) (p ++ z)) (a + length b) (simp length-append (omega arith)))

-- the last n bytes, the one bit and the length
fill : (rest b : List ℕ) (n l : ℕ) → length rest ≡ n → n < 64 → l ≡ last_blocks n → length b ≡ 8
    → take (64 * l) (sets (set (rest ++ replicate (128 - n) 0) n 0x80) (64 * l - 8) b) ≡ rest ++ (0x80 ∷ replicate ((119 - n) % 64) 0) ++ b
fill rest b n l hn h hl hb =
    let e : 64 * l ≡ 64 * l - 8 + length b = omega arith in
    let k : 128 - n ≡ suc ((119 - n) % 64 + (127 - n - (119 - n) % 64)) = omega arith in
    ap (λ (q : List ℕ). take (64 * l) (sets q (64 * l - 8) b)) (one_bit rest n ((119 - n) % 64) (127 - n - (119 - n) % 64) hn k)
    ∙ ap (λ (j : ℕ). take j (sets ((rest ++ (0x80 ∷ replicate ((119 - n) % 64) 0)) ++ replicate (127 - n - (119 - n) % 64) 0) (64 * l - 8) b)) e
    ∙ put-after (rest ++ (0x80 ∷ replicate ((119 - n) % 64) 0)) (replicate (127 - n - (119 - n) % 64) 0) b (64 * l - 8)
    (simp (length-append, length-replicate) (omega arith))
    (simp length-replicate (omega arith))

length-field : (x : ℕ) → length (big_endian 8 x) ≡ 8
unfolding big_endian
length-field x = refl

length-pad : (m : List ℕ) → length (pad m) ≡ length m + (119 - length m % 64) % 64 + 9
unfolding pad
length-pad m = simp (length-append, length-replicate, length-field) (omega arith)

-- what follows some bytes of the message in the padded one
drop-pad : (m : List ℕ) (k : ℕ) → k ≤ length m
    → drop k (pad m) ≡ drop k m ++ (0x80 ∷ replicate ((119 - length m % 64) % 64) 0) ++ big_endian 8 (length m * 8)
unfolding pad
drop-pad m k h =
    let z : List ℕ = 0x80 ∷ replicate ((119 - length m % 64) % 64) 0 in
    let g : k ≤ length (m ++ z) = simp length-append (omega arith) in
    drop-append-le k (m ++ z) (big_endian 8 (length m * 8)) g ∙ ap (λ (q : List ℕ). q ++ big_endian 8 (length m * 8)) (drop-append-le k m z h)

-- what `tail` leaves in its array
pub tail-law : (m : List ℕ) (n l : ℕ) → n ≡ length m % 64 → l ≡ last_blocks n
    → take (64 * l) (sets (set (part m (length m - n) (length m - n + n) ++ replicate (128 - n) 0) n 0x80) (64 * l - 8) (big_endian 8 (length m * 8)))
    ≡ drop (64 * (length m / 64)) (pad m)
tail-law m n l hn hl =
    let f : length m - n ≡ 64 * (length m / 64) = omega arith in
    let s : 64 * (length m / 64) + n - 64 * (length m / 64) ≡ n = omega arith in
    let r : length (drop (64 * (length m / 64)) m) ≡ n = simp length-drop (omega arith) in
    let t : take n (drop (64 * (length m / 64)) m) ≡ drop (64 * (length m / 64)) m = take_all n (drop (64 * (length m / 64)) m) (omega arith) in
    rw (f, s, t, drop-pad m (64 * (length m / 64)) (omega arith), ← hn)
    (fill (drop (64 * (length m / 64)) m) (big_endian 8 (length m * 8)) n l r (omega arith) hl (length-field _))

-- ---- blocks

block_size : (k : ℕ) → k + 64 - k ≡ 64
block_size k = omega arith

-- the blocks of a list that goes on
absorbed-front : (n : ℕ) (a b : List ℕ) (s : State) → 64 * n ≤ length a → absorbed n (a ++ b) s ≡ absorbed n a s
unfolding absorbed
absorbed-front zero a b s h = refl
absorbed-front (suc n) a b s h =
    let h1 : 64 * n ≤ length a = omega arith in
    let h2 : 64 ≤ length (drop (64 * n) a) = simp length-drop (omega arith) in
    let ih : absorbed n (a ++ b) s ≡ absorbed n a s = absorbed-front n a b s h1 in
    rw (ih, block_size (64 * n), drop-append-le (64 * n) a b h1, take-append-le 64 (drop (64 * n) a) b h2)

-- some blocks, and then more
absorbed-add : (p q : ℕ) (m : List ℕ) (s : State) → absorbed (p + q) m s ≡ absorbed q (drop (64 * p) m) (absorbed p m s)
unfolding absorbed
absorbed-add p zero m s = rw add-zero
absorbed-add p (suc q) m s =
    let e : 64 * p + 64 * q ≡ 64 * (p + q) = omega arith in
    let ih : absorbed (p + q) m s ≡ absorbed q (drop (64 * p) m) (absorbed p m s) = absorbed-add p q m s in
    rw (add-suc p q, ih, drop-drop, e, block_size (64 * q), block_size (64 * (p + q)))

-- an array that starts with the blocks
absorbed-take : (l : ℕ) (t p : List ℕ) (s : State) → take (64 * l) t ≡ p → 64 * l ≤ length p → absorbed l t s ≡ absorbed l p s
absorbed-take l t p s e h =
    ap (λ (q : List ℕ). absorbed l q s) (sym (take-append-drop (64 * l) t))
    ∙ absorbed-front l (take (64 * l) t) (drop (64 * l) t) s (omega (arith, ap length e))
    ∙ ap (λ (q : List ℕ). absorbed l q s) e

pad-front : (m : List ℕ) (w : ℕ) (s : State) → 64 * w ≤ length m → absorbed w (pad m) s ≡ absorbed w m s
unfolding pad
pad-front m w s h =
    let z : List ℕ = 0x80 ∷ replicate ((119 - length m % 64) % 64) 0 in
    absorbed-front w (m ++ z) (big_endian 8 (length m * 8)) s (simp length-append (omega arith)) ∙ absorbed-front w m z s h

-- the whole blocks of a message, and then an array that starts with the rest of the padded message
pub hash-law : (m t : List ℕ) (w l : ℕ) → w ≡ length m / 64 → l ≡ last_blocks (length m % 64) → take (64 * l) t ≡ drop (64 * w) (pad m)
    → digest (absorbed l t (absorbed w m initial)) ≡ sha256 m
unfolding sha256
hash-law m t w l hw hl ht =
    let n : length (pad m) / 64 ≡ w + l = omega (arith, length-pad m) in
    let k : 64 * l ≤ length (drop (64 * w) (pad m)) = simp length-drop (omega (arith, length-pad m)) in
    ap digest
    (absorbed-take l t (drop (64 * w) (pad m)) (absorbed w m initial) ht k
    ∙ ap (absorbed l (drop (64 * w) (pad m))) (sym (pad-front m w initial (omega arith)))
    ∙ sym (absorbed-add w l (pad m) initial)
    ∙ ap (λ (j : ℕ). absorbed j (pad m) initial) (sym n))

-- The claims of specs/Claims.antt. Assumes nothing.
use Prim.Native.Nat.{ℕ, ◌<◌}
use mathlib.Core.Path.{◌≡◌, sym, ap, ◌∙◌}
use mathlib.Core.Logic.{◌⊎◌, ⊎_elim}
use mathlib.Core.Bool.{true, false, not}
use mathlib.Core.List.{List}
use native.Mathlib.Omega.{arith}
use lib.Dec.{ltb}
use lib.ListN.{length}
use borrow.Author.Tests.{eqb-true, lt-ltb, le-ltb}
use Rattle.octets.proofs.Bools.{and_l, and_r, and_i, to-false, eq-or-ne}
use Rattle.place.specs.Place.{is_place, distance, nearer_to, bucket_of}
use Rattle.place.specs.Claims.{Place, Claims}
use Rattle.place.proofs.Places.{bytes-place_of, is_place-place_of}
use Rattle.place.proofs.Distance as d
use Rattle.place.proofs.Buckets as b

sized : (p : List ℕ) → Place p → length p ≡ 32
unfolding is_place
sized p h = eqb-true (length p) 32 h.size

-- ---- nearness
-- of two numbers that differ exactly one is below the other
ltb-other : (m n : ℕ) → (m < n) ⊎ (n < m) → ltb m n ≡ not (ltb n m)
ltb-other m n h =
    ⊎_elim
    (λ (p : m < n). lt-ltb m n p ∙ sym (ap not (le-ltb n m (omega arith))))
    (λ (p : n < m). le-ltb m n (omega arith) ∙ sym (ap not (lt-ltb n m p)))
    h

nearer-total : (t a b : List ℕ) → Place t → Place a → Place b → (a ≡ b → ⊥) → nearer_to t a b ≡ not (nearer_to t b a)
nearer-total t a b pt pa pb h =
    d.nearer-is t a b (sized t pt) (sized a pa) (sized b pb)
    ∙ ltb-other (distance a t) (distance b t) (d.nearer-total a b t (sized a pa ∙ sym (sized b pb)) pa.bytes pb.bytes h)
    ∙ ap not (sym (d.nearer-is t b a (sized t pt) (sized b pb) (sized a pa)))

nearer-self : (t a : List ℕ) → nearer_to t a a ≡ false
nearer-self t a = to-false (nearer_to t a a) (λ h. absurd (below (d.nearer-out t a a h)))
  where
    below : {n : ℕ} → n < n → ⊥
    below l = omega arith

nearer-trans : (t a b c : List ℕ) → nearer_to t a b ≡ true → nearer_to t b c ≡ true → nearer_to t a c ≡ true
unfolding nearer_to
nearer-trans t a b c p q =
    let near : distance a t < distance b t = d.nearer-out t a b p in
    let far : distance b t < distance c t = d.nearer-out t b c q in
    let first = and_r (is_place t) _ p in
    let second = and_r (is_place t) _ q in
    and_i (is_place t) _ (and_l (is_place t) _ p)
    (and_i (is_place a) _ (and_l (is_place a) _ first)
    (and_i (is_place c) _ (and_l (is_place c) _ (and_r (is_place b) _ second)) (lt-ltb (distance a t) (distance c t) (omega arith))))

-- ---- buckets: what is no place has 256 too
bucket-self : (o : List ℕ) → bucket_of o o ≡ 256
bucket-self o = ⊎_elim (λ e. b.bucket-self o e) (λ e. b.bucket-not-left o o e) (eq-or-ne (length o) 32)

pub claims : Claims
claims = record {
  places = λ name. record { size = is_place-place_of name; bytes = bytes-place_of name };
  distance_self = d.distance_self;
  distance-zero = d.distance-zero;
  distance-sym = d.distance-sym;
  distance-inj = d.distance-inj;
  nearer-total = nearer-total;
  nearer-self = nearer-self;
  nearer-trans = nearer-trans;
  bucket-zeros = λ p o hp ho. b.bucket-zeros p o (sized p hp) (sized o ho) hp.bytes ho.bytes;
  bucket-lt = λ p o hp ho. b.bucket-lt p o (sized p hp) (sized o ho) hp.bytes ho.bytes;
  bucket-self = bucket-self;
  bucket-ours = λ p o hp ho. b.bucket-ours p o (sized p hp) (sized o ho) hp.bytes ho.bytes;
}

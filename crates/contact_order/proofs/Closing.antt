-- Laws of a bucket's order closing up, and that the code's stores do it. Assumes nothing.
use Prim.Native.Nat.{ℕ, zero, suc, ◌+◌, ◌*◌, ◌-◌, ◌<◌, ◌≤◌}
use mathlib.Core.Path.{◌≡◌, refl, sym, ap, ap₂, ◌∙◌}
use mathlib.Core.Logic.{◌⊎◌, inl, inr, ⊎_elim}
use mathlib.Core.Bool.{true, false, ◌&&◌}
use mathlib.Core.List.{List}
use native.Mathlib.Nat.{eq-or-lt_of_le, le_of_suc-le-suc, not-suc-le-zero}
use native.Mathlib.Numerals.{add-one}
use native.Mathlib.Omega.{arith}
use lib.Dec.{ltb}
use lib.ListN.{length, set, length-set}
use borrow.Author.Tests.{lt-ltb, le-ltb}
use Rattle.octets.proofs.Bools.{and_i, and-off, and-fails, either, cond_yes, cond_no}
use Rattle.place.specs.Place.{bucket_of}
use Rattle.contact_table.proofs.Cuts.{mark-used}
use Rattle.contacts.specs.Table.{slot_size, slots_of, slot, put_slot, mark, place}
use Rattle.contact_order.specs.Order.{of_bucket, with_mark, with_doubt, lowered, each, close_up, leave}
use Rattle.contact_order.proofs.Slots.{slot-long, length-put, slot-put, slot-other, put_self, put-set}
use Rattle.contact_order.proofs.Tests.{of-make, of-far}

-- ---- every slot changed
module _ (f : List ℕ → List ℕ) (long : (s : List ℕ) → length s ≡ slot_size → length (f s) ≡ slot_size) (t : List ℕ) where
  each-suc : (n : ℕ) → each f (suc n) t ≡ put_slot (each f n t) n (f (slot t n))
  unfolding each
  each-suc n = refl

  pub each-length : (n : ℕ) → length (each f n t) ≡ length t
  unfolding each
  each-length zero = refl
  each-length (suc n) = length-put (each f n t) n (f (slot t n)) ∙ each-length n

  pub each-slots : (n : ℕ) → slots_of (each f n t) ≡ slots_of t
  unfolding slots_of
  each-slots n = rw (each-length n)

  changed-long : (n : ℕ) → n < slots_of t → length (f (slot t n)) ≡ slot_size
  changed-long n l = long (slot t n) (slot-long t n l)

  each-later : (n j : ℕ) → n ≤ slots_of t → n ≤ j → slot (each f n t) j ≡ slot t j
  unfolding each
  each-later zero j h l = refl
  each-later (suc n) j h l =
      slot-other (each f n t) n (f (slot t n)) (rw (each-slots n) h) (changed-long n h) j (λ e. omega arith) ∙ each-later n j (omega arith) (omega arith)

  pub each_at : (n j : ℕ) → n ≤ slots_of t → j < n → slot (each f n t) j ≡ f (slot t j)
  each_at zero j h l = absurd (not-suc-le-zero l)
  each_at (suc n) j h l =
      ⊎_elim (λ e. here e)
      (λ lt. rw (each-suc n) (slot-other (each f n t) n (f (slot t n)) (rw (each-slots n) h) (changed-long n h) j (λ e. omega arith) ∙ each_at n j (omega arith) lt))
      (eq-or-lt_of_le (le_of_suc-le-suc l))
    where
      here : j ≡ n → slot (each f (suc n) t) j ≡ f (slot t j)
      here e = rw (e, each-suc n) (slot-put (each f n t) n (f (slot t n)) (rw (each-slots n) h) (changed-long n h))

  pub each-zero : t ≡ each f 0 t
  unfolding each
  each-zero = refl

  -- one slot more in `close_up`
  pub each_more : (i : ℕ) (u v : List ℕ) → i < slots_of t → u ≡ each f i t → v ≡ put_slot u i (f (slot u i)) → v ≡ each f (i + 1) t
  each_more i u v l e g =
      g ∙ ap (λ (x : List ℕ). put_slot x i (f (slot x i))) e ∙ ap (λ (x : List ℕ). put_slot (each f i t) i (f x)) (each-later i i (omega arith) (omega arith))
      ∙ sym (each-suc i) ∙ ap (λ (n : ℕ). each f n t) (sym (add-one i))

-- ---- one slot moves forward
module _ (o : List ℕ) (b m : ℕ) (s : List ℕ) where
  pub lowered-low : mark s ≤ m → lowered o b m s ≡ s
  unfolding lowered
  lowered-low h = cond_no (ltb m (mark s) && of_bucket o b s) _ _ (and-off (ltb m (mark s)) _ (le-ltb m (mark s) h))

  pub lowered-far : of_bucket o b s ≡ false → lowered o b m s ≡ s
  unfolding lowered
  lowered-far h = cond_no (ltb m (mark s) && of_bucket o b s) _ _ (and-fails (ltb m (mark s)) _ h)

  pub lowered-on : m < mark s → of_bucket o b s ≡ true → lowered o b m s ≡ with_mark (mark s - 1) s
  unfolding lowered
  lowered-on h g = cond_yes (ltb m (mark s) && of_bucket o b s) _ _ (and_i (ltb m (mark s)) _ (lt-ltb m (mark s) h) g)

  pub lowered_is : (lowered o b m s ≡ s) ⊎ (lowered o b m s ≡ with_mark (mark s - 1) s)
  unfolding lowered
  lowered_is =
      ⊎_elim (λ e. inr (cond_yes (ltb m (mark s) && of_bucket o b s) _ _ e)) (λ e. inl (cond_no (ltb m (mark s) && of_bucket o b s) _ _ e)) (either (ltb m (mark s) && of_bucket o b s))

  pub lowered_long : length s ≡ slot_size → length (lowered o b m s) ≡ slot_size
  unfolding with_mark
  lowered_long h = ⊎_elim (λ e. ap length e ∙ h) (λ e. ap length e ∙ length-set s 0 (mark s - 1) ∙ h) lowered_is

pub put-mark : (t : List ℕ) (i m : ℕ) → i < slots_of t → set t (i * slot_size) m ≡ put_slot t i (with_mark m (slot t i))
unfolding with_mark
put-mark t i m l = let e : i * slot_size + 0 ≡ i * slot_size = omega arith in sym (put-set t i 0 m l (omega arith) ∙ ap (λ (k : ℕ). set t k m) e)

pub put-doubt : (t : List ℕ) (i d : ℕ) → i < slots_of t → set t (i * slot_size + 1) d ≡ put_slot t i (with_doubt d (slot t i))
unfolding with_doubt
put-doubt t i d l = sym (put-set t i 1 d l (omega arith))

module _ (t : List ℕ) (i : ℕ) (l : i < slots_of t) (o : List ℕ) (b m k : ℕ) (e : k ≡ mark (slot t i)) where
  pub lower-low : k ≤ m → t ≡ put_slot t i (lowered o b m (slot t i))
  lower-low h = sym (ap (put_slot t i) (lowered-low o b m (slot t i) (omega arith)) ∙ put_self t i l)

  pub lower-far : (r : ℕ) → r ≡ bucket_of (place (slot t i)) o → (r ≡ b → ⊥) → t ≡ put_slot t i (lowered o b m (slot t i))
  lower-far r g z = sym (ap (put_slot t i) (lowered-far o b m (slot t i) (of-far o b (slot t i) (λ q. z (g ∙ q)))) ∙ put_self t i l)

  pub lower-on : m < k → (r : ℕ) → r ≡ bucket_of (place (slot t i)) o → r ≡ b → set t (i * slot_size) (k - 1) ≡ put_slot t i (lowered o b m (slot t i))
  lower-on h r g z =
      let f : of_bucket o b (slot t i) ≡ true = of-make o b (slot t i) (mark-used (slot t i) (λ q. bad q)) (sym g ∙ z) in
      put-mark t i (k - 1) l ∙ ap (λ (x : ℕ). put_slot t i (with_mark (x - 1) (slot t i))) e ∙ sym (ap (put_slot t i) (lowered-on o b m (slot t i) (omega arith) f))
    where
      bad : mark (slot t i) ≡ 0 → ⊥
      bad q = omega arith

-- the loop of `close_up`: the slots before i have moved
module _ (t o : List ℕ) (b m : ℕ) where
  abbrev pub Closing : ℕ → List ℕ → Type 0
  Closing i u = u ≡ each (lowered o b m) i t

  pub closing : Closing 0 t
  closing = each-zero (lowered o b m) (lowered_long o b m) t

  module _ (i : ℕ) (u : List ℕ) (e : Closing i u) where
    pub closing-in : (n : ℕ) → n ≡ slots_of t → i < n → i < slots_of u
    closing-in n q l =
        let r : slots_of u ≡ slots_of t = ap slots_of e ∙ each-slots (lowered o b m) (lowered_long o b m) t i in
        omega arith

    pub closing-on : (n : ℕ) (v : List ℕ) → n ≡ slots_of t → i < n → v ≡ put_slot u i (lowered o b m (slot u i)) → Closing (i + 1) v
    closing-on n v q l g = each_more (lowered o b m) (lowered_long o b m) t i u v (omega arith) e g

    pub closing-length : length u ≡ length t
    closing-length = ap length e ∙ each-length (lowered o b m) (lowered_long o b m) t i

    pub closed : (n : ℕ) → n ≡ slots_of t → i ≤ n → n ≤ i → u ≡ close_up t o b m
    unfolding close_up
    closed n q l h = let r : i ≡ slots_of t = omega arith in e ∙ ap (λ (k : ℕ). each (lowered o b m) k t) r

-- ---- out of the order
module _ (t o : List ℕ) (i : ℕ) where
  pub leave-slots : slots_of (leave t o i) ≡ slots_of t
  unfolding leave close_up
  leave-slots = each-slots (lowered o _ (mark (slot t i))) (lowered_long o _ (mark (slot t i))) t (slots_of t)

  pub leave-length : length (leave t o i) ≡ length t
  unfolding leave close_up
  leave-length = each-length (lowered o _ (mark (slot t i))) (lowered_long o _ (mark (slot t i))) t (slots_of t)

  pub leave-at : (j : ℕ) → j < slots_of t → slot (leave t o i) j ≡ lowered o (bucket_of (place (slot t i)) o) (mark (slot t i)) (slot t j)
  unfolding leave close_up
  leave-at j l = each_at (lowered o _ (mark (slot t i))) (lowered_long o _ (mark (slot t i))) t (slots_of t) j (omega arith) l

  pub leave-self : i < slots_of t → slot (leave t o i) i ≡ slot t i
  leave-self l = leave-at i l ∙ lowered-low o _ (mark (slot t i)) (slot t i) (omega arith)

  pub leave-done : (b m : ℕ) (u : List ℕ) → b ≡ bucket_of (place (slot t i)) o → m ≡ mark (slot t i) → u ≡ close_up t o b m → u ≡ leave t o i
  unfolding leave
  leave-done b m u e g h = h ∙ ap₂ (close_up t o) e g

  pub leave-in : i < slots_of t → i < slots_of (leave t o i)
  leave-in l = rw leave-slots l

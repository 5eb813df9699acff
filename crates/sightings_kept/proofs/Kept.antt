-- Form is kept where a contact leaves its bucket's order, and where one enters at the tail. Assumes nothing.
use Prim.Native.Nat.{ℕ, ◌+◌, ◌-◌, ◌<◌, ◌≤◌}
use mathlib.Core.Path.{◌≡◌, refl, sym, ap, ap₂, ◌∙◌, subst}
use mathlib.Core.Logic.{◌⊎◌, inl, inr, ⊎_elim}
use mathlib.Core.Bool.{Bool, true, false, ◌&&◌}
use mathlib.Core.List.{List}
use native.Mathlib.Omega.{arith}
use lib.Dec.{ltb, eqb}
use lib.ListN.{length}
use borrow.Author.Tests.{ltb-true, ltb-false}
use Rattle.octets.proofs.Bools.{not-both, to-false, either, eq-or-ne}
use Rattle.place.specs.Place.{bucket_of}
use Rattle.contact_table.proofs.Cuts.{mark-used}
use Rattle.contacts.specs.Table.{slot_size, slots_of, slot, put_slot, mark, used, place}
use Rattle.contact_form.specs.Claims.{Fields}
use Rattle.sightings.specs.Order.{of_bucket, tail_of, with_mark, lowered, dropped}
use Rattle.contact_order.proofs.Slots.{slot-long, slots-put, slot-put, slot-other}
use Rattle.contact_order.proofs.Tests.{of-used, of_is, of-make, of-mark, tail-ge, tail-le, tail_at}
use Rattle.contact_order.proofs.Closing.{lowered-low, lowered-far, lowered-on}
use Rattle.sightings.proofs.Dropping.{place-mark, mark-mark, none_free, drop-slots, drop-self, drop-other}
use Rattle.sightings.proofs.Doubting.{doubt-mark}
use Rattle.sightings_kept.proofs.Ordered.{Ordered, fields-by, mark-byte}

-- one slot behind a mark m, which is not 0: what it keeps
module _ (o : List ℕ) (c m : ℕ) (s : List ℕ) (h : length s ≡ slot_size) (pos : 1 ≤ m) where
  low-cases : (lowered o c m s ≡ s) ⊎ ((m < mark s) × (of_bucket o c s ≡ true) × (lowered o c m s ≡ with_mark (mark s - 1) s))
  low-cases =
      ⊎_elim (λ l. ⊎_elim (λ f. inr (ltb-true m (mark s) l, f, lowered-on o c m s (ltb-true m (mark s) l) f)) (λ f. inl (lowered-far o c m s f)) (either (of_bucket o c s)))
      (λ l. inl (lowered-low o c m s (ltb-false m (mark s) l))) (either (ltb m (mark s)))

  pub low-place : place (lowered o c m s) ≡ place s
  low-place = ⊎_elim (λ e. ap place e) (λ r. ap place r.2 ∙ place-mark (mark s - 1) s) low-cases

  pub low-used : used (lowered o c m s) ≡ used s
  low-used = ⊎_elim (λ e. ap used e) (λ r. ap used r.2 ∙ mark-used (with_mark (mark s - 1) s) (λ z. still r.0 (sym (mark-mark (mark s - 1) s h) ∙ z)) ∙ sym (of-used o c s r.1)) low-cases
    where
      still : m < mark s → mark s - 1 ≡ 0 → ⊥
      still l e = omega arith

  pub low_of : (b : ℕ) → of_bucket o b (lowered o c m s) ≡ of_bucket o b s
  unfolding of_bucket
  low_of b = ap₂ (λ (x : Bool) (y : List ℕ). x && eqb (bucket_of y o) b) low-used low-place

  pub low-le : mark (lowered o c m s) ≤ mark s
  low-le = ⊎_elim (λ e. subst (λ (x : List ℕ). mark x ≤ mark s) (sym e) (omega arith)) (λ r. subst (λ (x : List ℕ). mark x ≤ mark s) (sym r.2) (subst (λ (x : ℕ). x ≤ mark s) (sym (mark-mark (mark s - 1) s h)) (omega arith))) low-cases

  pub low-fields : Fields s → Fields (lowered o c m s)
  low-fields f =
      ⊎_elim (λ e. subst Fields (sym e) f)
      (λ r. subst Fields (sym r.2) (fields-by (with_mark (mark s - 1) s) s (λ k a l. mark-byte (mark s - 1) s k (omega arith)) (omega (arith, mark-mark (mark s - 1) s h, f.ranked)) (omega (arith, doubt-mark (mark s - 1) s, f.doubted)) f)) low-cases

-- ---- a contact leaves
module _ (t o : List ℕ) (i : ℕ) (l : i < slots_of t) (F : Ordered t o) (u : used (slot t i) ≡ true) where
  d : List ℕ
  d = dropped t o i

  here_of : of_bucket o (bucket_of (place (slot t i)) o) (slot t i) ≡ true
  here_of = of-make o (bucket_of (place (slot t i)) o) (slot t i) u refl

  pos : 1 ≤ mark (slot t i)
  pos = of-mark o (bucket_of (place (slot t i)) o) (slot t i) here_of

  to : (j : ℕ) → j < slots_of (dropped t o i) → j < slots_of t
  to j h = subst (λ (n : ℕ). j < n) (drop-slots t o i l) h

  from : (j : ℕ) → j < slots_of t → j < slots_of (dropped t o i)
  from j h = subst (λ (n : ℕ). j < n) (sym (drop-slots t o i l)) h

  gone : (j : ℕ) → used (slot (dropped t o i) j) ≡ true → j ≡ i → ⊥
  gone j v e = not-both (used (slot (dropped t o i) j)) v (ap (λ (k : ℕ). used (slot (dropped t o i) k)) e ∙ ap used (drop-self t o i l) ∙ none_free)

  module _ (j : ℕ) (lj : j < slots_of t) (ne : j ≡ i → ⊥) where
    is : slot (dropped t o i) j ≡ lowered o (bucket_of (place (slot t i)) o) (mark (slot t i)) (slot t j)
    is = drop-other t o i l j lj ne

    pub kept-place : place (slot (dropped t o i) j) ≡ place (slot t j)
    kept-place = ap place is ∙ low-place o _ _ (slot t j) (slot-long t j lj) pos

    pub kept-used : used (slot (dropped t o i) j) ≡ used (slot t j)
    kept-used = ap used is ∙ low-used o _ _ (slot t j) (slot-long t j lj) pos

    kept-fields : Fields (slot t j) → Fields (slot (dropped t o i) j)
    kept-fields f = subst Fields (sym is) (low-fields o _ _ (slot t j) (slot-long t j lj) pos f)

    pub kept_of : (b : ℕ) → of_bucket o b (slot (dropped t o i) j) ≡ of_bucket o b (slot t j)
    kept_of b = ap (of_bucket o b) is ∙ low_of o _ _ (slot t j) (slot-long t j lj) pos b

    pub kept-le : mark (slot (dropped t o i) j) ≤ mark (slot t j)
    kept-le = subst (λ (s : List ℕ). mark s ≤ mark (slot t j)) (sym is) (low-le o _ _ (slot t j) (slot-long t j lj) pos)

    -- its mark: before the one that left, or one down
    pub view : (b : ℕ) → of_bucket o b (slot t j) ≡ true
        → ((mark (slot (dropped t o i) j) ≡ mark (slot t j)) × (b ≡ bucket_of (place (slot t i)) o → mark (slot t j) < mark (slot t i)))
        ⊎ ((mark (slot (dropped t o i) j) + 1 ≡ mark (slot t j)) × (b ≡ bucket_of (place (slot t i)) o) × (mark (slot t i) < mark (slot t j)))
    view b f = ⊎_elim (λ e. same-bucket e) (λ n. inl (ap mark (is ∙ lowered-far o _ _ (slot t j) (to-false _ (λ y. n (sym (of_is o b (slot t j) f) ∙ of_is o _ (slot t j) y)))), (λ e. absurd (n e)))) (eq-or-ne b (bucket_of (place (slot t i)) o))
      where
        same-bucket : b ≡ bucket_of (place (slot t i)) o
            → ((mark (slot (dropped t o i) j) ≡ mark (slot t j)) × (b ≡ bucket_of (place (slot t i)) o → mark (slot t j) < mark (slot t i)))
            ⊎ ((mark (slot (dropped t o i) j) + 1 ≡ mark (slot t j)) × (b ≡ bucket_of (place (slot t i)) o) × (mark (slot t i) < mark (slot t j)))
        same-bucket e =
            let g : of_bucket o (bucket_of (place (slot t i)) o) (slot t j) ≡ true = subst (λ (c : ℕ). of_bucket o c (slot t j) ≡ true) e f in
            ⊎_elim (λ y.
            let w : mark (slot t i) < mark (slot t j) = ltb-true (mark (slot t i)) (mark (slot t j)) y in
            let q : mark (slot (dropped t o i) j) ≡ mark (slot t j) - 1 = ap mark (is ∙ lowered-on o _ _ (slot t j) w g) ∙ mark-mark (mark (slot t j) - 1) (slot t j) (slot-long t j lj) in
            inr (omega arith, e, w))
            (λ y.
            let w : mark (slot t j) ≤ mark (slot t i) = ltb-false (mark (slot t i)) (mark (slot t j)) y in
            let z : mark (slot t j) ≡ mark (slot t i) → ⊥ = λ q. ne (F.ties _ j i lj l g here_of q) in
            let r : mark (slot t j) < mark (slot t i) = omega arith in
            inl (ap mark (is ∙ lowered-low o _ _ (slot t j) w), (λ x. r)))
            (either (ltb (mark (slot t i)) (mark (slot t j))))

  not-i : (b j : ℕ) → of_bucket o b (slot (dropped t o i) j) ≡ true → j ≡ i → ⊥
  not-i b j f = gone j (of-used o b (slot (dropped t o i) j) f)

  abbrev Below : ℕ → ℕ → Type 0
  Below b x = (k : ℕ) × (k < slots_of (dropped t o i)) × (of_bucket o b (slot (dropped t o i) k) ≡ true) × (mark (slot (dropped t o i) k) + 1 ≡ x)

  found : (b x k : ℕ) → k < slots_of t → (k ≡ i → ⊥) → of_bucket o b (slot t k) ≡ true → mark (slot (dropped t o i) k) + 1 ≡ x → Below b x
  found b x k lk ne f e = (k, from k lk, kept_of k lk ne b ∙ f, e)

  is-i : (k : ℕ) (b : ℕ) → k ≡ i → of_bucket o b (slot t k) ≡ true → (b ≡ bucket_of (place (slot t i)) o) × (mark (slot t k) ≡ mark (slot t i)) × (of_bucket o b (slot t i) ≡ true)
  is-i k b e f =
      let g : of_bucket o b (slot t i) ≡ true = subst (λ (x : ℕ). of_bucket o b (slot t x) ≡ true) e f in
      (sym (of_is o b (slot t i) g), ap (λ (x : ℕ). mark (slot t x)) e, g)

  -- the one that ranks just below one that has not moved
  below-low : (b j k : ℕ) → (b ≡ bucket_of (place (slot t i)) o → mark (slot t j) < mark (slot t i)) → k < slots_of t → of_bucket o b (slot t k) ≡ true → mark (slot t k) + 1 ≡ mark (slot t j) → Below b (mark (slot t j))
  below-low b j k w lk fk e =
      let ne : k ≡ i → ⊥ = λ q. let x = is-i k b q fk in no (w x.0) x.1 in
      ⊎_elim (λ v. found b (mark (slot t j)) k lk ne fk (omega (arith, v.0))) (λ v. absurd (no' (w v.1) v.2)) (view k lk ne b fk)
    where
      no : mark (slot t j) < mark (slot t i) → mark (slot t k) ≡ mark (slot t i) → ⊥
      no x y = omega arith

      no' : mark (slot t j) < mark (slot t i) → mark (slot t i) < mark (slot t k) → ⊥
      no' x y = omega arith

  -- ... and below one that has moved down to x
  below-high : (b j k x : ℕ) → mark (slot t j) ≡ x + 1 → 2 ≤ x → b ≡ bucket_of (place (slot t i)) o → mark (slot t i) < mark (slot t j) → k < slots_of t → of_bucket o b (slot t k) ≡ true → mark (slot t k) + 1 ≡ mark (slot t j) → Below b x
  below-high b j k x ej h eb w lk fk e = ⊎_elim (λ q. was q) (λ ne. other ne) (eq-or-ne k i)
    where
      was : k ≡ i → Below b x
      was q =
          let y = is-i k b q fk in
          let r = F.leds b i l y.2 (omega (arith, y.1)) in
          let m : mark (slot t i) ≡ x = omega (arith, y.1) in
          let ne : r.0 ≡ i → ⊥ = λ z. self r.0 (ap (λ (n : ℕ). mark (slot t n)) z) r.3 in
          ⊎_elim (λ v. found b x r.0 r.1 ne r.2 (omega (arith, v.0, r.3))) (λ v. absurd (up r.0 v.2 r.3)) (view r.0 r.1 ne b r.2)
        where
          self : (n : ℕ) → mark (slot t n) ≡ mark (slot t i) → mark (slot t n) + 1 ≡ mark (slot t i) → ⊥
          self n a c = omega arith

          up : (n : ℕ) → mark (slot t i) < mark (slot t n) → mark (slot t n) + 1 ≡ mark (slot t i) → ⊥
          up n a c = omega arith

      other : (k ≡ i → ⊥) → Below b x
      other ne = ⊎_elim (λ v. absurd (lo (v.1 eb))) (λ v. found b x k lk ne fk (omega (arith, v.0))) (view k lk ne b fk)
        where
          lo : mark (slot t k) < mark (slot t i) → ⊥
          lo a = omega arith

  below : (b j : ℕ) → j < slots_of t → of_bucket o b (slot (dropped t o i) j) ≡ true → 2 ≤ mark (slot (dropped t o i) j) → Below b (mark (slot (dropped t o i) j))
  below b j lj f h =
      let ne : j ≡ i → ⊥ = not-i b j f in
      let fj : of_bucket o b (slot t j) ≡ true = sym (kept_of j lj ne b) ∙ f in
      let r = F.leds b j lj fj (omega (arith, kept-le j lj ne)) in
      ⊎_elim (λ v. subst (λ (x : ℕ). Below b x) (sym v.0) (below-low b j r.0 v.1 r.1 r.2 r.3))
      (λ v. below-high b j r.0 (mark (slot (dropped t o i) j)) (sym v.0) h v.1 v.2 r.1 r.2 r.3) (view j lj ne b fj)

  apart : (b j k : ℕ) → j < slots_of t → k < slots_of t → (j ≡ i → ⊥) → (k ≡ i → ⊥) → of_bucket o b (slot t j) ≡ true → of_bucket o b (slot t k) ≡ true → mark (slot (dropped t o i) j) ≡ mark (slot (dropped t o i) k) → mark (slot t j) ≡ mark (slot t k)
  apart b j k lj lk nj nk fj fk e =
      ⊎_elim (λ v. ⊎_elim (λ w. omega (arith, v.0, w.0)) (λ w. absurd (cross v.0 w.0 (v.1 w.1) w.2)) (view k lk nk b fk))
      (λ v. ⊎_elim (λ w. absurd (cross' v.0 w.0 (w.1 v.1) v.2)) (λ w. omega (arith, v.0, w.0)) (view k lk nk b fk)) (view j lj nj b fj)
    where
      cross : mark (slot (dropped t o i) j) ≡ mark (slot t j) → mark (slot (dropped t o i) k) + 1 ≡ mark (slot t k) → mark (slot t j) < mark (slot t i) → mark (slot t i) < mark (slot t k) → ⊥
      cross a c x y = omega arith

      cross' : mark (slot (dropped t o i) j) + 1 ≡ mark (slot t j) → mark (slot (dropped t o i) k) ≡ mark (slot t k) → mark (slot t k) < mark (slot t i) → mark (slot t i) < mark (slot t j) → ⊥
      cross' a c x y = omega arith

  pub drop-form : Ordered (dropped t o i) o
  drop-form = record {
    sound = λ j lj v.
        let ne : j ≡ i → ⊥ = gone j v in
        let r = F.sound j (to j lj) (sym (kept-used j (to j lj) ne) ∙ v) in
        (kept-fields j (to j lj) ne r.0, subst (λ (x : List ℕ). bucket_of x o < 256) (sym (kept-place j (to j lj) ne)) r.1);
    ties = λ b j k lj lk fj fk e.
        let nj : j ≡ i → ⊥ = not-i b j fj in
        let nk : k ≡ i → ⊥ = not-i b k fk in
        let gj : of_bucket o b (slot t j) ≡ true = sym (kept_of j (to j lj) nj b) ∙ fj in
        let gk : of_bucket o b (slot t k) ≡ true = sym (kept_of k (to k lk) nk b) ∙ fk in
        F.ties b j k (to j lj) (to k lk) gj gk (apart b j k (to j lj) (to k lk) nj nk gj gk e);
    twins = λ j k lj lk uj uk e.
        let nj : j ≡ i → ⊥ = gone j uj in
        let nk : k ≡ i → ⊥ = gone k uk in
        F.twins j k (to j lj) (to k lk) (sym (kept-used j (to j lj) nj) ∙ uj) (sym (kept-used k (to k lk) nk) ∙ uk) (sym (kept-place j (to j lj) nj) ∙ e ∙ kept-place k (to k lk) nk);
    leds = λ b j lj f h. below b j (to j lj) f h;
  }

  -- the tail's mark is one less
  pub drop-tail-down : tail_of (dropped t o i) o (bucket_of (place (slot t i)) o) + 1 ≡ tail_of t o (bucket_of (place (slot t i)) o)
  drop-tail-down = omega (arith, most, least, top, pos)
    where
      B : ℕ
      B = bucket_of (place (slot t i)) o

      top : mark (slot t i) ≤ tail_of t o (bucket_of (place (slot t i)) o)
      top = tail-ge t o (bucket_of (place (slot t i)) o) i l here_of

      each : (j : ℕ) → j < slots_of (dropped t o i) → of_bucket o (bucket_of (place (slot t i)) o) (slot (dropped t o i) j) ≡ true → mark (slot (dropped t o i) j) ≤ tail_of t o (bucket_of (place (slot t i)) o) - 1
      each j lj f =
          let ne : j ≡ i → ⊥ = not-i (bucket_of (place (slot t i)) o) j f in
          let g : of_bucket o (bucket_of (place (slot t i)) o) (slot t j) ≡ true = sym (kept_of j (to j lj) ne (bucket_of (place (slot t i)) o)) ∙ f in
          ⊎_elim (λ v. omega (arith, v.0, v.1 refl, top)) (λ v. omega (arith, v.0, tail-ge t o (bucket_of (place (slot t i)) o) j (to j lj) g)) (view j (to j lj) ne (bucket_of (place (slot t i)) o) g)

      most : tail_of (dropped t o i) o (bucket_of (place (slot t i)) o) ≤ tail_of t o (bucket_of (place (slot t i)) o) - 1
      most = tail-le (dropped t o i) o (bucket_of (place (slot t i)) o) _ each

      seen : (k x : ℕ) → k < slots_of t → (k ≡ i → ⊥) → of_bucket o (bucket_of (place (slot t i)) o) (slot t k) ≡ true → mark (slot (dropped t o i) k) + 1 ≡ x → x ≤ tail_of (dropped t o i) o (bucket_of (place (slot t i)) o) + 1
      seen k x lk ne f e = omega (arith, tail-ge (dropped t o i) o (bucket_of (place (slot t i)) o) k (from k lk) (kept_of k lk ne (bucket_of (place (slot t i)) o) ∙ f))

      under : 2 ≤ mark (slot t i) → mark (slot t i) ≤ tail_of (dropped t o i) o (bucket_of (place (slot t i)) o) + 1
      under h =
          let r = F.leds (bucket_of (place (slot t i)) o) i l here_of h in
          let ne : r.0 ≡ i → ⊥ = λ q. self r.0 (ap (λ (n : ℕ). mark (slot t n)) q) r.3 in
          ⊎_elim (λ v. seen r.0 (mark (slot t i)) r.1 ne r.2 (omega (arith, v.0, r.3))) (λ v. absurd (up r.0 v.2 r.3)) (view r.0 r.1 ne (bucket_of (place (slot t i)) o) r.2)
        where
          self : (n : ℕ) → mark (slot t n) ≡ mark (slot t i) → mark (slot t n) + 1 ≡ mark (slot t i) → ⊥
          self n a c = omega arith

          up : (n : ℕ) → mark (slot t i) < mark (slot t n) → mark (slot t n) + 1 ≡ mark (slot t i) → ⊥
          up n a c = omega arith

      least : tail_of t o (bucket_of (place (slot t i)) o) ≤ tail_of (dropped t o i) o (bucket_of (place (slot t i)) o) + 1
      least =
          let r = tail_at t o (bucket_of (place (slot t i)) o) (omega (arith, top, pos)) in
          ⊎_elim (λ e. was r.0 (ap (λ (n : ℕ). mark (slot t n)) e) r.3)
          (λ ne. ⊎_elim (λ v. absurd (no r.0 (v.1 refl) r.3)) (λ v. seen r.0 _ r.1 ne r.2 (v.0 ∙ r.3)) (view r.0 r.1 ne (bucket_of (place (slot t i)) o) r.2)) (eq-or-ne r.0 i)
        where
          no : (n : ℕ) → mark (slot t n) < mark (slot t i) → mark (slot t n) ≡ tail_of t o (bucket_of (place (slot t i)) o) → ⊥
          no n a c = omega (arith, top)

          was : (n : ℕ) → mark (slot t n) ≡ mark (slot t i) → mark (slot t n) ≡ tail_of t o (bucket_of (place (slot t i)) o) → tail_of t o (bucket_of (place (slot t i)) o) ≤ tail_of (dropped t o i) o (bucket_of (place (slot t i)) o) + 1
          was n a c = ⊎_elim (λ e. omega (arith, ltb-true 1 (mark (slot t i)) e, under (ltb-true 1 (mark (slot t i)) e))) (λ e. omega (arith, ltb-false 1 (mark (slot t i)) e)) (either (ltb 1 (mark (slot t i))))

-- ---- a contact enters a free slot at the tail
module _ (t o : List ℕ) (i : ℕ) (l : i < slots_of t) (F : Ordered t o) (z : used (slot t i) ≡ false) (s : List ℕ) (long : length s ≡ slot_size) (b : ℕ) (at : bucket_of (place s) o ≡ b) (near : b < 256) (ok : Fields s) (tail : mark s ≡ tail_of t o b + 1) (new : (j : ℕ) → j < slots_of t → used (slot t j) ≡ true → place (slot t j) ≡ place s → ⊥) where
  is-s : slot (put_slot t i s) i ≡ s
  is-s = slot-put t i s l long

  us : used s ≡ true
  us = mark-used s (λ e. no e)
    where
      no : mark s ≡ 0 → ⊥
      no e = omega arith

  not-here : (j c : ℕ) → of_bucket o c (slot t j) ≡ true → j ≡ i → ⊥
  not-here j c f e = not-both (used (slot t j)) (of-used o c (slot t j) f) (ap (λ (k : ℕ). used (slot t k)) e ∙ z)

  down : (j : ℕ) → j < slots_of (put_slot t i s) → j < slots_of t
  down j h = subst (λ (n : ℕ). j < n) (slots-put t i s) h

  up : (j : ℕ) → j < slots_of t → j < slots_of (put_slot t i s)
  up j h = subst (λ (n : ℕ). j < n) (sym (slots-put t i s)) h

  -- a slot of the new table is the new one, or as it was
  two : (j : ℕ) → ((j ≡ i) × (slot (put_slot t i s) j ≡ s)) ⊎ ((j ≡ i → ⊥) × (slot (put_slot t i s) j ≡ slot t j))
  two j = ⊎_elim (λ e. inl (e, ap (slot (put_slot t i s)) e ∙ is-s)) (λ ne. inr (ne, slot-other t i s l long j ne)) (eq-or-ne j i)

  -- no other of its bucket has its mark
  above : (j c : ℕ) → j < slots_of t → of_bucket o c s ≡ true → of_bucket o c (slot t j) ≡ true → mark (slot t j) < mark s
  above j c lj f g =
      let e : c ≡ b = sym (of_is o c s f) ∙ at in
      omega (arith, tail-ge t o b j lj (subst (λ (x : ℕ). of_bucket o x (slot t j) ≡ true) e g))

  Sound : List ℕ → Type 0
  Sound x = Fields x × (bucket_of (place x) o < 256)

  there : (c x k : ℕ) → k < slots_of t → of_bucket o c (slot t k) ≡ true → mark (slot t k) + 1 ≡ x → (j : ℕ) × (j < slots_of (put_slot t i s)) × (of_bucket o c (slot (put_slot t i s) j) ≡ true) × (mark (slot (put_slot t i s) j) + 1 ≡ x)
  there c x k lk f e =
      let q : slot (put_slot t i s) k ≡ slot t k = slot-other t i s l long k (not-here k c f) in
      (k, up k lk, ap (of_bucket o c) q ∙ f, ap (λ (v : List ℕ). mark v + 1) q ∙ e)

  led-new : (c : ℕ) → of_bucket o c s ≡ true → 2 ≤ mark s → (j : ℕ) × (j < slots_of (put_slot t i s)) × (of_bucket o c (slot (put_slot t i s) j) ≡ true) × (mark (slot (put_slot t i s) j) + 1 ≡ mark s)
  led-new c f h =
      let e : b ≡ c = sym at ∙ of_is o c s f in
      let r = tail_at t o b (omega arith) in
      there c (mark s) r.0 r.1 (subst (λ (x : ℕ). of_bucket o x (slot t r.0) ≡ true) e r.2) (omega (arith, r.3))

  led-old : (c j : ℕ) → j < slots_of t → of_bucket o c (slot t j) ≡ true → 2 ≤ mark (slot t j) → (k : ℕ) × (k < slots_of (put_slot t i s)) × (of_bucket o c (slot (put_slot t i s) k) ≡ true) × (mark (slot (put_slot t i s) k) + 1 ≡ mark (slot t j))
  led-old c j lj f h = let r = F.leds c j lj f h in there c (mark (slot t j)) r.0 r.1 r.2 r.3

  tie : (c j k : ℕ) → j < slots_of t → k < slots_of t → of_bucket o c (slot (put_slot t i s) j) ≡ true → of_bucket o c (slot (put_slot t i s) k) ≡ true → mark (slot (put_slot t i s) j) ≡ mark (slot (put_slot t i s) k) → j ≡ k
  tie c j k lj lk fj fk e =
      ⊎_elim (λ x. ⊎_elim (λ y. x.0 ∙ sym y.0) (λ y. absurd (no (sym (ap mark x.1) ∙ e ∙ ap mark y.1) (above k c lk (sym (ap (of_bucket o c) x.1) ∙ fj) (sym (ap (of_bucket o c) y.1) ∙ fk)))) (two k))
      (λ x. ⊎_elim (λ y. absurd (no (sym (ap mark y.1) ∙ sym e ∙ ap mark x.1) (above j c lj (sym (ap (of_bucket o c) y.1) ∙ fk) (sym (ap (of_bucket o c) x.1) ∙ fj))))
      (λ y. F.ties c j k lj lk (sym (ap (of_bucket o c) x.1) ∙ fj) (sym (ap (of_bucket o c) y.1) ∙ fk) (sym (ap mark x.1) ∙ e ∙ ap mark y.1)) (two k)) (two j)
    where
      no : {a c : ℕ} → a ≡ c → c < a → ⊥
      no p q = omega arith

  twin : (j k : ℕ) → j < slots_of t → k < slots_of t → used (slot (put_slot t i s) j) ≡ true → used (slot (put_slot t i s) k) ≡ true → place (slot (put_slot t i s) j) ≡ place (slot (put_slot t i s) k) → j ≡ k
  twin j k lj lk uj uk e =
      ⊎_elim (λ x. ⊎_elim (λ y. x.0 ∙ sym y.0) (λ y. absurd (new k lk (sym (ap used y.1) ∙ uk) (sym (ap place y.1) ∙ sym e ∙ ap place x.1))) (two k))
      (λ x. ⊎_elim (λ y. absurd (new j lj (sym (ap used x.1) ∙ uj) (sym (ap place x.1) ∙ e ∙ ap place y.1)))
      (λ y. F.twins j k lj lk (sym (ap used x.1) ∙ uj) (sym (ap used y.1) ∙ uk) (sym (ap place x.1) ∙ e ∙ ap place y.1)) (two k)) (two j)

  pub enter-form : Ordered (put_slot t i s) o
  unfolding Sound
  enter-form = record {
    sound = λ j lj v. ⊎_elim (λ r. subst Sound (sym r.1) (ok, subst (λ (x : ℕ). x < 256) (sym at) near)) (λ r. subst Sound (sym r.1) (F.sound j (down j lj) (sym (ap used r.1) ∙ v))) (two j);
    ties = λ c j k lj lk fj fk e. tie c j k (down j lj) (down k lk) fj fk e;
    twins = λ j k lj lk uj uk e. twin j k (down j lj) (down k lk) uj uk e;
    leds = λ c j lj f h. ⊎_elim
        (λ r. let g = led-new c (sym (ap (of_bucket o c) r.1) ∙ f) (subst (λ (x : List ℕ). 2 ≤ mark x) r.1 h) in (g.0, g.1, g.2, g.3 ∙ sym (ap mark r.1)))
        (λ r. let g = led-old c j (down j lj) (sym (ap (of_bucket o c) r.1) ∙ f) (subst (λ (x : List ℕ). 2 ≤ mark x) r.1 h) in (g.0, g.1, g.2, g.3 ∙ sym (ap mark r.1)))
        (two j);
  }

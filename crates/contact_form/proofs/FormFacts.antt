-- Being in form and the facts that it is, both ways, and what follows. Assumes nothing.
use Prim.Native.Nat.{ℕ, zero, suc, ◌+◌, ◌<◌, ◌≤◌}
use mathlib.Core.Path.{◌≡◌, refl, sym, ap, ◌∙◌}
use mathlib.Core.Logic.{⊎_elim}
use mathlib.Core.Bool.{Bool, true, not, ◌&&◌, ◌||◌}
use mathlib.Core.List.{List}
use native.Mathlib.Omega.{arith}
use lib.Dec.{leb, eqb}
use lib.ListN.{length}
use borrow.Author.Tests.{lt-ltb, ltb-true, le-leb, leb-true, eq-eqb, eqb-true, eqb-false, ne_eqb, not-true, not-false}
use Rattle.octets.specs.Octets.{Bytes, same}
use Rattle.octets.specs.Search.{some}
use Rattle.octets.proofs.Bools.{and_l, and_r, and_i, or_off, or-skip, not-no, not_yes, not-both, to-false, eq-or-ne, all_head, all_rest, all_none, all-one-more}
use Rattle.octets.proofs.Searching.{all-at, all-intro, some_at, some-intro}
use Rattle.octets.proofs.Strings.{same-eq, same-yes}
use Rattle.limits.specs.Limits.{most_id, most_address, most_addresses, bucket_size}
use Rattle.place.specs.Place.{bucket_of}
use Rattle.place.proofs.Buckets.{bucket-self, bucket-lt}
use Rattle.contact_table.specs.Table.{slots_of, slot, mark, used, doubt, id_size, address_count, address_size, place}
use Rattle.contact_form.specs.Form.{buckets, rank, slot_bucket, address_fits, fields_fit, tied, just_below, apart, leads, good, good_or_free, in_form}
use Rattle.contact_form.specs.Claims.{Fields, InForm}
use Rattle.contact_table.proofs.Cuts.{slot_whole, place-size, bytes-place, used-mark}

-- ---- the fields of a slot
module _ (s : List ℕ) where
  address-elim : (k : ℕ) → address_fits s k ≡ true → (1 ≤ address_size s k) × (address_size s k ≤ most_address)
  unfolding address_fits
  address-elim k h = (
    leb-true 1 (address_size s k) (and_l (leb 1 (address_size s k)) (leb (address_size s k) most_address) h),
    leb-true (address_size s k) most_address (and_r (leb 1 (address_size s k)) (leb (address_size s k) most_address) h),
  )

  address-intro : (k : ℕ) → (1 ≤ address_size s k) × (address_size s k ≤ most_address) → address_fits s k ≡ true
  unfolding address_fits
  address-intro k h = and_i (leb 1 (address_size s k)) (leb (address_size s k) most_address) (le-leb 1 (address_size s k) h.0) (le-leb (address_size s k) most_address h.1)

  pub fields-elim : fields_fit s ≡ true → Fields s
  unfolding fields_fit
  fields-elim h0 =
      let h1 = all_rest _ _ h0 in
      let h2 = all_rest _ _ h1 in
      let h3 = all_rest _ _ h2 in
      let h4 = all_rest _ _ h3 in
      let h5 = all_rest _ _ h4 in
      record {
        ranked = leb-true (mark s) bucket_size (all_head _ _ h0);
        doubted = leb-true (doubt s) 1 (all_head _ _ h1);
        id_least = leb-true 1 (id_size s) (all_head _ _ h2);
        id_most = leb-true (id_size s) most_id (all_head _ _ h3);
        few = leb-true (address_count s) most_addresses (all_head _ _ h4);
        sizes = λ k l. address-elim k (all-at (address_fits s) (address_count s) k (all_head _ _ h5) l);
      }

  pub fields-intro : Fields s → fields_fit s ≡ true
  unfolding fields_fit
  fields-intro f =
      all-one-more _ _ (le-leb (mark s) bucket_size f.ranked)
      (all-one-more _ _ (le-leb (doubt s) 1 f.doubted)
      (all-one-more _ _ (le-leb 1 (id_size s) f.id_least)
      (all-one-more _ _ (le-leb (id_size s) most_id f.id_most)
      (all-one-more _ _ (le-leb (address_count s) most_addresses f.few)
      (all-one-more _ _ (all-intro (address_fits s) (address_count s) (λ k l. address-intro k (f.sizes k l)))
      all_none)))))

-- ---- the table
module _ (t o : List ℕ) where
  good-at : in_form t o ≡ true → (i : ℕ) → i < slots_of t → used (slot t i) ≡ true → good t o i ≡ true
  unfolding in_form good_or_free
  good-at h i l u = sym (or_off (not (used (slot t i))) (good t o i) (not_yes (used (slot t i)) u)) ∙ all-at (good_or_free t o) (slots_of t) i h l

  -- another used slot
  other : ℕ → ℕ → Bool
  other i j = not (same (place (slot t i)) (place (slot t j))) && not (tied o (slot t i) (slot t j))

  apart_other : (i j : ℕ) → apart t o i j ≡ true → used (slot t j) ≡ true → (j ≡ i → ⊥) → other i j ≡ true
  unfolding apart other
  apart_other i j h u ne =
      sym (or_off (not (used (slot t j))) (other i j) (not_yes (used (slot t j)) u)) ∙ sym (or_off (eqb j i) (not (used (slot t j)) || other i j) (ne_eqb j i ne)) ∙ h

  other-apart : (i j : ℕ) → (used (slot t j) ≡ true → (j ≡ i → ⊥) → other i j ≡ true) → apart t o i j ≡ true
  unfolding apart other
  other-apart i j h =
      or-skip (eqb j i) (not (used (slot t j)) || other i j)
      (λ ne. or-skip (not (used (slot t j))) (other i j) (λ z. h (not-false (used (slot t j)) z) (eqb-false j i ne)))

  other_place : (i j : ℕ) → other i j ≡ true → place (slot t i) ≡ place (slot t j) → ⊥
  unfolding other
  other_place i j h e =
      not-both (same (place (slot t i)) (place (slot t j))) (same-yes (place (slot t i)) (place (slot t j)) e)
      (not-true (same (place (slot t i)) (place (slot t j))) (and_l (not (same (place (slot t i)) (place (slot t j)))) (not (tied o (slot t i) (slot t j))) h))

  other-rank : (i j : ℕ) → other i j ≡ true → slot_bucket (slot t j) o ≡ slot_bucket (slot t i) o → rank (slot t j) ≡ rank (slot t i) → ⊥
  unfolding other tied
  other-rank i j h b r =
      not-both (tied o (slot t i) (slot t j))
      (and_i (eqb (slot_bucket (slot t j) o) (slot_bucket (slot t i) o)) (eqb (rank (slot t j)) (rank (slot t i))) (eq-eqb (slot_bucket (slot t j) o) (slot_bucket (slot t i) o) b) (eq-eqb (rank (slot t j)) (rank (slot t i)) r))
      (not-true (tied o (slot t i) (slot t j)) (and_r (not (same (place (slot t i)) (place (slot t j)))) (not (tied o (slot t i) (slot t j))) h))

  other-intro : (i j : ℕ) → (place (slot t i) ≡ place (slot t j) → ⊥) → (slot_bucket (slot t j) o ≡ slot_bucket (slot t i) o → rank (slot t j) ≡ rank (slot t i) → ⊥) → other i j ≡ true
  unfolding other tied
  other-intro i j p q =
      and_i (not (same (place (slot t i)) (place (slot t j)))) (not (tied o (slot t i) (slot t j)))
      (not-no (same (place (slot t i)) (place (slot t j))) (to-false (same (place (slot t i)) (place (slot t j))) (λ h. p (same-eq (place (slot t i)) (place (slot t j)) h))))
      (not-no (tied o (slot t i) (slot t j)) (to-false (tied o (slot t i) (slot t j))
      (λ h. q (eqb-true (slot_bucket (slot t j) o) (slot_bucket (slot t i) o) (and_l (eqb (slot_bucket (slot t j) o) (slot_bucket (slot t i) o)) (eqb (rank (slot t j)) (rank (slot t i))) h))
      (eqb-true (rank (slot t j)) (rank (slot t i)) (and_r (eqb (slot_bucket (slot t j) o) (slot_bucket (slot t i) o)) (eqb (rank (slot t j)) (rank (slot t i))) h)))))

  -- a slot just below
  abbrev Below : ℕ → Type 0
  Below i = (j : ℕ) × (j < slots_of t) × (used (slot t j) ≡ true) × (slot_bucket (slot t j) o ≡ slot_bucket (slot t i) o) × (rank (slot t j) + 1 ≡ rank (slot t i))

  leads-elim : (i : ℕ) → some (slots_of t) (leads t o i) ≡ true → Below i
  unfolding leads just_below
  leads-elim i h =
      let r = some_at (leads t o i) (slots_of t) h in
      let j : ℕ = r.0 in
      let u : Bool = used (slot t j) in
      let b : Bool = eqb (slot_bucket (slot t j) o) (slot_bucket (slot t i) o) in
      let k : Bool = eqb (rank (slot t j) + 1) (rank (slot t i)) in
      (j, r.1, and_l u (b && k) r.2, eqb-true (slot_bucket (slot t j) o) (slot_bucket (slot t i) o) (and_l b k (and_r u (b && k) r.2)), eqb-true (rank (slot t j) + 1) (rank (slot t i)) (and_r b k (and_r u (b && k) r.2)))

  leads-intro : (i : ℕ) → Below i → some (slots_of t) (leads t o i) ≡ true
  unfolding leads just_below
  leads-intro i g =
      let j : ℕ = g.0 in
      let b : Bool = eqb (slot_bucket (slot t j) o) (slot_bucket (slot t i) o) in
      let k : Bool = eqb (rank (slot t j) + 1) (rank (slot t i)) in
      some-intro (leads t o i) (slots_of t) j g.1
      (and_i (used (slot t j)) (b && k) g.2 (and_i b k (eq-eqb (slot_bucket (slot t j) o) (slot_bucket (slot t i) o) g.3) (eq-eqb (rank (slot t j) + 1) (rank (slot t i)) g.4)))

  module _ (i : ℕ) (g : good t o i ≡ true) where
    good-fields : fields_fit (slot t i) ≡ true
    unfolding good
    good-fields = all_head _ _ g

    good-bucket : slot_bucket (slot t i) o < buckets
    unfolding good
    good-bucket = ltb-true (slot_bucket (slot t i) o) buckets (all_head _ _ (all_rest _ _ g))

    good-other : (j : ℕ) → j < slots_of t → used (slot t j) ≡ true → (j ≡ i → ⊥) → other i j ≡ true
    unfolding good
    good-other j l u ne = apart_other i j (all-at (apart t o i) (slots_of t) j (all_head _ _ (all_rest _ _ (all_rest _ _ g))) l) u ne

    good-below : (rank (slot t i) ≡ 0 → ⊥) → Below i
    unfolding good
    good-below h =
        leads-elim i
        (sym (or_off (eqb (rank (slot t i)) 0) (some (slots_of t) (leads t o i)) (ne_eqb (rank (slot t i)) 0 h))
        ∙ all_head _ _ (all_rest _ _ (all_rest _ _ (all_rest _ _ g))))

  same-slot : (i j : ℕ) → ((j ≡ i → ⊥) → ⊥) → i ≡ j
  same-slot i j h = ⊎_elim (λ e. sym e) (λ ne. absurd (h ne)) (eq-or-ne j i)

  pub form-elim : in_form t o ≡ true → InForm t o
  form-elim y = record {
    fields = λ i l u. fields-elim (slot t i) (good-fields i (good-at y i l u));
    bucket = λ i l u. good-bucket i (good-at y i l u);
    once = λ i j li lj ui uj e. same-slot i j (λ ne. other_place i j (good-other i (good-at y i li ui) j lj uj ne) e);
    untied = λ i j li lj ui uj b r. same-slot i j (λ ne. other-rank i j (good-other i (good-at y i li ui) j lj uj ne) b r);
    below = λ i l u h. good-below i (good-at y i l u) h;
  }

  pub form-intro : InForm t o → in_form t o ≡ true
  unfolding in_form good_or_free good
  form-intro f = all-intro (good_or_free t o) (slots_of t) (λ i l. or-skip (not (used (slot t i))) (good t o i) (λ z. one i l (not-false (used (slot t i)) z)))
    where
      sep : (i j : ℕ) → i < slots_of t → j < slots_of t → used (slot t i) ≡ true → apart t o i j ≡ true
      sep i j li lj ui = other-apart i j (λ uj ne. other-intro i j (λ e. ne (sym (f.once i j li lj ui uj e))) (λ b r. ne (sym (f.untied i j li lj ui uj b r))))

      one : (i : ℕ) → i < slots_of t → used (slot t i) ≡ true → good t o i ≡ true
      one i l u =
          all-one-more _ _ (fields-intro (slot t i) (f.fields i l u))
          (all-one-more _ _ (lt-ltb (slot_bucket (slot t i) o) buckets (f.bucket i l u))
          (all-one-more _ _ (all-intro (apart t o i) (slots_of t) (λ j lj. sep i j l lj u))
          (all-one-more _ _ (or-skip (eqb (rank (slot t i)) 0) (some (slots_of t) (leads t o i)) (λ z. leads-intro i (f.below i l u (eqb-false (rank (slot t i)) 0 z))))
          all_none)))

  -- ---- what a reader may want to see follow
  module _ (f : InForm t o) where
    -- "ranked there 0 up with no gap": in a bucket, each rank below one that is held is held
    pub form-ranks : (d i : ℕ) → i < slots_of t → used (slot t i) ≡ true → d ≤ rank (slot t i)
        → (j : ℕ) × (j < slots_of t) × (used (slot t j) ≡ true) × (slot_bucket (slot t j) o ≡ slot_bucket (slot t i) o) × (rank (slot t j) + d ≡ rank (slot t i))
    form-ranks zero i l u h = (i, l, u, refl, omega arith)
    form-ranks (suc d) i l u h =
        let r = form-ranks d i l u (omega arith) in
        let nz : rank (slot t r.0) ≡ 0 → ⊥ = λ z. absurd (no (rank (slot t i)) (rank (slot t r.0)) d h r.4 z) in
        let g = f.below r.0 r.1 r.2 nz in
        (g.0, g.1, g.2, g.3 ∙ r.3, omega (arith, g.4, r.4))
      where
        no : (a b d : ℕ) → suc d ≤ a → b + d ≡ a → b ≡ 0 → ⊥
        no a b d p q z = omega arith

    -- and none is over 19
    pub form-rank : (i : ℕ) → i < slots_of t → used (slot t i) ≡ true → rank (slot t i) < bucket_size
    unfolding rank
    form-rank i l u = omega (arith, (f.fields i l u).ranked, used-mark (slot t i) u)

    -- "no place .. ours"
    pub form-not-ours : (i : ℕ) → i < slots_of t → used (slot t i) ≡ true → place (slot t i) ≡ o → ⊥
    unfolding slot_bucket
    form-not-ours i l u e = bad (f.bucket i l u) (ap (λ (p : List ℕ). bucket_of p o) e ∙ bucket-self o (ap length (sym e) ∙ place-size t i (slot_whole t i l)))
      where
        bad : {n : ℕ} → n < 256 → n ≡ 256 → ⊥
        bad a b = omega arith

  -- a slot of another place than ours has a bucket
  pub bucket-of-other : length o ≡ 32 → Bytes o → Bytes t → (i : ℕ) → i < slots_of t → (place (slot t i) ≡ o → ⊥) → slot_bucket (slot t i) o < buckets
  unfolding slot_bucket
  bucket-of-other lo bo bt i l ne = bucket-lt (place (slot t i)) o (place-size t i (slot_whole t i l)) lo (bytes-place t i bt) bo ne

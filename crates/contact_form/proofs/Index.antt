-- The index that `collect` makes, and what it says of the form. Assumes nothing.
use Prim.Native.Nat.{ℕ, zero, suc, ◌+◌, ◌*◌, ◌-◌, ◌%◌, ◌<◌, ◌≤◌}
use mathlib.Core.Path.{◌≡◌, refl, sym, ap, ◌∙◌, subst}
use mathlib.Core.Logic.{◌⊎◌, inl, inr, ⊎_elim}
use mathlib.Core.Bool.{Bool, true, false, not, ◌&&◌, ◌||◌}
use mathlib.Core.List.{List}
use native.Mathlib.Nat.{eq-or-lt_of_le, le_of_suc-le-suc, not-suc-le-zero}
use native.Mathlib.Numerals.{add-one}
use native.Mathlib.Omega.{arith}
use lib.Dec.{ltb, eqb}
use lib.ListN.{length, get_or, set, length-set, replicate}
use lib.Seq.{get_or-set_same, get_or-set_other}
use borrow.Author.Tests.{lt-ltb, ltb-true, ltb-false, eq-eqb, ne_eqb, eqb-false, not-true}
use Rattle.octets.proofs.Lists.{zeros}
use Rattle.octets.specs.Octets.{part, same}
use Rattle.octets.specs.Search.{all}
use Rattle.octets.proofs.Bools.{either, and_l, and_r, and_i, or_l, or_off, or-skip, not-no, not-both, to-false, same_way, eq-or-ne, cond_yes, cond_no, and-off, and-fails}
use Rattle.octets.proofs.Searching.{all-at, all-intro}
use Rattle.octets.proofs.Strings.{same-eq, same-yes, three}
use Rattle.limits.specs.Limits.{bucket_size}
use Rattle.place.specs.Place.{bucket_of}
use Rattle.contact_table.specs.Table.{slots_of, slot, mark, used, place}
use Rattle.contact_form.specs.Form.{buckets, rank, slot_bucket, fields_fit, in_form}
use Rattle.contact_form.specs.Inner.{index_size, fine, key_of, key_or, Indexed, other_place, other_before, entry_fits}
use Rattle.contact_table.proofs.Cuts.{used-mark, mark-used, mark-free}
use Rattle.contact_form.specs.Claims.{Fields, InForm}
use Rattle.contact_form.proofs.FormFacts.{fields-elim, fields-intro, form-elim, form-intro}

-- ---- a slot by itself, and its key
module _ (s o : List ℕ) where
  fine-fields : fine s o ≡ true → fields_fit s ≡ true
  unfolding fine
  fine-fields h = and_l (fields_fit s) (ltb (slot_bucket s o) buckets) h

  fine-bucket : fine s o ≡ true → slot_bucket s o < buckets
  unfolding fine
  fine-bucket h = ltb-true (slot_bucket s o) buckets (and_r (fields_fit s) (ltb (slot_bucket s o) buckets) h)

  fine-rank : fine s o ≡ true → used s ≡ true → rank s < bucket_size
  unfolding rank
  fine-rank h u = omega (arith, used-mark s u, (fields-elim s (fine-fields h)).ranked)

  fine-intro : Fields s → slot_bucket s o < buckets → fine s o ≡ true
  unfolding fine
  fine-intro f b = and_i (fields_fit s) (ltb (slot_bucket s o) buckets) (fields-intro s f) (lt-ltb (slot_bucket s o) buckets b)

  key-lt : fine s o ≡ true → used s ≡ true → key_of s o < index_size
  unfolding key_of
  key-lt h u = omega (arith, fine-bucket h, fine-rank h u)

  key-rank : fine s o ≡ true → used s ≡ true → key_of s o % bucket_size ≡ rank s
  unfolding key_of
  key-rank h u = omega (arith, fine-rank h u)

  -- as `key_of` finds it out
  pub key-bad : fields_fit s ≡ false → index_size ≡ key_or s o
  unfolding key_or fine
  key-bad e = sym (cond_no (fine s o) (key_of s o) index_size (and-off (fields_fit s) (ltb (slot_bucket s o) buckets) e))

  pub key-far : {b : ℕ} → b ≡ bucket_of (part s 8 40) o → buckets ≤ b → index_size ≡ key_or s o
  unfolding key_or fine slot_bucket place
  key-far {b} e l =
      sym (cond_no (fine s o) (key_of s o) index_size (and-fails (fields_fit s) (ltb (slot_bucket s o) buckets) (to-false (ltb (slot_bucket s o) buckets) (λ h. no (ltb-true (slot_bucket s o) buckets h)))))
    where
      no : bucket_of (part s 8 40) o < buckets → ⊥
      no h = omega arith

  pub key-ok : {b : ℕ} → fields_fit s ≡ true → b ≡ bucket_of (part s 8 40) o → b < buckets → b * bucket_size + (get_or s 0 0 - 1) ≡ key_or s o
  unfolding key_or fine key_of slot_bucket place rank mark
  key-ok {b} f e l =
      ap (λ (x : ℕ). x * bucket_size + (get_or s 0 0 - 1)) e ∙ sym (cond_yes (fine s o) (key_of s o) index_size (and_i (fields_fit s) (ltb (slot_bucket s o) buckets) f (lt-ltb (slot_bucket s o) buckets (omega arith))))

  -- what the key says
  key-out : used s ≡ true → index_size ≤ key_or s o → fine s o ≡ false
  unfolding key_or
  key-out u l = to-false (fine s o) (λ f. no (key-lt f u) (cond_yes (fine s o) (key_of s o) index_size f))
    where
      no : key_of s o < index_size → key_or s o ≡ key_of s o → ⊥
      no p e = omega arith

  key_in : key_or s o < index_size → (fine s o ≡ true) × (key_or s o ≡ key_of s o)
  unfolding key_or
  key_in l = ⊎_elim (λ f. (f, cond_yes (fine s o) (key_of s o) index_size f)) (λ f. absurd (no (cond_no (fine s o) (key_of s o) index_size f))) (either (fine s o))
    where
      no : key_or s o ≡ index_size → ⊥
      no e = omega arith

-- two keys are apart as buckets and ranks are
module _ (s v o : List ℕ) (fs : fine s o ≡ true) (us : used s ≡ true) (fv : fine v o ≡ true) (uv : used v ≡ true) where
  key-inj : key_of s o ≡ key_of v o → (slot_bucket v o ≡ slot_bucket s o) × (rank v ≡ rank s)
  unfolding key_of
  key-inj e = (omega (arith, fine-rank s o fs us, fine-rank v o fv uv), omega (arith, fine-rank s o fs us, fine-rank v o fv uv))

  key-down : key_of v o + 1 ≡ key_of s o → (rank s ≡ 0 → ⊥) → (slot_bucket v o ≡ slot_bucket s o) × (rank v + 1 ≡ rank s)
  unfolding key_of
  key-down e h =
      let p : rank s < bucket_size = fine-rank s o fs us in
      let q : rank v < bucket_size = fine-rank v o fv uv in
      (omega arith, omega arith)

key-same : (s v o : List ℕ) → slot_bucket s o ≡ slot_bucket v o → rank s ≡ rank v → key_of s o ≡ key_of v o
unfolding key_of
key-same s v o b r = omega arith

key-prev : (s v o : List ℕ) (k : ℕ) → slot_bucket v o ≡ slot_bucket s o → rank v + 1 ≡ rank s → key_of s o ≡ k → key_of v o ≡ k - 1
unfolding key_of
key-prev s v o k p q e = omega arith

-- ---- the index, a slot at a time
pub index-none : (t o a : List ℕ) → length a ≡ index_size → ((k : ℕ) → get_or a k 0 ≡ 0) → Indexed t o 0 a
index-none t o a e z = record {
  long = e;
  there = λ i l u. absurd (not-suc-le-zero l);
  from = λ k h. absurd (not-suc-le-zero (subst (λ (n : ℕ). 1 ≤ n) (z k) h));
}

module _ (t o a : List ℕ) (i : ℕ) (x : Indexed t o i a) (li : i < slots_of t) where
  -- every number below i + 1 is below i, or i
  last : (P : ℕ → Type 0) → ((j : ℕ) → j < i → P j) → P i → (j : ℕ) → j < i + 1 → P j
  last P f h j l =
      ⊎_elim (λ e. subst P (sym e) h) (λ q. f j q) (eq-or-lt_of_le (le_of_suc-le-suc (subst (λ (m : ℕ). j < m) (add-one i) l)))

  pub index-free : mark (slot t i) < 1 → Indexed t o (i + 1) a
  index-free h = record {
    long = x.long;
    there = last (λ (j : ℕ). used (slot t j) ≡ true → (fine (slot t j) o ≡ true) × (get_or a (key_of (slot t j) o) 0 ≡ j + 1)) x.there (λ u. absurd (not-both (used (slot t i)) u free));
    from = λ k h. let r = x.from k h in (omega (arith, r.0), r.1, r.2);
  }
    where
      free : used (slot t i) ≡ false
      free = mark-free (slot t i) (omega arith)

  module _ (m : 1 ≤ mark (slot t i)) {k : ℕ} (e : k ≡ key_or (slot t i) o) where
    u : used (slot t i) ≡ true
    u = mark-used (slot t i) (λ z. omega arith)

    pub index-bad : index_size ≤ k → in_form t o ≡ false
    index-bad p = to-false (in_form t o) (λ y. not-both (fine (slot t i) o) (fine-intro (slot t i) o ((form-elim t o y).fields i li u) ((form-elim t o y).bucket i li u)) (key-out (slot t i) o u (subst (λ (n : ℕ). index_size ≤ n) e p)))

    module _ (l : k < index_size) where
      f : fine (slot t i) o ≡ true
      f = (key_in (slot t i) o (subst (λ (n : ℕ). n < index_size) e l)).0

      ek : k ≡ key_of (slot t i) o
      ek = e ∙ (key_in (slot t i) o (subst (λ (n : ℕ). n < index_size) e l)).1

      -- an entry that is taken is that of an earlier slot
      pub index-taken : (get_or a k 0 ≡ 0 → ⊥) → in_form t o ≡ false
      index-taken h = to-false (in_form t o) (λ y.
          let p : 1 ≤ get_or a k 0 = omega arith in
          let r = x.from k p in
          let j : ℕ = get_or a k 0 - 1 in
          let lj : j < i = omega (arith, r.0) in
          let q = key-inj (slot t i) (slot t j) o f u (x.there j lj r.1).0 r.1 (sym ek ∙ sym r.2) in
          bad ((form-elim t o y).untied i j li (omega arith) u r.1 q.0 q.1) lj)
        where
          bad : {m n : ℕ} → m ≡ n → n < m → ⊥
          bad p q = omega arith

      pub index-put : get_or a k 0 ≡ 0 → Indexed t o (i + 1) (set a k (i + 1))
      index-put z = record {
        long = length-set a k (i + 1) ∙ x.long;
        there = last (λ (j : ℕ). used (slot t j) ≡ true → (fine (slot t j) o ≡ true) × (get_or (set a k (i + 1)) (key_of (slot t j) o) 0 ≡ j + 1)) old
            (λ v. (f, ap (λ (n : ℕ). get_or (set a k (i + 1)) n 0) (sym ek) ∙ get_or-set_same a k (i + 1) 0 within));
        from = λ n h. back n h (eq-or-ne n k);
      }
        where
          within : k < length a
          within = omega (arith, x.long)

          suc-not : (j : ℕ) → j + 1 ≡ 0 → ⊥
          suc-not j q = omega arith

          old : (j : ℕ) → j < i → used (slot t j) ≡ true → (fine (slot t j) o ≡ true) × (get_or (set a k (i + 1)) (key_of (slot t j) o) 0 ≡ j + 1)
          old j lj v =
              let r = x.there j lj v in
              let ne : key_of (slot t j) o ≡ k → ⊥ = λ q. absurd (suc-not j (sym r.1 ∙ ap (λ (n : ℕ). get_or a n 0) q ∙ z)) in
              (r.0, get_or-set_other a k (key_of (slot t j) o) (i + 1) 0 ne ∙ r.1)

          back : (n : ℕ) → 1 ≤ get_or (set a k (i + 1)) n 0 → (n ≡ k) ⊎ (n ≡ k → ⊥)
              → (get_or (set a k (i + 1)) n 0 ≤ i + 1) × (used (slot t (get_or (set a k (i + 1)) n 0 - 1)) ≡ true) × (key_of (slot t (get_or (set a k (i + 1)) n 0 - 1)) o ≡ n)
          back n h (inl q) =
              let g : get_or (set a k (i + 1)) n 0 ≡ i + 1 = ap (λ (m : ℕ). get_or (set a k (i + 1)) m 0) q ∙ get_or-set_same a k (i + 1) 0 within in
              let g' : get_or (set a k (i + 1)) n 0 - 1 ≡ i = omega arith in
              (omega arith, subst (λ (m : ℕ). used (slot t m) ≡ true) (sym g') u, ap (λ (m : ℕ). key_of (slot t m) o) g' ∙ sym ek ∙ sym q)
          back n h (inr ne) =
              let g : get_or (set a k (i + 1)) n 0 ≡ get_or a n 0 = get_or-set_other a k n (i + 1) 0 ne in
              let r = x.from n (subst (λ (m : ℕ). 1 ≤ m) g h) in
              (omega (arith, r.0), subst (λ (m : ℕ). used (slot t (m - 1)) ≡ true) (sym g) r.1, ap (λ (m : ℕ). key_of (slot t (m - 1)) o) g ∙ r.2)

pub index-all : (t o a : List ℕ) {n : ℕ} → n ≡ slots_of t → Indexed t o n a → Indexed t o (slots_of t) a
index-all t o a e x = subst (λ (m : ℕ). Indexed t o m a) e x

-- the same of the slot that the code cut out
module _ (t o a : List ℕ) (i : ℕ) (x : Indexed t o i a) (li : i < slots_of t) {s : List ℕ} (es : s ≡ slot t i) where
  pub read-free : get_or s 0 0 < 1 → Indexed t o (i + 1) a
  unfolding mark
  read-free h = index-free t o a i x li (subst (λ (v : List ℕ). get_or v 0 0 < 1) es h)

  module _ (h : 1 ≤ get_or s 0 0) {k : ℕ} (e : k ≡ key_or s o) where
    m : 1 ≤ mark (slot t i)
    unfolding mark
    m = subst (λ (v : List ℕ). 1 ≤ get_or v 0 0) es h

    ek' : k ≡ key_or (slot t i) o
    ek' = e ∙ ap (λ (v : List ℕ). key_or v o) es

    pub read-bad : index_size ≤ k → in_form t o ≡ false
    read-bad p = index-bad t o a i x li m ek' p

    pub read_taken : k < index_size → (get_or a k 0 ≡ 0 → ⊥) → in_form t o ≡ false
    read_taken l q = index-taken t o a i x li m ek' l q

    pub read-put : k < index_size → get_or a k 0 ≡ 0 → Indexed t o (i + 1) (set a k (i + 1))
    read-put l q = index-put t o a i x li m ek' l q

-- ---- other places, as `other_place` finds them out
module _ (t p : List ℕ) (e : ℕ) where
  pub other_none : e < 1 → true ≡ other_place t p e
  unfolding other_place
  other_none l = sym (or_l (eqb e 0) (not (same p (place (slot t (e - 1))))) (eq-eqb e 0 (omega arith)))

  pub other-said : {r : Bool} {q : List ℕ} → 1 ≤ e → r ≡ same p q → q ≡ place (slot t (e - 1)) → not r ≡ other_place t p e
  unfolding other_place
  other-said {r} {q} l h g =
      ap not (h ∙ ap (same p) g) ∙ sym (or_off (eqb e 0) (not (same p (place (slot t (e - 1))))) (ne_eqb e 0 (λ z. omega arith)))

  other_differs : other_place t p e ≡ true → 1 ≤ e → p ≡ place (slot t (e - 1)) → ⊥
  unfolding other_place
  other_differs h l q =
      not-both (same p (place (slot t (e - 1)))) (same-yes p (place (slot t (e - 1))) q)
      (not-true (same p (place (slot t (e - 1)))) (sym (or_off (eqb e 0) (not (same p (place (slot t (e - 1))))) (ne_eqb e 0 (λ z. omega arith))) ∙ h))

  other-yes : (1 ≤ e → p ≡ place (slot t (e - 1)) → ⊥) → other_place t p e ≡ true
  unfolding other_place
  other-yes h =
      or-skip (eqb e 0) (not (same p (place (slot t (e - 1)))))
      (λ z. not-no (same p (place (slot t (e - 1)))) (to-false (same p (place (slot t (e - 1)))) (λ s. h (pos (eqb-false e 0 z)) (same-eq p (place (slot t (e - 1))) s))))
    where
      pos : (e ≡ 0 → ⊥) → 1 ≤ e
      pos q = omega arith

-- ---- an entry, as `entry_fits` finds it out
module _ (t a : List ℕ) (k : ℕ) where
  mine : List ℕ
  mine = place (slot t (get_or a k 0 - 1))

  rest : Bool
  rest = not (eqb (get_or a (k - 1) 0) 0) && all (k % bucket_size) (other_before t (place (slot t (get_or a k 0 - 1))) a k)

  entry-is : (get_or a k 0 ≡ 0 → ⊥) → (k % bucket_size ≡ 0 → ⊥) → entry_fits t a k ≡ rest
  unfolding entry_fits rest
  entry-is h g = or_off (eqb (get_or a k 0) 0) (eqb (k % bucket_size) 0 || rest) (ne_eqb (get_or a k 0) 0 h) ∙ or_off (eqb (k % bucket_size) 0) rest (ne_eqb (k % bucket_size) 0 g)

  pub entry-none : get_or a k 0 < 1 → true ≡ entry_fits t a k
  unfolding entry_fits rest
  entry-none h = sym (or_l (eqb (get_or a k 0) 0) (eqb (k % bucket_size) 0 || rest) (eq-eqb (get_or a k 0) 0 (omega arith)))

  module _ (l : 1 ≤ get_or a k 0) where
    pub entry_first : k % bucket_size ≡ 0 → true ≡ entry_fits t a k
    unfolding entry_fits rest
    entry_first g =
        sym (or_off (eqb (get_or a k 0) 0) (eqb (k % bucket_size) 0 || rest) (ne_eqb (get_or a k 0) 0 (λ z. omega arith)) ∙ or_l (eqb (k % bucket_size) 0) rest (eq-eqb (k % bucket_size) 0 g))

    module _ (g : k % bucket_size ≡ 0 → ⊥) where
      pub entry-gap : get_or a (k - 1) 0 ≡ 0 → false ≡ entry_fits t a k
      unfolding rest
      entry-gap z = sym (entry-is (λ q. omega arith) g ∙ and-off (not (eqb (get_or a (k - 1) 0) 0)) (all (k % bucket_size) (other_before t (place (slot t (get_or a k 0 - 1))) a k)) (ap not (eq-eqb (get_or a (k - 1) 0) 0 z)))

      pub entry-alone : {r : Bool} {p : List ℕ} → (get_or a (k - 1) 0 ≡ 0 → ⊥) → p ≡ place (slot t (get_or a k 0 - 1)) → r ≡ all (k % bucket_size) (other_before t p a k) → r ≡ entry_fits t a k
      unfolding rest
      entry-alone {r} {p} z q e =
          e ∙ ap (λ (s : List ℕ). all (k % bucket_size) (other_before t s a k)) q
          ∙ sym (entry-is (λ w. omega arith) g ∙ ap (λ (b : Bool). not b && all (k % bucket_size) (other_before t (place (slot t (get_or a k 0 - 1))) a k)) (ne_eqb (get_or a (k - 1) 0) 0 z))

      entry-elim : entry_fits t a k ≡ true → (1 ≤ get_or a (k - 1) 0) × (all (k % bucket_size) (other_before t (place (slot t (get_or a k 0 - 1))) a k) ≡ true)
      unfolding rest
      entry-elim h =
          let y : Bool = all (k % bucket_size) (other_before t (place (slot t (get_or a k 0 - 1))) a k) in
          let w : rest ≡ true = sym (entry-is (λ q. omega arith) g) ∙ h in
          let nz : get_or a (k - 1) 0 ≡ 0 → ⊥ = eqb-false (get_or a (k - 1) 0) 0 (not-true (eqb (get_or a (k - 1) 0) 0) (and_l (not (eqb (get_or a (k - 1) 0) 0)) y w)) in
          (omega arith, and_r (not (eqb (get_or a (k - 1) 0) 0)) y w)

  entry-intro : (1 ≤ get_or a k 0 → (k % bucket_size ≡ 0 → ⊥) → (get_or a (k - 1) 0 ≡ 0 → ⊥) × (all (k % bucket_size) (other_before t (place (slot t (get_or a k 0 - 1))) a k) ≡ true)) → entry_fits t a k ≡ true
  unfolding entry_fits rest
  entry-intro h =
      or-skip (eqb (get_or a k 0) 0) (eqb (k % bucket_size) 0 || rest)
      (λ z. or-skip (eqb (k % bucket_size) 0) rest
      (λ q. let w = h (pos (eqb-false (get_or a k 0) 0 z)) (eqb-false (k % bucket_size) 0 q) in
      and_i (not (eqb (get_or a (k - 1) 0) 0)) (all (k % bucket_size) (other_before t (place (slot t (get_or a k 0 - 1))) a k)) (not-no (eqb (get_or a (k - 1) 0) 0) (ne_eqb (get_or a (k - 1) 0) 0 w.0)) w.1))
    where
      pos : {n : ℕ} → (n ≡ 0 → ⊥) → 1 ≤ n
      pos q = omega arith

-- ---- the whole index
module _ (t o a : List ℕ) (x : Indexed t o (slots_of t) a) where
  pub entries-le : (k : ℕ) → get_or a k 0 ≤ slots_of t
  entries-le k = ⊎_elim (λ h. (x.from k (ltb-true 0 (get_or a k 0) h)).0) (λ h. omega (arith, ltb-false 0 (get_or a k 0) h)) (either (ltb 0 (get_or a k 0)))

  number_lt : (k : ℕ) → 1 ≤ get_or a k 0 → get_or a k 0 - 1 < slots_of t
  number_lt k h = omega (arith, (x.from k h).0)

  number-fine : (k : ℕ) (h : 1 ≤ get_or a k 0) → fine (slot t (get_or a k 0 - 1)) o ≡ true
  number-fine k h = (x.there (get_or a k 0 - 1) (number_lt k h) (x.from k h).1).0

  -- in form: no entry is out of place
  module _ (f : InForm t o) where
    filled-below : (k : ℕ) → (k % bucket_size ≡ 0 → ⊥) → 1 ≤ get_or a k 0 → get_or a (k - 1) 0 ≡ 0 → ⊥
    filled-below k h p z =
        let i : ℕ = get_or a k 0 - 1 in
        let u : used (slot t i) ≡ true = (x.from k p).1 in
        let e : key_of (slot t i) o ≡ k = (x.from k p).2 in
        let r : rank (slot t i) ≡ 0 → ⊥ = λ q. h (ap (λ (n : ℕ). n % bucket_size) (sym e) ∙ key-rank (slot t i) o (number-fine k p) u ∙ q) in
        let g = f.below i (number_lt k p) u r in
        clash g.0 (ap (λ (n : ℕ). get_or a n 0) (key-prev (slot t i) (slot t g.0) o k g.3 g.4 e)) (x.there g.0 g.1 g.2).1 z
      where
        clash : (j : ℕ) {m n : ℕ} → m ≡ n → m ≡ j + 1 → n ≡ 0 → ⊥
        clash j p q r = omega arith

    others-before : (k d : ℕ) → d < k % bucket_size → 1 ≤ get_or a k 0 → other_before t (place (slot t (get_or a k 0 - 1))) a k d ≡ true
    unfolding other_before
    others-before k d l p = other-yes t (place (slot t (get_or a k 0 - 1))) (get_or a (k - (d + 1)) 0) two
      where
        off : k ≡ k - (d + 1) → ⊥
        off e = omega arith

        two : 1 ≤ get_or a (k - (d + 1)) 0 → place (slot t (get_or a k 0 - 1)) ≡ place (slot t (get_or a (k - (d + 1)) 0 - 1)) → ⊥
        two q e =
            let i : get_or a k 0 - 1 ≡ get_or a (k - (d + 1)) 0 - 1 = f.once (get_or a k 0 - 1) (get_or a (k - (d + 1)) 0 - 1) (number_lt k p) (number_lt (k - (d + 1)) q) (x.from k p).1 (x.from (k - (d + 1)) q).1 e in
            off (sym (x.from k p).2 ∙ ap (λ (n : ℕ). key_of (slot t n) o) i ∙ (x.from (k - (d + 1)) q).2)

    form-entries : all index_size (entry_fits t a) ≡ true
    form-entries =
        all-intro (entry_fits t a) index_size
        (λ k l. entry-intro t a k
        (λ p h. (filled-below k h p, all-intro (other_before t (place (slot t (get_or a k 0 - 1))) a k) (k % bucket_size) (λ d ld. others-before k d ld p))))

  -- no entry out of place: in form
  module _ (h : all index_size (entry_fits t a) ≡ true) where
    module _ (i : ℕ) (l : i < slots_of t) (u : used (slot t i) ≡ true) where
      fine-i : fine (slot t i) o ≡ true
      fine-i = (x.there i l u).0

      entry-i : get_or a (key_of (slot t i) o) 0 ≡ i + 1
      entry-i = (x.there i l u).1

      fits-i : (rank (slot t i) ≡ 0 → ⊥) → (1 ≤ get_or a (key_of (slot t i) o - 1) 0)
          × (all (key_of (slot t i) o % bucket_size) (other_before t (place (slot t (get_or a (key_of (slot t i) o) 0 - 1))) a (key_of (slot t i) o)) ≡ true)
      fits-i r =
          entry-elim t a (key_of (slot t i) o) (omega (arith, entry-i)) (λ z. r (sym (key-rank (slot t i) o fine-i u) ∙ z))
          (all-at (entry_fits t a) index_size (key_of (slot t i) o) h (key-lt (slot t i) o fine-i u))

    number : {m n k : ℕ} → k ≡ m + 1 → k ≡ n + 1 → m ≡ n
    number p q = omega arith

    -- a slot above another in its bucket has another place
    above : (i j : ℕ) (li : i < slots_of t) (lj : j < slots_of t) (ui : used (slot t i) ≡ true) (uj : used (slot t j) ≡ true)
        → slot_bucket (slot t j) o ≡ slot_bucket (slot t i) o → rank (slot t j) < rank (slot t i) → place (slot t i) ≡ place (slot t j) → ⊥
    unfolding other_before key_of
    above i j li lj ui uj b r e =
        let k : ℕ = key_of (slot t i) o in
        let m : ℕ = key_of (slot t j) o in
        let fi : rank (slot t i) < bucket_size = fine-rank (slot t i) o (fine-i i li ui) ui in
        let d : ℕ = k - m - 1 in
        let ld : d < k % bucket_size = omega arith in
        let em : k - (d + 1) ≡ m = omega arith in
        let w : other_place t (place (slot t (get_or a k 0 - 1))) (get_or a (k - (d + 1)) 0) ≡ true =
        all-at (other_before t (place (slot t (get_or a k 0 - 1))) a k) (k % bucket_size) d (fits-i i li ui (λ z. omega arith)).1 ld in
        let gi : get_or a k 0 ≡ i + 1 = entry-i i li ui in
        let gj : get_or a (k - (d + 1)) 0 ≡ j + 1 = ap (λ (n : ℕ). get_or a n 0) em ∙ entry-i j lj uj in
        let pi : get_or a k 0 - 1 ≡ i = omega arith in
        let pj : get_or a (k - (d + 1)) 0 - 1 ≡ j = omega arith in
        other_differs t (place (slot t (get_or a k 0 - 1))) (get_or a (k - (d + 1)) 0) w (omega arith)
        (ap (λ (n : ℕ). place (slot t n)) pi ∙ e ∙ ap (λ (n : ℕ). place (slot t n)) (sym pj))

    untied : (i j : ℕ) → i < slots_of t → j < slots_of t → used (slot t i) ≡ true → used (slot t j) ≡ true
        → slot_bucket (slot t j) o ≡ slot_bucket (slot t i) o → rank (slot t j) ≡ rank (slot t i) → i ≡ j
    untied i j li lj ui uj b r = number (entry-i i li ui) (ap (λ (n : ℕ). get_or a n 0) (key-same (slot t i) (slot t j) o (sym b) (sym r)) ∙ entry-i j lj uj)

    once : (i j : ℕ) → i < slots_of t → j < slots_of t → used (slot t i) ≡ true → used (slot t j) ≡ true → place (slot t i) ≡ place (slot t j) → i ≡ j
    unfolding slot_bucket
    once i j li lj ui uj e = by (three (rank (slot t i)) (rank (slot t j))) (ap (λ (p : List ℕ). bucket_of p o) e)
      where
        by : (rank (slot t i) < rank (slot t j)) ⊎ ((rank (slot t j) < rank (slot t i)) ⊎ (rank (slot t i) ≡ rank (slot t j))) → slot_bucket (slot t i) o ≡ slot_bucket (slot t j) o → i ≡ j
        by (inl r) b = absurd (above j i lj li uj ui b r (sym e))
        by (inr (inl r)) b = absurd (above i j li lj ui uj (sym b) r e)
        by (inr (inr r)) b = untied i j li lj ui uj (sym b) (sym r)

    below : (i : ℕ) → i < slots_of t → used (slot t i) ≡ true → (rank (slot t i) ≡ 0 → ⊥)
        → (j : ℕ) × (j < slots_of t) × (used (slot t j) ≡ true) × (slot_bucket (slot t j) o ≡ slot_bucket (slot t i) o) × (rank (slot t j) + 1 ≡ rank (slot t i))
    below i l u r =
        let k : ℕ = key_of (slot t i) o in
        let fi : fine (slot t i) o ≡ true = fine-i i l u in
        let p : 1 ≤ get_or a (k - 1) 0 = (fits-i i l u r).0 in
        let kz : k ≡ 0 → ⊥ = λ z. r (sym (key-rank (slot t i) o fi u) ∙ ap (λ (n : ℕ). n % bucket_size) z) in
        let j : ℕ = get_or a (k - 1) 0 - 1 in
        let uj : used (slot t j) ≡ true = (x.from (k - 1) p).1 in
        let ej : key_of (slot t j) o ≡ k - 1 = (x.from (k - 1) p).2 in
        let q = key-down (slot t i) (slot t j) o fi u (number-fine (k - 1) p) uj (omega arith) r in
        (j, number_lt (k - 1) p, uj, q.0, q.1)

    entries-form : InForm t o
    entries-form = record {
      fields = λ i l u. fields-elim (slot t i) (fine-fields (slot t i) o (fine-i i l u));
      bucket = λ i l u. fine-bucket (slot t i) o (fine-i i l u);
      once = once;
      untied = untied;
      below = below;
    }

  -- so the entries decide the form
  pub form-is : all index_size (entry_fits t a) ≡ in_form t o
  form-is = same_way (all index_size (entry_fits t a)) (in_form t o) (λ h. form-intro t o (entries-form h)) (λ y. form-entries (form-elim t o y))

-- What a store holds once a slot of it is written anew with a key: where each key is found then, and that no key stands twice. Assumes nothing.
use mathlib.Core.Path.{◌≡◌, refl, sym, ap, ap₂, ◌∙◌, subst}
use mathlib.Core.Logic.{⊎_elim}
use mathlib.Core.Bool.{Bool, true, false, not, ◌||◌}
use mathlib.Core.List.{List}
use Prim.Native.Nat.{ℕ, ◌+◌, ◌*◌, ◌-◌, ◌/◌, ◌<◌, ◌≤◌, min}
use native.Mathlib.Nat.{eq-or-lt_of_le}
use native.Mathlib.Omega.{arith}
use lib.Dec.{ltb}
use lib.ListN.{length, take}
use lib.Seq.{sets, length-sets}
use borrow.Author.Tests.{ltb-true, ltb-false}
use Rattle.octets.specs.Octets.{part, same}
use Rattle.octets.specs.Search.{all}
use Rattle.octets.proofs.Bools.{or_r, not-both, to-false, either, eq-or-ne}
use Rattle.octets.proofs.Searching.{all-intro, first-hit, first-same}
use Rattle.octets.proofs.Parts.{part-part}
use Rattle.octets.proofs.Stores.{take-sets, drop-sets, part-sets}
use Rattle.octets.proofs.Strings.{same_refl, same-no}
use Rattle.limits.specs.Limits.{most_records}
use Rattle.keyed_slots.specs.Slots.{slots_of, slot, used, key_of, holds, apart, alone, keys_apart, slot_with, free_slot}
use Rattle.keyed_slots.proofs.Laying.{slot-in, slot-order}
use Rattle.keyed_slots.proofs.Finding.{with-holds, with-before, free-unused, holds-out, holds-in, apart-before, one-slot}

-- ---- the slots of the new store
module _ (z : ℕ) (t s : List ℕ) (i : ℕ) (l : i < slots_of z t) (e : length s ≡ z) where
  pub written-slots : slots_of z (sets t (i * z) s) ≡ slots_of z t
  unfolding slots_of
  written-slots = ap (λ (n : ℕ). min (n / z) most_records) (length-sets t (i * z) s)

  pub written_same : slot z (sets t (i * z) s) i ≡ s
  unfolding slot
  written_same =
      let g : i * z + length s ≤ length t = omega (arith, slot-in z t i l) in
      ap (λ (n : ℕ). part (sets t (i * z) s) (i * z) (i * z + n)) (sym e) ∙ part-sets t (i * z) s g

  part-before : (a b : ℕ) → b ≤ i * z → part (sets t (i * z) s) a b ≡ part t a b
  part-before a b h = sym (cut (sets t (i * z) s)) ∙ ap (λ (x : List ℕ). part x a b) (take-sets b t (i * z) s h) ∙ cut t
    where
      cut : (x : List ℕ) → part (take b x) a b ≡ part x a b
      cut x =
          let m : b - 0 ≡ b = omega arith in
          let p : 0 + a ≡ a = omega arith in
          let q : 0 + b ≡ b = omega arith in
          ap (λ (n : ℕ). part (take n x) a b) (sym m) ∙ part-part x 0 b a b (omega arith) ∙ ap₂ (λ (u v : ℕ). part x u v) p q

  part-after : (a b : ℕ) → i * z + z ≤ a → part (sets t (i * z) s) a b ≡ part t a b
  part-after a b h = ap (λ (x : List ℕ). take (b - a) x) (drop-sets a t (i * z) s (omega arith))

  pub written-other : (j : ℕ) → (j ≡ i → ⊥) → slot z (sets t (i * z) s) j ≡ slot z t j
  unfolding slot
  written-other j ne = ⊎_elim (λ q. low (ltb-true j i q)) (λ q. high (past (ltb-false j i q))) (either (ltb j i))
    where
      past : i ≤ j → i < j
      past g = ⊎_elim (λ q. absurd (ne (sym q))) (λ q. q) (eq-or-lt_of_le {n = i} {m = j} g)

      low : j < i → part (sets t (i * z) s) (j * z) (j * z + z) ≡ part t (j * z) (j * z + z)
      low h = part-before (j * z) (j * z + z) (slot-order z j i h)

      high : i < j → part (sets t (i * z) s) (j * z) (j * z + z) ≡ part t (j * z) (j * z + z)
      high h = part-after (j * z) (j * z + z) (slot-order z i j h)

-- ---- where a key may be written: it stands in no slot before, and the slot holds no other
pub record Home (z : ℕ) (t k : List ℕ) (i : ℕ) : Type 0 where
  pub within : i < slots_of z t
  pub none_before : (j : ℕ) → j < i → holds z t k j ≡ false
  pub no_other : (k' : List ℕ) → (k ≡ k' → ⊥) → holds z t k' i ≡ false
  pub only : keys_apart z t ≡ true → (j : ℕ) → j < slots_of z t → (j ≡ i → ⊥) → holds z t k j ≡ false

pub home-held : (z : ℕ) (t k : List ℕ) → slot_with z t k < slots_of z t → Home z t k (slot_with z t k)
home-held z t k l =
    record {
      within = l;
      none_before = with-before z t k;
      no_other = λ k' ne. to-false (holds z t k' (slot_with z t k)) (λ h. ne (sym (holds-out z t k (slot_with z t k) (with-holds z t k l)).1 ∙ (holds-out z t k' (slot_with z t k) h).1));
      only = λ y j lj ne. to-false (holds z t k j) (λ h. ne (one-slot z t k j (slot_with z t k) y lj l h (with-holds z t k l)));
    }

pub home-free : (z : ℕ) (t k : List ℕ) → slots_of z t ≤ slot_with z t k → free_slot z t < slots_of z t → Home z t k (free_slot z t)
home-free z t k g l =
    record {
      within = l;
      none_before = λ j lj. with-before z t k j (omega arith);
      no_other = λ k' ne. to-false (holds z t k' (free_slot z t)) (λ h. not-both (used (slot z t (free_slot z t))) (holds-out z t k' (free_slot z t) h).0 (free-unused z t l));
      only = λ y j lj ne. with-before z t k j (omega arith);
    }

-- ---- slot i is written with a key that may stand there
module _ (z : ℕ) (t k s : List ℕ) (i : ℕ) (home : Home z t k i) (e : length s ≡ z) (us : used s ≡ true) (ks : key_of s ≡ k) where
  abbrev W : List ℕ
  W = sets t (i * z) s

  wn : slots_of z W ≡ slots_of z t
  wn = written-slots z t s i home.within e

  ws : slot z W i ≡ s
  ws = written_same z t s i home.within e

  wo : (j : ℕ) → (j ≡ i → ⊥) → slot z W j ≡ slot z t j
  wo j ne = written-other z t s i home.within e j ne

  new-i : (k' : List ℕ) → holds z W k' i ≡ same k k'
  unfolding holds
  new-i k' = rw (ws, us, ks)

  new-j : (k' : List ℕ) (j : ℕ) → (j ≡ i → ⊥) → holds z W k' j ≡ holds z t k' j
  unfolding holds
  new-j k' j ne = rw (wo j ne)

  pub find-new : slot_with z W k ≡ i
  unfolding slot_with
  find-new = rw wn (sym (first-hit (holds z W k) (slots_of z t) i home.within (λ j l. new-j k j (off j l) ∙ home.none_before j l) (new-i k ∙ same_refl k)))
    where
      off : (j : ℕ) → j < i → j ≡ i → ⊥
      off j l q = omega arith

  module _ (k' : List ℕ) (ne : k ≡ k' → ⊥) where
    same-holds : (j : ℕ) → holds z W k' j ≡ holds z t k' j
    same-holds j = ⊎_elim (λ q. at q) (λ q. new-j k' j q) (eq-or-ne j i)
      where
        at : j ≡ i → holds z W k' j ≡ holds z t k' j
        at q = rw q (new-i k' ∙ same-no k k' ne ∙ sym (home.no_other k' ne))

    pub find-other : slot_with z W k' ≡ slot_with z t k'
    unfolding slot_with
    find-other = rw wn (first-same (holds z W k') (holds z t k') (slots_of z t) (λ j l. same-holds j))

    -- and what stands in its slot is what stood there
    pub other-slot : slot_with z t k' < slots_of z t → slot z W (slot_with z t k') ≡ slot z t (slot_with z t k')
    other-slot l = wo (slot_with z t k') (λ q. not-both (holds z t k' i) (subst (λ (n : ℕ). holds z t k' n ≡ true) q (with-holds z t k' l)) (home.no_other k' ne))

  alone-in : (j : ℕ) → (used (slot z W j) ≡ true → (m : ℕ) → m < j → holds z W (key_of (slot z W j)) m ≡ false) → alone z W j ≡ true
  unfolding alone apart
  alone-in j h = go (used (slot z W j)) refl
    where
      go : (b : Bool) → used (slot z W j) ≡ b → (not (used (slot z W j)) || all j (apart z W j)) ≡ true
      go true q = or_r (not (used (slot z W j))) _ (all-intro (apart z W j) j (λ m lm. ap not (h q m lm)))
      go false q = rw q

  pub write-apart : keys_apart z t ≡ true → keys_apart z W ≡ true
  unfolding keys_apart
  write-apart y = rw wn (all-intro (alone z W) (slots_of z t) (λ j l. alone-in j (λ u m lm. ⊎_elim (λ q. here j q m lm) (λ q. there j l q u m lm) (eq-or-ne j i))))
    where
      off : (a b : ℕ) → a < b → a ≡ b → ⊥
      off a b l q = omega arith

      here : (j : ℕ) → j ≡ i → (m : ℕ) → m < j → holds z W (key_of (slot z W j)) m ≡ false
      here j q m lm =
          ap (λ (x : List ℕ). holds z W x m) (ap (λ (n : ℕ). key_of (slot z W n)) q ∙ ap key_of ws ∙ ks)
          ∙ new-j k m (off m i (omega arith)) ∙ home.none_before m (omega arith)

      there : (j : ℕ) → j < slots_of z t → (j ≡ i → ⊥) → used (slot z W j) ≡ true → (m : ℕ) → m < j → holds z W (key_of (slot z W j)) m ≡ false
      there j l ne u m lm = ap (λ (x : List ℕ). holds z W (key_of x) m) o ∙ ⊎_elim (λ q. hit q) (λ q. new-j (key_of (slot z t j)) m q ∙ apart-before z t j m y l ut lm) (eq-or-ne m i)
        where
          o : slot z W j ≡ slot z t j
          o = wo j ne

          ut : used (slot z t j) ≡ true
          ut = ap used (sym o) ∙ u

          hit : m ≡ i → holds z W (key_of (slot z t j)) m ≡ false
          hit q = rw q (new-i (key_of (slot z t j)) ∙ same-no k (key_of (slot z t j)) (λ a. not-both (holds z t k j) (holds-in z t k j ut (sym a)) (home.only y j l ne)))

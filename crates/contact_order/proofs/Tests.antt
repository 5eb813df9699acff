-- Laws of the tests of a slot, by the code's way of making them and by their meaning. Assumes nothing.
use Prim.Native.Nat.{ℕ, ◌+◌, ◌<◌, ◌≤◌, max}
use mathlib.Core.Path.{◌≡◌, sym, ap, ◌∙◌}
use mathlib.Core.Logic.{⊎_elim}
use mathlib.Core.Bool.{Bool, true, false, not}
use mathlib.Core.List.{List}
use native.Mathlib.Nat.{not-suc-le-zero, eq-or-lt_of_le}
use native.Mathlib.Omega.{arith}
use lib.Dec.{eqb}
use borrow.Author.Tests.{lt-ltb, ltb-true, ltb-false, eq-eqb, ne_eqb, eqb-true, not-true}
use Rattle.octets.specs.Octets.{same}
use Rattle.octets.specs.Search.{first, largest}
use Rattle.octets.proofs.Bools.{and_l, and_r, and_i, and-on, and-off, not-both, to-false, either, cond_yes, cond_no}
use Rattle.octets.proofs.Searching.{first-is, first-hit, first-miss, first-lt, largest-le, largest-most, largest-at}
use Rattle.octets.proofs.Strings.{same-eq, same-yes}
use Rattle.place.specs.Place.{bucket_of}
use Rattle.contact_table.proofs.Cuts.{used-mark, mark-used, mark-free}
use Rattle.contacts.specs.Table.{slots_of, slot, mark, used, place}
use Rattle.contact_order.specs.Order.{of_bucket, is_at, is_head, mark_in, held_at, free_at, tail_of, held}

-- ---- used
module _ (s : List ℕ) where
  pub free-yes : (m : ℕ) → m ≡ mark s → m ≡ 0 → not (used s) ≡ true
  free-yes m e z = ap not (mark-free s (sym e ∙ z))

  pub free-no : (m : ℕ) → m ≡ mark s → (m ≡ 0 → ⊥) → not (used s) ≡ false
  free-no m e z = ap not (mark-used s (λ q. z (e ∙ q)))

-- ---- of a bucket
module _ (o : List ℕ) (b : ℕ) (s : List ℕ) where
  pub of-used : of_bucket o b s ≡ true → used s ≡ true
  unfolding of_bucket
  of-used h = and_l (used s) (eqb (bucket_of (place s) o) b) h

  pub of_is : of_bucket o b s ≡ true → bucket_of (place s) o ≡ b
  unfolding of_bucket
  of_is h = eqb-true _ _ (and_r (used s) (eqb (bucket_of (place s) o) b) h)

  pub of-make : used s ≡ true → bucket_of (place s) o ≡ b → of_bucket o b s ≡ true
  unfolding of_bucket
  of-make u e = and_i (used s) (eqb (bucket_of (place s) o) b) u (eq-eqb _ _ e)

  pub of-mark : of_bucket o b s ≡ true → 1 ≤ mark s
  of-mark h = used-mark s (of-used h)

  pub of-free : used s ≡ false → of_bucket o b s ≡ false
  unfolding of_bucket
  of-free u = and-off (used s) _ u

  pub of-far : (bucket_of (place s) o ≡ b → ⊥) → of_bucket o b s ≡ false
  of-far z = to-false (of_bucket o b s) (λ h. z (of_is h))

  pub in-yes : of_bucket o b s ≡ true → mark_in o b s ≡ mark s
  unfolding mark_in
  in-yes h = cond_yes (of_bucket o b s) (mark s) 0 h

  pub in-no : of_bucket o b s ≡ false → mark_in o b s ≡ 0
  unfolding mark_in
  in-no h = cond_no (of_bucket o b s) (mark s) 0 h

  pub in-le : mark_in o b s ≤ mark s
  in-le = ⊎_elim (λ f. omega (arith, in-yes f)) (λ f. omega (arith, in-no f)) (either (of_bucket o b s))

-- ---- the code's ways: m is the mark that was read, r the bucket
module _ (o : List ℕ) (b : ℕ) (s : List ℕ) (m : ℕ) (e : m ≡ mark s) where
  pub head-no : (m ≡ 1 → ⊥) → false ≡ is_head o b s
  unfolding is_head
  head-no z = sym (and-off (eqb (mark s) 1) _ (ne_eqb (mark s) 1 (λ q. z (e ∙ q))))

  pub head-yes : m ≡ 1 → (r : ℕ) → r ≡ bucket_of (place s) o → eqb r b ≡ is_head o b s
  unfolding is_head of_bucket
  head-yes z r g =
      let u : used s ≡ true = mark-used s (λ q. one (sym e ∙ z) q) in
      ap (λ (x : ℕ). eqb x b) g ∙ sym (and-on (eqb (mark s) 1) _ (eq-eqb (mark s) 1 (sym e ∙ z)) ∙ and-on (used s) _ u)
    where
      one : mark s ≡ 1 → mark s ≡ 0 → ⊥
      one p q = omega arith

  module _ (top : ℕ) where
    pub higher-low : m ≤ top → top ≡ max top (mark_in o b s)
    higher-low l = omega (arith, in-le o b s)

    above : top < m → used s ≡ true
    above l = mark-used s (λ q. bad q)
      where
        bad : mark s ≡ 0 → ⊥
        bad q = omega arith

    pub higher-yes : top < m → (r : ℕ) → r ≡ bucket_of (place s) o → r ≡ b → m ≡ max top (mark_in o b s)
    higher-yes l r g q = omega (arith, in-yes o b s (of-make o b s (above l) (sym g ∙ q)))

    pub higher-no : (r : ℕ) → r ≡ bucket_of (place s) o → (r ≡ b → ⊥) → top ≡ max top (mark_in o b s)
    higher-no r g q = omega (arith, in-no o b s (of-far o b s (λ z. q (g ∙ z))))

module _ (p s : List ℕ) where
  pub at-no : (m : ℕ) → m ≡ mark s → m ≡ 0 → false ≡ is_at p s
  unfolding is_at
  at-no m e z = sym (and-off (used s) _ (mark-free s (sym e ∙ z)))

  pub at-yes : (m : ℕ) → m ≡ mark s → (m ≡ 0 → ⊥) → (x : List ℕ) → x ≡ place s → same x p ≡ is_at p s
  unfolding is_at
  at-yes m e z x g = ap (λ (y : List ℕ). same y p) g ∙ sym (and-on (used s) _ (mark-used s (λ q. z (e ∙ q))))

  pub at-used : is_at p s ≡ true → used s ≡ true
  unfolding is_at
  at-used h = and_l (used s) (same (place s) p) h

  pub at_place : is_at p s ≡ true → place s ≡ p
  unfolding is_at
  at_place h = same-eq (place s) p (and_r (used s) (same (place s) p) h)

  pub at-make : used s ≡ true → place s ≡ p → is_at p s ≡ true
  unfolding is_at
  at-make u e = and_i (used s) (same (place s) p) u (same-yes (place s) p e)

-- ---- who is held, and which slot is free
module _ (t p : List ℕ) where
  pub held-lt : held t p ≡ true → held_at t p < slots_of t
  unfolding held
  held-lt h = ltb-true _ _ h

  pub held-ge : held t p ≡ false → slots_of t ≤ held_at t p
  unfolding held
  held-ge h = ltb-false _ _ h

  pub held-is : held_at t p < slots_of t → is_at p (slot t (held_at t p)) ≡ true
  unfolding held_at
  held-is l = (first-is (λ (i : ℕ). is_at p (slot t i)) (slots_of t)).here l

  pub held-not : slots_of t ≤ held_at t p → (j : ℕ) → j < slots_of t → is_at p (slot t j) ≡ false
  unfolding held_at
  held-not l j lj = (first-is (λ (i : ℕ). is_at p (slot t i)) (slots_of t)).before j (omega arith)

  pub held-here : (j : ℕ) → j < slots_of t → is_at p (slot t j) ≡ true → held t p ≡ true
  unfolding held held_at
  held-here j lj h = lt-ltb _ _ (first-lt (λ (i : ℕ). is_at p (slot t i)) (slots_of t) j lj h)

pub free-is : (t : List ℕ) → free_at t < slots_of t → used (slot t (free_at t)) ≡ false
unfolding free_at
free-is t l = not-true _ ((first-is (λ (i : ℕ). not (used (slot t i))) (slots_of t)).here l)

-- nothing below it is free
pub free-lowest : (t : List ℕ) (j : ℕ) → j < free_at t → used (slot t j) ≡ true
unfolding free_at
free-lowest t j l = ⊎_elim (λ e. e) (λ e. absurd (not-both (not (used (slot t j))) (ap not e) ((first-is (λ (i : ℕ). not (used (slot t i))) (slots_of t)).before j l))) (either (used (slot t j)))

pub free-there : (t : List ℕ) (j : ℕ) → j < slots_of t → used (slot t j) ≡ false → free_at t < slots_of t
unfolding free_at
free-there t j l u = first-lt (λ (i : ℕ). not (used (slot t i))) (slots_of t) j l (ap not u)

-- ---- the tail of a bucket
module _ (t o : List ℕ) (b : ℕ) where
  pub tail-ge : (j : ℕ) → j < slots_of t → of_bucket o b (slot t j) ≡ true → mark (slot t j) ≤ tail_of t o b
  unfolding tail_of
  tail-ge j l h = omega (arith, largest-le (λ (i : ℕ). mark_in o b (slot t i)) (slots_of t) j l, in-yes o b (slot t j) h)

  pub tail-le : (x : ℕ) → ((j : ℕ) → j < slots_of t → of_bucket o b (slot t j) ≡ true → mark (slot t j) ≤ x) → tail_of t o b ≤ x
  unfolding tail_of
  tail-le x h = largest-most (λ (i : ℕ). mark_in o b (slot t i)) (slots_of t) x (λ j l. ⊎_elim (λ e. yes j l e) (λ e. no j e) (either (of_bucket o b (slot t j))))
    where
      yes : (j : ℕ) → j < slots_of t → of_bucket o b (slot t j) ≡ true → mark_in o b (slot t j) ≤ x
      yes j l e = omega (arith, in-yes o b (slot t j) e, h j l e)

      no : (j : ℕ) → of_bucket o b (slot t j) ≡ false → mark_in o b (slot t j) ≤ x
      no j e = omega (arith, in-no o b (slot t j) e)

  pub tail_at : 1 ≤ tail_of t o b → (j : ℕ) × (j < slots_of t) × (of_bucket o b (slot t j) ≡ true) × (mark (slot t j) ≡ tail_of t o b)
  unfolding tail_of
  tail_at h =
      let r = largest-at (λ (i : ℕ). mark_in o b (slot t i)) (slots_of t) h in
      ⊎_elim (λ e. (r.0, r.1, e, sym (in-yes o b (slot t r.0) e) ∙ r.2)) (λ e. absurd (no r.0 r.2 e)) (either (of_bucket o b (slot t r.0)))
    where
      no : (j : ℕ) → mark_in o b (slot t j) ≡ largest (slots_of t) (λ (i : ℕ). mark_in o b (slot t i)) → of_bucket o b (slot t j) ≡ false → ⊥
      no j e f = omega (arith, in-no o b (slot t j) f)

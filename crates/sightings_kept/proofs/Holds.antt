-- In form, the mark of a bucket's tail is how many contacts the bucket holds, and a bucket that holds any has a head. Assumes nothing.
use Prim.Native.Nat.{ℕ, zero, suc, ◌+◌, ◌-◌, ◌<◌, ◌≤◌}
use mathlib.Core.Path.{◌≡◌, refl, sym, ap, ap₂, ◌∙◌, subst}
use mathlib.Core.Logic.{⊎_elim}
use mathlib.Core.Bool.{Bool, true, false, not, ◌&&◌, cond}
use mathlib.Core.List.{List}
use native.Mathlib.Nat.{not-suc-le-zero, eq-or-lt_of_le, le_of_suc-le-suc}
use native.Mathlib.Omega.{arith}
use lib.Dec.{ltb, leb, eqb}
use borrow.Author.Tests.{lt-ltb, ltb-true, le-leb, lt-leb, leb-true, leb-false, eq-eqb, ne_eqb, eqb-true}
use Rattle.octets.specs.Search.{count}
use Rattle.octets.proofs.Bools.{and_l, and_r, and_i, and-on, and-off, not-both, to-false, either, eq-or-ne, cond_yes, cond_no}
use Rattle.octets.proofs.Searching.{first-is, first-lt}
use Rattle.octets.proofs.Counting.{bit, bit-on, bit-off, count_none, count-one, count_add, count_same}
use Rattle.place.specs.Place.{bucket_of}
use Rattle.contacts.specs.Table.{slots_of, slot, mark, used}
use Rattle.contacts.specs.Form.{in_form}
use Rattle.contact_form.proofs.FormFacts.{form-elim}
use Rattle.refusal.specs.declared.Refusal.TheVariants.{NoContactSlot}
use Rattle.peer.specs.declared.Peer.{Peer}
use Rattle.sightings.specs.declared.Sighting.TheVariants as seen
use Rattle.sightings.specs.Order.{of_bucket, is_head, held_at, free_at, head_at, tail_of}
use Rattle.sightings.specs.Sightings.{held, newcomer, sighting_of, fits}
use Rattle.sightings_kept.specs.Promises.{holds, StillFits}
use Rattle.contact_order.proofs.Tests.{of-make, of-mark, at-used, at_place, held-is, free-is, free-there, tail-ge, tail_at}
use Rattle.sightings.proofs.Calls.{fits-held, fits_head, fits-bucket, fits-full, fits-new}
use Rattle.sightings_kept.proofs.Ordered.{Ordered, from-form}
use Rattle.std.specs.Prelude.{Ok, Err}

module _ (t o : List ℕ) (F : Ordered t o) (b : ℕ) where
  -- of the bucket, with a mark of at most x; with the mark x
  up_to : ℕ → ℕ → Bool
  up_to x i = of_bucket o b (slot t i) && leb (mark (slot t i)) x

  just : ℕ → ℕ → Bool
  just x i = of_bucket o b (slot t i) && eqb (mark (slot t i)) x

  -- each mark up to the tail's is there
  marks : (d : ℕ) → d < tail_of t o b → (j : ℕ) × (j < slots_of t) × (of_bucket o b (slot t j) ≡ true) × (mark (slot t j) + d ≡ tail_of t o b)
  marks zero h = let r = tail_at t o b h in (r.0, r.1, r.2, omega (arith, r.3))
  marks (suc d) h =
      let r = marks d (omega arith) in
      let g = F.leds b r.0 r.1 r.2 (omega (arith, r.3)) in
      (g.0, g.1, g.2, omega (arith, g.3, r.3))

  just-one : (x : ℕ) → x < tail_of t o b → count (slots_of t) (just (suc x)) ≡ 1
  unfolding just
  just-one x h =
      let r = marks (tail_of t o b - suc x) (omega arith) in
      let m : mark (slot t r.0) ≡ suc x = omega (arith, r.3) in
      count-one (just (suc x)) (slots_of t) r.0 r.1 (and_i (of_bucket o b (slot t r.0)) _ r.2 (eq-eqb _ _ m))
      (λ i l y. F.ties b i r.0 l r.1 (and_l _ _ y) r.2 (eqb-true _ _ (and_r (of_bucket o b (slot t i)) _ y) ∙ sym m))

  step : (x i : ℕ) → bit (up_to (suc x) i) ≡ bit (up_to x i) + bit (just (suc x) i)
  unfolding up_to just
  step x i = ⊎_elim (λ f. on (mark (slot t i)) (of_bucket o b (slot t i)) f) (λ f. off (mark (slot t i)) (of_bucket o b (slot t i)) f) (either (of_bucket o b (slot t i)))
    where
      off : (m : ℕ) (a : Bool) → a ≡ false → bit (a && leb m (suc x)) ≡ bit (a && leb m x) + bit (a && eqb m (suc x))
      off m a f = omega (arith, bit-off (a && leb m (suc x)) (and-off a _ f), bit-off (a && leb m x) (and-off a _ f), bit-off (a && eqb m (suc x)) (and-off a _ f))

      low : (m : ℕ) → m ≤ x → bit (leb m (suc x)) ≡ bit (leb m x) + bit (eqb m (suc x))
      low m l = omega (arith, bit-on _ (le-leb m (suc x) (omega arith)), bit-on _ (le-leb m x l), bit-off _ (ne_eqb m (suc x) (λ e. omega arith)))

      high : (m : ℕ) → x < m → bit (leb m (suc x)) ≡ bit (leb m x) + bit (eqb m (suc x))
      high m l = ⊎_elim (λ e. omega (arith, bit-on _ (le-leb m (suc x) (omega arith)), bit-off _ (lt-leb m x l), bit-on _ (eq-eqb m (suc x) e))) (λ e. omega (arith, bit-off _ (lt-leb m (suc x) (omega arith)), bit-off _ (lt-leb m x l), bit-off _ (ne_eqb m (suc x) e))) (eq-or-ne m (suc x))

      on : (m : ℕ) (a : Bool) → a ≡ true → bit (a && leb m (suc x)) ≡ bit (a && leb m x) + bit (a && eqb m (suc x))
      on m a f = ap bit (and-on a _ f) ∙ ⊎_elim (λ y. low m (leb-true m x y)) (λ y. high m (leb-false m x y)) (either (leb m x)) ∙ sym (ap₂ (λ (u v : Bool). bit u + bit v) (and-on a _ f) (and-on a _ f))

  upto : (x : ℕ) → x ≤ tail_of t o b → count (slots_of t) (up_to x) ≡ x
  unfolding up_to
  upto zero h = count_none (up_to zero) (slots_of t) (λ i l. to-false _ (λ y. none i (of-mark o b (slot t i) (and_l _ _ y)) (leb-true _ 0 (and_r (of_bucket o b (slot t i)) _ y))))
    where
      none : (i : ℕ) → 1 ≤ mark (slot t i) → mark (slot t i) ≤ 0 → ⊥
      none i p q = omega arith
  upto (suc x) h = omega (arith, count_add (up_to (suc x)) (up_to x) (just (suc x)) (slots_of t) (λ i l. step x i), just-one x h, upto x (omega arith))

  pub held-count : holds t o b ≡ tail_of t o b
  unfolding holds up_to
  held-count = count_same (λ (i : ℕ). of_bucket o b (slot t i)) (up_to (tail_of t o b)) (slots_of t) (λ i l. ⊎_elim (λ f. f ∙ sym (and_i (of_bucket o b (slot t i)) _ f (le-leb _ _ (tail-ge t o b i l f)))) (λ f. f ∙ sym (and-off (of_bucket o b (slot t i)) _ f)) (either (of_bucket o b (slot t i)))) ∙ upto (tail_of t o b) (omega arith)

-- ---- the theorems
-- the mark of the tail is the number of contacts
pub tail-is-count : (t o : List ℕ) → in_form t o ≡ true → (b : ℕ) → tail_of t o b ≡ holds t o b
tail-is-count t o y b = sym (held-count t o (from-form t o (form-elim t o y)) b)

-- what a peer not held is answered: 13 where its bucket holds 20, naming the slot of the bucket's head; else it joins, or 14
module _ (t o : List ℕ) (p : Peer) (y : in_form t o ≡ true) (new : held t p.place ≡ false) where
  pub full-refused : 20 ≤ holds t o (bucket_of p.place o) → sighting_of t o p ≡ Ok (seen.Probe (head_at t o (bucket_of p.place o)))
  unfolding sighting_of newcomer
  full-refused h =
      cond_no (held t p.place) _ _ new
      ∙ cond_yes (leb 20 (tail_of t o (bucket_of p.place o))) _ _ (le-leb 20 (tail_of t o (bucket_of p.place o)) (omega (arith, tail-is-count t o y (bucket_of p.place o))))

  module _ (room : holds t o (bucket_of p.place o) < 20) where
    not_full : sighting_of t o p ≡ cond (ltb (free_at t) (slots_of t)) (Ok (seen.Joined (free_at t))) (Err NoContactSlot)
    unfolding sighting_of newcomer
    not_full =
        cond_no (held t p.place) _ _ new
        ∙ cond_no (leb 20 (tail_of t o (bucket_of p.place o))) _ _ (lt-leb 20 (tail_of t o (bucket_of p.place o)) (omega (arith, tail-is-count t o y (bucket_of p.place o))))

    -- some slot is free, or every slot is used
    pub one_left : (j : ℕ) → j < slots_of t → used (slot t j) ≡ false → sighting_of t o p ≡ Ok (seen.Joined (free_at t))
    one_left j l free = not_full ∙ cond_yes (ltb (free_at t) (slots_of t)) _ _ (lt-ltb (free_at t) (slots_of t) (free-there t j l free))

    pub none_left : ((j : ℕ) → j < slots_of t → used (slot t j) ≡ true) → sighting_of t o p ≡ Err NoContactSlot
    none_left every = not_full ∙ cond_no (ltb (free_at t) (slots_of t)) _ _ (to-false (ltb (free_at t) (slots_of t)) (λ f. taken (ltb-true (free_at t) (slots_of t) f)))
      where
        taken : free_at t < slots_of t → ⊥
        taken l = not-both (used (slot t (free_at t))) (every (free_at t) l) (free-is t l)

-- a bucket that holds anybody has a head, and `head_at` is its slot
pub head-there : (t o : List ℕ) → in_form t o ≡ true → (b : ℕ) → 1 ≤ holds t o b → (head_at t o b < slots_of t) × (is_head o b (slot t (head_at t o b)) ≡ true)
unfolding head_at is_head
head-there t o y b h =
    let F = from-form t o (form-elim t o y) in
    let r = marks t o F b (tail_of t o b - 1) (omega (arith, tail-is-count t o y b)) in
    let one : mark (slot t r.0) ≡ 1 = omega (arith, r.3, tail-is-count t o y b) in
    let i : is_head o b (slot t r.0) ≡ true = and_i (eqb (mark (slot t r.0)) 1) _ (eq-eqb _ 1 one) r.2 in
    let l = first-lt (λ (k : ℕ). is_head o b (slot t k)) (slots_of t) r.0 r.1 i in
    (l, (first-is (λ (k : ℕ). is_head o b (slot t k)) (slots_of t)).here l)

-- ---- the test of a settle is what RULES, Places and contacts, says of it
module _ (t o head p : List ℕ) (y : in_form t o ≡ true) where
  pub fits-still : fits t o head p ≡ true → StillFits t o head p
  unfolding held is_head
  fits-still f =
      let l = fits-held t o head p f in
      let a = held-is t head l in
      record {
        head_held = lt-ltb (held_at t head) (slots_of t) l;
        still_head =
            and_i (eqb (mark (slot t (held_at t head))) 1) _ (eq-eqb _ 1 (fits_head t o head p f))
            (of-make o (bucket_of head o) (slot t (held_at t head)) (at-used head _ a) (ap (λ (x : List ℕ). bucket_of x o) (at_place head _ a)));
        full = sym (tail-is-count t o y (bucket_of head o)) ∙ ap (tail_of t o) (sym (fits-bucket t o head p f)) ∙ fits-full t o head p f;
        of_that = fits-bucket t o head p f;
        not_held = fits-new t o head p f;
      }

  pub still-fits : StillFits t o head p → fits t o head p ≡ true
  unfolding fits is_head
  still-fits s =
      and_i (held t head) _ s.head_held
      (and_i (eqb (mark (slot t (held_at t head))) 1) _ (and_l _ (of_bucket o (bucket_of head o) (slot t (held_at t head))) s.still_head)
      (and_i (eqb (bucket_of p o) (bucket_of head o)) _ (eq-eqb _ _ s.of_that)
      (and_i (eqb (tail_of t o (bucket_of head o)) 20) _ (eq-eqb _ 20 (tail-is-count t o y (bucket_of head o) ∙ s.full)) (ap not s.not_held))))

  pub still-fails : (StillFits t o head p → ⊥) → fits t o head p ≡ false
  still-fails n = to-false (fits t o head p) (λ f. n (fits-still f))

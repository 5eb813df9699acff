-- Laws of the test of keys: slot numbers in the order of their keys, each found by halving and put in its place. Assumes nothing.
use mathlib.Core.Path.{◌≡◌, sym, ap, ap₂, ◌∙◌, subst}
use mathlib.Core.Logic.{◌⊎◌, inl, inr, ⊎_elim}
use mathlib.Core.Bool.{Bool, true, false, not, ◌&&◌}
use mathlib.Core.List.{List}
use Prim.Native.Nat.{ℕ, ◌+◌, ◌-◌, ◌<◌, ◌≤◌}
use native.Mathlib.Omega.{arith}
use native.Mathlib.Nat.{eq-or-lt_of_le, not-suc-le-zero}
use lib.Dec.{ltb}
use lib.ListN.{length, get_or}
use borrow.Author.Tests.{lt-ltb, le-ltb, ltb-true, ltb-false}
use Rattle.octets.specs.Octets.{lower}
use Rattle.octets.specs.Search.{all}
use Rattle.octets.proofs.Bools.{and_l, and_r, and_i, not-both, to-false, either}
use Rattle.octets.proofs.Searching.{all-intro, all-fails}
use Rattle.octets.proofs.Strings.{lower-trans, lower-total, lower-irrefl}
use Rattle.limits.specs.Limits.{most_records}
use Rattle.keyed_slots.specs.Slots.{slots_of, slot, used, key_of, holds, apart, alone}
use Rattle.keyed_slots.specs.Inner.{key_in, Rising, Between, stands_at, Inserted, Ordered, Settled}
use Rattle.keyed_slots.proofs.Laying.{is-used, unused, alone-free, slots-most}
use Rattle.keyed_slots.proofs.Finding.{holds-out, holds-in}

-- ---- halving: all before lo are lower than the key, and none from hi on is
pub record Halving (sz : ℕ) (t o : List ℕ) (held : ℕ) (k : List ℕ) (lo hi : ℕ) : Type 0 where
  pub order : lo ≤ hi
  pub within : hi ≤ held
  pub low : (q : ℕ) → q < lo → lower (key_in sz t o q) k ≡ true
  pub high : (q : ℕ) → hi ≤ q → q < held → lower (key_in sz t o q) k ≡ false

pub halving : (sz : ℕ) (t o : List ℕ) (held : ℕ) (k : List ℕ) → Halving sz t o held k 0 held
halving sz t o held k = record { order = omega arith; within = omega arith; low = λ q l. absurd (not-suc-le-zero l); high = λ q g l. absurd (bad g l) }
  where
    bad : {q : ℕ} → held ≤ q → q < held → ⊥
    bad g l = omega arith

module _ (sz : ℕ) (t o : List ℕ) (held : ℕ) (k : List ℕ) (r : Rising sz t o held) (lo hi : ℕ) (h : Halving sz t o held k lo hi) (m : ℕ) (lm : lo ≤ m) (mh : m < hi) where
  pub half-low : lower (key_in sz t o m) k ≡ true → Halving sz t o held k (m + 1) hi
  half-low e = record { order = omega arith; within = h.within; low = λ q l. at q l; high = h.high }
    where
      at : (q : ℕ) → q < m + 1 → lower (key_in sz t o q) k ≡ true
      at q l =
          ⊎_elim (λ z. subst (λ (n : ℕ). lower (key_in sz t o n) k ≡ true) (sym z) e)
          (λ lt. lower-trans (key_in sz t o q) (key_in sz t o m) k (r.rising q m lt (omega (arith, h.within))) e) (eq-or-lt_of_le {n = q} {m = m} (omega arith))

  pub half_high : lower (key_in sz t o m) k ≡ false → Halving sz t o held k lo m
  half_high e = record { order = lm; within = omega (arith, h.within); low = h.low; high = λ q g l. at q g l }
    where
      at : (q : ℕ) → m ≤ q → q < held → lower (key_in sz t o q) k ≡ false
      at q g l =
          ⊎_elim (λ z. subst (λ (n : ℕ). lower (key_in sz t o n) k ≡ false) z e)
          (λ lt. to-false (lower (key_in sz t o q) k) (λ y. not-both (lower (key_in sz t o m) k) (lower-trans (key_in sz t o m) (key_in sz t o q) k (r.rising m q lt l) y) e))
          (eq-or-lt_of_le {n = m} {m = q} g)

pub halved : (sz : ℕ) (t o : List ℕ) (held : ℕ) (k : List ℕ) (lo hi : ℕ) → Halving sz t o held k lo hi → hi ≤ lo → Between sz t o held k lo
halved sz t o held k lo hi h g = record { most = omega (arith, h.order, h.within); low = h.low; high = λ q a l. h.high q (omega arith) l }

-- ---- whether a key stands at its place
module _ (sz : ℕ) (t o : List ℕ) (held p : ℕ) (k : List ℕ) where
  pub stands-past : held ≤ p → false ≡ stands_at sz t o held p k
  unfolding stands_at
  stands-past h = rw (le-ltb p held h)

  pub stands-is : p < held → {b : Bool} → b ≡ holds sz t k (get_or o p 0) → b ≡ stands_at sz t o held p k
  unfolding stands_at
  stands-is h e = e ∙ rw (lt-ltb p held h)

  stands-yes : stands_at sz t o held p k ≡ true → (p < held) × (holds sz t k (get_or o p 0) ≡ true)
  unfolding stands_at
  stands-yes e = (ltb-true p held (and_l (ltb p held) _ e), and_r (ltb p held) _ e)

  stands-no : stands_at sz t o held p k ≡ false → p < held → holds sz t k (get_or o p 0) ≡ false
  unfolding stands_at
  stands-no e h = to-false (holds sz t k (get_or o p 0)) (λ y. not-both (ltb p held && holds sz t k (get_or o p 0)) (and_i (ltb p held) _ (lt-ltb p held h) y) e)

-- ---- moving on: those from m on stand one place later
pub record Moving (o₀ : List ℕ) (held p : ℕ) (o : List ℕ) (m : ℕ) : Type 0 where
  pub least : p ≤ m
  pub most : m ≤ held
  pub size : length o ≡ length o₀
  pub still : (q : ℕ) → q ≤ m → get_or o q 0 ≡ get_or o₀ q 0
  pub moved : (q : ℕ) → m < q → q ≤ held → get_or o q 0 ≡ get_or o₀ (q - 1) 0

-- ---- one slot more
module _ (sz : ℕ) (t o : List ℕ) (held i : ℕ) (g : Ordered sz t o held i) (li : i < slots_of sz t) where
  -- a free slot
  pub settle-free : {s : List ℕ} → s ≡ slot sz t i → get_or s 0 0 < 1 → Settled sz t o i held
  settle-free {s} e h =
      record {
        fit = λ _. (sym (alone-free sz t i e h), record { sorted = g.sorted; size = g.size; few = omega (arith, g.few); each = λ q l. (omega (arith, (g.each q l).0), (g.each q l).1); covers = λ j l u. g.covers j (less j l u) u });
        unfit = λ l. absurd (bad l);
      }
    where
      bad : most_records < held → ⊥
      bad l = omega (arith, g.few, slots-most sz t, li)

      free : used (slot sz t i) ≡ false
      free = subst (λ (x : List ℕ). used x ≡ false) e (unused s h)

      less : (j : ℕ) → j < i + 1 → used (slot sz t j) ≡ true → j < i
      less j l u = ⊎_elim (λ z. absurd (not-both (used (slot sz t i)) (subst (λ (n : ℕ). used (slot sz t n) ≡ true) z u) free)) (λ y. y) (eq-or-lt_of_le {n = j} {m = i} (omega arith))

  module _ {s : List ℕ} (e : s ≡ slot sz t i) (h : 1 ≤ get_or s 0 0) {k : List ℕ} (ek : k ≡ key_of s) (p : ℕ) (w : Between sz t o held k p) where
    key-i : k ≡ key_of (slot sz t i)
    key-i = ek ∙ ap key_of e

    used-i : used (slot sz t i) ≡ true
    used-i = subst (λ (x : List ℕ). used x ≡ true) e (is-used s h)

    -- its key stands in the order already
    pub settle-twice : {c : Bool} → c ≡ stands_at sz t o held p k → c ≡ true → Settled sz t o i 257
    unfolding apart alone
    settle-twice ec y = record { fit = λ l. absurd (bad l); unfit = λ _. no }
      where
        bad : 257 ≤ most_records → ⊥
        bad l = omega arith

        there : (p < held) × (holds sz t k (get_or o p 0) ≡ true)
        there = stands-yes sz t o held p k (sym ec ∙ y)

        hit : apart sz t i (get_or o p 0) ≡ false
        hit = rw (← key-i) (rw there.1)

        no : alone sz t i ≡ false
        no = rw used-i (all-fails (apart sz t i) i (get_or o p 0) (g.each p there.0).0 hit)

    module _ {c : Bool} (ec : c ≡ stands_at sz t o held p k) (y : c ≡ false) where
      -- from p on every key is higher
      over : (q : ℕ) → p ≤ q → q < held → lower k (key_in sz t o q) ≡ true
      over q a l = ⊎_elim (λ x. subst (λ (n : ℕ). lower k (key_in sz t o n) ≡ true) x first) (λ x. lower-trans k (key_in sz t o p) (key_in sz t o q) first (g.sorted.rising p q x l)) (eq-or-lt_of_le {n = p} {m = q} a)
        where
          lp : p < held
          lp = omega arith

          other : lower k (key_in sz t o p) ≡ false → ⊥
          other x =
              let eq : key_in sz t o p ≡ k = lower-total (key_in sz t o p) k (w.high p (omega arith) lp) x in
              not-both (holds sz t k (get_or o p 0)) (holds-in sz t k (get_or o p 0) (g.each p lp).1 eq) (stands-no sz t o held p k (sym ec ∙ y) lp)

          first : lower k (key_in sz t o p) ≡ true
          first = ⊎_elim (λ x. x) (λ x. absurd (other x)) (either (lower k (key_in sz t o p)))

      -- so no slot before i has it
      differs : (q : ℕ) → q < held → key_in sz t o q ≡ k → ⊥
      differs q l x = ⊎_elim (λ a. not-both (lower k k) (subst (λ (n : List ℕ). lower n k ≡ true) x (w.low q (ltb-true q p a))) (lower-irrefl k)) (λ a. not-both (lower k k) (subst (λ (n : List ℕ). lower k n ≡ true) x (over q (ltb-false q p a) l)) (lower-irrefl k)) (either (ltb q p))

      unlike : (j : ℕ) → j < i → holds sz t k j ≡ false
      unlike j l = to-false (holds sz t k j) (λ x. let d = holds-out sz t k j x in let n = g.covers j l d.0 in differs n.0 n.1 (ap (λ (m : ℕ). key_of (slot sz t m)) n.2 ∙ d.1))

      apart-all : all i (apart sz t i) ≡ true
      unfolding apart
      apart-all = all-intro (apart sz t i) i (λ j l. ap not (ap (λ (x : List ℕ). holds sz t x j) (sym key-i) ∙ unlike j l))

      alone-new : alone sz t i ≡ true
      unfolding alone
      alone-new = rw used-i apart-all

      module _ (o' : List ℕ) (n : Inserted o o' held p i) where
        key-at : key_in sz t o' p ≡ k
        key-at = ap (λ (m : ℕ). key_of (slot sz t m)) n.at ∙ sym key-i

        key-low : (q : ℕ) → q < p → key_in sz t o' q ≡ key_in sz t o q
        key-low q l = ap (λ (m : ℕ). key_of (slot sz t m)) (n.before q l)

        key-high : (q : ℕ) → p < q → q ≤ held → key_in sz t o' q ≡ key_in sz t o (q - 1)
        key-high q a l = ap (λ (m : ℕ). key_of (slot sz t m)) (n.after q a l)

        -- where a place of the new order comes from
        from : (q : ℕ) → q < held + 1 → (q < p) ⊎ ((q ≡ p) ⊎ (p < q))
        from q l = ⊎_elim (λ a. inl (ltb-true q p a)) (λ a. inr (⊎_elim (λ x. inl (sym x)) (λ x. inr x) (eq-or-lt_of_le {n = p} {m = q} (ltb-false q p a)))) (either (ltb q p))

        each-new : (q : ℕ) → q < held + 1 → (get_or o' q 0 < i + 1) × (used (slot sz t (get_or o' q 0)) ≡ true)
        each-new q l = by (from q l)
          where
            by : (q < p) ⊎ ((q ≡ p) ⊎ (p < q)) → (get_or o' q 0 < i + 1) × (used (slot sz t (get_or o' q 0)) ≡ true)
            by (inl a) = let d = g.each q (omega (arith, w.most)) in (omega (arith, n.before q a, d.0), ap (λ (m : ℕ). used (slot sz t m)) (n.before q a) ∙ d.1)
            by (inr (inl a)) = subst (λ (m : ℕ). (get_or o' m 0 < i + 1) × (used (slot sz t (get_or o' m 0)) ≡ true)) (sym a) (omega (arith, n.at), ap (λ (m : ℕ). used (slot sz t m)) n.at ∙ used-i)
            by (inr (inr a)) = let d = g.each (q - 1) (omega arith) in (omega (arith, n.after q a (omega arith), d.0), ap (λ (m : ℕ). used (slot sz t m)) (n.after q a (omega arith)) ∙ d.1)

        rise : (q r : ℕ) → q < r → r < held + 1 → lower (key_in sz t o' q) (key_in sz t o' r) ≡ true
        rise q r a l = by (from q (omega arith)) (from r l)
          where
            by : (q < p) ⊎ ((q ≡ p) ⊎ (p < q)) → (r < p) ⊎ ((r ≡ p) ⊎ (p < r)) → lower (key_in sz t o' q) (key_in sz t o' r) ≡ true
            by (inl x) (inl y) = ap₂ lower (key-low q x) (key-low r y) ∙ g.sorted.rising q r a (omega (arith, w.most))
            by (inl x) (inr (inl y)) = ap₂ lower (key-low q x) (ap (key_in sz t o') y ∙ key-at) ∙ w.low q x
            by (inl x) (inr (inr y)) = ap₂ lower (key-low q x) (key-high r y (omega arith)) ∙ g.sorted.rising q (r - 1) (omega arith) (omega arith)
            by (inr (inl x)) (inl y) = absurd (omega arith)
            by (inr (inl x)) (inr (inl y)) = absurd (omega arith)
            by (inr (inl x)) (inr (inr y)) = ap₂ lower (ap (key_in sz t o') x ∙ key-at) (key-high r y (omega arith)) ∙ over (r - 1) (omega arith) (omega arith)
            by (inr (inr x)) (inl y) = absurd (omega arith)
            by (inr (inr x)) (inr (inl y)) = absurd (omega arith)
            by (inr (inr x)) (inr (inr y)) = ap₂ lower (key-high q x (omega arith)) (key-high r y (omega arith)) ∙ g.sorted.rising (q - 1) (r - 1) (omega arith) (omega arith)

        covers_new : (j : ℕ) → j < i + 1 → used (slot sz t j) ≡ true → (q : ℕ) × (q < held + 1) × (get_or o' q 0 ≡ j)
        covers_new j l u = ⊎_elim (λ x. (p, omega (arith, w.most), n.at ∙ sym x)) (λ x. old (g.covers j x u)) (eq-or-lt_of_le {n = j} {m = i} (omega arith))
          where
            old : (q : ℕ) × (q < held) × (get_or o q 0 ≡ j) → (q : ℕ) × (q < held + 1) × (get_or o' q 0 ≡ j)
            old d = ⊎_elim (λ a. (d.0, omega (arith, d.1), n.before d.0 (ltb-true d.0 p a) ∙ d.2)) (λ a. (d.0 + 1, omega (arith, d.1), later (ltb-false d.0 p a))) (either (ltb d.0 p))
              where
                later : p ≤ d.0 → get_or o' (d.0 + 1) 0 ≡ j
                later x =
                    let z : d.0 + 1 - 1 ≡ d.0 = omega arith in
                    n.after (d.0 + 1) (omega arith) (omega (arith, d.1)) ∙ ap (λ (m : ℕ). get_or o m 0) z ∙ d.2

        pub settle-new : Settled sz t o' i (held + 1)
        settle-new =
            record {
              fit = λ _. (alone-new, record { sorted = record { room = omega (arith, n.size, g.size, g.few, li, slots-most sz t); slots = λ q l. omega (arith, (each-new q l).0, li); rising = rise }; size = n.size ∙ g.size; few = omega (arith, g.few); each = each-new; covers = covers_new });
              unfit = λ l. absurd (bad l);
            }
          where
            bad : most_records < held + 1 → ⊥
            bad l = omega (arith, g.few, slots-most sz t, li)

pub ordered : (sz : ℕ) (t o : List ℕ) → length o ≡ most_records → Ordered sz t o 0 0
ordered sz t o e =
    record {
      sorted = record { room = omega arith; slots = λ q l. absurd (not-suc-le-zero l); rising = λ p q a l. absurd (not-suc-le-zero l) };
      size = e;
      few = omega arith;
      each = λ q l. absurd (not-suc-le-zero l);
      covers = λ j l u. absurd (not-suc-le-zero l);
    }

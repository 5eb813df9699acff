-- The candidates stand nearest first, so that no two share a place; one mark set and one candidate more keep that. Assumes nothing.
use Prim.Native.Nat.{ℕ, zero, suc, ◌≤◌, ◌<◌}
use mathlib.Core.Path.{◌≡◌, refl, sym, ap, ◌∙◌, subst}
use mathlib.Core.Logic.{◌⊎◌, ⊎_elim}
use mathlib.Core.Bool.{true, false, ◌&&◌}
use mathlib.Core.List.{List, [], ◌∷◌}
use native.Mathlib.Omega.{arith}
use lib.Dec.{leb}
use lib.ListN.{length}
use borrow.Author.Tests.{le-leb, lt-ltb}
use Rattle.octets.specs.Octets.{Bytes}
use Rattle.octets.proofs.Bools.{cond_ind, and_l, and_r, and_i, all_rest, all-one-more, or_l, or_r, either, not-both, to-false}
use Rattle.octets.proofs.Strings.{same-eq, same-yes}
use Rattle.limits.specs.Limits.{most_id}
use Rattle.place.specs.Place.{distance, nearer_to}
use Rattle.place.proofs.Distance.{nearer-out, nearer-is, nearer-total}
use Rattle.lookup_marks.specs.Marks.{failed}
use Rattle.octets.specs.Search.{any_in}
use Rattle.lookup.specs.Lookup.{well_made, follow, nearest_first, with_mark, mark_at, lies_at, known, enter}
use Rattle.lookup_candidates.specs.declared.Candidate.{Candidate}
use Rattle.lookup_runs.proofs.Sums.{sum_of, sum-nil, sum-cons, one}
use Rattle.lookup_runs.proofs.Members.{In, here, there}

-- how far a candidate is from the target
abbrev pub dist : List ℕ → Candidate → ℕ
dist t c = distance c.place t

-- ---- a place has 32 bytes
pub record Placed (p : List ℕ) : Type 0 where
  pub long : length p ≡ 32
  pub bytes : Bytes p

unfoldable pub AllPlaced : List Candidate → Type 0
AllPlaced [] = Unit {0}
AllPlaced (c ∷ cs) = Placed c.place × AllPlaced cs

pub placed-nil : AllPlaced []
unfolding AllPlaced
placed-nil = tt

pub placed-cons : (c : Candidate) (cs : List Candidate) → Placed c.place → AllPlaced cs → AllPlaced (c ∷ cs)
unfolding AllPlaced
placed-cons c cs p a = (p, a)

pub placed-mark : (i m : ℕ) (cs : List Candidate) → AllPlaced cs → AllPlaced (mark_at i m cs)
unfolding AllPlaced mark_at
placed-mark i m [] a = tt
placed-mark zero m (c ∷ cs) a = a
placed-mark (suc i) m (c ∷ cs) a = (a.0, placed-mark i m cs a.1)

pub placed-enter : (t : List ℕ) (c : Candidate) (cs : List Candidate) → Placed c.place → AllPlaced cs → AllPlaced (enter t c cs)
unfolding AllPlaced enter
placed-enter t c [] p a = (p, tt)
placed-enter t c (d ∷ cs) p a =
    cond_ind AllPlaced (nearer_to t d.place c.place) (d ∷ enter t c cs) (c ∷ d ∷ cs) (λ e. (a.0, placed-enter t c cs p a.1)) (λ e. (p, a))

-- ---- form, taken apart and put together
module _ (t : List ℕ) (d c : Candidate) (cs : List Candidate) where
  follow-made : follow t d (c ∷ cs) ≡ true → well_made c ≡ true
  unfolding follow
  follow-made h = and_l (well_made c) _ (and_l (well_made c && nearer_to t d.place c.place) _ h)

  follow-near : follow t d (c ∷ cs) ≡ true → nearer_to t d.place c.place ≡ true
  unfolding follow
  follow-near h = and_r (well_made c) _ (and_l (well_made c && nearer_to t d.place c.place) _ h)

  follow-rest : follow t d (c ∷ cs) ≡ true → follow t c cs ≡ true
  unfolding follow
  follow-rest h = and_r (well_made c && nearer_to t d.place c.place) _ h

  pub follow-in : well_made c ≡ true → nearer_to t d.place c.place ≡ true → follow t c cs ≡ true → follow t d (c ∷ cs) ≡ true
  unfolding follow
  follow-in a b r = and_i (well_made c && nearer_to t d.place c.place) (follow t c cs) (and_i (well_made c) _ a b) r

pub follow-nil : (t : List ℕ) (d : Candidate) → follow t d [] ≡ true
unfolding follow
follow-nil t d = refl

module _ (t : List ℕ) (c : Candidate) (cs : List Candidate) where
  first_made : nearest_first t (c ∷ cs) ≡ true → well_made c ≡ true
  unfolding nearest_first
  first_made h = and_l (well_made c) (follow t c cs) h

  first_rest : nearest_first t (c ∷ cs) ≡ true → follow t c cs ≡ true
  unfolding nearest_first
  first_rest h = and_r (well_made c) (follow t c cs) h

  pub first-in : well_made c ≡ true → follow t c cs ≡ true → nearest_first t (c ∷ cs) ≡ true
  unfolding nearest_first
  first-in a b = and_i (well_made c) (follow t c cs) a b

pub first-nil : (t : List ℕ) → nearest_first t [] ≡ true
unfolding nearest_first
first-nil t = refl

follow-first : (t : List ℕ) (d : Candidate) (cs : List Candidate) → follow t d cs ≡ true → nearest_first t cs ≡ true
follow-first t d [] h = first-nil t
follow-first t d (c ∷ cs) h = first-in t c cs (follow-made t d c cs h) (follow-rest t d c cs h)

-- ---- no two share a place
unfoldable pub Beyond : List ℕ → ℕ → List Candidate → Type 0
Beyond t x [] = Unit {0}
Beyond t x (c ∷ cs) = (x < dist t c) × Beyond t x cs

beyond : (t : List ℕ) (x : ℕ) (d : Candidate) (cs : List Candidate) → x ≤ dist t d → follow t d cs ≡ true → Beyond t x cs
unfolding Beyond
beyond t x d [] h f = tt
beyond t x d (c ∷ cs) h f =
    let n : dist t d < dist t c = nearer-out t d.place c.place (follow-near t d c cs f) in
    (omega arith, beyond t x c cs (omega arith) (follow-rest t d c cs f))

-- each is nearer than all after it
unfoldable pub Rising : List ℕ → List Candidate → Type 0
Rising t [] = Unit {0}
Rising t (c ∷ cs) = Beyond t (dist t c) cs × Rising t cs

pub rising : (t : List ℕ) (cs : List Candidate) → nearest_first t cs ≡ true → Rising t cs
unfolding Rising
rising t [] h = tt
rising t (c ∷ cs) h = (beyond t (dist t c) c cs (omega arith) (first_rest t c cs h), rising t cs (follow-first t c cs (first_rest t c cs h)))

-- and each is well made
pub all_made : (t : List ℕ) {c : Candidate} {cs : List Candidate} → nearest_first t cs ≡ true → In c cs → well_made c ≡ true
all_made t {c} h (here {l}) = first_made t c l h
all_made t h (there {y} {l} m) = all_made t (follow-first t y l (first_rest t y l h)) m

one-no : (p : List ℕ) (c : Candidate) → (c.place ≡ p → ⊥) → one p c ≡ 0
one-no p c h = cond_ind (λ (n : ℕ). n ≡ 0) (lies_at p c) 1 0 (λ e. absurd (h (same-eq c.place p e))) (λ e. refl)

one-le : (p : List ℕ) (c : Candidate) → one p c ≤ 1
one-le p c = cond_ind (λ (n : ℕ). n ≤ 1) (lies_at p c) 1 0 (λ e. omega arith) (λ e. omega arith)

none-beyond : (t p : List ℕ) (cs : List Candidate) → Beyond t (distance p t) cs → sum_of (one p) cs ≡ 0
unfolding Beyond
none-beyond t p [] b = sum-nil (one p)
none-beyond t p (c ∷ cs) b =
    let z : one p c ≡ 0 = one-no p c (λ e. bad (ap (λ (x : List ℕ). distance x t) e)) in
    omega (arith, sum-cons (one p) c cs, z, none-beyond t p cs b.1)
  where
    bad : dist t c ≡ distance p t → ⊥
    bad e = omega (arith, b.0)

pub apart : (t p : List ℕ) (cs : List Candidate) → nearest_first t cs ≡ true → sum_of (one p) cs ≤ 1
apart t p [] h = omega (arith, sum-nil (one p))
apart t p (c ∷ cs) h = ⊎_elim here (away (λ f. apart t p cs f)) (either (lies_at p c))
  where
    rest : follow t c cs ≡ true
    rest = first_rest t c cs h

    here : lies_at p c ≡ true → sum_of (one p) (c ∷ cs) ≤ 1
    here e =
        let b : Beyond t (distance p t) cs = subst (λ (x : List ℕ). Beyond t (distance x t) cs) (same-eq c.place p e) (beyond t (dist t c) c cs (omega arith) rest) in
        omega (arith, sum-cons (one p) c cs, one-le p c, none-beyond t p cs b)

    away : (nearest_first t cs ≡ true → sum_of (one p) cs ≤ 1) → lies_at p c ≡ false → sum_of (one p) (c ∷ cs) ≤ 1
    away ih e =
        let z : one p c ≡ 0 = one-no p c (λ q. not-both (lies_at p c) (same-yes c.place p q) e) in
        omega (arith, sum-cons (one p) c cs, z, ih (follow-first t c cs rest))

-- ---- one mark set
made-mark : (m : ℕ) (c : Candidate) → m ≤ failed → well_made c ≡ true → well_made (with_mark m c) ≡ true
unfolding well_made
made-mark m c h w =
    all-one-more (leb m failed) (leb 1 c.len ∷ leb c.len most_id ∷ []) (le-leb m failed h) (all_rest (leb c.mark failed) (leb 1 c.len ∷ leb c.len most_id ∷ []) w)

follow-marked : (t : List ℕ) (m : ℕ) (c : Candidate) (cs : List Candidate) → follow t c cs ≡ true → follow t (with_mark m c) cs ≡ true
unfolding follow
follow-marked t m c [] h = refl
follow-marked t m c (e ∷ cs) h = h

follow-mark : (t : List ℕ) (i m : ℕ) (d : Candidate) (cs : List Candidate) → m ≤ failed → follow t d cs ≡ true → follow t d (mark_at i m cs) ≡ true
unfolding mark_at
follow-mark t i m d [] h f = f
follow-mark t zero m d (c ∷ cs) h f =
    follow-in t d (with_mark m c) cs (made-mark m c h (follow-made t d c cs f)) (follow-near t d c cs f) (follow-marked t m c cs (follow-rest t d c cs f))
follow-mark t (suc i) m d (c ∷ cs) h f =
    follow-in t d c (mark_at i m cs) (follow-made t d c cs f) (follow-near t d c cs f) (follow-mark t i m c cs h (follow-rest t d c cs f))

pub order-mark : (t : List ℕ) (i m : ℕ) (cs : List Candidate) → m ≤ failed → nearest_first t cs ≡ true → nearest_first t (mark_at i m cs) ≡ true
unfolding mark_at
order-mark t i m [] h f = f
order-mark t zero m (c ∷ cs) h f = first-in t (with_mark m c) cs (made-mark m c h (first_made t c cs f)) (follow-marked t m c cs (first_rest t c cs f))
order-mark t (suc i) m (c ∷ cs) h f = first-in t c (mark_at i m cs) (first_made t c cs f) (follow-mark t i m c cs h (first_rest t c cs f))

-- ---- one candidate more
module _ (t : List ℕ) (lt : length t ≡ 32) where
  pub near : (a b : Candidate) → Placed a.place → Placed b.place → dist t a < dist t b → nearer_to t a.place b.place ≡ true
  near a b pa pb h = nearer-is t a.place b.place lt pa.long pb.long ∙ lt-ltb (dist t a) (dist t b) h

  -- where d isn't nearer than c and lies elsewhere, c is nearer
  other : (c d : Candidate) → Placed c.place → Placed d.place → nearer_to t d.place c.place ≡ false → lies_at c.place d ≡ false → dist t c < dist t d
  other c d pc pd n k =
      ⊎_elim (λ h. h) (λ h. absurd (not-both (nearer_to t d.place c.place) (near d c pd pc h) n))
      (nearer-total c.place d.place t (pc.long ∙ sym pd.long) pc.bytes pd.bytes (λ e. not-both (lies_at c.place d) (same-yes d.place c.place (sym e)) k))

  module _ (c : Candidate) (made : well_made c ≡ true) (pc : Placed c.place) where
    unknown : (d : Candidate) (cs : List Candidate) → known c.place (d ∷ cs) ≡ false → (lies_at c.place d ≡ false) × (known c.place cs ≡ false)
    unfolding any_in
    unknown d cs k = (
      to-false (lies_at c.place d) (λ e. not-both _ (or_l (lies_at c.place d) (known c.place cs) e) k),
      to-false (known c.place cs) (λ e. not-both _ (or_r (lies_at c.place d) (known c.place cs) e) k),
    )

    follow-enter : (d : Candidate) (cs : List Candidate) → nearer_to t d.place c.place ≡ true → AllPlaced cs → known c.place cs ≡ false
        → follow t d cs ≡ true → follow t d (enter t c cs) ≡ true
    unfolding enter AllPlaced
    follow-enter d [] n a k f = follow-in t d c [] made n (follow-nil t c)
    follow-enter d (e ∷ cs) n a k f =
        cond_ind (λ (l : List Candidate). follow t d l ≡ true) (nearer_to t e.place c.place) (e ∷ enter t c cs) (c ∷ e ∷ cs)
        (λ q. follow-in t d e (enter t c cs) (follow-made t d e cs f) (follow-near t d e cs f) (follow-enter e cs q a.1 (unknown e cs k).1 (follow-rest t d e cs f)))
        (λ q. follow-in t d c (e ∷ cs) made n
        (follow-in t c e cs (follow-made t d e cs f) (near c e pc a.0 (other c e pc a.0 q (unknown e cs k).0)) (follow-rest t d e cs f)))

    pub order-enter : (cs : List Candidate) → AllPlaced cs → known c.place cs ≡ false → nearest_first t cs ≡ true → nearest_first t (enter t c cs) ≡ true
    unfolding enter AllPlaced
    order-enter [] a k f = first-in t c [] made (follow-nil t c)
    order-enter (e ∷ cs) a k f =
        cond_ind (λ (l : List Candidate). nearest_first t l ≡ true) (nearer_to t e.place c.place) (e ∷ enter t c cs) (c ∷ e ∷ cs)
        (λ q. first-in t e (enter t c cs) (first_made t e cs f) (follow-enter e cs q a.1 (unknown e cs k).1 (first_rest t e cs f)))
        (λ q. first-in t c (e ∷ cs) made
        (follow-in t c e cs (first_made t e cs f) (near c e pc a.0 (other c e pc a.0 q (unknown e cs k).0)) (first_rest t e cs f)))

-- Laws of Bool and of `cond`. Assumes nothing.
use Prim.Native.Nat.{ℕ}
use mathlib.Core.Path.{◌≡◌, refl, sym, ap, subst, ◌∙◌}
use mathlib.Core.Logic.{◌⊎◌, inl, inr, ⊎_elim}
use mathlib.Core.Bool.{Bool, true, false, cond, not, ◌&&◌, ◌||◌}
use mathlib.Core.List.{List, [], ◌∷◌}
use lib.Dec.{T, eqb}
use borrow.Author.Tests.{eqb-true, eqb-false, not-true, not-false}
use Rattle.octets.specs.Search.{all_of}

-- ---- one value
pub either : (b : Bool) → (b ≡ true) ⊎ (b ≡ false)
either true = inl refl
either false = inr refl

pub not-both : (b : Bool) → b ≡ true → b ≡ false → ⊥
not-both true p q = subst T q tt
not-both false p q = subst T (sym p) tt

pub to-false : (b : Bool) → (b ≡ true → ⊥) → b ≡ false
to-false true h = absurd (h refl)
to-false false h = refl

pub to-true : (b : Bool) → (b ≡ false → ⊥) → b ≡ true
to-true true h = refl
to-true false h = absurd (h refl)

pub same_way : (a b : Bool) → (a ≡ true → b ≡ true) → (b ≡ true → a ≡ true) → a ≡ b
same_way true b f g = sym (f refl)
same_way false b f g = sym (to-false b (λ h. not-both false (g h) refl))

pub eq-or-ne : (m n : ℕ) → (m ≡ n) ⊎ (m ≡ n → ⊥)
eq-or-ne m n = ⊎_elim (λ e. inl (eqb-true m n e)) (λ e. inr (eqb-false m n e)) (either (eqb m n))

-- ---- and
pub and_l : (a b : Bool) → (a && b) ≡ true → a ≡ true
and_l true b e = refl
and_l false b e = e

pub and_r : (a b : Bool) → (a && b) ≡ true → b ≡ true
and_r true b e = e
and_r false b e = absurd (subst T (sym e) tt)

pub and_i : (a b : Bool) → a ≡ true → b ≡ true → (a && b) ≡ true
and_i true b p q = q
and_i false b p q = p

pub and-on : (a b : Bool) → a ≡ true → (a && b) ≡ b
and-on true b e = refl
and-on false b e = absurd (subst T (sym e) tt)

pub and-off : (a b : Bool) → a ≡ false → (a && b) ≡ false
and-off true b e = absurd (not-both true refl e)
and-off false b e = refl

pub and-fails : (a b : Bool) → b ≡ false → (a && b) ≡ false
and-fails true b e = e
and-fails false b e = refl

pub and_assoc : (a b c : Bool) → (a && (b && c)) ≡ ((a && b) && c)
and_assoc true b c = refl
and_assoc false b c = refl

pub and-swap : (a b c : Bool) → (a && (b && c)) ≡ (b && (a && c))
and-swap true b c = refl
and-swap false b c = sym (and-fails b false refl)

-- ---- or
pub or-e : (a b : Bool) → (a || b) ≡ true → (a ≡ true) ⊎ (b ≡ true)
or-e true b e = inl refl
or-e false b e = inr e

pub or_l : (a b : Bool) → a ≡ true → (a || b) ≡ true
or_l true b e = refl
or_l false b e = absurd (subst T (sym e) tt)

pub or_r : (a b : Bool) → b ≡ true → (a || b) ≡ true
or_r true b e = refl
or_r false b e = e

pub or_off : (a b : Bool) → a ≡ false → (a || b) ≡ b
or_off true b e = absurd (not-both true refl e)
or_off false b e = refl

pub or-fails : (a b : Bool) → a ≡ false → b ≡ false → (a || b) ≡ false
or-fails true b p q = p
or-fails false b p q = q

pub or-skip : (a b : Bool) → (a ≡ false → b ≡ true) → (a || b) ≡ true
or-skip true b h = refl
or-skip false b h = h refl

-- ---- not
pub not_yes : (b : Bool) → b ≡ true → not b ≡ false
not_yes b e = ap not e

pub not-no : (b : Bool) → b ≡ false → not b ≡ true
not-no b e = ap not e

-- ---- two facts of which the first was computed
pub both-no : (b a x : Bool) → b ≡ a → not b ≡ true → false ≡ (a && x)
both-no b a x e h = sym (and-off a x (sym e ∙ not-true b h))

pub both_yes : (b a x r : Bool) → b ≡ a → not b ≡ false → r ≡ x → r ≡ (a && x)
both_yes b a x r e h q = q ∙ sym (and-on a x (sym e ∙ not-false b h))

-- ---- cond
module _ {A : Type 0} where
  pub cond_yes : (b : Bool) (x y : A) → b ≡ true → cond b x y ≡ x
  cond_yes b x y e = rw e

  pub cond_no : (b : Bool) (x y : A) → b ≡ false → cond b x y ≡ y
  cond_no b x y e = rw e

  -- the case law: what holds of x where b is true and of y where it is false holds of `cond b x y`
  pub cond_ind : (P : A → Type 0) (b : Bool) (x y : A) → (b ≡ true → P x) → (b ≡ false → P y) → P (cond b x y)
  cond_ind P true x y f g = f refl
  cond_ind P false x y f g = g refl

pub cond-ap : {A B : Type 0} (f : A → B) (b : Bool) (x y : A) → f (cond b x y) ≡ cond b (f x) (f y)
cond-ap f true x y = refl
cond-ap f false x y = refl

-- ---- a list of tests
pub all_head : (b : Bool) (bs : List Bool) → all_of (b ∷ bs) ≡ true → b ≡ true
unfolding all_of
all_head b bs h = and_l b (all_of bs) h

pub all_rest : (b : Bool) (bs : List Bool) → all_of (b ∷ bs) ≡ true → all_of bs ≡ true
unfolding all_of
all_rest b bs h = and_r b (all_of bs) h

pub all_none : all_of [] ≡ true
unfolding all_of
all_none = refl

pub all-one-more : (b : Bool) (bs : List Bool) → b ≡ true → all_of bs ≡ true → all_of (b ∷ bs) ≡ true
unfolding all_of
all-one-more b bs p q = and_i b (all_of bs) p q

pub all-off : (b : Bool) (bs : List Bool) → b ≡ false → all_of (b ∷ bs) ≡ false
unfolding all_of
all-off b bs e = and-off b (all_of bs) e

pub all-on : (b : Bool) (bs : List Bool) → b ≡ true → all_of (b ∷ bs) ≡ all_of bs
unfolding all_of
all-on b bs e = and-on b (all_of bs) e

pub all-last : (b : Bool) → all_of (b ∷ []) ≡ b
unfolding all_of
all-last true = refl
all-last false = refl

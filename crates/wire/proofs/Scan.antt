-- Loops over the fields of a string: a result of all fields, as what is left of it from a position on. Assumes nothing.
use Prim.Native.Nat.{ℕ, zero, suc, ◌+◌, ◌-◌, ◌≤◌, ◌<◌}
use mathlib.Core.Path.{◌≡◌, refl, sym, ap, subst, ◌∙◌}
use mathlib.Core.List.{List, [], ◌∷◌}
use mathlib.Core.Bool.{Bool, true, false, cond, ◌&&◌}
use native.Mathlib.Omega.{arith}
use lib.ListN.{length}
use lib.Dec.{eqb}
use Rattle.octets.specs.Search.{every, last_of}
use Rattle.wire.specs.Wire.{field_at, next_of, more, fields_from, fields_at, fine, well, numbers, span_if, spans, first_of, walk}
use Rattle.wire.specs.declared.Span.{Span}
use Rattle.wire.specs.declared.Field.{Field}
use Rattle.wire.specs.declared.Field.TheVariants.{End, Bad as Malformed, Number, Bytes, Other}
use Rattle.wire.specs.declared.Next.{Next}
use Rattle.wire.specs.declared.Next.TheVariants.{Done, Broken, On}
use Rattle.wire.proofs.Reach.{field_next, Inside, AllInside, spans-inside}
use Rattle.std.specs.Prelude.{Some, None, Option}

pub fields-done : (k : ℕ) (s : List ℕ) (at : ℕ) → next_of (field_at s at) ≡ Done → fields_from (suc k) s at ≡ []
unfolding fields_from more
fields-done k s at e = rw e

pub fields-broken : (k : ℕ) (s : List ℕ) (at : ℕ) → next_of (field_at s at) ≡ Broken → fields_from (suc k) s at ≡ Malformed ∷ []
unfolding fields_from more
fields-broken k s at e = rw e

pub fields-on : (k : ℕ) (s : List ℕ) (at n : ℕ) → next_of (field_at s at) ≡ On n → fields_from (suc k) s at ≡ field_at s at ∷ fields_from k s n
unfolding fields_from more
fields-on k s at n e = rw e

-- however much fuel there is beyond the string's length, the fields are the same
pub fuel-free : (s : List ℕ) (k j at : ℕ) → length s ≤ at + k → length s ≤ at + j → fields_from (suc k) s at ≡ fields_from (suc j) s at
fuel-free s zero j at h l = base (next_of (field_at s at)) refl
  where
    base : (m : Next) → next_of (field_at s at) ≡ m → fields_from 1 s at ≡ fields_from (suc j) s at
    base Done e = fields-done 0 s at e ∙ sym (fields-done j s at e)
    base Broken e = fields-broken 0 s at e ∙ sym (fields-broken j s at e)
    base (On n) e = let b = field_next s at n e in absurd (omega arith)
fuel-free s (suc k) j at h l = go j (next_of (field_at s at)) refl l (λ j' n. fuel-free s k j' n)
  where
    go : (j : ℕ) (m : Next) → next_of (field_at s at) ≡ m → length s ≤ at + j
        → ((j' n : ℕ) → length s ≤ n + k → length s ≤ n + j' → fields_from (suc k) s n ≡ fields_from (suc j') s n)
        → fields_from (suc (suc k)) s at ≡ fields_from (suc j) s at
    go j Done e l ih = fields-done (suc k) s at e ∙ sym (fields-done j s at e)
    go j Broken e l ih = fields-broken (suc k) s at e ∙ sym (fields-broken j s at e)
    go zero (On n) e l ih = let b = field_next s at n e in absurd (omega arith)
    go (suc j) (On n) e l ih =
        let b = field_next s at n e in
        fields-on (suc k) s at n e ∙ rw (ih j n (omega arith) (omega arith)) (sym (fields-on (suc j) s at n e))

-- ---- the fields from a position on, one by one
module _ (s : List ℕ) (at : ℕ) where
  pub at_done : next_of (field_at s at) ≡ Done → fields_at s at ≡ []
  unfolding fields_at
  at_done e = fields-done (length s) s at e

  pub at-broken : next_of (field_at s at) ≡ Broken → fields_at s at ≡ Malformed ∷ []
  unfolding fields_at
  at-broken e = fields-broken (length s) s at e

  pub at_on : (n : ℕ) → next_of (field_at s at) ≡ On n → fields_at s at ≡ field_at s at ∷ fields_at s n
  unfolding fields_at
  at_on n e = go (length s) refl
    where
      go : (k : ℕ) → length s ≡ k → fields_from (suc k) s at ≡ field_at s at ∷ fields_from (suc k) s n
      go zero q = let b = field_next s at n e in absurd (omega arith)
      go (suc k) q =
          let b = field_next s at n e in
          fields-on (suc k) s at n e ∙ rw (fuel-free s k (suc k) n (omega arith) (omega arith))

  pub nearer : (n : ℕ) → next_of (field_at s at) ≡ On n → length s - n < length s - at
  nearer n e = let b = field_next s at n e in omega arith

-- what the calls of a turn say, joined
pub next-is : {f g : Field} {q n : Next} → f ≡ g → q ≡ next_of f → q ≡ n → next_of g ≡ n
next-is a b e = cc

pub found-is : {f g : Field} {q n : (Option Span)} (m : ℕ) → f ≡ g → q ≡ span_if m f → q ≡ n → span_if m g ≡ n
found-is m a b e = cc

-- ---- well formed
pub fine-next : (f : Field) (n : ℕ) → next_of f ≡ On n → fine f ≡ true
unfolding next_of
fine-next End n e = refl
fine-next Malformed n e = absurd (let z : ◌≡◌ {A = ℕ} 0 1 = cc in omega arith)
fine-next (Number f v m) n e = refl
fine-next (Bytes f p) n e = refl
fine-next (Other m) n e = refl

module _ (s : List ℕ) (from at : ℕ) (g : well (fields_at s at) ≡ well (fields_at s from)) where
  pub well-done : next_of (field_at s at) ≡ Done → true ≡ well (fields_at s from)
  unfolding well every
  well-done e = rw (← g, at_done s at e)

  pub well-broken : next_of (field_at s at) ≡ Broken → false ≡ well (fields_at s from)
  unfolding well every
  well-broken e = rw (← g, at-broken s at e)

  pub well-on : (n : ℕ) → next_of (field_at s at) ≡ On n → well (fields_at s n) ≡ well (fields_at s from)
  unfolding well every
  well-on n e = sym (ap (λ (b : Bool). b && well (fields_at s n)) (fine-next (field_at s at) n e)) ∙ rw (← g, at_on s at n e)

-- ---- the first bytes field of a number
module _ (s : List ℕ) (f from at : ℕ) (g : first_of (spans f (fields_at s at)) ≡ first_of (spans f (fields_at s from))) where
  pub none_done : next_of (field_at s at) ≡ Done → None ≡ first_of (spans f (fields_at s from))
  unfolding first_of spans
  none_done e = rw (← g, at_done s at e)

  pub none-broken : next_of (field_at s at) ≡ Broken → None ≡ first_of (spans f (fields_at s from))
  unfolding first_of spans span_if
  none-broken e = rw (← g, at-broken s at e)

  pub found : (n : ℕ) → next_of (field_at s at) ≡ On n → (p : Span) → span_if f (field_at s at) ≡ Some p → Some p ≡ first_of (spans f (fields_at s from))
  unfolding first_of spans
  found n e p q = rw (← g, at_on s at n e, q)

  pub further : (n : ℕ) → next_of (field_at s at) ≡ On n → span_if f (field_at s at) ≡ None → first_of (spans f (fields_at s n)) ≡ first_of (spans f (fields_at s from))
  unfolding first_of spans
  further n e q = sym (rw (at_on s at n e, q)) ∙ g

-- ---- the walk: from 0, and then from each end, these are all bytes fields of the number
never : {A : Type 0} (p : Span) → None ≡ Some p → A
never p q = absurd (let z : ◌≡◌ {A = ℕ} 0 1 = cc in omega arith)

span-next : (g : Field) (f : ℕ) (p : Span) → span_if f g ≡ Some p → next_of g ≡ On p.end
unfolding span_if next_of
span-next (Bytes g q) f p e = go (eqb g f) e
  where
    go : (t : Bool) → cond t (Some q) None ≡ Some p → On q.end ≡ On p.end
    go true e = let h : q ≡ p = cc in rw h
    go false e = never p e
span-next (Number g v n) f p e = never p e
span-next (Other n) f p e = never p e
span-next End f p e = never p e
span-next Malformed f p e = never p e

module _ (s : List ℕ) (f : ℕ) where
  first-at : (k at : ℕ) → length s ≤ at + k → (p : Span) → first_of (spans f (fields_at s at)) ≡ Some p → spans f (fields_at s at) ≡ p ∷ spans f (fields_at s p.end)
  unfolding first_of spans span_if
  first-at zero at l p q = base (next_of (field_at s at)) refl
    where
      base : (m : Next) → next_of (field_at s at) ≡ m → spans f (fields_at s at) ≡ p ∷ spans f (fields_at s p.end)
      base Done e = never p (rw (at_done s at e) at q)
      base Broken e = never p (rw (at-broken s at e) at q)
      base (On n) e = let b = field_next s at n e in absurd (omega arith)
  first-at (suc k) at l p q = go (next_of (field_at s at)) refl (span_if f (field_at s at)) refl (first-at k)
    where
      go : (m : Next) → next_of (field_at s at) ≡ m → (x : Option Span) → span_if f (field_at s at) ≡ x
          → ((at : ℕ) → length s ≤ at + k → (p : Span) → first_of (spans f (fields_at s at)) ≡ Some p → spans f (fields_at s at) ≡ p ∷ spans f (fields_at s p.end))
          → spans f (fields_at s at) ≡ p ∷ spans f (fields_at s p.end)
      go Done e x y ih = never p (rw (at_done s at e) at q)
      go Broken e x y ih = never p (rw (at-broken s at e) at q)
      go (On n) e (Some u) y ih =
          let r : Some u ≡ Some p = rw (at_on s at n e, y) at q in
          let z : On n ≡ On u.end = sym e ∙ span-next (field_at s at) f u y in
          let nu : n ≡ u.end = cc in
          let up : u ≡ p = cc in
          rw (at_on s at n e, y, nu, up)
      go (On n) e None y ih =
          let b = field_next s at n e in
          rw (at_on s at n e, y) (ih n (omega arith) p (rw (at_on s at n e, y) at q))

  pub walk_at : (at : ℕ) (p : Span) → first_of (spans f (fields_at s at)) ≡ Some p → spans f (fields_at s at) ≡ p ∷ spans f (fields_at s p.end)
  walk_at at p q = first-at (length s) at (omega arith) p q

  pub walk_none : (at : ℕ) → first_of (spans f (fields_at s at)) ≡ None → spans f (fields_at s at) ≡ []
  unfolding first_of
  walk_none at q = go (spans f (fields_at s at)) q
    where
      go : (l : List Span) → first_of l ≡ None → l ≡ []
      go [] e = refl
      go (p ∷ l) e = never p (sym e)

  pub walk_inside : (at : ℕ) (p : Span) → first_of (spans f (fields_at s at)) ≡ Some p → Inside at (length s) p
  walk_inside at p q = (subst (AllInside at (length s)) (walk_at at p q) (spans-inside f s at)).0

  -- the last one, as a loop over the walk finds it
  module _ (from at : ℕ) (other last : Span) (g : last_of last (spans f (fields_at s at)) ≡ last_of other (spans f (fields_at s from))) where
    pub last_on : (p : Span) → first_of (spans f (fields_at s at)) ≡ Some p → last_of p (spans f (fields_at s p.end)) ≡ last_of other (spans f (fields_at s from))
    unfolding last_of
    last_on p q = rw (walk_at at p q) at g

    pub last_done : first_of (spans f (fields_at s at)) ≡ None → last ≡ last_of other (spans f (fields_at s from))
    unfolding last_of
    last_done q = rw (walk_none at q) at g

  pub last_less : (at : ℕ) (p : Span) → first_of (spans f (fields_at s at)) ≡ Some p → length s - p.end < length s - at
  last_less at p q = let i = walk_inside at p q in omega (arith, i.starts, i.ordered, i.ends)

-- ---- the last number field of a number
last-two : (f : ℕ) (g : Field) (fs : List Field) (d : ℕ) → last_of d (numbers f (g ∷ fs)) ≡ last_of (last_of d (numbers f (g ∷ []))) (numbers f fs)
unfolding last_of numbers
last-two f (Number g v n) fs d = go (eqb g f)
  where
    go : (t : Bool) → last_of d (cond t (v ∷ numbers f fs) (numbers f fs)) ≡ last_of (last_of d (cond t (v ∷ []) [])) (numbers f fs)
    go true = refl
    go false = refl
last-two f (Bytes g p) fs d = refl
last-two f (Other n) fs d = refl
last-two f End fs d = refl
last-two f Malformed fs d = refl

module _ (s : List ℕ) (f from at last : ℕ) (g : last_of last (numbers f (fields_at s at)) ≡ last_of 0 (numbers f (fields_at s from))) where
  pub number-done : next_of (field_at s at) ≡ Done → last ≡ last_of 0 (numbers f (fields_at s from))
  unfolding last_of numbers
  number-done e = rw (← g, at_done s at e)

  pub number-broken : next_of (field_at s at) ≡ Broken → last ≡ last_of 0 (numbers f (fields_at s from))
  unfolding last_of numbers
  number-broken e = rw (← g, at-broken s at e)

  pub number-on : (n : ℕ) → next_of (field_at s at) ≡ On n → (h : Field) → h ≡ field_at s at → (v : ℕ) → v ≡ last_of last (numbers f (h ∷ []))
      → last_of v (numbers f (fields_at s n)) ≡ last_of 0 (numbers f (fields_at s from))
  number-on n e h p v q = rw (← g, at_on s at n e, last-two f (field_at s at) (fields_at s n) last, q, p)

-- ---- walking a number's bytes fields from 0 yields exactly those, in order
module _ (s : List ℕ) (f : ℕ) where
  cursor : ℕ → Option Span
  cursor at = first_of (spans f (fields_at s at))

  walk_from : (k at : ℕ) → length s ≤ at + k → walk (suc k) cursor at ≡ spans f (fields_at s at)
  unfolding walk cursor
  walk_from zero at l = go (first_of (spans f (fields_at s at))) refl
    where
      go : (x : Option Span) → first_of (spans f (fields_at s at)) ≡ x → walk 1 cursor at ≡ spans f (fields_at s at)
      go (Some p) e = let i = walk_inside s f at p e in absurd (omega (arith, i.starts, i.ordered, i.ends))
      go None e = rw (e, walk_none s f at e)
  walk_from (suc k) at l = go (first_of (spans f (fields_at s at))) refl (walk_from k)
    where
      go : (x : Option Span) → first_of (spans f (fields_at s at)) ≡ x → ((at : ℕ) → length s ≤ at + k → walk (suc k) cursor at ≡ spans f (fields_at s at))
          → walk (suc (suc k)) cursor at ≡ spans f (fields_at s at)
      go (Some p) e ih =
          let i = walk_inside s f at p e in
          rw (e, ih p.end (omega (arith, i.starts, i.ordered)), walk_at s f at p e)
      go None e ih = rw (e, walk_none s f at e)

  pub walked : (at : ℕ) → walk (suc (length s)) (λ from. first_of (spans f (fields_at s from))) at ≡ spans f (fields_at s at)
  unfolding cursor
  walked at = walk_from (length s) at (omega arith)

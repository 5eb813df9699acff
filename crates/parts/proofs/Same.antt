-- Laws of positions compared: what the derived comparison computes, and that it is equality. Assumes nothing.
use Prim.Native.Nat.{ℕ}
use mathlib.Core.Path.{◌≡◌, refl, sym, ap, ap₂, ◌∙◌}
use mathlib.Core.Bool.{Bool, true, false, not, ◌&&◌, beq}
use mathlib.Core.List.{List}
use lib.Dec.{eqb}
use borrow.Author.Tests.{eq-eqb, ne_eqb, eqb-true, not-true, not-false}
use Rattle.octets.proofs.Bools.{and_l, and_r, and_i, and-on, and-off}
use Rattle.wire.specs.declared.Span.{Span}
use Rattle.message.specs.View.{reading_of}
use Rattle.message.specs.declared.Held.{Held}
use Rattle.message.specs.declared.Fields.{Fields}
use Rattle.parts.specs.Parts.{same_span, same_bool, same_held, same_fields, is_reading, is_view}
use Rattle.std.specs.Prelude.{Result}
use Rattle.refusal.specs.declared.Refusal.{Refusal}

-- ---- what the derived comparison computes
flag-beq : (a b : Bool) → beq a b ≡ same_bool a b
flag-beq true true = refl
flag-beq true false = refl
flag-beq false true = refl
flag-beq false false = refl

pub derived-same : (a b : Fields) → (eqb a.kind b.kind && ((eqb a.key.at b.key.at && eqb a.key.end b.key.end) && (beq a.held.there b.held.there
    && ((eqb a.held.key.at b.held.key.at && eqb a.held.key.end b.held.key.end) && (eqb a.held.value.at b.held.value.at && eqb a.held.value.end b.held.value.end)))))
    ≡ same_fields a b
unfolding same_fields same_held same_span
derived-same a b =
    ap (λ (f : Bool). eqb a.kind b.kind && (same_span a.key b.key && (f && (same_span a.held.key b.held.key && same_span a.held.value b.held.value))))
    (flag-beq a.held.there b.held.there)

pub view-is : (s : List ℕ) (v : Fields) (m : Result Fields Refusal) (r : Bool) → m ≡ reading_of s → r ≡ is_reading m v → r ≡ is_view s v
unfolding is_view
view-is s v m r e q = q ∙ ap (λ (x : Result Fields Refusal). is_reading x v) e

-- ---- the same are equal, and equal ones are the same
flag-eq : (a b : Bool) → same_bool a b ≡ true → a ≡ b
flag-eq true b h = sym h
flag-eq false b h = sym (not-true b h)

flag-self : (a : Bool) → same_bool a a ≡ true
flag-self true = refl
flag-self false = refl

span-eq : (a b : Span) → same_span a b ≡ true → a ≡ b
unfolding same_span
span-eq a b h =
    ap₂ (λ (x y : ℕ). record { at = x; end = y }) (eqb-true a.at b.at (and_l _ _ h)) (eqb-true a.end b.end (and_r (eqb a.at b.at) _ h))

span-self : (a : Span) → same_span a a ≡ true
unfolding same_span
span-self a = and_i _ _ (eq-eqb a.at a.at refl) (eq-eqb a.end a.end refl)

held-eq : (a b : Held) → same_held a b ≡ true → a ≡ b
unfolding same_held
held-eq a b h =
    let f : a.there ≡ b.there = flag-eq a.there b.there (and_l _ _ h) in
    let g = and_r (same_bool a.there b.there) _ h in
    let k : a.key ≡ b.key = span-eq a.key b.key (and_l _ _ g) in
    let v : a.value ≡ b.value = span-eq a.value b.value (and_r (same_span a.key b.key) _ g) in
    ap (λ (x : Bool). record { there = x; key = a.key; value = a.value }) f
    ∙ ap (λ (x : Span). record { there = b.there; key = x; value = a.value }) k
    ∙ ap (λ (x : Span). record { there = b.there; key = b.key; value = x }) v

held-self : (a : Held) → same_held a a ≡ true
unfolding same_held
held-self a = and_i _ _ (flag-self a.there) (and_i _ _ (span-self a.key) (span-self a.value))

pub fields-eq : (a b : Fields) → same_fields a b ≡ true → a ≡ b
unfolding same_fields
fields-eq a b h =
    let n : a.kind ≡ b.kind = eqb-true a.kind b.kind (and_l _ _ h) in
    let g = and_r (eqb a.kind b.kind) _ h in
    let k : a.key ≡ b.key = span-eq a.key b.key (and_l _ _ g) in
    let e : a.held ≡ b.held = held-eq a.held b.held (and_r (same_span a.key b.key) _ g) in
    ap (λ (x : ℕ). record { kind = x; key = a.key; held = a.held }) n
    ∙ ap (λ (x : Span). record { kind = b.kind; key = x; held = a.held }) k
    ∙ ap (λ (x : Held). record { kind = b.kind; key = b.key; held = x }) e

pub fields-self : (a : Fields) → same_fields a a ≡ true
unfolding same_fields
fields-self a = and_i _ _ (eq-eqb a.kind a.kind refl) (and_i _ _ (span-self a.key) (held-self a.held))

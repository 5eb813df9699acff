-- The rule that is told is broken, at the setpoint that is told, and none before it. Assumes nothing.
use Prim.Native.Nat.{ℕ, zero, suc, ◌+◌, ◌<◌}
use mathlib.Core.Path.{◌≡◌, refl, sym, ap, ◌∙◌}
use mathlib.Core.Logic.{◌⊎◌, inl, inr, ⊎_elim}
use mathlib.Core.List.{List, [], ◌∷◌, ◌++◌}
use mathlib.Core.Bool.{Bool, true, false, and-true}
use native.Mathlib.Omega.{arith}
use lib.ListN.{length, drop}
use lib.Dec.{leb}
use lib.IntN.{ℤ, pos, negsuc, nat_abs, ◌-ℤ◌}
use borrow.Author.Tests.{leb-false, ltb-false}
use Rattle.octets.proofs.Bools.{either, not-both, and_i, and_l, and_r}
use Rattle.std.specs.Prelude.{Option, Some, None, Ok, ⊤, is_ok}
use Rattle.recipe.specs.Limits.{turn_max, leap_max}
use Rattle.recipe.specs.Recipe.{on_point, in_range, no_leap, follows, rules}
use Rattle.recipe.specs.declared.Setpoint.{Setpoint}
use Rattle.recipe.specs.Inner.{short_point}
use Rattle.recipe.specs.Faults.{broken, unless, first_of, rises, trim_in, stays, setpoint_fault, points_fault, bytes_fault}
use Rattle.recipe.specs.Claims.{Breaks, high, falls, far, leaps, last_of, OfSetpoints, Reads, none, more, Follows, unread, breaking, InBytes}
use Rattle.recipe.specs.declared.Point.{Point}
use Rattle.recipe.specs.declared.Rule.{Rule}
use Rattle.recipe.specs.declared.Rule.TheVariants.{NoSetpoint, TurnTooHigh, TurnNotRising, TrimOutOfRange, TrimLeaps, BytesLeft}
use Rattle.recipe.specs.declared.Part.{Part}
use Rattle.recipe.specs.declared.Breach.{Breach}
use Rattle.recipe.proofs.Points.{a_point, a_setpoint, short-point}
use Rattle.recipe.proofs.Faults.{stops, goes_on, setpoint-good}

-- ---- one setpoint
good-broken : {u : ⊤} {rule : Rule} {q : Part} {i : ℕ} → Ok u ≡ broken rule q i → ⊥
good-broken e = let z : ◌≡◌ {A = ℕ} 0 1 = cc in omega arith

module _ {r rule : Rule} {q part : Part} {i j : ℕ} (e : broken r q i ≡ broken rule part j) where
  breach : ◌≡◌ {A = Breach} (record { rule = r; part = q; setpoint = i }) (record { rule = rule; part = part; setpoint = j })
  breach = cc

  same-rule : r ≡ rule
  same-rule = ap (λ (f : Breach). f.rule) breach

  same-part : q ≡ part
  same-part = ap (λ (f : Breach). f.part) breach

  same-place : i ≡ j
  same-place = ap (λ (f : Breach). f.setpoint) breach

pub record Named (part : Part) (i : ℕ) (p : Option Setpoint) (q : Setpoint) (rule : Rule) (told : Part) (j : ℕ) : Type 0 where
  pub there : told ≡ part
  pub place : j ≡ i
  pub broken : Breaks rule p q

named : (part : Part) (i : ℕ) (p : Option Setpoint) (q : Setpoint) (r rule : Rule) (told : Part) (j : ℕ) → (rule ≡ r → Breaks rule p q) → broken r part i ≡ broken rule told j → Named part i p q rule told j
named part i p q r rule told j h e =
    record { there = sym (same-part e); place = sym (same-place e); broken = h (sym (same-rule e)) }

too_far : (t : ℤ) → trim_in t ≡ false → 20000 < nat_abs t
unfolding trim_in
too_far (pos n) h = leb-false n 20000 h
too_far (negsuc n) h = let z = leb-false n 19999 (sym (and-true (leb n 19999)) ∙ h) in omega arith

module _ (part : Part) (i : ℕ) (p : Option Setpoint) (q : Setpoint) (rule : Rule) (told : Part) (j : ℕ) where
  not-risen : rises p q.turn ≡ false → rule ≡ TurnNotRising → Breaks rule p q
  unfolding rises
  not-risen z e = go p refl z
    where
      go : (o : Option Setpoint) → p ≡ o → rises o q.turn ≡ false → Breaks rule p q
      go None f x = absurd (not-both true refl x)
      go (Some last) f x = falls e last f (ltb-false last.turn q.turn x)

  has-leapt : stays p q.trim ≡ false → rule ≡ TrimLeaps → Breaks rule p q
  unfolding stays no_leap
  has-leapt z e = go p refl z
    where
      go : (o : Option Setpoint) → p ≡ o → stays o q.trim ≡ false → Breaks rule p q
      go None f x = absurd (not-both true refl x)
      go (Some last) f x = leaps e last f (leb-false (nat_abs (last.trim -ℤ q.trim)) leap_max x)

  leap : (b : Bool) → stays p q.trim ≡ b → unless b (broken TrimLeaps part i) (Ok tt) ≡ broken rule told j → Named part i p q rule told j
  leap true f x = absurd (good-broken x)
  leap false f x = named part i p q TrimLeaps rule told j (has-leapt f) x

  range : (b : Bool) → trim_in q.trim ≡ b → unless b (broken TrimOutOfRange part i) (unless (stays p q.trim) (broken TrimLeaps part i) (Ok tt)) ≡ broken rule told j → Named part i p q rule told j
  range true f x = leap (stays p q.trim) refl x
  range false f x = named part i p q TrimOutOfRange rule told j (λ e. far e (too_far q.trim f)) x

  rise : (b : Bool) → rises p q.turn ≡ b
      → unless b (broken TurnNotRising part i) (unless (trim_in q.trim) (broken TrimOutOfRange part i) (unless (stays p q.trim) (broken TrimLeaps part i) (Ok tt))) ≡ broken rule told j
      → Named part i p q rule told j
  rise true f x = range (trim_in q.trim) refl x
  rise false f x = named part i p q TurnNotRising rule told j (not-risen f) x

  turn-named : (b : Bool) → leb q.turn turn_max ≡ b
      → unless b (broken TurnTooHigh part i) (unless (rises p q.turn) (broken TurnNotRising part i) (unless (trim_in q.trim) (broken TrimOutOfRange part i) (unless (stays p q.trim) (broken TrimLeaps part i) (Ok tt)))) ≡ broken rule told j
      → Named part i p q rule told j
  turn-named true f x = rise (rises p q.turn) refl x
  turn-named false f x = named part i p q TurnTooHigh rule told j (λ e. high e (leb-false q.turn turn_max f)) x

  setpoint-named : setpoint_fault part i p q.turn q.trim ≡ broken rule told j → Named part i p q rule told j
  unfolding setpoint_fault
  setpoint-named e = turn-named (leb q.turn turn_max) refl e

-- a setpoint that breaks none leads on
leads-on : (part : Part) (i : ℕ) (p : Option Setpoint) (q : Setpoint) (qs : List Setpoint) → is_ok (setpoint_fault part i p q.turn q.trim) ≡ true → rules (Some q) qs ≡ true → rules p (q ∷ qs) ≡ true
unfolding rules
leads-on part i p q qs g h =
    let k = sym (setpoint-good part i p q.turn q.trim) ∙ g in
    and_i (in_range q.turn q.trim) _ (and_l (in_range q.turn q.trim) (follows p q.turn q.trim) k)
    (and_i (follows p q.turn q.trim) _ (and_r (in_range q.turn q.trim) (follows p q.turn q.trim) k) h)

-- ---- a list of setpoints, from the i-th on
record Found (part : Part) (i : ℕ) (p : Option Setpoint) (ps : List Setpoint) (rule : Rule) (told : Part) (j : ℕ) : Type 0 where
  there : told ≡ part
  before : List Setpoint
  this : Setpoint
  after : List Setpoint
  list : ps ≡ before ++ (this ∷ after)
  place : i + length before ≡ j
  kept : rules p before ≡ true
  broken : Breaks rule (last_of p before) this

found : (part : Part) (i : ℕ) (p : Option Setpoint) (ps : List Setpoint) (rule : Rule) (told : Part) (j : ℕ) → points_fault part i p ps ≡ broken rule told j → Found part i p ps rule told j
unfolding points_fault rules last_of
found part i p [] rule told j e = absurd (good-broken e)
found part i p (q ∷ qs) rule told j e =
    ⊎_elim (later (found part (suc i) (Some q) qs rule told j)) here (either (is_ok (setpoint_fault part i p q.turn q.trim)))
  where
    here : is_ok (setpoint_fault part i p q.turn q.trim) ≡ false → Found part i p (q ∷ qs) rule told j
    here g =
        let n = setpoint-named part i p q rule told j (sym (stops (setpoint_fault part i p q.turn q.trim) _ g) ∙ e) in
        record { there = n.there; before = []; this = q; after = qs; list = refl; place = omega (arith, n.place); kept = refl; broken = n.broken }

    later : (points_fault part (suc i) (Some q) qs ≡ broken rule told j → Found part (suc i) (Some q) qs rule told j)
        → is_ok (setpoint_fault part i p q.turn q.trim) ≡ true → Found part i p (q ∷ qs) rule told j
    later ih g =
        let f = ih (sym (goes_on (setpoint_fault part i p q.turn q.trim) _ g) ∙ e) in
        record {
          there = f.there;
          before = q ∷ f.before;
          this = f.this;
          after = f.after;
          list = ap (λ (x : List Setpoint). q ∷ x) f.list;
          place = omega (arith, f.place);
          kept = leads-on part i p q f.before g f.kept;
          broken = f.broken;
        }

pub of-setpoints : OfSetpoints
of-setpoints part ps rule told i e =
    let f = found part 0 None ps rule told i e in
    record { there = f.there; before = f.before; this = f.this; after = f.after; list = f.list; place = omega (arith, f.place); kept = f.kept; broken = f.broken }

-- ---- a list in bytes
record FoundIn (part : Part) (i : ℕ) (p : Option Setpoint) (n : ℕ) (s : List ℕ) (rule : Rule) (told : Part) (j : ℕ) : Type 0 where
  there : told ≡ part
  inside : j < i + n
  before : List Setpoint
  rest : List ℕ
  reads : Reads s before rest
  place : i + length before ≡ j
  kept : rules p before ≡ true
  broken : Follows rule (last_of p before) rest

-- bytes are left over
abbrev Over : Part → Rule → Part → ℕ → Type 0
Over part rule told j = (rule ≡ BytesLeft) × (told ≡ part) × (j ≡ 0)

found_in : (part : Part) (i : ℕ) (p : Option Setpoint) (n : ℕ) (s : List ℕ) (rule : Rule) (told : Part) (j : ℕ) → bytes_fault part i p n s ≡ broken rule told j → Over part rule told j ⊎ FoundIn part i p n s rule told j
unfolding bytes_fault rules last_of
found_in part i p zero [] rule told j e = absurd (good-broken e)
found_in part i p zero (b ∷ s) rule told j e =
    inl (sym (same-rule e), sym (same-part e), sym (same-place e))
found_in part i p (suc n) s rule told j e = go (λ q k. found_in part (suc i) q n (drop k s) rule told j) (short_point s) refl e
  where
    unreadable : short_point s ≡ None → broken NoSetpoint part i ≡ broken rule told j → FoundIn part i p (suc n) s rule told j
    unreadable f x =
        record {
          there = sym (same-part x);
          inside = omega (arith, same-place x);
          before = [];
          rest = s;
          reads = none s;
          place = omega (arith, same-place x);
          kept = refl;
          broken = unread (sym (same-rule x)) f;
        }

    here : (q : Setpoint) (k : ℕ) → short_point s ≡ a_point q.turn q.trim k → setpoint_fault part i p q.turn q.trim ≡ broken rule told j → FoundIn part i p (suc n) s rule told j
    here q k f x =
        let m = setpoint-named part i p q rule told j x in
        record {
          there = m.there;
          inside = omega (arith, m.place);
          before = [];
          rest = s;
          reads = none s;
          place = omega (arith, m.place);
          kept = refl;
          broken = breaking q k f m.broken;
        }

    later : (q : Setpoint) (k : ℕ) → short_point s ≡ a_point q.turn q.trim k → is_ok (setpoint_fault part i p q.turn q.trim) ≡ true
        → FoundIn part (suc i) (Some q) n (drop k s) rule told j → FoundIn part i p (suc n) s rule told j
    later q k f g m =
        record {
          there = m.there;
          inside = omega (arith, m.inside);
          before = q ∷ m.before;
          rest = m.rest;
          reads = more s q.turn q.trim k m.before m.rest (short-point s f) m.reads;
          place = omega (arith, m.place);
          kept = leads-on part i p q m.before g m.kept;
          broken = m.broken;
        }

    one : (q : Setpoint) (k : ℕ) → short_point s ≡ a_point q.turn q.trim k
        → (bytes_fault part (suc i) (Some q) n (drop k s) ≡ broken rule told j → Over part rule told j ⊎ FoundIn part (suc i) (Some q) n (drop k s) rule told j)
        → first_of (setpoint_fault part i p q.turn q.trim) (bytes_fault part (suc i) (Some q) n (drop k s)) ≡ broken rule told j
        → Over part rule told j ⊎ FoundIn part i p (suc n) s rule told j
    one q k f ih x =
        ⊎_elim
        (λ g. ⊎_elim (λ b. inl b) (λ m. inr (later q k f g m)) (ih (sym (goes_on (setpoint_fault part i p q.turn q.trim) _ g) ∙ x)))
        (λ g. inr (here q k f (sym (stops (setpoint_fault part i p q.turn q.trim) _ g) ∙ x)))
        (either (is_ok (setpoint_fault part i p q.turn q.trim)))

    go : ((q : Option Setpoint) (k : ℕ) → bytes_fault part (suc i) q n (drop k s) ≡ broken rule told j → Over part rule told j ⊎ FoundIn part (suc i) q n (drop k s) rule told j) → (r : Option Point) → short_point s ≡ r
        → on_point r (λ turn trim k. first_of (setpoint_fault part i p turn trim) (bytes_fault part (suc i) (a_setpoint turn trim) n (drop k s))) (broken NoSetpoint part i) ≡ broken rule told j
        → Over part rule told j ⊎ FoundIn part i p (suc n) s rule told j
    go ih None f x = inr (unreadable f x)
    go ih (Some r) f x = one (record { turn = r.turn; trim = r.trim }) r.size f (ih (a_setpoint r.turn r.trim) r.size) x

pub in_bytes : InBytes
in_bytes part n s rule told i e =
    ⊎_elim (λ b. inl b)
    (λ f. inr (record { there = f.there; inside = omega (arith, f.inside); before = f.before; rest = f.rest; reads = f.reads; place = omega (arith, f.place); kept = f.kept; broken = f.broken }))
    (found_in part 0 None n s rule told i e)

-- Setpoints taken out of a list, one after another: what is still to be taken goes to the places after. Assumes nothing.
use Prim.Native.Nat.{ℕ, suc, ◌+◌, ◌-◌, ◌≤◌, ◌<◌}
use mathlib.Core.Path.{◌≡◌, refl, sym, ap, ◌∙◌}
use mathlib.Core.List.{List, [], ◌∷◌}
use mathlib.Core.Bool.{Bool, true, false}
use native.Mathlib.Omega.{arith}
use lib.ListN.{length, drop, set, length-drop, length-set}
use lib.Seq.{sets, drop-drop}
use lib.IntN.{ℤ}
use mir.Syntax.{w32}
use mir.Val.{to_z, of_z, SFits}
use mir.ValLaws.{to_z-of_z}
use Rattle.std.specs.Prelude.{Option, None}
use Rattle.octets.specs.Octets.{part}
use Rattle.octets.proofs.Bools.{not-both, cond_yes, cond_no}
use Rattle.recipe.specs.Recipe.{Setpoints, These, NoList, and_then, setpoints, ruled, is_list}
use Rattle.recipe.specs.declared.Setpoint.{Setpoint}
use Rattle.recipe.specs.Recipe.{distance_of, count_of, format_of, trailer_of, core_distance_of, core_count_of, wrap_room, core_room, is_recipe}
use Rattle.recipe.specs.Inner.{short_point}
use Rattle.recipe.specs.declared.Point.{Point}
use Rattle.recipe.proofs.Points.{a_point, a_setpoint, short-step, short-point, point-size}
use Rattle.recipe.proofs.Trailer.{our-recipe}
use Rattle.recipe_fields.specs.Fields.{fields, listed}
use Rattle.recipe_fields.specs.Places.{points_in, turns_of, trims_of, turns_after, trims_after}
use Rattle.recipe_fields.proofs.Lists.{rules-tail}

-- ---- one setpoint
-- the first of a list that keeps the rules, and what is left of it
pub record Next (a : ℕ) (t : ℤ) (l rest : List Setpoint) : Type 0 where
  pub turns : turns_of l ≡ a ∷ turns_of rest
  pub trims : trims_of l ≡ t ∷ trims_of rest

module _ (p : Option Setpoint) (a : ℕ) (t : ℤ) where
  then-kept : (x : Setpoints) → ruled p (and_then a t x) ≡ true → ruled (a_setpoint a t) x ≡ true
  unfolding ruled and_then
  then-kept (These qs) h = rules-tail p (record { turn = a; trim = t }) qs h
  then-kept NoList h = h

  then_next : (x : Setpoints) → ruled p (and_then a t x) ≡ true → Next a t (listed (and_then a t x)) (listed x)
  unfolding ruled and_then turns_of trims_of
  then_next (These qs) h = record { turns = refl; trims = refl }
  then_next NoList h = absurd (not-both false h refl)

module _ (p : Option Setpoint) (n : ℕ) (l : List ℕ) (h : ruled p (setpoints (suc n) l) ≡ true) where
  some-point : short_point l ≡ None → ⊥
  some-point e = not-both false (rw e at (sym (short-step p n l) ∙ h)) refl

  module _ {a : ℕ} {t : ℤ} {k : ℕ} (e : short_point l ≡ a_point a t k) where
    first-point : setpoints (suc n) l ≡ and_then a t (setpoints n (drop k l))
    unfolding setpoints
    first-point = rw (short-point l e)

    left-kept : ruled (a_setpoint a t) (setpoints n (drop k l)) ≡ true
    left-kept = then-kept p a t (setpoints n (drop k l)) (rw first-point at h)

    left-next : Next a t (points_in (suc n) l) (points_in n (drop k l))
    left-next = rw first-point (then_next p a t (setpoints n (drop k l)) (rw first-point at h))

none_left : (l : List ℕ) → points_in 0 l ≡ []
unfolding setpoints
none_left [] = refl
none_left (b ∷ l) = refl

-- ---- the loop of `take_setpoints`
-- the first of what is to be stored is stored, and the rest is to be
set_next : {A : Type 0} (l : List A) (i : ℕ) {l₁ : List A} {x : A} {rest every whole : List A} → every ≡ x ∷ rest → l₁ ≡ set l i x → sets l i every ≡ whole → sets l₁ (i + 1) rest ≡ whole
set_next {A = A} l i {l₁} {x} {rest} e p q =
    let j : i + 1 ≡ suc i = omega arith in
    ap (λ (y : List A). sets y (i + 1) rest) p ∙ ap (λ (n : ℕ). sets (set l i x) n rest) j ∙ ap (sets l i) (sym e) ∙ q

pub record Taking (s : List ℕ) (count : ℕ) (ts₀ : List ℕ) (ms₀ : List ℤ) (ts : List ℕ) (ms : List ℤ) (at i : ℕ) : Type 0 where
  pub inside : at ≤ length s
  pub some : i ≤ count
  pub prev : Option Setpoint
  pub kept : ruled prev (setpoints (count - i) (drop at s)) ≡ true
  pub turns-long : length ts ≡ length ts₀
  pub trims-long : length ms ≡ length ms₀
  pub turns : sets ts i (turns_of (points_in (count - i) (drop at s))) ≡ sets ts₀ 0 (turns_of (points_in count s))
  pub trims : sets ms i (trims_of (points_in (count - i) (drop at s))) ≡ sets ms₀ 0 (trims_of (points_in count s))

pub taking : (s : List ℕ) (count : ℕ) (ts : List ℕ) (ms : List ℤ) → is_list count s ≡ true → Taking s count ts ms ts ms 0 0
unfolding is_list
taking s count ts ms h =
    let e : count - 0 ≡ count = omega arith in
    record { inside = omega arith; some = omega arith; prev = None; kept = rw e h; turns-long = refl; trims-long = refl; turns = rw e refl; trims = rw e refl }

module _ (s : List ℕ) (count : ℕ) (ts₀ : List ℕ) (ms₀ : List ℤ) (ts : List ℕ) (ms : List ℤ) (at i : ℕ) (g : Taking s count ts₀ ms₀ ts ms at i) where
  pub taken-all : count ≤ i → (ts ≡ sets ts₀ 0 (turns_of (points_in count s))) × (ms ≡ sets ms₀ 0 (trims_of (points_in count s)))
  unfolding turns_of trims_of
  taken-all h =
      let e : count - i ≡ 0 = omega arith in
      let z = none_left (drop at s) in
      let a : sets ts i (turns_of (points_in 0 (drop at s))) ≡ sets ts₀ 0 (turns_of (points_in count s)) = rw e at g.turns in
      let b : sets ms i (trims_of (points_in 0 (drop at s))) ≡ sets ms₀ 0 (trims_of (points_in count s)) = rw e at g.trims in
      (ap (λ (l : List Setpoint). sets ts i (turns_of l)) (sym z) ∙ a, ap (λ (l : List Setpoint). sets ms i (trims_of l)) (sym z) ∙ b)

  module _ (h : i < count) where
    one_more : count - i ≡ suc (count - (i + 1))
    one_more = omega arith

    kept_here : ruled g.prev (setpoints (suc (count - (i + 1))) (drop at s)) ≡ true
    kept_here = rw one_more at g.kept

    pub taken-some : {r : Option Point} → r ≡ short_point (drop at s) → r ≡ None → ⊥
    taken-some e b = some-point g.prev (count - (i + 1)) (drop at s) kept_here (sym e ∙ b)

    module _ {a : ℕ} {t : ℤ} {k : ℕ} {r : Option Point} (e : r ≡ short_point (drop at s)) (b : r ≡ a_point a t k) where
      pub taken-size : k ≤ length s - at
      taken-size = let d : length (drop at s) ≡ length s - at = length-drop at s in omega (arith, point-size (drop at s) (sym e ∙ b))

      next : Next a t (points_in (suc (count - (i + 1))) (drop at s)) (points_in (count - (i + 1)) (drop k (drop at s)))
      next = left-next g.prev (count - (i + 1)) (drop at s) kept_here (sym e ∙ b)

      -- a trim in a local is what its bits say
      pub taken-on : SFits w32 t → {ts₁ : List ℕ} {ms₁ : List ℤ} → ts₁ ≡ set ts i a → ms₁ ≡ set ms i (to_z w32 (of_z w32 t)) → Taking s count ts₀ ms₀ ts₁ ms₁ (at + k) (i + 1)
      taken-on f {ts₁} {ms₁} p q =
          let d : drop k (drop at s) ≡ drop (at + k) s = drop-drop k at s in
          let m : ms₁ ≡ set ms i t = q ∙ ap (set ms i) (to_z-of_z w32 t f) in
          record {
            inside = omega (arith, g.inside, taken-size);
            some = omega arith;
            prev = a_setpoint a t;
            kept = rw (sym d) (left-kept g.prev (count - (i + 1)) (drop at s) kept_here (sym e ∙ b));
            turns-long = ap length p ∙ length-set ts i a ∙ g.turns-long;
            trims-long = ap length m ∙ length-set ms i t ∙ g.trims-long;
            turns = rw (sym d) (set_next ts i next.turns p (rw one_more at g.turns));
            trims = rw (sym d) (set_next ms i next.trims m (rw one_more at g.trims));
          }

-- ---- `setpoints`
pub none-taken : (v : List ℕ) → is_recipe v ≡ false → (core : Bool) (ts : List ℕ) (ms : List ℤ) → (false ≡ is_recipe v) × (ts ≡ turns_after v core ts) × (ms ≡ trims_after v core ms)
unfolding turns_after trims_after
none-taken v n core ts ms = (sym n, sym (cond_no (is_recipe v) _ ts n), sym (cond_no (is_recipe v) _ ms n))

-- of the places that the code has worked out
module _ (v : List ℕ) (y : is_recipe v ≡ true) {d : ℕ} (ed : d ≡ distance_of v) where
  module _ {k : ℕ} (ek : k ≡ core_distance_of v) where
    pub core-before : length v - k ≤ length v - d
    core-before = omega (arith, ed, ek, (our-recipe v y).core.near)

    core-room : part v (length v - k) (length v - d) ≡ core_room v
    unfolding core_room
    core-room = rw (ek, ed)

    module _ {n : ℕ} (en : n ≡ core_count_of v) where
      pub core-list : is_list n (part v (length v - k) (length v - d)) ≡ true
      unfolding core_room
      core-list = rw (en, core-room) (our-recipe v y).core.list

      pub core-taken : (core : Bool) → core ≡ true → (ts₀ : List ℕ) (ms₀ : List ℤ) {ts : List ℕ} {ms : List ℤ}
          → (ts ≡ sets ts₀ 0 (turns_of (points_in n (part v (length v - k) (length v - d))))) × (ms ≡ sets ms₀ 0 (trims_of (points_in n (part v (length v - k) (length v - d)))))
          → (true ≡ is_recipe v) × (ts ≡ turns_after v core ts₀) × (ms ≡ trims_after v core ms₀)
      unfolding turns_after trims_after fields
      core-taken core e ts₀ ms₀ p =
          (sym y, p.0 ∙ rw (e, en, core-room) (sym (cond_yes (is_recipe v) _ ts₀ y)), p.1 ∙ rw (e, en, core-room) (sym (cond_yes (is_recipe v) _ ms₀ y)))

  module _ {f t : ℕ} (ef : f ≡ format_of v) (et : t ≡ trailer_of f) where
    trailer-is : t ≡ trailer_of (format_of v)
    trailer-is = et ∙ ap trailer_of ef

    pub wrap-before : length v - d ≤ length v - t
    wrap-before = omega (arith, ed, trailer-is, (our-recipe v y).wrap.near)

    wrap-room : part v (length v - d) (length v - t) ≡ wrap_room v
    unfolding wrap_room
    wrap-room = rw (trailer-is, ed)

    module _ {n : ℕ} (en : n ≡ count_of v) where
      pub wrap-list : is_list n (part v (length v - d) (length v - t)) ≡ true
      unfolding wrap_room
      wrap-list = rw (en, wrap-room) (our-recipe v y).wrap.list

      pub wrap-taken : (core : Bool) → core ≡ false → (ts₀ : List ℕ) (ms₀ : List ℤ) {ts : List ℕ} {ms : List ℤ}
          → (ts ≡ sets ts₀ 0 (turns_of (points_in n (part v (length v - d) (length v - t))))) × (ms ≡ sets ms₀ 0 (trims_of (points_in n (part v (length v - d) (length v - t)))))
          → (true ≡ is_recipe v) × (ts ≡ turns_after v core ts₀) × (ms ≡ trims_after v core ms₀)
      unfolding turns_after trims_after fields
      wrap-taken core e ts₀ ms₀ p =
          (sym y, p.0 ∙ rw (e, en, wrap-room) (sym (cond_yes (is_recipe v) _ ts₀ y)), p.1 ∙ rw (e, en, wrap-room) (sym (cond_yes (is_recipe v) _ ms₀ y)))

-- Laws of the rules one after another: what each test of the code tells, and that no rule is broken exactly by a recipe. Assumes nothing.
use Prim.Native.Nat.{ℕ, zero, suc, ◌+◌, ◌-◌, ◌≤◌, ◌<◌}
use mathlib.Core.Path.{◌≡◌, refl, sym, ap, ap₂, ◌∙◌}
use mathlib.Core.List.{List, [], ◌∷◌}
use mathlib.Core.Bool.{Bool, true, false, ◌&&◌, and-true}
use native.Mathlib.Omega.{arith}
use lib.ListN.{length, drop, length-drop, drop_of_length-le}
use lib.Seq.{drop-cons, drop-drop}
use lib.Dec.{ltb, leb, eqb}
use lib.IntN.{ℤ}
use mir.Syntax.{w32}
use mir.Val.{to_z, of_z, SFits}
use mir.ValLaws.{to_z-of_z}
use borrow.Author.Tests.{le-leb, lt-leb, leb-true, eq-eqb, ne_eqb, eqb-true}
use Rattle.std.specs.Prelude.{Option, Some, None, Result, Ok, Err, ⊤, is_ok}
use Rattle.octets.specs.Search.{all_of}
use Rattle.octets.proofs.Bools.{and_assoc, and-fails, and_l, and_r, and_i, same_way}
use Rattle.limits.specs.Limits.{most_value, most_setpoints}
use Rattle.recipe.specs.Limits.{trailer_size, turn_max}
use Rattle.recipe.specs.Recipe.{Setpoints, These, NoList, on_point, and_then, setpoints, in_range, no_leap, follows, rules, ruled, is_list, from_end}
use Rattle.recipe.specs.declared.Setpoint.{Setpoint}
use Rattle.recipe.specs.Recipe.{distance_of, count_of, format_of, trailer_of, core_distance_of, core_count_of, pad_of, list_fills, knows, ours, is_recipe}
use Rattle.recipe.specs.Inner.{short_point}
use Rattle.recipe.specs.Faults.{broken, unless, first_of, rises, trim_in, stays, setpoint_fault, points_fault, bytes_fault, list_fault, lists_fault, is_known, fault_of}
use Rattle.recipe.specs.declared.Point.{Point}
use Rattle.recipe.specs.declared.Rule.{Rule}
use Rattle.recipe.specs.declared.Rule.TheVariants.{TooShort, TooLong, UnknownFormat, PadNotZero, BadDistance, TooManySetpoints, NoSetpoint, TurnTooHigh, TurnNotRising, TrimOutOfRange, TrimLeaps, BytesLeft}
use Rattle.recipe.specs.declared.Part.{Part}
use Rattle.recipe.specs.declared.Part.TheVariants.{Whole, Wrap, Core}
use Rattle.recipe.specs.declared.Breach.{Breach}
use Rattle.recipe.proofs.Points.{a_point, a_setpoint, short-step, point-size}
use Rattle.recipe.proofs.Trailer.{Recipe, filled, filling, our-recipe, is_ours}

-- ---- one after another
pub stops : (w next : Result ⊤ Breach) → is_ok w ≡ false → first_of w next ≡ w
unfolding first_of
stops (Ok u) next e = absurd (let z : ◌≡◌ {A = ℕ} 0 1 = cc in omega arith)
stops (Err f) next e = refl

pub goes_on : {A : Type 0} (w : Result ⊤ Breach) (next : Result A Breach) → is_ok w ≡ true → first_of w next ≡ next
unfolding first_of
goes_on (Ok u) next e = refl
goes_on (Err f) next e = absurd (let z : ◌≡◌ {A = ℕ} 0 1 = cc in omega arith)

-- what a `?` hands on is what it was handed
pub handed-on : {r w : Result ⊤ Breach} {y f : Breach} → r ≡ Err y → y ≡ f → w ≡ Err f → r ≡ w
handed-on a b e = a ∙ ap (λ (x : Breach). Err x) b ∙ sym e

-- and where that is the first of two it is both's
pub handed-up : {A : Type 0} (next : Result A Breach) {r : Result A Breach} {w : Result ⊤ Breach} {y f : Breach} → r ≡ Err y → y ≡ f → w ≡ Err f → r ≡ first_of w next
unfolding first_of
handed-up next a b e = a ∙ ap (λ (x : Breach). Err x) b ∙ ap (λ (x : Result ⊤ Breach). first_of x next) (sym e)

pub both-good : (w next : Result ⊤ Breach) → is_ok (first_of w next) ≡ (is_ok w && is_ok next)
unfolding first_of
both-good (Ok u) next = refl
both-good (Err f) next = refl

pub good-unless : (b : Bool) (r : Rule) (q : Part) (i : ℕ) (next : Result ⊤ Breach) → is_ok (unless b (broken r q i) next) ≡ (b && is_ok next)
good-unless true r q i next = refl
good-unless false r q i next = refl

-- ---- a setpoint
module _ (part : Part) (i : ℕ) (p : Option Setpoint) (turn : ℕ) (trim : ℤ) where
  pub too-high : turn_max < turn → broken TurnTooHigh part i ≡ setpoint_fault part i p turn trim
  unfolding setpoint_fault
  too-high h = rw (lt-leb turn turn_max h)

  module _ (h : turn ≤ turn_max) where
    pub not-rising : rises p turn ≡ false → broken TurnNotRising part i ≡ setpoint_fault part i p turn trim
    unfolding setpoint_fault
    not-rising e = rw (le-leb turn turn_max h, e)

    module _ (e : rises p turn ≡ true) where
      pub out_of_range : trim_in trim ≡ false → broken TrimOutOfRange part i ≡ setpoint_fault part i p turn trim
      unfolding setpoint_fault
      out_of_range f = rw (le-leb turn turn_max h, e, f)

      module _ (f : trim_in trim ≡ true) where
        pub leaps : stays p trim ≡ false → broken TrimLeaps part i ≡ setpoint_fault part i p turn trim
        unfolding setpoint_fault
        leaps g = rw (le-leb turn turn_max h, e, f, g)

        pub good-setpoint : stays p trim ≡ true → Ok tt ≡ setpoint_fault part i p turn trim
        unfolding setpoint_fault
        good-setpoint g = rw (le-leb turn turn_max h, e, f, g)

  -- it is good exactly if it keeps its limits and may follow
  pub setpoint-good : is_ok (setpoint_fault part i p turn trim) ≡ (in_range turn trim && follows p turn trim)
  unfolding setpoint_fault in_range rises trim_in stays follows
  setpoint-good =
      good-unless (leb turn turn_max) _ _ _ _
      ∙ ap (λ (b : Bool). leb turn turn_max && b)
      (good-unless (rises p turn) _ _ _ _
      ∙ ap (λ (b : Bool). rises p turn && b) (good-unless (trim_in trim) _ _ _ _ ∙ ap (λ (b : Bool). trim_in trim && b) (good-unless (stays p trim) _ _ _ _)))
      ∙ shuffle p
    where
      four : (a b c d : Bool) → (a && (b && (c && (d && true)))) ≡ ((a && c) && (b && d))
      four true true c d = ap (λ (x : Bool). c && x) (and-true d)
      four true false true d = refl
      four true false false d = refl
      four false b c d = refl

      shuffle : (q : Option Setpoint) → (leb turn turn_max && (rises q turn && (trim_in trim && (stays q trim && true)))) ≡ ((leb turn turn_max && trim_in trim) && follows q turn trim)
      shuffle None = four (leb turn turn_max) true (trim_in trim) true
      shuffle (Some last) = four (leb turn turn_max) (ltb last.turn turn) (trim_in trim) (no_leap last.trim trim)

-- ---- lists
-- of setpoints: none is broken exactly if the list keeps the rules
pub points-good : (part : Part) (i : ℕ) (p : Option Setpoint) (ps : List Setpoint) → is_ok (points_fault part i p ps) ≡ rules p ps
unfolding points_fault rules
points-good part i p [] = refl
points-good part i p (q ∷ qs) =
    both-good (setpoint_fault part i p q.turn q.trim) _
    ∙ ap (λ (b : Bool). b && is_ok (points_fault part (suc i) (Some q) qs)) (setpoint-good part i p q.turn q.trim)
    ∙ sym (and_assoc (in_range q.turn q.trim) (follows p q.turn q.trim) _)
    ∙ ap (λ (b : Bool). in_range q.turn q.trim && (follows p q.turn q.trim && b)) (points-good part (suc i) (Some q) qs)

-- a setpoint in front of a list
ruled_step : (p : Option Setpoint) (a : ℕ) (t : ℤ) (x : Setpoints) → ruled p (and_then a t x) ≡ (in_range a t && (follows p a t && ruled (a_setpoint a t) x))
unfolding ruled and_then rules
ruled_step p a t (These ps) = refl
ruled_step p a t NoList = sym (and-fails (in_range a t) (follows p a t && false) (and-fails (follows p a t) false refl))

-- in bytes
pub bytes_good : (part : Part) (i : ℕ) (p : Option Setpoint) (n : ℕ) (s : List ℕ) → is_ok (bytes_fault part i p n s) ≡ ruled p (setpoints n s)
unfolding bytes_fault setpoints ruled rules
bytes_good part i p zero [] = refl
bytes_good part i p zero (b ∷ s) = refl
bytes_good part i p (suc n) s = go (λ q k. bytes_good part (suc i) q n (drop k s)) (short_point s) ∙ sym (short-step p n s)
  where
    go : ((q : Option Setpoint) (k : ℕ) → is_ok (bytes_fault part (suc i) q n (drop k s)) ≡ ruled q (setpoints n (drop k s))) → (r : Option Point)
        → is_ok (on_point r (λ turn trim k. first_of (setpoint_fault part i p turn trim) (bytes_fault part (suc i) (a_setpoint turn trim) n (drop k s))) (broken NoSetpoint part i))
        ≡ on_point r (λ turn trim k. ruled p (and_then turn trim (setpoints n (drop k s)))) false
    go h None = refl
    go h (Some r) =
        both-good (setpoint_fault part i p r.turn r.trim) _
        ∙ ap (λ (b : Bool). b && is_ok (bytes_fault part (suc i) (a_setpoint r.turn r.trim) n (drop r.size s))) (setpoint-good part i p r.turn r.trim)
        ∙ sym (and_assoc (in_range r.turn r.trim) (follows p r.turn r.trim) _)
        ∙ ap (λ (b : Bool). in_range r.turn r.trim && (follows p r.turn r.trim && b)) (h (a_setpoint r.turn r.trim) r.size)
        ∙ sym (ruled_step p r.turn r.trim (setpoints n (drop r.size s)))

-- the loop of `bytes_fault`: what is left of the list is judged after p
pub record Left (part : Part) (s : List ℕ) (count : ℕ) (p : Option Setpoint) (at i : ℕ) : Type 0 where
  pub inside : at ≤ length s
  pub some : i ≤ count
  pub same : bytes_fault part i p (count - i) (drop at s) ≡ bytes_fault part 0 None count s

pub left-start : (part : Part) (s : List ℕ) (count : ℕ) → Left part s count None 0 0
left-start part s count = let e : count - 0 ≡ count = omega arith in record { inside = omega arith; some = omega arith; same = rw e refl }

module _ (part : Part) (s : List ℕ) (count : ℕ) (p : Option Setpoint) (at i : ℕ) (g : Left part s count p at i) where
  module _ (h : i < count) where
    step : on_point (short_point (drop at s)) (λ turn trim k. first_of (setpoint_fault part i p turn trim) (bytes_fault part (suc i) (a_setpoint turn trim) (count - i - 1) (drop k (drop at s)))) (broken NoSetpoint part i)
        ≡ bytes_fault part 0 None count s
    unfolding bytes_fault
    step = let e : suc (count - i - 1) ≡ count - i = omega arith in ap (λ (n : ℕ). bytes_fault part i p n (drop at s)) e ∙ g.same

    pub left-none : {r : Option Point} → r ≡ short_point (drop at s) → r ≡ None → {w : Result ⊤ Breach} → w ≡ broken NoSetpoint part i → w ≡ bytes_fault part 0 None count s
    left-none e b f = f ∙ (rw (sym e ∙ b) at step)

    module _ {a : ℕ} {t : ℤ} {k : ℕ} {r : Option Point} (e : r ≡ short_point (drop at s)) (b : r ≡ a_point a t k) where
      pub left-size : k ≤ length s - at
      left-size = let d : length (drop at s) ≡ length s - at = length-drop at s in omega (arith, point-size (drop at s) (sym e ∙ b))

      abbrev after : Result ⊤ Breach
      after = bytes_fault part (suc i) (a_setpoint a t) (count - i - 1) (drop k (drop at s))

      here : first_of (setpoint_fault part i p a t) after ≡ bytes_fault part 0 None count s
      here = rw (sym e ∙ b) at step

      -- a trim in a local is what its bits say
      module _ (f : SFits w32 t) {w : Result ⊤ Breach} (q : w ≡ setpoint_fault part i p a (to_z w32 (of_z w32 t))) where
        judged : first_of w after ≡ bytes_fault part 0 None count s
        judged = ap (λ (x : Result ⊤ Breach). first_of x after) (q ∙ ap (λ (x : ℤ). setpoint_fault part i p a x) (to_z-of_z w32 t f)) ∙ here

        pub left-stop : {f : Breach} → w ≡ Err f → w ≡ bytes_fault part 0 None count s
        left-stop z = sym (stops w after (ap is_ok z)) ∙ judged

        pub left-on : {o : ⊤} → w ≡ Ok o → Left part s count (a_setpoint a (to_z w32 (of_z w32 t))) (at + k) (i + 1)
        left-on z =
            let j : i + 1 ≡ suc i = omega arith in
            let m : count - suc i ≡ count - i - 1 = omega arith in
            record {
              inside = omega (arith, g.inside, left-size);
              some = omega arith;
              same = rw (to_z-of_z w32 t f, j, m, ← drop-drop k at s) (sym (goes_on w after (ap is_ok z)) ∙ judged);
            }

  module _ (h : count ≤ i) where
    last : bytes_fault part i p 0 (drop at s) ≡ bytes_fault part 0 None count s
    last = let e : count - i ≡ 0 = omega arith in (rw e at g.same)

    pub left-good : at ≡ length s → Ok tt ≡ bytes_fault part 0 None count s
    unfolding bytes_fault
    left-good e = (rw (drop_of_length-le s {i = at} (omega arith)) at last)

    pub left_over : (at ≡ length s → ⊥) → {w : Result ⊤ Breach} → w ≡ broken BytesLeft part 0 → w ≡ bytes_fault part 0 None count s
    unfolding bytes_fault
    left_over e f = f ∙ (rw (drop-cons s at 0 (omega (arith, g.inside, e))) at last)

-- ---- a value
module _ (part : Part) (v : List ℕ) (n d e : ℕ) where
  pub ends-early : d < e → broken BadDistance part 0 ≡ list_fault part n d e v
  unfolding list_fault
  ends-early h = rw (lt-leb e d h)

  pub starts-before : e ≤ d → length v < d → broken BadDistance part 0 ≡ list_fault part n d e v
  unfolding list_fault
  starts-before a h = rw (le-leb e d a, lt-leb d (length v) h)

  pub too_many : e ≤ d → d ≤ length v → most_setpoints < n → broken TooManySetpoints part 0 ≡ list_fault part n d e v
  unfolding list_fault
  too_many a b h = rw (le-leb e d a, le-leb d (length v) b, lt-leb n most_setpoints h)

  pub in-its-room : e ≤ d → d ≤ length v → n ≤ most_setpoints → bytes_fault part 0 None n (from_end d e v) ≡ list_fault part n d e v
  unfolding list_fault
  in-its-room a b h = rw (le-leb e d a, le-leb d (length v) b, le-leb n most_setpoints h)

  list-good : is_ok (list_fault part n d e v) ≡ list_fills most_setpoints n d e v
  unfolding list_fault list_fills is_list all_of
  list-good =
      good-unless (leb e d) _ _ _ _
      ∙ ap (λ (b : Bool). leb e d && b)
      (good-unless (leb d (length v)) _ _ _ _
      ∙ ap (λ (b : Bool). leb d (length v) && b)
      (good-unless (leb n most_setpoints) _ _ _ _ ∙ ap (λ (b : Bool). leb n most_setpoints && b) (bytes_good part 0 None n (from_end d e v) ∙ sym (and-true _))))

-- of the numbers that the code has read
module _ (v : List ℕ) (t : ℕ) {n d : ℕ} (en : n ≡ count_of v) (ed : d ≡ distance_of v) {w : Result ⊤ Breach} (q : w ≡ list_fault Wrap n d t v) where
  wrap-told : w ≡ list_fault Wrap (count_of v) (distance_of v) t v
  wrap-told = q ∙ ap (λ (x : ℕ). list_fault Wrap x d t v) en ∙ ap (λ (x : ℕ). list_fault Wrap (count_of v) x t v) ed

  abbrev core-told : Result ⊤ Breach
  core-told = list_fault Core (core_count_of v) (core_distance_of v) (distance_of v) v

  pub wrap-broken : {f : Breach} → w ≡ Err f → w ≡ lists_fault t v
  unfolding lists_fault
  wrap-broken z = sym (stops w core-told (ap is_ok z)) ∙ ap (λ (x : Result ⊤ Breach). first_of x core-told) wrap-told

  pub wrap-good : {o : ⊤} → w ≡ Ok o → {m k : ℕ} → m ≡ core_count_of v → k ≡ core_distance_of v → {u : Result ⊤ Breach} → u ≡ list_fault Core m k d v → u ≡ lists_fault t v
  unfolding lists_fault
  wrap-good {o} z {m} {k} em ek {u} p =
      p ∙ ap (λ (x : ℕ). list_fault Core x k d v) em ∙ ap (λ (x : ℕ). list_fault Core (core_count_of v) x d v) ek ∙ ap (λ (x : ℕ). list_fault Core (core_count_of v) (core_distance_of v) x v) ed
      ∙ sym (goes_on w core-told (ap is_ok z)) ∙ ap (λ (x : Result ⊤ Breach). first_of x core-told) wrap-told

module _ (v : List ℕ) where
  pub under-16 : length v < trailer_size → broken TooShort Whole 0 ≡ fault_of v
  unfolding fault_of
  under-16 h = rw (lt-leb trailer_size (length v) h)

  module _ (a : trailer_size ≤ length v) where
    pub over-most : most_value < length v → broken TooLong Whole 0 ≡ fault_of v
    unfolding fault_of
    over-most h = rw (le-leb trailer_size (length v) a, lt-leb (length v) most_value h)

    module _ (b : length v ≤ most_value) {f : ℕ} (ef : f ≡ format_of v) where
      pub not_known : is_known f ≡ false → broken UnknownFormat Whole 0 ≡ fault_of v
      unfolding fault_of
      not_known h = let k : is_known (format_of v) ≡ false = ap is_known (sym ef) ∙ h in rw (le-leb trailer_size (length v) a, le-leb (length v) most_value b, k)

      module _ (g : is_known f ≡ true) {t : ℕ} (et : t ≡ trailer_of f) where
        known : is_known (format_of v) ≡ true
        known = ap is_known (sym ef) ∙ g

        size : trailer_of (format_of v) ≡ t
        size = ap trailer_of (sym ef) ∙ sym et

        pub under-24 : length v < t → broken TooShort Whole 0 ≡ fault_of v
        unfolding fault_of
        under-24 h = rw (le-leb trailer_size (length v) a, le-leb (length v) most_value b, known, size, lt-leb t (length v) h)

        module _ (c : t ≤ length v) {z : ℕ} (ez : z ≡ pad_of v) where
          pub not-zero : (z ≡ 0 → ⊥) → broken PadNotZero Whole 0 ≡ fault_of v
          unfolding fault_of
          not-zero h = rw (le-leb trailer_size (length v) a, le-leb (length v) most_value b, known, size, le-leb t (length v) c, ← ez, ne_eqb z 0 h)

          pub by-lists : z ≡ 0 → lists_fault t v ≡ fault_of v
          unfolding fault_of
          by-lists h = rw (le-leb trailer_size (length v) a, le-leb (length v) most_value b, known, size, le-leb t (length v) c, ← ez, eq-eqb z 0 h)

  -- ---- no rule is broken exactly by a recipe
  abbrev wrap-fills : Bool
  wrap-fills = list_fills most_setpoints (count_of v) (distance_of v) (trailer_of (format_of v)) v

  abbrev core-fills : Bool
  core-fills = list_fills most_setpoints (core_count_of v) (core_distance_of v) (distance_of v) v

  abbrev from-pad : Bool
  from-pad = eqb (pad_of v) 0 && (wrap-fills && core-fills)

  abbrev from-format : Bool
  from-format = knows ours (format_of v) && (leb (trailer_of (format_of v)) (length v) && from-pad)

  one_by_one : is_ok (fault_of v) ≡ (leb trailer_size (length v) && (leb (length v) most_value && from-format))
  unfolding fault_of is_known lists_fault
  one_by_one =
      good-unless (leb trailer_size (length v)) _ _ _ _
      ∙ ap (λ (b : Bool). leb trailer_size (length v) && b)
      (good-unless (leb (length v) most_value) _ _ _ _
      ∙ ap (λ (b : Bool). leb (length v) most_value && b)
      (good-unless (knows ours (format_of v)) _ _ _ _
      ∙ ap (λ (b : Bool). knows ours (format_of v) && b)
      (good-unless (leb (trailer_of (format_of v)) (length v)) _ _ _ _
      ∙ ap (λ (b : Bool). leb (trailer_of (format_of v)) (length v) && b)
      (good-unless (eqb (pad_of v) 0) _ _ _ _
      ∙ ap (λ (b : Bool). eqb (pad_of v) 0 && b)
      (both-good _ _ ∙ ap₂ ◌&&◌ (list-good Wrap v _ _ _) (list-good Core v _ _ _))))))

  to-recipe : (leb trailer_size (length v) && (leb (length v) most_value && from-format)) ≡ true → Recipe ours v
  to-recipe h =
      let h₁ = and_r (leb trailer_size (length v)) _ h in
      let h₂ = and_r (leb (length v) most_value) from-format h₁ in
      let h₃ = and_r (leb (trailer_of (format_of v)) (length v)) from-pad (and_r (knows ours (format_of v)) _ h₂) in
      let h₄ = and_r (eqb (pad_of v) 0) (wrap-fills && core-fills) h₃ in
      record {
        least = leb-true trailer_size (length v) (and_l (leb trailer_size (length v)) _ h);
        most = leb-true (length v) most_value (and_l (leb (length v) most_value) from-format h₁);
        format = and_l (knows ours (format_of v)) _ h₂;
        pad = eqb-true (pad_of v) 0 (and_l (eqb (pad_of v) 0) (wrap-fills && core-fills) h₃);
        wrap = filled most_setpoints v _ _ _ (and_l wrap-fills core-fills h₄);
        core = filled most_setpoints v _ _ _ (and_r wrap-fills core-fills h₄);
      }

  from-recipe : Recipe ours v → (leb trailer_size (length v) && (leb (length v) most_value && from-format)) ≡ true
  from-recipe g =
      and_i (leb trailer_size (length v)) _ (le-leb trailer_size (length v) g.least)
      (and_i (leb (length v) most_value) from-format (le-leb (length v) most_value g.most)
      (and_i (knows ours (format_of v)) _ g.format
      (and_i (leb (trailer_of (format_of v)) (length v)) from-pad (le-leb (trailer_of (format_of v)) (length v) (omega (arith, g.wrap.near, g.wrap.far)))
      (and_i (eqb (pad_of v) 0) (wrap-fills && core-fills) (eq-eqb (pad_of v) 0 g.pad)
      (and_i wrap-fills core-fills (filling most_setpoints v _ _ _ g.wrap) (filling most_setpoints v _ _ _ g.core))))))

  pub fault-or-recipe : is_ok (fault_of v) ≡ is_recipe v
  fault-or-recipe = one_by_one ∙ same_way _ (is_recipe v) (λ h. is_ours v (to-recipe h)) (λ h. from-recipe (our-recipe v h))

-- How long a recipe may be, and what is asked of it format by format. Assumes nothing.
use Prim.Native.Nat.{ℕ, zero, suc, ◌+◌, ◌-◌, ◌/◌, ◌%◌, ◌≤◌}
use mathlib.Core.Path.{◌≡◌, refl, sym, ap, ◌∙◌, subst}
use mathlib.Core.Logic.{⊎_elim}
use mathlib.Core.Bool.{Bool, true, false, cond, ◌&&◌, ◌||◌}
use mathlib.Core.List.{List, [], ◌∷◌, ◌++◌}
use native.Mathlib.Omega.{arith}
use lib.ListN.{length, drop, replicate}
use lib.Dec.{ltb, leb, eqb}
use lib.IntN.{ℤ}
use borrow.Author.Tests.{le-leb, leb-true, eq-eqb, eqb-true}
use Rattle.std.specs.Prelude.{Option, Some, None}
use Rattle.octets.specs.Octets.{part, little_number}
use Rattle.octets.specs.Search.{all_of}
use Rattle.octets.proofs.Bools.{same_way, not-both, to-false, and_l, and_r, and_i, or-e, or_l, or_r, all-on, all_none, all_head, all_rest}
use Rattle.limits.specs.Limits.{most_value}
use Rattle.recipe.specs.Limits.{trailer_size, format_one, format_two}
use Rattle.recipe.specs.declared.Point.{Point}
use Rattle.recipe.specs.Recipe.{Setpoints, These, NoList, on_point, trim_of, zigzag_of, continued, varint, point, and_then, setpoints, in_range, no_leap, follows, rules, ruled, is_list}
use Rattle.recipe.specs.declared.Setpoint.{Setpoint}
use Rattle.recipe.specs.Recipe.{from_end, distance_of, count_of, format_of, trailer_of, core_distance_of, core_count_of, pad_of, list_fills, Bounds, knows, recipe_within, ours, is_recipe}
use Rattle.recipe.specs.Claims.{Counted, LongestRecipes, format_one_kept, second_distance, second_count, format_two_kept, InNumbers, BoundsAlone, OneAlone}
use Rattle.recipe.proofs.Trailer.{Filled, Recipe, recipe-is, is-recipe, our-recipe, our-format, is_ours, recipe-least, recipe-most}

-- ---- bounds alone
-- four tests that hold
abbrev four : (p q r t : Bool) → List Bool
four p q r t = p ∷ q ∷ r ∷ t ∷ []

all-four : (p q r t : Bool) → p ≡ true → q ≡ true → r ≡ true → t ≡ true → all_of (four p q r t) ≡ true
all-four p q r t a b c d = all-on p (q ∷ r ∷ t ∷ []) a ∙ all-on q (r ∷ t ∷ []) b ∙ all-on r (t ∷ []) c ∙ all-on t [] d ∙ all_none

-- what is filled by at most so many, by at most more
more : {m n : ℕ} → m ≤ n → {v : List ℕ} {c d e : ℕ} → Filled m v c d e → Filled n v c d e
more h g = record { near = g.near; far = g.far; few = omega (arith, h, g.few); list = g.list }

fewer : {m n : ℕ} {v : List ℕ} {c d e : ℕ} → c ≤ n → Filled m v c d e → Filled n v c d e
fewer h g = record { near = g.near; far = g.far; few = h; list = g.list }

module _ (a b : Bounds) (hb : a.bytes ≤ b.bytes) (hp : a.points ≤ b.points) (ht : a.two ≡ true → b.two ≡ true) (v : List ℕ) where
  abbrev under : List Bool
  under = four (leb (length v) a.bytes) (leb (count_of v) a.points) (leb (core_count_of v) a.points) (knows a (format_of v))

  knows_more : knows a (format_of v) ≡ true → knows b (format_of v) ≡ true
  knows_more h =
      ⊎_elim (λ e. or_l (eqb (format_of v) format_one) (b.two && eqb (format_of v) format_two) e)
      (λ e. or_r (eqb (format_of v) format_one) (b.two && eqb (format_of v) format_two)
      (and_i b.two (eqb (format_of v) format_two) (ht (and_l a.two (eqb (format_of v) format_two) e)) (and_r a.two (eqb (format_of v) format_two) e)))
      (or-e (eqb (format_of v) format_one) (a.two && eqb (format_of v) format_two) h)

  weaker : Recipe a v → Recipe b v
  weaker g =
      record {
        least = g.least;
        most = omega (arith, hb, g.most);
        format = knows_more g.format;
        pad = g.pad;
        wrap = more hp g.wrap;
        core = more hp g.core;
      }

  within_both : Recipe a v → (recipe_within b v && all_of under) ≡ true
  within_both g =
      and_i (recipe_within b v) (all_of under) (is-recipe b v (weaker g))
      (all-four _ _ _ _ (le-leb (length v) a.bytes g.most) (le-leb (count_of v) a.points g.wrap.few) (le-leb (core_count_of v) a.points g.core.few) g.format)

  back-within : Recipe b v → all_of under ≡ true → Recipe a v
  back-within g h =
      let h₁ = all_rest (leb (length v) a.bytes) _ h in
      let h₂ = all_rest (leb (count_of v) a.points) _ h₁ in
      let h₃ = all_rest (leb (core_count_of v) a.points) _ h₂ in
      record {
        least = g.least;
        most = leb-true (length v) a.bytes (all_head (leb (length v) a.bytes) _ h);
        format = all_head (knows a (format_of v)) [] h₃;
        pad = g.pad;
        wrap = fewer (leb-true (count_of v) a.points (all_head (leb (count_of v) a.points) _ h₁)) g.wrap;
        core = fewer (leb-true (core_count_of v) a.points (all_head (leb (core_count_of v) a.points) _ h₂)) g.core;
      }

pub bounds-alone : BoundsAlone
bounds-alone a b hb hp ht v =
    same_way (recipe_within a v) (recipe_within b v && all_of (under a b hb hp ht v))
    (λ h. within_both a b hb hp ht v (recipe-is a v h))
    (λ h. is-recipe a v (back-within a b hb hp ht v (recipe-is b v (and_l (recipe_within b v) _ h)) (and_r (recipe_within b v) _ h)))

-- ---- format 1 alone
pub one-alone : OneAlone
one-alone b v h f = to-false (recipe_within b v) (λ r. not-both (knows b (format_of v)) (recipe-is b v r).format none)
  where
    none : knows b (format_of v) ≡ false
    none = rw (f, h) refl

-- ---- the longest recipes: a note of zeros, lists of 400 setpoints of trim 0, one for each turn from 0 on, and a trailer
-- so many setpoints up to turn 399
points_to : ℕ → List ℕ
points_to zero = []
points_to (suc n) = cond (ltb (399 - n) 128) ((399 - n) ∷ 0 ∷ points_to n) (((399 - n) % 128 + 128) ∷ ((399 - n) / 128) ∷ 0 ∷ points_to n)

longest : List ℕ
longest = replicate 1984 0 ++ (points_to 400 ++ (0x40 ∷ 0x04 ∷ 0x00 ∷ 0x00 ∷ 0x90 ∷ 0x01 ∷ 0x01 ∷ 0x00 ∷ 0x07 ∷ 0x00 ∷ 0x00 ∷ 0x00 ∷ 0x00 ∷ 0x00 ∷ 0x00 ∷ 0x00 ∷ []))

longest-is : is_recipe longest ≡ true
unfolding longest points_to little_number all_of trim_of zigzag_of continued varint point and_then setpoints in_range no_leap follows rules ruled is_list distance_of count_of format_of trailer_of core_distance_of core_count_of pad_of list_fills recipe_within is_recipe
longest-is = refl

-- two lists of 1,072 bytes, so the distances are 1,096 and 2,168
longest_two : List ℕ
longest_two =
    replicate 904 0
    ++ (points_to 400
    ++ (points_to 400
    ++ (0x78 ∷ 0x08 ∷ 0x00 ∷ 0x00 ∷ 0x90 ∷ 0x01 ∷ 0x00 ∷ 0x00 ∷ 0x48 ∷ 0x04 ∷ 0x00 ∷ 0x00 ∷ 0x90 ∷ 0x01 ∷ 0x02 ∷ 0x00 ∷ 0x07 ∷ 0x00 ∷ 0x00 ∷ 0x00 ∷ 0x00 ∷ 0x00 ∷ 0x00 ∷ 0x00 ∷ [])))

longest-two-is : is_recipe longest_two ≡ true
unfolding longest_two points_to little_number all_of trim_of zigzag_of continued varint point and_then setpoints in_range no_leap follows rules ruled is_list distance_of count_of format_of trailer_of core_distance_of core_count_of pad_of list_fills recipe_within is_recipe
longest-two-is = refl

least-two : (v : List ℕ) → is_recipe v ≡ true → format_of v ≡ format_two → 24 ≤ length v
unfolding trailer_of
least-two v h f =
    let g = our-recipe v h in
    let t : trailer_of (format_of v) ≡ 24 = rw (eq-eqb (format_of v) format_two f) refl in
    omega (arith, g.wrap.near, g.wrap.far, t)

pub longest-recipes : LongestRecipes
unfolding longest longest_two points_to little_number count_of core_count_of format_of
longest-recipes = record {
  bytes = λ v h. (recipe-least v h, recipe-most v h);
  least = least-two;
  points = λ v h. ((our-recipe v h).wrap.few, (our-recipe v h).core.few);
  one = (longest, longest-is, refl, refl, refl);
  two = (longest_two, longest-two-is, refl, refl, refl, refl);
}

-- ---- so many setpoints
these-are : {ps qs : List Setpoint} → These ps ≡ These qs → ps ≡ qs
these-are e = cc

no-list : {ps : List Setpoint} → NoList ≡ These ps → ⊥
no-list e = let z : ◌≡◌ {A = ℕ} 0 1 = cc in omega arith

-- what stands after a setpoint, and the setpoint before it
one_more : (n turn : ℕ) (trim : ℤ) (x : Setpoints) → ((qs : List Setpoint) → x ≡ These qs → length qs ≡ n) → (ps : List Setpoint) → and_then turn trim x ≡ These ps → length ps ≡ suc n
unfolding and_then
one_more n turn trim (These qs) h ps e = ap length (sym (these-are e)) ∙ ap suc (h qs refl)
one_more n turn trim NoList h ps e = absurd (no-list e)

pub counted : Counted
unfolding setpoints
counted zero [] ps e = ap length (sym (these-are e))
counted zero (b ∷ s) ps e = absurd (no-list e)
counted (suc n) s ps e = go (counted n) (point s) e
  where
    go : ((t : List ℕ) (qs : List Setpoint) → setpoints n t ≡ These qs → length qs ≡ n) → (p : Option Point)
        → on_point p (λ turn trim k. and_then turn trim (setpoints n (drop k s))) NoList ≡ These ps → length ps ≡ suc n
    go h (Some p) q = one_more n p.turn p.trim (setpoints n (drop p.size s)) (h (drop p.size s)) ps q
    go h None q = absurd (no-list q)

-- ---- in numbers
-- no setpoints fill no bytes
empty-list : (v : List ℕ) (n : ℕ) → is_list 0 (part v n n) ≡ true
unfolding is_list ruled setpoints rules
empty-list v n = let z : n - n ≡ 0 = omega arith in rw z refl

module _ (v : List ℕ) where
  -- a value of format 1 has an empty core, and nothing to pad
  module _ (f : format_of v ≡ 1) where
    not-two : eqb (format_of v) format_two ≡ false
    not-two = rw f refl

    trailer-one : trailer_of (format_of v) ≡ 16
    unfolding trailer_of
    trailer-one = rw not-two refl

    core-none : core_count_of v ≡ 0
    unfolding core_count_of
    core-none = rw not-two refl

    core-there : core_distance_of v ≡ distance_of v
    unfolding core_distance_of
    core-there = rw not-two refl

    no-pad : pad_of v ≡ 0
    unfolding pad_of
    no-pad = rw not-two refl

  -- of format 2 they are what the trailer says
  module _ (f : format_of v ≡ 2) where
    yes-two : eqb (format_of v) format_two ≡ true
    yes-two = rw f refl

    trailer-two : trailer_of (format_of v) ≡ 24
    unfolding trailer_of
    trailer-two = rw yes-two refl

    core-second : core_count_of v ≡ second_count v
    unfolding core_count_of
    core-second = rw yes-two refl

    core-back : core_distance_of v ≡ second_distance v
    unfolding core_distance_of
    core-back = rw yes-two refl

    pad-two : pad_of v ≡ little_number (from_end 18 16 v)
    unfolding pad_of
    pad-two = rw yes-two refl

  -- from the facts of a recipe to the tests of its format, and back
  kept-one : format_of v ≡ 1 → Recipe ours v → format_one_kept v ≡ true
  kept-one f g =
      let t = trailer-one f in
      all-on (eqb (format_of v) 1) _ (eq-eqb (format_of v) 1 f)
      ∙ all-four (leb 16 (distance_of v)) (leb (distance_of v) (length v)) (leb (count_of v) 400) (is_list (count_of v) (from_end (distance_of v) 16 v))
      (le-leb 16 (distance_of v) (omega (arith, g.wrap.near, t))) (le-leb (distance_of v) (length v) g.wrap.far) (le-leb (count_of v) 400 g.wrap.few)
      (subst (λ (e : ℕ). is_list (count_of v) (from_end (distance_of v) e v) ≡ true) t g.wrap.list)

  abbrev two-lists : List Bool
  two-lists = four (leb (count_of v) 400) (leb (second_count v) 400) (is_list (count_of v) (from_end (distance_of v) 24 v)) (is_list (second_count v) (from_end (second_distance v) (distance_of v) v))

  core-list : format_of v ≡ 2 → is_list (core_count_of v) (from_end (core_distance_of v) (distance_of v) v) ≡ is_list (second_count v) (from_end (second_distance v) (distance_of v) v)
  core-list f =
      ap (λ (n : ℕ). is_list n (from_end (core_distance_of v) (distance_of v) v)) (core-second f)
      ∙ ap (λ (d : ℕ). is_list (second_count v) (from_end d (distance_of v) v)) (core-back f)

  kept-two : format_of v ≡ 2 → Recipe ours v → format_two_kept v ≡ true
  kept-two f g =
      let t = trailer-two f in
      let n = core-second f in
      let d = core-back f in
      all-on (eqb (format_of v) 2) _ (eq-eqb (format_of v) 2 f)
      ∙ all-on (eqb (little_number (from_end 18 16 v)) 0) _ (eq-eqb (little_number (from_end 18 16 v)) 0 (sym (pad-two f) ∙ g.pad))
      ∙ all-on (leb 24 (distance_of v)) _ (le-leb 24 (distance_of v) (omega (arith, g.wrap.near, t)))
      ∙ all-on (leb (distance_of v) (second_distance v)) _ (le-leb (distance_of v) (second_distance v) (omega (arith, g.core.near, d)))
      ∙ all-on (leb (second_distance v) (length v)) _ (le-leb (second_distance v) (length v) (omega (arith, g.core.far, d)))
      ∙ all-four _ _ _ _ (le-leb (count_of v) 400 g.wrap.few) (le-leb (second_count v) 400 (omega (arith, g.core.few, n)))
      (subst (λ (e : ℕ). is_list (count_of v) (from_end (distance_of v) e v) ≡ true) t g.wrap.list) (sym (core-list f) ∙ g.core.list)

  module _ (least : trailer_size ≤ length v) (most : length v ≤ most_value) where
    back_one : format_one_kept v ≡ true → Recipe ours v
    back_one h =
        let f : format_of v ≡ 1 = eqb-true (format_of v) 1 (all_head (eqb (format_of v) 1) _ h) in
        let h₁ = all_rest (eqb (format_of v) 1) _ h in
        let h₂ = all_rest (leb 16 (distance_of v)) _ h₁ in
        let h₃ = all_rest (leb (distance_of v) (length v)) _ h₂ in
        let l : is_list (count_of v) (from_end (distance_of v) 16 v) ≡ true = all_head (is_list (count_of v) (from_end (distance_of v) 16 v)) [] (all_rest (leb (count_of v) 400) _ h₃) in
        let far : distance_of v ≤ length v = leb-true (distance_of v) (length v) (all_head (leb (distance_of v) (length v)) _ h₂) in
        let t = trailer-one f in
        record {
          least = least;
          most = most;
          format = or_l (eqb (format_of v) format_one) _ (eq-eqb (format_of v) format_one f);
          pad = no-pad f;
          wrap =
              record {
                near = omega (arith, t, leb-true 16 (distance_of v) (all_head (leb 16 (distance_of v)) _ h₁));
                far = far;
                few = leb-true (count_of v) 400 (all_head (leb (count_of v) 400) _ h₃);
                list = subst (λ (e : ℕ). is_list (count_of v) (from_end (distance_of v) e v) ≡ true) (sym t) l;
              };
          core = rw (core-none f, core-there f) (record { near = omega arith; far = far; few = omega arith; list = empty-list v (length v - distance_of v) });
        }

    back-two : format_two_kept v ≡ true → Recipe ours v
    back-two h =
        let f : format_of v ≡ 2 = eqb-true (format_of v) 2 (all_head (eqb (format_of v) 2) _ h) in
        let h₁ = all_rest (eqb (format_of v) 2) _ h in
        let h₂ = all_rest (eqb (little_number (from_end 18 16 v)) 0) _ h₁ in
        let h₃ = all_rest (leb 24 (distance_of v)) _ h₂ in
        let h₄ = all_rest (leb (distance_of v) (second_distance v)) _ h₃ in
        let h₅ = all_rest (leb (second_distance v) (length v)) two-lists h₄ in
        let h₆ = all_rest (leb (count_of v) 400) _ h₅ in
        let h₇ = all_rest (leb (second_count v) 400) _ h₆ in
        let near = leb-true (distance_of v) (second_distance v) (all_head (leb (distance_of v) (second_distance v)) _ h₃) in
        let far = leb-true (second_distance v) (length v) (all_head (leb (second_distance v) (length v)) two-lists h₄) in
        let w = all_head (is_list (count_of v) (from_end (distance_of v) 24 v)) _ h₇ in
        let c = all_head (is_list (second_count v) (from_end (second_distance v) (distance_of v) v)) [] (all_rest (is_list (count_of v) (from_end (distance_of v) 24 v)) _ h₇) in
        let t = trailer-two f in
        record {
          least = least;
          most = most;
          format = or_r (eqb (format_of v) format_one) _ (eq-eqb (format_of v) format_two f);
          pad = pad-two f ∙ eqb-true (little_number (from_end 18 16 v)) 0 (all_head (eqb (little_number (from_end 18 16 v)) 0) _ h₁);
          wrap =
              record {
                near = omega (arith, t, leb-true 24 (distance_of v) (all_head (leb 24 (distance_of v)) _ h₂));
                far = omega (arith, near, far);
                few = leb-true (count_of v) 400 (all_head (leb (count_of v) 400) _ h₅);
                list = subst (λ (e : ℕ). is_list (count_of v) (from_end (distance_of v) e v) ≡ true) (sym t) w;
              };
          core =
              record {
                near = omega (arith, core-back f, near);
                far = omega (arith, core-back f, far);
                few = omega (arith, core-second f, leb-true (second_count v) 400 (all_head (leb (second_count v) 400) _ h₆));
                list = core-list f ∙ c;
              };
        }

  abbrev by-format : List Bool
  by-format = (format_one_kept v || format_two_kept v) ∷ []

  to-numbers : Recipe ours v → all_of (leb 16 (length v) ∷ leb (length v) 3072 ∷ by-format) ≡ true
  to-numbers g =
      all-on (leb 16 (length v)) _ (le-leb 16 (length v) g.least)
      ∙ all-on (leb (length v) 3072) by-format (le-leb (length v) 3072 g.most)
      ∙ all-on (format_one_kept v || format_two_kept v) []
      (⊎_elim (λ f. or_l (format_one_kept v) (format_two_kept v) (kept-one f g)) (λ f. or_r (format_one_kept v) (format_two_kept v) (kept-two f g)) (our-format v g))
      ∙ all_none

  from-numbers : all_of (leb 16 (length v) ∷ leb (length v) 3072 ∷ by-format) ≡ true → Recipe ours v
  from-numbers h =
      let h₁ = all_rest (leb 16 (length v)) _ h in
      let least = leb-true 16 (length v) (all_head (leb 16 (length v)) _ h) in
      let most = leb-true (length v) 3072 (all_head (leb (length v) 3072) by-format h₁) in
      ⊎_elim (back_one least most) (back-two least most)
      (or-e (format_one_kept v) (format_two_kept v) (all_head (format_one_kept v || format_two_kept v) [] (all_rest (leb (length v) 3072) by-format h₁)))

pub in-numbers : InNumbers
in-numbers v = same_way (is_recipe v) _ (λ h. to-numbers v (our-recipe v h)) (λ h. is_ours v (from-numbers v h))

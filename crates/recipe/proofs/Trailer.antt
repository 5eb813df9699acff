-- Laws of a whole value: the numbers of its trailer, and the facts that make it a recipe. Assumes nothing.
use Prim.Native.Nat.{ℕ, ◌+◌, ◌-◌, ◌*◌, ◌^◌, ◌≤◌, ◌<◌}
use mathlib.Core.Path.{◌≡◌, sym, ap, subst, ◌∙◌}
use mathlib.Core.Logic.{◌⊎◌, inl, inr, ⊎_elim}
use mathlib.Core.List.{List, [], ◌∷◌, ◌++◌, append-nil, append_assoc}
use mathlib.Core.Bool.{Bool, true, cond}
use native.Mathlib.Omega.{arith}
use native.Mathlib.Nat.{pow-le-pow_right}
use lib.ListN.{length, drop, length-take, length-drop, length-append}
use lib.Seq.{drop-append_seam}
use lib.Dec.{leb, eqb, lit<}
use borrow.Author.Tests.{le-leb, eq-eqb, ne_eqb, leb-true, eqb-true}
use Rattle.octets.specs.Octets.{Bytes, part, little_number}
use Rattle.octets.proofs.Bools.{all-on, all_none, all_head, all_rest, or-e}
use Rattle.octets.proofs.Parts.{bytes_drop}
use Rattle.octets.proofs.Numbers.{little-lt}
use Rattle.limits.specs.Limits.{most_value}
use Rattle.recipe.specs.Limits.{trailer_size, format_one, format_two}
use Rattle.recipe.specs.Recipe.{from_end, distance_of, count_of, format_of, is_two, trailer_of, core_distance_of, core_count_of, pad_of, is_list, list_fills, Bounds, knows, recipe_within, ours, is_recipe}

-- ---- numbers with the lowest byte first, read from the last byte on, as `little` does
-- what is left to read, and the bytes that have been read, whose number is n
pub record Little (s rest : List ℕ) (n : ℕ) : Type 0 where
  pub read : List ℕ
  pub all : s ≡ rest ++ read
  pub is : n ≡ little_number read

pub little-start : {s rest : List ℕ} → rest ≡ s → Little s rest 0
unfolding little_number
little-start {s} e = record { read = []; all = sym (append-nil _ ∙ e); is = λ i. 0 }

module _ {s rest : List ℕ} {n : ℕ} (g : Little s rest n) where
  -- seven bytes leave room for one more
  pub little-fits : Bytes s → length s ≤ 8 → (before : List ℕ) (b : ℕ) → rest ≡ before ++ (b ∷ []) → n < 2 ^ 56
  little-fits b h before x p =
      let l : length s ≡ length rest + length g.read = ap length g.all ∙ length-append rest g.read in
      let m : length rest ≡ length before + 1 = ap length p ∙ length-append before (x ∷ []) in
      let d : drop (length rest) s ≡ g.read = ap (λ (x : List ℕ). drop (length rest) x) g.all ∙ drop-append_seam rest g.read in
      let f : Bytes g.read = subst Bytes d (bytes_drop (length rest) s b) in
      let k : length g.read ≤ 7 = omega arith in
      omega (arith, g.is, little-lt g.read f, pow-le-pow_right {n = 256} (lit< tt) k)

  pub little-on : (before : List ℕ) (b : ℕ) → rest ≡ before ++ (b ∷ []) → Little s before (n * 256 + b)
  unfolding little_number
  little-on before b e =
      record {
        read = b ∷ g.read;
        all = g.all ∙ ap (λ (x : List ℕ). x ++ g.read) e ∙ append_assoc before (b ∷ []) g.read;
        is = omega (arith, g.is);
      }

  pub little-done : length rest ≡ 0 → n ≡ little_number s
  little-done z = g.is ∙ ap little_number (sym (go rest g.all z))
    where
      go : (r : List ℕ) → s ≡ r ++ g.read → length r ≡ 0 → s ≡ g.read
      go [] e z = e
      go (x ∷ r) e z = absurd (omega arith)

-- ---- parts of a value
-- the length of a part that the code cuts out
pub part-few : (v : List ℕ) (d e : ℕ) → length (from_end d e v) ≤ d - e
part-few v d e = simp (length-take, length-drop) (omega arith)

-- of the positions that the code has worked out
pub number-few : (v : List ℕ) (d e : ℕ) → d ≤ e + 8 → {a b : ℕ} → a ≡ length v - d → b ≡ length v - e → length (part v a b) ≤ 8
number-few v d e h {a} {b} ea eb = rw (ea, eb) (omega (arith, part-few v d e))

pub number-here : (v : List ℕ) (d e : ℕ) {a b : ℕ} → a ≡ length v - d → b ≡ length v - e → {r : ℕ} → r ≡ little_number (part v a b) → r ≡ little_number (from_end d e v)
number-here v d e ea eb q = q ∙ rw (ea, eb)

-- ---- what a list that fills its room gives
pub record Filled (most : ℕ) (v : List ℕ) (n d e : ℕ) : Type 0 where
  pub near : e ≤ d
  pub far : d ≤ length v
  pub few : n ≤ most
  pub list : is_list n (from_end d e v) ≡ true

module _ (most : ℕ) (v : List ℕ) (n d e : ℕ) where
  abbrev count-test : List Bool
  count-test = leb n most ∷ is_list n (from_end d e v) ∷ []

  abbrev far-test : List Bool
  far-test = leb d (length v) ∷ count-test

  pub filled : list_fills most n d e v ≡ true → Filled most v n d e
  unfolding list_fills
  filled h =
      let h₁ = all_rest (leb e d) far-test h in
      let h₂ = all_rest (leb d (length v)) count-test h₁ in
      record {
        near = leb-true e d (all_head (leb e d) far-test h);
        far = leb-true d (length v) (all_head (leb d (length v)) count-test h₁);
        few = leb-true n most (all_head (leb n most) _ h₂);
        list = all_head (is_list n (from_end d e v)) [] (all_rest (leb n most) _ h₂);
      }

  pub filling : Filled most v n d e → list_fills most n d e v ≡ true
  unfolding list_fills
  filling g =
      all-on (leb e d) far-test (le-leb e d g.near)
      ∙ all-on (leb d (length v)) count-test (le-leb d (length v) g.far)
      ∙ all-on (leb n most) _ (le-leb n most g.few)
      ∙ all-on (is_list n (from_end d e v)) [] g.list
      ∙ all_none

-- ---- the first half of the trailer of format 2
module _ (v : List ℕ) where
  pub second-two : {A : Type 0} (x y : A) → format_of v ≡ format_two → x ≡ cond (is_two v) x y
  second-two x y h = rw (eq-eqb (format_of v) format_two h)

  pub second-one : {A : Type 0} (x y : A) → (format_of v ≡ format_two → ⊥) → y ≡ cond (is_two v) x y
  second-one x y h = rw (ne_eqb (format_of v) format_two h)

-- ---- what makes a value a recipe within bounds, one fact after another
pub record Recipe (b : Bounds) (v : List ℕ) : Type 0 where
  pub least : trailer_size ≤ length v
  pub most : length v ≤ b.bytes
  pub format : knows b (format_of v) ≡ true
  pub pad : pad_of v ≡ 0
  pub wrap : Filled b.points v (count_of v) (distance_of v) (trailer_of (format_of v))
  pub core : Filled b.points v (core_count_of v) (core_distance_of v) (distance_of v)

module _ (b : Bounds) (v : List ℕ) where
  abbrev wrap-is : Bool
  wrap-is = list_fills b.points (count_of v) (distance_of v) (trailer_of (format_of v)) v

  abbrev core_is : Bool
  core_is = list_fills b.points (core_count_of v) (core_distance_of v) (distance_of v) v

  abbrev tests-3 : List Bool
  tests-3 = eqb (pad_of v) 0 ∷ wrap-is ∷ core_is ∷ []

  abbrev tests-2 : List Bool
  tests-2 = knows b (format_of v) ∷ tests-3

  abbrev tests-1 : List Bool
  tests-1 = leb (length v) b.bytes ∷ tests-2

  pub recipe-is : recipe_within b v ≡ true → Recipe b v
  unfolding recipe_within
  recipe-is h =
      let h₁ = all_rest (leb trailer_size (length v)) tests-1 h in
      let h₂ = all_rest (leb (length v) b.bytes) tests-2 h₁ in
      let h₃ = all_rest (knows b (format_of v)) tests-3 h₂ in
      let h₄ = all_rest (eqb (pad_of v) 0) (wrap-is ∷ core_is ∷ []) h₃ in
      record {
        least = leb-true trailer_size (length v) (all_head (leb trailer_size (length v)) tests-1 h);
        most = leb-true (length v) b.bytes (all_head (leb (length v) b.bytes) tests-2 h₁);
        format = all_head (knows b (format_of v)) tests-3 h₂;
        pad = eqb-true (pad_of v) 0 (all_head (eqb (pad_of v) 0) (wrap-is ∷ core_is ∷ []) h₃);
        wrap = filled b.points v (count_of v) (distance_of v) (trailer_of (format_of v)) (all_head wrap-is (core_is ∷ []) h₄);
        core = filled b.points v (core_count_of v) (core_distance_of v) (distance_of v) (all_head core_is [] (all_rest wrap-is (core_is ∷ []) h₄));
      }

  pub is-recipe : Recipe b v → recipe_within b v ≡ true
  unfolding recipe_within
  is-recipe g =
      all-on (leb trailer_size (length v)) tests-1 (le-leb trailer_size (length v) g.least)
      ∙ all-on (leb (length v) b.bytes) tests-2 (le-leb (length v) b.bytes g.most)
      ∙ all-on (knows b (format_of v)) tests-3 g.format
      ∙ all-on (eqb (pad_of v) 0) (wrap-is ∷ core_is ∷ []) (eq-eqb (pad_of v) 0 g.pad)
      ∙ all-on wrap-is (core_is ∷ []) (filling b.points v (count_of v) (distance_of v) (trailer_of (format_of v)) g.wrap)
      ∙ all-on core_is [] (filling b.points v (core_count_of v) (core_distance_of v) (distance_of v) g.core)
      ∙ all_none

-- the same within our bounds
pub our-recipe : (v : List ℕ) → is_recipe v ≡ true → Recipe ours v
unfolding is_recipe
our-recipe v h = recipe-is ours v h

pub our-format : (v : List ℕ) → Recipe ours v → (format_of v ≡ format_one) ⊎ (format_of v ≡ format_two)
our-format v g =
    ⊎_elim (λ e. inl (eqb-true (format_of v) format_one e)) (λ e. inr (eqb-true (format_of v) format_two e))
    (or-e (eqb (format_of v) format_one) (is_two v) g.format)

pub is_ours : (v : List ℕ) → Recipe ours v → is_recipe v ≡ true
unfolding is_recipe
is_ours v g = is-recipe ours v g

pub recipe-least : (v : List ℕ) → is_recipe v ≡ true → trailer_size ≤ length v
recipe-least v h = (our-recipe v h).least

pub recipe-most : (v : List ℕ) → is_recipe v ≡ true → length v ≤ most_value
recipe-most v h = (our-recipe v h).most

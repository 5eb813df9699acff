-- Which rule given fields break: what each test of the code tells, and that no rule is broken exactly by fields that some recipe has. Assumes nothing.
use Prim.Native.Nat.{ℕ, suc, ◌+◌, ◌^◌, ◌≤◌, ◌<◌}
use mathlib.Core.Path.{◌≡◌, refl, sym, ap, ◌∙◌}
use mathlib.Core.Logic.{◌⊎◌, inl, inr, ⊎_elim}
use mathlib.Core.List.{List, [], ◌∷◌}
use mathlib.Core.Bool.{Bool, true, false, ◌&&◌}
use native.Mathlib.Omega.{arith}
use lib.ListN.{length}
use lib.Dec.{ltb, leb, eqb}
use lib.IntN.{ℤ}
use borrow.Author.Tests.{le-leb, lt-leb, lt-ltb, leb-true, eq-eqb, ne_eqb, eqb-true}
use Rattle.std.specs.Prelude.{None, Result, Ok, Err, ⊤, is_ok}
use Rattle.octets.specs.Search.{all_of}
use Rattle.octets.proofs.Bools.{same_way, and_i, and_l, and_r, and-on, and-off, or-e, or_l, or_r, or_off, all_none, all-one-more, all_head, all_rest}
use Rattle.limits.specs.Limits.{most_value, most_setpoints}
use Rattle.recipe.specs.Limits.{format_one, format_two}
use Rattle.recipe.specs.Recipe.{rules, trailer_of}
use Rattle.recipe.specs.Faults.{broken, unless, first_of, points_fault, is_known}
use Rattle.recipe.specs.declared.Rule.TheVariants.{TooLong, UnknownFormat, CoreInFormatOne, TooManySetpoints, Unpaired}
use Rattle.recipe.specs.declared.Part.{Part}
use Rattle.recipe.specs.declared.Part.TheVariants.{Whole, Wrap, Core}
use Rattle.recipe.specs.declared.Breach.{Breach}
use Rattle.recipe.proofs.Faults.{stops, goes_on, both-good, good-unless, points-good}
use Rattle.recipe_fields.specs.Fields.{Fields, list_bytes, wrap_back, core_back, bytes_of, has_format, is_writable}
use Rattle.recipe_fields.specs.Writing.{Given, given, pairs, fields_in, pairs_fault, core_fits, size_of, given_fault}
use Rattle.recipe_fields.proofs.Sizes.{size-all}
use Rattle.recipe_fields.proofs.Forth.{writable, format-one, format-two}

-- ---- `core_fits`
module _ (format n m : ℕ) where
  pub fits-two : format ≡ format_two → true ≡ core_fits format n m
  unfolding core_fits
  fits-two e = sym (or_l (eqb format format_two) _ (eq-eqb format format_two e))

  module _ (h : format ≡ format_two → ⊥) where
    fits_one : core_fits format n m ≡ (eqb n 0 && eqb m 0)
    unfolding core_fits
    fits_one = or_off (eqb format format_two) _ (ne_eqb format format_two h)

    pub fits_not : (n ≡ 0 → ⊥) → false ≡ core_fits format n m
    fits_not k = sym (fits_one ∙ and-off (eqb n 0) (eqb m 0) (ne_eqb n 0 k))

    pub fits-none : n ≡ 0 → eqb m 0 ≡ core_fits format n m
    fits-none k = sym (fits_one ∙ and-on (eqb n 0) (eqb m 0) (eq-eqb n 0 k))

-- ---- `pairs_fault`
module _ (part : Part) (ts : List ℕ) (ms : List ℤ) where
  pub unpaired : (length ts ≡ length ms → ⊥) → broken Unpaired part 0 ≡ pairs_fault part ts ms
  unfolding pairs_fault
  unpaired h = rw (ne_eqb (length ts) (length ms) h)

  pub too_many : length ts ≡ length ms → most_setpoints < length ts → broken TooManySetpoints part 0 ≡ pairs_fault part ts ms
  unfolding pairs_fault
  too_many e h = rw (eq-eqb (length ts) (length ms) e, lt-leb (length ts) most_setpoints h)

  pub by-points : length ts ≡ length ms → length ts ≤ most_setpoints → points_fault part 0 None (pairs ts ms) ≡ pairs_fault part ts ms
  unfolding pairs_fault
  by-points e h = rw (eq-eqb (length ts) (length ms) e, le-leb (length ts) most_setpoints h)

  -- a list that breaks no rule
  pub record Paired : Type 0 where
    pub even : length ts ≡ length ms
    pub few : length ts ≤ most_setpoints
    pub kept : rules None (pairs ts ms) ≡ true

  pairs-good : is_ok (pairs_fault part ts ms) ≡ (eqb (length ts) (length ms) && (leb (length ts) most_setpoints && rules None (pairs ts ms)))
  unfolding pairs_fault
  pairs-good =
      good-unless (eqb (length ts) (length ms)) _ _ _ _
      ∙ ap (λ (b : Bool). eqb (length ts) (length ms) && b)
      (good-unless (leb (length ts) most_setpoints) _ _ _ _ ∙ ap (λ (b : Bool). leb (length ts) most_setpoints && b) (points-good part 0 None (pairs ts ms)))

  pub paired : {w : Result ⊤ Breach} → w ≡ pairs_fault part ts ms → is_ok w ≡ true → Paired
  paired q z =
      let h = sym pairs-good ∙ ap is_ok (sym q) ∙ z in
      let h₁ = and_r (eqb (length ts) (length ms)) (leb (length ts) most_setpoints && rules None (pairs ts ms)) h in
      record {
        even = eqb-true (length ts) (length ms) (and_l (eqb (length ts) (length ms)) _ h);
        few = leb-true (length ts) most_setpoints (and_l (leb (length ts) most_setpoints) _ h₁);
        kept = and_r (leb (length ts) most_setpoints) (rules None (pairs ts ms)) h₁;
      }

  good-pairs : Paired → is_ok (pairs_fault part ts ms) ≡ true
  good-pairs g =
      pairs-good
      ∙ and_i (eqb (length ts) (length ms)) _ (eq-eqb (length ts) (length ms) g.even) (and_i (leb (length ts) most_setpoints) _ (le-leb (length ts) most_setpoints g.few) g.kept)

pub pairs-length : (ts : List ℕ) (ms : List ℤ) → length ts ≡ length ms → length (pairs ts ms) ≡ length ts
unfolding pairs
pairs-length [] ms e = refl
pairs-length (t ∷ ts) [] e = absurd (omega arith)
pairs-length (t ∷ ts) (m ∷ ms) e = ap suc (pairs-length ts ms (omega arith))

-- ---- `given_fault`
module _ (format : ℕ) (note wt : List ℕ) (wm : List ℤ) (ct : List ℕ) (cm : List ℤ) (sequence : ℕ) where
  abbrev g : Given
  g = given format note wt wm ct cm sequence

  abbrev by_size : Result ⊤ Breach
  by_size = unless (leb (size_of (fields_in g)) most_value) (broken TooLong Whole 0) (Ok tt)

  abbrev by-core : Result ⊤ Breach
  by-core = first_of (pairs_fault Core ct cm) by_size

  pub unknown : is_known format ≡ false → broken UnknownFormat Whole 0 ≡ given_fault g
  unfolding given_fault
  unknown h = rw h

  module _ (k : is_known format ≡ true) where
    pub no_room : core_fits format (length ct) (length cm) ≡ false → broken CoreInFormatOne Core 0 ≡ given_fault g
    unfolding given_fault
    no_room h = rw (k, h)

    module _ (f : core_fits format (length ct) (length cm) ≡ true) {w : Result ⊤ Breach} (q : w ≡ pairs_fault Wrap wt wm) where
      from-wrap : first_of w by-core ≡ given_fault g
      unfolding given_fault
      from-wrap = rw (k, f, q) refl

      pub wrap-stops : {b : Breach} → w ≡ Err b → w ≡ given_fault g
      wrap-stops z = sym (stops w by-core (ap is_ok z)) ∙ from-wrap

      module _ {o : ⊤} (z : w ≡ Ok o) {c : Result ⊤ Breach} (p : c ≡ pairs_fault Core ct cm) where
        from-core : first_of c by_size ≡ given_fault g
        from-core = ap (λ (x : Result ⊤ Breach). first_of x by_size) p ∙ sym (goes_on w by-core (ap is_ok z)) ∙ from-wrap

        pub core-stops : {b : Breach} → c ≡ Err b → c ≡ given_fault g
        core-stops y = sym (stops c by_size (ap is_ok y)) ∙ from-core

        module _ {u : ⊤} (y : c ≡ Ok u) where
          from-size : by_size ≡ given_fault g
          from-size = sym (goes_on c by_size (ap is_ok y)) ∙ from-core

          long : most_value < size_of (fields_in g) → broken TooLong Whole 0 ≡ given_fault g
          long h = (rw (lt-leb (size_of (fields_in g)) most_value h)) ∙ from-size

          pub long-note : most_value < length note → broken TooLong Whole 0 ≡ given_fault g
          long-note h = long (omega arith)

          module _ {a b t : ℕ} (ea : a ≡ length (list_bytes (pairs wt wm))) (eb : b ≡ length (list_bytes (pairs ct cm))) (et : t ≡ trailer_of format) where
            size : size_of (fields_in g) ≡ length note + t + (a + b)
            unfolding core_back wrap_back
            size = omega (arith, ea, eb, et)

            pub too_long : most_value < length note + t + (a + b) → broken TooLong Whole 0 ≡ given_fault g
            too_long h = long (omega (arith, size))

            pub none-broken : length note + t + (a + b) ≤ most_value → Ok tt ≡ given_fault g
            none-broken h = (rw (le-leb (size_of (fields_in g)) most_value (omega (arith, size)))) ∙ from-size

  -- ---- no rule is broken: one fact after another
  pub record May : Type 0 where
    pub known : is_known format ≡ true
    pub fits : core_fits format (length ct) (length cm) ≡ true
    pub wrap : Paired Wrap wt wm
    pub core : Paired Core ct cm
    pub most : size_of (fields_in g) ≤ most_value

  abbrev size-test : Bool
  size-test = leb (size_of (fields_in g)) most_value && true

  abbrev lists-test : Bool
  lists-test = is_ok (pairs_fault Wrap wt wm) && (is_ok (pairs_fault Core ct cm) && size-test)

  one_by_one : is_ok (given_fault g) ≡ (is_known format && (core_fits format (length ct) (length cm) && lists-test))
  unfolding given_fault
  one_by_one =
      good-unless (is_known format) _ _ _ _
      ∙ ap (λ (b : Bool). is_known format && b)
      (good-unless (core_fits format (length ct) (length cm)) _ _ _ _
      ∙ ap (λ (b : Bool). core_fits format (length ct) (length cm) && b)
      (both-good (pairs_fault Wrap wt wm) by-core
      ∙ ap (λ (b : Bool). is_ok (pairs_fault Wrap wt wm) && b)
      (both-good (pairs_fault Core ct cm) by_size ∙ ap (λ (b : Bool). is_ok (pairs_fault Core ct cm) && b) (good-unless (leb (size_of (fields_in g)) most_value) _ _ _ _))))

  pub may : is_ok (given_fault g) ≡ true → May
  may z =
      let h = sym one_by_one ∙ z in
      let h₁ = and_r (is_known format) (core_fits format (length ct) (length cm) && lists-test) h in
      let h₂ = and_r (core_fits format (length ct) (length cm)) lists-test h₁ in
      let h₃ = and_r (is_ok (pairs_fault Wrap wt wm)) (is_ok (pairs_fault Core ct cm) && size-test) h₂ in
      let h₄ = and_r (is_ok (pairs_fault Core ct cm)) size-test h₃ in
      record {
        known = and_l (is_known format) (core_fits format (length ct) (length cm) && lists-test) h;
        fits = and_l (core_fits format (length ct) (length cm)) lists-test h₁;
        wrap = paired Wrap wt wm refl (and_l (is_ok (pairs_fault Wrap wt wm)) (is_ok (pairs_fault Core ct cm) && size-test) h₂);
        core = paired Core ct cm refl (and_l (is_ok (pairs_fault Core ct cm)) size-test h₃);
        most = leb-true (size_of (fields_in g)) most_value (and_l (leb (size_of (fields_in g)) most_value) true h₄);
      }

  may-good : May → is_ok (given_fault g) ≡ true
  may-good m =
      one_by_one
      ∙ and_i (is_known format) _ m.known
      (and_i (core_fits format (length ct) (length cm)) lists-test m.fits
      (and_i (is_ok (pairs_fault Wrap wt wm)) _ (good-pairs Wrap wt wm m.wrap)
      (and_i (is_ok (pairs_fault Core ct cm)) size-test (good-pairs Core ct cm m.core)
      (and_i (leb (size_of (fields_in g)) most_value) true (le-leb (size_of (fields_in g)) most_value m.most) refl))))

  -- ---- which is so exactly of fields that some recipe has
  abbrev f : Fields
  f = fields_in g

  abbrev tests : List Bool
  tests = eqb (length wt) (length wm) ∷ eqb (length ct) (length cm) ∷ is_writable f ∷ []

  known_is : is_known format ≡ true → (format ≡ format_one) ⊎ (format ≡ format_two)
  unfolding is_known
  known_is h = ⊎_elim (λ e. inl (eqb-true format format_one e)) (λ e. inr (eqb-true format format_two e)) (or-e (eqb format format_one) (eqb format format_two) h)

  is_known_lem : (format ≡ format_one) ⊎ (format ≡ format_two) → is_known format ≡ true
  unfolding is_known
  is_known_lem h = ⊎_elim (λ e. or_l (eqb format format_one) _ (eq-eqb format format_one e)) (λ e. or_r (eqb format format_one) (eqb format format_two) (eq-eqb format format_two e)) h

  no-core : format ≡ format_one → core_fits format (length ct) (length cm) ≡ true → length ct ≡ 0
  no-core e h =
      eqb-true (length ct) 0 (and_l (eqb (length ct) 0) (eqb (length cm) 0) (sym (fits_one format (length ct) (length cm) (λ q. omega arith)) ∙ h))

  core-none : format ≡ format_one → length ct ≡ 0 → length ct ≡ length cm → core_fits format (length ct) (length cm) ≡ true
  core-none e z n = sym (fits-none format (length ct) (length cm) (λ q. omega arith) z) ∙ eq-eqb (length cm) 0 (omega arith)

  may-tests : sequence < 2 ^ 64 → May → all_of tests ≡ true
  unfolding is_writable
  may-tests s m =
      let nw = pairs-length wt wm m.wrap.even in
      let nc = pairs-length ct cm m.core.even in
      all-one-more (eqb (length wt) (length wm)) _ (eq-eqb (length wt) (length wm) m.wrap.even)
      (all-one-more (eqb (length ct) (length cm)) _ (eq-eqb (length ct) (length cm) m.core.even)
      (all-one-more (is_writable f) []
      (all-one-more (has_format format (length (pairs ct cm))) _
      (⊎_elim (λ e. format-one format (length (pairs ct cm)) e (nc ∙ no-core e m.fits)) (λ e. format-two format (length (pairs ct cm)) e) (known_is m.known))
      (all-one-more (leb (length (pairs wt wm)) most_setpoints) _ (le-leb (length (pairs wt wm)) most_setpoints (omega (arith, nw, m.wrap.few)))
      (all-one-more (leb (length (pairs ct cm)) most_setpoints) _ (le-leb (length (pairs ct cm)) most_setpoints (omega (arith, nc, m.core.few)))
      (all-one-more (rules None (pairs wt wm)) _ m.wrap.kept
      (all-one-more (rules None (pairs ct cm)) _ m.core.kept
      (all-one-more (ltb sequence (2 ^ 64)) _ (lt-ltb sequence (2 ^ 64) s)
      (all-one-more (leb (length (bytes_of f)) most_value) _ (le-leb (length (bytes_of f)) most_value (omega (arith, size-all f, m.most))) all_none))))))) all_none))

  tests-may : all_of tests ≡ true → May
  tests-may h =
      let even : length wt ≡ length wm = eqb-true (length wt) (length wm) (all_head (eqb (length wt) (length wm)) _ h) in
      let h₁ = all_rest (eqb (length wt) (length wm)) _ h in
      let even₂ : length ct ≡ length cm = eqb-true (length ct) (length cm) (all_head (eqb (length ct) (length cm)) _ h₁) in
      let w = writable f (all_head (is_writable f) [] (all_rest (eqb (length ct) (length cm)) _ h₁)) in
      let nw = pairs-length wt wm even in
      let nc = pairs-length ct cm even₂ in
      record {
        known = is_known_lem w.format;
        fits = ⊎_elim (λ e. core-none e (sym nc ∙ w.one (λ q. omega arith)) even₂) (λ e. sym (fits-two format (length ct) (length cm) e)) w.format;
        wrap = record { even = even; few = omega (arith, nw, w.wrap-few); kept = w.wrap-kept };
        core = record { even = even₂; few = omega (arith, nc, w.core-few); kept = w.core-kept };
        most = omega (arith, size-all f, w.most);
      }

  pub writable-given : sequence < 2 ^ 64 → is_ok (given_fault g) ≡ all_of tests
  writable-given s = same_way (is_ok (given_fault g)) (all_of tests) (λ h. may-tests s (may h)) (λ h. may-good (tests-may h))

-- the sequence breaks none
pub no-sequence : (format : ℕ) (note wt : List ℕ) (wm : List ℤ) (ct : List ℕ) (cm : List ℤ) (sequence : ℕ) → given_fault (given format note wt wm ct cm 0) ≡ given_fault (given format note wt wm ct cm sequence)
unfolding given_fault core_back wrap_back
no-sequence format note wt wm ct cm sequence = refl

-- Reading after writing gives the fields. Assumes nothing.
use Prim.Native.Nat.{ℕ, ◌^◌, ◌≤◌, ◌<◌}
use mathlib.Core.Path.{◌≡◌, refl, sym, ap, ◌∙◌}
use mathlib.Core.Logic.{◌⊎◌, inl, inr, ⊎_elim}
use mathlib.Core.List.{List, [], ◌∷◌, ◌++◌}
use mathlib.Core.Bool.{Bool, true, false, ◌&&◌}
use native.Mathlib.Omega.{arith}
use lib.ListN.{length, length-append}
use lib.Dec.{ltb, leb, eqb}
use borrow.Author.Tests.{leb-true, ltb-true, eqb-true, eq-eqb, ne_eqb}
use Rattle.std.specs.Prelude.{None}
use Rattle.octets.specs.Octets.{little_number}
use Rattle.octets.proofs.Bools.{all_head, all_rest, and_i, and_l, and_r, or-e, or_l, or_r, cond_yes, cond_no}
use Rattle.limits.specs.Limits.{most_value, most_setpoints}
use Rattle.recipe.specs.Limits.{format_one, format_two}
use Rattle.recipe.specs.Recipe.{rules, is_list, from_end, distance_of, count_of, format_of, sequence_of, is_two, trailer_of, core_distance_of, core_count_of, pad_of, wrap_room, core_room, knows, recipe_within, ours}
use Rattle.recipe.specs.declared.Setpoint.{Setpoint}
use Rattle.recipe.proofs.Trailer.{is-recipe}
use Rattle.recipe_fields.specs.Fields.{Fields, Reading, Holds, fields, fields_within, fields_of, little_bytes, list_bytes, wrap_back, core_back, last_half, second_half, bytes_of, has_format, is_writable}
use Rattle.recipe_fields.proofs.Numbers.{little-length, little-read}
use Rattle.recipe_fields.proofs.Sizes.{size-FQ, size-CFQ, size-last, size-half, size-trailer, size-wrap, size-core, size-all, wrap-le, trailer-le}
use Rattle.recipe_fields.proofs.Lists.{list_written, list-good}
use Rattle.recipe_fields.proofs.Ends.{Ends, ends-all, ends_next, ends-first, ends_last, ends-part}

-- what makes fields writable, one fact after another
pub record Writable (f : Fields) : Type 0 where
  pub format : (f.format ≡ format_one) ⊎ (f.format ≡ format_two)
  pub one : (f.format ≡ format_two → ⊥) → length f.core ≡ 0
  pub wrap-few : length f.wrap ≤ most_setpoints
  pub core-few : length f.core ≤ most_setpoints
  pub wrap-kept : rules None f.wrap ≡ true
  pub core-kept : rules None f.core ≡ true
  pub sequence : f.sequence < 2 ^ 64
  pub most : length (bytes_of f) ≤ most_value

pub format-out : (format n : ℕ) → has_format format n ≡ true → (format ≡ format_two) ⊎ ((format ≡ format_one) × (n ≡ 0))
unfolding has_format
format-out format n h =
    ⊎_elim (λ e. inl (eqb-true format format_two e))
    (λ e. inr (eqb-true format format_one (and_l (eqb format format_one) (eqb n 0) e), eqb-true n 0 (and_r (eqb format format_one) (eqb n 0) e)))
    (or-e (eqb format format_two) (eqb format format_one && eqb n 0) h)

pub format-two : (format n : ℕ) → format ≡ format_two → has_format format n ≡ true
unfolding has_format
format-two format n e = or_l (eqb format format_two) _ (eq-eqb format format_two e)

pub format-one : (format n : ℕ) → format ≡ format_one → n ≡ 0 → has_format format n ≡ true
unfolding has_format
format-one format n e z = or_r (eqb format format_two) (eqb format format_one && eqb n 0) (and_i (eqb format format_one) (eqb n 0) (eq-eqb format format_one e) (eq-eqb n 0 z))

module _ (f : Fields) where
  abbrev t8 : List Bool
  t8 = leb (length (bytes_of f)) most_value ∷ []

  abbrev t7 : List Bool
  t7 = ltb f.sequence (2 ^ 64) ∷ t8

  abbrev t6 : List Bool
  t6 = rules None f.core ∷ t7

  abbrev t5 : List Bool
  t5 = rules None f.wrap ∷ t6

  abbrev t4 : List Bool
  t4 = leb (length f.core) most_setpoints ∷ t5

  abbrev t3 : List Bool
  t3 = leb (length f.wrap) most_setpoints ∷ t4

  abbrev has-format : Bool
  has-format = has_format f.format (length f.core)

  pub writable : is_writable f ≡ true → Writable f
  unfolding is_writable
  writable h =
      let h₁ = format-out f.format (length f.core) (all_head has-format t3 h) in
      let h₂ = all_rest has-format t3 h in
      let h₃ = all_rest (leb (length f.wrap) most_setpoints) t4 h₂ in
      let h₄ = all_rest (leb (length f.core) most_setpoints) t5 h₃ in
      let h₅ = all_rest (rules None f.wrap) t6 h₄ in
      let h₆ = all_rest (rules None f.core) t7 h₅ in
      let h₇ = all_rest (ltb f.sequence (2 ^ 64)) t8 h₆ in
      record {
        format = ⊎_elim (λ e. inr e) (λ e. inl e.0) h₁;
        one = λ q. ⊎_elim (λ e. absurd (q e)) (λ e. e.1) h₁;
        wrap-few = leb-true _ _ (all_head (leb (length f.wrap) most_setpoints) t4 h₂);
        core-few = leb-true _ _ (all_head (leb (length f.core) most_setpoints) t5 h₃);
        wrap-kept = all_head (rules None f.wrap) t6 h₄;
        core-kept = all_head (rules None f.core) t7 h₅;
        sequence = ltb-true _ _ (all_head (ltb f.sequence (2 ^ 64)) t8 h₆);
        most = leb-true _ _ (all_head (leb (length (bytes_of f)) most_value) [] h₇);
      }

-- no setpoints, no bytes
none : (ps : List Setpoint) → length ps ≡ 0 → list_bytes ps ≡ []
unfolding list_bytes
none [] e = refl
none (p ∷ ps) e = absurd (omega arith)

module _ (f : Fields) (g : Writable f) where
  abbrev v : List ℕ
  v = bytes_of f

  abbrev wrap : List ℕ
  wrap = list_bytes f.wrap

  abbrev core : List ℕ
  core = list_bytes f.core

  abbrev D : List ℕ
  D = little_bytes 4 (wrap_back f)

  abbrev C : List ℕ
  C = little_bytes 2 (length f.wrap)

  abbrev F : List ℕ
  F = little_bytes 2 f.format

  abbrev Q : List ℕ
  Q = little_bytes 8 f.sequence

  -- ---- v is note, core, wrap, the second half of the trailer, and its last 16 bytes
  at-note : Ends v f.note (core ++ (wrap ++ (second_half f ++ last_half f)))
  unfolding bytes_of
  at-note = ends-all f.note (core ++ (wrap ++ (second_half f ++ last_half f)))

  at-core : Ends v core (wrap ++ (second_half f ++ last_half f))
  at-core = ends_next v f.note core (wrap ++ (second_half f ++ last_half f)) at-note

  at-wrap : Ends v wrap (second_half f ++ last_half f)
  at-wrap = ends_next v core wrap (second_half f ++ last_half f) at-core

  at-half : Ends v (second_half f) (last_half f)
  at-half = ends_next v wrap (second_half f) (last_half f) at-wrap

  at-D : Ends v D (C ++ (F ++ Q))
  unfolding last_half
  at-D = ends_next v (second_half f) D (C ++ (F ++ Q)) at-half

  at-C : Ends v C (F ++ Q)
  at-C = ends_next v D C (F ++ Q) at-D

  at-F : Ends v F Q
  at-F = ends_next v C F Q at-C

  at-Q : Ends v Q []
  at-Q = ends_last v F Q at-F

  few : core_back f ≤ most_value
  few = omega (arith, (size-all f), g.most)

  -- ---- the numbers of the trailer
  is-format : format_of v ≡ f.format
  unfolding format_of
  is-format =
      ap little_number (ends-part v F Q 10 8 at-F (sym (little-length 8 f.sequence)) (omega (arith, little-length 2 f.format)))
      ∙ little-read 2 f.format (⊎_elim (λ e. omega arith) (λ e. omega arith) g.format)

  pub is-sequence : sequence_of v ≡ f.sequence
  unfolding sequence_of
  is-sequence =
      ap little_number (ends-part v Q [] 8 0 at-Q refl (omega (arith, little-length 8 f.sequence))) ∙ little-read 8 f.sequence (omega (arith, g.sequence))

  is-count : count_of v ≡ length f.wrap
  unfolding count_of
  is-count =
      ap little_number (ends-part v C (F ++ Q) 12 10 at-C (size-FQ f) (omega (arith, little-length 2 (length f.wrap))))
      ∙ little-read 2 (length f.wrap) (omega (arith, g.wrap-few))

  is-distance : distance_of v ≡ wrap_back f
  unfolding distance_of
  is-distance =
      ap little_number (ends-part v D (C ++ (F ++ Q)) 16 12 at-D (size-CFQ f) (omega (arith, little-length 4 (wrap_back f))))
      ∙ little-read 4 (wrap_back f) (omega (arith, few, (wrap-le f)))

  -- format 2
  module _ (e : f.format ≡ format_two) where
    abbrev d₂ : List ℕ
    d₂ = little_bytes 4 (core_back f)

    abbrev c₂ : List ℕ
    c₂ = little_bytes 2 (length f.core)

    abbrev z₂ : List ℕ
    z₂ = little_bytes 2 0

    two : is_two v ≡ true
    two = eq-eqb (format_of v) format_two (is-format ∙ e)

    half_is : second_half f ≡ d₂ ++ (c₂ ++ z₂)
    unfolding second_half
    half_is = cond_yes (eqb f.format format_two) (d₂ ++ (c₂ ++ z₂)) [] (eq-eqb f.format format_two e)

    at-half₂ : Ends v (d₂ ++ (c₂ ++ z₂)) (last_half f)
    at-half₂ = rw half_is at at-half

    at-d₂ : Ends v d₂ ((c₂ ++ z₂) ++ last_half f)
    at-d₂ = ends-first v d₂ (c₂ ++ z₂) (last_half f) at-half₂

    at-cz₂ : Ends v (c₂ ++ z₂) (last_half f)
    at-cz₂ = ends_next v d₂ (c₂ ++ z₂) (last_half f) at-d₂

    at-c₂ : Ends v c₂ (z₂ ++ last_half f)
    at-c₂ = ends-first v c₂ z₂ (last_half f) at-cz₂

    at-z₂ : Ends v z₂ (last_half f)
    at-z₂ = ends_next v c₂ z₂ (last_half f) at-c₂

    size-z₂ : 18 ≡ length (z₂ ++ last_half f)
    size-z₂ = sym (length-append z₂ (last_half f) ∙ (omega (arith, little-length 2 0, (size-last f))))

    size-c₂ : 20 ≡ length ((c₂ ++ z₂) ++ last_half f)
    size-c₂ = sym (length-append (c₂ ++ z₂) (last_half f) ∙ (omega (arith, length-append c₂ z₂, little-length 2 0, little-length 2 (length f.core), (size-last f))))

    distance-two : core_distance_of v ≡ core_back f
    unfolding core_distance_of
    distance-two =
        cond_yes (is_two v) (little_number (from_end 24 20 v)) (distance_of v) two
        ∙ ap little_number (ends-part v d₂ ((c₂ ++ z₂) ++ last_half f) 24 20 at-d₂ size-c₂ (omega (arith, little-length 4 (core_back f))))
        ∙ little-read 4 (core_back f) (omega (arith, few))

    count-two : core_count_of v ≡ length f.core
    unfolding core_count_of
    count-two =
        cond_yes (is_two v) (little_number (from_end 20 18 v)) 0 two
        ∙ ap little_number (ends-part v c₂ (z₂ ++ last_half f) 20 18 at-c₂ size-z₂ (omega (arith, little-length 2 (length f.core))))
        ∙ little-read 2 (length f.core) (omega (arith, g.core-few))

    pad-two : pad_of v ≡ 0
    unfolding pad_of
    pad-two =
        cond_yes (is_two v) (little_number (from_end 18 16 v)) 0 two
        ∙ ap little_number (ends-part v z₂ (last_half f) 18 16 at-z₂ (size-last f) (omega (arith, little-length 2 0)))
        ∙ little-read 2 0 (omega arith)

  -- format 1: an empty core
  module _ (e : f.format ≡ format_one) where
    other : f.format ≡ format_two → ⊥
    other q = omega arith

    not-two : is_two v ≡ false
    not-two = ne_eqb (format_of v) format_two (λ q. other (sym is-format ∙ q))

    distance-one : core_distance_of v ≡ core_back f
    unfolding core_distance_of core_back
    distance-one =
        cond_no (is_two v) (little_number (from_end 24 20 v)) (distance_of v) not-two ∙ is-distance
        ∙ (omega (arith, ap length (none f.core (g.one other))))

    count-one : core_count_of v ≡ length f.core
    unfolding core_count_of
    count-one = cond_no (is_two v) (little_number (from_end 20 18 v)) 0 not-two ∙ sym (g.one other)

    pad-one : pad_of v ≡ 0
    unfolding pad_of
    pad-one = cond_no (is_two v) (little_number (from_end 18 16 v)) 0 not-two

  is-core : core_distance_of v ≡ core_back f
  is-core = ⊎_elim distance-one distance-two g.format

  is-count₂ : core_count_of v ≡ length f.core
  is-count₂ = ⊎_elim count-one count-two g.format

  is-pad : pad_of v ≡ 0
  is-pad = ⊎_elim pad-one pad-two g.format

  -- ---- the parts
  room-wrap : wrap_room v ≡ wrap
  unfolding wrap_room wrap_back
  room-wrap =
      ap (λ (x : ℕ). from_end x (trailer_of (format_of v)) v) is-distance ∙ ap (λ (x : ℕ). from_end (wrap_back f) (trailer_of x) v) is-format
      ∙ ends-part v wrap (second_half f ++ last_half f) (wrap_back f) (trailer_of f.format) at-wrap (sym (size-trailer f)) (omega arith)

  room-core : core_room v ≡ core
  unfolding core_room core_back
  room-core =
      ap (λ (x : ℕ). from_end x (distance_of v) v) is-core ∙ ap (λ (x : ℕ). from_end (core_back f) x v) is-distance
      ∙ ends-part v core (wrap ++ (second_half f ++ last_half f)) (core_back f) (wrap_back f) at-core (sym (size-wrap f)) (omega arith)

  is-note : from_end (length v) (core_distance_of v) v ≡ f.note
  is-note =
      ap (λ (x : ℕ). from_end (length v) x v) is-core
      ∙ ends-part v f.note (core ++ (wrap ++ (second_half f ++ last_half f))) (length v) (core_back f) at-note (sym (size-core f)) (size-all f)

  -- ---- the whole
  pub written-fields : fields v ≡ f
  unfolding fields
  written-fields = rw (is-format, is-note, is-count, room-wrap, is-count₂, room-core, is-sequence, list_written f.wrap None g.wrap-kept, list_written f.core None g.core-kept) refl

  wrap-there : is_list (count_of v) (wrap_room v) ≡ true
  wrap-there = rw (is-count, room-wrap) (list-good f.wrap g.wrap-kept)

  core-there : is_list (core_count_of v) (core_room v) ≡ true
  core-there = rw (is-count₂, room-core) (list-good f.core g.core-kept)

  list-one : is_list (count_of v) (from_end (distance_of v) (trailer_of (format_of v)) v) ≡ true
  unfolding wrap_room
  list-one = wrap-there

  list-two : is_list (core_count_of v) (from_end (core_distance_of v) (distance_of v) v) ≡ true
  unfolding core_room
  list-two = core-there

  known : knows ours (format_of v) ≡ true
  known =
      ⊎_elim (λ e. or_l (eqb (format_of v) format_one) (is_two v) (eq-eqb (format_of v) format_one (is-format ∙ e))) (λ e. or_r (eqb (format_of v) format_one) (is_two v) (eq-eqb (format_of v) format_two (is-format ∙ e)))
      g.format

  pub written-recipe : recipe_within ours v ≡ true
  written-recipe =
      is-recipe ours v
      (record {
        least = omega (arith, (size-all f), (wrap-le f), (trailer-le f), (size-half f));
        most = g.most;
        format = known;
        pad = is-pad;
        wrap =
            record {
              near = rw (is-format, is-distance) (trailer-le f);
              far = rw is-distance (omega (arith, (size-all f), (wrap-le f)));
              few = rw is-count g.wrap-few;
              list = list-one;
            };
        core =
            record {
              near = rw (is-core, is-distance) (wrap-le f);
              far = rw is-core (omega (arith, (size-all f)));
              few = rw is-count₂ g.core-few;
              list = list-two;
            };
      })

  pub written_read : fields_of v ≡ Holds f
  unfolding fields_within
  written_read = cond_yes (recipe_within ours v) (Holds (fields v)) Reading.NoRecipe written-recipe ∙ ap Holds written-fields

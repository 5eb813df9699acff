-- Writing after reading gives the bytes. Assumes nothing.
use Prim.Native.Nat.{ℕ, ◌-◌, ◌^◌, ◌≤◌, ◌<◌}
use mathlib.Core.Path.{◌≡◌, refl, sym, ap, ◌∙◌}
use mathlib.Core.Logic.{⊎_elim}
use mathlib.Core.List.{List, [], ◌++◌}
use mathlib.Core.Bool.{true, false}
use native.Mathlib.Omega.{arith}
use lib.ListN.{length}
use lib.Dec.{ltb, leb, eqb}
use borrow.Author.Tests.{le-leb, lt-ltb, eq-eqb, ne_eqb}
use Rattle.std.specs.Prelude.{None}
use Rattle.octets.specs.Octets.{Bytes, little_number}
use Rattle.octets.proofs.Bools.{all_none, all-one-more, cond_yes, cond_no}
use Rattle.octets.proofs.Parts.{bytes-part}
use Rattle.octets.proofs.Numbers.{little-lt}
use Rattle.limits.specs.Limits.{most_value, most_setpoints}
use Rattle.recipe.specs.Limits.{trailer_size, long_trailer, format_one, format_two}
use Rattle.recipe.specs.Recipe.{setpoints, rules, from_end, distance_of, count_of, format_of, sequence_of, is_two, trailer_of, core_distance_of, core_count_of, pad_of, wrap_room, core_room, ours}
use Rattle.recipe.proofs.Trailer.{Recipe, our-format}
use Rattle.recipe_fields.specs.Fields.{Fields, fields, little_bytes, list_bytes, wrap_back, core_back, last_half, second_half, bytes_of, has_format, is_writable}
use Rattle.recipe_fields.proofs.Numbers.{little-written}
use Rattle.recipe_fields.proofs.Forth.{format-one, format-two}
use Rattle.recipe_fields.proofs.Lists.{Listing, list_read}
use Rattle.recipe_fields.proofs.Ends.{end-join, end_whole, end-length}

module _ (v : List ℕ) (bs : Bytes v) (r : Recipe ours v) where
  abbrev f : Fields
  f = fields v

  bytes-end : (d e : ℕ) → Bytes (from_end d e v)
  bytes-end d e = bytes-part v (length v - d) (length v - e) bs

  -- a number of the trailer, written
  number-back : (d e k x : ℕ) → e ≤ d → d ≤ length v → d - e ≡ k → x ≡ little_number (from_end d e v) → little_bytes k x ≡ from_end d e v
  number-back d e k x p q n h =
      ap (little_bytes k) h ∙ ap (λ (m : ℕ). little_bytes m (little_number (from_end d e v))) (sym (end-length v d e p q ∙ n)) ∙ little-written (from_end d e v) (bytes-end d e)

  -- ---- the lists
  wrap-list : Listing None (count_of v) (wrap_room v) (setpoints (count_of v) (wrap_room v))
  unfolding wrap_room
  wrap-list = list_read (count_of v) (wrap_room v) (bytes-end (distance_of v) (trailer_of (format_of v))) r.wrap.list

  core-list : Listing None (core_count_of v) (core_room v) (setpoints (core_count_of v) (core_room v))
  unfolding core_room
  core-list = list_read (core_count_of v) (core_room v) (bytes-end (core_distance_of v) (distance_of v)) r.core.list

  wrap-back : list_bytes f.wrap ≡ from_end (distance_of v) (trailer_of (format_of v)) v
  unfolding fields wrap_room
  wrap-back = wrap-list.back

  core-back : list_bytes f.core ≡ from_end (core_distance_of v) (distance_of v) v
  unfolding fields core_room
  core-back = core-list.back

  wrap-count : length f.wrap ≡ count_of v
  unfolding fields
  wrap-count = wrap-list.count

  core-count : length f.core ≡ core_count_of v
  unfolding fields
  core-count = core-list.count

  -- ---- the numbers
  is-format : f.format ≡ format_of v
  unfolding fields
  is-format = refl

  is-sequence : f.sequence ≡ sequence_of v
  unfolding fields
  is-sequence = refl

  is-note : f.note ≡ from_end (length v) (core_distance_of v) v
  unfolding fields
  is-note = refl

  is-wrap : wrap_back f ≡ distance_of v
  unfolding wrap_back
  is-wrap =
      let n : length (list_bytes f.wrap) ≡ distance_of v - trailer_of (format_of v) = ap length wrap-back ∙ end-length v (distance_of v) (trailer_of (format_of v)) r.wrap.near r.wrap.far in
      rw (is-format, n) (omega (arith, r.wrap.near))

  is-core : core_back f ≡ core_distance_of v
  unfolding core_back
  is-core =
      let n : length (list_bytes f.core) ≡ core_distance_of v - distance_of v = ap length core-back ∙ end-length v (core_distance_of v) (distance_of v) r.core.near r.core.far in
      rw (is-wrap, n) (omega (arith, r.core.near))

  long : 16 ≤ length v
  long = r.least

  -- ---- the trailer
  D-back : little_bytes 4 (wrap_back f) ≡ from_end 16 12 v
  unfolding distance_of
  D-back = number-back 16 12 4 (wrap_back f) (omega arith) long refl is-wrap

  C-back : little_bytes 2 (length f.wrap) ≡ from_end 12 10 v
  unfolding count_of
  C-back = number-back 12 10 2 (length f.wrap) (omega arith) (omega (arith, long)) refl wrap-count

  F-back : little_bytes 2 f.format ≡ from_end 10 8 v
  unfolding format_of
  F-back = number-back 10 8 2 f.format (omega arith) (omega (arith, long)) refl is-format

  Q-back : little_bytes 8 f.sequence ≡ from_end 8 0 v
  unfolding sequence_of
  Q-back = number-back 8 0 8 f.sequence (omega arith) (omega (arith, long)) refl is-sequence

  last-back : last_half f ≡ from_end 16 0 v
  unfolding last_half
  last-back =
      ap (λ (x : List ℕ). x ++ (little_bytes 2 (length f.wrap) ++ (little_bytes 2 f.format ++ little_bytes 8 f.sequence))) D-back
      ∙ ap (λ (x : List ℕ). from_end 16 12 v ++ (x ++ (little_bytes 2 f.format ++ little_bytes 8 f.sequence))) C-back
      ∙ ap (λ (x : List ℕ). from_end 16 12 v ++ (from_end 12 10 v ++ (x ++ little_bytes 8 f.sequence))) F-back
      ∙ ap (λ (x : List ℕ). from_end 16 12 v ++ (from_end 12 10 v ++ (from_end 10 8 v ++ x))) Q-back
      ∙ ap (λ (x : List ℕ). from_end 16 12 v ++ (from_end 12 10 v ++ x)) (end-join v 10 8 0 (omega arith) (omega arith))
      ∙ ap (λ (x : List ℕ). from_end 16 12 v ++ x) (end-join v 12 10 0 (omega arith) (omega arith))
      ∙ end-join v 16 12 0 (omega arith) (omega arith)

  -- format 2
  module _ (e : format_of v ≡ format_two) where
    two : is_two v ≡ true
    two = eq-eqb (format_of v) format_two e

    trailer-two : trailer_of (format_of v) ≡ long_trailer
    unfolding trailer_of
    trailer-two = cond_yes (is_two v) long_trailer trailer_size two

    long₂ : 24 ≤ length v
    long₂ = omega (arith, trailer-two, r.wrap.near, r.wrap.far)

    d-back : little_bytes 4 (core_back f) ≡ from_end 24 20 v
    unfolding core_distance_of
    d-back = number-back 24 20 4 (core_back f) (omega arith) long₂ refl (is-core ∙ cond_yes (is_two v) (little_number (from_end 24 20 v)) (distance_of v) two)

    c-back : little_bytes 2 (length f.core) ≡ from_end 20 18 v
    unfolding core_count_of
    c-back = number-back 20 18 2 (length f.core) (omega arith) (omega (arith, long₂)) refl (core-count ∙ cond_yes (is_two v) (little_number (from_end 20 18 v)) 0 two)

    z-back : little_bytes 2 0 ≡ from_end 18 16 v
    unfolding pad_of
    z-back = number-back 18 16 2 0 (omega arith) (omega (arith, long₂)) refl (sym r.pad ∙ cond_yes (is_two v) (little_number (from_end 18 16 v)) 0 two)

    half-two : second_half f ≡ from_end 24 16 v
    unfolding second_half
    half-two =
        cond_yes (eqb f.format format_two) (little_bytes 4 (core_back f) ++ (little_bytes 2 (length f.core) ++ little_bytes 2 0)) [] (eq-eqb f.format format_two (is-format ∙ e))
        ∙ ap (λ (x : List ℕ). x ++ (little_bytes 2 (length f.core) ++ little_bytes 2 0)) d-back
        ∙ ap (λ (x : List ℕ). from_end 24 20 v ++ (x ++ little_bytes 2 0)) c-back
        ∙ ap (λ (x : List ℕ). from_end 24 20 v ++ (from_end 20 18 v ++ x)) z-back
        ∙ ap (λ (x : List ℕ). from_end 24 20 v ++ x) (end-join v 20 18 16 (omega arith) (omega arith))
        ∙ end-join v 24 20 16 (omega arith) (omega arith)

    trailer-back-two : second_half f ++ last_half f ≡ from_end (trailer_of (format_of v)) 0 v
    trailer-back-two =
        ap (λ (x : List ℕ). x ++ last_half f) half-two ∙ ap (λ (x : List ℕ). from_end 24 16 v ++ x) last-back ∙ end-join v 24 16 0 (omega arith) (omega arith)
        ∙ ap (λ (x : ℕ). from_end x 0 v) (sym trailer-two)

  -- format 1
  module _ (e : format_of v ≡ format_one) where
    other : format_of v ≡ format_two → ⊥
    other q = omega arith

    not-two : is_two v ≡ false
    not-two = ne_eqb (format_of v) format_two other

    trailer-one : trailer_of (format_of v) ≡ trailer_size
    unfolding trailer_of
    trailer-one = cond_no (is_two v) long_trailer trailer_size not-two

    none : length f.core ≡ 0
    unfolding core_count_of
    none = core-count ∙ cond_no (is_two v) (little_number (from_end 20 18 v)) 0 not-two

    trailer-back-one : second_half f ++ last_half f ≡ from_end (trailer_of (format_of v)) 0 v
    unfolding second_half
    trailer-back-one =
        ap (λ (x : List ℕ). x ++ last_half f)
        (cond_no (eqb f.format format_two) (little_bytes 4 (core_back f) ++ (little_bytes 2 (length f.core) ++ little_bytes 2 0)) [] (ne_eqb f.format format_two (λ q. other (sym is-format ∙ q))))
        ∙ last-back ∙ ap (λ (x : ℕ). from_end x 0 v) (sym trailer-one)

  trailer-back : second_half f ++ last_half f ≡ from_end (trailer_of (format_of v)) 0 v
  trailer-back = ⊎_elim trailer-back-one trailer-back-two (our-format v r)

  -- ---- the whole
  pub read-bytes : bytes_of f ≡ v
  unfolding bytes_of
  read-bytes =
      let T : ℕ = trailer_of (format_of v) in
      let d : ℕ = distance_of v in
      let k : ℕ = core_distance_of v in
      ap (λ (x : List ℕ). x ++ (list_bytes f.core ++ (list_bytes f.wrap ++ (second_half f ++ last_half f)))) is-note
      ∙ ap (λ (x : List ℕ). from_end (length v) k v ++ (x ++ (list_bytes f.wrap ++ (second_half f ++ last_half f)))) core-back
      ∙ ap (λ (x : List ℕ). from_end (length v) k v ++ (from_end k d v ++ (x ++ (second_half f ++ last_half f)))) wrap-back
      ∙ ap (λ (x : List ℕ). from_end (length v) k v ++ (from_end k d v ++ (from_end d T v ++ x))) trailer-back
      ∙ ap (λ (x : List ℕ). from_end (length v) k v ++ (from_end k d v ++ x)) (end-join v d T 0 (omega arith) r.wrap.near)
      ∙ ap (λ (x : List ℕ). from_end (length v) k v ++ x) (end-join v k d 0 (omega arith) r.core.near)
      ∙ end-join v (length v) k 0 (omega arith) r.core.far ∙ end_whole v

  kept-wrap : rules None f.wrap ≡ true
  unfolding fields
  kept-wrap = wrap-list.kept

  kept-core : rules None f.core ≡ true
  unfolding fields
  kept-core = core-list.kept

  sequence-fits : f.sequence < 2 ^ 64
  unfolding sequence_of
  sequence-fits =
      let n : length (from_end 8 0 v) ≡ 8 = end-length v 8 0 (omega arith) (omega (arith, long)) in
      let h : little_number (from_end 8 0 v) < 256 ^ 8 = rw n at (little-lt (from_end 8 0 v) (bytes-end 8 0)) in
      omega (arith, is-sequence, h)

  pub read-writable : is_writable f ≡ true
  unfolding is_writable
  read-writable =
      all-one-more (has_format f.format (length f.core)) _ format-good
      (all-one-more (leb (length f.wrap) most_setpoints) _ (le-leb (length f.wrap) most_setpoints (rw wrap-count r.wrap.few))
      (all-one-more (leb (length f.core) most_setpoints) _ (le-leb (length f.core) most_setpoints (rw core-count r.core.few))
      (all-one-more (rules None f.wrap) _ kept-wrap
      (all-one-more (rules None f.core) _ kept-core
      (all-one-more (ltb f.sequence (2 ^ 64)) _ (lt-ltb f.sequence (2 ^ 64) sequence-fits)
      (all-one-more (leb (length (bytes_of f)) most_value) _ (le-leb (length (bytes_of f)) most_value (rw read-bytes r.most)) all_none))))))
    where
      format-good : has_format f.format (length f.core) ≡ true
      format-good = ⊎_elim (λ e. format-one f.format (length f.core) (is-format ∙ e) (none e)) (λ e. format-two f.format (length f.core) (is-format ∙ e)) (our-format v r)

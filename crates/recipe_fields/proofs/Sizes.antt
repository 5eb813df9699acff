-- How many bytes the parts of a written recipe have. Assumes nothing.
use Prim.Native.Nat.{ℕ, ◌+◌, ◌≤◌}
use mathlib.Core.Path.{◌≡◌, refl, sym, ap, ◌∙◌}
use mathlib.Core.List.{List, [], ◌++◌}
use mathlib.Core.Bool.{Bool, true, false, cond}
use native.Mathlib.Omega.{arith}
use lib.ListN.{length, length-append}
use lib.Dec.{eqb}
use Rattle.recipe.specs.Limits.{trailer_size, long_trailer, format_two}
use Rattle.recipe.specs.Recipe.{trailer_of}
use Rattle.recipe_fields.specs.Fields.{Fields, little_bytes, list_bytes, wrap_back, core_back, last_half, second_half, bytes_of}
use Rattle.recipe_fields.proofs.Numbers.{little-length}

half-size : (b : Bool) (l : List ℕ) → length l ≡ 8 → length (cond b l []) + 16 ≡ cond b long_trailer trailer_size
half-size true l e = omega arith
half-size false l e = refl

pub trailer-few : (format : ℕ) {t : ℕ} → t ≡ trailer_of format → t ≤ long_trailer
unfolding trailer_of
trailer-few format {t} e = go (eqb format format_two) e
  where
    go : (b : Bool) → t ≡ cond b long_trailer trailer_size → t ≤ long_trailer
    go true q = omega arith
    go false q = omega arith

module _ (f : Fields) where
  abbrev v : List ℕ
  v = bytes_of f

  abbrev wrap : List ℕ
  wrap = list_bytes f.wrap

  abbrev core : List ℕ
  core = list_bytes f.core

  abbrev D : List ℕ
  D = little_bytes 4 (wrap_back f)

  abbrev C : List ℕ
  C = little_bytes 2 (length f.wrap)

  abbrev F : List ℕ
  F = little_bytes 2 f.format

  abbrev Q : List ℕ
  Q = little_bytes 8 f.sequence

  pub size-FQ : 10 ≡ length (F ++ Q)
  size-FQ = sym (length-append F Q ∙ (omega (arith, little-length 2 f.format, little-length 8 f.sequence)))

  pub size-CFQ : 12 ≡ length (C ++ (F ++ Q))
  size-CFQ = sym (length-append C (F ++ Q) ∙ (omega (arith, little-length 2 (length f.wrap), size-FQ)))

  pub size-last : 16 ≡ length (last_half f)
  unfolding last_half
  size-last = sym (length-append D (C ++ (F ++ Q)) ∙ (omega (arith, little-length 4 (wrap_back f), size-CFQ)))

  pub size-half : length (second_half f) + 16 ≡ trailer_of f.format
  unfolding second_half trailer_of
  size-half =
      let d : List ℕ = little_bytes 4 (core_back f) in
      let c : List ℕ = little_bytes 2 (length f.core) in
      half-size (eqb f.format format_two) (d ++ (c ++ little_bytes 2 0))
      (length-append d (c ++ little_bytes 2 0) ∙ ap (λ (k : ℕ). length d + k) (length-append c (little_bytes 2 0))
      ∙ (omega (arith, little-length 4 (core_back f), little-length 2 (length f.core), little-length 2 0)))

  pub size-trailer : length (second_half f ++ last_half f) ≡ trailer_of f.format
  size-trailer = length-append (second_half f) (last_half f) ∙ (omega (arith, size-half, size-last))

  pub size-wrap : length (wrap ++ (second_half f ++ last_half f)) ≡ wrap_back f
  unfolding wrap_back
  size-wrap = length-append wrap (second_half f ++ last_half f) ∙ (omega (arith, size-trailer))

  pub size-core : length (core ++ (wrap ++ (second_half f ++ last_half f))) ≡ core_back f
  unfolding core_back
  size-core = length-append core (wrap ++ (second_half f ++ last_half f)) ∙ (omega (arith, size-wrap))

  pub size-all : length v ≡ length f.note + core_back f
  unfolding bytes_of
  size-all = length-append f.note (core ++ (wrap ++ (second_half f ++ last_half f))) ∙ (omega (arith, size-core))

  pub wrap-le : wrap_back f ≤ core_back f
  unfolding core_back
  wrap-le = omega arith

  pub trailer-le : trailer_of f.format ≤ wrap_back f
  unfolding wrap_back
  trailer-le = omega arith

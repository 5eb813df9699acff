-- The whole writer: what is written of fields that break no rule. Assumes nothing.
use Prim.Native.Nat.{ℕ, ◌+◌, ◌≤◌}
use mathlib.Core.Path.{◌≡◌, sym, ap, ◌∙◌}
use mathlib.Core.List.{List, [], ◌++◌}
use mathlib.Core.Bool.{true}
use native.Mathlib.Omega.{arith}
use lib.ListN.{length}
use lib.Seq.{sets}
use lib.Dec.{eqb}
use lib.IntN.{ℤ}
use borrow.Author.Tests.{eq-eqb, ne_eqb}
use Rattle.octets.proofs.Bools.{cond_yes, cond_no}
use Rattle.std.specs.Prelude.{Result, Ok, Err, ⊤, is_ok}
use Rattle.wire.specs.Items.{Put}
use Rattle.wire_put.proofs.Putting.{put_on}
use Rattle.limits.specs.Limits.{most_value}
use Rattle.recipe.specs.Limits.{format_two}
use Rattle.recipe.specs.Recipe.{trailer_of}
use Rattle.recipe.specs.Faults.{first_of}
use Rattle.recipe.specs.declared.Breach.{Breach}
use Rattle.recipe.proofs.Faults.{goes_on, handed-up}
use Rattle.recipe_fields.specs.Fields.{Fields, list_bytes, wrap_back, core_back, last_bytes, second_bytes, last_half, second_half, bytes_of}
use Rattle.recipe_fields.specs.Writing.{Given, given, pairs, fields_in, given_fault, written_of, after_of, trailer_bytes}
use Rattle.recipe_fields.proofs.Sizes.{size-all}
use Rattle.recipe_fields.proofs.Judging.{May, may, pairs-length, no-sequence}

-- ---- one run of bytes after another
module _ {buf : List ℕ} {at : ℕ} {a buf₁ : List ℕ} {r₁ : ℕ} {b buf₂ : List ℕ} {r₂ : ℕ} where
  pub then-put : Put buf at a buf₁ r₁ → Put buf₁ r₁ b buf₂ r₂ → Put buf at (a ++ b) buf₂ r₂
  then-put p q = put_on buf at a buf₁ r₁ b buf₂ r₂ p q

-- ---- `put_trailer`
module _ (format far cores near wraps sequence : ℕ) where
  pub trailer-two : format ≡ format_two → second_bytes far cores ++ last_bytes near wraps format sequence ≡ trailer_bytes format far cores near wraps sequence
  trailer-two e = ap (λ (x : List ℕ). x ++ last_bytes near wraps format sequence) (sym (cond_yes (eqb format format_two) (second_bytes far cores) [] (eq-eqb format format_two e)))

  pub trailer-one : (format ≡ format_two → ⊥) → last_bytes near wraps format sequence ≡ trailer_bytes format far cores near wraps sequence
  trailer-one e = ap (λ (x : List ℕ). x ++ last_bytes near wraps format sequence) (sym (cond_no (eqb format format_two) (second_bytes far cores) [] (ne_eqb format format_two e)))

-- ---- `write`
module _ (format : ℕ) (note wt : List ℕ) (wm : List ℤ) (ct : List ℕ) (cm : List ℤ) (sequence : ℕ) {w : Result ⊤ Breach} (q : w ≡ given_fault (given format note wt wm ct cm 0)) where
  abbrev g : Given
  g = given format note wt wm ct cm sequence

  abbrev f : Fields
  f = fields_in g

  told : w ≡ given_fault g
  told = q ∙ no-sequence format note wt wm ct cm sequence

  abbrev whole : Result ℕ Breach
  whole = Ok (length (bytes_of f))

  pub refused : (buf : List ℕ) {r : Result ℕ Breach} {y b : Breach} → r ≡ Err y → y ≡ b → w ≡ Err b → (r ≡ written_of g) × (buf ≡ after_of g buf)
  unfolding written_of after_of
  refused buf p e z = (
    handed-up whole p e z ∙ ap (λ (x : Result ⊤ Breach). first_of x whole) told,
    sym (cond_no (is_ok (given_fault g)) (sets buf 0 (bytes_of f)) buf (ap is_ok (sym told ∙ z))),
  )

  module _ {o : ⊤} (z : w ≡ Ok o) where
    good : is_ok (given_fault g) ≡ true
    good = ap is_ok (sym told ∙ z)

    pub facts : May format note wt wm ct cm sequence
    facts = may format note wt wm ct cm sequence good

    module _ {t a b : ℕ} (et : t ≡ trailer_of format) (ea : a ≡ length (list_bytes (pairs wt wm))) (eb : b ≡ length (list_bytes (pairs ct cm))) where
      near-is : t + a ≡ wrap_back f
      unfolding wrap_back
      near-is = omega (arith, et, ea)

      far-is : t + a + b ≡ core_back f
      unfolding core_back
      far-is = omega (arith, near-is, eb)

      total : length note + (t + a + b) ≡ length (bytes_of f)
      total = omega (arith, size-all f, far-is)

      pub all-few : length note + (t + a + b) ≤ most_value
      all-few = omega (arith, far-is, facts.most)

      trailer-is : trailer_bytes format (t + a + b) (length ct) (t + a) (length wt) sequence ≡ second_half f ++ last_half f
      unfolding second_half last_half
      trailer-is = rw (far-is, near-is, pairs-length wt wm facts.wrap.even, pairs-length ct cm facts.core.even)

      pub all-written : {buf buf₁ buf₂ buf₃ buf₄ : List ℕ} {r₁ r₂ r₃ r₄ : ℕ} → Put buf 0 note buf₁ r₁ → Put buf₁ r₁ (list_bytes (pairs ct cm)) buf₂ r₂ → Put buf₂ r₂ (list_bytes (pairs wt wm)) buf₃ r₃
          → Put buf₃ r₃ (trailer_bytes format (t + a + b) (length ct) (t + a) (length wt) sequence) buf₄ r₄ → (Ok (length note + (t + a + b)) ≡ written_of g) × (buf₄ ≡ after_of g buf)
      unfolding written_of after_of bytes_of
      all-written {buf} p u r s =
          let o = then-put p (then-put u (then-put r s)) in
          let x : note ++ (list_bytes (pairs ct cm) ++ (list_bytes (pairs wt wm) ++ trailer_bytes format (t + a + b) (length ct) (t + a) (length wt) sequence)) ≡ bytes_of f =
          ap (λ (k : List ℕ). note ++ (list_bytes (pairs ct cm) ++ (list_bytes (pairs wt wm) ++ k))) trailer-is in
          (rw total (sym (goes_on (given_fault g) whole good)), o.same ∙ ap (sets buf 0) x ∙ sym (cond_yes (is_ok (given_fault g)) (sets buf 0 (bytes_of f)) buf good))

-- Numbers in and out, as laws: by the case of an answer, and a view number by number. Assumes nothing.
use Prim.Native.Nat.{ℕ}
use mathlib.Core.Path.{◌≡◌, sym, ap, ◌∙◌}
use mathlib.Core.Bool.{cond, not}
use mathlib.Core.List.{List, [], ◌∷◌}
use lib.Seq.{sets}
use lib.Dec.{eqb}
use Rattle.message.specs.declared.Fields.{Fields}
use lib.ListN.{get_or}
use Rattle.host_numbers.specs.Numbers.{view_numbers, view_in}

-- ---- by the case of an answer
pub by-case : {A B : Type 0} (f : A → B) (a v : A) (x : B) → a ≡ v → x ≡ f v → x ≡ f a
by-case f a v x e h = h ∙ sym (ap f e)

-- ---- a view
pub view-written : (out new : List ℕ) (at n : ℕ) (m : Fields) → n ≡ cond m.held.there 1 0
    → new ≡ sets out at (m.kind ∷ m.key.at ∷ m.key.end ∷ n ∷ m.held.key.at ∷ m.held.key.end ∷ m.held.value.at ∷ m.held.value.end ∷ [])
    → new ≡ sets out at (view_numbers m)
view-written out new at n m e h =
    h ∙ ap (λ (x : ℕ).
    sets out at (m.kind ∷ m.key.at ∷ m.key.end ∷ x ∷ m.held.key.at ∷ m.held.key.end ∷ m.held.value.at ∷ m.held.value.end ∷ [])) e

pub view-read : (v : List ℕ) (kind a b t c d e f : ℕ) → kind ≡ get_or v 0 0 → a ≡ get_or v 1 0 → b ≡ get_or v 2 0 → t ≡ get_or v 3 0 → c ≡ get_or v 4 0 → d ≡ get_or v 5 0
    → e ≡ get_or v 6 0 → f ≡ get_or v 7 0
    → ◌≡◌ {A = Fields} (record {
      kind = kind;
      key = record { at = a; end = b };
      held = record { there = not (eqb t 0); key = record { at = c; end = d }; value = record { at = e; end = f } };
    }) (view_in v)
view-read v kind a b t c d e f hk ha hb ht hc hd he hf = rw (hk, ha, hb, ht, hc, hd, he, hf)

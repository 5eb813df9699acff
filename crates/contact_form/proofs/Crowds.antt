-- "at most 20 to a bucket": how many used slots of a bucket a table in form has. Assumes nothing.
use Prim.Native.Nat.{ℕ, ◌≤◌}
use mathlib.Core.Path.{◌≡◌, sym, ◌∙◌}
use mathlib.Core.Bool.{Bool, true, ◌&&◌}
use mathlib.Core.List.{List}
use lib.Dec.{eqb}
use borrow.Author.Tests.{eqb-true}
use Rattle.octets.specs.Search.{count}
use Rattle.octets.proofs.Bools.{and_l, and_r}
use Rattle.octets.proofs.Counting.{count-values}
use Rattle.contact_table.specs.Table.{slots_of, slot, used}
use Rattle.limits.specs.Limits.{bucket_size}
use Rattle.contact_form.specs.Form.{rank, slot_bucket, in_form}
use Rattle.contact_form.specs.Claims.{InForm}
use Rattle.contact_form.proofs.FormFacts.{form-elim, form-rank}

-- ---- a bucket
abbrev of_bucket : List ℕ → List ℕ → ℕ → ℕ → Bool
of_bucket t o b i = used (slot t i) && eqb (slot_bucket (slot t i) o) b

pub form-twenty : (t o : List ℕ) (b : ℕ) → in_form t o ≡ true → count (slots_of t) (of_bucket t o b) ≤ bucket_size
form-twenty t o b y =
    count-values bucket_size (slots_of t) (of_bucket t o b) (λ i. rank (slot t i))
    (λ i l u. form-rank t o f i l (and_l (used (slot t i)) (eqb (slot_bucket (slot t i) o) b) u))
    (λ i j li lj u v e. f.untied i j li lj (and_l (used (slot t i)) (eqb (slot_bucket (slot t i) o) b) u) (and_l (used (slot t j)) (eqb (slot_bucket (slot t j) o) b) v)
    (eqb-true (slot_bucket (slot t j) o) b (and_r (used (slot t j)) (eqb (slot_bucket (slot t j) o) b) v) ∙ sym (eqb-true (slot_bucket (slot t i) o) b (and_r (used (slot t i)) (eqb (slot_bucket (slot t i) o) b) u))) (sym e))
  where
    f : InForm t o
    f = form-elim t o y

-- Laws of the slots that are shown. Assumes nothing.
use Prim.Native.Nat.{ℕ}
use mathlib.Core.Path.{◌≡◌, sym, ap, ◌∙◌}
use mathlib.Core.Bool.{true, false, not, not-not}
use mathlib.Core.List.{List}
use lib.Dec.{eqb}
use borrow.Author.Tests.{not-true}
use Rattle.octets.proofs.Bools.{and_l, and_r, and_i, and-on, and-off, and-fails, not-no}
use Rattle.contacts.specs.Table.{mark, used, doubt, doubtful}
use Rattle.contacts.specs.Near.{shown}
use Rattle.contact_table.proofs.Cuts.{mark-used, mark-free}

module _ (s : List ℕ) where
  pub shown-used : shown s ≡ true → used s ≡ true
  unfolding shown
  shown-used h = and_l (used s) (not (doubtful s)) h

  -- "passes over doubtful ones"
  pub shown-trusted : shown s ≡ true → doubtful s ≡ false
  unfolding shown
  shown-trusted h = not-true (doubtful s) (and_r (used s) (not (doubtful s)) h)

  pub shown-yes : used s ≡ true → doubtful s ≡ false → shown s ≡ true
  unfolding shown
  shown-yes u d = and_i (used s) (not (doubtful s)) u (not-no (doubtful s) d)

  pub doubtful-hidden : doubtful s ≡ true → shown s ≡ false
  unfolding shown
  doubtful-hidden d = and-fails (used s) (not (doubtful s)) (ap not d)

  -- the two bytes that the code reads
  pub free-hidden : (m : ℕ) → m ≡ mark s → m ≡ 0 → false ≡ shown s
  unfolding shown
  free-hidden m e z = sym (and-off (used s) (not (doubtful s)) (mark-free s (sym e ∙ z)))

  pub used-shown : (m d : ℕ) → m ≡ mark s → (m ≡ 0 → ⊥) → d ≡ doubt s → eqb d 0 ≡ shown s
  unfolding shown doubtful
  used-shown m d e z g = ap (λ (n : ℕ). eqb n 0) g ∙ sym (and-on (used s) (not (doubtful s)) (mark-used s (λ w. z (e ∙ w))) ∙ not-not (eqb (doubt s) 0))

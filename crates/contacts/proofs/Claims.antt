-- The claims, each by its law. Assumes nothing.
use Prim.Native.Nat.{ℕ, ◌≤◌}
use mathlib.Core.Path.{◌≡◌}
use mathlib.Core.Bool.{cond}
use mathlib.Core.List.{List, []}
use native.Mathlib.Omega.{arith}
use lib.ListN.{length, take, length-take}
use Rattle.octets.proofs.Bools.{cond_ind}
use Rattle.limits.specs.Limits.{most_near}
use Rattle.place.specs.Place.{is_place}
use Rattle.contact_form.proofs.FormFacts.{form-elim}
use Rattle.contacts.specs.Table.{slots_of, slot}
use Rattle.contacts.specs.Near.{sorted, nearest_slots, nearest_of}
use Rattle.contacts.specs.Claims.{Claims}
use Rattle.contacts.proofs.Sorting.{take-filled}
use Rattle.contacts.proofs.Shown.{shown-yes}
use Rattle.contacts.proofs.TwentyNearest.{nearest-are, nearest-strict, passed_over, own_first}

at-most-twenty : (t x : List ℕ) → length (nearest_slots t x) ≤ 20
unfolding nearest_slots
at-most-twenty t x =
    cond_ind (λ (l : List ℕ). length l ≤ 20) (is_place x) (take most_near (sorted t x (slots_of t))) []
    (λ _. omega (arith, length-take most_near (sorted t x (slots_of t)))) (λ _. omega arith)

as-told : (t x : List ℕ) → take (nearest_of t x).n (nearest_of t x).at ≡ nearest_slots t x
unfolding nearest_of
as-told t x = take-filled (nearest_slots t x) (at-most-twenty t x)

pub claims : Claims
claims = record {
  nearest = nearest-are;
  strictly = λ t o x hx ht y. nearest-strict t o x hx ht (form-elim t o y);
  passes_over = passed_over;
  own = λ t o i ht y l u d. own_first t o i ht (form-elim t o y) l (shown-yes (slot t i) u d);
  told = as-told;
}

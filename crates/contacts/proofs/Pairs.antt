-- Two places compared by how far they are, as `closer` does. Assumes nothing.
use Prim.Native.Nat.{ℕ}
use mathlib.Core.Path.{◌≡◌, ap₂}
use mathlib.Core.List.{List}
use lib.Dec.{ltb}
use Rattle.place.specs.Place.{distance}
use Rattle.contacts.specs.Table.{slot, place}
use Rattle.contacts.specs.Near.{far}

pub far-pair : (t x : List ℕ) (a b : ℕ) {p q : List ℕ} → p ≡ place (slot t a) → q ≡ place (slot t b) → ltb (distance p x) (distance q x) ≡ ltb (far t x a) (far t x b)
unfolding far
far-pair t x a b e f = ap₂ (λ (v w : List ℕ). ltb (distance v x) (distance w x)) e f

-- A name's place is a place. Assumes nothing.
use Prim.Native.Nat.{ℕ}
use mathlib.Core.Path.{◌≡◌}
use mathlib.Core.Bool.{true}
use mathlib.Core.List.{List}
use lib.ListN.{length}
use borrow.Author.Tests.{eq-eqb}
use Rattle.octets.specs.Octets.{Bytes}
use Rattle.sha256.proofs.Claims.{claims}
use Rattle.place.specs.Place.{place_of, is_place}

pub length-place_of : (name : List ℕ) → length (place_of name) ≡ 32
unfolding place_of
length-place_of name = claims.size name

pub bytes-place_of : (name : List ℕ) → Bytes (place_of name)
unfolding place_of
bytes-place_of name = claims.bytes name

pub is_place-place_of : (name : List ℕ) → is_place (place_of name) ≡ true
unfolding is_place
is_place-place_of name = eq-eqb (length (place_of name)) 32 (length-place_of name)

-- The nearest contacts, for a box. Assumes nothing.
use Prim.Native.Nat.{ℕ, ◌<◌, ◌≤◌}
use mathlib.Core.Path.{◌≡◌, refl, sym, ap, ◌∙◌}
use mathlib.Core.Bool.{true, false, ◌&&◌}
use mathlib.Core.List.{List}
use native.Mathlib.Omega.{arith}
use lib.ListN.{length}
use lib.Dec.{leb}
use borrow.Author.Tests.{le-leb, lt-leb}
use Rattle.octets.proofs.Bools.{and_i, and-off, and-fails}
use Rattle.refusal.specs.declared.Refusal.TheVariants.{OutOfForm, BreaksRules, BadPeer}
use Rattle.place.specs.Place.{place_of}
use Rattle.peer.specs.declared.Peer.{Peer}
use Rattle.contacts.specs.Form.{in_form}
use Rattle.contacts.specs.declared.Closest.{Closest}
use Rattle.contacts.specs.Near.{nearest_of}
use Rattle.message.specs.Kinds.{key_fits}
use Rattle.host_calls.specs.declared.Nearby.{Nearby}
use Rattle.connections.specs.Box.{own_fits}
use Rattle.host_calls.specs.Hosts.{none_near, nearest_to}
use Rattle.std.specs.Prelude.{Ok}

key-none : (key : List ℕ) → length key ≡ 0 → key_fits key ≡ false
unfolding key_fits
key-none key e = and-off (leb 1 (length key)) _ (lt-leb 1 (length key) (omega arith))

key-long : (key : List ℕ) → 128 < length key → key_fits key ≡ false
unfolding key_fits
key-long key l = and-fails (leb 1 (length key)) (leb (length key) 128) (lt-leb (length key) 128 l)

key_fits_lem : (key : List ℕ) → (length key ≡ 0 → ⊥) → length key ≤ 128 → key_fits key ≡ true
unfolding key_fits
key_fits_lem key e l = and_i (leb 1 (length key)) (leb (length key) 128) (le-leb 1 (length key) (omega arith)) (le-leb (length key) 128 l)

module _ (me : Peer) (t key : List ℕ) where
  pub near-broken : in_form t me.place ≡ false → none_near OutOfForm ≡ nearest_to me t key
  unfolding nearest_to
  near-broken a = rw a

  module _ (a : in_form t me.place ≡ true) where
    near-key : key_fits key ≡ false → none_near BreaksRules ≡ nearest_to me t key
    unfolding nearest_to
    near-key b = rw (a, b)

    pub near_none : length key ≡ 0 → none_near BreaksRules ≡ nearest_to me t key
    near_none e = near-key (key-none key e)

    pub near-long : 128 < length key → none_near BreaksRules ≡ nearest_to me t key
    near-long l = near-key (key-long key l)

    module _ (e : length key ≡ 0 → ⊥) (l : length key ≤ 128) where
      pub near-own : own_fits me ≡ false → none_near BadPeer ≡ nearest_to me t key
      unfolding nearest_to
      near-own o = rw (a, key_fits_lem key e l, o)

      found-near : own_fits me ≡ true → ◌≡◌ {A = Nearby} (record { closest = nearest_of t (place_of key); told = (Ok tt) }) (nearest_to me t key)
      unfolding nearest_to
      found-near o = rw (a, key_fits_lem key e l, o)

      pub near-found : (x : List ℕ) (n : Closest) → own_fits me ≡ true → x ≡ place_of key → n ≡ nearest_of t x → ◌≡◌ {A = Nearby} (record { closest = n; told = (Ok tt) }) (nearest_to me t key)
      near-found x n o p q = ap (λ (z : Closest). record { closest = z; told = (Ok tt) }) (q ∙ ap (nearest_of t) p) ∙ found-near o

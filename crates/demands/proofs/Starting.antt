-- A lookup's start isn't refused without cause. Assumes nothing.
use Prim.Native.Nat.{ℕ, ◌-◌, ◌≤◌}
use mathlib.Core.Path.{◌≡◌, ap, ◌∙◌}
use mathlib.Core.Bool.{true}
use mathlib.Core.List.{List}
use native.Mathlib.Omega.{arith}
use lib.Dec.{leb}
use lib.ListN.{length, take, length-take}
use borrow.Author.Tests.{le-leb, leb-true}
use Rattle.octets.proofs.Bools.{and_l, and_r, and_i, cond_yes}
use Rattle.peer.specs.declared.Peer.{Peer}
use Rattle.peer.specs.Peers.{id_in}
use Rattle.contacts.specs.Form.{in_form as contacts_form}
use Rattle.connections.specs.Box.{own_fits}
use Rattle.message.specs.Kinds.{key_fits}
use Rattle.lookup.specs.Lookup.{limit_fits, id_fits, begun, start_of}
use Rattle.lookup_runs.specs.Runs.{accepted}
use Rattle.lookup_runs.proofs.Moves.{settled-accepted}
use Rattle.host_calls.specs.Hosts.{own_id, lookup_start}
use Rattle.demands.specs.Box.{Own}

module _ (me : Peer) (w : Own me) where
  own-size : (1 ≤ me.size) × (me.size ≤ 64)
  unfolding own_fits
  own-size = (leb-true 1 me.size (and_l (leb 1 me.size) _ w.fits), leb-true me.size 64 (and_r (leb 1 me.size) _ w.fits))

  own-length : length (own_id me) ≡ me.size
  unfolding own_id id_in
  own-length =
      let n : length (take (me.size - 0) me.id) ≡ me.size = omega (arith, length-take (me.size - 0) me.id, w.roomed, own-size.1) in
      ap length (cond_yes (own_fits me) _ _ w.fits) ∙ n

  own-fits : id_fits (own_id me) ≡ true
  unfolding id_fits
  own-fits =
      and_i _ _ (le-leb 1 (length (own_id me)) (omega (arith, own-length, own-size.0))) (le-leb (length (own_id me)) 64 (omega (arith, own-length, own-size.1)))

  pub begins : (t key : List ℕ) (limit : ℕ) → contacts_form t me.place ≡ true → key_fits key ≡ true → limit_fits limit ≡ true → accepted (lookup_start me t key limit).answer ≡ true
  unfolding lookup_start start_of
  begins t key limit f k l = rw (f, k, own-fits, l) (settled-accepted (begun t key limit))

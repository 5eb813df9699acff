-- A tidied peer may come in, whatever the addresses were. Assumes nothing.
use Prim.Native.Nat.{ℕ, ◌<◌, ◌≤◌}
use mathlib.Core.Path.{◌≡◌, sym, ap, ◌∙◌, subst}
use mathlib.Core.List.{List}
use native.Mathlib.Omega.{arith}
use lib.ListN.{length, get_or}
use Rattle.place.specs.Place.{place_of, bucket_of}
use Rattle.peer.specs.declared.Peer.{Peer}
use Rattle.peer.specs.Peers.{id_in, tidied}
use Rattle.peer.proofs.Lists.{size-least, size-most}
use Rattle.peer.proofs.Tidy.{tidied-place, tidied-id, tidied-size, tidied-addrs, tidied-lens, tidied-few, tidied-usable}
use Rattle.sightings_kept.specs.Promises.{Fair, HashedPeer}

pub tidied-fair : (ours : List ℕ) (p : Peer) → 1 ≤ p.size → p.size ≤ 64 → bucket_of p.place ours < 256 → length p.place ≡ 32 → length p.id ≡ 64
    → length p.addrs ≡ 512 → Fair ours (tidied p)
tidied-fair ours p a b o l i w =
    record {
      id_least = omega (arith, tidied-size p);
      id_most = omega (arith, tidied-size p);
      few = tidied-few p;
      sizes = λ k h. let u = tidied-usable p w k h in (size-least (get_or (tidied p).lens k 0) u, size-most (get_or (tidied p).lens k 0) u);
      other = subst (λ (x : List ℕ). bucket_of x ours < 256) (sym (tidied-place p)) o;
      lens_long = tidied-lens p;
      place_long = ap length (tidied-place p) ∙ l;
      id_long = ap length (tidied-id p) ∙ i;
      addrs_long = tidied-addrs p;
    }

pub fair-tidied : (ours : List ℕ) (p : Peer) → Fair ours p → Fair ours (tidied p)
fair-tidied ours p f = tidied-fair ours p f.id_least f.id_most f.other f.place_long f.id_long f.addrs_long

pub hashed-tidied : (p : Peer) → HashedPeer p → HashedPeer (tidied p)
unfolding tidied id_in
hashed-tidied p h = h

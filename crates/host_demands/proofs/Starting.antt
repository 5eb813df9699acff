-- The bytes that starterbell_start writes stand for a box of which the demands speak. Assumes nothing.
use Prim.Native.Nat.{ℕ, ◌≤◌}
use mathlib.Core.Path.{◌≡◌, refl, sym, subst}
use mathlib.Core.Bool.{Bool, true, false, cond}
use mathlib.Core.List.{List}
use native.Mathlib.Omega.{arith}
use lib.ListN.{length, replicate, length-replicate}
use lib.Seq.{sets, length-sets}
use lib.Dec.{ltb}
use borrow.Author.Tests.{ltb-false}
use Rattle.octets.proofs.Bools.{cond_ind}
use Rattle.place.specs.Place.{place_of}
use Rattle.place.proofs.Places.{length-place_of}
use Rattle.peer.specs.Peers.{id_fits}
use Rattle.connections.specs.declared.Started as given
use Rattle.connections.specs.Box.{nobody, start_of}
use Rattle.flat.specs.Flat.{peer_size, peer_in, peer_bytes}
use Rattle.flat.specs.Promises.{Whole}
use Rattle.flat.proofs.Back.{reads-back-lent}
use Rattle.host_numbers.specs.Numbers.{told_code, unless_refused}
use Rattle.host_state.specs.State.{box_after}
use Rattle.host.specs.Host.{lent}
use Rattle.demands.specs.Box.{Own}
use Rattle.demands.proofs.Beginning.{beginnings}
use Rattle.host_demands.specs.Hosted.{Started, Starts}
use Rattle.host_demands.proofs.Connections.{peer-whole}
use Rattle.host_demands.proofs.Numbers.{number_small}
use Rattle.std.specs.Prelude.{Ok, Err, Result, ⊤}
use Rattle.refusal.specs.declared.Refusal.{Refusal}

start-whole : (id addresses : List ℕ) → Whole (start_of id addresses).me
unfolding start_of nobody
start-whole id addresses =
    cond_ind (λ (s : given.Started). Whole s.me) (id_fits id) _ _ (λ e. peer-whole id (place_of id) addresses (length-place_of id))
    (λ e. peer-whole _ (replicate 32 0) _ (length-replicate {A = ℕ} 32 0))

fine-only : (t : Result ⊤ Refusal) → told_code t ≡ 64 → t ≡ Ok tt
fine-only (Ok tt) e = refl
fine-only (Err r) e = absurd (omega (arith, e, number_small r))

pub starts : Starts
unfolding lent
starts me id addresses e = go (ltb (length me) peer_size) refl e
  where
    written : List ℕ
    written = sets me 0 (peer_bytes (start_of id addresses).me)

    Writes : List ℕ → Type 0
    Writes x = Started x × (peer_in x ≡ (start_of id addresses).me)

    good : ltb (length me) peer_size ≡ false → (start_of id addresses).told ≡ Ok tt → Writes written
    good l f =
        let long : peer_size ≤ length me = ltb-false (length me) peer_size l in
        let back : peer_in written ≡ (start_of id addresses).me = reads-back-lent.peer me (start_of id addresses).me long (start-whole id addresses) in (
          record {
            room = omega (arith, long, length-sets me 0 (peer_bytes (start_of id addresses).me));
            own = subst Own (sym back) (beginnings.own id addresses f);
          },
          back,
        )

    go : (b : Bool) → ltb (length me) peer_size ≡ b → cond b 0 (told_code (start_of id addresses).told) ≡ 64 → Writes (cond b me (box_after me (start_of id addresses)))
    go true l z = absurd (omega (arith, z))
    go false l z =
        let f : (start_of id addresses).told ≡ (Ok tt) = fine-only (start_of id addresses).told z in
        subst (λ (t : Result ⊤ Refusal). Writes (unless_refused t written me)) (sym f) (good l f)

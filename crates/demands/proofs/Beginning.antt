-- A start that isn't refused gives a box of which the demands speak, and a host that begins with cleared memory has a ready world. Assumes nothing.
use Prim.Native.Nat.{ℕ, zero, suc, ◌*◌, min}
use mathlib.Core.Path.{◌≡◌, refl, sym, ap, ◌∙◌, subst}
use mathlib.Core.Bool.{Bool, true, false, cond, true≢false}
use mathlib.Core.List.{List}
use native.Mathlib.Omega.{arith}
use lib.ListN.{length, get_or}
use borrow.Author.Tests.{le-leb}
use Rattle.octets.specs.Octets.{Bytes}
use Rattle.octets.proofs.Bools.{and_i, not-both}
use Rattle.refusal.specs.declared.Refusal.TheVariants.{BadPeer}
use Rattle.place.specs.Place.{place_of}
use Rattle.place.proofs.Places.{length-place_of, bytes-place_of}
use Rattle.peer.specs.declared.Peer.{Peer}
use Rattle.peer.specs.Peers.{id_fits, peer_of}
use Rattle.peer.proofs.Meaning.{place_is, size_is, id-length, fits-least, fits-most}
use Rattle.contacts.specs.Table.{slot_size, slot, used}
use Rattle.contacts.specs.Form.{in_form as contacts_form}
use Rattle.contact_table.proofs.Cuts.{mark-cut, mark-free}
use Rattle.sightings_kept.specs.Promises.{Hashed}
use Rattle.contact_calls.proofs.Theorems.{cleared-in-form}
use Rattle.records.specs.Store.{in_form as records_form}
use Rattle.records_history.specs.History.{cleared}
use Rattle.records_history.proofs.Stays.{cleared-form}
use Rattle.stream.specs.Stream.{is_shut, in_form}
use Rattle.cutting.specs.World.{World, Ready}
use Rattle.connections.specs.declared.Started.{Started}
use Rattle.connections.specs.Box.{own_fits, nobody, start_of}
use Rattle.demands.specs.Box.{Box, Who, Ask, Own, Allowed, Good}
use Rattle.demands.specs.Demands.{Begun, Beginnings}
use Rattle.demands.proofs.Hashing.{Known, Placed}
use Rattle.std.specs.Prelude.{Ok, Err}

-- ---- the start
fits-own : (id place addresses : List ℕ) → id_fits id ≡ true → own_fits (peer_of id place addresses) ≡ true
unfolding own_fits
fits-own id place addresses f =
    let n : (peer_of id place addresses).size ≡ min (length id) 64 = size_is id place addresses in
    and_i _ _ (le-leb 1 (peer_of id place addresses).size (omega (arith, n, fits-least id f))) (le-leb (peer_of id place addresses).size 64 (omega (arith, n)))

own_of : (id addresses : List ℕ) → id_fits id ≡ true → Own (peer_of id (place_of id) addresses)
own_of id addresses f =
    record {
      fits = fits-own id (place_of id) addresses f;
      roomed = id-length id (place_of id) addresses;
      long = ap length (place_is id (place_of id) addresses) ∙ length-place_of id;
      bytes = subst Bytes (sym (place_is id (place_of id) addresses)) (bytes-place_of id);
    }

start-own : (id addresses : List ℕ) → (start_of id addresses).told ≡ Ok tt → Own (start_of id addresses).me
unfolding start_of
start-own id addresses = go (id_fits id) (own_of id addresses)
  where
    yes : Started
    yes = record { me = peer_of id (place_of id) addresses; told = (Ok tt) }

    no : Started
    no = record { me = nobody; told = Err BadPeer }

    go : (b : Bool) → (b ≡ true → Own yes.me) → (cond b yes no).told ≡ Ok tt → Own (cond b yes no).me
    go true h e = h refl
    go false h e = absurd (let z : ◌≡◌ {A = ℕ} 0 1 = cc in omega arith)

-- ---- cleared memory
zeros : (n k : ℕ) → get_or (cleared n) k 0 ≡ 0
zeros zero k = refl
zeros (suc n) zero = refl
zeros (suc n) (suc k) = zeros n k

begun-ready : (me : Peer) (s : World Who Box Ask) → Begun s → Ready (Allowed me) (Good me) s
begun-ready me s b =
    record {
      lines = λ i. record { form = ap in_form (b.shut i); room = b.buffers i; peer = λ z. absurd (true≢false (sym (ap is_shut (b.shut i)) ∙ z)) };
      good = record {
        contacts = ap (λ (t : List ℕ). contacts_form t me.place) b.contacts ∙ cleared-in-form (cleared b.contact_bytes) me.place (zeros b.contact_bytes);
        records = ap records_form b.records ∙ cleared-form b.record_bytes;
        room = b.reply;
      };
    }

-- no slot of cleared memory is used
cleared-hashed : (n : ℕ) → Hashed (cleared n)
cleared-hashed n i l u = absurd (not-both (used (slot (cleared n) i)) u (mark-free (slot (cleared n) i) (sym (mark-cut (cleared n) i) ∙ zeros n (i * slot_size))))

pub begun-known : (me : Peer) (s : World Who Box Ask) → Begun s → Ready (Known me) (Placed me) s
begun-known me s b =
    let r = begun-ready me s b in
    record {
      lines = λ i. record { form = (r.lines i).form; room = (r.lines i).room; peer = λ z. absurd (true≢false (sym (ap is_shut (b.shut i)) ∙ z)) };
      good = record { good = r.good; hashed = subst Hashed (sym b.contacts) (cleared-hashed b.contact_bytes) };
    }

pub beginnings : Beginnings
beginnings = record { own = start-own; ready = begun-ready }

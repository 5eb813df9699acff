-- Each claim of specs/Claims.antt: the bounds are those of Sizes, and the largest pieces have as many bytes as the limits allow. Assumes nothing.
use Prim.Native.Nat.{ℕ, zero, suc, ◌+◌, ◌*◌, ◌<◌}
use mathlib.Core.Path.{◌≡◌, refl, ap, ◌∙◌}
use mathlib.Core.List.{List, [], ◌∷◌, map, append-nil}
use mathlib.Core.Bool.{true}
use native.Mathlib.Omega.{arith}
use lib.ListN.{length, replicate, length-append}
use lib.Dec.{leb}
use Rattle.octets.specs.Search.{every, all_of}
use Rattle.limits.specs.Limits.{most_value}
use Rattle.wire.specs.Items.{num, bytes, digits, minimal, tagged, written1, written, single, repeated}
use Rattle.wire_put.proofs.Putting.{bytes-length}
use Rattle.message.specs.Message.{Peer, Record, Message, peer_items, encode_peer, record_items, encode_record, held_items, encode}
use Rattle.pieces.specs.Writable.{address_fits, peer_fits, record_fits, held_fits}
use Rattle.pieces.specs.Claims.{GetValueBody, EchoBody, Claims}
use Rattle.pieces.proofs.Sizes.{entry-most, record-entry-most, message-length, reply-most, echo-most}
use Rattle.pieces.specs.Sizes.{most_peer, most_peer_field, most_record, most_record_field, most_echo, most_reply}
use Rattle.std.specs.Prelude.{Some}

zeros : ℕ → List ℕ
zeros n = replicate n 0

-- ---- a peer and a record with every part as long as its limit
full-peer : Peer
full-peer = record { id = zeros 64; addrs = replicate 4 (zeros 128); connection = 3 }

full-record : Record
full-record = record { key = zeros 128; value = zeros most_value }

peer-fits : peer_fits full-peer ≡ true
unfolding full-peer zeros peer_fits address_fits every all_of
peer-fits = refl

record-fits : record_fits full-record ≡ true
unfolding full-record zeros record_fits all_of
record-fits = refl

peer-size : length (encode_peer full-peer) ≡ most_peer
unfolding full-peer zeros encode_peer peer_items written written1 tagged minimal digits single repeated
peer-size = refl

record-size : length (encode_record full-record) ≡ most_record
unfolding full-record zeros encode_record record_items written written1 tagged minimal digits single
record-size = refl

-- a field of a length that takes two bytes
entry-size : (f n : ℕ) (b : List ℕ) → f < 16 → length b ≡ n → length (minimal n) ≡ 2 → length (written1 (bytes f b)) ≡ 3 + n
entry-size f n b h e q = omega (arith, bytes-length f b h, ap (λ (k : ℕ). length (minimal k)) e, e, q)

peer-entry : (f : ℕ) → f < 16 → length (written1 (bytes f (encode_peer full-peer))) ≡ most_peer_field
unfolding minimal digits
peer-entry f h = entry-size f most_peer (encode_peer full-peer) h peer-size refl

record-entry : length (written1 (bytes 3 (encode_record full-record))) ≡ most_record_field
unfolding minimal digits
record-entry = entry-size 3 most_record (encode_record full-record) (omega arith) record-size refl

-- ---- a reply with such a record and n such peers
peers-size : (n : ℕ) → length (written (repeated 8 (map encode_peer (replicate n full-peer)))) ≡ most_peer_field * n
unfolding repeated written
peers-size zero = omega arith
peers-size (suc n) = omega (arith, length-append (written1 (bytes 8 (encode_peer full-peer))) (written (repeated 8 (map encode_peer (replicate n full-peer)))), peer-entry 8 (omega arith), peers-size n)

peers-fit : (n : ℕ) → every peer_fits (replicate n full-peer) ≡ true
unfolding every
peers-fit zero = refl
peers-fit (suc n) = rw (peer-fits, peers-fit n)

full-reply : Message
full-reply = record { kind = 1; key = []; held = Some full-record; closer = replicate 20 full-peer; providers = [] }

held-size : length (written (held_items (Some full-record))) ≡ most_record_field
unfolding held_items written
held-size = ap length (append-nil (written1 (bytes 3 (encode_record full-record)))) ∙ record-entry

kind-size : length (written1 (num 1 1)) ≡ 2
unfolding written1 tagged minimal digits
kind-size = refl

reply-size : length (encode full-reply) ≡ most_reply
unfolding full-reply single repeated written
reply-size = omega (arith, message-length full-reply, kind-size, held-size, peers-size 20)

reply-fits : GetValueBody full-reply
unfolding full-reply held_fits
reply-fits = record { kind = omega arith; key = refl; held = record-fits; closer = peers-fit 20; twenty = omega arith; providers = refl }

-- ---- an echo of such a record
full-echo : Message
full-echo = record { kind = 0; key = zeros 128; held = Some full-record; closer = []; providers = [] }

echo-key-size : length (written1 (num 1 0)) + length (written (single 2 (zeros 128))) ≡ 133
unfolding zeros written written1 tagged minimal digits single
echo-key-size = refl

echo-size : length (encode full-echo) ≡ most_echo
unfolding full-echo repeated written
echo-size = omega (arith, message-length full-echo, echo-key-size, held-size)

echo-fits : EchoBody full-echo
unfolding full-echo zeros held_fits
echo-fits = record { kind = omega arith; key = omega arith; held = record-fits; closer = refl; providers = refl }

limits : (r : Record) → record_fits r ≡ all_of (leb (length r.key) 128 ∷ leb (length r.value) 3072 ∷ [])
unfolding record_fits
limits r = refl

pub claims : Claims
claims =
    record {
      record-limits = limits;
      peer = λ f h. record { most = λ p e. entry-most f p h e; one = (full-peer, peer-fits, peer-entry f h) };
      held = record { most = record-entry-most; one = (full-record, record-fits, record-entry) };
      reply = record { most = λ m b. reply-most m b.kind b.key b.held b.closer b.twenty b.providers; one = (full-reply, reply-fits, reply-size) };
      echo = record { most = λ m b. echo-most m b.kind b.key b.held b.closer b.providers; one = (full-echo, echo-fits, echo-size) };
    }

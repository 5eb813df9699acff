-- The writer as an entry point: RULES, Messages, refusals 1 and 21.
use Rattle.std.specs.Prelude.{ℕ, zero, suc, ◌+◌, ◌*◌, List, [], ◌∷◌, Bool, cond, not, length, get_or, drop, leb, ltb}
use Rattle.std.proofs.lemmas.List.Edits.{sets}
use Rattle.octets.specs.Octets.{part}
use Rattle.limits.specs.Limits.{least_reply}
use Rattle.refusal.specs.declared.Refusal.TheVariants.{SmallBuffer, Unwritable}
use Rattle.message.specs.Message.{Peer, Message, encode, frame}
use Rattle.peer.specs.Addresses.{two, entries, addresses_of}
use Rattle.pieces.specs.Writable.{record_with, writable}
use Rattle.std.specs.Prelude.{Ok, Err, Some, None, Result}
use Rattle.refusal.specs.declared.Refusal.{Refusal}

-- ---- peers and addresses as byte strings

-- a peer in a list: a two-byte length of the id, the id, a byte for the connection, a two-byte length of the address list, the address list
unfoldable pub peer_size : List ℕ → ℕ
peer_size s = 5 + two s 0 + two s (3 + two s 0)

unfoldable pub peer_at : List ℕ → Peer
peer_at s =
    record {
      id = part s 2 (2 + two s 0);
      addrs = addresses_of (part s (5 + two s 0) (peer_size s));
      connection = get_or s (2 + two s 0) 0;
    }

unfoldable pub peers_of : List ℕ → List Peer
peers_of s = entries peer_size peer_at s

-- ---- the writer

-- the message that is to be written: its record, if there is one, is of rkey and value
unfoldable pub message_with : ℕ → List ℕ → Bool → List ℕ → List ℕ → List ℕ → List ℕ → Message
message_with kind key held rkey value closer providers =
    record {
      kind = kind;
      key = key;
      held = cond held (Some (record_with rkey value)) None;
      closer = peers_of closer;
      providers = peers_of providers;
    }

-- the answer: 1, then 21, else how many bytes were written
unfoldable pub answer_of : List ℕ → Message → Result ℕ Refusal
answer_of out m =
    cond (ltb (length out) least_reply) (Err SmallBuffer)
    (cond (not (writable m)) (Err Unwritable)
    (Ok (length (frame (encode m)))))

-- the buffer afterwards: the message with its length prefix from the start on, or nothing changed
unfoldable pub out_after : List ℕ → Message → List ℕ
out_after out m = cond (ltb (length out) least_reply) out (cond (not (writable m)) out (sets out 0 (frame (encode m))))

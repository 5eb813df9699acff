-- What only the proofs need: a list half counted or half written.
use Rattle.std.specs.Prelude.{ℕ, ◌+◌, List, [], ◌∷◌, ◌++◌, map, Bool, cond, length, leb}
use Rattle.octets.specs.Search.{every, all_of}
use Rattle.limits.specs.Limits.{most_body}
use Rattle.wire.specs.Items.{num, written1, written, single, repeated}
use Rattle.message.specs.Message.{Peer, Record, Message, encode_peer, held_items, encode}
use Rattle.pieces.specs.Writable.{peer_fits, held_fits, record_piece, peer_piece, record_with, writable}
use Rattle.writer.specs.Writer.{peers_of}
use Rattle.std.specs.Prelude.{Some, None, Option}

-- the number of addresses, 5 standing for more than four
unfoldable pub count_of : List (List ℕ) → ℕ
count_of l = cond (leb (length l) 4) (length l) 5

-- entries, as they are written
unfoldable pub entry_bytes : ℕ → List Peer → List ℕ
entry_bytes f l = written (repeated f (map encode_peer l))

-- the size of what was counted so far and of the peers that are left, unless one is over its limits or all are together
unfoldable pub sized : ℕ → ℕ → List Peer → Option ℕ
sized f sum l = cond (all_of (every peer_fits l ∷ leb (sum + length (entry_bytes f l)) most_body ∷ [])) (Some (sum + length (entry_bytes f l))) None

unfoldable pub pieces : ℕ → List Peer → List ℕ
pieces f [] = []
pieces f (p ∷ l) = peer_piece f p ++ pieces f l

unfoldable pub held_size : Option Record → Option ℕ
held_size o = cond (held_fits o) (Some (length (written (held_items o)))) None

unfoldable pub held_piece : Bool → List ℕ → List ℕ → List ℕ
held_piece held key value = cond held (record_piece (record_with key value)) []

-- the pieces of a message, one after another
unfoldable pub message_pieces : ℕ → List ℕ → Bool → List ℕ → List ℕ → List ℕ → List ℕ → List ℕ
message_pieces kind key held rkey value closer providers =
    written1 (num 1 kind) ++ (written (single 2 key) ++ (held_piece held rkey value ++ (pieces 8 (peers_of closer) ++ pieces 9 (peers_of providers))))

unfoldable pub size_of : Message → Option ℕ
size_of m = cond (writable m) (Some (length (encode m))) None

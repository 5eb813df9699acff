-- A read message as a view: where its parts are in the body. RULES, Messages: "it points into the receive buffer, and each bytes field is that part of it".
use Rattle.std.specs.Prelude.{ℕ, true, false, cond, not, length, take, replicate, ltb}
use mathlib.Core.List.{List, [], ◌∷◌, map, flatten as joined}
use Rattle.std.proofs.lemmas.List.Edits.{sets}
use Rattle.octets.specs.Search.{last_of}
use Rattle.limits.specs.Limits.{most_body, most_kind, most_heard}
use Rattle.refusal.specs.declared.Refusal.TheVariants.{TooLong, Malformed, UnknownType}
use Rattle.wire.specs.Wire.{fields, fields_in, numbers, spans, nowhere}
use Rattle.wire.specs.Items.{cut}
use Rattle.wire.specs.declared.Span.{Span}
use Rattle.message.specs.Message.{Peer, Record, Message, well_message, connection_of}
use Rattle.message.specs.declared.Held.{Held}
use Rattle.message.specs.declared.Fields.{Fields}
use Rattle.message.specs.declared.Ids.{Ids}
use Rattle.std.specs.Prelude.{Ok, Err, Some, None, Result, Option}
use Rattle.refusal.specs.declared.Refusal.{Refusal}

-- ---- where the parts are; an absent one is at position 0 with length 0

abbrev pub no_record : Held
no_record = record { there = false; key = nowhere; value = nowhere }

-- where the bytes fields f are of all the parts of s at some spans: those of the first part, then those of the next
unfoldable pub all_spans : List ℕ → ℕ → List Span → List Span
all_spans s f ps = joined (map (λ (p : Span). spans f (fields_in s p)) ps)

-- the record whose occurrences are at some spans: the last key and the last value of all of them, which may be in different ones
unfoldable pub held_at : List ℕ → List Span → Held
held_at s [] = no_record
held_at s (p ∷ ps) = record { there = true; key = last_of nowhere (all_spans s 1 (p ∷ ps)); value = last_of nowhere (all_spans s 2 (p ∷ ps)) }

unfoldable pub fields_of : List ℕ → Fields
fields_of s =
    record {
      kind = last_of 0 (numbers 1 (fields s));
      key = last_of nowhere (spans 2 (fields s));
      held = held_at s (spans 3 (fields s));
    }

-- the reader: 4, then 5, then 6
unfoldable pub reading_of : List ℕ → Result Fields Refusal
reading_of s =
    cond (ltb most_body (length s)) (Err TooLong)
    (cond (not (well_message s)) (Err Malformed)
    (cond (ltb most_kind (fields_of s).kind) (Err UnknownType)
    (Ok (fields_of s))))

-- ---- a peer, whose bytes are at a span

unfoldable pub id_at : List ℕ → Span → Span
id_at s p = last_of nowhere (spans 1 (fields_in s p))

unfoldable pub addresses_at : List ℕ → Span → List Span
addresses_at s p = spans 2 (fields_in s p)

unfoldable pub connection_at : List ℕ → Span → ℕ
connection_at s p = connection_of (last_of 0 (numbers 3 (fields_in s p)))

-- where the entries of closerPeers are, and of providerPeers
unfoldable pub closer_at : List ℕ → List Span
closer_at s = spans 8 (fields s)

unfoldable pub providers_at : List ℕ → List Span
providers_at s = spans 9 (fields s)

-- where the ids of the first 21 entries of closerPeers are
unfoldable pub heard_at : List ℕ → List Span
heard_at s = take most_heard (map (id_at s) (closer_at s))

unfoldable pub starts : List Span → List ℕ
starts l = map (λ (p : Span). p.at) l

unfoldable pub ends : List Span → List ℕ
ends l = map (λ (p : Span). p.end) l

-- in arrays of 21, with 0 where there is none
unfoldable pub ids_of : List Span → Ids
ids_of l = record { at = sets (replicate most_heard 0) 0 (starts l); end = sets (replicate most_heard 0) 0 (ends l); n = length l }

-- ---- what a view means

unfoldable pub held_meant : List ℕ → Held → Option Record
held_meant s h = cond h.there (Some (record { key = cut s h.key; value = cut s h.value })) None

unfoldable pub peer_meant : List ℕ → Span → Peer
peer_meant s p = record { id = cut s (id_at s p); addrs = map (cut s) (addresses_at s p); connection = connection_at s p }

unfoldable pub meant : List ℕ → Fields → Message
meant s m =
    record {
      kind = m.kind;
      key = cut s m.key;
      held = held_meant s m.held;
      closer = map (peer_meant s) (closer_at s);
      providers = map (peer_meant s) (providers_at s);
    }

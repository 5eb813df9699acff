-- Worked messages, which antt reads and writes by computing. Assumes nothing.
use Prim.Native.Nat.{ℕ}
use mathlib.Core.Path.{◌≡◌, refl}
use mathlib.Core.List.{List, [], ◌∷◌, map, flatten as joined}
use mathlib.Core.Bool.{true}
use Rattle.octets.specs.Search.{every, all_of, last_of}
use Rattle.wire.specs.Wire.{before, varint, placed, varint_at, end_at, number_at, fixed_at, bytes_at, content_at, tagged_at, field_at, next_of, more, fields_from, fields_at, fields, fields_in, well, numbers, span_if, spans, nowhere}
use Rattle.wire.specs.Items.{item, items, values, parts, digits, minimal, tagged, written1, written, single, repeated}
use Rattle.message.specs.Message.{Message, record_of, merged, connection_of, peer_of, message_of, well_formed, well_message, decode, held_items, message_items, encode, frame}
use Rattle.message.specs.View.{no_record, all_spans, held_at, fields_of, reading_of}
use Rattle.refusal.specs.declared.Refusal.TheVariants.{Malformed}
use Rattle.wire.specs.declared.Span.{Span}
use Rattle.std.specs.Prelude.{Ok, Err, Some, None, Result}
use Rattle.message.specs.declared.Fields.{Fields}
use Rattle.refusal.specs.declared.Refusal.{Refusal}

-- FIND_NODE with the key AB: the program's example (RULES, Examples), 06 08 04 12 02 41 42
ask : Message
ask = record { kind = 4; key = 65 ∷ 66 ∷ []; held = None; closer = []; providers = [] }

ask-written : frame (encode ask) ≡ 6 ∷ 8 ∷ 4 ∷ 18 ∷ 2 ∷ 65 ∷ 66 ∷ []
unfolding ask frame encode message_items held_items written written1 tagged minimal digits single repeated
ask-written = refl

ask-read : reading_of (8 ∷ 4 ∷ 18 ∷ 2 ∷ 65 ∷ 66 ∷ []) ≡ Ok (record { kind = 4; key = record { at = 4; end = 6 }; held = no_record })
unfolding reading_of fields_of all_spans held_at joined well_message well_formed items item parts values every all_of last_of fields fields_in fields_at fields_from more next_of field_at tagged_at content_at number_at fixed_at bytes_at end_at varint_at placed varint before well numbers span_if spans
ask-read = refl

ask-decoded : decode (8 ∷ 4 ∷ 18 ∷ 2 ∷ 65 ∷ 66 ∷ []) ≡ Some ask
unfolding ask decode message_of record_of joined merged peer_of connection_of well_message well_formed items item parts values every all_of last_of fields fields_at fields_from more next_of field_at tagged_at content_at number_at fixed_at bytes_at end_at varint_at placed varint before
ask-decoded = refl

-- type, key, record, a peer with two addresses and connection 1, and clusterLevelRaw, which is ignored
reply : List ℕ
reply =
    8 ∷ 4 ∷ 18 ∷ 4 ∷ 107 ∷ 101 ∷ 121 ∷ 33 ∷ 26 ∷ 12 ∷ 10 ∷ 3 ∷ 97 ∷ 98 ∷ 99 ∷ 18 ∷ 5 ∷ 104 ∷ 101 ∷ 108 ∷ 108 ∷ 111 ∷ 66 ∷ 14 ∷ 10 ∷ 2 ∷ 112 ∷ 49 ∷ 18 ∷ 2 ∷ 97 ∷ 49 ∷ 18 ∷ 2 ∷ 97 ∷ 50 ∷ 24 ∷ 1 ∷ 80 ∷ 1 ∷ []

reply-read : reading_of reply
    ≡ Ok (record { kind = 4; key = record { at = 4; end = 8 }; held = record { there = true; key = record { at = 12; end = 15 }; value = record { at = 17; end = 22 } } })
unfolding reply reading_of fields_of all_spans held_at joined well_message well_formed items item parts values every all_of last_of fields fields_in fields_at fields_from more next_of field_at tagged_at content_at number_at fixed_at bytes_at end_at varint_at placed varint before well numbers span_if spans
reply-read = refl

reply-decoded : decode reply
    ≡ Some (record {
      kind = 4;
      key = 107 ∷ 101 ∷ 121 ∷ 33 ∷ [];
      held = Some (record { key = 97 ∷ 98 ∷ 99 ∷ []; value = 104 ∷ 101 ∷ 108 ∷ 108 ∷ 111 ∷ [] });
      closer = record { id = 112 ∷ 49 ∷ []; addrs = (97 ∷ 49 ∷ []) ∷ (97 ∷ 50 ∷ []) ∷ []; connection = 1 } ∷ [];
      providers = [];
    })
unfolding reply decode message_of record_of joined merged peer_of connection_of well_message well_formed items item parts values every all_of last_of fields fields_at fields_from more next_of field_at tagged_at content_at number_at fixed_at bytes_at end_at varint_at placed varint before
reply-decoded = refl

-- ---- one record in several occurrences (request iv)

-- a PUT_VALUE without a message key, whose record's key and value are at two spans
put : Span → Span → Result Fields Refusal
put k v = Ok (record { kind = 0; key = nowhere; held = record { there = true; key = k; value = v } })

-- 1A 03 0A 01 41 1A 03 12 01 42: the key "A" in the first, the value "B" in the second; and the other way round
apart : List ℕ
apart = 26 ∷ 3 ∷ 10 ∷ 1 ∷ 65 ∷ 26 ∷ 3 ∷ 18 ∷ 1 ∷ 66 ∷ []

turned : List ℕ
turned = 26 ∷ 3 ∷ 18 ∷ 1 ∷ 66 ∷ 26 ∷ 3 ∷ 10 ∷ 1 ∷ 65 ∷ []

-- an occurrence without key and value leaves the key; alone it makes the record present
bare : List ℕ
bare = 26 ∷ 3 ∷ 10 ∷ 1 ∷ 65 ∷ 26 ∷ 0 ∷ []

alone : List ℕ
alone = 26 ∷ 0 ∷ []

-- a later key that is empty counts
emptied : List ℕ
emptied = 26 ∷ 3 ∷ 10 ∷ 1 ∷ 65 ∷ 26 ∷ 2 ∷ 10 ∷ 0 ∷ []

-- two halves that would be well formed if joined
halves : List ℕ
halves = 26 ∷ 1 ∷ 10 ∷ 26 ∷ 2 ∷ 1 ∷ 65 ∷ []

-- between the two a field 3 that is a number, and before the value a timeReceived
between : List ℕ
between = 26 ∷ 3 ∷ 10 ∷ 1 ∷ 65 ∷ 24 ∷ 7 ∷ 26 ∷ 6 ∷ 42 ∷ 1 ∷ 122 ∷ 18 ∷ 1 ∷ 66 ∷ []

split-read : map reading_of (apart ∷ turned ∷ bare ∷ alone ∷ emptied ∷ halves ∷ between ∷ [])
    ≡ put (record { at = 4; end = 5 }) (record { at = 9; end = 10 })
    ∷ put (record { at = 9; end = 10 }) (record { at = 4; end = 5 })
    ∷ put (record { at = 4; end = 5 }) nowhere
    ∷ put nowhere nowhere
    ∷ put (record { at = 9; end = 9 }) nowhere
    ∷ Err Malformed
    ∷ put (record { at = 4; end = 5 }) (record { at = 14; end = 15 })
    ∷ []
unfolding put apart turned bare alone emptied halves between reading_of fields_of all_spans held_at joined well_message well_formed items item parts values every all_of last_of fields fields_in fields_at fields_from more next_of field_at tagged_at content_at number_at fixed_at bytes_at end_at varint_at placed varint before well numbers span_if spans
split-read = refl

apart-decoded : decode apart ≡ Some (record { kind = 0; key = []; held = Some (record { key = 65 ∷ []; value = 66 ∷ [] }); closer = []; providers = [] })
unfolding apart decode message_of record_of joined merged peer_of connection_of well_message well_formed items item parts values every all_of last_of fields fields_at fields_from more next_of field_at tagged_at content_at number_at fixed_at bytes_at end_at varint_at placed varint before
apart-decoded = refl

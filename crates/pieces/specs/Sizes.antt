-- The largest pieces of a message, worked out from the limits: RULES, Messages. Claims.antt says that they are the largest.
use Rattle.std.specs.Prelude.{ℕ, ◌+◌, ◌*◌}
use Rattle.limits.specs.Limits.{most_id, most_address, most_addresses, most_key, most_value, most_near}

-- a field of n bytes: a tag of one byte, their number, which takes one byte below 128 and two from there up to 16,383, and the bytes
abbrev pub short_field : ℕ → ℕ
short_field n = 2 + n

abbrev pub long_field : ℕ → ℕ
long_field n = 3 + n

-- "A peer is then at most 595 bytes with tag and length": its id, its addresses and its connection
abbrev pub most_peer : ℕ
most_peer = short_field most_id + most_addresses * long_field most_address + 2

abbrev pub most_peer_field : ℕ
most_peer_field = long_field most_peer

-- a record 3,209
abbrev pub most_record : ℕ
most_record = long_field most_key + long_field most_value

abbrev pub most_record_field : ℕ
most_record_field = long_field most_record

-- "the largest PUT_VALUE echo 2 + 131 + 3,209 = 3,342": its type, its key and the record
abbrev pub most_echo : ℕ
most_echo = 2 + long_field most_key + most_record_field

-- what a query gives, as fields
abbrev pub most_peer_fields : ℕ
most_peer_fields = most_near * most_peer_field

-- "the largest GET_VALUE reply body is 2 + 3,209 + 20 x 595 = 15,111": its type, the record and the peers
abbrev pub most_reply : ℕ
most_reply = 2 + most_record_field + most_peer_fields

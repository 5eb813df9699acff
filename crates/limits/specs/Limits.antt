-- The limits of docs/RULES.md, each under one name. src/lib.rt has the same as constants. Sizes and layouts are worked out from these, each in its own crate.
use Rattle.std.specs.Prelude.{ℕ, ◌+◌, ◌*◌}

-- ---- a peer: "an id of 1 to 64 bytes and up to four addresses of 1 to 128"
abbrev pub most_id : ℕ
most_id = 64

abbrev pub most_address : ℕ
most_address = 128

abbrev pub most_addresses : ℕ
most_addresses = 4

-- the room that the addresses of a peer take
abbrev pub addresses_size : ℕ
addresses_size = most_addresses * most_address

-- SHA-256 of an id or a key
abbrev pub place_size : ℕ
place_size = 32

-- ---- a record: "key 128, value 3,072", and how many setpoints a value has
abbrev pub most_key : ℕ
most_key = 128

abbrev pub most_value : ℕ
most_value = 3072

abbrev pub most_setpoints : ℕ
most_setpoints = 400

-- ---- a message: its body, and a reply buffer, which has room for the longest length before it
abbrev pub most_body : ℕ
most_body = 16384

abbrev pub most_prefix : ℕ
most_prefix = 3

abbrev pub least_reply : ℕ
least_reply = most_body + most_prefix

-- types are 0 to 5
abbrev pub most_kind : ℕ
most_kind = 5

-- connections are 0 to 3
abbrev pub most_connection : ℕ
most_connection = 3

-- ---- lent memory: "0 to 5,120 slots", "at most 20 to a bucket"; "a second such list, 0 to 256 slots"
abbrev pub most_contacts : ℕ
most_contacts = 5120

abbrev pub bucket_size : ℕ
bucket_size = 20

abbrev pub most_records : ℕ
most_records = 256

-- ---- "the twenty nearest", and the entries of a reply that a lookup hears: those, and the one that FIND_NODE may add
abbrev pub most_near : ℕ
most_near = 20

abbrev pub most_heard : ℕ
most_heard = most_near + 1

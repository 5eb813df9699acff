-- The parts of a view: RULES, Messages, "A read message is a view: it points into the receive buffer, and each bytes field is that part of it". A view is a
-- body with positions in it; where the positions aren't what the reader gives for the body, every part is refused with 0.
use Rattle.std.specs.Prelude.{ℕ, Bool, false, cond, not, ◌&&◌, List, [], ◌∷◌, eqb, take}
use Rattle.refusal.specs.Refusal.{number_of}
use Rattle.refusal.specs.declared.Refusal.TheVariants.{OutOfForm}
use Rattle.wire.specs.Wire.{fields_at, spans, first_of, nowhere}
use Rattle.wire.specs.Items.{cut}
use Rattle.wire.specs.declared.Span.{Span}
use Rattle.message.specs.View.{no_record, reading_of, id_at, connection_at}
use Rattle.message.specs.declared.Held.{Held}
use Rattle.message.specs.declared.Fields.{Fields}
use Rattle.std.specs.Prelude.{Ok, Err, Some, None, Result, Option}
use Rattle.refusal.specs.declared.Refusal.{Refusal}

-- ---- positions compared, field by field

unfoldable pub same_span : Span → Span → Bool
same_span a b = eqb a.at b.at && eqb a.end b.end

abbrev pub same_bool : Bool → Bool → Bool
same_bool a b = cond a b (not b)

unfoldable pub same_held : Held → Held → Bool
same_held a b = same_bool a.there b.there && (same_span a.key b.key && same_span a.value b.value)

unfoldable pub same_fields : Fields → Fields → Bool
same_fields a b = eqb a.kind b.kind && (same_span a.key b.key && same_held a.held b.held)

-- ---- "a view handed in is what the reader gives for the body it points into"

abbrev pub is_reading : Result Fields Refusal → Fields → Bool
is_reading (Ok m) v = same_fields m v
is_reading (Err r) v = false

unfoldable pub is_view : List ℕ → Fields → Bool
is_view body v = is_reading (reading_of body) v

-- the reader's positions. A body that it refuses has those of an empty message, which are no view of it: no positions are
abbrev pub no_fields : Fields
no_fields = record { kind = 0; key = nowhere; held = no_record }

abbrev pub read_fields : Result Fields Refusal → Fields
read_fields (Ok m) = m
read_fields (Err r) = no_fields

unfoldable pub positions_of : List ℕ → Fields
positions_of body = read_fields (reading_of body)

-- ---- type, key and record

abbrev pub number_if : Bool → ℕ → Result ℕ Refusal
number_if ok n = cond ok (Ok n) (Err OutOfForm)

abbrev pub part_if : Bool → Span → Result Span Refusal
part_if ok p = cond ok (Ok p) (Err OutOfForm)

-- a part that need not be there
abbrev pub entry_if : Bool → Bool → Span → Result (Option Span) Refusal
entry_if ok there p = cond ok (cond there (Ok (Some p)) (Ok None)) (Err OutOfForm)

unfoldable pub kind_of : List ℕ → Fields → Result ℕ Refusal
kind_of body v = number_if (is_view body v) v.kind

unfoldable pub key_of : List ℕ → Fields → Result Span Refusal
key_of body v = part_if (is_view body v) v.key

unfoldable pub record_key_of : List ℕ → Fields → Result (Option Span) Refusal
record_key_of body v = entry_if (is_view body v) v.held.there v.held.key

unfoldable pub record_value_of : List ℕ → Fields → Result (Option Span) Refusal
record_value_of body v = entry_if (is_view body v) v.held.there v.held.value

-- ---- the peers, one by one: the first entry from a position on

abbrev pub entry_of : Option Span → Result (Option Span) Refusal
entry_of (Some p) = Ok (Some p)
entry_of None = Ok None

abbrev pub found_if : Bool → Option Span → Result (Option Span) Refusal
found_if ok f = cond ok (entry_of f) (Err OutOfForm)

unfoldable pub closer_of : List ℕ → Fields → ℕ → Result (Option Span) Refusal
closer_of body v from = found_if (is_view body v) (first_of (spans 8 (fields_at body from)))

unfoldable pub provider_of : List ℕ → Fields → ℕ → Result (Option Span) Refusal
provider_of body v from = found_if (is_view body v) (first_of (spans 9 (fields_at body from)))

-- of the peer whose bytes are at a span: its id, its connection, and its first address from a position on
unfoldable pub peer_id_of : List ℕ → Fields → Span → Result Span Refusal
peer_id_of body v p = part_if (is_view body v) (id_at body p)

unfoldable pub peer_connection_of : List ℕ → Fields → Span → Result ℕ Refusal
peer_connection_of body v p = number_if (is_view body v) (connection_at body p)

unfoldable pub peer_address_of : List ℕ → Fields → Span → ℕ → Result (Option Span) Refusal
peer_address_of body v p from = found_if (is_view body v) (first_of (spans 2 (fields_at (take p.end body) from)))

-- ---- "each bytes field is that part of it": the bytes themselves, none where the view is refused or there is no record

abbrev pub bytes_if : Bool → List ℕ → Span → List ℕ
bytes_if ok body p = cond ok (cut body p) []

unfoldable pub key_bytes : List ℕ → Fields → List ℕ
key_bytes body v = bytes_if (is_view body v) body v.key

unfoldable pub record_key_bytes : List ℕ → Fields → List ℕ
record_key_bytes body v = bytes_if (is_view body v) body v.held.key

unfoldable pub record_value_bytes : List ℕ → Fields → List ℕ
record_value_bytes body v = bytes_if (is_view body v) body v.held.value

-- ---- the number that each answer refuses with; none where it doesn't

unfoldable pub number_refusal : Result ℕ Refusal → List ℕ
number_refusal (Ok n) = []
number_refusal (Err r) = number_of r ∷ []

unfoldable pub part_refusal : Result Span Refusal → List ℕ
part_refusal (Ok p) = []
part_refusal (Err r) = number_of r ∷ []

unfoldable pub entry_refusal : Result (Option Span) Refusal → List ℕ
entry_refusal (Ok (Some p)) = []
entry_refusal (Ok None) = []
entry_refusal (Err r) = number_of r ∷ []

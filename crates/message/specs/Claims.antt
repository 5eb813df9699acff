-- What the reader gives for any body, what the rule of split records comes to, and how a view shows it. proofs/Views.antt, Meaning.antt and Occurrences.antt show
-- each, proofs/Claims.antt all of them.
use Rattle.std.specs.Prelude.{ℕ, suc, ◌≤◌, ◌<◌, ◌≡◌, false, length, get_or, take}
use mathlib.Core.List.{List, [], ◌∷◌, map, flatten as joined}
use Rattle.octets.specs.Search.{every, last_of}
use Rattle.limits.specs.Limits.{most_body, most_kind, most_heard}
use Rattle.refusal.specs.declared.Refusal.TheVariants.{TooLong, Malformed, UnknownType}
use Rattle.wire.specs.Wire.{fields, fields_at, spans, nowhere, first_of, walk}
use Rattle.wire.specs.Items.{cut, items, parts}
use Rattle.wire.specs.declared.Span.{Span}
use Rattle.message.specs.Message.{Peer, Record, Message, message_of, well_formed, decode}
use Rattle.message.specs.View.{all_spans, fields_of, reading_of, id_at, addresses_at, closer_at, providers_at, heard_at, meant}
use Rattle.message.specs.declared.Fields.{Fields}
use Rattle.std.specs.Prelude.{Ok, Err, Some, None, Option}

-- ---- "Reading yields the fields the bytes carry"

-- over 16,384 bytes give 4; of the rest what doesn't decode gives 5, what decodes to a type above 5 gives 6, and all else is read, with fields that mean the
-- message it decodes to. One of the four is so of every body, and no two
pub record ReadsWell (body : List ℕ) : Type 0 where
  pub long : most_body < length body → reading_of body ≡ Err TooLong
  pub malformed : length body ≤ most_body → decode body ≡ None → reading_of body ≡ Err Malformed
  pub unknown : length body ≤ most_body → (m : Message) → decode body ≡ Some m → most_kind < m.kind → reading_of body ≡ Err UnknownType
  pub whole : length body ≤ most_body → (m : Message) → decode body ≡ Some m → m.kind ≤ most_kind
      → (f : Fields) × (reading_of body ≡ Ok f) × (meant body f ≡ m)

-- "it points into the receive buffer, and each bytes field is that part of it": a part that a caller can cut out of hi bytes, and those of a view
pub record Cuttable (hi : ℕ) (p : Span) : Type 0 where
  pub ordered : p.at ≤ p.end
  pub ends : p.end ≤ hi

pub record FieldsIn (hi : ℕ) (m : Fields) : Type 0 where
  pub key : Cuttable hi m.key
  pub record-key : Cuttable hi m.held.key
  pub record-value : Cuttable hi m.held.value

abbrev pub PointsInside : Type 0
PointsInside = (s : List ℕ) (m : Fields) → reading_of s ≡ Ok m → FieldsIn (length s) m

-- and all that the walks and `peer_id` give: entries, and of each its id and addresses
pub record WalksInside (s : List ℕ) : Type 0 where
  pub closer : (i : ℕ) → i < length (closer_at s) → Cuttable (length s) (get_or (closer_at s) i nowhere)
  pub providers : (i : ℕ) → i < length (providers_at s) → Cuttable (length s) (get_or (providers_at s) i nowhere)
  pub id : (p : Span) → Cuttable (length s) p → Cuttable (length s) (id_at s p)
  pub addresses : (p : Span) → Cuttable (length s) p → (i : ℕ) → i < length (addresses_at s p) → Cuttable (length s) (get_or (addresses_at s p) i nowhere)

-- the walks yield exactly the repeated fields, in order
pub record WalksAll (s : List ℕ) : Type 0 where
  -- `closer_peer` and `provider_peer` from 0, then from the end of each entry
  pub closer : walk (suc (length s)) (λ from. first_of (spans 8 (fields_at s from))) 0 ≡ closer_at s
  pub providers : walk (suc (length s)) (λ from. first_of (spans 9 (fields_at s from))) 0 ≡ providers_at s
  -- `peer_address` from the peer's start, then from the end of each address
  pub addresses : (p : Span) → walk (suc (length (take p.end s))) (λ from. first_of (spans 2 (fields_at (take p.end s) from))) p.at ≡ addresses_at s p
  -- `closer_ids`: those of the first 21 entries
  pub heard : map (cut s) (heard_at s) ≡ map (λ (p : Peer). p.id) (take most_heard (message_of s).closer)

-- ---- "as though all its occurrences stood one after another"

-- the contents of the bytes fields f of some strings, each read by itself: those of the first, then those of the next
unfoldable pub all_parts : ℕ → List (List ℕ) → List (List ℕ)
all_parts f bs = joined (map (λ (b : List ℕ). parts f (items b)) bs)

-- the record that has the last key field and the last value field of all of them
unfoldable pub last_of_all : List (List ℕ) → Option Record
last_of_all [] = None
last_of_all (b ∷ bs) = Some (record { key = last_of [] (all_parts 1 (b ∷ bs)); value = last_of [] (all_parts 2 (b ∷ bs)) })

-- what a body says of its record, whose occurrences may stand anywhere among its fields
pub record RecordRead (s : List ℕ) : Type 0 where
  -- "Each occurrence must still be well formed by itself, else 5"
  pub apart : every well_formed (parts 3 (items s)) ≡ false → decode s ≡ None
  pub last : (m : Message) → decode s ≡ Some m → m.held ≡ last_of_all (parts 3 (items s))

abbrev pub SplitIsMerged : Type 0
SplitIsMerged = (s : List ℕ) → RecordRead s

-- ---- a view tells what is absent from what is empty: an absent part is at 0 with length 0, and one that is there stands after its tag, so never at 0

-- where the last of some fields is shown
abbrev pub Shown : Span → List Span → Type 0
Shown p [] = p ≡ nowhere
Shown p (q ∷ l) = 0 < p.at

pub record PartsShown (s : List ℕ) : Type 0 where
  pub key : Shown (fields_of s).key (spans 2 (fields s))
  pub record-key : Shown (fields_of s).held.key (all_spans s 1 (spans 3 (fields s)))
  pub record-value : Shown (fields_of s).held.value (all_spans s 2 (spans 3 (fields s)))

abbrev pub AbsentIsShown : Type 0
AbsentIsShown = (s : List ℕ) → PartsShown s

pub record Claims : Type 0 where
  pub reads : (body : List ℕ) → ReadsWell body
  pub inside : PointsInside
  pub walks : (body : List ℕ) → WalksAll body
  pub walks_inside : (body : List ℕ) → WalksInside body
  pub split : SplitIsMerged
  pub absent : AbsentIsShown

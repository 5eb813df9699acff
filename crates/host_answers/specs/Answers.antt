-- The answers of the calls on contacts, records, recipes and messages: each returns a number, a refusal's own or an answer from 64 up, and writes further numbers to out.
use Rattle.std.specs.Prelude.{ℕ, Bool, cond, List, [], ◌∷◌, take, ltb, Result, Ok, Err}
use Rattle.std.proofs.lemmas.List.Edits.{sets}
use Rattle.refusal.specs.Refusal.{number_of}
use Rattle.sightings.specs.declared.Sighting.{Sighting}
use Rattle.sightings.specs.declared.Sighting.TheVariants as seen
use Rattle.recipe.specs.Faults.{rule_number, part_number as recipe_part}
use Rattle.recipe.specs.declared.Breach.{Breach}
use Rattle.recipe_fields.specs.declared.Spans.{Spans}
use Rattle.wire.specs.Wire.{first_of, fields_at, spans}
use Rattle.peer_walk.specs.PeerWalk.{told_at}
use Rattle.host_calls.specs.declared.Nearby.{Nearby}
use Rattle.flat.specs.Flat.{says_yes}
use Rattle.host_numbers.specs.Numbers.{unless_refused, view_numbers}
use Rattle.std.specs.Prelude.{Some, None, Option, ⊤}
use Rattle.message.specs.declared.Fields.{Fields}
use Rattle.wire.specs.declared.Span.{Span}
use Rattle.records.specs.declared.Held.{Held}
use Rattle.refusal.specs.declared.Refusal.{Refusal}

-- ---- contacts
-- seen, settle, remove and doubt have their numbers in contact_calls (specs/Calls). Of seen, the slot goes to out
abbrev pub seen_numbers : List ℕ → Result Sighting Refusal → List ℕ
seen_numbers out (Ok (seen.Moved i)) = sets out 0 (i ∷ [])
seen_numbers out (Ok (seen.Joined i)) = sets out 0 (i ∷ [])
seen_numbers out (Ok (seen.Probe h)) = sets out 0 (h ∷ [])
seen_numbers out (Err r) = out

-- how many there are and the twenty slots go to out
abbrev pub nearest_numbers : List ℕ → Nearby → List ℕ
nearest_numbers out n = unless_refused n.told (sets out 0 (n.closest.n ∷ n.closest.at)) out

-- ---- records
abbrev pub put_number : Result ⊤ Refusal → ℕ
put_number (Ok tt) = 64
put_number (Err r) = number_of r

-- 64 held, 65 not held; where the value starts and ends goes to out
abbrev pub find_number : Result (Option Held) Refusal → ℕ
find_number (Ok (Some h)) = 64
find_number (Ok None) = 65
find_number (Err r) = number_of r

abbrev pub find_numbers : List ℕ → Result (Option Held) Refusal → List ℕ
find_numbers out (Ok (Some h)) = sets out 0 (h.start ∷ h.end ∷ [])
find_numbers out (Ok None) = out
find_numbers out (Err r) = out

-- ---- recipes
-- 9, and three numbers to out: the rule that is broken, in which part, and at which setpoint
abbrev pub fault_numbers : Breach → List ℕ
fault_numbers f = rule_number f.rule ∷ recipe_part f.part ∷ f.setpoint ∷ []

-- 64, and seven: the format, where core, wrap and trailer start, how many setpoints core and wrap have, the sequence
abbrev pub spans_number : Result Spans Breach → ℕ
spans_number (Ok s) = 64
spans_number (Err f) = 9

abbrev pub spans_numbers : List ℕ → Result Spans Breach → List ℕ
spans_numbers out (Ok s) = sets out 0 (s.format ∷ s.core ∷ s.wrap ∷ s.trailer ∷ s.cores ∷ s.wraps ∷ s.sequence ∷ [])
spans_numbers out (Err f) = sets out 0 (fault_numbers f)

abbrev pub setpoints_number : Bool → ℕ
setpoints_number is = cond is 64 9

-- 64, and the length to out
abbrev pub recipe_number : Result ℕ Breach → ℕ
recipe_number (Ok n) = 64
recipe_number (Err f) = 9

abbrev pub recipe_numbers : List ℕ → Result ℕ Breach → List ℕ
recipe_numbers out (Ok n) = sets out 0 (n ∷ [])
recipe_numbers out (Err f) = sets out 0 (fault_numbers f)

-- ---- messages
abbrev pub read_number : Result Fields Refusal → ℕ
read_number (Ok m) = 64
read_number (Err r) = number_of r

abbrev pub read_numbers : List ℕ → Result Fields Refusal → List ℕ
read_numbers out (Ok m) = sets out 0 (view_numbers m)
read_numbers out (Err r) = out

-- the next entry of closerPeers from a position on, for list 0; of providerPeers, for any other number
unfoldable pub entry_from : List ℕ → ℕ → ℕ → Option Span
entry_from s list from = cond (says_yes list) (first_of (spans 9 (fields_at s from))) (first_of (spans 8 (fields_at s from)))

-- the later of two positions
unfoldable pub later_of : ℕ → ℕ → ℕ
later_of a b = cond (ltb a b) b a

-- the next address of the entry at start up to end, from a position in it on
unfoldable pub address_from : List ℕ → ℕ → ℕ → ℕ → Option Span
address_from s start end from = first_of (spans 2 (fields_at (take end s) (later_of start from)))

-- 64 there is one, 65 there is none
abbrev pub part_number : Option Span → ℕ
part_number (Some p) = 64
part_number None = 65

-- 22 numbers: where the entry is, where its id is, its connection, how many addresses it has, and where the first eight of them are
abbrev pub peer_numbers : List ℕ → List ℕ → Option Span → List ℕ
peer_numbers out s (Some p) = sets out 0 (p.at ∷ p.end ∷ told_at s p)
peer_numbers out s None = out

-- where the address is
abbrev pub address_numbers : List ℕ → Option Span → List ℕ
address_numbers out (Some p) = sets out 0 (p.at ∷ p.end ∷ [])
address_numbers out None = out

-- the length goes to out
abbrev pub write_number : Result ℕ Refusal → ℕ
write_number (Ok n) = 64
write_number (Err r) = number_of r

abbrev pub write_numbers : List ℕ → Result ℕ Refusal → List ℕ
write_numbers out (Ok n) = sets out 0 (n ∷ [])
write_numbers out (Err r) = out

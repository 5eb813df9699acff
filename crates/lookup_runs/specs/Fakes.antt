-- Three wrong lookups, and that none of them meets the claims. Proved in proofs/Fakes.antt.
use Rattle.std.specs.Prelude.{ℕ, ◌≤◌, ◌≡◌, true, false, cond, List, [], ◌∷◌, map, get_or, eqb}
use Rattle.sha256.specs.Sha256.{sha256}
use Rattle.contacts.specs.Near.{nearest_slots}
use Rattle.message.specs.declared.Fields.{Fields}
use Rattle.parts.specs.Parts.{is_view}
use Rattle.lookup_marks.specs.Marks.{answered, failed}
use Rattle.octets.specs.Search.{any_in}
use Rattle.message.specs.Kinds.{find_node}
use Rattle.lookup.specs.Lookup.{candidates_of, put, with_candidates, with_mark, contact_at, nobody, bad_step, whom_of, reported, heard_ids, heard_from, next_of, reply_of, failure_of, start_of}
use Rattle.lookup.specs.Value.{Lookup, Step}
use Rattle.lookup_runs.specs.Runs.{Started, Call, go_next, go_reply, go_fail}
use Rattle.lookup_runs.specs.Claims.{Claims}

-- at a report of a failure it marks every candidate failed
abbrev pub all_fail : Call → Lookup → Step
all_fail go_next l = next_of l
all_fail (go_reply own ours id body v) l = reply_of l own ours id body v
all_fail (go_fail own ours id) l = reported l (whom_of l own ours id) (λ i. with_candidates l l.count (map (with_mark failed) l.candidates))

-- at the first reply it drops all but the sender
abbrev pub drops_contacts : Call → Lookup → Step
drops_contacts go_next l = next_of l
drops_contacts (go_reply own ours id body v) l =
    cond (any_in (λ c. eqb c.mark answered) (candidates_of l)) (reply_of l own ours id body v)
    (cond (is_view body v) (reported l (whom_of l own ours id) (λ i. heard_from ours body v.kind (put l (get_or (candidates_of l) i nobody ∷ [])) 0))
    (reply_of l own ours id body v))
drops_contacts (go_fail own ours id) l = failure_of l own ours id

-- it puts two in flight and asks one
abbrev pub asks_one_of_two : Call → Lookup → Step
asks_one_of_two go_next l = record { lookup = (next_of (next_of l).lookup).lookup; found = (next_of l).found; answer = (next_of l).answer }
asks_one_of_two (go_reply own ours id body v) l = reply_of l own ours id body v
asks_one_of_two (go_fail own ours id) l = failure_of l own ours id

-- none of them meets the claims, after a start with these contacts, key and limit
pub record Refuted (t own ours key : List ℕ) (limit : ℕ) : Type 0 where
  pub failing : Claims all_fail t key limit (start_of t own ours key limit) → ⊥
  -- where a reply names nobody
  pub dropping : (body : List ℕ) (v : Fields) → is_view body v ≡ true → v.kind ≡ find_node → heard_ids body ≡ []
      → Claims drops_contacts t key limit (start_of t own ours key limit) → ⊥
  -- where two may be in flight
  pub hiding : 2 ≤ limit → Claims asks_one_of_two t key limit (start_of t own ours key limit) → ⊥

-- whatever the start, if it isn't refused and has two contacts: in slots i and j, nearest first, with an id of the first
abbrev pub NoFake : Type 0
NoFake = (t own ours key : List ℕ) (limit i j : ℕ) (js id : List ℕ) → Started t own ours key limit → nearest_slots t (sha256 key) ≡ i ∷ j ∷ js
    → sha256 id ≡ (contact_at t i).place → bad_step own ours id ≡ false → Refuted t own ours key limit

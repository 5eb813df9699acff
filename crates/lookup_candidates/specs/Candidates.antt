-- Candidates of a lookup: RULES, Lookup.
use Rattle.std.specs.Prelude.{ℕ, Bool, cond, not, ◌&&◌, List, [], ◌∷◌, length, replicate, leb, eqb}
use Rattle.std.proofs.lemmas.List.Edits.{sets}
use Rattle.octets.specs.Octets.{same}
use Rattle.octets.specs.Search.{all_of}
use Rattle.limits.specs.Limits.{most_id, place_size}
use Rattle.sha256.specs.Sha256.{sha256}
use Rattle.lookup_marks.specs.Marks.{idle, flying, failed}
use Rattle.contacts.specs.Table.{slot, place}
use Rattle.contacts.specs.Contact.{entry_id}
use Rattle.lookup_candidates.specs.declared.Candidate.{Candidate}
unfoldable pub use Rattle.peer.specs.Peers.{id_fits}

abbrev pub mark_of : Candidate → ℕ
mark_of c = c.mark

-- "ids of 1 to 64 bytes", and one of the marks
unfoldable pub well_made : Candidate → Bool
well_made c = all_of (leb c.mark failed ∷ leb 1 c.len ∷ leb c.len most_id ∷ [])

-- the candidate lies at p
abbrev pub lies_at : List ℕ → Candidate → Bool
lies_at p c = same c.place p

-- the candidate at the place p is in flight
unfoldable pub flies : List ℕ → Candidate → Bool
flies p c = eqb c.mark flying && same c.place p

-- a byte string at the start of n bytes, zeros after it
abbrev pub padded : ℕ → List ℕ → List ℕ
padded n s = sets (replicate n 0) 0 s

-- a candidate as it comes in: idle
abbrev pub fresh : List ℕ → Candidate
fresh id = record { id = padded most_id id; place = sha256 id; mark = idle; len = length id }

-- no candidate
abbrev pub nobody : Candidate
nobody = record { id = replicate most_id 0; place = replicate place_size 0; mark = idle; len = 0 }

-- slot i of the table of contacts as an idle candidate
abbrev pub contact_at : List ℕ → ℕ → Candidate
contact_at t i =
    record { id = padded most_id (entry_id (slot t i)); place = padded place_size (place (slot t i)); mark = idle; len = length (entry_id (slot t i)) }

-- who is heard of by an id; nobody, where the id is bad or ours
unfoldable pub arrival_of : List ℕ → List ℕ → Candidate
arrival_of ours id = cond (not (id_fits id)) nobody (cond (same (sha256 id) ours) nobody (fresh id))

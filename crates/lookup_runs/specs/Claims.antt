-- The theorems on lookups, over the history: s is what a start gave that isn't refused, with the contacts t and the key, and then come any calls. `go` says
-- what a call does: of `step` they are proved in proofs/Theorems.antt, of wrong lookups they are refuted (Fakes.antt).
use Rattle.std.specs.Prelude.{ℕ, ◌≤◌, ◌<◌, ◌≡◌, Bool, true, false, not, ◌&&◌, ◌||◌, List, [], length, get_or, take}
use Rattle.octets.specs.Octets.{same}
use Rattle.refusal.specs.declared.Refusal.TheVariants.{OutOfForm}
use Rattle.sha256.specs.Sha256.{sha256}
use Rattle.contacts.specs.Table.{slot, place}
use Rattle.contacts.specs.Contact.{entry_id}
use Rattle.contacts.specs.Near.{nearest_slots}
use Rattle.message.specs.View.{reading_of}
use Rattle.lookup_marks.specs.Marks.{is_over, flights_of}
use Rattle.octets.specs.Search.{any_in}
use Rattle.lookup.specs.Lookup.{candidates_of, marks_of, in_form, ends, known, nobody}
use Rattle.lookup_candidates.specs.declared.Candidate.{Candidate}
use Rattle.lookup.specs.Value.{Lookup, Step}
use Rattle.lookup.specs.declared.Answer.TheVariants.{Complete, CutShort}
use Rattle.lookup_runs.specs.Runs.{Call, go_next, go_reply, go_fail, outcome}
use Rattle.lookup_runs.specs.History.{Event, history, has_answered, has_failed, heard_of, times_asked, has_been_asked, requests, mark_by, places_found, TwentyNearest}
use Rattle.std.specs.Prelude.{Ok, Err}

-- ---- what an answer of over means, where `counts` says who counts: h is the history, s the last outcome and n the number that it tells
pub record MeansOver (counts : List ℕ → Bool) (key : List ℕ) (h : List Event) (s : Step) (n : ℕ) : Type 0 where
  -- "the twenty nearest peers .. that haven't failed, or all if fewer": these are found, nearest first,
  pub nearest : TwentyNearest (λ p. counts p && not (has_failed p h)) (sha256 key) (places_found s)
  -- "have answered"
  pub answered : (i : ℕ) → i < length (places_found s) → has_answered (get_or (places_found s) i []) h ≡ true
  -- "the number of requests sent .. at most 256"
  pub sent : n ≡ requests h
  pub few : n ≤ 256

-- complete: all "heard of" count, "and no peer was turned away for want of room": each is a candidate
pub record MeansComplete (t key : List ℕ) (h : List Event) (s : Step) (n : ℕ) : Type 0 where
  pub over : MeansOver (λ p. heard_of t key p h) key h s n
  pub roomy : (p : List ℕ) → heard_of t key p h ≡ true → known p (candidates_of s.lookup) ≡ true

-- cut short: the candidates count, someone heard of is none, and there is no room
pub record MeansCutShort (t key : List ℕ) (h : List Event) (s : Step) (n : ℕ) : Type 0 where
  pub over : MeansOver (λ p. known p (candidates_of s.lookup)) key h s n
  pub turned : (p : List ℕ) × (heard_of t key p h ≡ true) × (known p (candidates_of s.lookup) ≡ false)
  pub full : length (candidates_of s.lookup) ≡ 256

-- a reply comes with the view that the reader gives for its body
abbrev pub Viewed : Call → Type 0
Viewed go_next = Unit {0}
Viewed (go_reply own ours id body v) = reading_of body ≡ Ok v
Viewed (go_fail own ours id) = Unit {0}

-- a candidate's id; it is its own, where it hashes to the candidate's place, or one of the start's contacts has this id and this place
abbrev pub id_of : Candidate → List ℕ
id_of c = take c.len c.id

abbrev pub has_own_id : List ℕ → List ℕ → Candidate → Bool
has_own_id t key c =
    same (sha256 (id_of c)) c.place
    || any_in (λ i. same (entry_id (slot t i)) (id_of c) && same (place (slot t i)) c.place) (nearest_slots t (sha256 key))

pub record Claims (go : Call → Lookup → Step) (t key : List ℕ) (limit : ℕ) (s : Step) : Type 0 where
  -- "A lookup asks nobody twice."
  pub once : (cs : List Call) (p : List ℕ) → times_asked p (history go s cs) ≤ 1
  -- "It reports complete only when the twenty nearest peers heard of that haven't failed, or all if fewer, have answered, and no peer was turned away for
  -- want of room."
  pub complete : (cs : List Call) (n : ℕ) → (outcome go s cs).answer ≡ Ok (Complete n) → MeansComplete t key (history go s cs) (outcome go s cs) n
  pub cut_short : (cs : List Call) (n : ℕ) → (outcome go s cs).answer ≡ Ok (CutShort n) → MeansCutShort t key (history go s cs) (outcome go s cs) n
  -- who is asked is a candidate; a candidate was heard of, stays one, and has the mark that the history calls for
  pub asked : (cs : List Call) (p : List ℕ) → has_been_asked p (history go s cs) ≡ true → known p (candidates_of (outcome go s cs).lookup) ≡ true
  pub heard : (cs : List Call) (p : List ℕ) → known p (candidates_of (outcome go s cs).lookup) ≡ true → heard_of t key p (history go s cs) ≡ true
  pub stays : (cs more : List Call) (p : List ℕ) → known p (candidates_of (outcome go s cs).lookup) ≡ true
      → known p (candidates_of (outcome go (outcome go s cs) more).lookup) ≡ true
  pub marks : (cs : List Call) (i : ℕ) → i < length (candidates_of (outcome go s cs).lookup)
      → (get_or (candidates_of (outcome go s cs).lookup) i nobody).mark ≡ mark_by (get_or (candidates_of (outcome go s cs).lookup) i nobody).place (history go s cs)
  -- each candidate, whom the host dials by the id of its rank, has its own id
  pub ids : (cs : List Call) (i : ℕ) → i < length (candidates_of (outcome go s cs).lookup)
      → has_own_id t key (get_or (candidates_of (outcome go s cs).lookup) i nobody) ≡ true
  -- "Room for 256.": who was heard of and is no candidate was turned away for want of it
  pub full : (cs : List Call) (p : List ℕ) → heard_of t key p (history go s cs) ≡ true → known p (candidates_of (outcome go s cs).lookup) ≡ false
      → length (candidates_of (outcome go s cs).lookup) ≡ 256
  -- no more than the limit are in flight
  pub limited : (cs : List Call) → flights_of (marks_of (outcome go s cs).lookup) ≤ limit
  -- "once over, always over, and next repeats the answer"
  pub always : (cs : List Call) → is_over (marks_of (outcome go s cs).lookup) ≡ true
      → ((more : List Call) → (outcome go (outcome go s cs) more).lookup ≡ (outcome go s cs).lookup) × (go go_next (outcome go s cs).lookup ≡ ends (outcome go s cs).lookup)
  -- form is kept, and no call gives 0
  pub form : (cs : List Call) → in_form (outcome go s cs).lookup ≡ true
  pub never0 : (cs : List Call) (c : Call) → Viewed c → (go c (outcome go s cs).lookup).answer ≡ Err OutOfForm → ⊥

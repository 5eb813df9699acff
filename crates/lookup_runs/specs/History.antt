-- What has happened to a lookup: every call since its start, with what it gave. Who was heard of, asked, has answered or has failed is read off this
-- list alone, never off the marks that a lookup keeps. A peer goes by its place.
use Rattle.std.specs.Prelude.{ℕ, ◌+◌, ◌≤◌, ◌<◌, ◌≡◌, ◌⊎◌, Bool, true, false, cond, not, ◌&&◌, ◌||◌, List, [], ◌∷◌, map, length, get_or, take, eqb}
use Rattle.octets.specs.Octets.{same}
use Rattle.place.specs.Place.{distance}
use Rattle.sha256.specs.Sha256.{sha256}
use Rattle.contacts.specs.Table.{slot, place}
use Rattle.contacts.specs.Near.{nearest_slots}
use Rattle.lookup_marks.specs.Marks.{idle, flying, answered, failed}
use Rattle.octets.specs.Search.{any_in}
use Rattle.message.specs.Kinds.{find_node}
use Rattle.lookup.specs.Lookup.{candidates_of, lies_at, id_fits, heard_ids, nobody}
use Rattle.lookup_candidates.specs.declared.Candidate.{Candidate}
use Rattle.lookup.specs.Value.{Lookup, Step}
use Rattle.lookup.specs.declared.Answer.{Answer}
use Rattle.lookup.specs.declared.Answer.TheVariants.{Complete, CutShort, Wait, Ask, Going}
use Rattle.lookup_runs.specs.Runs.{accepted, Call, go_next, go_reply, go_fail}
use Rattle.std.specs.Prelude.{Ok, Err, Result}
use Rattle.refusal.specs.declared.Refusal.{Refusal}

-- ---- the history: the calls in order, each with what it gave; s is what came before them
pub record Event : Type 0 where
  pub call : Call
  pub gave : Step

unfoldable pub history : (Call → Lookup → Step) → Step → List Call → List Event
history go s [] = []
history go s (c ∷ cs) = record { call = c; gave = go c s.lookup } ∷ history go (go c s.lookup) cs

-- the event is a call that was accepted and passes the test
abbrev pub tells : (Call → Bool) → Event → Bool
tells q e = accepted e.gave.answer && q e.call

-- ---- answered: its own FIND_NODE reply was accepted
abbrev pub answers_in : List ℕ → Call → Bool
answers_in p go_next = false
answers_in p (go_reply own ours id body v) = eqb v.kind find_node && same (sha256 id) p
answers_in p (go_fail own ours id) = false

abbrev pub has_answered : List ℕ → List Event → Bool
has_answered p h = any_in (tells (answers_in p)) h

-- ---- failed: a report of its failure, or its own reply of another type, was accepted
abbrev pub fails_in : List ℕ → Call → Bool
fails_in p go_next = false
fails_in p (go_reply own ours id body v) = not (eqb v.kind find_node) && same (sha256 id) p
fails_in p (go_fail own ours id) = same (sha256 id) p

abbrev pub has_failed : List ℕ → List Event → Bool
has_failed p h = any_in (tells (fails_in p)) h

-- ---- heard of: one of the twenty contacts of the start, or named in the first 21 entries of an accepted FIND_NODE reply, by a good id that isn't ours
-- the id is good, not ours, and of the place p
abbrev pub means_peer : List ℕ → List ℕ → List ℕ → Bool
means_peer p ours id = id_fits id && (not (same (sha256 id) ours) && same (sha256 id) p)

abbrev pub named_in : List ℕ → Call → Bool
named_in p go_next = false
named_in p (go_reply own ours from body v) = eqb v.kind find_node && any_in (means_peer p ours) (heard_ids body)
named_in p (go_fail own ours id) = false

abbrev pub is_contact : List ℕ → List ℕ → List ℕ → Bool
is_contact t key p = any_in (λ i. same (place (slot t i)) p) (nearest_slots t (sha256 key))

abbrev pub heard_of : List ℕ → List ℕ → List ℕ → List Event → Bool
heard_of t key p h = is_contact t key p || any_in (tells (named_in p)) h

-- ---- asked: the answer is to ask it, by its rank in the lookup handed back
abbrev pub asks_for : List ℕ → List Candidate → Result Answer Refusal → Bool
asks_for p cs (Ok (Ask i)) = lies_at p (get_or cs i nobody)
asks_for p cs (Err r) = false
asks_for p cs (Ok (Complete n)) = false
asks_for p cs (Ok (CutShort n)) = false
asks_for p cs (Ok Wait) = false
asks_for p cs (Ok Going) = false

abbrev pub asks_peer : List ℕ → Event → Bool
asks_peer p e = asks_for p (candidates_of e.gave.lookup) e.gave.answer

abbrev pub is_ask : Result Answer Refusal → Bool
is_ask (Ok (Ask i)) = true
is_ask (Err r) = false
is_ask (Ok (Complete n)) = false
is_ask (Ok (CutShort n)) = false
is_ask (Ok Wait) = false
is_ask (Ok Going) = false

abbrev pub asks_one : Event → Bool
asks_one e = is_ask e.gave.answer

-- how many events pass
unfoldable pub how_many : (Event → Bool) → List Event → ℕ
how_many q [] = 0
how_many q (e ∷ h) = cond (q e) 1 0 + how_many q h

abbrev pub times_asked : List ℕ → List Event → ℕ
times_asked p h = how_many (asks_peer p) h

abbrev pub has_been_asked : List ℕ → List Event → Bool
has_been_asked p h = any_in (asks_peer p) h

-- every request: an answer to ask somebody
abbrev pub requests : List Event → ℕ
requests h = how_many asks_one h

-- ---- the mark that the history calls for
abbrev pub mark_by : List ℕ → List Event → ℕ
mark_by p h = cond (has_failed p h) failed (cond (has_answered p h) answered (cond (has_been_asked p h) flying idle))

-- ---- the places of those found, by their ranks in the lookup handed back
abbrev pub places_found : Step → List (List ℕ)
places_found s = map (λ r. (get_or (candidates_of s.lookup) r nobody).place) (take s.found.n s.found.at)

-- ---- ps are the twenty places nearest to x of those that pass, or all where there are fewer, nearest first
pub record TwentyNearest (passes : List ℕ → Bool) (x : List ℕ) (ps : List (List ℕ)) : Type 0 where
  pub few : length ps ≤ 20
  pub pass : (i : ℕ) → i < length ps → passes (get_or ps i []) ≡ true
  -- each is nearer than those after it
  pub order : (i j : ℕ) → i < j → j < length ps → distance (get_or ps i []) x < distance (get_or ps j []) x
  -- whoever passes is among them, or they are twenty and each is nearer
  pub rest : (p : List ℕ) → passes p ≡ true
      → ((i : ℕ) × (i < length ps) × (get_or ps i [] ≡ p)) ⊎ ((length ps ≡ 20) × ((i : ℕ) → i < length ps → distance (get_or ps i []) x < distance p x))

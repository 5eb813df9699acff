-- The closest-peer lookup: RULES, Lookup. A lookup is a value; each step takes it in and hands the next one back.
use Rattle.std.specs.Prelude.{ℕ, zero, suc, ◌-◌, Bool, true, false, cond, not, ◌&&◌, ◌||◌, List, [], ◌∷◌, ◌++◌, map, length, take, drop, replicate, leb, ltb, eqb}
use Rattle.message.specs.Kinds.{find_node, key_fits}
use Rattle.octets.specs.Octets.{same}
use Rattle.octets.specs.Search.{all_of, first_in, any_in}
use Rattle.limits.specs.Limits.{most_key, most_heard}
use Rattle.place.specs.Place.{nearer_to}
use Rattle.sha256.specs.Sha256.{sha256}
use Rattle.refusal.specs.declared.Refusal.{Refusal}
use Rattle.refusal.specs.declared.Refusal.TheVariants.{OutOfForm, BreaksRules, BadPeer, NotInFlight, LookupOver, BadConcurrency}
use Rattle.lookup_marks.specs.Marks.{flying, answered, failed, twenty_of, is_over, idle_of, flights_of, sent_of, ranks_of}
use Rattle.contacts.specs.Table.{place}
use Rattle.contacts.specs.Form.{in_form as in_form_table}
use Rattle.contacts.specs.Near.{nearest_slots}
use Rattle.message.specs.Message.{Peer, message_of}
use Rattle.message.specs.declared.Fields.{Fields}
use Rattle.parts.specs.Parts.{is_view}
use Rattle.peer.specs.Peers.{bad_peer}
use Rattle.lookup_candidates.specs.declared.Candidate.{Candidate}
use Rattle.lookup.specs.Value.{Lookup, Step}
use Rattle.lookup.specs.declared.Answer.{Answer}
use Rattle.lookup.specs.declared.Answer.TheVariants.{Complete, CutShort, Wait, Ask, Going}
pub use Rattle.lookup_candidates.specs.Candidates.{mark_of, lies_at, padded, fresh, nobody, contact_at}
unfoldable pub use Rattle.lookup_candidates.specs.Candidates.{id_fits, well_made, flies}
use Rattle.std.specs.Prelude.{Ok, Err, Result}

-- ---- limits
-- "Room for 256."
abbrev pub room : ℕ
room = 256

-- "a limit of 1 to 10"
abbrev pub limit_most : ℕ
limit_most = 10

-- ---- the candidates, nearest first, and their marks
abbrev pub candidates_of : Lookup → List Candidate
candidates_of l = take l.count l.candidates

abbrev pub marks_of : Lookup → List ℕ
marks_of l = map mark_of (candidates_of l)

-- ---- form: "a key of 1 to 128 bytes, a limit of 1 to 10, up to 256 candidates nearest first with ids of 1 to 64 bytes, no place twice".
-- Each being nearer than the next, no place stands twice.
-- each of cs is well made and farther from the target t than the one before it, the first than d
unfoldable pub follow : List ℕ → Candidate → List Candidate → Bool
follow t d [] = true
follow t d (c ∷ cs) = (well_made c && nearer_to t d.place c.place) && follow t c cs

unfoldable pub nearest_first : List ℕ → List Candidate → Bool
nearest_first t [] = true
nearest_first t (c ∷ cs) = well_made c && follow t c cs

unfoldable pub in_form : Lookup → Bool
in_form l =
    all_of
    (leb 1 l.size
    ∷ leb l.size most_key
    ∷ leb 1 l.limit
    ∷ leb l.limit limit_most
    ∷ leb l.count room
    ∷ nearest_first l.target (candidates_of l)
    ∷ [])

-- ---- what changes, and that all else stays
abbrev pub with_candidates : Lookup → ℕ → List Candidate → Lookup
with_candidates l n cs =
    record {
      candidates = cs;
      key = l.key;
      target = l.target;
      count = n;
      size = l.size;
      limit = l.limit;
      turned = l.turned;
    }

-- someone was turned away
abbrev pub turn_away : Lookup → Lookup
turn_away l =
    record {
      candidates = l.candidates;
      key = l.key;
      target = l.target;
      count = l.count;
      size = l.size;
      limit = l.limit;
      turned = true;
    }

-- the candidates cs stand in the lookup; what the array holds past them stays
abbrev pub put : Lookup → List Candidate → Lookup
put l cs = with_candidates l (length cs) (cs ++ drop (length cs) l.candidates)

abbrev pub with_mark : ℕ → Candidate → Candidate
with_mark m c = record { id = c.id; place = c.place; mark = m; len = c.len }

-- the candidate of rank i gets the mark m
unfoldable pub mark_at : ℕ → ℕ → List Candidate → List Candidate
mark_at i m [] = []
mark_at zero m (c ∷ cs) = with_mark m c ∷ cs
mark_at (suc i) m (c ∷ cs) = c ∷ mark_at i m cs

abbrev pub mark : ℕ → ℕ → Lookup → Lookup
mark i m l = with_candidates l l.count (mark_at i m l.candidates)

-- ---- answers
abbrev pub gives : Lookup → Result Answer Refusal → Step
gives l a = record { lookup = l; found = ranks_of []; answer = a }

abbrev pub refuses : Lookup → Refusal → Step
refuses l r = gives l (Err r)

-- "Over means complete, or cut short if marked, with the answered ones of those 20 in order and the number of requests sent"
abbrev pub ends : Lookup → Step
ends l =
    record {
      lookup = l;
      found = ranks_of (twenty_of (marks_of l));
      answer = cond l.turned ((Ok (CutShort (sent_of (marks_of l))))) ((Ok (Complete (sent_of (marks_of l)))));
    }

-- "The test for over is made after every start, reply and failure"
unfoldable pub settled : Lookup → Step
settled l = cond (is_over (marks_of l)) (ends l) (gives l (Ok Going))

-- ---- next: "over, if all of the 20 nearest not failed have answered; else wait, if the limit is in flight; else ask the nearest idle one
-- among those 20; else wait"
unfoldable pub next_of : Lookup → Step
next_of l =
    cond (not (in_form l)) (refuses l OutOfForm)
    (cond (is_over (marks_of l)) (ends l)
    (cond (leb l.limit (flights_of (marks_of l))) (gives l (Ok Wait))
    (cond (ltb (idle_of (marks_of l)) l.count) (gives (mark (idle_of (marks_of l)) flying l) ((Ok (Ask (idle_of (marks_of l))))))
    (gives l (Ok Wait)))))

-- ---- reply and failure: who it is about
-- refusal 12, of who is reported about; a box whose own id is no peer id refuses the same way
unfoldable pub bad_step : List ℕ → List ℕ → List ℕ → Bool
bad_step own ours id = not (id_fits own) || bad_peer ours id

-- its rank, or the number of candidates where there is none
abbrev pub flyer_of : List ℕ → List Candidate → ℕ
flyer_of p cs = first_in (flies p) cs

-- whom a report is about, by rank; or the refusal: 0, 12, 17 or 16
unfoldable pub whom_of : Lookup → List ℕ → List ℕ → List ℕ → Result ℕ Refusal
whom_of l own ours id =
    cond (not (in_form l)) (Err OutOfForm)
    (cond (bad_step own ours id) (Err BadPeer)
    (cond (is_over (marks_of l)) (Err LookupOver)
    (cond (leb l.count (flyer_of (sha256 id) (candidates_of l))) (Err NotInFlight)
    (Ok (flyer_of (sha256 id) (candidates_of l))))))

-- refused, or what the lookup becomes
abbrev pub reported : Lookup → Result ℕ Refusal → (ℕ → Lookup) → Step
reported l (Err r) next = refuses l r
reported l (Ok i) next = settled (next i)

-- "a failure report, marks the peer failed for good"
unfoldable pub failure_of : Lookup → List ℕ → List ℕ → List ℕ → Step
failure_of l own ours id = reported l (whom_of l own ours id) (λ i. mark i failed l)

-- ---- hearing of a peer
-- some candidate lies at p
abbrev pub known : List ℕ → List Candidate → Bool
known p cs = any_in (lies_at p) cs

-- c among cs, after those nearer to the target t
unfoldable pub enter : List ℕ → Candidate → List Candidate → List Candidate
enter t c [] = c ∷ []
enter t c (d ∷ cs) = cond (nearer_to t d.place c.place) (d ∷ enter t c cs) (c ∷ d ∷ cs)

-- a known place is skipped; "A new place with no room marks the lookup."
unfoldable pub meet : Candidate → Lookup → Lookup
meet c l =
    cond (known c.place (candidates_of l)) l
    (cond (ltb l.count room) (put l (enter l.target c (candidates_of l)))
    (turn_away l))

-- "skipping among them bad ids, ourselves and places known"
unfoldable pub hear : List ℕ → List ℕ → Lookup → Lookup
hear ours id l = cond (not (id_fits id)) l (cond (same (sha256 id) ours) l (meet (fresh id) l))

-- one after another
unfoldable pub hear_all : List ℕ → List (List ℕ) → Lookup → Lookup
hear_all ours [] l = l
hear_all ours (id ∷ ids) l = hear_all ours ids (hear ours id l)

-- ---- reply
-- the ids of "the first 21 closerPeers entries"
unfoldable pub heard_ids : List ℕ → List (List ℕ)
heard_ids body = map (λ (p : Peer). p.id) (take most_heard (message_of body).closer)

-- "A FIND_NODE reply marks its sender answered, then takes the first 21 closerPeers entries .. Any other type .. marks the peer failed for good."
unfoldable pub heard_from : List ℕ → List ℕ → ℕ → Lookup → ℕ → Lookup
heard_from ours body kind l i = cond (eqb kind find_node) (hear_all ours (heard_ids body) (mark i answered l)) (mark i failed l)

unfoldable pub reply_of : Lookup → List ℕ → List ℕ → List ℕ → List ℕ → Fields → Step
reply_of l own ours id body v =
    cond (not (is_view body v)) (refuses l OutOfForm) (reported l (whom_of l own ours id) (heard_from ours body v.kind l))

-- ---- start
-- "A refused start hands back an empty one with limit 0, so later steps give 0."
abbrev pub no_lookup : Lookup
no_lookup =
    record {
      candidates = replicate room nobody;
      key = replicate most_key 0;
      target = replicate 32 0;
      count = 0;
      size = 0;
      limit = 0;
      turned = false;
    }

-- "the 20 nearest contacts as idle candidates", the doubtful passed over
unfoldable pub first_ones : List ℕ → List ℕ → List Candidate
first_ones t target = map (contact_at t) (nearest_slots t target)

-- a lookup as it starts
abbrev pub begun : List ℕ → List ℕ → ℕ → Lookup
begun t key limit =
    record {
      candidates = first_ones t (sha256 key) ++ replicate (room - length (first_ones t (sha256 key))) nobody;
      key = padded most_key key;
      target = sha256 key;
      count = length (first_ones t (sha256 key));
      size = length key;
      limit = limit;
      turned = false;
    }

abbrev pub limit_fits : ℕ → Bool
limit_fits n = leb 1 n && leb n limit_most

-- "key of 1 to 128 bytes (else 8), concurrency (else 20)"; 0 where the contacts are out of form, and 12 for a box whose own id is no peer id
unfoldable pub start_of : List ℕ → List ℕ → List ℕ → List ℕ → ℕ → Step
start_of t own ours key limit =
    cond (not (in_form_table t ours)) (refuses no_lookup OutOfForm)
    (cond (not (key_fits key)) (refuses no_lookup BreaksRules)
    (cond (not (id_fits own)) (refuses no_lookup BadPeer)
    (cond (not (limit_fits limit)) (refuses no_lookup BadConcurrency)
    (settled (begun t key limit)))))

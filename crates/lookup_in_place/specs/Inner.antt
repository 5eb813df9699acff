-- What the proofs of the inner functions need beside specs/InPlace.antt.
use Rattle.std.specs.Prelude.{ℕ, ◌+◌, ◌-◌, ◌≡◌, false, List, ◌∷◌, ◌++◌, map, length, take, drop, replicate}
use Rattle.lookup_candidates.specs.declared.Candidate.{Candidate}
use Rattle.lookup.specs.Value.{Lookup}
use Rattle.lookup.specs.declared.Answer.{Answer}
use Rattle.lookup.specs.declared.Answer.TheVariants.{Complete, CutShort, Wait, Ask, Going}
use Rattle.lookup.specs.Lookup.{room, nobody, contact_at, with_candidates}
use Rattle.flat_lookup.specs.FlatLookup.{flat_size, lookup_in}
use Rattle.std.specs.Prelude.{Ok, Err, Result}
use Rattle.refusal.specs.declared.Refusal.{Refusal}

-- the rank to ask, or the number of candidates that there is room for
abbrev pub asked_of : Result Answer Refusal → ℕ
asked_of (Err r) = room
asked_of (Ok (Complete n)) = room
asked_of (Ok (CutShort n)) = room
asked_of (Ok Wait) = room
asked_of (Ok (Ask i)) = i
asked_of (Ok Going) = room

-- of n candidates those from rank r on have moved up, and c has that rank
abbrev pub joined : Lookup → ℕ → ℕ → Candidate → Lookup
joined l n r c = with_candidates l (n + 1) (take r l.candidates ++ (c ∷ (drop r (take n l.candidates) ++ drop (n + 1) l.candidates)))

-- the bytes m have become m': they stand for the lookup l, and what lies past it stays
pub record Becomes (l : Lookup) (m m' : List ℕ) : Type 0 where
  pub holds : lookup_in m' ≡ l
  pub long : length m' ≡ length m
  pub past : drop flat_size m' ≡ drop flat_size m

-- a lookup from which nobody was turned away
abbrev pub opened : List ℕ → List ℕ → ℕ → ℕ → ℕ → List Candidate → Lookup
opened key target count size limit cs =
    record { candidates = cs; key = key; target = target; count = count; size = size; limit = limit; turned = false }

-- the contacts in the first n of some slots as candidates, nobody in the other places
abbrev pub members_of : List ℕ → List ℕ → ℕ → List Candidate
members_of t at n = map (contact_at t) (take n at) ++ replicate (room - n) nobody

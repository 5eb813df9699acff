-- What proofs of the code that takes the steps need beside specs/Lookup.antt.
use Rattle.std.specs.Prelude.{ℕ, Bool, not, List}
use Rattle.place.specs.Place.{nearer_to}
use Rattle.octets.specs.Search.{first_in}
use Rattle.lookup_candidates.specs.declared.Candidate.{Candidate}

-- not nearer to the target t than the place p
abbrev pub beyond : List ℕ → List ℕ → Candidate → Bool
beyond t p d = not (nearer_to t d.place p)

-- how many are nearer, up to the first that isn't
abbrev pub rank_of : List ℕ → List ℕ → List Candidate → ℕ
rank_of t p cs = first_in (beyond t p) cs

-- The marks of a lookup's candidates, nearest first: RULES, Lookup. The rank of a candidate is how many are nearer.
use Rattle.std.specs.Prelude.{ℕ, suc, ◌-◌, Bool, cond, not, List, [], ◌∷◌, ◌++◌, length, get_or, take, replicate, eqb}
use Rattle.octets.specs.Search.{count, every}
use Rattle.limits.specs.Limits.{most_near}
use Rattle.lookup_marks.specs.declared.Ranks.{Ranks}

-- what a mark says of its candidate
abbrev pub idle : ℕ
idle = 0

abbrev pub flying : ℕ
flying = 1

abbrev pub answered : ℕ
answered = 2

abbrev pub failed : ℕ
failed = 3

-- the candidate of rank r has the mark m
abbrev pub marked : ℕ → List ℕ → ℕ → Bool
marked m ms r = eqb (get_or ms r 0) m

-- the ranks of those that have not failed, where the first of the list has rank r
unfoldable pub live : ℕ → List ℕ → List ℕ
live r [] = []
live r (m ∷ ms) = cond (eqb m failed) (live (suc r) ms) (r ∷ live (suc r) ms)

-- "the 20 nearest not failed", by rank, or all where there are fewer
unfoldable pub twenty_of : List ℕ → List ℕ
twenty_of ms = take most_near (live 0 ms)

-- "over, if all of the 20 nearest not failed have answered"
unfoldable pub is_over : List ℕ → Bool
is_over ms = every (marked answered ms) (twenty_of ms)

-- the first of a list that passes, or d where none does
unfoldable pub pick : (ℕ → Bool) → ℕ → List ℕ → ℕ
pick p d [] = d
pick p d (x ∷ l) = cond (p x) x (pick p d l)

-- "the nearest idle one among those 20", by rank, or the number of candidates where none is idle
unfoldable pub idle_of : List ℕ → ℕ
idle_of ms = pick (marked idle ms) (length ms) (twenty_of ms)

-- how many are in flight, "also one no longer among the 20"
unfoldable pub flights_of : List ℕ → ℕ
flights_of ms = count (length ms) (marked flying ms)

-- "the number of requests sent, which equals the candidates no longer idle"
unfoldable pub sent_of : List ℕ → ℕ
sent_of ms = count (length ms) (λ r. not (marked idle ms r))

-- up to twenty ranks in an array, zeros after them
abbrev pub ranks_of : List ℕ → Ranks
ranks_of l = record { at = l ++ replicate (most_near - length l) 0; n = length l }

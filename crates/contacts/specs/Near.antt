-- The nearest contacts of a table: RULES, Answers, "closerPeers are the 20 nearest contacts", and RULES, Lookup, "the 20 nearest contacts as idle candidates". The
-- query "passes over doubtful ones, so it gives the 20 nearest that aren't, or all such" (RULES, Places and contacts).
use Rattle.std.specs.Prelude.{ℕ, zero, suc, Bool, not, ◌&&◌, cond, List, [], ◌∷◌, ◌++◌, ltb, length, take, replicate}
use Rattle.limits.specs.Limits.{most_near}
use Rattle.place.specs.Place.{is_place, distance}
use Rattle.contacts.specs.declared.Closest.{Closest}
use Rattle.contacts.specs.Table.{slots_of, slot, used, doubtful, place}

-- how far slot i of the table t is from the place x
unfoldable pub far : List ℕ → List ℕ → ℕ → ℕ
far t x i = distance (place (slot t i)) x

-- i put into a list, before the first that is farther by the measure d
unfoldable pub insert : (ℕ → ℕ) → ℕ → List ℕ → List ℕ
insert d i [] = i ∷ []
insert d i (j ∷ l) = cond (ltb (d i) (d j)) (i ∷ j ∷ l) (j ∷ insert d i l)

-- insertion sort from the left, onto what is sorted already: of two that are as far, the first stays first
unfoldable pub sort_onto : (ℕ → ℕ) → List ℕ → List ℕ → List ℕ
sort_onto d done [] = done
sort_onto d done (i ∷ l) = sort_onto d (insert d i done) l

-- a slot is shown: it holds a contact that isn't doubtful
unfoldable pub shown : List ℕ → Bool
shown s = used s && not (doubtful s)

-- the numbers of the slots below k that are shown
unfoldable pub shown_below : List ℕ → ℕ → List ℕ
shown_below t zero = []
shown_below t (suc k) = shown_below t k ++ cond (shown (slot t k)) (k ∷ []) []

-- those, nearest first; of two that are as far, the lower slot first
unfoldable pub sorted : List ℕ → List ℕ → ℕ → List ℕ
sorted t x k = sort_onto (far t x) [] (shown_below t k)

-- the first twenty of all that are shown, nearest to x first; all where there are fewer, and none where x isn't a place
unfoldable pub nearest_slots : List ℕ → List ℕ → List ℕ
nearest_slots t x = cond (is_place x) (take most_near (sorted t x (slots_of t))) []

-- as an array of twenty, with 0 where there is none
unfoldable pub filled : List ℕ → List ℕ
filled l = take most_near (l ++ replicate most_near 0)

unfoldable pub nearest_of : List ℕ → List ℕ → Closest
nearest_of t x = record { at = filled (nearest_slots t x); n = length (nearest_slots t x) }

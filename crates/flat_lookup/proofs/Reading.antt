-- Laws of reading: one candidate after another. Assumes nothing.
use Prim.Native.Nat.{ℕ, zero, suc, ◌+◌, ◌*◌, ◌≤◌, ◌<◌}
use mathlib.Core.Path.{◌≡◌, refl, sym, ap, ◌∙◌}
use mathlib.Core.List.{List}
use native.Mathlib.Omega.{arith}
use lib.ListN.{length, get_or, drop, get_or-eq_default}
use lib.Seq.{drop-drop}
use Rattle.limits.specs.Limits.{most_id, place_size}
use Rattle.lookup.specs.Lookup.{room, padded, nobody}
use Rattle.lookup_candidates.specs.declared.Candidate.{Candidate}
use Rattle.flat_lookup.specs.FlatLookup.{id_at, place_at, candidate_size, candidates_at, byte_at, bytes_at, candidate_in, candidates_in, lookup_in, candidate_at}

-- ---- a field, as it is cut out and copied
pub bytes_read : (n : ℕ) (s : List ℕ) (i : ℕ) (t u : List ℕ) → t ≡ drop i s → u ≡ padded n t → u ≡ bytes_at n s i
bytes_read n s i t u et eu = eu ∙ ap (padded n) et

pub candidate-read : (s t kept p : List ℕ) (m n : ℕ) → t ≡ drop id_at s → kept ≡ padded most_id t → p ≡ bytes_at place_size s place_at → m ≡ byte_at s 0 → n ≡ byte_at s 1
    → record { id = kept; place = p; mark = m; len = n } ≡ candidate_in s
candidate-read s t kept p m n et ek ep em en = rw (ek, et, ep, em, en)

-- ---- one candidate after another
pub candidates-length : (n : ℕ) (s : List ℕ) → length (candidates_in n s) ≡ n
unfolding candidates_in
candidates-length zero s = refl
candidates-length (suc n) s = ap suc (candidates-length n (drop candidate_size s))

pub candidate-at : (n : ℕ) (s : List ℕ) (i : ℕ) (d : Candidate) → i < n → get_or (candidates_in n s) i d ≡ candidate_in (drop (i * candidate_size) s)
unfolding candidates_in
candidate-at zero s i d h = elim h [ ]
candidate-at (suc n) s zero d h = refl
candidate-at (suc n) s (suc i) d h =
    let e : candidate_size + i * candidate_size ≡ suc i * candidate_size = omega arith in
    candidate-at n (drop candidate_size s) i d (omega arith)
    ∙ ap candidate_in (drop-drop (i * candidate_size) candidate_size s ∙ ap (λ (k : ℕ). drop k s) e)

-- the candidate of a rank, where its bytes start; past the ranks there is nobody
pub candidate-is : (m : List ℕ) (i : ℕ) → i < room → candidate_at m i ≡ candidate_in (drop (candidates_at + i * candidate_size) m)
candidate-is m i h = candidate-at room (drop candidates_at m) i nobody h ∙ ap candidate_in (drop-drop (i * candidate_size) candidates_at m)

pub candidate-none : (m : List ℕ) (i : ℕ) → room ≤ i → nobody ≡ candidate_at m i
candidate-none m i h = sym (get_or-eq_default (lookup_in m).candidates nobody (omega (arith, candidates-length room (drop candidates_at m))))

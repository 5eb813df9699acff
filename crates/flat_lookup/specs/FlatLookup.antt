-- A lookup as bytes: 25,256 of them, in this order.
--   0..2     number of candidates, the low byte first
--   2        length of the key
--   3        limit
--   4        someone was turned away: 0 or 1
--   5..8     zeros
--   8..136   key, zeros after it
--   136..168 target
--   then 256 candidates of 98 bytes: mark, length of the id, 64 bytes id, 32 bytes place
use Rattle.std.specs.Prelude.{ℕ, zero, suc, ◌+◌, ◌*◌, ◌/◌, ◌%◌, cond, List, [], ◌∷◌, ◌++◌, get_or, drop, ltb}
use Rattle.limits.specs.Limits.{most_id, place_size, most_key}
use Rattle.lookup.specs.Lookup.{room, padded, nobody}
use Rattle.lookup_candidates.specs.declared.Candidate.{Candidate}
use Rattle.lookup.specs.Value.{Lookup}

-- ---- the layout
-- of a candidate
abbrev pub mark_at : ℕ
mark_at = 0

abbrev pub len_at : ℕ
len_at = 1

abbrev pub id_at : ℕ
id_at = 2

abbrev pub place_at : ℕ
place_at = id_at + most_id

abbrev pub candidate_size : ℕ
candidate_size = place_at + place_size

-- of a lookup
abbrev pub count_at : ℕ
count_at = 0

abbrev pub size_at : ℕ
size_at = 2

abbrev pub limit_at : ℕ
limit_at = 3

abbrev pub turned_at : ℕ
turned_at = 4

abbrev pub key_at : ℕ
key_at = 8

abbrev pub target_at : ℕ
target_at = key_at + most_key

abbrev pub candidates_at : ℕ
candidates_at = target_at + place_size

abbrev pub flat_size : ℕ
flat_size = candidates_at + room * candidate_size

-- ---- reading: any bytes stand for a lookup; what lies past their end reads as 0
abbrev pub byte_at : List ℕ → ℕ → ℕ
byte_at s i = get_or s i 0

-- the n bytes from i on
abbrev pub bytes_at : ℕ → List ℕ → ℕ → List ℕ
bytes_at n s i = padded n (drop i s)

-- the candidate at the start of s
abbrev pub candidate_in : List ℕ → Candidate
candidate_in s = record { id = bytes_at most_id s id_at; place = bytes_at place_size s place_at; mark = byte_at s mark_at; len = byte_at s len_at }

-- n candidates, one right after another
unfoldable pub candidates_in : ℕ → List ℕ → List Candidate
candidates_in zero s = []
candidates_in (suc n) s = candidate_in s ∷ candidates_in n (drop candidate_size s)

-- a byte 4 other than 0 says that someone was turned away
abbrev pub lookup_in : List ℕ → Lookup
lookup_in s =
    record {
      candidates = candidates_in room (drop candidates_at s);
      key = bytes_at most_key s key_at;
      target = bytes_at place_size s target_at;
      count = byte_at s count_at + byte_at s (count_at + 1) * 256;
      size = byte_at s size_at;
      limit = byte_at s limit_at;
      turned = ltb 0 (byte_at s turned_at);
    }

-- the candidate of rank i
abbrev pub candidate_at : List ℕ → ℕ → Candidate
candidate_at s i = get_or (lookup_in s).candidates i nobody

-- ---- writing: a limit or a length of the key that doesn't fit is cut to its lowest byte, the count to its lowest two. The other numbers of a lookup are
-- bytes where it is one that bytes stand for, and where a step gives it.
unfoldable pub candidate_bytes : Candidate → List ℕ
candidate_bytes c = c.mark ∷ c.len ∷ (padded most_id c.id ++ padded place_size c.place)

unfoldable pub candidates_bytes : List Candidate → List ℕ
candidates_bytes [] = []
candidates_bytes (c ∷ cs) = candidate_bytes c ++ candidates_bytes cs

-- what stands before the candidates
unfoldable pub head_bytes : Lookup → List ℕ
head_bytes l =
    l.count % 256 ∷ l.count / 256 % 256 ∷ l.size % 256 ∷ l.limit % 256 ∷ cond l.turned 1 0 ∷ 0 ∷ 0 ∷ 0
    ∷ (padded most_key l.key ++ padded place_size l.target)

unfoldable pub lookup_bytes : Lookup → List ℕ
lookup_bytes l = head_bytes l ++ candidates_bytes l.candidates

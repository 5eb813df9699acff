-- What follows from the definitions: a lookup that is written is read back as it was. proofs/Theorems.antt shows each.
use Rattle.std.specs.Prelude.{ℕ, ◌<◌, ◌≤◌, ◌≡◌, true, List, length, get_or, take}
use Rattle.std.proofs.lemmas.List.Edits.{sets}
use Rattle.limits.specs.Limits.{most_id, place_size, most_key}
use Rattle.lookup.specs.Lookup.{room, nobody, in_form}
use Rattle.lookup_candidates.specs.declared.Candidate.{Candidate}
use Rattle.lookup.specs.Value.{Lookup}
use Rattle.flat_lookup.specs.FlatLookup.{flat_size, lookup_in, lookup_bytes}

-- the arrays have their lengths: those of each lookup that bytes stand for have, and of what each step gives of it
pub record SizedCandidate (c : Candidate) : Type 0 where
  pub id_long : length c.id ≡ most_id
  pub place_long : length c.place ≡ place_size

pub record Sized (l : Lookup) : Type 0 where
  pub candidates_long : length l.candidates ≡ room
  pub key_long : length l.key ≡ most_key
  pub target_long : length l.target ≡ place_size
  pub each : (i : ℕ) → i < room → SizedCandidate (get_or l.candidates i nobody)

-- the numbers fit into their bytes
pub record Fits (l : Lookup) : Type 0 where
  pub count_fits : l.count < 65536
  pub size_fits : l.size < 256
  pub limit_fits : l.limit < 256

-- what is written is read back
abbrev pub ReadsBack : Type 0
ReadsBack = (l : Lookup) → Sized l → Fits l → lookup_in (lookup_bytes l) ≡ l

-- the same of every lookup in form
abbrev pub FormReadsBack : Type 0
FormReadsBack = (l : Lookup) → Sized l → in_form l ≡ true → lookup_in (lookup_bytes l) ≡ l

-- a lookup has 25,256 bytes
abbrev pub FlatLength : Type 0
FlatLength = (l : Lookup) → Sized l → length (lookup_bytes l) ≡ flat_size

-- reading looks at the first 25,256 bytes alone
abbrev pub LooksNoFurther : Type 0
LooksNoFurther = (s : List ℕ) → lookup_in (take flat_size s) ≡ lookup_in s

-- what is stored in a buffer with room for it is read back from that buffer
abbrev pub StoredReadsBack : Type 0
StoredReadsBack = (out : List ℕ) (l : Lookup) → flat_size ≤ length out → Sized l → Fits l → lookup_in (sets out 0 (lookup_bytes l)) ≡ l

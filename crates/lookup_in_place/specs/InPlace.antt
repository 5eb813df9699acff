-- The steps of a lookup on the bytes that it is kept as: what each answers, and the bytes that it leaves.
use Rattle.std.specs.Prelude.{ℕ, Bool, true, false, cond, List, [], ltb, length}
use Rattle.std.proofs.lemmas.List.Edits.{sets}
use Rattle.refusal.specs.declared.Refusal.TheVariants.{OutOfForm}
use Rattle.lookup_marks.specs.Marks.{ranks_of}
use Rattle.message.specs.declared.Fields.{Fields}
use Rattle.lookup.specs.declared.Answer.{Answer}
use Rattle.lookup.specs.declared.Answer.TheVariants.{Complete, CutShort, Wait, Ask, Going}
use Rattle.lookup.specs.Value.{Step}
use Rattle.lookup.specs.Lookup.{refuses, next_of, failure_of, reply_of, start_of}
use Rattle.flat_lookup.specs.FlatLookup.{flat_size, lookup_in, lookup_bytes}
use Rattle.lookup_in_place.specs.declared.Outcome.{Outcome}
use Rattle.std.specs.Prelude.{Ok, Err, Result}
use Rattle.refusal.specs.declared.Refusal.{Refusal}

-- what a step answers beside the lookup
abbrev pub outcome_of : Step → Outcome
outcome_of s = record { found = s.found; answer = s.answer }

-- an answer with nobody found
abbrev pub answers : Result Answer Refusal → Outcome
answers a = record { found = ranks_of []; answer = a }

abbrev pub is_refused : Result Answer Refusal → Bool
is_refused (Err r) = true
is_refused (Ok (Complete n)) = false
is_refused (Ok (CutShort n)) = false
is_refused (Ok Wait) = false
is_refused (Ok (Ask i)) = false
is_refused (Ok Going) = false

-- the lookup is written back, unless the step was refused
abbrev pub step_memory : List ℕ → Step → List ℕ
step_memory m s = cond (is_refused s.answer) m (sets m 0 (lookup_bytes s.lookup))

-- the step s of the lookup that the bytes m stand for; fewer than 25,256 bytes are out of form
abbrev pub step_in : List ℕ → Step → Step
step_in m s = cond (ltb (length m) flat_size) (refuses (lookup_in m) OutOfForm) s

abbrev pub next_in : List ℕ → Step
next_in m = step_in m (next_of (lookup_in m))

abbrev pub failure_in : List ℕ → List ℕ → List ℕ → List ℕ → Step
failure_in m own ours id = step_in m (failure_of (lookup_in m) own ours id)

abbrev pub reply_in : List ℕ → List ℕ → List ℕ → List ℕ → List ℕ → Fields → Step
reply_in m own ours id body v = step_in m (reply_of (lookup_in m) own ours id body v)

-- a start takes what stands in the bytes for nothing: a refused one leaves an empty lookup there
abbrev pub start_in : List ℕ → List ℕ → List ℕ → List ℕ → List ℕ → ℕ → Step
start_in m t own ours key limit = step_in m (start_of t own ours key limit)

abbrev pub started_memory : List ℕ → Step → List ℕ
started_memory m s = sets m 0 (lookup_bytes s.lookup)

abbrev pub start_memory : List ℕ → Step → List ℕ
start_memory m s = cond (ltb (length m) flat_size) m (started_memory m s)

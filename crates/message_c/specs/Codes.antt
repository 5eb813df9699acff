-- The numbers that C sees for what reading and writing a message answer.
use Rattle.std.specs.Prelude.{ℕ, List, [], ◌∷◌, Bool, true, false, cond}
use Rattle.refusal.specs.Refusal.{number_of}
use Rattle.wire.specs.declared.Span.{Span}
use Rattle.message.specs.declared.Fields.{Fields}
use Rattle.std.specs.Prelude.{Ok, Err, Some, None, Result, Option}
use Rattle.refusal.specs.declared.Refusal.{Refusal}

-- a part by its two ends
abbrev pub span_of : ℕ → ℕ → Span
span_of at end = record { at = at; end = end }

abbrev pub ends_of : Span → List ℕ
ends_of p = p.at ∷ p.end ∷ []

-- whether something was found, and the two ends that are stored; where nothing is found they stay
abbrev pub is_found : Option Span → Bool
is_found (Some p) = true
is_found None = false

abbrev pub ends_after : List ℕ → Option Span → List ℕ
ends_after old (Some p) = ends_of p
ends_after old None = old

-- a message's type, where its key is, whether it has a record, and where the record's key and value are
abbrev pub numbers_of : Fields → List ℕ
numbers_of m =
    m.kind
    ∷ m.key.at
    ∷ m.key.end
    ∷ cond m.held.there 1 0
    ∷ m.held.key.at
    ∷ m.held.key.end
    ∷ m.held.value.at
    ∷ m.held.value.end
    ∷ []

-- the number of a refusal (RULES, Refusals); 255 where there is none
abbrev pub read_code : Result Fields Refusal → ℕ
read_code (Ok m) = 255
read_code (Err r) = number_of r

abbrev pub numbers_after : List ℕ → Result Fields Refusal → List ℕ
numbers_after old (Ok m) = numbers_of m
numbers_after old (Err r) = old

-- how many bytes were written; a message has at least three with its prefix, so 0 says that none was
abbrev pub write_code : Result ℕ Refusal → ℕ
write_code (Ok n) = n
write_code (Err r) = 0

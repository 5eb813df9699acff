-- The numbers that C sees for what a put and a find answer.
use Rattle.std.specs.Prelude.{ℕ}
use Rattle.refusal.specs.Refusal.{number_of}
use Rattle.std.specs.Prelude.{Ok, Err, Some, None, Result, Option, ⊤}
use Rattle.records.specs.declared.Held.{Held}
use Rattle.refusal.specs.declared.Refusal.{Refusal}

-- the number of a refusal (RULES, Refusals); 255 where there is none
abbrev pub code_of : Result ⊤ Refusal → ℕ
code_of (Ok tt) = 255
code_of (Err r) = number_of r

-- where in the store a value starts, which is never at 0; 0 for a key that isn't held, and for a store out of form
abbrev pub start_of : Result (Option Held) Refusal → ℕ
start_of (Ok (Some h)) = h.start
start_of (Ok None) = 0
start_of (Err r) = 0

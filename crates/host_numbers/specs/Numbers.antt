-- How values cross as numbers: what a start or open was told, and a message's view.
use Rattle.std.specs.Prelude.{ℕ, cond, List, [], ◌∷◌, get_or}
use Rattle.refusal.specs.Refusal.{number_of}
use Rattle.message.specs.declared.Fields.{Fields}
use Rattle.flat.specs.Flat.{says_yes}
use Rattle.std.specs.Prelude.{Ok, Err, Result, ⊤}
use Rattle.refusal.specs.declared.Refusal.{Refusal}

-- ---- what a call was told
-- a refusal's number, or 64
abbrev pub told_code : Result ⊤ Refusal → ℕ
told_code (Ok tt) = 64
told_code (Err r) = number_of r

-- the first, or the second where the call was refused
abbrev pub unless_refused : {A : Type 0} → Result ⊤ Refusal → A → A → A
unless_refused (Ok tt) x y = x
unless_refused (Err r) x y = y

-- ---- a message's view
-- a message's type, where its key is, whether it has a record, and where the record's key and value are
abbrev pub view_numbers : Fields → List ℕ
view_numbers m =
    m.kind
    ∷ m.key.at
    ∷ m.key.end
    ∷ cond m.held.there 1 0
    ∷ m.held.key.at
    ∷ m.held.key.end
    ∷ m.held.value.at
    ∷ m.held.value.end
    ∷ []

-- a view in eight numbers; those that are missing read as 0
abbrev pub view_in : List ℕ → Fields
view_in v = record {
  kind = get_or v 0 0;
  key = record { at = get_or v 1 0; end = get_or v 2 0 };
  held = record { there = says_yes (get_or v 3 0); key = record { at = get_or v 4 0; end = get_or v 5 0 }; value = record { at = get_or v 6 0; end = get_or v 7 0 } };
}

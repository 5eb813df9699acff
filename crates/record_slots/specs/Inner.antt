-- What the parts of the form test promise each other. No reader of `Slots` needs this.
use Rattle.std.specs.Prelude.{ℕ, Bool, not, ◌||◌, List}
use Rattle.record_slots.specs.Slots.{slot, used, is_record}

-- slot i is free, or what it holds keeps the limits of a record
unfoldable pub sound : List ℕ → ℕ → Bool
sound t i = not (used (slot t i)) || is_record (slot t i)

-- `has_slots` meets its contract. Assumes nothing.
use mathlib.Core.Path.{refl}
use Rattle.contact_slots.specs.Slots.{enough}
use Rattle.contact_slots.proofs.has_slots.Goals as goal

pub returns : goal.returns
unfolding enough
returns c = refl

-- `console::call` meets its contract: its turn and the lent memory have what `receive` gives. Assumes nothing.
use mathlib.Core.Path.{refl}
use Rattle.console.proofs.Going.{turned}
use Rattle.console.proofs.call.Goals as goal

pub returns : goal.returns
returns c = turned _ _ _ _ _ _ _ c.receive-r.ensures refl refl c.deal-after.ensures

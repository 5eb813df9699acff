-- `connections::start` meets its contract. Assumes nothing.
use mathlib.Core.Path.{sym, ◌∙◌}
use Rattle.connections.proofs.Opening.{start_fine, start-refused}
use borrow.Author.Rules.{rules}
use Rattle.connections.proofs.start.Goals as goal

pub returns-then-id_fits : goal.returns-then-id_fits
returns-then-id_fits c = start_fine _ _ _ _ (sym c.id_fits.ensures ∙ c.if-id_fits.true) c.place_of.ensures c.peer_of-me.ensures

pub returns : goal.returns
returns c = start-refused _ _ _ (sym c.id_fits.ensures ∙ c.if-id_fits.false) c.no_peer-me.ensures

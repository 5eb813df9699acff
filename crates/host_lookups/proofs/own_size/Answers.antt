-- `host_lookups::own_size` meets its contract. Assumes nothing.
use mathlib.Core.Path.{sym, ◌∙◌}
use Rattle.host_lookups.proofs.Hosting.{size-own, size-nobody}
use borrow.Author.Rules.{rules}
use Rattle.host_lookups.proofs.own_size.Goals as goal

pub returns-then-own_fits : goal.returns-then-own_fits
returns-then-own_fits c = size-own _ (sym c.own_fits.ensures ∙ c.if-own_fits.true)

pub returns : goal.returns
returns c = size-nobody _ (sym c.own_fits.ensures ∙ c.if-own_fits.false)

-- `place_at` cuts a place out of the table at once.
use mathlib.Core.Path.{◌∙◌, ap}
use lib.ListN.{length}
use Rattle.contact_table.proofs.Cuts.{place-cut, place-size}
use borrow.Author.Rules.{rules}
use Rattle.contact_form.proofs.place_at.Goals as goal

pub returns : goal.returns
returns c = (place-cut c.args.table.now c.args.i, ap length (place-cut c.args.table.now c.args.i) ∙ place-size c.args.table.now c.args.i c.requires)

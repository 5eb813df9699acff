-- `starterbell_contacts_nearest` stores what `nearest` finds.
use mathlib.Core.Path.{ap}
use borrow.Author.Rules.{rules}
use Rattle.contacts.specs.declared.Closest.{Closest}
use Rattle.contacts_c.proofs.starterbell_contacts_nearest.Goals as goal

pub returns : goal.returns
returns c = (ap (λ (x : Closest). x.n) c.nearest-found.ensures, ap (λ (x : Closest). x.at) c.nearest-found.ensures)

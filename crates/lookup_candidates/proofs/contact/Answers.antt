-- `contact`: id and place copied. Assumes nothing.
use mathlib.Core.Path.{refl, ap}
use lib.ListN.{length}
use native.Mathlib.Omega.{arith}
use borrow.Author.Rules.{rules}
use Rattle.contacts.specs.Table.{slot}
use Rattle.contact_form.proofs.EntryFacts.{entry-id-most}
use Rattle.lookup_candidates.proofs.Candidates.{contact-is}
use Rattle.lookup_candidates.proofs.contact.Goals as goal

pub overflow_cast-len : goal.overflow_cast-len
overflow_cast-len c = record { fits = omega (arith, ap length c.id_of-id.ensures, entry-id-most (slot c.args.table.now c.args.i)) }

pub returns : goal.returns
returns c = contact-is c.args.table.now c.args.i _ _ _ _ _ c.id_of-id.ensures c.copy.ensures c.place_of.ensures c.copy-2.ensures refl

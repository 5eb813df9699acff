-- `contact_len`: the size of a contact.
use Rattle.entries.proofs.Entries.{contact-size}
use borrow.Author.Rules.{rules}
use Rattle.entries.proofs.contact_len.Goals as goal

pub returns : goal.returns
returns c = contact-size _ _ _ _ _ _ _ c.id_of.ensures c.address_count.ensures c.address_of.ensures c.address_of-2.ensures c.address_of-3.ensures c.address_of-4.ensures _ c.peer_len.ensures

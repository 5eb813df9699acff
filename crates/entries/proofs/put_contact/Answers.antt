-- `put_contact`: the bytes of a contact.
use Rattle.entries.proofs.Entries.{contact-put}
use borrow.Author.Rules.{rules}
use Rattle.entries.proofs.put_contact.Goals as goal

pub returns : goal.returns
returns c = contact-put _ _ _ _ _ _ _ c.id_of.ensures c.address_count.ensures c.address_of.ensures c.address_of-2.ensures c.address_of-3.ensures c.address_of-4.ensures _ _ _ _ c.put_peer.ensures

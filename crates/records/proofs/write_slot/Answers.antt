-- `write_slot` is three runs of stores, which together are the whole slot.
use Rattle.records.proofs.Writing.{slot-write}
use borrow.Author.Rules.{rules}
use Rattle.records.proofs.write_slot.Goals as goal

pub returns : goal.returns
returns c = slot-write c.args.store.now c.args.at c.args.key.now c.args.value.now c.header_of-head.result c.requires.key_fits c.header_of-head.ensures c.copy.ensures c.put_padded.ensures c.put_padded-2.ensures

-- `put_received` meets its contract. Assumes nothing.
use Rattle.host_state.proofs.Handing.{received-written}
use borrow.Author.Rules.{rules}
use Rattle.host_state.proofs.put_received.Goals as goal

pub returns : goal.returns
returns c = received-written c.args.out.now c.args.got _ _ _ _ _ c.answer_length.ensures c.sight_number.ensures c.sight_slot.ensures c.put_numbers.ensures c.put_heard.ensures

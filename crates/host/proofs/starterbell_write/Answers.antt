-- `starterbell_write` meets its contract. Assumes nothing.
use Rattle.host.proofs.Handing.{write_done}
use borrow.Author.Rules.{rules}
use Rattle.host.proofs.starterbell_write.Goals as goal

pub returns : goal.returns
returns c = let a = c.args in write_done a.message.now a.kind a.key.now a.held a.record_key.now a.value.now a.closer.now a.providers.now a.out.now _ _ _ _ _ c.says_yes-there.ensures c.write-w.ensures c.write_answer.ensures

-- `keep_box` meets its contract. Assumes nothing.
use Rattle.host_state.proofs.Handing.{box-kept, box-left}
use borrow.Author.Rules.{rules}
use Rattle.host_state.proofs.keep_box.Goals as goal

pub returns-in-Ok : goal.returns-in-Ok
returns-in-Ok c = box-kept _ c.args.s _ c.in-Ok.is c.put_peer.ensures

pub returns-in-Err : goal.returns-in-Err
returns-in-Err c = box-left _ c.args.s _ _ c.in-Err.is c.code_of.ensures

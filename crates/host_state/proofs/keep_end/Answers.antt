-- `keep_end` meets its contract. Assumes nothing.
use Rattle.host_state.proofs.Handing.{end_clean, end_refused}
use borrow.Author.Rules.{rules}
use Rattle.host_state.proofs.keep_end.Goals as goal

pub returns-in-Ok : goal.returns-in-Ok
returns-in-Ok c = end_clean _ c.args.e _ c.in-Ok.is c.put_framing.ensures

pub returns-in-Err : goal.returns-in-Err
returns-in-Err c = end_refused _ c.args.e _ _ _ c.in-Err.is c.refuse_on.ensures

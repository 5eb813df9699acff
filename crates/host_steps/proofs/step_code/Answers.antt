-- `step_code` meets its contract. Assumes nothing.
use Rattle.host_steps.specs.Steps.{step_number}
use Rattle.host_numbers.proofs.Handing.{by-case}
use borrow.Author.Rules.{rules}
use Rattle.host_steps.proofs.step_code.Goals as goal

pub returns-in-Err : goal.returns-in-Err
returns-in-Err c = by-case step_number _ _ _ c.in-Err.is c.code_of.ensures

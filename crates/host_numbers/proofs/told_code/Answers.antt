-- `told_code` meets its contract. Assumes nothing.
use Rattle.host_numbers.specs.Numbers.{told_code}
use Rattle.host_numbers.proofs.Handing.{by-case}
use borrow.Author.Rules.{rules}
use Rattle.host_numbers.proofs.told_code.Goals as goal

pub returns-in-Err : goal.returns-in-Err
returns-in-Err c = by-case told_code _ _ _ c.in-Err.is c.code_of.ensures

-- `broken_recipe` meets its contract. Assumes nothing.
use Rattle.host_answers.proofs.Handing.{broken-told}
use borrow.Author.Rules.{rules}
use Rattle.host_answers.proofs.broken_recipe.Goals as goal

pub returns : goal.returns
returns c = (c.code_of.ensures, broken-told _ _ c.args.w _ _ c.rule_number.ensures c.part_number.ensures c.put_numbers.ensures)

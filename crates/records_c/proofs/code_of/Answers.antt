-- `code_of` goes by the case of the answer.
use mathlib.Core.Path.{sym, ap, ◌∙◌}
use Rattle.records_c.specs.Codes.{code_of}
use borrow.Author.Rules.{rules}
use Rattle.records_c.proofs.code_of.Goals as goal

pub returns-in-Err : goal.returns-in-Err
returns-in-Err c = c.number.ensures ∙ sym (ap code_of c.in-Err.is)

-- `found` goes by the case.
use mathlib.Core.Path.{sym, ap}
use Rattle.message_c.specs.Codes.{is_found, ends_after}
use borrow.Author.Rules.{rules}
use Rattle.message_c.proofs.found.Goals as goal

pub returns-in-Some : goal.returns-in-Some
returns-in-Some c = (sym (ap is_found c.in-Some.is), sym (ap (ends_after _) c.in-Some.is))

-- `read`: too long, malformed, of an unknown type, or whole.
use mathlib.Core.Path.{sym, ◌∙◌}
use native.Mathlib.Omega.{arith}
use Rattle.message.proofs.Gathering.{read-long, read-broken, read-unknown, read-sound}
use borrow.Author.Rules.{rules}
use Rattle.message.proofs.read.Goals as goal

pub returns-then-body-gt-MOST_BODY : goal.returns-then-body-gt-MOST_BODY
returns-then-body-gt-MOST_BODY c = read-long _ (omega arith)

pub returns-then-m-gt-MOST_KIND : goal.returns-then-m-gt-MOST_KIND
returns-then-m-gt-MOST_KIND c = read-unknown _ (omega arith) _ (sym c.in-Some.is ∙ c.gather.ensures) (omega arith)

pub returns : goal.returns
returns c = read-sound _ (omega arith) _ (sym c.in-Some.is ∙ c.gather.ensures) (omega arith)

pub returns-in_default : goal.returns-in_default
returns-in_default c = read-broken _ (omega arith) (sym c.in_default.is ∙ c.gather.ensures)

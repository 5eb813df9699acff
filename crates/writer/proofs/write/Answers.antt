-- `write`: 1, then 21, else the whole message.
use mathlib.Core.Path.{sym, ◌∙◌}
use Rattle.writer.proofs.Whole.{write-small, write-over, write_done}
use borrow.Author.Rules.{rules}
use Rattle.writer.proofs.write.Goals as goal

pub returns-then-out-lt-LEAST_REPLY : goal.returns-then-out-lt-LEAST_REPLY
returns-then-out-lt-LEAST_REPLY c = write-small _ _ _ _ _ _ _ _ c.if-out-lt-LEAST_REPLY.true

pub returns-in_default : goal.returns-in_default
returns-in_default c = write-over _ _ _ _ _ _ _ _ c.if-out-lt-LEAST_REPLY.false (sym c.body_len.ensures ∙ c.in_default.is)

pub returns : goal.returns
returns c = write_done _ _ _ _ _ _ _ _ (sym c.body_len.ensures ∙ c.in-Some.is) _ _ _ c.if-out-lt-LEAST_REPLY.false c.put_message-end.ensures

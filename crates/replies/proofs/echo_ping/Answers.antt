-- `echo_ping`: the type alone.
use native.Mathlib.Omega.{arith}
use Rattle.replies.proofs.Whole.{ping-done}
use borrow.Author.Rules.{rules}
use Rattle.replies.proofs.echo_ping.Goals as goal

pub returns : goal.returns
returns c = ping-done _ _ _ _ c.begin.ensures c.framed_len.ensures

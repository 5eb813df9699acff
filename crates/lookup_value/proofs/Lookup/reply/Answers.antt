-- `Lookup::reply`: the step on a copy of the bytes. Assumes nothing.
use mathlib.Core.Path.{◌≡◌}
use lib.ListN.{length}
use Rattle.lookup_value.proofs.Giving.{reply-gives}
use borrow.Author.Rules.{rules}
use Rattle.lookup_value.proofs.Lookup.reply.Goals as goal

pub returns : goal.returns
returns c = let a = c.args in let n : length a.self.bytes ≡ 25256 = search rules in reply-gives a.self n _ _ a.own.now a.ours a.id.now a.body.now a.view c.reply-o.ensures

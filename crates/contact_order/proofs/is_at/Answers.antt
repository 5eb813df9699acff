-- `contact_order::is_at` looks at the mark, at the first word, and then at the rest. Assumes nothing.
use mathlib.Core.Path.{◌∙◌}
use Rattle.contacts.specs.Table.{slot}
use Rattle.contact_order.proofs.Tests.{at-no, at-yes}
use Rattle.contact_order.proofs.FirstWord.{at_other}
use borrow.Author.Rules.{rules}
use Rattle.contact_order.proofs.is_at.Goals as goal

pub returns-then-mark_at-eq0 : goal.returns-then-mark_at-eq0
returns-then-mark_at-eq0 c = at-no c.args.p.now (slot c.args.table.now c.args.i) _ c.mark_at.ensures c.if-mark_at-eq0.true

pub returns-then-word-first : goal.returns-then-word-first
returns-then-word-first c = at_other c.args.p.now (slot c.args.table.now c.args.i) _ _ _ c.word.ensures c.place_at-q.ensures.0 c.requires.1 c.if-word-first.true

pub returns : goal.returns
returns c = c.same_bytes.ensures ∙ at-yes c.args.p.now (slot c.args.table.now c.args.i) _ c.mark_at.ensures c.if-mark_at-eq0.false _ c.place_at-q.ensures.0

-- `body_len`: each limit, then the sum.
use mathlib.Core.Path.{sym, ◌∙◌}
use Rattle.writer.proofs.Counting.{sized-is}
use Rattle.writer.proofs.Whole.{body-kind, body-key, body-held, body-closer, body-providers, body-whole, held-says}
use borrow.Author.Rules.{rules}
use Rattle.writer.proofs.body_len.Goals as goal

pub returns-then-kind-gt-MOST_KIND : goal.returns-then-kind-gt-MOST_KIND
returns-then-kind-gt-MOST_KIND c = body-kind _ _ _ _ _ _ _ c.if-kind-gt-MOST_KIND.true

pub returns-then-key-gt-MOST_KEY : goal.returns-then-key-gt-MOST_KEY
returns-then-key-gt-MOST_KEY c = body-key _ _ _ _ _ _ _ c.if-key-gt-MOST_KEY.true

pub returns-in_err-h : goal.returns-in_err-h
returns-in_err-h c = rw c.from_residual.ensures (body-held _ _ _ _ _ _ _ (sym c.held_len.ensures ∙ c.in_err-h.was))

pub returns-in_err-a : goal.returns-in_err-a
returns-in_err-a c = rw c.from_residual-in_err-a.ensures (body-closer _ _ _ _ _ _ _ (sym c.list_len.ensures ∙ c.in_err-a.was))

pub returns-in_err-b : goal.returns-in_err-b
returns-in_err-b c = rw c.from_residual-in_err-b.ensures (body-providers _ _ _ _ _ _ _ (sym c.list_len-2.ensures ∙ c.in_err-b.was))

pub total-requires : goal.total-requires
total-requires c = (c.key_len.ensures.1, (held-says _ _ (sym c.held_len.ensures ∙ c.in_ok-h.was)).2, (sized-is _ _ _ (sym c.list_len.ensures ∙ c.in_ok-a.was)).2, (sized-is _ _ _ (sym c.list_len-2.ensures ∙ c.in_ok-b.was)).2)

pub returns : goal.returns
returns c = body-whole _ _ _ _ _ _ _ c.if-kind-gt-MOST_KIND.false c.if-key-gt-MOST_KEY.false _ _ _ _ c.key_len.ensures.0 (sym c.held_len.ensures ∙ c.in_ok-h.was) (sym c.list_len.ensures ∙ c.in_ok-a.was) (sym c.list_len-2.ensures ∙ c.in_ok-b.was) _ c.total.ensures

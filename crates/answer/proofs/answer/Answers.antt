-- `answer`: what the reader says.
use mathlib.Core.Path.{sym, ◌∙◌}
use Rattle.answer.proofs.Serving.{deal-refused, deal-whole}
use borrow.Author.Rules.{rules}
use Rattle.std.proofs.lemmas.Result.{err_from_is_err_and}
use Rattle.answer.proofs.answer.Goals as goal

pub serve-requires : goal.serve-requires
serve-requires c = sym c.read.ensures ∙ c.in_ok-m.was

pub returns-in_err-m : goal.returns-in_err-m
returns-in_err-m c =
    let p = err_from_is_err_and c.from_residual.result c.from_residual.ensures.1 in
    rw (p.1, p.2) (deal-refused _ _ _ _ _ c.read.ensures _ c.in_err-m.was)

pub returns : goal.returns
returns c = deal-whole _ _ _ _ _ c.read.ensures _ c.in_ok-m.was _ _ _ c.serve.ensures

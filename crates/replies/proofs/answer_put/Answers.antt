-- `answer_put`: the keys first, then what the store says.
use native.Mathlib.Omega.{arith}
use mathlib.Core.Path.{sym, ◌∙◌}
use Rattle.replies.proofs.Serving.{taken-fits, put_other, put-taken, put_refused}
use borrow.Author.Rules.{rules}
use Rattle.std.proofs.lemmas.Result.{err_from_is_err_and}
use Rattle.std.proofs.Common.{ap}
use mathlib.Core.Bool.{not}
use Rattle.replies.proofs.answer_put.Goals as goal

pub returns-then-not-same_bytes : goal.returns-then-not-same_bytes
returns-then-not-same_bytes c = λ t. put_other t _ _ _ _ _ _ c.same_bytes.ensures (ap not c.if-not-same_bytes.true)

pub echo-requires : goal.echo-requires
echo-requires c = let f = taken-fits _ _ _ (sym c.offer.ensures.0 ∙ c.in_ok-offer.was) in (f.0, f.1, omega (arith, f.1, f.2))

pub returns : goal.returns
returns c = λ t. put-taken t _ _ _ _ _ _ c.same_bytes.ensures (ap not c.if-not-same_bytes.false) _ c.offer.ensures.1 (sym c.offer.ensures.0 ∙ c.in_ok-offer.was) _ _ c.echo.ensures

pub returns-in_err-offer : goal.returns-in_err-offer
returns-in_err-offer c =
    let p = err_from_is_err_and c.from_residual.result c.from_residual.ensures.1 in
    rw (p.1, p.2) (λ t. put_refused t _ _ _ _ _ _ c.same_bytes.ensures (ap not c.if-not-same_bytes.false) _ c.offer.ensures.1 _ (sym c.offer.ensures.0 ∙ c.in_err-offer.was))

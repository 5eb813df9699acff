-- `point_at` reads a turn and a trim, each a varint of at most three bytes.
use mathlib.Core.Path.{◌∙◌}
use native.Mathlib.Omega.{arith}
use Rattle.recipe.proofs.Points.{point-none, turn-size, point-no-trim, trim-size, point-whole}
use Rattle.recipe.proofs.point_at.Goals as goal

pub returns-in_err-turn : goal.returns-in_err-turn
returns-in_err-turn c = c.from_residual.ensures ∙ point-none c.args.s.now c.args.at c.short_varint.ensures c.in_err-turn.was

pub overflow_add-at : goal.overflow_add-at
overflow_add-at c = record { fits = omega (arith, turn-size c.args.s.now c.args.at c.short_varint.ensures c.in_ok-turn.turn c.in_ok-turn.size c.in_ok-turn.was) }

pub returns-in_err-z : goal.returns-in_err-z
returns-in_err-z c =
    c.from_residual-in_err-z.ensures
    ∙ point-no-trim c.args.s.now c.args.at c.short_varint.ensures c.in_ok-turn.turn c.in_ok-turn.size c.in_ok-turn.was c.short_varint-2.ensures c.in_err-z.was

pub overflow_add-result : goal.overflow_add-result
overflow_add-result c =
    let e = c.short_varint.ensures in
    let t = c.in_ok-turn.was in
    record { fits = omega (arith, turn-size c.args.s.now c.args.at e c.in_ok-turn.turn c.in_ok-turn.size t, trim-size c.args.s.now c.args.at e c.in_ok-turn.turn c.in_ok-turn.size t c.short_varint-2.ensures c.in_ok-z.z c.in_ok-z.more c.in_ok-z.was) }

pub returns : goal.returns
returns c =
    point-whole c.args.s.now c.args.at c.short_varint.ensures c.in_ok-turn.turn c.in_ok-turn.size c.in_ok-turn.was c.short_varint-2.ensures c.in_ok-z.z c.in_ok-z.more c.in_ok-z.was c.trim_of-trim.ensures

-- `short_varint` reads up to three bytes; each answer is that of `varint` on what the bytes so far show.
use native.Mathlib.Omega.{arith}
use Rattle.recipe.proofs.Varints.{short-past, short-1, short-1-past, short-2-zero, short-2, short-2-past, short-3-zero, short-3, short-4}
use Rattle.recipe.proofs.short_varint.Goals as goal

pub returns-then-s-at : goal.returns-then-s-at
returns-then-s-at c = short-past c.args.s.now c.args.at (omega arith)

pub returns-then-a-lt128 : goal.returns-then-a-lt128
returns-then-a-lt128 c = short-1 c.args.s.now c.args.at c.wide-a.result (omega arith) c.wide-a.ensures.0 (omega arith)

pub returns-then-s-at-le1 : goal.returns-then-s-at-le1
returns-then-s-at-le1 c = short-1-past c.args.s.now c.args.at c.wide-a.result (omega arith) c.wide-a.ensures.0 (omega arith) (omega arith) (omega arith)

pub returns-then-b-lt1 : goal.returns-then-b-lt1
returns-then-b-lt1 c = short-2-zero c.args.s.now c.args.at c.wide-a.result (omega arith) c.wide-a.ensures.0 (omega arith) (omega arith) c.wide-b.result (omega arith) c.wide-b.ensures.0 (omega arith) (omega arith)

pub returns-then-b-lt128 : goal.returns-then-b-lt128
returns-then-b-lt128 c = short-2 c.args.s.now c.args.at c.wide-a.result (omega arith) c.wide-a.ensures.0 (omega arith) (omega arith) c.wide-b.result (omega arith) c.wide-b.ensures.0 (omega arith) (omega arith) (omega arith)

pub returns-then-s-at-le2 : goal.returns-then-s-at-le2
returns-then-s-at-le2 c = short-2-past c.args.s.now c.args.at c.wide-a.result (omega arith) c.wide-a.ensures.0 (omega arith) (omega arith) c.wide-b.result (omega arith) c.wide-b.ensures.0 (omega arith) (omega arith) (omega arith)

pub returns-then-c-lt1 : goal.returns-then-c-lt1
returns-then-c-lt1 c = short-3-zero c.args.s.now c.args.at c.wide-a.result (omega arith) c.wide-a.ensures.0 (omega arith) (omega arith) c.wide-b.result (omega arith) c.wide-b.ensures.0 (omega arith) (omega arith) c.wide-c.result (omega arith) c.wide-c.ensures.0 (omega arith) (omega arith)

pub returns-then-c-lt128 : goal.returns-then-c-lt128
returns-then-c-lt128 c = short-3 c.args.s.now c.args.at c.wide-a.result (omega arith) c.wide-a.ensures.0 (omega arith) (omega arith) c.wide-b.result (omega arith) c.wide-b.ensures.0 (omega arith) (omega arith) c.wide-c.result (omega arith) c.wide-c.ensures.0 (omega arith) (omega arith) (omega arith)

pub returns : goal.returns
returns c = short-4 c.args.s.now c.args.at c.wide-a.result (omega arith) c.wide-a.ensures.0 (omega arith) (omega arith) c.wide-b.result (omega arith) c.wide-b.ensures.0 (omega arith) (omega arith) c.wide-c.result (omega arith) c.wide-c.ensures.0 (omega arith) (omega arith)

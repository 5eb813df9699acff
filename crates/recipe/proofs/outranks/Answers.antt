-- `outranks` compares the sequences, and where they are equal the bytes.
use native.Mathlib.Omega.{arith}
use Rattle.recipe.proofs.Rank.{rank-more, rank_less, rank_same}
use Rattle.recipe.proofs.outranks.Goals as goal

pub returns-then-y-x : goal.returns-then-y-x
returns-then-y-x c = rank-more c.args.a.now c.args.b.now c.sequence-x.ensures c.sequence-y.ensures (omega arith)

pub returns-then-x-y : goal.returns-then-x-y
returns-then-x-y c = rank_less c.args.a.now c.args.b.now c.sequence-x.ensures c.sequence-y.ensures (omega arith)

pub returns : goal.returns
returns c = rank_same c.args.a.now c.args.b.now c.sequence-x.ensures c.sequence-y.ensures (omega arith) (omega arith) c.lower_bytes.ensures

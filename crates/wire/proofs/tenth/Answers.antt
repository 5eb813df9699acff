-- `tenth`: the tenth byte of a varint is 0 or 1.
use native.Mathlib.Omega.{arith}
use Rattle.wire.proofs.Varints.{tenth-none, tenth-one, tenth-big}
use borrow.Author.Rules.{rules}
use Rattle.wire.proofs.tenth.Goals as goal

pub returns-then-s-at : goal.returns-then-s-at
returns-then-s-at c = tenth-none _ _ _ (omega arith)

pub returns-then-b-lt2 : goal.returns-then-b-lt2
returns-then-b-lt2 c = tenth-one _ _ _ _ (search rules) (omega arith) c.wide-b.ensures.0 (omega arith)

pub returns : goal.returns
returns c = tenth-big _ _ _ _ (omega arith) c.wide-b.ensures.0 (omega arith)

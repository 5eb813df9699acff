-- `part_end`: a part ends within the string, or is past it.
use native.Mathlib.Omega.{arith}
use Rattle.wire.proofs.Reading.{end-in, end-past}
use borrow.Author.Rules.{rules}
use Rattle.wire.proofs.part_end.Goals as goal

pub returns-then-s-at : goal.returns-then-s-at
returns-then-s-at c = end-past _ _ _ (omega arith)

pub returns-then-n-s : goal.returns-then-n-s
returns-then-n-s c = end-in _ _ _ (omega arith)

pub returns : goal.returns
returns c = end-past _ _ _ (omega arith)

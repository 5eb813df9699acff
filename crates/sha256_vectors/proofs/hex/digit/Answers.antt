-- `digit` answers the value of a digit, or nothing: each range of bytes by its law.
use native.Mathlib.Omega.{arith}
use Rattle.sha256_vectors.proofs.Laws.{digit-below, digit-number, digit-between, digit-letter, digit-above}
use Rattle.sha256_vectors.proofs.hex.digit.Goals as goal

pub returns-in-48-to-57 : goal.returns-in-48-to-57
returns-in-48-to-57 c = (digit-number _ (omega arith) (omega arith), omega arith)

pub returns-in-97-to-102 : goal.returns-in-97-to-102
returns-in-97-to-102 c = (digit-letter _ (omega arith) (omega arith), omega arith)

pub returns-in_default : goal.returns-in_default
returns-in_default c = digit-below _ (omega arith)

pub returns-in_default-2 : goal.returns-in_default-2
returns-in_default-2 c = digit-between _ (omega arith) (omega arith)

pub returns-in_default-3 : goal.returns-in_default-3
returns-in_default-3 c = digit-above _ (omega arith)

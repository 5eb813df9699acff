use native.Mathlib.Omega.{arith}
use lib.ListN.{length-set}
use borrow.Author.Rules.{rules}
use Rattle.sha256_vectors.specs.Hex.{spelled}
use Rattle.sha256_vectors.proofs.Laws.{no, spelled-more, spelled-all}
use Rattle.sha256_vectors.proofs.hex.decode.Goals as goal

pub loop-i-init : goal.loop-i-init
unfolding spelled
loop-i-init c = search rules

pub returns-in_default-digit : goal.returns-in_default-digit
returns-in_default-digit c = λ e. no e

pub returns-in_default : goal.returns-in_default
returns-in_default c = λ e. no e

pub loop-i-preserved : goal.loop-i-preserved
loop-i-preserved c = (omega arith, simp length-set (omega arith), spelled-more _ _ _ _ _ (omega arith) c.loop-i.invariant.2 c.in-Some.ensures.0 c.in-Some-digit.ensures.0)

pub returns : goal.returns
returns c = λ e. spelled-all _ _ _ _ (omega arith) c.loop-i.invariant.2

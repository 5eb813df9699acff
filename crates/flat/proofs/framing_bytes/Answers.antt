-- `framing_bytes` goes by the framing's case. Assumes nothing.
use Rattle.flat.proofs.Writing.{shut-written, body-written}
use borrow.Author.Rules.{rules}
use Rattle.flat.proofs.framing_bytes.Goals as goal

pub returns-in-Shut : goal.returns-in-Shut
returns-in-Shut c = shut-written _ _ c.in-Shut.is c.eight.ensures

pub returns-in-Body : goal.returns-in-Body
returns-in-Body c = body-written _ _ _ _ c.in-Body.is c.eight-in-Body.ensures

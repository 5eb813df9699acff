-- `connections::own_fits` meets its contract. Assumes nothing.
use Rattle.connections.proofs.Forms.{own-none, own-some}
use borrow.Author.Rules.{rules}
use Rattle.connections.proofs.own_fits.Goals as goal

pub returns-then-n-eq0 : goal.returns-then-n-eq0
returns-then-n-eq0 c = own-none _ c.if-n-eq0.true

pub returns : goal.returns
returns c = own-some _ c.if-n-eq0.false

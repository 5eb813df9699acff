-- `peer::id_fits` meets its contract. Assumes nothing.
use Rattle.peer.proofs.Meaning.{fits-none, fits-some}
use Rattle.peer.proofs.id_fits.Goals as goal

pub returns-then-n-eq0 : goal.returns-then-n-eq0
returns-then-n-eq0 c = fits-none c.args.id.now c.if-n-eq0.true

pub returns : goal.returns
returns c = fits-some c.args.id.now c.if-n-eq0.false

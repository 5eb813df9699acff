-- `key_fits`: 1 to 128 bytes.
use Rattle.message.proofs.Keys.{key-none, key-some}
use Rattle.message.proofs.key_fits.Goals as goal

pub returns-then-key-eq0 : goal.returns-then-key-eq0
returns-then-key-eq0 c = key-none _ c.if-key-eq0.true

pub returns : goal.returns
returns c = key-some _ c.if-key-eq0.false

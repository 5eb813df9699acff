-- `put_last` writes number after number.
use Rattle.recipe_fields.proofs.Whole.{then-put}
use Rattle.recipe_fields.proofs.put_last.Goals as goal

pub returns : goal.returns
returns c = then-put c.put_little-a.ensures (then-put c.put_little-b.ensures (then-put c.put_little-c.ensures c.put_little.ensures))

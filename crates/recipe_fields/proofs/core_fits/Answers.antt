-- `core_fits` goes by the format.
use Rattle.recipe_fields.proofs.Judging.{fits-two, fits_not, fits-none}
use Rattle.recipe_fields.proofs.core_fits.Goals as goal

pub returns-then-format-eq-FORMAT_TWO : goal.returns-then-format-eq-FORMAT_TWO
returns-then-format-eq-FORMAT_TWO c = fits-two c.args.format c.args.turns c.args.trims c.if-format-eq-FORMAT_TWO.true

pub returns-then-turns-ne0 : goal.returns-then-turns-ne0
returns-then-turns-ne0 c = fits_not c.args.format c.args.turns c.args.trims c.if-format-eq-FORMAT_TWO.false c.if-turns-ne0.true

pub returns : goal.returns
returns c = fits-none c.args.format c.args.turns c.args.trims c.if-format-eq-FORMAT_TWO.false c.if-turns-ne0.false

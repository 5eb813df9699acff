-- `put_trailer`: format 2 has eight bytes more.
use Rattle.wire_put.proofs.Putting.{put_is}
use Rattle.recipe_fields.proofs.Whole.{then-put, trailer-two, trailer-one}
use Rattle.recipe_fields.proofs.put_trailer.Goals as goal

pub returns-then-format-eq-FORMAT_TWO : goal.returns-then-format-eq-FORMAT_TWO
returns-then-format-eq-FORMAT_TWO c = put_is _ _ _ _ _ _ (trailer-two c.args.format c.args.far c.args.cores c.args.near c.args.wraps c.args.sequence c.if-format-eq-FORMAT_TWO.true) (then-put c.put_second-next.ensures c.put_last.ensures)

pub returns : goal.returns
returns c = put_is _ _ _ _ _ _ (trailer-one c.args.format c.args.far c.args.cores c.args.near c.args.wraps c.args.sequence c.if-format-eq-FORMAT_TWO.false) c.put_last-2.ensures

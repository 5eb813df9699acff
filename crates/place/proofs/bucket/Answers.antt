-- `bucket` answers 256 where either is no place, and else counts the bits that both share.
use mathlib.Core.Path.{sym, ◌∙◌}
use Rattle.place.proofs.Buckets.{bucket-not-left, bucket-not-right, bucket-places}
use Rattle.place.proofs.bucket.Goals as goal

pub returns-then-p-ne32 : goal.returns-then-p-ne32
returns-then-p-ne32 c = sym (bucket-not-left c.args.p.now c.args.ours.now c.if-p-ne32.true)

pub returns-then-ours-ne32 : goal.returns-then-ours-ne32
returns-then-ours-ne32 c = sym (bucket-not-right c.args.p.now c.args.ours.now c.if-ours-ne32.true)

pub returns : goal.returns
returns c = c.shared_bits.ensures ∙ sym (bucket-places c.args.p.now c.args.ours.now c.if-p-ne32.false c.if-ours-ne32.false)

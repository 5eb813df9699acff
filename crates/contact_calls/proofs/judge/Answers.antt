-- `contact_calls::judge` meets its contract. Assumes nothing.
use mathlib.Core.Path.{sym, ◌∙◌}
use Rattle.contact_calls.proofs.Outcomes.{judge-short, judge-ours, judge-whole}
use Rattle.contact_calls.proofs.judge.Goals as goal

pub returns-then-not-id_fits : goal.returns-then-not-id_fits
returns-then-not-id_fits c = judge-short c.args.ours.now c.args.id.now (sym c.id_fits.ensures ∙ c.if-not-id_fits.true)

pub returns-then-same_bytes : goal.returns-then-same_bytes
returns-then-same_bytes c = judge-ours c.args.ours.now c.args.id.now _ (sym c.id_fits.ensures ∙ c.if-not-id_fits.false) c.place_of-place.ensures (sym c.same_bytes.ensures ∙ c.if-same_bytes.true)

pub returns : goal.returns
returns c = judge-whole c.args.ours.now c.args.id.now _ (sym c.id_fits.ensures ∙ c.if-not-id_fits.false) c.place_of-place.ensures (sym c.same_bytes.ensures ∙ c.if-same_bytes.false)

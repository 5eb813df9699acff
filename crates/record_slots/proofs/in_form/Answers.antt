-- `in_form` tests the slots one by one, then their keys.
use mathlib.Core.Path.{◌∙◌}
use Rattle.octets.proofs.Bools.{both-no, both_yes}
use Rattle.record_slots.proofs.Keyed.{form-same}
use borrow.Author.Rules.{rules}
use Rattle.std.proofs.Common.{ap}
use mathlib.Core.Bool.{not}
use Rattle.record_slots.proofs.in_form.Goals as goal

pub returns-then-not-all_sound : goal.returns-then-not-all_sound
returns-then-not-all_sound c = both-no _ _ _ c.all_sound.ensures (ap not c.if-not-all_sound.true) ∙ form-same c.args.store.now

pub returns : goal.returns
returns c = both_yes _ _ _ _ c.all_sound.ensures (ap not c.if-not-all_sound.false) c.keys_apart.ensures ∙ form-same c.args.store.now

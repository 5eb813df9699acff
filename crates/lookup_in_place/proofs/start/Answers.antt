-- `start`: each refusal, or begun and settled. Assumes nothing.
use mathlib.Core.Path.{refl}
use lib.ListN.{length}
use Rattle.limits.specs.Limits.{most_key}
use Rattle.message.specs.Kinds.{key_fits}
use Rattle.lookup.specs.Lookup.{limit_most, start_of}
use Rattle.lookup.specs.Value.{Step}
use Rattle.lookup.proofs.Starting.{range-most, start-form, start-key, start-own, start-limit, start-begun}
use Rattle.lookup_in_place.proofs.Starting.{start-short, start-refused, start-settled, begun-settles}
use borrow.Author.Rules.{rules}
use Rattle.std.proofs.Common.{ap}
use mathlib.Core.Bool.{not}
use Rattle.lookup_in_place.proofs.start.Goals as goal
use Rattle.lookup_in_place.proofs.start.Goals.{Start}

abbrev step : Start → Step
step c = start_of c.args.table.now c.args.own.now c.args.ours c.args.key.now c.args.limit

pub returns-then-m-lt-SIZE : goal.returns-then-m-lt-SIZE
returns-then-m-lt-SIZE c = start-short _ (step (goal.at.returns-then-m-lt-SIZE c).Start) _ c.if-m-lt-SIZE.true c.give.ensures

pub returns-then-not-in_form : goal.returns-then-not-in_form
returns-then-not-in_form c = start-refused c.args.m.now _ (step (goal.at.returns-then-not-in_form c).Start) _ _ c.if-m-lt-SIZE.false (start-form _ _ _ _ _ _ _ c.in_form.ensures (ap not c.if-not-in_form.true) refl) c.refuse.ensures

pub returns-then-not-key_fits : goal.returns-then-not-key_fits
returns-then-not-key_fits c = start-refused c.args.m.now _ (step (goal.at.returns-then-not-key_fits c).Start) _ _ c.if-m-lt-SIZE.false (start-key _ _ _ _ _ _ _ c.in_form.ensures (ap not c.if-not-in_form.false) _ c.key_fits.ensures (ap not c.if-not-key_fits.true) refl) c.refuse-then-not-key_fits.ensures

pub returns-then-not-id_fits : goal.returns-then-not-id_fits
returns-then-not-id_fits c = start-refused c.args.m.now _ (step (goal.at.returns-then-not-id_fits c).Start) _ _ c.if-m-lt-SIZE.false (start-own _ _ _ _ _ _ _ c.in_form.ensures (ap not c.if-not-in_form.false) _ c.key_fits.ensures (ap not c.if-not-key_fits.false) _ c.id_fits.ensures (ap not c.if-not-id_fits.true) refl) c.refuse-then-not-id_fits.ensures

pub returns-then-not-limit_fits : goal.returns-then-not-limit_fits
returns-then-not-limit_fits c = start-refused c.args.m.now _ (step (goal.at.returns-then-not-limit_fits c).Start) _ _ c.if-m-lt-SIZE.false (start-limit _ _ _ _ _ _ _ c.in_form.ensures (ap not c.if-not-in_form.false) _ c.key_fits.ensures (ap not c.if-not-key_fits.false) _ c.id_fits.ensures (ap not c.if-not-id_fits.false) _ c.limit_fits.ensures (ap not c.if-not-limit_fits.true) refl) c.refuse-then-not-limit_fits.ensures

pub begin-requires : goal.begin-requires
unfolding key_fits
begin-requires c = (c.if-m-lt-SIZE.false, range-most (length c.args.key.now) most_key _ c.key_fits.ensures (ap not c.if-not-key_fits.false), range-most c.args.limit limit_most _ c.limit_fits.ensures (ap not c.if-not-limit_fits.false))

pub settle-requires : goal.settle-requires
settle-requires c = begun-settles c.args.m.now _ c.args.table.now c.args.key.now c.args.limit c.if-m-lt-SIZE.false c.begin.ensures

pub returns : goal.returns
returns c = start-settled c.args.m.now _ c.args.table.now c.args.key.now c.args.limit (step (goal.at.returns c).Start) _ c.if-m-lt-SIZE.false (start-begun _ _ _ _ _ _ _ c.in_form.ensures (ap not c.if-not-in_form.false) _ c.key_fits.ensures (ap not c.if-not-key_fits.false) _ c.id_fits.ensures (ap not c.if-not-id_fits.false) _ c.limit_fits.ensures (ap not c.if-not-limit_fits.false) _ refl refl) c.begin.ensures c.settle.ensures

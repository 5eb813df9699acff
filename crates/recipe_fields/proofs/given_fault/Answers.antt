-- `given_fault` makes the tests of `given_fault` in their order.
use mathlib.Core.Path.{sym, ap, ◌∙◌}
use native.Mathlib.Omega.{arith}
use Rattle.std.proofs.lemmas.Result.{err_from_is_err_and}
use Rattle.std.specs.Prelude.{is_ok}
use Rattle.recipe.proofs.Faults.{handed-on}
use Rattle.recipe.specs.declared.Part.TheVariants.{Wrap, Core}
use Rattle.recipe_fields.proofs.Judging.{unknown, no_room, wrap-stops, core-stops, paired, long-note, too_long, none-broken}
use Rattle.recipe_fields.proofs.Sizes.{trailer-few}
use Rattle.recipe_fields.proofs.given_fault.Goals as goal

pub returns-then-not-is_known : goal.returns-then-not-is_known
returns-then-not-is_known c = c.broken.ensures ∙ unknown c.args.format c.args.note.now c.args.wrap_turns.now c.args.wrap_trims.now c.args.core_turns.now c.args.core_trims.now 0 (sym c.is_known.ensures ∙ c.if-not-is_known.true)

pub returns-then-not-core_fits : goal.returns-then-not-core_fits
returns-then-not-core_fits c = c.broken-then-not-core_fits.ensures ∙ no_room c.args.format c.args.note.now c.args.wrap_turns.now c.args.wrap_trims.now c.args.core_turns.now c.args.core_trims.now 0 (sym c.is_known.ensures ∙ c.if-not-is_known.false) (sym c.core_fits.ensures ∙ c.if-not-core_fits.true)

pub returns-in_err-pairs_fault : goal.returns-in_err-pairs_fault
returns-in_err-pairs_fault c =
    let e = err_from_is_err_and c.from_residual.result c.from_residual.ensures.1 in
    handed-on e.1 e.2 c.in_err-pairs_fault.was ∙ wrap-stops c.args.format c.args.note.now c.args.wrap_turns.now c.args.wrap_trims.now c.args.core_turns.now c.args.core_trims.now 0 (sym c.is_known.ensures ∙ c.if-not-is_known.false) (sym c.core_fits.ensures ∙ c.if-not-core_fits.false) c.pairs_fault.ensures c.in_err-pairs_fault.was

pub returns-in_err-pairs_fault-2 : goal.returns-in_err-pairs_fault-2
returns-in_err-pairs_fault-2 c =
    let e = err_from_is_err_and c.from_residual-in_err-pairs_fault-2.result c.from_residual-in_err-pairs_fault-2.ensures.1 in
    handed-on e.1 e.2 c.in_err-pairs_fault-2.was ∙ core-stops c.args.format c.args.note.now c.args.wrap_turns.now c.args.wrap_trims.now c.args.core_turns.now c.args.core_trims.now 0 (sym c.is_known.ensures ∙ c.if-not-is_known.false) (sym c.core_fits.ensures ∙ c.if-not-core_fits.false) c.pairs_fault.ensures c.in_ok-pairs_fault.was c.pairs_fault-2.ensures c.in_err-pairs_fault-2.was

pub list_len-requires : goal.list_len-requires
list_len-requires c = let p = paired Wrap c.args.wrap_turns.now c.args.wrap_trims.now c.pairs_fault.ensures (ap is_ok c.in_ok-pairs_fault.was) in (p.even, p.few)

pub list_len-requires-2 : goal.list_len-requires-2
list_len-requires-2 c = let p = paired Core c.args.core_turns.now c.args.core_trims.now c.pairs_fault-2.ensures (ap is_ok c.in_ok-pairs_fault-2.was) in (p.even, p.few)

pub returns-then-note-gt-MOST_VALUE : goal.returns-then-note-gt-MOST_VALUE
returns-then-note-gt-MOST_VALUE c = c.broken-then-note-gt-MOST_VALUE.ensures ∙ long-note c.args.format c.args.note.now c.args.wrap_turns.now c.args.wrap_trims.now c.args.core_turns.now c.args.core_trims.now 0 (sym c.is_known.ensures ∙ c.if-not-is_known.false) (sym c.core_fits.ensures ∙ c.if-not-core_fits.false) c.pairs_fault.ensures c.in_ok-pairs_fault.was c.pairs_fault-2.ensures c.in_ok-pairs_fault-2.was c.if-note-gt-MOST_VALUE.true

pub overflow_add-note : goal.overflow_add-note
overflow_add-note c = record { fits = omega (arith, trailer-few c.args.format c.trailer_of.ensures) }

pub overflow_add-note-2 : goal.overflow_add-note-2
overflow_add-note-2 c = record { fits = omega (arith, trailer-few c.args.format c.trailer_of.ensures, c.list_len.ensures.1, c.list_len-2.ensures.1) }

pub returns-then-note-trailer_of-gt-MOST_VALUE : goal.returns-then-note-trailer_of-gt-MOST_VALUE
returns-then-note-trailer_of-gt-MOST_VALUE c = c.broken-then-note-trailer_of-gt-MOST_VALUE.ensures ∙ too_long c.args.format c.args.note.now c.args.wrap_turns.now c.args.wrap_trims.now c.args.core_turns.now c.args.core_trims.now 0 (sym c.is_known.ensures ∙ c.if-not-is_known.false) (sym c.core_fits.ensures ∙ c.if-not-core_fits.false) c.pairs_fault.ensures c.in_ok-pairs_fault.was c.pairs_fault-2.ensures c.in_ok-pairs_fault-2.was c.list_len.ensures.0 c.list_len-2.ensures.0 c.trailer_of.ensures (omega (arith, c.if-note-trailer_of-gt-MOST_VALUE.true))

pub returns : goal.returns
returns c = none-broken c.args.format c.args.note.now c.args.wrap_turns.now c.args.wrap_trims.now c.args.core_turns.now c.args.core_trims.now 0 (sym c.is_known.ensures ∙ c.if-not-is_known.false) (sym c.core_fits.ensures ∙ c.if-not-core_fits.false) c.pairs_fault.ensures c.in_ok-pairs_fault.was c.pairs_fault-2.ensures c.in_ok-pairs_fault-2.was c.list_len.ensures.0 c.list_len-2.ensures.0 c.trailer_of.ensures c.if-note-trailer_of-gt-MOST_VALUE.false

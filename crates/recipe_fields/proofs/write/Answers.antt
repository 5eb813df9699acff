-- `write` writes the parts of fields that break no rule, one after another.
use native.Mathlib.Omega.{arith}
use Rattle.std.proofs.lemmas.Result.{err_from_is_err_and}
use Rattle.recipe_fields.proofs.Sizes.{trailer-few}
use Rattle.recipe_fields.proofs.Whole.{refused, facts, all-few, all-written}
use Rattle.recipe_fields.proofs.write.Goals as goal

pub returns-in_err-given_fault : goal.returns-in_err-given_fault
returns-in_err-given_fault c =
    let e = err_from_is_err_and c.from_residual.result c.from_residual.ensures.1 in
    refused c.args.format c.args.note.now c.args.wrap_turns.now c.args.wrap_trims.now c.args.core_turns.now c.args.core_trims.now c.args.sequence c.given_fault.ensures c.args.buf.now e.1 e.2 c.in_err-given_fault.was

pub list_len-requires : goal.list_len-requires
list_len-requires c = let m = facts c.args.format c.args.note.now c.args.wrap_turns.now c.args.wrap_trims.now c.args.core_turns.now c.args.core_trims.now c.args.sequence c.given_fault.ensures c.in_ok-given_fault.was in (m.wrap.even, m.wrap.few)

pub overflow_add-near : goal.overflow_add-near
overflow_add-near c = record { fits = omega (arith, trailer-few c.args.format c.trailer_of.ensures, c.list_len.ensures.1) }

pub list_len-requires-2 : goal.list_len-requires-2
list_len-requires-2 c = let m = facts c.args.format c.args.note.now c.args.wrap_turns.now c.args.wrap_trims.now c.args.core_turns.now c.args.core_trims.now c.args.sequence c.given_fault.ensures c.in_ok-given_fault.was in (m.core.even, m.core.few)

pub overflow_add-far : goal.overflow_add-far
overflow_add-far c = record { fits = omega (arith, trailer-few c.args.format c.trailer_of.ensures, c.list_len.ensures.1, c.list_len-2.ensures.1) }

pub put_list-b-requires : goal.put_list-b-requires
put_list-b-requires c = let m = facts c.args.format c.args.note.now c.args.wrap_turns.now c.args.wrap_trims.now c.args.core_turns.now c.args.core_trims.now c.args.sequence c.given_fault.ensures c.in_ok-given_fault.was in omega (arith, m.wrap.even, m.core.even)

pub put_list-c-requires : goal.put_list-c-requires
put_list-c-requires c = let m = facts c.args.format c.args.note.now c.args.wrap_turns.now c.args.wrap_trims.now c.args.core_turns.now c.args.core_trims.now c.args.sequence c.given_fault.ensures c.in_ok-given_fault.was in omega (arith, m.wrap.even, m.core.even)

pub overflow_add-result : goal.overflow_add-result
overflow_add-result c = record { fits = omega (arith, all-few c.args.format c.args.note.now c.args.wrap_turns.now c.args.wrap_trims.now c.args.core_turns.now c.args.core_trims.now c.args.sequence c.given_fault.ensures c.in_ok-given_fault.was c.trailer_of.ensures c.list_len.ensures.0 c.list_len-2.ensures.0) }

pub returns : goal.returns
returns c = all-written c.args.format c.args.note.now c.args.wrap_turns.now c.args.wrap_trims.now c.args.core_turns.now c.args.core_trims.now c.args.sequence c.given_fault.ensures c.in_ok-given_fault.was c.trailer_of.ensures c.list_len.ensures.0 c.list_len-2.ensures.0 c.put_raw-a.ensures c.put_list-b.ensures c.put_list-c.ensures c.put_trailer.ensures

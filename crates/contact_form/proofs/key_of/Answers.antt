-- `key_of` has an entry for a slot that is fine by itself.
use mathlib.Core.Path.{sym, ◌∙◌}
use native.Mathlib.Omega.{arith}
use borrow.Author.Tests.{not-true, not-false}
use Rattle.contact_form.proofs.Index.{key-bad, key-far, key-ok}
use borrow.Author.Rules.{rules}
use Rattle.contact_form.proofs.key_of.Goals as goal

pub returns-then-not-fields_fit : goal.returns-then-not-fields_fit
returns-then-not-fields_fit c = key-bad c.args.s.now c.args.ours.now (sym c.fields_fit.ensures ∙ c.if-not-fields_fit.true)

pub returns-then-b-ge-BUCKETS : goal.returns-then-b-ge-BUCKETS
returns-then-b-ge-BUCKETS c = key-far c.args.s.now c.args.ours.now c.bucket-b.ensures c.if-b-ge-BUCKETS.true

pub overflow_cast-mark : goal.overflow_cast-mark
overflow_cast-mark c = omega (arith, c.type_inv.s 0)

pub overflow_add-result : goal.overflow_add-result
overflow_add-result c = omega (arith, c.type_inv.s 0)

pub returns : goal.returns
returns c = key-ok c.args.s.now c.args.ours.now (sym c.fields_fit.ensures ∙ c.if-not-fields_fit.false) c.bucket-b.ensures c.if-b-ge-BUCKETS.false

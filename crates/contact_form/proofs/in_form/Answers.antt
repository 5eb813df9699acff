-- `in_form` makes the index, and tests its entries.
use mathlib.Core.Path.{refl, sym, ◌∙◌}
use borrow.Author.Tests.{not-true, not-false}
use Rattle.contact_form.proofs.Index.{index-all, entries-le, form-is}
use Rattle.octets.proofs.Lists.{zeros}
use borrow.Author.Rules.{rules}
use Rattle.contact_form.proofs.in_form.Goals as goal

pub collect-requires : goal.collect-requires
collect-requires c = (c.slots-n.ensures, refl, (λ k. zeros 5120 k))

pub returns-then-not-collect : goal.returns-then-not-collect
returns-then-not-collect c = sym (c.collect.ensures.broken c.if-not-collect.true)

pub entries_fit-requires : goal.entries_fit-requires
entries_fit-requires c = let ix = c.collect.ensures.held c.if-not-collect.false in
    (ix.long, entries-le c.args.table.now c.args.ours.now c.collect.new.at (index-all c.args.table.now c.args.ours.now c.collect.new.at c.slots-n.ensures ix))

pub returns : goal.returns
returns c = c.entries_fit.ensures ∙ form-is c.args.table.now c.args.ours.now c.collect.new.at
    (index-all c.args.table.now c.args.ours.now c.collect.new.at c.slots-n.ensures (c.collect.ensures.held c.if-not-collect.false))

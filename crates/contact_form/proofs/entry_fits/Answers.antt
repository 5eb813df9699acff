-- `entry_fits` looks at the entry before, and at the places of the bucket's earlier ones.
use Prim.Native.Nat.{◌-◌}
use lib.ListN.{get_or}
use native.Mathlib.Omega.{arith}
use Rattle.contact_table.proofs.Cuts.{slots-most, slot_whole}
use Rattle.contact_form.proofs.Index.{entry-none, entry_first, entry-gap, entry-alone}
use borrow.Author.Rules.{rules}
use Rattle.contact_form.proofs.entry_fits.Goals as goal

pub returns-then-e-lt1 : goal.returns-then-e-lt1
returns-then-e-lt1 c = entry-none c.args.table.now c.args.at.now c.args.k c.if-e-lt1.true

pub returns-then-m-eq0 : goal.returns-then-m-eq0
returns-then-m-eq0 c = entry_first c.args.table.now c.args.at.now c.args.k c.if-e-lt1.false c.if-m-eq0.true

pub returns-then-at-k-eq0 : goal.returns-then-at-k-eq0
returns-then-at-k-eq0 c = entry-gap c.args.table.now c.args.at.now c.args.k c.if-e-lt1.false c.if-m-eq0.false c.if-at-k-eq0.true

pub overflow_cast-i : goal.overflow_cast-i
overflow_cast-i c = omega (arith, c.requires.2 c.args.k, slots-most c.args.table.now)

pub place_at-requires : goal.place_at-requires
place_at-requires c = slot_whole c.args.table.now (get_or c.args.at.now c.args.k 0 - 1) (omega (arith, c.requires.2 c.args.k, c.if-e-lt1.false))

pub alone-requires : goal.alone-requires
alone-requires c = (c.place_at.ensures.1, omega arith, omega arith, c.requires.2)

pub returns : goal.returns
returns c = entry-alone c.args.table.now c.args.at.now c.args.k c.if-e-lt1.false c.if-m-eq0.false c.if-at-k-eq0.false c.place_at.ensures.0 c.alone.ensures

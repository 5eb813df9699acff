-- `other_place` compares two places; an empty entry has none.
use Prim.Native.Nat.{◌-◌}
use native.Mathlib.Omega.{arith}
use Rattle.contact_table.proofs.Cuts.{slot_whole}
use Rattle.contact_form.proofs.Index.{other_none, other-said}
use borrow.Author.Rules.{rules}
use Rattle.contact_form.proofs.other_place.Goals as goal

pub returns-then-e-lt1 : goal.returns-then-e-lt1
returns-then-e-lt1 c = other_none c.args.table.now c.args.mine.now c.args.e c.if-e-lt1.true

pub place_at-requires : goal.place_at-requires
place_at-requires c = slot_whole c.args.table.now (c.args.e - 1) (omega arith)

pub same_place-requires : goal.same_place-requires
same_place-requires c = (c.requires.0, c.place_at.ensures.1, c.requires.1)

pub returns : goal.returns
returns c = other-said c.args.table.now c.args.mine.now c.args.e c.if-e-lt1.false c.same_place.ensures c.place_at.ensures.0

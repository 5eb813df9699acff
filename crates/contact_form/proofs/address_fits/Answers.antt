-- `address_fits` tests both bounds.
use native.Mathlib.Omega.{arith}
use Prim.Native.Nat.{◌+◌}
use borrow.Author.Tests.{le-leb, lt-leb}
use Rattle.contact_table.specs.Table.{address_size}
use Rattle.contact_form.specs.Form.{address_fits}
use borrow.Author.Rules.{rules}
use Rattle.contact_form.proofs.address_fits.Goals as goal

pub overflow_cast-n : goal.overflow_cast-n
overflow_cast-n c = omega (arith, c.type_inv.s (4 + c.args.k))

pub returns-then-n-lt1 : goal.returns-then-n-lt1
unfolding address_fits address_size
returns-then-n-lt1 c = simp (lt-leb _ _ c.if-n-lt1.true)

pub returns : goal.returns
unfolding address_fits address_size
returns c = simp (le-leb _ _ c.if-n-lt1.false)

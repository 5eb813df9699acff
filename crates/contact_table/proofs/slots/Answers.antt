-- `slots` divides the length, and caps it.
use Rattle.contact_table.specs.Table.{slots_of}
use native.Mathlib.Omega.{arith}
use Rattle.contact_table.proofs.slots.Goals as goal

pub returns-then-n-lt-MOST_CONTACTS : goal.returns-then-n-lt-MOST_CONTACTS
unfolding slots_of
returns-then-n-lt-MOST_CONTACTS c = omega arith

pub returns : goal.returns
unfolding slots_of
returns c = omega arith

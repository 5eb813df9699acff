-- `address_of` cuts an address at its length, or at 128; there is no fifth.
use mathlib.Core.Path.{◌∙◌, ap, refl, sym, subst}
use Prim.Native.Nat.{ℕ, ◌+◌, ◌*◌, ◌≤◌}
use mathlib.Core.List.{List}
use lib.ListN.{length}
use native.Mathlib.Omega.{arith}
use Rattle.contact_table.specs.Table.{slot_size, address_size}
use Rattle.contact_table.specs.Contact.{entry_address}
use Rattle.contact_table.proofs.Cuts.{entry-address, entry-no-address, slot-most}
use Rattle.octets.proofs.Parts.{cut-end}
use borrow.Author.Rules.{rules}
use Rattle.contact_table.proofs.address_of.Goals as goal

pub returns-then-k-ge-MOST_ADDRESSES : goal.returns-then-k-ge-MOST_ADDRESSES
returns-then-k-ge-MOST_ADDRESSES c = cut-end c.slot_of-s.result.now (length c.slot_of-s.result.now) ∙ entry-no-address c.slot_of-s.result.now c.args.k (length c.slot_of-s.result.now) (subst (λ (s : List ℕ). length s ≤ slot_size) (sym c.slot_of-s.ensures) (slot-most c.args.table.now c.args.i)) c.if-k-ge-MOST_ADDRESSES.true (omega arith) ∙ ap (λ (s : List ℕ). entry_address s c.args.k) c.slot_of-s.ensures

pub returns : goal.returns
unfolding address_size
returns c = c.up_to.ensures ∙ entry-address c.slot_of-s.result.now c.args.k (104 + c.args.k * 128) c.at_most.result refl (omega arith) ∙ ap (λ (s : List ℕ). entry_address s c.args.k) c.slot_of-s.ensures

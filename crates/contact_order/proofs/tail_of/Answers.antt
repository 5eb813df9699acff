use native.Mathlib.Omega.{arith}
use mathlib.Core.Path.{◌≡◌, sym, ap, ◌∙◌}
use Prim.Native.Nat.{ℕ, ◌-◌, ◌≤◌, max}
use Rattle.octets.specs.Search.{largest}
use Rattle.octets.proofs.Searching.{largest-zero, largest-more}
use Rattle.contacts.specs.Table.{slot}
use Rattle.contact_order.specs.Order.{mark_in, tail_of}
use Rattle.contact_order.proofs.tail_of.Goals as goal

pub loop-i-init : goal.loop-i-init
loop-i-init c = (omega arith, sym (largest-zero (λ (j : ℕ). mark_in c.args.ours.now c.args.b (slot c.args.table.now j))))

pub higher-top-requires : goal.higher-top-requires
higher-top-requires c = (omega (arith, c.slots-n.ensures), c.sieve_of-sieve.ensures)

pub loop-i-preserved : goal.loop-i-preserved
loop-i-preserved c = (omega arith, c.higher-top.ensures ∙ ap (λ (x : ℕ). max x (mark_in c.args.ours.now c.args.b (slot c.args.table.now c.loop-i.i))) c.loop-i.invariant.1 ∙ sym (largest-more (λ (j : ℕ). mark_in c.args.ours.now c.args.b (slot c.args.table.now j)) c.loop-i.i))

pub returns : goal.returns
unfolding tail_of
returns c = let e : c.loop-i.i ≡ c.slots-n.result = omega arith in c.loop-i.invariant.1 ∙ ap (λ (k : ℕ). largest k (λ (j : ℕ). mark_in c.args.ours.now c.args.b (slot c.args.table.now j))) (e ∙ c.slots-n.ensures)

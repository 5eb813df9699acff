use borrow.Author.Rules.{rules}
use native.Mathlib.Omega.{arith}
use Prim.Native.Nat.{◌+◌, ◌-◌, ◌≤◌}
use mathlib.Core.Path.{◌≡◌, refl, sym, ap, ◌∙◌}
use mathlib.Core.Logic.{⊎_elim}
use lib.ListN.{length}
use Rattle.contacts.specs.Table.{slots_of}
use Rattle.contacts.specs.Near.{sort_onto, shown_below, sorted, filled}
use Rattle.contacts.specs.Inner.{kept}
use Rattle.contact_table.proofs.Cuts.{slots-most, slot_whole}
use Rattle.contacts.proofs.Sorting.{kept-hidden, nearest-kept, nearest-as}
use Rattle.contacts.proofs.pass.Goals as goal
use Rattle.contacts.proofs.pass.Goals.{Joined-shown_at, then-shown_at, else-shown_at}

pub loop-k-init : goal.loop-k-init
unfolding kept sorted shown_below sort_onto filled
loop-k-init c = (search rules, refl, refl)

pub shown_at-requires : goal.shown_at-requires
shown_at-requires c = slot_whole c.args.table.now c.loop-k.k (omega (arith, c.slots-end.ensures))

pub keep-n-requires : goal.keep-n-requires
keep-n-requires c = record {
  long = c.requires;
  whole = slot_whole c.args.table.now c.loop-k.k (omega (arith, c.slots-end.ensures));
  taken = sym c.shown_at.ensures ∙ c.if-shown_at.true;
  count = c.loop-k.invariant.1;
  list = c.loop-k.invariant.2;
}

turn : (c : Joined-shown_at)
    → (c.if-shown_at.n ≡ length (kept c.args.table.now c.args.target.now (c.loop-k.k + 1)))
    × (c.if-shown_at.at ≡ filled (kept c.args.table.now c.args.target.now (c.loop-k.k + 1)))
turn c =
    elim c.if-shown_at.branch [
      | then-shown_at w ↦ (w.n-is ∙ w.keep-n.ensures.0, w.at-is ∙ w.keep-n.ensures.1)
      | else-shown_at w ↦
          let e = kept-hidden c.args.table.now c.args.target.now c.loop-k.k (sym c.shown_at.ensures ∙ w.if-shown_at.false) in
          (w.n-is ∙ c.loop-k.invariant.1 ∙ ap length (sym e), w.at-is ∙ c.loop-k.invariant.2 ∙ ap filled (sym e))
    ]

pub loop-k-preserved : goal.loop-k-preserved
loop-k-preserved c = (search rules, (turn c).0, (turn c).1)

pub returns : goal.returns
returns c = let e : c.loop-k.k ≡ slots_of c.args.table.now = omega (arith, c.slots-end.ensures) in
    nearest-as c.args.table.now c.args.target.now (kept c.args.table.now c.args.target.now c.loop-k.k) c.loop-k.at c.loop-k.n
    (nearest-kept c.args.table.now c.args.target.now c.requires ∙ ap (kept c.args.table.now c.args.target.now) (sym e)) c.loop-k.invariant.2 c.loop-k.invariant.1

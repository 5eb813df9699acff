-- `closer` goes by the first byte, and else by the places.
use mathlib.Core.Path.{◌∙◌}
use native.Mathlib.Omega.{arith}
use Rattle.place.proofs.Distance.{nearer-is, byte-nearer, byte-farther, lead-none}
use Rattle.contacts.proofs.Pairs.{far-pair}
use borrow.Author.Rules.{rules}
use Rattle.contacts.proofs.closer.Goals as goal

pub bounds-p-0 : goal.bounds-p-0
bounds-p-0 c = omega (arith, c.place_at-p.ensures.1)

pub bounds-q-0 : goal.bounds-q-0
bounds-q-0 c = omega (arith, c.place_at-q.ensures.1)

pub returns-then-x-y : goal.returns-then-x-y
returns-then-x-y c = byte-nearer c.args.target.now c.place_at-p.result.now c.place_at-q.result.now 0 c.requires.0 c.place_at-p.ensures.1 c.place_at-q.ensures.1 (λ k. (c.type_inv.target k).fits) (λ k. (c.shared_slice_known-4-1.given k).fits) (λ k. (c.shared_slice_known-5-1.given k).fits) (omega arith) (lead-none c.place_at-p.result.now c.place_at-q.result.now c.args.target.now) c.if-x-y.true ∙ far-pair c.args.table.now c.args.target.now c.args.a c.args.b c.place_at-p.ensures.0 c.place_at-q.ensures.0

pub returns-then-y-x : goal.returns-then-y-x
returns-then-y-x c = byte-farther c.args.target.now c.place_at-p.result.now c.place_at-q.result.now 0 c.requires.0 c.place_at-p.ensures.1 c.place_at-q.ensures.1 (λ k. (c.type_inv.target k).fits) (λ k. (c.shared_slice_known-4-1.given k).fits) (λ k. (c.shared_slice_known-5-1.given k).fits) (omega arith) (lead-none c.place_at-p.result.now c.place_at-q.result.now c.args.target.now) c.if-y-x.true ∙ far-pair c.args.table.now c.args.target.now c.args.a c.args.b c.place_at-p.ensures.0 c.place_at-q.ensures.0

pub returns : goal.returns
returns c = c.nearer.ensures ∙ nearer-is c.args.target.now c.place_at-p.result.now c.place_at-q.result.now c.requires.0 c.place_at-p.ensures.1 c.place_at-q.ensures.1 ∙ far-pair c.args.table.now c.args.target.now c.args.a c.args.b c.place_at-p.ensures.0 c.place_at-q.ensures.0

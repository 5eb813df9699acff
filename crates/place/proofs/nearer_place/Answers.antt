use native.Mathlib.Omega.{arith}
use Rattle.place.proofs.Distance.{lead-none, word-decides, word_same, never-nearer}
use Rattle.place.proofs.nearer_place.Goals as goal

pub loop-i-init : goal.loop-i-init
loop-i-init c = (omega arith, omega arith, lead-none c.args.a.now c.args.b.now c.args.target.now)

pub returns-then-x-y : goal.returns-then-x-y
returns-then-x-y c = word-decides c.args.target.now c.args.a.now c.args.b.now c.loop-i.i c.requires.0 c.requires.1 c.requires.2 (λ k. (c.type_inv.target k).fits) (λ k. (c.type_inv.a k).fits) (λ k. (c.type_inv.b k).fits) (omega arith) c.loop-i.invariant.2 c.word-t.ensures c.word.ensures c.word-in-loop-i.ensures c.if-x-y.true

pub loop-i-preserved : goal.loop-i-preserved
loop-i-preserved c = (omega arith, omega arith, word_same c.args.target.now c.args.a.now c.args.b.now c.loop-i.i c.requires.0 c.requires.1 c.requires.2 (λ k. (c.type_inv.target k).fits) (λ k. (c.type_inv.a k).fits) (λ k. (c.type_inv.b k).fits) (omega arith) c.loop-i.invariant.2 c.word-t.ensures c.word.ensures c.word-in-loop-i.ensures c.if-x-y.false)

pub returns : goal.returns
returns c = never-nearer c.args.target.now c.args.a.now c.args.b.now c.loop-i.i c.requires.0 c.requires.1 c.requires.2 (omega arith) c.loop-i.invariant.2

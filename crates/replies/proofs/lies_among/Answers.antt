use Prim.Native.Nat.{◌-◌}
use native.Mathlib.Omega.{arith}
use Rattle.replies.proofs.Runs.{Searching, search-none, search-on, search-hit, search-miss}
use borrow.Author.Rules.{rules}
use Rattle.replies.proofs.lies_among.Goals as goal

pub loop-k-init : goal.loop-k-init
loop-k-init c = search-none _ _ _ _

pub offset_bounds-near-k : goal.offset_bounds-near-k
offset_bounds-near-k c = omega (arith, c.loop-k-test.true, c.requires)

pub bounds-near-k : goal.bounds-near-k
bounds-near-k c = omega (arith, c.loop-k-test.true, c.requires)

pub returns-then-same_bytes : goal.returns-then-same_bytes
returns-then-same_bytes c = search-hit _ _ _ _ _ _ _ c.loop-k-test.true c.place_of.ensures c.same_bytes.ensures c.if-same_bytes.true

pub loop-k-smaller : goal.loop-k-smaller
loop-k-smaller c = omega (arith, c.loop-k-test.true)

pub loop-k-preserved : goal.loop-k-preserved
loop-k-preserved c = search-on _ _ _ _ _ _ _ c.loop-k.invariant c.loop-k-test.true c.place_of.ensures c.same_bytes.ensures c.if-same_bytes.false

pub returns : goal.returns
returns c = search-miss _ _ _ _ _ c.loop-k.invariant c.loop-k-test.false

use Prim.Native.Nat.{◌-◌}
use mathlib.Core.Path.{◌∙◌}
use lib.ListN.{length}
use native.Mathlib.Omega.{arith}
use borrow.Author.Rules.{rules}
use Rattle.peer_walk.proofs.Walking.{Walking, walking, bytes-nearer, bytes_counted, walk-id, walk_first, walk_more, walk-bytes, number-nearer, walk-connection, walk-number, other-nearer, walk-other, walk_end, walk-bad}
use Rattle.peer_walk.proofs.walk_fields.Goals as goal

pub loop-number-init : goal.loop-number-init
loop-number-init c = walking _ _

pub loop-number-smaller-then-number-eq-ID : goal.loop-number-smaller-then-number-eq-ID
loop-number-smaller-then-number-eq-ID c = bytes-nearer _ _ _ _ _ _ _ c.loop-number.invariant _ c.read_field.ensures _ _ c.in-Bytes.is

pub loop-number-preserved-then-number-eq-ID : goal.loop-number-preserved-then-number-eq-ID
loop-number-preserved-then-number-eq-ID c = walk-id _ _ _ _ _ _ _ c.loop-number.invariant _ c.read_field.ensures _ _ c.in-Bytes.is c.if-number-eq-ID.true

pub overflow_add-count : goal.overflow_add-count
overflow_add-count c = omega (arith, bytes_counted _ _ _ _ _ _ _ c.loop-number.invariant _ c.read_field.ensures _ _ c.in-Bytes.is)

pub loop-number-smaller-then-k-lt-FIRST : goal.loop-number-smaller-then-k-lt-FIRST
loop-number-smaller-then-k-lt-FIRST c = bytes-nearer _ _ _ _ _ _ _ c.loop-number.invariant _ c.read_field.ensures _ _ c.in-Bytes.is

pub loop-number-preserved-then-k-lt-FIRST : goal.loop-number-preserved-then-k-lt-FIRST
loop-number-preserved-then-k-lt-FIRST c = walk_first _ _ _ _ _ _ _ c.loop-number.invariant _ c.read_field.ensures _ _ c.in-Bytes.is c.if-number-eq-ADDRESS.true (omega (arith, c.if-k-lt-FIRST.true))

pub loop-number-smaller-else-k-lt-FIRST : goal.loop-number-smaller-else-k-lt-FIRST
loop-number-smaller-else-k-lt-FIRST c = bytes-nearer _ _ _ _ _ _ _ c.loop-number.invariant _ c.read_field.ensures _ _ c.in-Bytes.is

pub loop-number-preserved-else-k-lt-FIRST : goal.loop-number-preserved-else-k-lt-FIRST
loop-number-preserved-else-k-lt-FIRST c = walk_more _ _ _ _ _ _ _ c.loop-number.invariant _ c.read_field.ensures _ _ c.in-Bytes.is c.if-number-eq-ADDRESS.true (omega (arith, c.if-k-lt-FIRST.false))

pub loop-number-smaller-else-number-eq-ADDRESS : goal.loop-number-smaller-else-number-eq-ADDRESS
loop-number-smaller-else-number-eq-ADDRESS c = bytes-nearer _ _ _ _ _ _ _ c.loop-number.invariant _ c.read_field.ensures _ _ c.in-Bytes.is

pub loop-number-preserved-else-number-eq-ADDRESS : goal.loop-number-preserved-else-number-eq-ADDRESS
loop-number-preserved-else-number-eq-ADDRESS c = walk-bytes _ _ _ _ _ _ _ c.loop-number.invariant _ c.read_field.ensures _ _ c.in-Bytes.is c.if-number-eq-ID.false c.if-number-eq-ADDRESS.false

pub loop-number-smaller-then-number-eq-CONNECTION : goal.loop-number-smaller-then-number-eq-CONNECTION
loop-number-smaller-then-number-eq-CONNECTION c = number-nearer _ _ _ _ _ _ _ c.loop-number.invariant _ c.read_field.ensures _ _ _ c.in-Number.is

pub loop-number-preserved-then-number-eq-CONNECTION : goal.loop-number-preserved-then-number-eq-CONNECTION
loop-number-preserved-then-number-eq-CONNECTION c = walk-connection _ _ _ _ _ _ _ c.loop-number.invariant _ c.read_field.ensures _ _ _ c.in-Number.is c.if-number-eq-CONNECTION.true

pub loop-number-smaller-else-number-eq-CONNECTION : goal.loop-number-smaller-else-number-eq-CONNECTION
loop-number-smaller-else-number-eq-CONNECTION c = number-nearer _ _ _ _ _ _ _ c.loop-number.invariant _ c.read_field.ensures _ _ _ c.in-Number.is

pub loop-number-preserved-else-number-eq-CONNECTION : goal.loop-number-preserved-else-number-eq-CONNECTION
loop-number-preserved-else-number-eq-CONNECTION c = walk-number _ _ _ _ _ _ _ c.loop-number.invariant _ c.read_field.ensures _ _ _ c.in-Number.is c.if-number-eq-CONNECTION.false

pub loop-number-smaller : goal.loop-number-smaller
loop-number-smaller c = other-nearer _ _ _ _ _ _ _ c.loop-number.invariant _ c.read_field.ensures _ c.in-Other.is

pub loop-number-preserved : goal.loop-number-preserved
loop-number-preserved c = walk-other _ _ _ _ _ _ _ c.loop-number.invariant _ c.read_field.ensures _ c.in-Other.is

pub returns-in-End : goal.returns-in-End
returns-in-End c = c.found.ensures ∙ walk_end _ _ _ _ _ _ _ c.loop-number.invariant _ c.read_field.ensures c.in-End.is

pub returns-in-Bad : goal.returns-in-Bad
returns-in-Bad c = c.found-in-Bad.ensures ∙ walk-bad _ _ _ _ _ _ _ c.loop-number.invariant _ c.read_field.ensures c.in-Bad.is

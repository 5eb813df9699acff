use Prim.Native.Nat.{◌-◌}
use lib.ListN.{length}
use native.Mathlib.Omega.{arith}
use borrow.Author.Rules.{rules}
use Rattle.stream_c.proofs.Loop.{Going, going, goes_on, took-within, at_most_one, all_read, stopped}
use Rattle.stream_c.proofs.starterbell_stream_count.Goals as goal

pub loop-at-init : goal.loop-at-init
loop-at-init c = going _ _ _ c.open-framing.ensures

pub returns-then-r-eq0 : goal.returns-then-r-eq0
returns-then-r-eq0 c = stopped _ _ _ _ _ _ _ _ _ c.loop-at.invariant c.piece_end-end.ensures.0 c.piece_end-end.ensures.1 c.receive-r.ensures c.if-r-eq0.true

pub overflow_add-at : goal.overflow_add-at
overflow_add-at c = omega (arith, took-within _ _ _ _ _ _ _ _ _ c.loop-at.invariant c.piece_end-end.ensures.0 c.piece_end-end.ensures.1 c.receive-r.ensures)

pub overflow_add-count : goal.overflow_add-count
overflow_add-count c = omega (arith, at_most_one c.receive-r.result.answer, c.messages-count.ensures, c.loop-at.invariant.few, c.loop-at-test)

pub loop-at-smaller : goal.loop-at-smaller
loop-at-smaller c = omega (arith, took-within _ _ _ _ _ _ _ _ _ c.loop-at.invariant c.piece_end-end.ensures.0 c.piece_end-end.ensures.1 c.receive-r.ensures, c.if-r-eq0.false)

pub loop-at-preserved : goal.loop-at-preserved
loop-at-preserved c = goes_on _ _ _ _ _ _ _ _ _ c.loop-at.invariant c.piece_end-end.ensures.0 c.piece_end-end.ensures.1 c.receive-r.ensures c.if-r-eq0.false _ c.messages-count.ensures

pub returns : goal.returns
returns c = all_read _ _ _ _ _ _ c.loop-at.invariant (omega arith)

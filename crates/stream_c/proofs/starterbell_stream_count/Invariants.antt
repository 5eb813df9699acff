-- `starterbell_stream_count`: what is left to play from `at` on completes the whole. Assumes nothing.
use Prim.Native.Nat.{◌-◌}
use lib.ListN.{length}
use native.Mathlib.Omega.{arith}
use borrow.Author.Rules.{rules}
use Rattle.stream_c.proofs.Loop.{Going, going, goes_on, took-within, at_most_one, all_read, stopped}
use Rattle.stream_c.proofs.starterbell_stream_count.Given as goal

abbrev pub invariant-loop-at : goal.invariant-loop-at
invariant-loop-at l = Going l.initial.buffer l.bytes l.buffer l.framing l.at l.count

abbrev pub decreases-loop-at : goal.decreases-loop-at
decreases-loop-at l = length l.bytes - l.at

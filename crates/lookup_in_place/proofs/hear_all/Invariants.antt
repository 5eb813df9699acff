-- `hear_all`: the entries from i on are still to be heard. Assumes nothing.
use Rattle.lookup_in_place.proofs.Steps.{Hearing, hearing-none, hearing-one, hearing-long, hearing-room, hearing-all}
use Rattle.lookup.proofs.Hearing.{ids-within, cut-order, cut-end}
use borrow.Author.Rules.{rules}
use native.Mathlib.Omega.{arith}
use Prim.Native.Nat.{◌-◌}
use Rattle.lookup_in_place.proofs.hear_one.Reads as hear-one-reads
use Rattle.message.proofs.closer_ids.Reads as closer-ids-reads
use Rattle.lookup_in_place.proofs.hear_all.Given as goal

abbrev pub invariant-loop-i : goal.invariant-loop-i
invariant-loop-i l = Hearing l.body l.ours l.n l.initial.m l.m l.i

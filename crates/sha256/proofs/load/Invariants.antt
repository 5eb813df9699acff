-- `sha256::load` meets its contract. The loop's invariant: the array starts with the words passed. Assumes nothing.
use Rattle.std.proofs.Common.{◌≡◌, ◌+◌, ◌-◌, ◌≤◌, length, take, sym, refl, ◌∙◌, arith, length-set, take_all}
use Rattle.octets.specs.Octets.{part}
use Rattle.sha256.specs.Sha256.{schedule}
use Rattle.sha256.proofs.Schedule.{load-more}
use Rattle.sha256.proofs.load.Given as goal

abbrev pub invariant-loop-i : goal.invariant-loop-i
invariant-loop-i l = (l.i ≤ 16) × (length l.w ≡ 16) × (take l.i l.w ≡ schedule l.i (part l.src l.at (l.at + 64)))

abbrev pub decreases-loop-i : goal.decreases-loop-i
decreases-loop-i l = 16 - l.i

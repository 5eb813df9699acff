-- `marks_in`: the first i marks stand there. Assumes nothing.
use Rattle.lookup_in_place.proofs.Parts.{all_there, mark-filled}
use Rattle.flat_lookup.specs.FlatLookup.{lookup_in}
use Rattle.octets.proofs.Finding.{Mapping, map-all}
use Rattle.lookup_candidates.specs.Candidates.{mark_of}
use native.Mathlib.Omega.{arith}
use lib.ListN.{length-replicate}
use mathlib.Core.Path.{refl, sym, ◌∙◌}
use Prim.Native.Nat.{ℕ, ◌-◌}
use borrow.Author.Rules.{rules}
use Rattle.lookup_in_place.proofs.mark_at.Reads as mark-at-reads
use Rattle.lookup_in_place.proofs.marks_in.Given as goal

abbrev pub invariant-loop-i : goal.invariant-loop-i
invariant-loop-i l = Mapping mark_of (lookup_in l.m).candidates l.marks l.i

-- `tidy`: four bytes anew. Assumes nothing.
use native.Mathlib.Omega.{arith}
use Rattle.lookup_in_place.proofs.Whole.{tidied-by}
use borrow.Author.Rules.{rules}
use Rattle.flat_lookup.proofs.turned_in.Reads as turned-in-reads
use Rattle.lookup_in_place.proofs.flag.Reads as flag-reads
use Rattle.octets.proofs.copy.Reads as copy-reads
use Rattle.lookup_in_place.proofs.tidy.Goals as goal

pub returns : goal.returns
returns c = tidied-by c.args.m.now _ _ _ c.requires (λ i. omega (arith, c.slice_known-1.given i)) c.turned_in.ensures c.flag.ensures c.copy.ensures

-- `lies_at`: the place, compared. Assumes nothing.
use Rattle.octets.specs.Octets.{same}
use Prim.Native.Nat.{ℕ}
use mathlib.Core.List.{List}
use mathlib.Core.Path.{◌∙◌, ap}
use borrow.Author.Rules.{rules}
use Rattle.lookup_in_place.proofs.place_at.Reads as place-at-reads
use Rattle.octets.proofs.same_bytes.Reads as same-bytes-reads
use Rattle.lookup_in_place.proofs.lies_at.Goals as goal

pub returns : goal.returns
returns c = c.same_bytes.ensures ∙ ap (λ (x : List ℕ). same x c.args.place.now) c.place_at.ensures

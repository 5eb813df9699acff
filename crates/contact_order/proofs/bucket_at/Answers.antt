-- `contact_order::bucket_at` asks for the bucket of the place. Assumes nothing.
use mathlib.Core.Path.{ap, ◌∙◌}
use mathlib.Core.List.{List}
use Prim.Native.Nat.{ℕ}
use Rattle.place.specs.Place.{bucket_of}
use borrow.Author.Rules.{rules}
use Rattle.contact_order.proofs.bucket_at.Goals as goal

pub returns : goal.returns
returns c = c.bucket.ensures ∙ ap (λ (x : List ℕ). bucket_of x c.args.ours.now) c.place_of.ensures

-- `place_of` is the hash.
use Rattle.place.specs.Place.{place_of}
use Rattle.place.proofs.place_of.Goals as goal

pub returns : goal.returns
unfolding place_of
returns c = c.hash.ensures

-- What the reader gives for a body that was written: the positions at which the message's parts stand. Assumes nothing.
use mathlib.Core.Path.{◌≡◌}
use mathlib.Core.Bool.{true}
use Rattle.message.specs.Message.{Message, encode}
use Rattle.message.specs.View.{fields_of, reading_of, meant}
use Rattle.pieces.specs.Writable.{writable}
use Rattle.message.proofs.Views.{whole-read}
use Rattle.round_trip.specs.Claims.{WrittenIsRead}
use Rattle.round_trip.proofs.RoundTrip.{fitting, round_trip}
use Rattle.std.specs.Prelude.{Ok}

module _ (m : Message) (w : writable m ≡ true) where
  both : (reading_of (encode m) ≡ Ok (fields_of (encode m))) × (meant (encode m) (fields_of (encode m)) ≡ m)
  both = let f = fitting m w in whole-read (encode m) m f.body (round_trip m w) f.kind

  pub read-written : reading_of (encode m) ≡ Ok (fields_of (encode m))
  read-written = both.0

  pub meant-written : meant (encode m) (fields_of (encode m)) ≡ m
  meant-written = both.1

pub written-is-read : WrittenIsRead
written-is-read m w = record { whole = read-written m w; says = meant-written m w }

-- What is written reads back as it was, for every message that the writer takes; proofs/RoundTrip.antt and proofs/Written.antt prove it.
use Rattle.std.specs.Prelude.{◌≡◌, true}
use Rattle.message.specs.Message.{Message, decode, encode}
use Rattle.message.specs.View.{fields_of, reading_of, meant}
use Rattle.pieces.specs.Writable.{writable}
use Rattle.std.specs.Prelude.{Ok, Some}

-- the bytes mean the message that was written
abbrev pub RoundTrip : Type 0
RoundTrip = (m : Message) → writable m ≡ true → decode (encode m) ≡ Some m

-- and the reader reads them whole: the parts at its positions are the message's
pub record ReadWhole (m : Message) : Type 0 where
  pub whole : reading_of (encode m) ≡ Ok (fields_of (encode m))
  pub says : meant (encode m) (fields_of (encode m)) ≡ m

abbrev pub WrittenIsRead : Type 0
WrittenIsRead = (m : Message) → writable m ≡ true → ReadWhole m

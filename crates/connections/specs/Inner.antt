-- What the inner functions of the crate ensure. No reader of the public contracts needs these.
use Rattle.std.specs.Prelude.{Bool}
use Rattle.refusal.specs.declared.Refusal.TheVariants.{BadPeer}
use Rattle.stream.specs.declared.Framing.TheVariants as framing
use Rattle.connections.specs.declared.Opened.{Opened}
use Rattle.connections.specs.Box.{nobody}
use Rattle.std.specs.Prelude.{Err}

-- a connection that starts shut
abbrev pub starts_shut : Bool → Bool → Opened
starts_shut server asking = record { conn = record { peer = nobody; framing = framing.Shut; server = server; asking = asking }; told = Err BadPeer }

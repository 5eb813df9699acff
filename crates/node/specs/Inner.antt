-- What the inner functions of the crate ensure. No reader of the public contracts needs these.
use Rattle.std.specs.Prelude.{ℕ}
use Rattle.connections.specs.declared.Conn.{Conn}
use Rattle.node.specs.declared.Answer.{Answer}
use Rattle.node.specs.declared.Received.{Received}
use Rattle.node.specs.Node.{received, shut_if}
use Rattle.std.specs.Prelude.{None, Result}
use Rattle.refusal.specs.declared.Refusal.{Refusal}

-- an answer with no sighting beside it
abbrev pub unseen : Conn → ℕ → Result Answer Refusal → Received
unseen c n a = received (shut_if a c) n a None

-- What the inner functions answer.
use Rattle.std.specs.Prelude.{ℕ, Bool, not, cond, List}
use Rattle.place.specs.Place.{place_of}
use Rattle.refusal.specs.declared.Refusal.TheVariants.{OutOfForm, BadPeer, NoLongerFits, Client}
use Rattle.contacts.specs.Form.{in_form}
use Rattle.peer.specs.Peers.{bad_peer}
use Rattle.sightings.specs.declared.Settled.{Settled}
use Rattle.std.specs.Prelude.{Ok, Err, Result}
use Rattle.refusal.specs.declared.Refusal.{Refusal}

-- an id has been judged: refusal 12, or its place
unfoldable pub judged : List ℕ → List ℕ → Result (List ℕ) Refusal
judged ours id = cond (bad_peer ours id) (Err BadPeer) (Ok (place_of id))

-- before that, the table's form: refusal 0
unfoldable pub admitted : List ℕ → List ℕ → List ℕ → Result (List ℕ) Refusal
admitted t ours id = cond (not (in_form t ours)) (Err OutOfForm) (judged ours id)

-- a newcomer that is a client
unfoldable pub client_outcome : Bool → Result Settled Refusal
client_outcome fit = cond fit (Err Client) (Err NoLongerFits)

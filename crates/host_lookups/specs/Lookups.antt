-- The host's calls on lookups, for a box: RULES, Lookup. As in `lookup`, with the id and the place of the box.
use Rattle.std.specs.Prelude.{ℕ, cond, List, []}
use Rattle.peer.specs.declared.Peer.{Peer}
use Rattle.peer.specs.Peers.{id_in}
use Rattle.message.specs.declared.Fields.{Fields}
use Rattle.lookup.specs.Value.{Lookup, Step}
use Rattle.lookup.specs.Lookup as lookup
use Rattle.connections.specs.Box.{own_fits}

-- the id that a box goes by, none where no start gives it (then 12)
unfoldable pub own_id : Peer → List ℕ
own_id me = cond (own_fits me) (id_in me) []

unfoldable pub lookup_start : Peer → List ℕ → List ℕ → ℕ → Step
lookup_start me t key limit = lookup.start_of t (own_id me) me.place key limit

unfoldable pub lookup_reply : Peer → Lookup → List ℕ → List ℕ → Fields → Step
lookup_reply me l id body view = lookup.reply_of l (own_id me) me.place id body view

unfoldable pub lookup_failure : Peer → Lookup → List ℕ → Step
lookup_failure me l id = lookup.failure_of l (own_id me) me.place id

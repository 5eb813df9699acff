-- What the inner function of the crate ensures. No reader of the public contracts needs this.
use Rattle.std.specs.Prelude.{ℕ, cond}
use Rattle.peer.specs.declared.Peer.{Peer}
use Rattle.connections.specs.Box.{own_fits}

-- the length of the id that a box goes by
abbrev pub own_size : Peer → ℕ
own_size me = cond (own_fits me) me.size 0

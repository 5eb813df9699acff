-- The host's calls on contacts, for a box: RULES, Places and contacts. As in contact_calls, and 12 where the box handed in has an id that no start gives, in the order of the
-- refusal numbers.
use Rattle.std.specs.Prelude.{ℕ, Bool, cond, not, List}
use Rattle.refusal.specs.declared.Refusal.TheVariants.{OutOfForm, BadPeer}
use Rattle.peer.specs.declared.Peer.{Peer}
use Rattle.contacts.specs.Form.{in_form}
use Rattle.sightings.specs.declared.Sighting.{Sighting}
use Rattle.sightings.specs.declared.Settled.{Settled}
use Rattle.contact_calls.specs.Calls.{seen_call, seen_call_table, settle_call, settle_call_table, remove_call, remove_call_table, doubt_call, doubt_call_table}
use Rattle.connections.specs.Box.{own_fits}
use Rattle.std.specs.Prelude.{Err, Result, ⊤}
use Rattle.refusal.specs.declared.Refusal.{Refusal}

-- 0, then 12
abbrev pub gated : {A : Type 0} → Peer → List ℕ → A → A → A → A
gated me t zero twelve rest = cond (not (in_form t me.place)) zero (cond (not (own_fits me)) twelve rest)

unfoldable pub seen_of : Peer → List ℕ → List ℕ → Bool → List ℕ → Result Sighting Refusal
seen_of me t id client addresses = gated me t (Err OutOfForm) (Err BadPeer) (seen_call t me.place id client addresses)

unfoldable pub seen_after : Peer → List ℕ → List ℕ → Bool → List ℕ → List ℕ
seen_after me t id client addresses = cond (own_fits me) (seen_call_table t me.place id client addresses) t

unfoldable pub settle_of : Peer → List ℕ → List ℕ → List ℕ → Bool → List ℕ → Bool → Result Settled Refusal
settle_of me t head id client addresses answered =
    gated me t (Err OutOfForm) (Err BadPeer) (settle_call t me.place head id client addresses answered)

unfoldable pub settle_after : Peer → List ℕ → List ℕ → List ℕ → Bool → List ℕ → Bool → List ℕ
settle_after me t head id client addresses answered = cond (own_fits me) (settle_call_table t me.place head id client addresses answered) t

unfoldable pub remove_of : Peer → List ℕ → List ℕ → Result ⊤ Refusal
remove_of me t id = gated me t (Err OutOfForm) (Err BadPeer) (remove_call t me.place id)

unfoldable pub remove_after : Peer → List ℕ → List ℕ → List ℕ
remove_after me t id = cond (own_fits me) (remove_call_table t me.place id) t

unfoldable pub doubt_of : Peer → List ℕ → List ℕ → Result ⊤ Refusal
doubt_of me t id = gated me t (Err OutOfForm) (Err BadPeer) (doubt_call t me.place id)

unfoldable pub doubt_after : Peer → List ℕ → List ℕ → List ℕ
doubt_after me t id = cond (own_fits me) (doubt_call_table t me.place id) t

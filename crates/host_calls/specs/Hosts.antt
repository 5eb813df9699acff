-- The host's other calls, for a box: RULES, Places and contacts. Those on contacts and on lookups are passed on.
use Rattle.std.specs.Prelude.{ℕ, cond, not, List, replicate}
use Rattle.limits.specs.Limits.{most_near}
use Rattle.refusal.specs.declared.Refusal.{Refusal}
use Rattle.refusal.specs.declared.Refusal.TheVariants.{OutOfForm, BreaksRules, BadPeer}
use Rattle.peer.specs.declared.Peer.{Peer}
use Rattle.place.specs.Place.{place_of}
use Rattle.contacts.specs.Form.{in_form}
use Rattle.contacts.specs.Near.{nearest_of}
use Rattle.message.specs.Kinds.{key_fits}
use Rattle.connections.specs.Box.{own_fits}
use Rattle.host_calls.specs.declared.Nearby.{Nearby}
unfoldable pub use Rattle.host_contacts.specs.Contacts.{seen_of, seen_after, settle_of, settle_after, remove_of, remove_after, doubt_of, doubt_after}
unfoldable pub use Rattle.host_lookups.specs.Lookups.{own_id, lookup_start, lookup_reply, lookup_failure}
use Rattle.std.specs.Prelude.{Ok, Err}

-- of the contacts that aren't doubtful, those nearest to a key: 0, 8 unless it has 1 to 128 bytes, 12
abbrev pub none_near : Refusal → Nearby
none_near r = record { closest = record { at = replicate most_near 0; n = 0 }; told = Err r }

unfoldable pub nearest_to : Peer → List ℕ → List ℕ → Nearby
nearest_to me t key =
    cond (not (in_form t me.place)) (none_near OutOfForm)
    (cond (not (key_fits key)) (none_near BreaksRules)
    (cond (not (own_fits me)) (none_near BadPeer)
    (record { closest = nearest_of t (place_of key); told = (Ok tt) })))

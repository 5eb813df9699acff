-- What follows from the definitions: a view's parts are what its body says, and whoever has no view gets nothing. proofs/Theorems.antt shows each.
use Rattle.std.specs.Prelude.{ℕ, suc, ◌≡◌, true, false, List, [], ◌∷◌, map, length, take}
use Rattle.refusal.specs.declared.Refusal.{Refusal}
use Rattle.wire.specs.Wire.{walk}
use Rattle.wire.specs.Items.{cut}
use Rattle.wire.specs.declared.Span.{Span}
use Rattle.message.specs.Message.{Record, message_of}
use Rattle.message.specs.View.{reading_of, closer_at, providers_at, id_at, connection_at, addresses_at, peer_meant}
use Rattle.message.specs.declared.Fields.{Fields}
use Rattle.parts.specs.Parts.{is_view, positions_of, kind_of, key_of, record_key_of, record_value_of, closer_of, provider_of, peer_id_of, peer_connection_of, peer_address_of, key_bytes, record_key_bytes, record_value_bytes, number_refusal, part_refusal, entry_refusal}
use Rattle.std.specs.Prelude.{Ok, Err, Some, None, Result, Option}

-- the positions of a view are the reader's, and the reader's are a view's
abbrev pub OnlyTheReaders : Type 0
OnlyTheReaders = (s : List ℕ) (v : Fields) → is_view s v ≡ true → reading_of s ≡ Ok v

abbrev pub TheReaders : Type 0
TheReaders = (s : List ℕ) (v : Fields) → reading_of s ≡ Ok v → (positions_of s ≡ v) × (is_view s v ≡ true)

-- a body that the reader refuses has no view
abbrev pub NoView : Type 0
NoView = (s : List ℕ) (r : Refusal) (v : Fields) → reading_of s ≡ Err r → is_view s v ≡ false

-- ---- a view's parts are the message's

abbrev pub entry_found : Result (Option Span) Refusal → Option Span
entry_found (Ok (Some p)) = Some p
entry_found (Ok None) = None
entry_found (Err r) = None

-- an answer points at these bytes of the body; and for a part that need not be there, it points at none exactly where there is none
abbrev pub PointsAt : List ℕ → Result Span Refusal → List ℕ → Type 0
PointsAt s (Ok p) b = cut s p ≡ b
PointsAt s (Err r) b = ⊥

abbrev pub MayPointAt : List ℕ → Result (Option Span) Refusal → Option (List ℕ) → Type 0
MayPointAt s (Ok (Some p)) (Some b) = cut s p ≡ b
MayPointAt s (Ok (Some p)) None = ⊥
MayPointAt s (Ok None) (Some b) = ⊥
MayPointAt s (Ok None) None = Unit {0}
MayPointAt s (Err r) b = ⊥

abbrev pub key_in : Option Record → Option (List ℕ)
key_in None = None
key_in (Some r) = Some r.key

abbrev pub value_in : Option Record → Option (List ℕ)
value_in None = None
value_in (Some r) = Some r.value

-- what the body says; its peers, from 0 and then from each end, are all of them, and so are a peer's addresses from its start on. `peer_meant` is the peer
-- with the id, addresses and connection at these positions
pub record Meant (s : List ℕ) (v : Fields) : Type 0 where
  pub kind : kind_of s v ≡ Ok (message_of s).kind
  pub key : PointsAt s (key_of s v) (message_of s).key
  pub record_key : MayPointAt s (record_key_of s v) (key_in (message_of s).held)
  pub record_value : MayPointAt s (record_value_of s v) (value_in (message_of s).held)
  pub key_cut : key_bytes s v ≡ (message_of s).key
  pub bare : v.held.there ≡ false → (message_of s).held ≡ None
  pub held : v.held.there ≡ true → (message_of s).held ≡ Some (record { key = record_key_bytes s v; value = record_value_bytes s v })
  pub closer : walk (suc (length s)) (λ from. entry_found (closer_of s v from)) 0 ≡ closer_at s
  pub providers : walk (suc (length s)) (λ from. entry_found (provider_of s v from)) 0 ≡ providers_at s
  pub id : (p : Span) → peer_id_of s v p ≡ Ok (id_at s p)
  pub connection : (p : Span) → peer_connection_of s v p ≡ Ok (connection_at s p)
  pub addresses : (p : Span) → walk (suc (length (take p.end s))) (λ from. entry_found (peer_address_of s v p from)) p.at ≡ addresses_at s p
  -- a walk ends with nothing, never with a refusal
  pub closer_told : (from : ℕ) → entry_refusal (closer_of s v from) ≡ []
  pub provider_told : (from : ℕ) → entry_refusal (provider_of s v from) ≡ []
  pub address_told : (p : Span) (from : ℕ) → entry_refusal (peer_address_of s v p from) ≡ []
  pub closer_peers : map (peer_meant s) (closer_at s) ≡ (message_of s).closer
  pub provider_peers : map (peer_meant s) (providers_at s) ≡ (message_of s).providers

abbrev pub ViewsMean : Type 0
ViewsMean = (s : List ℕ) (v : Fields) → is_view s v ≡ true → Meant s v

-- ---- without a view

pub record NoParts (s : List ℕ) (v : Fields) : Type 0 where
  pub kind : number_refusal (kind_of s v) ≡ 0 ∷ []
  pub key : part_refusal (key_of s v) ≡ 0 ∷ []
  pub record_key : entry_refusal (record_key_of s v) ≡ 0 ∷ []
  pub record_value : entry_refusal (record_value_of s v) ≡ 0 ∷ []
  pub closer : (from : ℕ) → entry_refusal (closer_of s v from) ≡ 0 ∷ []
  pub provider : (from : ℕ) → entry_refusal (provider_of s v from) ≡ 0 ∷ []
  pub id : (p : Span) → part_refusal (peer_id_of s v p) ≡ 0 ∷ []
  pub connection : (p : Span) → number_refusal (peer_connection_of s v p) ≡ 0 ∷ []
  pub address : (p : Span) (from : ℕ) → entry_refusal (peer_address_of s v p from) ≡ 0 ∷ []
  pub key_bytes : key_bytes s v ≡ []
  pub record_key_bytes : record_key_bytes s v ≡ []
  pub record_value_bytes : record_value_bytes s v ≡ []

abbrev pub OthersRefused : Type 0
OthersRefused = (s : List ℕ) (v : Fields) → is_view s v ≡ false → NoParts s v

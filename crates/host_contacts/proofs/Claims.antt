-- Each claim of specs/Claims.antt, from contact_calls. Assumes nothing.
use Prim.Native.Nat.{ℕ}
use mathlib.Core.Path.{◌≡◌, refl, sym, ◌∙◌, subst}
use mathlib.Core.Logic.{◌⊎◌}
use mathlib.Core.Bool.{Bool, true, false}
use mathlib.Core.List.{List}
use Rattle.octets.specs.Octets.{Bytes}
use Rattle.place.specs.Place.{place_of}
use Rattle.contacts.specs.Claims.{Gives, GivesFirst}
use Rattle.peer.specs.declared.Peer.{Peer}
use Rattle.peer.specs.Peers.{peer_of}
use Rattle.sightings.specs.Order.{held_at}
use Rattle.sightings.specs.Sightings.{sighting_of, seen_table}
use Rattle.sightings.specs.declared.Sighting.{Sighting}
use Rattle.sightings.specs.declared.Sighting.TheVariants as seen
use Rattle.sightings.specs.declared.Settled.{Settled}
use Rattle.sightings.specs.declared.Settled.TheVariants as settle
use Rattle.contact_calls.specs.Calls.{seen_call, seen_call_table, settle_call, settle_call_table, remove_call, remove_call_table, doubt_call_table, seen_number, settle_number, remove_number, doubt_number}
use Rattle.contact_calls.specs.Claims.{SeenTold, SettleTold, RemoveTold, DoubtTold, SeenDoes, SettleDoes, RemoveDoes, DoubtDoes}
use Rattle.contact_calls.proofs.Claims as calls
use Rattle.connections.specs.Box.{own_fits}
use Rattle.host_contacts.specs.Contacts.{seen_of, seen_after, settle_of, settle_after, remove_of, remove_after, doubt_after}
use Rattle.host_contacts.specs.Claims.{ContactsTold, Claims}
use Rattle.host_contacts.proofs.Hosting.{seen-on, settle-on, remove-on, doubt-on}
use Rattle.std.specs.Prelude.{Ok, Result, ⊤}
use Rattle.refusal.specs.declared.Refusal.{Refusal}

-- two equations at once
both : {A B : Type 0} (P : A → B → Type 0) (a a' : A) (b b' : B) → (a ≡ a') × (b ≡ b') → P a b → P a' b'
both P a a' b b' e p = subst (λ x. P x b') e.0 (subst (P a) e.1 p)

module _ (me : Peer) (h : own_fits me ≡ true) where
  -- the calls, by contact_calls' names
  seen-is : (t id : List ℕ) (client : Bool) (addresses : List ℕ) → seen_call t me.place id client addresses ≡ seen_of me t id client addresses
  seen-is t id client addresses = (seen-on me t id client addresses _ _ h (refl, refl)).0

  settle_is : (t head id : List ℕ) (client : Bool) (addresses : List ℕ) (answered : Bool)
      → settle_call t me.place head id client addresses answered ≡ settle_of me t head id client addresses answered
  settle_is t head id client addresses answered = (settle-on me t head id client addresses answered _ _ h (refl, refl)).0

  marked-is : (t id : List ℕ) → doubt_call_table t me.place id ≡ doubt_after me t id
  marked-is t id = (doubt-on me t id _ _ h (refl, refl)).1

  seen-ignores : (t id other : List ℕ) (client : Bool) (addresses : List ℕ) → seen_of me (doubt_after me t id) other client addresses ≡ seen_of me t other client addresses
  seen-ignores t id other client addresses =
      subst (λ (u : List ℕ). seen_of me u other client addresses ≡ seen_of me t other client addresses) (marked-is t id)
      (sym (seen-is (doubt_call_table t me.place id) other client addresses) ∙ (calls.claims).seen_ignores t me.place id other client addresses ∙ seen-is t other client addresses)

  settle-ignores : (t id head other : List ℕ) (client : Bool) (addresses : List ℕ) (answered : Bool)
      → settle_of me (doubt_after me t id) head other client addresses answered ≡ settle_of me t head other client addresses answered
  settle-ignores t id head other client addresses answered =
      subst (λ (u : List ℕ). settle_of me u head other client addresses answered ≡ settle_of me t head other client addresses answered) (marked-is t id)
      (sym (settle_is (doubt_call_table t me.place id) head other client addresses answered) ∙ (calls.claims).settle_ignores t me.place id head other client addresses answered
      ∙ settle_is t head other client addresses answered)

pub claims : Claims
claims me h l w = record {
  seen_told = λ t id client addresses. subst (λ (o : Result Sighting Refusal). SeenTold t me.place id client (seen_number o)) (seen-is me h t id client addresses) ((calls.claims).seen_told t me.place id client addresses);
  settle_told = λ t head id client addresses answered. subst (λ (o : Result Settled Refusal). SettleTold t me.place head id client answered (settle_number o)) (settle_is me h t head id client addresses answered) ((calls.claims).settle_told t me.place head id client addresses answered);
  remove_told = λ t id. subst (λ (o : Result ⊤ Refusal). RemoveTold t me.place id (remove_number o)) (remove-on me t id _ _ h (refl, refl)).0 ((calls.claims).remove_told t me.place id);
  doubt_told = λ t id. subst (λ (o : Result ⊤ Refusal). DoubtTold t me.place id (doubt_number o)) (doubt-on me t id _ _ h (refl, refl)).0 ((calls.claims).doubt_told t me.place id);
  seen_does = λ t id client addresses. both (SeenDoes t me.place id addresses) _ _ _ _ (seen-on me t id client addresses _ _ h (refl, refl)) ((calls.claims).seen_does t me.place id client addresses l w);
  settle_does = λ t head id client addresses answered. both (SettleDoes t me.place head id addresses) _ _ _ _ (settle-on me t head id client addresses answered _ _ h (refl, refl)) ((calls.claims).settle_does t me.place head id client addresses answered l w);
  remove_does = λ t id. both (RemoveDoes t me.place id) _ _ _ _ (remove-on me t id _ _ h (refl, refl)) ((calls.claims).remove_does t me.place id);
  doubt_does = λ t id. both (DoubtDoes t id) _ _ _ _ (doubt-on me t id _ _ h (refl, refl)) ((calls.claims).doubt_does t me.place id);
  beside = λ t id addresses a.
      both (λ o u. (sighting_of t me.place (peer_of id (place_of id) addresses) ≡ o) × (seen_table t me.place (peer_of id (place_of id) addresses) ≡ u)) _ _ _ _
      (seen-on me t id false addresses _ _ h (refl, refl)) ((calls.claims).beside t me.place id addresses a);
  seen_ignores = seen-ignores me h;
  settle_ignores = settle-ignores me h;
  hidden = λ t id x. both (λ o u. doubt_number o ≡ 64 → Gives u x (held_at t (place_of id)) → ⊥) _ _ _ _ (doubt-on me t id _ _ h (refl, refl)) ((calls.claims).hidden t me.place id x);
  seen_given = λ t id client addresses.
      both (λ o u. Bytes u → (i : ℕ) → (o ≡ Ok (seen.Moved i)) ⊎ (o ≡ Ok (seen.Joined i)) → GivesFirst u (place_of id) i) _ _ _ _
      (seen-on me t id client addresses _ _ h (refl, refl)) ((calls.claims).seen_given t me.place id client addresses l w);
  answerer_given = λ t head id client addresses answered.
      both (λ o u. Bytes u → o ≡ Ok settle.Kept → GivesFirst u (place_of head) (held_at t (place_of head))) _ _ _ _
      (settle-on me t head id client addresses answered _ _ h (refl, refl)) ((calls.claims).answerer_given t me.place head id client addresses answered l w);
}

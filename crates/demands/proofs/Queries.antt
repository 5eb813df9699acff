-- What a query answers are the twenty nearest: the host's own, and those that peers send. Assumes nothing.
use Prim.Native.Nat.{ℕ, ◌<◌}
use mathlib.Core.Path.{◌≡◌, refl, ap, ◌∙◌, subst}
use mathlib.Core.Bool.{true, false}
use mathlib.Core.List.{List, [], ◌∷◌}
use lib.ListN.{length, get_or, take}
use Rattle.octets.specs.Octets.{Bytes, same}
use Rattle.octets.proofs.Bools.{to-false, cond_yes, cond_no, cond_ind}
use Rattle.octets.proofs.Searching.{some_at, some-intro}
use Rattle.octets.proofs.Strings.{same-eq, same-yes, same_refl, same-no}
use Rattle.place.specs.Place.{place_of}
use Rattle.peer.specs.declared.Peer.{Peer}
use Rattle.contact_form.proofs.Claims.{claims as formed}
use Rattle.contacts.specs.Table.{slots_of, slot, used, doubtful, place}
use Rattle.contacts.specs.Form.{in_form}
use Rattle.contacts.specs.Near.{nearest_slots, nearest_of}
use Rattle.contacts.proofs.Claims.{claims}
use Rattle.contacts.proofs.TwentyNearest.{nearest-held}
use Rattle.entries.specs.Entries.{peer_entry}
use Rattle.records_history.proofs.Holding.{not_found}
use Rattle.message.specs.Message.{Message}
use Rattle.replies.specs.Lent.{Lent}
use Rattle.message.specs.Kinds.{get_value, find_node, key_fits}
use Rattle.replies.specs.Replies.{closer_peers, listed, last_entry, find_node_reply, record_at, get_value_reply}
use Rattle.replies.specs.Verdicts.{replies, keyed}
use Rattle.answer.specs.Answers.{verdict_of}
use Rattle.connections.specs.Box.{own_fits}
use Rattle.host_calls.specs.declared.Nearby.{Nearby}
use Rattle.host_calls.specs.Hosts.{nearest_to}
use Rattle.demands.specs.Demands.{Queries}
use Rattle.std.specs.Prelude.{Ok}

-- ---- the last entry of FIND_NODE
-- where all that lie at a place are doubtful, it isn't listed
unlisted : (t x : List ℕ) → ((i : ℕ) → i < slots_of t → used (slot t i) ≡ true → place (slot t i) ≡ x → doubtful (slot t i) ≡ true) → listed t x ≡ false
unfolding listed
unlisted t x d = to-false _ (λ e. none (some_at (λ k. same (place (slot t (get_or (nearest_slots t x) k 0))) x) (length (nearest_slots t x)) e))
  where
    none : ((k : ℕ) × (k < length (nearest_slots t x)) × (same (place (slot t (get_or (nearest_slots t x) k 0))) x ≡ true)) → ⊥
    none r =
        let h = nearest-held t x r.0 r.1 in
        claims.passes_over t x (get_or (nearest_slots t x) r.0 0) (d (get_or (nearest_slots t x) r.0 0) h.0 h.1 (same-eq _ x r.2)) (r.0, r.1, refl)

told-of-itself : (me who : Peer) (t : List ℕ) → (who.place ≡ me.place → ⊥)
    → ((i : ℕ) → i < slots_of t → used (slot t i) ≡ true → place (slot t i) ≡ who.place → doubtful (slot t i) ≡ true) → last_entry me who t who.place ≡ peer_entry who ∷ []
unfolding last_entry
told-of-itself me who t other d =
    cond_no (listed t who.place) [] _ (unlisted t who.place d)
    ∙ cond_no (same who.place me.place) _ _ (same-no who.place me.place other)
    ∙ cond_yes (same who.place who.place) _ _ (same_refl who.place)

listed-already : (me who : Peer) (t : List ℕ) (i : ℕ) → Bytes t → in_form t me.place ≡ true → i < slots_of t → used (slot t i) ≡ true → place (slot t i) ≡ who.place
    → doubtful (slot t i) ≡ false → last_entry me who t who.place ≡ []
unfolding last_entry listed
listed-already me who t i b y l u e d =
    let g = claims.own t me.place i b y l u d in
    subst (λ (x : List ℕ). last_entry me who t x ≡ []) e
    (cond_yes (listed t (place (slot t i))) [] _
    (some-intro (λ k. same (place (slot t (get_or (nearest_slots t (place (slot t i))) k 0))) (place (slot t i))) _ 0 g.0 (same-yes _ (place (slot t i)) (ap (λ (j : ℕ). place (slot t j)) g.1))))

told-of-us : (me who : Peer) (t : List ℕ) → in_form t me.place ≡ true → last_entry me who t me.place ≡ peer_entry me ∷ []
unfolding last_entry
told-of-us me who t y =
    cond_no (listed t me.place) [] _ (unlisted t me.place (λ i l u e. absurd ((formed.follows t me.place y).others i l u e)))
    ∙ cond_yes (same me.place me.place) _ _ (same_refl me.place)

no_other : (me who : Peer) (t x : List ℕ) → (x ≡ me.place → ⊥) → (x ≡ who.place → ⊥) → last_entry me who t x ≡ []
unfolding last_entry
no_other me who t x m w =
    cond_ind (λ l. l ≡ []) (listed t x) [] _ (λ _. refl) (λ _. cond_no (same x me.place) _ _ (same-no x me.place m) ∙ cond_no (same x who.place) _ _ (same-no x who.place w))

module _ (me : Peer) (own : own_fits me ≡ true) where
  host-is : (t key : List ℕ) → in_form t me.place ≡ true → key_fits key ≡ true → nearest_to me t key ≡ record { closest = nearest_of t (place_of key); told = (Ok tt) }
  unfolding nearest_to
  host-is t key f k = rw (f, k, own) refl

  get-is : (who : Peer) (m : Message) (l : Lent) → m.kind ≡ get_value → key_fits m.key ≡ true → verdict_of me who m l ≡ replies (get_value_reply l.contacts l.records m.key)
  unfolding verdict_of keyed
  get-is who m l e f = rw (e, f) refl

  find-is : (who : Peer) (m : Message) (l : Lent) → m.kind ≡ find_node → key_fits m.key ≡ true → verdict_of me who m l ≡ replies (find_node_reply me who l.contacts m.key)
  unfolding verdict_of keyed
  find-is who m l e f = rw (e, f) refl

  pub queries : Queries me
  unfolding get_value_reply find_node_reply closer_peers
  queries =
      record {
        host = λ t key f k.
            let e = host-is t key f k in (ap (λ (n : Nearby). n.told) e, ap (λ (n : Nearby). take n.closest.n n.closest.at) e ∙ claims.told t (place_of key));
        get = λ who m l e f.
            let k = l.records in (get_value_reply l.contacts k m.key, get-is who m l e f, refl, λ g. ap (record_at k m.key) (not_found k m.key g));
        find = λ who m l e f. (find_node_reply me who l.contacts m.key, find-is who m l e f, refl);
        extra = told-of-itself me;
        there = listed-already me;
        ours = told-of-us me;
        nobody_else = no_other me;
      }

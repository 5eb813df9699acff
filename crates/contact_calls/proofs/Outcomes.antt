-- The outcomes of the host's calls, as the code finds them out. Assumes nothing.
use Prim.Native.Nat.{ℕ}
use mathlib.Core.Path.{◌≡◌, refl, sym, ap, ap₂, ◌∙◌}
use mathlib.Core.Bool.{Bool, true, false, not, cond}
use mathlib.Core.List.{List}
use borrow.Author.Tests.{not-true}
use Rattle.octets.specs.Octets.{same}
use Rattle.octets.proofs.Bools.{cond_yes, cond_no, cond_ind, cond-ap}
use Rattle.place.specs.Place.{place_of}
use Rattle.refusal.specs.declared.Refusal.TheVariants.{OutOfForm, BadPeer, NoLongerFits, Client}
use Rattle.contacts.specs.Form.{in_form}
use Rattle.peer.specs.declared.Peer.{Peer}
use Rattle.peer.specs.Peers.{id_fits, bad_peer, peer_of, tidied}
use Rattle.peer.proofs.Tidy.{made_tidy}
use Rattle.peer.proofs.Meaning.{bad-by-id, bad-by-place, place_is}
use Rattle.sightings.specs.declared.Sighting.{Sighting}
use Rattle.sightings.specs.declared.Settled.{Settled}
use Rattle.sightings.specs.Sightings.{sighting_of, after_sighting, seen_table, fits, settlement_of, after_settling, settled_table, removal_of, after_removal, removed_table, marking_of, after_marking, marked_table}
use Rattle.contact_calls.specs.Calls.{seen_call, seen_call_table, settle_call, settle_call_table, remove_call, remove_call_table, doubt_call, doubt_call_table}
use Rattle.contact_calls.specs.Inner.{judged, admitted, client_outcome}
use Rattle.std.specs.Prelude.{Ok, Err, Result, ⊤}
use Rattle.refusal.specs.declared.Refusal.{Refusal}

-- ---- judging an id
pub judge-short : (ours id : List ℕ) → id_fits id ≡ false → Err BadPeer ≡ judged ours id
unfolding judged
judge-short ours id h = sym (cond_yes (bad_peer ours id) _ _ (bad-by-id ours id h))

module _ (ours id place : List ℕ) (h : id_fits id ≡ true) (e : place ≡ place_of id) where
  whole : (b : Bool) → same place ours ≡ b → bad_peer ours id ≡ b
  whole b s = bad-by-place ours id h ∙ ap (λ (x : List ℕ). same x ours) (sym e) ∙ s

  pub judge-ours : same place ours ≡ true → Err BadPeer ≡ judged ours id
  unfolding judged
  judge-ours s = sym (cond_yes (bad_peer ours id) _ _ (whole true s))

  pub judge-whole : same place ours ≡ false → Ok place ≡ judged ours id
  unfolding judged
  judge-whole s = ap Ok e ∙ sym (cond_no (bad_peer ours id) _ _ (whole false s))

-- ---- what comes after it
-- the answer last, where an id is let in
abbrev beyond : {T : Type 0} → Result T Refusal → Result (List ℕ) Refusal → Result T Refusal
beyond last (Ok place) = last
beyond last (Err r) = Err r

-- the place that an id is let in with
abbrev place-or : List ℕ → Result (List ℕ) Refusal → List ℕ
place-or none (Ok place) = place
place-or none (Err r) = none

module _ (ours id : List ℕ) where
  judged-beyond : {T : Type 0} (last : Result T Refusal) → cond (bad_peer ours id) (Err BadPeer) last ≡ beyond last (judged ours id)
  unfolding judged
  judged-beyond last = sym (cond-ap (beyond last) (bad_peer ours id) (Err BadPeer) (Ok (place_of id)))

  judged-place-or : place-or (place_of id) (judged ours id) ≡ place_of id
  unfolding judged
  judged-place-or = cond_ind (λ (r : Result (List ℕ) Refusal). place-or (place_of id) r ≡ place_of id) (bad_peer ours id) _ _ (λ _. refl) (λ _. refl)

  judged-place : (place : List ℕ) → judged ours id ≡ Ok place → place ≡ place_of id
  judged-place place e = sym (ap (place-or (place_of id)) e) ∙ judged-place-or

module _ (t ours id : List ℕ) where
  admitted-beyond : {T : Type 0} (last : Result T Refusal) → cond (not (in_form t ours)) (Err OutOfForm) (cond (bad_peer ours id) (Err BadPeer) last) ≡ beyond last (admitted t ours id)
  unfolding admitted
  admitted-beyond last =
      ap (cond (not (in_form t ours)) (Err OutOfForm)) (judged-beyond ours id last)
      ∙ sym (cond-ap (beyond last) (not (in_form t ours)) (Err OutOfForm) (judged ours id))

  admitted-place : (place : List ℕ) → admitted t ours id ≡ Ok place → place ≡ place_of id
  unfolding admitted
  admitted-place place e =
      sym (ap (place-or (place_of id)) e)
      ∙ cond_ind (λ (r : Result (List ℕ) Refusal). place-or (place_of id) r ≡ place_of id) (not (in_form t ours)) _ _ (λ _. refl) (λ _. judged-place-or ours id)

  -- ---- the table's form
  pub admit-form : in_form t ours ≡ false → Err OutOfForm ≡ admitted t ours id
  unfolding admitted
  admit-form f = sym (cond_yes (not (in_form t ours)) _ _ (ap not f))

  pub admit-judged : in_form t ours ≡ true → judged ours id ≡ admitted t ours id
  unfolding admitted
  admit-judged f = sym (cond_no (not (in_form t ours)) _ _ (ap not f))

-- ---- seen
module _ (t ours id : List ℕ) (client : Bool) (addresses : List ℕ) where
  abbrev pub SeenAnswers : Result Sighting Refusal → List ℕ → Type 0
  SeenAnswers r u = (r ≡ seen_call t ours id client addresses) × (u ≡ seen_call_table t ours id client addresses)

  seen-with : (r : Result Sighting Refusal) (u : List ℕ) → r ≡ seen_call t ours id client addresses → u ≡ after_sighting t ours (peer_of id (place_of id) addresses) r → SeenAnswers r u
  unfolding seen_call_table
  seen-with r u e g = (e, g ∙ ap (after_sighting t ours (peer_of id (place_of id) addresses)) e)

  seen-beyond : (a : Result (List ℕ) Refusal) → admitted t ours id ≡ a
      → beyond (cond client (Err Client) (sighting_of t ours (peer_of id (place_of id) addresses))) a ≡ seen_call t ours id client addresses
  unfolding seen_call
  seen-beyond a e = sym (admitted-beyond t ours id _ ∙ ap (beyond _) e)

  pub seen-bad : (r : Refusal) → admitted t ours id ≡ Err r → SeenAnswers (Err r) t
  unfolding after_sighting
  seen-bad r e = seen-with (Err r) t (seen-beyond (Err r) e) refl

  module _ (place : List ℕ) (a : admitted t ours id ≡ Ok place) where
    pub seen-client : client ≡ true → SeenAnswers (Err Client) t
    unfolding after_sighting
    seen-client c = seen-with (Err Client) t (sym (cond_yes client _ _ c) ∙ seen-beyond (Ok place) a) refl

    pub seen-taken : client ≡ false → (p : Peer) (r : Result Sighting Refusal) (u : List ℕ) → p ≡ peer_of id place addresses
        → (r ≡ sighting_of t ours (tidied p)) × (u ≡ seen_table t ours (tidied p)) → SeenAnswers r u
    unfolding seen_table
    seen-taken c p r u ep e =
        let q : p ≡ peer_of id (place_of id) addresses = ep ∙ ap (λ (x : List ℕ). peer_of id x addresses) (admitted-place t ours id place a) in
        let z : tidied p ≡ p = ap tidied ep ∙ made_tidy id place addresses ∙ sym ep in
        let s : r ≡ sighting_of t ours p = e.0 ∙ ap (sighting_of t ours) z in
        seen-with r u
        (s ∙ ap (sighting_of t ours) q ∙ sym (cond_no client _ _ c) ∙ seen-beyond (Ok place) a)
        (e.1 ∙ ap (seen_table t ours) z ∙ ap (after_sighting t ours p) (sym s) ∙ ap (λ (x : Peer). after_sighting t ours x r) q)

-- ---- settle
module _ (t ours head id : List ℕ) (client : Bool) (addresses : List ℕ) (answered : Bool) where
  abbrev pub SettleAnswers : Result Settled Refusal → List ℕ → Type 0
  SettleAnswers r u = (r ≡ settle_call t ours head id client addresses answered) × (u ≡ settle_call_table t ours head id client addresses answered)

  settle-with : (r : Result Settled Refusal) (u : List ℕ) → r ≡ settle_call t ours head id client addresses answered → u ≡ after_settling t ours (place_of head) (peer_of id (place_of id) addresses) r → SettleAnswers r u
  unfolding settle_call_table
  settle-with r u e g = (e, g ∙ ap (after_settling t ours (place_of head) (peer_of id (place_of id) addresses)) e)

  -- the last three answers
  abbrev last : Result Settled Refusal
  last = cond (not (fits t ours (place_of head) (place_of id))) (Err NoLongerFits) (cond client (Err Client) (settlement_of t ours (place_of head) (peer_of id (place_of id) addresses) answered))

  settle-beyond : (h : Result (List ℕ) Refusal) → admitted t ours head ≡ h → (j : Result (List ℕ) Refusal) → judged ours id ≡ j → beyond (beyond last j) h ≡ settle_call t ours head id client addresses answered
  unfolding settle_call
  settle-beyond h eh j ej =
      sym (ap (λ (x : Result Settled Refusal). cond (not (in_form t ours)) (Err OutOfForm) (cond (bad_peer ours head) (Err BadPeer) x)) (judged-beyond ours id last)
      ∙ admitted-beyond t ours head (beyond last (judged ours id)) ∙ ap₂ (λ (x y : Result (List ℕ) Refusal). beyond (beyond last x) y) ej eh)

  pub settle-bad-head : (r : Refusal) → admitted t ours head ≡ Err r → SettleAnswers (Err r) t
  unfolding after_settling
  settle-bad-head r e = settle-with (Err r) t (settle-beyond (Err r) e (judged ours id) refl) refl

  module _ (from : List ℕ) (h : admitted t ours head ≡ Ok from) where
    pub settle-bad : (r : Refusal) → judged ours id ≡ Err r → SettleAnswers (Err r) t
    unfolding after_settling
    settle-bad r e = settle-with (Err r) t (settle-beyond (Ok from) h (Err r) e) refl

    module _ (place : List ℕ) (j : judged ours id ≡ Ok place) where
      is-head : from ≡ place_of head
      is-head = admitted-place t ours head from h

      is-newcomer : place ≡ place_of id
      is-newcomer = judged-place ours id place j

      to_last : last ≡ settle_call t ours head id client addresses answered
      to_last = settle-beyond (Ok from) h (Ok place) j

      pub settle-client : client ≡ true → (fit : Bool) (r : Result Settled Refusal) → fit ≡ fits t ours from place → r ≡ client_outcome fit → SettleAnswers r t
      unfolding client_outcome after_settling
      settle-client c fit r ef er =
          settle-with r t (er ∙ ap client_outcome (ef ∙ ap₂ (fits t ours) is-head is-newcomer) ∙ answer (fits t ours (place_of head) (place_of id)) ∙ to_last)
          (same-table fit ∙ ap (after_settling t ours (place_of head) (peer_of id (place_of id) addresses)) (sym er))
        where
          answer : (fit : Bool) → client_outcome fit ≡ cond (not fit) (Err NoLongerFits) (cond client (Err Client) (settlement_of t ours (place_of head) (peer_of id (place_of id) addresses) answered))
          answer true = sym (cond_yes client _ _ c)
          answer false = refl

          same-table : (fit : Bool) → t ≡ after_settling t ours (place_of head) (peer_of id (place_of id) addresses) (client_outcome fit)
          same-table true = refl
          same-table false = refl

      -- of one that is no client they are the core's
      settlement : client ≡ false → settlement_of t ours (place_of head) (peer_of id (place_of id) addresses) answered ≡ last
      unfolding settlement_of
      settlement c =
          cond_ind (λ (x : Result Settled Refusal). settlement_of t ours (place_of head) (peer_of id (place_of id) addresses) answered ≡ x) (not (fits t ours (place_of head) (place_of id))) _ _
          (λ n. cond_no (fits t ours (place_of head) _) _ _ (ap (fits t ours (place_of head)) (place_is id (place_of id) addresses) ∙ not-true _ n))
          (λ _. sym (cond_no client _ _ c))

      pub settle-taken : client ≡ false → (p : Peer) (r : Result Settled Refusal) (u : List ℕ) → p ≡ peer_of id place addresses
          → (r ≡ settlement_of t ours from p answered) × (u ≡ settled_table t ours from p answered) → SettleAnswers r u
      unfolding settled_table
      settle-taken c p r u ep e =
          let q : p ≡ peer_of id (place_of id) addresses = ep ∙ ap (λ (x : List ℕ). peer_of id x addresses) is-newcomer in
          settle-with r u
          (e.0 ∙ ap₂ (λ (x : List ℕ) (y : Peer). settlement_of t ours x y answered) is-head q ∙ settlement c ∙ to_last)
          (e.1 ∙ ap (after_settling t ours from p) (sym e.0) ∙ ap₂ (λ (x : List ℕ) (y : Peer). after_settling t ours x y r) is-head q)

-- ---- remove
module _ (t ours id : List ℕ) where
  abbrev pub RemoveAnswers : Result ⊤ Refusal → List ℕ → Type 0
  RemoveAnswers r u = (r ≡ remove_call t ours id) × (u ≡ remove_call_table t ours id)

  remove-with : (r : Result ⊤ Refusal) (u : List ℕ) → r ≡ remove_call t ours id → u ≡ after_removal t ours (place_of id) r → RemoveAnswers r u
  unfolding remove_call_table
  remove-with r u e g = (e, g ∙ ap (after_removal t ours (place_of id)) e)

  remove-beyond : (a : Result (List ℕ) Refusal) → admitted t ours id ≡ a → beyond (removal_of t (place_of id)) a ≡ remove_call t ours id
  unfolding remove_call
  remove-beyond a e = sym (admitted-beyond t ours id _ ∙ ap (beyond _) e)

  pub remove-bad : (r : Refusal) → admitted t ours id ≡ Err r → RemoveAnswers (Err r) t
  unfolding after_removal
  remove-bad r e = remove-with (Err r) t (remove-beyond (Err r) e) refl

  pub remove-taken : (place : List ℕ) → admitted t ours id ≡ Ok place → (r : Result ⊤ Refusal) (u : List ℕ) → (r ≡ removal_of t place) × (u ≡ removed_table t ours place) → RemoveAnswers r u
  unfolding removed_table
  remove-taken place a r u e =
      let g : place ≡ place_of id = admitted-place t ours id place a in
      remove-with r u
      (e.0 ∙ ap (removal_of t) g ∙ remove-beyond (Ok place) a)
      (e.1 ∙ ap (after_removal t ours place) (sym e.0) ∙ ap (λ (x : List ℕ). after_removal t ours x r) g)

-- ---- doubt
module _ (t ours id : List ℕ) where
  abbrev pub DoubtAnswers : Result ⊤ Refusal → List ℕ → Type 0
  DoubtAnswers r u = (r ≡ doubt_call t ours id) × (u ≡ doubt_call_table t ours id)

  doubt-with : (r : Result ⊤ Refusal) (u : List ℕ) → r ≡ doubt_call t ours id → u ≡ after_marking t (place_of id) r → DoubtAnswers r u
  unfolding doubt_call_table
  doubt-with r u e g = (e, g ∙ ap (after_marking t (place_of id)) e)

  doubt-beyond : (a : Result (List ℕ) Refusal) → admitted t ours id ≡ a → beyond (marking_of t (place_of id)) a ≡ doubt_call t ours id
  unfolding doubt_call
  doubt-beyond a e = sym (admitted-beyond t ours id _ ∙ ap (beyond _) e)

  pub doubt-bad : (r : Refusal) → admitted t ours id ≡ Err r → DoubtAnswers (Err r) t
  unfolding after_marking
  doubt-bad r e = doubt-with (Err r) t (doubt-beyond (Err r) e) refl

  pub doubt-taken : (place : List ℕ) → admitted t ours id ≡ Ok place → (r : Result ⊤ Refusal) (u : List ℕ) → (r ≡ marking_of t place) × (u ≡ marked_table t place) → DoubtAnswers r u
  unfolding marked_table
  doubt-taken place a r u e =
      let g : place ≡ place_of id = admitted-place t ours id place a in
      doubt-with r u
      (e.0 ∙ ap (marking_of t) g ∙ doubt-beyond (Ok place) a)
      (e.1 ∙ ap (after_marking t place) (sym e.0) ∙ ap (λ (x : List ℕ). after_marking t x r) g)

-- What doubt is told and does, and what the other calls make of a marked table. Assumes nothing.
use Prim.Native.Nat.{ℕ, ◌<◌}
use mathlib.Core.Path.{◌≡◌, refl, sym, ap, ap₂, ◌∙◌, subst}
use mathlib.Core.Bool.{Bool, true, false, not, cond}
use mathlib.Core.List.{List}
use native.Mathlib.Omega.{arith}
use borrow.Author.Tests.{not-false}
use Rattle.octets.proofs.Bools.{cond_yes, cond_no, cond_ind}
use Rattle.place.specs.Place.{place_of}
use Rattle.refusal.specs.declared.Refusal.TheVariants.{OutOfForm, BadPeer, NoLongerFits, Client}
use Rattle.contacts.specs.Form.{in_form}
use Rattle.contacts.specs.Claims.{Gives}
use Rattle.contacts.proofs.Claims as contacts
use Rattle.peer.specs.declared.Peer.{Peer}
use Rattle.peer.specs.Peers.{bad_peer, peer_of}
use Rattle.sightings.specs.declared.Sighting.{Sighting}
use Rattle.sightings.specs.declared.Settled.{Settled}
use Rattle.sightings.specs.Order.{held_at}
use Rattle.sightings.specs.Sightings.{held, fits, settlement_of, marking_of, after_marking, marked_table}
use Rattle.sightings_kept.proofs.Doubts.{doubt-marks-one, doubt-ignored, doubt-fits, doubt-settles}
use Rattle.sightings_kept.proofs.Forms.{doubt-keeps}
use Rattle.contact_calls.specs.Calls.{seen_call, settle_call, doubt_call, doubt_call_table, doubt_number}
use Rattle.contact_calls.specs.Claims.{Admits, DoubtTold, DoubtDoes}
use Rattle.std.specs.Prelude.{Ok, Err, Result, ⊤}
use Rattle.refusal.specs.declared.Refusal.{Refusal}

module _ (t ours id : List ℕ) where
  -- ---- the number
  doubt-last : Admits t ours id → doubt_call t ours id ≡ marking_of t (place_of id)
  unfolding doubt_call
  doubt-last a = cond_no (not (in_form t ours)) _ _ (ap not a.form) ∙ cond_no (bad_peer ours id) _ _ a.peer

  pub doubt-told : DoubtTold t ours id (doubt_number (doubt_call t ours id))
  unfolding doubt_call marking_of
  doubt-told = record {
    out_of_form = λ f. ap doubt_number (cond_yes (not (in_form t ours)) _ _ (ap not f));
    bad_id = λ f b. ap doubt_number (cond_no (not (in_form t ours)) _ _ (ap not f) ∙ cond_yes (bad_peer ours id) _ _ b);
    not_held = λ a h. ap doubt_number (doubt-last a ∙ cond_no (held t (place_of id)) _ _ h);
    marked = λ a h. ap doubt_number (doubt-last a ∙ cond_yes (held t (place_of id)) _ _ h);
  }

  -- ---- the table: a refusal leaves it, and else it is in form and the contact, which is held, is marked
  pub doubt-either : (P : Result ⊤ Refusal → List ℕ → Type 0) → ((r : Result ⊤ Refusal) → doubt_number r < 64 → P r t) → (in_form t ours ≡ true → held t (place_of id) ≡ true → P (Ok tt) (marked_table t (place_of id)))
      → P (doubt_call t ours id) (doubt_call_table t ours id)
  unfolding doubt_call_table doubt_call after_marking marking_of marked_table
  doubt-either P left taken =
      step (not (in_form t ours)) _ _ (λ _. left (Err OutOfForm) (omega arith))
      (λ f. step (bad_peer ours id) _ _ (λ _. left (Err BadPeer) (omega arith))
      (λ _. step (held t (place_of id)) _ _ (λ h. marks (not-false _ f) h) (λ _. left (Err NoLongerFits) (omega arith))))
    where
      step : (c : Bool) (r s : Result ⊤ Refusal) → (c ≡ true → P r (after_marking t (place_of id) r)) → (c ≡ false → P s (after_marking t (place_of id) s)) → P (cond c r s) (after_marking t (place_of id) (cond c r s))
      step = cond_ind (λ (r : Result ⊤ Refusal). P r (after_marking t (place_of id) r))

      marks : in_form t ours ≡ true → held t (place_of id) ≡ true → P (Ok tt) (after_marking t (place_of id) (Ok tt))
      marks y h = subst (λ (r : Result ⊤ Refusal). P (Ok tt) (after_marking t (place_of id) r)) (doubt-marks-one t (place_of id) h).0 (taken y h)

  pub doubt-leaves : doubt_number (doubt_call t ours id) < 64 → doubt_call_table t ours id ≡ t
  doubt-leaves = doubt-either (λ r u. doubt_number r < 64 → u ≡ t) (λ r _ _. refl) (λ _ _ l. absurd (omega arith))

  pub doubt-does : DoubtDoes t id (doubt_call t ours id) (doubt_call_table t ours id)
  doubt-does = doubt-either (DoubtDoes t id) refused (λ _ h. (doubt-marks-one t (place_of id) h).1)
    where
      refused : (r : Result ⊤ Refusal) → doubt_number r < 64 → DoubtDoes t id r t
      refused (Ok tt) l = absurd (omega arith)
      refused (Err r) l = refl

  pub doubt-form : in_form t ours ≡ true → in_form (doubt_call_table t ours id) ours ≡ true
  doubt-form = doubt-either (λ _ u. in_form t ours ≡ true → in_form u ours ≡ true) (λ _ _ y. y) (λ y _ _. doubt-keeps t ours (place_of id) y)

  -- ---- nobody is told anything else of a marked table
  pub seen-ignores : (other : List ℕ) (client : Bool) (addresses : List ℕ) → seen_call (doubt_call_table t ours id) ours other client addresses ≡ seen_call t ours other client addresses
  unfolding seen_call
  seen-ignores other client addresses =
      doubt-either (λ _ u. seen_call u ours other client addresses ≡ seen_call t ours other client addresses) (λ _ _. refl)
      (λ y _. ap₂ (λ (f : Bool) (s : Result Sighting Refusal). cond (not f) (Err OutOfForm) (cond (bad_peer ours other) (Err BadPeer) (cond client (Err Client) s)))
      (doubt-keeps t ours (place_of id) y ∙ sym y) (doubt-ignored t (place_of id) ours (peer_of other (place_of other) addresses)))

  pub settle-ignores : (head other : List ℕ) (client : Bool) (addresses : List ℕ) (answered : Bool)
      → settle_call (doubt_call_table t ours id) ours head other client addresses answered ≡ settle_call t ours head other client addresses answered
  unfolding settle_call
  settle-ignores head other client addresses answered =
      doubt-either (λ _ u. settle_call u ours head other client addresses answered ≡ settle_call t ours head other client addresses answered) (λ _ _. refl)
      (λ y _. ap₂ (λ (f g : Bool). judged f g (settlement_of (marked_table t (place_of id)) ours (place_of head) newcomer answered)) (doubt-keeps t ours (place_of id) y ∙ sym y)
      (doubt-fits t (place_of id) ours (place_of head) (place_of other)) ∙ ap (judged (in_form t ours) (fits t ours (place_of head) (place_of other))) (doubt-settles t (place_of id) ours (place_of head) newcomer answered))
    where
      newcomer : Peer
      newcomer = peer_of other (place_of other) addresses

      judged : Bool → Bool → Result Settled Refusal → Result Settled Refusal
      judged f g last =
          cond (not f) (Err OutOfForm)
          (cond (bad_peer ours head) (Err BadPeer)
          (cond (bad_peer ours other) (Err BadPeer) (cond (not g) (Err NoLongerFits) (cond client (Err Client) last))))

  -- ---- who is marked isn't given
  pub marked-hidden : (x : List ℕ) → doubt_number (doubt_call t ours id) ≡ 64 → Gives (doubt_call_table t ours id) x (held_at t (place_of id)) → ⊥
  marked-hidden x =
      doubt-either (λ r u. doubt_number r ≡ 64 → Gives u x (held_at t (place_of id)) → ⊥) (λ r l e. absurd (omega (arith, l, e)))
      (λ _ h _. (contacts.claims).passes_over (marked_table t (place_of id)) x (held_at t (place_of id)) (doubt-marks-one t (place_of id) h).1.marked)

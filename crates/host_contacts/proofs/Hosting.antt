-- The host's calls on contacts, for a box: from the calls of the crate below. Assumes nothing.
use Prim.Native.Nat.{ℕ}
use mathlib.Core.Path.{◌≡◌, refl, sym, ap, ◌∙◌}
use mathlib.Core.Bool.{Bool, true, false, cond, not}
use mathlib.Core.List.{List}
use borrow.Author.Tests.{not-true}
use Rattle.octets.proofs.Bools.{cond_yes, cond_no, cond_ind}
use Rattle.refusal.specs.declared.Refusal.{Refusal}
use Rattle.refusal.specs.declared.Refusal.TheVariants.{OutOfForm, BadPeer}
use Rattle.peer.specs.declared.Peer.{Peer}
use Rattle.contacts.specs.Form.{in_form}
use Rattle.sightings.specs.declared.Sighting.{Sighting}
use Rattle.sightings.specs.declared.Settled.{Settled}
use Rattle.contact_calls.specs.Calls.{seen_call, seen_call_table, settle_call, settle_call_table, remove_call, remove_call_table, doubt_call, doubt_call_table}
use Rattle.connections.specs.Box.{own_fits}
use Rattle.host_contacts.specs.Contacts.{gated, seen_of, seen_after, settle_of, settle_after, remove_of, remove_after, doubt_of, doubt_after}
use Rattle.host_contacts.specs.Inner.{refusal_of_box}
use Rattle.std.specs.Prelude.{Err, Result, ⊤}

-- ---- a box that no start gives
pub box-form : (t ours : List ℕ) → in_form t ours ≡ true → BadPeer ≡ refusal_of_box t ours
box-form t ours h = sym (cond_yes (in_form t ours) BadPeer OutOfForm h)

pub box-broken : (t ours : List ℕ) → in_form t ours ≡ false → OutOfForm ≡ refusal_of_box t ours
box-broken t ours h = sym (cond_no (in_form t ours) BadPeer OutOfForm h)

module _ {A : Type 0} (me : Peer) (t : List ℕ) where
  turned : (f : Refusal → A) (b : Bool) → f (cond b BadPeer OutOfForm) ≡ cond (not b) (f OutOfForm) (f BadPeer)
  turned f true = refl
  turned f false = refl

  box-off : (f : Refusal → A) (rest : A) (x : Refusal) → own_fits me ≡ false → x ≡ refusal_of_box t me.place → f x ≡ gated me t (f OutOfForm) (f BadPeer) rest
  box-off f rest x h e =
      ap f e ∙ turned f (in_form t me.place)
      ∙ ap (cond (not (in_form t me.place)) (f OutOfForm)) (sym (cond_yes (not (own_fits me)) (f BadPeer) rest (ap not h)))

  box-on : (zero twelve rest : A) → own_fits me ≡ true → (in_form t me.place ≡ false → rest ≡ zero) → rest ≡ gated me t zero twelve rest
  box-on zero twelve rest h z =
      cond_ind (λ (x : A). rest ≡ x) (not (in_form t me.place)) zero (cond (not (own_fits me)) twelve rest) (λ e. z (not-true (in_form t me.place) e))
      (λ e. sym (cond_no (not (own_fits me)) twelve rest (ap not h)))

-- ---- seen
module _ (me : Peer) (t id : List ℕ) (client : Bool) (addresses : List ℕ) where
  pub seen-off : (x : Refusal) → own_fits me ≡ false → x ≡ refusal_of_box t me.place → (Err x ≡ seen_of me t id client addresses) × (t ≡ seen_after me t id client addresses)
  unfolding seen_of seen_after
  seen-off x h e = (box-off me t Err (seen_call t me.place id client addresses) x h e, sym (cond_no (own_fits me) _ t h))

  seen-zero : in_form t me.place ≡ false → seen_call t me.place id client addresses ≡ Err OutOfForm
  unfolding seen_call
  seen-zero h = cond_yes (not (in_form t me.place)) _ _ (ap not h)

  pub seen-on : (r : Result Sighting Refusal) (u : List ℕ) → own_fits me ≡ true → (r ≡ seen_call t me.place id client addresses) × (u ≡ seen_call_table t me.place id client addresses)
      → (r ≡ seen_of me t id client addresses) × (u ≡ seen_after me t id client addresses)
  unfolding seen_of seen_after
  seen-on r u h e =
      (e.0 ∙ box-on me t (Err OutOfForm) (Err BadPeer) (seen_call t me.place id client addresses) h seen-zero, e.1 ∙ sym (cond_yes (own_fits me) _ t h))

-- ---- settle
module _ (me : Peer) (t head id : List ℕ) (client : Bool) (addresses : List ℕ) (answered : Bool) where
  pub settle-off : (x : Refusal) → own_fits me ≡ false → x ≡ refusal_of_box t me.place
      → (Err x ≡ settle_of me t head id client addresses answered) × (t ≡ settle_after me t head id client addresses answered)
  unfolding settle_of settle_after
  settle-off x h e = (box-off me t Err (settle_call t me.place head id client addresses answered) x h e, sym (cond_no (own_fits me) _ t h))

  settle-zero : in_form t me.place ≡ false → settle_call t me.place head id client addresses answered ≡ Err OutOfForm
  unfolding settle_call
  settle-zero h = cond_yes (not (in_form t me.place)) _ _ (ap not h)

  pub settle-on : (r : Result Settled Refusal) (u : List ℕ) → own_fits me ≡ true
      → (r ≡ settle_call t me.place head id client addresses answered) × (u ≡ settle_call_table t me.place head id client addresses answered)
      → (r ≡ settle_of me t head id client addresses answered) × (u ≡ settle_after me t head id client addresses answered)
  unfolding settle_of settle_after
  settle-on r u h e = (
    e.0 ∙ box-on me t (Err OutOfForm) (Err BadPeer) (settle_call t me.place head id client addresses answered) h settle-zero,
    e.1 ∙ sym (cond_yes (own_fits me) _ t h),
  )

-- ---- remove
module _ (me : Peer) (t id : List ℕ) where
  pub remove-off : (x : Refusal) → own_fits me ≡ false → x ≡ refusal_of_box t me.place → (Err x ≡ remove_of me t id) × (t ≡ remove_after me t id)
  unfolding remove_of remove_after
  remove-off x h e = (box-off me t Err (remove_call t me.place id) x h e, sym (cond_no (own_fits me) _ t h))

  remove-zero : in_form t me.place ≡ false → remove_call t me.place id ≡ Err OutOfForm
  unfolding remove_call
  remove-zero h = cond_yes (not (in_form t me.place)) _ _ (ap not h)

  pub remove-on : (r : Result ⊤ Refusal) (u : List ℕ) → own_fits me ≡ true → (r ≡ remove_call t me.place id) × (u ≡ remove_call_table t me.place id)
      → (r ≡ remove_of me t id) × (u ≡ remove_after me t id)
  unfolding remove_of remove_after
  remove-on r u h e =
      (e.0 ∙ box-on me t (Err OutOfForm) (Err BadPeer) (remove_call t me.place id) h remove-zero, e.1 ∙ sym (cond_yes (own_fits me) _ t h))

-- ---- doubt
module _ (me : Peer) (t id : List ℕ) where
  pub doubt-off : (x : Refusal) → own_fits me ≡ false → x ≡ refusal_of_box t me.place → (Err x ≡ doubt_of me t id) × (t ≡ doubt_after me t id)
  unfolding doubt_of doubt_after
  doubt-off x h e = (box-off me t Err (doubt_call t me.place id) x h e, sym (cond_no (own_fits me) _ t h))

  doubt-zero : in_form t me.place ≡ false → doubt_call t me.place id ≡ Err OutOfForm
  unfolding doubt_call
  doubt-zero h = cond_yes (not (in_form t me.place)) _ _ (ap not h)

  pub doubt-on : (r : Result ⊤ Refusal) (u : List ℕ) → own_fits me ≡ true → (r ≡ doubt_call t me.place id) × (u ≡ doubt_call_table t me.place id)
      → (r ≡ doubt_of me t id) × (u ≡ doubt_after me t id)
  unfolding doubt_of doubt_after
  doubt-on r u h e =
      (e.0 ∙ box-on me t (Err OutOfForm) (Err BadPeer) (doubt_call t me.place id) h doubt-zero, e.1 ∙ sym (cond_yes (own_fits me) _ t h))

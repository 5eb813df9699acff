-- Seen, settle and remove leave every contact at the hash of its id, where newcomers are. Assumes nothing.
use Prim.Native.Nat.{ℕ, ◌<◌}
use mathlib.Core.Path.{◌≡◌, sym, ap, ◌∙◌, subst}
use mathlib.Core.Logic.{⊎_elim}
use mathlib.Core.Bool.{Bool, true, false}
use mathlib.Core.List.{List}
use lib.Dec.{leb, ltb}
use borrow.Author.Tests.{leb-false, ltb-true}
use Rattle.octets.proofs.Bools.{not-both, either, eq-or-ne, cond_yes, cond_no}
use Rattle.limits.specs.Limits.{bucket_size}
use Rattle.place.specs.Place.{place_of, bucket_of}
use Rattle.contacts.specs.Table.{slots_of, slot, used, place, id}
use Rattle.contacts.specs.Form.{in_form}
use Rattle.contact_form.proofs.FormFacts.{form-elim}
use Rattle.peer.specs.declared.Peer.{Peer}
use Rattle.peer.specs.Peers.{id_in, addresses_in}
use Rattle.sightings.specs.Order.{held_at, free_at, tail_of, dropped}
use Rattle.sightings.specs.Sightings.{held, newcomer, sighting_of, seen_table, fits, settled_table, removed_table}
use Rattle.contact_order.proofs.Tests.{held-lt, held-is, at-used, at_place}
use Rattle.sightings.proofs.Dropping.{none_free}
use Rattle.sightings.proofs.Calls.{fits-held}
use Rattle.sightings_kept.specs.Promises.{Fair, SameContact, Others, HeldSeen, NewSeen, Freed, Hashed, HashedPeer}
use Rattle.sightings_kept.proofs.Ordered.{from-form}
use Rattle.sightings_kept.proofs.Theorems.{full-changes-nothing, no-slot-changes-nothing, stale-same, not-held-same, frees, seen-held, seen-new, remove-frees, settle-answered, settle-silent}

-- a slot that says the same of a contact
same-hashed : (s v : List ℕ) → SameContact s v → (used v ≡ true → place v ≡ place_of (id v)) → used s ≡ true → place s ≡ place_of (id s)
same-hashed s v e h u = e.same_place ∙ h (sym e.same_use ∙ u) ∙ ap place_of (sym e.same_id)

-- all but slot i stay, and slot i is as it should be
but-one : (t o u : List ℕ) (i : ℕ) → Others t o u (λ j. j ≡ i) → Hashed t → (used (slot u i) ≡ true → place (slot u i) ≡ place_of (id (slot u i))) → Hashed u
but-one t o u i x h k j lj uj = ⊎_elim (λ e. here e) (λ n. other n) (eq-or-ne j i)
  where
    lt : j < slots_of t
    lt = subst (λ (n : ℕ). j < n) x.slots lj

    here : j ≡ i → place (slot u j) ≡ place_of (id (slot u j))
    here e = subst (λ (n : ℕ). used (slot u n) ≡ true → place (slot u n) ≡ place_of (id (slot u n))) (sym e) k uj

    other : (j ≡ i → ⊥) → place (slot u j) ≡ place_of (id (slot u j))
    other n = same-hashed (slot u j) (slot t j) (x.contact j lt n) (h j lt) uj

module _ (o : List ℕ) (p : Peer) (P : HashedPeer p) where
  held-hashed : (t u : List ℕ) (i : ℕ) → i < slots_of t → used (slot t i) ≡ true → place (slot t i) ≡ p.place → HeldSeen t o p.place (addresses_in p) i u → Hashed t → Hashed u
  held-hashed t u i l ui e x h =
      but-one t o u i x.others h (λ v. at_place p.place (slot u i) x.tail.here ∙ sym e ∙ h i l ui ∙ ap place_of (sym x.same_id))

  new-hashed : (t u : List ℕ) (i : ℕ) → NewSeen t o p.place (id_in p) (addresses_in p) i u → Hashed t → Hashed u
  new-hashed t u i x h = but-one t o u i x.others h (λ v. at_place p.place (slot u i) x.tail.here ∙ P ∙ ap place_of (sym x.same_id))

freed-hashed : (t o p : List ℕ) (i : ℕ) (u : List ℕ) → Freed t o p i u → Hashed t → Hashed u
freed-hashed t o p i u x h = but-one t o u i x.others h (λ v. absurd (not-both (used (slot u i)) v (ap used x.cleared ∙ none_free)))

pub remove-hashed : (t o p : List ℕ) → in_form t o ≡ true → Hashed t → Hashed (removed_table t o p)
remove-hashed t o p y h =
    ⊎_elim (λ e. freed-hashed t o p (held_at t p) (removed_table t o p) (remove-frees t o p y e).1 h) (λ e. subst Hashed (sym (not-held-same t o p e)) h) (either (held t p))

module _ (t o : List ℕ) (p : Peer) (G : Fair o p) (P : HashedPeer p) (y : in_form t o ≡ true) (h : Hashed t) where
  -- a peer that isn't held
  unless-new : held t p.place ≡ false → Hashed (seen_table t o p)
  unfolding sighting_of newcomer
  unless-new e = ⊎_elim full (λ r. ⊎_elim (room r) (none r) (either (ltb (free_at t) (slots_of t)))) (either (leb bucket_size (tail_of t o (bucket_of p.place o))))
    where
      full : leb bucket_size (tail_of t o (bucket_of p.place o)) ≡ true → Hashed (seen_table t o p)
      full f = subst Hashed (sym (full-changes-nothing t o p _ (cond_no (held t p.place) _ _ e ∙ cond_yes _ _ _ f))) h

      room : leb bucket_size (tail_of t o (bucket_of p.place o)) ≡ false → ltb (free_at t) (slots_of t) ≡ true → Hashed (seen_table t o p)
      room r f = new-hashed o p P t (seen_table t o p) (free_at t) (seen-new t o p G e (leb-false bucket_size _ r) (ltb-true _ _ f)).1 h

      none : leb bucket_size (tail_of t o (bucket_of p.place o)) ≡ false → ltb (free_at t) (slots_of t) ≡ false → Hashed (seen_table t o p)
      none r f = subst Hashed (sym (no-slot-changes-nothing t o p (cond_no (held t p.place) _ _ e ∙ cond_no _ _ _ r ∙ cond_no _ _ _ f))) h

  pub seen-hashed : Hashed (seen_table t o p)
  seen-hashed = ⊎_elim was-held unless-new (either (held t p.place))
    where
      was-held : held t p.place ≡ true → Hashed (seen_table t o p)
      was-held e =
          let l = held-lt t p.place e in
          let a = held-is t p.place l in
          held-hashed o p P t (seen_table t o p) (held_at t p.place) l (at-used p.place _ a) (at_place p.place _ a) (seen-held t o p G y e) h

  pub settle-hashed : (head : List ℕ) (answered : Bool) → Hashed (settled_table t o head p answered)
  settle-hashed head answered = ⊎_elim (λ f. fit f answered) (λ f. subst Hashed (sym (stale-same t o head p answered f)) h) (either (fits t o head p.place))
    where
      fit : fits t o head p.place ≡ true → (b : Bool) → Hashed (settled_table t o head p b)
      fit f true =
          let x = (settle-answered t o head p y f).1 in
          let l = fits-held t o head p.place f in
          but-one t o (settled_table t o head p true) (held_at t head) x.others h (same-hashed _ _ x.same_head (h (held_at t head) l))
      fit f false =
          let x = (settle-silent t o head p y f G).1 in
          let l = fits-held t o head p.place f in
          new-hashed o p P (dropped t o (held_at t head)) (settled_table t o head p false) _ x.newcomer
          (freed-hashed t o head (held_at t head) (dropped t o (held_at t head)) (frees t o (from-form t o (form-elim t o y)) head l) h)

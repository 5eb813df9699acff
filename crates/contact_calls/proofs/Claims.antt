-- The claims, each by its law. Assumes nothing.
use Prim.Native.Nat.{ℕ, ◌<◌, ◌≤◌}
use mathlib.Core.Path.{◌≡◌, refl, sym, ap, ◌∙◌, subst}
use mathlib.Core.Logic.{◌⊎◌, ⊎_elim}
use mathlib.Core.Bool.{Bool, true, false, not, cond}
use mathlib.Core.List.{List}
use native.Mathlib.Omega.{arith}
use lib.Dec.{ltb, leb}
use lib.ListN.{length}
use borrow.Author.Tests.{not-false, leb-true, leb-false, ltb-true}
use Rattle.octets.specs.Octets.{Bytes}
use Rattle.octets.proofs.Bools.{either, not-both, cond_yes, cond_no, cond_ind}
use Rattle.place.specs.Place.{place_of, bucket_of}
use Rattle.refusal.specs.declared.Refusal.TheVariants.{NoContactSlot, NoLongerFits, Client}
use Rattle.contacts.specs.Table.{slots_of, slot, used}
use Rattle.contacts.specs.Form.{in_form}
use Rattle.contacts.specs.Claims.{GivesFirst}
use Rattle.peer.specs.declared.Peer.{Peer}
use Rattle.peer.specs.Addresses.{kept_of}
use Rattle.peer.specs.Peers.{bad_peer, peer_of, id_in, addresses_in}
use Rattle.peer.proofs.Meaning.{id-whole, addresses-said, fits-most, not-bad-id}
use Rattle.sightings.specs.declared.Sighting.{Sighting}
use Rattle.sightings.specs.declared.Sighting.TheVariants as seen
use Rattle.sightings.specs.declared.Settled.{Settled}
use Rattle.sightings.specs.declared.Settled.TheVariants as settle
use Rattle.sightings.specs.Order.{held_at, free_at, tail_of}
use Rattle.sightings.specs.Sightings.{held, newcomer, sighting_of, after_sighting, seen_table, fits, settlement_of, after_settling, settled_table, removal_of, after_removal, removed_table}
use Rattle.sightings_kept.specs.Promises.{Fair, SameContact, AtTail, HeldSeen, NewSeen, HeadGone, StillFits, holds}
use Rattle.sightings_kept.proofs.Theorems.{held-never-refused, no-slot-changes-nothing, seen-new}
use Rattle.sightings_kept.proofs.Holds.{full-refused, one_left, none_left, fits-still, still-fits, still-fails}
use Rattle.sightings_kept.proofs.Claims.{claims as kept}
use Rattle.contact_calls.specs.Calls.{seen_call, seen_call_table, settle_call, settle_call_table, remove_call, remove_call_table, seen_number, settle_number, remove_number}
use Rattle.contact_calls.specs.Claims.{Admits, Neither13Nor14, SeenDoes, SettleDoes, RemoveDoes, Claims}
use Rattle.contact_calls.proofs.Doubts.{doubt-told, doubt-leaves, doubt-does, doubt-form, seen-ignores, settle-ignores, marked-hidden}
use Rattle.contact_calls.proofs.Theorems.{cleared-in-form, fair, seen-call-keeps, settle-call-keeps, removal-keeps}
use Rattle.std.specs.Prelude.{Ok, Err, Result, ⊤}
use Rattle.refusal.specs.declared.Refusal.{Refusal}

-- ---- the number of a seen
module _ (t ours id : List ℕ) (client : Bool) (addresses : List ℕ) where
  abbrev told : ℕ
  told = seen_number (seen_call t ours id client addresses)

  seen-zero : in_form t ours ≡ false → told ≡ 0
  unfolding seen_call
  seen-zero f = ap seen_number (cond_yes (not (in_form t ours)) _ _ (ap not f))

  seen-twelve : in_form t ours ≡ true → bad_peer ours id ≡ true → told ≡ 12
  unfolding seen_call
  seen-twelve f b = ap seen_number (cond_no (not (in_form t ours)) _ _ (ap not f) ∙ cond_yes (bad_peer ours id) _ _ b)

  module _ (a : Admits t ours id) where
    seen-eighteen : client ≡ true → told ≡ 18
    unfolding seen_call
    seen-eighteen c = ap seen_number (cond_no (not (in_form t ours)) _ _ (ap not a.form) ∙ cond_no (bad_peer ours id) _ _ a.peer ∙ cond_yes client _ _ c)

    -- where it is no client, the number goes by the sighting
    by-sighting : client ≡ false → (s : Result Sighting Refusal) → sighting_of t ours (peer_of id (place_of id) addresses) ≡ s → told ≡ seen_number s
    unfolding seen_call
    by-sighting c s e =
        ap seen_number (cond_no (not (in_form t ours)) _ _ (ap not a.form) ∙ cond_no (bad_peer ours id) _ _ a.peer ∙ cond_no client _ _ c ∙ e)

    seen-moved : client ≡ false → held t (place_of id) ≡ true → told ≡ 64
    unfolding peer_of
    seen-moved c h = by-sighting c ((Ok (seen.Moved (held_at t (place_of id))))) (held-never-refused t ours (peer_of id (place_of id) addresses) h)

    module _ (c : client ≡ false) (new : held t (place_of id) ≡ false) where
      seen-full : 20 ≤ holds t ours (bucket_of (place_of id) ours) → told ≡ 13
      unfolding peer_of
      seen-full l = by-sighting c _ (full-refused t ours (peer_of id (place_of id) addresses) a.form new l)

      seen_none : holds t ours (bucket_of (place_of id) ours) < 20 → ((j : ℕ) → j < slots_of t → used (slot t j) ≡ true) → told ≡ 14
      unfolding peer_of
      seen_none l all = by-sighting c (Err NoContactSlot) (none_left t ours (peer_of id (place_of id) addresses) a.form new l all)

      seen-joined : holds t ours (bucket_of (place_of id) ours) < 20 → (j : ℕ) → j < slots_of t → used (slot t j) ≡ false → told ≡ 65
      unfolding peer_of
      seen-joined l j lj free = by-sighting c (Ok (seen.Joined (free_at t))) (one_left t ours (peer_of id (place_of id) addresses) a.form new l j lj free)

  -- ---- "a peer already held is never 13 or 14", and neither is a client
  never : (client ≡ false → Neither13Nor14 (seen_number (sighting_of t ours (peer_of id (place_of id) addresses)))) → Neither13Nor14 told
  unfolding seen_call
  never last =
      step (not (in_form t ours)) _ _ (λ _. (λ e. omega arith, λ e. omega arith))
      (λ _. step (bad_peer ours id) _ _ (λ _. (λ e. omega arith, λ e. omega arith)) (λ _. step client _ _ (λ _. (λ e. omega arith, λ e. omega arith)) last))
    where
      step : (c : Bool) (r s : Result Sighting Refusal) → (c ≡ true → Neither13Nor14 (seen_number r)) → (c ≡ false → Neither13Nor14 (seen_number s)) → Neither13Nor14 (seen_number (cond c r s))
      step = cond_ind (λ (r : Result Sighting Refusal). Neither13Nor14 (seen_number r))

  held-never : held t (place_of id) ≡ true → Neither13Nor14 told
  unfolding peer_of
  held-never h = never (λ _. subst (λ (s : Result Sighting Refusal). Neither13Nor14 (seen_number s)) (sym (held-never-refused t ours (peer_of id (place_of id) addresses) h)) (λ e. omega arith, λ e. omega arith))

  client-never : client ≡ true → Neither13Nor14 told
  client-never c = never (λ f. absurd (not-both client c f))

-- ---- the number of a settle
module _ (t ours head id : List ℕ) (client : Bool) (addresses : List ℕ) (answered : Bool) where
  abbrev settled : ℕ
  settled = settle_number (settle_call t ours head id client addresses answered)

  settle-zero : in_form t ours ≡ false → settled ≡ 0
  unfolding settle_call
  settle-zero f = ap settle_number (cond_yes (not (in_form t ours)) _ _ (ap not f))

  module _ (f : in_form t ours ≡ true) where
    settle-bad-head : bad_peer ours head ≡ true → settled ≡ 12
    unfolding settle_call
    settle-bad-head b = ap settle_number (cond_no (not (in_form t ours)) _ _ (ap not f) ∙ cond_yes (bad_peer ours head) _ _ b)

    settle-bad-id : bad_peer ours id ≡ true → settled ≡ 12
    unfolding settle_call
    settle-bad-id b = ⊎_elim settle-bad-head other (either (bad_peer ours head))
      where
        other : bad_peer ours head ≡ false → settle_number (settle_call t ours head id client addresses answered) ≡ 12
        other g = ap settle_number (cond_no (not (in_form t ours)) _ _ (ap not f) ∙ cond_no (bad_peer ours head) _ _ g ∙ cond_yes (bad_peer ours id) _ _ b)

  module _ (a : Admits t ours head) (b : Admits t ours id) where
    -- the last answers
    judged : settle_call t ours head id client addresses answered
        ≡ cond (not (fits t ours (place_of head) (place_of id))) (Err NoLongerFits)
        (cond client (Err Client) (settlement_of t ours (place_of head) (peer_of id (place_of id) addresses) answered))
    unfolding settle_call
    judged = cond_no (not (in_form t ours)) _ _ (ap not a.form) ∙ cond_no (bad_peer ours head) _ _ a.peer ∙ cond_no (bad_peer ours id) _ _ b.peer

    settle-stale : (StillFits t ours (place_of head) (place_of id) → ⊥) → settled ≡ 15
    settle-stale n = ap settle_number (judged ∙ cond_yes (not (fits t ours (place_of head) (place_of id))) _ _ (ap not (still-fails t ours (place_of head) (place_of id) a.form n)))

    module _ (s : StillFits t ours (place_of head) (place_of id)) where
      fit : fits t ours (place_of head) (place_of id) ≡ true
      fit = still-fits t ours (place_of head) (place_of id) a.form s

      fitting : settle_call t ours head id client addresses answered ≡ cond client (Err Client) (settlement_of t ours (place_of head) (peer_of id (place_of id) addresses) answered)
      fitting = judged ∙ cond_no (not (fits t ours (place_of head) (place_of id))) _ _ (ap not fit)

      settle-client : client ≡ true → settled ≡ 18
      settle-client c = ap settle_number (fitting ∙ cond_yes client _ _ c)

      settle-kept : client ≡ false → answered ≡ true → settled ≡ 64
      unfolding peer_of settlement_of
      settle-kept c e = ap settle_number (fitting ∙ cond_no client _ _ c ∙ cond_yes (fits t ours (place_of head) (place_of id)) _ _ fit ∙ cond_yes answered _ _ e)

      settle-swapped : client ≡ false → answered ≡ false → settled ≡ 65
      unfolding peer_of settlement_of
      settle-swapped c e = ap settle_number (fitting ∙ cond_no client _ _ c ∙ cond_yes (fits t ours (place_of head) (place_of id)) _ _ fit ∙ cond_no answered _ _ e)

-- ---- the number of a remove
module _ (t ours id : List ℕ) where
  abbrev removed : ℕ
  removed = remove_number (remove_call t ours id)

  remove-zero : in_form t ours ≡ false → removed ≡ 0
  unfolding remove_call
  remove-zero f = ap remove_number (cond_yes (not (in_form t ours)) _ _ (ap not f))

  remove-twelve : in_form t ours ≡ true → bad_peer ours id ≡ true → removed ≡ 12
  unfolding remove_call
  remove-twelve f b = ap remove_number (cond_no (not (in_form t ours)) _ _ (ap not f) ∙ cond_yes (bad_peer ours id) _ _ b)

  remove-last : Admits t ours id → remove_call t ours id ≡ removal_of t (place_of id)
  unfolding remove_call
  remove-last a = cond_no (not (in_form t ours)) _ _ (ap not a.form) ∙ cond_no (bad_peer ours id) _ _ a.peer

  remove-not-held : Admits t ours id → held t (place_of id) ≡ false → removed ≡ 15
  unfolding removal_of
  remove-not-held a h = ap remove_number (remove-last a ∙ cond_no (held t (place_of id)) _ _ h)

  remove-gone : Admits t ours id → held t (place_of id) ≡ true → removed ≡ 64
  unfolding removal_of
  remove-gone a h = ap remove_number (remove-last a ∙ cond_yes (held t (place_of id)) _ _ h)

-- ---- a number under 64 leaves the table
seen_same : (t o : List ℕ) (p : Peer) (r : Result Sighting Refusal) → seen_number r < 64 → after_sighting t o p r ≡ t
unfolding after_sighting
seen_same t o p (Ok (seen.Moved i)) l = absurd (omega arith)
seen_same t o p (Ok (seen.Joined i)) l = absurd (omega arith)
seen_same t o p (Ok (seen.Probe h)) l = refl
seen_same t o p (Err r) l = refl

settle-same : (t o h : List ℕ) (p : Peer) (r : Result Settled Refusal) → settle_number r < 64 → after_settling t o h p r ≡ t
unfolding after_settling
settle-same t o h p (Ok settle.Kept) l = absurd (omega arith)
settle-same t o h p (Ok settle.Swapped) l = absurd (omega arith)
settle-same t o h p (Err r) l = refl

remove-same : (t o p : List ℕ) (r : Result ⊤ Refusal) → remove_number r < 64 → after_removal t o p r ≡ t
unfolding after_removal
remove-same t o p (Ok tt) l = absurd (omega arith)
remove-same t o p (Err r) l = refl

seen-leaves : (t ours id : List ℕ) (client : Bool) (addresses : List ℕ) → seen_number (seen_call t ours id client addresses) < 64 → seen_call_table t ours id client addresses ≡ t
unfolding seen_call_table
seen-leaves t ours id client addresses = seen_same t ours (peer_of id (place_of id) addresses) (seen_call t ours id client addresses)

settle-leaves : (t ours head id : List ℕ) (client : Bool) (addresses : List ℕ) (answered : Bool) → settle_number (settle_call t ours head id client addresses answered) < 64
    → settle_call_table t ours head id client addresses answered ≡ t
unfolding settle_call_table
settle-leaves t ours head id client addresses answered = settle-same t ours (place_of head) (peer_of id (place_of id) addresses) (settle_call t ours head id client addresses answered)

remove-leaves : (t ours id : List ℕ) → remove_number (remove_call t ours id) < 64 → remove_call_table t ours id ≡ t
unfolding remove_call_table
remove-leaves t ours id = remove-same t ours (place_of id) (remove_call t ours id)

-- ---- what each answer does
-- the peer that is made of an id and addresses says them: the id if refusal 12 lets it in, of the addresses those that are kept
module _ (t ours id addresses : List ℕ) where
  abbrev peer : Peer
  peer = peer_of id (place_of id) addresses

  as-held : (i : ℕ) (u : List ℕ) → HeldSeen t ours (place_of id) (addresses_in peer) i u → HeldSeen t ours (place_of id) (kept_of addresses) i u
  as-held i u = subst (λ (x : List (List ℕ)). HeldSeen t ours (place_of id) x i u) (addresses-said id (place_of id) addresses)

  module _ (g : bad_peer ours id ≡ false) where
    own-id : id_in peer ≡ id
    own-id = id-whole id (place_of id) addresses (fits-most id (not-bad-id ours id g))

    as-new : (i : ℕ) (u : List ℕ) → NewSeen t ours (place_of id) (id_in peer) (addresses_in peer) i u → NewSeen t ours (place_of id) id (kept_of addresses) i u
    as-new i u n =
        subst (λ (x : List ℕ). NewSeen t ours (place_of id) x (kept_of addresses) i u) own-id
        (subst (λ (x : List (List ℕ)). NewSeen t ours (place_of id) (id_in peer) x i u) (addresses-said id (place_of id) addresses) n)

    as-gone : (head u : List ℕ) → HeadGone t ours head (place_of id) (id_in peer) (addresses_in peer) u → HeadGone t ours head (place_of id) id (kept_of addresses) u
    as-gone head u n =
        subst (λ (x : List ℕ). HeadGone t ours head (place_of id) x (kept_of addresses) u) own-id
        (subst (λ (x : List (List ℕ)). HeadGone t ours head (place_of id) (id_in peer) x u) (addresses-said id (place_of id) addresses) n)

    -- a sighting
    module _ (y : in_form t ours ≡ true) (G : Fair ours peer) where
      abbrev Does : Result Sighting Refusal → Type 0
      Does s = SeenDoes t ours id addresses s (seen_table t ours peer)

      answered : (s : Result Sighting Refusal) → sighting_of t ours peer ≡ s → Does s → Does (sighting_of t ours peer)
      answered s e d = subst Does (sym e) d

      was-held : held t (place_of id) ≡ true → Does (sighting_of t ours peer)
      unfolding peer_of
      was-held h = let k = (kept t ours y).moved peer G h in answered ((Ok (seen.Moved (held_at t (place_of id))))) k.0 (as-held _ _ k.1)

      is-new : held t (place_of id) ≡ false → Does (sighting_of t ours peer)
      unfolding peer_of sighting_of newcomer
      is-new h =
          ⊎_elim full (λ r. ⊎_elim (joined r) (none r) (either (ltb (free_at t) (slots_of t)))) (either (leb 20 (tail_of t ours (bucket_of (place_of id) ours))))
        where
          full : leb 20 (tail_of t ours (bucket_of (place_of id) ours)) ≡ true → Does (sighting_of t ours peer)
          full f =
              let k = (kept t ours y).full peer h (omega (arith, leb-true 20 (tail_of t ours (bucket_of (place_of id) ours)) f, (kept t ours y).counted (bucket_of (place_of id) ours))) in
              answered (Ok (seen.Probe k.0)) k.1 (k.2, k.3, k.4)

          joined : leb 20 (tail_of t ours (bucket_of (place_of id) ours)) ≡ false → ltb (free_at t) (slots_of t) ≡ true → Does (sighting_of t ours peer)
          joined r f =
              let k = seen-new t ours peer G h (leb-false 20 (tail_of t ours (bucket_of (place_of id) ours)) r) (ltb-true (free_at t) (slots_of t) f) in
              answered (Ok (seen.Joined (free_at t))) k.0 (as-new _ _ k.1)

          none : leb 20 (tail_of t ours (bucket_of (place_of id) ours)) ≡ false → ltb (free_at t) (slots_of t) ≡ false → Does (sighting_of t ours peer)
          none r f = let e = cond_no (held t (place_of id)) _ _ h ∙ cond_no (leb 20 (tail_of t ours (bucket_of (place_of id) ours))) _ _ r ∙ cond_no (ltb (free_at t) (slots_of t)) _ _ f in
              answered (Err NoContactSlot) e (no-slot-changes-nothing t ours peer e)

      sighting-does : Does (sighting_of t ours peer)
      sighting-does = ⊎_elim was-held is-new (either (held t (place_of id)))

module _ (t ours : List ℕ) (l : length ours ≡ 32) (b : Bytes ours) where
  seen-does : (id : List ℕ) (client : Bool) (addresses : List ℕ) → SeenDoes t ours id addresses (seen_call t ours id client addresses) (seen_call_table t ours id client addresses)
  unfolding seen_call_table seen_call after_sighting seen_table
  seen-does id client addresses =
      step (not (in_form t ours)) _ _ (λ _. refl) (λ f. step (bad_peer ours id) _ _ (λ _. refl) (λ g. step client _ _ (λ _. refl) (λ _. taken (not-false _ f) g)))
    where
      step : (c : Bool) (r s : Result Sighting Refusal) → (c ≡ true → SeenDoes t ours id addresses r (after_sighting t ours (peer_of id (place_of id) addresses) r))
          → (c ≡ false → SeenDoes t ours id addresses s (after_sighting t ours (peer_of id (place_of id) addresses) s))
          → SeenDoes t ours id addresses (cond c r s) (after_sighting t ours (peer_of id (place_of id) addresses) (cond c r s))
      step = cond_ind (λ (r : Result Sighting Refusal). SeenDoes t ours id addresses r (after_sighting t ours (peer_of id (place_of id) addresses) r))

      taken : in_form t ours ≡ true → bad_peer ours id ≡ false
          → SeenDoes t ours id addresses (sighting_of t ours (peer_of id (place_of id) addresses)) (seen_table t ours (peer_of id (place_of id) addresses))
      taken y g = sighting-does t ours id addresses g y (fair ours id addresses l b g)

  settle-does : (head id : List ℕ) (client : Bool) (addresses : List ℕ) (answered : Bool)
      → SettleDoes t ours head id addresses (settle_call t ours head id client addresses answered) (settle_call_table t ours head id client addresses answered)
  unfolding settle_call_table settle_call after_settling settled_table peer_of
  settle-does head id client addresses answered =
      step (not (in_form t ours)) _ _ (λ _. refl)
      (λ f. step (bad_peer ours head) _ _ (λ _. refl)
      (λ _. step (bad_peer ours id) _ _ (λ _. refl)
      (λ g. step (not (fits t ours (place_of head) (place_of id))) _ _ (λ _. refl)
      (λ h. step client _ _ (λ _. refl) (λ _. taken (not-false _ f) g (not-false _ h) answered)))))
    where
      step : (c : Bool) (r s : Result Settled Refusal) → (c ≡ true → SettleDoes t ours head id addresses r (after_settling t ours (place_of head) (peer_of id (place_of id) addresses) r))
          → (c ≡ false → SettleDoes t ours head id addresses s (after_settling t ours (place_of head) (peer_of id (place_of id) addresses) s))
          → SettleDoes t ours head id addresses (cond c r s) (after_settling t ours (place_of head) (peer_of id (place_of id) addresses) (cond c r s))
      step = cond_ind (λ (r : Result Settled Refusal). SettleDoes t ours head id addresses r (after_settling t ours (place_of head) (peer_of id (place_of id) addresses) r))

      taken : in_form t ours ≡ true → bad_peer ours id ≡ false → fits t ours (place_of head) (place_of id) ≡ true → (a : Bool)
          → SettleDoes t ours head id addresses (settlement_of t ours (place_of head) (peer_of id (place_of id) addresses) a) (settled_table t ours (place_of head) (peer_of id (place_of id) addresses) a)
      taken y g h true =
          let k = (kept t ours y).kept (place_of head) (peer_of id (place_of id) addresses) (fits-still t ours (place_of head) (place_of id) y h) in
          subst (λ (s : Result Settled Refusal). SettleDoes t ours head id addresses s (settled_table t ours (place_of head) (peer_of id (place_of id) addresses) true)) (sym k.0) k.1
      taken y g h false =
          let k = (kept t ours y).swapped (place_of head) (peer_of id (place_of id) addresses) (fair ours id addresses l b g) (fits-still t ours (place_of head) (place_of id) y h) in
          subst (λ (s : Result Settled Refusal). SettleDoes t ours head id addresses s (settled_table t ours (place_of head) (peer_of id (place_of id) addresses) false)) (sym k.0)
          (as-gone t ours id addresses g (place_of head) _ k.1)

remove-does : (t ours id : List ℕ) → RemoveDoes t ours id (remove_call t ours id) (remove_call_table t ours id)
unfolding remove_call_table remove_call after_removal removal_of removed_table
remove-does t ours id = step (not (in_form t ours)) _ _ (λ _. refl) (λ f. step (bad_peer ours id) _ _ (λ _. refl) (λ _. ⊎_elim (gone (not-false _ f)) none (either (held t (place_of id)))))
  where
    step : (c : Bool) (r s : Result ⊤ Refusal) → (c ≡ true → RemoveDoes t ours id r (after_removal t ours (place_of id) r)) → (c ≡ false → RemoveDoes t ours id s (after_removal t ours (place_of id) s))
        → RemoveDoes t ours id (cond c r s) (after_removal t ours (place_of id) (cond c r s))
    step = cond_ind (λ (r : Result ⊤ Refusal). RemoveDoes t ours id r (after_removal t ours (place_of id) r))

    Last : Type 0
    Last = RemoveDoes t ours id (removal_of t (place_of id)) (removed_table t ours (place_of id))

    gone : in_form t ours ≡ true → held t (place_of id) ≡ true → Last
    gone y h = let k = (kept t ours y).gone (place_of id) h in subst (λ (r : Result ⊤ Refusal). RemoveDoes t ours id r (removed_table t ours (place_of id))) (sym k.0) k.1

    none : held t (place_of id) ≡ false → Last
    none h = subst (λ (r : Result ⊤ Refusal). RemoveDoes t ours id r (after_removal t ours (place_of id) r)) (sym (cond_no (held t (place_of id)) _ _ h)) refl

-- ---- a head that answered stays
never-evicted : (t ours head id : List ℕ) (client : Bool) (addresses : List ℕ) (j : ℕ) → j < slots_of t
    → SameContact (slot (settle_call_table t ours head id client addresses true) j) (slot t j)
unfolding settle_call_table settle_call after_settling settled_table
never-evicted t ours head id client addresses j l =
    step (not (in_form t ours)) _ _ (λ _. same)
    (λ f. step (bad_peer ours head) _ _ (λ _. same)
    (λ _. step (bad_peer ours id) _ _ (λ _. same)
    (λ _. step (not (fits t ours (place_of head) (place_of id))) _ _ (λ _. same) (λ _. step client _ _ (λ _. same) (λ _. taken (not-false _ f))))))
  where
    same : SameContact (slot t j) (slot t j)
    same = record { same_id = refl; same_place = refl; same_addresses = refl; same_use = refl }

    step : (c : Bool) (r s : Result Settled Refusal) → (c ≡ true → SameContact (slot (after_settling t ours (place_of head) (peer_of id (place_of id) addresses) r) j) (slot t j))
        → (c ≡ false → SameContact (slot (after_settling t ours (place_of head) (peer_of id (place_of id) addresses) s) j) (slot t j))
        → SameContact (slot (after_settling t ours (place_of head) (peer_of id (place_of id) addresses) (cond c r s)) j) (slot t j)
    step = cond_ind (λ (r : Result Settled Refusal). SameContact (slot (after_settling t ours (place_of head) (peer_of id (place_of id) addresses) r) j) (slot t j))

    taken : in_form t ours ≡ true → SameContact (slot (settled_table t ours (place_of head) (peer_of id (place_of id) addresses) true) j) (slot t j)
    taken y = (kept t ours y).unevicted (place_of head) (peer_of id (place_of id) addresses) j l

-- ---- freed slots are used again
-- 14 is for want of a slot
fourteen : (t ours : List ℕ) (p : Peer) → seen_number (sighting_of t ours p) ≡ 14 → sighting_of t ours p ≡ Err NoContactSlot
unfolding sighting_of newcomer
fourteen t ours p =
    step (held t p.place) _ _ (λ e. absurd (omega arith))
    (step (leb 20 (tail_of t ours (bucket_of p.place ours))) _ _ (λ e. absurd (omega arith)) (step (ltb (free_at t) (slots_of t)) _ _ (λ e. absurd (omega arith)) (λ _. refl)))
  where
    For : Result Sighting Refusal → Type 0
    For s = seen_number s ≡ 14 → s ≡ Err NoContactSlot

    step : (c : Bool) (r s : Result Sighting Refusal) → For r → For s → For (cond c r s)
    step c r s f g = cond_ind For c r s (λ _. f) (λ _. g)

-- where nobody lacks a slot, nobody gets 14
never-fourteen : (t ours id : List ℕ) (client : Bool) (addresses : List ℕ) → (sighting_of t ours (peer_of id (place_of id) addresses) ≡ Err NoContactSlot → ⊥) → seen_number (seen_call t ours id client addresses) ≡ 14 → ⊥
unfolding seen_call
never-fourteen t ours id client addresses n =
    step (not (in_form t ours)) _ _ (λ _ e. omega arith)
    (λ _. step (bad_peer ours id) _ _ (λ _ e. omega arith) (λ _. step client _ _ (λ _ e. omega arith) (λ _ e. n (fourteen t ours (peer_of id (place_of id) addresses) e))))
  where
    step : (c : Bool) (r s : Result Sighting Refusal) → (c ≡ true → seen_number r ≡ 14 → ⊥) → (c ≡ false → seen_number s ≡ 14 → ⊥) → seen_number (cond c r s) ≡ 14 → ⊥
    step = cond_ind (λ (r : Result Sighting Refusal). seen_number r ≡ 14 → ⊥)

used-again : (t ours id other : List ℕ) (client : Bool) (addresses : List ℕ) → remove_number (remove_call t ours id) ≡ 64
    → seen_number (seen_call (remove_call_table t ours id) ours other client addresses) ≡ 14 → ⊥
unfolding remove_call_table remove_call after_removal removal_of removed_table
used-again t ours id other client addresses =
    step (not (in_form t ours)) _ _ (λ _ e. absurd (omega arith))
    (λ f. step (bad_peer ours id) _ _ (λ _ e. absurd (omega arith))
    (λ _. step (held t (place_of id)) _ _ (λ h _. taken (not-false _ f) h) (λ _ e. absurd (omega arith))))
  where
    Again : Result ⊤ Refusal → Type 0
    Again r = remove_number r ≡ 64 → seen_number (seen_call (after_removal t ours (place_of id) r) ours other client addresses) ≡ 14 → ⊥

    step : (c : Bool) (r s : Result ⊤ Refusal) → (c ≡ true → Again r) → (c ≡ false → Again s) → Again (cond c r s)
    step = cond_ind Again

    taken : in_form t ours ≡ true → held t (place_of id) ≡ true → seen_number (seen_call (after_removal t ours (place_of id) (Ok tt)) ours other client addresses) ≡ 14 → ⊥
    taken y h =
        subst (λ (r : Result ⊤ Refusal). seen_number (seen_call (after_removal t ours (place_of id) r) ours other client addresses) ≡ 14 → ⊥) ((kept t ours y).gone (place_of id) h).0
        (never-fourteen (removed_table t ours (place_of id)) ours other client addresses ((kept t ours y).reused (place_of id) (peer_of other (place_of other) addresses) h))

-- ---- a sighting beside a reply is a seen
beside-seen : (t ours id addresses : List ℕ) → Admits t ours id
    → (sighting_of t ours (peer_of id (place_of id) addresses) ≡ seen_call t ours id false addresses) × (seen_table t ours (peer_of id (place_of id) addresses) ≡ seen_call_table t ours id false addresses)
unfolding seen_call seen_call_table seen_table
beside-seen t ours id addresses a =
    let e : seen_call t ours id false addresses ≡ sighting_of t ours (peer_of id (place_of id) addresses) = cond_no (not (in_form t ours)) _ _ (ap not a.form) ∙ cond_no (bad_peer ours id) _ _ a.peer in
    (sym e, ap (after_sighting t ours (peer_of id (place_of id) addresses)) (sym e))

-- ---- who was seen, and who answered a probe, is given
module _ (t ours : List ℕ) (l : length ours ≡ 32) (b : Bytes ours) where
  -- what isn't refused was in form, and so is what it leaves
  seen-in-form : (id : List ℕ) (client : Bool) (addresses : List ℕ) → (seen_number (seen_call t ours id client addresses) ≡ 0 → ⊥) → in_form (seen_call_table t ours id client addresses) ours ≡ true
  seen-in-form id client addresses n = ⊎_elim (λ y. seen-call-keeps t ours l b y id client addresses) (λ f. absurd (n (seen-zero t ours id client addresses f))) (either (in_form t ours))

  settle-in-form : (head id : List ℕ) (client : Bool) (addresses : List ℕ) (answered : Bool) → (settle_number (settle_call t ours head id client addresses answered) ≡ 0 → ⊥)
      → in_form (settle_call_table t ours head id client addresses answered) ours ≡ true
  settle-in-form head id client addresses answered n =
      ⊎_elim (λ y. settle-call-keeps t ours l b y head id client addresses answered) (λ f. absurd (n (settle-zero t ours head id client addresses answered f))) (either (in_form t ours))

  seen-given : (id : List ℕ) (client : Bool) (addresses : List ℕ) → Bytes (seen_call_table t ours id client addresses) → (i : ℕ)
      → (seen_call t ours id client addresses ≡ Ok (seen.Moved i)) ⊎ (seen_call t ours id client addresses ≡ Ok (seen.Joined i)) → GivesFirst (seen_call_table t ours id client addresses) (place_of id) i
  seen-given id client addresses w i =
      ⊎_elim (λ e. at (Ok (seen.Moved i)) e (λ z. omega arith) (does (Ok (seen.Moved i)) e).tail) (λ e. at (Ok (seen.Joined i)) e (λ z. omega arith) (does (Ok (seen.Joined i)) e).tail)
    where
      does : (o : Result Sighting Refusal) → seen_call t ours id client addresses ≡ o → SeenDoes t ours id addresses o (seen_call_table t ours id client addresses)
      does o e = subst (λ (o : Result Sighting Refusal). SeenDoes t ours id addresses o (seen_call_table t ours id client addresses)) e (seen-does t ours l b id client addresses)

      at : (o : Result Sighting Refusal) → seen_call t ours id client addresses ≡ o → (seen_number o ≡ 0 → ⊥) → AtTail ours (place_of id) i (seen_call_table t ours id client addresses)
          → GivesFirst (seen_call_table t ours id client addresses) (place_of id) i
      at o e n a = (kept (seen_call_table t ours id client addresses) ours (seen-in-form id client addresses (λ z. n (sym (ap seen_number e) ∙ z)))).given w (place_of id) i a

  answerer-given : (head id : List ℕ) (client : Bool) (addresses : List ℕ) (answered : Bool) → Bytes (settle_call_table t ours head id client addresses answered)
      → settle_call t ours head id client addresses answered ≡ Ok settle.Kept → GivesFirst (settle_call_table t ours head id client addresses answered) (place_of head) (held_at t (place_of head))
  answerer-given head id client addresses answered w e =
      (kept (settle_call_table t ours head id client addresses answered) ours (settle-in-form head id client addresses answered (λ z. kept-number (sym (ap settle_number e) ∙ z)))).given w (place_of head)
      (held_at t (place_of head))
      (subst (λ (o : Result Settled Refusal). SettleDoes t ours head id addresses o (settle_call_table t ours head id client addresses answered)) e (settle-does t ours l b head id client addresses answered)).tail
    where
      kept-number : settle_number (Ok settle.Kept) ≡ 0 → ⊥
      kept-number z = omega arith

pub claims : Claims
claims = record {
  seen_told = λ t ours id client addresses. record {
    out_of_form = seen-zero t ours id client addresses;
    bad_id = seen-twelve t ours id client addresses;
    is_client = seen-eighteen t ours id client addresses;
    moved = seen-moved t ours id client addresses;
    full = seen-full t ours id client addresses;
    no_slot = seen_none t ours id client addresses;
    joined = seen-joined t ours id client addresses;
  };
  settle_told = λ t ours head id client addresses answered. record {
    out_of_form = settle-zero t ours head id client addresses answered;
    bad_head = settle-bad-head t ours head id client addresses answered;
    bad_id = settle-bad-id t ours head id client addresses answered;
    stale = settle-stale t ours head id client addresses answered;
    is_client = settle-client t ours head id client addresses answered;
    kept = settle-kept t ours head id client addresses answered;
    swapped = settle-swapped t ours head id client addresses answered;
  };
  remove_told = λ t ours id. record {
    out_of_form = remove-zero t ours id;
    bad_id = remove-twelve t ours id;
    not_held = remove-not-held t ours id;
    gone = remove-gone t ours id;
  };
  doubt_told = doubt-told;
  held_never = held-never;
  client_never = client-never;
  seen_refused = seen-leaves;
  settle_refused = settle-leaves;
  remove_refused = remove-leaves;
  doubt_refused = doubt-leaves;
  seen_does = λ t ours id client addresses l b. seen-does t ours l b id client addresses;
  settle_does = λ t ours head id client addresses answered l b. settle-does t ours l b head id client addresses answered;
  remove_does = remove-does;
  doubt_does = doubt-does;
  beside = beside-seen;
  unevicted = never-evicted;
  reused = used-again;
  seen_ignores = seen-ignores;
  settle_ignores = settle-ignores;
  hidden = marked-hidden;
  seen_given = λ t ours id client addresses l b. seen-given t ours l b id client addresses;
  answerer_given = λ t ours head id client addresses answered l b. answerer-given t ours l b head id client addresses answered;
  cleared = cleared-in-form;
  seen_form = seen-call-keeps;
  settle_form = settle-call-keeps;
  remove_form = removal-keeps;
  doubt_form = doubt-form;
}

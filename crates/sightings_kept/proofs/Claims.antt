-- The claims, each by its law. Assumes nothing.
use Prim.Native.Nat.{ℕ, ◌<◌, ◌≤◌}
use mathlib.Core.Path.{◌≡◌, refl, ap}
use mathlib.Core.Bool.{Bool, true, false}
use mathlib.Core.List.{List}
use native.Mathlib.Omega.{arith}
use lib.Dec.{ltb, leb}
use borrow.Author.Tests.{lt-ltb}
use Rattle.octets.proofs.Bools.{not-both, cond_yes, cond_no, cond_ind}
use Rattle.place.specs.Place.{bucket_of}
use Rattle.contacts.specs.Table.{slots_of, slot, used}
use Rattle.contacts.specs.Form.{in_form}
use Rattle.refusal.specs.declared.Refusal.TheVariants.{NoContactSlot, NoLongerFits}
use Rattle.peer.specs.declared.Peer.{Peer}
use Rattle.peer.specs.Peers.{id_in, addresses_in}
use Rattle.sightings.specs.declared.Sighting.{Sighting}
use Rattle.sightings.specs.declared.Sighting.TheVariants as seen
use Rattle.sightings.specs.Order.{is_head, free_at, head_at, tail_of}
use Rattle.sightings.specs.Sightings.{held, newcomer, sighting_of, seen_table, fits, settlement_of, removal_of, removed_table}
use Rattle.contact_order.proofs.Tests.{free-there}
use Rattle.sightings_kept.specs.Promises.{Fair, NewSeen, holds, Claims}
use Rattle.sightings_kept.proofs.Forms.{seen-keeps, settle-keeps, remove-keeps, doubt-keeps}
use Rattle.sightings_kept.proofs.Theorems.{held-never-refused, full-changes-nothing, no-slot-changes-nothing, stale-same, not-held-same, seen-held, seen-new, remove-frees, settle-answered, settle-silent, answered-never-evicted}
use Rattle.sightings_kept.proofs.Holds.{tail-is-count, full-refused, none_left, head-there, still-fits, still-fails}
use Rattle.sightings_kept.proofs.Hashed.{seen-hashed, settle-hashed, remove-hashed}
use Rattle.sightings_kept.proofs.Doubts.{doubt-marks-one, doubt-not-held, doubt-ignored, doubt-settles, doubt-hashed, tail-given}
use Rattle.std.specs.Prelude.{Ok, Err, Result}
use Rattle.refusal.specs.declared.Refusal.{Refusal}

-- ---- where a slot is free, nobody is refused for want of one
for_want : Result Sighting Refusal → Bool
for_want (Ok (seen.Moved i)) = false
for_want (Ok (seen.Joined i)) = false
for_want (Ok (seen.Probe h)) = false
for_want (Err r) = true

pub never-for-want : (t o : List ℕ) (q : Peer) → free_at t < slots_of t → sighting_of t o q ≡ Err NoContactSlot → ⊥
unfolding sighting_of newcomer for_want
never-for-want t o q l e = not-both (for_want (sighting_of t o q)) (ap for_want e) wanted
  where
    wanted : for_want (sighting_of t o q) ≡ false
    wanted =
        cond_ind (λ (r : Result Sighting Refusal). for_want r ≡ false) (held t q.place) _ _ (λ _. refl)
        (λ _. cond_ind (λ (r : Result Sighting Refusal). for_want r ≡ false) (leb 20 (tail_of t o (bucket_of q.place o))) _ _ (λ _. refl)
        (λ _. ap for_want (cond_yes (ltb (free_at t) (slots_of t)) (Ok (seen.Joined (free_at t))) (Err NoContactSlot) (lt-ltb (free_at t) (slots_of t) l))))

module _ (t o : List ℕ) (y : in_form t o ≡ true) (p : Peer) (new : held t p.place ≡ false) where
  full-named : 20 ≤ holds t o (bucket_of p.place o)
      → (h : ℕ) × (sighting_of t o p ≡ Ok (seen.Probe h)) × (h < slots_of t) × (is_head o (bucket_of p.place o) (slot t h) ≡ true) × (seen_table t o p ≡ t)
  full-named l =
      let e = full-refused t o p y new l in
      let h = head-there t o y (bucket_of p.place o) (omega arith) in
      (head_at t o (bucket_of p.place o), e, h.0, h.1, full-changes-nothing t o p _ e)

  module _ (room : holds t o (bucket_of p.place o) < 20) where
    joins-in : Fair o p → (j : ℕ) → j < slots_of t → used (slot t j) ≡ false → (sighting_of t o p ≡ Ok (seen.Joined (free_at t))) × NewSeen t o p.place (id_in p) (addresses_in p) (free_at t) (seen_table t o p)
    joins-in G j l free = seen-new t o p G new (omega (arith, tail-is-count t o y (bucket_of p.place o))) (free-there t j l free)

    left_out : ((j : ℕ) → j < slots_of t → used (slot t j) ≡ true) → (sighting_of t o p ≡ Err NoContactSlot) × (seen_table t o p ≡ t)
    left_out every = let e = none_left t o p y new room every in (e, no-slot-changes-nothing t o p e)

stale-answer : (t o head : List ℕ) (p : Peer) (answered : Bool) → fits t o head p.place ≡ false → settlement_of t o head p answered ≡ Err NoLongerFits
unfolding settlement_of
stale-answer t o head p answered f = cond_no (fits t o head p.place) _ _ f

not-held-answer : (t p : List ℕ) → held t p ≡ false → removal_of t p ≡ Err NoLongerFits
unfolding removal_of
not-held-answer t p h = cond_no (held t p) _ _ h

pub claims : Claims
claims t o y = record {
  seen_form = λ p G. seen-keeps t o p G y;
  settle_form = λ head p answered G. settle-keeps t o head p answered G y;
  remove_form = λ p. remove-keeps t o p y;
  doubt_form = λ p. doubt-keeps t o p y;
  seen_hashed = λ p G P h. seen-hashed t o p G P y h;
  settle_hashed = λ head p answered G P h. settle-hashed t o p G P y h head answered;
  remove_hashed = λ p h. remove-hashed t o p y h;
  doubt_hashed = λ p h. doubt-hashed t p h;
  counted = tail-is-count t o y;
  moved = λ p G h. (held-never-refused t o p h, seen-held t o p G y h);
  full = full-named t o y;
  joined = λ p G new room. joins-in t o y p new room G;
  no_slot = left_out t o y;
  kept = λ head p s. settle-answered t o head p y (still-fits t o head p.place y s);
  swapped = λ head p G s. settle-silent t o head p y (still-fits t o head p.place y s) G;
  stale = λ head p answered n. let f = still-fails t o head p.place y n in (stale-answer t o head p answered f, stale-same t o head p answered f);
  unevicted = λ head p j l. answered-never-evicted t o head p y j l;
  gone = λ p h. remove-frees t o p y h;
  not_held = λ p h. (not-held-answer t p h, not-held-same t o p h);
  reused = λ p q h. never-for-want (removed_table t o p) o q (remove-frees t o p y h).1.room;
  marked = doubt-marks-one t;
  doubt_not_held = doubt-not-held t;
  sighting_ignores = λ p q. doubt-ignored t p o q;
  settle_ignores = λ p head q answered. doubt-settles t p o head q answered;
  given = λ ht p i a. tail-given t o p i y ht a;
}

-- What is written reads back. Assumes nothing.
use Prim.Native.Nat.{ℕ, zero, suc, ◌+◌, ◌-◌, ◌*◌, ◌<◌, ◌≤◌}
use mathlib.Core.Path.{◌≡◌, refl, sym, ap, ap₂, ◌∙◌}
use mathlib.Core.List.{List, [], ◌∷◌, ◌++◌, append-nil}
use native.Mathlib.Omega.{arith}
use lib.ListN.{length, get_or, take, length-append}
use lib.Seq.{take-suc, take-length, drop-append-add}
use Rattle.contacts.specs.Table.{slot_size, slot}
use Rattle.sightings.specs.Order.{with_doubt, contact_bytes}
use Rattle.flat.specs.Flat.{field, peer_bytes, peer_in}
use Rattle.flat.specs.Promises.{Whole}
use Rattle.flat.proofs.Writing.{length-peer}
use Rattle.flat.proofs.Back.{reads-back}
use Rattle.peer.specs.declared.Peer.{Peer}
use Rattle.contact_slots.specs.declared.Contact.{Contact}
use Rattle.contact_slots.specs.Slots.{slot_bytes, contact_in, table_bytes, contacts_in}
use Rattle.contact_slots.specs.Promises.{AllWhole, ReadsBack}
use Rattle.contact_slots.proofs.Rows.{slot_next, slot-front}

-- a slot has 616 bytes: as many as with any other first two
pub length-slot : (c : Contact) → Whole c.peer → length (slot_bytes c) ≡ slot_size
unfolding slot_bytes contact_bytes with_doubt
length-slot c w = length-peer c.peer w

-- a peer's first two bytes aren't looked at
any-first : (m d : ℕ) (p : Peer) → peer_in (with_doubt d (contact_bytes m p)) ≡ peer_in (peer_bytes p)
unfolding peer_in field contact_bytes with_doubt
any-first m d p = refl

one-back : (c : Contact) → Whole c.peer → contact_in (slot_bytes c) ≡ c
unfolding contact_in slot_bytes contact_bytes with_doubt
one-back c w = ap (λ (p : Peer). record { peer = p; mark = c.mark; doubt = c.doubt }) (any-first c.mark c.doubt c.peer ∙ ap peer_in (sym (append-nil (peer_bytes c.peer))) ∙ reads-back.peer c.peer [] w)

pub size_back : (t : List Contact) → AllWhole t → length (table_bytes t) ≡ length t * slot_size
unfolding table_bytes AllWhole
size_back [] w = refl
size_back (c ∷ t) w = omega (arith, length-append (slot_bytes c) (table_bytes t), length-slot c w.0, size_back t w.1)

-- ---- slot n of a table is contact n
slot-skip : (a b : List ℕ) (n : ℕ) → length a ≡ slot_size → slot (a ++ b) (suc n) ≡ slot b n
unfolding slot
slot-skip a b n h =
    let e : suc n * slot_size + slot_size - suc n * slot_size ≡ n * slot_size + slot_size - n * slot_size = omega arith in
    let k : suc n * slot_size ≡ length a + n * slot_size = omega arith in
    rw (e, k) (ap (take (n * slot_size + slot_size - n * slot_size)) (drop-append-add a b (n * slot_size)))

slot_is : (t : List Contact) (n : ℕ) (d : Contact) → AllWhole t → n < length t → slot (table_bytes t) n ≡ slot_bytes (get_or t n d)
unfolding table_bytes AllWhole
slot_is [] n d w h = absurd (omega arith)
slot_is (c ∷ t) zero d w h =
    let long : length (slot_bytes c) ≡ slot_size = length-slot c w.0 in
    slot-front (slot_bytes c) (table_bytes t) 0 (omega arith) ∙ slot_next [] (slot_bytes c) 0 refl long
slot_is (c ∷ t) (suc n) d w h = slot-skip (slot_bytes c) (table_bytes t) n (length-slot c w.0) ∙ slot_is t n d w.1 (omega arith)

whole-at : (t : List Contact) (n : ℕ) (d : Contact) → AllWhole t → n < length t → Whole (get_or t n d).peer
unfolding AllWhole
whole-at [] n d w h = absurd (omega arith)
whole-at (c ∷ t) zero d w h = w.0
whole-at (c ∷ t) (suc n) d w h = whole-at t n d w.1 (omega arith)

-- the first n of them
some_back : (t : List Contact) (d : Contact) (n : ℕ) → AllWhole t → n ≤ length t → contacts_in n (table_bytes t) ≡ take n t
unfolding contacts_in
some_back t d zero w h = refl
some_back t d (suc n) w h =
    let l : n < length t = omega arith in
    ap₂ (λ (x : List Contact) (c : Contact). x ++ (c ∷ [])) (some_back t d n w (omega arith)) (ap contact_in (slot_is t n d w l) ∙ one-back (get_or t n d) (whole-at t n d w l))
    ∙ sym (take-suc t n d l)

every_back : (t : List Contact) → AllWhole t → contacts_in (length t) (table_bytes t) ≡ t
every_back t w = some_back t (contact_in []) (length t) w (omega arith) ∙ take-length t

pub back : ReadsBack
back = record { one = one-back; size = size_back; every = every_back }

-- Stores into one slot of a table, and the bytes of a list of contacts. Assumes nothing.
use Prim.Native.Nat.{ℕ, zero, suc, ◌-◌, ◌*◌, ◌/◌, ◌<◌, ◌≤◌}
use mathlib.Core.Path.{◌≡◌, refl, sym, ap, ◌∙◌}
use mathlib.Core.Bool.{Bool, true, false, cond}
use mathlib.Core.List.{List, [], ◌∷◌, ◌++◌, append-nil}
use native.Mathlib.Omega.{arith}
use lib.ListN.{length, get_or, set, take, drop, length-drop, drop_of_length-le, get_or-eq_default}
use lib.Seq.{sets, set-set, set_comm, take_all, length-take-le}
use lib.Dec.{leb}
use borrow.Author.Tests.{leb-true}
use Rattle.octets.proofs.Bools.{cond_yes, cond_no}
use Rattle.octets.proofs.Stores.{sets-out, sets-cons}
use Rattle.contacts.specs.Table.{put_slot, slot_size}
use Rattle.sightings.specs.Order.{with_doubt, contact_bytes}
use Rattle.peer.specs.declared.Peer.{Peer}
use Rattle.flat.specs.Flat.{peer_bytes, peer_in}
use Rattle.contact_slots.specs.declared.Contact.{Contact}
use Rattle.contact_slots.specs.Slots.{slot_bytes, contact_in, enough}

-- ---- stores
-- into the rest of a list, from its start
pub sets-rest : (a : ℕ) (s x : List ℕ) → take a s ++ sets (drop a s) 0 x ≡ sets s a x
sets-rest zero [] x = refl
sets-rest zero (y ∷ s) x = refl
sets-rest (suc a) [] x = sets-out [] 0 x (omega arith) ∙ sym (sets-out [] (suc a) x (omega arith))
sets-rest (suc a) (y ∷ s) x = ap (λ (l : List ℕ). y ∷ l) (sets-rest a s x) ∙ sym (sets-cons y s a x)

-- one before a run of others
set_before : (x s : List ℕ) (a k r : ℕ) → a < k → set (sets s k x) a r ≡ sets (set s a r) k x
set_before [] s a k r h = refl
set_before (y ∷ x) s a k r h = set_before x (set s k y) a (suc k) r (omega arith) ∙ ap (λ (l : List ℕ). sets l (suc k) x) (set_comm s k a y r (λ e. omega arith))

-- the first of a run, anew
set_first : (x s : List ℕ) (a m r : ℕ) → set (sets s a (m ∷ x)) a r ≡ sets s a (r ∷ x)
set_first x s a m r = set_before x (set s a m) a (suc a) r (omega arith) ∙ ap (λ (l : List ℕ). sets l (suc a) x) (set-set s a m r)

-- the first two
set-two : (x s : List ℕ) (a m n r d : ℕ) → sets (sets s a (m ∷ n ∷ x)) a (r ∷ d ∷ []) ≡ sets s a (r ∷ d ∷ x)
set-two x s a m n r d = ap (λ (l : List ℕ). set l (suc a) d) (set_first (n ∷ x) s a m r) ∙ set_first x (set s a r) (suc a) n d

-- ---- `put_contact`
pub put-past : (s : List ℕ) (i : ℕ) (c : Contact) → length s / slot_size < i → s ≡ put_slot s i (slot_bytes c)
unfolding put_slot
put-past s i c h = sym (sets-out s (i * slot_size) (slot_bytes c) (omega arith))

pub put-end : (s : List ℕ) (i : ℕ) (c : Contact) → i * slot_size ≡ length s → s ≡ put_slot s i (slot_bytes c)
unfolding put_slot
put-end s i c h = sym (sets-out s (i * slot_size) (slot_bytes c) (omega arith))

pub put-done : (s t : List ℕ) (i : ℕ) (c : Contact) → i * slot_size ≤ length s → t ≡ sets (take (length s - i * slot_size) (drop (i * slot_size) s)) 0 (peer_bytes c.peer)
    → (u : List ℕ) → u ≡ sets (take (i * slot_size) s ++ (t ++ drop (length s - i * slot_size) (drop (i * slot_size) s))) (i * slot_size) (c.mark ∷ c.doubt ∷ []) → u ≡ put_slot s i (slot_bytes c)
unfolding put_slot slot_bytes contact_bytes with_doubt
put-done s t i c h e u g =
    let b : List ℕ = drop (i * slot_size) s in
    let k : ℕ = length s - i * slot_size in
    let l : length b ≤ k = omega (arith, length-drop (i * slot_size) s) in
    let whole : t ++ drop k b ≡ sets b 0 (peer_bytes c.peer) =
    ap (λ (x : List ℕ). t ++ x) (drop_of_length-le b l) ∙ append-nil t ∙ e ∙ ap (λ (x : List ℕ). sets x 0 (peer_bytes c.peer)) (take_all k b l) in
    g ∙ ap (λ (x : List ℕ). sets (take (i * slot_size) s ++ x) (i * slot_size) (c.mark ∷ c.doubt ∷ [])) whole
    ∙ ap (λ (x : List ℕ). sets x (i * slot_size) (c.mark ∷ c.doubt ∷ [])) (sets-rest (i * slot_size) s (peer_bytes c.peer))
    ∙ set-two (c.peer.size ∷ c.peer.count ∷ (c.peer.lens ++ (c.peer.place ++ (c.peer.id ++ c.peer.addrs)))) s (i * slot_size) 1 0 c.mark c.doubt

-- ---- `contact_in`
pub none-byte : (s : List ℕ) (k : ℕ) → length s ≤ k → 0 ≡ get_or s k 0
none-byte s k h = sym (get_or-eq_default s 0 h)

pub in-done : (s x : List ℕ) (p : Peer) (m d : ℕ) → x ≡ s → p ≡ peer_in x → m ≡ get_or x 0 0 → d ≡ get_or x 1 0 → ◌≡◌ {A = Contact} (record { peer = p; mark = m; doubt = d }) (contact_in s)
unfolding contact_in
in-done s x p m d e g h k = rw (g, h, k, e)

-- ---- the room's test
pub enough-fits : (n : ℕ) (room : List ℕ) → enough n room ≡ true → n * slot_size ≤ length room
unfolding enough
enough-fits n room h = let g : n ≤ length room / slot_size = leb-true n (length room / slot_size) h in omega arith

pub enough-same : (n : ℕ) (a b : List ℕ) → length a ≡ length b → enough n a ≡ enough n b
unfolding enough
enough-same n a b h = ap (λ (k : ℕ). leb n (k / slot_size)) h

pub cut-long : (n : ℕ) (room : List ℕ) → n ≤ length room → n ≡ length (take n room)
cut-long n room h = sym (length-take-le n room h)

module _ {X : Type 0} (n : ℕ) (room : List ℕ) (b : Bool) (e : b ≡ enough n room) where
  pub if-enough : (r x y : X) → b ≡ true → r ≡ x → r ≡ cond (enough n room) x y
  if-enough r x y h g = g ∙ sym (cond_yes (enough n room) x y (sym e ∙ h))

  pub if-short : (r x y : X) → b ≡ false → r ≡ y → r ≡ cond (enough n room) x y
  if-short r x y h g = g ∙ sym (cond_no (enough n room) x y (sym e ∙ h))

pub slots-fit : (n : ℕ) (room : List ℕ) (b : Bool) → b ≡ enough n room → b ≡ true → n * slot_size ≤ length room
slots-fit n room b e h = enough-fits n room (sym e ∙ h)

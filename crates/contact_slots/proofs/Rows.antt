-- The bytes of a list of contacts, slot by slot. Assumes nothing.
use Prim.Native.Nat.{ℕ, zero, suc, ◌+◌, ◌-◌, ◌*◌, ◌<◌, ◌≤◌}
use mathlib.Core.Path.{◌≡◌, refl, sym, ap, ap₂, ◌∙◌}
use mathlib.Core.Bool.{true, cond}
use mathlib.Core.List.{List, [], ◌∷◌, ◌++◌, append_assoc, append-nil}
use native.Mathlib.Omega.{arith}
use lib.ListN.{length, get_or, set, take, drop, length-append, length-drop}
use lib.Seq.{sets-eq, take-append-le, drop-append-le, drop_at, take_at, take-suc, take-length, drop-length, drop-drop, set_at, drop-cons, append_snoc, set-get_or}
use mathlib.Core.Logic.{inl, inr}
use Rattle.octets.proofs.Bools.{either, cond_yes, cond_no, cond_ind}
use Rattle.contacts.specs.Table.{slot_size, slot, put_slot}
use Rattle.contact_slots.specs.declared.Contact.{Contact}
use Rattle.contact_slots.specs.Slots.{slot_bytes, contact_in, table_bytes, contacts_in, enough, with_table, contact_from}
use Rattle.contact_slots.proofs.Laws.{enough-fits, enough-same}

-- ---- slots
-- a slot that ends within the first part
pub slot-front : (a b : List ℕ) (i : ℕ) → i * slot_size + slot_size ≤ length a → slot (a ++ b) i ≡ slot a i
unfolding slot
slot-front a b i h =
    ap (take (i * slot_size + slot_size - i * slot_size)) (drop-append-le (i * slot_size) a b (omega arith))
    ∙ take-append-le (i * slot_size + slot_size - i * slot_size) (drop (i * slot_size) a) b (omega (arith, length-drop (i * slot_size) a))

-- the slot that is the second part
pub slot_next : (a b : List ℕ) (i : ℕ) → length a ≡ i * slot_size → length b ≡ slot_size → slot (a ++ b) i ≡ b
unfolding slot
slot_next a b i h g =
    let e : i * slot_size + slot_size - i * slot_size ≡ slot_size = omega arith in
    rw (drop_at a b (i * slot_size) h, e) (ap (λ (l : List ℕ). take slot_size l) (sym (append-nil b)) ∙ take_at b [] slot_size g)

-- ---- lists of contacts
pub table-append : (t u : List Contact) → table_bytes (t ++ u) ≡ table_bytes t ++ table_bytes u
unfolding table_bytes
table-append [] u = refl
table-append (c ∷ t) u = ap (λ (l : List ℕ). slot_bytes c ++ l) (table-append t u) ∙ sym (append_assoc (slot_bytes c) (table_bytes t) (table_bytes u))

pub table_more : (t : List Contact) (c : Contact) → table_bytes (t ++ (c ∷ [])) ≡ table_bytes t ++ slot_bytes c
unfolding table_bytes
table_more t c = table-append t (c ∷ []) ∙ ap (λ (l : List ℕ). table_bytes t ++ l) (append-nil (slot_bytes c))

pub length-contacts : (n : ℕ) (s : List ℕ) → length (contacts_in n s) ≡ n
unfolding contacts_in
length-contacts zero s = refl
length-contacts (suc n) s = omega (arith, length-append (contacts_in n s) (contact_in (slot s n) ∷ []), length-contacts n s)

-- contacts that stand in the first part
pub contacts-front : (n : ℕ) (a b : List ℕ) → n * slot_size ≤ length a → contacts_in n (a ++ b) ≡ contacts_in n a
unfolding contacts_in
contacts-front zero a b h = refl
contacts-front (suc n) a b h =
    ap₂ (λ (x y : List Contact). x ++ y) (contacts-front n a b (omega arith)) (ap (λ (s : List ℕ). contact_in s ∷ []) (slot-front a b n (omega arith)))

-- ---- a room with some of the contacts: those up to i are laid out
abbrev pub laid_to : ℕ → List Contact → List ℕ → List ℕ
laid_to i t room = cond (enough (length t) room) (table_bytes (take i t) ++ drop (i * slot_size) room) room

module _ (t : List Contact) (room : List ℕ) where
  pub laid_none : room ≡ laid_to 0 t room
  unfolding table_bytes
  laid_none = cond_ind (λ (l : List ℕ). room ≡ l) (enough (length t) room) (table_bytes (take 0 t) ++ drop 0 room) room (λ e. refl) (λ e. refl)

  pub laid-all : laid_to (length t) t room ≡ with_table (length t) room (table_bytes t)
  unfolding with_table
  laid-all = ap (λ (u : List Contact). cond (enough (length t) room) (table_bytes u ++ drop (length t * slot_size) room) room) (take-length t)

  -- one more slot
  module _ (i : ℕ) (d : Contact) (l : i < length t) (size : length (table_bytes (take i t)) ≡ i * slot_size) (whole : length (slot_bytes (get_or t i d)) ≡ slot_size) where
    abbrev c : Contact
    c = get_or t i d

    more : table_bytes (take (suc i) t) ≡ table_bytes (take i t) ++ slot_bytes c
    more = ap table_bytes (take-suc t i d l) ∙ table_more (take i t) c

    pub size-more : length (table_bytes (take (suc i) t)) ≡ suc i * slot_size
    size-more = omega (arith, ap (λ (s : List ℕ). length s) more, length-append (table_bytes (take i t)) (slot_bytes c), size, whole)

    stored : enough (length t) room ≡ true
        → put_slot (table_bytes (take i t) ++ drop (i * slot_size) room) i (slot_bytes c) ≡ table_bytes (take (suc i) t) ++ drop (suc i * slot_size) room
    unfolding put_slot
    stored h =
        let f : List ℕ = table_bytes (take i t) in
        let b : List ℕ = drop (i * slot_size) room in
        let fits : length t * slot_size ≤ length room = enough-fits (length t) room h in
        let far : length (slot_bytes c) ≤ length b = omega (arith, length-drop (i * slot_size) room) in
        let long : i * slot_size + length (slot_bytes c) ≤ length (f ++ b) = omega (arith, length-append f b) in
        let step : i * slot_size + length (slot_bytes c) ≡ i * slot_size + slot_size = omega arith in
        let next : i * slot_size + slot_size ≡ suc i * slot_size = omega arith in
        sets-eq (slot_bytes c) (f ++ b) (i * slot_size) long
        ∙ ap₂ (λ (x y : List ℕ). (x ++ slot_bytes c) ++ y) (take_at f b (i * slot_size) size)
        (ap (λ (k : ℕ). drop k (f ++ b)) step ∙ sym (drop-drop slot_size (i * slot_size) (f ++ b)) ∙ ap (drop slot_size) (drop_at f b (i * slot_size) size) ∙ drop-drop slot_size (i * slot_size) room ∙ ap (λ (k : ℕ). drop k room) next)
        ∙ ap (λ (x : List ℕ). x ++ drop (suc i * slot_size) room) (sym more)

    pub laid_more : (cur next : List ℕ) → length cur ≡ length room → cur ≡ laid_to i t room → next ≡ cond (enough (length t) cur) (put_slot cur i (slot_bytes c)) cur
        → next ≡ laid_to (suc i) t room
    laid_more cur next same e g = elim (either (enough (length t) room)) [
      | inl h ↦
          g ∙ cond_yes (enough (length t) cur) _ _ (enough-same (length t) cur room same ∙ h)
          ∙ ap (λ (s : List ℕ). put_slot s i (slot_bytes c)) (e ∙ cond_yes (enough (length t) room) _ _ h)
          ∙ stored h ∙ sym (cond_yes (enough (length t) room) _ _ h)
      | inr h ↦
          g ∙ cond_no (enough (length t) cur) _ _ (enough-same (length t) cur room same ∙ h)
          ∙ e ∙ cond_no (enough (length t) room) _ _ h ∙ sym (cond_no (enough (length t) room) _ _ h)
    ]

-- ---- the contacts with some of them taken from a room: those up to i
abbrev pub taken_to : ℕ → List Contact → List ℕ → List Contact
taken_to i t room = cond (enough (length t) room) (contacts_in i room ++ drop i t) t

module _ (t : List Contact) (room : List ℕ) where
  pub taken_none : t ≡ taken_to 0 t room
  unfolding contacts_in
  taken_none = cond_ind (λ (l : List Contact). t ≡ l) (enough (length t) room) (contacts_in 0 room ++ drop 0 t) t (λ e. refl) (λ e. refl)

  pub taken-all : taken_to (length t) t room ≡ cond (enough (length t) room) (contacts_in (length t) room) t
  taken-all = ap (λ (u : List Contact). cond (enough (length t) room) u t) (ap (λ (d : List Contact). contacts_in (length t) room ++ d) (drop-length t) ∙ append-nil (contacts_in (length t) room))

  pub taken_more : (i : ℕ) (d x : Contact) (cur : List Contact) → i < length t → cur ≡ taken_to i t room → x ≡ contact_from (length t) room i (get_or cur i d)
      → set cur i x ≡ taken_to (suc i) t room
  unfolding contact_from contacts_in
  taken_more i d x cur l e g = elim (either (enough (length t) room)) [
    | inl h ↦
        let y : Contact = contact_in (slot room i) in
        ap₂ (λ (u : List Contact) (v : Contact). set u i v) (e ∙ cond_yes (enough (length t) room) _ _ h) (g ∙ cond_yes (enough (length t) room) _ _ h)
        ∙ ap (λ (u : List Contact). set (contacts_in i room ++ u) i y) (drop-cons t i d l)
        ∙ set_at (contacts_in i room) (get_or t i d) (drop (suc i) t) y i (length-contacts i room)
        ∙ sym (append_snoc (contacts_in i room) y (drop (suc i) t))
        ∙ sym (cond_yes (enough (length t) room) _ _ h)
    | inr h ↦
        let is : cur ≡ t = e ∙ cond_no (enough (length t) room) _ _ h in
        ap (λ (v : Contact). set cur i v) (g ∙ cond_no (enough (length t) room) _ _ h) ∙ set-get_or cur i d ∙ is ∙ sym (cond_no (enough (length t) room) _ _ h)
  ]

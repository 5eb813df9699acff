-- A call on contacts: they are laid out in the room, the core works on their bytes there, and they are taken from the room. Assumes nothing.
use Prim.Native.Nat.{ℕ, ◌*◌, ◌≤◌}
use mathlib.Core.Path.{◌≡◌, sym, ap, ap₂, ◌∙◌}
use mathlib.Core.Bool.{Bool, true, false, cond}
use mathlib.Core.Logic.{inl, inr}
use mathlib.Core.List.{List, ◌++◌}
use native.Mathlib.Omega.{arith}
use lib.ListN.{length, take, drop, length-append, length-drop}
use lib.Seq.{take_at, drop_at}
use Rattle.octets.proofs.Bools.{either, cond_yes, cond_no}
use Rattle.contacts.specs.Table.{slot_size}
use Rattle.contact_slots.specs.declared.Contact.{Contact}
use Rattle.contact_slots.specs.Slots.{table_bytes, contacts_in, enough, table_in, with_table}
use Rattle.contact_slots.proofs.Laws.{enough-fits, enough-same}
use Rattle.contact_slots.proofs.Rows.{contacts-front}
use Rattle.contact_structs.specs.Structs.{contacts_after, room_after}

-- what a call says where the core answers x and makes f of the table's bytes: of the answer a and the room's last bytes, and of the contacts too
abbrev pub InRoom : {X : Type 0} → ℕ → List ℕ → (List ℕ → List ℕ) → X → X → List ℕ → Type 0
InRoom n room f x a z = (a ≡ x) × (z ≡ with_table n room (f (table_in n room)))

abbrev pub OnContacts : {X : Type 0} → List Contact → List ℕ → (List ℕ → List ℕ) → X → X → List Contact → List ℕ → Type 0
OnContacts t room f x a u z = (a ≡ x) × (u ≡ contacts_after t room (f (table_bytes t))) × (z ≡ room_after t room (f (table_bytes t)))

-- the room once the contacts are laid out, and once the core has changed their bytes by f
module _ (t : List Contact) (room₀ room₁ : List ℕ) (size : length (table_bytes t) ≡ length t * slot_size) (l₁ : length room₁ ≡ length room₀) (e₁ : room₁ ≡ room_after t room₀ (table_bytes t)) where
  abbrev n : ℕ
  n = length t

  same_test : enough n room₁ ≡ enough n room₀
  same_test = enough-same n room₁ room₀ l₁

  laid : enough n room₀ ≡ true → room₁ ≡ table_bytes t ++ drop (n * slot_size) room₀
  unfolding with_table
  laid h = e₁ ∙ cond_yes (enough n room₀) _ _ h

  unlaid : enough n room₀ ≡ false → room₁ ≡ room₀
  unfolding with_table
  unlaid h = e₁ ∙ cond_no (enough n room₀) _ _ h

  table-there : enough n room₀ ≡ true → table_in n room₁ ≡ table_bytes t
  table-there h = ap (take (n * slot_size)) (laid h) ∙ take_at (table_bytes t) (drop (n * slot_size) room₀) (n * slot_size) size

  rest-there : enough n room₀ ≡ true → drop (n * slot_size) room₁ ≡ drop (n * slot_size) room₀
  rest-there h = ap (drop (n * slot_size)) (laid h) ∙ drop_at (table_bytes t) (drop (n * slot_size) room₀) (n * slot_size) size

  -- what the core answers
  said : {X : Type 0} (g : List ℕ → X) (z : X) → cond (enough n room₁) (g (table_in n room₁)) z ≡ cond (enough n room₀) (g (table_bytes t)) z
  said g z = elim (either (enough n room₀)) [
    | inl h ↦ cond_yes (enough n room₁) _ _ (same_test ∙ h) ∙ ap g (table-there h) ∙ sym (cond_yes (enough n room₀) _ _ h)
    | inr h ↦ cond_no (enough n room₁) _ _ (same_test ∙ h) ∙ sym (cond_no (enough n room₀) _ _ h)
  ]

  module _ (f : List ℕ → List ℕ) (room₂ : List ℕ) (l₂ : length room₂ ≡ length room₁) (e₂ : room₂ ≡ with_table n room₁ (f (table_in n room₁))) where
    changed : enough n room₀ ≡ true → room₂ ≡ f (table_bytes t) ++ drop (n * slot_size) room₀
    unfolding with_table
    changed h = e₂ ∙ cond_yes (enough n room₁) _ _ (same_test ∙ h) ∙ ap₂ (λ (x y : List ℕ). x ++ y) (ap f (table-there h)) (rest-there h)

    unchanged : enough n room₀ ≡ false → room₂ ≡ room₀
    unfolding with_table
    unchanged h = e₂ ∙ cond_no (enough n room₁) _ _ (same_test ∙ h) ∙ unlaid h

    -- the core leaves the table's length as it was
    long : enough n room₀ ≡ true → n * slot_size ≤ length (f (table_bytes t))
    long h =
        omega (
          arith,
          ap (λ (s : List ℕ). length s) (changed h),
          length-append (f (table_bytes t)) (drop (n * slot_size) room₀),
          length-drop (n * slot_size) room₀,
          enough-fits n room₀ h,
          l₁,
          l₂,
        )

    room_after_lem : room₂ ≡ room_after t room₀ (f (table_bytes t))
    unfolding with_table
    room_after_lem = elim (either (enough n room₀)) [
      | inl h ↦ changed h ∙ sym (cond_yes (enough n room₀) _ _ h)
      | inr h ↦ unchanged h ∙ sym (cond_no (enough n room₀) _ _ h)
    ]

    contacts-after : (u : List Contact) → u ≡ contacts_after t room₂ room₂ → u ≡ contacts_after t room₀ (f (table_bytes t))
    unfolding contacts_after
    contacts-after u e = e ∙ ap (λ (b : Bool). cond b (contacts_in n room₂) t) (enough-same n room₂ room₀ (l₂ ∙ l₁)) ∙ elim (either (enough n room₀)) [
      | inl h ↦
          cond_yes (enough n room₀) _ _ h ∙ ap (contacts_in n) (changed h)
          ∙ contacts-front n (f (table_bytes t)) (drop (n * slot_size) room₀) (long h) ∙ sym (cond_yes (enough n room₀) _ _ h)
      | inr h ↦ cond_no (enough n room₀) _ _ h ∙ sym (cond_no (enough n room₀) _ _ h)
    ]

    pub all_after : {X : Type 0} (g : List ℕ → X) (z : X) (u : List Contact) (a : X) → a ≡ cond (enough n room₁) (g (table_in n room₁)) z → u ≡ contacts_after t room₂ room₂ → OnContacts t room₀ f (cond (enough n room₀) (g (table_bytes t)) z) a u room₂
    all_after g z u a e q = (e ∙ said g z, contacts-after u q, room_after_lem)

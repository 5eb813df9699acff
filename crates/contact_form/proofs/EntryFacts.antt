-- In a table in form nothing of a contact is cut: a reply's entry has the slot's id and addresses. Assumes nothing.
use Prim.Native.Nat.{ℕ, zero, suc, ◌+◌, ◌*◌, ◌<◌, ◌≤◌}
use mathlib.Core.Path.{◌≡◌, refl, ap, ap₂, ◌∙◌}
use mathlib.Core.Bool.{true}
use mathlib.Core.List.{List, [], ◌∷◌, ◌++◌}
use native.Mathlib.Omega.{arith}
use lib.ListN.{length, length-take}
use lib.Seq.{take_all}
use Rattle.octets.proofs.Parts.{part-size}
use Rattle.limits.specs.Limits.{most_id, most_address, most_addresses}
use Rattle.contact_table.specs.Table.{slot_size, slots_of, slot, used, id_size, address_count, address_size, id, address, addresses_to, addresses}
use Rattle.contact_form.specs.Form.{in_form}
use Rattle.contact_table.specs.Contact.{entry_id, entry_address, entry_count, entry_addresses_to, entry_addresses}
use Rattle.contact_table.proofs.Cuts.{slot_whole, slot-size}
use Rattle.contact_form.specs.Claims.{Fields, Entry}
use Rattle.contact_form.proofs.FormFacts.{form-elim}

-- what is never over its limit
pub entry-id-most : (s : List ℕ) → length (entry_id s) ≤ most_id
unfolding entry_id
entry-id-most s = omega (arith, length-take most_id (id s))

pub entry-address-most : (s : List ℕ) (k : ℕ) → length (entry_address s k) ≤ most_address
unfolding entry_address
entry-address-most s k = omega (arith, length-take most_address (address s k))

pub entry-count-most : (s : List ℕ) → entry_count s ≤ most_addresses
unfolding entry_count
entry-count-most s = omega arith

-- sizes of the parts of a whole slot
module _ (s : List ℕ) (whole : length s ≡ slot_size) (f : Fields s) where
  pub id-size : length (id s) ≡ id_size s
  unfolding id
  id-size = part-size s 40 (id_size s) (omega (arith, f.id_most))

  pub address-size : (k : ℕ) → k < address_count s → length (address s k) ≡ address_size s k
  unfolding address
  address-size k l = part-size s (104 + k * 128) (address_size s k) (omega (arith, f.few, (f.sizes k l).1))

  pub entry-id-whole : entry_id s ≡ id s
  unfolding entry_id
  entry-id-whole = take_all most_id (id s) (omega (arith, id-size, f.id_most))

  pub entry-address-whole : (k : ℕ) → k < address_count s → entry_address s k ≡ address s k
  unfolding entry_address
  entry-address-whole k l = take_all most_address (address s k) (omega (arith, address-size k l, (f.sizes k l).1))

  pub entry-count-whole : entry_count s ≡ address_count s
  unfolding entry_count
  entry-count-whole = omega (arith, f.few)

  to_whole : (n : ℕ) → n ≤ address_count s → entry_addresses_to s n ≡ addresses_to s n
  unfolding entry_addresses_to addresses_to
  to_whole zero l = refl
  to_whole (suc n) l = ap₂ (λ (x : List (List ℕ)) (y : List ℕ). x ++ (y ∷ [])) (to_whole n (omega arith)) (entry-address-whole n (omega arith))

  pub entry-addresses-whole : entry_addresses s ≡ addresses s
  unfolding entry_addresses addresses
  entry-addresses-whole = ap (entry_addresses_to s) entry-count-whole ∙ to_whole (address_count s) (omega arith)

-- of a used slot of a table in form
pub form-entry : (t o : List ℕ) → in_form t o ≡ true → (i : ℕ) → i < slots_of t → used (slot t i) ≡ true → Entry (slot t i)
form-entry t o y i l u =
    let f : Fields (slot t i) = (form-elim t o y).fields i l u in
    let w : length (slot t i) ≡ slot_size = slot-size t i (slot_whole t i l) in
    record {
      same_id = entry-id-whole (slot t i) w f;
      same_addresses = entry-addresses-whole (slot t i) w f;
      id_some = omega (arith, ap length (entry-id-whole (slot t i) w f), id-size (slot t i) w f, f.id_least);
    }

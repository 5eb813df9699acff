-- Request xiv, 'Two benches agree', of the record store: its words, and what they come to. proofs/Agree.antt shows all of it (`agreement`), Fakes.antt has
-- stores that don't agree. `demands` says it of boxes, `host_demands` of the programs that call them.
use Rattle.std.specs.Prelude.{ℕ, ◌<◌, ◌≡◌, ◌⊎◌, Bool, true, false, ◌&&◌, cond, List, [], ◌∷◌}
use Rattle.octets.specs.Octets.{same}
use Rattle.refusal.specs.declared.Refusal.TheVariants.{NoRecordSlot}
use Rattle.recipe.specs.Recipe.{is_recipe, outranks}
use Rattle.records.specs.Store.{slots_of, slot, used, key_of, value_of, is_key, put_answer}
use Rattle.records_history.specs.History.{got, Offer, offered, after, cleared}
use Rattle.std.specs.Prelude.{Err, Some, None, Option}

-- "start with no records": no slot is used. How many slots there are is free
abbrev pub NoRecords : List ℕ → Type 0
NoRecords t = (i : ℕ) → i < slots_of t → used (slot t i) ≡ false

-- "offered the same set of records .. in any order and with repeats": what is among the offers of one is among those of the other
unfoldable pub IsOffered : List ℕ → List ℕ → List Offer → Type 0
IsOffered k v [] = ⊥
IsOffered k v (o ∷ os) = ((o.key ≡ k) × (o.value ≡ v)) ⊎ IsOffered k v os

pub record SameSet (os ps : List Offer) : Type 0 where
  pub there : (k v : List ℕ) → IsOffered k v os → IsOffered k v ps
  pub back : (k v : List ℕ) → IsOffered k v ps → IsOffered k v os

-- "neither ever gave 11": none of the offers, as they come, is answered so. 8, 9 and 10 may be: "Refusals 8, 9 and 10 on the way don't spoil it"
unfoldable pub Never11 : List ℕ → List Offer → Type 0
Never11 t [] = Unit {0}
Never11 t (o ∷ os) = (put_answer t o.key o.value ≡ Err NoRecordSlot → ⊥) × Never11 (offered t o) os

-- "they hold the same keys with identical values": each gives the same for every key, and every record in a slot of one stands in a slot of the other
abbrev pub Within : List ℕ → List ℕ → Type 0
Within t u =
    (i : ℕ) → i < slots_of t → used (slot t i) ≡ true
    → (j : ℕ) × (j < slots_of u) × (used (slot u j) ≡ true) × (key_of (slot u j) ≡ key_of (slot t i)) × (value_of (slot u j) ≡ value_of (slot t i))

pub record HoldSame (t u : List ℕ) : Type 0 where
  pub found : (k : List ℕ) → got t k ≡ got u k
  pub there : Within t u
  pub back : Within u t

-- ---- what is held under a key. `rules` are recipe rules, whatever they say

-- of the values that are offered under a key, one that neither 8 nor 9 refuses
pub record Counts (rules : List ℕ → Bool) (k : List ℕ) (Among : List ℕ → Type 0) (v : List ℕ) : Type 0 where
  pub offered : Among v
  pub key : is_key k ≡ true
  pub fits : rules v ≡ true

-- the highest-ranking of these, or none where there are none
pub record Highest (rules : List ℕ → Bool) (k : List ℕ) (Among : List ℕ → Type 0) (g : Option (List ℕ)) : Type 0 where
  pub one : (u : List ℕ) → g ≡ Some u → Counts rules k Among u
  pub top : (v : List ℕ) → Counts rules k Among v → (u : List ℕ) × (g ≡ Some u) × (outranks v u ≡ false)

-- the same worked out: what a put makes of what is held under its key, and what all offers make of it, one after the other
unfoldable pub higher : Option (List ℕ) → List ℕ → Option (List ℕ)
higher None v = Some v
higher (Some u) v = Some (cond (outranks u v) u v)

unfoldable pub held_from : (List ℕ → Bool) → ((Option (List ℕ)) → List ℕ → Option (List ℕ)) → Option (List ℕ) → List Offer → List ℕ → Option (List ℕ)
held_from rules put g [] k = g
held_from rules put g (o ∷ os) k = held_from rules put (cond (same o.key k && (is_key k && rules o.value)) (put g o.value) g) os k

abbrev pub held_after : (List ℕ → Bool) → ((Option (List ℕ)) → List ℕ → Option (List ℕ)) → List Offer → List ℕ → Option (List ℕ)
held_after rules put os k = held_from rules put None os k

-- what offers come to goes by their set alone
abbrev pub Agrees : (List Offer → List ℕ → Option (List ℕ)) → Type 0
Agrees holds = (os ps : List Offer) → SameSet os ps → (k : List ℕ) → holds os k ≡ holds ps k

-- ---- the request
pub record Agreement : Type 0 where
  pub two : (t u : List ℕ) (os ps : List Offer) → NoRecords t → NoRecords u → SameSet os ps → Never11 t os → Never11 u ps → HoldSame (after t os) (after u ps)
  -- what each holds: the highest-ranking of what it was offered, and that is worked out so
  pub highest : (t : List ℕ) (os : List Offer) → NoRecords t → Never11 t os → (k : List ℕ) → Highest is_recipe k (λ v. IsOffered k v os) (got (after t os) k)
  pub held : (t : List ℕ) (os : List Offer) → NoRecords t → Never11 t os → (k : List ℕ) → got (after t os) k ≡ held_after is_recipe higher os k
  -- "both run the same recipe rules throughout": by any rules, the same set comes to the same
  pub any-rules : (rules : List ℕ → Bool) → Agrees (held_after rules higher)
  -- memory once cleared has no records; 11 is given where no slot is free (Claims.antt, `PutTold`)
  pub begin : (n : ℕ) → NoRecords (cleared n)

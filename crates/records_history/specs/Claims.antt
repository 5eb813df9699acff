-- What becomes of a store over any puts, and what it does with the value that it holds under a key. proofs/Stays.antt, Holding.antt, Blind.antt and Longer.antt show each,
-- proofs/Claims.antt all of them.
use Rattle.std.specs.Prelude.{ℕ, ◌+◌, ◌*◌, ◌/◌, ◌%◌, ◌<◌, ◌≤◌, ◌≡◌, ◌⊎◌, true, false, cond, List, length, get_or}
use Rattle.octets.specs.Octets.{part}
use Rattle.refusal.specs.declared.Refusal.TheVariants.{OutOfForm, BreaksRules, BrokenRecipe, Outranked, NoRecordSlot}
use Rattle.recipe.specs.Recipe.{count_of, format_of, core_count_of, Bounds, recipe_within, is_recipe, outranks}
use Rattle.records.specs.Limits.{value_at, slot_size}
use Rattle.records.specs.Store.{between, slots_of, slot, used, size_of, value_of, slot_bytes, is_key, holds, in_form, find_of, judged, answer_of, after_of, put_answer, put_after}
use Rattle.records_history.specs.History.{got, Offer, accepts, offered, after, cleared, Accepted, Unbeaten}
use Rattle.std.specs.Prelude.{Ok, Err, Some, None, Result, Option}
use Rattle.refusal.specs.declared.Refusal.{Refusal}

-- ---- over any list of puts, on any bytes

-- "memory once cleared" is in form, and a store that is stays so
pub record FormIsKept : Type 0 where
  pub start : (n : ℕ) → in_form (cleared n) ≡ true
  pub kept : (t : List ℕ) (os : List Offer) → in_form t ≡ true → in_form (after t os) ≡ true

-- what is found under a key
pub record HighestIsFound : Type 0 where
  -- a value that is accepted is the one found under its key, and a put for one key changes no other
  pub accepted : (t : List ℕ) (o : Offer) → accepts t o ≡ true → got (offered t o) o.key ≡ Some o.value
  pub others : (t k v k' : List ℕ) → (k ≡ k' → ⊥) → got (put_after t k v) k' ≡ got t k'
  -- of all that were accepted none ranks higher than the one found, and that is one of them, or was held from the start
  pub highest : (k v t : List ℕ) (os : List Offer) → Accepted k v t os → (u : List ℕ) × (got (after t os) k ≡ Some u) × (outranks v u ≡ false)
  pub origin : (k u t : List ℕ) (os : List Offer) → got (after t os) k ≡ Some u → (got t k ≡ Some u) ⊎ Accepted k u t os
  -- "stays the one found under its key until a higher-ranking one is accepted"
  pub stays : (k v t : List ℕ) (os : List Offer) → got t k ≡ Some v → Unbeaten k v t os → got (after t os) k ≡ Some v

-- ---- of the value that is held under a key, whatever the recipe rules say of it: RULES, Recipes, "records already held stay held and are still served and
-- ranked"

-- form never looks into a value: stores of one size, whose slots have the same bytes before the value, are both in form or both out of it
abbrev pub FormIsBlind : Type 0
FormIsBlind =
    (s t : List ℕ) → length s ≡ length t
    → ((i : ℕ) → i < slots_of s → part s (i * slot_size) (i * slot_size + value_at) ≡ part t (i * slot_size) (i * slot_size + value_at))
    → in_form s ≡ in_form t

-- the value in the slot that holds a key is the one held under it, and is found: it stands where find says; where none is held, none is found
pub record HeldIsFound : Type 0 where
  pub held : (t k : List ℕ) (i : ℕ) → in_form t ≡ true → i < slots_of t → holds t k i ≡ true → got t k ≡ Some (value_of (slot t i))
  pub found : (t k u : List ℕ) → in_form t ≡ true → got t k ≡ Some u → (a : ℕ) × (e : ℕ) × (find_of t k ≡ Ok (Some (between a e))) × (part t a e ≡ u)
  pub missing : (t k : List ℕ) → in_form t ≡ true → got t k ≡ None → find_of t k ≡ Ok None
  -- and it is whole: it has as many bytes as its slot says, which form bounds ("a value of 16 to 3,072")
  pub whole : (t : List ℕ) (i : ℕ) → in_form t ≡ true → i < slots_of t → used (slot t i) ≡ true
      → (length (value_of (slot t i)) ≡ size_of (slot t i)) × (16 ≤ size_of (slot t i)) × (size_of (slot t i) ≤ 3072)

-- what is offered is judged first: 9, whatever is held. Only then it is compared: 10, if what is held ranks higher; else it is the one that is held
pub record JudgedFirst : Type 0 where
  pub broken : (t k v : List ℕ) → in_form t ≡ true → is_key k ≡ true → is_recipe v ≡ false → put_answer t k v ≡ Err BrokenRecipe
  pub ranked : (t k u v : List ℕ) → in_form t ≡ true → got t k ≡ Some u → is_recipe v ≡ true
      → (put_answer t k v ≡ cond (outranks u v) (Err Outranked) (Ok tt)) × (got (put_after t k v) k ≡ Some (cond (outranks u v) u v))

-- what a put is told else: 0, 8, and of a key that isn't held 11 exactly where "every record slot holds another key" (RULES, Refusals)
pub record PutTold : Type 0 where
  pub out_of_form : (t k v : List ℕ) → in_form t ≡ false → put_answer t k v ≡ Err OutOfForm
  pub rules : (t k v : List ℕ) → in_form t ≡ true → is_key k ≡ false → put_answer t k v ≡ Err BreaksRules
  pub full : (t k v : List ℕ) → in_form t ≡ true → is_key k ≡ true → is_recipe v ≡ true → got t k ≡ None
      → ((j : ℕ) → j < slots_of t → used (slot t j) ≡ true) → put_answer t k v ≡ Err NoRecordSlot
  pub new : (t k v : List ℕ) → in_form t ≡ true → is_key k ≡ true → is_recipe v ≡ true → got t k ≡ None
      → (j : ℕ) → j < slots_of t → used (slot t j) ≡ false → put_answer t k v ≡ Ok tt

-- ---- longer recipes (request iii)

-- a slot says how long its value is in bytes 2 and 3, the low byte first: 3,072 is 00 0C
abbrev pub LengthInSlot : Type 0
LengthInSlot = (k v : List ℕ) → (get_or (slot_bytes k v) 2 0 ≡ length v % 256) × (get_or (slot_bytes k v) 3 0 ≡ length v / 256)

-- "nobody may read it short": every value that a put takes, however long, is found to its last byte
abbrev pub TakenWhole : Type 0
TakenWhole =
    (t k v : List ℕ) → put_answer t k v ≡ Ok tt → (a : ℕ) × (e : ℕ) × (find_of (put_after t k v) k ≡ Ok (Some (between a e))) × (part (put_after t k v) a e ≡ v)

-- ---- boxes of other bounds

-- what is over a box's bounds, or of a format that it doesn't know. Of before request iii the bounds were 2,048 bytes and 200 setpoints; of before request xi format 2
-- wasn't known
abbrev pub Outside : Bounds → List ℕ → Type 0
Outside b v = (b.bytes < length v) ⊎ ((b.points < count_of v) ⊎ ((b.points < core_count_of v) ⊎ ((b.two ≡ false) × (format_of v ≡ 2))))

-- "Boxes not yet changed refuse the longer value with 9", "A box knowing only format 1 refuses 2 with 9", and they store nothing: what such a box makes of an offer once its
-- memory is found in form. `store` is what it would make of it by its slots, however large these are; that isn't reached
abbrev pub RefusedBefore : Type 0
RefusedBefore =
    (b : Bounds) (t k v : List ℕ) (store : Result (Option ℕ) Refusal) → is_key k ≡ true → Outside b v
    → let plan = judged (recipe_within b) k v store in (answer_of plan ≡ Err BrokenRecipe) × (after_of t k v plan ≡ t)

pub record Claims : Type 0 where
  pub form : FormIsKept
  pub highest : HighestIsFound
  pub blind : FormIsBlind
  pub found : HeldIsFound
  pub judged : JudgedFirst
  pub told : PutTold
  pub length-in-slot : LengthInSlot
  pub whole : TakenWhole
  pub refused-before : RefusedBefore

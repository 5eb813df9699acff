-- The record store: RULES, Answers (PUT_VALUE), and RULES, Recipes (rank). Its slots and its form are passed on.
use Rattle.std.specs.Prelude.{ℕ, ◌+◌, ◌*◌, Bool, not, cond, List, length, ltb}
use Rattle.std.proofs.lemmas.List.Edits.{sets}
use Rattle.octets.specs.Octets.{same}
use Rattle.refusal.specs.declared.Refusal.TheVariants.{OutOfForm, BreaksRules, BrokenRecipe, Outranked, NoRecordSlot}
use Rattle.recipe.specs.Recipe.{is_recipe, outranks}
use Rattle.record_slots.specs.Limits.{value_at, slot_size}
unfoldable pub use Rattle.record_slots.specs.Slots.{slots_of, slot, used, key_of, size_of, value_of, padded, header, slot_bytes, is_key, is_record, holds, apart, fits, in_form, slot_with, is_free, free_slot}
use Rattle.std.specs.Prelude.{Ok, Err, Some, None, Result, Option, ⊤}
use Rattle.records.specs.declared.Held.{Held}
use Rattle.refusal.specs.declared.Refusal.{Refusal}

-- ---- finding
abbrev pub between : ℕ → ℕ → Held
between a e = record { start = a; end = e }

-- where in the store the value of slot i stands
unfoldable pub held_at : List ℕ → ℕ → Result (Option Held) Refusal
held_at t i = (Ok (Some (between (i * slot_size + value_at) (i * slot_size + value_at + length (value_of (slot t i))))))

-- what a key gives: where its value starts and ends
unfoldable pub found : List ℕ → List ℕ → Result (Option Held) Refusal
found t k = cond (ltb (slot_with t k) (slots_of t)) (held_at t (slot_with t k)) (Ok None)

-- the host's call: 0, and no other refusal
unfoldable pub find_of : List ℕ → List ℕ → Result (Option Held) Refusal
find_of t k = cond (not (in_form t)) (Err OutOfForm) (found t k)

-- ---- putting
-- a record of the key is held in slot i: "identical bytes are accepted and change nothing", which "applies only after" 9 (RULES, Recipes); else 10, if what is
-- held ranks higher
unfoldable pub held_plan : List ℕ → List ℕ → ℕ → Result (Option ℕ) Refusal
held_plan held v i = cond (same held v) (Ok None) (cond (outranks held v) (Err Outranked) (Ok (Some i)))

-- what is offered is judged first, by its key (8) and by a box's recipe rules (9); what the store makes of it comes after that
abbrev pub judged : (List ℕ → Bool) → List ℕ → List ℕ → Result (Option ℕ) Refusal → Result (Option ℕ) Refusal
judged rules k v store = cond (not (is_key k)) (Err BreaksRules) (cond (not (rules v)) (Err BrokenRecipe) store)

-- what a put is to do: 8, 9, then by what is held (10), and 11 where the key isn't held and every slot is used
unfoldable pub plan_of : List ℕ → List ℕ → List ℕ → Result (Option ℕ) Refusal
plan_of t k v =
    judged is_recipe k v
    (cond (ltb (slot_with t k) (slots_of t)) (held_plan (value_of (slot t (slot_with t k))) v (slot_with t k))
    (cond (ltb (free_slot t) (slots_of t)) (Ok (Some (free_slot t))) (Err NoRecordSlot)))

unfoldable pub answer_of : Result (Option ℕ) Refusal → Result ⊤ Refusal
answer_of (Ok (Some i)) = Ok tt
answer_of (Ok None) = Ok tt
answer_of (Err r) = Err r

-- every byte of the store afterwards: slot i written whole, or nothing
unfoldable pub after_of : List ℕ → List ℕ → List ℕ → Result (Option ℕ) Refusal → List ℕ
after_of t k v (Ok (Some i)) = sets t (i * slot_size) (slot_bytes k v)
after_of t k v (Ok None) = t
after_of t k v (Err r) = t

-- a put into a store whose form was tested: 8 to 11
unfoldable pub offer_answer : List ℕ → List ℕ → List ℕ → Result ⊤ Refusal
offer_answer t k v = answer_of (plan_of t k v)

unfoldable pub offer_after : List ℕ → List ℕ → List ℕ → List ℕ
offer_after t k v = after_of t k v (plan_of t k v)

-- the host's call: 0, then 8 to 11
unfoldable pub put_answer : List ℕ → List ℕ → List ℕ → Result ⊤ Refusal
put_answer t k v = cond (not (in_form t)) (Err OutOfForm) (offer_answer t k v)

unfoldable pub put_after : List ℕ → List ℕ → List ℕ → List ℕ
put_after t k v = cond (not (in_form t)) t (offer_after t k v)

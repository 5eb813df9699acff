-- What a store gives for a key, and what becomes of it over any list of puts, typed by the host or sent by peers: both are this put.
use Rattle.std.specs.Prelude.{ℕ, ◌≡◌, ◌⊎◌, Bool, true, false, cond, List, [], ◌∷◌, replicate, ltb}
use Rattle.recipe.specs.Recipe.{outranks}
use Rattle.records.specs.Store.{slots_of, slot, value_of, slot_with, put_answer, put_after}
use Rattle.std.specs.Prelude.{Ok, Err, Some, None, Result, Option, ⊤}
use Rattle.refusal.specs.declared.Refusal.{Refusal}

-- the value that a store holds under a key
unfoldable pub got : List ℕ → List ℕ → Option (List ℕ)
got t k = cond (ltb (slot_with t k) (slots_of t)) (Some (value_of (slot t (slot_with t k)))) None

unfoldable pub taken : Result ⊤ Refusal → Bool
taken (Ok tt) = true
taken (Err r) = false

-- memory once cleared
abbrev pub cleared : ℕ → List ℕ
cleared n = replicate n 0

-- a put, and the store after each of a list of them
pub record Offer : Type 0 where
  pub key : List ℕ
  pub value : List ℕ

unfoldable pub accepts : List ℕ → Offer → Bool
accepts t o = taken (put_answer t o.key o.value)

unfoldable pub offered : List ℕ → Offer → List ℕ
offered t o = put_after t o.key o.value

unfoldable pub after : List ℕ → List Offer → List ℕ
after t [] = t
after t (o ∷ os) = after (offered t o) os

-- one of the puts, as they come, is of key k and value v and is accepted
unfoldable pub Accepted : List ℕ → List ℕ → List ℕ → List Offer → Type 0
Accepted k v t [] = ⊥
Accepted k v t (o ∷ os) = ((o.key ≡ k) × (o.value ≡ v) × (accepts t o ≡ true)) ⊎ Accepted k v (offered t o) os

-- none of the puts, as they come, is of key k, ranks higher than v and is accepted
unfoldable pub Unbeaten : List ℕ → List ℕ → List ℕ → List Offer → Type 0
Unbeaten k v t [] = Unit {0}
Unbeaten k v t (o ∷ os) = (o.key ≡ k → accepts t o ≡ true → outranks o.value v ≡ true → ⊥) × Unbeaten k v (offered t o) os

-- Wrong stores, and that none of them agrees: request xiv. A store is here what it holds under a key after offers, with room for all of them, so that it
-- never gives 11. Proved in proofs/Fakes.antt.
use Rattle.std.specs.Prelude.{ℕ, ◌≡◌, Bool, true, cond, List, ◌++◌, ltb}
use Rattle.recipe.specs.Recipe.{is_recipe, sequence_of, outranks}
use Rattle.records_history.specs.History.{got, Offer, after}
use Rattle.records_history.specs.Agree.{NoRecords, SameSet, higher, held_from, held_after, Agrees}
use Rattle.std.specs.Prelude.{Some, None, Option}

-- a put that takes the newest
unfoldable pub takes_newest : Option (List ℕ) → List ℕ → Option (List ℕ)
takes_newest g v = Some v

-- a put that ranks by sequence alone: of equal sequences neither ranks higher, so the one that came last stays
unfoldable pub goes_by_sequence : Option (List ℕ) → List ℕ → Option (List ℕ)
goes_by_sequence None v = Some v
goes_by_sequence (Some u) v = Some (cond (ltb (sequence_of v) (sequence_of u)) u v)

-- a put that forgets what it holds when it gives 10
unfoldable pub forgets : Option (List ℕ) → List ℕ → Option (List ℕ)
forgets None v = Some v
forgets (Some u) v = cond (outranks u v) None (Some v)

-- other rules, by which every value is a recipe
abbrev pub no_rules : List ℕ → Bool
no_rules v = true

pub record NoFake : Type 0 where
  pub newest : Agrees (held_after is_recipe takes_newest) → ⊥
  pub by-sequence : Agrees (held_after is_recipe goes_by_sequence) → ⊥
  pub forgetful : Agrees (held_after is_recipe forgets) → ⊥
  -- without "both run the same recipe rules", and without "throughout": the same offers in the same order
  pub other-rules : ((os : List Offer) (k : List ℕ) → held_after is_recipe higher os k ≡ held_after no_rules higher os k) → ⊥
  pub changed-rules : ((os ps : List Offer) (k : List ℕ) → held_from is_recipe higher (held_after no_rules higher os k) ps k ≡ held_after is_recipe higher (os ++ ps) k) → ⊥
  -- and the store itself, without "neither ever gave 11"
  pub though-11 : ((t u : List ℕ) (os ps : List Offer) → NoRecords t → NoRecords u → SameSet os ps → (k : List ℕ) → got (after t os) k ≡ got (after u ps) k) → ⊥

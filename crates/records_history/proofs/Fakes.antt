-- None of the wrong stores of specs/Fakes.antt agrees. Assumes nothing.
use Prim.Native.Nat.{ℕ, ◌<◌}
use native.Mathlib.Omega.{arith}
use mathlib.Core.Path.{◌≡◌, refl, sym, ap, ◌∙◌}
use mathlib.Core.Logic.{inl, inr, ⊎_elim}
use mathlib.Core.Bool.{true, false}
use mathlib.Core.List.{List, [], ◌∷◌, ◌++◌}
use lib.ListN.{length, length-replicate}
use Rattle.octets.specs.Octets.{little_number, lower, same, starts_with}
use Rattle.octets.specs.Search.{all_of}
use Rattle.octets.proofs.Bools.{cond_yes, cond_no}
use Rattle.octets.proofs.Strings.{same_refl}
use Rattle.recipe.specs.Recipe.{varint, point, and_then, setpoints, in_range, follows, rules, ruled, is_list, distance_of, count_of, format_of, trailer_of, core_distance_of, core_count_of, pad_of, list_fills, recipe_within, is_recipe, sequence_of, outranks}
use Rattle.records.specs.Limits.{slot_size}
use Rattle.records.specs.Store.{slots_of, is_key}
use Rattle.records_history.specs.History.{got, Offer, offered, after, cleared, accepts, taken}
use Rattle.records_history.specs.Agree.{NoRecords, IsOffered, SameSet, higher, held_from, held_after, Agrees}
use Rattle.records_history.specs.Fakes.{takes_newest, goes_by_sequence, forgets, no_rules, NoFake}
use Rattle.records_history.proofs.Stays.{has, none, put_refused, cleared-free, free-form, free-none, step-taken}
use Rattle.records_history.proofs.Holding.{put-told}
use Rattle.std.specs.Prelude.{Some, None, Option}

-- ---- /wind/a, and two recipes of sequence 7, of which the second ranks higher by its note, a byte
abbrev key : List ℕ
key = 0x2F ∷ 0x77 ∷ 0x69 ∷ 0x6E ∷ 0x64 ∷ 0x2F ∷ 0x61 ∷ []

abbrev noted : ℕ → List ℕ
noted b = b ∷ 0x10 ∷ 0x00 ∷ 0x00 ∷ 0x00 ∷ 0x00 ∷ 0x00 ∷ 0x01 ∷ 0x00 ∷ 0x07 ∷ 0x00 ∷ 0x00 ∷ 0x00 ∷ 0x00 ∷ 0x00 ∷ 0x00 ∷ 0x00 ∷ []

abbrev low : List ℕ
low = noted 0

abbrev high : List ℕ
high = noted 1

is-key : is_key key ≡ true
unfolding is_key all_of starts_with same
is-key = refl

is-low : is_recipe low ≡ true
unfolding little_number all_of varint point and_then setpoints in_range follows rules ruled is_list distance_of count_of format_of trailer_of core_distance_of core_count_of pad_of list_fills recipe_within is_recipe
is-low = refl

is-high : is_recipe high ≡ true
unfolding little_number all_of varint point and_then setpoints in_range follows rules ruled is_list distance_of count_of format_of trailer_of core_distance_of core_count_of pad_of list_fills recipe_within is_recipe
is-high = refl

no-recipe : is_recipe [] ≡ false
unfolding little_number all_of distance_of count_of format_of trailer_of core_distance_of core_count_of pad_of list_fills recipe_within is_recipe
no-recipe = refl

is-higher : outranks high low ≡ true
unfolding outranks sequence_of little_number lower
is-higher = refl

is-lower : outranks low high ≡ false
unfolding outranks sequence_of little_number lower
is-lower = refl

differ : low ≡ high → ⊥
differ e = let z : ◌≡◌ {A = ℕ} 0 1 = cc in omega arith

-- ---- offers in either order
abbrev offer : List ℕ → Offer
offer v = record { key = key; value = v }

turned : (o p : Offer) (k v : List ℕ) → IsOffered k v (o ∷ p ∷ []) → IsOffered k v (p ∷ o ∷ [])
unfolding IsOffered
turned o p k v h = ⊎_elim (λ a. inr (inl a)) (λ r. ⊎_elim (λ b. inl b) (λ c. absurd c) r) h

swapped : (o p : Offer) → SameSet (o ∷ p ∷ []) (p ∷ o ∷ [])
swapped o p = record { there = turned o p; back = turned p o }

after_both : (put : Option (List ℕ) → List ℕ → Option (List ℕ)) (u v : List ℕ) → is_recipe u ≡ true → is_recipe v ≡ true → held_after is_recipe put (offer u ∷ offer v ∷ []) key ≡ put (put None u) v
unfolding held_from
after_both put u v a b = rw (same_refl key, is-key, a, b)

-- a store that agrees holds the same after low and high as after high and low
either_way : (put : Option (List ℕ) → List ℕ → Option (List ℕ)) → Agrees (held_after is_recipe put) → put (put None low) high ≡ put (put None high) low
either_way put h =
    sym (after_both put low high is-low is-high) ∙ h (offer low ∷ offer high ∷ []) (offer high ∷ offer low ∷ []) (swapped (offer low) (offer high)) key
    ∙ after_both put high low is-high is-low

no-newest : Agrees (held_after is_recipe takes_newest) → ⊥
unfolding takes_newest
no-newest h = differ (has (sym (either_way takes_newest h)))

no-sequence : Agrees (held_after is_recipe goes_by_sequence) → ⊥
unfolding goes_by_sequence sequence_of little_number
no-sequence h = differ (has (sym (either_way goes_by_sequence h)))

no-forgetting : Agrees (held_after is_recipe forgets) → ⊥
unfolding forgets
no-forgetting h = none {x = high} (sym (cond_yes (outranks high low) None (Some low) is-higher) ∙ sym (either_way forgets h) ∙ cond_no (outranks low high) None (Some high) is-lower)

-- ---- other rules
other : ((os : List Offer) (k : List ℕ) → held_after is_recipe higher os k ≡ held_after no_rules higher os k) → ⊥
unfolding held_from higher
other h =
    none {x = []} (rw (same_refl key, is-key, no-recipe) at (h (offer [] ∷ []) key))

changed : ((os ps : List Offer) (k : List ℕ) → held_from is_recipe higher (held_after no_rules higher os k) ps k ≡ held_after is_recipe higher (os ++ ps) k) → ⊥
unfolding held_from higher
changed h = none {x = []} (sym (rw (same_refl key, is-key, no-recipe) at (h (offer [] ∷ []) [] key)))

-- ---- 11: a store of no slot, and one of a slot
no-slots : (j : ℕ) → j < slots_of [] → ⊥
unfolding slots_of
no-slots j l = omega arith

no_room : got (offered [] (offer low)) key ≡ None
unfolding offered taken
no_room =
    let e : NoRecords [] = cleared-free 0 in
    ap (λ (t : List ℕ). got t key) (put_refused [] key low (ap taken (put-told.full [] key low (free-form [] e) is-key is-low (free-none [] key e) (λ j l. absurd (no-slots j l)))))
    ∙ free-none [] key e

one-slot : 0 < slots_of (cleared slot_size)
unfolding slots_of
one-slot = let n : length (cleared slot_size) ≡ slot_size = length-replicate {A = ℕ} slot_size 0 in omega (arith, n)

room : got (offered (cleared slot_size) (offer low)) key ≡ Some low
unfolding accepts taken
room =
    let t : List ℕ = cleared slot_size in
    let e : NoRecords (cleared slot_size) = cleared-free slot_size in
    step-taken key t (offer low) refl (ap taken (put-told.new t key low (free-form t e) is-key is-low (free-none t key e) 0 one-slot (e 0 one-slot)))

full : ((t u : List ℕ) (os ps : List Offer) → NoRecords t → NoRecords u → SameSet os ps → (k : List ℕ) → got (after t os) k ≡ got (after u ps) k) → ⊥
unfolding after
full h =
    none (sym no_room ∙ h [] (cleared slot_size) (offer low ∷ []) (offer low ∷ []) (cleared-free 0) (cleared-free slot_size)
    (record { there = λ k v o. o; back = λ k v o. o }) key ∙ room)

pub no-fake : NoFake
no-fake =
    record {
      newest = no-newest;
      by-sequence = no-sequence;
      forgetful = no-forgetting;
      other-rules = other;
      changed-rules = changed;
      though-11 = full;
    }

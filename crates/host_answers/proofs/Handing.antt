-- What is handed over of contacts, recipes and a message's peers is what the functions below gave. Assumes nothing.
use Prim.Native.Nat.{ℕ, ◌<◌, ◌≤◌}
use mathlib.Core.Path.{◌≡◌, sym, ap, ◌∙◌}
use mathlib.Core.Bool.{Bool, true, false}
use mathlib.Core.List.{List, [], ◌∷◌}
use lib.Seq.{sets}
use borrow.Author.Tests.{lt-ltb, le-ltb}
use Rattle.octets.proofs.Bools.{cond_yes, cond_no}
use Rattle.octets.proofs.Stores.{sets-append}
use Rattle.refusal.specs.declared.Refusal.{Refusal}
use Rattle.refusal.specs.Refusal.{number_of}
use Rattle.recipe.specs.Faults.{rule_number, part_number as recipe_part}
use Rattle.recipe.specs.declared.Breach.{Breach}
use Rattle.host_calls.specs.declared.Nearby.{Nearby}
use Rattle.flat.specs.Flat.{says_yes}
use lib.Dec.{ltb}
use Rattle.wire.specs.declared.Span.{Span}
use lib.ListN.{take}
use Rattle.wire.specs.Wire.{first_of, fields_at, spans}
use Rattle.peer_walk.specs.PeerWalk.{walked_of}
use Rattle.peer_walk.specs.declared.Walked.{Walked}
use Rattle.host_numbers.specs.Numbers.{told_code, unless_refused}
use Rattle.host_answers.specs.Answers.{nearest_numbers, fault_numbers, entry_from, later_of, address_from, part_number, peer_numbers}
use Rattle.std.specs.Prelude.{Ok, Err, Some, Result, Option, ⊤}

-- ---- the nearest contacts
module _ (out : List ℕ) (x : Nearby) where
  pub near-told : (one two : List ℕ) → x.told ≡ Ok tt → one ≡ sets out 0 (x.closest.n ∷ []) → two ≡ sets one 1 x.closest.at
      → (64 ≡ told_code x.told) × (two ≡ nearest_numbers out x)
  near-told one two e h k = (
    sym (ap told_code e),
    k ∙ ap (λ (s : List ℕ). sets s 1 x.closest.at) h
        ∙ sym (sets-append out 0 (x.closest.n ∷ []) x.closest.at)
        ∙ sym (ap (λ (t : Result ⊤ Refusal). unless_refused t (sets out 0 (x.closest.n ∷ x.closest.at)) out) e),
  )

  pub near-refused : (n : ℕ) (r : Refusal) → x.told ≡ Err r → n ≡ number_of r → (n ≡ told_code x.told) × (out ≡ nearest_numbers out x)
  near-refused n r e h = (
    h ∙ sym (ap told_code e),
    sym (ap (λ (t : Result ⊤ Refusal). unless_refused t (sets out 0 (x.closest.n ∷ x.closest.at)) out) e),
  )

-- ---- an entry of one of the two lists
module _ (s : List ℕ) (list from : ℕ) (f : Option Span) (b : Bool) (e : b ≡ says_yes list) where
  pub provider-entry : b ≡ true → f ≡ first_of (spans 9 (fields_at s from)) → f ≡ entry_from s list from
  unfolding entry_from
  provider-entry h w = w ∙ sym (cond_yes (says_yes list) (first_of (spans 9 (fields_at s from))) (first_of (spans 8 (fields_at s from))) (sym e ∙ h))

  pub closer-entry : b ≡ false → f ≡ first_of (spans 8 (fields_at s from)) → f ≡ entry_from s list from
  unfolding entry_from
  closer-entry h w = w ∙ sym (cond_no (says_yes list) (first_of (spans 9 (fields_at s from))) (first_of (spans 8 (fields_at s from))) (sym e ∙ h))

pub entry-written : (out one two s : List ℕ) (f : Option Span) (p : Span) (w : Walked) → f ≡ Some p → w ≡ walked_of s p
    → one ≡ sets out 0 (p.at ∷ p.end ∷ w.id.at ∷ w.id.end ∷ w.connection ∷ w.count ∷ []) → two ≡ sets one 6 w.places
    → (64 ≡ part_number f) × (two ≡ peer_numbers out s f)
unfolding walked_of
entry-written out one two s f p w e h a b = (
  sym (ap part_number e),
  b ∙ ap (λ (x : List ℕ). sets x 6 w.places) a
      ∙ sym (sets-append out 0 (p.at ∷ p.end ∷ w.id.at ∷ w.id.end ∷ w.connection ∷ w.count ∷ []) w.places)
      ∙ ap (λ (x : Walked). sets out 0 (p.at ∷ p.end ∷ x.id.at ∷ x.id.end ∷ x.connection ∷ x.count ∷ x.places)) h
      ∙ sym (ap (peer_numbers out s) e),
)

-- ---- an address of an entry
module _ (a b : ℕ) where
  pub later_second : a < b → b ≡ later_of a b
  unfolding later_of
  later_second l = sym (cond_yes (ltb a b) b a (lt-ltb a b l))

  pub later_first : b ≤ a → a ≡ later_of a b
  unfolding later_of
  later_first l = sym (cond_no (ltb a b) b a (le-ltb a b l))

pub address-next : (s : List ℕ) (start end from at : ℕ) (f : Option Span) → at ≡ later_of start from → f ≡ first_of (spans 2 (fields_at (take end s) at))
    → f ≡ address_from s start end from
unfolding address_from
address-next s start end from at f ea ef = ef ∙ ap (λ (x : ℕ). first_of (spans 2 (fields_at (take end s) x))) ea

-- ---- which rule is broken
pub broken-told : (out new : List ℕ) (w : Breach) (r p : ℕ) → r ≡ rule_number w.rule → p ≡ recipe_part w.part → new ≡ sets out 0 (r ∷ p ∷ w.setpoint ∷ []) → new ≡ sets out 0 (fault_numbers w)
broken-told out new w r p er ep h =
    h ∙ ap (λ (x : ℕ). sets out 0 (x ∷ p ∷ w.setpoint ∷ [])) er ∙ ap (λ (x : ℕ). sets out 0 (rule_number w.rule ∷ x ∷ w.setpoint ∷ [])) ep

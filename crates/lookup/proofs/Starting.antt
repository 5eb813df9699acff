-- Laws of a start: the nearest contacts as candidates, and each refusal. Assumes nothing.
use Prim.Native.Nat.{ℕ, ◌-◌, ◌≤◌, ◌<◌}
use mathlib.Core.Path.{◌≡◌, sym, ap, ◌∙◌}
use mathlib.Core.Bool.{Bool, true, false, not, ◌&&◌}
use mathlib.Core.List.{List, []}
use native.Mathlib.Omega.{arith}
use lib.Dec.{leb}
use lib.ListN.{length, take, length-take}
use borrow.Author.Tests.{le-leb, lt-leb, leb-true, not-false}
use Rattle.octets.proofs.Bools.{cond_yes, cond_no, cond_ind, and-on, and-off, and_r}
use Rattle.limits.specs.Limits.{most_near}
use Rattle.place.specs.Place.{is_place}
use Rattle.refusal.specs.declared.Refusal.TheVariants.{OutOfForm, BreaksRules, BadPeer, BadConcurrency}
use Rattle.contacts.specs.Table.{slots_of}
use Rattle.contacts.specs.Form.{in_form as in_form_table}
use Rattle.contacts.specs.Near.{sorted, nearest_slots, nearest_of}
use Rattle.contacts.specs.declared.Closest.{Closest}
use Rattle.message.specs.Kinds.{key_fits}
use Rattle.lookup.specs.Lookup.{refuses, settled, no_lookup, begun, limit_fits, start_of}
use Rattle.lookup_candidates.specs.Candidates.{id_fits}
use Rattle.lookup.specs.Value.{Lookup, Step}

-- ---- ranges
pub range-low : (n m : ℕ) → n < 1 → false ≡ (leb 1 n && leb n m)
range-low n m h = sym (and-off (leb 1 n) (leb n m) (lt-leb 1 n h))

pub range-high : (n m : ℕ) → 1 ≤ n → leb n m ≡ (leb 1 n && leb n m)
range-high n m h = sym (and-on (leb 1 n) (leb n m) (le-leb 1 n h))

pub range-most : (n m : ℕ) (b : Bool) → b ≡ (leb 1 n && leb n m) → not b ≡ false → n ≤ m
range-most n m b e h = leb-true n m (and_r (leb 1 n) (leb n m) (sym e ∙ not-false b h))

-- ---- the nearest contacts
pub nearest-few : (t x : List ℕ) → length (nearest_slots t x) ≤ 20
unfolding nearest_slots
nearest-few t x =
    cond_ind (λ (l : List ℕ). length l ≤ 20) (is_place x) (take most_near (sorted t x (slots_of t))) []
    (λ e. omega (arith, length-take most_near (sorted t x (slots_of t)))) (λ e. omega arith)

module _ (t x : List ℕ) (near : Closest) (e : near ≡ nearest_of t x) where
  pub near-count : near.n ≡ length (nearest_slots t x)
  unfolding nearest_of
  near-count = ap (λ (c : Closest). c.n) e

-- ---- each answer
module _ (t own ours key : List ℕ) (limit : ℕ) (s : Step) (a : Bool) (ea : a ≡ in_form_table t ours) where
  pub start-form : not a ≡ true → s ≡ refuses no_lookup OutOfForm → s ≡ start_of t own ours key limit
  unfolding start_of
  start-form h e = e ∙ sym (cond_yes (not (in_form_table t ours)) (refuses no_lookup OutOfForm) _ (ap not (sym ea) ∙ h))

  module _ (ha : not a ≡ false) (b : Bool) (eb : b ≡ key_fits key) where
    pub start-key : not b ≡ true → s ≡ refuses no_lookup BreaksRules → s ≡ start_of t own ours key limit
    unfolding start_of
    start-key h e =
        e ∙ sym (cond_no (not (in_form_table t ours)) (refuses no_lookup OutOfForm) _ (ap not (sym ea) ∙ ha)
        ∙ cond_yes (not (key_fits key)) (refuses no_lookup BreaksRules) _ (ap not (sym eb) ∙ h))

    module _ (hb : not b ≡ false) (c : Bool) (ec : c ≡ id_fits own) where
      pub start-own : not c ≡ true → s ≡ refuses no_lookup BadPeer → s ≡ start_of t own ours key limit
      unfolding start_of
      start-own h e =
          e ∙ sym (cond_no (not (in_form_table t ours)) (refuses no_lookup OutOfForm) _ (ap not (sym ea) ∙ ha)
          ∙ cond_no (not (key_fits key)) (refuses no_lookup BreaksRules) _ (ap not (sym eb) ∙ hb)
          ∙ cond_yes (not (id_fits own)) (refuses no_lookup BadPeer) _ (ap not (sym ec) ∙ h))

      module _ (hc : not c ≡ false) (d : Bool) (ed : d ≡ limit_fits limit) where
        pub start-limit : not d ≡ true → s ≡ refuses no_lookup BadConcurrency → s ≡ start_of t own ours key limit
        unfolding start_of
        start-limit h e =
            e ∙ sym (cond_no (not (in_form_table t ours)) (refuses no_lookup OutOfForm) _ (ap not (sym ea) ∙ ha)
            ∙ cond_no (not (key_fits key)) (refuses no_lookup BreaksRules) _ (ap not (sym eb) ∙ hb)
            ∙ cond_no (not (id_fits own)) (refuses no_lookup BadPeer) _ (ap not (sym ec) ∙ hc)
            ∙ cond_yes (not (limit_fits limit)) (refuses no_lookup BadConcurrency) (settled (begun t key limit)) (ap not (sym ed) ∙ h))

        pub start-begun : not d ≡ false → (l : Lookup) → l ≡ begun t key limit → s ≡ settled l → s ≡ start_of t own ours key limit
        unfolding start_of
        start-begun h l el e =
            e ∙ ap settled el
            ∙ sym (cond_no (not (in_form_table t ours)) (refuses no_lookup OutOfForm) _ (ap not (sym ea) ∙ ha)
            ∙ cond_no (not (key_fits key)) (refuses no_lookup BreaksRules) _ (ap not (sym eb) ∙ hb)
            ∙ cond_no (not (id_fits own)) (refuses no_lookup BadPeer) _ (ap not (sym ec) ∙ hc)
            ∙ cond_no (not (limit_fits limit)) (refuses no_lookup BadConcurrency) (settled (begun t key limit)) (ap not (sym ed) ∙ h))

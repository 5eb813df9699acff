-- The walk that finds the ids of the first entries of closerPeers. Assumes nothing.
use Prim.Native.Nat.{ℕ, suc, ◌+◌, ◌≤◌, ◌<◌}
use mathlib.Core.Path.{◌≡◌, refl, sym, ◌∙◌}
use mathlib.Core.List.{List, [], ◌∷◌, ◌++◌, map, append_assoc, append-nil}
use native.Mathlib.Omega.{arith}
use lib.ListN.{length, set, replicate, length-append, length-map}
use lib.Seq.{sets, take_at, take_all}
use Rattle.octets.proofs.Lists.{map-append}
use Rattle.octets.proofs.Stores.{sets-snoc}
use Rattle.limits.specs.Limits.{most_heard}
use Rattle.wire.specs.Wire.{fields, fields_at, spans, first_of}
use Rattle.wire.specs.declared.Span.{Span}
use Rattle.wire.proofs.Scan.{walk_at, walk_none}
use Rattle.message.specs.View.{id_at, closer_at, heard_at, starts, ends, ids_of}
use Rattle.message.specs.declared.Ids.{Ids}
use Rattle.std.specs.Prelude.{Some, None, Option}

-- one more element of an array that is filled from its front
stored : (h : Span → ℕ) (k : ℕ) (arr : List ℕ) (l : List Span) (p : Span) (n : ℕ) → n ≡ length l → arr ≡ sets (replicate k 0) 0 (map h l)
    → set arr n (h p) ≡ sets (replicate k 0) 0 (map h (l ++ (p ∷ [])))
stored h k arr l p n e q =
    let z : 0 + length (map h l) ≡ n = omega (arith, length-map l h) in
    rw (map-append h l (p ∷ []), q) (sym (sets-snoc (replicate k 0) 0 (map h l) (h p) ∙ rw z))

-- the entries found so far, and where the walk goes on
pub record Walking (s from to : List ℕ) (n at : ℕ) : Type 0 where
  pub done : List Span
  pub all : done ++ spans 8 (fields_at s at) ≡ closer_at s
  pub count : n ≡ length (map (id_at s) done)
  pub few : n ≤ most_heard
  pub froms : from ≡ sets (replicate most_heard 0) 0 (starts (map (id_at s) done))
  pub tos : to ≡ sets (replicate most_heard 0) 0 (ends (map (id_at s) done))

pub walking : (s : List ℕ) → Walking s (replicate most_heard 0) (replicate most_heard 0) 0 0
unfolding starts ends closer_at fields
walking s = record { done = []; all = refl; count = refl; few = omega arith; froms = refl; tos = refl }

module _ (s from to : List ℕ) (n at : ℕ) (g : Walking s from to n at) where
  pub walk-on : n < most_heard → (f : Option Span) → f ≡ first_of (spans 8 (fields_at s at)) → (p : Span) → f ≡ Some p → (i : Span) → i ≡ id_at s p
      → Walking s (set from n i.at) (set to n i.end) (n + 1) p.end
  unfolding starts ends
  walk-on h f w p q i e =
      let m : map (id_at s) (g.done ++ (p ∷ [])) ≡ map (id_at s) g.done ++ (i ∷ []) = map-append (id_at s) g.done (p ∷ []) ∙ rw e in
      record {
        done = g.done ++ (p ∷ []);
        all = append_assoc g.done (p ∷ []) (spans 8 (fields_at s p.end)) ∙ rw (← walk_at s 8 at p (sym w ∙ q)) g.all;
        count = rw m (omega (arith, g.count, length-append (map (id_at s) g.done) (i ∷ [])));
        few = omega arith;
        froms = rw m (stored (λ (x : Span). x.at) most_heard from (map (id_at s) g.done) i n g.count g.froms);
        tos = rw m (stored (λ (x : Span). x.end) most_heard to (map (id_at s) g.done) i n g.count g.tos);
      }

  result : map (id_at s) g.done ≡ heard_at s → ◌≡◌ {A = Ids} (record { at = from; end = to; n = n }) (ids_of (heard_at s))
  unfolding ids_of
  result e = rw (← e, g.count, g.froms, g.tos)

  pub walk_end : (f : Option Span) → f ≡ first_of (spans 8 (fields_at s at)) → f ≡ None → ◌≡◌ {A = Ids} (record { at = from; end = to; n = n }) (ids_of (heard_at s))
  unfolding heard_at
  walk_end f w q =
      let e : g.done ≡ closer_at s = rw (walk_none s 8 at (sym w ∙ q), append-nil g.done) at g.all in
      result (rw (← e) (sym (take_all most_heard (map (id_at s) g.done) (omega (arith, g.count, g.few)))))

  pub walk-full : most_heard ≤ n → ◌≡◌ {A = Ids} (record { at = from; end = to; n = n }) (ids_of (heard_at s))
  unfolding heard_at
  walk-full h =
      result (rw (← g.all, map-append (id_at s) g.done (spans 8 (fields_at s at))) (sym (take_at (map (id_at s) g.done) (map (id_at s) (spans 8 (fields_at s at))) most_heard (omega (arith, g.count, g.few)))))

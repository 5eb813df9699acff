-- A table in form, said by the marks of each bucket; and one slot with another mark or other addresses. Assumes nothing.
use Prim.Native.Nat.{ℕ, ◌+◌, ◌<◌, ◌≤◌}
use mathlib.Core.Path.{◌≡◌, refl, sym, ◌∙◌}
use mathlib.Core.Bool.{true}
use mathlib.Core.List.{List}
use native.Mathlib.Omega.{arith}
use lib.ListN.{get_or}
use lib.Seq.{get_or-set_other}
use Rattle.place.specs.Place.{bucket_of}
use Rattle.contacts.specs.Table.{slots_of, slot, mark, used, doubt, id_size, address_count, address_size, place}
use Rattle.contacts.specs.Form.{rank, slot_bucket}
use Rattle.contact_table.proofs.Cuts.{used-mark}
use Rattle.contact_form.specs.Claims.{Fields, InForm}
use Rattle.sightings.specs.Order.{of_bucket, with_mark}
use Rattle.contact_order.proofs.Tests.{of-used, of_is, of-make}

pub record Ordered (t o : List ℕ) : Type 0 where
  pub sound : (i : ℕ) → i < slots_of t → used (slot t i) ≡ true → Fields (slot t i) × (bucket_of (place (slot t i)) o < 256)
  pub twins : (i j : ℕ) → i < slots_of t → j < slots_of t → used (slot t i) ≡ true → used (slot t j) ≡ true → place (slot t i) ≡ place (slot t j) → i ≡ j
  pub ties : (b i j : ℕ) → i < slots_of t → j < slots_of t → of_bucket o b (slot t i) ≡ true → of_bucket o b (slot t j) ≡ true → mark (slot t i) ≡ mark (slot t j) → i ≡ j
  pub leds : (b i : ℕ) → i < slots_of t → of_bucket o b (slot t i) ≡ true → 2 ≤ mark (slot t i)
      → (j : ℕ) × (j < slots_of t) × (of_bucket o b (slot t j) ≡ true) × (mark (slot t j) + 1 ≡ mark (slot t i))

rank-one : (s : List ℕ) → used s ≡ true → rank s + 1 ≡ mark s
unfolding rank
rank-one s u = omega (arith, used-mark s u)

module _ (t o : List ℕ) where
  pub from-form : InForm t o → Ordered t o
  unfolding slot_bucket
  from-form f = record {
    sound = λ i l u. (f.fields i l u, f.bucket i l u);
    twins = f.once;
    ties = λ b i j li lj fi fj e.
        let ui = of-used o b (slot t i) fi in
        let uj = of-used o b (slot t j) fj in
        f.untied i j li lj ui uj (of_is o b (slot t j) fj ∙ sym (of_is o b (slot t i) fi)) (omega (arith, rank-one (slot t i) ui, rank-one (slot t j) uj));
    leds = λ b i l g h.
        let u = of-used o b (slot t i) g in
        let r = f.below i l u (λ z. low i h (rank-one (slot t i) u) z) in
        (r.0, r.1, of-make o b (slot t r.0) r.2 (r.3 ∙ of_is o b (slot t i) g), omega (arith, rank-one (slot t i) u, rank-one (slot t r.0) r.2, r.4));
  }
    where
      low : (i : ℕ) → 2 ≤ mark (slot t i) → rank (slot t i) + 1 ≡ mark (slot t i) → rank (slot t i) ≡ 0 → ⊥
      low i h e z = omega arith

  pub to-form : Ordered t o → InForm t o
  unfolding slot_bucket
  to-form f = record {
    fields = λ i l u. (f.sound i l u).0;
    bucket = λ i l u. (f.sound i l u).1;
    once = f.twins;
    untied = λ i j li lj ui uj b r.
        f.ties (bucket_of (place (slot t i)) o) i j li lj (of-make o _ (slot t i) ui refl) (of-make o _ (slot t j) uj b) (omega (arith, rank-one (slot t i) ui, rank-one (slot t j) uj));
    below = λ i l u nz.
        let r = f.leds (bucket_of (place (slot t i)) o) i l (of-make o _ (slot t i) u refl) (high i (rank-one (slot t i) u) nz) in
        let v = of-used o _ (slot t r.0) r.2 in
        (r.0, r.1, v, of_is o _ (slot t r.0) r.2, omega (arith, rank-one (slot t i) u, rank-one (slot t r.0) v, r.3));
  }
    where
      high : (i : ℕ) → rank (slot t i) + 1 ≡ mark (slot t i) → (rank (slot t i) ≡ 0 → ⊥) → 2 ≤ mark (slot t i)
      high i e z = omega arith

-- ---- fields go by the two marks and bytes 2 to 7
pub fields-by : (x y : List ℕ) → ((k : ℕ) → 2 ≤ k → k < 8 → get_or x k 0 ≡ get_or y k 0) → mark x ≤ 20 → doubt x ≤ 1 → Fields y → Fields x
unfolding mark doubt id_size address_count address_size
fields-by x y e m d f = record {
  ranked = m;
  doubted = d;
  id_least = omega (arith, e 2 (omega arith) (omega arith), f.id_least);
  id_most = omega (arith, e 2 (omega arith) (omega arith), f.id_most);
  few = omega (arith, e 3 (omega arith) (omega arith), f.few);
  sizes = λ k l. size k (omega (arith, e 3 (omega arith) (omega arith)));
}
  where
    size : (k : ℕ) → k < get_or y 3 0 → (1 ≤ get_or x (4 + k) 0) × (get_or x (4 + k) 0 ≤ 128)
    size k l =
        let q : get_or x (4 + k) 0 ≡ get_or y (4 + k) 0 = e (4 + k) (omega arith) (omega (arith, f.few)) in
        let r : (1 ≤ get_or y (4 + k) 0) × (get_or y (4 + k) 0 ≤ 128) = f.sizes k l in
        (omega (arith, r.0), omega (arith, r.1))

pub mark-byte : (m : ℕ) (s : List ℕ) (k : ℕ) → 1 ≤ k → get_or (with_mark m s) k 0 ≡ get_or s k 0
unfolding with_mark
mark-byte m s k h = get_or-set_other s 0 k m 0 (λ e. no e)
  where
    no : k ≡ 0 → ⊥
    no e = omega arith

-- The loops of the writer: what is left of a list, or of a number, after some of it. Assumes nothing.
use Prim.Native.Nat.{ℕ, zero, suc, ◌+◌, ◌-◌, ◌*◌, ◌/◌, ◌%◌, ◌^◌, ◌≤◌, ◌<◌}
use mathlib.Core.Path.{◌≡◌, refl, sym, ap, ◌∙◌}
use mathlib.Core.List.{List, [], ◌∷◌, ◌++◌}
use native.Mathlib.Omega.{arith}
use native.Mathlib.Numerals.{add-one}
use lib.ListN.{length, get_or, drop, length-append, drop_of_length-le}
use lib.Seq.{drop-cons}
use lib.IntN.{ℤ, pos}
use lib.Signed.{mag}
use mir.Syntax.{w32}
use mir.Val.{to_z, of_z}
use mir.ValLaws.{to_z-of_z}
use Rattle.std.specs.Prelude.{Option, None, Result, Ok, Err, ⊤, is_ok}
use Rattle.wire.specs.Items.{minimal, Put}
use Rattle.wire_put.proofs.Digits.{minimal-most}
use Rattle.wire_put.proofs.Putting.{put-start, put-length, put_on, put_is}
use Rattle.limits.specs.Limits.{most_setpoints}
use Rattle.recipe.specs.Recipe.{zigzag_of}
use Rattle.recipe.specs.declared.Setpoint.{Setpoint}
use Rattle.recipe.specs.Faults.{first_of, setpoint_fault, points_fault}
use Rattle.recipe.specs.declared.Part.{Part}
use Rattle.recipe.specs.declared.Breach.{Breach}
use Rattle.recipe.proofs.Points.{a_setpoint}
use Rattle.recipe.proofs.Faults.{stops, goes_on}
use Rattle.recipe_fields.specs.Fields.{little_bytes, point_bytes, list_bytes}
use Rattle.recipe_fields.specs.Writing.{pairs}

-- a trim in a local is what its bits say
pub held : (m : ℤ) → mag m < 2 ^ 31 → to_z w32 (of_z w32 m) ≡ m
held m h = to_z-of_z w32 m (record { sfits = h })

pub zigzag-held : (m : ℤ) → mag m < 2 ^ 31 → {z : ℕ} → z ≡ zigzag_of (to_z w32 (of_z w32 m)) → z ≡ zigzag_of m
zigzag-held m h e = e ∙ ap zigzag_of (held m h)

-- what is left of a list from i on
abbrev pub left : List ℕ → List ℤ → ℕ → List Setpoint
left ts ms i = pairs (drop i ts) (drop i ms)

left-start : (ts : List ℕ) (ms : List ℤ) → left ts ms 0 ≡ pairs ts ms
left-start ts ms = refl

left_end : (ts : List ℕ) (ms : List ℤ) (i : ℕ) → length ts ≤ i → left ts ms i ≡ []
unfolding pairs
left_end ts ms i h = rw (drop_of_length-le ts h)

left-on : (ts : List ℕ) (ms : List ℤ) (i : ℕ) → i < length ts → i < length ms → left ts ms i ≡ record { turn = get_or ts i 0; trim = get_or ms i (pos 0) } ∷ left ts ms (i + 1)
unfolding pairs
left-on ts ms i h g = rw (drop-cons ts i 0 h, drop-cons ms i (pos 0) g, add-one i)

-- ---- the loop of `points_fault`: what is left of the list is judged after p
pub record Judged (part : Part) (ts : List ℕ) (ms : List ℤ) (p : Option Setpoint) (i : ℕ) : Type 0 where
  pub inside : i ≤ length ts
  pub same : points_fault part i p (left ts ms i) ≡ points_fault part 0 None (pairs ts ms)

pub judging : (part : Part) (ts : List ℕ) (ms : List ℤ) → Judged part ts ms None 0
judging part ts ms = record { inside = omega arith; same = refl }

module _ (part : Part) (ts : List ℕ) (ms : List ℤ) (p : Option Setpoint) (i : ℕ) (g : Judged part ts ms p i) where
  pub judged-all : length ts ≤ i → Ok tt ≡ points_fault part 0 None (pairs ts ms)
  unfolding points_fault
  judged-all h = sym (ap (points_fault part i p) (left_end ts ms i h)) ∙ g.same

  module _ (h : i < length ts) (k : i < length ms) {m : ℤ} (e : m ≡ get_or ms i (pos 0)) {w : Result ⊤ Breach} (q : w ≡ setpoint_fault part i p (get_or ts i 0) m) where
    abbrev after : Result ⊤ Breach
    after = points_fault part (suc i) (a_setpoint (get_or ts i 0) m) (left ts ms (i + 1))

    split : points_fault part i p (left ts ms i) ≡ first_of (setpoint_fault part i p (get_or ts i 0) m) after
    unfolding points_fault
    split = ap (points_fault part i p) (left-on ts ms i h k) ∙ rw (sym e)

    whole : first_of w after ≡ points_fault part 0 None (pairs ts ms)
    whole = ap (λ (x : Result ⊤ Breach). first_of x after) q ∙ sym split ∙ g.same

    pub judged-stop : {f : Breach} → w ≡ Err f → w ≡ points_fault part 0 None (pairs ts ms)
    judged-stop z = sym (stops w after (ap is_ok z)) ∙ whole

    pub judged-on : {o : ⊤} → w ≡ Ok o → Judged part ts ms (a_setpoint (get_or ts i 0) m) (i + 1)
    judged-on z =
        let j : i + 1 ≡ suc i = omega arith in
        record { inside = omega arith; same = ap (λ (n : ℕ). points_fault part n (a_setpoint (get_or ts i 0) m) (left ts ms (i + 1))) j ∙ sym (goes_on w after (ap is_ok z)) ∙ whole }

-- ---- the loop of `list_len`
pub record Counted (ts : List ℕ) (ms : List ℤ) (n i : ℕ) : Type 0 where
  pub inside : i ≤ length ts
  pub small : n ≤ i * 20
  pub same : n + length (list_bytes (left ts ms i)) ≡ length (list_bytes (pairs ts ms))

pub counting : (ts : List ℕ) (ms : List ℤ) → Counted ts ms 0 0
counting ts ms = record { inside = omega arith; small = omega arith; same = omega arith }

module _ (ts : List ℕ) (ms : List ℤ) (n i : ℕ) (g : Counted ts ms n i) where
  pub counted-all : length ts ≤ i → length ts ≤ most_setpoints → (n ≡ length (list_bytes (pairs ts ms))) × (n ≤ most_setpoints * 20)
  unfolding list_bytes
  counted-all h k =
      let z : length (list_bytes (left ts ms i)) ≡ 0 = ap (λ (l : List Setpoint). length (list_bytes l)) (left_end ts ms i h) in
      (omega (arith, g.same, z), omega (arith, g.small, g.inside))

  module _ (h : i < length ts) (k : i < length ms) (t z : ℕ) (et : t ≡ get_or ts i 0) (ez : z ≡ zigzag_of (get_or ms i (pos 0))) (ft : t < 2 ^ 64) (fz : z < 2 ^ 64) where
    pub counted-on : {a b : ℕ} → a ≡ length (minimal t) → b ≡ length (minimal z) → Counted ts ms (n + (a + b)) (i + 1)
    unfolding list_bytes point_bytes
    counted-on {a} {b} ea eb =
        let q : length (list_bytes (left ts ms i)) ≡ length (minimal t) + length (minimal z) + length (list_bytes (left ts ms (i + 1))) =
        ap (λ (l : List Setpoint). length (list_bytes l)) (left-on ts ms i h k) ∙ rw (sym et, sym ez)
        (length-append (minimal t ++ minimal z) (list_bytes (left ts ms (i + 1))) ∙ ap (λ (x : ℕ). x + length (list_bytes (left ts ms (i + 1)))) (length-append (minimal t) (minimal z))) in
        record {
          inside = omega arith;
          small = omega (arith, g.small, ea, eb, minimal-most t ft, minimal-most z fz);
          same = omega (arith, g.same, ea, eb, q);
        }

    pub counted-less : {a b : ℕ} → a ≡ length (minimal t) → b ≡ length (minimal z) → length ts ≤ most_setpoints → n + (a + b) ≤ most_setpoints * 20
    counted-less ea eb c = omega (arith, g.small, ea, eb, minimal-most t ft, minimal-most z fz)

-- ---- the loops that write: whatever writes the rest writes the whole
pub record Putting (buf₀ : List ℕ) (at : ℕ) (all buf : List ℕ) (next : ℕ) (rest : List ℕ) : Type 0 where
  pub kept : length buf ≡ length buf₀
  pub finish : (b : List ℕ) (r : ℕ) → Put buf next rest b r → Put buf₀ at all b r

pub putting : (buf : List ℕ) (at : ℕ) (all : List ℕ) → Putting buf at all buf at all
putting buf at all = record { kept = refl; finish = λ b r p. p }

module _ (buf₀ : List ℕ) (at : ℕ) (all buf : List ℕ) (next : ℕ) (rest : List ℕ) (g : Putting buf₀ at all buf next rest) where
  pub put_next : (a more : List ℕ) → rest ≡ a ++ more → (buf₁ : List ℕ) (next₁ : ℕ) → Put buf next a buf₁ next₁ → Putting buf₀ at all buf₁ next₁ more
  put_next a more e buf₁ next₁ p =
      record {
        kept = put-length buf next a buf₁ next₁ p ∙ g.kept;
        finish = λ b r q. g.finish b r (put_is buf next (a ++ more) rest b r (sym e) (put_on buf next a buf₁ next₁ more b r p q));
      }

  pub put_all : rest ≡ [] → Put buf₀ at all buf next
  put_all e = g.finish buf next (put_is buf next [] rest buf next (sym e) (put-start buf next))

pub record Listing (buf₀ : List ℕ) (at : ℕ) (ts : List ℕ) (ms : List ℤ) (buf : List ℕ) (next i : ℕ) : Type 0 where
  pub inside : i ≤ length ts
  pub put : Putting buf₀ at (list_bytes (pairs ts ms)) buf next (list_bytes (left ts ms i))

pub listing : (buf : List ℕ) (at : ℕ) (ts : List ℕ) (ms : List ℤ) → Listing buf at ts ms buf at 0
listing buf at ts ms = record { inside = omega arith; put = putting buf at (list_bytes (pairs ts ms)) }

module _ (buf₀ : List ℕ) (at : ℕ) (ts : List ℕ) (ms : List ℤ) (buf : List ℕ) (next i : ℕ) (g : Listing buf₀ at ts ms buf next i) where
  pub listed-all : length ts ≤ i → Put buf₀ at (list_bytes (pairs ts ms)) buf next
  unfolding list_bytes
  listed-all h = put_all buf₀ at (list_bytes (pairs ts ms)) buf next (list_bytes (left ts ms i)) g.put (ap list_bytes (left_end ts ms i h))

  pub listed-on : i < length ts → i < length ms → (t z : ℕ) → t ≡ get_or ts i 0 → z ≡ zigzag_of (get_or ms i (pos 0)) → (buf₁ : List ℕ) (n₁ : ℕ) (buf₂ : List ℕ) (n₂ : ℕ)
      → Put buf next (minimal t) buf₁ n₁ → Put buf₁ n₁ (minimal z) buf₂ n₂ → Listing buf₀ at ts ms buf₂ n₂ (i + 1)
  unfolding list_bytes point_bytes
  listed-on h k t z et ez buf₁ n₁ buf₂ n₂ p q =
      record {
        inside = omega arith;
        put =
            put_next buf₀ at (list_bytes (pairs ts ms)) buf next (list_bytes (left ts ms i)) g.put (minimal t ++ minimal z) (list_bytes (left ts ms (i + 1)))
            (ap list_bytes (left-on ts ms i h k) ∙ rw (sym et, sym ez)) buf₂ n₂ (put_on buf next (minimal t) buf₁ n₁ (minimal z) buf₂ n₂ p q);
      }

-- ---- the loop of `put_little`
pub little-put : (buf : List ℕ) (at n x : ℕ) → Putting buf at (little_bytes n x) buf at (little_bytes (n - 0) x)
little-put buf at n x = let z : n - 0 ≡ n = omega arith in rw z (putting buf at (little_bytes n x))

module _ (buf₀ : List ℕ) (at : ℕ) (all buf : List ℕ) (next n x : ℕ) (g : Putting buf₀ at all buf next (little_bytes n x)) where
  pub little-on : 0 < n → (b : ℕ) → b ≡ x % 256 → (buf₁ : List ℕ) (next₁ : ℕ) → Put buf next (b ∷ []) buf₁ next₁ → Putting buf₀ at all buf₁ next₁ (little_bytes (n - 1) (x / 256))
  unfolding little_bytes
  little-on h b e buf₁ next₁ p = go n refl h
    where
      go : (m : ℕ) → n ≡ m → 0 < m → Putting buf₀ at all buf₁ next₁ (little_bytes (m - 1) (x / 256))
      go zero q z = absurd (omega arith)
      go (suc m) q z =
          let o : suc m - 1 ≡ m = omega arith in
          let r : little_bytes n x ≡ b ∷ little_bytes m (x / 256) = rw (q, e) refl in
          rw o (put_next buf₀ at all buf next (little_bytes n x) g (b ∷ []) (little_bytes m (x / 256)) r buf₁ next₁ p)

  pub little-all : n ≤ 0 → Put buf₀ at all buf next
  unfolding little_bytes
  little-all h = let z : n ≡ 0 = omega arith in put_all buf₀ at all buf next (little_bytes n x) g (ap (λ (k : ℕ). little_bytes k x) z)

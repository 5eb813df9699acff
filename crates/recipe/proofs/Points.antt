-- Laws of setpoints: what `point_at` reads, and the rules of one and of a list of them. Assumes nothing.
use Prim.Native.Nat.{ℕ, suc, ◌+◌, ◌-◌, ◌*◌, ◌/◌, ◌%◌, ◌≤◌, ◌<◌}
use mathlib.Core.Path.{◌≡◌, refl, sym, ap, ◌∙◌}
use mathlib.Core.List.{List}
use mathlib.Core.Bool.{Bool, true, false, cond, ◌&&◌}
use native.Mathlib.Omega.{arith}
use lib.ListN.{length, drop, length-drop}
use lib.Seq.{drop-drop}
use lib.Dec.{ltb, leb, eqb}
use lib.IntN.{ℤ, pos, negsuc}
use lib.Signed.{le_z, lt_z}
use mir.Syntax.{w32}
use mir.Val.{to_z, of_z, SFits}
use mir.ValLaws.{to_z-of_z}
use borrow.Author.Tests.{ltb-true, ltb-false, le-leb, lt-leb, eqb-true, eqb-false}
use Rattle.octets.proofs.Bools.{and-fails}
use Rattle.std.specs.Prelude.{Option, Some, None}
use Rattle.recipe.specs.Limits.{turn_max, trim_max}
use Rattle.recipe.specs.Recipe.{trim_of, varint, on_varint, point, on_point, and_then, setpoints, in_range, rules, ruled, Setpoints, These, NoList}
use Rattle.recipe.specs.declared.Setpoint.{Setpoint}
use Rattle.recipe.specs.declared.Point.{Point}
use Rattle.recipe.specs.Inner.{short, short_point}
use Rattle.recipe.specs.Faults.{trim_in}
use Rattle.recipe.proofs.Zigzag.{trim-of-even, trim-of-odd}
use Rattle.recipe.proofs.Varints.{a_varint, same-value, no-varint, varint-size}

-- a setpoint that is read
abbrev pub a_point : ℕ → ℤ → ℕ → Option Point
a_point turn trim size = Some (record { turn = turn; trim = trim; size = size })

-- the setpoint that the next one comes after
abbrev pub a_setpoint : ℕ → ℤ → Option Setpoint
a_setpoint turn trim = Some (record { turn = turn; trim = trim })

pub no-point : {a : ℕ} {t : ℤ} {k : ℕ} → None ≡ a_point a t k → ⊥
no-point e = let z : ◌≡◌ {A = ℕ} 0 1 = cc in omega arith

pub same-room : {a b : ℕ} {t u : ℤ} {k n : ℕ} → a_point a t k ≡ a_point b u n → k ≡ n
same-room e = ap (λ (r : Option Point). on_point r (λ a t k. k) 0) e

-- ---- a short varint is a varint, and what is longer is over every limit
pub short-out : (r : Option (ℕ × ℕ)) {v n : ℕ} → a_varint v n ≡ short r → r ≡ a_varint v n
unfolding short
short-out None e = absurd (no-varint (sym e))
short-out (Some (w, k)) {v} {n} e = go (ltb w 2097152) e
  where
    go : (t : Bool) → a_varint v n ≡ cond t (a_varint w k) None → a_varint w k ≡ a_varint v n
    go true q = sym q
    go false q = absurd (no-varint (sym q))

short-limit : (r : Option (ℕ × ℕ)) {v n : ℕ} → a_varint v n ≡ short r → v < 2097152
unfolding short
short-limit None e = absurd (no-varint (sym e))
short-limit (Some (w, k)) {v} {n} e = go (ltb w 2097152) refl
  where
    no : a_varint v n ≡ cond false (a_varint w k) None → ⊥
    no q = no-varint (sym q)

    yes : a_varint v n ≡ cond true (a_varint w k) None → v ≡ w
    yes q = same-value q

    go : (t : Bool) → ltb w 2097152 ≡ t → v < 2097152
    go true q = omega (arith, ltb-true w 2097152 q, yes (rw q at e))
    go false q = absurd (no (rw q at e))

-- ---- what `point_at` reads
in-32 : (z : ℕ) → z < 2097152 → SFits w32 (trim_of z)
in-32 z h = go (eqb (z % 2) 0) refl
  where
    go : (t : Bool) → eqb (z % 2) 0 ≡ t → SFits w32 (trim_of z)
    go true q = rw (trim-of-even z (eqb-true (z % 2) 0 q)) (record { sfits = omega arith })
    go false q = rw (trim-of-odd z (eqb-false (z % 2) 0 q)) (record { sfits = omega arith })

module _ (s : List ℕ) (at : ℕ) {r : Option (ℕ × ℕ)} (e : r ≡ short (varint (drop at s))) where
  pub point-none : r ≡ None → None ≡ short_point (drop at s)
  unfolding short_point
  point-none b = rw (sym e ∙ b)

  module _ (v n : ℕ) (b : r ≡ a_varint v n) where
    turn-short : short (varint (drop at s)) ≡ a_varint v n
    turn-short = sym e ∙ b

    pub turn-size : n ≤ length s - at
    turn-size = let q : length (drop at s) ≡ length s - at = length-drop at s in omega (arith, varint-size (drop at s) v n (short-out (varint (drop at s)) (sym turn-short)))

    rest : short_point (drop at s) ≡ on_varint (short (varint (drop (at + n) s))) (λ z m. a_point v (trim_of z) (n + m)) None
    unfolding short_point
    rest = rw (turn-short, drop-drop n at s)

    module _ {q : Option (ℕ × ℕ)} (f : q ≡ short (varint (drop (at + n) s))) where
      pub point-no-trim : q ≡ None → None ≡ short_point (drop at s)
      point-no-trim g = rw (rest, sym f ∙ g)

      module _ (z m : ℕ) (g : q ≡ a_varint z m) where
        pub trim-size : m ≤ length s - (at + n)
        trim-size =
            let w : length (drop (at + n) s) ≡ length s - (at + n) = length-drop (at + n) s in
            omega (arith, varint-size (drop (at + n) s) z m (short-out (varint (drop (at + n) s)) (sym g ∙ f)))

        pub point-whole : {t : ℤ} → t ≡ trim_of z → a_point v (to_z w32 (of_z w32 t)) (n + m) ≡ short_point (drop at s)
        point-whole {t} h =
            let k : to_z w32 (of_z w32 t) ≡ trim_of z = ap (λ (x : ℤ). to_z w32 (of_z w32 x)) h ∙ to_z-of_z w32 (trim_of z) (in-32 z (short-limit (varint (drop (at + n) s)) (sym g ∙ f))) in
            rw (k, rest, sym f ∙ g)

-- it lies inside
pub point-size : (l : List ℕ) {a : ℕ} {t : ℤ} {k : ℕ} → short_point l ≡ a_point a t k → k ≤ length l
unfolding short_point
point-size l {a} {t} {k} e = turn (short (varint l)) refl e
  where
    trim : (v n : ℕ) → n ≤ length l → (r : Option (ℕ × ℕ)) → short (varint (drop n l)) ≡ r → on_varint r (λ z m. a_point v (trim_of z) (n + m)) None ≡ a_point a t k → k ≤ length l
    trim v n h None f q = absurd (no-point q)
    trim v n h (Some (z, m)) f q =
        let d : length (drop n l) ≡ length l - n = length-drop n l in
        omega (arith, varint-size (drop n l) z m (short-out (varint (drop n l)) (sym f)), same-room q)

    turn : (r : Option (ℕ × ℕ)) → short (varint l) ≡ r → on_varint r (λ v n. on_varint (short (varint (drop n l))) (λ z m. a_point v (trim_of z) (n + m)) None) None ≡ a_point a t k → k ≤ length l
    turn None f q = absurd (no-point q)
    turn (Some (v, n)) f q = trim v n (varint-size l v n (short-out (varint l) (sym f))) (short (varint (drop n l))) refl q

-- ---- the limits of one setpoint
pub range-turn : (turn : ℕ) (t : ℤ) → turn_max < turn → in_range turn t ≡ false
unfolding in_range
range-turn turn t l = rw (lt-leb turn turn_max l)

pub range-trim : (turn z : ℕ) → trim_max * 2 < z → in_range turn (trim_of z) ≡ false
unfolding in_range
range-trim turn z h = and-fails (leb turn turn_max) _ (go (eqb (z % 2) 0) refl)
  where
    go : (t : Bool) → eqb (z % 2) 0 ≡ t → (le_z (negsuc (trim_max - 1)) (trim_of z) && le_z (trim_of z) (pos trim_max)) ≡ false
    go true q = let e = eqb-true (z % 2) 0 q in rw (trim-of-even z e) (lt-leb (z / 2) trim_max (omega arith))
    go false q = let o = eqb-false (z % 2) 0 q in rw (trim-of-odd z o) (rw (lt-leb (z / 2) (trim_max - 1) (omega arith)))

-- the two tests of `in_range`
pub trim-below : (t : ℤ) → lt_z t (negsuc (trim_max - 1)) ≡ true → trim_in t ≡ false
unfolding trim_in
trim-below (pos n) h = absurd (let z : ◌≡◌ {A = ℕ} 0 1 = cc in omega arith)
trim-below (negsuc n) h = rw (lt-leb n (trim_max - 1) (ltb-true (trim_max - 1) n h))

pub trim-above : (t : ℤ) → lt_z t (negsuc (trim_max - 1)) ≡ false → le_z t (pos trim_max) ≡ trim_in t
unfolding trim_in
trim-above (pos n) h = refl
trim-above (negsuc n) h = rw (le-leb n (trim_max - 1) (ltb-false (trim_max - 1) n h))

-- ---- short setpoints and setpoints: a short one is what `point` reads, and where there is none, no list goes on that keeps the rules
ruled-not : (p : Option Setpoint) (a : ℕ) (t : ℤ) (x : Setpoints) → in_range a t ≡ false → ruled p (and_then a t x) ≡ false
unfolding ruled and_then rules
ruled-not p a t NoList g = refl
ruled-not p a t (These ps) g = rw g

module _ (p : Option Setpoint) (n : ℕ) (l : List ℕ) where
  abbrev onward : ℕ → ℤ → ℕ → Setpoints
  onward turn trim k = and_then turn trim (setpoints n (drop k l))

  -- a varint that isn't short is over every limit
  trim-over : (v m : ℕ) (r : Option (ℕ × ℕ)) → short r ≡ None → ruled p (on_point (on_varint r (λ z k. a_point v (trim_of z) (m + k)) None) onward NoList) ≡ false
  unfolding short ruled
  trim-over v m None e = refl
  trim-over v m (Some (z, k)) e = go (ltb z 2097152) refl
    where
      no : cond true (a_varint z k) None ≡ None → ⊥
      no q = no-varint (sym q)

      go : (t : Bool) → ltb z 2097152 ≡ t → ruled p (onward v (trim_of z) (m + k)) ≡ false
      go true q = absurd (no (rw q at e))
      go false q = ruled-not p v (trim_of z) (setpoints n (drop (m + k) l)) (range-trim v z (omega (arith, ltb-false z 2097152 q)))

  turn-out : (v m : ℕ) (r : Option (ℕ × ℕ)) → turn_max < v → ruled p (on_point (on_varint r (λ z k. a_point v (trim_of z) (m + k)) None) onward NoList) ≡ false
  unfolding ruled
  turn-out v m None h = refl
  turn-out v m (Some (z, k)) h = ruled-not p v (trim_of z) (setpoints n (drop (m + k) l)) (range-turn v (trim_of z) h)

  turn-over : (r : Option (ℕ × ℕ)) → short r ≡ None
      → ruled p (on_point (on_varint r (λ v m. on_varint (varint (drop m l)) (λ z k. a_point v (trim_of z) (m + k)) None) None) onward NoList) ≡ false
  unfolding short ruled
  turn-over None e = refl
  turn-over (Some (v, m)) e = go (ltb v 2097152) refl
    where
      no : cond true (a_varint v m) None ≡ None → ⊥
      no q = no-varint (sym q)

      go : (t : Bool) → ltb v 2097152 ≡ t → ruled p (on_point (on_varint (varint (drop m l)) (λ z k. a_point v (trim_of z) (m + k)) None) onward NoList) ≡ false
      go true q = absurd (no (rw q at e))
      go false q = turn-out v m (varint (drop m l)) (omega (arith, ltb-false v 2097152 q))

  abbrev judged : ℕ → ℤ → ℕ → Bool
  judged turn trim k = ruled p (onward turn trim k)

  pub short-step : ruled p (setpoints (suc n) l) ≡ on_point (short_point l) judged false
  unfolding setpoints point short_point
  short-step = turn (short (varint l)) refl
    where
      trim : (v m : ℕ) (r : Option (ℕ × ℕ)) → short (varint (drop m l)) ≡ r
          → ruled p (on_point (on_varint (varint (drop m l)) (λ z k. a_point v (trim_of z) (m + k)) None) onward NoList) ≡ on_point (on_varint r (λ z k. a_point v (trim_of z) (m + k)) None) judged false
      trim v m None e = trim-over v m (varint (drop m l)) e
      trim v m (Some (z, k)) e = rw (short-out (varint (drop m l)) (sym e))

      turn : (r : Option (ℕ × ℕ)) → short (varint l) ≡ r
          → ruled p (on_point (on_varint (varint l) (λ v m. on_varint (varint (drop m l)) (λ z k. a_point v (trim_of z) (m + k)) None) None) onward NoList)
          ≡ on_point (on_varint (short (varint l)) (λ v m. on_varint (short (varint (drop m l))) (λ z k. a_point v (trim_of z) (m + k)) None) None) judged false
      turn None e = rw e (turn-over (varint l) e)
      turn (Some (v, m)) e = rw (e, short-out (varint l) (sym e)) (trim v m (short (varint (drop m l))) refl)

-- a short setpoint is the one that `point` reads
pub short-point : (l : List ℕ) {a : ℕ} {t : ℤ} {k : ℕ} → short_point l ≡ a_point a t k → point l ≡ a_point a t k
unfolding point short_point
short-point l {a} {t} {k} e = turn (short (varint l)) refl
  where
    trim : (v m : ℕ) (r : Option (ℕ × ℕ)) → short (varint (drop m l)) ≡ r → on_varint r (λ z n. a_point v (trim_of z) (m + n)) None ≡ a_point a t k
        → on_varint (varint (drop m l)) (λ z n. a_point v (trim_of z) (m + n)) None ≡ a_point a t k
    trim v m None f q = absurd (no-point q)
    trim v m (Some (z, n)) f q = rw (short-out (varint (drop m l)) (sym f)) q

    turn : (r : Option (ℕ × ℕ)) → short (varint l) ≡ r → on_varint (varint l) (λ v m. on_varint (varint (drop m l)) (λ z n. a_point v (trim_of z) (m + n)) None) None ≡ a_point a t k
    turn None f = absurd (no-point (rw f at e))
    turn (Some (v, m)) f = rw (short-out (varint l) (sym f)) (trim v m (short (varint (drop m l))) refl (rw f at e))

-- A field starts where it is looked for, has at least a byte, and ends within the string. Assumes nothing.
use Prim.Native.Nat.{ℕ, zero, suc, ◌+◌, ◌-◌, ◌/◌, ◌%◌, ◌^◌, ◌≤◌, ◌<◌}
use mathlib.Core.Path.{◌≡◌, refl, subst}
use mathlib.Core.List.{List, [], ◌∷◌}
use native.Mathlib.Omega.{arith}
use lib.ListN.{length, drop, length-drop}
use lib.Dec.{leb, ltb, eqb}
use borrow.Author.Tests.{leb-true}
use Rattle.octets.proofs.Bools.{cond_ind}
use Rattle.wire.specs.Wire.{before, varint, placed, varint_at, on_varint, end_at, on_ending, number_at, fixed_at, bytes_at, content_at, tagged_at, field_at, next_of, more, fields_from, fields_at, span_if, cons_found, spans}
use Rattle.wire.specs.declared.Span.{Span}
use Rattle.wire.specs.declared.Field.{Field}
use Rattle.wire.specs.declared.Field.TheVariants.{End, Bad as Malformed, Number, Bytes, Other}
use Rattle.wire.specs.declared.Next.{Next}
use Rattle.wire.specs.declared.Next.TheVariants.{Done, Broken, On}
use Rattle.std.specs.Prelude.{Some, None, Option}

varint-ind : {A : Type 0} (P : A → Type 0) (r : Option (ℕ × ℕ)) (f : ℕ → ℕ → A) (z : A) → ((v n : ℕ) → r ≡ Some (v, n) → P (f v n)) → P z → P (on_varint r f z)
varint-ind P (Some (v, n)) f z g h = g v n refl
varint-ind P None f z g h = h

ending-ind : {A : Type 0} (P : A → Type 0) (r : Option ℕ) (f : ℕ → A) (z : A) → ((e : ℕ) → r ≡ Some e → P (f e)) → P z → P (on_ending r f z)
ending-ind P (Some e) f z g h = g e refl
ending-ind P None f z g h = h

-- ---- varints: past lo, and at most hi
abbrev Var : ℕ → ℕ → Option (ℕ × ℕ) → Type 0
Var lo hi (Some (v, n)) = (lo < n) × (n ≤ hi)
Var lo hi None = Unit {0}

before-reach : (b m : ℕ) (r : Option (ℕ × ℕ)) → Var 0 m r → Var 0 (suc m) (before b r)
unfolding before
before-reach b m (Some (v, n)) h = (omega arith, omega arith)
before-reach b m None h = tt

varint-size : (k : ℕ) (s : List ℕ) → Var 0 (length s) (varint k s)
unfolding varint
varint-size zero s = tt
varint-size (suc k) [] = tt
varint-size (suc k) (b ∷ s) =
    cond_ind (Var 0 (suc (length s))) (ltb b 128) (Some (b, 1)) (before b (varint k s))
    (λ e. (omega arith, omega arith))
    (λ e. before-reach b (length s) (varint k s) (varint-size k s))

placed-reach : (at m hi : ℕ) (r : Option (ℕ × ℕ)) → m ≤ hi - at → Var 0 m r → Var at hi (placed at r)
unfolding placed
placed-reach at m hi (Some (v, n)) l h =
    cond_ind (Var at hi) (ltb v (2 ^ 64)) (Some (v, (at + n))) None (λ e. (omega arith, omega arith)) (λ e. tt)
placed-reach at m hi None l h = tt

varint-within : (s : List ℕ) (at : ℕ) → Var at (length s) (varint_at s at)
unfolding varint_at
varint-within s at = placed-reach at (length (drop at s)) (length s) (varint 10 (drop at s)) (omega (arith, length-drop at s)) (varint-size 10 (drop at s))

pub varint-reach : (s : List ℕ) (at v n : ℕ) → varint_at s at ≡ Some (v, n) → (at < n) × (n ≤ length s)
varint-reach s at v n e = subst (Var at (length s)) e (varint-within s at)

-- ---- parts
abbrev Ended : ℕ → ℕ → ℕ → Option ℕ → Type 0
Ended at size hi (Some e) = (e ≡ at + size) × (e ≤ hi)
Ended at size hi None = Unit {0}

end-reach : (s : List ℕ) (at size e : ℕ) → end_at s at size ≡ Some e → (e ≡ at + size) × (e ≤ length s)
unfolding end_at
end-reach s at size e q =
    subst (Ended at size (length s)) q
    (cond_ind (Ended at size (length s)) (leb (at + size) (length s)) (Some (at + size)) None (λ t. (refl, leb-true _ _ t)) (λ t. tt))

-- ---- fields: what one that starts at lo within hi bytes can be
abbrev pub Within : ℕ → ℕ → Field → Type 0
Within lo hi End = Unit {0}
Within lo hi Malformed = Unit {0}
Within lo hi (Number f v n) = (lo < n) × (n ≤ hi)
Within lo hi (Bytes f p) = (lo < p.at) × (p.at ≤ p.end) × (p.end ≤ hi)
Within lo hi (Other n) = (lo < n) × (n ≤ hi)

sooner : (lo lo' hi : ℕ) (f : Field) → lo' ≤ lo → Within lo hi f → Within lo' hi f
sooner lo lo' hi End l h = tt
sooner lo lo' hi Malformed l h = tt
sooner lo lo' hi (Number f v n) l h = (omega arith, omega arith)
sooner lo lo' hi (Bytes f p) l h = (omega arith, omega arith, omega arith)
sooner lo lo' hi (Other n) l h = (omega arith, omega arith)

module _ (s : List ℕ) (at f : ℕ) where
  number-reach : Within at (length s) (number_at s at f)
  unfolding number_at
  number-reach = varint-ind (Within at (length s)) (varint_at s at) (λ v n. Number f v n) Malformed (λ v n e. varint-reach s at v n e) tt

  fixed-reach : (size : ℕ) → 0 < size → Within at (length s) (fixed_at s at size)
  unfolding fixed_at
  fixed-reach size p =
      ending-ind (Within at (length s)) (end_at s at size) (λ e. Other e) Malformed
      (λ e q. let h = end-reach s at size e q in (omega arith, omega arith)) tt

  bytes-reach : Within at (length s) (bytes_at s at f)
  unfolding bytes_at
  bytes-reach =
      varint-ind (Within at (length s)) (varint_at s at) (λ v n. on_ending (end_at s n v) (λ e. Bytes f (record { at = n; end = e })) Malformed) Malformed
      (λ v n q.
      let h = varint-reach s at v n q in
      ending-ind (Within at (length s)) (end_at s n v) (λ e. Bytes f (record { at = n; end = e })) Malformed
      (λ e r. let g = end-reach s n v e r in (omega arith, omega arith, omega arith)) tt)
      tt

  content-reach : (w : ℕ) → Within at (length s) (content_at s at f w)
  unfolding content_at
  content-reach w =
      cond_ind P (eqb f 0) _ _ (λ e. tt)
      (λ e. cond_ind P (eqb w 0) _ _ (λ e. number-reach)
      (λ e. cond_ind P (eqb w 1) _ _ (λ e. fixed-reach 8 (omega arith))
      (λ e. cond_ind P (eqb w 2) _ _ (λ e. bytes-reach)
      (λ e. cond_ind P (eqb w 5) _ _ (λ e. fixed-reach 4 (omega arith)) (λ e. tt)))))
    where
      P : Field → Type 0
      P = Within at (length s)

pub field-reach : (s : List ℕ) (at : ℕ) → Within at (length s) (field_at s at)
unfolding field_at tagged_at
field-reach s at =
    cond_ind P (leb (length s) at) _ _ (λ e. tt)
    (λ e. varint-ind P (varint_at s at) (tagged_at s at) Malformed
    (λ t n q.
    let h = varint-reach s at t n q in
    cond_ind P (ltb (at + 5) n) _ _ (λ e. tt)
    (λ e. cond_ind P (leb (2 ^ 32) t) _ _ (λ e. tt)
    (λ e. sooner n at (length s) (content_at s n (t / 8) (t % 8)) (omega arith) (content-reach s n (t / 8) (t % 8)))))
    tt)
  where
    P : Field → Type 0
    P = Within at (length s)

next-reach : (lo hi : ℕ) (f : Field) (n : ℕ) → Within lo hi f → next_of f ≡ On n → (lo < n) × (n ≤ hi)
unfolding next_of
next-reach lo hi End n h e = absurd (let z : ◌≡◌ {A = ℕ} 0 1 = cc in omega arith)
next-reach lo hi Malformed n h e = absurd (let z : ◌≡◌ {A = ℕ} 0 1 = cc in omega arith)
next-reach lo hi (Number f v m) n h e = let q : m ≡ n = cc in (omega arith, omega arith)
next-reach lo hi (Bytes f p) n h e = let q : p.end ≡ n = cc in (omega arith, omega arith)
next-reach lo hi (Other m) n h e = let q : m ≡ n = cc in (omega arith, omega arith)

pub field_next : (s : List ℕ) (at n : ℕ) → next_of (field_at s at) ≡ On n → (at < n) × (n ≤ length s)
field_next s at n e = next-reach at (length s) (field_at s at) n (field-reach s at) e

-- ---- the bytes fields of one number: each starts after lo and lies within hi bytes
pub record Inside (lo hi : ℕ) (p : Span) : Type 0 where
  pub starts : lo < p.at
  pub ordered : p.at ≤ p.end
  pub ends : p.end ≤ hi

abbrev pub AllInside : ℕ → ℕ → List Span → Type 0
AllInside lo hi [] = Unit {0}
AllInside lo hi (p ∷ l) = Inside lo hi p × AllInside lo hi l

pub earlier : (lo lo' hi : ℕ) (l : List Span) → lo' ≤ lo → AllInside lo hi l → AllInside lo' hi l
earlier lo lo' hi [] h a = tt
earlier lo lo' hi (p ∷ l) h a = (record { starts = omega (arith, a.0.starts); ordered = a.0.ordered; ends = a.0.ends }, earlier lo lo' hi l h a.1)

span-inside : (lo hi f : ℕ) (g : Field) (l : List Span) → Within lo hi g → AllInside lo hi l → AllInside lo hi (cons_found (span_if f g) l)
unfolding span_if
span-inside lo hi f (Bytes g p) l w a =
    cond_ind (λ (x : Option Span). AllInside lo hi (cons_found x l)) (eqb g f) (Some p) None
    (λ e. (record { starts = w.0; ordered = w.1; ends = w.2 }, a)) (λ e. a)
span-inside lo hi f (Number g v n) l w a = a
span-inside lo hi f (Other n) l w a = a
span-inside lo hi f End l w a = a
span-inside lo hi f Malformed l w a = a

more-inside : (lo hi f : ℕ) (m : Next) (g : Field) (rest : ℕ → List Field) → Within lo hi g → ((n : ℕ) → m ≡ On n → AllInside lo hi (spans f (rest n)))
    → AllInside lo hi (spans f (more m g rest))
unfolding more spans span_if
more-inside lo hi f Done g rest w h = tt
more-inside lo hi f Broken g rest w h = tt
more-inside lo hi f (On n) g rest w h = span-inside lo hi f g (spans f (rest n)) w (h n refl)

from-inside : (f k : ℕ) (s : List ℕ) (at : ℕ) → AllInside at (length s) (spans f (fields_from k s at))
unfolding fields_from spans span_if
from-inside f zero s at = tt
from-inside f (suc k) s at =
    more-inside at (length s) f (next_of (field_at s at)) (field_at s at) (λ n. fields_from k s n) (field-reach s at)
    (λ n e. let b = field_next s at n e in earlier n at (length s) (spans f (fields_from k s n)) (omega arith) (from-inside f k s n))

pub spans-inside : (f : ℕ) (s : List ℕ) (at : ℕ) → AllInside at (length s) (spans f (fields_at s at))
unfolding fields_at
spans-inside f s at = from-inside f (suc (length s)) s at

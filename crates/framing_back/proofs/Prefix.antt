-- The minimal varint of a length up to 16,384 is the prefix that a connection takes for that length. Assumes nothing.
use Prim.Native.Nat.{ℕ, ◌+◌, ◌*◌, ◌/◌, ◌%◌, ◌≤◌, ◌<◌}
use mathlib.Core.Path.{◌≡◌, ap, ◌∙◌}
use mathlib.Core.Logic.{⊎_elim}
use mathlib.Core.List.{List, ◌∷◌, ◌++◌}
use native.Mathlib.Omega.{arith}
use lib.ListN.{length}
use lib.Dec.{ltb}
use borrow.Author.Tests.{lt-ltb, le-ltb, ltb-true, ltb-false, ne_eqb}
use Rattle.octets.proofs.Bools.{either}
use Rattle.limits.specs.Limits.{most_body}
use Rattle.wire.specs.Items.{digits, minimal}
use Rattle.wire_put.proofs.Digits.{digits_last, digits_more}
use Rattle.stream.specs.declared.Held.{Held}
use Rattle.stream.specs.declared.Held.TheVariants.{Nothing, One, Two}
use Rattle.stream.specs.declared.Lead.{Lead}
use Rattle.stream.specs.declared.Lead.TheVariants.{On, Length}
use Rattle.stream.specs.declared.Prefixed.{Prefixed}
use Rattle.stream.specs.Stream as stream
use Rattle.stream.specs.Stream.{limited, prefix_step, prefixed, onward, prefix_of}
use Rattle.std.specs.Prelude.{Ok, Result}
use Rattle.refusal.specs.declared.Refusal.{Refusal}

-- ---- one byte of a prefix
pub within : (n : ℕ) → n ≤ most_body → limited n ≡ Ok (Length n)
unfolding limited
within n h = rw (le-ltb most_body n h)

closes : (z n : ℕ) → 0 < z → n ≤ most_body → stream.minimal z n ≡ Ok (Length n)
unfolding stream.minimal
closes z n p h = let q : z ≡ 0 → ⊥ = λ e. omega arith in rw (ne_eqb z 0 q) (within n h)

pub first-last : (z : ℕ) → z < 128 → prefix_step Nothing z ≡ Ok (Length z)
unfolding prefix_step
first-last z h = rw (lt-ltb z 128 h) (within z (omega arith))

pub first_on : (a : ℕ) → 128 ≤ a → prefix_step Nothing a ≡ Ok (On (One a))
unfolding prefix_step
first_on a h = rw (le-ltb a 128 h)

pub second-last : (a z n : ℕ) → 0 < z → z < 128 → n ≤ most_body → a % 128 + z * 128 ≡ n → prefix_step (One a) z ≡ Ok (Length n)
unfolding prefix_step
second-last a z n p h l e = rw (lt-ltb z 128 h, e) (closes z n p l)

pub second-on : (a b : ℕ) → 128 ≤ b → prefix_step (One a) b ≡ Ok (On (Two a b))
unfolding prefix_step
second-on a b h = rw (le-ltb b 128 h)

pub third_last : (a b z n : ℕ) → 0 < z → z < 128 → n ≤ most_body → a % 128 + b % 128 * 128 + z * 16384 ≡ n → prefix_step (Two a b) z ≡ Ok (Length n)
unfolding prefix_step
third_last a b z n p h l e = rw (lt-ltb z 128 h, e) (closes z n p l)

-- ---- the bytes one after the other
ends-here : (h : Held) (z n : ℕ) (rest : List ℕ) → prefix_step h z ≡ Ok (Length n) → prefix_of h (z ∷ rest) ≡ prefixed 1 (Ok (Length n))
unfolding prefix_of
ends-here h z n rest e = ap (λ (l : Result Lead Refusal). onward l (λ k. prefix_of k rest)) e

goes_on : (h k : Held) (a m n : ℕ) (rest : List ℕ) → prefix_step h a ≡ Ok (On k) → prefix_of k rest ≡ prefixed m (Ok (Length n)) → prefix_of h (a ∷ rest) ≡ prefixed (1 + m) (Ok (Length n))
unfolding prefix_of
goes_on h k a m n rest e r = ap (λ (l : Result Lead Refusal). onward l (λ j. prefix_of j rest)) e ∙ ap (λ (p : Prefixed). prefixed (1 + p.taken) p.lead) r

-- a prefix is read as the length that was written, and takes the bytes that were
abbrev Reads : Held → ℕ → List ℕ → List ℕ → Type 0
Reads h n p rest = prefix_of h (p ++ rest) ≡ prefixed (length p) (Ok (Length n))

pub prefix_back : (n : ℕ) (rest : List ℕ) → n ≤ most_body → Reads Nothing n (minimal n) rest
unfolding minimal
prefix_back n rest h =
    ⊎_elim (λ e. one (ltb-true n 128 e)) (λ e. ⊎_elim (λ f. two (ltb-false n 128 e) (ltb-true (n / 128) 128 f)) (λ f. three (ltb-false n 128 e) (ltb-false (n / 128) 128 f)) (either (ltb (n / 128) 128))) (either (ltb n 128))
  where
    a : ℕ
    a = n % 128 + 128

    b : ℕ
    b = n / 128 % 128 + 128

    one : n < 128 → Reads Nothing n (digits 10 n) rest
    one l = rw (digits_last 9 n l) (ends-here Nothing n n rest (first-last n l))

    two : 128 ≤ n → n / 128 < 128 → Reads Nothing n (digits 10 n) rest
    two l m =
        let e : a % 128 + n / 128 * 128 ≡ n = omega arith in
        rw (digits_more 9 n l, digits_last 8 (n / 128) m)
        (goes_on Nothing (One a) a 1 n (n / 128 ∷ rest) (first_on a (omega arith)) (ends-here (One a) (n / 128) n rest (second-last a (n / 128) n (omega arith) m h e)))

    three : 128 ≤ n → 128 ≤ n / 128 → Reads Nothing n (digits 10 n) rest
    three l m =
        let w : n / 128 / 128 < 128 = omega arith in
        let e : a % 128 + b % 128 * 128 + n / 128 / 128 * 16384 ≡ n = omega arith in
        rw (digits_more 9 n l, digits_more 8 (n / 128) m, digits_last 7 (n / 128 / 128) w)
        (goes_on Nothing (One a) a 2 n (b ∷ n / 128 / 128 ∷ rest) (first_on a (omega arith))
        (goes_on (One a) (Two a b) b 1 n (n / 128 / 128 ∷ rest) (second-on a b (omega arith))
        (ends-here (Two a b) (n / 128 / 128) n rest (third_last a b (n / 128 / 128) n (omega arith) w h e))))

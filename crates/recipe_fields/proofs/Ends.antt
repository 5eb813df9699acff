-- Parts of a value counted from its end. Assumes nothing.
use Prim.Native.Nat.{ℕ, ◌+◌, ◌-◌, ◌≤◌}
use mathlib.Core.Path.{◌≡◌, refl, sym, ap, ◌∙◌}
use mathlib.Core.List.{List, [], ◌++◌, append_assoc, append-nil}
use native.Mathlib.Omega.{arith}
use lib.ListN.{length, take, drop, length-append}
use lib.Seq.{drop_at, take_at}
use Rattle.octets.specs.Octets.{part}
use Rattle.octets.proofs.Parts.{part_join, part-whole, part_length}
use Rattle.recipe.specs.Recipe.{from_end}

-- v ends in `here` and then `post`
pub record Ends (v here post : List ℕ) : Type 0 where
  pub pre : List ℕ
  pub whole : v ≡ pre ++ (here ++ post)

pub ends-all : (a b : List ℕ) → Ends (a ++ b) a b
ends-all a b = record { pre = []; whole = refl }

module _ (v a b c : List ℕ) where
  pub ends_next : Ends v a (b ++ c) → Ends v b c
  ends_next g = record { pre = g.pre ++ a; whole = g.whole ∙ sym (append_assoc g.pre a (b ++ c)) }

  pub ends-first : Ends v (a ++ b) c → Ends v a (b ++ c)
  ends-first g = record { pre = g.pre; whole = g.whole ∙ ap (λ (t : List ℕ). g.pre ++ t) (append_assoc a b c) }

pub ends_last : (v a b : List ℕ) → Ends v a b → Ends v b []
ends_last v a b g = ends_next v a b [] (record { pre = g.pre; whole = g.whole ∙ ap (λ (t : List ℕ). g.pre ++ (a ++ t)) (sym (append-nil b)) })

pub ends-part : (v a b : List ℕ) (d e : ℕ) → Ends v a b → e ≡ length b → d ≡ length a + e → from_end d e v ≡ a
ends-part v a b d e g p q =
    let n : length v ≡ length g.pre + (length a + length b) = ap length g.whole ∙ length-append g.pre (a ++ b) ∙ ap (λ (k : ℕ). length g.pre + k) (length-append a b) in
    let x : length v - d ≡ length g.pre = omega (arith, n, p, q) in
    let y : length v - e - length g.pre ≡ length a = omega (arith, n, p) in
    ap (λ (k : ℕ). take (length v - e - k) (drop k v)) x ∙ ap (λ (k : ℕ). take k (drop (length g.pre) v)) y
    ∙ ap (λ (t : List ℕ). take (length a) (drop (length g.pre) t)) g.whole
    ∙ ap (take (length a)) (drop_at g.pre (a ++ b) (length g.pre) refl) ∙ take_at a b (length a) refl

-- ---- cut apart and joined
pub end-join : (v : List ℕ) (a b c : ℕ) → c ≤ b → b ≤ a → from_end a b v ++ from_end b c v ≡ from_end a c v
end-join v a b c p q = part_join v (length v - a) (length v - b) (length v - c) (omega arith) (omega arith)

pub end_whole : (v : List ℕ) → from_end (length v) 0 v ≡ v
end_whole v =
    let z : length v - length v ≡ 0 = omega arith in
    let n : length v - 0 ≡ length v = omega arith in
    ap (λ (k : ℕ). part v k (length v - 0)) z ∙ ap (part v 0) n ∙ part-whole v (length v) (omega arith)

pub end-length : (v : List ℕ) (d e : ℕ) → e ≤ d → d ≤ length v → length (from_end d e v) ≡ d - e
end-length v d e p q = part_length v (length v - d) (length v - e) (omega arith) ∙ (omega arith)

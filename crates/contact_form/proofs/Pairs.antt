-- Two places compared by their words, as `same_place` does. Assumes nothing.
use Prim.Native.Nat.{ℕ, ◌+◌, ◌≤◌}
use mathlib.Core.Path.{◌≡◌, sym, ap, ◌∙◌}
use mathlib.Core.Bool.{true, false}
use mathlib.Core.List.{List}
use native.Mathlib.Omega.{arith}
use lib.ListN.{length, drop}
use Rattle.octets.specs.Octets.{Bytes, part, number, same}
use Rattle.octets.proofs.Numbers.{same_word, other_word}
use Rattle.octets.proofs.Strings.{same_end}
use Rattle.contact_form.specs.declared.Words.{Words}
use Rattle.contact_form.specs.Inner.{words_of}

-- the word at i
abbrev pub word_at : List ℕ → ℕ → ℕ
word_at p i = number (part p i (i + 8))

pub words-as : (p : List ℕ) {w x y z : ℕ} → w ≡ word_at p 0 → x ≡ word_at p 8 → y ≡ word_at p 16 → z ≡ word_at p 24 → ◌≡◌ {A = Words} (record { a = w; b = x; c = y; d = z }) (words_of p)
unfolding words_of
words-as p e f g h = rw (e, f, g, h)

-- a word of w is the place's
module _ {w : Words} (p : List ℕ) (e : w ≡ words_of p) where
  pub word-a : w.a ≡ word_at p 0
  unfolding words_of
  word-a = ap (λ (v : Words). v.a) e

  pub word-b : w.b ≡ word_at p 8
  unfolding words_of
  word-b = ap (λ (v : Words). v.b) e

  pub word-c : w.c ≡ word_at p 16
  unfolding words_of
  word-c = ap (λ (v : Words). v.c) e

  pub word-d : w.d ≡ word_at p 24
  unfolding words_of
  word-d = ap (λ (v : Words). v.d) e

module _ (p q : List ℕ) (lp : length p ≡ 32) (lq : length q ≡ 32) (bp : Bytes p) (bq : Bytes q) where
  past : (i : ℕ) → i + 8 ≤ 32 → word_at p i ≡ word_at q i → same (drop i p) (drop i q) ≡ same (drop (i + 8) p) (drop (i + 8) q)
  past i h e = same_word p q i (omega arith) (omega arith) bp bq e

  pub first-differs : (word_at p 0 ≡ word_at q 0 → ⊥) → false ≡ same p q
  first-differs h = sym (other_word p q 0 h)

  module _ (ea : word_at p 0 ≡ word_at q 0) where
    pub second-differs : (word_at p 8 ≡ word_at q 8 → ⊥) → false ≡ same p q
    second-differs h = sym (past 0 (omega arith) ea ∙ other_word p q 8 h)

    module _ (eb : word_at p 8 ≡ word_at q 8) where
      pub third-differs : (word_at p 16 ≡ word_at q 16 → ⊥) → false ≡ same p q
      third-differs h = sym (past 0 (omega arith) ea ∙ past 8 (omega arith) eb ∙ other_word p q 16 h)

      module _ (ec : word_at p 16 ≡ word_at q 16) where
        three : same p q ≡ same (drop 24 p) (drop 24 q)
        three = past 0 (omega arith) ea ∙ past 8 (omega arith) eb ∙ past 16 (omega arith) ec

        pub last-differs : (word_at p 24 ≡ word_at q 24 → ⊥) → false ≡ same p q
        last-differs h = sym (three ∙ other_word p q 24 h)

        pub none-differs : word_at p 24 ≡ word_at q 24 → true ≡ same p q
        none-differs ed = sym (three ∙ past 24 (omega arith) ed ∙ same_end p q 32 (omega arith) (omega arith))

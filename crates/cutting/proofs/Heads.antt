-- A run from a fresh connection goes by what stands at the start of the bytes. Assumes nothing.
use Prim.Native.Nat.{ℕ, zero, suc, ◌+◌, ◌-◌, ◌≤◌, ◌<◌}
use mathlib.Core.Path.{◌≡◌, refl, sym, ap, ◌∙◌}
use mathlib.Core.List.{List, [], ◌∷◌}
use mathlib.Core.Bool.{true}
use native.Mathlib.Nat.{add-zero}
use native.Mathlib.Omega.{arith}
use lib.ListN.{length, take, drop, length-take, length-drop}
use lib.Seq.{sets}
use lib.Dec.{leb}
use borrow.Author.Tests.{leb-true, leb-false}
use Rattle.octets.proofs.Bools.{cond_ind}
use Rattle.limits.specs.Limits.{most_body}
use Rattle.stream.specs.declared.Held.{Held}
use Rattle.stream.specs.declared.Held.TheVariants.{Nothing}
use Rattle.stream.specs.declared.Framing.{Framing}
use Rattle.stream.specs.declared.Framing.TheVariants.{Shut, Prefix, Body}
use Rattle.stream.specs.declared.Lead.{Lead}
use Rattle.stream.specs.declared.Lead.TheVariants.{On, Length}
use Rattle.stream.specs.declared.Prefixed.{Prefixed}
use Rattle.stream.specs.Stream.{fresh, held_form, prefix_step, onward, prefix_of, out, shift, run_of}
use Rattle.stream.specs.Inner.{begun_of}
use Rattle.cutting.specs.Frames.{Head, partly, whole, bad, prefix_at, head_by, head_of, part_framing, part_body, framing_of, half_of}
use Rattle.stream.proofs.Runs.{leads, run-prefix, begun-some, body-part, body-whole}
use Rattle.octets.proofs.Lists.{take-sets-first}
use Rattle.cutting.proofs.Kept.{prefix-form, LeadForm}
use Rattle.std.specs.Prelude.{Ok, Err, Some, None, Result}
use Rattle.refusal.specs.declared.Refusal.{Refusal}

-- ---- the prefix at the start of bytes
abbrev pub Sensible : Result Lead Refusal → ℕ → ℕ → Type 0
Sensible (Ok (On h)) k n = k ≡ n
Sensible (Ok (Length v)) k n = (1 ≤ k) × (k ≤ n) × (v ≤ most_body)
Sensible (Err r) k n = (1 ≤ k) × (k ≤ n)

later-sensible : (l : Result Lead Refusal) (k n : ℕ) → Sensible l k n → Sensible l (1 + k) (suc n)
later-sensible (Ok (On h)) k n s = omega arith
later-sensible (Ok (Length v)) k n s = (omega arith, omega (arith, s.1), s.2)
later-sensible (Err r) k n s = (omega arith, omega (arith, s.1))

onward-sensible : (l : Result Lead Refusal) (next : Held → Prefixed) (n : ℕ) → LeadForm l → ((h : Held) → held_form h ≡ true → Sensible (next h).lead (next h).taken n)
    → Sensible (onward l next).lead (onward l next).taken (suc n)
onward-sensible (Ok (On h)) next n g f = later-sensible (next h).lead (next h).taken n (f h g)
onward-sensible (Ok (Length v)) next n g f = (omega arith, omega arith, g)
onward-sensible (Err r) next n g f = (omega arith, omega arith)

pub prefix-sensible : (bs : List ℕ) (h : Held) → held_form h ≡ true → Sensible (prefix_of h bs).lead (prefix_of h bs).taken (length bs)
unfolding prefix_of
prefix-sensible [] h g = refl
prefix-sensible (z ∷ zs) h g = onward-sensible (prefix_step h z) (λ k. prefix_of k zs) (length zs) (prefix-form h z g) (λ k e. prefix-sensible zs k e)

-- ---- the run
pub record RanPart (m bs : List ℕ) (f : Framing) (half : List ℕ) : Type 0 where
  pub buffer : List ℕ
  pub runs : run_of fresh m bs ≡ out f (length bs) (Ok None) buffer
  pub there : take (length half) buffer ≡ half

pub record RanWhole (m bs : List ℕ) (k n : ℕ) : Type 0 where
  pub buffer : List ℕ
  pub runs : run_of fresh m bs ≡ out fresh (k + n) (Ok (Some n)) buffer
  pub body : take n buffer ≡ take n (drop k bs)
  pub some : 1 ≤ k
  pub fits : k + n ≤ length bs

abbrev pub Ran : List ℕ → List ℕ → Framing → List ℕ → Head → Type 0
Ran m bs f half partly = RanPart m bs f half
Ran m bs f half (whole k n) = RanWhole m bs k n
Ran m bs f half (bad k r) = run_of fresh m bs ≡ out Shut k (Err r) m

ran-whole : (m bs : List ℕ) (k n : ℕ) → most_body ≤ length m → 1 ≤ k → n ≤ most_body → k + n ≤ length bs → run_of fresh m bs ≡ begun_of n k m bs → RanWhole m bs k n
ran-whole m bs k zero w s v l r = record { buffer = m; runs = r ∙ (λ i. out fresh (sym (add-zero k) i) (Ok (Some 0)) m); body = refl; some = s; fits = l }
ran-whole m bs k (suc n) w s v l r =
    let t : List ℕ = take (suc n) (drop k bs) in
    let d : length (drop k bs) ≡ length bs - k = length-drop k bs in
    let e : length t ≡ suc n = length-take (suc n) (drop k bs) ∙ omega arith in
    record {
      buffer = sets m 0 t;
      runs = r ∙ begun-some (suc n) k m bs (λ z. omega arith) ∙ ap (shift k) (body-whole (suc n) 0 n m (drop k bs) (omega arith) (omega arith));
      body = ap (λ (j : ℕ). take j (sets m 0 t)) (sym e) ∙ take-sets-first m t (omega arith);
      some = s;
      fits = l;
    }

ran-part : (m bs : List ℕ) (k n : ℕ) → most_body ≤ length m → k ≤ length bs → n ≤ most_body → length bs < k + n → run_of fresh m bs ≡ begun_of n k m bs
    → RanPart m bs (Body n (length bs - k)) (drop k bs)
ran-part m bs k zero w t v l r = absurd (omega arith)
ran-part m bs k (suc n) w t v l r =
    let d : length (drop k bs) ≡ length bs - k = length-drop k bs in
    let e : 0 + length (drop k bs) ≡ length bs - k = omega arith in
    let q : k + length (drop k bs) ≡ length bs = omega arith in
    record {
      buffer = sets m 0 (drop k bs);
      runs = r ∙ begun-some (suc n) k m bs (λ z. omega arith) ∙ ap (shift k) (body-part (suc n) 0 m (drop k bs) (omega arith)) ∙ (λ i. out (Body (suc n) (e i)) (q i) (Ok None) (sets m 0 (drop k bs)));
      there = take-sets-first m (drop k bs) (omega arith);
    }

pub head-run : (m bs : List ℕ) → most_body ≤ length m → Ran m bs (framing_of bs) (half_of bs) (head_of bs)
head-run m bs w = go (prefix_at bs).lead (prefix_at bs).taken (run-prefix bs Nothing m) (prefix-sensible bs Nothing refl)
  where
    go : (l : Result Lead Refusal) (k : ℕ) → run_of fresh m bs ≡ leads l k m bs → Sensible l k (length bs) → Ran m bs (part_framing l k bs) (part_body l k bs) (head_by l k bs)
    go (Ok (On h)) k r s = record { buffer = m; runs = r ∙ (λ i. out (Prefix h) (s i) (Ok None) m); there = refl }
    go (Ok (Length n)) k r s =
        cond_ind (Ran m bs (part_framing (Ok (Length n)) k bs) (part_body (Ok (Length n)) k bs)) (leb (k + n) (length bs)) (whole k n) partly
        (λ t. ran-whole m bs k n w s.0 s.2 (leb-true (k + n) (length bs) t) r)
        (λ t. ran-part m bs k n w s.1 s.2 (leb-false (k + n) (length bs) t) r)
    go (Err x) k r s = r

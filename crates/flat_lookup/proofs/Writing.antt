-- Laws of writing: a candidate's bytes, what stands before the candidates, and the loop that puts one candidate after another. Assumes nothing.
use Prim.Native.Nat.{ℕ, suc, ◌+◌, ◌*◌, ◌/◌, ◌%◌, ◌≤◌, ◌<◌}
use mathlib.Core.Path.{◌≡◌, refl, sym, ap, ap₂, ◌∙◌}
use mathlib.Core.Bool.{cond}
use mathlib.Core.List.{List, [], ◌∷◌, ◌++◌, append_assoc, append-nil}
use native.Mathlib.Omega.{arith}
use native.Mathlib.Numerals.{add-one}
use lib.ListN.{length, get_or, take, length-append}
use lib.Seq.{sets, length-sets, take-suc, take_all, length-take-le}
use Rattle.octets.proofs.Stores.{sets-append}
use Rattle.limits.specs.Limits.{most_id, place_size, most_key}
use Rattle.lookup.specs.Lookup.{room, padded}
use Rattle.lookup_candidates.specs.declared.Candidate.{Candidate}
use Rattle.lookup.specs.Value.{Lookup}
use Rattle.flat_lookup.specs.FlatLookup.{candidate_size, candidates_at, candidate_bytes, candidates_bytes, head_bytes, lookup_bytes}
use Rattle.flat_lookup.proofs.Padding.{padded-length, padded-whole, three-runs}

-- ---- lengths
pub candidate-length : (c : Candidate) → length (candidate_bytes c) ≡ candidate_size
unfolding candidate_bytes
candidate-length c =
    ap (λ (n : ℕ). suc (suc n))
    (length-append (padded most_id c.id) (padded place_size c.place)
    ∙ ap₂ (λ (m n : ℕ). m + n) (padded-length most_id c.id) (padded-length place_size c.place))

pub candidates-long : (cs : List Candidate) → length (candidates_bytes cs) ≡ length cs * candidate_size
unfolding candidates_bytes
candidates-long [] = refl
candidates-long (c ∷ cs) =
    length-append (candidate_bytes c) (candidates_bytes cs)
    ∙ ap₂ (λ (m n : ℕ). m + n) (candidate-length c) (candidates-long cs) ∙ omega arith

abbrev numbers_of : Lookup → ℕ → List ℕ
numbers_of l b = l.count % 256 ∷ l.count / 256 % 256 ∷ l.size % 256 ∷ l.limit % 256 ∷ b ∷ 0 ∷ 0 ∷ 0 ∷ []

pub head-length : (l : Lookup) → length (head_bytes l) ≡ candidates_at
unfolding head_bytes
head-length l =
    length-append (numbers_of l (cond l.turned 1 0)) (padded most_key l.key ++ padded place_size l.target)
    ∙ ap (λ (n : ℕ). 8 + n)
    (length-append (padded most_key l.key) (padded place_size l.target)
    ∙ ap₂ (λ (m n : ℕ). m + n) (padded-length most_key l.key) (padded-length place_size l.target))

-- ---- a candidate
pub candidate-put : (out : List ℕ) (at : ℕ) (c : Candidate) → length c.id ≡ most_id → length c.place ≡ place_size
    → (x y z : List ℕ) → x ≡ sets out at (c.mark ∷ c.len ∷ []) → y ≡ sets x (at + 2) c.id → z ≡ sets y (at + 66) c.place → z ≡ sets out at (candidate_bytes c)
unfolding candidate_bytes
candidate-put out at c hi hp x y z ex ey ez =
    three-runs out at (c.mark ∷ c.len ∷ []) c.id c.place (at + 2) (at + 66) refl (omega arith) x y z ex ey ez
    ∙ ap₂ (λ (i p : List ℕ). sets out at (c.mark ∷ c.len ∷ (i ++ p))) (sym (padded-whole most_id c.id hi)) (sym (padded-whole place_size c.place hp))

-- ---- what stands before the candidates
pub head-put : (out : List ℕ) (l : Lookup) (b : ℕ) → b ≡ cond l.turned 1 0 → length l.key ≡ most_key → length l.target ≡ place_size
    → (x y z : List ℕ) → x ≡ sets out 0 (numbers_of l b) → y ≡ sets x 8 l.key → z ≡ sets y 136 l.target → z ≡ sets out 0 (head_bytes l)
unfolding head_bytes
head-put out l b eb hk ht x y z ex ey ez =
    three-runs out 0 (numbers_of l b) l.key l.target 8 136 refl (omega arith) x y z ex ey ez
    ∙ ap (λ (n : ℕ). sets out 0 (numbers_of l n ++ (l.key ++ l.target))) eb
    ∙ ap₂ (λ (k t : List ℕ). sets out 0 (numbers_of l (cond l.turned 1 0) ++ (k ++ t))) (sym (padded-whole most_key l.key hk)) (sym (padded-whole place_size l.target ht))

-- ---- one candidate after another
bytes-snoc : (cs : List Candidate) (c : Candidate) → candidates_bytes (cs ++ (c ∷ [])) ≡ candidates_bytes cs ++ candidate_bytes c
unfolding candidates_bytes
bytes-snoc [] c = append-nil (candidate_bytes c)
bytes-snoc (d ∷ cs) c = ap (λ (s : List ℕ). candidate_bytes d ++ s) (bytes-snoc cs c) ∙ sym (append_assoc (candidate_bytes d) (candidates_bytes cs) (candidate_bytes c))

-- the first i candidates were stored in a buffer that was out₀ before
pub record Putting (out₀ : List ℕ) (cs : List Candidate) (out : List ℕ) (i : ℕ) : Type 0 where
  pub within : i ≤ room
  pub done : out ≡ sets out₀ candidates_at (candidates_bytes (take i cs))

pub put-none : (out : List ℕ) (cs : List Candidate) → Putting out cs out 0
unfolding candidates_bytes
put-none out cs = record { within = omega arith; done = refl }

pub put_one : (out₀ : List ℕ) (cs : List Candidate) (out : List ℕ) (i : ℕ) (d : Candidate) (next : List ℕ) → length cs ≡ room → i < room
    → next ≡ sets out (candidates_at + i * candidate_size) (candidate_bytes (get_or cs i d)) → Putting out₀ cs out i → Putting out₀ cs next (i + 1)
put_one out₀ cs out i d next hl h e p =
    let long : length (candidates_bytes (take i cs)) ≡ i * candidate_size =
    candidates-long (take i cs) ∙ ap (λ (n : ℕ). n * candidate_size) (length-take-le i cs (omega arith)) in
    let more : candidates_bytes (take (i + 1) cs) ≡ candidates_bytes (take i cs) ++ candidate_bytes (get_or cs i d) =
    ap (λ (k : ℕ). candidates_bytes (take k cs)) (add-one i) ∙ ap candidates_bytes (take-suc cs i d (omega arith)) ∙ bytes-snoc (take i cs) (get_or cs i d) in
    record {
      within = omega arith;
      done =
          e ∙ ap (λ (u : List ℕ). sets u (candidates_at + i * candidate_size) (candidate_bytes (get_or cs i d))) p.done
          ∙ ap (λ (k : ℕ). sets (sets out₀ candidates_at (candidates_bytes (take i cs))) (candidates_at + k) (candidate_bytes (get_or cs i d))) (sym long)
          ∙ sym (ap (sets out₀ candidates_at) more ∙ sets-append out₀ candidates_at (candidates_bytes (take i cs)) (candidate_bytes (get_or cs i d)));
    }

pub put-long : (out : List ℕ) (l : Lookup) (x z : List ℕ) (i : ℕ) → x ≡ sets out 0 (head_bytes l) → Putting x l.candidates z i → length z ≡ length out
put-long out l x z i ex p =
    ap length p.done ∙ length-sets x candidates_at (candidates_bytes (take i l.candidates)) ∙ ap length ex ∙ length-sets out 0 (head_bytes l)

pub put_all : (out : List ℕ) (l : Lookup) (x z : List ℕ) (i : ℕ) → x ≡ sets out 0 (head_bytes l) → length l.candidates ≡ room → room ≤ i
    → Putting x l.candidates z i → z ≡ sets out 0 (lookup_bytes l)
unfolding lookup_bytes
put_all out l x z i ex hl h p =
    let past : candidates_at ≡ 0 + length (head_bytes l) = omega (arith, head-length l) in
    p.done
    ∙ ap (λ (cs : List Candidate). sets x candidates_at (candidates_bytes cs)) (take_all i l.candidates (omega arith))
    ∙ ap (λ (u : List ℕ). sets u candidates_at (candidates_bytes l.candidates)) ex
    ∙ ap (λ (k : ℕ). sets (sets out 0 (head_bytes l)) k (candidates_bytes l.candidates)) past
    ∙ sym (sets-append out 0 (head_bytes l) (candidates_bytes l.candidates))

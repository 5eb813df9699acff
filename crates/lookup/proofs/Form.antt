-- Laws of a lookup's form, test by test. Assumes nothing.
use Prim.Native.Nat.{ℕ, ◌+◌, ◌≤◌, ◌<◌}
use mathlib.Core.Path.{◌≡◌, refl, sym, ap, ◌∙◌}
use mathlib.Core.Bool.{Bool, true, false, not, ◌&&◌}
use mathlib.Core.List.{List}
use native.Mathlib.Omega.{arith}
use lib.Dec.{leb}
use lib.ListN.{length, get_or, take, drop}
use borrow.Author.Tests.{le-leb, lt-leb, leb-true}
use Rattle.octets.proofs.Bools.{all-on, all-off, all_head, all_rest, both-no, both_yes}
use Rattle.limits.specs.Limits.{most_key}
use Rattle.place.specs.Place.{nearer_to}
use Rattle.lookup.specs.Lookup.{room, limit_most, candidates_of, follow, nearest_first, in_form}
use Rattle.lookup_candidates.specs.Candidates.{well_made}
use Rattle.lookup_candidates.specs.declared.Candidate.{Candidate}
use Rattle.lookup_candidates.proofs.Candidates.{all-last}
use Rattle.lookup.specs.Value.{Lookup}
use Rattle.octets.proofs.Finding.{one_on, at-end}

-- ---- the candidates, nearest first
module _ (t : List ℕ) (n : ℕ) (xs : List Candidate) where
  pub first-none : n ≡ 0 → true ≡ nearest_first t (take n xs)
  unfolding nearest_first
  first-none e = rw e

  pub first-bad : (d : Candidate) (b : Bool) → (n ≡ 0 → ⊥) → n ≤ length xs → b ≡ well_made (get_or xs 0 d) → not b ≡ true → false ≡ nearest_first t (take n xs)
  unfolding nearest_first
  first-bad d b z hn e h =
      both-no b (well_made (get_or xs 0 d)) (follow t (get_or xs 0 d) (drop 1 (take n xs))) e h ∙ sym (ap (nearest_first t) (one_on n xs 0 d (omega arith) hn))

  pub first_good : (d : Candidate) (b : Bool) → (n ≡ 0 → ⊥) → n ≤ length xs → b ≡ well_made (get_or xs 0 d) → not b ≡ false
      → follow t (get_or xs 0 d) (drop 1 (take n xs)) ≡ nearest_first t (take n xs)
  unfolding nearest_first
  first_good d b z hn e h =
      both_yes b (well_made (get_or xs 0 d)) (follow t (get_or xs 0 d) (drop 1 (take n xs))) _ e h refl ∙ sym (ap (nearest_first t) (one_on n xs 0 d (omega arith) hn))

  module _ (i : ℕ) (last d : Candidate) (b W : Bool) (hn : n ≤ length xs) (h : i < n)
      (e : b ≡ (well_made (get_or xs i d) && nearer_to t last.place (get_or xs i d).place))
      (w : follow t last (drop i (take n xs)) ≡ W) where
    unrolled : follow t last (drop i (take n xs)) ≡ ((well_made (get_or xs i d) && nearer_to t last.place (get_or xs i d).place) && follow t (get_or xs i d) (drop (i + 1) (take n xs)))
    unfolding follow
    unrolled = ap (follow t last) (one_on n xs i d h hn)

    pub follow-no : not b ≡ true → false ≡ W
    follow-no g = both-no b _ (follow t (get_or xs i d) (drop (i + 1) (take n xs))) e g ∙ sym unrolled ∙ w

    pub follow-yes : not b ≡ false → follow t (get_or xs i d) (drop (i + 1) (take n xs)) ≡ W
    follow-yes g = both_yes b _ (follow t (get_or xs i d) (drop (i + 1) (take n xs))) _ e g refl ∙ sym unrolled ∙ w

  pub follow-end : (i : ℕ) (last : Candidate) (W : Bool) → n ≤ i → follow t last (drop i (take n xs)) ≡ W → true ≡ W
  unfolding follow
  follow-end i last W h w = sym (ap (follow t last) (at-end n xs i h)) ∙ w

-- ---- the lookup: each test in turn
module _ (l : Lookup) where
  pub form-size-low : l.size < 1 → false ≡ in_form l
  unfolding in_form
  form-size-low h = sym (all-off (leb 1 l.size) _ (lt-leb 1 l.size h))

  module _ (a : 1 ≤ l.size) where
    pub form-size-high : most_key < l.size → false ≡ in_form l
    unfolding in_form
    form-size-high h = sym (all-on (leb 1 l.size) _ (le-leb 1 l.size a) ∙ all-off (leb l.size most_key) _ (lt-leb l.size most_key h))

    module _ (b : l.size ≤ most_key) where
      pub form-limit-low : l.limit < 1 → false ≡ in_form l
      unfolding in_form
      form-limit-low h =
          sym (all-on (leb 1 l.size) _ (le-leb 1 l.size a) ∙ all-on (leb l.size most_key) _ (le-leb l.size most_key b)
          ∙ all-off (leb 1 l.limit) _ (lt-leb 1 l.limit h))

      module _ (c : 1 ≤ l.limit) where
        pub form-limit-high : limit_most < l.limit → false ≡ in_form l
        unfolding in_form
        form-limit-high h =
            sym (all-on (leb 1 l.size) _ (le-leb 1 l.size a) ∙ all-on (leb l.size most_key) _ (le-leb l.size most_key b)
            ∙ all-on (leb 1 l.limit) _ (le-leb 1 l.limit c) ∙ all-off (leb l.limit limit_most) _ (lt-leb l.limit limit_most h))

        module _ (d : l.limit ≤ limit_most) where
          pub form-count : room < l.count → false ≡ in_form l
          unfolding in_form
          form-count h =
              sym (all-on (leb 1 l.size) _ (le-leb 1 l.size a) ∙ all-on (leb l.size most_key) _ (le-leb l.size most_key b)
              ∙ all-on (leb 1 l.limit) _ (le-leb 1 l.limit c) ∙ all-on (leb l.limit limit_most) _ (le-leb l.limit limit_most d)
              ∙ all-off (leb l.count room) _ (lt-leb l.count room h))

          pub form-rest : l.count ≤ room → nearest_first l.target (candidates_of l) ≡ in_form l
          unfolding in_form
          form-rest h =
              sym (all-on (leb 1 l.size) _ (le-leb 1 l.size a) ∙ all-on (leb l.size most_key) _ (le-leb l.size most_key b)
              ∙ all-on (leb 1 l.limit) _ (le-leb 1 l.limit c) ∙ all-on (leb l.limit limit_most) _ (le-leb l.limit limit_most d)
              ∙ all-on (leb l.count room) _ (le-leb l.count room h) ∙ all-last (nearest_first l.target (candidates_of l)))

-- what form says
pub record Formed (l : Lookup) : Type 0 where
  pub size_low : 1 ≤ l.size
  pub size_high : l.size ≤ most_key
  pub limit_low : 1 ≤ l.limit
  pub limit_high : l.limit ≤ limit_most
  pub fits : l.count ≤ room
  pub order : nearest_first l.target (candidates_of l) ≡ true

pub formed : (l : Lookup) → in_form l ≡ true → Formed l
unfolding in_form
formed l h =
    let h1 = all_rest (leb 1 l.size) _ h in
    let h2 = all_rest (leb l.size most_key) _ h1 in
    let h3 = all_rest (leb 1 l.limit) _ h2 in
    let h4 = all_rest (leb l.limit limit_most) _ h3 in
    let h5 = all_rest (leb l.count room) _ h4 in
    record {
      size_low = leb-true 1 l.size (all_head (leb 1 l.size) _ h);
      size_high = leb-true l.size most_key (all_head (leb l.size most_key) _ h1);
      limit_low = leb-true 1 l.limit (all_head (leb 1 l.limit) _ h2);
      limit_high = leb-true l.limit limit_most (all_head (leb l.limit limit_most) _ h3);
      fits = leb-true l.count room (all_head (leb l.count room) _ h4);
      order = all_head (nearest_first l.target (candidates_of l)) _ h5;
    }

pub form_of : (l : Lookup) → Formed l → in_form l ≡ true
form_of l f = sym (form-rest l f.size_low f.size_high f.limit_low f.limit_high f.fits) ∙ f.order

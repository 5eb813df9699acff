-- Laws of one peer heard of: who comes in by its id. Assumes nothing.
use Prim.Native.Nat.{ℕ, ◌≤◌, ◌<◌}
use mathlib.Core.Path.{◌≡◌, refl, sym, ap, ◌∙◌, subst}
use mathlib.Core.Bool.{Bool, true, false, cond, not}
use mathlib.Core.List.{List}
use native.Mathlib.Omega.{arith}
use lib.Dec.{leb}
use lib.ListN.{length}
use borrow.Author.Tests.{leb-true, not-false}
use Rattle.octets.specs.Octets.{same}
use Rattle.octets.proofs.Bools.{and_l}
use Rattle.peer.proofs.Meaning.{fits-least}
use Rattle.sha256.specs.Sha256.{sha256}
use Rattle.lookup_candidates.specs.Candidates.{arrival_of, id_fits, fresh, nobody}
use Rattle.lookup.specs.Lookup.{meet, hear}
use Rattle.lookup_candidates.specs.declared.Candidate.{Candidate}
use Rattle.lookup.specs.Value.{Lookup}

module _ (ours id : List ℕ) (l : Lookup) where
  abbrev Comes : Candidate → Lookup → Type 0
  Comes c k = (1 ≤ c.len → k ≡ meet c l) × (c.len < 1 → k ≡ l)

  comes : (a s : Bool) (f : Candidate) → (a ≡ false → 1 ≤ f.len) → Comes (cond a nobody (cond s nobody f)) (cond a l (cond s l (meet f l)))
  comes true s f h = (λ g. absurd (omega arith), λ g. refl)
  comes false true f h = (λ g. absurd (omega arith), λ g. refl)
  comes false false f h = (λ g. refl, λ g. absurd (omega (arith, h refl)))

  heard-of : Comes (arrival_of ours id) (hear ours id l)
  unfolding arrival_of hear
  heard-of =
      comes (not (id_fits id)) (same (sha256 id) ours) (fresh id)
      (λ e. fits-least id (not-false (id_fits id) e))

  module _ (c : Candidate) (ec : c ≡ arrival_of ours id) where
    pub hear-nobody : c.len < 1 → l ≡ hear ours id l
    hear-nobody h = sym (heard-of.1 (subst (λ (x : Candidate). x.len < 1) ec h))

    pub hear-someone : (k : Lookup) → 1 ≤ c.len → k ≡ meet c l → k ≡ hear ours id l
    hear-someone k h e = e ∙ ap (λ (x : Candidate). meet x l) ec ∙ sym (heard-of.0 (subst (λ (x : Candidate). 1 ≤ x.len) ec h))

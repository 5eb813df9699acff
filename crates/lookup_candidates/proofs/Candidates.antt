-- Laws of candidates: each test in turn, and who comes in. Assumes nothing.
use Prim.Native.Nat.{ℕ, ◌≤◌, ◌<◌}
use mathlib.Core.Path.{◌≡◌, refl, sym, ap, ◌∙◌}
use mathlib.Core.Bool.{Bool, true, false, not}
use mathlib.Core.List.{List, [], ◌∷◌}
use lib.Dec.{leb, eqb}
use lib.ListN.{length, replicate}
use borrow.Author.Tests.{le-leb, lt-leb, leb-true, not-false, eq-eqb, ne_eqb}
use Rattle.octets.specs.Search.{all_of}
use Rattle.octets.proofs.Bools.{and-on, and-off, all-on, all-off, cond_yes, cond_no, and_r}
use Rattle.limits.specs.Limits.{most_id}
use Rattle.peer.proofs.Meaning.{fits-most}
use Rattle.lookup_marks.specs.Marks.{failed, idle, flying}
use Rattle.lookup_candidates.specs.Candidates.{well_made, id_fits, flies, fresh, arrival_of, nobody, padded, contact_at}
use Rattle.lookup_candidates.specs.declared.Candidate.{Candidate}
use lib.Seq.{sets}
use Rattle.octets.specs.Octets.{same}
use Rattle.sha256.specs.Sha256.{sha256}
use Rattle.contacts.specs.Table.{slot, place}
use Rattle.contacts.specs.Contact.{entry_id}

pub all-last : (b : Bool) → all_of (b ∷ []) ≡ b
unfolding all_of
all-last true = refl
all-last false = refl

-- ---- a candidate
module _ (c : Candidate) where
  pub made-mark : failed < c.mark → false ≡ well_made c
  unfolding well_made
  made-mark h = sym (all-off (leb c.mark failed) _ (lt-leb c.mark failed h))

  pub made-empty : c.mark ≤ failed → c.len < 1 → false ≡ well_made c
  unfolding well_made
  made-empty h g = sym (all-on (leb c.mark failed) _ (le-leb c.mark failed h) ∙ all-off (leb 1 c.len) _ (lt-leb 1 c.len g))

  pub made-len : c.mark ≤ failed → 1 ≤ c.len → leb c.len most_id ≡ well_made c
  unfolding well_made
  made-len h g =
      sym (all-on (leb c.mark failed) _ (le-leb c.mark failed h) ∙ all-on (leb 1 c.len) _ (le-leb 1 c.len g) ∙ all-last (leb c.len most_id))

pub fits-len : (id : List ℕ) (b : Bool) → b ≡ id_fits id → not b ≡ false → length id ≤ 64
fits-len id b e h = fits-most id (sym e ∙ not-false b h)

pub flies-no : (p : List ℕ) (c : Candidate) → (c.mark ≡ flying → ⊥) → false ≡ flies p c
unfolding flies
flies-no p c h = sym (and-off (eqb c.mark flying) (same c.place p) (ne_eqb c.mark flying h))

pub flies-same : (p : List ℕ) (c : Candidate) (b : Bool) → c.mark ≡ flying → b ≡ same c.place p → b ≡ flies p c
unfolding flies
flies-same p c b h e = e ∙ sym (and-on (eqb c.mark flying) (same c.place p) (eq-eqb c.mark flying h))

pub fresh-is : (id kept p : List ℕ) (n : ℕ) → kept ≡ sets (replicate most_id 0) 0 id → p ≡ sha256 id → n ≡ length id
    → record { id = kept; place = p; mark = idle; len = n } ≡ fresh id
fresh-is id kept p n ek ep en = rw (ek, ep, en)

-- ---- who comes in
module _ (ours id : List ℕ) (r : Candidate) (a : Bool) (ea : a ≡ id_fits id) where
  pub arrival-bad : not a ≡ true → r ≡ nobody → r ≡ arrival_of ours id
  unfolding arrival_of
  arrival-bad h e = e ∙ sym (cond_yes (not (id_fits id)) nobody _ (ap not (sym ea) ∙ h))

  module _ (h : not a ≡ false) (c : Candidate) (ec : c ≡ fresh id) (s : Bool) (es : s ≡ same c.place ours) where
    ourselves : s ≡ same (sha256 id) ours
    ourselves = es ∙ ap (λ (x : Candidate). same x.place ours) ec

    pub arrival-ours : s ≡ true → r ≡ nobody → r ≡ arrival_of ours id
    unfolding arrival_of
    arrival-ours t e = e ∙ sym (cond_no (not (id_fits id)) nobody _ (ap not (sym ea) ∙ h) ∙ cond_yes (same (sha256 id) ours) nobody (fresh id) (sym ourselves ∙ t))

    pub arrival-new : s ≡ false → c ≡ arrival_of ours id
    unfolding arrival_of
    arrival-new t = ec ∙ sym (cond_no (not (id_fits id)) nobody _ (ap not (sym ea) ∙ h) ∙ cond_no (same (sha256 id) ours) nobody (fresh id) (sym ourselves ∙ t))

-- ---- a contact
pub contact-is : (t : List ℕ) (i : ℕ) (e kept p : List ℕ) (n : ℕ) (q : List ℕ) → e ≡ entry_id (slot t i) → kept ≡ padded most_id e → q ≡ place (slot t i) → p ≡ padded 32 q → n ≡ length e
    → record { id = kept; place = p; mark = idle; len = n } ≡ contact_at t i
contact-is t i e kept p n q ee ek eq ep en = rw (ek, ep, en, ee, eq)

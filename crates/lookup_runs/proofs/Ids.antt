-- Each candidate has its own id: a mark changes none, a peer heard of comes in at the hash of its id, and the start's have those of the contacts. Assumes nothing.
use Prim.Native.Nat.{ℕ, zero, suc, ◌<◌}
use mathlib.Core.Path.{◌≡◌, refl, sym, ap, ◌∙◌}
use mathlib.Core.Logic.{⊎_elim}
use mathlib.Core.Bool.{Bool, true, false, not, ◌&&◌}
use mathlib.Core.List.{List, [], ◌∷◌, map}
use native.Mathlib.Omega.{arith}
use lib.Dec.{leb}
use lib.ListN.{length, get_or}
use borrow.Author.Tests.{leb-true}
use Rattle.octets.specs.Octets.{Bytes, same}
use Rattle.octets.proofs.Bools.{and_r, and_i, either, or_l, or_r, or-fails, not-both, not_yes, not-no}
use Rattle.octets.proofs.Strings.{same-yes}
use Rattle.limits.specs.Limits.{most_id}
use Rattle.peer.proofs.Meaning.{fits-most}
use Rattle.sha256.specs.Sha256.{sha256}
use Rattle.sha256.proofs.Laws.{length-sha256}
use Rattle.contacts.specs.Table.{slot, place}
use Rattle.contacts.specs.Contact.{entry_id}
use Rattle.contacts.specs.Form.{in_form as in_form_table}
use Rattle.contacts.specs.Near.{nearest_slots}
use Rattle.contact_form.proofs.EntryFacts.{entry-id-most}
use Rattle.contacts.proofs.TwentyNearest.{nearest-held}
use Rattle.lookup_marks.specs.Marks.{flying, answered, failed}
use Rattle.octets.specs.Search.{any_in}
use Rattle.lookup.specs.Lookup.{candidates_of, mark, id_fits, fresh, heard_ids, contact_at, first_ones, begun}
use Rattle.lookup_candidates.specs.declared.Candidate.{Candidate}
use Rattle.lookup.specs.Value.{Lookup, Step}
use Rattle.lookup_runs.specs.Runs.{Call, step, outcome}
use Rattle.lookup_runs.specs.Claims.{id_of, has_own_id}
use Rattle.lookup_runs.proofs.Members.{In, in-any}
use Rattle.lookup_runs.proofs.Moves.{Move, stays, asks, fails, answers, moved}
use Rattle.lookup_runs.proofs.Sound.{Sound, sound-step, begun-candidates, padded-part, place_is}
use Rattle.lookup_runs.proofs.Tracking.{all_any, unset-any}

-- some element passes, if the one at i does
at-any : (q : ℕ → Bool) (ls : List ℕ) (i : ℕ) → i < length ls → q (get_or ls i 0) ≡ true → any_in q ls ≡ true
unfolding any_in
at-any q [] i h e = absurd (omega arith)
at-any q (x ∷ ls) zero h e = or_l (q x) (any_in q ls) e
at-any q (x ∷ ls) (suc i) h e = or_r (q x) (any_in q ls) (at-any q ls i (omega arith) e)

module _ (t key : List ℕ) where
  -- a candidate whose id isn't its own; there is one
  abbrev pub strange : Candidate → Bool
  strange c = not (has_own_id t key c)

  abbrev pub Stranger : Lookup → Bool
  Stranger l = any_in strange (candidates_of l)

  fresh-own : (id : List ℕ) → id_fits id ≡ true → strange (fresh id) ≡ false
  fresh-own id f =
      not_yes (has_own_id t key (fresh id))
      (or_l (same (sha256 (id_of (fresh id))) (sha256 id)) _
      (same-yes (sha256 (id_of (fresh id))) (sha256 id) (ap sha256 (padded-part most_id id (fits-most id f)))))

  step-own : (c : Call) (l : Lookup) → Sound l → Stranger (step c l).lookup ≡ Stranger l
  step-own c l s = go (moved c l s.long)
    where
      go : Move c l (step c l) → Stranger (step c l).lookup ≡ Stranger l
      go (stays e q n) = ap Stranger e
      go (asks i ec h g e q) = ap Stranger e ∙ unset-any strange i flying l refl
      go (fails id i f h p e q a) = ap Stranger e ∙ unset-any strange i failed l refl
      go (answers own ours id body v i ec k h p e q a) =
          ap Stranger e ∙ all_any strange fresh-own ours (heard_ids body) (mark i answered l) ∙ unset-any strange i answered l refl

  calls-own : (cs : List Call) (s : Step) → Sound s.lookup → Stranger (outcome step s cs).lookup ≡ Stranger s.lookup
  unfolding outcome
  calls-own [] s h = refl
  calls-own (c ∷ cs) s h = calls-own cs (step c s.lookup) (sound-step c s.lookup h) ∙ step-own c s.lookup h

  pub own-id : (cs : List Call) (s : Step) → Sound s.lookup → Stranger s.lookup ≡ false → {c : Candidate} → In c (candidates_of (outcome step s cs).lookup) → has_own_id t key c ≡ true
  own-id cs s h z {c} m =
      ⊎_elim (λ e. e)
      (λ e. absurd (not-both (Stranger (outcome step s cs).lookup) (in-any strange m (not-no (has_own_id t key c) e)) (calls-own cs s h ∙ z)))
      (either (has_own_id t key c))

  -- ---- at the start
  none-strange : (ls : List ℕ) → ((i : ℕ) → i < length ls → strange (contact_at t (get_or ls i 0)) ≡ false) → any_in strange (map (contact_at t) ls) ≡ false
  unfolding any_in
  none-strange [] h = refl
  none-strange (j ∷ ls) h =
      or-fails (strange (contact_at t j)) (any_in strange (map (contact_at t) ls)) (h 0 (omega arith)) (none-strange ls (λ i k. h (suc i) (omega arith)))

  module _ (ours : List ℕ) (bytes : Bytes t) (table : in_form_table t ours ≡ true) where
    contact-own : (i : ℕ) → i < length (nearest_slots t (sha256 key)) → strange (contact_at t (get_or (nearest_slots t (sha256 key)) i 0)) ≡ false
    contact-own i h =
        not_yes (has_own_id t key c)
        (or_r (same (sha256 (id_of c)) c.place) _
        (at-any (λ k. same (entry_id (slot t k)) (id_of c) && same (place (slot t k)) c.place) (nearest_slots t (sha256 key)) i h
        (and_i (same (entry_id (slot t j)) (id_of c)) _ (same-yes (entry_id (slot t j)) (id_of c) (sym (padded-part most_id (entry_id (slot t j)) (entry-id-most (slot t j)))))
        (same-yes (place (slot t j)) c.place
        (sym (place_is t ours (sha256 key) bytes table (length-sha256 key) j (nearest-held t (sha256 key) i h)))))))
      where
        j : ℕ
        j = get_or (nearest_slots t (sha256 key)) i 0

        c : Candidate
        c = contact_at t j

    pub start-own : (limit : ℕ) → Stranger (begun t key limit) ≡ false
    unfolding first_ones
    start-own limit = ap (any_in strange) (begun-candidates t key limit) ∙ none-strange (nearest_slots t (sha256 key)) contact-own

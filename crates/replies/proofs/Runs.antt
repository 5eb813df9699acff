-- Runs of contacts, as entries of closerPeers: their length, their bytes, and who is among them. Assumes nothing.
use Prim.Native.Nat.{ℕ, ◌+◌, ◌*◌, ◌≤◌, ◌<◌}
use mathlib.Core.Path.{◌≡◌, refl, sym, ap, subst, ◌∙◌}
use mathlib.Core.Logic.{⊎_elim}
use mathlib.Core.Bool.{Bool, true, false}
use mathlib.Core.List.{List, [], ◌∷◌, ◌++◌, map}
use native.Mathlib.Omega.{arith}
use native.Mathlib.Numerals.{add-one}
use lib.ListN.{length, get_or, take, length-append}
use lib.Seq.{take-suc}
use lib.Dec.{ltb}
use borrow.Author.Tests.{ltb-true, ltb-false}
use Rattle.octets.specs.Octets.{same}
use Rattle.octets.specs.Search.{every, some as some_below}
use Rattle.octets.proofs.Bools.{either, to-false, not-both}
use Rattle.octets.proofs.Searching.{some_at, some-intro, every-nil, every-cons}
use Rattle.limits.specs.Limits.{most_near}
use Rattle.contacts.specs.Table.{slot, place}
use Rattle.wire.specs.Items.{Put, written, repeated}
use Rattle.wire_put.proofs.Putting.{put-start, put_is, put_on}
use Rattle.message.specs.Message.{Peer}
use Rattle.pieces.specs.Writable.{peer_fits, peer_piece}
use Rattle.pieces.proofs.Pieces.{entries-more}
use Rattle.entries.specs.Entries.{contact_entry}
use Rattle.replies.specs.Inner.{entries_to, lies_among, entry_bytes}
use Rattle.entries.proofs.Entries.{contact-fits}
use Rattle.pieces.specs.Sizes.{most_peer_field, most_peer_fields}

module _ (t near : List ℕ) where
  map_snoc : (l : List ℕ) (i : ℕ) → map (λ i. contact_entry (slot t i)) (l ++ (i ∷ [])) ≡ map (λ i. contact_entry (slot t i)) l ++ (contact_entry (slot t i) ∷ [])
  map_snoc [] i = refl
  map_snoc (j ∷ l) i = ap (λ (m : List Peer). contact_entry (slot t j) ∷ m) (map_snoc l i)

  entries-one : (k : ℕ) → k < length near → entries_to t near (k + 1) ≡ entries_to t near k ++ (contact_entry (slot t (get_or near k 0)) ∷ [])
  unfolding entries_to
  entries-one k h = rw (add-one k, take-suc near k 0 h) (map_snoc (take k near) (get_or near k 0))

  bytes_one : (k : ℕ) → k < length near → entry_bytes (entries_to t near (k + 1)) ≡ entry_bytes (entries_to t near k) ++ peer_piece 8 (contact_entry (slot t (get_or near k 0)))
  unfolding entry_bytes
  bytes_one k h = rw (entries-one k h) (entries-more 8 (entries_to t near k) (contact_entry (slot t (get_or near k 0))) (contact-fits (slot t (get_or near k 0))))

  pub entries_fit : (l : List ℕ) → every peer_fits (map (λ i. contact_entry (slot t i)) l) ≡ true
  entries_fit [] = every-nil peer_fits
  entries_fit (i ∷ l) = every-cons peer_fits (contact_entry (slot t i)) _ (contact-fits (slot t i)) (entries_fit l)

  -- summing up
  pub record Summing (n sum k : ℕ) : Type 0 where
    pub within : k ≤ n
    pub done : sum ≡ length (entry_bytes (entries_to t near k))
    pub few : sum ≤ most_peer_field * k

  pub sum-none : (n : ℕ) → Summing n 0 0
  unfolding entry_bytes entries_to repeated written
  sum-none n = record { within = omega arith; done = refl; few = omega arith }

  pub sum_one : (n sum k r : ℕ) → Summing n sum k → k < n → n ≤ length near → (r ≡ length (peer_piece 8 (contact_entry (slot t (get_or near k 0))))) × (r ≤ most_peer_field) → Summing n (sum + r) (k + 1)
  sum_one n sum k r s h l e =
      record {
        within = omega arith;
        done = rw (bytes_one k (omega arith)) (omega (arith, s.done, e.0, length-append (entry_bytes (entries_to t near k)) (peer_piece 8 (contact_entry (slot t (get_or near k 0))))));
        few = omega (arith, s.few, e.1);
      }

  pub sum-all : (n sum k : ℕ) → Summing n sum k → n ≤ k → n ≤ 20 → (sum ≡ length (entry_bytes (entries_to t near n))) × (sum ≤ most_peer_fields)
  sum-all n sum k s h l =
      let e : k ≡ n = omega (arith, s.within) in
      (s.done ∙ ap (λ (i : ℕ). length (entry_bytes (entries_to t near i))) e, omega (arith, s.few))

  -- writing
  pub record PuttingOn (buf₀ : List ℕ) (from n : ℕ) (buf : List ℕ) (to k : ℕ) : Type 0 where
    pub within : k ≤ n
    pub done : Put buf₀ from (entry_bytes (entries_to t near k)) buf to

  pub putting-none : (buf : List ℕ) (from n : ℕ) → PuttingOn buf from n buf from 0
  unfolding entry_bytes entries_to repeated written
  putting-none buf from n = record { within = omega arith; done = put-start buf from }

  pub putting-one : (buf₀ : List ℕ) (from n : ℕ) (buf : List ℕ) (to k : ℕ) (buf₁ : List ℕ) (r : ℕ) → PuttingOn buf₀ from n buf to k → k < n → n ≤ length near
      → Put buf to (peer_piece 8 (contact_entry (slot t (get_or near k 0)))) buf₁ r → PuttingOn buf₀ from n buf₁ r (k + 1)
  putting-one buf₀ from n buf to k buf₁ r s h l q =
      record {
        within = omega arith;
        done = put_is buf₀ from _ _ buf₁ r (sym (bytes_one k (omega arith))) (put_on buf₀ from (entry_bytes (entries_to t near k)) buf to (peer_piece 8 (contact_entry (slot t (get_or near k 0)))) buf₁ r s.done q);
      }

  pub putting-all : (buf₀ : List ℕ) (from n : ℕ) (buf : List ℕ) (to k : ℕ) → PuttingOn buf₀ from n buf to k → n ≤ k → Put buf₀ from (entry_bytes (entries_to t near n)) buf to
  putting-all buf₀ from n buf to k s h =
      let e : k ≡ n = omega (arith, s.within) in
      subst (λ (i : ℕ). Put buf₀ from (entry_bytes (entries_to t near i)) buf to) e s.done

  -- searching
  module _ (x : List ℕ) where
    pub record Searching (n k : ℕ) : Type 0 where
      pub within : k ≤ n
      pub none : (i : ℕ) → i < k → same (place (slot t (get_or near i 0))) x ≡ false

    pub search-none : (n : ℕ) → Searching n 0
    search-none n = record { within = omega arith; none = λ i h. absurd (omega arith) }

    pub search-on : (n k : ℕ) (p : List ℕ) (b : Bool) → Searching n k → k < n → p ≡ place (slot t (get_or near k 0)) → b ≡ same p x → b ≡ false → Searching n (k + 1)
    search-on n k p b s h ep eb e =
        record {
          within = omega arith;
          none = λ i l. ⊎_elim (λ t. s.none i (ltb-true i k t)) (λ t. let q : i ≡ k = omega (arith, ltb-false i k t) in rw (q, ← ep, ← eb) e) (either (ltb i k));
        }

    pub search-hit : (n k : ℕ) (p : List ℕ) (b : Bool) → k < n → p ≡ place (slot t (get_or near k 0)) → b ≡ same p x → b ≡ true → true ≡ lies_among t near n x
    unfolding lies_among
    search-hit n k p b h ep eb e = sym (some-intro _ n k h (rw (← ep, ← eb) e))

    pub search-miss : (n k : ℕ) → Searching n k → n ≤ k → false ≡ lies_among t near n x
    unfolding lies_among
    search-miss n k s h = sym (to-false _ bad)
      where
        bad : some_below n (λ k. same (place (slot t (get_or near k 0))) x) ≡ true → ⊥
        bad q = let w = some_at _ n q in not-both _ w.2 (s.none w.0 (omega (arith, w.1)))

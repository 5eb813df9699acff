-- What is kept of a box and a connection is what the functions below gave. Assumes nothing.
use Prim.Native.Nat.{ℕ, ◌<◌, ◌≤◌}
use mathlib.Core.Path.{◌≡◌, sym, ap, ◌∙◌}
use mathlib.Core.Bool.{Bool, true, false}
use mathlib.Core.List.{List, [], ◌∷◌}
use lib.Seq.{sets}
use lib.Dec.{leb, eqb}
use borrow.Author.Tests.{le-leb, lt-leb}
use Rattle.octets.proofs.Bools.{or_l, or_off, cond_yes, cond_no}
use Rattle.octets.proofs.Stores.{sets-append}
use Rattle.refusal.specs.declared.Refusal.{Refusal}
use Rattle.refusal.specs.Refusal.{number_of}
use Rattle.stream.specs.declared.Framing.{Framing}
use Rattle.connections.specs.declared.Started.{Started}
use Rattle.connections.specs.declared.Ended.{Ended}
use Rattle.flat.specs.Flat.{peer_bytes, with_framing}
use Rattle.node.specs.declared.Received.{Received}
use Rattle.host_numbers.specs.Numbers.{told_code, unless_refused}
use Rattle.host_state.specs.State.{box_after, changes_nothing, refused_framing, ending_code, ending_framing, ended_memory, answer_length, answer_view, sight_number, sight_slot, received_numbers}
use Rattle.std.specs.Prelude.{Ok, Err, Result, ⊤}

-- ---- start
module _ (me : List ℕ) (s : Started) where
  pub box-kept : (new : List ℕ) → s.told ≡ Ok tt → new ≡ sets me 0 (peer_bytes s.me) → (64 ≡ told_code s.told) × (new ≡ box_after me s)
  box-kept new e h = (sym (ap told_code e), h ∙ sym (ap (λ (t : Result ⊤ Refusal). unless_refused t (sets me 0 (peer_bytes s.me)) me) e))

  pub box-left : (n : ℕ) (r : Refusal) → s.told ≡ Err r → n ≡ number_of r → (n ≡ told_code s.told) × (me ≡ box_after me s)
  box-left n r e h = (h ∙ sym (ap told_code e), sym (ap (λ (t : Result ⊤ Refusal). unless_refused t (sets me 0 (peer_bytes s.me)) me) e))

-- ---- a refusal on a connection, and its end
module _ (r : Refusal) (n : ℕ) (e : n ≡ number_of r) where
  pub changes-low : n ≤ 2 → true ≡ changes_nothing r
  unfolding changes_nothing
  changes-low l = sym (or_l (leb (number_of r) 2) (eqb (number_of r) 12) (ap (λ (x : ℕ). leb x 2) (sym e) ∙ le-leb n 2 l))

  pub changes-high : 2 < n → eqb n 12 ≡ changes_nothing r
  unfolding changes_nothing
  changes-high l =
      ap (λ (x : ℕ). eqb x 12) e ∙ sym (or_off (leb (number_of r) 2) (eqb (number_of r) 12) (ap (λ (x : ℕ). leb x 2) (sym e) ∙ lt-leb n 2 l))

module _ (conn : List ℕ) (f : Framing) (r : Refusal) (b : Bool) (e : b ≡ changes_nothing r) where
  pub framing-left : b ≡ true → conn ≡ refused_framing conn f r
  framing-left h = sym (cond_yes (changes_nothing r) conn (with_framing conn f) (sym e ∙ h))

  pub framing-written : (new : List ℕ) → b ≡ false → new ≡ with_framing conn f → new ≡ refused_framing conn f r
  framing-written new h w = w ∙ sym (cond_no (changes_nothing r) conn (with_framing conn f) (sym e ∙ h))

module _ (conn : List ℕ) (x : Ended) where
  pub end_clean : (new : List ℕ) → x.answer ≡ Ok tt → new ≡ with_framing conn x.conn.framing
      → (64 ≡ ending_code x.answer) × (new ≡ ended_memory conn x)
  end_clean new e h = (sym (ap ending_code e), h ∙ sym (ap (ending_framing conn x.conn.framing) e))

  pub end_refused : (new : List ℕ) (n : ℕ) (r : Refusal) → x.answer ≡ Err r
      → (n ≡ number_of r) × (new ≡ refused_framing conn x.conn.framing r) → (n ≡ ending_code x.answer) × (new ≡ ended_memory conn x)
  end_refused new n r e h = (h.0 ∙ sym (ap ending_code e), h.1 ∙ sym (ap (ending_framing conn x.conn.framing) e))

-- ---- receive: the first four numbers, then the view
module _ (out : List ℕ) (g : Received) (l n s : ℕ) where
  head-is : l ≡ answer_length g.answer → n ≡ sight_number g.sight → s ≡ sight_slot g.sight
      → ◌≡◌ {A = List ℕ} (g.taken ∷ l ∷ n ∷ s ∷ []) (g.taken ∷ answer_length g.answer ∷ sight_number g.sight ∷ sight_slot g.sight ∷ [])
  head-is el en es =
      ap (λ (x : ℕ). g.taken ∷ x ∷ n ∷ s ∷ []) el
      ∙ ap (λ (x : ℕ). g.taken ∷ answer_length g.answer ∷ x ∷ s ∷ []) en
      ∙ ap (λ (x : ℕ). g.taken ∷ answer_length g.answer ∷ sight_number g.sight ∷ x ∷ []) es

  pub received-written : (one two : List ℕ) → l ≡ answer_length g.answer → n ≡ sight_number g.sight → s ≡ sight_slot g.sight
      → one ≡ sets out 0 (g.taken ∷ l ∷ n ∷ s ∷ []) → two ≡ sets one 4 (answer_view g.answer) → two ≡ received_numbers out g
  received-written one two el en es h k =
      k ∙ ap (λ (x : List ℕ). sets x 4 (answer_view g.answer)) (h ∙ ap (sets out 0) (head-is el en es))
      ∙ sym (sets-append out 0 (g.taken ∷ answer_length g.answer ∷ sight_number g.sight ∷ sight_slot g.sight ∷ []) (answer_view g.answer))

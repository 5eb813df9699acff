-- What a call hands over is what the function below it gave.
use Prim.Native.Nat.{ℕ, zero, suc, ◌+◌, ◌≤◌}
use mathlib.Core.Path.{◌≡◌, sym, ap, ◌∙◌}
use mathlib.Core.List.{List, [], ◌∷◌}
use mathlib.Core.Bool.{Bool, cond}
use native.Mathlib.Omega.{arith}
use lib.ListN.{length, get_or, drop, drop_of_length-le}
use lib.Seq.{drop-cons}
use Rattle.refusal.specs.declared.Refusal.{Refusal}
use Rattle.refusal.specs.Refusal.{number_of}
use Rattle.wire.specs.declared.Span.{Span}
use Rattle.message.specs.View.{addresses_at}
use Rattle.message.specs.declared.Fields.{Fields}
use Rattle.peer_walk.specs.PeerWalk.{places_of, walked_of, told_at}
use Rattle.peer_walk.specs.declared.Walked.{Walked}
use Rattle.peer_walk.proofs.Places.{places-length}
use Rattle.message_c.specs.Codes.{is_found, ends_after, read_code, numbers_after}
use Rattle.std.specs.Prelude.{Ok, Err, Result, Option}

-- a search that another function made
pub found-there : (old new : List ℕ) (r : Bool) (f g : Option Span) → f ≡ g → (r ≡ is_found f) × (new ≡ ends_after old f) → (r ≡ is_found g) × (new ≡ ends_after old g)
found-there old new r f g e h = (h.0 ∙ ap is_found e, h.1 ∙ ap (ends_after old) e)

-- a message, its numbers one by one
pub read_whole : (old : List ℕ) (m : Fields) (n : ℕ) (a b : Result Fields Refusal) → a ≡ Ok m → a ≡ b → n ≡ cond m.held.there 1 0
    → (255 ≡ read_code b)
    × ((m.kind ∷ m.key.at ∷ m.key.end ∷ n ∷ m.held.key.at ∷ m.held.key.end ∷ m.held.value.at ∷ m.held.value.end ∷ [])
    ≡ numbers_after old b)
read_whole old m n a b w e f = (
  ap read_code (sym w ∙ e),
  ap (λ (x : ℕ). m.kind ∷ m.key.at ∷ m.key.end ∷ x ∷ m.held.key.at ∷ m.held.key.end ∷ m.held.value.at ∷ m.held.value.end ∷ []) f
      ∙ ap (numbers_after old) (sym w ∙ e),
)

-- a refusal: nothing is stored
pub read-refused : (old : List ℕ) (n : ℕ) (r : Refusal) (a b : Result Fields Refusal) → a ≡ Err r → a ≡ b → n ≡ number_of r
    → (n ≡ read_code b) × (old ≡ numbers_after old b)
read-refused old n r a b w e f = (f ∙ ap read_code (sym w ∙ e), ap (numbers_after old) (sym w ∙ e))

-- ---- a peer's numbers one by one

-- the elements of a list from a place on, k of them
abbrev listed : ℕ → ℕ → List ℕ → List ℕ
listed zero i l = []
listed (suc k) i l = get_or l i 0 ∷ listed k (suc i) l

listed-rest : (k i : ℕ) (l : List ℕ) → i + k ≡ length l → listed k i l ≡ drop i l
listed-rest zero i l e = let h : length l ≤ i = omega arith in sym (drop_of_length-le l h)
listed-rest (suc k) i l e = rw (listed-rest k (suc i) l (omega arith)) (sym (drop-cons l i 0 (omega arith)))

pub peer-told : (s : List ℕ) (p : Span) (w : Walked) → w ≡ walked_of s p
    → (w.id.at ∷ w.id.end ∷ w.connection ∷ w.count ∷ listed 16 0 w.places) ≡ told_at s p
unfolding walked_of
peer-told s p w e = rw (e, listed-rest 16 0 (places_of (addresses_at s p)) (sym (places-length (addresses_at s p))))

-- A slot with another mark of doubt: what it says then, and that the order closing up leaves the marks of doubt. Assumes nothing.
use Prim.Native.Nat.{ℕ, ◌-◌}
use mathlib.Core.Path.{◌≡◌, ap, ◌∙◌}
use mathlib.Core.Logic.{⊎_elim}
use mathlib.Core.List.{List}
use native.Mathlib.Omega.{arith}
use lib.ListN.{length, get_or, take, length-set}
use lib.Seq.{drop-set-lt, get_or-set_same, get_or-set_other}
use Rattle.contacts.specs.Table.{slot_size, mark, doubt, place}
use Rattle.contact_order.specs.Order.{with_mark, with_doubt, lowered}
use Rattle.contact_order.proofs.Closing.{lowered_is}

-- every byte but byte 1 stays
pub doubt-byte : (d : ℕ) (s : List ℕ) (k : ℕ) → (k ≡ 1 → ⊥) → get_or (with_doubt d s) k 0 ≡ get_or s k 0
unfolding with_doubt
doubt-byte d s k ne = get_or-set_other s 1 k d 0 ne

module _ (d : ℕ) (s : List ℕ) where
  pub doubt-long : length (with_doubt d s) ≡ length s
  unfolding with_doubt
  doubt-long = length-set s 1 d

  pub place-doubt : place (with_doubt d s) ≡ place s
  unfolding place with_doubt
  place-doubt = ap (take 32) (drop-set-lt 8 s 1 d (omega arith))

  pub mark-doubt : mark (with_doubt d s) ≡ mark s
  unfolding mark
  mark-doubt = doubt-byte d s 0 (λ e. no e)
    where
      no : ◌≡◌ {A = ℕ} 0 1 → ⊥
      no e = omega arith

  pub doubt-doubt : length s ≡ slot_size → doubt (with_doubt d s) ≡ d
  unfolding doubt with_doubt
  doubt-doubt h = get_or-set_same s 1 d 0 (omega arith)

pub doubt-mark : (m : ℕ) (s : List ℕ) → doubt (with_mark m s) ≡ doubt s
unfolding doubt with_mark
doubt-mark m s = get_or-set_other s 0 1 m 0 (λ e. no e)
  where
    no : ◌≡◌ {A = ℕ} 1 0 → ⊥
    no e = omega arith

pub lowered-doubt : (o : List ℕ) (b m : ℕ) (s : List ℕ) → doubt (lowered o b m s) ≡ doubt s
lowered-doubt o b m s = ⊎_elim (λ e. ap doubt e) (λ e. ap doubt e ∙ doubt-mark (mark s - 1) s) (lowered_is o b m s)

-- A peer as the bytes of a slot: how many they are, and that five stores write them. Assumes nothing.
use Prim.Native.Nat.{ℕ, ◌+◌}
use mathlib.Core.Path.{◌≡◌, refl, sym, ap, ◌∙◌}
use mathlib.Core.List.{List, [], ◌∷◌, ◌++◌}
use native.Mathlib.Omega.{arith}
use lib.ListN.{length, length-append}
use lib.Seq.{sets}
use Rattle.octets.proofs.Stores.{sets-append}
use Rattle.limits.specs.Limits.{addresses_size}
use Rattle.contact_table.specs.Table.{sizes_at, place_at, id_at, addresses_at, slot_size}
use Rattle.peer.specs.declared.Peer.{Peer}
use Rattle.peer.specs.Peers.{contact_bytes}

-- a run of stores goes on
chain : (t u : List ℕ) (k a : ℕ) (x rest : List ℕ) → u ≡ sets t k x → a ≡ k + length x → sets u a rest ≡ sets t k (x ++ rest)
chain t u k a x rest e g = ap (λ (y : List ℕ). sets y a rest) e ∙ ap (λ (y : ℕ). sets (sets t k x) y rest) g ∙ sym (sets-append t k x rest)

module _ (m : ℕ) (p : Peer) (hl : length p.lens ≡ 4) (hp : length p.place ≡ 32) (hi : length p.id ≡ 64) where
  pub bytes-length : length p.addrs ≡ addresses_size → length (contact_bytes m p) ≡ slot_size
  unfolding contact_bytes
  bytes-length ha =
      omega (arith, length-append p.lens (p.place ++ (p.id ++ p.addrs)), length-append p.place (p.id ++ p.addrs), length-append p.id p.addrs, hl, hp, hi, ha)

  pub bytes-stored : (t : List ℕ) (at : ℕ) (t1 t2 t3 t4 t5 : List ℕ)
      → t1 ≡ sets t at (m ∷ 0 ∷ p.size ∷ p.count ∷ [])
      → t2 ≡ sets t1 (at + sizes_at) p.lens
      → t3 ≡ sets t2 (at + place_at) p.place
      → t4 ≡ sets t3 (at + id_at) p.id
      → t5 ≡ sets t4 (at + addresses_at) p.addrs → t5 ≡ sets t at (contact_bytes m p)
  unfolding contact_bytes
  bytes-stored t at t1 t2 t3 t4 t5 e1 e2 e3 e4 e5 =
      e5 ∙ chain t3 t4 (at + id_at) (at + addresses_at) p.id p.addrs e4 (omega arith)
      ∙ chain t2 t3 (at + place_at) (at + id_at) p.place (p.id ++ p.addrs) e3 (omega arith)
      ∙ chain t1 t2 (at + sizes_at) (at + place_at) p.lens (p.place ++ (p.id ++ p.addrs)) e2 (omega arith)
      ∙ chain t t1 at (at + sizes_at) (m ∷ 0 ∷ p.size ∷ p.count ∷ []) (p.lens ++ (p.place ++ (p.id ++ p.addrs))) e1 refl

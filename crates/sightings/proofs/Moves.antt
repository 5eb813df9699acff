-- Laws of what moves in the table, and that the code's stores are these moves. Assumes nothing.
use Prim.Native.Nat.{ℕ, suc, ◌+◌, ◌*◌, ◌<◌}
use mathlib.Core.Path.{◌≡◌, sym, ap, ◌∙◌}
use mathlib.Core.List.{List, [], ◌∷◌}
use native.Mathlib.Omega.{arith}
use lib.Dec.{eqb}
use lib.ListN.{length, set, length-set, replicate, length-replicate}
use lib.Seq.{sets, length-sets}
use borrow.Author.Tests.{eq-eqb, ne_eqb}
use Rattle.octets.proofs.Bools.{cond_yes, cond_no}
use Rattle.place.specs.Place.{bucket_of}
use Rattle.contacts.specs.Table.{slot_size, slots_of, slot, put_slot, place}
use Rattle.peer.specs.declared.Peer.{Peer}
use Rattle.peer.proofs.Slot.{bytes-stored}
use Rattle.contact_order.specs.Order.{free_at, tail_of, with_mark, with_doubt, leave}
use Rattle.sightings.specs.Order.{contact_bytes, free_bytes, with_addresses, renewed, tailed, move_to_tail, move_and_renew, dropped, join_at, join, doubt_at}
use Rattle.contact_order.proofs.Closing.{put-mark, put-doubt, leave-slots, leave-length, leave-self, leave-in}
use Rattle.contact_order.proofs.Slots.{slot-long, length-put, slots-put, slot-put, put-put, put-sets}

-- ---- to a bucket's tail
module _ (t o : List ℕ) (i : ℕ) (l : i < slots_of t) where
  pub tailed-long : length (tailed t o i) ≡ slot_size
  unfolding tailed with_mark with_doubt
  tailed-long =
      length-set (set (slot t i) 0 (tail_of t o (bucket_of (place (slot t i)) o))) 1 0 ∙ length-set (slot t i) 0 (tail_of t o (bucket_of (place (slot t i)) o)) ∙ slot-long t i l

  -- the new mark alone
  last : List ℕ
  last = with_mark (tail_of t o (bucket_of (place (slot t i)) o)) (slot t i)

  last-long : length last ≡ slot_size
  unfolding last with_mark
  last-long = length-set (slot t i) 0 (tail_of t o (bucket_of (place (slot t i)) o)) ∙ slot-long t i l

  at_last : (b k : ℕ) (u : List ℕ) → b ≡ bucket_of (place (slot t i)) o → k ≡ tail_of t o b → u ≡ leave t o i → set u (i * slot_size) k ≡ put_slot (leave t o i) i last
  unfolding last
  at_last b k u e g h =
      ap (λ (x : List ℕ). set x (i * slot_size) k) h ∙ put-mark (leave t o i) i k (leave-in t o i l)
      ∙ ap (λ (x : List ℕ). put_slot (leave t o i) i (with_mark k x)) (leave-self t o i l)
      ∙ ap (λ (x : ℕ). put_slot (leave t o i) i (with_mark x (slot t i))) (g ∙ ap (tail_of t o) e)

  pub move-done : (b k : ℕ) (u : List ℕ) → b ≡ bucket_of (place (slot t i)) o → k ≡ tail_of t o b → u ≡ leave t o i → set (set u (i * slot_size) k) (i * slot_size + 1) 0 ≡ move_to_tail t o i
  unfolding move_to_tail tailed last with_doubt
  move-done b k u e g h =
      let v : List ℕ = put_slot (leave t o i) i last in
      let lv : i < slots_of v = rw (slots-put (leave t o i) i last) (leave-in t o i l) in
      ap (λ (x : List ℕ). set x (i * slot_size + 1) 0) (at_last b k u e g h) ∙ put-doubt v i 0 lv
      ∙ ap (λ (x : List ℕ). put_slot v i (with_doubt 0 x)) (slot-put (leave t o i) i last (leave-in t o i l) last-long)
      ∙ put-put (leave t o i) i last (leave-in t o i l) last-long (with_doubt 0 last) (length-set last 1 0 ∙ last-long)

  pub move-slots : slots_of (move_to_tail t o i) ≡ slots_of t
  unfolding move_to_tail
  move-slots = slots-put (leave t o i) i (tailed t o i) ∙ leave-slots t o i

  pub move-length : length (move_to_tail t o i) ≡ length t
  unfolding move_to_tail
  move-length = length-put (leave t o i) i (tailed t o i) ∙ leave-length t o i

  module _ (p : Peer) where
    pub renew-none : (u : List ℕ) → p.count ≡ 0 → u ≡ move_to_tail t o i → u ≡ move_and_renew t o i p
    unfolding move_to_tail move_and_renew renewed
    renew-none u z h = h ∙ sym (ap (put_slot (leave t o i) i) (cond_yes (eqb p.count 0) _ _ (eq-eqb p.count 0 z)))

    pub renew-some : (u v : List ℕ) → (p.count ≡ 0 → ⊥) → u ≡ move_to_tail t o i → v ≡ put_slot u i (with_addresses p (slot u i)) → v ≡ move_and_renew t o i p
    unfolding move_to_tail move_and_renew renewed with_addresses
    renew-some u v z h g =
        g ∙ ap (λ (x : List ℕ). put_slot x i (with_addresses p (slot x i))) h
        ∙ ap (λ (x : List ℕ). put_slot (put_slot (leave t o i) i (tailed t o i)) i (with_addresses p x)) (slot-put (leave t o i) i (tailed t o i) (leave-in t o i l) tailed-long)
        ∙ put-put (leave t o i) i (tailed t o i) (leave-in t o i l) tailed-long (with_addresses p (tailed t o i))
        (length-sets _ 104 p.addrs ∙ length-sets (tailed t o i) 3 (p.count ∷ p.lens) ∙ tailed-long)
        ∙ sym (ap (put_slot (leave t o i) i) (cond_no (eqb p.count 0) _ _ (ne_eqb p.count 0 z)))

-- ---- a slot written
pub free-long : length free_bytes ≡ slot_size
unfolding free_bytes
free-long = length-replicate {A = ℕ} slot_size 0

pub clear-done : (t : List ℕ) (i : ℕ) (u : List ℕ) → u ≡ sets t (i * slot_size) (replicate slot_size 0) → u ≡ put_slot t i free_bytes
unfolding put_slot free_bytes
clear-done t i u e = e

pub drop-done : (t o : List ℕ) (i : ℕ) (u v : List ℕ) → u ≡ leave t o i → v ≡ put_slot u i free_bytes → v ≡ dropped t o i
unfolding dropped
drop-done t o i u v e g = g ∙ ap (λ (x : List ℕ). put_slot x i free_bytes) e

-- ---- a mark of doubt written
pub doubt-done : (t : List ℕ) (i : ℕ) → i < slots_of t → set t (i * slot_size + 1) 1 ≡ doubt_at t i
unfolding doubt_at
doubt-done t i l = put-doubt t i 1 l

pub write_done : (t : List ℕ) (at i m : ℕ) (p : Peer) (t1 t2 t3 t4 t5 : List ℕ) → at ≡ i * slot_size
    → length p.lens ≡ 4 → length p.place ≡ 32 → length p.id ≡ 64
    → t1 ≡ sets t at (m ∷ 0 ∷ p.size ∷ p.count ∷ [])
    → t2 ≡ sets t1 (at + 4) p.lens
    → t3 ≡ sets t2 (at + 8) p.place
    → t4 ≡ sets t3 (at + 40) p.id
    → t5 ≡ sets t4 (at + 104) p.addrs → t5 ≡ put_slot t i (contact_bytes m p)
unfolding put_slot
write_done t at i m p t1 t2 t3 t4 t5 ea hl hp hi e1 e2 e3 e4 e5 =
    bytes-stored m p hl hp hi t at t1 t2 t3 t4 t5 e1 e2 e3 e4 e5 ∙ ap (λ (k : ℕ). sets t k (contact_bytes m p)) ea

-- addresses: two runs within a slot
pub addresses-done : (t : List ℕ) (i : ℕ) (p : Peer) (u v : List ℕ) → i < slots_of t → length p.lens ≡ 4 → length p.addrs ≡ 512
    → u ≡ sets (set t (i * slot_size + 3) p.count) (i * slot_size + 4) p.lens → v ≡ sets u (i * slot_size + 104) p.addrs → v ≡ put_slot t i (with_addresses p (slot t i))
unfolding with_addresses
addresses-done t i p u v l hl ha e g =
    let s1 : List ℕ = sets (slot t i) 3 (p.count ∷ p.lens) in
    let ls : length s1 ≡ slot_size = length-sets (slot t i) 3 (p.count ∷ p.lens) ∙ slot-long t i l in
    let k : suc (i * slot_size + 3) ≡ i * slot_size + 4 = omega arith in
    let u1 : sets t (i * slot_size + 3) (p.count ∷ p.lens) ≡ u = ap (λ (x : ℕ). sets (set t (i * slot_size + 3) p.count) x p.lens) k ∙ sym e in
    let u2 : put_slot t i s1 ≡ u = put-sets t i 3 (p.count ∷ p.lens) l (omega arith) ∙ u1 in
    let su : slot (put_slot t i s1) i ≡ s1 = slot-put t i s1 l ls in
    let lu : i < slots_of (put_slot t i s1) = rw (slots-put t i s1) l in
    g ∙ ap (λ (x : List ℕ). sets x (i * slot_size + 104) p.addrs) (sym u2) ∙ sym (put-sets (put_slot t i s1) i 104 p.addrs lu (omega arith))
    ∙ ap (λ (x : List ℕ). put_slot (put_slot t i s1) i (sets x 104 p.addrs)) su
    ∙ put-put t i s1 l ls (sets s1 104 p.addrs) (length-sets s1 104 p.addrs ∙ ls)

pub addresses-same : (t : List ℕ) (i : ℕ) (p : Peer) (u v : List ℕ) → u ≡ sets (set t (i * slot_size + 3) p.count) (i * slot_size + 4) p.lens → v ≡ sets u (i * slot_size + 104) p.addrs
    → length v ≡ length t
addresses-same t i p u v e g =
    ap length g ∙ length-sets u (i * slot_size + 104) p.addrs ∙ ap length e ∙ length-sets (set t (i * slot_size + 3) p.count) (i * slot_size + 4) p.lens ∙ length-set t (i * slot_size + 3) p.count

pub join-at-done : (t o : List ℕ) (p : Peer) (b k i : ℕ) (u : List ℕ) → b ≡ bucket_of p.place o → k ≡ tail_of t o b → u ≡ put_slot t i (contact_bytes (k + 1) p) → u ≡ join_at t o i p
unfolding join_at
join-at-done t o p b k i u e g h = h ∙ ap (λ (x : ℕ). put_slot t i (contact_bytes (x + 1) p)) (g ∙ ap (tail_of t o) e)

pub join-done : (t o : List ℕ) (p : Peer) (b k i : ℕ) (u : List ℕ) → b ≡ bucket_of p.place o → k ≡ tail_of t o b → i ≡ free_at t → u ≡ put_slot t i (contact_bytes (k + 1) p) → u ≡ join t o p
unfolding join
join-done t o p b k i u e g f h = join-at-done t o p b k i u e g h ∙ ap (λ (x : ℕ). join_at t o x p) f

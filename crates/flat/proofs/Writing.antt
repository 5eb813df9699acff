-- What the code writes, one run after another, is what the definitions say. Assumes nothing.
use Prim.Native.Nat.{ℕ, ◌+◌, ◌/◌, ◌%◌}
use mathlib.Core.Path.{◌≡◌, refl, sym, ap, ◌∙◌}
use mathlib.Core.List.{List, [], ◌∷◌, ◌++◌}
use native.Mathlib.Omega.{arith}
use lib.ListN.{length, replicate, length-append}
use lib.Seq.{sets}
use Rattle.octets.proofs.Stores.{sets-append}
use Rattle.peer.specs.declared.Peer.{Peer}
use Rattle.peer.proofs.Slot.{bytes-length, bytes-stored}
use Rattle.stream.specs.declared.Held.{Held}
use Rattle.stream.specs.declared.Held.TheVariants.{Nothing, One, Two}
use Rattle.stream.specs.declared.Framing.{Framing}
use Rattle.stream.specs.declared.Framing.TheVariants.{Shut, Prefix, Body}
use Rattle.connections.specs.declared.Conn.{Conn}
use Rattle.flat.specs.Flat.{peer_size, server_at, framing_at, rest_at, conn_size, peer_bytes, eight_bytes, prefix_bytes, framing_bytes, bit, conn_bytes, with_framing}
use Rattle.flat.specs.Promises.{Whole}

-- ---- a peer
pub peer-written : (t : List ℕ) (p : Peer) (t1 t2 t3 t4 t5 : List ℕ) → Whole p
    → t1 ≡ sets t 0 (1 ∷ 0 ∷ p.size ∷ p.count ∷ []) → t2 ≡ sets t1 4 p.lens → t3 ≡ sets t2 8 p.place → t4 ≡ sets t3 40 p.id → t5 ≡ sets t4 104 p.addrs
    → t5 ≡ sets t 0 (peer_bytes p)
peer-written t p t1 t2 t3 t4 t5 w e1 e2 e3 e4 e5 = bytes-stored 1 p w.lens w.place w.id t 0 t1 t2 t3 t4 t5 e1 e2 e3 e4 e5

pub length-peer : (p : Peer) → Whole p → length (peer_bytes p) ≡ peer_size
length-peer p w = bytes-length 1 p w.lens w.place w.id w.addrs

-- ---- a framing
pub eight-written : (kind held a b want have w x h y : ℕ) → w ≡ want % 256 → x ≡ want / 256 % 256 → h ≡ have % 256 → y ≡ have / 256 % 256
    → ◌≡◌ {A = List ℕ} (kind ∷ held ∷ a ∷ b ∷ w ∷ x ∷ h ∷ y ∷ []) (eight_bytes kind held a b want have)
eight-written kind held a b want have w x h y ew ex eh ey = rw (ew, ex, eh, ey)

module _ (h : Held) (s : List ℕ) where
  pub nothing_written : h ≡ Nothing → s ≡ eight_bytes 1 0 0 0 0 0 → s ≡ prefix_bytes h
  nothing_written e q = q ∙ sym (ap prefix_bytes e)

  pub one_written : (a : ℕ) → h ≡ One a → s ≡ eight_bytes 1 1 a 0 0 0 → s ≡ prefix_bytes h
  one_written a e q = q ∙ sym (ap prefix_bytes e)

  pub two-written : (a b : ℕ) → h ≡ Two a b → s ≡ eight_bytes 1 2 a b 0 0 → s ≡ prefix_bytes h
  two-written a b e q = q ∙ sym (ap prefix_bytes e)

module _ (f : Framing) (s : List ℕ) where
  pub shut-written : f ≡ Shut → s ≡ eight_bytes 0 0 0 0 0 0 → s ≡ framing_bytes f
  shut-written e q = q ∙ sym (ap framing_bytes e)

  pub body-written : (want have : ℕ) → f ≡ Body want have → s ≡ eight_bytes 2 0 0 0 want have → s ≡ framing_bytes f
  body-written want have e q = q ∙ sym (ap framing_bytes e)

pub length-framing : (f : Framing) → length (framing_bytes f) ≡ 8
length-framing Shut = refl
length-framing (Prefix Nothing) = refl
length-framing (Prefix (One a)) = refl
length-framing (Prefix (Two a b)) = refl
length-framing (Body want have) = refl

pub framing-written : (t u s : List ℕ) (f : Framing) → s ≡ framing_bytes f → u ≡ sets t framing_at s → u ≡ with_framing t f
framing-written t u s f e q = q ∙ ap (sets t framing_at) e

-- ---- a connection
-- a run of stores, and another that follows it
follows : (t u : List ℕ) (k a : ℕ) (x rest : List ℕ) → u ≡ sets t k x → a ≡ k + length x → sets u a rest ≡ sets t k (x ++ rest)
follows t u k a x rest e g =
    ap (λ (l : List ℕ). sets l a rest) e ∙ ap (λ (n : ℕ). sets (sets t k x) n rest) g ∙ sym (sets-append t k x rest)

pub conn-written : (t t1 t2 t3 t4 : List ℕ) (c : Conn) (x y : ℕ) → Whole c.peer → x ≡ bit c.server → y ≡ bit c.asking
    → t1 ≡ sets t 0 (peer_bytes c.peer) → t2 ≡ sets t1 server_at (x ∷ y ∷ []) → t3 ≡ with_framing t2 c.framing → t4 ≡ sets t3 rest_at (replicate 14 0)
    → t4 ≡ sets t 0 (conn_bytes c)
unfolding conn_bytes
conn-written t t1 t2 t3 t4 c x y w ex ey e1 e2 e3 e4 =
    let fs : List ℕ = framing_bytes c.framing in
    let rest : List ℕ = fs ++ replicate 14 0 in
    let bits : List ℕ = bit c.server ∷ bit c.asking ∷ [] in
    let e2' : t2 ≡ sets t1 server_at bits = e2 ∙ rw (ex, ey) in
    e4 ∙ follows t2 t3 framing_at rest_at fs (replicate 14 0) e3 (omega (arith, length-framing c.framing))
    ∙ follows t1 t2 server_at framing_at bits rest e2' refl
    ∙ follows t t1 0 peer_size (peer_bytes c.peer) (bits ++ rest) e1 (omega (arith, length-peer c.peer w))

pub length-conn : (c : Conn) → Whole c.peer → length (conn_bytes c) ≡ conn_size
unfolding conn_bytes
length-conn c w =
    let fs : List ℕ = framing_bytes c.framing in
    omega (
      arith,
      length-append (peer_bytes c.peer) (bit c.server ∷ bit c.asking ∷ fs ++ replicate 14 0),
      length-peer c.peer w,
      length-append fs (replicate 14 0),
      length-framing c.framing,
    )

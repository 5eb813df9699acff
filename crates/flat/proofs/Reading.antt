-- The tests of the code pick the cases of a framing, and what it reads makes up a peer and a connection. Assumes nothing.
use Prim.Native.Nat.{ℕ, ◌+◌, ◌*◌, ◌-◌, ◌<◌, ◌≤◌}
use mathlib.Core.Path.{◌≡◌, sym, ap, ◌∙◌}
use mathlib.Core.Bool.{Bool}
use mathlib.Core.List.{List}
use native.Mathlib.Numerals.{add-one}
use native.Mathlib.Omega.{arith}
use lib.Dec.{eqb}
use lib.ListN.{length, get_or, drop, replicate, length-drop, drop_of_length-le}
use lib.Seq.{sets, take_all, get_or-drop}
use borrow.Author.Tests.{eq-eqb, ne_eqb}
use Rattle.octets.proofs.Bools.{cond_yes, cond_no}
use Rattle.octets.specs.Octets.{part}
use Rattle.peer.specs.declared.Peer.{Peer}
use Rattle.peer.proofs.Rooms.{sets-zeros}
use Rattle.stream.specs.declared.Held.TheVariants.{Nothing, One, Two}
use Rattle.stream.specs.declared.Framing.{Framing}
use Rattle.stream.specs.declared.Framing.TheVariants.{Shut, Prefix, Body}
use Rattle.connections.specs.declared.Conn.{Conn}
use Rattle.flat.specs.Flat.{server_at, asking_at, framing_at, field, peer_in, unread, prefix_of, framing_of, pair_at, framing_in, says_yes, conn_in}

-- ---- bytes
pub pair_read : (s : List ℕ) (at low high : ℕ) → low ≡ get_or s at 0 → high ≡ get_or s (at + 1) 0 → low + high * 256 ≡ pair_at s at
pair_read s at low high e g = rw (e, g, add-one at)

pub fill_none : (f s : List ℕ) (at : ℕ) → length s < at → f ≡ sets f 0 (drop at s)
fill_none f s at l = let q : length s ≤ at = omega arith in rw (drop_of_length-le s q)

pub fill-some : (f s g : List ℕ) (at n : ℕ) → at ≤ length s → n ≡ length s → g ≡ sets f 0 (part s at n) → g ≡ sets f 0 (drop at s)
fill-some f s g at n l q e = e ∙ ap (sets f 0) (take_all (n - at) (drop at s) (simp length-drop (omega arith)))

pub field-read : (a n : ℕ) (s g : List ℕ) → g ≡ sets (replicate n 0) 0 (drop a s) → g ≡ field a n s
unfolding field
field-read a n s g e = e ∙ sets-zeros n (drop a s)

-- ---- a peer, as the code leaves its parts
pub peer-read : (s addrs id place lens : List ℕ) (size count : ℕ)
    → addrs ≡ field 104 512 s → id ≡ field 40 64 s → place ≡ field 8 32 s → lens ≡ field 4 4 s → size ≡ get_or s 2 0 → count ≡ get_or s 3 0
    → ◌≡◌ {A = Peer} (record { addrs = addrs; id = id; place = place; lens = lens; size = size; count = count }) (peer_in s)
unfolding peer_in
peer-read s addrs id place lens size count a b c d e f = rw (a, b, c, d, e, f)

-- ---- a framing
module _ (held a b : ℕ) where
  pub none-held : held ≡ 0 → Prefix Nothing ≡ prefix_of held a b
  unfolding prefix_of
  none-held e = sym (cond_yes (eqb held 0) _ _ (eq-eqb _ _ e))

  module _ (n0 : held ≡ 0 → ⊥) where
    pub one-held : held ≡ 1 → Prefix (One a) ≡ prefix_of held a b
    unfolding prefix_of
    one-held e = sym (cond_no (eqb held 0) _ _ (ne_eqb _ _ n0) ∙ cond_yes (eqb held 1) _ _ (eq-eqb _ _ e))

    module _ (n1 : held ≡ 1 → ⊥) where
      pub two-held : held ≡ 2 → Prefix (Two a b) ≡ prefix_of held a b
      unfolding prefix_of
      two-held e = sym (cond_no (eqb held 0) _ _ (ne_eqb _ _ n0) ∙ cond_no (eqb held 1) _ _ (ne_eqb _ _ n1) ∙ cond_yes (eqb held 2) _ _ (eq-eqb _ _ e))

      pub too-many-held : (f : Framing) → f ≡ unread → (held ≡ 2 → ⊥) → f ≡ prefix_of held a b
      unfolding prefix_of
      too-many-held f q n2 =
          q ∙ sym (cond_no (eqb held 0) _ _ (ne_eqb _ _ n0) ∙ cond_no (eqb held 1) _ _ (ne_eqb _ _ n1) ∙ cond_no (eqb held 2) _ _ (ne_eqb _ _ n2))

module _ (kind held a b want have : ℕ) where
  pub kind-shut : kind ≡ 0 → Shut ≡ framing_of kind held a b want have
  unfolding framing_of
  kind-shut e = sym (cond_yes (eqb kind 0) _ _ (eq-eqb _ _ e))

  module _ (n0 : kind ≡ 0 → ⊥) where
    pub kind-prefix : (f : Framing) → f ≡ prefix_of held a b → kind ≡ 1 → f ≡ framing_of kind held a b want have
    unfolding framing_of
    kind-prefix f q e = q ∙ sym (cond_no (eqb kind 0) _ _ (ne_eqb _ _ n0) ∙ cond_yes (eqb kind 1) _ _ (eq-eqb _ _ e))

    module _ (n1 : kind ≡ 1 → ⊥) where
      pub kind-body : kind ≡ 2 → Body want have ≡ framing_of kind held a b want have
      unfolding framing_of
      kind-body e = sym (cond_no (eqb kind 0) _ _ (ne_eqb _ _ n0) ∙ cond_no (eqb kind 1) _ _ (ne_eqb _ _ n1) ∙ cond_yes (eqb kind 2) _ _ (eq-eqb _ _ e))

      pub kind-other : (f : Framing) → f ≡ unread → (kind ≡ 2 → ⊥) → f ≡ framing_of kind held a b want have
      unfolding framing_of
      kind-other f q n2 =
          q ∙ sym (cond_no (eqb kind 0) _ _ (ne_eqb _ _ n0) ∙ cond_no (eqb kind 1) _ _ (ne_eqb _ _ n1) ∙ cond_no (eqb kind 2) _ _ (ne_eqb _ _ n2))

pub framing-read : (s : List ℕ) (f : Framing) (kind held a b want have : ℕ) → f ≡ framing_of kind held a b want have
    → kind ≡ get_or s framing_at 0 → held ≡ get_or s 619 0 → a ≡ get_or s 620 0 → b ≡ get_or s 621 0 → want ≡ pair_at s 622 → have ≡ pair_at s 624
    → f ≡ framing_in (drop framing_at s)
unfolding framing_in
framing-read s f kind held a b want have e e0 e1 e2 e3 e4 e6 =
    e ∙ rw (
      e0,
      e1,
      e2,
      e3,
      e4,
      e6,
      get_or-drop framing_at s 0 0,
      get_or-drop framing_at s 1 0,
      get_or-drop framing_at s 2 0,
      get_or-drop framing_at s 3 0,
      get_or-drop framing_at s 4 0,
      get_or-drop framing_at s 5 0,
      get_or-drop framing_at s 6 0,
      get_or-drop framing_at s 7 0,
    )

-- ---- a connection
pub conn-read : (s : List ℕ) (p : Peer) (f : Framing) (server asking : Bool) (x y : ℕ) → p ≡ peer_in s → f ≡ framing_in (drop framing_at s)
    → x ≡ get_or s server_at 0 → server ≡ says_yes x → y ≡ get_or s asking_at 0 → asking ≡ says_yes y
    → ◌≡◌ {A = Conn} (record { peer = p; framing = f; server = server; asking = asking }) (conn_in s)
unfolding conn_in
conn-read s p f server asking x y ep ef ex es ey ea = rw (ep, ef, es, ex, ea, ey)

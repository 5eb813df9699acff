-- What is written reads back, and reading looks no further than what is written. Assumes nothing.
use Prim.Native.Nat.{ℕ, ◌+◌, ◌*◌, ◌-◌, ◌/◌, ◌%◌, ◌<◌, ◌≤◌}
use mathlib.Core.Path.{◌≡◌, refl, sym, ap, ap₂, ◌∙◌}
use mathlib.Core.Bool.{Bool, true, false}
use mathlib.Core.List.{List, [], ◌∷◌, ◌++◌, append_assoc, append-nil}
use native.Mathlib.Omega.{arith}
use lib.ListN.{length, get_or, take, drop, replicate, length-append, length-take}
use lib.Seq.{sets, sets-eq, take_at, take-take, drop_at, drop-drop, get_or-take, get_or-drop, get_or-append-add, length-take-le}
use Rattle.octets.proofs.Parts.{part-part}
use Rattle.octets.proofs.Stores.{take-sets, get_d_sets_before}
use Rattle.peer.specs.Addresses.{padded}
use Rattle.peer.specs.declared.Peer.{Peer}
use Rattle.peer.specs.Peers.{contact_bytes}
use Rattle.stream.specs.declared.Held.TheVariants.{Nothing, One, Two}
use Rattle.stream.specs.declared.Framing.{Framing}
use Rattle.stream.specs.declared.Framing.TheVariants.{Shut, Prefix, Body}
use Rattle.stream.specs.Stream.{in_form}
use Rattle.stream.proofs.Steps.{body-short, body-small}
use Rattle.connections.specs.declared.Conn.{Conn}
use Rattle.connections.specs.Box as box
use Rattle.flat.specs.Flat.{peer_size, server_at, asking_at, framing_at, conn_size, field, peer_in, unread, prefix_of, framing_of, pair_at, framing_in, says_yes, conn_in, peer_bytes, framing_bytes, bit, conn_bytes, with_framing}
use Rattle.flat.specs.Promises.{Whole, Sizes, ReadsBack, ReadsBackLent, LooksNoFurther, NoFraming}
use Rattle.flat.proofs.Reading.{peer-read, too-many-held, kind-prefix, kind-other, conn-read}
use Rattle.flat.proofs.Writing.{length-peer, length-framing, length-conn}

-- ---- lists that stand one after the other
skip : (x y : List ℕ) (n a : ℕ) → length x ≡ n → drop (n + a) (x ++ y) ≡ drop a y
skip x y n a h = sym (drop-drop a n (x ++ y)) ∙ ap (drop a) (drop_at x y n h)

at-add : (x y : List ℕ) (n i : ℕ) → length x ≡ n → get_or (x ++ y) (n + i) 0 ≡ get_or y i 0
at-add x y n i h = ap (λ (k : ℕ). get_or (x ++ y) (k + i) 0) (sym h) ∙ get_or-append-add x y i 0

padded-at : (n : ℕ) (x rest : List ℕ) → length x ≡ n → padded n (x ++ rest) ≡ x
unfolding padded
padded-at n x rest h =
    let z : n - length (x ++ rest) ≡ 0 = omega (arith, length-append x rest) in
    rw (z, take_at x rest n h) (append-nil x)

padded-take : (n : ℕ) (s : List ℕ) → padded n (take n s) ≡ padded n s
unfolding padded
padded-take n s =
    let e : n - length (take n s) ≡ n - length s = omega (arith, length-take n s) in
    rw (e, take-take n n s (omega arith))

-- ---- reading looks no further
field-within : (a n m : ℕ) (s : List ℕ) → a + n ≤ m → field a n (take m s) ≡ field a n s
unfolding field
field-within a n m s l = sym (padded-take n (drop a (take m s))) ∙ ap (padded n) within ∙ padded-take n (drop a s)
  where
    within : take n (drop a (take m s)) ≡ take n (drop a s)
    within =
        let e : a + n - a ≡ n = omega arith in
        let z : m - 0 ≡ m = omega arith in
        let y : 0 + a ≡ a = omega arith in
        let x : 0 + (a + n) ≡ a + n = omega arith in
        rw (x, y, z, e) at (part-part s 0 m a (a + n) (omega arith))

peer-within : (m : ℕ) (s : List ℕ) → peer_size ≤ m → peer_in (take m s) ≡ peer_in s
unfolding peer_in
peer-within m s l =
    rw (
      field-within 104 512 m s (omega arith),
      field-within 40 64 m s (omega arith),
      field-within 8 32 m s (omega arith),
      field-within 4 4 m s (omega arith),
      get_or-take m s 2 0 (omega arith),
      get_or-take m s 3 0 (omega arith),
    )

framing-same : (s t : List ℕ) → ((i : ℕ) → i < 8 → get_or s i 0 ≡ get_or t i 0) → framing_in s ≡ framing_in t
unfolding framing_in
framing-same s t h =
    rw (h 0 (omega arith), h 1 (omega arith), h 2 (omega arith), h 3 (omega arith), h 4 (omega arith), h 5 (omega arith), h 6 (omega arith), h 7 (omega arith))

framing-within : (s : List ℕ) → framing_in (drop framing_at (take conn_size s)) ≡ framing_in (drop framing_at s)
framing-within s = framing-same (drop framing_at (take conn_size s)) (drop framing_at s) (λ i l. each i l)
  where
    each : (i : ℕ) → i < 8 → get_or (drop framing_at (take conn_size s)) i 0 ≡ get_or (drop framing_at s) i 0
    each i l = get_or-drop framing_at (take conn_size s) i 0 ∙ get_or-take conn_size s (framing_at + i) 0 (omega arith) ∙ sym (get_or-drop framing_at s i 0)

conn-within : (s : List ℕ) → conn_in (take conn_size s) ≡ conn_in s
unfolding conn_in
conn-within s =
    rw (peer-within conn_size s (omega arith), framing-within s, get_or-take conn_size s server_at 0 (omega arith), get_or-take conn_size s asking_at 0 (omega arith))

-- ---- a peer
-- its parts, one after the other, and what follows
module _ (p : Peer) (rest : List ℕ) (w : Whole p) where
  head : List ℕ
  head = 1 ∷ 0 ∷ p.size ∷ p.count ∷ []

  from-addrs : List ℕ
  from-addrs = p.addrs ++ rest

  from-id : List ℕ
  from-id = p.id ++ from-addrs

  from_place : List ℕ
  from_place = p.place ++ from-id

  from-lens : List ℕ
  from-lens = p.lens ++ from_place

  in_a_row : peer_bytes p ++ rest ≡ head ++ from-lens
  unfolding contact_bytes head from-addrs from-id from_place from-lens
  in_a_row = rw (append_assoc p.lens (p.place ++ (p.id ++ p.addrs)) rest, append_assoc p.place (p.id ++ p.addrs) rest, append_assoc p.id p.addrs rest)

  lens-back : p.lens ≡ field 4 4 (head ++ from-lens)
  unfolding field head from-lens
  lens-back = sym (padded-at 4 p.lens from_place w.lens)

  place-back : p.place ≡ field 8 32 (head ++ from-lens)
  unfolding field head from-lens from_place
  place-back = sym (ap (padded 32) (skip head from-lens 4 4 refl ∙ drop_at p.lens from_place 4 w.lens) ∙ padded-at 32 p.place from-id w.place)

  id-back : p.id ≡ field 40 64 (head ++ from-lens)
  unfolding field head from-lens from_place from-id
  id-back =
      sym (ap (padded 64) (skip head from-lens 4 36 refl ∙ skip p.lens from_place 4 32 w.lens ∙ drop_at p.place from-id 32 w.place)
      ∙ padded-at 64 p.id from-addrs w.id)

  addrs-back : p.addrs ≡ field 104 512 (head ++ from-lens)
  unfolding field head from-lens from_place from-id from-addrs
  addrs-back =
      sym (ap (padded 512) (skip head from-lens 4 100 refl ∙ skip p.lens from_place 4 96 w.lens ∙ skip p.place from-id 32 64 w.place ∙ drop_at p.id from-addrs 64 w.id)
      ∙ padded-at 512 p.addrs rest w.addrs)

  peer-back : peer_in (peer_bytes p ++ rest) ≡ p
  unfolding head
  peer-back =
      ap peer_in in_a_row
      ∙ sym (peer-read (head ++ from-lens) p.addrs p.id p.place p.lens p.size p.count addrs-back id-back place-back lens-back refl refl)

-- ---- a framing
pair-back : (n : ℕ) → n < 65536 → n % 256 + n / 256 % 256 * 256 ≡ n
pair-back n l = omega arith

framing-back : (f : Framing) (rest : List ℕ) → in_form f ≡ true → framing_in (framing_bytes f ++ rest) ≡ f
unfolding framing_in framing_of prefix_of
framing-back Shut rest h = refl
framing-back (Prefix Nothing) rest h = refl
framing-back (Prefix (One a)) rest h = refl
framing-back (Prefix (Two a b)) rest h = refl
framing-back (Body want have) rest h =
    ap₂ Body (pair-back want (omega (arith, body-small want have h))) (pair-back have (omega (arith, body-small want have h, body-short want have h)))

-- what says no framing
no_kind : (s : List ℕ) → 2 < get_or s 0 0 → in_form (framing_in s) ≡ false
unfolding framing_in
no_kind s l =
    sym (ap in_form (kind-other (get_or s 0 0) (get_or s 1 0) (get_or s 2 0) (get_or s 3 0) (pair_at s 4) (pair_at s 6) (λ e. omega arith) (λ e. omega arith) unread refl (λ e. omega arith)))

no-held : (s : List ℕ) → get_or s 0 0 ≡ 1 → 2 < get_or s 1 0 → in_form (framing_in s) ≡ false
unfolding framing_in
no-held s e l =
    sym (ap in_form (kind-prefix (get_or s 0 0) (get_or s 1 0) (get_or s 2 0) (get_or s 3 0) (pair_at s 4) (pair_at s 6) (λ q. omega arith) unread
    (too-many-held (get_or s 1 0) (get_or s 2 0) (get_or s 3 0) (λ q. omega arith) (λ q. omega arith) unread refl (λ q. omega arith)) e))

-- ---- a connection
bit-back : (b : Bool) → b ≡ says_yes (bit b)
bit-back true = refl
bit-back false = refl

conn-back : (c : Conn) (rest : List ℕ) → Whole c.peer → in_form c.framing ≡ true → conn_in (conn_bytes c ++ rest) ≡ c
unfolding conn_bytes
conn-back c rest w h =
    ap conn_in (append_assoc ps (bit c.server ∷ bit c.asking ∷ fs ++ replicate 14 0) rest ∙ ap (λ (l : List ℕ). ps ++ (bit c.server ∷ bit c.asking ∷ l)) (append_assoc fs (replicate 14 0) rest))
    ∙ sym (conn-read (ps ++ tail) c.peer c.framing c.server c.asking (bit c.server) (bit c.asking)
    (sym (peer-back c.peer tail w)) (sym (ap framing_in (skip ps tail peer_size 2 long) ∙ framing-back c.framing (replicate 14 0 ++ rest) h))
    (sym (at-add ps tail peer_size 0 long)) (bit-back c.server) (sym (at-add ps tail peer_size 1 long)) (bit-back c.asking))
  where
    ps : List ℕ
    ps = peer_bytes c.peer

    fs : List ℕ
    fs = framing_bytes c.framing

    tail : List ℕ
    tail = bit c.server ∷ bit c.asking ∷ fs ++ (replicate 14 0 ++ rest)

    long : length ps ≡ peer_size
    long = length-peer c.peer w

-- ---- from a lent buffer
peer-lent : (s : List ℕ) (p : Peer) → peer_size ≤ length s → Whole p → peer_in (sets s 0 (peer_bytes p)) ≡ p
peer-lent s p l w =
    ap peer_in (sets-eq (peer_bytes p) s 0 (omega (arith, length-peer p w))) ∙ peer-back p (drop (0 + length (peer_bytes p)) s) w

conn-lent : (s : List ℕ) (c : Conn) → conn_size ≤ length s → Whole c.peer → in_form c.framing ≡ true → conn_in (sets s 0 (conn_bytes c)) ≡ c
conn-lent s c l w h =
    ap conn_in (sets-eq (conn_bytes c) s 0 (omega (arith, length-conn c w))) ∙ conn-back c (drop (0 + length (conn_bytes c)) s) w h

framing-lent : (s : List ℕ) (f : Framing) → conn_size ≤ length s → in_form f ≡ true → conn_in (with_framing s f) ≡ box.with_framing (conn_in s) f
unfolding conn_in
framing-lent s f l h =
    rw (same-peer, same-framing, get_d_sets_before s framing_at (framing_bytes f) server_at (omega arith), get_d_sets_before s framing_at (framing_bytes f) asking_at (omega arith))
  where
    same-peer : peer_in (with_framing s f) ≡ peer_in s
    same-peer =
        sym (peer-within peer_size (with_framing s f) (omega arith)) ∙ ap peer_in (take-sets peer_size s framing_at (framing_bytes f) (omega arith)) ∙ peer-within peer_size s (omega arith)

    after : List ℕ
    after = drop (framing_at + length (framing_bytes f)) s

    same-framing : framing_in (drop framing_at (with_framing s f)) ≡ f
    same-framing =
        ap (λ (t : List ℕ). framing_in (drop framing_at t)) (sets-eq (framing_bytes f) s framing_at (omega (arith, length-framing f)) ∙ append_assoc (take framing_at s) (framing_bytes f) after)
        ∙ ap framing_in (drop_at (take framing_at s) (framing_bytes f ++ after) framing_at (length-take-le framing_at s (omega arith))) ∙ framing-back f after h

-- ---- the promises
pub sizes : Sizes
sizes = record { peer = length-peer; framing = length-framing; conn = length-conn }

pub reads-back : ReadsBack
reads-back = record { peer = peer-back; framing = framing-back; conn = conn-back }

pub reads-back-lent : ReadsBackLent
reads-back-lent = record { peer = peer-lent; conn = conn-lent; framing = framing-lent }

pub looks-no-further : LooksNoFurther
looks-no-further = record { peer = λ s. peer-within peer_size s (omega arith); conn = conn-within }

pub no-framing : NoFraming
no-framing = record { kind = no_kind; held = no-held }

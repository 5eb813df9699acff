-- The peers of a list, counted and written one by one. Assumes nothing.
use Prim.Native.Nat.{ℕ, ◌+◌, ◌-◌, ◌*◌, ◌≤◌, ◌<◌}
use mathlib.Core.Path.{◌≡◌, refl, sym, ap, ◌∙◌}
use mathlib.Core.Logic.{◌⊎◌, inl, inr, ⊎_elim}
use mathlib.Core.List.{List, [], ◌∷◌, ◌++◌, append_assoc, append-nil}
use mathlib.Core.Bool.{Bool, true, false}
use native.Mathlib.Omega.{arith}
use lib.ListN.{length, get_or, take, drop, length-append}
use lib.Dec.{leb}
use borrow.Author.Tests.{le-leb, lt-leb, leb-true, leb-false}
use Rattle.octets.specs.Octets.{part}
use Rattle.octets.specs.Search.{every, all_of}
use Rattle.octets.proofs.Bools.{either, and-fails, all_head, all_rest}
use Rattle.octets.proofs.Searching.{every-head, every-tail}
use Rattle.limits.specs.Limits.{most_addresses, most_body}
use Rattle.wire.specs.Items.{bytes, minimal, tagged, written1, written, repeated, Put}
use Rattle.wire_put.proofs.Digits.{minimal-pos}
use Rattle.wire_put.proofs.Putting.{put-start, put_on, put_is}
use Rattle.message.specs.Message.{Peer, encode_peer}
use Rattle.pieces.specs.Writable.{peer_fits, peer_piece, peer_with}
use Rattle.pieces.proofs.Sizes.{fitting-peer}
use Rattle.pieces.proofs.Pieces.{peer-piece}
use Rattle.peer.specs.Addresses.{two, addresses_of}
use Rattle.writer.specs.Writer.{peer_size, peer_at, peers_of}
use Rattle.writer.specs.Inner.{count_of, entry_bytes, sized, pieces}
use Rattle.writer.proofs.Entries.{peers-next, peers-last}
use Rattle.std.specs.Prelude.{Some, None}

-- ---- a list of at most four, element by element
four-of : (l : List (List ℕ)) → length l ≤ 4 → take (length l) (get_or l 0 [] ∷ get_or l 1 [] ∷ get_or l 2 [] ∷ get_or l 3 [] ∷ []) ≡ l
four-of [] h = refl
four-of (a ∷ []) h = refl
four-of (a ∷ b ∷ []) h = refl
four-of (a ∷ b ∷ c ∷ []) h = refl
four-of (a ∷ b ∷ c ∷ d ∷ []) h = refl
four-of (a ∷ b ∷ c ∷ d ∷ e ∷ l) h = absurd (omega arith)

count-few : (l : List (List ℕ)) (n : ℕ) → n ≡ count_of l → n ≤ 4 → (length l ≤ 4) × (n ≡ length l)
unfolding count_of
count-few l n e h = go (leb (length l) 4) refl
  where
    go : (t : Bool) → leb (length l) 4 ≡ t → (length l ≤ 4) × (n ≡ length l)
    go true q = (leb-true _ _ q, e ∙ rw q)
    go false q = absurd (let z : n ≡ 5 = e ∙ rw q in omega arith)

count-many : (l : List (List ℕ)) (n : ℕ) → n ≡ count_of l → 4 < n → 4 < length l
unfolding count_of
count-many l n e h = go (leb (length l) 4) refl
  where
    go : (t : Bool) → leb (length l) 4 ≡ t → 4 < length l
    go true q = absurd (let z : n ≡ length l = e ∙ rw q in omega (arith, leb-true (length l) 4 q))
    go false q = leb-false _ _ q

-- ---- the first entry
module _ (s : List ℕ) (i : ℕ) (ei : i ≡ two s 0) (e : ℕ) (ee : e ≡ peer_size s) (n : ℕ) (en : n ≡ count_of (addresses_of (part s (5 + i) e))) where
  abbrev list : List ℕ
  list = part s (5 + i) e

  pub entry-many : 4 < n → (f : ℕ) → peer_piece f (peer_at s) ≡ []
  unfolding peer_piece
  entry-many h f = rw no
    where
      no : peer_fits (peer_at s) ≡ false
      no = ⊎_elim (λ t. absurd (bad (fitting-peer (peer_at s) t).few)) (λ t. t) (either (peer_fits (peer_at s)))
        where
          bad : length (peer_at s).addrs ≤ most_addresses → ⊥
          bad h₂ = omega (arith, count-many (addresses_of list) n en h, is)
            where
              is : length (addresses_of list) ≡ length (peer_at s).addrs
              is = unfold peer_at in rw (ei, ee)

  pub entry-few : n ≤ 4 → (a b c d : List ℕ) → a ≡ get_or (addresses_of list) 0 [] → b ≡ get_or (addresses_of list) 1 [] → c ≡ get_or (addresses_of list) 2 [] → d ≡ get_or (addresses_of list) 3 []
      → peer_with (part s 2 (2 + i)) n a b c d (get_or s (2 + i) 0) ≡ peer_at s
  unfolding peer_with peer_at
  entry-few h a b c d ea eb ec ed =
      let q = count-few (addresses_of list) n en h in
      rw (ea, eb, ec, ed, q.1, four-of (addresses_of list) q.0, ei, ee)

-- ---- the size of a list
piece-no : (f : ℕ) (p : Peer) → peer_fits p ≡ false → peer_piece f p ≡ []
unfolding peer_piece
piece-no f p e = rw e

-- a piece that is written has a byte
piece-some : (f : ℕ) (p : Peer) → peer_fits p ≡ true → 0 < length (peer_piece f p)
piece-some f p e = rw (peer-piece f p e) (unfold written1 tagged in omega (arith, length-append (minimal (f * 8 + 2) ++ minimal (length (encode_peer p))) (encode_peer p), length-append (minimal (f * 8 + 2)) (minimal (length (encode_peer p))), minimal-pos (f * 8 + 2)))

piece-none : (f : ℕ) (p : Peer) → length (peer_piece f p) ≡ 0 → peer_fits p ≡ false
piece-none f p e = ⊎_elim (λ t. absurd (bad (piece-some f p t))) (λ t. t) (either (peer_fits p))
  where
    bad : 0 < length (peer_piece f p) → ⊥
    bad h = omega arith

piece_is : (f : ℕ) (p : Peer) → (length (peer_piece f p) ≡ 0 → ⊥) → peer_fits p ≡ true
piece_is f p h = ⊎_elim (λ t. t) (λ t. absurd (h (ap length (piece-no f p t)))) (either (peer_fits p))

entry-bytes : (f : ℕ) (p : Peer) (l : List Peer) → entry_bytes f (p ∷ l) ≡ written1 (bytes f (encode_peer p)) ++ entry_bytes f l
unfolding entry_bytes repeated written
entry-bytes f p l = refl

module _ (f sum : ℕ) (p : Peer) (l : List Peer) where
  unfit : peer_fits p ≡ false → None ≡ sized f sum (p ∷ l)
  unfolding sized all_of every
  unfit e = rw e

  too_much : peer_fits p ≡ true → most_body < sum + length (peer_piece f p) → None ≡ sized f sum (p ∷ l)
  unfolding sized all_of
  too_much e h =
      let q = peer-piece f p e in
      let r : length (entry_bytes f (p ∷ l)) ≡ length (peer_piece f p) + length (entry_bytes f l) = rw (entry-bytes f p l, q) (length-append (written1 (bytes f (encode_peer p))) (entry_bytes f l)) in
      rw (lt-leb (sum + length (entry_bytes f (p ∷ l))) most_body (omega arith), and-fails (every peer_fits (p ∷ l)) false refl)

  one_more : peer_fits p ≡ true → sized f (sum + length (peer_piece f p)) l ≡ sized f sum (p ∷ l)
  unfolding sized all_of every
  one_more e =
      let q = peer-piece f p e in
      let r : sum + length (entry_bytes f (p ∷ l)) ≡ sum + length (peer_piece f p) + length (entry_bytes f l) = rw (entry-bytes f p l, q) (omega (arith, length-append (written1 (bytes f (encode_peer p))) (entry_bytes f l))) in
      rw (r, e)

sized-none : (f sum : ℕ) → sum ≤ most_body → Some sum ≡ sized f sum []
unfolding sized all_of every entry_bytes repeated written
sized-none f sum h = let z : sum + 0 ≡ sum = omega arith in rw (z, le-leb sum most_body h)

-- the loop that counts: what is left makes the whole of what was counted
pub record Summing (f : ℕ) (s : List ℕ) (sum at : ℕ) : Type 0 where
  pub within : at ≤ length s
  pub few : sum ≤ most_body
  pub same : sized f sum (peers_of (drop at s)) ≡ sized f 0 (peers_of s)

pub summing : (f : ℕ) (s : List ℕ) → Summing f s 0 0
summing f s = record { within = omega arith; few = omega arith; same = refl }

module _ (f : ℕ) (s : List ℕ) (sum at : ℕ) (g : Summing f s sum at) (size : ℕ) (e : size ≡ peer_size (part s at (length s))) where
  pub sum-end : length s - at < size → Some sum ≡ sized f 0 (peers_of s)
  sum-end h = sized-none f sum g.few ∙ rw (← peers-last s at size e h) g.same

  module _ (h : size ≤ length s - at) (n : ℕ) (en : n ≡ length (peer_piece f (peer_at (part s at (length s))))) where
    abbrev here : Peer
    here = peer_at (part s at (length s))

    next : peers_of (drop at s) ≡ here ∷ peers_of (drop (at + size) s)
    next = peers-next s at size e h

    pub sum-unfit : n ≡ 0 → None ≡ sized f 0 (peers_of s)
    sum-unfit z = unfit f sum here (peers_of (drop (at + size) s)) (piece-none f here (sym en ∙ z)) ∙ rw (← next) g.same

    module _ (nz : n ≡ 0 → ⊥) where
      fit : peer_fits here ≡ true
      fit = piece_is f here (λ q. nz (en ∙ q))

      pub sum_over : most_body - sum < n → None ≡ sized f 0 (peers_of s)
      sum_over l = too_much f sum here (peers_of (drop (at + size) s)) fit (omega (arith, g.few)) ∙ rw (← next) g.same

      pub sum-on : n ≤ most_body - sum → Summing f s (sum + n) (at + size)
      sum-on l =
          let y : sized f (sum + n) (peers_of (drop (at + size) s)) ≡ sized f sum (here ∷ peers_of (drop (at + size) s)) = rw en (one_more f sum here (peers_of (drop (at + size) s)) fit) in
          record {
            within = omega (arith, g.within);
            few = omega (arith, g.few);
            same = y ∙ rw (← next) g.same;
          }

-- ---- writing a list
pub record Putting (f : ℕ) (s buf₀ : List ℕ) (from : ℕ) (buf : List ℕ) (to at : ℕ) : Type 0 where
  pub within : at ≤ length s
  pub done : List ℕ
  pub put : Put buf₀ from done buf to
  pub same : done ++ pieces f (peers_of (drop at s)) ≡ pieces f (peers_of s)

pub putting : (f : ℕ) (s buf : List ℕ) (from : ℕ) → Putting f s buf from buf from 0
putting f s buf from = record { within = omega arith; done = []; put = put-start buf from; same = refl }

module _ (f : ℕ) (s buf₀ : List ℕ) (from : ℕ) (buf : List ℕ) (to at : ℕ) (g : Putting f s buf₀ from buf to at) (size : ℕ) (e : size ≡ peer_size (part s at (length s))) where
  pub put-end : length s - at < size → Put buf₀ from (pieces f (peers_of s)) buf to
  unfolding pieces
  put-end h = put_is buf₀ from g.done (pieces f (peers_of s)) buf to (sym (append-nil g.done) ∙ rw (peers-last s at size e h) at g.same) g.put

  pub put_next : size ≤ length s - at → (buf₁ : List ℕ) (r : ℕ) → Put buf to (peer_piece f (peer_at (part s at (length s)))) buf₁ r → Putting f s buf₀ from buf₁ r (at + size)
  unfolding pieces
  put_next h buf₁ r p =
      let x : List ℕ = peer_piece f (peer_at (part s at (length s))) in
      record {
        within = omega (arith, g.within);
        done = g.done ++ x;
        put = put_on buf₀ from g.done buf to x buf₁ r g.put p;
        same = append_assoc g.done x (pieces f (peers_of (drop (at + size) s))) ∙ (rw (peers-next s at size e h) at g.same);
      }

-- peers that all fit: their pieces are the entries
pub pieces_are : (f : ℕ) (l : List Peer) → every peer_fits l ≡ true → pieces f l ≡ entry_bytes f l
unfolding pieces
pieces_are f [] e = unfold entry_bytes repeated written in refl
pieces_are f (p ∷ l) e = rw (peer-piece f p (every-head peer_fits p l e), entry-bytes f p l) (ap (λ (x : List ℕ). written1 (bytes f (encode_peer p)) ++ x) (pieces_are f l (every-tail peer_fits p l e)))

-- what a size says
pub sized-is : (f : ℕ) (l : List Peer) (n : ℕ) → sized f 0 l ≡ Some n → (every peer_fits l ≡ true) × (n ≡ length (entry_bytes f l)) × (n ≤ most_body)
unfolding sized
sized-is f l n e = go (all_of (every peer_fits l ∷ leb (0 + length (entry_bytes f l)) most_body ∷ [])) refl
  where
    go : (t : Bool) → all_of (every peer_fits l ∷ leb (0 + length (entry_bytes f l)) most_body ∷ []) ≡ t → (every peer_fits l ≡ true) × (n ≡ length (entry_bytes f l)) × (n ≤ most_body)
    go true q =
        let w : Some (0 + length (entry_bytes f l)) ≡ Some n = rw q at e in
        let z : 0 + length (entry_bytes f l) ≡ n = cc in
        let m = leb-true (0 + length (entry_bytes f l)) most_body (all_head _ _ (all_rest _ _ q)) in
        (all_head _ _ q, omega arith, omega (arith, m))
    go false q = absurd (let w : None ≡ Some n = rw q at e in let z : ◌≡◌ {A = ℕ} 0 1 = cc in omega arith)

pub sized-over : (f : ℕ) (l : List Peer) → sized f 0 l ≡ None → (every peer_fits l ≡ false) ⊎ (most_body < length (entry_bytes f l))
unfolding sized all_of
sized-over f l e = go (every peer_fits l) refl (leb (0 + length (entry_bytes f l)) most_body) refl
  where
    go : (t : Bool) → every peer_fits l ≡ t → (u : Bool) → leb (0 + length (entry_bytes f l)) most_body ≡ u → (every peer_fits l ≡ false) ⊎ (most_body < length (entry_bytes f l))
    go false p u q = inl p
    go true p false q = inr (omega (arith, leb-false (0 + length (entry_bytes f l)) most_body q))
    go true p true q = absurd (let w : Some (0 + length (entry_bytes f l)) ≡ None = rw (p, q) at e in let z : ◌≡◌ {A = ℕ} 0 1 = cc in omega arith)

-- "A message is an unsigned varint length, then the body": a connection's prefixes are the wire format's varints, and what `frame` writes is what it reads.
-- proofs/Varints.antt and proofs/Back.antt show each claim.
use Rattle.std.specs.Prelude.{ℕ, ◌+◌, ◌≤◌, ◌≡◌, false, cond, List, [], ◌∷◌, ◌++◌, map, length, take, drop, eqb, leb, ltb}
use Rattle.octets.specs.Octets.{Bytes, same}
use Rattle.limits.specs.Limits.{most_body}
use Rattle.refusal.specs.declared.Refusal.TheVariants.{PrefixNotMinimal, TooLong}
use Rattle.wire.specs.Wire.{varint, varint_at}
use Rattle.wire.specs.Items.{minimal}
use Rattle.message.specs.Message.{frame}
use Rattle.stream.specs.declared.Framing.TheVariants.{Shut}
use Rattle.stream.specs.declared.Held.{Held}
use Rattle.stream.specs.declared.Held.TheVariants.{Nothing, One, Two}
use Rattle.stream.specs.declared.Lead.TheVariants.{On, Length}
use Rattle.stream.specs.declared.Prefixed.{Prefixed}
use Rattle.stream.specs.Stream.{fresh, prefixed}
use Rattle.cutting.specs.Frames.{message, whole, prefix_at, head_of}
use Rattle.cutting.specs.World.{happened, World, Layer, Call, hand, joined, calls, Sound, Ready}
use Rattle.std.specs.Prelude.{Ok, Err, Some, None, Option}

-- ---- 1. A prefix is a varint of the wire format, the minimal one of its value, and none other is taken

-- the bytes of a prefix that isn't closed yet
abbrev pub begun : List ℕ → Held
begun [] = Nothing
begun (a ∷ []) = One a
begun (a ∷ b ∷ bs) = Two a b

-- what RULES, Stream, calls for at the start of bs, by the varint that the wire format reads in its first three bytes: one of k bytes with the value n, or none
abbrev pub called_for : List ℕ → Option (ℕ × ℕ) → Prefixed
-- "At the closing prefix byte: a zero byte that isn't the first gives 3", as the bytes aren't the minimal varint of n; "a value over 16,384 gives 4"
called_for bs (Some (n, k)) = prefixed k (cond (same (take k bs) (minimal n)) (cond (leb n most_body) (Ok (Length n)) (Err TooLong)) (Err PrefixNotMinimal))
-- fewer bytes, each with its top bit set: it goes on. "A set top bit in the third prefix byte gives 4"
called_for bs None = cond (ltb (length bs) 3) (prefixed (length bs) (Ok (On (begun bs)))) (prefixed 3 (Err TooLong))

pub record PrefixIsVarint : Type 0 where
  pub read : (bs : List ℕ) → Bytes bs → prefix_at bs ≡ called_for bs (varint 3 bs)
  -- so a length n that is taken after k bytes is one up to 16,384, these bytes are its minimal varint, and the wire format reads them so
  pub taken : (bs : List ℕ) → Bytes bs → (n k : ℕ) → prefix_at bs ≡ prefixed k (Ok (Length n)) → (n ≤ most_body) × (take k bs ≡ minimal n) × (varint_at bs 0 ≡ Some (n, k))
  -- and the minimal varint of each such length is taken, whatever follows
  pub every : (n : ℕ) (rest : List ℕ) → n ≤ most_body → prefix_at (minimal n ++ rest) ≡ prefixed (length (minimal n)) (Ok (Length n))

-- ---- 2. A body that is written with its prefix stands at the start of any bytes as a whole message, with its own bytes and no byte more
pub record ReadWhole (body rest : List ℕ) : Type 0 where
  pub prefix : ℕ
  pub head : head_of (frame body ++ rest) ≡ whole prefix (length body)
  pub bytes : take (length body) (drop prefix (frame body ++ rest)) ≡ body
  pub size : prefix + length body ≡ length (frame body)

abbrev pub FramesReadBack : Type 0
FramesReadBack = (body rest : List ℕ) → length body ≤ most_body → ReadWhole body rest

-- ---- 3. Handed to a connection between messages, in any pieces, it is that message, and nothing else happens
abbrev pub hands : {B O : Type 0} → ℕ → List (List ℕ) → List (Call B O)
hands i ps = map (hand i) ps

-- the world s, where the message `body` arrived on connection i, is w
pub record Arrives {P A B O : Type 0} (L : Layer P A B O) (i : ℕ) (body : List ℕ) (s w : World P A O) : Type 0 where
  pub who : (w.lines i).who ≡ (s.lines i).who
  pub taken : (w.lines i).taken ≡ (s.lines i).taken + length (frame body)
  pub framing : (w.lines i).framing
      ≡ cond (L.stops i (s.lines i).who s.shared.state (message ((s.lines i).taken + length (frame body)) body)) Shut fresh
  pub state : w.shared.state ≡ L.put i (s.lines i).who s.shared.state (message ((s.lines i).taken + length (frame body)) body)
  pub order : w.shared.order ≡ s.shared.order ++ (happened i ∷ [])
  pub others : (j : ℕ) → eqb j i ≡ false → w.lines j ≡ s.lines j

abbrev pub FramesArrive : Type 1
FramesArrive =
    (P A B O : Type 0) (L : Layer P A B O) (Peer : P → Type 0) (Good : A → Type 0) (Fits : B → Type 0) → Sound L Peer Good Fits
    → (s : World P A O) → Ready Peer Good s → (i : ℕ) → (s.lines i).framing ≡ fresh
    → (body : List ℕ) → length body ≤ most_body → (ps : List (List ℕ)) → joined ps ≡ frame body
    → Arrives L i body s (calls L s (hands i ps))

pub record Claims : Type 1 where
  pub prefix : PrefixIsVarint
  pub back : FramesReadBack
  pub arrive : FramesArrive

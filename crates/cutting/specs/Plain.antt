-- The plain reading of several connections: what each is given is a list, of which messages are read whole, in the order of the events.
use Rattle.std.specs.Prelude.{ℕ, ◌+◌, ◌≡◌, List, [], ◌∷◌, Bool, true, false, cond, length, take, drop}
use Rattle.stream.specs.declared.Framing.TheVariants.{Shut}
use Rattle.stream.specs.Stream.{fresh, is_shut}
use Rattle.cutting.specs.Frames.{Event, message, refused, Head, partly, whole, bad, head_of, framing_of, half_of}
use Rattle.cutting.specs.World.{Did, Sys, Mark, happened, asked, here, put_back, Line, World, Layer, Call, Act, takes, acts, given, Fine}

-- what is left of what a connection is given, the place of its first byte, and whether the connection is shut
pub record Wire (P B : Type 0) : Type 0 where
  pub who : P
  pub shut : Bool
  pub taken : ℕ
  pub left : List (Act B)

-- the bytes before the next act, and what comes from that act on
unfoldable pub leading : {B : Type 0} → List (Act B) → List ℕ
leading [] = []
leading (takes b ∷ r) = b ∷ leading r
leading (acts b ∷ r) = []

unfoldable pub pending : {B : Type 0} → List (Act B) → List (Act B)
pending [] = []
pending (takes b ∷ r) = pending r
pending (acts b ∷ r) = acts b ∷ r

-- how the connection stands at the next act: it has read a part of a message, or nothing since it was shut. The buffer is left out
abbrev pub standing : {P B : Type 0} → Wire P B → List ℕ → Line P
standing w m =
    let s = leading w.left in
    record { who = w.who; framing = cond w.shut Shut (framing_of s); buffer = m; taken = w.taken + cond w.shut 0 (length s) }

module _ {P A B O : Type 0} (L : Layer P A B O) where
  -- n bytes were read, with this event
  abbrev pub dealt : ℕ → Wire P B → A → ℕ → Event → Bool → Did (Wire P B) A
  dealt i w a n e t = record { line = record { who = w.who; shut = t; taken = w.taken + n; left = drop n w.left }; shared = L.put i w.who a e }

  abbrev pub act_next : List (Act B) → ℕ → Wire P B → A → Did (Wire P B) A
  act_next [] i w a = record { line = w; shared = a }
  act_next (takes b ∷ r) i w a = record { line = w; shared = a }
  act_next (acts b ∷ r) i w a =
      let d = L.act i b (standing w []) a in
      record { line = record { who = d.line.who; shut = is_shut d.line.framing; taken = d.line.taken; left = r }; shared = d.shared }

  abbrev pub by_head : Head → ℕ → Wire P B → A → Did (Wire P B) A
  by_head partly i w a = act_next (pending w.left) i w a
  by_head (bad k r) i w a = dealt i w a k (refused (w.taken + k) r) true
  by_head (whole k n) i w a =
      let e = message (w.taken + (k + n)) (take n (drop k (leading w.left))) in
      dealt i w a (k + n) e (L.stops i w.who a e)

  -- the next event of a connection: a message or a stream refusal, or else the next act
  abbrev pub next : ℕ → Did (Wire P B) A → Did (Wire P B) A
  next i d = by_head (cond d.line.shut partly (head_of (leading d.line.left))) i d.line d.shared

  unfoldable pub plainly : Sys (Wire P B) A → List (Mark O) → Sys (Wire P B) A
  plainly w [] = w
  plainly w (happened i ∷ ms) = plainly (put_back w i (next i (here w i))) ms
  plainly w (asked o ∷ ms) = plainly (record { lines = w.lines; shared = L.host w.shared o }) ms

-- the connections of a world before the calls, nothing read yet
abbrev pub unread : {P A B O : Type 0} → World P A O → List (Call B O) → Sys (Wire P B) A
unread s cs = record { lines = λ i. record { who = (s.lines i).who; shut = is_shut (s.lines i).framing; taken = (s.lines i).taken; left = given i cs }; shared = s.shared.state }

-- a connection l against its wire w, of which all was read: every act was done, and while it is open the bytes left are a part of a message, with no whole
-- one and no bad prefix among them
pub record Left {P B : Type 0} (w : Wire P B) (l : Line P) : Type 0 where
  pub done : pending w.left ≡ []
  pub part : w.shut ≡ false → head_of (leading w.left) ≡ partly
  pub stands : l ≡ standing w l.buffer
  pub half : w.shut ≡ false → take (length (half_of (leading w.left))) l.buffer ≡ half_of (leading w.left)

pub record ReadOut {P A B O : Type 0} (w : Sys (Wire P B) A) (s : World P A O) : Type 0 where
  pub state : s.shared.state ≡ w.shared
  pub lines : (i : ℕ) → Left (w.lines i) (s.lines i)

-- what this theorem asks of acts beside `Sound`: they don't look at the receive buffer, and leave a connection that is fine shut or at the start of a message
pub record Blunt {P A B O : Type 0} (L : Layer P A B O) (Peer : P → Type 0) (Fits : B → Type 0) : Type 0 where
  pub who : (i : ℕ) (b : B) (w : Wire P B) (m : List ℕ) (a : A) → Fits b → (L.act i b (standing w m) a).line.who ≡ (L.act i b (standing w []) a).line.who
  pub framing : (i : ℕ) (b : B) (w : Wire P B) (m : List ℕ) (a : A) → Fits b → (L.act i b (standing w m) a).line.framing ≡ (L.act i b (standing w []) a).line.framing
  pub taken : (i : ℕ) (b : B) (w : Wire P B) (m : List ℕ) (a : A) → Fits b → (L.act i b (standing w m) a).line.taken ≡ (L.act i b (standing w []) a).line.taken
  pub state : (i : ℕ) (b : B) (w : Wire P B) (m : List ℕ) (a : A) → Fits b → (L.act i b (standing w m) a).shared ≡ (L.act i b (standing w []) a).shared
  pub anew : (i : ℕ) (b : B) (l : Line P) (a : A) → Fits b → Fine Peer l → is_shut (L.act i b l a).line.framing ≡ false → (L.act i b l a).line.framing ≡ fresh

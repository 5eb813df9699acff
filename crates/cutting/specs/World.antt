-- What a host does with connections: it hands their pieces to `receive`, in any order, over a state that their events change.
use Rattle.std.specs.Prelude.{ℕ, zero, suc, ◌+◌, ◌≤◌, ◌≡◌, List, [], ◌∷◌, ◌++◌, Bool, true, false, cond, length, take, drop, eqb}
use Rattle.limits.specs.Limits.{most_body}
use Rattle.stream.specs.declared.Framing.{Framing}
use Rattle.stream.specs.declared.Framing.TheVariants.{Shut}
use Rattle.stream.specs.Stream.{fresh, is_shut, in_form, Out, run_of, receive_of, end_of}
use Rattle.cutting.specs.Frames.{Event, message, refused}
use Rattle.std.specs.Prelude.{Ok, Err, Some, None, Result, Option, ⊤}
use Rattle.refusal.specs.declared.Refusal.{Refusal}

-- ---- lines and what they share

-- a line and what is shared
pub record Did (L A : Type 0) : Type 0 where
  pub line : L
  pub shared : A

-- all lines and what is shared
pub record Sys (L A : Type 0) : Type 0 where
  pub lines : ℕ → L
  pub shared : A

-- what there is to see of the order: an event on line i, or another call
pub data Mark (O : Type 0) : Type 0 where
  happened : ℕ → Mark O
  asked : O → Mark O

abbrev pub set_at : {L : Type 0} → (ℕ → L) → ℕ → L → ℕ → L
set_at f i v = λ j. cond (eqb j i) v (f j)

abbrev pub here : {L A : Type 0} → Sys L A → ℕ → Did L A
here s i = record { line = s.lines i; shared = s.shared }

abbrev pub put_back : {L A : Type 0} → Sys L A → ℕ → Did L A → Sys L A
put_back s i d = record { lines = set_at s.lines i d.line; shared = d.shared }

-- ---- a connection and what the layer above makes of it

-- a connection as the last call handed it back: who it is (a peer, a mode, a side: `stream` doesn't look), its framing, its receive
-- buffer, and how many of its bytes were taken
pub record Line (P : Type 0) : Type 0 where
  pub who : P
  pub framing : Framing
  pub buffer : List ℕ
  pub taken : ℕ

-- what the connections share, and in which order events and other calls came
pub record Shared (A O : Type 0) : Type 0 where
  pub state : A
  pub order : List (Mark O)

abbrev pub World : Type 0 → Type 0 → Type 0 → Type 0
World P A O = Sys (Line P) (Shared A O)

-- one call of `receive`: what it leaves, how many bytes it took, and whether it answers "more"
pub record Called (P A : Type 0) : Type 0 where
  pub line : Line P
  pub state : A
  pub count : ℕ
  pub more : Bool

-- the layer above. `receive` is its own; `put` is what an event on connection i does to the state, and `stops` whether a message shuts its
-- connection; `act` is any other call on a connection, as opening and ending it; `host` any call on none
pub record Layer (P A B O : Type 0) : Type 0 where
  pub receive : ℕ → Line P → A → List ℕ → Called P A
  pub put : ℕ → P → A → Event → A
  pub stops : ℕ → P → A → Event → Bool
  pub act : ℕ → B → Line P → A → Did (Line P) A
  pub host : A → O → A

-- what the host does: hands connection i a piece; does something else on it; calls something else
pub data Call (B O : Type 0) : Type 0 where
  hand : ℕ → List ℕ → Call B O
  does : ℕ → B → Call B O
  asks : O → Call B O

-- what a connection is given: its bytes one by one, however they were cut, and what else is done on it
pub data Act (B : Type 0) : Type 0 where
  takes : ℕ → Act B
  acts : B → Act B

unfoldable pub bytes : {B : Type 0} → List ℕ → List (Act B) → List (Act B)
bytes [] r = r
bytes (b ∷ bs) r = takes b ∷ bytes bs r

unfoldable pub given : {B O : Type 0} → ℕ → List (Call B O) → List (Act B)
given i [] = []
given i (hand j p ∷ cs) = cond (eqb i j) (bytes p (given i cs)) (given i cs)
given i (does j b ∷ cs) = cond (eqb i j) (acts b ∷ given i cs) (given i cs)
given i (asks o ∷ cs) = given i cs

-- the bytes of pieces
unfoldable pub joined : List (List ℕ) → List ℕ
joined [] = []
joined (p ∷ ps) = p ++ joined ps

abbrev pub is_more : Result (Option ℕ) Refusal → Bool
is_more (Ok (Some n)) = false
is_more (Err r) = false
is_more (Ok None) = true

-- ---- what the framing's answer comes to, after so many bytes of the connection

abbrev pub noted : {P A : Type 0} → (ℕ → P → A → Event → A) → ℕ → P → A → Result (Option ℕ) Refusal → ℕ → List ℕ → A
noted put i p a (Ok (Some n)) at m = put i p a (message at (take n m))
noted put i p a (Err r) at m = put i p a (refused at r)
noted put i p a (Ok None) at m = a

abbrev pub halted : {P A : Type 0} → (ℕ → P → A → Event → Bool) → ℕ → P → A → Result (Option ℕ) Refusal → ℕ → List ℕ → Framing → Framing
halted stops i p a (Ok (Some n)) at m f = cond (stops i p a (message at (take n m))) Shut f
halted stops i p a (Err r) at m f = f
halted stops i p a (Ok None) at m f = f

abbrev pub called : {P A : Type 0} → (ℕ → P → A → Event → A) → (ℕ → P → A → Event → Bool) → ℕ → Line P → A → Out → Called P A
called put stops i l a o =
    let at = l.taken + o.got.taken in
    record {
      line = record { who = l.who; framing = halted stops i l.who a o.got.answer at o.buffer o.got.framing; buffer = o.buffer; taken = at };
      state = noted put i l.who a o.got.answer at o.buffer;
      count = o.got.taken;
      more = is_more o.got.answer;
    }

-- the layer whose `receive` is this crate's, with what events and other calls do
abbrev pub bare : {P A B O : Type 0} → (ℕ → P → A → Event → A) → (ℕ → P → A → Event → Bool) → (ℕ → B → Line P → A → Did (Line P) A) → (A → O → A) → Layer P A B O
bare put stops act host = record { receive = λ i l a bs. called put stops i l a (receive_of l.framing l.buffer bs); put = put; stops = stops; act = act; host = host }

-- opening a connection with a receive buffer, and ending it: what this crate's `open` and `end` do. `tell` is what an end's answer does to the state
pub data Turn (P : Type 0) : Type 0 where
  opens : P → List ℕ → Turn P
  ends : Turn P

abbrev pub turned : {P A : Type 0} → (ℕ → P → A → ℕ → Result ⊤ Refusal → A) → ℕ → Turn P → Line P → A → Did (Line P) A
turned tell i (opens p m) l a = record { line = record { who = p; framing = fresh; buffer = m; taken = 0 }; shared = a }
turned tell i ends l a =
    let e = end_of l.framing in
    record { line = record { who = l.who; framing = e.framing; buffer = l.buffer; taken = l.taken }; shared = tell i l.who a l.taken e.answer }

abbrev pub Roomy : {P : Type 0} → Turn P → Type 0
Roomy (opens p m) = most_body ≤ length m
Roomy ends = Unit {0}

-- ---- the host
module _ {P A B O : Type 0} (L : Layer P A B O) where
  abbrev pub note_if : Bool → ℕ → Shared A O → A → Shared A O
  note_if more i h a = record { state = a; order = cond more h.order (h.order ++ (happened i ∷ [])) }

  abbrev pub answered : ℕ → Shared A O → Called P A → Did (Line P) (Shared A O)
  answered i h c = record { line = c.line; shared = note_if c.more i h c.state }

  -- no call on a shut connection; after an event the rest of the piece is handed over
  unfoldable pub feed : ℕ → ℕ → Did (Line P) (Shared A O) → List ℕ → Did (Line P) (Shared A O)
  feed i zero d bs = d
  feed i (suc f) d bs =
      let c = L.receive i d.line d.shared.state bs in
      cond (is_shut d.line.framing) d
      (cond c.more (answered i d.shared c) (feed i f (answered i d.shared c) (drop c.count bs)))

  -- a piece needs at most one call more than it has bytes
  abbrev pub handed : ℕ → Did (Line P) (Shared A O) → List ℕ → Did (Line P) (Shared A O)
  handed i d p = feed i (suc (length p)) d p

  unfoldable pub handed_all : ℕ → Did (Line P) (Shared A O) → List (List ℕ) → Did (Line P) (Shared A O)
  handed_all i d [] = d
  handed_all i d (p ∷ ps) = handed_all i (handed i d p) ps

  abbrev pub acted : ℕ → B → Did (Line P) (Shared A O) → Did (Line P) (Shared A O)
  acted i b d =
      let e = L.act i b d.line d.shared.state in
      record { line = e.line; shared = note_if false i d.shared e.shared }

  abbrev pub hosted : Shared A O → O → Shared A O
  hosted h o = record { state = L.host h.state o; order = h.order ++ (asked o ∷ []) }

  unfoldable pub call : World P A O → Call B O → World P A O
  call s (hand i p) = put_back s i (handed i (here s i) p)
  call s (does i b) = put_back s i (acted i b (here s i))
  call s (asks o) = record { lines = s.lines; shared = hosted s.shared o }

  unfoldable pub calls : World P A O → List (Call B O) → World P A O
  calls s [] = s
  calls s (c ∷ cs) = calls (call s c) cs

-- ---- what the theorems ask of a layer

-- a connection in form, with a receive buffer large enough, and, while it is open, a peer that may be
pub record Fine {P : Type 0} (Peer : P → Type 0) (l : Line P) : Type 0 where
  pub form : in_form l.framing ≡ true
  pub room : most_body ≤ length l.buffer
  pub peer : is_shut l.framing ≡ false → Peer l.who

-- on a connection that is fine and open, over a state that is good, the layer's `receive` does what the framing's answer comes to; and
-- peers, states and lines stay so. `Fits b` says which acts may be done: those that open a connection with a buffer too short may not
pub record Sound {P A B O : Type 0} (L : Layer P A B O) (Peer : P → Type 0) (Good : A → Type 0) (Fits : B → Type 0) : Type 0 where
  pub receives : (i : ℕ) (l : Line P) (a : A) (bs : List ℕ) → Fine Peer l → is_shut l.framing ≡ false → Good a
      → L.receive i l a bs ≡ called L.put L.stops i l a (run_of l.framing l.buffer bs)
  pub puts : (i : ℕ) (p : P) (a : A) (e : Event) → Peer p → Good a → Good (L.put i p a e)
  pub act-line : (i : ℕ) (b : B) (l : Line P) (a : A) → Fits b → Fine Peer l → Good a → Fine Peer (L.act i b l a).line
  pub act-good : (i : ℕ) (b : B) (l : Line P) (a : A) → Fits b → Fine Peer l → Good a → Good (L.act i b l a).shared
  pub hosts : (a : A) (o : O) → Good a → Good (L.host a o)

-- every connection is fine and the state good
pub record Ready {P A O : Type 0} (Peer : P → Type 0) (Good : A → Type 0) (s : World P A O) : Type 0 where
  pub lines : (i : ℕ) → Fine Peer (s.lines i)
  pub good : Good s.shared.state

unfoldable pub AllFit : {B O : Type 0} → (B → Type 0) → List (Call B O) → Type 0
AllFit Fits [] = Unit {0}
AllFit Fits (hand i p ∷ cs) = AllFit Fits cs
AllFit Fits (does i b ∷ cs) = Fits b × AllFit Fits cs
AllFit Fits (asks o ∷ cs) = AllFit Fits cs

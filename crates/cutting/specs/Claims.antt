-- The theorems of this crate, as statements; proofs/Claims.antt proves each (`Cut` is proved by `cut`, `SeveralPlainly` by `several-plainly`).
use Rattle.std.specs.Prelude.{ℕ, ◌+◌, ◌≤◌, ◌≡◌, List, [], ◌++◌, Bool, true, false, cond, length, take, drop}
use Rattle.limits.specs.Limits.{most_body}
use Rattle.stream.specs.declared.Framing.{Framing}
use Rattle.stream.specs.declared.Framing.TheVariants.{Shut, Prefix, Body}
use Rattle.stream.specs.Stream.{fresh, is_shut, in_form, Out, receive_of, end_of}
use Rattle.cutting.specs.Frames.{Event, Frames, frames, framing_of, half_of, puts}
use Rattle.cutting.specs.World.{Did, put_back, Line, Shared, World, Layer, Call, hand, joined, given, answered, handed_all, call, calls, bare, turned, Roomy, Fine, Sound, Ready, AllFit}
use Rattle.cutting.specs.Plain.{ReadOut, Blunt, plainly, unread}
use Rattle.std.specs.Prelude.{Ok, Err, Some, None, Result, Option, ⊤}
use Rattle.refusal.specs.declared.Refusal.{Refusal}

-- ---- 1. Pieces cut anywhere, empty ones too, give what the whole string gives: whatever the layer above keeps of events, with their places
-- and bodies, the final framing and the buffer
abbrev pub Cut : Type 1
Cut =
    (P A B O : Type 0) (L : Layer P A B O) (Peer : P → Type 0) (Good : A → Type 0) (Fits : B → Type 0) → Sound L Peer Good Fits
    → (i : ℕ) (d : Did (Line P) (Shared A O)) → Fine Peer d.line → Good d.shared.state
    → (ps qs : List (List ℕ)) → joined ps ≡ joined qs → handed_all L i d ps ≡ handed_all L i d qs

-- ---- 2. And that is the plain reading of the string

-- a connection by itself, and what an event does to what is kept
abbrev pub alone : {A : Type 0} → (A → Event → A) → Layer (Unit {0}) A ⊥ ⊥
alone put = bare (λ i p a e. put a e) (λ i p a e. false) (λ i b l a. absurd b) (λ a o. absurd o)

abbrev pub opened : {P A O : Type 0} → P → List ℕ → A → Did (Line P) (Shared A O)
opened p m a = record { line = record { who = p; framing = fresh; buffer = m; taken = 0 }; shared = record { state = a; order = [] } }

pub record Reads {P A O : Type 0} (put : A → Event → A) (a : A) (r : Frames) (d : Did (Line P) (Shared A O)) : Type 0 where
  pub events : d.shared.state ≡ puts put a r.events
  pub framing : d.line.framing ≡ cond r.shut Shut (framing_of r.rest)
  pub taken : d.line.taken ≡ r.at + length r.rest
  pub half : take (length (half_of r.rest)) d.line.buffer ≡ half_of r.rest

abbrev pub Reading : Type 1
Reading =
    (A : Type 0) (put : A → Event → A) (a : A) (m : List ℕ) → most_body ≤ length m
    → (ps : List (List ℕ)) → Reads put a (frames (joined ps)) (handed_all (alone put) 0 (opened tt m a) ps)

-- ---- 3. Several connections over a state that their events change, where a message may shut its connection by what the state says: two lists of
-- calls that give each connection the same, however cut, and whose events and other calls come in the same order, end the same
abbrev pub Several : Type 1
Several =
    (P A B O : Type 0) (L : Layer P A B O) (Peer : P → Type 0) (Good : A → Type 0) (Fits : B → Type 0) → Sound L Peer Good Fits
    → (s : World P A O) → Ready Peer Good s → (cs ds : List (Call B O)) → AllFit Fits cs → AllFit Fits ds
    → ((i : ℕ) → given i cs ≡ given i ds)
    → (calls L s cs).shared.order ≡ (calls L s ds).shared.order
    → calls L s cs ≡ calls L s ds

-- ---- 4. And that is the plain reading of what each connection is given, message by message in the order of the events
abbrev pub SeveralPlainly : Type 1
SeveralPlainly =
    (P A B O : Type 0) (L : Layer P A B O) (Peer : P → Type 0) (Good : A → Type 0) (Fits : B → Type 0) → Sound L Peer Good Fits → Blunt L Peer Fits
    → (s : World P A O) → Ready Peer Good s → ((i : ℕ) → is_shut (s.lines i).framing ≡ false → (s.lines i).framing ≡ fresh) → s.shared.order ≡ []
    → (cs : List (Call B O)) → AllFit Fits cs
    → ReadOut (plainly L (unread s cs) (calls L s cs).shared.order) (calls L s cs)

-- and a piece is the same handed over in two
abbrev pub Split : Type 1
Split =
    (P A B O : Type 0) (L : Layer P A B O) (Peer : P → Type 0) (Good : A → Type 0) (Fits : B → Type 0) → Sound L Peer Good Fits
    → (s : World P A O) → Ready Peer Good s → (i : ℕ) (p q : List ℕ) → call L s (hand i (p ++ q)) ≡ call L (call L s (hand i p)) (hand i q)

-- one call of `receive`, which takes a piece up to its first event, is the hand-over of the bytes that it takes. With `Split`: a piece handed over whole is as
-- many calls as it has events, and one that asks for more; and a host that makes other calls between two of them hands the piece over in parts
abbrev pub OneReceive : Type 1
OneReceive =
    (P A B O : Type 0) (L : Layer P A B O) (Peer : P → Type 0) (Good : A → Type 0) (Fits : B → Type 0) → Sound L Peer Good Fits
    → (s : World P A O) → Ready Peer Good s → (i : ℕ) (p : List ℕ) → is_shut (s.lines i).framing ≡ false
    → let c = L.receive i (s.lines i) s.shared.state p in
    call L s (hand i (take c.count p)) ≡ put_back s i (answered L i s.shared c)

-- ---- 5. This crate's `receive` is such a layer, whatever events, acts and other calls do
abbrev pub Anyone : {X : Type 0} → X → Type 0
Anyone x = Unit {0}

abbrev pub OwnReceive : Type 1
OwnReceive =
    (P A B O : Type 0) (put : ℕ → P → A → Event → A) (stops : ℕ → P → A → Event → Bool) (act : ℕ → B → Line P → A → Did (Line P) A) (host : A → O → A) (Fits : B → Type 0)
    → ((i : ℕ) (b : B) (l : Line P) (a : A) → Fits b → Fine Anyone l → Fine Anyone (act i b l a).line)
    → Sound (bare put stops act host) Anyone Anyone Fits

-- and so it is with this crate's `open` and `end` as the acts: nothing is asked then but receive buffers that are large enough
pub record Turns (P A O : Type 0) (put : ℕ → P → A → Event → A) (stops : ℕ → P → A → Event → Bool) (tell : ℕ → P → A → ℕ → Result ⊤ Refusal → A) (host : A → O → A) : Type 0 where
  pub sound : Sound (bare put stops (turned tell) host) Anyone Anyone Roomy
  pub blunt : Blunt (bare put stops (turned tell) host) Anyone Roomy

abbrev pub OpenAndEnd : Type 1
OpenAndEnd =
    (P A O : Type 0) (put : ℕ → P → A → Event → A) (stops : ℕ → P → A → Event → Bool) (tell : ℕ → P → A → ℕ → Result ⊤ Refusal → A) (host : A → O → A) → Turns P A O put stops tell host

-- ---- 6. What stands past the half-read body in the buffer changes no answer and no body

abbrev pub body_so_far : Framing → ℕ
body_so_far Shut = 0
body_so_far (Prefix h) = 0
body_so_far (Body want have) = have

-- what counts of the buffer after a call: a message's body, or the half-read one
abbrev pub body_of : Result (Option ℕ) Refusal → Framing → List ℕ → List ℕ
body_of (Ok (Some n)) f m = take n m
body_of (Err r) f m = []
body_of (Ok None) f m = take (body_so_far f) m

abbrev pub body_in : Out → List ℕ
body_in o = body_of o.got.answer o.got.framing o.buffer

abbrev pub Past : Type 0
Past =
    (f : Framing) (m n bs : List ℕ) → most_body ≤ length m → most_body ≤ length n → take (body_so_far f) m ≡ take (body_so_far f) n
    → ((receive_of f m bs).got ≡ (receive_of f n bs).got) × (body_in (receive_of f m bs) ≡ body_in (receive_of f n bs))

-- ---- 7. The bytes past the body so far stay, and all of them where no body is begun: a refusal and an empty message touch no byte

abbrev pub reach : Out → ℕ
reach o = length (body_in o)

abbrev pub Later : Type 0
Later = (f : Framing) (m bs : List ℕ) → most_body ≤ length m → drop (reach (receive_of f m bs)) (receive_of f m bs).buffer ≡ drop (reach (receive_of f m bs)) m

-- ---- 8. Form is kept: a connection as the last call handed it back never gives 0
pub record FormKept : Type 0 where
  pub opens : in_form fresh ≡ true
  pub receives : (f : Framing) (m bs : List ℕ) → in_form f ≡ true → in_form (receive_of f m bs).got.framing ≡ true
  pub ends : (f : Framing) → in_form f ≡ true → in_form (end_of f).framing ≡ true

-- ---- 9. A call takes no more than is there, and a message is no longer than the buffer asked for: the layer above may cut both
pub record Bounded : Type 0 where
  pub taken : (f : Framing) (m bs : List ℕ) → (receive_of f m bs).got.taken ≤ length bs
  pub message : (f : Framing) (m bs : List ℕ) (n : ℕ) → (receive_of f m bs).got.answer ≡ Ok (Some n) → (n ≤ most_body) × (most_body ≤ length m)

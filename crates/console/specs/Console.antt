-- How the program's run goes on. What it reads and writes no definition can say; that no byte of a piece is passed over, these do.
use Rattle.std.specs.Prelude.{ℕ, zero, suc, ◌≡◌, Bool, true, false, ◌&&◌, List, drop}
use Rattle.peer.specs.declared.Peer.{Peer}
use Rattle.replies.specs.Lent.{Lent, lent}
use Rattle.node.specs.Node.{Link, linked, Out, receive_of}
use Rattle.node.specs.declared.Answer.{Answer}
use Rattle.node.specs.declared.Answer.TheVariants.{Reply, Heard, More}
use Rattle.console.specs.declared.Turn.{Turn}
use Rattle.console.specs.declared.After.{After}
use Rattle.console.specs.declared.After.TheVariants.{On, End, Stop}
use Rattle.std.specs.Prelude.{Ok, Err, Result}
use Rattle.refusal.specs.declared.Refusal.{Refusal}

abbrev pub goes_on : After → Bool
goes_on On = true
goes_on End = false
goes_on Stop = false

-- after a reply the run goes on or stops: that isn't the end of the input
abbrev pub Sent : After → Type 0
Sent On = Unit {0}
Sent End = ⊥
Sent Stop = Unit {0}

-- what comes after an answer: a refusal stops the run
abbrev pub Follows : Result Answer Refusal → After → Type 0
Follows (Ok (Reply n)) a = Sent a
Follows (Ok (Heard n f)) a = a ≡ On
Follows (Err r) a = a ≡ Stop
Follows (Ok More) a = a ≡ On

-- ---- a piece, call after call
-- where a run stands in a piece: the connection, what the box is lent, and the bytes that no call has taken yet
pub record Stand : Type 0 where
  pub link : Link
  pub left : Lent
  pub rest : List ℕ

abbrev pub stand : Link → Lent → List ℕ → Stand
stand k l s = record { link = k; left = l; rest = s }

-- one more call, on all of the rest
unfoldable pub called : Peer → Stand → Out
called me s = receive_of me s.link s.rest s.left

-- what it leaves
unfoldable pub leaves : Stand → Out → Stand
leaves s o = stand (linked o.got.conn o.buffer) o.left (drop o.got.taken s.rest)

-- so many calls, each on what the one before it left
unfoldable pub calls : Peer → Stand → ℕ → Stand
calls me s zero = s
calls me s (suc n) = leaves (calls me s n) (called me (calls me s n))

-- and none of them was refused
abbrev pub passes : Result Answer Refusal → Bool
passes (Ok (Reply n)) = true
passes (Ok (Heard n f)) = true
passes (Err r) = false
passes (Ok More) = true

unfoldable pub all_pass : Peer → Stand → ℕ → Bool
all_pass me s zero = true
all_pass me s (suc n) = all_pass me s n && passes (called me (calls me s n)).got.answer

-- a turn and the lent memory have what a call gives, and what follows on it
pub record Turns (o : Out) (t : Turn) (m c k y : List ℕ) : Type 0 where
  pub conn : t.conn ≡ o.got.conn
  pub taken : t.taken ≡ o.got.taken
  pub buffer : m ≡ o.buffer
  pub left : lent c k y ≡ o.left
  pub after : Follows o.got.answer t.after

-- the run goes on, to the next piece, only where such calls have taken all of this one, and none was refused
abbrev pub UsedUp : After → Peer → (from to : Stand) → Type 0
UsedUp On me s e = (n : ℕ) × (calls me s n ≡ e) × (all_pass me s n ≡ true)
UsedUp End me s e = ⊥
UsedUp Stop me s e = Unit {0}

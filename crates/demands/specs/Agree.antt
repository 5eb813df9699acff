-- Request xiv, 'Two benches agree', of boxes in use; proofs/Agree.antt shows it (`benches-agree`). What the store has to do with it, `NoRecords`, `SameSet`,
-- `HoldSame` and `Highest`, is crate records_history's, specs/Agree; crate `host_demands` says the same of programs that call the box.
use Rattle.std.specs.Prelude.{ℕ, ◌≡◌, false, List, [], ◌∷◌, ◌++◌, length, take, drop}
use Rattle.refusal.specs.declared.Refusal.TheVariants.{NoRecordSlot}
use Rattle.peer.specs.declared.Peer.{Peer}
use Rattle.recipe.specs.Recipe.{is_recipe}
use Rattle.records_history.specs.History.{got, Offer}
use Rattle.records_history.specs.Agree.{NoRecords, IsOffered, SameSet, HoldSame, Highest}
use Rattle.message.specs.Message.{Message, decode}
use Rattle.stream.specs.Stream.{receive_of as framed_of}
use Rattle.cutting.specs.World.{Line, World, Call, hand, does, asks, call, calls, Ready, AllFit}
use Rattle.message.specs.Kinds.{put_value}
use Rattle.demands.specs.Box.{refused, put_gave, Entry, event, called, Box, Who, Turn, Fits, Ask, put, box, Own, Allowed, Good}
use Rattle.demands.specs.Demands.{since, Finds, Begun}
use Rattle.std.specs.Prelude.{Ok, Err, Some}

-- a line of the log gives 11: to a message, or to a put that was typed
pub data Gives11 (e : Entry) : Type 0 where
  message : (i at : ℕ) → e ≡ event i at (refused NoRecordSlot) → Gives11 e
  typed : e ≡ called (put_gave (Err NoRecordSlot)) → Gives11 e

unfoldable pub Never11 : List Entry → Type 0
Never11 [] = Unit {0}
Never11 (e ∷ es) = (Gives11 e → ⊥) × Never11 es

-- a message on a connection offers a record, whatever it is told: "by peers (the message key then being the record's)"
pub record Sends (w : Who) (body key value : List ℕ) : Type 0 where
  pub side : w.asking ≡ false
  pub says : Message
  pub reads : decode body ≡ Some says
  pub kind : says.kind ≡ put_value
  pub under : says.key ≡ key
  pub held : says.held ≡ Some (record { key = key; value = value })

-- a piece of a connection's bytes completes such a message
pub record Brings (l : Line Who) (p key value : List ℕ) : Type 0 where
  pub size : ℕ
  pub whole : (framed_of l.framing l.buffer p).got.answer ≡ Ok (Some size)
  pub sends : Sends l.who (take size (framed_of l.framing l.buffer p).buffer) key value

-- one receive takes all of it
abbrev pub TakesAll : Line Who → List ℕ → Type 0
TakesAll l p = (framed_of l.framing l.buffer p).got.taken ≡ length p

-- a bench: a box that a start gave, the world in which its host begins, and all that the host does, peers' bytes handed over among it. `empty` is "start with no
-- records", `never` "neither ever gave 11": no line of its log since then does
pub record Bench : Type 0 where
  pub me : Peer
  pub own : Own me
  pub start : World Who Box Ask
  pub ready : Ready (Allowed me) (Good me) start
  pub empty : NoRecords start.shared.state.lent.records
  pub did : List (Call Turn Ask)
  pub fit : AllFit Fits did
  pub never : Never11 (drop (length start.shared.state.log) (calls (box me) start did).shared.state.log)

module _ (b : Bench) where
  abbrev pub end : World Who Box Ask
  end = calls (box b.me) b.start b.did

  abbrev pub held : List ℕ
  held = end.shared.state.lent.records

  -- what reached its store, typed or sent
  abbrev pub offers : List Offer
  offers = since b.start end

-- "every offer reaches" the store: what each call adds to the offers. Nothing is lost but to 0 to 6, 19 or a connection that is shut
pub record OffersReach (me : Peer) : Type 0 where
  -- a put adds its record, be it taken or refused; no other call without a connection, no opening and no end adds any
  pub typed : (s : World Who Box Ask) (key value : List ℕ) → since s (call (box me) s (asks (put key value))) ≡ record { key = key; value = value } ∷ []
  pub asked : (s : World Who Box Ask) (o : Ask) → ((key value : List ℕ) → o ≡ put key value → ⊥) → since s (call (box me) s (asks o)) ≡ []
  pub turned : (s : World Who Box Ask) (i : ℕ) (b : Turn) → since s (call (box me) s (does i b)) ≡ []
  -- a piece that one receive takes whole adds the record that it brings, be it taken or refused, and where it brings none, none
  pub sent : (s : World Who Box Ask) → Ready (Allowed me) (Good me) s → (i : ℕ) (p key value : List ℕ) → TakesAll (s.lines i) p → Brings (s.lines i) p key value
      → since s (call (box me) s (hand i p)) ≡ record { key = key; value = value } ∷ []
  pub silent : (s : World Who Box Ask) → Ready (Allowed me) (Good me) s → (i : ℕ) (p : List ℕ) → TakesAll (s.lines i) p → ((key value : List ℕ) → Brings (s.lines i) p key value → ⊥)
      → since s (call (box me) s (hand i p)) ≡ []
  -- and later calls forget none
  pub joins : (s : World Who Box Ask) → Ready (Allowed me) (Good me) s → (cs ds : List (Call Turn Ask)) → AllFit Fits cs → AllFit Fits ds
      → let w = calls (box me) s cs in
      let x = calls (box me) w ds in
      since s x ≡ since s w ++ since w x

pub record BenchesAgree : Type 0 where
  -- "offered the same set of records .. they hold the same keys with identical values"; own ids, contacts, slots, connections and cuts may differ. "Both run the same
  -- recipe rules": both are this box
  pub two : (a b : Bench) → SameSet (offers a) (offers b) → HoldSame (held a) (held b)
  -- so a value that `find` and the replies to GET_VALUE give at one, they give at the other
  pub found : (a b : Bench) → SameSet (offers a) (offers b) → (key v : List ℕ) → Finds a.me (held a) key v → Finds b.me (held b) key v
  -- any number of boxes
  pub all : (b : ℕ → Bench) → ((i : ℕ) → SameSet (offers (b 0)) (offers (b i))) → (i j : ℕ) → HoldSame (held (b i)) (held (b j))
  -- what each holds: the highest-ranking of what it was offered that 8 and 9 don't refuse
  pub highest : (b : Bench) (key : List ℕ) → Highest is_recipe key (λ v. IsOffered key v (offers b)) (got (held b) key)
  pub reach : (me : Peer) → Own me → OffersReach me
  -- and a host that begins with memory cleared begins with no records
  pub begin : (s : World Who Box Ask) → Begun s → NoRecords s.shared.state.lent.records

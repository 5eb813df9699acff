-- The plain reading of a whole byte string: messages one after the other, then a refusal or a rest. RULES, Stream.
use Rattle.std.specs.Prelude.{ℕ, zero, suc, ◌+◌, ◌-◌, List, [], ◌∷◌, Bool, true, false, cond, length, take, drop, leb}
use Rattle.refusal.specs.declared.Refusal.{Refusal}
use Rattle.stream.specs.declared.Held.TheVariants.{Nothing}
use Rattle.stream.specs.declared.Framing.{Framing}
use Rattle.stream.specs.declared.Framing.TheVariants.{Shut, Prefix, Body}
use Rattle.stream.specs.declared.Lead.{Lead}
use Rattle.stream.specs.declared.Lead.TheVariants.{On, Length}
use Rattle.stream.specs.declared.Prefixed.{Prefixed}
use Rattle.stream.specs.Stream.{prefix_of}
use Rattle.std.specs.Prelude.{Ok, Err, Result}

-- an event with its place, the number of bytes taken when it came: a message with its body, or a refusal
pub data Event : Type 0 where
  message : ℕ → List ℕ → Event
  refused : ℕ → Refusal → Event

-- what stands at the start of a byte string: only a part of a message; a prefix of k bytes and a body of n; a bad prefix of k bytes
pub data Head : Type 0 where
  partly : Head
  whole : ℕ → ℕ → Head
  bad : ℕ → Refusal → Head

abbrev pub prefix_at : List ℕ → Prefixed
prefix_at bs = prefix_of Nothing bs

abbrev pub head_by : Result Lead Refusal → ℕ → List ℕ → Head
head_by (Ok (On h)) k bs = partly
head_by (Ok (Length n)) k bs = cond (leb (k + n) (length bs)) (whole k n) partly
head_by (Err r) k bs = bad k r

abbrev pub head_of : List ℕ → Head
head_of bs = head_by (prefix_at bs).lead (prefix_at bs).taken bs

-- the events, whether a refusal shut the connection, the place where the rest starts, and the rest
pub record Frames : Type 0 where
  pub events : List Event
  pub shut : Bool
  pub at : ℕ
  pub rest : List ℕ

abbrev pub followed : Event → Frames → Frames
followed e r = record { events = e ∷ r.events; shut = r.shut; at = r.at; rest = r.rest }

-- `next n` reads on after n bytes
abbrev pub by_head : Head → ℕ → List ℕ → (ℕ → Frames) → Frames
by_head partly at bs next = record { events = []; shut = false; at = at; rest = bs }
by_head (bad k r) at bs next = record { events = refused (at + k) r ∷ []; shut = true; at = at + k; rest = [] }
by_head (whole k n) at bs next = followed (message (at + (k + n)) (take n (drop k bs))) (next (k + n))

-- the reading of bs, whose first byte has the place `at`; one turn for each event, of which there are no more than bytes
unfoldable pub frames_from : ℕ → ℕ → List ℕ → Frames
frames_from zero at bs = record { events = []; shut = false; at = at; rest = bs }
frames_from (suc f) at bs = by_head (head_of bs) at bs (λ n. frames_from f (at + n) (drop n bs))

unfoldable pub frames : List ℕ → Frames
frames bs = frames_from (suc (length bs)) 0 bs

-- ---- how a connection stands that has read a part of a message, and what it has of the body
abbrev pub part_framing : Result Lead Refusal → ℕ → List ℕ → Framing
part_framing (Ok (On h)) k bs = Prefix h
part_framing (Ok (Length n)) k bs = Body n (length bs - k)
part_framing (Err r) k bs = Shut

abbrev pub part_body : Result Lead Refusal → ℕ → List ℕ → List ℕ
part_body (Ok (On h)) k bs = []
part_body (Ok (Length n)) k bs = drop k bs
part_body (Err r) k bs = []

abbrev pub framing_of : List ℕ → Framing
framing_of bs = part_framing (prefix_at bs).lead (prefix_at bs).taken bs

abbrev pub half_of : List ℕ → List ℕ
half_of bs = part_body (prefix_at bs).lead (prefix_at bs).taken bs

-- ---- events one after the other, where `put` is what an event does to what is kept
unfoldable pub puts : {A : Type 0} → (A → Event → A) → A → List Event → A
puts put a [] = a
puts put a (e ∷ es) = puts put (put a e) es

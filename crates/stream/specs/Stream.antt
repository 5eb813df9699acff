-- What receiving means: a step for each byte, folded over a piece up to its first event. RULES, Stream, and RULES, Refusals.
use Rattle.std.specs.Prelude.{ℕ, suc, ◌+◌, ◌*◌, ◌%◌, ◌≡◌, List, [], ◌∷◌, Bool, true, false, cond, not, ◌&&◌, length, set, ltb, leb, eqb}
use Rattle.limits.specs.Limits.{most_body}
use Rattle.refusal.specs.declared.Refusal.{Refusal}
use Rattle.refusal.specs.declared.Refusal.TheVariants as no
use Rattle.stream.specs.declared.Held.{Held}
use Rattle.stream.specs.declared.Held.TheVariants.{Nothing, One, Two}
use Rattle.stream.specs.declared.Framing.{Framing}
use Rattle.stream.specs.declared.Framing.TheVariants.{Shut, Prefix, Body}
use Rattle.stream.specs.declared.Received.{Received}
use Rattle.stream.specs.declared.Ended.{Ended}
use Rattle.stream.specs.declared.Lead.{Lead}
use Rattle.stream.specs.declared.Lead.TheVariants.{On, Length}
use Rattle.stream.specs.declared.Prefixed.{Prefixed}
use Rattle.std.specs.Prelude.{Ok, Err, Some, None, Result, Option, ⊤}

-- a connection that opens
abbrev pub fresh : Framing
fresh = Prefix Nothing

abbrev pub is_shut : Framing → Bool
is_shut Shut = true
is_shut (Prefix h) = false
is_shut (Body want have) = false

-- ---- form: "open connections .. 0 to 2 prefix bytes with set top bits, and any begun body short of its length, at most 16,384"
abbrev pub held_form : Held → Bool
held_form Nothing = true
held_form (One a) = leb 128 a
held_form (Two a b) = leb 128 a && leb 128 b

abbrev pub in_form : Framing → Bool
in_form Shut = true
in_form (Prefix h) = held_form h
in_form (Body want have) = leb want most_body && ltb have want

-- ---- a byte of a prefix: "A message is an unsigned varint length, then the body"

-- "a value over 16,384 gives 4"
unfoldable pub limited : ℕ → Result Lead Refusal
limited n = cond (ltb most_body n) (Err no.TooLong) (Ok (Length n))

-- "At the closing prefix byte: a zero byte that isn't the first gives 3"
unfoldable pub minimal : ℕ → ℕ → Result Lead Refusal
minimal z n = cond (eqb z 0) (Err no.PrefixNotMinimal) (limited n)

-- the closing byte is the one without the top bit; each byte has seven bits of the length, the lowest first. "A set top bit in the third prefix byte gives 4"
unfoldable pub prefix_step : Held → ℕ → Result Lead Refusal
prefix_step Nothing z = cond (ltb z 128) (limited z) (Ok (On (One z)))
prefix_step (One a) z = cond (ltb z 128) (minimal z (a % 128 + z * 128)) (Ok (On (Two a z)))
prefix_step (Two a b) z = cond (ltb z 128) (minimal z (a % 128 + b % 128 * 128 + z * 16384)) (Err no.TooLong)

-- ---- a byte of a connection

pub record Stepped : Type 0 where
  pub framing : Framing
  pub answer : Result (Option ℕ) Refusal

abbrev pub stepped : Framing → Result (Option ℕ) Refusal → Stepped
stepped f a = record { framing = f; answer = a }

-- an empty message is whole with its length. 3 and 4 shut the connection
abbrev pub led : Result Lead Refusal → Stepped
led (Ok (On h)) = stepped (Prefix h) (Ok None)
led (Ok (Length n)) = cond (eqb n 0) (stepped fresh (Ok (Some 0))) (stepped (Body n 0) (Ok None))
led (Err r) = stepped Shut (Err r)

-- a shut connection takes no byte (2): what stands here for it is never asked for
abbrev pub step_of : Framing → ℕ → Stepped
step_of Shut b = stepped Shut (Ok None)
step_of (Prefix h) b = led (prefix_step h b)
step_of (Body want have) b = cond (eqb (suc have) want) (stepped fresh (Ok (Some want))) (stepped (Body want (suc have)) (Ok None))

-- "The receive buffer holds the body so far from its start; later bytes stay"
abbrev pub store_of : Framing → List ℕ → ℕ → List ℕ
store_of Shut m b = m
store_of (Prefix h) m b = m
store_of (Body want have) m b = set m have b

-- ---- "One call takes bytes up to the first event, returns the number taken, and answers message, refusal or more"

-- what is handed back, and the receive buffer
pub record Out : Type 0 where
  pub got : Received
  pub buffer : List ℕ

abbrev pub out : Framing → ℕ → Result (Option ℕ) Refusal → List ℕ → Out
out f n a m = record { got = record { framing = f; taken = n; answer = a }; buffer = m }

-- the same, n bytes later
abbrev pub shift : ℕ → Out → Out
shift n o = out o.got.framing (n + o.got.taken) o.got.answer o.buffer

-- an event ends the call; else the rest of the piece goes on
abbrev pub after : Result (Option ℕ) Refusal → Framing → List ℕ → Out → Out
after (Ok (Some n)) f m rest = out f 1 (Ok (Some n)) m
after (Err r) f m rest = out f 1 (Err r) m
after (Ok None) f m rest = shift 1 rest

unfoldable pub run_of : Framing → List ℕ → List ℕ → Out
run_of f m [] = out f 0 (Ok None) m
run_of f m (b ∷ bs) =
    let s = step_of f b in
    after s.answer s.framing (store_of f m b) (run_of s.framing (store_of f m b) bs)

-- "0 to 2 consume and change nothing"
abbrev pub stayed : Framing → Refusal → Received
stayed f r = record { framing = f; taken = 0; answer = Err r }

abbrev pub stays : Framing → List ℕ → Refusal → Out
stays f m r = record { got = stayed f r; buffer = m }

-- the result r and the receive buffer m are those that o says
pub record Gives (o : Out) (r : Received) (m : List ℕ) : Type 0 where
  pub got : r ≡ o.got
  pub buffer : m ≡ o.buffer

-- the whole call: framing, receive buffer, piece
unfoldable pub receive_of : Framing → List ℕ → List ℕ → Out
receive_of f m bs =
    cond (not (in_form f)) (stays f m no.OutOfForm)
    (cond (ltb (length m) most_body) (stays f m no.SmallBuffer)
    (cond (is_shut f) (stays f m no.Shut)
    (run_of f m bs)))

-- ---- "An end shuts the connection"; 19 inside a prefix or body

abbrev pub ended : Framing → Result ⊤ Refusal → Ended
ended f e = record { framing = f; answer = e }

abbrev pub end_in : Framing → Ended
end_in Shut = ended Shut (Err no.Shut)
end_in (Prefix Nothing) = ended Shut (Ok tt)
end_in (Prefix (One a)) = ended Shut (Err no.EndedInside)
end_in (Prefix (Two a b)) = ended Shut (Err no.EndedInside)
end_in (Body want have) = ended Shut (Err no.EndedInside)

unfoldable pub end_of : Framing → Ended
end_of f = cond (not (in_form f)) (ended f (Err no.OutOfForm)) (end_in f)

-- ---- the prefix at the start of a byte string, and how many bytes it has
abbrev pub prefixed : ℕ → Result Lead Refusal → Prefixed
prefixed k l = record { taken = k; lead = l }

abbrev pub later : Prefixed → Prefixed
later p = prefixed (1 + p.taken) p.lead

abbrev pub onward : Result Lead Refusal → (Held → Prefixed) → Prefixed
onward (Ok (On h)) next = later (next h)
onward (Ok (Length n)) next = prefixed 1 (Ok (Length n))
onward (Err r) next = prefixed 1 (Err r)

unfoldable pub prefix_of : Held → List ℕ → Prefixed
prefix_of h [] = prefixed 0 (Ok (On h))
prefix_of h (z ∷ zs) = onward (prefix_step h z) (λ k. prefix_of k zs)

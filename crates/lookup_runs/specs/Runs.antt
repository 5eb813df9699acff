-- Any sequence of calls on a lookup.
use Rattle.std.specs.Prelude.{ℕ, ◌≡◌, Bool, true, false, List, [], ◌∷◌}
use Rattle.octets.specs.Octets.{Bytes}
use Rattle.message.specs.declared.Fields.{Fields}
use Rattle.lookup.specs.Lookup.{next_of, reply_of, failure_of, start_of}
use Rattle.lookup.specs.Value.{Lookup, Step}
use Rattle.lookup.specs.declared.Answer.{Answer}
use Rattle.lookup.specs.declared.Answer.TheVariants.{Complete, CutShort, Wait, Ask, Going}
use Rattle.std.specs.Prelude.{Ok, Err, Result}
use Rattle.refusal.specs.declared.Refusal.{Refusal}

-- an answer that is no refusal
abbrev pub accepted : Result Answer Refusal → Bool
accepted (Err r) = false
accepted (Ok (Complete n)) = true
accepted (Ok (CutShort n)) = true
accepted (Ok Wait) = true
accepted (Ok (Ask i)) = true
accepted (Ok Going) = true

-- ---- a start that isn't refused, from a table of bytes
pub record Started (t own ours key : List ℕ) (limit : ℕ) : Type 0 where
  pub bytes : Bytes t
  pub taken : accepted (start_of t own ours key limit).answer ≡ true

-- ---- calls, with whatever own id, own place, peer id, body and view the host hands in
pub data Call : Type 0 where
  go_next : Call
  go_reply : (own ours id body : List ℕ) → Fields → Call
  go_fail : (own ours id : List ℕ) → Call

unfoldable pub step : Call → Lookup → Step
step go_next l = next_of l
step (go_reply own ours id body v) l = reply_of l own ours id body v
step (go_fail own ours id) l = failure_of l own ours id

-- calls in turn, each on the lookup that the one before handed back, first on that of s: what the last one gave, or s where there is none. `go` says what
-- a call does: `step`, or what a wrong lookup does (Fakes.antt)
unfoldable pub outcome : (Call → Lookup → Step) → Step → List Call → Step
outcome go s [] = s
outcome go s (c ∷ cs) = outcome go (go c s.lookup) cs

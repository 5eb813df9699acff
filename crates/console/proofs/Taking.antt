-- A call on a byte or more that isn't refused takes one. Assumes nothing.
use Prim.Native.Nat.{ℕ, ◌≤◌}
use mathlib.Core.Path.{◌≡◌}
use mathlib.Core.List.{List, [], ◌∷◌}
use mathlib.Core.Bool.{true, not, false≢true}
use lib.ListN.{length}
use lib.Dec.{ltb}
use native.Mathlib.Omega.{arith}
use Rattle.octets.proofs.Bools.{cond_ind}
use Rattle.limits.specs.Limits.{most_body}
use Rattle.stream.specs.declared.Framing.{Framing}
use Rattle.stream.specs.Stream.{is_shut, in_form, step_of, store_of, after, run_of, Out as Framed, receive_of as framed_of}
use Rattle.peer.specs.declared.Peer.{Peer}
use Rattle.replies.specs.Lent.{Lent}
use Rattle.node.specs.Node.{Link, Out, gate_of, by_event, taken_of, unless, receive_of}
use Rattle.console.specs.Console.{passes}
use Rattle.std.specs.Prelude.{Ok, Err, Some, None, Result, Option, ⊤}
use Rattle.refusal.specs.declared.Refusal.{Refusal}

-- ---- the framing
after-takes : (a : Result (Option ℕ) Refusal) (f : Framing) (m : List ℕ) (o : Framed) → 1 ≤ (after a f m o).got.taken
after-takes (Ok (Some n)) f m o = omega arith
after-takes (Err r) f m o = omega arith
after-takes (Ok None) f m o = omega arith

run-takes : (f : Framing) (m bs : List ℕ) → 1 ≤ length bs → 1 ≤ (run_of f m bs).got.taken
unfolding run_of
run-takes f m [] h = absurd (omega (arith, h))
run-takes f m (b ∷ bs) h = after-takes (step_of f b).answer (step_of f b).framing (store_of f m b) (run_of (step_of f b).framing (store_of f m b) bs)

-- an event other than a refusal took a byte
abbrev Takes : Result (Option ℕ) Refusal → ℕ → Type 0
Takes (Ok (Some n)) k = 1 ≤ k
Takes (Err r) k = Unit {0}
Takes (Ok None) k = 1 ≤ k

some : (a : Result (Option ℕ) Refusal) (k : ℕ) → 1 ≤ k → Takes a k
some (Ok (Some n)) k h = h
some (Err r) k h = tt
some (Ok None) k h = h

framed-takes : (f : Framing) (m bs : List ℕ) → 1 ≤ length bs → Takes (framed_of f m bs).got.answer (framed_of f m bs).got.taken
unfolding framed_of
framed-takes f m bs h =
    cond_ind P (not (in_form f)) _ _ (λ e. tt) (λ e.
    cond_ind P (ltb (length m) most_body) _ _ (λ e. tt) (λ e.
    cond_ind P (is_shut f) _ _ (λ e. tt) (λ e. some _ _ (run-takes f m bs h))))
  where
    P : Framed → Type 0
    P o = Takes o.got.answer o.got.taken

-- ---- the call
event-takes : (a : Result (Option ℕ) Refusal) (me : Peer) (link : Link) (n : ℕ) (l : Lent) → Takes a n → passes (by_event a me link n l).got.answer ≡ true → 1 ≤ (by_event a me link n l).got.taken
event-takes (Ok (Some size)) me link n l h p = h
event-takes (Err r) me link n l h p = absurd (false≢true p)
event-takes (Ok None) me link n l h p = h

open-takes : (g : Result ⊤ Refusal) (link : Link) (l : Lent) (o : Out) → (passes o.got.answer ≡ true → 1 ≤ o.got.taken) → passes (unless g link l o).got.answer ≡ true
    → 1 ≤ (unless g link l o).got.taken
open-takes (Err r) link l o h p = absurd (false≢true p)
open-takes (Ok tt) link l o h p = h p

pub takes : (me : Peer) (link : Link) (bs : List ℕ) (l : Lent) → 1 ≤ length bs → passes (receive_of me link bs l).got.answer ≡ true
    → 1 ≤ (receive_of me link bs l).got.taken
unfolding receive_of taken_of
takes me link bs l h =
    open-takes (gate_of me link l) link l (taken_of me link bs l)
    (event-takes (framed_of link.conn.framing link.buffer bs).got.answer me _ _ l (framed-takes link.conn.framing link.buffer bs h))

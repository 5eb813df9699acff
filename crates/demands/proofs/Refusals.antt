-- Which refusals each part gives: 3 to 11 are raised on a connection, and none but the tests of form gives 0. Assumes nothing of its own.
use Prim.Native.Nat.{ℕ, suc, ◌*◌, ◌+◌, ◌%◌, ◌≤◌}
use mathlib.Core.Path.{sym, subst}
use mathlib.Core.Bool.{not}
use mathlib.Core.List.{List, [], ◌∷◌}
use native.Mathlib.Omega.{arith}
use lib.ListN.{length, take}
use lib.Dec.{eqb, ltb}
use Rattle.octets.specs.Octets.{same}
use Rattle.octets.proofs.Bools.{cond_ind}
use Rattle.limits.specs.Limits.{most_body, most_kind}
use Rattle.refusal.specs.declared.Refusal.{Refusal}
use Rattle.refusal.specs.Refusal.{number_of}
use Rattle.peer.specs.declared.Peer.{Peer}
use Rattle.recipe.specs.Recipe.{is_recipe, outranks}
use Rattle.records.specs.Store.{slots_of, slot, value_of, is_key, slot_with, free_slot, held_plan, plan_of, answer_of, offer_answer}
use Rattle.message.specs.Message.{Record, Message, message_of}
use Rattle.message.specs.View.{fields_of, reading_of}
use Rattle.message.specs.Message.{well_message}
use Rattle.stream.specs.declared.Held.{Held}
use Rattle.stream.specs.declared.Held.TheVariants.{Nothing, One, Two}
use Rattle.stream.specs.declared.Framing.{Framing}
use Rattle.stream.specs.declared.Framing.TheVariants.{Shut, Prefix, Body}
use Rattle.stream.specs.declared.Lead.{Lead}
use Rattle.stream.specs.declared.Lead.TheVariants.{On, Length}
use Rattle.stream.specs.Stream as streams
use Rattle.stream.specs.Stream.{limited, minimal, prefix_step, Stepped, led, step_of, store_of, run_of}
use Rattle.replies.specs.Lent.{Lent}
use Rattle.message.specs.Kinds.{put_value, get_value, find_node, ping, key_fits}
use Rattle.replies.specs.Verdicts.{Verdict, replies, refuses, keyed, echoed, put_verdict, Dealt, by_verdict}
use Rattle.answer.specs.Answers.{verdict_of, by_reading, deal_of}
use Rattle.connections.specs.declared.Conn.{Conn}
use Rattle.node.specs.declared.Answer.{Answer}
use Rattle.node.specs.declared.Answer.TheVariants.{Reply, Heard, More}
use Rattle.node.specs.Node.{Link, Dealing, by_answer, served, heard_as, heard, dealing_of, by_event}
use Rattle.demands.proofs.Deal.{deal-is}
use Rattle.std.specs.Prelude.{Ok, Err, Some, None, Result, Option}
use Rattle.message.specs.declared.Fields.{Fields}

abbrev pub Above : Refusal → Type 0
Above r = 1 ≤ number_of r

-- "3 to 11 .. shut the connection when raised on it"
abbrev pub Raised : Refusal → Type 0
Raised r = (3 ≤ number_of r) × (number_of r ≤ 11)

-- ---- the framing: 3 and 4
abbrev LeadRaised : Result Lead Refusal → Type 0
LeadRaised (Ok (On h)) = Unit {0}
LeadRaised (Ok (Length n)) = Unit {0}
LeadRaised (Err r) = Raised r

abbrev pub FramedRaised : Result (Option ℕ) Refusal → Type 0
FramedRaised (Ok (Some n)) = Unit {0}
FramedRaised (Err r) = Raised r
FramedRaised (Ok None) = Unit {0}

limited-raised : (n : ℕ) → LeadRaised (limited n)
unfolding limited
limited-raised n = cond_ind LeadRaised (ltb most_body n) _ _ (λ h. (omega arith, omega arith)) (λ h. tt)

minimal-raised : (z n : ℕ) → LeadRaised (minimal z n)
unfolding minimal
minimal-raised z n = cond_ind LeadRaised (eqb z 0) _ _ (λ h. (omega arith, omega arith)) (λ h. limited-raised n)

prefix-raised : (h : Held) (z : ℕ) → LeadRaised (prefix_step h z)
unfolding prefix_step
prefix-raised Nothing z = cond_ind LeadRaised (ltb z 128) _ _ (λ h. limited-raised z) (λ h. tt)
prefix-raised (One a) z = cond_ind LeadRaised (ltb z 128) _ _ (λ h. minimal-raised z (a % 128 + z * 128)) (λ h. tt)
prefix-raised (Two a b) z = cond_ind LeadRaised (ltb z 128) _ _ (λ h. minimal-raised z (a % 128 + b % 128 * 128 + z * 16384)) (λ h. (omega arith, omega arith))

abbrev StepRaised : Stepped → Type 0
StepRaised s = FramedRaised s.answer

led-raised : (l : Result Lead Refusal) → LeadRaised l → StepRaised (led l)
led-raised (Ok (On h)) a = tt
led-raised (Ok (Length n)) a = cond_ind StepRaised (eqb n 0) _ _ (λ h. tt) (λ h. tt)
led-raised (Err r) a = a

step-raised : (f : Framing) (b : ℕ) → StepRaised (step_of f b)
step-raised Shut b = tt
step-raised (Prefix h) b = led-raised (prefix_step h b) (prefix-raised h b)
step-raised (Body want have) b = cond_ind StepRaised (eqb (suc have) want) _ _ (λ h. tt) (λ h. tt)

after-raised : (w : Result (Option ℕ) Refusal) (f : Framing) (m : List ℕ) (o : streams.Out) → FramedRaised w → FramedRaised o.got.answer
    → FramedRaised (streams.after w f m o).got.answer
after-raised (Ok (Some n)) f m o h g = h
after-raised (Err r) f m o h g = h
after-raised (Ok None) f m o h g = g

pub run-raised : (bs : List ℕ) (f : Framing) (m : List ℕ) → FramedRaised (run_of f m bs).got.answer
unfolding run_of
run-raised [] f m = tt
run-raised (b ∷ bs) f m =
    after-raised (step_of f b).answer (step_of f b).framing (store_of f m b) (run_of (step_of f b).framing (store_of f m b) bs) (step-raised f b)
    (run-raised bs (step_of f b).framing (store_of f m b))

-- ---- the reader: 4 to 6
abbrev ReadRaised : Result Fields Refusal → Type 0
ReadRaised (Err r) = Raised r
ReadRaised (Ok f) = Unit {0}

read-raised : (body : List ℕ) → ReadRaised (reading_of body)
unfolding reading_of
read-raised body =
    cond_ind ReadRaised (ltb most_body (length body)) _ _ (λ e. (omega arith, omega arith))
    (λ e. cond_ind ReadRaised (not (well_message body)) _ _ (λ e. (omega arith, omega arith))
    (λ e. cond_ind ReadRaised (ltb most_kind (fields_of body).kind) _ _ (λ e. (omega arith, omega arith)) (λ e. tt)))

-- ---- the store: 8 to 11
abbrev PlanRaised : Result (Option ℕ) Refusal → Type 0
PlanRaised (Ok (Some i)) = Unit {0}
PlanRaised (Ok None) = Unit {0}
PlanRaised (Err r) = Raised r

plan-raised : (k key v : List ℕ) → PlanRaised (plan_of k key v)
unfolding plan_of held_plan
plan-raised k key v =
    cond_ind PlanRaised (not (is_key key)) _ _ (λ e. (omega arith, omega arith))
    (λ e. cond_ind PlanRaised (not (is_recipe v)) _ _ (λ e. (omega arith, omega arith))
    (λ e. cond_ind PlanRaised (ltb (slot_with k key) (slots_of k)) _ _
    (λ e. cond_ind PlanRaised (same (value_of (slot k (slot_with k key))) v) _ _ (λ e. tt)
    (λ e. cond_ind PlanRaised (outranks (value_of (slot k (slot_with k key))) v) _ _ (λ e. (omega arith, omega arith)) (λ e. tt)))
    (λ e. cond_ind PlanRaised (ltb (free_slot k) (slots_of k)) _ _ (λ e. tt) (λ e. (omega arith, omega arith)))))

-- ---- the verdict: 7 to 11
abbrev VerdictRaised : Verdict → Type 0
VerdictRaised (replies m) = Unit {0}
VerdictRaised (refuses r) = Raised r

echo-raised : (p : Result (Option ℕ) Refusal) (m : Message) → PlanRaised p → VerdictRaised (echoed (answer_of p) m)
unfolding answer_of
echo-raised (Ok (Some i)) m a = tt
echo-raised (Ok None) m a = tt
echo-raised (Err r) m a = a

put-raised : (key : List ℕ) (h : Option Record) (k : List ℕ) → VerdictRaised (put_verdict key h k)
unfolding put_verdict offer_answer
put-raised key None k = (omega arith, omega arith)
put-raised key (Some r) k =
    cond_ind VerdictRaised (same r.key key) _ _ (λ e. echo-raised (plan_of k key r.value) _ (plan-raised k key r.value)) (λ e. (omega arith, omega arith))

keyed-raised : (key : List ℕ) (m : Message) → VerdictRaised (keyed key m)
unfolding keyed
keyed-raised key m = cond_ind VerdictRaised (key_fits key) _ _ (λ e. tt) (λ e. (omega arith, omega arith))

verdict-raised : (me who : Peer) (m : Message) (l : Lent) → VerdictRaised (verdict_of me who m l)
unfolding verdict_of
verdict-raised me who m l =
    cond_ind VerdictRaised (eqb m.kind put_value) _ _ (λ e. put-raised m.key m.held l.records)
    (λ e. cond_ind VerdictRaised (eqb m.kind get_value) _ _ (λ e. keyed-raised m.key _)
    (λ e. cond_ind VerdictRaised (eqb m.kind find_node) _ _ (λ e. keyed-raised m.key _)
    (λ e. cond_ind VerdictRaised (eqb m.kind ping) _ _ (λ e. tt) (λ e. (omega arith, omega arith)))))

-- ---- a request: 4 to 11
abbrev ToldRaised : Result ℕ Refusal → Type 0
ToldRaised (Err r) = Raised r
ToldRaised (Ok n) = Unit {0}

by-verdict-raised : (v : Verdict) (next l : Lent) → VerdictRaised v → ToldRaised (by_verdict v next l).told
by-verdict-raised (replies m) next l a = tt
by-verdict-raised (refuses r) next l a = a

by-reading-raised : (r : Result Fields Refusal) (me who : Peer) (m : Message) (l : Lent) → ReadRaised r → ToldRaised (by_reading r me who m l).told
by-reading-raised (Err r) me who m l a = a
by-reading-raised (Ok f) me who m l a = by-verdict-raised (verdict_of me who m l) _ l (verdict-raised me who m l)

deal-raised : (me who : Peer) (body : List ℕ) (l : Lent) → ToldRaised (deal_of me who body l).told
deal-raised me who body l =
    subst (λ (d : Dealt). ToldRaised d.told) (sym (deal-is me who body l)) (by-reading-raised (reading_of body) me who (message_of body) l (read-raised body))

-- ---- an event on a connection: 3 to 11
abbrev pub AnswerRaised : Result Answer Refusal → Type 0
AnswerRaised (Ok (Reply n)) = Unit {0}
AnswerRaised (Ok (Heard n f)) = Unit {0}
AnswerRaised (Err r) = Raised r
AnswerRaised (Ok More) = Unit {0}

heard-raised : (n : ℕ) (r : Result Fields Refusal) → ReadRaised r → AnswerRaised (heard_as n r)
heard-raised n (Ok f) a = tt
heard-raised n (Err r) a = a

served-raised : (x : Result ℕ Refusal) (after : Lent) (me : Peer) (c : Conn) (l : Lent) → ToldRaised x → AnswerRaised (by_answer x after me c l).answer
served-raised (Err r) after me c l a = a
served-raised (Ok n) after me c l a = tt

dealing-raised : (me : Peer) (c : Conn) (body : List ℕ) (l : Lent) → AnswerRaised (dealing_of me c body l).answer
unfolding dealing_of heard served
dealing-raised me c body l =
    let d = deal_of me c.peer body l in
    cond_ind (λ (x : Dealing). AnswerRaised x.answer) c.asking _ _ (λ e. heard-raised (length body) (reading_of body) (read-raised body))
    (λ e. served-raised d.told d.left me c l (deal-raised me c.peer body l))

pub event-raised : (me : Peer) (w : Result (Option ℕ) Refusal) (link : Link) (n : ℕ) (l : Lent) → FramedRaised w → AnswerRaised (by_event w me link n l).got.answer
event-raised me (Ok (Some size)) link n l a = dealing-raised me link.conn (take size link.buffer) l
event-raised me (Err r) link n l a = a
event-raised me (Ok None) link n l a = tt

-- so none is 0
abbrev pub AnswerAbove : Result Answer Refusal → Type 0
AnswerAbove (Ok (Reply n)) = Unit {0}
AnswerAbove (Ok (Heard n f)) = Unit {0}
AnswerAbove (Err r) = Above r
AnswerAbove (Ok More) = Unit {0}

pub raised-above : (x : Result Answer Refusal) → AnswerRaised x → AnswerAbove x
raised-above (Ok (Reply n)) a = tt
raised-above (Ok (Heard n f)) a = tt
raised-above (Err r) a = omega (arith, a.0)
raised-above (Ok More) a = tt

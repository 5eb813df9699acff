-- Memory in form stays so, and then no call gives 0.
use Prim.Native.Nat.{ℕ, ◌≤◌}
use mathlib.Core.Path.{◌≡◌, sym, ap, ◌∙◌, subst}
use mathlib.Core.Logic.{⊎_elim}
use mathlib.Core.Bool.{Bool, true, false, cond, not, ◌||◌}
use mathlib.Core.List.{List}
use native.Mathlib.Omega.{arith}
use lib.Dec.{ltb, leb}
use borrow.Author.Tests.{not-true}
use Rattle.octets.proofs.Bools.{either, not-both, cond_ind, cond_yes}
use Rattle.refusal.specs.declared.Refusal.TheVariants.{OutOfForm}
use Rattle.place.specs.Place.{place_of, bucket_of}
use Rattle.peer.specs.declared.Peer.{Peer}
use Rattle.peer.specs.Peers.{bad_peer, peer_of}
use Rattle.contacts.specs.Table.{slots_of as contact_slots}
use Rattle.contacts.specs.Form.{in_form as contacts_form}
use Rattle.sightings.specs.Order.{free_at, tail_of}
use Rattle.sightings.specs.Sightings.{held, newcomer, sighting_of, fits, settlement_of, removal_of, marking_of}
use Rattle.sightings.specs.declared.Sighting.{Sighting}
use Rattle.sightings.specs.declared.Sighting.TheVariants as seen_answer
use Rattle.sightings.specs.declared.Settled.{Settled}
use Rattle.sightings.specs.declared.Settled.TheVariants as settle_answer
use Rattle.contact_calls.specs.Calls.{seen_call, settle_call, remove_call, doubt_call}
use Rattle.records.specs.Store.{in_form as records_form, slots_of, slot_with, held_at, found, find_of}
use Rattle.records_history.proofs.Stays.{never-0}
use Rattle.lookup.specs.declared.Answer.{Answer as LookupAnswer}
use Rattle.lookup.specs.declared.Answer.TheVariants as lookup_answer
use Rattle.lookup.specs.Value.{Lookup, Step}
use Rattle.message.specs.Kinds.{key_fits}
use Rattle.lookup.specs.Lookup.{limit_fits, id_fits, marks_of, settled, begun, start_of}
use Rattle.lookup_marks.specs.Marks.{is_over}
use Rattle.lookup_runs.proofs.Refusals.{refusals}
use Rattle.lookup_runs.proofs.Theorems.{claims}
use Rattle.stream.specs.declared.Framing.{Framing}
use Rattle.stream.specs.declared.Framing.TheVariants.{Shut, Prefix, Body}
use Rattle.stream.specs.declared.Held.TheVariants.{Nothing, One, Two}
use Rattle.stream.specs.declared.Ended as stream_end
use Rattle.stream.specs.Stream as streams
use Rattle.stream.specs.Stream.{is_shut, in_form, run_of, end_in, end_of}
use Rattle.stream.proofs.Steps.{call-runs}
use Rattle.cutting.specs.World.{Line, Fine}
use Rattle.node.specs.declared.Answer.{Answer}
use Rattle.connections.specs.declared.Ended.{Ended}
use Rattle.connections.specs.declared.Opened.{Opened}
use Rattle.host_calls.specs.declared.Nearby.{Nearby}
use Rattle.connections.specs.Box.{own_fits, open_of, end_conn}
use Rattle.node.specs.Node.{linked, Out, taken_of, unless, receive_of}
use Rattle.host_calls.specs.Hosts.{seen_of, settle_of, remove_of, doubt_of, nearest_to, own_id, lookup_start}
use Rattle.demands.specs.Box as box
use Rattle.demands.specs.Box.{Box, Who, conn_of, link_of, Own, Allowed, Good}
use Rattle.demands.specs.Demands.{NeverOutOfForm}
use Rattle.demands.proofs.Connections.{conn-form, gate-shut, gate-open}
use Rattle.demands.proofs.Receives.{let_through, runs_as}
use Rattle.demands.proofs.Refusals.{Above, AnswerRaised, AnswerAbove, raised-above, run-raised, event-raised}
use Rattle.demands.proofs.Sound.{sound}
use Rattle.demands.proofs.Ready.{calls-ready}
use Rattle.std.specs.Prelude.{Ok, Err, Some, None, Result, Option, ⊤}
use Rattle.records.specs.declared.Held.{Held}
use Rattle.refusal.specs.declared.Refusal.{Refusal}

-- a test of form that passes
passes : {X : Type 0} (b : Bool) → b ≡ true → not b ≡ true → X
passes b h e = absurd (not-both b h (not-true b e))

-- ---- receiving
module _ (me : Peer) where
  shut-answer : (l : Line Who) (a : Box) (bs : List ℕ) → Fine (Allowed me) l → Good me a → is_shut l.framing ≡ true
      → AnswerAbove (receive_of me (link_of l) bs a.lent).got.answer
  unfolding receive_of
  shut-answer l a bs f g e =
      subst (λ (x : Result ⊤ Refusal). AnswerAbove (unless x (link_of l) a.lent (taken_of me (link_of l) bs a.lent)).got.answer)
      (sym (gate-shut me l a f e g)) (omega arith)

  pub open-answer : Own me → (l : Line Who) (a : Box) (bs : List ℕ) → Fine (Allowed me) l → Good me a → is_shut l.framing ≡ false
      → AnswerRaised (receive_of me (link_of l) bs a.lent).got.answer
  open-answer w l a bs f g e =
      let o : streams.Out = run_of l.framing l.buffer bs in
      subst (λ (x : Out). AnswerRaised x.got.answer)
      (sym (let_through me l bs a.lent (gate-open me w l a f e g)
      ∙ runs_as me l bs a.lent o (call-runs l.framing l.buffer bs f.form f.room e)))
      (event-raised me o.got.answer (linked (conn_of l.who o.got.framing) o.buffer) o.got.taken a.lent
      (run-raised bs l.framing l.buffer))

  receive-never : Own me → (l : Line Who) (a : Box) (bs : List ℕ) → Fine (Allowed me) l → Good me a
      → (receive_of me (link_of l) bs a.lent).got.answer ≡ Err OutOfForm → ⊥
  receive-never w l a bs f g e =
      let x : (Result Answer Refusal) = (receive_of me (link_of l) bs a.lent).got.answer in
      let h : 1 ≤ 0 =
      subst AnswerAbove e (⊎_elim (shut-answer l a bs f g) (λ o. raised-above x (open-answer w l a bs f g o)) (either (is_shut l.framing))) in
      omega arith

-- ---- ending
abbrev EndAbove : Result ⊤ Refusal → Type 0
EndAbove (Ok tt) = Unit {0}
EndAbove (Err r) = Above r

end-in : (f : Framing) → EndAbove (end_in f).answer
end-in Shut = omega arith
end-in (Prefix Nothing) = tt
end-in (Prefix (One a)) = omega arith
end-in (Prefix (Two a b)) = omega arith
end-in (Body want have) = omega arith

end-above : (me : Peer) (l : Line Who) → Fine (Allowed me) l → EndAbove (end_conn me (conn_of l.who l.framing)).answer
unfolding end_conn end_of
end-above me l f =
    subst (λ (x : Ended). EndAbove x.answer) (sym (cond_yes _ _ _ (conn-form me l f)))
    (cond_ind (λ (x : stream_end.Ended). EndAbove x.answer) (not (in_form l.framing)) _ _ (passes (in_form l.framing) f.form)
    (λ e. end-in l.framing))

end-never : (me : Peer) (l : Line Who) → Fine (Allowed me) l → (end_conn me (conn_of l.who l.framing)).answer ≡ Err OutOfForm → ⊥
end-never me l f e = let h : 1 ≤ 0 = subst EndAbove e (end-above me l f) in omega arith

-- ---- contacts
abbrev SeenAbove : Result Sighting Refusal → Type 0
SeenAbove (Ok (seen_answer.Moved i)) = Unit {0}
SeenAbove (Ok (seen_answer.Joined i)) = Unit {0}
SeenAbove (Ok (seen_answer.Probe h)) = Unit {0}
SeenAbove (Err r) = Above r

abbrev SettleAbove : Result Settled Refusal → Type 0
SettleAbove (Ok settle_answer.Kept) = Unit {0}
SettleAbove (Ok settle_answer.Swapped) = Unit {0}
SettleAbove (Err r) = Above r

abbrev RemoveAbove : Result ⊤ Refusal → Type 0
RemoveAbove (Ok tt) = Unit {0}
RemoveAbove (Err r) = Above r

abbrev DoubtAbove : Result ⊤ Refusal → Type 0
DoubtAbove (Ok tt) = Unit {0}
DoubtAbove (Err r) = Above r

abbrev ToldAbove : Result ⊤ Refusal → Type 0
ToldAbove (Ok tt) = Unit {0}
ToldAbove (Err r) = Above r

open_above : (me : Peer) (id : List ℕ) (server asking : Bool) (addresses : List ℕ) → ToldAbove (open_of me id server asking addresses).told
unfolding open_of
open_above me id server asking addresses =
    cond_ind (λ (o : Opened). ToldAbove o.told) (not (own_fits me) || bad_peer me.place id) _ _ (λ e. omega arith) (λ e. tt)

sighting-above : (t ours : List ℕ) (p : Peer) → SeenAbove (sighting_of t ours p)
unfolding sighting_of newcomer
sighting-above t ours p =
    cond_ind SeenAbove (held t p.place) _ _ (λ e. tt)
    (λ e. cond_ind SeenAbove (leb 20 (tail_of t ours (bucket_of p.place ours))) _ _ (λ e. tt)
    (λ e. cond_ind SeenAbove (ltb (free_at t) (contact_slots t)) _ _ (λ e. tt) (λ e. omega arith)))

-- ---- lookups
abbrev LookupAbove : Result LookupAnswer Refusal → Type 0
LookupAbove (Err r) = Above r
LookupAbove (Ok (lookup_answer.Complete n)) = Unit {0}
LookupAbove (Ok (lookup_answer.CutShort n)) = Unit {0}
LookupAbove (Ok lookup_answer.Wait) = Unit {0}
LookupAbove (Ok (lookup_answer.Ask i)) = Unit {0}
LookupAbove (Ok lookup_answer.Going) = Unit {0}

settled-above : (l : Lookup) → LookupAbove (settled l).answer
unfolding settled
settled-above l =
    cond_ind (λ (s : Step). LookupAbove s.answer) (is_over (marks_of l)) _ _ (λ e. cond_ind LookupAbove l.turned _ _ (λ e. tt) (λ e. tt)) (λ e. tt)

module _ (me : Peer) (t : List ℕ) (form : contacts_form t me.place ≡ true) where
  seen-above : (id : List ℕ) (client : Bool) (addresses : List ℕ) → SeenAbove (seen_of me t id client addresses)
  unfolding seen_of seen_call
  seen-above id client addresses =
      cond_ind SeenAbove (not (contacts_form t me.place)) _ _ (passes (contacts_form t me.place) form)
      (λ e. cond_ind SeenAbove (not (own_fits me)) _ _ (λ e. omega arith)
      (λ e. cond_ind SeenAbove (not (contacts_form t me.place)) _ _ (passes (contacts_form t me.place) form)
      (λ e. cond_ind SeenAbove (bad_peer me.place id) _ _ (λ e. omega arith)
      (λ e. cond_ind SeenAbove client _ _ (λ e. omega arith) (λ e. sighting-above t me.place (peer_of id (place_of id) addresses))))))

  settle-above : (head id : List ℕ) (client : Bool) (addresses : List ℕ) (answered : Bool) → SettleAbove (settle_of me t head id client addresses answered)
  unfolding settle_of settle_call settlement_of
  settle-above head id client addresses answered =
      cond_ind SettleAbove (not (contacts_form t me.place)) _ _ (passes (contacts_form t me.place) form)
      (λ e. cond_ind SettleAbove (not (own_fits me)) _ _ (λ e. omega arith)
      (λ e. cond_ind SettleAbove (not (contacts_form t me.place)) _ _ (passes (contacts_form t me.place) form)
      (λ e. cond_ind SettleAbove (bad_peer me.place head) _ _ (λ e. omega arith)
      (λ e. cond_ind SettleAbove (bad_peer me.place id) _ _ (λ e. omega arith)
      (λ e. cond_ind SettleAbove (not (fits t me.place (place_of head) (place_of id))) _ _ (λ e. omega arith)
      (λ e. cond_ind SettleAbove client _ _ (λ e. omega arith) (λ e. cond_ind SettleAbove (fits t me.place (place_of head) (peer_of id (place_of id) addresses).place) _ _ (λ e. cond_ind SettleAbove answered _ _ (λ e. tt) (λ e. tt)) (λ e. omega arith))))))))

  remove-above : (id : List ℕ) → RemoveAbove (remove_of me t id)
  unfolding remove_of remove_call removal_of
  remove-above id =
      cond_ind RemoveAbove (not (contacts_form t me.place)) _ _ (passes (contacts_form t me.place) form)
      (λ e. cond_ind RemoveAbove (not (own_fits me)) _ _ (λ e. omega arith)
      (λ e. cond_ind RemoveAbove (not (contacts_form t me.place)) _ _ (passes (contacts_form t me.place) form)
      (λ e. cond_ind RemoveAbove (bad_peer me.place id) _ _ (λ e. omega arith)
      (λ e. cond_ind RemoveAbove (held t (place_of id)) _ _ (λ e. tt) (λ e. omega arith)))))

  doubt-above : (id : List ℕ) → DoubtAbove (doubt_of me t id)
  unfolding doubt_of doubt_call marking_of
  doubt-above id =
      cond_ind DoubtAbove (not (contacts_form t me.place)) _ _ (passes (contacts_form t me.place) form)
      (λ e. cond_ind DoubtAbove (not (own_fits me)) _ _ (λ e. omega arith)
      (λ e. cond_ind DoubtAbove (not (contacts_form t me.place)) _ _ (passes (contacts_form t me.place) form)
      (λ e. cond_ind DoubtAbove (bad_peer me.place id) _ _ (λ e. omega arith)
      (λ e. cond_ind DoubtAbove (held t (place_of id)) _ _ (λ e. tt) (λ e. omega arith)))))

  nearest-above : (key : List ℕ) → ToldAbove (nearest_to me t key).told
  unfolding nearest_to
  nearest-above key =
      step (not (contacts_form t me.place)) _ _ (passes (contacts_form t me.place) form)
      (λ e. step (not (key_fits key)) _ _ (λ e. omega arith) (λ e. step (not (own_fits me)) _ _ (λ e. omega arith) (λ e. tt)))
    where
      step : (b : Bool) (x y : Nearby) → (b ≡ true → ToldAbove x.told) → (b ≡ false → ToldAbove y.told) → ToldAbove (cond b x y).told
      step = cond_ind (λ (n : Nearby). ToldAbove n.told)

  -- ---- a lookup's start
  start-above : (key : List ℕ) (limit : ℕ) → LookupAbove (lookup_start me t key limit).answer
  unfolding lookup_start start_of
  start-above key limit =
      go (not (contacts_form t me.place)) _ _ (passes (contacts_form t me.place) form)
      (λ e. go (not (key_fits key)) _ _ (λ e. omega arith)
      (λ e. go (not (id_fits (own_id me))) _ _ (λ e. omega arith)
      (λ e. go (not (limit_fits limit)) _ _ (λ e. omega arith) (λ e. settled-above (begun t key limit)))))
    where
      go : (b : Bool) (x y : Step) → (b ≡ true → LookupAbove x.answer) → (b ≡ false → LookupAbove y.answer) → LookupAbove (cond b x y).answer
      go = cond_ind (λ (s : Step). LookupAbove s.answer)

-- ---- records
abbrev FoundAbove : Result (Option Held) Refusal → Type 0
FoundAbove (Ok (Some h)) = Unit {0}
FoundAbove (Ok None) = Unit {0}
FoundAbove (Err r) = Above r

find-above : (k key : List ℕ) → records_form k ≡ true → FoundAbove (find_of k key)
unfolding find_of found held_at
find-above k key form =
    cond_ind FoundAbove (not (records_form k)) _ _ (passes (records_form k) form)
    (λ e. cond_ind FoundAbove (ltb (slot_with k key) (slots_of k)) _ _ (λ e. tt) (λ e. tt))

-- ---- all of them
no_zero : 1 ≤ 0 → ⊥
no_zero h = omega arith

pub never-out-of-form : (me : Peer) → Own me → NeverOutOfForm me
unfolding lookup_start
never-out-of-form me w =
    record {
      kept = λ s r cs f. calls-ready (box.box me) (sound me w) cs s r f;
      receive = λ l a bs f g e. receive-never me w l a bs f g e;
      opens = λ id server asking addresses e. no_zero (subst ToldAbove e (open_above me id server asking addresses));
      end = λ l f e. end-never me l f e;
      seen = λ a id client addresses g e. no_zero (subst SeenAbove e (seen-above me a.lent.contacts g.contacts id client addresses));
      settle = λ a head id client addresses answered g e. no_zero (subst SettleAbove e (settle-above me a.lent.contacts g.contacts head id client addresses answered));
      remove = λ a id g e. no_zero (subst RemoveAbove e (remove-above me a.lent.contacts g.contacts id));
      doubt = λ a id g e. no_zero (subst DoubtAbove e (doubt-above me a.lent.contacts g.contacts id));
      nearest = λ a key g e. no_zero (subst ToldAbove e (nearest-above me a.lent.contacts g.contacts key));
      put = λ a key value g e. never-0 a.lent.records key value g.records e;
      find = λ a key g e. no_zero (subst FoundAbove e (find-above a.lent.records key g.records));
      start = λ a key limit g e. no_zero (subst LookupAbove e (start-above me a.lent.contacts g.contacts key limit));
      lookup = λ t key limit s cs c v e. (claims t (own_id me) me.place key limit s).never0 cs c v e;
      empty = λ t key limit r e cs c. ap (λ (s : Step). s.answer) (refusals.later t (own_id me) me.place key limit r e cs c);
    }

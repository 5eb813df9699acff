-- Refused calls change nothing. Assumes nothing.
use Prim.Native.Nat.{ℕ, ◌<◌}
use mathlib.Core.Path.{◌≡◌, refl, sym, ap, ◌∙◌, subst}
use mathlib.Core.Logic.{◌⊎◌, inl, inr, ⊎_elim}
use mathlib.Core.Bool.{Bool, true, false, cond, not, ◌||◌}
use mathlib.Core.List.{List}
use native.Mathlib.Omega.{arith}
use lib.ListN.{length}
use lib.Dec.{ltb}
use Rattle.octets.proofs.Bools.{cond_ind, cond_no, either}
use Rattle.limits.specs.Limits.{most_body, least_reply}
use Rattle.refusal.specs.declared.Refusal.{Refusal}
use Rattle.refusal.specs.declared.Refusal.TheVariants as no
use Rattle.peer.specs.declared.Peer.{Peer}
use Rattle.peer.specs.Peers.{bad_peer, id_fits}
use Rattle.contacts.specs.Form.{in_form as contacts_form}
use Rattle.records.specs.Store.{in_form as records_form}
use Rattle.replies.specs.Lent.{Lent}
use Rattle.message.specs.Kinds.{key_fits}
use Rattle.sightings.specs.declared.Sighting.{Sighting}
use Rattle.sightings.specs.declared.Settled.{Settled}
use Rattle.contact_calls.specs.Calls.{seen_call, seen_call_table, settle_call, settle_call_table, remove_call, remove_call_table, doubt_call, doubt_call_table, seen_number, settle_number, remove_number, doubt_number}
use Rattle.contact_calls.proofs.Claims as calls
use Rattle.stream.specs.declared.Framing.TheVariants as framing
use Rattle.stream.specs.Stream.{is_shut}
use Rattle.connections.specs.declared.Conn.{Conn}
use Rattle.connections.specs.declared.Ended.{Ended}
use Rattle.connections.specs.declared.Started.{Started}
use Rattle.connections.specs.declared.Opened.{Opened}
use Rattle.host_calls.specs.declared.Nearby.{Nearby}
use Rattle.node.specs.declared.Answer.{Answer}
use Rattle.node.specs.declared.Answer.TheVariants.{Reply, More}
use Rattle.connections.specs.Box.{own_fits, nobody, start_of, with_framing, open_of, conn_form, end_conn}
use Rattle.node.specs.Node.{Link, Dealing, Out, gate_of, done, shut_if, dealing_of, heard, receive_of}
use Rattle.host_calls.specs.Hosts.{seen_of, seen_after, settle_of, settle_after, remove_of, remove_after, nearest_to}
use Rattle.host_contacts.proofs.Hosting.{seen-on, seen-off, settle-on, settle-off, remove-on, remove-off, doubt-on, doubt-off}
use Rattle.node_promises.specs.Promises.{Unchanged, NotTaken, Early, Refuses, ReceiveRefused, CallsRefused, ValuesRefused}
use Rattle.node_promises.proofs.Cases.{deal-cases, afterwards, cases, open-cases}
use Rattle.std.specs.Prelude.{Ok, Err, None, Result, ⊤}

-- ---- two outcomes that are told apart
more-not : {X : Type 0} (r : Refusal) → (Ok More) ≡ Err r → X
more-not r e = absurd (let z : ◌≡◌ {A = ℕ} 0 1 = cc in omega arith)

reply-not : {X : Type 0} (n : ℕ) (r : Refusal) → (Ok (Reply n)) ≡ Err r → X
reply-not n r e = absurd (let z : ◌≡◌ {A = ℕ} 0 1 = cc in omega arith)

open-not : {X : Type 0} (s : Refusal) → ◌≡◌ {A = Result ⊤ Refusal} (Err s) (Ok tt) → X
open-not s e = absurd (let z : ◌≡◌ {A = ℕ} 0 1 = cc in omega arith)

fine-not : {X : Type 0} (r : Refusal) → ◌≡◌ {A = Result ⊤ Refusal} (Ok tt) (Err r) → X
fine-not r e = absurd (let z : ◌≡◌ {A = ℕ} 0 1 = cc in omega arith)

same-refusal : {T : Type 0} (s r : Refusal) → ◌≡◌ {A = Result T Refusal} (Err s) (Err r) → s ≡ r
same-refusal s r e = cc

-- ---- the gate
abbrev GateEarly : Result ⊤ Refusal → Type 0
GateEarly g = (s : Refusal) → g ≡ Err s → Early s

gate-early : (me : Peer) (link : Link) (l : Lent) → GateEarly (gate_of me link l)
unfolding gate_of
gate-early me link l =
    cond_ind GateEarly (not (contacts_form l.contacts me.place)) _ _ (λ h. zero)
    (λ h. cond_ind GateEarly (not (records_form l.records)) _ _ (λ h. zero)
    (λ h. cond_ind GateEarly (not (conn_form me link.conn)) _ _ (λ h. zero)
    (λ h. cond_ind GateEarly (ltb (length link.buffer) most_body) _ _ (λ h. one)
    (λ h. cond_ind GateEarly (ltb (length l.reply) least_reply) _ _ (λ h. one)
    (λ h. cond_ind GateEarly (is_shut link.conn.framing) _ _ (λ h s e. inr (inr (inl (sym (same-refusal no.Shut s e)))))
    (λ h. cond_ind GateEarly (not (own_fits me)) _ _ (λ h s e. inr (inr (inr (sym (same-refusal no.BadPeer s e))))) (λ h s e. open-not s (sym e))))))))
  where
    zero : GateEarly (Err no.OutOfForm)
    zero s e = inl (sym (same-refusal no.OutOfForm s e))

    one : GateEarly (Err no.SmallBuffer)
    one s e = inr (inl (sym (same-refusal no.SmallBuffer s e)))

-- ---- receive
module _ (me : Peer) (link : Link) (bs : List ℕ) (l : Lent) (r : Refusal) where
  record Same (d : Dealing) : Type 0 where
    left : d.left ≡ l
    sight : d.sight ≡ None

  abbrev Kept : Dealing → Type 0
  Kept d = d.answer ≡ Err r → Same d

  deal-kept : (c' : Conn) (body : List ℕ) → Kept (dealing_of me c' body l)
  unfolding heard
  deal-kept c' body =
      deal-cases me c' body l Kept (λ e. record { left = refl; sight = refl })
      (λ x e. record { left = refl; sight = refl }) (λ n e. reply-not n r e)

  abbrev Holds : Out → Type 0
  Holds o = o.got.answer ≡ Err r → Unchanged l o

  unchanged : Holds (receive_of me link bs l)
  unchanged =
      cases me link bs l Holds (λ s h e. record { left = refl; sight = refl })
      (λ g n e. let s = deal-kept (afterwards me link bs l) _ e in record { left = s.left; sight = s.sight })
      (λ g x e. record { left = refl; sight = refl }) (λ g e. record { left = refl; sight = refl })

  abbrev Shuts : Out → Type 0
  Shuts o = o.got.answer ≡ Err r → o.got.conn ≡ with_framing link.conn framing.Shut

  shuts : gate_of me link l ≡ Ok tt → Shuts (receive_of me link bs l)
  shuts g = open-cases me link bs l g Shuts (λ n. shut_by) (λ x. shut_by) shut_by
    where
      shut_by : {a : (Result Answer Refusal)} → a ≡ Err r → shut_if a (afterwards me link bs l) ≡ with_framing link.conn framing.Shut
      shut_by e = ap (λ (a : Result Answer Refusal). shut_if a (afterwards me link bs l)) e

  abbrev Stays : Refusal → Out → Type 0
  Stays s o = o.got.answer ≡ Err r → (s ≡ r) × NotTaken link o

  stays : (s : Refusal) → gate_of me link l ≡ Err s → Stays s (receive_of me link bs l)
  stays s g =
      cases me link bs l (Stays s) (λ x h e. (same-refusal s x (sym g ∙ h) ∙ same-refusal x r e, record { taken = refl; conn = refl; buffer = refl }))
      (λ h n. open-not s (sym g ∙ h)) (λ h x. open-not s (sym g ∙ h)) (λ h. open-not s (sym g ∙ h))

  refuses : (receive_of me link bs l).got.answer ≡ Err r → Refuses me link bs l r
  refuses e =
      record {
        unchanged = unchanged e;
        closed = λ s g. let w = stays s g e in (w.0, subst Early w.0 (gate-early me link l s g), w.1);
        shuts = λ g. shuts g e;
      }

pub receive-refused : ReceiveRefused
receive-refused me link bs l r e = refuses me link bs l r e

-- ---- the host's calls
own-cases : (C : Type 0) (me : Peer) → (own_fits me ≡ true → C) → (own_fits me ≡ false → C) → C
own-cases C me f g = ⊎_elim f g (either (own_fits me))

pub calls-refused : CallsRefused
calls-refused =
    record {
      sees = λ me t id client addresses l.
          own-cases _ me
          (λ h. let w = seen-on me t id client addresses (seen_call t me.place id client addresses) (seen_call_table t me.place id client addresses) h (refl, refl) in
          sym w.1 ∙ (calls.claims).seen_refused t me.place id client addresses (subst (λ (o : Result Sighting Refusal). seen_number o < 64) (sym w.0) l))
          (λ h. sym (seen-after-off me t id client addresses h));
      settles = λ me t head id client addresses answered l.
          own-cases _ me
          (λ h. let w = settle-on me t head id client addresses answered (settle_call t me.place head id client addresses answered) (settle_call_table t me.place head id client addresses answered) h (refl, refl) in
          sym w.1 ∙ (calls.claims).settle_refused t me.place head id client addresses answered (subst (λ (o : Result Settled Refusal). settle_number o < 64) (sym w.0) l))
          (λ h. sym (settle-off me t head id client addresses answered _ h refl).1);
      removes = λ me t id l.
          own-cases _ me
          (λ h. let w = remove-on me t id (remove_call t me.place id) (remove_call_table t me.place id) h (refl, refl) in
          sym w.1 ∙ (calls.claims).remove_refused t me.place id (subst (λ (o : Result ⊤ Refusal). remove_number o < 64) (sym w.0) l))
          (λ h. sym (remove-off me t id _ h refl).1);
      doubts = λ me t id l.
          own-cases _ me
          (λ h. let w = doubt-on me t id (doubt_call t me.place id) (doubt_call_table t me.place id) h (refl, refl) in
          sym w.1 ∙ (calls.claims).doubt_refused t me.place id (subst (λ (o : Result ⊤ Refusal). doubt_number o < 64) (sym w.0) l))
          (λ h. sym (doubt-off me t id _ h refl).1);
    }
  where
    seen-after-off : (me : Peer) (t id : List ℕ) (client : Bool) (addresses : List ℕ) → own_fits me ≡ false → t ≡ seen_after me t id client addresses
    seen-after-off me t id client addresses h = (seen-off me t id client addresses _ h refl).1

-- ---- calls that hand back values
abbrev StartNobody : Refusal → Started → Type 0
StartNobody r s = s.told ≡ Err r → s.me ≡ nobody

start-nobody : (id addresses : List ℕ) (r : Refusal) → StartNobody r (start_of id addresses)
unfolding start_of
start-nobody id addresses r = cond_ind (StartNobody r) (id_fits id) _ _ (λ h e. fine-not r e) (λ h e. refl)

abbrev OpensShut : Refusal → Opened → Type 0
OpensShut r o = o.told ≡ Err r → (o.conn.framing ≡ framing.Shut) × (o.conn.peer ≡ nobody)

opens-shut : (me : Peer) (id : List ℕ) (server asking : Bool) (addresses : List ℕ) (r : Refusal) → OpensShut r (open_of me id server asking addresses)
unfolding open_of
opens-shut me id server asking addresses r = cond_ind (OpensShut r) (not (own_fits me) || bad_peer me.place id) _ _ (λ h e. (refl, refl)) (λ h e. fine-not r e)

end-broken : (me : Peer) (c : Conn) → conn_form me c ≡ false → ((end_conn me c).conn ≡ c) × ((end_conn me c).answer ≡ Err no.OutOfForm)
unfolding end_conn
end-broken me c h = let q = cond_no (conn_form me c) _ _ h in (ap (λ (x : Ended). x.conn) q, ap (λ (x : Ended). x.answer) q)

abbrev NoneNear : Refusal → Nearby → Type 0
NoneNear r n = n.told ≡ Err r → n.closest.n ≡ 0

none-nearby : (me : Peer) (t key : List ℕ) (r : Refusal) → NoneNear r (nearest_to me t key)
unfolding nearest_to
none-nearby me t key r =
    cond_ind (NoneNear r) (not (contacts_form t me.place)) _ _ (λ h e. refl)
    (λ h. cond_ind (NoneNear r) (not (key_fits key)) _ _ (λ h e. refl) (λ h. cond_ind (NoneNear r) (not (own_fits me)) _ _ (λ h e. refl) (λ h e. fine-not r e)))

pub values-refused : ValuesRefused
values-refused = record { starts = start-nobody; opens = opens-shut; ending = end-broken; nearby = none-nearby }

-- On memory that stands for a world that is ready, no call gives 0. Assumes nothing.
use Prim.Native.Nat.{ℕ}
use mathlib.Core.Path.{◌≡◌, refl, sym, ap, ◌∙◌, subst}
use mathlib.Core.Bool.{Bool, false, not, ◌||◌, true≢false}
use mathlib.Core.List.{List}
use native.Mathlib.Omega.{arith}
use Rattle.octets.proofs.Bools.{cond_ind}
use Rattle.refusal.specs.declared.Refusal.{Refusal}
use Rattle.refusal.specs.declared.Refusal.TheVariants.{OutOfForm}
use Rattle.peer.specs.declared.Peer.{Peer}
use Rattle.peer.specs.Peers.{bad_peer}
use Rattle.sightings.specs.declared.Sighting.{Sighting}
use Rattle.sightings.specs.declared.Sighting.TheVariants as seen
use Rattle.sightings.specs.declared.Settled.{Settled}
use Rattle.sightings.specs.declared.Settled.TheVariants as settle
use Rattle.lookup.specs.Value.{Lookup, Step}
use Rattle.lookup.specs.declared.Answer as lookup
use Rattle.lookup.specs.declared.Answer.TheVariants as steps
use Rattle.lookup_runs.specs.Runs.{accepted, Call, go_next, go_reply, go_fail, step, outcome}
use Rattle.lookup_runs.specs.Claims.{Viewed}
use Rattle.cutting.specs.World.{World}
use Rattle.connections.specs.declared.Opened.{Opened}
use Rattle.connections.specs.Box.{own_fits, open_of}
use Rattle.node.specs.declared.Answer.{Answer}
use Rattle.node.specs.declared.Answer.TheVariants.{Reply, Heard, More}
use Rattle.flat.specs.Flat.{peer_size, peer_in, says_yes}
use Rattle.flat_lookup.specs.FlatLookup.{flat_size, lookup_in}
use Rattle.host_calls.specs.Hosts.{own_id, lookup_start, lookup_reply, lookup_failure}
use Rattle.host_numbers.specs.Numbers.{told_code, view_numbers, view_in}
use Rattle.contact_calls.specs.Calls.{seen_number, settle_number, remove_number, doubt_number}
use Rattle.host_answers.specs.Answers.{put_number, find_number}
use Rattle.host_state.specs.State.{ending_code, answer_number}
use Rattle.host_steps.specs.Steps.{step_number}
use Rattle.host.specs.Host.{lent, lent_both}
use Rattle.demands.specs.Box.{Box, Who, Ask}
use Rattle.demands.specs.Demands.{NeverOutOfForm}
use Rattle.demands.specs.Lookups.{start_in}
use Rattle.demands.proofs.Never.{never-out-of-form}
use Rattle.host_demands.specs.Calls.{Memory, History, Enough, lookup_next, lookup_replies, lookup_fails, next_step, reply_step, failure_step, returns, leaves_all, world_in, history_of}
use Rattle.host_demands.specs.Hosted.{Started, ReadyFor, FollowsAll, after, NeverZero, Formed, StepsFormed}
use Rattle.host_demands.proofs.Numbers.{number-zero}
use Rattle.host_demands.proofs.Connections.{lent-enough, both-enough}
use Rattle.host_demands.proofs.Asking.{long-enough, view-back}
use Rattle.host_demands.proofs.Running.{all-calls}
use Rattle.host_demands.proofs.Traced.{lookup-bytes-are-runs}
use Rattle.std.specs.Prelude.{Ok, Err, Some, None, Result, Option, ⊤}
use Rattle.records.specs.declared.Held.{Held}

-- ---- what 0 says
seen-zero : (x : Result Sighting Refusal) → seen_number x ≡ 0 → x ≡ Err OutOfForm
seen-zero (Ok (seen.Moved i)) e = absurd (omega (arith, e))
seen-zero (Ok (seen.Joined i)) e = absurd (omega (arith, e))
seen-zero (Ok (seen.Probe h)) e = absurd (omega (arith, e))
seen-zero (Err r) e = ap Err (number-zero r e)

settle-zero : (x : Result Settled Refusal) → settle_number x ≡ 0 → x ≡ Err OutOfForm
settle-zero (Ok settle.Kept) e = absurd (omega (arith, e))
settle-zero (Ok settle.Swapped) e = absurd (omega (arith, e))
settle-zero (Err r) e = ap Err (number-zero r e)

remove-zero : (x : Result ⊤ Refusal) → remove_number x ≡ 0 → x ≡ Err OutOfForm
remove-zero (Ok tt) e = absurd (omega (arith, e))
remove-zero (Err r) e = ap Err (number-zero r e)

doubt-zero : (x : Result ⊤ Refusal) → doubt_number x ≡ 0 → x ≡ Err OutOfForm
doubt-zero (Ok tt) e = absurd (omega (arith, e))
doubt-zero (Err r) e = ap Err (number-zero r e)

told-zero : (x : Result ⊤ Refusal) → told_code x ≡ 0 → x ≡ Err OutOfForm
told-zero (Ok tt) e = absurd (omega (arith, e))
told-zero (Err r) e = ap Err (number-zero r e)

put-zero : (x : Result ⊤ Refusal) → put_number x ≡ 0 → x ≡ Err OutOfForm
put-zero (Ok tt) e = absurd (omega (arith, e))
put-zero (Err r) e = ap Err (number-zero r e)

find-zero : (x : Result (Option Held) Refusal) → find_number x ≡ 0 → x ≡ Err OutOfForm
find-zero (Ok (Some h)) e = absurd (omega (arith, e))
find-zero (Ok None) e = absurd (omega (arith, e))
find-zero (Err r) e = ap Err (number-zero r e)

step-zero : (x : Result lookup.Answer Refusal) → step_number x ≡ 0 → x ≡ Err OutOfForm
step-zero (Err r) e = ap Err (number-zero r e)
step-zero (Ok (steps.Complete n)) e = absurd (omega (arith, e))
step-zero (Ok (steps.CutShort n)) e = absurd (omega (arith, e))
step-zero (Ok steps.Wait) e = absurd (omega (arith, e))
step-zero (Ok (steps.Ask i)) e = absurd (omega (arith, e))
step-zero (Ok steps.Going) e = absurd (omega (arith, e))

end-zero : (x : Result ⊤ Refusal) → ending_code x ≡ 0 → x ≡ Err OutOfForm
end-zero (Ok tt) e = absurd (omega (arith, e))
end-zero (Err r) e = ap Err (number-zero r e)

answer-zero : (x : Result Answer Refusal) → answer_number x ≡ 0 → x ≡ Err OutOfForm
answer-zero (Ok (Reply n)) e = absurd (omega (arith, e))
answer-zero (Ok (Heard n f)) e = absurd (omega (arith, e))
answer-zero (Err r) e = ap Err (number-zero r e)
answer-zero (Ok More) e = absurd (omega (arith, e))

-- an open gives 64 or 12
open-never : (me : Peer) (id : List ℕ) (server asking : Bool) (addresses : List ℕ) → told_code (open_of me id server asking addresses).told ≡ 0 → ⊥
unfolding open_of
open-never me id server asking addresses =
    cond_ind (λ (o : Opened). told_code o.told ≡ 0 → ⊥) (not (own_fits me) || bad_peer me.place id) _ _ (λ e z. omega (arith, z)) (λ e z. omega (arith, z))

-- a start that isn't accepted is refused
not-accepted : (x : Result lookup.Answer Refusal) → accepted x ≡ false → (r : Refusal) × (x ≡ Err r)
not-accepted (Err r) e = (r, refl)
not-accepted (Ok (steps.Complete n)) e = absurd (true≢false e)
not-accepted (Ok (steps.CutShort n)) e = absurd (true≢false e)
not-accepted (Ok steps.Wait) e = absurd (true≢false e)
not-accepted (Ok (steps.Ask i)) e = absurd (true≢false e)
not-accepted (Ok steps.Going) e = absurd (true≢false e)

module _ (me : List ℕ) (S : Started me) where
  abbrev us : Peer
  us = peer_in me

  never-zero : (m : Memory) (h : History) → Enough m → ReadyFor me (world_in m h) → NeverZero me m
  never-zero m h len r =
      let never : NeverOutOfForm us = never-out-of-form us S.own in
      let w : World Who Box Ask = world_in m h in
      let a : Box = w.shared.state in
      record {
        opens = λ i id server asking addresses buffer e. open-never us id (says_yes server) (says_yes asking) addresses (sym (both i 0 _) ∙ e);
        receives = λ i piece e. never.receive (w.lines i) a piece (r.lines i) r.good (answer-zero _ (sym (both i 0 _) ∙ e));
        ends = λ i e. never.end (w.lines i) (r.lines i) (end-zero _ (sym (both i 0 _) ∙ e));
        put = λ key value e. never.put a key value r.good (put-zero _ e);
        find = λ key e. never.find a key r.good (find-zero _ e);
        seen = λ id client addresses e. never.seen a id (says_yes client) addresses r.good (seen-zero _ (sym (enough 0 _) ∙ e));
        settle = λ head id client addresses answered e. never.settle a head id (says_yes client) addresses (says_yes answered) r.good (settle-zero _ (sym (enough 0 _) ∙ e));
        remove = λ id e. never.remove a id r.good (remove-zero _ (sym (enough 0 _) ∙ e));
        doubt = λ id e. never.doubt a id r.good (doubt-zero _ (sym (enough 0 _) ∙ e));
        nearest = λ key e. never.nearest a key r.good (told-zero _ (sym (enough 0 _) ∙ e));
        start = λ j key limit e. never.start a key limit r.good (step-zero _ (sym (long-enough me S m h len j 0 _) ∙ e));
      }
    where
      enough : (x y : ℕ) → lent peer_size me x y ≡ y
      enough x y = lent-enough peer_size me x y S.room

      both : (i x y : ℕ) → lent_both me (m.conns i) x y ≡ y
      both i x y = both-enough me (m.conns i) x y S.room (len.conns i)

  pub formed : Formed me
  formed m h cs len r f =
      let w : World Who Box Ask = after me (world_in m h) m cs in
      let g : FollowsAll me m (world_in m h) cs = all-calls me S m (world_in m h) cs len r refl f in
      never-zero (leaves_all me m cs) (history_of w) g.enough (subst (ReadyFor me) (sym g.stands) g.ready)

  -- ---- a lookup's steps
  pub steps-formed : StepsFormed me
  unfolding step lookup_start lookup_reply lookup_failure
  steps-formed m h cs len r f j x t =
      let g : FollowsAll me m (world_in m h) cs = all-calls me S m (world_in m h) cs len r refl f in
      let n : Memory = leaves_all me m cs in
      let h' : History = history_of (after me (world_in m h) m cs) in
      let s : Step = start_in us x in
      let l : lookup_in (n.lookups j) ≡ (outcome step s x.calls).lookup = ((lookup-bytes-are-runs me S).runs m h cs len r f j x t).lookup in
      let never : NeverOutOfForm us = never-out-of-form us S.own in
      let next : returns me n (lookup_next j) ≡ step_number (step go_next (outcome step s x.calls).lookup).answer =
      lent-enough flat_size (n.lookups j) 0 (step_number (next_step me n j).answer) (g.enough.lookups j) ∙ ap (λ (y : Lookup). step_number (step go_next y).answer) l in
      let reply : (id body view : List ℕ)
      → returns me n (lookup_replies j id body view) ≡ step_number (step (go_reply (own_id us) us.place id body (view_in view)) (outcome step s x.calls).lookup).answer =
      λ id body view. long-enough me S n h' g.enough j 0 (step_number (reply_step me n j id body view).answer)
      ∙ ap (λ (y : Lookup). step_number (step (go_reply (own_id us) us.place id body (view_in view)) y).answer) l in
      let failure : (id : List ℕ) → returns me n (lookup_fails j id) ≡ step_number (step (go_fail (own_id us) us.place id) (outcome step s x.calls).lookup).answer =
      λ id. long-enough me S n h' g.enough j 0 (step_number (failure_step me n j id).answer)
      ∙ ap (λ (y : Lookup). step_number (step (go_fail (own_id us) us.place id) y).answer) l in
      record {
        going = λ b a.
            let no : (c : Call) → Viewed c → step_number (step c (outcome step s x.calls).lookup).answer ≡ 0 → ⊥ =
            λ c v e. never.lookup x.table x.key x.limit (record { bytes = b; taken = a }) x.calls c v (step-zero _ e) in
            record {
              next = λ e. no go_next tt (sym next ∙ e);
              failure = λ id e. no (go_fail (own_id us) us.place id) tt (sym (failure id) ∙ e);
              reply = λ id body v q e. no (go_reply (own_id us) us.place id body (view_in (view_numbers v))) (q ∙ ap Ok (sym (view-back me S n h' g.enough v))) (sym (reply id body (view_numbers v)) ∙ e);
            };
        empty = λ a.
            let z : (c : Call) → step_number (step c (outcome step s x.calls).lookup).answer ≡ 0 =
            λ c. let q = not-accepted s.answer a in ap step_number (never.empty x.table x.key x.limit q.0 q.1 x.calls c) in
            record {
              next = next ∙ z go_next;
              failure = λ id. failure id ∙ z (go_fail (own_id us) us.place id);
              reply = λ id body view. reply id body view ∙ z (go_reply (own_id us) us.place id body (view_in view));
            };
      }

-- "A refused call changes no contact, record, lookup or reply byte; at most it takes bytes and shuts its connection."
use Prim.Native.Nat.{ℕ}
use mathlib.Core.Path.{◌≡◌, refl, ap}
use mathlib.Core.Bool.{Bool, true, false, cond, not}
use mathlib.Core.List.{List}
use native.Mathlib.Omega.{arith}
use lib.ListN.{length}
use lib.Seq.{sets}
use lib.Dec.{ltb}
use Rattle.limits.specs.Limits.{least_reply}
use Rattle.refusal.specs.declared.Refusal.{Refusal}
use Rattle.refusal.specs.declared.Refusal.TheVariants.{SmallBuffer, Unwritable}
use Rattle.peer.specs.declared.Peer.{Peer}
use Rattle.records.specs.Store.{put_answer, put_after}
use Rattle.records_history.specs.History.{taken}
use Rattle.records_history.proofs.Stays.{put_refused}
use Rattle.message.specs.Message.{Message, encode, frame}
use Rattle.pieces.specs.Writable.{writable}
use Rattle.writer.specs.Writer.{answer_of, out_after}
use Rattle.host_calls.specs.Hosts.{own_id, lookup_start}
use Rattle.node_promises.proofs.Refusals.{receive-refused, calls-refused, values-refused}
use Rattle.lookup_runs.proofs.Refusals.{refusals}
use Rattle.demands.specs.Demands.{RefusedLeaves}
use Rattle.demands.proofs.Late.{late}
use Rattle.std.specs.Prelude.{Ok, Err}

-- ---- records and writing
put-leaves : (k key value : List ℕ) (r : Refusal) → put_answer k key value ≡ Err r → put_after k key value ≡ k
unfolding taken
put-leaves k key value r e = put_refused k key value (ap taken e)

write-leaves : (y : List ℕ) (m : Message) (r : Refusal) → answer_of y m ≡ Err r → out_after y m ≡ y
unfolding answer_of out_after
write-leaves y m r = go (ltb (length y) least_reply) (not (writable m))
  where
    go : (a b : Bool) → cond a (Err SmallBuffer) (cond b (Err Unwritable) (Ok (length (frame (encode m))))) ≡ Err r
        → cond a y (cond b y (sets y 0 (frame (encode m)))) ≡ y
    go true b e = refl
    go false true e = refl
    go false false e = absurd (let z : ◌≡◌ {A = ℕ} 0 1 = cc in omega arith)

pub refused-leaves : (me : Peer) → RefusedLeaves me
unfolding lookup_start
refused-leaves me =
    record {
      receive = receive-refused me;
      late = late me;
      calls = calls-refused;
      values = values-refused;
      put = put-leaves;
      write = write-leaves;
      lookup = λ l c r. refusals.untouched c l r;
      empties = λ t key limit. refusals.empty t (own_id me) me.place key limit;
    }

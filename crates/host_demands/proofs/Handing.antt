-- A program that hands over a piece, call by call, does what `hand` does in the demands' world. Assumes nothing.
use Prim.Native.Nat.{ℕ, zero, suc, ◌≤◌, ◌<◌}
use mathlib.Core.Path.{◌≡◌, refl, sym, ap, ◌∙◌, subst}
use mathlib.Core.Logic.{⊎_elim}
use mathlib.Core.Bool.{Bool, true, false, cond, ◌||◌, true≢false}
use mathlib.Core.List.{List, [], ◌∷◌}
use native.Mathlib.Nat.{not-suc-le-zero}
use native.Mathlib.Omega.{arith}
use lib.ListN.{length, take, drop, length-drop, drop_of_length-le, take-append-drop}
use lib.Dec.{eqb}
use borrow.Author.Tests.{ne_eqb}
use Rattle.octets.proofs.Bools.{either, or-fails}
use Rattle.refusal.specs.declared.Refusal.{Refusal}
use Rattle.refusal.specs.Refusal.{number_of}
use Rattle.peer.specs.declared.Peer.{Peer}
use Rattle.stream.specs.Stream as streams
use Rattle.stream.specs.Stream.{is_shut, run_of}
use Rattle.cutting.specs.World as worlds
use Rattle.cutting.specs.World.{Did, Line, Shared, World, Called, hand, call, calls, here, put_back, handed, AllFit}
use Rattle.cutting.proofs.Kept.{run-within, run-some, run-all}
use Rattle.cutting.proofs.Order.{here_back, back-back}
use Rattle.cutting.proofs.World.{Well, play, play-append, play-shut, play-nil, handed-play}
use Rattle.connections.specs.declared.Conn.{Conn}
use Rattle.node.specs.declared.Answer.{Answer}
use Rattle.node.specs.declared.Answer.TheVariants.{Reply, Heard, More}
use Rattle.node.specs.Node.{linked, Out}
use Rattle.flat.specs.Flat.{peer_in, conn_in}
use Rattle.host_state.specs.State.{answer_number}
use Rattle.demands.specs.Box.{Box, Who, Ask, is_more, happens, stops_at, receiving, box}
use Rattle.demands.proofs.Connections.{gate-open}
use Rattle.demands.proofs.Leaving.{refused-leaves}
use Rattle.demands.proofs.Receives.{receives as box-receives}
use Rattle.demands.proofs.Sound.{sound}
use Rattle.demands.proofs.Ready.{calls-ready}
use Rattle.host_demands.specs.Calls.{Memory, History, Enough, receives, received_by, receive_code, taken_by, receive_leaves, handing, meant_all, world_in, history_of}
use Rattle.host_demands.specs.Hosted.{Started, ReadyFor, Follows, HandsOver}
use Rattle.host_demands.proofs.Numbers.{number_small}
use Rattle.host_demands.proofs.Connections.{both-enough}
use Rattle.cutting.proofs.Once.{one-call}
use Rattle.host_demands.proofs.Running.{follows}
use Rattle.host_demands.proofs.Receiving.{got-nothing}
use Rattle.std.specs.Prelude.{Ok, Err, Result}

module _ (me : List ℕ) (S : Started me) where
  abbrev us : Peer
  us = peer_in me

  -- a reply, or a message
  abbrev goes_on : ℕ → Bool
  goes_on r = eqb r 65 || eqb r 66

  abbrev played : World Who Box Ask → ℕ → List ℕ → World Who Box Ask
  played w i p = put_back w i (play (box us) i (here w i) p)

  module _ (m : Memory) (h : History) (len : Enough m) (ready : ReadyFor me (world_in m h)) (i : ℕ) (piece : List ℕ) where
    abbrev world : World Who Box Ask
    world = world_in m h

    abbrev now : Did (Line Who) (Shared Box Ask)
    now = here world i

    abbrev got : Out
    got = received_by me m i piece

    abbrev does : Called Who Box
    does = receiving us i now.line now.shared.state piece

    taken_is : taken_by me m i piece ≡ got.got.taken
    taken_is = both-enough me (m.conns i) 0 got.got.taken S.room (len.conns i)

    code_is : receive_code me m i piece ≡ answer_number got.got.answer
    code_is = both-enough me (m.conns i) 0 (answer_number got.got.answer) S.room (len.conns i)

    well : Well (box us) (sound us S.own) now
    well = record { line = ready.lines i; good = ready.good }

    -- what the call took, byte by byte, and then the rest
    took : call (box us) world (hand i (take (taken_by me m i piece) piece)) ≡ played world i (take (taken_by me m i piece) piece)
    unfolding call
    took = ap (put_back world i) (handed-play (box us) (sound us S.own) i now (take (taken_by me m i piece) piece) well)

    two-parts : (n : ℕ) → play (box us) i now piece ≡ play (box us) i (play (box us) i now (take n piece)) (drop n piece)
    two-parts n = ap (play (box us) i now) (sym (take-append-drop n piece)) ∙ play-append (box us) i now (take n piece) (drop n piece)

    and_then : (n : ℕ) → played (played world i (take n piece)) i (drop n piece) ≡ played world i piece
    and_then n =
        let d : Did (Line Who) (Shared Box Ask) = play (box us) i now (take n piece) in
        ap (λ (x : Did (Line Who) (Shared Box Ask)). put_back (put_back world i d) i (play (box us) i x (drop n piece))) (here_back world i d)
        ∙ back-back world i d (play (box us) i d (drop n piece)) ∙ ap (put_back world i) (sym (two-parts n))

    -- ---- on an open connection
    module _ (going : is_shut now.line.framing ≡ false) where
      abbrev run : streams.Out
      run = run_of now.line.framing now.line.buffer piece

      received : does ≡ worlds.called (happens us) (stops_at us) i now.line now.shared.state run
      received = box-receives us S.own i now.line now.shared.state piece (ready.lines i) going ready.good

      taken-run : got.got.taken ≡ run.got.taken
      taken-run = ap (λ (c : Called Who Box). c.count) received

      more-run : is_more got.got.answer ≡ worlds.is_more run.got.answer
      more-run = ap (λ (c : Called Who Box). c.more) received

      within : got.got.taken ≤ length piece
      within = omega (arith, taken-run, run-within piece now.line.framing now.line.buffer)

      some : is_more got.got.answer ≡ false → 1 ≤ got.got.taken
      some e = omega (arith, taken-run, run-some piece now.line.framing now.line.buffer (sym more-run ∙ e))

      none : is_more got.got.answer ≡ true → drop got.got.taken piece ≡ []
      none e =
          let all : length piece ≤ got.got.taken = omega (arith, taken-run, run-all piece now.line.framing now.line.buffer (sym more-run ∙ e)) in
          drop_of_length-le piece all

      shut-after : (r : Refusal) → got.got.answer ≡ Err r → is_shut (play (box us) i now (take got.got.taken piece)).line.framing ≡ true
      shut-after r e =
          ap (λ (d : Did (Line Who) (Shared Box Ask)). is_shut d.line.framing)
          (sym (handed-play (box us) (sound us S.own) i now (take got.got.taken piece) well) ∙ one-call (box us) (sound us S.own) i now piece well going)
          ∙ ap (λ (c : Conn). is_shut c.framing)
          (((refused-leaves us).receive (linked (conn_in (m.conns i)) (m.buffers i)) piece m.lent r e).shuts
          (gate-open us S.own now.line now.shared.state (ready.lines i) going ready.good))

      stops-open : goes_on (answer_number got.got.answer) ≡ false → play (box us) i now (take got.got.taken piece) ≡ play (box us) i now piece
      stops-open z = go got.got.answer refl z
        where
          n : ℕ
          n = got.got.taken

          d : Did (Line Who) (Shared Box Ask)
          d = play (box us) i now (take n piece)

          go : (x : Result Answer Refusal) → got.got.answer ≡ x → goes_on (answer_number x) ≡ false → d ≡ play (box us) i now piece
          go (Ok (Reply k)) e z = absurd (true≢false z)
          go (Ok (Heard k f)) e z = absurd (true≢false z)
          go (Err r) e z = sym (two-parts n ∙ play-shut (box us) i d (drop n piece) (shut-after r e))
          go (Ok More) e z = sym (two-parts n ∙ ap (play (box us) i d) (none (ap is_more e)) ∙ play-nil (box us) i d)

      shorter-open : (f : ℕ) → goes_on (answer_number got.got.answer) ≡ true → length piece < suc f → length (drop got.got.taken piece) < f
      shorter-open f z l = go got.got.answer refl z
        where
          left : is_more got.got.answer ≡ false → length (drop got.got.taken piece) < f
          left e = omega (arith, l, some e, within, length-drop got.got.taken piece)

          go : (x : Result Answer Refusal) → got.got.answer ≡ x → goes_on (answer_number x) ≡ true → length (drop got.got.taken piece) < f
          go (Ok (Reply k)) e z = left (ap is_more e)
          go (Ok (Heard k g)) e z = left (ap is_more e)
          go (Err r) e z = absurd (true≢false (sym z ∙ or-fails _ _ (ne_eqb (number_of r) 65 (λ q. omega (arith, q, number_small r))) (ne_eqb (number_of r) 66 (λ q. omega (arith, q, number_small r)))))
          go (Ok More) e z = absurd (true≢false (sym z))

    -- ---- on any
    stops : goes_on (receive_code me m i piece) ≡ false → played world i (take (taken_by me m i piece) piece) ≡ played world i piece
    stops z =
        ap (λ (n : ℕ). played world i (take n piece)) taken_is
        ∙ ap (put_back world i)
        (⊎_elim (λ shut. play-shut (box us) i now (take got.got.taken piece) shut ∙ sym (play-shut (box us) i now piece shut))
        (λ going. stops-open going (sym (ap goes_on code_is) ∙ z)) (either (is_shut now.line.framing)))

    shorter : (f : ℕ) → goes_on (receive_code me m i piece) ≡ true → length piece < suc f → length (drop (taken_by me m i piece) piece) < f
    shorter f z l =
        subst (λ (n : ℕ). length (drop n piece) < f) (sym taken_is)
        (⊎_elim (λ shut. absurd (true≢false (sym z ∙ ap goes_on code_is ∙ ap (λ (o : Out). goes_on (answer_number o.got.answer)) (got-nothing me S m h len ready i piece shut))))
        (λ going. shorter-open going f (sym (ap goes_on code_is) ∙ z) l) (either (is_shut now.line.framing)))

    still-ready : ReadyFor me (call (box us) world (hand i (take (taken_by me m i piece) piece)))
    unfolding calls AllFit
    still-ready = calls-ready (box us) (sound us S.own) (hand i (take (taken_by me m i piece) piece) ∷ []) world ready tt

  -- ---- call by call
  hands : (f i : ℕ) (m : Memory) (h : History) (piece : List ℕ) → Enough m → ReadyFor me (world_in m h) → length piece < f
      → calls (box us) (world_in m h) (meant_all me m (handing me f m i piece)) ≡ played (world_in m h) i piece
  unfolding handing meant_all calls
  hands zero i m h piece len ready l = absurd (not-suc-le-zero l)
  hands (suc f) i m h piece len ready l = go (goes_on (receive_code me m i piece)) refl (hands f i)
    where
      n : ℕ
      n = taken_by me m i piece

      m' : Memory
      m' = receive_leaves me m i piece

      w : World Who Box Ask
      w = call (box us) (world_in m h) (hand i (take n piece))

      one : Follows me m (world_in m h) (receives i piece)
      one = follows me S m h (receives i piece) len ready

      go : (b : Bool) → goes_on (receive_code me m i piece) ≡ b
          → ((m : Memory) (h : History) (piece : List ℕ) → Enough m → ReadyFor me (world_in m h) → length piece < f
          → calls (box us) (world_in m h) (meant_all me m (handing me f m i piece)) ≡ played (world_in m h) i piece)
          → calls (box us) w (meant_all me m' (cond b (handing me f m' i (drop n piece)) [])) ≡ played (world_in m h) i piece
      go true z ih =
          subst (λ (x : World Who Box Ask). calls (box us) x (meant_all me m' (handing me f m' i (drop n piece))) ≡ played x i (drop n piece)) one.stands
          (ih m' (history_of w) (drop n piece) one.enough (subst (ReadyFor me) (sym one.stands) (still-ready m h len ready i piece)) (shorter m h len ready i piece f z l))
          ∙ ap (λ (x : World Who Box Ask). played x i (drop n piece)) (took m h len ready i piece) ∙ and_then m h len ready i piece n
      go false z ih = took m h len ready i piece ∙ stops m h len ready i piece z

  pub hands-over : HandsOver me
  unfolding call
  hands-over m w i piece len ready e =
      subst (λ (x : World Who Box Ask). ReadyFor me x → calls (box us) x (meant_all me m (handing me (suc (length piece)) m i piece)) ≡ put_back x i (handed (box us) i (here x i) piece)) e
      (λ r. hands (suc (length piece)) i m (history_of w) piece len r (omega arith)
      ∙ ap (put_back (world_in m (history_of w)) i)
      (sym (handed-play (box us) (sound us S.own) i (here (world_in m (history_of w)) i) piece (record { line = r.lines i; good = r.good })))) ready

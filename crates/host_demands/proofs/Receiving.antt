-- One call of starterbell_receive, on bytes, does what handing over the bytes that it takes does in the demands' world. Assumes nothing.
use Prim.Native.Nat.{ℕ, ◌+◌, ◌≤◌}
use mathlib.Core.Path.{◌≡◌, refl, sym, ap, ◌∙◌, subst}
use mathlib.Core.Logic.{⊎_elim}
use mathlib.Core.Bool.{Bool, true, false, cond}
use mathlib.Core.List.{List, [], ◌∷◌, ◌++◌, map, append-nil}
use native.Mathlib.Omega.{arith}
use lib.ListN.{length, take, drop}
use lib.Seq.{sets}
use lib.Dec.{eqb}
use borrow.Author.Tests.{eq-eqb, ne_eqb}
use Rattle.octets.proofs.Bools.{cond_ind, cond_yes, cond_no, or-fails, either}
use Rattle.refusal.specs.declared.Refusal.{Refusal}
use Rattle.refusal.specs.declared.Refusal.TheVariants as no
use Rattle.refusal.specs.Refusal.{number_of}
use Rattle.records_history.specs.History.{Offer}
use Rattle.peer.specs.declared.Peer.{Peer}
use Rattle.stream.specs.Stream as streams
use Rattle.stream.specs.Stream.{is_shut, receive_of as framed_of}
use Rattle.cutting.specs.World.{Did, Line, Shared, World, Mark, happened, Called, hand, call, here, put_back, set_at, answered, handed}
use Rattle.cutting.proofs.World.{Well}
use Rattle.replies.specs.Lent.{Lent}
use Rattle.connections.specs.declared.Conn.{Conn}
use Rattle.node.specs.declared.Answer.{Answer}
use Rattle.node.specs.declared.Answer.TheVariants.{Reply, Heard, More}
use Rattle.node.specs.Node.{linked, Out, by_event, received, unless, taken_of, receive_of}
use Rattle.flat.specs.Flat.{conn_size, peer_in, conn_in}
use Rattle.host_state.specs.State.{changes_nothing, answer_number, answer_length, answer_view, sight_number, sight_slot, received_numbers, received_memory, nothing_taken}
use Rattle.host_numbers.specs.Numbers.{view_numbers}
use Rattle.host.specs.Host.{lent_both}
use Rattle.demands.specs.Box as box
use Rattle.demands.specs.Box.{Box, Who, conn_of, who_in, is_more, body_in, offers_in, noted, receiving, Ask, Own}
use Rattle.demands.proofs.Refusals.{Raised, AnswerRaised}
use Rattle.demands.proofs.Connections.{gate-shut, gate-open}
use Rattle.demands.proofs.Receives.{let_through, runs_as, receives as box-receives}
use Rattle.demands.proofs.Sound.{sound}
use Rattle.demands.proofs.Never.{open-answer}
use Rattle.demands.proofs.Agree.{noted-offers}
use Rattle.host_demands.specs.Calls as seen
use Rattle.host_demands.specs.Calls.{Memory, History, Enough, Seen, kept, no_event, bytes_of, received_by, receive_code, taken_by, receive_leaves, line_in, world_in, Stands, entry_seen, sees_of, marks_of, receives}
use Rattle.host_demands.specs.Hosted.{Started, ReadyFor, Follows}
use Rattle.host_demands.proofs.Messages.{HeardFits, event-fits, first_two}
use Rattle.host_demands.proofs.Overwriting.{Touched, left, answer-touched}
use Rattle.host_demands.proofs.Connections.{both-enough, receive-reads, receive-length}
use Rattle.cutting.proofs.Once.{one-call, one-fine, no_call}
use Rattle.host_demands.proofs.Standing.{put-stands, one-more-seen}
use Rattle.std.specs.Prelude.{Ok, Err, None, Result, Option, ⊤}
use Rattle.sightings.specs.declared.Sighting.{Sighting}

-- ---- what an answer does to what is shared
module _ (i at : ℕ) (s : Option (Result Sighting Refusal)) (body : List ℕ) (l : Lent) (os : List Offer) (a : Box) where
  abbrev after : Result Answer Refusal → Box
  after x = noted i at x s body l os a

  noted-lent : (x : Result Answer Refusal) → l ≡ (after x).lent
  noted-lent (Ok (Reply n)) = refl
  noted-lent (Ok (Heard n f)) = refl
  noted-lent (Err r) = refl
  noted-lent (Ok More) = refl

  noted-lookups : (x : Result Answer Refusal) → a.lookups ≡ (after x).lookups
  noted-lookups (Ok (Reply n)) = refl
  noted-lookups (Ok (Heard n f)) = refl
  noted-lookups (Err r) = refl
  noted-lookups (Ok More) = refl

  noted-inbox : (x : Result Answer Refusal) (m : List ℕ) → AnswerRaised x → HeardFits x s body m
      → cond (eqb (answer_number x) 66) (set_at a.inbox i (take (answer_length x) m)) a.inbox ≡ (after x).inbox
  noted-inbox (Ok (Reply n)) m h g = refl
  noted-inbox (Ok (Heard n f)) m h g = ap (set_at a.inbox i) g.0
  noted-inbox (Err r) m h g = cond_no (eqb (number_of r) 66) _ _ (ne_eqb (number_of r) 66 (λ e. omega (arith, h.1)))
  noted-inbox (Ok More) m h g = refl

  -- what the program sees of it, n bytes having been taken
  abbrev seen_as : ℕ → ℕ → List ℕ → (List ℕ → List ℕ) → List Seen
  seen_as r n m numbers = cond (no_event r) [] (record { at = at; number = r; bytes = bytes_of r n l.reply m; numbers = numbers } ∷ [])

  abbrev numbers_by : ℕ → Result Answer Refusal → Option (Result Sighting Refusal) → List ℕ → List ℕ
  numbers_by n x s out = drop 2 (sets out 0 ((n ∷ answer_length x ∷ sight_number s ∷ sight_slot s ∷ []) ++ answer_view x))

  raised-seen : (r : Refusal) → Raised r → (n : ℕ) (m : List ℕ) (numbers : List ℕ → List ℕ) → seen_as (number_of r) n m numbers ≡ seen.told_at at (number_of r) numbers ∷ []
  raised-seen r h n m numbers =
      let no64 : eqb (number_of r) 64 ≡ false = ne_eqb (number_of r) 64 (λ e. omega (arith, h.1)) in
      let no2 : eqb (number_of r) 2 ≡ false = ne_eqb (number_of r) 2 (λ e. omega (arith, h.0)) in
      let no65 : eqb (number_of r) 65 ≡ false = ne_eqb (number_of r) 65 (λ e. omega (arith, h.1)) in
      let no66 : eqb (number_of r) 66 ≡ false = ne_eqb (number_of r) 66 (λ e. omega (arith, h.1)) in
      cond_no (no_event (number_of r)) _ _ (or-fails _ _ no64 no2)
      ∙ ap (λ (x : List ℕ). record { at = at; number = number_of r; bytes = x; numbers = numbers } ∷ [])
      (cond_no (eqb (number_of r) 65) _ _ no65 ∙ cond_no (eqb (number_of r) 66) _ _ no66)

  noted-log : (x : Result Answer Refusal) (m : List ℕ) (n : ℕ) → AnswerRaised x → HeardFits x s body m
      → map entry_seen (after x).log ≡ map entry_seen a.log ++ seen_as (answer_number x) (answer_length x) m (numbers_by n x s)
  noted-log (Ok (Reply k)) m n h g =
      one-more-seen a.log (box.event i at (box.replied (take k l.reply) s))
      ∙ (λ z. map entry_seen a.log
      ++ (record { at = at; number = 65; bytes = take k l.reply; numbers = λ out. first_two out 0 0 n k (sight_number s ∷ sight_slot s ∷ []) z } ∷ []))
  noted-log (Ok (Heard k f)) m n h g =
      one-more-seen a.log (box.event i at (box.heard body f))
      ∙ (λ z. map entry_seen a.log
      ++ (record { at = at; number = 66; bytes = sym g.0 z; numbers = λ out. seen.past_two (sym g.2 z) (view_numbers f) out } ∷ []))
      ∙ (λ z. map entry_seen a.log
      ++ (record { at = at; number = 66; bytes = take k m; numbers = λ out. first_two out 0 0 n k (sight_number s ∷ sight_slot s ∷ view_numbers f) z } ∷ []))
  noted-log (Err r) m n h g =
      one-more-seen a.log (box.event i at (box.refused r))
      ∙ (λ z. map entry_seen a.log ++ (seen.told_at at (number_of r) (λ out. seen.past_two (sym g z) [] out) ∷ []))
      ∙ (λ z. map entry_seen a.log ++ (seen.told_at at (number_of r) (λ out. first_two out 0 0 n 0 (sight_number s ∷ sight_slot s ∷ []) z) ∷ []))
      ∙ ap (λ (x : List Seen). map entry_seen a.log ++ x) (sym (raised-seen r h 0 m (numbers_by n (Err r) s)))
  noted-log (Ok More) m n h g = sym (append-nil (map entry_seen a.log))

-- events are what isn't 64 or 2
quiet-more : (x : Result Answer Refusal) → AnswerRaised x → no_event (answer_number x) ≡ is_more x
quiet-more (Ok (Reply n)) h = refl
quiet-more (Ok (Heard n f)) h = refl
quiet-more (Err r) h =
    or-fails _ _ (ne_eqb (number_of r) 64 (λ e. omega (arith, h.1))) (ne_eqb (number_of r) 2 (λ e. omega (arith, h.0)))
quiet-more (Ok More) h = refl

order-more : (b : Bool) (i : ℕ) (ms : List (Mark Ask)) → cond b ms (ms ++ (happened i ∷ [])) ≡ ms ++ cond b [] (happened i ∷ [])
order-more true i ms = sym (append-nil ms)
order-more false i ms = refl

-- ---- the call
module _ (me : List ℕ) (S : Started me) (m : Memory) (h : History) (len : Enough m) (ready : ReadyFor me (world_in m h)) (i : ℕ) (piece : List ℕ) where
  abbrev us : Peer
  us = peer_in me

  abbrev world : World Who Box Ask
  world = world_in m h

  abbrev line : Line Who
  line = world.lines i

  abbrev state : Box
  state = world.shared.state

  abbrev pub got : Out
  got = received_by me m i piece

  abbrev does : Called Who Box
  does = receiving us i line state piece

  -- with memory that is long enough, what is left is what the inner call gives
  abbrev plain : Out → Memory
  plain o =
      record {
        lent = o.left;
        conns = set_at m.conns i (received_memory (m.conns i) o.got);
        buffers = set_at m.buffers i o.buffer;
        lookups = m.lookups;
        inbox = kept m i (answer_number o.got.answer) (take (answer_length o.got.answer) o.buffer);
        taken = set_at m.taken i (m.taken i + o.got.taken);
      }

  enough : {A : Type 0} (x y : A) → lent_both me (m.conns i) x y ≡ y
  enough x y = both-enough me (m.conns i) x y S.room (len.conns i)

  left-plain : receive_leaves me m i piece ≡ plain got
  left-plain =
      λ z. record {
        lent = enough m.lent got.left z;
        conns = set_at m.conns i (enough (m.conns i) (received_memory (m.conns i) got.got) z);
        buffers = set_at m.buffers i (enough (m.buffers i) got.buffer z);
        lookups = m.lookups;
        inbox = kept m i (enough 0 (answer_number got.got.answer) z)
            (take (enough 0 (answer_length got.got.answer) z) (enough (m.buffers i) got.buffer z));
        taken = set_at m.taken i (m.taken i + enough 0 got.got.taken z);
      }

  code_is : receive_code me m i piece ≡ answer_number got.got.answer
  code_is = enough 0 (answer_number got.got.answer)

  abbrev sees_by : Out → List Seen
  sees_by o =
      let r = answer_number o.got.answer in
      cond (no_event r) []
      (record {
        at = m.taken i + o.got.taken;
        number = r;
        bytes = bytes_of r (answer_length o.got.answer) o.left.reply o.buffer;
        numbers = λ out. drop 2 (received_numbers out o.got);
      } ∷ [])

  sees_plain : sees_of me m (receives i piece) ≡ sees_by got
  sees_plain =
      λ z. cond (no_event (code_is z)) []
      (record {
        at = taken_is z;
        number = code_is z;
        bytes = bytes_of (code_is z) (enough 0 (answer_length got.got.answer) z) (left-plain z).lent.reply (buffer-is z);
        numbers = λ out. drop 2 (enough (nothing_taken out) (received_numbers out got.got) z);
      } ∷ [])
    where
      buffer-is : (receive_leaves me m i piece).buffers i ≡ got.buffer
      buffer-is = cond_yes (eqb i i) _ _ (eq-eqb i i refl) ∙ enough (m.buffers i) got.buffer

      taken_is : (receive_leaves me m i piece).taken i ≡ m.taken i + got.got.taken
      taken_is = cond_yes (eqb i i) _ _ (eq-eqb i i refl) ∙ ap (λ (n : ℕ). m.taken i + n) (enough 0 got.got.taken)

  enough-after : Enough (receive_leaves me m i piece)
  enough-after =
      subst Enough (sym left-plain)
      (record {
        conns = λ j. cond_ind (λ (x : List ℕ). conn_size ≤ length x) (eqb j i) _ _ (λ e. receive-length (m.conns i) (len.conns i) got.got) (λ e. len.conns j);
        lookups = len.lookups;
      })

  own : Own us
  own = S.own

  well : Well (box.box us) (sound us own) (here world i)
  well = record { line = ready.lines i; good = ready.good }

  -- ---- on an open connection
  module _ (going : is_shut line.framing ≡ false) where
    raised : AnswerRaised got.got.answer
    raised = open-answer us own line state piece (ready.lines i) ready.good going

    same-who : does.line.who ≡ line.who
    same-who = ap (λ (c : Called Who Box). c.line.who) (box-receives us own i line state piece (ready.lines i) going ready.good)

    conn-after : conn_in (received_memory (m.conns i) got.got) ≡ got.got.conn
    conn-after =
        receive-reads (m.conns i) (len.conns i) got.got raised (one-fine (box.box us) (sound us own) i (here world i) piece well going).form
        (λ z. conn_of (sym same-who z) got.got.conn.framing)

    fits : HeardFits got.got.answer got.got.sight (body_in (framed_of line.framing line.buffer piece).got.answer got.buffer) got.buffer
    fits =
        let f : streams.Out = framed_of line.framing line.buffer piece in
        let e : got ≡ by_event f.got.answer us (linked (conn_of line.who f.got.framing) f.buffer) f.got.taken m.lent =
        let_through us line piece m.lent (gate-open us own line state (ready.lines i) going ready.good)
        ∙ runs_as us line piece m.lent f refl in
        subst (λ (x : Out). HeardFits x.got.answer x.got.sight (body_in f.got.answer x.buffer) x.buffer) (sym e)
        (event-fits us f.got.answer (linked (conn_of line.who f.got.framing) f.buffer) f.got.taken m.lent)

    abbrev now : Did (Line Who) (Shared Box Ask)
    now = answered (box.box us) i world.shared does

    call-is : call (box.box us) world (hand i (take (taken_by me m i piece) piece)) ≡ put_back world i now
    unfolding call
    call-is =
        ap (λ (n : ℕ). put_back world i (handed (box.box us) i (here world i) (take n piece))) (enough 0 got.got.taken)
        ∙ ap (put_back world i) (one-call (box.box us) (sound us own) i (here world i) piece well going)

    pub offers-now : (call (box.box us) world (hand i (take (taken_by me m i piece) piece))).shared.state.offers
        ≡ h.offers ++ offers_in line.who (framed_of line.framing line.buffer piece).got.answer got.buffer
    offers-now =
        let e : (Result (Option ℕ) Refusal) = (framed_of line.framing line.buffer piece).got.answer in
        ap (λ (w : World Who Box Ask). w.shared.state.offers) call-is
        ∙ noted-offers i (line.taken + got.got.taken) got.got.sight (body_in e got.buffer) got.left
        (offers_in line.who e got.buffer) state got.got.answer

    stands-now : Stands (plain got) (put_back world i now)
    stands-now =
        let at : ℕ = line.taken + got.got.taken in
        let e : (Result (Option ℕ) Refusal) = (framed_of line.framing line.buffer piece).got.answer in
        let body : List ℕ = body_in e got.buffer in
        let os : List Offer = offers_in line.who e got.buffer in
        let x : (Result Answer Refusal) = got.got.answer in
        let s : (Option (Result Sighting Refusal)) = got.got.sight in
        put-stands m h i got.left (received_memory (m.conns i) got.got) got.buffer
        (kept m i (answer_number x) (take (answer_length x) got.buffer)) at now
        (ap (λ (c : Conn). record { who = who_in c; framing = c.framing; buffer = got.buffer; taken = at }) conn-after)
        (noted-lent i at s body got.left os state x)
        (noted-lookups i at s body got.left os state x)
        (noted-inbox i at s body got.left os state x got.buffer raised fits)

    log-now : map entry_seen now.shared.state.log ≡ map entry_seen h.log ++ sees_of me m (receives i piece)
    log-now =
        let e : (Result (Option ℕ) Refusal) = (framed_of line.framing line.buffer piece).got.answer in
        noted-log i (line.taken + got.got.taken) got.got.sight (body_in e got.buffer) got.left
        (offers_in line.who e got.buffer) state got.got.answer got.buffer got.got.taken raised fits
        ∙ ap (λ (x : List Seen). map entry_seen h.log ++ x) (sym sees_plain)

    order-now : now.shared.order ≡ h.order ++ marks_of me m (receives i piece)
    order-now =
        order-more (is_more got.got.answer) i h.order
        ∙ ap (λ (b : Bool). h.order ++ cond b [] (happened i ∷ [])) (sym (ap no_event code_is ∙ quiet-more got.got.answer raised))

    follows-open : Follows me m world (receives i piece)
    follows-open =
        record {
          enough = enough-after;
          stands = subst (λ (n : Memory). Stands n (call (box.box us) world (hand i (take (taken_by me m i piece) piece)))) (sym left-plain)
              (subst (Stands (plain got)) (sym call-is) stands-now);
          log = ap (λ (w : World Who Box Ask). map entry_seen w.shared.state.log) call-is ∙ log-now;
          order = ap (λ (w : World Who Box Ask). w.shared.order) call-is ∙ order-now;
        }

  -- ---- on a shut one: 2, and nothing changes
  module _ (shut : is_shut line.framing ≡ true) where
    abbrev pub nothing : Out
    nothing =
        record { got = received (conn_in (m.conns i)) 0 (Err no.Shut) None; buffer = m.buffers i; left = m.lent }

    pub got-nothing : got ≡ nothing
    unfolding receive_of
    got-nothing =
        ap (λ (g : Result ⊤ Refusal). unless g (linked (conn_in (m.conns i)) (m.buffers i)) m.lent
        (taken_of us (linked (conn_in (m.conns i)) (m.buffers i)) piece m.lent))
        (gate-shut us line state (ready.lines i) shut ready.good)

    same-world : call (box.box us) world (hand i (take (taken_by me m i piece) piece)) ≡ put_back world i (here world i)
    unfolding call
    same-world = ap (put_back world i) (no_call (box.box us) (sound us own) i (here world i) (take (taken_by me m i piece) piece) well shut)

    pub offers-same : (call (box.box us) world (hand i (take (taken_by me m i piece) piece))).shared.state.offers ≡ h.offers
    offers-same = ap (λ (w : World Who Box Ask). w.shared.state.offers) same-world

    stands-still : Stands (plain nothing) (put_back world i (here world i))
    unfolding changes_nothing
    stands-still = put-stands m h i m.lent (m.conns i) (m.buffers i) m.inbox (m.taken i + 0) (here world i)
        (ap (line_in (m.conns i) (m.buffers i)) (omega arith)) refl refl refl

    sees-none : sees_of me m (receives i piece) ≡ []
    sees-none = sees_plain ∙ ap sees_by got-nothing

    marks-none : marks_of me m (receives i piece) ≡ []
    marks-none = ap (λ (r : ℕ). cond (no_event r) [] (happened i ∷ [])) (code_is ∙ ap (λ (o : Out). answer_number o.got.answer) got-nothing)

    follows-shut : Follows me m world (receives i piece)
    follows-shut =
        record {
          enough = enough-after;
          stands = subst (λ (n : Memory). Stands n (call (box.box us) world (hand i (take (taken_by me m i piece) piece)))) (sym (left-plain ∙ ap plain got-nothing))
              (subst (Stands (plain nothing)) (sym same-world) stands-still);
          log = ap (λ (w : World Who Box Ask). map entry_seen w.shared.state.log) same-world ∙ sym (append-nil (map entry_seen h.log))
              ∙ ap (λ (x : List Seen). map entry_seen h.log ++ x) (sym sees-none);
          order = ap (λ (w : World Who Box Ask). w.shared.order) same-world ∙ sym (append-nil h.order)
              ∙ ap (λ (x : List (Mark Ask)). h.order ++ x) (sym marks-none);
        }

  pub receive-follows : Follows me m world (receives i piece)
  receive-follows = ⊎_elim follows-shut follows-open (either (is_shut line.framing))

  -- its bytes are left alone, or get another framing
  pub receive-touched : Touched (m.conns i) (lent_both me (m.conns i) (m.conns i) (received_memory (m.conns i) got.got))
  unfolding changes_nothing
  receive-touched =
      subst (Touched (m.conns i)) (sym (enough (m.conns i) (received_memory (m.conns i) got.got)))
      (⊎_elim (λ shut. left (ap (λ (o : Out). received_memory (m.conns i) o.got) (got-nothing shut)))
      (λ going. answer-touched (m.conns i) got.got.conn.framing got.got.answer (one-fine (box.box us) (sound us own) i (here world i) piece well going).form)
      (either (is_shut line.framing)))

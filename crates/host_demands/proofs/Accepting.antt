-- A record that an exported call accepts is the one found under its key, and stays so until a call accepts a higher-ranking one. Assumes nothing.
use Prim.Native.Nat.{ℕ, ◌≤◌}
use mathlib.Core.Path.{◌≡◌, refl, sym, ap, ap₂, ◌∙◌, subst}
use mathlib.Core.Logic.{⊎_elim}
use mathlib.Core.Bool.{true, false, not, false≢true}
use mathlib.Core.List.{List, [], ◌∷◌}
use native.Mathlib.Omega.{arith}
use lib.ListN.{length, get_or, take, drop, length-take, drop_of_length-le}
use lib.Seq.{sets, drop_at}
use lib.Dec.{eqb}
use borrow.Author.Tests.{eqb-true}
use Rattle.octets.specs.Octets.{part, same}
use Rattle.octets.proofs.Bools.{cond_ind, cond_yes, cond_no, either}
use Rattle.limits.specs.Limits.{most_body}
use Rattle.peer.specs.declared.Peer.{Peer}
use Rattle.recipe.specs.Recipe.{outranks}
use Rattle.records.specs.Store.{find_of, offer_answer, put_answer}
use Rattle.records_history.specs.History as history
use Rattle.records_history.specs.History.{Offer, accepts, taken}
use Rattle.records_history.proofs.Kept.{found-is}
use Rattle.records_history.proofs.Stays.{put_is}
use Rattle.message.specs.Message.{Record, Message, message_of, decode, encode, frame}
use Rattle.message.specs.View.{reading_of}
use Rattle.message.specs.declared.Fields.{Fields}
use Rattle.stream.specs.Stream as streams
use Rattle.stream.specs.Stream.{is_shut, run_of, receive_of as framed_of}
use Rattle.stream.proofs.Steps.{call-runs}
use Rattle.cutting.specs.World.{Line, World, Called, call, calls, AllFit}
use Rattle.cutting.proofs.Kept.{run-within, message-fits}
use Rattle.cutting.proofs.Once.{run-taken}
use Rattle.message.specs.Kinds.{put_value}
use Rattle.replies.specs.Replies.{put_value_reply}
use Rattle.replies.specs.Verdicts.{Verdict, replies, echoed, put_verdict, Dealt, by_verdict}
use Rattle.replies.specs.Lent.{Lent, with_records}
use Rattle.answer.specs.Answers.{verdict_of, records_after, by_reading, deal_of}
use Rattle.connections.specs.declared.Conn.{Conn}
use Rattle.node.specs.declared.Answer.{Answer}
use Rattle.node.specs.declared.Answer.TheVariants.{Reply, Heard, More}
use Rattle.node.specs.Node.{linked, Dealing, Out, by_event}
use Rattle.node_promises.proofs.Doing.{message-done}
use Rattle.flat.specs.Flat.{peer_in}
use Rattle.host_answers.specs.Answers.{put_number, find_number, find_numbers}
use Rattle.host_state.specs.State.{answer_number, answer_length}
use Rattle.host.specs.Host.{lent_both}
use Rattle.demands.specs.Box as box
use Rattle.demands.specs.Box.{Box, Who, conn_of, body_in, offer_by, offer_in, offers_in, Ask, Fits}
use Rattle.demands.specs.Demands as inner
use Rattle.demands.specs.Demands.{since, receive_on}
use Rattle.demands.proofs.Accepting.{got-finds}
use Rattle.demands.proofs.Connections.{gate-open, whole_open}
use Rattle.demands.proofs.Deal.{deal-is}
use Rattle.demands.proofs.Receives.{let_through, runs_as, receives as box-receives}
use Rattle.demands.proofs.Theorems.{third}
use Rattle.host_demands.specs.Calls as host
use Rattle.host_demands.specs.Calls.{Memory, History, Enough, Export, received_by, taken_by, returns, leaves, meant, leaves_all, meant_all, world_in, history_of}
use Rattle.host_demands.specs.Hosted.{Started, ReadyFor, Follows, FollowsAll, after, completed, Sent, Accepts, typed, sent, Unbeaten, Asks, Serves, Finds, Stays, Lasts}
use Rattle.host_demands.proofs.Numbers.{number_small}
use Rattle.host_demands.proofs.Connections.{both-enough}
use Rattle.host_demands.proofs.Receiving.{got-nothing, offers-now, offers-same}
use Rattle.host_demands.proofs.Reading.{written-reads}
use Rattle.host_demands.proofs.Running.{one-call, all-calls, fits_head, ready-after, later-fit}
use Rattle.std.specs.Prelude.{Ok, Err, Some, None, Result, Option, ⊤}
use Rattle.records.specs.declared.Held.{Held}
use Rattle.refusal.specs.declared.Refusal.{Refusal}

-- ---- what numbers say
put-number : (x : Result ⊤ Refusal) → put_number x ≡ 64 → x ≡ Ok tt
put-number (Ok tt) e = refl
put-number (Err r) e = absurd (omega (arith, e, number_small r))

was-taken : (x : Result ⊤ Refusal) → taken x ≡ true → x ≡ Ok tt
unfolding taken
was-taken (Ok tt) e = refl
was-taken (Err r) e = absurd (false≢true e)

reply-number : (x : Result Answer Refusal) → answer_number x ≡ 65 → (n : ℕ) × (x ≡ Ok (Reply n))
reply-number (Ok (Reply n)) e = (n, refl)
reply-number (Ok (Heard n f)) e = absurd (omega (arith, e))
reply-number (Err r) e = absurd (omega (arith, e, number_small r))
reply-number (Ok More) e = absurd (omega (arith, e))

said : {m n : Message} → replies m ≡ replies n → m ≡ n
said e = cc

-- ---- offers
unbeaten-none : (key v k : List ℕ) (os : List Offer) → history.Unbeaten key v k (drop (length os) os)
unfolding history.Unbeaten
unbeaten-none key v k os =
    let all : length os ≤ length os = omega arith in
    subst (history.Unbeaten key v k) (sym (drop_of_length-le os all)) tt

module _ (me : List ℕ) (S : Started me) where
  abbrev us : Peer
  us = peer_in me

  -- ==== one call
  module _ (m : Memory) (h : History) (len : Enough m) (ready : ReadyFor me (world_in m h)) where
    abbrev world : World Who Box Ask
    world = world_in m h

    -- ---- a receive
    module _ (i : ℕ) (piece : List ℕ) where
      abbrev line : Line Who
      line = world.lines i

      abbrev state : Box
      state = world.shared.state

      abbrev got : Out
      got = received_by me m i piece

      abbrev short : List ℕ
      short = take (taken_by me m i piece) piece

      abbrev framing : List ℕ → streams.Out
      framing p = framed_of line.framing line.buffer p

      enough : {A : Type 0} (x y : A) → lent_both me (m.conns i) x y ≡ y
      enough x y = both-enough me (m.conns i) x y S.room (len.conns i)

      code_is : returns me m (host.receives i piece) ≡ answer_number got.got.answer
      code_is = enough 0 (answer_number got.got.answer)

      taken_is : taken_by me m i piece ≡ got.got.taken
      taken_is = enough 0 got.got.taken

      -- on a shut connection there is no reply
      replied-open : returns me m (host.receives i piece) ≡ 65 → is_shut line.framing ≡ false
      replied-open e =
          ⊎_elim (λ shut. absurd (let z : answer_number got.got.answer ≡ 65 = sym code_is ∙ e in
          let q : answer_number got.got.answer ≡ 2 = ap (λ (o : Out). answer_number o.got.answer) (got-nothing me S m h len ready i piece shut) in
          omega (arith, z, q))) (λ o. o) (either (is_shut line.framing))

      module _ (going : is_shut line.framing ≡ false) where
        runs : (p : List ℕ) → framing p ≡ run_of line.framing line.buffer p
        runs p = call-runs line.framing line.buffer p (ready.lines i).form (ready.lines i).room going

        taken-run : taken_by me m i piece ≡ (run_of line.framing line.buffer piece).got.taken
        taken-run = taken_is ∙ ap (λ (c : Called Who Box). c.count) (box-receives us S.own i line state piece (ready.lines i) going ready.good)

        gives : (p : List ℕ) (o : streams.Out) → framing p ≡ o
            → receive_on us world i p ≡ by_event o.got.answer us (linked (conn_of line.who o.got.framing) o.buffer) o.got.taken m.lent
        gives p o e =
            let_through us line p m.lent (gate-open us S.own line state (ready.lines i) going ready.good)
            ∙ runs_as us line p m.lent o e

        -- ---- the bytes that it took, by themselves, get the same
        same-framing : framing short ≡ framing piece
        same-framing =
            ap (λ (n : ℕ). framing (take n piece)) taken-run ∙ runs (take (run_of line.framing line.buffer piece).got.taken piece)
            ∙ run-taken piece line.framing line.buffer ∙ sym (runs piece)

        same-receive : receive_on us world i short ≡ receive_on us world i piece
        same-receive = gives short (framing piece) same-framing ∙ sym (gives piece (framing piece) refl)

        same-message : inner.completed us world i short ≡ message_of (completed me m i piece)
        same-message = ap₂ (λ (x : streams.Out) (o : Out). message_of (body_in x.got.answer o.buffer)) same-framing same-receive

        all-taken : (receive_on us world i short).got.taken ≡ length short
        all-taken =
            let n : ℕ = taken_by me m i piece in
            let l : (run_of line.framing line.buffer piece).got.taken ≤ length piece = run-within piece line.framing line.buffer in
            ap (λ (o : Out). o.got.taken) same-receive ∙ sym taken_is ∙ omega (arith, l, taken-run, length-take n piece)

      sent-there : (key v : List ℕ) → Sent me m i piece key v → inner.Sent us world i short key v
      sent-there key v s =
          let going : is_shut line.framing ≡ false = replied-open s.reply in
          let r = reply-number got.got.answer (sym code_is ∙ s.reply) in
          record {
            size = r.0;
            reply = ap (λ (o : Out). o.got.answer) (same-receive going) ∙ r.1;
            all = all-taken going;
            kind = ap (λ (x : Message). x.kind) (same-message going) ∙ s.kind;
            under = ap (λ (x : Message). x.key) (same-message going) ∙ s.under;
            what = s.what;
            held = ap (λ (x : Message). x.held) (same-message going) ∙ s.held;
            says = s.says;
          }

      -- ---- a message that is complete
      module _ (going : is_shut line.framing ≡ false) (l : ℕ) (whole : (framing piece).got.answer ≡ Ok (Some l)) where
        abbrev conn : Conn
        conn = conn_of line.who (framing piece).got.framing

        abbrev body : List ℕ
        body = take l (framing piece).buffer

        abbrev deal : Dealt
        deal = deal_of us line.who.peer body m.lent

        done : got ≡ by_event (Ok (Some l)) us (linked conn (framing piece).buffer) (framing piece).got.taken m.lent
        done =
            gives going piece (framing piece) refl
            ∙ ap (λ (x : Result (Option ℕ) Refusal). by_event x us (linked conn (framing piece).buffer) (framing piece).got.taken m.lent) whole

        body_is : completed me m i piece ≡ body
        body_is = ap₂ (λ (x : Result (Option ℕ) Refusal) (o : Out). body_in x o.buffer) whole done

        answers : (n : ℕ) → line.who.asking ≡ false → deal.told ≡ Ok n → got.got.answer ≡ Ok (Reply n)
        answers n side e =
            ap (λ (o : Out). o.got.answer) done
            ∙ ap (λ (d : Dealing). d.answer) (message-done.replies us conn body m.lent n side e)

        reply-is : (n : ℕ) → line.who.asking ≡ false → deal.told ≡ Ok n → got.left.reply ≡ deal.left.reply
        reply-is n side e =
            ap (λ (o : Out). o.left.reply) done
            ∙ ap (λ (d : Dealing). d.left.reply) (message-done.replies us conn body m.lent n side e)

        -- a PUT_VALUE whose record the store takes is answered
        put-told : (f : Fields) (r : Record) → reading_of body ≡ Ok f → (message_of body).held ≡ Some r → (message_of body).kind ≡ put_value
            → same r.key (message_of body).key ≡ true → accepts m.lent.records (record { key = (message_of body).key; value = r.value }) ≡ true
            → (n : ℕ) × (deal.told ≡ Ok n)
        unfolding verdict_of put_verdict accepts
        put-told f r w q k s a =
            let key : List ℕ = (message_of body).key in
            let v : List ℕ = r.value in
            let says : Message = put_value_reply key v in
            let t : offer_answer m.lent.records key v ≡ (Ok tt) = was-taken _ (ap taken (sym (put_is m.lent.records key v ready.good.records).0) ∙ a) in
            let verdict : verdict_of us line.who.peer (message_of body) m.lent ≡ replies says =
            cond_yes _ _ _ (ap (λ (z : ℕ). eqb z put_value) k) ∙ ap (λ (x : Option Record). put_verdict key x m.lent.records) q ∙ cond_yes _ _ _ s
            ∙ ap (λ (x : Result ⊤ Refusal). echoed x says) t in (
              length (frame (encode says)),
              ap (λ (d : Dealt). d.told)
                  (deal-is us line.who.peer body m.lent
                  ∙ ap (λ (x : Result Fields Refusal). by_reading x us line.who.peer (message_of body) m.lent) w
                  ∙ ap (λ (x : Verdict). by_verdict x (with_records m.lent (records_after (message_of body) m.lent.records)) m.lent) verdict),
            )

        -- so what it offers is accepted only by a receive that returns 65
        put-sent : line.who.asking ≡ false → (f : Fields) (r : Record) → reading_of body ≡ Ok f → (message_of body).held ≡ Some r → (message_of body).kind ≡ put_value
            → same r.key (message_of body).key ≡ true → accepts m.lent.records (record { key = (message_of body).key; value = r.value }) ≡ true
            → Sent me m i piece (message_of body).key r.value
        put-sent side f r w q k s a =
            let t = put-told f r w q k s a in
            record {
              reply = code_is ∙ ap answer_number (answers t.0 side t.1);
              kind = ap (λ (b : List ℕ). (message_of b).kind) body_is ∙ k;
              under = ap (λ (b : List ℕ). (message_of b).key) body_is;
              what = r;
              held = ap (λ (b : List ℕ). (message_of b).held) body_is ∙ q;
              says = refl;
            }

        -- and a GET_VALUE is answered with what is found
        get-served : (key v : List ℕ) → inner.Finds us m.lent.records key v → Asks me m i piece key → Serves me m i piece key v
        get-served key v f a =
            let fits : l ≤ most_body =
            message-fits line.framing line.buffer piece l (ready.lines i).form (ap (λ (o : streams.Out). o.got.answer) (sym (runs going piece)) ∙ whole) in
            let s = f.asked line.who.peer body m.lent a.says (omega (arith, fits, length-take l (framing piece).buffer))
            (ap decode (sym body_is) ∙ a.reads) a.kind a.under ready.good.room in
            record {
              reply = code_is ∙ ap answer_number (answers s.size a.side s.told);
              says = s.back.says;
              bytes = ap₂ take (enough 0 (answer_length got.got.answer) ∙ ap answer_length (answers s.size a.side s.told))
                  (ap (λ (x : Lent). x.reply) (enough m.lent got.left) ∙ reply-is s.size a.side s.told)
                  ∙ s.back.stands;
              back = s.back.back;
              held = ap (λ (x : Message). x.held) (sym (said s.back.verdict)) ∙ s.held;
              shown = written-reads s.back.says s.back.fits;
            }

      -- ---- what a receive offers
      module _ (key v : List ℕ) (c : (u : List ℕ) → Accepts me m key u (host.receives i piece) → outranks u v ≡ true → ⊥) where
        abbrev Fine : List Offer → Type 0
        Fine os = history.Unbeaten key v m.lent.records os

        offer-fine : (going : is_shut line.framing ≡ false) (l : ℕ) → (framing piece).got.answer ≡ Ok (Some l) → Fine (offer_in line.who (take l (framing piece).buffer))
        unfolding history.Unbeaten
        offer-fine going l w = cond_ind Fine line.who.asking _ _ (λ e. tt) (λ e. read e (reading_of b) refl (message_of b).held refl)
          where
            b : List ℕ
            b = take l (framing piece).buffer

            read : line.who.asking ≡ false → (x : Result Fields Refusal) → reading_of b ≡ x → (y : Option Record) → (message_of b).held ≡ y → Fine (offer_by x (message_of b) y)
            read side (Err r) e y q = tt
            read side (Ok f) e None q = tt
            read side (Ok f) e (Some r) q =
                cond_ind Fine (eqb (message_of b).kind put_value) _ _
                (λ k. cond_ind Fine (same r.key (message_of b).key) _ _
                (λ s. (
                  (λ at a up. c r.value
                      (sent i piece refl (subst (λ (x : List ℕ). Sent me m i piece x r.value) at (put-sent going l w side f r e q (eqb-true _ _ k) s a))) up),
                  tt,
                )) (λ s. tt))
                (λ k. tt)

        offers-fine : is_shut line.framing ≡ false → Fine (offers_in line.who (framing piece).got.answer got.buffer)
        unfolding history.Unbeaten
        offers-fine going = go (framing piece).got.answer refl
          where
            go : (x : Result (Option ℕ) Refusal) → (framing piece).got.answer ≡ x → Fine (offers_in line.who x got.buffer)
            go (Ok (Some l)) e =
                subst (λ (y : List ℕ). Fine (offer_in line.who (take l y))) (sym (ap (λ (o : Out). o.buffer) (done going l e))) (offer-fine going l e)
            go (Err r) e = tt
            go (Ok None) e = tt

        receive-fine : Fine (since world (call (box.box us) world (meant me m (host.receives i piece))))
        receive-fine =
            ⊎_elim
            (λ shut. subst (λ (os : List Offer). Fine (drop (length h.offers) os)) (sym (offers-same me S m h len ready i piece shut)) (unbeaten-none key v m.lent.records h.offers))
            (λ going. subst Fine
            (sym (ap (drop (length h.offers)) (offers-now me S m h len ready i piece going) ∙ drop_at h.offers _ (length h.offers) refl)) (offers-fine going))
            (either (is_shut line.framing))

    put-fine : (k u key v : List ℕ) → ((x : List ℕ) → Accepts me m key x (host.put k u) → outranks x v ≡ true → ⊥)
        → history.Unbeaten key v m.lent.records (record { key = k; value = u } ∷ [])
    unfolding history.Unbeaten accepts
    put-fine k u key v c = (
      (λ at a up. c u (typed (ap (λ (x : List ℕ). host.put x u) at) (ap put_number (was-taken (put_answer m.lent.records k u) a))) up),
      tt,
    )

    -- ---- any call
    call-fine : (c : Export) (key v : List ℕ) → ((u : List ℕ) → Accepts me m key u c → outranks u v ≡ true → ⊥)
        → history.Unbeaten key v m.lent.records (since world (call (box.box us) world (meant me m c)))
    unfolding call
    call-fine (host.opens i id server asking addresses buffer) key v c = unbeaten-none key v m.lent.records h.offers
    call-fine (host.receives i piece) key v c = receive-fine i piece key v c
    call-fine (host.ends i) key v c = unbeaten-none key v m.lent.records h.offers
    call-fine (host.put k u) key v c =
        subst (history.Unbeaten key v m.lent.records) (sym (drop_at h.offers (record { key = k; value = u } ∷ []) (length h.offers) refl)) (put-fine k u key v c)
    call-fine (host.find k) key v c = unbeaten-none key v m.lent.records h.offers
    call-fine (host.seen id client addresses) key v c = unbeaten-none key v m.lent.records h.offers
    call-fine (host.settle head id client addresses answered) key v c = unbeaten-none key v m.lent.records h.offers
    call-fine (host.remove id) key v c = unbeaten-none key v m.lent.records h.offers
    call-fine (host.doubt id) key v c = unbeaten-none key v m.lent.records h.offers
    call-fine (host.nearest k) key v c = unbeaten-none key v m.lent.records h.offers
    call-fine (host.lookup_starts j k limit) key v c = unbeaten-none key v m.lent.records h.offers
    call-fine (host.lookup_next j) key v c = unbeaten-none key v m.lent.records h.offers
    call-fine (host.lookup_replies j id body view) key v c = unbeaten-none key v m.lent.records h.offers
    call-fine (host.lookup_hears i j id) key v c = unbeaten-none key v m.lent.records h.offers
    call-fine (host.lookup_fails j id) key v c = unbeaten-none key v m.lent.records h.offers

    accepts-there : (c : Export) (key v : List ℕ) → Accepts me m key v c → inner.Accepts us world key v (meant me m c)
    accepts-there c key v (typed q e) = inner.typed (ap (meant me m) q) (put-number _ (ap (returns me m) (sym q) ∙ e))
    accepts-there c key v (sent i piece q s) = inner.sent i (take (taken_by me m i piece) piece) (ap (meant me m) q) (sent-there i piece key v s)

    accepted-found : (c : Export) (key v : List ℕ) → Accepts me m key v c → inner.Finds us (call (box.box us) world (meant me m c)).shared.state.lent.records key v
    unfolding calls AllFit
    accepted-found c key v a =
        let w : World Who Box Ask = call (box.box us) world (meant me m c) in
        (third us S.own).stays world ready [] tt (meant me m c) key v (accepts-there c key v a) [] tt
        (unbeaten-none key v w.shared.state.lent.records w.shared.state.offers)

    -- ---- what is found, in memory
    pub finds-there : (key v : List ℕ) → Finds me m key v → inner.Finds us m.lent.records key v
    unfolding find_of
    finds-there key v f = got-finds us m.lent.records key v ready.good.records (go (find_of m.lent.records key) refl f.find (f.there (0 ∷ 0 ∷ []) (omega arith)))
      where
        go : (x : Result (Option Held) Refusal) → find_of m.lent.records key ≡ x → find_number x ≡ 64
            → part m.lent.records (get_or (find_numbers (0 ∷ 0 ∷ []) x) 0 0) (get_or (find_numbers (0 ∷ 0 ∷ []) x) 1 0) ≡ v
            → history.got m.lent.records key ≡ Some v
        go (Ok (Some h)) e n p = (found-is m.lent.records key (sym (cond_no _ _ _ (ap not ready.good.records)) ∙ e)).2 ∙ ap Some p
        go (Ok None) e n p = absurd (omega (arith, n))
        go (Err r) e n p = absurd (omega (arith, n, number_small r))

    pub finds-here : (key v : List ℕ) → inner.Finds us m.lent.records key v → Finds me m key v
    finds-here key v f =
        record {
          find = ap find_number f.find;
          there = λ out l. ap (λ (x : Result (Option Held) Refusal). part m.lent.records (get_or (find_numbers out x) 0 0) (get_or (find_numbers out x) 1 0)) f.find ∙ at out l;
          asked = λ i piece a. get-served i piece (whole_open _ (m.buffers i) piece a.size a.whole) a.size a.whole key v f a;
        }
      where
        at : (out : List ℕ) → 2 ≤ length out → part m.lent.records (get_or (sets out 0 (f.at ∷ f.end ∷ [])) 0 0) (get_or (sets out 0 (f.at ∷ f.end ∷ [])) 1 0) ≡ v
        at [] l = absurd (omega (arith, l))
        at (x ∷ []) l = absurd (omega (arith, l))
        at (x ∷ y ∷ out) l = f.there

    -- ---- after a call: what memory holds is what the world holds
    after_call : (c : Export) (key v : List ℕ) → inner.Finds us (call (box.box us) world (meant me m c)).shared.state.lent.records key v
        → inner.Finds us (leaves me m c).lent.records key v
    after_call c key v f =
        let one : Follows me m world c = one-call me S m world c len ready refl in
        subst (λ (k : List ℕ). inner.Finds us k key v) (sym (ap (λ (w : World Who Box Ask). w.shared.state.lent.records) one.stands)) f

    still-found : (c : Export) (key v : List ℕ) → AllFit Fits (meant me m c ∷ []) → inner.Finds us m.lent.records key v
        → ((u : List ℕ) → Accepts me m key u c → outranks u v ≡ true → ⊥) → inner.Finds us (leaves me m c).lent.records key v
    unfolding calls
    still-found c key v fits f u = after_call c key v ((third us S.own).lasts world ready (meant me m c ∷ []) fits key v f (call-fine c key v u))

    accepted-fits : (c : Export) (key v : List ℕ) → Accepts me m key v c → AllFit Fits (meant me m c ∷ [])
    unfolding AllFit
    accepted-fits c key v (typed q e) = subst (λ (x : Export). AllFit Fits (meant me m x ∷ [])) (sym q) tt
    accepted-fits c key v (sent i piece q s) = subst (λ (x : Export). AllFit Fits (meant me m x ∷ [])) (sym q) tt

    -- and the world is ready for more
    abbrev then : Export → History
    then c = history_of (call (box.box us) world (meant me m c))

    then_ready : (c : Export) → AllFit Fits (meant me m c ∷ []) → ReadyFor me (world_in (leaves me m c) (then c))
    unfolding meant_all
    then_ready c fits = subst (ReadyFor me) (sym (one-call me S m world c len ready refl).stands) (ready-after me S m world c [] ready fits)

  -- ==== any calls
  found-on : (cs : List Export) (m : Memory) (h : History) → Enough m → ReadyFor me (world_in m h) → AllFit Fits (meant_all me m cs) → (key v : List ℕ)
      → inner.Finds us m.lent.records key v → Unbeaten me key v m cs → Finds me (leaves_all me m cs) key v
  unfolding leaves_all meant_all Unbeaten
  found-on [] m h len r fits key v f u = finds-here m h len r key v f
  found-on (c ∷ cs) m h len r fits key v f u =
      let here : AllFit Fits (meant me m c ∷ []) = fits_head me S (meant me m c) (meant_all me (leaves me m c) cs) fits in
      found-on cs (leaves me m c) (then m h len r c) (one-call me S m (world_in m h) c len r refl).enough (then_ready m h len r c here) (later-fit me S m c cs fits) key v
      (still-found m h len r c key v here f u.0) u.1

  pub lasts : Lasts me
  lasts m h len r cs fits key v f u = found-on cs m h len r fits key v (finds-there m h len r key v f) u

  pub stays : Stays me
  stays m h len r before fits c key v a later then-fits u =
      let b : FollowsAll me m (world_in m h) before = all-calls me S m (world_in m h) before len r refl fits in
      let m₁ : Memory = leaves_all me m before in
      let h₁ : History = history_of (after me (world_in m h) m before) in
      let r₁ : ReadyFor me (world_in m₁ h₁) = subst (ReadyFor me) (sym b.stands) b.ready in
      found-on later (leaves me m₁ c) (then m₁ h₁ b.enough r₁ c) (one-call me S m₁ (world_in m₁ h₁) c b.enough r₁ refl).enough
      (then_ready m₁ h₁ b.enough r₁ c (accepted-fits m₁ h₁ b.enough r₁ c key v a)) then-fits key v
      (after_call m₁ h₁ b.enough r₁ c key v (accepted-found m₁ h₁ b.enough r₁ c key v a)) u

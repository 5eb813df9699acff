-- A record that is accepted, typed or sent, is the one found under its key, and stays so. Assumes nothing.
use Prim.Native.Nat.{ℕ, ◌+◌}
use mathlib.Core.Path.{◌≡◌, refl, sym, ap, ap₂, ◌∙◌, subst}
use mathlib.Core.Bool.{Bool, true, false, cond, not}
use mathlib.Core.List.{List, [], ◌∷◌, append-nil}
use native.Mathlib.Omega.{arith}
use lib.ListN.{length, take, drop}
use lib.Seq.{drop_at}
use lib.Dec.{eqb}
use Rattle.octets.specs.Octets.{same}
use Rattle.octets.proofs.Bools.{to-false, cond_yes, cond_no}
use Rattle.refusal.specs.declared.Refusal.TheVariants.{BreaksRules, Shut as IsShut}
use Rattle.peer.specs.declared.Peer.{Peer}
use Rattle.recipe.specs.Recipe.{outranks}
use Rattle.records.specs.Store.{in_form, found, find_of, offer_answer, put_answer}
use Rattle.records_history.specs.History.{got, taken, Offer, accepts, offered, after, Accepted, Unbeaten}
use Rattle.records_history.proofs.Kept.{found-is, got-found}
use Rattle.records_history.proofs.Stays.{put_is, step-taken, holds_on, highest}
use Rattle.message.specs.Message.{Record, Message, message_of}
use Rattle.message.specs.View.{reading_of}
use Rattle.message.specs.declared.Fields.{Fields}
use Rattle.stream.specs.Stream as streams
use Rattle.stream.specs.Stream.{fresh, is_shut, run_of, receive_of as framed_of}
use Rattle.stream.proofs.Steps.{call-runs}
use Rattle.cutting.specs.Frames.{message}
use Rattle.cutting.specs.World as layer
use Rattle.cutting.specs.World.{Did, here, Line, Shared, World, Call, hand, asks, call, calls, Ready, AllFit}
use Rattle.cutting.proofs.World.{Well, play-all, handed-play}
use Rattle.replies.specs.Lent.{Lent, with_records}
use Rattle.message.specs.Kinds.{put_value}
use Rattle.replies.specs.Replies.{put_value_reply}
use Rattle.replies.specs.Verdicts.{Verdict, replies, refuses, echoed, put_verdict, Dealt, by_verdict}
use Rattle.answer.specs.Answers.{verdict_of, by_reading, deal_of}
use Rattle.answer_promises.specs.Promises.{Serves}
use Rattle.answer_promises.proofs.Promised.{held-is-served}
use Rattle.connections.specs.declared.Conn.{Conn}
use Rattle.node.specs.declared.Answer.{Answer}
use Rattle.node.specs.declared.Answer.TheVariants.{Reply, Heard, More}
use Rattle.node.specs.Node.{linked, Dealing, by_answer, served, heard_as, heard, dealing_of, Out, by_event, taken_of, gate_of, unless, receive_of}
use Rattle.demands.specs.Box.{Box, Who, conn_of, link_of, body_in, offer_by, offer_in, noted, Turn, Ask, put, Fits, dealing, happens, box, Own, Allowed, Good}
use Rattle.demands.specs.Demands.{since, receive_on, completed, Sent, Accepts, typed, sent, Finds}
use Rattle.demands.proofs.Connections.{gate-shut, gate-open}
use Rattle.demands.proofs.Deal.{deal-is}
use Rattle.demands.proofs.Receives.{dealing-any, let_through, runs_as}
use Rattle.demands.proofs.Kept.{MadeSince, made-lasting, Held, dealing-keeps}
use Rattle.demands.proofs.Sound.{sound, sound-held}
use Rattle.demands.proofs.Ready.{call-ready, calls-ready}
use Rattle.std.specs.Prelude.{Ok, Err, Some, None, Result, Option, ⊤}
use Rattle.refusal.specs.declared.Refusal.{Refusal}
use Rattle.sightings.specs.declared.Sighting.{Sighting}

-- ---- what is found
module _ (me : Peer) (k key v : List ℕ) (f : in_form k ≡ true) where
  found-by : find_of k key ≡ found k key
  unfolding find_of
  found-by = cond_no (not (in_form k)) _ _ (ap not f)

  pub finds-got : Finds me k key v → got k key ≡ Some v
  finds-got h = (found-is k key (sym found-by ∙ h.find)).2 ∙ ap Some h.there

  pub got-finds : got k key ≡ Some v → Finds me k key v
  got-finds g =
      let w = got-found k key v g in
      record {
        at = w.0;
        end = w.1;
        find = found-by ∙ w.2;
        there = w.3;
        asked = λ who body l m z d e q h. subst (λ (x : List ℕ). Serves (deal_of me who body (with_records l k)) l.reply x v) q
            (held-is-served me who body (with_records l k) v m z d e f (ap (got k) q ∙ g) h);
      }

-- ---- a PUT_VALUE that gets a reply was taken by the store
abbrev Replied : Verdict → Type 0
Replied (replies m) = Unit {0}
Replied (refuses r) = ⊥

abbrev Told : Result ℕ Refusal → Type 0
Told (Ok n) = Unit {0}
Told (Err r) = ⊥

put-taken : (key : List ℕ) (r : Record) (k : List ℕ) → Replied (put_verdict key (Some r) k) → (same r.key key ≡ true) × (offer_answer k key r.value ≡ Ok tt)
unfolding put_verdict
put-taken key r k h = go (same r.key key) refl (offer_answer k key r.value) refl h
  where
    go : (b : Bool) → same r.key key ≡ b → (x : Result ⊤ Refusal) → offer_answer k key r.value ≡ x
        → Replied (cond b (echoed x (put_value_reply key r.value)) (refuses BreaksRules)) → (same r.key key ≡ true) × (offer_answer k key r.value ≡ Ok tt)
    go true e (Ok tt) q z = (e, q)
    go true e (Err y) q z = absurd z
    go false e x q z = absurd z

module _ (me : Peer) where
  put-verdict : (who : Peer) (m : Message) (l : Lent) (r : Record) → m.kind ≡ put_value → m.held ≡ Some r → verdict_of me who m l ≡ put_verdict m.key (Some r) l.records
  unfolding verdict_of
  put-verdict who m l r e h = cond_yes _ _ _ (ap (λ (z : ℕ). eqb z put_value) e) ∙ ap (λ (x : Option Record). put_verdict m.key x l.records) h

  no-heard : (j n : ℕ) (r : Result Fields Refusal) → heard_as j r ≡ Ok (Reply n) → ⊥
  no-heard j n (Ok f) e = let z : ◌≡◌ {A = ℕ} 0 1 = cc in omega arith
  no-heard j n (Err q) e = let z : ◌≡◌ {A = ℕ} 0 1 = cc in omega arith

  was-told : (x : Result ℕ Refusal) (d : Dealt) (c : Conn) (l : Lent) (n : ℕ) → (by_answer x d.left me c l).answer ≡ Ok (Reply n) → Told x
  was-told (Ok j) d c l n e = tt
  was-told (Err r) d c l n e = let z : ◌≡◌ {A = ℕ} 0 1 = cc in omega arith

  by-verdict : (v : Verdict) (next l : Lent) → Told (by_verdict v next l).told → Replied v
  by-verdict (replies m) next l h = tt
  by-verdict (refuses r) next l h = h

  by-reading : (r : Result Fields Refusal) (who : Peer) (m : Message) (l : Lent) → Told (by_reading r me who m l).told → (f : Fields) × (r ≡ Ok f) × Replied (verdict_of me who m l)
  by-reading (Err q) who m l h = absurd h
  by-reading (Ok f) who m l h = (f, refl, by-verdict (verdict_of me who m l) _ l h)

  module _ (w : Who) (a : Box) (body : List ℕ) (n : ℕ) (e : (dealing me w a body).answer ≡ Ok (Reply n)) where
    serves : w.asking ≡ false
    unfolding dealing_of heard
    serves = go w.asking refl e
      where
        go : (b : Bool) → w.asking ≡ b → (cond b (heard body a.lent) (served me (conn_of w fresh) body a.lent)).answer ≡ Ok (Reply n) → w.asking ≡ false
        go true q h = absurd (no-heard (length body) n (reading_of body) h)
        go false q h = q

    tells : Told (deal_of me w.peer body a.lent).told
    unfolding dealing_of served
    tells =
        let d : Dealt = deal_of me w.peer body a.lent in
        was-told d.told d (conn_of w fresh) a.lent n (ap (λ (x : Dealing). x.answer) (sym (cond_no w.asking _ _ serves)) ∙ e)

    reads : (f : Fields) × (reading_of body ≡ Ok f) × Replied (verdict_of me w.peer (message_of body) a.lent)
    reads =
        by-reading (reading_of body) w.peer (message_of body) a.lent
        (subst (λ (d : Dealt). Told d.told) (deal-is me w.peer body a.lent) tells)

    module _ (r : Record) (q : (message_of body).kind ≡ put_value) (h : (message_of body).held ≡ Some r) where
      abbrev offer : Offer
      offer = record { key = (message_of body).key; value = r.value }

      takes : (same r.key (message_of body).key ≡ true) × (offer_answer a.lent.records (message_of body).key r.value ≡ Ok tt)
      takes = put-taken (message_of body).key r a.lent.records (subst Replied (put-verdict w.peer (message_of body) a.lent r q h) reads.2)

      offers : offer_in w body ≡ offer ∷ []
      offers =
          cond_no w.asking _ _ serves ∙ ap₂ (λ (x : Result Fields Refusal) (y : Option Record). offer_by x (message_of body) y) reads.1 h
          ∙ cond_yes _ _ _ (ap (λ (z : ℕ). eqb z put_value) q) ∙ cond_yes _ _ _ takes.0

      accepted : in_form a.lent.records ≡ true → accepts a.lent.records offer ≡ true
      unfolding accepts taken
      accepted f = ap taken ((put_is a.lent.records (message_of body).key r.value f).0 ∙ takes.1)

      one : (k : List ℕ) (o : Offer) → after k (o ∷ []) ≡ offered k o
      unfolding after
      one k o = refl

      noted-records : (i at : ℕ) (x : Result Answer Refusal) (s : Option (Result Sighting Refusal)) (b : List ℕ) (l : Lent) (os : List Offer) → (noted i at x s b l os a).lent.records ≡ l.records
      noted-records i at (Ok (Reply j)) s b l os = refl
      noted-records i at (Ok (Heard j f)) s b l os = refl
      noted-records i at (Err z) s b l os = refl
      noted-records i at (Ok More) s b l os = refl

      message-got : Allowed me w → Good me a → (i at : ℕ) → got (happens me i w a (message at body)).lent.records (message_of body).key ≡ Some r.value
      message-got p g i at =
          let d : Dealing = dealing me w a body in
          let c = dealing-keeps me (λ k os. Unit {0}) (record { on = λ k os ps x. tt }) w a body p g in
          ap (λ (x : List ℕ). got x (message_of body).key)
          (noted-records i at d.answer d.sight body d.left (offer_in w body) ∙ c.records ∙ ap (after a.lent.records) offers ∙ one a.lent.records offer)
          ∙ step-taken (message_of body).key a.lent.records offer refl (accepted g.records)

  -- ---- a piece that one receive takes whole: what its event does
  pub hand-state : (w : Own me) (s : World Who Box Ask) → Ready (Allowed me) (Good me) s → (i : ℕ) (p : List ℕ) → is_shut (s.lines i).framing ≡ false
      → let l = s.lines i in
      let q = run_of l.framing l.buffer p in
      (x : Result (Option ℕ) Refusal) → q.got.answer ≡ x → q.got.taken ≡ length p
      → (call (box me) s (hand i p)).shared.state ≡ layer.noted (happens me) i l.who s.shared.state x (l.taken + length p) q.buffer
  unfolding call
  hand-state w s r i p not-shut x e t =
      let q : streams.Out = run_of (s.lines i).framing (s.lines i).buffer p in
      let o : streams.Out = streams.out q.got.framing (length p) x q.buffer in
      let y : q ≡ o = λ j. streams.out q.got.framing (t j) (e j) q.buffer in
      let d : Well (box me) (sound me w) (here s i) = record { line = r.lines i; good = r.good } in
      ap (λ (z : Did (Line Who) (Shared Box Ask)). z.shared.state)
      (handed-play (box me) (sound me w) i (here s i) p d ∙ play-all (box me) p i (here s i) o not-shut y (omega arith))

  module _ (w : Own me) (s : World Who Box Ask) (r : Ready (Allowed me) (Good me) s) (i : ℕ) (p key v : List ℕ) (h : Sent me s i p key v) where
    abbrev l : Line Who
    l = s.lines i

    abbrev a : Box
    a = s.shared.state

    abbrev q : streams.Out
    q = run_of l.framing l.buffer p

    abbrev event : Result (Option ℕ) Refusal → Out
    event x = by_event x me (linked (conn_of l.who q.got.framing) q.buffer) q.got.taken a.lent

    not-shut : is_shut l.framing ≡ false
    unfolding receive_of
    not-shut = to-false (is_shut l.framing) (λ e. closed (gate-shut me l a (r.lines i) e r.good))
      where
        closed : gate_of me (link_of l) a.lent ≡ Err IsShut → ⊥
        closed e =
            let y : Err IsShut ≡ (Ok (Reply h.size)) =
            ap (λ (g : Result ⊤ Refusal). (unless g (link_of l) a.lent (taken_of me (link_of l) p a.lent)).got.answer) (sym e) ∙ h.reply in
            let z : ◌≡◌ {A = ℕ} 0 1 = cc in omega arith

    runs : framed_of l.framing l.buffer p ≡ q
    runs = call-runs l.framing l.buffer p (r.lines i).form (r.lines i).room not-shut

    gives : (x : Result (Option ℕ) Refusal) → q.got.answer ≡ x → receive_on me s i p ≡ event x
    gives x e =
        let_through me l p a.lent (gate-open me w l a (r.lines i) not-shut r.good)
        ∙ runs_as me l p a.lent q runs ∙ ap event e

    answers : (x : Result (Option ℕ) Refusal) → q.got.answer ≡ x → (event x).got.answer ≡ Ok (Reply h.size)
    answers x e = ap (λ (o : Out). o.got.answer) (sym (gives x e)) ∙ h.reply

    sent-got : got (call (box me) s (hand i p)).shared.state.lent.records key ≡ Some v
    sent-got = go q.got.answer refl
      where
        go : (x : Result (Option ℕ) Refusal) → q.got.answer ≡ x → got (call (box me) s (hand i p)).shared.state.lent.records key ≡ Some v
        go (Ok None) e = absurd (let y = answers (Ok None) e in let z : ◌≡◌ {A = ℕ} 0 1 = cc in omega arith)
        go (Err x) e = absurd (let y = answers (Err x) e in let z : ◌≡◌ {A = ℕ} 0 1 = cc in omega arith)
        go (Ok (Some n)) e =
            let body : List ℕ = take n q.buffer in
            let at : ℕ = l.taken + length p in
            let o = gives (Ok (Some n)) e in
            let t : q.got.taken ≡ length p = ap (λ (x : Out). x.got.taken) (sym o) ∙ h.all in
            let y : (dealing me l.who a (take n q.buffer)).answer ≡ (Ok (Reply h.size)) =
            ap (λ (x : Dealing). x.answer) (sym (dealing-any me l.who q.got.framing (take n q.buffer) a.lent)) ∙ answers (Ok (Some n)) e in
            let m : completed me s i p ≡ message_of (take n q.buffer) =
            ap₂ (λ (x : Result (Option ℕ) Refusal) (b : List ℕ). message_of (body_in x b)) (ap (λ (x : streams.Out). x.got.answer) runs ∙ e) (ap (λ (x : Out). x.buffer) o) in
            let k : (message_of (take n q.buffer)).key ≡ key = ap (λ (x : Message). x.key) (sym m) ∙ h.under in
            ap (λ (x : Box). got x.lent.records key) (hand-state w s r i p not-shut (Ok (Some n)) e t) ∙ ap (got (happens me i l.who a (message at body)).lent.records) (sym k)
            ∙ message-got l.who a body h.size y h.what (ap (λ (x : Message). x.kind) (sym m) ∙ h.kind) (ap (λ (x : Message). x.held) (sym m) ∙ h.held)
            ((r.lines i).peer not-shut) r.good i at
            ∙ ap Some h.says

  -- ---- any call that accepts a record
  module _ (w : Own me) (s : World Who Box Ask) (r : Ready (Allowed me) (Good me) s) where
    typed-got : (key v : List ℕ) → put_answer s.shared.state.lent.records key v ≡ Ok tt → got (call (box me) s (asks (put key v))).shared.state.lent.records key ≡ Some v
    unfolding call accepts offered taken
    typed-got key v e = step-taken key s.shared.state.lent.records (record { key = key; value = v }) refl (ap taken e)

    accepted-got : (key v : List ℕ) (c : Call Turn Ask) → Accepts me s key v c → got (call (box me) s c).shared.state.lent.records key ≡ Some v
    accepted-got key v c (typed q e) = ap (λ (x : Call Turn Ask). got (call (box me) s x).shared.state.lent.records key) q ∙ typed-got key v e
    accepted-got key v c (sent i p q h) = ap (λ (x : Call Turn Ask). got (call (box me) s x).shared.state.lent.records key) q ∙ sent-got w s r i p key v h

    accepted-ready : (key v : List ℕ) (c : Call Turn Ask) → Accepts me s key v c → Ready (Allowed me) (Good me) (call (box me) s c)
    accepted-ready key v c (typed q e) = subst (λ (x : Call Turn Ask). Ready (Allowed me) (Good me) (call (box me) s x)) (sym q) (call-ready (box me) (sound me w) s (asks (put key v)) r tt)
    accepted-ready key v c (sent i p q h) = subst (λ (x : Call Turn Ask). Ready (Allowed me) (Good me) (call (box me) s x)) (sym q) (call-ready (box me) (sound me w) s (hand i p) r tt)

    -- ---- the store after any calls is what was offered since made of it
    pub made : (cs : List (Call Turn Ask)) → AllFit Fits cs
        → (calls (box me) s cs).shared.state.lent.records ≡ after s.shared.state.lent.records (since s (calls (box me) s cs))
    unfolding after
    made cs f =
        let k : List ℕ = s.shared.state.lent.records in
        let os : List Offer = s.shared.state.offers in
        let begun : Ready (Allowed me) (Held me (MadeSince k os)) s = record { lines = r.lines; good = record { good = r.good; offers = ([], sym (append-nil os), refl) } } in
        let h = (calls-ready (box me) (sound-held me w (MadeSince k os) (made-lasting k os)) cs s begun f).good.offers in
        let e : since s (calls (box me) s cs) ≡ h.0 = ap (drop (length os)) h.1 ∙ drop_at os h.0 (length os) refl in
        h.2 ∙ ap (after k) (sym e)

    form : (cs : List (Call Turn Ask)) → AllFit Fits cs → in_form (calls (box me) s cs).shared.state.lent.records ≡ true
    form cs f = (calls-ready (box me) (sound me w) cs s r f).good.records

    got-lasts : (cs : List (Call Turn Ask)) → AllFit Fits cs → (key v : List ℕ) → got s.shared.state.lent.records key ≡ Some v
        → Unbeaten key v s.shared.state.lent.records (since s (calls (box me) s cs)) → Finds me (calls (box me) s cs).shared.state.lent.records key v
    got-lasts cs f key v g u =
        got-finds me _ key v (form cs f)
        (ap (λ (x : List ℕ). got x key) (made cs f) ∙ holds_on key v s.shared.state.lent.records (since s (calls (box me) s cs)) g u)

    pub lasts : (cs : List (Call Turn Ask)) → AllFit Fits cs → (key v : List ℕ) → Finds me s.shared.state.lent.records key v
        → Unbeaten key v s.shared.state.lent.records (since s (calls (box me) s cs)) → Finds me (calls (box me) s cs).shared.state.lent.records key v
    lasts cs f key v h u = got-lasts cs f key v (finds-got me s.shared.state.lent.records key v r.good.records h) u

    pub outranked-by-none : (cs : List (Call Turn Ask)) → AllFit Fits cs → (key v : List ℕ) → Accepted key v s.shared.state.lent.records (since s (calls (box me) s cs))
        → (u : List ℕ) × Finds me (calls (box me) s cs).shared.state.lent.records key u × (outranks v u ≡ false)
    outranked-by-none cs f key v h =
        let x = highest key v s.shared.state.lent.records (since s (calls (box me) s cs)) h in
        (x.0, got-finds me _ key x.0 (form cs f) (ap (λ (y : List ℕ). got y key) (made cs f) ∙ x.1), x.2)

  pub stays : (w : Own me) (s : World Who Box Ask) → Ready (Allowed me) (Good me) s → (before : List (Call Turn Ask)) → AllFit Fits before → (c : Call Turn Ask) (key v : List ℕ)
      → Accepts me (calls (box me) s before) key v c → (later : List (Call Turn Ask)) → AllFit Fits later
      → let now = call (box me) (calls (box me) s before) c in
      let end = calls (box me) now later in
      Unbeaten key v now.shared.state.lent.records (since now end) → Finds me end.shared.state.lent.records key v
  stays w s r before b c key v h later f u =
      let s₁ : World Who Box Ask = calls (box me) s before in
      let r₁ : Ready (Allowed me) (Good me) s₁ = calls-ready (box me) (sound me w) before s r b in
      got-lasts w (call (box me) s₁ c) (accepted-ready w s₁ r₁ key v c h) later f key v (accepted-got w s₁ r₁ key v c h) u

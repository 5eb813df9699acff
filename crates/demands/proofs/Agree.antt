-- Boxes that start with no records, are offered the same set of records and never give 11 hold the same: a box whose log has no 11 gave none to an offer, and
-- its offers are the records that were typed or sent. Assumes nothing.
use Prim.Native.Nat.{ℕ, ◌+◌, ◌≤◌}
use mathlib.Core.Path.{◌≡◌, refl, sym, ap, ap₂, ◌∙◌, subst}
use mathlib.Core.Logic.{⊎_elim}
use mathlib.Core.Bool.{true, false}
use mathlib.Core.List.{List, [], ◌∷◌, ◌++◌, append_assoc, append-nil}
use native.Mathlib.Omega.{arith}
use lib.ListN.{length, take, drop, length-take}
use lib.Seq.{drop_at}
use lib.Dec.{eqb}
use borrow.Author.Tests.{eqb-true}
use Rattle.octets.specs.Octets.{same}
use Rattle.octets.proofs.Bools.{cond_ind, cond_yes, cond_no, either}
use Rattle.octets.proofs.Strings.{same-eq, same-yes}
use Rattle.limits.specs.Limits.{most_body}
use Rattle.refusal.specs.declared.Refusal.{Refusal}
use Rattle.refusal.specs.declared.Refusal.TheVariants.{NoRecordSlot}
use Rattle.peer.specs.declared.Peer.{Peer}
use Rattle.records.specs.Store.{in_form, put_answer, put_after}
use Rattle.recipe.specs.Recipe.{is_recipe}
use Rattle.records_history.specs.History.{Offer, got, offered, after}
use Rattle.records_history.specs.Agree.{NoRecords, SameSet, HoldSame, IsOffered, Highest, Never11 as NoOffer11}
use Rattle.records_history.proofs.Agree.{never-more, through, agreement}
use Rattle.message.specs.Message.{Record, Message, message_of, well_message, decode}
use Rattle.message.specs.View.{reading_of}
use Rattle.message.proofs.Views.{read_whole, whole-read}
use Rattle.stream.specs.Stream as streams
use Rattle.stream.specs.Stream.{fresh, is_shut, run_of, receive_of as framed_of}
use Rattle.stream.proofs.Steps.{call-runs}
use Rattle.cutting.specs.Frames.{Event, message, refused as broken}
use Rattle.cutting.specs.World as layer
use Rattle.cutting.specs.World.{Did, here, Line, Shared, World, Call, hand, does, asks, call, calls, Sound, Ready, AllFit}
use Rattle.cutting.proofs.World.{Well}
use Rattle.cutting.proofs.Once.{no_call}
use Rattle.cutting.proofs.Kept.{message-fits}
use Rattle.replies.specs.Lent.{Lent, with_records}
use Rattle.message.specs.Kinds.{put_value}
use Rattle.replies.specs.Replies.{put_value_reply}
use Rattle.replies.specs.Verdicts.{Dealt, by_verdict, echoed}
use Rattle.answer.specs.Answers.{deal_of}
use Rattle.answer_promises.proofs.Promised.{sent-as-typed}
use Rattle.node.specs.declared.Answer.{Answer}
use Rattle.node.specs.declared.Answer.TheVariants.{Reply, Heard, More}
use Rattle.node.specs.Node.{Dealing}
use Rattle.node_promises.proofs.Doing.{message-done}
use Rattle.demands.specs.Box as box
use Rattle.demands.specs.Box.{Entry, Box, Who, conn_of, offer_by, offer_in, noted, Turn, Fits, Ask, dealing, happens, turning, asking, Own, Allowed, Good}
use Rattle.demands.specs.Demands.{since, Finds}
use Rattle.demands.specs.Agree as agree
use Rattle.demands.specs.Agree.{Never11, Sends, Brings, TakesAll, Bench, end, offers, OffersReach, BenchesAgree}
use Rattle.demands.proofs.Connections.{whole_open}
use Rattle.demands.proofs.Deal.{decoded}
use Rattle.demands.proofs.Kept.{after_more, dealing-keeps}
use Rattle.demands.proofs.Sound.{sound}
use Rattle.demands.proofs.Ready.{calls-ready}
use Rattle.demands.proofs.Accepting.{got-finds, finds-got, hand-state}
use Rattle.std.specs.Prelude.{Ok, Err, Some, None, Result, Option, ⊤}
use Rattle.message.specs.declared.Fields.{Fields}
use Rattle.sightings.specs.declared.Sighting.{Sighting}

-- ---- what a message offers
-- nothing, or the one record that it sends
module _ (w : Who) (body : List ℕ) where
  pub offer-ind : (P : List Offer → Type 0) → P [] → ((key value : List ℕ) → length body ≤ most_body → Sends w body key value → P (record { key = key; value = value } ∷ []))
      → P (offer_in w body)
  unfolding decode
  offer-ind P nothing one = cond_ind P w.asking [] _ (λ e. nothing) (λ e. read e (reading_of body) refl (message_of body).held refl)
    where
      read : w.asking ≡ false → (x : Result Fields Refusal) → reading_of body ≡ x → (h : Option Record) → (message_of body).held ≡ h → P (offer_by x (message_of body) h)
      read side (Err r) e h q = nothing
      read side (Ok f) e None q = nothing
      read side (Ok f) e (Some r) q =
          let x = read_whole body f e in
          cond_ind P (eqb (message_of body).kind put_value) _ [] (λ k. cond_ind P (same r.key (message_of body).key) _ []
          (λ s. one (message_of body).key r.value x.short (record {
            side = side;
            says = message_of body;
            reads = cond_yes (well_message body) _ _ x.well;
            kind = eqb-true _ _ k;
            under = refl;
            held = q ∙ ap (λ (z : List ℕ). Some (record { key = z; value = r.value })) (same-eq r.key (message_of body).key s);
          })) (λ s. nothing)) (λ k. nothing)

  pub sends-offer : (key value : List ℕ) → length body ≤ most_body → Sends w body key value → offer_in w body ≡ record { key = key; value = value } ∷ []
  sends-offer key value l s =
      let d : message_of body ≡ s.says = decoded body s.says s.reads in
      let k : (message_of body).kind ≡ put_value = ap (λ (m : Message). m.kind) d ∙ s.kind in
      let u : (message_of body).key ≡ key = ap (λ (m : Message). m.key) d ∙ s.under in
      let h : (message_of body).held ≡ Some (record { key = key; value = value }) = ap (λ (m : Message). m.held) d ∙ s.held in
      cond_no w.asking [] _ s.side
      ∙ ap₂ (λ (x : Result Fields Refusal) (y : Option Record). offer_by x (message_of body) y) (whole-read body s.says l s.reads (omega (arith, s.kind))).0 h
      ∙ cond_yes _ _ _ (ap (λ (z : ℕ). eqb z put_value) k) ∙ cond_yes _ _ _ (same-yes key (message_of body).key (sym u))
      ∙ ap (λ (z : List ℕ). record { key = z; value = value } ∷ []) u

-- ---- a message that isn't answered 11 offers nothing that the store answers so
module _ (me : Peer) (w : Who) (a : Box) (body : List ℕ) (g : Good me a) where
  dealt-11 : (key value : List ℕ) → length body ≤ most_body → Sends w body key value → put_answer a.lent.records key value ≡ Err NoRecordSlot
      → (dealing me w a body).answer ≡ Err NoRecordSlot
  dealt-11 key value l s e =
      let says : Message = s.says in
      let d : (deal_of me w.peer body a.lent).told ≡ Err NoRecordSlot =
      ap (λ (x : Dealt). x.told)
      (sent-as-typed me w.peer body a.lent says (record { key = key; value = value }) l s.reads s.kind s.held (sym s.under) g.records
      ∙ ap (λ (x : Result ⊤ Refusal). by_verdict (echoed x (put_value_reply says.key value)) (with_records a.lent (put_after a.lent.records says.key value)) a.lent) (ap (λ (z : List ℕ). put_answer a.lent.records z value) s.under ∙ e)) in
      ap (λ (x : Dealing). x.answer) (message-done.refuses me (conn_of w fresh) body a.lent NoRecordSlot s.side d)

  dealing-never : ((dealing me w a body).answer ≡ Err NoRecordSlot → ⊥) → NoOffer11 a.lent.records (offer_in w body)
  unfolding NoOffer11
  dealing-never h = offer-ind w body (NoOffer11 a.lent.records) tt (λ key value l s. ((λ e. h (dealt-11 key value l s e)), tt))

-- ---- the log
never-parts : (es fs : List Entry) → Never11 (es ++ fs) → Never11 es × Never11 fs
unfolding Never11
never-parts [] fs n = (tt, n)
never-parts (e ∷ es) fs n = let r = never-parts es fs n.1 in ((n.0, r.0), r.1)

-- ---- since a box's state s: while the log got no 11, no offer was answered so
record Tidy (me : Peer) (s a : Box) : Type 0 where
  good : Good me a
  said : List Entry
  made : List Offer
  log : a.log ≡ s.log ++ said
  offers : a.offers ≡ s.offers ++ made
  records : a.lent.records ≡ after s.lent.records made
  never : Never11 said → NoOffer11 s.lent.records made

module _ (me : Peer) (own : Own me) (s : Box) where
  -- lines of the log more, and offers of which the store answers none 11 unless a line says so
  on : (a b : Box) (es : List Entry) (os : List Offer) → Tidy me s a → Good me b → b.log ≡ a.log ++ es → b.offers ≡ a.offers ++ os → b.lent.records ≡ after a.lent.records os
      → (Never11 es → NoOffer11 a.lent.records os) → Tidy me s b
  on a b es os t g l o r n =
      record {
        good = g;
        said = t.said ++ es;
        made = t.made ++ os;
        log = l ∙ ap (λ (x : List Entry). x ++ es) t.log ∙ append_assoc s.log t.said es;
        offers = o ∙ ap (λ (x : List Offer). x ++ os) t.offers ∙ append_assoc s.offers t.made os;
        records = r ∙ ap (λ (x : List ℕ). after x os) t.records ∙ sym (after_more s.lent.records t.made os);
        never = λ q.
            let p = never-parts t.said es q in
            never-more s.lent.records t.made os (t.never p.0) (subst (λ (x : List ℕ). NoOffer11 x os) t.records (n p.1));
      }

  -- a line alone
  line : (a b : Box) (e : Entry) → Tidy me s a → Good me b → b.log ≡ a.log ++ (e ∷ []) → b.offers ≡ a.offers → b.lent.records ≡ a.lent.records → Tidy me s b
  unfolding after NoOffer11
  line a b e t g l o r = on a b (e ∷ []) [] t g l (o ∙ sym (append-nil a.offers)) r (λ n. tt)

  noted-tidy : (i at : ℕ) (x : Result Answer Refusal) (y : Option (Result Sighting Refusal)) (body : List ℕ) (l : Lent) (os : List Offer) (a : Box) → Tidy me s a → Good me (noted i at x y body l os a)
      → l.records ≡ after a.lent.records os → ((x ≡ Err NoRecordSlot → ⊥) → NoOffer11 a.lent.records os) → Tidy me s (noted i at x y body l os a)
  unfolding Never11
  noted-tidy i at (Ok (Reply n)) y body l os a t g r q = on a _ _ os t g refl refl r (λ _. q (λ e. let w : ◌≡◌ {A = ℕ} 0 1 = cc in omega arith))
  noted-tidy i at (Ok (Heard n f)) y body l os a t g r q = on a _ _ os t g refl refl r (λ _. q (λ e. let w : ◌≡◌ {A = ℕ} 0 1 = cc in omega arith))
  noted-tidy i at (Err j) y body l os a t g r q =
      on a _ (box.event i at (box.refused j) ∷ []) os t g refl refl r (λ n. q (λ e. n.0 (agree.message i at (ap (λ (x : Refusal). box.event i at (box.refused x)) (the e)))))
    where
      the : {u v : Refusal} → ◌≡◌ {A = Result Answer Refusal} (Err u) (Err v) → u ≡ v
      the e = cc
  noted-tidy i at (Ok More) y body l os a t g r q = on a _ [] os t g (sym (append-nil a.log)) refl r (λ _. q (λ e. let w : ◌≡◌ {A = ℕ} 0 1 = cc in omega arith))

  S : Sound (box.box me) (Allowed me) (Good me) Fits
  S = sound me own

  happens-tidy : (i : ℕ) (p : Who) (a : Box) (e : Event) → Allowed me p → Tidy me s a → Tidy me s (happens me i p a e)
  happens-tidy i p a (message at body) h t =
      let d = dealing me p a body in
      let k = dealing-keeps me (λ k os. Unit {0}) (record { on = λ k os ps x. tt }) p a body h t.good in
      noted-tidy i at d.answer d.sight body d.left (offer_in p body) a t (S.puts i p a (message at body) h t.good) k.records
      (dealing-never me p a body t.good)
  happens-tidy i p a (broken at r) h t = line a _ _ t (S.puts i p a (broken at r) h t.good) refl refl refl

  turning-tidy : (i : ℕ) (b : Turn) (l : Line Who) (a : Box) → Good me (turning me i b l a).shared → Tidy me s a → Tidy me s (turning me i b l a).shared
  turning-tidy i (box.opens id server side addresses m) l a g t = line a _ _ t g refl refl refl
  turning-tidy i box.ends l a g t = line a _ _ t g refl refl refl

  asking-tidy : (a : Box) (o : Ask) → Tidy me s a → Tidy me s (asking me a o)
  unfolding after offered Never11 NoOffer11
  asking-tidy a (box.put key value) t =
      on a _ (box.called (box.put_gave (put_answer a.lent.records key value)) ∷ []) (record { key = key; value = value } ∷ []) t (S.hosts a (box.put key value) t.good) refl refl refl
      (λ n. ((λ e. n.0 (agree.typed (ap (λ (x : Result ⊤ Refusal). box.called (box.put_gave x)) e))), tt))
  asking-tidy a (box.find key) t = line a _ _ t (S.hosts a (box.find key) t.good) refl refl refl
  asking-tidy a (box.seen id client addresses) t = line a _ _ t (S.hosts a (box.seen id client addresses) t.good) refl refl refl
  asking-tidy a (box.settle head id client addresses answered) t = line a _ _ t (S.hosts a (box.settle head id client addresses answered) t.good) refl refl refl
  asking-tidy a (box.remove id) t = line a _ _ t (S.hosts a (box.remove id) t.good) refl refl refl
  asking-tidy a (box.doubt id) t = line a _ _ t (S.hosts a (box.doubt id) t.good) refl refl refl
  asking-tidy a (box.nearest key) t = line a _ _ t (S.hosts a (box.nearest key) t.good) refl refl refl
  asking-tidy a (box.start j key limit) t = line a _ _ t (S.hosts a (box.start j key limit) t.good) refl refl refl
  asking-tidy a (box.next j) t = line a _ _ t (S.hosts a (box.next j) t.good) refl refl refl
  asking-tidy a (box.reply j id body view) t = line a _ _ t (S.hosts a (box.reply j id body view) t.good) refl refl refl
  asking-tidy a (box.reply_from i j id) t = line a _ _ t (S.hosts a (box.reply_from i j id) t.good) refl refl refl
  asking-tidy a (box.failure j id) t = line a _ _ t (S.hosts a (box.failure j id) t.good) refl refl refl

  tidy : Sound (box.box me) (Allowed me) (Tidy me s) Fits
  tidy =
      record {
        receives = λ i l a bs f o t. S.receives i l a bs f o t.good;
        puts = happens-tidy;
        act-line = λ i b l a x f t. S.act-line i b l a x f t.good;
        act-good = λ i b l a x f t. turning-tidy i b l a (S.act-good i b l a x f t.good) t;
        hosts = asking-tidy;
      }

-- offers ps more, or none
added : (before now ps : List Offer) → now ≡ before ++ ps → drop (length before) now ≡ ps
added before now ps e = ap (drop (length before)) e ∙ drop_at before ps (length before) refl

none-added : (before now : List Offer) → now ≡ before → drop (length before) now ≡ []
none-added before now e = added before now [] (e ∙ sym (append-nil before))

-- so after any calls
tidied : (me : Peer) (own : Own me) (s : World Who Box Ask) → Ready (Allowed me) (Good me) s → (cs : List (Call Turn Ask)) → AllFit Fits cs
    → Tidy me s.shared.state (calls (box.box me) s cs).shared.state
unfolding NoOffer11 after
tidied me own s r cs f =
    let a : Box = s.shared.state in
    (calls-ready (box.box me) (tidy me own s.shared.state) cs s (record {
      lines = r.lines;
      good = record {
        good = r.good;
        said = [];
        made = [];
        log = sym (append-nil a.log);
        offers = sym (append-nil a.offers);
        records = refl;
        never = λ n. tt;
      };
    }) f).good

-- ---- a bench
record Made (b : Bench) : Type 0 where
  records : agree.held b ≡ after b.start.shared.state.lent.records (offers b)
  never : NoOffer11 b.start.shared.state.lent.records (offers b)

made : (b : Bench) → Made b
made b =
    let s : Box = b.start.shared.state in
    let t = tidied b.me b.own b.start b.ready b.did b.fit in
    let o : offers b ≡ t.made = added s.offers _ _ t.offers in
    let l : drop (length s.log) (end b).shared.state.log ≡ t.said = ap (drop (length s.log)) t.log ∙ drop_at s.log t.said (length s.log) refl in
    record {
      records = t.records ∙ ap (after s.lent.records) (sym o);
      never = subst (NoOffer11 s.lent.records) (sym o) (t.never (subst Never11 l b.never));
    }

two : (a b : Bench) → SameSet (offers a) (offers b) → HoldSame (agree.held a) (agree.held b)
two a b s =
    let m = made a in
    let n = made b in
    subst (λ (x : List ℕ). HoldSame x (agree.held b)) (sym m.records)
    (subst (HoldSame (after a.start.shared.state.lent.records (offers a))) (sym n.records) (agreement.two _ _ (offers a) (offers b) a.empty b.empty s m.never n.never))

found : (a b : Bench) → SameSet (offers a) (offers b) → (key v : List ℕ) → Finds a.me (agree.held a) key v → Finds b.me (agree.held b) key v
found a b s key v f =
    got-finds b.me (agree.held b) key v (form b) (sym ((two a b s).found key) ∙ finds-got a.me (agree.held a) key v (form a) f)
  where
    form : (c : Bench) → in_form (agree.held c) ≡ true
    form c = (calls-ready (box.box c.me) (sound c.me c.own) c.did c.start c.ready c.fit).good.records

highest : (b : Bench) (key : List ℕ) → Highest is_recipe key (λ v. IsOffered key v (offers b)) (got (agree.held b) key)
highest b key =
    let m = made b in
    subst (λ (x : List ℕ). Highest is_recipe key (λ v. IsOffered key v (offers b)) (got x key)) (sym m.records) (agreement.highest _ (offers b) b.empty m.never key)

-- ---- what reaches the store
module _ (me : Peer) (s : World Who Box Ask) where
  typed : (key value : List ℕ) → since s (call (box.box me) s (asks (box.put key value))) ≡ record { key = key; value = value } ∷ []
  unfolding call
  typed key value = added s.shared.state.offers _ _ refl

  asked : (o : Ask) → ((key value : List ℕ) → o ≡ box.put key value → ⊥) → since s (call (box.box me) s (asks o)) ≡ []
  unfolding call
  asked (box.put key value) n = absurd (n key value refl)
  asked (box.find key) n = none-added s.shared.state.offers _ refl
  asked (box.seen id client addresses) n = none-added s.shared.state.offers _ refl
  asked (box.settle head id client addresses answered) n = none-added s.shared.state.offers _ refl
  asked (box.remove id) n = none-added s.shared.state.offers _ refl
  asked (box.doubt id) n = none-added s.shared.state.offers _ refl
  asked (box.nearest key) n = none-added s.shared.state.offers _ refl
  asked (box.start j key limit) n = none-added s.shared.state.offers _ refl
  asked (box.next j) n = none-added s.shared.state.offers _ refl
  asked (box.reply j id body view) n = none-added s.shared.state.offers _ refl
  asked (box.reply_from i j id) n = none-added s.shared.state.offers _ refl
  asked (box.failure j id) n = none-added s.shared.state.offers _ refl

  turned : (i : ℕ) (b : Turn) → since s (call (box.box me) s (does i b)) ≡ []
  unfolding call
  turned i (box.opens id server side addresses m) = none-added s.shared.state.offers _ refl
  turned i box.ends = none-added s.shared.state.offers _ refl

module _ (i at : ℕ) (s : Option (Result Sighting Refusal)) (body : List ℕ) (m : Lent) (os : List Offer) (a : Box) where
  pub noted-offers : (x : Result Answer Refusal) → (noted i at x s body m os a).offers ≡ a.offers ++ os
  noted-offers (Ok (Reply n)) = refl
  noted-offers (Ok (Heard n f)) = refl
  noted-offers (Err r) = refl
  noted-offers (Ok More) = refl

module _ (me : Peer) (own : Own me) (s : World Who Box Ask) (r : Ready (Allowed me) (Good me) s) where
  -- ---- a piece that one receive takes whole
  module _ (i : ℕ) (p : List ℕ) (all : TakesAll (s.lines i) p) where
    abbrev l : Line Who
    l = s.lines i

    abbrev q : streams.Out
    q = run_of l.framing l.buffer p

    abbrev handed : World Who Box Ask
    handed = call (box.box me) s (hand i p)

    module _ (going : is_shut l.framing ≡ false) where
      runs : framed_of l.framing l.buffer p ≡ q
      runs = call-runs l.framing l.buffer p (r.lines i).form (r.lines i).room going

      state : (x : Result (Option ℕ) Refusal) → q.got.answer ≡ x
          → handed.shared.state ≡ layer.noted (happens me) i l.who s.shared.state x (l.taken + length p) q.buffer
      state x e = hand-state me own s r i p going x e (ap (λ (o : streams.Out). o.got.taken) (sym runs) ∙ all)

      -- a message adds what it offers
      message-adds : (n : ℕ) → q.got.answer ≡ Ok (Some n) → since s handed ≡ offer_in l.who (take n q.buffer)
      message-adds n e =
          let body : List ℕ = take n q.buffer in
          let d = dealing me l.who s.shared.state body in
          added s.shared.state.offers _ _
          (ap (λ (x : Box). x.offers) (state (Ok (Some n)) e)
          ∙ noted-offers i (l.taken + length p) d.sight body d.left (offer_in l.who body) s.shared.state d.answer)

    sent : (key value : List ℕ) → Brings l p key value → since s handed ≡ record { key = key; value = value } ∷ []
    sent key value b =
        let going : is_shut l.framing ≡ false = whole_open l.framing l.buffer p b.size b.whole in
        let a : q.got.answer ≡ (Ok (Some b.size)) = ap (λ (o : streams.Out). o.got.answer) (sym (runs going)) ∙ b.whole in
        let m : Sends l.who (take b.size q.buffer) key value = subst (λ (o : streams.Out). Sends l.who (take b.size o.buffer) key value) (runs going) b.sends in
        let fits : length (take b.size q.buffer) ≤ most_body =
        omega (arith, message-fits l.framing l.buffer p b.size (r.lines i).form a, length-take b.size q.buffer) in
        message-adds going b.size a ∙ sends-offer l.who (take b.size q.buffer) key value fits m

    silent : ((key value : List ℕ) → Brings l p key value → ⊥) → since s handed ≡ []
    unfolding call
    silent n = ⊎_elim (λ shut. none-added s.shared.state.offers _ (ap (λ (d : Did (Line Who) (Shared Box Ask)). d.shared.state.offers) (no_call (box.box me) (sound me own) i (here s i) p well shut))) (λ going. by_answer going q.got.answer refl) (either (is_shut l.framing))
      where
        well : Well (box.box me) (sound me own) (here s i)
        well = record { line = r.lines i; good = r.good }

        brings : (going : is_shut l.framing ≡ false) (k : ℕ) → q.got.answer ≡ Ok (Some k) → (key value : List ℕ) → Sends l.who (take k q.buffer) key value → Brings l p key value
        brings going k e key value m =
            record {
              size = k;
              whole = ap (λ (o : streams.Out). o.got.answer) (runs going) ∙ e;
              sends = subst (λ (o : streams.Out). Sends l.who (take k o.buffer) key value) (sym (runs going)) m;
            }

        by_answer : (going : is_shut l.framing ≡ false) (x : Result (Option ℕ) Refusal) → q.got.answer ≡ x → since s handed ≡ []
        by_answer going (Ok (Some k)) e =
            message-adds going k e ∙ offer-ind l.who (take k q.buffer) (λ os. os ≡ []) refl (λ key value h m. absurd (n key value (brings going k e key value m)))
        by_answer going (Err x) e = none-added s.shared.state.offers _ (ap (λ (x : Box). x.offers) (state going (Err x) e))
        by_answer going (Ok None) e = none-added s.shared.state.offers _ (ap (λ (x : Box). x.offers) (state going (Ok None) e))

-- ---- and stays
since-start : (me : Peer) (own : Own me) (s : World Who Box Ask) → Ready (Allowed me) (Good me) s → (cs : List (Call Turn Ask)) → AllFit Fits cs
    → (calls (box.box me) s cs).shared.state.offers ≡ s.shared.state.offers ++ since s (calls (box.box me) s cs)
since-start me own s r cs f = let t = tidied me own s r cs f in t.offers ∙ ap (λ (x : List Offer). s.shared.state.offers ++ x) (sym (added s.shared.state.offers _ _ t.offers))

joins : (me : Peer) (own : Own me) (s : World Who Box Ask) → Ready (Allowed me) (Good me) s → (cs ds : List (Call Turn Ask)) → AllFit Fits cs → AllFit Fits ds
    → let w = calls (box.box me) s cs in
    let x = calls (box.box me) w ds in
    since s x ≡ since s w ++ since w x
joins me own s r cs ds f g =
    let w : World Who Box Ask = calls (box.box me) s cs in
    let x : World Who Box Ask = calls (box.box me) w ds in
    added s.shared.state.offers _ _
    (since-start me own w (calls-ready (box.box me) (sound me own) cs s r f) ds g
    ∙ ap (λ (os : List Offer). os ++ since w x) (since-start me own s r cs f) ∙ append_assoc s.shared.state.offers (since s w) (since w x))

reach : (me : Peer) → Own me → OffersReach me
reach me own =
    record {
      typed = typed me;
      asked = asked me;
      turned = turned me;
      sent = λ s r i p key value all. sent me own s r i p all key value;
      silent = λ s r i p all. silent me own s r i p all;
      joins = joins me own;
    }

pub benches-agree : BenchesAgree
benches-agree =
    record {
      two = two;
      found = found;
      all = λ b s i j. two (b i) (b j) (through (s i) (s j));
      highest = highest;
      reach = reach;
      begin = λ s b. subst NoRecords (sym b.records) (agreement.begin b.record_bytes);
    }

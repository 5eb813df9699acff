-- A call of `receive` does what the framing's answer comes to, as the plain reading deals with it. Assumes nothing.
use Prim.Native.Nat.{ℕ, suc, ◌+◌}
use mathlib.Core.Path.{◌≡◌, refl, sym, ap, ap₂, ◌∙◌}
use mathlib.Core.Bool.{true, false, cond, true≢false}
use mathlib.Core.List.{List, [], ◌∷◌, ◌++◌, append-nil}
use lib.ListN.{length, take}
use lib.Dec.{eqb}
use Rattle.octets.proofs.Bools.{cond_ind}
use Rattle.peer.specs.declared.Peer.{Peer}
use Rattle.message.specs.View.{reading_of}
use Rattle.stream.specs.declared.Framing.{Framing}
use Rattle.stream.specs.declared.Framing.TheVariants.{Shut, Prefix, Body}
use Rattle.stream.specs.declared.Lead.{Lead}
use Rattle.stream.specs.declared.Lead.TheVariants.{On, Length}
use Rattle.stream.specs.Stream as streams
use Rattle.stream.specs.Stream.{fresh, is_shut, Stepped, led, step_of, store_of, after, run_of, receive_of as framed_of}
use Rattle.stream.proofs.Steps.{call-runs}
use Rattle.cutting.specs.World as world
use Rattle.cutting.specs.World.{Line, Called, Fine}
use Rattle.replies.specs.Lent.{Lent}
use Rattle.replies.specs.Verdicts.{Dealt}
use Rattle.answer.specs.Answers.{deal_of}
use Rattle.node.specs.declared.Answer.{Answer}
use Rattle.node.specs.declared.Answer.TheVariants.{Reply, Heard, More}
use Rattle.node.specs.Node.{linked, Dealing, sight_of, contacts_after, by_answer, served, heard_as, heard, dealing_of, Out, done, by_event, taken_of, gate_of, unless, receive_of}
use Rattle.demands.specs.Box.{refused, event, Box, Who, conn_of, link_of, who_in, is_refused, is_more, offer_in, body_in, offers_in, noted, dealing, happens, stops_at, receiving, Own, Allowed, Good}
use Rattle.demands.proofs.Connections.{gate-open}
use Rattle.std.specs.Prelude.{Ok, Err, Some, None, Result, Option, ⊤}
use Rattle.message.specs.declared.Fields.{Fields}
use Rattle.refusal.specs.declared.Refusal.{Refusal}
use Rattle.sightings.specs.declared.Sighting.{Sighting}

-- ---- a refused prefix shuts its connection
abbrev ShutBy : Result (Option ℕ) Refusal → Framing → Type 0
ShutBy (Ok (Some n)) f = Unit {0}
ShutBy (Err r) f = f ≡ Shut
ShutBy (Ok None) f = Unit {0}

abbrev Shuts : Stepped → Type 0
Shuts s = ShutBy s.answer s.framing

led-shuts : (l : Result Lead Refusal) → Shuts (led l)
led-shuts (Ok (On h)) = tt
led-shuts (Ok (Length n)) = cond_ind Shuts (eqb n 0) _ _ (λ h. tt) (λ h. tt)
led-shuts (Err r) = refl

step-shuts : (f : Framing) (b : ℕ) → Shuts (step_of f b)
step-shuts Shut b = tt
step-shuts (Prefix h) b = led-shuts (streams.prefix_step h b)
step-shuts (Body want have) b = cond_ind Shuts (eqb (suc have) want) _ _ (λ h. tt) (λ h. tt)

after-shuts : (w : Result (Option ℕ) Refusal) (f : Framing) (m : List ℕ) (o : streams.Out) → ShutBy w f → ShutBy o.got.answer o.got.framing
    → ShutBy (after w f m o).got.answer (after w f m o).got.framing
after-shuts (Ok (Some n)) f m o h g = h
after-shuts (Err r) f m o h g = h
after-shuts (Ok None) f m o h g = g

run-shuts : (bs : List ℕ) (f : Framing) (m : List ℕ) → ShutBy (run_of f m bs).got.answer (run_of f m bs).got.framing
unfolding run_of
run-shuts [] f m = tt
run-shuts (b ∷ bs) f m =
    after-shuts (step_of f b).answer (step_of f b).framing (store_of f m b) (run_of (step_of f b).framing (store_of f m b) bs) (step-shuts f b)
    (run-shuts bs (step_of f b).framing (store_of f m b))

module _ (me : Peer) where
  -- ---- a whole message is dealt with by who is at the other end, wherever the framing stands, and never by asking for more
  told-any : (x : Result ℕ Refusal) (d : Dealt) (w : Who) (f : Framing) (m : Lent) → by_answer x d.left me (conn_of w f) m ≡ by_answer x d.left me (conn_of w fresh) m
  unfolding sight_of contacts_after
  told-any (Err r) d w f m = refl
  told-any (Ok n) d w f m = refl

  pub dealing-any : (w : Who) (f : Framing) (body : List ℕ) (m : Lent) → dealing_of me (conn_of w f) body m ≡ dealing_of me (conn_of w fresh) body m
  unfolding dealing_of served
  dealing-any w f body m =
      let d = deal_of me w.peer body m in
      ap (λ (x : Dealing). cond w.asking (heard body m) x) (told-any d.told d w f m)

  heard-some : (n : ℕ) (r : Result Fields Refusal) → is_more (heard_as n r) ≡ false
  heard-some n (Ok f) = refl
  heard-some n (Err r) = refl

  served-some : (x : Result ℕ Refusal) (d : Dealt) (w : Who) (m : Lent) → is_more (by_answer x d.left me (conn_of w fresh) m).answer ≡ false
  served-some (Err r) d w m = refl
  served-some (Ok n) d w m = refl

  dealing-some : (w : Who) (a : Box) (body : List ℕ) → is_more (dealing me w a body).answer ≡ false
  unfolding dealing_of served heard
  dealing-some w a body =
      let d = deal_of me w.peer body a.lent in
      cond_ind (λ (x : Dealing). is_more x.answer ≡ false) w.asking _ _ (λ e. heard-some (length body) (reading_of body))
      (λ e. served-some d.told d w a.lent)

  -- ---- what a call leaves, by the framing's answer and by what the call gives
  abbrev left : ℕ → Line Who → Box → Result (Option ℕ) Refusal → Out → Called Who Box
  left i l a e o =
      record {
        line = record { who = who_in o.got.conn; framing = o.got.conn.framing; buffer = o.buffer; taken = l.taken + o.got.taken };
        state =
            noted i (l.taken + o.got.taken) o.got.answer o.got.sight (body_in e o.buffer) o.left (offers_in l.who e o.buffer) a;
        count = o.got.taken;
        more = is_more o.got.answer;
      }

  -- a whole message
  abbrev Settles : ℕ → Line Who → Box → ℕ → Framing → ℕ → List ℕ → Result Answer Refusal → Option (Result Sighting Refusal) → Lent → Type 0
  Settles i l a v f n m x s y =
      left i l a (Ok (Some v)) (done (linked (conn_of l.who f) m) n (record { answer = x; sight = s; left = y }))
      ≡ record {
        line = record { who = l.who; framing = cond (is_refused x) Shut f; buffer = m; taken = l.taken + n };
        state = noted i (l.taken + n) x s (take v m) y (offer_in l.who (take v m)) a;
        count = n;
        more = false;
      }

  settles : (i : ℕ) (l : Line Who) (a : Box) (v : ℕ) (f : Framing) (n : ℕ) (m : List ℕ) (x : Result Answer Refusal) (s : Option (Result Sighting Refusal)) (y : Lent) → is_more x ≡ false
      → Settles i l a v f n m x s y
  settles i l a v f n m (Ok (Reply z)) s y h = refl
  settles i l a v f n m (Ok (Heard z g)) s y h = refl
  settles i l a v f n m (Err r) s y h = refl
  settles i l a v f n m (Ok More) s y h = absurd (true≢false h)

  lands : (i : ℕ) (l : Line Who) (a : Box) (w : Result (Option ℕ) Refusal) (f : Framing) (n : ℕ) (m : List ℕ) → ShutBy w f
      → left i l a w (by_event w me (linked (conn_of l.who f) m) n a.lent)
      ≡ world.called (happens me) (stops_at me) i l a (streams.out f n w m)
  lands i l a (Ok (Some v)) f n m h =
      let d = dealing me l.who a (take v m) in
      ap (λ (x : Dealing). left i l a (Ok (Some v)) (done (linked (conn_of l.who f) m) n x))
      (dealing-any l.who f (take v m) a.lent)
      ∙ settles i l a v f n m d.answer d.sight d.left (dealing-some l.who a (take v m))
  lands i l a (Err r) f n m h =
      λ j. record {
        line = record { who = l.who; framing = sym h j; buffer = m; taken = l.taken + n };
        state = record {
          lent = a.lent;
          lookups = a.lookups;
          inbox = a.inbox;
          log = a.log ++ (event i (l.taken + n) (refused r) ∷ []);
          offers = append-nil a.offers j;
        };
        count = n;
        more = false;
      }
  lands i l a (Ok None) f n m h =
      λ j. record {
        line = record { who = l.who; framing = f; buffer = m; taken = l.taken + n };
        state = record {
          lent = a.lent;
          lookups = a.lookups;
          inbox = a.inbox;
          log = a.log;
          offers = append-nil a.offers j;
        };
        count = n;
        more = true;
      }

  -- ---- the call
  pub runs_as : (l : Line Who) (bs : List ℕ) (m : Lent) (o : streams.Out) → framed_of l.framing l.buffer bs ≡ o
      → taken_of me (link_of l) bs m ≡ by_event o.got.answer me (linked (conn_of l.who o.got.framing) o.buffer) o.got.taken m
  unfolding taken_of
  runs_as l bs m o e = ap (λ (x : streams.Out). by_event x.got.answer me (linked (conn_of l.who x.got.framing) x.buffer) x.got.taken m) e

  pub let_through : (l : Line Who) (bs : List ℕ) (m : Lent) → gate_of me (link_of l) m ≡ Ok tt → receive_of me (link_of l) bs m ≡ taken_of me (link_of l) bs m
  unfolding receive_of
  let_through l bs m e = ap (λ (x : Result ⊤ Refusal). unless x (link_of l) m (taken_of me (link_of l) bs m)) e

  pub receives : Own me → (i : ℕ) (l : Line Who) (a : Box) (bs : List ℕ) → Fine (Allowed me) l → is_shut l.framing ≡ false → Good me a
      → receiving me i l a bs ≡ world.called (happens me) (stops_at me) i l a (run_of l.framing l.buffer bs)
  receives w i l a bs f o g =
      let r : streams.Out = run_of l.framing l.buffer bs in
      let e : framed_of l.framing l.buffer bs ≡ r = call-runs l.framing l.buffer bs f.form f.room o in
      let p = let_through l bs a.lent (gate-open me w l a f o g) ∙ runs_as l bs a.lent r e in
      ap₂ (λ (x : Result (Option ℕ) Refusal) (y : Out). left i l a x y) (ap (λ (x : streams.Out). x.got.answer) e) p
      ∙ lands i l a r.got.answer r.got.framing r.got.taken r.buffer (run-shuts bs l.framing l.buffer)

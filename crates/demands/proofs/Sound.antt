-- The box is a layer as `cutting` asks for: its `receive` is the plain reading's, and peers and memory stay such that 0 and 1 refuse nothing.
use Prim.Native.Nat.{ℕ}
use mathlib.Core.Path.{◌≡◌, refl, sym, ap, ◌∙◌}
use mathlib.Core.Bool.{Bool, true, false, not, ◌||◌, true≢false}
use mathlib.Core.List.{List}
use Rattle.octets.proofs.Bools.{cond_ind, or_r, to-false, not-both}
use Rattle.peer.specs.declared.Peer.{Peer}
use Rattle.peer.specs.Peers.{bad_peer}
use Rattle.contact_calls.proofs.Theorems.{fair}
use Rattle.records_history.specs.History.{Offer}
use Rattle.stream.specs.Stream.{is_shut, in_form}
use Rattle.cutting.specs.World.{Line, Fine, Sound}
use Rattle.cutting.proofs.Kept.{end-shuts, end-form}
use Rattle.connections.specs.declared.Conn.{Conn}
use Rattle.connections.specs.declared.Opened.{Opened}
use Rattle.connections.specs.declared.Ended.{Ended}
use Rattle.connections.specs.Box.{own_fits, open_of, conn_form, end_conn}
use Rattle.demands.specs.Box as box
use Rattle.demands.specs.Box.{Box, Who, conn_of, who_in, Turn, Fits, turning, Own, Allowed, Good}
use Rattle.demands.proofs.Receives.{receives}
use Rattle.demands.proofs.Kept.{Lasting, Held, happens-held, turning-held, asking-held}

module _ (me : Peer) where
  abbrev pub line_of : Conn → List ℕ → ℕ → Line Who
  line_of c m n = record { who = who_in c; framing = c.framing; buffer = m; taken = n }

  pub opens-known : Own me → (id : List ℕ) (server side : Bool) (addresses : List ℕ)
      → is_shut (open_of me id server side addresses).conn.framing ≡ false → Allowed me (who_in (open_of me id server side addresses).conn)
  unfolding open_of
  opens-known w id server side addresses =
      cond_ind (λ (o : Opened). is_shut o.conn.framing ≡ false → Allowed me (who_in o.conn)) (not (own_fits me) || bad_peer me.place id) _ _
      (λ e z. absurd (true≢false z)) (λ e z. fair me.place id addresses w.long w.bytes (fine e))
    where
      fine : (not (own_fits me) || bad_peer me.place id) ≡ false → bad_peer me.place id ≡ false
      fine e = to-false (bad_peer me.place id) (λ b. not-both _ (or_r (not (own_fits me)) (bad_peer me.place id) b) e)

  opens-form : (id : List ℕ) (server side : Bool) (addresses : List ℕ) → in_form (open_of me id server side addresses).conn.framing ≡ true
  unfolding open_of
  opens-form id server side addresses =
      cond_ind (λ (o : Opened). in_form o.conn.framing ≡ true) (not (own_fits me) || bad_peer me.place id) _ _ (λ e. refl) (λ e. refl)

  end-fine : (l : Line Who) → Fine (Allowed me) l → Fine (Allowed me) (line_of (end_conn me (conn_of l.who l.framing)).conn l.buffer l.taken)
  unfolding end_conn
  end-fine l f =
      cond_ind (λ (e : Ended). Fine (Allowed me) (line_of e.conn l.buffer l.taken)) (conn_form me (conn_of l.who l.framing)) _ _
      (λ e. record {
        form = end-form l.framing f.form;
        room = f.room;
        peer = λ z. absurd (true≢false (sym (ap is_shut (end-shuts l.framing f.form)) ∙ z));
      })
      (λ e. record { form = f.form; room = f.room; peer = f.peer })

  pub turns-fine : Own me → (i : ℕ) (b : Turn) (l : Line Who) (a : Box) → Fits b → Fine (Allowed me) l → Fine (Allowed me) (turning me i b l a).line
  turns-fine w i (box.opens id server side addresses m) l a r f =
      record { form = opens-form id server side addresses; room = r; peer = opens-known w id server side addresses }
  turns-fine w i box.ends l a r f = end-fine l f

  -- with any lasting fact of the store beside
  pub sound-held : Own me → (Q : List ℕ → List Offer → Type 0) → Lasting Q → Sound (box.box me) (Allowed me) (Held me Q) Fits
  sound-held w Q L =
      record {
        receives = λ i l a bs f o h. receives me w i l a bs f o h.good;
        puts = λ i p a e q h. happens-held me Q L i p a e q h;
        act-line = λ i b l a x f h. turns-fine w i b l a x f;
        act-good = λ i b l a x f h. turning-held me Q L i b l a h;
        hosts = λ a o h. asking-held me Q L w a o h;
      }

  abbrev Nothing : List ℕ → List Offer → Type 0
  Nothing k os = Unit {0}

  -- and with none
  pub sound : Own me → Sound (box.box me) (Allowed me) (Good me) Fits
  sound w =
      let S = sound-held w Nothing (record { on = λ k os ps x. tt }) in
      record {
        receives = λ i l a bs f o g. receives me w i l a bs f o g;
        puts = λ i p a e q g. (S.puts i p a e q (record { good = g; offers = tt })).good;
        act-line = λ i b l a x f g. turns-fine w i b l a x f;
        act-good = λ i b l a x f g. (S.act-good i b l a x f (record { good = g; offers = tt })).good;
        hosts = λ a o g. (S.hosts a o (record { good = g; offers = tt })).good;
      }

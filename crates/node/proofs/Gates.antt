-- The gate, as the code finds it out. Assumes nothing.
use Prim.Native.Nat.{◌<◌, ◌≤◌}
use mathlib.Core.Path.{◌≡◌}
use mathlib.Core.Bool.{true, false}
use lib.ListN.{length}
use borrow.Author.Tests.{lt-ltb, le-ltb}
use Rattle.refusal.specs.declared.Refusal.TheVariants.{OutOfForm, SmallBuffer, Shut, BadPeer}
use Rattle.peer.specs.declared.Peer.{Peer}
use Rattle.contacts.specs.Form.{in_form as contacts_form}
use Rattle.records.specs.Store.{in_form as records_form}
use Rattle.stream.specs.Stream.{is_shut}
use Rattle.replies.specs.Lent.{Lent}
use Rattle.connections.specs.Box.{own_fits, conn_form}
use Rattle.node.specs.Node.{Link, gate_of}
use Rattle.std.specs.Prelude.{Ok, Err}

module _ (me : Peer) (link : Link) (l : Lent) where
  pub gate-contacts : contacts_form l.contacts me.place ≡ false → Err OutOfForm ≡ gate_of me link l
  unfolding gate_of
  gate-contacts a = rw a

  module _ (a : contacts_form l.contacts me.place ≡ true) where
    pub gate-records : records_form l.records ≡ false → Err OutOfForm ≡ gate_of me link l
    unfolding gate_of
    gate-records b = rw (a, b)

    module _ (b : records_form l.records ≡ true) where
      pub gate-conn : conn_form me link.conn ≡ false → Err OutOfForm ≡ gate_of me link l
      unfolding gate_of
      gate-conn d = rw (a, b, d)

      module _ (d : conn_form me link.conn ≡ true) where
        pub gate-buffer : length link.buffer < 16384 → Err SmallBuffer ≡ gate_of me link l
        unfolding gate_of
        gate-buffer q = rw (a, b, d, lt-ltb (length link.buffer) 16384 q)

        module _ (q : 16384 ≤ length link.buffer) where
          pub gate-reply : length l.reply < 16387 → Err SmallBuffer ≡ gate_of me link l
          unfolding gate_of
          gate-reply n = rw (a, b, d, le-ltb (length link.buffer) 16384 q, lt-ltb (length l.reply) 16387 n)

          module _ (n : 16387 ≤ length l.reply) where
            pub gate-shut : is_shut link.conn.framing ≡ true → Err Shut ≡ gate_of me link l
            unfolding gate_of
            gate-shut s = rw (a, b, d, le-ltb (length link.buffer) 16384 q, le-ltb (length l.reply) 16387 n, s)

            module _ (s : is_shut link.conn.framing ≡ false) where
              pub gate-own : own_fits me ≡ false → Err BadPeer ≡ gate_of me link l
              unfolding gate_of
              gate-own o = rw (a, b, d, le-ltb (length link.buffer) 16384 q, le-ltb (length l.reply) 16387 n, s, o)

              pub gate-open : own_fits me ≡ true → (Ok tt) ≡ gate_of me link l
              unfolding gate_of
              gate-open o = rw (a, b, d, le-ltb (length link.buffer) 16384 q, le-ltb (length l.reply) 16387 n, s, o)

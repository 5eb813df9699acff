-- starterbell_open and starterbell_end, on bytes, do what an open and an end do in the demands' world. Assumes nothing.
use Prim.Native.Nat.{ℕ, ◌≤◌}
use mathlib.Core.Path.{◌≡◌, refl, sym, ap, ◌∙◌, subst}
use mathlib.Core.List.{List, [], ◌∷◌, ◌++◌, map}
use native.Mathlib.Omega.{arith}
use lib.ListN.{length}
use lib.Seq.{sets, length-sets}
use lib.Dec.{eqb}
use Rattle.octets.proofs.Bools.{cond_ind}
use Rattle.peer.specs.declared.Peer.{Peer}
use Rattle.cutting.specs.World.{World, call, here, acted}
use Rattle.connections.specs.declared.Conn.{Conn}
use Rattle.connections.specs.declared.Opened.{Opened}
use Rattle.connections.specs.declared.Ended.{Ended}
use Rattle.connections.specs.Box.{end_conn}
use Rattle.flat.specs.Flat.{conn_size, peer_in, conn_in, says_yes, conn_bytes}
use Rattle.host_numbers.specs.Numbers.{told_code}
use Rattle.host_state.specs.State.{ending_code, ended_memory}
use Rattle.host.specs.Host.{lent_both, open_for, open_memory, end_memory}
use Rattle.demands.specs.Box as box
use Rattle.demands.specs.Box.{Box, Who, who_in, Ask}
use Rattle.demands.proofs.Connections.{conn-form}
use Rattle.demands.proofs.Sound.{turns-fine}
use Rattle.host_demands.specs.Calls.{Memory, History, Enough, Seen, told_at, only_number, with_conn, world_in, entry_seen, Export, opens, ends}
use Rattle.host_demands.specs.Hosted.{Started, ReadyFor, Follows}
use Rattle.host_demands.proofs.Overwriting.{Touched, ending-touched}
use Rattle.host_demands.proofs.Connections.{both-enough, open-reads, end_reads, end-length}
use Rattle.host_demands.proofs.Standing.{put-stands, one-more-seen}

module _ (me : List ℕ) (S : Started me) (m : Memory) (h : History) (len : Enough m) (ready : ReadyFor me (world_in m h)) (i : ℕ) where
  abbrev us : Peer
  us = peer_in me

  abbrev world : World Who Box Ask
  world = world_in m h

  abbrev conn : List ℕ
  conn = m.conns i

  enough : {A : Type 0} (x y : A) → lent_both me conn x y ≡ y
  enough x y = both-enough me conn x y S.room (len.conns i)

  conn-enough : (x buffer : List ℕ) (n : ℕ) → conn_size ≤ length x → Enough (with_conn m i x buffer n)
  conn-enough x buffer n l =
      record { conns = λ j. cond_ind (λ (y : List ℕ). conn_size ≤ length y) (eqb j i) x (m.conns j) (λ e. l) (λ e. len.conns j); lookups = len.lookups }

  one_seen : (e : box.Entry) (s : Seen) → entry_seen e ≡ s → map entry_seen (h.log ++ (e ∷ [])) ≡ map entry_seen h.log ++ (s ∷ [])
  one_seen e s q = one-more-seen h.log e ∙ ap (λ (x : Seen). map entry_seen h.log ++ (x ∷ [])) q

  -- ---- open
  module _ (id : List ℕ) (server asking : ℕ) (addresses buffer : List ℕ) where
    abbrev opening : Export
    opening = opens i id server asking addresses buffer

    abbrev opened : Opened
    opened = open_for me id server asking addresses

    pub opened-memory : open_memory me conn id server asking addresses ≡ sets conn 0 (conn_bytes opened.conn)
    opened-memory = enough conn (sets conn 0 (conn_bytes opened.conn))

    opened-conn : conn_in (open_memory me conn id server asking addresses) ≡ opened.conn
    opened-conn = ap conn_in opened-memory ∙ open-reads us conn id (says_yes server) (says_yes asking) addresses (len.conns i)

    opened-length : conn_size ≤ length (open_memory me conn id server asking addresses)
    opened-length =
        subst (λ (x : List ℕ). conn_size ≤ length x) (sym opened-memory) (omega (arith, len.conns i, length-sets conn 0 (conn_bytes opened.conn)))

    pub open-follows : Follows me m world opening
    unfolding call
    open-follows =
        record {
          enough = conn-enough (open_memory me conn id server asking addresses) buffer 0 opened-length;
          stands = put-stands m h i m.lent (open_memory me conn id server asking addresses) buffer m.inbox 0
              (acted (box.box us) i (box.opens id (says_yes server) (says_yes asking) addresses buffer) (here world i))
              (ap (λ (c : Conn). record { who = who_in c; framing = c.framing; buffer = buffer; taken = 0 }) opened-conn) refl refl refl;
          log = one_seen (box.opened i opened.told) _ (ap only_number (sym (enough 0 (told_code opened.told))));
          order = refl;
        }

  -- ---- end
  abbrev ended : Ended
  ended = end_conn us (conn_in conn)

  ended-memory : end_memory me conn ≡ ended_memory conn ended
  ended-memory = enough conn (ended_memory conn ended)

  ended-conn : conn_in (end_memory me conn) ≡ ended.conn
  ended-conn = ap conn_in ended-memory ∙ end_reads conn (len.conns i) us (conn-form us (world.lines i) (ready.lines i)) (ready.lines i).form

  ended-length : conn_size ≤ length (end_memory me conn)
  ended-length = subst (λ (x : List ℕ). conn_size ≤ length x) (sym ended-memory) (end-length conn (len.conns i) ended)

  pub end-follows : Follows me m world (ends i)
  unfolding call
  end-follows =
      record {
        enough = conn-enough (end_memory me conn) (m.buffers i) (m.taken i) ended-length;
        stands = put-stands m h i m.lent (end_memory me conn) (m.buffers i) m.inbox (m.taken i) (acted (box.box us) i box.ends (here world i))
            (ap (λ (c : Conn). record { who = who_in c; framing = c.framing; buffer = m.buffers i; taken = m.taken i }) ended-conn) refl refl refl;
        log = one_seen (box.event i (m.taken i) (box.ended ended.answer)) _ (ap (λ (n : ℕ). told_at (m.taken i) n (λ out. out)) (sym (enough 0 (ending_code ended.answer))));
        order = refl;
      }

  -- its bytes are left alone, or get another framing
  pub end-touched : Touched conn (end_memory me conn)
  end-touched =
      subst (Touched conn) (sym ended-memory)
      (ending-touched conn ended.conn.framing ended.answer (turns-fine us S.own i box.ends (world.lines i) world.shared.state tt (ready.lines i)).form)

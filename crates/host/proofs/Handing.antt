-- What a call hands over is what the functions below it gave. Assumes nothing.
use Prim.Native.Nat.{ℕ, ◌<◌, ◌≤◌}
use mathlib.Core.Path.{◌≡◌, sym, ap, ◌∙◌}
use mathlib.Core.Bool.{Bool}
use mathlib.Core.List.{List}
use lib.ListN.{length}
use lib.Seq.{sets}
use borrow.Author.Tests.{lt-ltb, le-ltb}
use Rattle.octets.proofs.Bools.{cond_yes, cond_no}
use Rattle.peer.specs.declared.Peer.{Peer}
use Rattle.sightings.specs.declared.Sighting.{Sighting}
use Rattle.sightings.specs.declared.Settled.{Settled}
use Rattle.writer.specs.Writer.{message_with, answer_of, out_after}
use Rattle.connections.specs.declared.Conn.{Conn}
use Rattle.connections.specs.declared.Started.{Started}
use Rattle.connections.specs.declared.Opened.{Opened}
use Rattle.connections.specs.declared.Ended.{Ended}
use Rattle.node.specs.Box.{start_of, open_of, end_conn}
use Rattle.host_calls.specs.declared.Nearby.{Nearby}
use Rattle.host_calls.specs.Hosts.{seen_of, seen_after, settle_of, settle_after, remove_of, remove_after, doubt_of, doubt_after, nearest_to}
use Rattle.flat.specs.Flat.{peer_size, conn_size, peer_in, conn_in, says_yes, conn_bytes}
use Rattle.host_numbers.specs.Numbers.{told_code}
use Rattle.contact_calls.specs.Calls.{seen_number, settle_number, remove_number, doubt_number}
use Rattle.host_answers.specs.Answers.{seen_numbers, nearest_numbers, write_number, write_numbers}
use Rattle.host_state.specs.State.{box_after, ending_code, ended_memory}
use Rattle.host.specs.Host.{lent, lent_both, start_code, start_memory, open_for, open_code, open_memory, end_code, end_memory, seen_code, seen_contacts, seen_out, settle_code, settle_contacts, remove_code, remove_contacts, doubt_code, doubt_contacts, nearest_code, nearest_out}
use Rattle.std.specs.Prelude.{Result, ⊤}
use Rattle.refusal.specs.declared.Refusal.{Refusal}

-- ---- memory of enough bytes
module _ {A : Type 0} (n : ℕ) (s : List ℕ) (x y : A) where
  pub lent-short : length s < n → x ≡ lent n s x y
  unfolding lent
  lent-short l = sym (cond_yes _ x y (lt-ltb (length s) n l))

  pub lent-enough : n ≤ length s → y ≡ lent n s x y
  unfolding lent
  lent-enough l = sym (cond_no _ x y (le-ltb (length s) n l))

module _ {A : Type 0} (me conn : List ℕ) (x y : A) where
  pub both-short : length me < peer_size → x ≡ lent_both me conn x y
  both-short l = lent-short peer_size me x (lent conn_size conn x y) l

  pub both-second : peer_size ≤ length me → length conn < conn_size → x ≡ lent_both me conn x y
  both-second l m = lent-short conn_size conn x y m ∙ lent-enough peer_size me x (lent conn_size conn x y) l

  pub both-enough : peer_size ≤ length me → conn_size ≤ length conn → y ≡ lent_both me conn x y
  both-enough l m = lent-enough conn_size conn x y m ∙ lent-enough peer_size me x (lent conn_size conn x y) l

-- ---- start
module _ (me id addresses : List ℕ) where
  pub start-short : length me < peer_size → (0 ≡ start_code me id addresses) × (me ≡ start_memory me id addresses)
  start-short l = (lent-short peer_size me 0 (told_code (start_of id addresses).told) l, lent-short peer_size me me (box_after me (start_of id addresses)) l)

  pub start-done : (n : ℕ) (new : List ℕ) (s : Started) → peer_size ≤ length me → s ≡ start_of id addresses → (n ≡ told_code s.told) × (new ≡ box_after me s)
      → (n ≡ start_code me id addresses) × (new ≡ start_memory me id addresses)
  start-done n new s l e h = (
    h.0 ∙ ap (λ (x : Started). told_code x.told) e ∙ lent-enough peer_size me 0 (told_code (start_of id addresses).told) l,
    h.1 ∙ ap (box_after me) e ∙ lent-enough peer_size me me (box_after me (start_of id addresses)) l,
  )

-- ---- open
module _ (me conn id : List ℕ) (server asking : ℕ) (addresses : List ℕ) where
  pub open-short : length me < peer_size
      → (0 ≡ open_code me conn id server asking addresses) × (conn ≡ open_memory me conn id server asking addresses)
  open-short l = (both-short me conn 0 _ l, both-short me conn conn _ l)

  pub open-second : peer_size ≤ length me → length conn < conn_size
      → (0 ≡ open_code me conn id server asking addresses) × (conn ≡ open_memory me conn id server asking addresses)
  open-second l m = (both-second me conn 0 _ l m, both-second me conn conn _ l m)

  opened : (p : Peer) (s a : Bool) (o : Opened) → p ≡ peer_in me → s ≡ says_yes server → a ≡ says_yes asking → o ≡ open_of p id s a addresses
      → o ≡ open_for me id server asking addresses
  opened p s a o ep es ea eo =
      eo ∙ ap (λ (x : Peer). open_of x id s a addresses) ep
      ∙ ap (λ (x : Bool). open_of (peer_in me) id x a addresses) es
      ∙ ap (λ (x : Bool). open_of (peer_in me) id (says_yes server) x addresses) ea

  pub open_done : (n : ℕ) (new : List ℕ) (p : Peer) (s a : Bool) (o : Opened) → peer_size ≤ length me → conn_size ≤ length conn
      → p ≡ peer_in me → s ≡ says_yes server → a ≡ says_yes asking → o ≡ open_of p id s a addresses
      → n ≡ told_code o.told → new ≡ sets conn 0 (conn_bytes o.conn)
      → (n ≡ open_code me conn id server asking addresses) × (new ≡ open_memory me conn id server asking addresses)
  open_done n new p s a o l m ep es ea eo hn hc =
      let e = opened p s a o ep es ea eo in (
        hn ∙ ap (λ (x : Opened). told_code x.told) e ∙ both-enough me conn 0 (told_code (open_for me id server asking addresses).told) l m,
        hc ∙ ap (λ (x : Opened). sets conn 0 (conn_bytes x.conn)) e
            ∙ both-enough me conn conn (sets conn 0 (conn_bytes (open_for me id server asking addresses).conn)) l m,
      )

-- ---- end
module _ (me conn : List ℕ) where
  pub end_short : length me < peer_size → (0 ≡ end_code me conn) × (conn ≡ end_memory me conn)
  end_short l = (both-short me conn 0 _ l, both-short me conn conn _ l)

  pub end-second : peer_size ≤ length me → length conn < conn_size → (0 ≡ end_code me conn) × (conn ≡ end_memory me conn)
  end-second l m = (both-second me conn 0 _ l m, both-second me conn conn _ l m)

  pub end-done : (n : ℕ) (new : List ℕ) (p : Peer) (c : Conn) (x : Ended) → peer_size ≤ length me → conn_size ≤ length conn → p ≡ peer_in me → c ≡ conn_in conn
      → x ≡ end_conn p c → (n ≡ ending_code x.answer) × (new ≡ ended_memory conn x) → (n ≡ end_code me conn) × (new ≡ end_memory me conn)
  end-done n new p c x l m ep ec ex h =
      let e = ex ∙ ap (λ (y : Peer). end_conn y c) ep ∙ ap (end_conn (peer_in me)) ec in (
        h.0 ∙ ap (λ (y : Ended). ending_code y.answer) e ∙ both-enough me conn 0 (ending_code (end_conn (peer_in me) (conn_in conn)).answer) l m,
        h.1 ∙ ap (ended_memory conn) e ∙ both-enough me conn conn (ended_memory conn (end_conn (peer_in me) (conn_in conn))) l m,
      )

-- ---- contacts
module _ (me t id : List ℕ) (client : ℕ) (addresses out : List ℕ) where
  pub seen-short : length me < peer_size
      → (0 ≡ seen_code me t id client addresses) × (t ≡ seen_contacts me t id client addresses) × (out ≡ seen_out me t id client addresses out)
  seen-short l = (lent-short peer_size me 0 _ l, lent-short peer_size me t _ l, lent-short peer_size me out _ l)

  pub seen_done : (n : ℕ) (new wrote : List ℕ) (p : Peer) (b : Bool) (o : Result Sighting Refusal) → peer_size ≤ length me → p ≡ peer_in me → b ≡ says_yes client
      → (o ≡ seen_of p t id b addresses) × (new ≡ seen_after p t id b addresses) → (n ≡ seen_number o) × (wrote ≡ seen_numbers out o)
      → (n ≡ seen_code me t id client addresses) × (new ≡ seen_contacts me t id client addresses) × (wrote ≡ seen_out me t id client addresses out)
  seen_done n new wrote p b o l ep eb h a =
      let e = h.0 ∙ ap (λ (x : Peer). seen_of x t id b addresses) ep ∙ ap (λ (x : Bool). seen_of (peer_in me) t id x addresses) eb in (
        a.0 ∙ ap seen_number e ∙ lent-enough peer_size me 0 (seen_number (seen_of (peer_in me) t id (says_yes client) addresses)) l,
        h.1 ∙ ap (λ (x : Peer). seen_after x t id b addresses) ep ∙ ap (λ (x : Bool). seen_after (peer_in me) t id x addresses) eb
            ∙ lent-enough peer_size me t (seen_after (peer_in me) t id (says_yes client) addresses) l,
        a.1 ∙ ap (seen_numbers out) e ∙ lent-enough peer_size me out (seen_numbers out (seen_of (peer_in me) t id (says_yes client) addresses)) l,
      )

module _ (me t head id : List ℕ) (client : ℕ) (addresses : List ℕ) (answered : ℕ) where
  pub settle-short : length me < peer_size
      → (0 ≡ settle_code me t head id client addresses answered) × (t ≡ settle_contacts me t head id client addresses answered)
  settle-short l = (lent-short peer_size me 0 _ l, lent-short peer_size me t _ l)

  pub settle-done : (n : ℕ) (new : List ℕ) (p : Peer) (b a : Bool) (o : Result Settled Refusal) → peer_size ≤ length me → p ≡ peer_in me → b ≡ says_yes client
      → a ≡ says_yes answered → (o ≡ settle_of p t head id b addresses a) × (new ≡ settle_after p t head id b addresses a) → n ≡ settle_number o
      → (n ≡ settle_code me t head id client addresses answered) × (new ≡ settle_contacts me t head id client addresses answered)
  settle-done n new p b a o l ep eb ea h hn = (
    hn ∙ ap settle_number (
        h.0 ∙ ap (λ (x : Peer). settle_of x t head id b addresses a) ep
        ∙ ap (λ (x : Bool). settle_of (peer_in me) t head id x addresses a) eb
        ∙ ap (settle_of (peer_in me) t head id (says_yes client) addresses) ea
        )
        ∙ lent-enough peer_size me 0 (settle_number (settle_of (peer_in me) t head id (says_yes client) addresses (says_yes answered))) l,
    h.1 ∙ ap (λ (x : Peer). settle_after x t head id b addresses a) ep
        ∙ ap (λ (x : Bool). settle_after (peer_in me) t head id x addresses a) eb
        ∙ ap (settle_after (peer_in me) t head id (says_yes client) addresses) ea
        ∙ lent-enough peer_size me t (settle_after (peer_in me) t head id (says_yes client) addresses (says_yes answered)) l,
  )

module _ (me t id : List ℕ) where
  pub remove-short : length me < peer_size → (0 ≡ remove_code me t id) × (t ≡ remove_contacts me t id)
  remove-short l = (lent-short peer_size me 0 _ l, lent-short peer_size me t _ l)

  pub remove-done : (n : ℕ) (new : List ℕ) (p : Peer) (o : Result ⊤ Refusal) → peer_size ≤ length me → p ≡ peer_in me
      → (o ≡ remove_of p t id) × (new ≡ remove_after p t id) → n ≡ remove_number o → (n ≡ remove_code me t id) × (new ≡ remove_contacts me t id)
  remove-done n new p o l ep h hn = (
    hn ∙ ap remove_number (h.0 ∙ ap (λ (x : Peer). remove_of x t id) ep) ∙ lent-enough peer_size me 0 (remove_number (remove_of (peer_in me) t id)) l,
    h.1 ∙ ap (λ (x : Peer). remove_after x t id) ep ∙ lent-enough peer_size me t (remove_after (peer_in me) t id) l,
  )

module _ (me t id : List ℕ) where
  pub doubt-short : length me < peer_size → (0 ≡ doubt_code me t id) × (t ≡ doubt_contacts me t id)
  doubt-short l = (lent-short peer_size me 0 _ l, lent-short peer_size me t _ l)

  pub doubt-done : (n : ℕ) (new : List ℕ) (p : Peer) (o : Result ⊤ Refusal) → peer_size ≤ length me → p ≡ peer_in me
      → (o ≡ doubt_of p t id) × (new ≡ doubt_after p t id) → n ≡ doubt_number o → (n ≡ doubt_code me t id) × (new ≡ doubt_contacts me t id)
  doubt-done n new p o l ep h hn = (
    hn ∙ ap doubt_number (h.0 ∙ ap (λ (x : Peer). doubt_of x t id) ep) ∙ lent-enough peer_size me 0 (doubt_number (doubt_of (peer_in me) t id)) l,
    h.1 ∙ ap (λ (x : Peer). doubt_after x t id) ep ∙ lent-enough peer_size me t (doubt_after (peer_in me) t id) l,
  )

module _ (me t key out : List ℕ) where
  pub nearest-short : length me < peer_size → (0 ≡ nearest_code me t key) × (out ≡ nearest_out me t key out)
  nearest-short l = (lent-short peer_size me 0 _ l, lent-short peer_size me out _ l)

  pub nearest-done : (n : ℕ) (new : List ℕ) (p : Peer) (x : Nearby) → peer_size ≤ length me → p ≡ peer_in me → x ≡ nearest_to p t key
      → (n ≡ told_code x.told) × (new ≡ nearest_numbers out x) → (n ≡ nearest_code me t key) × (new ≡ nearest_out me t key out)
  nearest-done n new p x l ep ex h =
      let e = ex ∙ ap (λ (y : Peer). nearest_to y t key) ep in (
        h.0 ∙ ap (λ (y : Nearby). told_code y.told) e ∙ lent-enough peer_size me 0 (told_code (nearest_to (peer_in me) t key).told) l,
        h.1 ∙ ap (nearest_numbers out) e ∙ lent-enough peer_size me out (nearest_numbers out (nearest_to (peer_in me) t key)) l,
      )

-- ---- messages
module _ (message : List ℕ) (kind : ℕ) (key : List ℕ) (held : ℕ) (rkey value closer providers out : List ℕ) where
  pub write_done : (n : ℕ) (new wrote : List ℕ) (b : Bool) (w : Result ℕ Refusal) → b ≡ says_yes held
      → (w ≡ answer_of message (message_with kind key b rkey value closer providers))
      × (new ≡ out_after message (message_with kind key b rkey value closer providers))
      → (n ≡ write_number w) × (wrote ≡ write_numbers out w)
      → (n ≡ write_number (answer_of message (message_with kind key (says_yes held) rkey value closer providers)))
      × (new ≡ out_after message (message_with kind key (says_yes held) rkey value closer providers))
      × (wrote ≡ write_numbers out (answer_of message (message_with kind key (says_yes held) rkey value closer providers)))
  write_done n new wrote b w eb h a =
      let e = h.0 ∙ ap (λ (x : Bool). answer_of message (message_with kind key x rkey value closer providers)) eb in (
        a.0 ∙ ap write_number e,
        h.1 ∙ ap (λ (x : Bool). out_after message (message_with kind key x rkey value closer providers)) eb,
        a.1 ∙ ap (write_numbers out) e,
      )

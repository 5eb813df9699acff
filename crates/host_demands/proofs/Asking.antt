-- The calls on contacts, records and lookups, on bytes, do what the same calls do in the demands' world. Assumes nothing.
use Prim.Native.Nat.{ℕ, ◌≤◌}
use mathlib.Core.Path.{◌≡◌, refl, sym, ap, ◌∙◌, subst}
use mathlib.Core.Bool.{Bool, true, false, cond}
use mathlib.Core.List.{List, [], ◌∷◌, ◌++◌, map}
use lib.ListN.{length}
use lib.Dec.{eqb}
use borrow.Author.Tests.{le-ltb}
use Rattle.octets.proofs.Bools.{cond_ind, cond_no, or-fails}
use Rattle.peer.specs.declared.Peer.{Peer}
use Rattle.message.specs.View.{fields_of}
use Rattle.message.specs.declared.Fields.{Fields}
use Rattle.lookup.specs.Value.{Step}
use Rattle.lookup_runs.specs.Runs.{go_next, go_reply, go_fail, step}
use Rattle.cutting.specs.World.{World, asked, call}
use Rattle.flat.specs.Flat.{peer_size, peer_in, says_yes}
use Rattle.flat_lookup.specs.FlatLookup.{flat_size, lookup_in}
use Rattle.host_calls.specs.declared.Nearby.{Nearby}
use Rattle.host_calls.specs.Hosts.{own_id, seen_of, seen_after, settle_of, settle_after, remove_of, remove_after, doubt_of, doubt_after, nearest_to, lookup_start, lookup_reply, lookup_failure}
use Rattle.host_numbers.specs.Numbers.{told_code, view_numbers, view_in}
use Rattle.contact_calls.specs.Calls.{seen_number, settle_number, remove_number, doubt_number}
use Rattle.host_answers.specs.Answers.{seen_numbers, nearest_numbers}
use Rattle.lookup_in_place.specs.InPlace.{step_memory, started_memory}
use Rattle.host_steps.specs.Steps.{step_number, step_numbers}
use Rattle.host.specs.Host.{lent, too_short, seen_contacts, settle_contacts, remove_contacts, doubt_contacts}
use Rattle.demands.specs.Box as box
use Rattle.demands.specs.Box.{Box, Who, Ask}
use Rattle.host_demands.specs.Calls as calls
use Rattle.host_demands.specs.Calls.{Memory, History, Enough, Seen, only_number, with_contacts, with_lookup, world_in, Stands, entry_seen, start_step, next_step, reply_step, heard_step, failure_step}
use Rattle.host_demands.specs.Hosted.{Started, Follows}
use Rattle.host_demands.proofs.Connections.{lent-enough}
use Rattle.lookup_in_place.proofs.ReadBack.{start-reads}
use Rattle.lookup_value.proofs.ReadBack.{step-reads}
use Rattle.host_demands.proofs.Lookups.{step-length, start-length}
use Rattle.host_demands.proofs.Standing.{set-lookup, one-more-seen}

module _ (me : List ℕ) (S : Started me) (m : Memory) (h : History) (len : Enough m) where
  abbrev us : Peer
  us = peer_in me

  abbrev world : World Who Box Ask
  world = world_in m h

  enough : {A : Type 0} (x y : A) → lent peer_size me x y ≡ y
  enough x y = lent-enough peer_size me x y S.room

  one_seen : (r : box.Gave) (s : Seen) → s ≡ calls.result_seen r → map entry_seen (h.log ++ (box.called r ∷ [])) ≡ map entry_seen h.log ++ (s ∷ [])
  one_seen r s q = one-more-seen h.log (box.called r) ∙ ap (λ (x : Seen). map entry_seen h.log ++ (x ∷ [])) (sym q)

  -- ---- records
  pub put-follows : (key value : List ℕ) → Follows me m world (calls.put key value)
  unfolding call
  put-follows key value = record { enough = record { conns = len.conns; lookups = len.lookups }; stands = refl; log = one_seen _ _ refl; order = refl }

  pub find-follows : (key : List ℕ) → Follows me m world (calls.find key)
  unfolding call
  find-follows key = record { enough = len; stands = refl; log = one_seen _ _ refl; order = refl }

  -- ---- contacts
  contacts-enough : (t : List ℕ) → Enough (with_contacts m t)
  contacts-enough t = record { conns = len.conns; lookups = len.lookups }

  -- a world that differs in its contacts, its log and its order alone
  contacts-stand : (s t : List ℕ) (e : box.Entry) (o : Ask) → s ≡ t
      → Stands (with_contacts m s)
      (record { lines = world.lines; shared = record { state = box.logged (box.with_contacts world.shared.state t) e; order = h.order ++ (asked o ∷ []) } })
  contacts-stand s t e o q =
      λ z. record {
        lines = world.lines;
        shared = record { state = box.logged (box.with_contacts world.shared.state (q z)) e; order = h.order ++ (asked o ∷ []) };
      }

  pub seen-follows : (id : List ℕ) (client : ℕ) (addresses : List ℕ) → Follows me m world (calls.seen id client addresses)
  unfolding call
  seen-follows id client addresses =
      record {
        enough = contacts-enough (seen_contacts me m.lent.contacts id client addresses);
        stands = contacts-stand _ _ _ _ (enough m.lent.contacts (seen_after us m.lent.contacts id (says_yes client) addresses));
        log = one_seen (box.seen_gave (seen_of us m.lent.contacts id (says_yes client) addresses)) _
            (λ z. calls.told (enough 0 (seen_number (seen_of us m.lent.contacts id (says_yes client) addresses)) z)
            (λ out. enough out (seen_numbers out (seen_of us m.lent.contacts id (says_yes client) addresses)) z));
        order = refl;
      }

  pub settle-follows : (head id : List ℕ) (client : ℕ) (addresses : List ℕ) (answered : ℕ) → Follows me m world (calls.settle head id client addresses answered)
  unfolding call
  settle-follows head id client addresses answered =
      record {
        enough = contacts-enough (settle_contacts me m.lent.contacts head id client addresses answered);
        stands = contacts-stand _ _ _ _ (enough m.lent.contacts (settle_after us m.lent.contacts head id (says_yes client) addresses (says_yes answered)));
        log = one_seen (box.settle_gave (settle_of us m.lent.contacts head id (says_yes client) addresses (says_yes answered))) _
            (ap only_number (enough 0 (settle_number (settle_of us m.lent.contacts head id (says_yes client) addresses (says_yes answered)))));
        order = refl;
      }

  pub remove-follows : (id : List ℕ) → Follows me m world (calls.remove id)
  unfolding call
  remove-follows id =
      record {
        enough = contacts-enough (remove_contacts me m.lent.contacts id);
        stands = contacts-stand _ _ _ _ (enough m.lent.contacts (remove_after us m.lent.contacts id));
        log = one_seen (box.remove_gave (remove_of us m.lent.contacts id)) _ (ap only_number (enough 0 (remove_number (remove_of us m.lent.contacts id))));
        order = refl;
      }

  pub doubt-follows : (id : List ℕ) → Follows me m world (calls.doubt id)
  unfolding call
  doubt-follows id =
      record {
        enough = contacts-enough (doubt_contacts me m.lent.contacts id);
        stands = contacts-stand _ _ _ _ (enough m.lent.contacts (doubt_after us m.lent.contacts id));
        log = one_seen (box.doubt_gave (doubt_of us m.lent.contacts id)) _ (ap only_number (enough 0 (doubt_number (doubt_of us m.lent.contacts id))));
        order = refl;
      }

  pub nearest-follows : (key : List ℕ) → Follows me m world (calls.nearest key)
  unfolding call
  nearest-follows key =
      let n : Nearby = nearest_to us m.lent.contacts key in
      record {
        enough = len;
        stands = refl;
        log = one_seen (box.nearest_gave n) _ (λ z. calls.told (enough 0 (told_code n.told) z) (λ out. enough out (nearest_numbers out n) z));
        order = refl;
      }

  -- ---- lookups
  pub long-enough : {A : Type 0} (j : ℕ) (x y : A) → cond (too_short me (m.lookups j)) x y ≡ y
  unfolding too_short
  long-enough j x y = cond_no (too_short me (m.lookups j)) x y (or-fails _ _ (le-ltb (length me) peer_size S.room) (le-ltb (length (m.lookups j)) flat_size (len.lookups j)))

  -- a step on lookup j that leaves the bytes s, which stand for the lookup that it hands back
  module _ (j : ℕ) (left written : List ℕ) (g : Step) (o : Ask) (n : ℕ) (is : left ≡ written) (long : flat_size ≤ length written) (reads : lookup_in written ≡ g.lookup) (code : n ≡ step_number g.answer)
      (w : List ℕ → List ℕ) (numbers : (out : List ℕ) → w out ≡ step_numbers out g) where
    abbrev stepped : World Who Box Ask
    stepped = record { lines = world.lines; shared = record { state = box.stepping us j g world.shared.state; order = h.order ++ (asked o ∷ []) } }

    step-enough : Enough (with_lookup m j left)
    step-enough =
        record {
          conns = len.conns;
          lookups = λ k. cond_ind (λ (x : List ℕ). flat_size ≤ length x) (eqb k j) left (m.lookups k)
              (λ e. subst (λ (x : List ℕ). flat_size ≤ length x) (sym is) long) (λ e. len.lookups k);
        }

    step-stands : Stands (with_lookup m j left) stepped
    step-stands =
        let e = set-lookup m j left g.lookup (ap lookup_in is ∙ reads) in
        λ z. record {
          lines = world.lines;
          shared = record {
            state = record {
              lent = m.lent;
              lookups = e z;
              inbox = m.inbox;
              log = h.log ++ (box.called (box.step_gave g) ∷ []);
              offers = h.offers;
            };
            order = h.order ++ (asked o ∷ []);
          };
        }

    step-log : map entry_seen stepped.shared.state.log ≡ map entry_seen h.log ++ (calls.told n w ∷ [])
    step-log = one_seen (box.step_gave g) (calls.told n w) (λ z. calls.told (code z) (λ out. numbers out z))

  pub start-follows : (j : ℕ) (key : List ℕ) (limit : ℕ) → Follows me m world (calls.lookup_starts j key limit)
  unfolding call lookup_start
  start-follows j key limit =
      let g : Step = start_step me m key limit in
      let left : List ℕ = cond (too_short me (m.lookups j)) (m.lookups j) (started_memory (m.lookups j) g) in
      let written : List ℕ = started_memory (m.lookups j) g in
      let is : left ≡ written = long-enough j (m.lookups j) written in
      let long : flat_size ≤ length written = start-length (m.lookups j) g (len.lookups j) in
      let reads : lookup_in written ≡ g.lookup = start-reads (m.lookups j) m.lent.contacts (own_id us) us.place key limit (len.lookups j) in
      let n : ℕ = cond (too_short me (m.lookups j)) 0 (step_number g.answer) in
      let code : n ≡ step_number g.answer = long-enough j 0 (step_number g.answer) in
      let o : Ask = box.start j key limit in
      let w : List ℕ → List ℕ = λ out. cond (too_short me (m.lookups j)) out (step_numbers out g) in
      let numbers : (out : List ℕ) → w out ≡ step_numbers out g = λ out. long-enough j out (step_numbers out g) in
      record {
        enough = step-enough j left written g o n is long reads code w numbers;
        stands = step-stands j left written g o n is long reads code w numbers;
        log = step-log j left written g o n is long reads code w numbers;
        order = refl;
      }

  pub next-follows : (j : ℕ) → Follows me m world (calls.lookup_next j)
  unfolding call step
  next-follows j =
      let g : Step = next_step me m j in
      let left : List ℕ = lent flat_size (m.lookups j) (m.lookups j) (step_memory (m.lookups j) g) in
      let written : List ℕ = step_memory (m.lookups j) g in
      let is : left ≡ written = lent-enough flat_size (m.lookups j) (m.lookups j) written (len.lookups j) in
      let long : flat_size ≤ length written = step-length (m.lookups j) g (len.lookups j) in
      let reads : lookup_in written ≡ g.lookup = step-reads (m.lookups j) go_next (len.lookups j) in
      let n : ℕ = lent flat_size (m.lookups j) 0 (step_number g.answer) in
      let code : n ≡ step_number g.answer = lent-enough flat_size (m.lookups j) 0 (step_number g.answer) (len.lookups j) in
      let o : Ask = box.next j in
      let w : List ℕ → List ℕ = λ out. lent flat_size (m.lookups j) out (step_numbers out g) in
      let numbers : (out : List ℕ) → w out ≡ step_numbers out g = λ out. lent-enough flat_size (m.lookups j) out (step_numbers out g) (len.lookups j) in
      record {
        enough = step-enough j left written g o n is long reads code w numbers;
        stands = step-stands j left written g o n is long reads code w numbers;
        log = step-log j left written g o n is long reads code w numbers;
        order = refl;
      }

  pub reply-follows : (j : ℕ) (id body view : List ℕ) → Follows me m world (calls.lookup_replies j id body view)
  unfolding call step lookup_reply
  reply-follows j id body view =
      let g : Step = reply_step me m j id body view in
      let left : List ℕ = cond (too_short me (m.lookups j)) (m.lookups j) (step_memory (m.lookups j) g) in
      let written : List ℕ = step_memory (m.lookups j) g in
      let is : left ≡ written = long-enough j (m.lookups j) written in
      let long : flat_size ≤ length written = step-length (m.lookups j) g (len.lookups j) in
      let reads : lookup_in written ≡ g.lookup = step-reads (m.lookups j) (go_reply (own_id us) us.place id body (view_in view)) (len.lookups j) in
      let n : ℕ = cond (too_short me (m.lookups j)) 0 (step_number g.answer) in
      let code : n ≡ step_number g.answer = long-enough j 0 (step_number g.answer) in
      let o : Ask = box.reply j id body (view_in view) in
      let w : List ℕ → List ℕ = λ out. cond (too_short me (m.lookups j)) out (step_numbers out g) in
      let numbers : (out : List ℕ) → w out ≡ step_numbers out g = λ out. long-enough j out (step_numbers out g) in
      record {
        enough = step-enough j left written g o n is long reads code w numbers;
        stands = step-stands j left written g o n is long reads code w numbers;
        log = step-log j left written g o n is long reads code w numbers;
        order = refl;
      }

  -- with the view of the message that was heard
  pub view-back : (f : Fields) → view_in (view_numbers f) ≡ f
  view-back f = λ z. record { kind = f.kind; key = f.key; held = record { there = yes f.held.there z; key = f.held.key; value = f.held.value } }
    where
      yes : (b : Bool) → says_yes (cond b 1 0) ≡ b
      yes true = refl
      yes false = refl

  pub heard-follows : (i j : ℕ) (id : List ℕ) → Follows me m world (calls.lookup_hears i j id)
  unfolding call step lookup_reply
  heard-follows i j id =
      let body : List ℕ = m.inbox i in
      let g : Step = lookup_reply us (lookup_in (m.lookups j)) id body (fields_of body) in
      let same : heard_step me m i j id ≡ g = ap (lookup_reply us (lookup_in (m.lookups j)) id body) (view-back (fields_of body)) in
      let left : List ℕ = cond (too_short me (m.lookups j)) (m.lookups j) (step_memory (m.lookups j) (heard_step me m i j id)) in
      let written : List ℕ = step_memory (m.lookups j) g in
      let is : left ≡ written = long-enough j (m.lookups j) (step_memory (m.lookups j) (heard_step me m i j id)) ∙ ap (step_memory (m.lookups j)) same in
      let long : flat_size ≤ length written = step-length (m.lookups j) g (len.lookups j) in
      let reads : lookup_in written ≡ g.lookup = step-reads (m.lookups j) (go_reply (own_id us) us.place id body (fields_of body)) (len.lookups j) in
      let n : ℕ = cond (too_short me (m.lookups j)) 0 (step_number (heard_step me m i j id).answer) in
      let code : n ≡ step_number g.answer = long-enough j 0 (step_number (heard_step me m i j id).answer) ∙ ap (λ (s : Step). step_number s.answer) same in
      let o : Ask = box.reply_from i j id in
      let w : List ℕ → List ℕ = λ out. cond (too_short me (m.lookups j)) out (step_numbers out (heard_step me m i j id)) in
      let numbers : (out : List ℕ) → w out ≡ step_numbers out g = λ out. long-enough j out (step_numbers out (heard_step me m i j id)) ∙ ap (step_numbers out) same in
      record {
        enough = step-enough j left written g o n is long reads code w numbers;
        stands = step-stands j left written g o n is long reads code w numbers;
        log = step-log j left written g o n is long reads code w numbers;
        order = refl;
      }

  pub failure-follows : (j : ℕ) (id : List ℕ) → Follows me m world (calls.lookup_fails j id)
  unfolding call step lookup_failure
  failure-follows j id =
      let g : Step = failure_step me m j id in
      let left : List ℕ = cond (too_short me (m.lookups j)) (m.lookups j) (step_memory (m.lookups j) g) in
      let written : List ℕ = step_memory (m.lookups j) g in
      let is : left ≡ written = long-enough j (m.lookups j) written in
      let long : flat_size ≤ length written = step-length (m.lookups j) g (len.lookups j) in
      let reads : lookup_in written ≡ g.lookup = step-reads (m.lookups j) (go_fail (own_id us) us.place id) (len.lookups j) in
      let n : ℕ = cond (too_short me (m.lookups j)) 0 (step_number g.answer) in
      let code : n ≡ step_number g.answer = long-enough j 0 (step_number g.answer) in
      let o : Ask = box.failure j id in
      let w : List ℕ → List ℕ = λ out. cond (too_short me (m.lookups j)) out (step_numbers out g) in
      let numbers : (out : List ℕ) → w out ≡ step_numbers out g = λ out. long-enough j out (step_numbers out g) in
      record {
        enough = step-enough j left written g o n is long reads code w numbers;
        stands = step-stands j left written g o n is long reads code w numbers;
        log = step-log j left written g o n is long reads code w numbers;
        order = refl;
      }

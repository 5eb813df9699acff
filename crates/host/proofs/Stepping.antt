-- What a step of a lookup hands over is what the lookup gave. Assumes nothing.
use Prim.Native.Nat.{ℕ, ◌<◌, ◌≤◌}
use mathlib.Core.Path.{◌≡◌, refl, sym, ap, ◌∙◌, subst}
use mathlib.Core.Bool.{Bool, true, false, cond, ◌||◌}
use mathlib.Core.List.{List}
use lib.Dec.{ltb}
use lib.ListN.{length}
use borrow.Author.Tests.{lt-ltb, le-ltb}
use Rattle.octets.proofs.Bools.{or_l, cond_yes}
use Rattle.refusal.specs.declared.Refusal.TheVariants.{OutOfForm}
use Rattle.peer.specs.declared.Peer.{Peer}
use Rattle.message.specs.declared.Fields.{Fields}
use Rattle.flat.specs.Flat.{peer_size, peer_in}
use Rattle.lookup.specs.Value.{Step}
use Rattle.lookup.specs.Lookup.{refuses, next_of}
use Rattle.flat_lookup.specs.FlatLookup.{flat_size, lookup_in}
use Rattle.lookup_in_place.specs.declared.Outcome.{Outcome}
use Rattle.lookup_in_place.specs.InPlace.{outcome_of, step_in, step_memory, started_memory, start_memory}
use Rattle.host_calls.specs.Hosts.{lookup_start, lookup_reply, lookup_failure}
use Rattle.host_numbers.specs.Numbers.{view_in}
use Rattle.host_steps.specs.Steps.{step_number, outcome_numbers, step_numbers}
use Rattle.host.specs.Host.{too_short, Steps, Begins, Nexts, Replies, Fails}

-- ---- the memory of the box
module _ (me m : List ℕ) where
  box-there : peer_size ≤ length me → too_short me m ≡ ltb (length m) flat_size
  unfolding too_short
  box-there l = ap (λ (b : Bool). b || ltb (length m) flat_size) (le-ltb (length me) peer_size l)

  steps-short : (s : Step) (after out : List ℕ) → length me < peer_size → Steps (too_short me m) s after m out 0 m out
  unfolding too_short
  steps-short s after out l =
      let h : too_short me m ≡ true = or_l (ltb (length me) peer_size) (ltb (length m) flat_size) (lt-ltb (length me) peer_size l) in
      record {
        code = sym (cond_yes (too_short me m) 0 (step_number s.answer) h);
        memory = sym (cond_yes (too_short me m) m after h);
        numbers = sym (cond_yes (too_short me m) out (step_numbers out s) h);
      }

-- ---- a step, and what was told of it: a lookup's memory that is too short is out of form, which refuses with 0
module _ (m out : List ℕ) (o : Outcome) (r : ℕ) (m' out' : List ℕ) (told : (r ≡ step_number o.answer) × (out' ≡ outcome_numbers out o)) where
  steps-told : (s : Step) (short : Bool) (after : List ℕ) → short ≡ ltb (length m) flat_size → o ≡ outcome_of (step_in m s)
      → m' ≡ cond (ltb (length m) flat_size) m after → Steps short s after m out r m' out'
  steps-told s short after e eo em =
      let few : Bool = ltb (length m) flat_size in
      record {
        code = told.0 ∙ ap (λ (x : Outcome). step_number x.answer) eo ∙ number few ∙ ap (λ (b : Bool). cond b 0 (step_number s.answer)) (sym e);
        memory = em ∙ ap (λ (b : Bool). cond b m after) (sym e);
        numbers = told.1 ∙ ap (outcome_numbers out) eo ∙ numbers few ∙ ap (λ (b : Bool). cond b out (step_numbers out s)) (sym e);
      }
    where
      number : (b : Bool) → step_number (cond b (refuses (lookup_in m) OutOfForm) s).answer ≡ cond b 0 (step_number s.answer)
      number true = refl
      number false = refl

      numbers : (b : Bool) → step_numbers out (cond b (refuses (lookup_in m) OutOfForm) s) ≡ cond b out (step_numbers out s)
      numbers true = refl
      numbers false = refl

  step-told : (s : Step) (short : Bool) → short ≡ ltb (length m) flat_size → (o ≡ outcome_of (step_in m s)) × (m' ≡ step_memory m (step_in m s))
      → Steps short s (step_memory m s) m out r m' out'
  step-told s short e (eo, em) = steps-told s short (step_memory m s) e eo (em ∙ left (ltb (length m) flat_size))
    where
      left : (b : Bool) → step_memory m (cond b (refuses (lookup_in m) OutOfForm) s) ≡ cond b m (step_memory m s)
      left true = refl
      left false = refl

  pub next-told : (o ≡ outcome_of (step_in m (next_of (lookup_in m)))) × (m' ≡ step_memory m (step_in m (next_of (lookup_in m)))) → Nexts m out r m' out'
  next-told h = step-told (next_of (lookup_in m)) (ltb (length m) flat_size) refl h

  module _ (me : List ℕ) (l : peer_size ≤ length me) (p : Peer) (e : p ≡ peer_in me) where
    pub start-told : (t key : List ℕ) (limit : ℕ) → (o ≡ outcome_of (step_in m (lookup_start p t key limit))) × (m' ≡ start_memory m (lookup_start p t key limit))
        → Begins me m t key limit out r m' out'
    start-told t key limit (eo, em) =
        subst (λ (q : Peer). Steps (too_short me m) (lookup_start q t key limit) (started_memory m (lookup_start q t key limit)) m out r m' out') e
        (steps-told (lookup_start p t key limit) (too_short me m) (started_memory m (lookup_start p t key limit)) (box-there me m l) eo em)

    abbrev Stepped : Step → Type 0
    Stepped s = (o ≡ outcome_of (step_in m s)) × (m' ≡ step_memory m (step_in m s))

    pub reply-told : (id body view : List ℕ) (v : Fields) → v ≡ view_in view → Stepped (lookup_reply p (lookup_in m) id body v) → Replies me m id body view out r m' out'
    reply-told id body view v ev h =
        subst (λ (q : Peer). Replying q (view_in view)) e (subst (Replying p) ev (step-told (lookup_reply p (lookup_in m) id body v) (too_short me m) (box-there me m l) h))
      where
        Replying : Peer → Fields → Type 0
        Replying q w = Steps (too_short me m) (lookup_reply q (lookup_in m) id body w) (step_memory m (lookup_reply q (lookup_in m) id body w)) m out r m' out'

    pub failure-told : (id : List ℕ) → Stepped (lookup_failure p (lookup_in m) id) → Fails me m id out r m' out'
    failure-told id h =
        subst (λ (q : Peer). Steps (too_short me m) (lookup_failure q (lookup_in m) id) (step_memory m (lookup_failure q (lookup_in m) id)) m out r m' out') e
        (step-told (lookup_failure p (lookup_in m) id) (too_short me m) (box-there me m l) h)

-- ---- a box whose memory is too short
module _ (me m out : List ℕ) (l : length me < peer_size) where
  pub start-short : (t key : List ℕ) (limit : ℕ) → Begins me m t key limit out 0 m out
  start-short t key limit = let s = lookup_start (peer_in me) t key limit in steps-short me m s (started_memory m s) out l

  pub reply-short : (id body view : List ℕ) → Replies me m id body view out 0 m out
  reply-short id body view = let s = lookup_reply (peer_in me) (lookup_in m) id body (view_in view) in steps-short me m s (step_memory m s) out l

  pub failure-short : (id : List ℕ) → Fails me m id out 0 m out
  failure-short id = let s = lookup_failure (peer_in me) (lookup_in m) id in steps-short me m s (step_memory m s) out l

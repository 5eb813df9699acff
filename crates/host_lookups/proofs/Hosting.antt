-- The host's calls on lookups, for a box: the id that it goes by. Assumes nothing.
use Prim.Native.Nat.{ℕ, ◌≤◌, ◌-◌}
use mathlib.Core.Path.{◌≡◌, refl, sym, ap, ◌∙◌, subst}
use mathlib.Core.Bool.{Bool, true, false, cond, ◌&&◌}
use mathlib.Core.List.{List, []}
use native.Mathlib.Omega.{arith}
use lib.ListN.{take}
use lib.Dec.{leb}
use borrow.Author.Tests.{leb-true}
use Rattle.octets.specs.Octets.{part}
use Rattle.octets.proofs.Bools.{cond_yes, cond_no, and_r}
use Rattle.peer.specs.declared.Peer.{Peer}
use Rattle.peer.specs.Peers.{id_in}
use Rattle.message.specs.declared.Fields.{Fields}
use Rattle.lookup.specs.Value.{Step}
use Rattle.lookup.specs.Lookup as lookup
use Rattle.flat_lookup.specs.FlatLookup.{lookup_in}
use Rattle.lookup_in_place.specs.declared.Outcome.{Outcome}
use Rattle.lookup_in_place.specs.InPlace.{outcome_of, step_in, step_memory, start_in, start_memory}
use Rattle.connections.specs.Box.{own_fits}
use Rattle.host_lookups.specs.Lookups.{own_id, lookup_start, lookup_reply, lookup_failure}
use Rattle.host_lookups.specs.Inner.{own_size}

module _ (me : Peer) where
  pub size-own : own_fits me ≡ true → (me.size ≡ own_size me) × (me.size ≤ 64)
  unfolding own_fits
  size-own h = (sym (cond_yes (leb 1 me.size && leb me.size 64) me.size 0 h), leb-true me.size 64 (and_r (leb 1 me.size) _ h))

  pub size-nobody : own_fits me ≡ false → (0 ≡ own_size me) × (0 ≤ 64)
  size-nobody h = (sym (cond_no (own_fits me) me.size 0 h), omega arith)

  own-id : (n : ℕ) → n ≡ own_size me → take n me.id ≡ own_id me
  unfolding own_id id_in
  own-id n e = ap (λ (k : ℕ). take k me.id) e ∙ go (own_fits me)
    where
      go : (b : Bool) → take (cond b me.size 0) me.id ≡ cond b (part me.id 0 me.size) []
      go true = let s : me.size ≡ me.size - 0 = omega arith in ap (λ (k : ℕ). take k me.id) s
      go false = refl

  -- what the step gave and left for the first n bytes of the id, it gave and left for the id that the box goes by
  module _ (n : ℕ) (e : n ≡ own_size me) (m : List ℕ) (o : Outcome) (m' : List ℕ) where
    pub start-by : (t key : List ℕ) (limit : ℕ)
        → (o ≡ outcome_of (start_in m t (take n me.id) me.place key limit)) × (m' ≡ start_memory m (lookup.start_of t (take n me.id) me.place key limit))
        → (o ≡ outcome_of (step_in m (lookup_start me t key limit))) × (m' ≡ start_memory m (lookup_start me t key limit))
    unfolding lookup_start
    start-by t key limit h =
        subst (λ (x : List ℕ). (o ≡ outcome_of (start_in m t x me.place key limit)) × (m' ≡ start_memory m (lookup.start_of t x me.place key limit))) (own-id n e) h

    abbrev Stepped : Step → Type 0
    Stepped s = (o ≡ outcome_of (step_in m s)) × (m' ≡ step_memory m (step_in m s))

    pub reply-by : (id body : List ℕ) (view : Fields) → Stepped (lookup.reply_of (lookup_in m) (take n me.id) me.place id body view)
        → Stepped (lookup_reply me (lookup_in m) id body view)
    unfolding lookup_reply
    reply-by id body view h = subst (λ (x : List ℕ). Stepped (lookup.reply_of (lookup_in m) x me.place id body view)) (own-id n e) h

    pub failure-by : (id : List ℕ) → Stepped (lookup.failure_of (lookup_in m) (take n me.id) me.place id) → Stepped (lookup_failure me (lookup_in m) id)
    unfolding lookup_failure
    failure-by id h = subst (λ (x : List ℕ). Stepped (lookup.failure_of (lookup_in m) x me.place id)) (own-id n e) h

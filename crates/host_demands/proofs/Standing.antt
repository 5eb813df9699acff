-- When memory stands for a world after a call: field by field. Assumes nothing.
use Prim.Native.Nat.{ℕ}
use mathlib.Core.Path.{◌≡◌, refl}
use mathlib.Core.Bool.{Bool, true, false, cond}
use mathlib.Core.List.{List, [], ◌∷◌, ◌++◌, map}
use lib.Dec.{eqb}
use Rattle.lookup.specs.Value.{Lookup}
use Rattle.cutting.specs.World.{Did, Line, Shared, set_at, put_back}
use Rattle.replies.specs.Lent.{Lent}
use Rattle.flat_lookup.specs.FlatLookup.{lookup_in}
use Rattle.demands.specs.Box.{Box, Who, Ask, Entry}
use Rattle.host_demands.specs.Calls.{Memory, History, line_in, world_in, Stands, entry_seen}

-- a call on connection i: its line is what its bytes stand for, and what is shared is what memory holds
pub put-stands : (m : Memory) (h : History) (i : ℕ) (l : Lent) (conn buffer : List ℕ) (inbox : ℕ → List ℕ) (n : ℕ) (d : Did (Line Who) (Shared Box Ask))
    → line_in conn buffer n ≡ d.line → l ≡ d.shared.state.lent → (λ (j : ℕ). lookup_in (m.lookups j)) ≡ d.shared.state.lookups → inbox ≡ d.shared.state.inbox
    → Stands
    (record {
      lent = l;
      conns = set_at m.conns i conn;
      buffers = set_at m.buffers i buffer;
      lookups = m.lookups;
      inbox = inbox;
      taken = set_at m.taken i n;
    })
    (put_back (world_in m h) i d)
put-stands m h i l conn buffer inbox n d el em eo ei =
    λ z. record {
      lines = λ j. line j (eqb j i) z;
      shared = record {
        state = record {
          lent = em z;
          lookups = eo z;
          inbox = ei z;
          log = d.shared.state.log;
          offers = d.shared.state.offers;
        };
        order = d.shared.order;
      };
    }
  where
    line : (j : ℕ) (b : Bool)
        → line_in (cond b conn (m.conns j)) (cond b buffer (m.buffers j)) (cond b n (m.taken j))
        ≡ cond b d.line ((world_in m h).lines j)
    line j true = el
    line j false = refl

-- a lookup j that was written
pub set-lookup : (m : Memory) (j : ℕ) (s : List ℕ) (l : Lookup) → lookup_in s ≡ l
    → (λ (k : ℕ). lookup_in (set_at m.lookups j s k)) ≡ set_at (λ (k : ℕ). lookup_in (m.lookups k)) j l
set-lookup m j s l e = λ z k. at k (eqb k j) z
  where
    at : (k : ℕ) (b : Bool) → lookup_in (cond b s (m.lookups k)) ≡ cond b l (lookup_in (m.lookups k))
    at k true = e
    at k false = refl

-- a log that gets one entry more
pub one-more-seen : (es : List Entry) (e : Entry) → map entry_seen (es ++ (e ∷ [])) ≡ map entry_seen es ++ (entry_seen e ∷ [])
one-more-seen [] e = refl
one-more-seen (x ∷ es) e = λ z. entry_seen x ∷ one-more-seen es e z

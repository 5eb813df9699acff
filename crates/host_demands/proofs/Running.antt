-- Any list of exported calls, on bytes, is a list of calls in the demands' world. Assumes nothing.
use Prim.Native.Nat.{ℕ}
use mathlib.Core.Path.{sym, ap, ◌∙◌, subst}
use mathlib.Core.List.{List, [], ◌∷◌, ◌++◌, map, append_assoc, append-nil}
use Rattle.cutting.specs.World.{World, Mark, Call, hand, does, asks, call, calls, AllFit}
use Rattle.flat.specs.Flat.{peer_in}
use Rattle.demands.specs.Box.{Box, Who, Turn, Ask, Fits, box}
use Rattle.demands.proofs.Sound.{sound}
use Rattle.demands.proofs.Ready.{calls-ready}
use Rattle.host_demands.specs.Calls as host
use Rattle.host_demands.specs.Calls.{Memory, History, Enough, Seen, Export, leaves, meant, sees_of, marks_of, leaves_all, meant_all, sees_all, marks_all, world_in, history_of, Stands, entry_seen}
use Rattle.host_demands.specs.Hosted.{Started, ReadyFor, Follows, OneCall, FollowsAll, AllCalls}
use Rattle.host_demands.proofs.Receiving.{receive-follows}
use Rattle.host_demands.proofs.Turning.{open-follows, end-follows}
use Rattle.host_demands.proofs.Asking.{put-follows, find-follows, seen-follows, settle-follows, remove-follows, doubt-follows, nearest-follows, start-follows, next-follows, reply-follows, heard-follows, failure-follows}

module _ (me : List ℕ) (S : Started me) where
  -- ---- one call
  pub follows : (m : Memory) (h : History) (c : Export) → Enough m → ReadyFor me (world_in m h) → Follows me m (world_in m h) c
  follows m h (host.opens i id server asking addresses buffer) l r = open-follows me S m h l r i id server asking addresses buffer
  follows m h (host.receives i piece) l r = receive-follows me S m h l r i piece
  follows m h (host.ends i) l r = end-follows me S m h l r i
  follows m h (host.put key value) l r = put-follows me S m h l key value
  follows m h (host.find key) l r = find-follows me S m h l key
  follows m h (host.seen id client addresses) l r = seen-follows me S m h l id client addresses
  follows m h (host.settle head id client addresses answered) l r = settle-follows me S m h l head id client addresses answered
  follows m h (host.remove id) l r = remove-follows me S m h l id
  follows m h (host.doubt id) l r = doubt-follows me S m h l id
  follows m h (host.nearest key) l r = nearest-follows me S m h l key
  follows m h (host.lookup_starts j key limit) l r = start-follows me S m h l j key limit
  follows m h (host.lookup_next j) l r = next-follows me S m h l j
  follows m h (host.lookup_replies j id body view) l r = reply-follows me S m h l j id body view
  follows m h (host.lookup_hears i j id) l r = heard-follows me S m h l i j id
  follows m h (host.lookup_fails j id) l r = failure-follows me S m h l j id

  pub one-call : OneCall me
  one-call m w c l r e =
      subst (λ (x : World Who Box Ask). ReadyFor me x → Follows me m x c) e (λ q. follows m (history_of w) c l q) r

  -- ---- and one after the other
  pub fits_head : (x : Call Turn Ask) (xs : List (Call Turn Ask)) → AllFit Fits (x ∷ xs) → AllFit Fits (x ∷ [])
  unfolding AllFit
  fits_head (hand i p) xs f = tt
  fits_head (does i b) xs f = (f.0, tt)
  fits_head (asks o) xs f = tt

  fits-rest : (x : Call Turn Ask) (xs : List (Call Turn Ask)) → AllFit Fits (x ∷ xs) → AllFit Fits xs
  unfolding AllFit
  fits-rest (hand i p) xs f = f
  fits-rest (does i b) xs f = f.1
  fits-rest (asks o) xs f = f

  pub ready-after : (m : Memory) (w : World Who Box Ask) (c : Export) (cs : List Export) → ReadyFor me w → AllFit Fits (meant_all me m (c ∷ cs))
      → ReadyFor me (call (box (peer_in me)) w (meant me m c))
  unfolding calls meant_all
  ready-after m w c cs r f =
      calls-ready (box (peer_in me)) (sound (peer_in me) S.own) (meant me m c ∷ []) w r (fits_head (meant me m c) (meant_all me (leaves me m c) cs) f)

  pub later-fit : (m : Memory) (c : Export) (cs : List Export) → AllFit Fits (meant_all me m (c ∷ cs)) → AllFit Fits (meant_all me (leaves me m c) cs)
  unfolding meant_all
  later-fit m c cs f = fits-rest (meant me m c) (meant_all me (leaves me m c) cs) f

  all-calls-go : (cs : List Export) (m : Memory) (w : World Who Box Ask) → Enough m → ReadyFor me w → Stands m w → AllFit Fits (meant_all me m cs) → FollowsAll me m w cs
  unfolding leaves_all meant_all sees_all marks_all calls
  all-calls-go [] m w l r e f =
      record { enough = l; ready = r; stands = e; log = sym (append-nil (map entry_seen w.shared.state.log)); order = sym (append-nil w.shared.order) }
  all-calls-go (c ∷ cs) m w l r e f =
      let one : Follows me m w c = one-call m w c l r e in
      let later : FollowsAll me (leaves me m c) (call (box (peer_in me)) w (meant me m c)) cs =
      all-calls-go cs (leaves me m c) (call (box (peer_in me)) w (meant me m c)) one.enough (ready-after m w c cs r f) one.stands (later-fit m c cs f) in
      record {
        enough = later.enough;
        ready = later.ready;
        stands = later.stands;
        log = later.log ∙ ap (λ (x : List Seen). x ++ sees_all me (leaves me m c) cs) one.log
            ∙ append_assoc (map entry_seen w.shared.state.log) (sees_of me m c) (sees_all me (leaves me m c) cs);
        order = later.order ∙ ap (λ (x : List (Mark Ask)). x ++ marks_all me (leaves me m c) cs) one.order
            ∙ append_assoc w.shared.order (marks_of me m c) (marks_all me (leaves me m c) cs);
      }

  pub all-calls : AllCalls me
  all-calls m w cs l r e f = all-calls-go cs m w l r e f

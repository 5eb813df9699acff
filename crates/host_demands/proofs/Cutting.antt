-- "Cutting changes nothing", of the bytes of two programs that call: every byte of memory ends the same, and both saw the same. Assumes nothing.
use Prim.Native.Nat.{ℕ}
use mathlib.Core.Path.{◌≡◌, refl, sym, ap, ◌∙◌}
use mathlib.Core.List.{List, ◌++◌, map}
use lib.Seq.{sets}
use Rattle.peer.specs.declared.Peer.{Peer}
use Rattle.stream.specs.declared.Framing.{Framing}
use Rattle.cutting.specs.World.{World, Mark, Act, given, calls, AllFit}
use Rattle.octets.proofs.Lists.{cancel}
use Rattle.flat.specs.Flat.{peer_in, conn_in, with_framing}
use Rattle.flat_lookup.specs.FlatLookup.{lookup_bytes}
use Rattle.demands.specs.Box.{Box, Who, Turn, Ask, Fits, box}
use Rattle.demands.proofs.Theorems.{third}
use Rattle.host_demands.specs.Calls.{Memory, History, Enough, Export, leaves_all, meant_all, sees_all, world_in, history_of, entry_seen}
use Rattle.host_demands.specs.Hosted.{Started, ReadyFor, FollowsAll, Alike, Written, SameEnd, CutAnywhere}
use Rattle.host_demands.proofs.Running.{all-calls}
use Rattle.host_demands.proofs.Written.{origin, Left, all_left}

module _ (me : List ℕ) (S : Started me) (m : Memory) (h : History) (len : Enough m) (wrote : Written m) (ready : ReadyFor me (world_in m h)) where
  abbrev us : Peer
  us = peer_in me

  module _ (cs ds : List Export) (f : AllFit Fits (meant_all me m cs)) (g : AllFit Fits (meant_all me m ds)) (alike : Alike me m cs ds) where
    abbrev world : List Export → World Who Box Ask
    world es = calls (box us) (world_in m h) (meant_all me m es)

    first : FollowsAll me m (world_in m h) cs
    first = all-calls me S m (world_in m h) cs len ready refl f

    second : FollowsAll me m (world_in m h) ds
    second = all-calls me S m (world_in m h) ds len ready refl g

    same-order : (world cs).shared.order ≡ (world ds).shared.order
    same-order = first.order ∙ ap (λ (x : List (Mark Ask)). h.order ++ x) alike.order ∙ sym second.order

    same-world : world cs ≡ world ds
    same-world = (third us S.own).cut (world_in m h) ready (meant_all me m cs) (meant_all me m ds) f g alike.given same-order

    same_read : world_in (leaves_all me m cs) (history_of (world cs)) ≡ world_in (leaves_all me m ds) (history_of (world ds))
    same_read = first.stands ∙ same-world ∙ sym second.stands

    left : Left me S m.lookups m cs
    left = all_left me S m.lookups len.lookups cs m (world_in m h) len ready refl f wrote.conns wrote.lookups

    right : Left me S m.lookups m ds
    right = all_left me S m.lookups len.lookups ds m (world_in m h) len ready refl g wrote.conns wrote.lookups

    same-conn : (i : ℕ) → (leaves_all me m cs).conns i ≡ (leaves_all me m ds).conns i
    same-conn i =
        let p : Framing = (conn_in ((leaves_all me m cs).conns i)).framing in
        let q : Framing = (conn_in ((leaves_all me m ds).conns i)).framing in
        let e : p ≡ q = ap (λ (w : World Who Box Ask). (w.lines i).framing) same_read in
        left.plain i ∙ left.apart i p ∙ ap (λ (x : List (Act Turn)). with_framing (origin me S (m.conns i) x) p) (alike.given i)
        ∙ ap (with_framing (origin me S (m.conns i) (given i (meant_all me m ds)))) e ∙ sym (right.apart i q) ∙ sym (right.plain i)

    same-lookup : (j : ℕ) → (leaves_all me m cs).lookups j ≡ (leaves_all me m ds).lookups j
    same-lookup j =
        left.wrote j ∙ ap (λ (w : World Who Box Ask). sets (m.lookups j) 0 (lookup_bytes (w.shared.state.lookups j))) same_read ∙ sym (right.wrote j)

    pub same_end : SameEnd me m cs ds
    same_end =
        record {
          memory = λ z. record {
            lent = (same_read z).shared.state.lent;
            conns = λ i. same-conn i z;
            buffers = λ i. ((same_read z).lines i).buffer;
            lookups = λ j. same-lookup j z;
            inbox = (same_read z).shared.state.inbox;
            taken = λ i. ((same_read z).lines i).taken;
          };
          sees = cancel (map entry_seen h.log) (sees_all me m cs) (sees_all me m ds)
              (sym first.log ∙ ap (λ (w : World Who Box Ask). map entry_seen w.shared.state.log) same-world ∙ second.log);
        }

pub cut-anywhere : (me : List ℕ) → Started me → CutAnywhere me
cut-anywhere me S m h cs ds len wrote ready f g alike = same_end me S m h len wrote ready cs ds f g alike

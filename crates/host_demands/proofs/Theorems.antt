-- The statements of specs/Hosted.antt, proved. Assumes nothing.
use Prim.Native.Nat.{ℕ}
use mathlib.Core.Path.{◌≡◌, refl, sym, ap, ◌∙◌, subst}
use mathlib.Core.Bool.{true≢false}
use mathlib.Core.List.{List, map}
use Rattle.peer.specs.declared.Peer.{Peer}
use Rattle.sightings_kept.specs.Promises.{Hashed}
use Rattle.stream.specs.Stream.{is_shut}
use Rattle.cutting.specs.World.{World, Mark, AllFit}
use Rattle.cutting.specs.Plain.{ReadOut, Left, plainly, unread}
use Rattle.flat.specs.Flat.{peer_in}
use Rattle.demands.specs.Box.{Box, Who, Ask, Fits, box}
use Rattle.demands.proofs.Theorems.{second, third}
use Rattle.host_demands.specs.Calls.{Memory, Enough, Export, leaves_all, meant_all, world_in, history_of, entry_seen}
use Rattle.host_demands.specs.Hosted.{Started, nothing_yet, ReadyFor, FollowsAll, ContactsHashed, after, plain_of, Plainly, HostedDemands}
use Rattle.host_demands.proofs.Beginning.{begun, begins}
use Rattle.host_demands.proofs.Running.{one-call, all-calls}
use Rattle.host_demands.proofs.Handing.{hands-over}
use Rattle.host_demands.proofs.Exported.{as-exported}
use Rattle.host_demands.proofs.Refused.{refused-keeps, refused-start}
use Rattle.host_demands.proofs.Shutting.{refused-shuts}
use Rattle.host_demands.proofs.Formed.{formed, steps-formed}
use Rattle.host_demands.proofs.Cutting.{cut-anywhere}
use Rattle.host_demands.proofs.Accepting.{stays, lasts}
use Rattle.host_demands.proofs.Traced.{lookup-bytes-are-runs}
use Rattle.host_demands.proofs.Reading.{messages-cross}
use Rattle.host_demands.proofs.Recipes.{recipes-cross}

module _ (me : List ℕ) (S : Started me) where
  abbrev us : Peer
  us = peer_in me

  -- the world at the end of the calls is what the memory then stands for
  follow : (m : Memory) (cs : List Export) → Enough m → ReadyFor me (world_in m nothing_yet) → AllFit Fits (meant_all me m cs) → FollowsAll me m (world_in m nothing_yet) cs
  follow m cs len r f = all-calls me S m (world_in m nothing_yet) cs len r refl f

  hashed : ContactsHashed me
  hashed m cs c f =
      let b = begins me m c in
      subst Hashed (sym (ap (λ (w : World Who Box Ask). w.shared.state.lent.contacts) (follow m cs b.0 b.2 f).stands))
      ((second us S.own).hashed (world_in m nothing_yet) (begun m c) (meant_all me m cs) f)

  plain : Plainly me
  plain m cs c f =
      let b = begins me m c in
      let g : FollowsAll me m (world_in m nothing_yet) cs = follow m cs b.0 b.2 f in
      let w : World Who Box Ask = after me (world_in m nothing_yet) m cs in
      let read : ReadOut (plainly (box us) (unread (world_in m nothing_yet) (meant_all me m cs)) w.shared.order) w =
      (third us S.own).plain (world_in m nothing_yet) b.2 (λ i o. absurd (true≢false (sym (ap is_shut ((begun m c).shut i)) ∙ o))) refl (meant_all me m cs) f in
      let e : w.shared.state ≡ (plain_of me m cs).shared =
      read.state ∙ ap (λ (x : List (Mark Ask)). (plainly (box us) (unread (world_in m nothing_yet) (meant_all me m cs)) x).shared) g.order in
      let s : (world_in (leaves_all me m cs) (history_of w)).shared.state ≡ (plain_of me m cs).shared =
      ap (λ (x : World Who Box Ask). x.shared.state) g.stands ∙ e in
      record {
        lent = ap (λ (x : Box). x.lent) s;
        lookups = λ j. ap (λ (x : Box). x.lookups j) s;
        sees = sym g.log ∙ ap (λ (x : Box). map entry_seen x.log) e;
        half = λ i. subst (Left ((plain_of me m cs).lines i)) (sym (ap (λ (x : World Who Box Ask). x.lines i) g.stands))
            (subst (λ (x : List (Mark Ask)). Left ((plainly (box us) (unread (world_in m nothing_yet) (meant_all me m cs)) x).lines i) (w.lines i)) g.order (read.lines i));
      }

pub hosted : HostedDemands
hosted me S =
    record {
      exported = as-exported me;
      call = one-call me S;
      calls = all-calls me S;
      handing = hands-over me S;
      refused = refused-keeps me;
      shuts = refused-shuts me;
      empties = refused-start me;
      formed = formed me S;
      steps = steps-formed me S;
      lookups = lookup-bytes-are-runs me S;
      messages = messages-cross;
      recipes = recipes-cross;
      hashed = hashed me S;
      cut = cut-anywhere me S;
      plain = plain me S;
      stays = stays me S;
      lasts = lasts me S;
    }

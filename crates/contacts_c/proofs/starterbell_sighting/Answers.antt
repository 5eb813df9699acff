-- `starterbell_sighting` hands over what `seen` answers for the peer that it makes.
use Prim.Native.Nat.{ℕ}
use mathlib.Core.Path.{ap, ◌∙◌}
use mathlib.Core.List.{[], ◌∷◌}
use Rattle.peer.specs.Peers.{tidied}
use Rattle.peer.proofs.Tidy.{made_tidy}
use Rattle.sightings.specs.Sightings.{sighting_of, seen_table}
use Rattle.contact_calls.specs.Calls.{seen_number}
use Rattle.contacts_c.specs.Codes.{named_by}
use borrow.Author.Rules.{rules}
use Rattle.contacts_c.proofs.starterbell_sighting.Goals as goal

pub returns : goal.returns
returns c = let a = c.args in
    let made = ap tidied c.peer_of-p.ensures ∙ made_tidy _ _ _ in
    let e = c.seen.ensures.0 ∙ ap (sighting_of a.table.now a.ours.now) made in (
      c.answer_of-told.ensures.0 ∙ ap seen_number e,
      c.seen.ensures.1 ∙ ap (seen_table a.table.now a.ours.now) made,
      ap (λ (i : ℕ). i ∷ []) (c.answer_of-told.ensures.1 ∙ ap named_by e),
    )

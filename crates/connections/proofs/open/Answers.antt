-- `connections::open` meets its contract. Assumes nothing.
use mathlib.Core.Path.{sym, ◌∙◌}
use borrow.Author.Tests.{not-true, not-false}
use Rattle.connections.proofs.Opening.{open_own, open-id, open-ours, open-fine}
use borrow.Author.Rules.{rules}
use Rattle.connections.proofs.open.Goals as goal

pub returns-then-not-own_fits : goal.returns-then-not-own_fits
returns-then-not-own_fits c = c.refuse_open.ensures ∙ open_own _ _ _ _ _ (sym c.own_fits.ensures ∙ c.if-not-own_fits.true)

pub returns-then-not-id_fits : goal.returns-then-not-id_fits
returns-then-not-id_fits c = c.refuse_open-then-not-id_fits.ensures ∙ open-id _ _ _ _ _ (sym c.id_fits.ensures ∙ c.if-not-id_fits.true)

pub returns-then-same_bytes : goal.returns-then-same_bytes
returns-then-same_bytes c = c.refuse_open-then-same_bytes.ensures ∙ open-ours _ _ _ _ _ (sym c.id_fits.ensures ∙ c.if-not-id_fits.false) _ c.place_of-at.ensures (sym c.same_bytes.ensures ∙ c.if-same_bytes.true)

pub returns : goal.returns
returns c = open-fine _ _ _ _ _ (sym c.id_fits.ensures ∙ c.if-not-id_fits.false) _ c.place_of-at.ensures _ _ (sym c.own_fits.ensures ∙ c.if-not-own_fits.false) (sym c.same_bytes.ensures ∙ c.if-same_bytes.false) c.peer_of-peer.ensures c.open-framing.ensures

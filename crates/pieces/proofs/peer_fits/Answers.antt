-- `peer_fits`: the id, each address, the connection.
use mathlib.Core.Path.{sym, ◌∙◌}
use Rattle.pieces.proofs.Pieces.{fits-no-id, fits-no-0, fits-no-1, fits-no-2, fits-no-3, fits-by-connection}
use borrow.Author.Rules.{rules}
use Rattle.pieces.proofs.peer_fits.Goals as goal

pub returns-then-id-gt-MOST_ID : goal.returns-then-id-gt-MOST_ID
returns-then-id-gt-MOST_ID c = fits-no-id _ _ _ _ _ _ _ c.if-id-gt-MOST_ID.true

pub returns-then-address_over : goal.returns-then-address_over
returns-then-address_over c = fits-no-0 _ _ _ _ _ _ _ c.if-id-gt-MOST_ID.false (sym c.address_over.ensures ∙ c.if-address_over.true)

pub returns-then-address_over-2 : goal.returns-then-address_over-2
returns-then-address_over-2 c = fits-no-1 _ _ _ _ _ _ _ c.if-id-gt-MOST_ID.false (sym c.address_over.ensures ∙ c.if-address_over.false) (sym c.address_over-2.ensures ∙ c.if-address_over-2.true)

pub returns-then-address_over-3 : goal.returns-then-address_over-3
returns-then-address_over-3 c = fits-no-2 _ _ _ _ _ _ _ c.if-id-gt-MOST_ID.false (sym c.address_over.ensures ∙ c.if-address_over.false) (sym c.address_over-2.ensures ∙ c.if-address_over-2.false) (sym c.address_over-3.ensures ∙ c.if-address_over-3.true)

pub returns-then-address_over-4 : goal.returns-then-address_over-4
returns-then-address_over-4 c = fits-no-3 _ _ _ _ _ _ _ c.if-id-gt-MOST_ID.false (sym c.address_over.ensures ∙ c.if-address_over.false) (sym c.address_over-2.ensures ∙ c.if-address_over-2.false) (sym c.address_over-3.ensures ∙ c.if-address_over-3.false) (sym c.address_over-4.ensures ∙ c.if-address_over-4.true)

pub returns : goal.returns
returns c = fits-by-connection _ _ _ _ _ _ _ c.if-id-gt-MOST_ID.false (sym c.address_over.ensures ∙ c.if-address_over.false) (sym c.address_over-2.ensures ∙ c.if-address_over-2.false) (sym c.address_over-3.ensures ∙ c.if-address_over-3.false) (sym c.address_over-4.ensures ∙ c.if-address_over-4.false)

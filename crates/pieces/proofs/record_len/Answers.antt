-- `record_len`: the record as a field, or nothing.
use mathlib.Core.Path.{sym, ap, ◌∙◌}
use lib.ListN.{length}
use native.Mathlib.Omega.{arith}
use Rattle.pieces.proofs.Pieces.{record-short, record-size, record-none}
use borrow.Author.Rules.{rules}
use Rattle.pieces.proofs.record_len.Goals as goal

pub record_body_len-requires : goal.record_body_len-requires
record_body_len-requires c = sym c.record_fits.ensures ∙ c.if-record_fits.true

pub field_len-requires : goal.field_len-requires
field_len-requires c = omega (arith, c.record_body_len.ensures, record-short _ _ (sym c.record_fits.ensures ∙ c.if-record_fits.true))

pub returns-then-record_fits : goal.returns-then-record_fits
returns-then-record_fits c = record-size _ _ (sym c.record_fits.ensures ∙ c.if-record_fits.true) _ _ c.record_body_len.ensures c.field_len.ensures

pub returns : goal.returns
returns c = ap length (sym (record-none _ _ (sym c.record_fits.ensures ∙ c.if-record_fits.false)))

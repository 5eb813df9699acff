-- `with_bytes` goes by the field's number.
use mathlib.Core.Path.{◌∙◌}
use borrow.Author.Tests.{eq-eqb, ne_eqb}
use Rattle.message.specs.Inner.{with_bytes}
use borrow.Author.Rules.{rules}
use Rattle.message.proofs.with_bytes.Goals as goal

pub returns-then-number-eq-KEY : goal.returns-then-number-eq-KEY
returns-then-number-eq-KEY c = unfold with_bytes in rw (eq-eqb _ _ c.if-number-eq-KEY.true)

pub returns-then-number-eq-RECORD : goal.returns-then-number-eq-RECORD
returns-then-number-eq-RECORD c = c.with_record.ensures ∙ (unfold with_bytes in rw (ne_eqb _ _ c.if-number-eq-KEY.false, eq-eqb _ _ c.if-number-eq-RECORD.true))

pub returns-then-number-eq-CLOSER : goal.returns-then-number-eq-CLOSER
returns-then-number-eq-CLOSER c = c.with_peer.ensures ∙ (unfold with_bytes in rw (ne_eqb _ _ c.if-number-eq-KEY.false, ne_eqb _ _ c.if-number-eq-RECORD.false, eq-eqb _ _ c.if-number-eq-CLOSER.true))

pub returns-then-number-eq-PROVIDER : goal.returns-then-number-eq-PROVIDER
returns-then-number-eq-PROVIDER c = c.with_peer-then-number-eq-PROVIDER.ensures ∙ (unfold with_bytes in rw (ne_eqb _ _ c.if-number-eq-KEY.false, ne_eqb _ _ c.if-number-eq-RECORD.false, ne_eqb _ _ c.if-number-eq-CLOSER.false, eq-eqb _ _ c.if-number-eq-PROVIDER.true))

pub returns : goal.returns
returns c = unfold with_bytes in rw (ne_eqb _ _ c.if-number-eq-KEY.false, ne_eqb _ _ c.if-number-eq-RECORD.false, ne_eqb _ _ c.if-number-eq-CLOSER.false, ne_eqb _ _ c.if-number-eq-PROVIDER.false)

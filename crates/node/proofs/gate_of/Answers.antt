-- `node::gate_of` meets its contract. Assumes nothing.
use mathlib.Core.Path.{sym, ◌∙◌}
use borrow.Author.Tests.{not-true, not-false}
use Rattle.replies.specs.Lent.{lent}
use Rattle.node.specs.Node.{linked}
use Rattle.node.proofs.Gates.{gate-contacts, gate-records, gate-conn, gate-buffer, gate-reply, gate-shut, gate-own, gate-open}
use borrow.Author.Rules.{rules}
use Rattle.node.proofs.gate_of.Goals as goal

pub returns-then-not-in_form : goal.returns-then-not-in_form
returns-then-not-in_form c = let a = c.args in gate-contacts a.me (linked a.conn a.buffer.now) (lent a.contacts.now a.records.now a.reply.now) (sym c.in_form.ensures ∙ c.if-not-in_form.true)

pub returns-then-not-in_form-2 : goal.returns-then-not-in_form-2
returns-then-not-in_form-2 c = let a = c.args in gate-records a.me (linked a.conn a.buffer.now) (lent a.contacts.now a.records.now a.reply.now) (sym c.in_form.ensures ∙ c.if-not-in_form.false) (sym c.in_form-2.ensures ∙ c.if-not-in_form-2.true)

pub returns-then-not-conn_form : goal.returns-then-not-conn_form
returns-then-not-conn_form c = let a = c.args in gate-conn a.me (linked a.conn a.buffer.now) (lent a.contacts.now a.records.now a.reply.now) (sym c.in_form.ensures ∙ c.if-not-in_form.false) (sym c.in_form-2.ensures ∙ c.if-not-in_form-2.false) (sym c.conn_form.ensures ∙ c.if-not-conn_form.true)

pub returns-then-buffer-lt-MOST_BODY : goal.returns-then-buffer-lt-MOST_BODY
returns-then-buffer-lt-MOST_BODY c = let a = c.args in gate-buffer a.me (linked a.conn a.buffer.now) (lent a.contacts.now a.records.now a.reply.now) (sym c.in_form.ensures ∙ c.if-not-in_form.false) (sym c.in_form-2.ensures ∙ c.if-not-in_form-2.false) (sym c.conn_form.ensures ∙ c.if-not-conn_form.false) c.if-buffer-lt-MOST_BODY.true

pub returns-then-reply-lt-LEAST_REPLY : goal.returns-then-reply-lt-LEAST_REPLY
returns-then-reply-lt-LEAST_REPLY c = let a = c.args in gate-reply a.me (linked a.conn a.buffer.now) (lent a.contacts.now a.records.now a.reply.now) (sym c.in_form.ensures ∙ c.if-not-in_form.false) (sym c.in_form-2.ensures ∙ c.if-not-in_form-2.false) (sym c.conn_form.ensures ∙ c.if-not-conn_form.false) c.if-buffer-lt-MOST_BODY.false c.if-reply-lt-LEAST_REPLY.true

pub returns-then-is_shut : goal.returns-then-is_shut
returns-then-is_shut c = let a = c.args in gate-shut a.me (linked a.conn a.buffer.now) (lent a.contacts.now a.records.now a.reply.now) (sym c.in_form.ensures ∙ c.if-not-in_form.false) (sym c.in_form-2.ensures ∙ c.if-not-in_form-2.false) (sym c.conn_form.ensures ∙ c.if-not-conn_form.false) c.if-buffer-lt-MOST_BODY.false c.if-reply-lt-LEAST_REPLY.false (sym c.is_shut.ensures ∙ c.if-is_shut.true)

pub returns-then-not-own_fits : goal.returns-then-not-own_fits
returns-then-not-own_fits c = let a = c.args in gate-own a.me (linked a.conn a.buffer.now) (lent a.contacts.now a.records.now a.reply.now) (sym c.in_form.ensures ∙ c.if-not-in_form.false) (sym c.in_form-2.ensures ∙ c.if-not-in_form-2.false) (sym c.conn_form.ensures ∙ c.if-not-conn_form.false) c.if-buffer-lt-MOST_BODY.false c.if-reply-lt-LEAST_REPLY.false (sym c.is_shut.ensures ∙ c.if-is_shut.false) (sym c.own_fits.ensures ∙ c.if-not-own_fits.true)

pub returns : goal.returns
returns c = let a = c.args in gate-open a.me (linked a.conn a.buffer.now) (lent a.contacts.now a.records.now a.reply.now) (sym c.in_form.ensures ∙ c.if-not-in_form.false) (sym c.in_form-2.ensures ∙ c.if-not-in_form-2.false) (sym c.conn_form.ensures ∙ c.if-not-conn_form.false) c.if-buffer-lt-MOST_BODY.false c.if-reply-lt-LEAST_REPLY.false (sym c.is_shut.ensures ∙ c.if-is_shut.false) (sym c.own_fits.ensures ∙ c.if-not-own_fits.false)

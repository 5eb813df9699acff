-- `serve`: by the type.
use mathlib.Core.Path.{sym, ◌∙◌}
use Rattle.answer.proofs.Serving.{key-inside, key-is, kind-is, serve-put, serve-get, serve-find, serve-ping, serve-other}
use borrow.Author.Rules.{rules}
use Rattle.answer.proofs.serve.Goals as goal

pub serve_put-requires : goal.serve_put-requires
serve_put-requires c = c.requires

pub returns-then-kind-eq-PUT_VALUE : goal.returns-then-kind-eq-PUT_VALUE
returns-then-kind-eq-PUT_VALUE c = serve-put _ _ _ _ (sym (kind-is _ _ c.requires) ∙ c.if-kind-eq-PUT_VALUE.true) _ _ _ (c.serve_put.ensures _)

pub cut-key-requires : goal.cut-key-requires
cut-key-requires c = key-inside _ _ c.requires

pub returns-then-kind-eq-GET_VALUE : goal.returns-then-kind-eq-GET_VALUE
returns-then-kind-eq-GET_VALUE c = serve-get _ _ _ _ (sym (kind-is _ _ c.requires) ∙ c.if-kind-eq-GET_VALUE.true) _ (key-is _ _ c.requires _ c.cut-key.ensures) _ _ c.answer_get.ensures

pub returns-then-kind-eq-FIND_NODE : goal.returns-then-kind-eq-FIND_NODE
returns-then-kind-eq-FIND_NODE c = serve-find _ _ _ _ (sym (kind-is _ _ c.requires) ∙ c.if-kind-eq-FIND_NODE.true) _ (key-is _ _ c.requires _ c.cut-key.ensures) _ _ c.answer_find.ensures

pub returns-then-kind-eq-PING : goal.returns-then-kind-eq-PING
returns-then-kind-eq-PING c = serve-ping _ _ _ _ (sym (kind-is _ _ c.requires) ∙ c.if-kind-eq-PING.true) _ _ c.echo_ping.ensures

pub returns : goal.returns
returns c = serve-other _ _ _ _ (λ q. c.if-kind-eq-PUT_VALUE.false (kind-is _ _ c.requires ∙ q)) (λ q. c.if-kind-eq-GET_VALUE.false (kind-is _ _ c.requires ∙ q)) (λ q. c.if-kind-eq-FIND_NODE.false (kind-is _ _ c.requires ∙ q)) (λ q. c.if-kind-eq-PING.false (kind-is _ _ c.requires ∙ q))

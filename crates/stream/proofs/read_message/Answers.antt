-- `read_message` goes by what the prefix leads to. Assumes nothing.
use mathlib.Core.Path.{refl, ap, ◌∙◌}
use Rattle.std.specs.Prelude.{Ok}
use Rattle.stream.proofs.Runs.{gives-lead, taken-within}
use borrow.Author.Rules.{rules}
use Rattle.stream.proofs.read_message.Goals as goal

pub start_body-requires : goal.start_body-requires
start_body-requires c = taken-within _ _ _ c.read_prefix-p.ensures

pub returns-in-Ok-On : goal.returns-in-Ok-On
returns-in-Ok-On c = gives-lead _ _ _ _ _ _ _ c.read_prefix-p.ensures (c.in-Ok-On.is ∙ ap Ok (rw c.in-Ok-On.is at c.in-Ok-On.field-0-is)) (record { got = refl; buffer = refl })

pub returns-in-Ok-Length : goal.returns-in-Ok-Length
returns-in-Ok-Length c = gives-lead _ _ _ _ _ _ _ c.read_prefix-p.ensures (c.in-Ok-Length.is ∙ ap Ok (rw c.in-Ok-Length.is at c.in-Ok-Length.field-0-is)) c.start_body.ensures

pub returns-in-Err : goal.returns-in-Err
returns-in-Err c = gives-lead _ _ _ _ _ _ _ c.read_prefix-p.ensures c.in-Err.is (record { got = refl; buffer = refl })

-- `end_prefix` goes by the bytes held. Assumes nothing.
use mathlib.Core.Path.{sym, ap, ◌∙◌}
use Rattle.stream.specs.declared.Held.{Held}
use Rattle.stream.specs.declared.Framing.TheVariants.{Prefix}
use Rattle.stream.specs.Stream.{end_in}
use borrow.Author.Rules.{rules}
use Rattle.stream.proofs.end_prefix.Goals as goal

pub returns-in-Nothing : goal.returns-in-Nothing
returns-in-Nothing c = c.over.ensures ∙ sym (ap (λ (h : Held). end_in (Prefix h)) c.in-Nothing.is)

pub returns-in-One : goal.returns-in-One
returns-in-One c = c.over-in-One.ensures ∙ sym (ap (λ (h : Held). end_in (Prefix h)) c.in-One.is)

pub returns-in-Two : goal.returns-in-Two
returns-in-Two c = c.over-in-Two.ensures ∙ sym (ap (λ (h : Held). end_in (Prefix h)) c.in-Two.is)

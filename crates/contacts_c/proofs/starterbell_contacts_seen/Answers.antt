-- `starterbell_contacts_seen` hands over what `seen` answers.
use Prim.Native.Nat.{ℕ}
use mathlib.Core.Path.{ap, ◌∙◌}
use mathlib.Core.List.{[], ◌∷◌}
use Rattle.contact_calls.specs.Calls.{seen_number}
use Rattle.contacts_c.specs.Codes.{named_by}
use borrow.Author.Rules.{rules}
use Rattle.contacts_c.proofs.starterbell_contacts_seen.Goals as goal

pub returns : goal.returns
returns c = (c.answer_of-told.ensures.0 ∙ ap seen_number c.seen.ensures.0, c.seen.ensures.1, ap (λ (i : ℕ). i ∷ []) (c.answer_of-told.ensures.1 ∙ ap named_by c.seen.ensures.0))

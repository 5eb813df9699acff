-- `list_len` adds up the sizes.
use Rattle.recipe_fields.proofs.Steps.{Counted}
use Rattle.recipe_fields.proofs.list_len.Given as goal

abbrev pub invariant-loop-i : goal.invariant-loop-i
invariant-loop-i l = Counted l.turns l.trims l.n l.i

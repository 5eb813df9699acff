-- `alone` goes on while the entries before have another place.
use native.Mathlib.Omega.{arith}
use borrow.Author.Rules.{rules}
use Prim.Native.Nat.{ℕ, ◌+◌, ◌-◌, ◌≤◌}
use mathlib.Core.Path.{◌≡◌, sym, ◌∙◌, subst}
use mathlib.Core.Bool.{true}
use borrow.Author.Tests.{not-true, not-false}
use Rattle.octets.specs.Search.{all}
use Rattle.octets.proofs.Searching.{all-zero, all_more, all-fails}
use Rattle.contact_form.specs.Inner.{other_before}
use Rattle.contact_form.proofs.alone.Given as goal

abbrev pub invariant-loop-d : goal.invariant-loop-d
invariant-loop-d l = (l.d ≤ l.m) × (all l.d (other_before l.table l.mine l.at l.k) ≡ true)

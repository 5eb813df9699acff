-- What the inner function of the crate ensures. No reader of the public contracts needs this.
use Rattle.std.specs.Prelude.{ℕ, cond, List}
use Rattle.refusal.specs.declared.Refusal.{Refusal}
use Rattle.refusal.specs.declared.Refusal.TheVariants.{OutOfForm, BadPeer}
use Rattle.contacts.specs.Form.{in_form}

-- what a call on the contacts gives a box that no start gives
abbrev pub refusal_of_box : List ℕ → List ℕ → Refusal
refusal_of_box t ours = cond (in_form t ours) BadPeer OutOfForm

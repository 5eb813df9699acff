-- The form of a box and a connection, as the code finds it out. Assumes nothing.
use mathlib.Core.Path.{◌≡◌, refl, sym, ap, ◌∙◌}
use mathlib.Core.Bool.{Bool, true, false, not}
use mathlib.Core.List.{List, [], ◌∷◌}
use native.Mathlib.Omega.{arith}
use lib.Dec.{leb}
use borrow.Author.Tests.{le-leb, lt-leb}
use Rattle.octets.specs.Octets.{same}
use Rattle.octets.specs.Search.{all_of}
use Rattle.octets.proofs.Bools.{and-on, and-off, or_l, or_off, all-off, all-on}
use Rattle.peer.specs.declared.Peer.{Peer}
use Rattle.stream.specs.Stream.{is_shut, in_form}
use Rattle.connections.specs.declared.Conn.{Conn}
use Rattle.connections.specs.Box.{own_fits, conn_form}

-- ---- the last of a list of tests
all-last : (b : Bool) → all_of (b ∷ []) ≡ b
unfolding all_of
all-last true = refl
all-last false = refl

-- ---- an id of 1 to 64 bytes
pub own-none : (me : Peer) → me.size ≡ 0 → false ≡ own_fits me
unfolding own_fits
own-none me e = sym (and-off (leb 1 me.size) _ (lt-leb 1 me.size (omega arith)))

pub own-some : (me : Peer) → (me.size ≡ 0 → ⊥) → leb me.size 64 ≡ own_fits me
unfolding own_fits
own-some me e = sym (and-on (leb 1 me.size) _ (le-leb 1 me.size (omega arith)))

-- ---- a connection
module _ (me : Peer) (c : Conn) where
  abbrev away : Bool
  away = not (same c.peer.place me.place)

  abbrev parts : List Bool
  parts = own_fits c.peer ∷ away ∷ in_form c.framing ∷ []

  pub conn-shut : is_shut c.framing ≡ true → true ≡ conn_form me c
  unfolding conn_form
  conn-shut h = sym (or_l (is_shut c.framing) (all_of parts) h)

  conn-open : is_shut c.framing ≡ false → conn_form me c ≡ all_of parts
  unfolding conn_form
  conn-open h = or_off (is_shut c.framing) (all_of parts) h

  pub conn-peer : is_shut c.framing ≡ false → own_fits c.peer ≡ false → false ≡ conn_form me c
  conn-peer h g = sym (conn-open h ∙ all-off (own_fits c.peer) _ g)

  conn-fair : is_shut c.framing ≡ false → own_fits c.peer ≡ true → conn_form me c ≡ all_of (away ∷ in_form c.framing ∷ [])
  conn-fair h g = conn-open h ∙ all-on (own_fits c.peer) _ g

  pub conn-ours : is_shut c.framing ≡ false → own_fits c.peer ≡ true → same c.peer.place me.place ≡ true → false ≡ conn_form me c
  conn-ours h g e = sym (conn-fair h g ∙ all-off away _ (ap not e))

  pub conn-rest : (r : Bool) → is_shut c.framing ≡ false → own_fits c.peer ≡ true → same c.peer.place me.place ≡ false → r ≡ in_form c.framing → r ≡ conn_form me c
  conn-rest r h g e q = q ∙ sym (conn-fair h g ∙ all-on away _ (ap not e) ∙ all-last (in_form c.framing))

-- What the fields of a string say, and how fields are written: RULES, Messages.
use Rattle.std.specs.Prelude.{ℕ, zero, suc, ◌+◌, ◌*◌, ◌/◌, ◌%◌, ◌≡◌, List, [], ◌∷◌, ◌++◌, map, Bool, true, false, cond, length, ltb, leb, eqb}
use Rattle.std.proofs.lemmas.List.Edits.{sets}
use Rattle.octets.specs.Octets.{part}
use Rattle.wire.specs.Wire.{fields}
use Rattle.wire.specs.declared.Span.{Span}
use Rattle.wire.specs.declared.Field.{Field}
use Rattle.wire.specs.declared.Field.TheVariants.{End, Bad as Malformed, Number, Bytes, Other}

-- a field's number and value: a number, bytes, one that is passed over, or no field at all
pub data Item : Type 0 where
  num : ℕ → ℕ → Item
  bytes : ℕ → List ℕ → Item
  skipped : Item
  bad : Item

-- ---- reading

-- the bytes at a span
abbrev pub cut : List ℕ → Span → List ℕ
cut s p = part s p.at p.end

unfoldable pub item : List ℕ → Field → Item
item s (Number f v n) = num f v
item s (Bytes f p) = bytes f (cut s p)
item s (Other n) = skipped
item s End = skipped
item s Malformed = bad

-- the fields of a string
unfoldable pub items : List ℕ → List Item
items s = map (item s) (fields s)

abbrev pub is_field : Item → Bool
is_field (num f v) = true
is_field (bytes f b) = true
is_field skipped = true
is_field bad = false

abbrev pub cons_num : ℕ → Item → List ℕ → List ℕ
cons_num f (num g v) r = cond (eqb g f) (v ∷ r) r
cons_num f (bytes g b) r = r
cons_num f skipped r = r
cons_num f bad r = r

-- the values of the number fields f, in order
unfoldable pub values : ℕ → List Item → List ℕ
values f [] = []
values f (i ∷ is) = cons_num f i (values f is)

abbrev pub cons_bytes : ℕ → Item → List (List ℕ) → List (List ℕ)
cons_bytes f (num g v) r = r
cons_bytes f (bytes g b) r = cond (eqb g f) (b ∷ r) r
cons_bytes f skipped r = r
cons_bytes f bad r = r

-- the contents of the bytes fields f, in order
unfoldable pub parts : ℕ → List Item → List (List ℕ)
parts f [] = []
parts f (i ∷ is) = cons_bytes f i (parts f is)

-- ---- writing

-- the low seven bits first; the top bit of a byte says that more follow. k bytes at most
unfoldable pub digits : ℕ → ℕ → List ℕ
digits zero v = []
digits (suc k) v = cond (ltb v 128) (v ∷ []) ((v % 128 + 128) ∷ digits k (v / 128))

-- the minimal varint of a number below 2^64
unfoldable pub minimal : ℕ → List ℕ
minimal v = digits 10 v

-- a tag and a number; a tag is the field number times 8 and the wire type
unfoldable pub tagged : ℕ → ℕ → List ℕ
tagged tag v = minimal tag ++ minimal v

-- one field
unfoldable pub written1 : Item → List ℕ
written1 (num f v) = tagged (f * 8 + 0) v
written1 (bytes f b) = tagged (f * 8 + 2) (length b) ++ b
written1 skipped = []
written1 bad = []

-- fields, one after another
unfoldable pub written : List Item → List ℕ
written [] = []
written (i ∷ is) = written1 i ++ written is

-- "an empty single bytes field isn't written"
unfoldable pub single : ℕ → List ℕ → List Item
single f [] = []
single f (b ∷ bs) = bytes f (b ∷ bs) ∷ []

-- a repeated bytes field: each is written, even if empty
unfoldable pub repeated : ℕ → List (List ℕ) → List Item
repeated f [] = []
repeated f (b ∷ bs) = bytes f b ∷ repeated f bs

-- ---- into a buffer

-- the place after n bytes from `at` on in a buffer of size bytes; where they don't all fit, the buffer's end, or `at` if that lies past it
unfoldable pub past : ℕ → ℕ → ℕ → ℕ
past size at n = cond (leb (at + n) size) (at + n) (cond (leb at size) size at)

-- the bytes stand in a buffer from a place on, those past its end left out, and r is the place after them
pub record Put (buf : List ℕ) (at : ℕ) (b buf' : List ℕ) (r : ℕ) : Type 0 where
  pub end : r ≡ past (length buf) at (length b)
  pub same : buf' ≡ sets buf at b

-- The wire format of Protocol Buffers, read: RULES, Messages.
use Rattle.std.specs.Prelude.{ℕ, zero, suc, ◌+◌, ◌-◌, ◌*◌, ◌/◌, ◌%◌, ◌^◌, List, [], ◌∷◌, Bool, true, false, cond, length, take, drop, ltb, leb, eqb}
use Rattle.octets.specs.Search.{every}
use Rattle.wire.specs.declared.Span.{Span}
use Rattle.wire.specs.declared.Field.{Field}
use Rattle.wire.specs.declared.Field.TheVariants.{End, Bad as Malformed, Number, Bytes, Other}
use Rattle.wire.specs.declared.Next.{Next}
use Rattle.wire.specs.declared.Next.TheVariants.{Done, Broken, On}
use Rattle.std.specs.Prelude.{Some, None, Option}

-- ---- varints: "a varint over 10 bytes or 64 bits" is refused; "inner varints needn't be minimal"

-- a byte with its top bit set, before a varint: its low seven bits are the lowest of the value
unfoldable pub before : ℕ → Option (ℕ × ℕ) → Option (ℕ × ℕ)
before b (Some (v, n)) = Some ((b - 128 + 128 * v), (suc n))
before b None = None

-- the varint that begins a list, of at most k bytes: its value, and how many bytes it has
unfoldable pub varint : ℕ → List ℕ → Option (ℕ × ℕ)
varint zero s = None
varint (suc k) [] = None
varint (suc k) (b ∷ s) = cond (ltb b 128) (Some (b, 1)) (before b (varint k s))

-- the value where it fits 64 bits, and the position after it
unfoldable pub placed : ℕ → Option (ℕ × ℕ) → Option (ℕ × ℕ)
placed at (Some (v, n)) = cond (ltb v (2 ^ 64)) (Some (v, (at + n))) None
placed at None = None

unfoldable pub varint_at : List ℕ → ℕ → Option (ℕ × ℕ)
varint_at s at = placed at (varint 10 (drop at s))

abbrev pub on_varint : {A : Type 0} → Option (ℕ × ℕ) → (ℕ → ℕ → A) → A → A
on_varint (Some (v, n)) f z = f v n
on_varint None f z = z

-- ---- fields

-- a part of size bytes: where it ends, or that it runs past its enclosing end
unfoldable pub end_at : List ℕ → ℕ → ℕ → Option ℕ
end_at s at size = cond (leb (at + size) (length s)) (Some (at + size)) None

abbrev pub on_ending : {A : Type 0} → Option ℕ → (ℕ → A) → A → A
on_ending (Some e) f z = f e
on_ending None f z = z

-- wire type 0: a varint
unfoldable pub number_at : List ℕ → ℕ → ℕ → Field
number_at s at f = on_varint (varint_at s at) (λ v n. Number f v n) Malformed

-- wire types 1 and 5: a fixed number of bytes, which are passed over
unfoldable pub fixed_at : List ℕ → ℕ → ℕ → Field
fixed_at s at size = on_ending (end_at s at size) (λ e. Other e) Malformed

-- wire type 2: a length, and as many bytes
unfoldable pub bytes_at : List ℕ → ℕ → ℕ → Field
bytes_at s at f = on_varint (varint_at s at) (λ v n. on_ending (end_at s n v) (λ e. Bytes f (record { at = n; end = e })) Malformed) Malformed

-- what follows a tag: field number 0 is refused, then each wire type has its own rule ("0, 1, 2 and 5 are read; 3, 4, 6 and 7 give 5")
unfoldable pub content_at : List ℕ → ℕ → ℕ → ℕ → Field
content_at s at f w =
    cond (eqb f 0) Malformed
    (cond (eqb w 0) (number_at s at f)
    (cond (eqb w 1) (fixed_at s at 8)
    (cond (eqb w 2) (bytes_at s at f)
    (cond (eqb w 5) (fixed_at s at 4) Malformed))))

-- a tag t whose varint ends at n: "a tag of over 5 bytes or above 2^32 - 1" is refused; it is the field number times 8 and the wire type
unfoldable pub tagged_at : List ℕ → ℕ → ℕ → ℕ → Field
tagged_at s at t n = cond (ltb (at + 5) n) Malformed (cond (leb (2 ^ 32) t) Malformed (content_at s n (t / 8) (t % 8)))

-- the field at a position
unfoldable pub field_at : List ℕ → ℕ → Field
field_at s at = cond (leb (length s) at) End (on_varint (varint_at s at) (tagged_at s at) Malformed)

-- where the next field starts
unfoldable pub next_of : Field → Next
next_of End = Done
next_of Malformed = Broken
next_of (Number f v n) = On n
next_of (Bytes f p) = On p.end
next_of (Other n) = On n

unfoldable pub more : Next → Field → (ℕ → List Field) → List Field
more Done f rest = []
more Broken f rest = Malformed ∷ []
more (On n) f rest = f ∷ rest n

-- the fields from a position on, of which there are fewer than k; a malformed one is the last
unfoldable pub fields_from : ℕ → List ℕ → ℕ → List Field
fields_from zero s at = Malformed ∷ []
fields_from (suc k) s at = more (next_of (field_at s at)) (field_at s at) (λ n. fields_from k s n)

-- the fields from a position on: each takes at least a byte, so there are no more than the string has
unfoldable pub fields_at : List ℕ → ℕ → List Field
fields_at s at = fields_from (suc (length s)) s at

-- the fields of a string
unfoldable pub fields : List ℕ → List Field
fields s = fields_at s 0

-- the fields of the part of s at a span, with their positions in s
unfoldable pub fields_in : List ℕ → Span → List Field
fields_in s p = fields_at (take p.end s) p.at

-- ---- the fields of one number

abbrev pub fine : Field → Bool
fine End = true
fine Malformed = false
fine (Number f v n) = true
fine (Bytes f p) = true
fine (Other n) = true

-- every field is well formed
unfoldable pub well : List Field → Bool
well fs = every fine fs

-- an absent field: at position 0 with length 0
abbrev pub nowhere : Span
nowhere = record { at = 0; end = 0 }

abbrev pub cons_number : ℕ → Field → List ℕ → List ℕ
cons_number f (Number g v n) r = cond (eqb g f) (v ∷ r) r
cons_number f (Bytes g p) r = r
cons_number f (Other n) r = r
cons_number f End r = r
cons_number f Malformed r = r

-- the values of the number fields f, in order; known fields with another wire type are skipped
unfoldable pub numbers : ℕ → List Field → List ℕ
numbers f [] = []
numbers f (g ∷ fs) = cons_number f g (numbers f fs)

unfoldable pub span_if : ℕ → Field → Option Span
span_if f (Bytes g p) = cond (eqb g f) (Some p) None
span_if f (Number g v n) = None
span_if f (Other n) = None
span_if f End = None
span_if f Malformed = None

abbrev pub cons_found : Option Span → List Span → List Span
cons_found (Some p) r = p ∷ r
cons_found None r = r

-- where the bytes fields f are, in order
unfoldable pub spans : ℕ → List Field → List Span
spans f [] = []
spans f (g ∷ fs) = cons_found (span_if f g) (spans f fs)

unfoldable pub first_of : List Span → Option Span
first_of [] = None
first_of (p ∷ l) = Some p

-- a walk: what a cursor finds from a position, then from the end of what it found, and so on, k times at most
abbrev pub on_found : {A : Type 0} → Option Span → (Span → A) → A → A
on_found (Some p) f z = f p
on_found None f z = z

unfoldable pub walk : ℕ → (ℕ → Option Span) → ℕ → List Span
walk zero next at = []
walk (suc k) next at = on_found (next at) (λ p. p ∷ walk k next p.end) []

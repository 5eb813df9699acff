-- What only the proofs need: a message half read.
use Rattle.std.specs.Prelude.{ℕ, List, [], ◌∷◌, Bool, true, cond, eqb}
use Rattle.octets.specs.Search.{every, all_of, last_of}
use Rattle.wire.specs.Wire.{fields_in, well, numbers, spans}
use Rattle.wire.specs.declared.Span.{Span}
use Rattle.wire.specs.declared.Field.{Field}
use Rattle.wire.specs.declared.Field.TheVariants.{End, Bad, Number, Bytes, Other}
use Rattle.message.specs.Message.{well_message}
use Rattle.message.specs.View.{fields_of}
use Rattle.message.specs.declared.Held.{Held}
use Rattle.message.specs.declared.Fields.{Fields}
use Rattle.std.specs.Prelude.{Some, None, Option}

unfoldable pub well_in : List ℕ → Span → Bool
well_in s p = well (fields_in s p)

-- what a record becomes by one occurrence more: its last key and its last value, where it has one, take the place of those before
unfoldable pub with_occurrence : List ℕ → Held → Span → Held
with_occurrence s h p = record { there = true; key = last_of h.key (spans 1 (fields_in s p)); value = last_of h.value (spans 2 (fields_in s p)) }

-- and by several
unfoldable pub with_occurrences : List ℕ → Held → List Span → Held
with_occurrences s h [] = h
with_occurrences s h (p ∷ ps) = with_occurrences s (with_occurrence s h p) ps

-- what m becomes by an occurrence of its record, a peer, a bytes field, any field
unfoldable pub with_record : List ℕ → Fields → Span → Option Fields
with_record s m p = cond (well_in s p) (Some (record { kind = m.kind; key = m.key; held = with_occurrence s m.held p })) None

unfoldable pub with_peer : List ℕ → Fields → Span → Option Fields
with_peer s m p = cond (well_in s p) (Some m) None

unfoldable pub with_bytes : List ℕ → Fields → ℕ → Span → Option Fields
with_bytes s m f p =
    cond (eqb f 2) (Some (record { kind = m.kind; key = p; held = m.held }))
    (cond (eqb f 3) (with_record s m p)
    (cond (eqb f 8) (with_peer s m p)
    (cond (eqb f 9) (with_peer s m p)
    (Some m))))

unfoldable pub with_field : List ℕ → Fields → Field → Option Fields
with_field s m (Bytes f p) = with_bytes s m f p
with_field s m (Number f v n) = cond (eqb f 1) (Some (record { kind = v; key = m.key; held = m.held })) (Some m)
with_field s m (Other n) = Some m
with_field s m End = Some m
with_field s m Bad = None

-- every record and peer among some fields is well formed
unfoldable pub well_fields : List ℕ → List Field → Bool
well_fields s fs = all_of (well fs ∷ every (well_in s) (spans 3 fs) ∷ every (well_in s) (spans 8 fs) ∷ every (well_in s) (spans 9 fs) ∷ [])

-- what m becomes by all of some fields
unfoldable pub finished : List ℕ → Fields → List Field → Option Fields
finished s m fs =
    cond (well_fields s fs)
    (Some (record {
      kind = last_of m.kind (numbers 1 fs);
      key = last_of m.key (spans 2 fs);
      held = with_occurrences s m.held (spans 3 fs);
    }))
    None

abbrev pub onto : Option Fields → (Fields → Option Fields) → Option Fields
onto (Some m) f = f m
onto None f = None

-- the fields of a body, gathered
unfoldable pub gathered : List ℕ → Option Fields
gathered s = cond (well_message s) (Some (fields_of s)) None

-- A view's positions are the reader's and lie inside the body; and its parts, step by step. Assumes nothing.
use Prim.Native.Nat.{ℕ, ◌≤◌}
use mathlib.Core.Path.{◌≡◌, refl, sym, ap, ap₂, ◌∙◌}
use mathlib.Core.Bool.{Bool, true, false}
use mathlib.Core.List.{List, []}
use lib.ListN.{length, take}
use Rattle.octets.proofs.Bools.{not-both, cond_yes, cond_no}
use Rattle.refusal.specs.declared.Refusal.{Refusal}
use Rattle.wire.specs.Wire.{fields_at, spans, first_of}
use Rattle.wire.specs.Items.{cut}
use Rattle.wire.specs.declared.Span.{Span}
use Rattle.message.specs.View.{reading_of, id_at, connection_at}
use Rattle.message.specs.declared.Fields.{Fields}
use Rattle.message.proofs.Meaning.{FieldsIn}
use Rattle.message.proofs.Views.{read_whole}
use Rattle.parts.specs.Parts.{is_reading, is_view, number_if, part_if, entry_if, found_if, bytes_if, kind_of, key_of, record_key_of, record_value_of, closer_of, provider_of, peer_id_of, peer_connection_of, peer_address_of, key_bytes, record_key_bytes, record_value_bytes}
use Rattle.parts.proofs.Same.{fields-eq, fields-self}
use Rattle.std.specs.Prelude.{Ok, Err, Result, Option}

module _ (s : List ℕ) where
  -- a view is what the reader gives
  pub view-read : (v : Fields) → is_view s v ≡ true → reading_of s ≡ Ok v
  unfolding is_view
  view-read v h = go (reading_of s) h
    where
      go : (r : Result Fields Refusal) → is_reading r v ≡ true → r ≡ Ok v
      go (Ok m) e = ap Ok (fields-eq m v e)
      go (Err r) e = absurd (not-both false e refl)

  pub read_view : (v : Fields) → reading_of s ≡ Ok v → is_view s v ≡ true
  unfolding is_view
  read_view v e = ap (λ (r : Result Fields Refusal). is_reading r v) e ∙ fields-self v

  -- a body that the reader refuses has no view
  pub refused-view : (r : Refusal) (v : Fields) → reading_of s ≡ Err r → is_view s v ≡ false
  unfolding is_view
  refused-view r v e = ap (λ (x : Result Fields Refusal). is_reading x v) e

  -- the parts of a view lie inside the body
  module _ (v : Fields) (b : Bool) (e : b ≡ is_view s v) (h : b ≡ true) where
    inside : FieldsIn (length s) v
    inside = (read_whole s v (view-read v (sym e ∙ h))).lies

    pub key-inside : (v.key.at ≤ v.key.end) × (v.key.end ≤ length s)
    key-inside = (inside.key.ordered, inside.key.ends)

    pub record-key-inside : (v.held.key.at ≤ v.held.key.end) × (v.held.key.end ≤ length s)
    record-key-inside = (inside.record-key.ordered, inside.record-key.ends)

    pub record-value-inside : (v.held.value.at ≤ v.held.value.end) × (v.held.value.end ≤ length s)
    record-value-inside = (inside.record-value.ordered, inside.record-value.ends)

-- ---- by what was computed: b is whether it is a view
module _ (s : List ℕ) (v : Fields) (b : Bool) (e : b ≡ is_view s v) where
  pub kind-is : (r : Result ℕ Refusal) → r ≡ number_if b v.kind → r ≡ kind_of s v
  unfolding kind_of
  kind-is r q = q ∙ ap (λ (x : Bool). number_if x v.kind) e

  pub key-is : (r : Result Span Refusal) → r ≡ part_if b v.key → r ≡ key_of s v
  unfolding key_of
  key-is r q = q ∙ ap (λ (x : Bool). part_if x v.key) e

  pub record-key-is : (r : Result (Option Span) Refusal) → r ≡ entry_if b v.held.there v.held.key → r ≡ record_key_of s v
  unfolding record_key_of
  record-key-is r q = q ∙ ap (λ (x : Bool). entry_if x v.held.there v.held.key) e

  pub record-value-is : (r : Result (Option Span) Refusal) → r ≡ entry_if b v.held.there v.held.value → r ≡ record_value_of s v
  unfolding record_value_of
  record-value-is r q = q ∙ ap (λ (x : Bool). entry_if x v.held.there v.held.value) e

  pub closer-is : (from : ℕ) (f : Option Span) (r : Result (Option Span) Refusal) → f ≡ first_of (spans 8 (fields_at s from)) → r ≡ found_if b f → r ≡ closer_of s v from
  unfolding closer_of
  closer-is from f r w q = q ∙ ap₂ found_if e w

  pub provider-is : (from : ℕ) (f : Option Span) (r : Result (Option Span) Refusal) → f ≡ first_of (spans 9 (fields_at s from)) → r ≡ found_if b f → r ≡ provider_of s v from
  unfolding provider_of
  provider-is from f r w q = q ∙ ap₂ found_if e w

  pub peer-id-is : (p q : Span) (r : Result Span Refusal) → q ≡ id_at s p → r ≡ part_if b q → r ≡ peer_id_of s v p
  unfolding peer_id_of
  peer-id-is p q r w i = i ∙ ap₂ part_if e w

  pub peer-connection-is : (p : Span) (n : ℕ) (r : Result ℕ Refusal) → n ≡ connection_at s p → r ≡ number_if b n → r ≡ peer_connection_of s v p
  unfolding peer_connection_of
  peer-connection-is p n r w i = i ∙ ap₂ number_if e w

  pub peer-address-is : (p : Span) (from : ℕ) (f : Option Span) (r : Result (Option Span) Refusal) → f ≡ first_of (spans 2 (fields_at (take p.end s) from)) → r ≡ found_if b f → r ≡ peer_address_of s v p from
  unfolding peer_address_of
  peer-address-is p from f r w i = i ∙ ap₂ found_if e w

-- ---- bytes: cut out of a view, and none of another
bytes-yes : (b c : Bool) (s r : List ℕ) (p : Span) → b ≡ c → b ≡ true → r ≡ cut s p → r ≡ bytes_if c s p
bytes-yes b c s r p e h q = q ∙ sym (cond_yes c (cut s p) [] (sym e ∙ h))

bytes-no : (b c : Bool) (s : List ℕ) (p : Span) → b ≡ c → b ≡ false → [] ≡ bytes_if c s p
bytes-no b c s p e h = sym (cond_no c (cut s p) [] (sym e ∙ h))

module _ (s : List ℕ) (v : Fields) (b : Bool) (e : b ≡ is_view s v) where
  pub key-cut : (r : List ℕ) → b ≡ true → r ≡ cut s v.key → r ≡ key_bytes s v
  unfolding key_bytes
  key-cut r h q = bytes-yes b (is_view s v) s r v.key e h q

  pub no_key : b ≡ false → [] ≡ key_bytes s v
  unfolding key_bytes
  no_key h = bytes-no b (is_view s v) s v.key e h

  pub record-key-cut : (r : List ℕ) → b ≡ true → r ≡ cut s v.held.key → r ≡ record_key_bytes s v
  unfolding record_key_bytes
  record-key-cut r h q = bytes-yes b (is_view s v) s r v.held.key e h q

  pub no-record-key : b ≡ false → [] ≡ record_key_bytes s v
  unfolding record_key_bytes
  no-record-key h = bytes-no b (is_view s v) s v.held.key e h

  pub record-value-cut : (r : List ℕ) → b ≡ true → r ≡ cut s v.held.value → r ≡ record_value_bytes s v
  unfolding record_value_bytes
  record-value-cut r h q = bytes-yes b (is_view s v) s r v.held.value e h q

  pub no-record-value : b ≡ false → [] ≡ record_value_bytes s v
  unfolding record_value_bytes
  no-record-value h = bytes-no b (is_view s v) s v.held.value e h

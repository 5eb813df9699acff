-- What a view of a reply shows. Assumes nothing.
use Prim.Native.Nat.{ℕ}
use native.Mathlib.Omega.{arith}
use mathlib.Core.Path.{◌≡◌, refl, sym, ap, ◌∙◌}
use mathlib.Core.Bool.{Bool, true, false}
use Rattle.message.specs.Message.{Record, Message, message_of, encode}
use Rattle.message.specs.View.{fields_of}
use Rattle.message.proofs.Meaning.{all-meant}
use Rattle.message.proofs.Views.{read_whole}
use Rattle.pieces.specs.Writable.{writable}
use Rattle.round_trip.specs.Claims.{ReadWhole}
use Rattle.round_trip.proofs.Written.{written-is-read}
use Rattle.parts.specs.Parts.{is_view, positions_of}
use Rattle.parts.specs.Promises.{Meant}
use Rattle.parts.proofs.Theorems.{the-readers, views-mean}
use Rattle.answer_promises.specs.Promises.{ShowsRecord}
use Rattle.std.specs.Prelude.{Some}
use Rattle.std.proofs.lemmas.Option.{same_Some}

-- a message that can be written, with a record in it
module _ (m : Message) (fits : writable m ≡ true) (r : Record) (h : m.held ≡ Some r) where
  written : ReadWhole m
  written = written-is-read m fits

  view : is_view (encode m) (positions_of (encode m)) ≡ true
  view = let v = the-readers (encode m) (fields_of (encode m)) written.whole in ap (is_view (encode m)) v.0 ∙ v.1

  meant : Meant (encode m) (positions_of (encode m))
  meant = views-mean (encode m) (positions_of (encode m)) view

  said : (message_of (encode m)).held ≡ Some r
  said =
      let well = (read_whole (encode m) (fields_of (encode m)) written.whole).well in
      ap (λ (x : Message). x.held) (sym (all-meant (encode m) well) ∙ written.says) ∙ h

  pub shows-record : ShowsRecord (encode m) r.key r.value
  shows-record = go (positions_of (encode m)).held.there refl
    where
      go : (b : Bool) → (positions_of (encode m)).held.there ≡ b → ShowsRecord (encode m) r.key r.value
      go false e = let s = sym (meant.bare e) ∙ said in let z : ◌≡◌ {A = ℕ} 0 1 = cc in absurd (omega arith)
      go true e = let q = same_Some _ r (sym (meant.held e) ∙ said) in record { view = view; there = e; key = ap (λ (x : Record). x.key) q; value = ap (λ (x : Record). x.value) q }

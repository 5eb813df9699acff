-- The theorems on views (specs/Promises). Assumes nothing.
use Prim.Native.Nat.{ℕ, zero, suc}
use mathlib.Core.Path.{◌≡◌, refl, sym, ap, ◌∙◌, subst}
use mathlib.Core.Bool.{Bool, true, false, cond}
use mathlib.Core.List.{List, [], ◌∷◌}
use lib.ListN.{length, take}
use Rattle.wire.specs.Wire.{fields_at, spans, first_of, on_found, walk}
use Rattle.wire.specs.Items.{cut}
use Rattle.wire.specs.declared.Span.{Span}
use Rattle.message.specs.Message.{Record, message_of}
use Rattle.message.specs.View.{id_at, connection_at, held_meant}
use Rattle.message.specs.declared.Fields.{Fields}
use Rattle.message.proofs.Meaning.{key-meant, kind-meant, held-meant, closer-meant, providers-meant}
use Rattle.message.proofs.Views.{read_whole, closer-walked, providers-walked, addresses-walked}
use Rattle.parts.specs.Parts.{is_view, read_fields, positions_of, number_if, part_if, entry_if, entry_of, found_if, bytes_if, kind_of, key_of, record_key_of, record_value_of, closer_of, provider_of, peer_id_of, peer_connection_of, peer_address_of, key_bytes, record_key_bytes, record_value_bytes, number_refusal, part_refusal, entry_refusal}
use Rattle.parts.specs.Promises.{OnlyTheReaders, TheReaders, NoView, entry_found, PointsAt, MayPointAt, key_in, value_in, Meant, ViewsMean, OthersRefused}
use Rattle.parts.proofs.Own.{view-read, read_view, refused-view}
use Rattle.std.specs.Prelude.{Ok, Some, None, Option}

pub only-the-readers : OnlyTheReaders
only-the-readers = view-read

pub the-readers : TheReaders
unfolding positions_of
the-readers s v e = (ap read_fields e, read_view s v e)

pub no-view : NoView
no-view = refused-view

-- ---- a view's parts
found_back : (f : Option Span) → entry_found (entry_of f) ≡ f
found_back (Some p) = refl
found_back None = refl

found-told : (f : Option Span) → entry_refusal (entry_of f) ≡ []
unfolding entry_refusal
found-told (Some p) = refl
found-told None = refl

walk_same : (k : ℕ) (f g : ℕ → Option Span) → ((n : ℕ) → f n ≡ g n) → (at : ℕ) → walk k f at ≡ walk k g at
unfolding walk
walk_same zero f g h at = refl
walk_same (suc k) f g h at = ap (λ (x : Option Span). on_found x (λ p. p ∷ walk k f p.end) []) (h at) ∙ rest (g at) (walk_same k f g h)
  where
    rest : (x : Option Span) → ((n : ℕ) → walk k f n ≡ walk k g n) → on_found x (λ p. p ∷ walk k f p.end) [] ≡ on_found x (λ p. p ∷ walk k g p.end) []
    rest (Some p) w = ap (λ (l : List Span). p ∷ l) (w p.end)
    rest None w = refl

module _ (s : List ℕ) (v : Fields) (h : is_view s v ≡ true) where
  found-viewed : (f : Option Span) → entry_found (found_if (is_view s v) f) ≡ f
  found-viewed f = ap (λ (b : Bool). entry_found (found_if b f)) h ∙ found_back f

  told-viewed : (f : Option Span) → entry_refusal (found_if (is_view s v) f) ≡ []
  told-viewed f = ap (λ (b : Bool). entry_refusal (found_if b f)) h ∙ found-told f

  held-bare : v.held.there ≡ false → held_meant s v.held ≡ None
  unfolding held_meant
  held-bare e = ap (λ (b : Bool). cond b (Some (record { key = cut s v.held.key; value = cut s v.held.value })) None) e

  held-there : v.held.there ≡ true → held_meant s v.held ≡ Some (record { key = record_key_bytes s v; value = record_value_bytes s v })
  unfolding held_meant record_key_bytes record_value_bytes
  held-there e =
      ap (λ (b : Bool). cond b (Some (record { key = cut s v.held.key; value = cut s v.held.value })) None) e
      ∙ ap (λ (b : Bool). Some (record { key = bytes_if b s v.held.key; value = bytes_if b s v.held.value })) (sym h)

  -- a part of the record, where the view says that there is one
  held-part : (w : Option Record → Option (List ℕ)) (p : Span) → w None ≡ None → ((r : Record) → r ≡ record { key = cut s v.held.key; value = cut s v.held.value } → w (Some r) ≡ Some (cut s p))
      → MayPointAt s (entry_if (is_view s v) v.held.there p) (w (held_meant s v.held))
  unfolding held_meant
  held-part w p n g = subst (λ (b : Bool). MayPointAt s (entry_if b v.held.there p) (w (held_meant s v.held))) (sym h) (go v.held.there)
    where
      go : (b : Bool) → MayPointAt s (entry_if true b p) (w (cond b (Some (record { key = cut s v.held.key; value = cut s v.held.value })) None))
      go true = subst (MayPointAt s (entry_if true true p)) (sym (g _ refl)) refl
      go false = subst (MayPointAt s (entry_if true false p)) (sym n) tt

  means : Meant s v
  unfolding kind_of key_of record_key_of record_value_of key_bytes closer_of provider_of peer_id_of peer_connection_of peer_address_of
  means =
      let w = read_whole s v (view-read s v h) in
      let key-at : cut s v.key ≡ (message_of s).key = ap (λ (m : Fields). cut s m.key) w.is ∙ key-meant s in
      let held_at : held_meant s v.held ≡ (message_of s).held = ap (λ (m : Fields). held_meant s m.held) w.is ∙ held-meant s w.well in
      record {
        kind = ap (λ (b : Bool). number_if b v.kind) h ∙ ap Ok (ap (λ (m : Fields). m.kind) w.is ∙ kind-meant s);
        key = subst (λ (b : Bool). PointsAt s (part_if b v.key) (message_of s).key) (sym h) key-at;
        record_key = subst (λ (o : Option Record). MayPointAt s (record_key_of s v) (key_in o)) held_at (held-part key_in v.held.key refl (λ r e. ap (λ (x : Record). Some x.key) e));
        record_value = subst (λ (o : Option Record). MayPointAt s (record_value_of s v) (value_in o)) held_at (held-part value_in v.held.value refl (λ r e. ap (λ (x : Record). Some x.value) e));
        key_cut = ap (λ (b : Bool). bytes_if b s v.key) h ∙ key-at;
        bare = λ e. sym held_at ∙ held-bare e;
        held = λ e. sym held_at ∙ held-there e;
        closer = walk_same (suc (length s)) _ _ (λ n. found-viewed (first_of (spans 8 (fields_at s n)))) 0 ∙ closer-walked s;
        providers = walk_same (suc (length s)) _ _ (λ n. found-viewed (first_of (spans 9 (fields_at s n)))) 0 ∙ providers-walked s;
        id = λ p. ap (λ (b : Bool). part_if b (id_at s p)) h;
        connection = λ p. ap (λ (b : Bool). number_if b (connection_at s p)) h;
        addresses = λ p. walk_same (suc (length (take p.end s))) _ _ (λ n. found-viewed (first_of (spans 2 (fields_at (take p.end s) n)))) p.at ∙ addresses-walked s p;
        closer_told = λ n. told-viewed (first_of (spans 8 (fields_at s n)));
        provider_told = λ n. told-viewed (first_of (spans 9 (fields_at s n)));
        address_told = λ p n. told-viewed (first_of (spans 2 (fields_at (take p.end s) n)));
        closer_peers = closer-meant s;
        provider_peers = providers-meant s;
      }

pub views-mean : ViewsMean
views-mean = means

-- ---- without a view
pub others-refused : OthersRefused
unfolding kind_of key_of record_key_of record_value_of closer_of provider_of peer_id_of peer_connection_of peer_address_of key_bytes record_key_bytes record_value_bytes number_refusal part_refusal entry_refusal
others-refused s v h =
    record {
      kind = ap (λ (b : Bool). number_refusal (number_if b v.kind)) h;
      key = ap (λ (b : Bool). part_refusal (part_if b v.key)) h;
      record_key = ap (λ (b : Bool). entry_refusal (entry_if b v.held.there v.held.key)) h;
      record_value = ap (λ (b : Bool). entry_refusal (entry_if b v.held.there v.held.value)) h;
      closer = λ from. ap (λ (b : Bool). entry_refusal (found_if b (first_of (spans 8 (fields_at s from))))) h;
      provider = λ from. ap (λ (b : Bool). entry_refusal (found_if b (first_of (spans 9 (fields_at s from))))) h;
      id = λ p. ap (λ (b : Bool). part_refusal (part_if b (id_at s p))) h;
      connection = λ p. ap (λ (b : Bool). number_refusal (number_if b (connection_at s p))) h;
      address = λ p from. ap (λ (b : Bool). entry_refusal (found_if b (first_of (spans 2 (fields_at (take p.end s) from))))) h;
      key_bytes = ap (λ (b : Bool). bytes_if b s v.key) h;
      record_key_bytes = ap (λ (b : Bool). bytes_if b s v.held.key) h;
      record_value_bytes = ap (λ (b : Bool). bytes_if b s v.held.value) h;
    }

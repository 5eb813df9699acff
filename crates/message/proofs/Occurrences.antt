-- The occurrences of a record, read as though they stood one after another. Assumes nothing.
use Prim.Native.Nat.{ℕ}
use mathlib.Core.Path.{◌≡◌, refl, sym, ap, ◌∙◌}
use mathlib.Core.List.{List, [], ◌∷◌, map, map-append, flatten as joined}
use mathlib.Core.Bool.{Bool, true, false}
use native.Mathlib.Omega.{arith}
use lib.ListN.{length}
use Rattle.octets.specs.Search.{every, last_of}
use Rattle.octets.proofs.Bools.{not-both, all_head, all_rest}
use Rattle.octets.proofs.Searching.{every-head, every-tail, last-map, last-append}
use Rattle.wire.specs.Wire.{field_at, next_of, fields, fields_in, spans, nowhere}
use Rattle.wire.specs.Items.{cut, items, parts}
use Rattle.wire.specs.declared.Span.{Span}
use Rattle.wire.proofs.Reach.{AllInside}
use Rattle.wire.proofs.Scan.{at_done}
use Rattle.wire.proofs.Joined.{parts-joined}
use Rattle.wire.proofs.Within.{items-parts, in_parts}
use Rattle.message.specs.Message.{Message, record_of, merged, message_of, well_formed, well_message, decode}
use Rattle.message.specs.View.{no_record, all_spans, held_at, held_meant}
use Rattle.message.specs.Claims.{all_parts, last_of_all, RecordRead, SplitIsMerged}
use Rattle.message.specs.Inner.{with_occurrence, with_occurrences}
use Rattle.message.specs.declared.Held.{Held}
use Rattle.std.specs.Prelude.{Some, None}

-- ---- as strings: where each is well formed by itself, the fields of the joined ones are those of each, in order

all-joined : (f : ℕ) (bs : List (List ℕ)) → every well_formed bs ≡ true → parts f (items (joined bs)) ≡ all_parts f bs
unfolding all_parts joined well_formed
all-joined f [] w = items-parts [] f ∙ (unfold fields spans in rw (at_done [] 0 (unfold field_at next_of in refl)))
all-joined f (b ∷ bs) w = parts-joined b (joined bs) (every-head well_formed b bs w) f ∙ rw (all-joined f bs (every-tail well_formed b bs w))

merged-last : (bs : List (List ℕ)) → every well_formed bs ≡ true → merged bs ≡ last_of_all bs
unfolding merged record_of last_of_all
merged-last [] w = refl
merged-last (b ∷ bs) w = rw (all-joined 1 (b ∷ bs) w, all-joined 2 (b ∷ bs) w)

-- so says a body whose record comes in them
pub each-well : (s : List ℕ) → well_message s ≡ true → every well_formed (parts 3 (items s)) ≡ true
unfolding well_message
each-well s w = all_head _ _ (all_rest _ _ w)

pub split-is-merged : SplitIsMerged
unfolding decode message_of
split-is-merged s = go (well_message s) refl
  where
    go : (t : Bool) → well_message s ≡ t → RecordRead s
    go true w = record {
      apart = λ n. absurd (not-both _ (each-well s w) n);
      last = λ m q. let z : Some (message_of s) ≡ Some m = rw w at q in let e : message_of s ≡ m = cc in ap (λ (x : Message). x.held) (sym e) ∙ merged-last _ (each-well s w);
    }
    go false w = record { apart = λ n. rw w; last = λ m q. absurd (let z : None ≡ Some m = rw w at q in let y : ◌≡◌ {A = ℕ} 0 1 = cc in omega arith) }

-- ---- by position: what one occurrence after the other leaves is the last key and the last value of all

module _ (s : List ℕ) where
  pub held-key : (ps : List Span) → (held_at s ps).key ≡ last_of nowhere (all_spans s 1 ps)
  unfolding held_at all_spans joined last_of
  held-key [] = refl
  held-key (p ∷ ps) = refl

  pub held-value : (ps : List Span) → (held_at s ps).value ≡ last_of nowhere (all_spans s 2 ps)
  unfolding held_at all_spans joined last_of
  held-value [] = refl
  held-value (p ∷ ps) = refl

  last-key : (h : Held) (ps : List Span) → (with_occurrences s h ps).key ≡ last_of h.key (all_spans s 1 ps)
  unfolding with_occurrences with_occurrence all_spans joined last_of
  last-key h [] = refl
  last-key h (p ∷ ps) = last-key (with_occurrence s h p) ps ∙ sym (last-append h.key (spans 1 (fields_in s p)) (all_spans s 1 ps))

  last-value : (h : Held) (ps : List Span) → (with_occurrences s h ps).value ≡ last_of h.value (all_spans s 2 ps)
  unfolding with_occurrences with_occurrence all_spans joined last_of
  last-value h [] = refl
  last-value h (p ∷ ps) = last-value (with_occurrence s h p) ps ∙ sym (last-append h.value (spans 2 (fields_in s p)) (all_spans s 2 ps))

  stays-there : (h : Held) (ps : List Span) → h.there ≡ true → (with_occurrences s h ps).there ≡ true
  unfolding with_occurrences with_occurrence
  stays-there h [] e = e
  stays-there h (p ∷ ps) e = stays-there (with_occurrence s h p) ps refl

  is_held : (h : Held) (k v : Span) → h.there ≡ true → h.key ≡ k → h.value ≡ v → h ≡ record { there = true; key = k; value = v }
  is_held h k v t ek ev = rw (← t, ← ek, ← ev)

  pub occurrences-held : (ps : List Span) → with_occurrences s no_record ps ≡ held_at s ps
  unfolding held_at
  occurrences-held [] = unfold with_occurrences in refl
  occurrences-held (p ∷ ps) =
      is_held (with_occurrences s no_record (p ∷ ps)) _ _ (unfold with_occurrences with_occurrence in stays-there (with_occurrence s no_record p) ps refl)
      (last-key no_record (p ∷ ps)) (last-value no_record (p ∷ ps))

-- ---- and that is the record of the joined occurrences

module _ (s : List ℕ) (lo : ℕ) where
  spans-meant : (f : ℕ) (ps : List Span) → AllInside lo (length s) ps → map (cut s) (all_spans s f ps) ≡ all_parts f (map (cut s) ps)
  unfolding all_spans all_parts joined
  spans-meant f [] a = refl
  spans-meant f (p ∷ ps) a = map-append (cut s) (spans f (fields_in s p)) (all_spans s f ps) ∙ rw (in_parts s p a.0.ordered a.0.ends f, spans-meant f ps a.1)

  last-meant : (f : ℕ) (ps : List Span) → AllInside lo (length s) ps → every well_formed (map (cut s) ps) ≡ true
      → cut s (last_of nowhere (all_spans s f ps)) ≡ last_of [] (parts f (items (joined (map (cut s) ps))))
  last-meant f ps a w = last-map (cut s) nowhere (all_spans s f ps) ∙ ap (last_of []) (spans-meant f ps a ∙ sym (all-joined f (map (cut s) ps) w))

  pub merged-meant : (ps : List Span) → AllInside lo (length s) ps → every well_formed (map (cut s) ps) ≡ true → held_meant s (held_at s ps) ≡ merged (map (cut s) ps)
  unfolding held_meant held_at merged record_of
  merged-meant [] a w = refl
  merged-meant (p ∷ ps) a w = rw (last-meant 1 (p ∷ ps) a w, last-meant 2 (p ∷ ps) a w)

-- The parts at a view's positions are what the body says, and they lie inside it. Assumes nothing.
use Prim.Native.Nat.{ℕ, zero, suc, ◌<◌}
use mathlib.Core.Path.{◌≡◌, refl, sym, ap, ap₂, ◌∙◌}
use mathlib.Core.List.{List, [], ◌∷◌, ◌++◌, map, flatten as joined}
use mathlib.Core.Bool.{Bool, true, ◌&&◌}
use native.Mathlib.Omega.{arith}
use lib.ListN.{length, get_or}
use Rattle.octets.specs.Search.{every, last_of}
use Rattle.octets.proofs.Searching.{last-map}
use Rattle.wire.specs.Wire.{fields, fields_in, spans, nowhere}
use Rattle.wire.specs.Items.{cut, items, parts}
use Rattle.wire.specs.declared.Span.{Span}
use Rattle.wire.proofs.Reach.{Inside, AllInside, earlier, spans-inside}
use Rattle.wire.proofs.Within.{items-well, items-values, items-parts, in-well, in-values, in_parts, in-inside}
use Rattle.message.specs.Message.{peer_of, merged, message_of, well_formed, well_message}
use Rattle.message.specs.View.{all_spans, fields_of, id_at, addresses_at, connection_at, closer_at, providers_at, held_meant, peer_meant, meant}
pub use Rattle.message.specs.Claims.{Cuttable, FieldsIn}
use Rattle.message.specs.Claims.{Shown, AbsentIsShown, WalksInside}
use Rattle.message.specs.Inner.{well_in, well_fields}
use Rattle.message.proofs.Occurrences.{each-well, held-key, held-value, merged-meant}

-- ---- a peer

module _ (s : List ℕ) (p : Span) (lo : ℕ) (i : Inside lo (length s) p) where
  last-part : (f : ℕ) → cut s (last_of nowhere (spans f (fields_in s p))) ≡ last_of [] (parts f (items (cut s p)))
  last-part f = last-map (cut s) nowhere (spans f (fields_in s p)) ∙ ap (last_of []) (in_parts s p i.ordered i.ends f)

  pub peer-meant : peer_meant s p ≡ peer_of (cut s p)
  unfolding peer_meant peer_of id_at addresses_at connection_at
  peer-meant = rw (last-part 1, in_parts s p i.ordered i.ends 2, in-values s p i.ordered i.ends 3)

  pub well-meant : well_in s p ≡ well_formed (cut s p)
  unfolding well_in well_formed
  well-meant = in-well s p i.ordered i.ends

-- ---- lists of peers, and of what has to be well formed

module _ (s : List ℕ) (lo : ℕ) where
  pub peers-meant : (ps : List Span) → AllInside lo (length s) ps → map (peer_meant s) ps ≡ map peer_of (map (cut s) ps)
  peers-meant [] a = refl
  peers-meant (p ∷ ps) a = rw (peer-meant s p lo a.0, peers-meant ps a.1)

  pub all-well : (ps : List Span) → AllInside lo (length s) ps → every well_formed (map (cut s) ps) ≡ every (well_in s) ps
  unfolding every
  all-well [] a = refl
  all-well (p ∷ ps) a = ap₂ (λ (b c : Bool). b && c) (sym (well-meant s p lo a.0)) (all-well ps a.1)

-- ---- a body

module _ (s : List ℕ) where
  pub inside : (f : ℕ) → AllInside 0 (length s) (spans f (fields s))
  unfolding fields
  inside f = spans-inside f s 0

  pub well-body : well_message s ≡ well_fields s (fields s)
  unfolding well_message well_fields well_formed
  well-body =
      rw (items-well s, items-parts s 3, items-parts s 8, items-parts s 9, all-well s 0 (spans 3 (fields s)) (inside 3), all-well s 0 (spans 8 (fields s)) (inside 8), all-well s 0 (spans 9 (fields s)) (inside 9))

  pub key-meant : cut s (fields_of s).key ≡ (message_of s).key
  unfolding fields_of message_of
  key-meant = last-map (cut s) nowhere (spans 2 (fields s)) ∙ ap (last_of []) (sym (items-parts s 2))

  pub kind-meant : (fields_of s).kind ≡ (message_of s).kind
  unfolding fields_of message_of
  kind-meant = ap (last_of 0) (sym (items-values s 1))

  pub held-meant : well_message s ≡ true → held_meant s (fields_of s).held ≡ (message_of s).held
  unfolding fields_of message_of
  held-meant w = merged-meant s 0 (spans 3 (fields s)) (inside 3) (rw (items-parts s 3) at (each-well s w)) ∙ ap merged (sym (items-parts s 3))

  pub closer-meant : map (peer_meant s) (closer_at s) ≡ (message_of s).closer
  unfolding closer_at message_of
  closer-meant = peers-meant s 0 (spans 8 (fields s)) (inside 8) ∙ ap (map peer_of) (sym (items-parts s 8))

  pub providers-meant : map (peer_meant s) (providers_at s) ≡ (message_of s).providers
  unfolding providers_at message_of
  providers-meant = peers-meant s 0 (spans 9 (fields s)) (inside 9) ∙ ap (map peer_of) (sym (items-parts s 9))

  -- the parts at the positions are what the body says
  pub all-meant : well_message s ≡ true → meant s (fields_of s) ≡ message_of s
  unfolding meant
  all-meant w = rw (kind-meant, key-meant, held-meant w, closer-meant, providers-meant)

-- ---- positions inside the body

pub last-cuttable : (lo hi : ℕ) (d : Span) (ps : List Span) → Cuttable hi d → AllInside lo hi ps → Cuttable hi (last_of d ps)
unfolding last_of
last-cuttable lo hi d [] c a = c
last-cuttable lo hi d (p ∷ ps) c a = last-cuttable lo hi p ps (record { ordered = a.0.ordered; ends = a.0.ends }) a.1

pub nowhere-cuttable : (hi : ℕ) → Cuttable hi nowhere
nowhere-cuttable hi = record { ordered = omega arith; ends = omega arith }

last-past : (lo hi : ℕ) (d : Span) (ps : List Span) → 0 < d.at → AllInside lo hi ps → 0 < (last_of d ps).at
unfolding last_of
last-past lo hi d [] h a = h
last-past lo hi d (p ∷ ps) h a = last-past lo hi p ps (omega (arith, a.0.starts)) a.1

last-shown : (lo hi : ℕ) (ps : List Span) → AllInside lo hi ps → Shown (last_of nowhere ps) ps
unfolding last_of
last-shown lo hi [] a = refl
last-shown lo hi (p ∷ ps) a = last-past lo hi p ps (omega (arith, a.0.starts)) a.1

module _ (s : List ℕ) where
  append-inside : (l m : List Span) → AllInside 0 (length s) l → AllInside 0 (length s) m → AllInside 0 (length s) (l ++ m)
  append-inside [] m a b = b
  append-inside (p ∷ l) m a b = (a.0, append-inside l m a.1 b)

  -- the fields of all occurrences of the record
  all-inside : (f : ℕ) (ps : List Span) → AllInside 0 (length s) ps → AllInside 0 (length s) (all_spans s f ps)
  unfolding all_spans joined
  all-inside f [] a = tt
  all-inside f (p ∷ ps) a = append-inside (spans f (fields_in s p)) (all_spans s f ps) (earlier p.at 0 (length s) (spans f (fields_in s p)) (omega arith) (in-inside s p a.0.ordered a.0.ends f)) (all-inside f ps a.1)

  inner : (f : ℕ) → AllInside 0 (length s) (all_spans s f (spans 3 (fields s)))
  inner f = all-inside f (spans 3 (fields s)) (inside s 3)

  last-inside : (ps : List Span) → AllInside 0 (length s) ps → Cuttable (length s) (last_of nowhere ps)
  last-inside ps a = last-cuttable 0 (length s) nowhere ps (nowhere-cuttable (length s)) a

  pub fields-inside : FieldsIn (length s) (fields_of s)
  unfolding fields_of
  fields-inside = record {
    key = last-inside (spans 2 (fields s)) (inside s 2);
    record-key = rw (held-key s (spans 3 (fields s))) (last-inside (all_spans s 1 (spans 3 (fields s))) (inner 1));
    record-value = rw (held-value s (spans 3 (fields s))) (last-inside (all_spans s 2 (spans 3 (fields s))) (inner 2));
  }

  -- the id of a peer
  pub id-inside : (p : Span) → Cuttable (length s) p → Cuttable (length s) (id_at s p)
  unfolding id_at
  id-inside p i = last-cuttable p.at (length s) nowhere (spans 1 (fields_in s p)) (nowhere-cuttable (length s)) (in-inside s p i.ordered i.ends 1)

pub absent-is-shown : AbsentIsShown
unfolding fields_of
absent-is-shown s = record {
  key = last-shown 0 (length s) (spans 2 (fields s)) (inside s 2);
  record-key = rw (held-key s (spans 3 (fields s))) (last-shown 0 (length s) (all_spans s 1 (spans 3 (fields s))) (inner s 1));
  record-value = rw (held-value s (spans 3 (fields s))) (last-shown 0 (length s) (all_spans s 2 (spans 3 (fields s))) (inner s 2));
}

each-cuttable : (lo hi : ℕ) (ps : List Span) → AllInside lo hi ps → (i : ℕ) → i < length ps → Cuttable hi (get_or ps i nowhere)
each-cuttable lo hi [] a i h = absurd (omega arith)
each-cuttable lo hi (p ∷ ps) a zero h = record { ordered = a.0.ordered; ends = a.0.ends }
each-cuttable lo hi (p ∷ ps) a (suc i) h = each-cuttable lo hi ps a.1 i (omega arith)

pub walks-inside : (s : List ℕ) → WalksInside s
unfolding closer_at providers_at addresses_at
walks-inside s = record {
  closer = each-cuttable 0 (length s) (spans 8 (fields s)) (inside s 8);
  providers = each-cuttable 0 (length s) (spans 9 (fields s)) (inside s 9);
  id = id-inside s;
  addresses = λ p c. each-cuttable p.at (length s) (spans 2 (fields_in s p)) (in-inside s p c.ordered c.ends 2);
}

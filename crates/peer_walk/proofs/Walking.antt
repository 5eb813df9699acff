-- The one pass over a peer's fields comes to what the definitions say. Assumes nothing.
use Prim.Native.Nat.{ℕ, ◌+◌, ◌-◌, ◌*◌, ◌≤◌, ◌<◌}
use mathlib.Core.Path.{◌≡◌, refl, ◌∙◌}
use mathlib.Core.List.{List, [], ◌∷◌, ◌++◌, append_assoc, append-nil}
use native.Mathlib.Omega.{arith}
use lib.ListN.{length, take, set, replicate, length-append}
use borrow.Author.Tests.{ne_eqb}
use Rattle.octets.specs.Search.{last_of}
use Rattle.wire.specs.Wire.{field_at, next_of, fields_at, fields_in, numbers, span_if, spans, nowhere}
use Rattle.wire.specs.declared.Span.{Span}
use Rattle.wire.specs.declared.Field.{Field}
use Rattle.wire.specs.declared.Field.TheVariants.{End, Bad, Number, Bytes, Other}
use Rattle.wire.specs.declared.Next.TheVariants.{On}
use Rattle.wire.proofs.Reach.{field_next}
use Rattle.wire.proofs.Scan.{at_done, at-broken, at_on}
use Rattle.message.specs.View.{id_at, addresses_at, connection_at}
use Rattle.peer_walk.specs.PeerWalk.{most_places, bounds, places_of, walked_of}
use Rattle.peer_walk.specs.Inner.{found_of, walked_from}
use Rattle.peer_walk.proofs.Places.{place-first, place-more}

-- ---- what has been read so far, and where the walk goes on
pub record Walking (s : List ℕ) (from : ℕ) (places : List ℕ) (id : Span) (connection count at : ℕ) : Type 0 where
  pub done : List Span
  pub ids : last_of id (spans 1 (fields_at s at)) ≡ last_of nowhere (spans 1 (fields_at s from))
  pub last : last_of connection (numbers 3 (fields_at s at)) ≡ last_of 0 (numbers 3 (fields_at s from))
  pub all : done ++ spans 2 (fields_at s at) ≡ spans 2 (fields_at s from)
  pub counted : count ≡ length done
  pub few : count ≤ at
  pub kept : places ≡ places_of done

pub walking : (s : List ℕ) (from : ℕ) → Walking s from (replicate 16 0) nowhere 0 0 from
unfolding places_of bounds
walking s from = record { done = []; ids = refl; last = refl; all = refl; counted = refl; few = omega arith; kept = refl }

module _ (s : List ℕ) (from : ℕ) (places : List ℕ) (id : Span) (connection count at : ℕ) (g : Walking s from places id connection count at) (f : Field) (w : f ≡ field_at s at) where
  nearer : (n : ℕ) → (at < n) × (n ≤ length s) → length s - n < length s - at
  nearer n r = omega (arith, r.0, r.1)

  -- a field that is no address
  onward : (id' : Span) (v n : ℕ) → (at < n) × (n ≤ length s) → last_of id' (spans 1 (fields_at s n)) ≡ last_of nowhere (spans 1 (fields_at s from))
      → last_of v (numbers 3 (fields_at s n)) ≡ last_of 0 (numbers 3 (fields_at s from)) → g.done ++ spans 2 (fields_at s n) ≡ spans 2 (fields_at s from)
      → Walking s from places id' v count n
  onward id' v n r i l a =
      record { done = g.done; ids = i; last = l; all = a; counted = g.counted; few = omega (arith, g.few, r.0); kept = g.kept }

  -- ---- a field of bytes
  module _ (number : ℕ) (p : Span) (q : f ≡ Bytes number p) where
    bytes_on : next_of (field_at s at) ≡ On p.end
    unfolding next_of
    bytes_on = rw (← w, q)

    bytes-there : fields_at s at ≡ Bytes number p ∷ fields_at s p.end
    bytes-there = at_on s at p.end bytes_on ∙ rw (← w, q)

    bytes-reach : (at < p.end) × (p.end ≤ length s)
    bytes-reach = field_next s at p.end bytes_on

    pub bytes-nearer : length s - p.end < length s - at
    bytes-nearer = nearer p.end bytes-reach

    -- each address takes a byte at least, so they can be counted
    pub bytes_counted : count < length s
    bytes_counted = let r = bytes-reach in omega (arith, r.0, r.1, g.few)

    pub walk-id : number ≡ 1 → Walking s from places p connection count p.end
    unfolding spans span_if numbers last_of
    walk-id e =
        let t : fields_at s at ≡ Bytes 1 p ∷ fields_at s p.end = bytes-there ∙ rw e in
        onward p connection p.end bytes-reach (rw t at g.ids) (rw t at g.last) (rw t at g.all)

    module _ (e : number ≡ 2) where
      address : (new : List ℕ) → new ≡ places_of (g.done ++ (p ∷ [])) → Walking s from new id connection (count + 1) p.end
      unfolding spans span_if numbers last_of
      address new k =
          let t : fields_at s at ≡ Bytes 2 p ∷ fields_at s p.end = bytes-there ∙ rw e in
          let r = bytes-reach in
          record {
            done = g.done ++ (p ∷ []);
            ids = rw t at g.ids;
            last = rw t at g.last;
            all = append_assoc g.done (p ∷ []) (spans 2 (fields_at s p.end)) ∙ (rw t at g.all);
            counted = omega (arith, g.counted, length-append g.done (p ∷ []));
            few = omega (arith, g.few, r.0);
            kept = k;
          }

      pub walk_first : count < most_places → Walking s from (set (set places (2 * count) p.at) (2 * count + 1) p.end) id connection (count + 1) p.end
      walk_first h = address _ (place-first g.done p count g.counted places g.kept h)

      pub walk_more : most_places ≤ count → Walking s from places id connection (count + 1) p.end
      walk_more h = address places (place-more g.done p count g.counted places g.kept h)

    pub walk-bytes : (number ≡ 1 → ⊥) → (number ≡ 2 → ⊥) → Walking s from places id connection count p.end
    unfolding spans span_if numbers last_of
    walk-bytes a b =
        let t = bytes-there in
        onward id connection p.end bytes-reach (rw (t, ne_eqb number 1 a) at g.ids) (rw t at g.last) (rw (t, ne_eqb number 2 b) at g.all)

  -- ---- a number
  module _ (number value n : ℕ) (q : f ≡ Number number value n) where
    number-on : next_of (field_at s at) ≡ On n
    unfolding next_of
    number-on = rw (← w, q)

    number-there : fields_at s at ≡ Number number value n ∷ fields_at s n
    number-there = at_on s at n number-on ∙ rw (← w, q)

    pub number-nearer : length s - n < length s - at
    number-nearer = nearer n (field_next s at n number-on)

    pub walk-connection : number ≡ 3 → Walking s from places id value count n
    unfolding spans span_if numbers last_of
    walk-connection e =
        let t : fields_at s at ≡ Number 3 value n ∷ fields_at s n = number-there ∙ rw e in
        onward id value n (field_next s at n number-on) (rw t at g.ids) (rw t at g.last) (rw t at g.all)

    pub walk-number : (number ≡ 3 → ⊥) → Walking s from places id connection count n
    unfolding spans span_if numbers last_of
    walk-number a =
        let t = number-there in
        onward id connection n (field_next s at n number-on) (rw t at g.ids) (rw (t, ne_eqb number 3 a) at g.last) (rw t at g.all)

  -- ---- one that is passed over
  module _ (n : ℕ) (q : f ≡ Other n) where
    other-on : next_of (field_at s at) ≡ On n
    unfolding next_of
    other-on = rw (← w, q)

    pub other-nearer : length s - n < length s - at
    other-nearer = nearer n (field_next s at n other-on)

    pub walk-other : Walking s from places id connection count n
    unfolding spans span_if numbers last_of
    walk-other =
        let t : fields_at s at ≡ Other n ∷ fields_at s n = at_on s at n other-on ∙ rw (← w, q) in
        onward id connection n (field_next s at n other-on) (rw t at g.ids) (rw t at g.last) (rw t at g.all)

  -- ---- the end, or a malformed field
  over : id ≡ last_of nowhere (spans 1 (fields_at s from)) → connection ≡ last_of 0 (numbers 3 (fields_at s from)) → g.done ≡ spans 2 (fields_at s from)
      → found_of id connection count places ≡ walked_from s from
  unfolding walked_from
  over i v d = rw (i, v, g.counted, g.kept, d)

  pub walk_end : f ≡ End → found_of id connection count places ≡ walked_from s from
  unfolding next_of spans numbers last_of
  walk_end q =
      let t = at_done s at (rw (← w, q)) in
      over (rw t at g.ids) (rw t at g.last) (rw (t, append-nil g.done) at g.all)

  pub walk-bad : f ≡ Bad → found_of id connection count places ≡ walked_from s from
  unfolding next_of spans span_if numbers last_of
  walk-bad q =
      let t = at-broken s at (rw (← w, q)) in
      over (rw t at g.ids) (rw t at g.last) (rw (t, append-nil g.done) at g.all)

-- ---- the peer at a span
pub peer-walked : (s t : List ℕ) (p : Span) → t ≡ take p.end s → walked_from t p.at ≡ walked_of s p
unfolding walked_from found_of walked_of id_at connection_at addresses_at fields_in
peer-walked s t p e = rw e

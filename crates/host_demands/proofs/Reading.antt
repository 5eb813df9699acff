-- What the calls on messages give is what the bytes say: specs/Messages.antt. Assumes nothing.
use Prim.Native.Nat.{ℕ, zero, suc, ◌+◌, ◌*◌, ◌≤◌, ◌<◌}
use mathlib.Core.Path.{◌≡◌, refl, sym, ap, ◌∙◌, subst}
use mathlib.Core.Logic.{⊎_elim}
use mathlib.Core.Bool.{Bool, true, false, cond, not}
use mathlib.Core.List.{List, [], ◌∷◌, ◌++◌, map}
use native.Mathlib.Omega.{arith}
use lib.ListN.{length, get_or, take, drop, length-take, length-map, take-append-drop, drop_of_length-le, get_or-map}
use lib.Seq.{sets, sets-eq, length-sets, take_all, length-take-le}
use lib.Dec.{ltb}
use borrow.Author.Tests.{lt-ltb, le-ltb, ltb-true, ltb-false, ne_eqb}
use Rattle.octets.proofs.Stores.{sets-front, sets-out, sets-append, drop-sets}
use Rattle.octets.proofs.Bools.{either, cond_ind, cond_yes, cond_no, not_yes, not-no}
use Rattle.limits.specs.Limits.{least_reply}
use Rattle.wire.specs.Wire.{fields, fields_at, fields_in, spans, first_of, nowhere}
use Rattle.wire.specs.Items.{cut}
use Rattle.wire.specs.declared.Span.{Span}
use Rattle.wire.proofs.Scan.{walk_at, walk_inside}
use Rattle.message.specs.Message.{Message, message_of, decode, encode, frame}
use Rattle.message.specs.View.{fields_of, reading_of, id_at, addresses_at, connection_at, closer_at, providers_at, meant, held_meant, peer_meant}
use Rattle.message.specs.Claims.{Cuttable, FieldsIn}
use Rattle.message.specs.declared.Fields.{Fields}
use Rattle.message.proofs.Claims.{claims}
use Rattle.message.proofs.Meaning.{closer-meant, providers-meant}
use Rattle.message.proofs.Views.{read_whole}
use Rattle.peer_walk.specs.PeerWalk.{most_places, places_of, told_at}
use Rattle.peer_walk.proofs.Places.{places-length, place_at, place_none}
use Rattle.pieces.specs.Writable.{writable}
use Rattle.round_trip.proofs.Written.{written-is-read}
use Rattle.writer.specs.Writer.{answer_of, out_after}
use Rattle.refusal.specs.declared.Refusal.TheVariants.{SmallBuffer, Unwritable}
use Rattle.connections.specs.Box.{nobody}
use Rattle.flat.specs.Flat.{says_yes}
use Rattle.host_numbers.specs.Numbers.{view_numbers}
use Rattle.host_answers.specs.Answers.{read_number, read_numbers, entry_from, later_of, address_from, part_number, peer_numbers, address_numbers, write_number, write_numbers}
use Rattle.demands.specs.Demands.{Writes}
use Rattle.demands.proofs.Leaving.{refused-leaves}
use Rattle.demands.proofs.Hearing as demands
use Rattle.demands.proofs.Deal.{decoded}
use Rattle.host_demands.specs.Messages.{IsPart, RecordShown, Shows, ReadAs, ReadTold, AddressGiven, Addresses, PeerGiven, Peers, PeersTold, WrittenAs, WriteTold, MessagesCross}
use Rattle.std.specs.Prelude.{Ok, Err, Some, None, Result, Option}
use Rattle.refusal.specs.declared.Refusal.{Refusal}

-- ---- the eight numbers of a view
cut-is : (s : List ℕ) (p : Span) → Cuttable (length s) p → IsPart s p.at p.end (cut s p)
cut-is s p c = record { ordered = c.ordered; inside = c.ends; says = refl }

held-shown : (s : List ℕ) (a b c : ℕ) (there : Bool) (k v : Span) (rest : List ℕ) → Cuttable (length s) k → Cuttable (length s) v
    → RecordShown s (a ∷ b ∷ c ∷ cond there 1 0 ∷ k.at ∷ k.end ∷ v.at ∷ v.end ∷ rest) (cond there (Some (record { key = cut s k; value = cut s v })) None)
held-shown s a b c true k v rest i j = (refl, cut-is s k i, cut-is s v j)
held-shown s a b c false k v rest i j = refl

shown : (s : List ℕ) (f : Fields) (rest : List ℕ) → FieldsIn (length s) f → Shows s (meant s f) (view_numbers f ++ rest)
unfolding meant held_meant
shown s f rest i =
    record {
      kind = refl;
      key = cut-is s f.key i.key;
      held = held-shown s f.kind f.key.at f.key.end f.held.there f.held.key f.held.value rest i.record-key i.record-value;
    }

view-shown : (s : List ℕ) (f : Fields) (m : Message) (out : List ℕ) → FieldsIn (length s) f → meant s f ≡ m → 8 ≤ length out → Shows s m (sets out 0 (view_numbers f))
view-shown s f m out i e h =
    subst (Shows s m) (sym (sets-eq (view_numbers f) out 0 (omega (arith, h)))) (subst (λ (x : Message). Shows s x (view_numbers f ++ drop 8 out)) e (shown s f (drop 8 out) i))

read_as : (s : List ℕ) (f : Fields) (m : Message) → reading_of s ≡ Ok f → meant s f ≡ m → ReadAs s m
read_as s f m e q =
    record {
      number = ap read_number e;
      shows = λ out h. subst (λ (r : Result Fields Refusal). Shows s m (read_numbers out r)) (sym e) (view-shown s f m out (claims.inside s f e) q h);
      rest = λ out. ap (λ (r : Result Fields Refusal). drop 8 (read_numbers out r)) e ∙ drop-sets 8 out 0 (view_numbers f) (omega arith);
    }

-- what can be written is read as it was
pub written-reads : (m : Message) → writable m ≡ true → ReadAs (encode m) m
written-reads m e = let r = written-is-read m e in read_as (encode m) (fields_of (encode m)) m r.whole r.says

module _ (s : List ℕ) where
  left_alone : (r : Result Fields Refusal) → read_number r < 64 → (out : List ℕ) → read_numbers out r ≡ out
  left_alone (Ok f) h out = absurd (omega (arith, h))
  left_alone (Err r) h out = refl

  read_told : ReadTold s
  read_told =
      record {
        long = λ h. ap read_number ((claims.reads s).long h);
        malformed = λ h e. ap read_number ((claims.reads s).malformed h e);
        unknown = λ h m e k. ap read_number ((claims.reads s).unknown h m e k);
        whole = λ h m e k. let w = (claims.reads s).whole h m e k in read_as s w.0 m w.1 w.2;
        refused = left_alone (reading_of s);
        heard = λ f e. let w = read_whole s f e in (meant s f, w.says, shown s f [] w.lies);
      }

-- ---- the walks
later-end : (a b : ℕ) → a ≤ b → later_of a b ≡ b
unfolding later_of
later-end a b h = cond_ind (λ (x : ℕ). x ≡ b) (ltb a b) b a (λ e. refl) (λ e. omega (arith, h, ltb-false a b e))

later-start : (a b : ℕ) → b ≤ a → later_of a b ≡ a
unfolding later_of
later-start a b h = cond_no (ltb a b) b a (le-ltb a b h)

later-least : (a b : ℕ) → a ≤ later_of a b
unfolding later_of
later-least a b = cond_ind (λ (x : ℕ). a ≤ x) (ltb a b) b a (λ e. omega (arith, ltb-true a b e)) (λ e. omega arith)

same_rest : (p : Span) (k l : List Span) → p ∷ k ≡ p ∷ l → k ≡ l
same_rest p k l e = cc

module _ (s : List ℕ) where
  address-given : (f : Option Span) (p : Span) → f ≡ Some p → Cuttable (length s) p → AddressGiven s f p (cut s p)
  address-given f p e c =
      record {
        number = ap part_number e;
        numbers = λ out h. ap (address_numbers out) e ∙ sets-eq (p.at ∷ p.end ∷ []) out 0 (omega (arith, h));
        says = cut-is s p c;
      }

  addresses-given : (start end : ℕ) (l : List Span) (from : ℕ) → spans 2 (fields_at (take end s) (later_of start from)) ≡ l → Addresses s start end from (map (cut s) l)
  unfolding Addresses address_from first_of
  addresses-given start end [] from e =
      (ap (λ (x : List Span). part_number (first_of x)) e, (λ out. ap (λ (x : List Span). address_numbers out (first_of x)) e))
  addresses-given start end (p ∷ l) from e =
      let at : ℕ = later_of start from in
      let i = walk_inside (take end s) 2 at p (ap first_of e) in
      let c : Cuttable (length s) p = record { ordered = i.ordered; ends = omega (arith, i.ends, length-take end s) } in
      let on : spans 2 (fields_at (take end s) p.end) ≡ l = same_rest p _ l (sym (walk_at (take end s) 2 at p (ap first_of e)) ∙ e) in
      let z : later_of start p.end ≡ p.end = later-end start p.end (omega (arith, i.starts, i.ordered, later-least start from)) in
      (p, address-given _ p (ap first_of e) c, addresses-given start end l p.end (ap (λ (n : ℕ). spans 2 (fields_at (take end s) n)) z ∙ on))

  -- from where the address k ends, those after it
  later-given : (start end k : ℕ) (l : List Span) (from : ℕ) → start ≤ from → spans 2 (fields_at (take end s) from) ≡ l → k < length l
      → Addresses s start end (get_or l k nowhere).end (drop (suc k) (map (cut s) l))
  unfolding first_of
  later-given start end k [] from b e h = absurd (omega (arith, h))
  later-given start end k (p ∷ l) from b e h =
      let i = walk_inside (take end s) 2 from p (ap first_of e) in
      go k h (omega (arith, b, i.starts, i.ordered)) (same_rest p _ l (sym (walk_at (take end s) 2 from p (ap first_of e)) ∙ e))
      (λ k'. later-given start end k' l p.end)
    where
      go : (k : ℕ) → k < suc (length l) → start ≤ p.end → spans 2 (fields_at (take end s) p.end) ≡ l
          → ((k' : ℕ) → start ≤ p.end → spans 2 (fields_at (take end s) p.end) ≡ l → k' < length l → Addresses s start end (get_or l k' nowhere).end (drop (suc k') (map (cut s) l)))
          → Addresses s start end (get_or (p ∷ l) k nowhere).end (drop k (map (cut s) l))
      go zero h b on ih = addresses-given start end l p.end (ap (λ (n : ℕ). spans 2 (fields_at (take end s) n)) (later-end start p.end b) ∙ on)
      go (suc k) h b on ih = ih k b on (omega (arith, h))

  module _ (p : Span) where
    shows-address : Cuttable (length s) p → (k : ℕ) → k < most_places → k < length (map (cut s) (addresses_at s p))
        → IsPart s (get_or (places_of (addresses_at s p)) (2 * k) 0) (get_or (places_of (addresses_at s p)) (2 * k + 1) 0) (get_or (map (cut s) (addresses_at s p)) k [])
    shows-address c k h i =
        let l : List Span = addresses_at s p in
        let j : k < length l = omega (arith, i, length-map l (cut s)) in
        let w = place_at l k h j in
        rw (w.0, w.1, get_or-map (cut s) l k nowhere) (cut-is s (get_or l k nowhere) ((claims.walks_inside s).addresses p c k j))

    other-addresses : most_places ≤ length (map (cut s) (addresses_at s p))
        → Addresses s p.at p.end (get_or (places_of (addresses_at s p)) 15 0) (drop most_places (map (cut s) (addresses_at s p)))
    unfolding addresses_at fields_in
    other-addresses h =
        let l : List Span = addresses_at s p in
        let j : 7 < length l = omega (arith, h, length-map l (cut s)) in
        rw (place_at l 7 (omega arith) j).1 (later-given p.at p.end 7 l p.at (omega arith) refl j)

    abbrev told : ℕ → List ℕ
    told n = p.at ∷ p.end ∷ (id_at s p).at ∷ (id_at s p).end ∷ connection_at s p ∷ n ∷ places_of (addresses_at s p)

    told-written : (out : List ℕ) → sets out 0 (p.at ∷ p.end ∷ told_at s p) ≡ take (length out) (told (length (map (cut s) (addresses_at s p)))) ++ drop 22 out
    told-written out =
        let l : List Span = addresses_at s p in
        let k : length (told (length l)) ≡ 22 = omega (arith, places-length l) in
        sets-front out (told (length l))
        ∙ ap (λ (n : ℕ). take (length out) (told (length l)) ++ drop n out) k
        ∙ ap (λ (n : ℕ). take (length out) (told n) ++ drop 22 out) (sym (length-map l (cut s)))

  peer-given : (f : Option Span) (p : Span) → f ≡ Some p → Cuttable (length s) p → PeerGiven s f p (peer_meant s p)
  unfolding peer_meant addresses_at fields_in
  peer-given f p e c =
      record {
        number = ap part_number e;
        id = id_at s p;
        places = places_of (addresses_at s p);
        numbers = λ out. ap (peer_numbers out s) e ∙ told-written p out;
        inside = c;
        says = cut-is s (id_at s p) ((claims.walks_inside s).id p c);
        sixteen = places-length (addresses_at s p);
        shows = shows-address p c;
        zeros = λ k h. place_none (addresses_at s p) k (omega (arith, h, length-map (addresses_at s p) (cut s)));
        addresses = λ from h. addresses-given p.at p.end (addresses_at s p) from (ap (λ (n : ℕ). spans 2 (fields_at (take p.end s) n)) (later-start p.at from h));
        others = other-addresses p;
      }

  peers-given : (list f : ℕ) → ((from : ℕ) → entry_from s list from ≡ first_of (spans f (fields_at s from))) → (l : List Span) (from : ℕ) → spans f (fields_at s from) ≡ l
      → Peers s list from (map (peer_meant s) l)
  unfolding Peers first_of
  peers-given list f g [] from e =
      let q : entry_from s list from ≡ None = g from ∙ ap first_of e in
      (ap part_number q, (λ out. ap (peer_numbers out s) q))
  peers-given list f g (p ∷ l) from e =
      let i = walk_inside s f from p (ap first_of e) in
      let on : spans f (fields_at s p.end) ≡ l = same_rest p _ l (sym (walk_at s f from p (ap first_of e)) ∙ e) in
      (p, peer-given (entry_from s list from) p (g from ∙ ap first_of e) (record { ordered = i.ordered; ends = i.ends }), peers-given list f g l p.end on)

  peers-told : (m : Message) → decode s ≡ Some m → PeersTold s m
  unfolding entry_from closer_at providers_at fields
  peers-told m e =
      let d : message_of s ≡ m = decoded s m e in
      record {
        closer = subst (Peers s 0 0) (closer-meant s ∙ ap (λ (x : Message). x.closer) d) (peers-given 0 8 (λ from. refl) (closer_at s) 0 refl);
        providers = λ list h. subst (Peers s list 0) (providers-meant s ∙ ap (λ (x : Message). x.providers) d)
            (peers-given list 9 (λ from. cond_yes (says_yes list) _ _ (ap not (ne_eqb list 0 (λ z. omega (arith, z, h))))) (providers_at s) 0 refl);
      }

-- ---- writing
first-number : (out : List ℕ) (n : ℕ) → 1 ≤ length out → get_or (sets out 0 (n ∷ [])) 0 0 ≡ n
first-number out n h = ap (λ (x : List ℕ). get_or x 0 0) (sets-eq (n ∷ []) out 0 (omega (arith, h)))

module _ (y : List ℕ) (m : Message) where
  small : length y < least_reply → (answer_of y m ≡ Err SmallBuffer) × (out_after y m ≡ y)
  unfolding answer_of out_after
  small h = let e = lt-ltb (length y) least_reply h in (cond_yes _ _ _ e, cond_yes _ _ _ e)

  module _ (h : least_reply ≤ length y) where
    enough : ltb (length y) least_reply ≡ false
    enough = le-ltb (length y) least_reply h

    over : writable m ≡ false → (answer_of y m ≡ Err Unwritable) × (out_after y m ≡ y)
    unfolding answer_of out_after
    over e = (cond_no _ _ _ enough ∙ cond_yes _ _ _ (not-no _ e), cond_no _ _ _ enough ∙ cond_yes _ _ _ (not-no _ e))

    done : writable m ≡ true → answer_of y m ≡ Ok (length (frame (encode m)))
    unfolding answer_of
    done e = cond_no _ _ _ enough ∙ cond_no _ _ _ (not_yes _ e)

    written_as : writable m ≡ true → WrittenAs y m
    written_as e =
        let d = done e in
        record {
          number = ap write_number d;
          stands = λ out l. subst (Writes m y) (sym (ap (λ (w : Result ℕ Refusal). get_or (write_numbers out w) 0 0) d ∙ first-number out (length (frame (encode m))) l))
              (demands.written y m (length (frame (encode m))) d);
          reads = written-reads m e;
        }

  write-left : (a : Result ℕ Refusal) → answer_of y m ≡ a → write_number a < 64 → (out_after y m ≡ y) × ((out : List ℕ) → write_numbers out a ≡ out)
  write-left (Ok n) e h = absurd (omega (arith, h))
  write-left (Err r) e h = ((refused-leaves nobody).write y m r e, λ out. refl)

  write-told : WriteTold y m
  write-told =
      record {
        small = λ h. ap write_number (small h).0;
        over = λ h e. ap write_number (over h e).0;
        fine = written_as;
        refused = write-left (answer_of y m) refl;
      }

pub messages-cross : MessagesCross
messages-cross = record { reads = read_told; peers = peers-told; writes = write-told }

-- What the contracts of crate `host` say of a call is what `returns`, `leaves` and `writes` say. Assumes nothing.
use Prim.Native.Nat.{ℕ, ◌+◌, ◌≤◌}
use mathlib.Core.Path.{◌≡◌, refl, sym, ap, ◌∙◌, subst}
use mathlib.Core.Bool.{Bool, true, false, cond}
use mathlib.Core.List.{List, [], ◌∷◌, ◌++◌}
use native.Mathlib.Omega.{arith}
use lib.ListN.{length, get_or, take, drop}
use lib.Seq.{sets, sets-eq}
use lib.Dec.{ltb}
use Rattle.octets.proofs.Stores.{get_d_sets_before}
use Rattle.cutting.specs.World.{set_at}
use Rattle.message.specs.View.{fields_of, reading_of}
use Rattle.message.specs.declared.Fields.{Fields}
use Rattle.node.specs.declared.Answer.{Answer}
use Rattle.node.specs.declared.Answer.TheVariants.{Reply, Heard, More}
use Rattle.node.specs.declared.Received.{Received}
use Rattle.flat.specs.Flat.{peer_size, conn_size, peer_in, conn_in}
use Rattle.host_numbers.specs.Numbers.{view_numbers}
use Rattle.host_state.specs.State.{answer_number, answer_length, answer_view, sight_number, sight_slot, received_numbers, nothing_taken}
use Rattle.replies.specs.Lent as memory
use Rattle.node.specs.Node.{linked}
use Rattle.host.specs.Host.{lent, lent_both}
use Rattle.host_demands.specs.Calls.{Memory, with_lookup, kept, taken_by, length_by, received_by}
use Rattle.host_demands.specs.Hosted.{AsExported}
use Rattle.host_demands.proofs.Numbers.{number_small}
use Rattle.host_demands.proofs.Messages.{ViewFits, receive-view}
use Rattle.std.specs.Prelude.{Ok, Err, Result, Option}
use Rattle.refusal.specs.declared.Refusal.{Refusal}
use Rattle.sightings.specs.declared.Sighting.{Sighting}

-- the first two numbers of out, where it has room for them
first_two : (out : List ℕ) (a b : ℕ) (r : List ℕ) → 2 ≤ length out → (get_or (sets out 0 (a ∷ b ∷ r)) 0 0 ≡ a) × (get_or (sets out 0 (a ∷ b ∷ r)) 1 0 ≡ b)
first_two [] a b r h = absurd (omega (arith, h))
first_two (x ∷ []) a b r h = absurd (omega (arith, h))
first_two (x ∷ y ∷ out) a b r h = (get_d_sets_before (a ∷ b ∷ out) 2 r 0 (omega arith), get_d_sets_before (a ∷ b ∷ out) 2 r 1 (omega arith))

told-numbers : (me conn out : List ℕ) (g : Received) → 2 ≤ length out
    → (get_or (lent_both me conn (nothing_taken out) (received_numbers out g)) 0 0 ≡ lent_both me conn 0 g.taken)
    × (get_or (lent_both me conn (nothing_taken out) (received_numbers out g)) 1 0 ≡ lent_both me conn 0 (answer_length g.answer))
unfolding lent
told-numbers me conn out g h = go (ltb (length me) peer_size) (ltb (length conn) conn_size)
  where
    go : (p q : Bool)
        → (get_or (cond p (nothing_taken out) (cond q (nothing_taken out) (received_numbers out g))) 0 0 ≡ cond p 0 (cond q 0 g.taken))
        × (get_or (cond p (nothing_taken out) (cond q (nothing_taken out) (received_numbers out g))) 1 0 ≡ cond p 0 (cond q 0 (answer_length g.answer)))
    go true q = first_two out 0 0 (0 ∷ 0 ∷ []) h
    go false true = first_two out 0 0 (0 ∷ 0 ∷ []) h
    go false false = first_two out g.taken (answer_length g.answer) (sight_number g.sight ∷ sight_slot g.sight ∷ answer_view g.answer) h

-- the view of a message, where out has room for it
view-there : (out : List ℕ) (a b c d : ℕ) (f : Fields) → 12 ≤ length out → take 8 (drop 4 (sets out 0 ((a ∷ b ∷ c ∷ d ∷ []) ++ view_numbers f))) ≡ view_numbers f
view-there out a b c d f h = ap (λ (x : List ℕ). take 8 (drop 4 x)) (sets-eq ((a ∷ b ∷ c ∷ d ∷ []) ++ view_numbers f) out 0 (omega (arith, h)))

told-view : (out buffer : List ℕ) (n : ℕ) (s : Option (Result Sighting Refusal)) (x : Result Answer Refusal) → ViewFits x buffer → answer_number x ≡ 66
    → let body = take (answer_length x) buffer in
    (reading_of body ≡ Ok (fields_of body)) × (12 ≤ length out → take 8 (drop 4 (sets out 0 ((n ∷ answer_length x ∷ sight_number s ∷ sight_slot s ∷ []) ++ answer_view x))) ≡ view_numbers (fields_of body))
told-view out buffer n s (Ok (Reply k)) v e = absurd (omega (arith, e))
told-view out buffer n s (Ok (Heard k f)) v e = (v.0 ∙ ap Ok v.1, (λ h. view-there out n k (sight_number s) (sight_slot s) f h ∙ ap view_numbers v.1))
told-view out buffer n s (Err r) v e = absurd (omega (arith, e, number_small r))
told-view out buffer n s (Ok More) v e = absurd (omega (arith, e))

view-told : (me conn m out buffer : List ℕ) (g : Received) → ViewFits g.answer buffer → lent_both me conn 0 (answer_number g.answer) ≡ 66
    → let body = take (lent_both me conn 0 (answer_length g.answer)) (lent_both me conn m buffer) in
    (reading_of body ≡ Ok (fields_of body)) × (12 ≤ length out → take 8 (drop 4 (lent_both me conn (nothing_taken out) (received_numbers out g)))
    ≡ view_numbers (fields_of body))
unfolding lent
view-told me conn m out buffer g v e = go (ltb (length me) peer_size) (ltb (length conn) conn_size) e
  where
    go : (p q : Bool) → cond p 0 (cond q 0 (answer_number g.answer)) ≡ 66
        → let body = take (cond p 0 (cond q 0 (answer_length g.answer))) (cond p m (cond q m buffer)) in
        (reading_of body ≡ Ok (fields_of body)) × (12 ≤ length out → take 8 (drop 4 (cond p (nothing_taken out) (cond q (nothing_taken out) (received_numbers out g))))
        ≡ view_numbers (fields_of body))
    go true q z = absurd (omega (arith, z))
    go false true z = absurd (omega (arith, z))
    go false false z = told-view out buffer g.taken g.sight g.answer v z

-- lent memory part by part, and whole
lent-told : (me conn : List ℕ) (l o : memory.Lent) (t k y : List ℕ) → t ≡ lent_both me conn l.contacts o.contacts → k ≡ lent_both me conn l.records o.records
    → y ≡ lent_both me conn l.reply o.reply → memory.lent t k y ≡ lent_both me conn l o
unfolding lent
lent-told me conn l o t k y et ek ey = (λ z. memory.lent (et z) (ek z) (ey z)) ∙ go (ltb (length me) peer_size) (ltb (length conn) conn_size)
  where
    go : (p q : Bool)
        → memory.lent (cond p l.contacts (cond q l.contacts o.contacts)) (cond p l.records (cond q l.records o.records)) (cond p l.reply (cond q l.reply o.reply))
        ≡ cond p l (cond q l o)
    go true q = refl
    go false true = refl
    go false false = refl

pub as-exported : (me : List ℕ) (m : Memory) → AsExported me m
unfolding lent
as-exported me m =
    record {
      receive = λ i piece out r conn' buffer' t' k' y' out' c. (
        c.code,
        (λ z. record {
          lent = lent-told me (m.conns i) m.lent (received_by me m i piece).left t' k' y' c.contacts c.records c.reply z;
          conns = set_at m.conns i (c.connection z);
          buffers = set_at m.buffers i (c.buffer z);
          lookups = m.lookups;
          inbox = kept m i (c.code z) (take (length_by me m i piece) (c.buffer z));
          taken = set_at m.taken i (m.taken i + taken_by me m i piece);
        }),
        c.numbers,
        (λ h. (
          ap (λ (x : List ℕ). get_or x 0 0) c.numbers ∙ (told-numbers me (m.conns i) out (received_by me m i piece).got h).0,
          ap (λ (x : List ℕ). get_or x 1 0) c.numbers ∙ (told-numbers me (m.conns i) out (received_by me m i piece).got h).1,
        )),
      );
      view = λ i piece out r conn' buffer' t' k' y' out' c q.
          let n : ℕ = length_by me m i piece in
          let v = view-told me (m.conns i) (m.buffers i) out (received_by me m i piece).buffer (received_by me m i piece).got
          (receive-view (peer_in me) (linked (conn_in (m.conns i)) (m.buffers i)) piece m.lent) (sym c.code ∙ q) in (
            subst (λ (b : List ℕ). reading_of (take n b) ≡ Ok (fields_of (take n b))) (sym c.buffer) v.0,
            (λ l. ap (λ (x : List ℕ). take 8 (drop 4 x)) c.numbers ∙ v.1 l ∙ ap (λ (x : List ℕ). view_numbers (fields_of (take n x))) (sym c.buffer)),
          );
      start = λ j key limit out r l' out' c. (c.code, ap (with_lookup m j) c.memory, c.numbers);
      next = λ j out r l' out' c. (c.code, ap (with_lookup m j) c.memory, c.numbers);
      reply = λ j id body view out r l' out' c. (c.code, ap (with_lookup m j) c.memory, c.numbers);
      failure = λ j id out r l' out' c. (c.code, ap (with_lookup m j) c.memory, c.numbers);
    }

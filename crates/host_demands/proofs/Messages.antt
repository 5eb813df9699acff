-- A message for a lookup stands at the start of the receive buffer, and its view is the reader's. Assumes nothing.
use Prim.Native.Nat.{ℕ, zero, suc, ◌≤◌}
use mathlib.Core.Path.{◌≡◌, refl, sym, ap, ◌∙◌}
use mathlib.Core.Bool.{Bool, true, false, cond, not}
use mathlib.Core.List.{List, [], ◌∷◌}
use native.Mathlib.Omega.{arith}
use lib.ListN.{length, set, take, drop, drop_of_length-le}
use lib.Seq.{sets, length-sets}
use lib.Dec.{ltb}
use Rattle.octets.proofs.Bools.{cond_ind, cond_no}
use Rattle.limits.specs.Limits.{most_body, most_kind}
use Rattle.peer.specs.declared.Peer.{Peer}
use Rattle.message.specs.Message.{well_message}
use Rattle.message.specs.View.{fields_of, reading_of}
use Rattle.stream.specs.Stream as streams
use Rattle.stream.specs.Stream.{receive_of as framed_of}
use Rattle.replies.specs.Verdicts.{Dealt}
use Rattle.replies.specs.Lent.{Lent}
use Rattle.answer.specs.Answers.{deal_of}
use Rattle.connections.specs.declared.Conn.{Conn}
use Rattle.connections.specs.Box.{with_framing}
use Rattle.node.specs.declared.Answer.{Answer}
use Rattle.node.specs.declared.Answer.TheVariants.{Reply, Heard, More}
use Rattle.node.specs.Node.{Link, linked, Dealing, Out, by_answer, heard_as, heard, served, dealing_of, by_event, unless, gate_of, taken_of, receive_of}
use Rattle.demands.specs.Box.{body_in}
use Rattle.std.specs.Prelude.{Ok, Err, Some, None, Result, Option, ⊤}
use Rattle.message.specs.declared.Fields.{Fields}
use Rattle.refusal.specs.declared.Refusal.{Refusal}
use Rattle.sightings.specs.declared.Sighting.{Sighting}

-- a message that is heard: it is the body, which stands in m, and has the body's view, as the reader gives it. Nobody was seen by it, nor by a refusal
abbrev pub HeardFits : Result Answer Refusal → Option (Result Sighting Refusal) → List ℕ → List ℕ → Type 0
HeardFits (Ok (Reply n)) s body m = Unit {0}
HeardFits (Ok (Heard n f)) s body m = (take n m ≡ body) × (f ≡ fields_of body) × (s ≡ None) × (reading_of body ≡ Ok f)
HeardFits (Err r) s body m = s ≡ None
HeardFits (Ok More) s body m = Unit {0}

take-length : (v : ℕ) (m : List ℕ) → take (length (take v m)) m ≡ take v m
take-length zero m = refl
take-length (suc v) [] = refl
take-length (suc v) (b ∷ m) = ap (λ (x : List ℕ). b ∷ x) (take-length v m)

read_fits : (v : ℕ) (m : List ℕ) → HeardFits (heard_as (length (take v m)) (reading_of (take v m))) None (take v m) m
unfolding reading_of
read_fits v m =
    let body : List ℕ = take v m in
    go (ltb most_body (length body)) _ _ (λ e. refl)
    (λ e. go (not (well_message body)) _ _ (λ e. refl)
    (λ q. go (ltb most_kind (fields_of body).kind) _ _ (λ e. refl)
    (λ p. (take-length v m, refl, refl, cond_no _ _ _ e ∙ cond_no _ _ _ q ∙ cond_no _ _ _ p))))
  where
    go : (b : Bool) (x y : Result Fields Refusal) → (b ≡ true → HeardFits (heard_as (length (take v m)) x) None (take v m) m)
        → (b ≡ false → HeardFits (heard_as (length (take v m)) y) None (take v m) m) → HeardFits (heard_as (length (take v m)) (cond b x y)) None (take v m) m
    go = cond_ind (λ (r : Result Fields Refusal). HeardFits (heard_as (length (take v m)) r) None (take v m) m)

served-fits : (me : Peer) (x : Result ℕ Refusal) (d : Dealt) (c : Conn) (l : Lent) (body m : List ℕ)
    → HeardFits (by_answer x d.left me c l).answer (by_answer x d.left me c l).sight body m
served-fits me (Err r) d c l body m = refl
served-fits me (Ok n) d c l body m = tt

dealing-fits : (me : Peer) (c : Conn) (v : ℕ) (m : List ℕ) (l : Lent) → HeardFits (dealing_of me c (take v m) l).answer (dealing_of me c (take v m) l).sight (take v m) m
unfolding dealing_of heard served
dealing-fits me c v m l =
    let d = deal_of me c.peer (take v m) l in
    cond_ind (λ (x : Dealing). HeardFits x.answer x.sight (take v m) m) c.asking _ _ (λ e. read_fits v m)
    (λ e. served-fits me d.told d c l (take v m) m)

pub event-fits : (me : Peer) (w : Result (Option ℕ) Refusal) (link : Link) (n : ℕ) (l : Lent)
    → let o = by_event w me link n l in HeardFits o.got.answer o.got.sight (body_in w o.buffer) o.buffer
event-fits me (Ok (Some v)) link n l = dealing-fits me link.conn v link.buffer l
event-fits me (Err r) link n l = refl
event-fits me (Ok None) link n l = tt

-- ---- whatever is handed in
abbrev pub ViewFits : Result Answer Refusal → List ℕ → Type 0
ViewFits (Ok (Reply n)) m = Unit {0}
ViewFits (Ok (Heard n f)) m = (reading_of (take n m) ≡ Ok f) × (f ≡ fields_of (take n m))
ViewFits (Err r) m = Unit {0}
ViewFits (Ok More) m = Unit {0}

own_view : (x : Result Answer Refusal) (s : Option (Result Sighting Refusal)) (body m : List ℕ) → HeardFits x s body m → ViewFits x m
own_view (Ok (Reply n)) s body m h = tt
own_view (Ok (Heard n f)) s body m h = (ap reading_of h.0 ∙ h.3, h.1 ∙ ap fields_of (sym h.0))
own_view (Err r) s body m h = tt
own_view (Ok More) s body m h = tt

pub receive-view : (me : Peer) (link : Link) (bs : List ℕ) (l : Lent) → ViewFits (receive_of me link bs l).got.answer (receive_of me link bs l).buffer
unfolding receive_of taken_of
receive-view me link bs l = go (gate_of me link l)
  where
    f : streams.Out
    f = framed_of link.conn.framing link.buffer bs

    next : Link
    next = linked (with_framing link.conn f.got.framing) f.buffer

    o : Out
    o = by_event f.got.answer me next f.got.taken l

    go : (g : Result ⊤ Refusal) → ViewFits (unless g link l o).got.answer (unless g link l o).buffer
    go (Err r) = tt
    go (Ok tt) =
        own_view o.got.answer o.got.sight (body_in f.got.answer o.buffer) o.buffer
        (event-fits me f.got.answer next f.got.taken l)

-- ---- the numbers past the first two in out, whatever these are
sets-past : (x : ℕ) (l : List ℕ) (i : ℕ) (r : List ℕ) → sets (x ∷ l) (suc i) r ≡ x ∷ sets l i r
sets-past x l i [] = refl
sets-past x l i (v ∷ r) = sets-past x (set l i v) (suc i) r

no_second : (x : ℕ) (r : List ℕ) → drop 2 (sets (x ∷ []) 2 r) ≡ []
no_second x r =
    let short : length (sets (x ∷ []) 2 r) ≤ 2 = omega (arith, length-sets (x ∷ []) 2 r) in
    drop_of_length-le (sets (x ∷ []) 2 r) short

pub first_two : (out : List ℕ) (a b c d : ℕ) (r : List ℕ) → drop 2 (sets out 0 (a ∷ b ∷ r)) ≡ drop 2 (sets out 0 (c ∷ d ∷ r))
first_two [] a b c d r = refl
first_two (x ∷ []) a b c d r = no_second a r ∙ sym (no_second c r)
first_two (x ∷ y ∷ out) a b c d r = past a b ∙ sym (past c d)
  where
    past : (p q : ℕ) → drop 2 (sets (p ∷ q ∷ out) 2 r) ≡ sets out 0 r
    past p q = ap (drop 2) (sets-past p (q ∷ out) 1 r ∙ ap (λ (l : List ℕ). p ∷ l) (sets-past q out 0 r))

-- What comes after an answer, and after a piece. Assumes nothing.
use Prim.Native.Nat.{ℕ, zero, suc, ◌+◌, ◌-◌, ◌<◌, ◌≤◌, min}
use mathlib.Core.Path.{◌≡◌, refl, sym, subst, ap, ◌∙◌}
use mathlib.Core.List.{List, [], ◌∷◌}
use lib.ListN.{length, take, drop, length-drop, drop_of_length-le}
use lib.Seq.{drop-drop, drop-nil, take_all}
use native.Mathlib.Omega.{arith}
use Rattle.peer.specs.declared.Peer.{Peer}
use Rattle.replies.specs.Lent.{Lent, lent}
use Rattle.node.specs.Node.{Link, linked, Out, receive_of, Gives}
use Rattle.node.specs.declared.Received.{Received}
use Rattle.node.specs.declared.Answer.{Answer}
use Rattle.node.specs.declared.Answer.TheVariants.{Reply, Heard, More}
use mathlib.Core.Bool.{true}
use Rattle.console.specs.declared.Turn.{Turn}
use Rattle.console.specs.declared.After.{After}
use Rattle.console.specs.declared.After.TheVariants.{Stop}
use Rattle.console.proofs.Taking.{takes}
use Rattle.console.specs.Console.{goes_on, Follows, Stand, stand, called, leaves, calls, passes, all_pass, Turns, UsedUp}
use Rattle.std.specs.Prelude.{Ok, Err, Result}
use Rattle.refusal.specs.declared.Refusal.{Refusal}

pub follows : (a b : Result Answer Refusal) (x : After) → a ≡ b → Follows b x → Follows a x
follows a b x e h = subst (λ (y : Result Answer Refusal). Follows y x) (sym e) h

pub stops : (x : After) (me : Peer) (s e : Stand) → x ≡ Stop → UsedUp x me s e
stops x me s e h = subst (λ (y : After). UsedUp y me s e) (sym h) tt

-- what a call gives is what its turn has
pub turned : (o : Out) (g : Received) (t : Turn) (m c r y : List ℕ) → Gives o g m c r y → t.conn ≡ g.conn → t.taken ≡ g.taken → Follows g.answer t.after
    → Turns o t m c r y
turned o g t m c r y h e f a =
    record {
      conn = e ∙ ap (λ (z : Received). z.conn) h.got;
      taken = f ∙ ap (λ (z : Received). z.taken) h.got;
      buffer = h.buffer;
      left = rw (h.contacts, h.records, h.reply);
      after = follows o.got.answer g.answer t.after (sym (ap (λ (z : Received). z.answer) h.got)) a;
    }

-- a call more, by what it gave
pub one_more : (me : Peer) (s : Stand) (n : ℕ) (k : Link) (l : Lent) (rest : List ℕ) (t : Turn) (m c r y : List ℕ)
    → calls me s n ≡ stand k l rest → Turns (receive_of me k rest l) t m c r y
    → calls me s (suc n) ≡ stand (linked t.conn m) (lent c r y) (drop t.taken rest)
unfolding calls called leaves
one_more me s n k l rest t m c r y e g =
    ap (λ (z : Stand). leaves z (called me z)) e
    ∙ sym (rw (g.conn, g.taken, g.buffer, g.left))

drop-front : (n : ℕ) (s : List ℕ) → drop (min n (length s)) s ≡ drop n s
drop-front zero s = let e : min 0 (length s) ≡ 0 = omega arith in rw e
drop-front (suc n) [] = let e : min (suc n) 0 ≡ 0 = omega arith in rw e (sym (drop-nil (suc n)))
drop-front (suc n) (x ∷ s) = let e : min (suc n) (suc (length s)) ≡ suc (min n (length s)) = omega arith in rw e (drop-front n s)

-- a call is handed the part of the piece from there to its end, which is all that is left of it
handed : (me : Peer) (from : ℕ) (piece : List ℕ) (k : Link) (l : Lent) (t : Turn) (m c r y : List ℕ)
    → Turns (receive_of me k (take (length piece - from) (drop from piece)) l) t m c r y → Turns (receive_of me k (drop from piece) l) t m c r y
handed me from piece k l t m c r y g =
    let whole : take (length piece - from) (drop from piece) ≡ drop from piece = take_all (length piece - from) (drop from piece) (omega (arith, length-drop from piece)) in
    subst (λ (rest : List ℕ). Turns (receive_of me k rest l) t m c r y) whole g

-- after what passes the run may go on, and after nothing else
passed : (a : Result Answer Refusal) (x : After) → Follows a x → goes_on x ≡ true → passes a ≡ true
passed (Ok (Reply n)) x f g = refl
passed (Ok (Heard n k)) x f g = refl
passed (Err r) x f g = sym (ap goes_on f) ∙ g
passed (Ok More) x f g = refl

-- some calls, none of them refused, lead from one stand to another
abbrev pub Leads : Peer → (from to : Stand) → Type 0
Leads me s e = (n : ℕ) × (calls me s n ≡ e) × (all_pass me s n ≡ true)

-- before the first call
pub not_yet : (me : Peer) (s : Stand) → Leads me s s
unfolding calls all_pass
not_yet me s = (0, refl, refl)

-- a call more, by a loop that goes through the piece by what each call took
module _ (me : Peer) (from to : ℕ) (piece : List ℕ) (k : Link) (l : Lent) (t : Turn) (m c r y : List ℕ)
    (g : Turns (receive_of me k (take (length piece - from) (drop from piece)) l) t m c r y) (f : to ≡ min (from + t.taken) (length piece)) (on : goes_on t.after ≡ true)
  where
    whole : Turns (receive_of me k (drop from piece) l) t m c r y
    whole = handed me from piece k l t m c r y g

    pass : passes (receive_of me k (drop from piece) l).got.answer ≡ true
    pass = passed (receive_of me k (drop from piece) l).got.answer t.after whole.after on

    pub goes : (s : Stand) → Leads me s (stand k l (drop from piece)) → Leads me s (stand (linked t.conn m) (lent c r y) (drop to piece))
    unfolding all_pass called
    goes s (n, e, all) = (
      suc n,
      one_more me s n k l (drop from piece) t m c r y e whole
          ∙ ap (stand (linked t.conn m) (lent c r y)) (drop-drop t.taken from piece ∙ sym (drop-front (from + t.taken) piece) ∙ ap (λ (i : ℕ). drop i piece) (sym f)),
      rw (all, e) pass,
    )

    -- and so the loop ends
    pub nearer : from < length piece → length piece - to < length piece - from
    nearer h =
        let some : 1 ≤ (receive_of me k (drop from piece) l).got.taken = takes me k (drop from piece) l (omega (arith, h, length-drop from piece)) pass in
        omega (arith, f, h, some, whole.taken)

-- all of the piece is taken
pub over : (me : Peer) (s : Stand) (from : ℕ) (piece : List ℕ) (k : Link) (l : Lent) → length piece ≤ from → Leads me s (stand k l (drop from piece)) → Leads me s (stand k l [])
over me s from piece k l h (n, e, all) = (n, e ∙ ap (stand k l) (drop_of_length-le piece h), all)

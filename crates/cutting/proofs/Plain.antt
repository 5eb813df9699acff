-- Several connections read what the plain reading reads, event by event. Assumes nothing.
use Prim.Native.Nat.{ℕ, ◌+◌, ◌≤◌}
use mathlib.Core.Path.{◌≡◌, refl, sym, ap, ◌∙◌, subst}
use mathlib.Core.List.{List, [], ◌∷◌, ◌++◌, append_assoc, append-nil}
use mathlib.Core.Bool.{Bool, true, false, cond, true≢false, false≢true}
use native.Mathlib.Nat.{add-zero}
use native.Mathlib.Omega.{arith}
use lib.ListN.{length, take, drop}
use lib.Dec.{eqb}
use borrow.Author.Tests.{eqb-true, eq-eqb}
use Rattle.octets.proofs.Bools.{cond_ind}
use Rattle.limits.specs.Limits.{most_body}
use Rattle.refusal.specs.declared.Refusal.{Refusal}
use Rattle.stream.specs.declared.Framing.{Framing}
use Rattle.stream.specs.declared.Framing.TheVariants.{Shut}
use Rattle.stream.specs.Stream.{fresh, is_shut, in_form, step_of, store_of, Out, out, shift, after, run_of}
use Rattle.cutting.specs.Frames.{Event, message, refused, Head, partly, whole, bad, head_of, framing_of, half_of}
use Rattle.cutting.specs.World.{Did, Sys, Mark, happened, set_at, here, put_back, Line, Shared, World, Layer, Call, hand, does, asks, Act, takes, acts, bytes, given, is_more, acted, calls, Fine, Sound, Ready, AllFit}
use Rattle.cutting.specs.Plain.{Wire, leading, pending, standing, dealt, act_next, by_head, next, plainly, unread, ReadOut, Blunt}
use Rattle.octets.proofs.Lists.{length-snoc}
use Rattle.stream.proofs.Runs.{shift-shift, shift_zero, run-nil, run-cons}
use Rattle.cutting.proofs.Kept.{shut-only, step-open, store_length}
use Rattle.cutting.proofs.Heads.{Ran, head-run}
use Rattle.cutting.proofs.Order.{Step, at, other, acts_of, step, run, marks, set_same}
use Rattle.cutting.proofs.World.{taken, steps, given-steps, step_line, lands, rules, byte, byte-shut, byte-by, byte-well, calls-steps, run-order}
use Rattle.std.specs.Prelude.{Ok, Err, Some, None, Result, Option}

-- ---- what a connection is given
module _ {B : Type 0} where
  leading-bytes : (p : List ℕ) (r : List (Act B)) → leading (bytes p r) ≡ p ++ leading r
  unfolding bytes leading
  leading-bytes [] r = refl
  leading-bytes (b ∷ p) r = ap (λ (l : List ℕ). b ∷ l) (leading-bytes p r)

  pending-bytes : (p : List ℕ) (r : List (Act B)) → pending (bytes p r) ≡ pending r
  unfolding bytes pending
  pending-bytes [] r = refl
  pending-bytes (b ∷ p) r = pending-bytes p r

  bytes-snoc : (p : List ℕ) (b : ℕ) (r : List (Act B)) → bytes p (takes b ∷ r) ≡ bytes (p ++ (b ∷ [])) r
  unfolding bytes
  bytes-snoc [] b r = refl
  bytes-snoc (x ∷ p) b r = ap (λ (l : List (Act B)). takes x ∷ l) (bytes-snoc p b r)

  drop-bytes : (p : List ℕ) (r : List (Act B)) → drop (length p) (bytes p r) ≡ r
  unfolding bytes
  drop-bytes [] r = refl
  drop-bytes (x ∷ p) r = drop-bytes p r

  bytes-none : (r : List (Act B)) → bytes [] r ≡ r
  unfolding bytes
  bytes-none r = refl

  leading-takes : (b : ℕ) (r : List (Act B)) → leading (takes b ∷ r) ≡ b ∷ leading r
  unfolding leading
  leading-takes b r = refl

  leading-acts : (b : B) (r : List (Act B)) → leading (acts b ∷ r) ≡ []
  unfolding leading
  leading-acts b r = refl

  pending-acts : (b : B) (r : List (Act B)) → pending (acts b ∷ r) ≡ acts b ∷ r
  unfolding pending
  pending-acts b r = refl

leading-none : (B : Type 0) → leading {B = B} [] ≡ []
unfolding leading
leading-none B = refl

pending-none : (B : Type 0) → pending {B = B} [] ≡ []
unfolding pending
pending-none B = refl

step_run : (f : Framing) (m : List ℕ) (b : ℕ) (bs : List ℕ) (a : Result (Option ℕ) Refusal) → (step_of f b).answer ≡ a
    → run_of f m (b ∷ bs) ≡ after a (step_of f b).framing (store_of f m b) (run_of (step_of f b).framing (store_of f m b) bs)
step_run f m b bs a e = run-cons f m b bs ∙ ap (λ (x : Result (Option ℕ) Refusal). after x (step_of f b).framing (store_of f m b) (run_of (step_of f b).framing (store_of f m b) bs)) e

-- ---- a connection in the middle of a message, of which it has the bytes p
pub record Mid (f : Framing) (m : List ℕ) (p : List ℕ) : Type 0 where
  pub start : List ℕ
  pub room : most_body ≤ length start
  pub runs : (bs : List ℕ) → run_of fresh start (p ++ bs) ≡ shift (length p) (run_of f m bs)

pub record IsMessage (f : Framing) (m s p : List ℕ) (b v : ℕ) (h : Head) : Type 0 where
  pub k : ℕ
  pub head : h ≡ whole k v
  pub count : k + v ≡ length p + 1
  pub body : take v (store_of f m b) ≡ take v (drop k s)
  pub anew : (step_of f b).framing ≡ fresh

pub record IsRefused (f : Framing) (p : List ℕ) (b : ℕ) (r : Refusal) (h : Head) : Type 0 where
  pub k : ℕ
  pub head : h ≡ bad k r
  pub count : k ≡ length p + 1
  pub over : (step_of f b).framing ≡ Shut

pub record IsPart (f : Framing) (m s : List ℕ) (h : Head) : Type 0 where
  pub head : h ≡ partly
  pub framing : f ≡ framing_of s
  pub half : take (length (half_of s)) m ≡ half_of s

the-message : (v u : ℕ) → ◌≡◌ {A = Result (Option ℕ) Refusal} (Ok (Some v)) (Ok (Some u)) → v ≡ u
the-message v u h = cc

the-refusal : (v u : Refusal) → ◌≡◌ {A = Result (Option ℕ) Refusal} (Err v) (Err u) → v ≡ u
the-refusal v u h = cc

apart : {X : Type 0} (a b : Result (Option ℕ) Refusal) (f : Result (Option ℕ) Refusal → ℕ) → f a ≡ 0 → f b ≡ 1 → a ≡ b → X
apart a b f p q e = absurd (let z : ◌≡◌ {A = ℕ} 0 1 = sym p ∙ ap f e ∙ q in omega arith)

abbrev is_message : Result (Option ℕ) Refusal → ℕ
is_message (Ok (Some n)) = 1
is_message (Err r) = 0
is_message (Ok None) = 0

abbrev is_refusal : Result (Option ℕ) Refusal → ℕ
is_refusal (Ok (Some n)) = 0
is_refusal (Err r) = 1
is_refusal (Ok None) = 0

-- s is the bytes before the next act
module _ (f : Framing) (m s p : List ℕ) where
  mid-more : (b : ℕ) → (step_of f b).answer ≡ Ok None → Mid f m p → Mid (step_of f b).framing (store_of f m b) (p ++ (b ∷ []))
  mid-more b e k =
      record {
        start = k.start;
        room = k.room;
        runs = λ bs. ap (run_of fresh k.start) (append_assoc p (b ∷ []) bs) ∙ k.runs (b ∷ bs) ∙ ap (shift (length p)) (step_run f m b bs (Ok None) e)
            ∙ shift-shift (length p) 1 (run_of (step_of f b).framing (store_of f m b) bs) ∙ ap (λ (j : ℕ). shift j (run_of (step_of f b).framing (store_of f m b) bs)) (sym (length-snoc p b));
      }

  is-message : (b : ℕ) (rest : List ℕ) (v : ℕ) → s ≡ p ++ (b ∷ rest) → (step_of f b).answer ≡ Ok (Some v) → Mid f m p → IsMessage f m s p b v (head_of s)
  is-message b rest v l e q = go (head_of s) (head-run q.start s q.room)
    where
      E : run_of fresh q.start s ≡ out (step_of f b).framing (length p + 1) (Ok (Some v)) (store_of f m b)
      E = ap (run_of fresh q.start) l ∙ q.runs (b ∷ rest) ∙ ap (shift (length p)) (step_run f m b rest (Ok (Some v)) e)

      go : (h : Head) → Ran q.start s (framing_of s) (half_of s) h → IsMessage f m s p b v h
      go partly r = apart (Ok None) (Ok (Some v)) is_message refl refl (ap (λ (o : Out). o.got.answer) (sym r.runs ∙ E))
      go (bad k x) r = apart (Err x) (Ok (Some v)) is_message refl refl (ap (λ (o : Out). o.got.answer) (sym r ∙ E))
      go (whole k u) r =
          let F : out fresh (k + u) (Ok (Some u)) r.buffer ≡ out (step_of f b).framing (length p + 1) (Ok (Some v)) (store_of f m b) = sym r.runs ∙ E in
          let x : u ≡ v = the-message u v (ap (λ (o : Out). o.got.answer) F) in
          record {
            k = k;
            head = ap (whole k) x;
            count = ap (λ (j : ℕ). k + j) (sym x) ∙ ap (λ (o : Out). o.got.taken) F;
            body = ap (take v) (ap (λ (o : Out). o.buffer) (sym F)) ∙ ap (λ (j : ℕ). take j r.buffer) (sym x) ∙ r.body ∙ ap (λ (j : ℕ). take j (drop k s)) x;
            anew = ap (λ (o : Out). o.got.framing) (sym F);
          }

  is-refused : (b : ℕ) (rest : List ℕ) (x : Refusal) → s ≡ p ++ (b ∷ rest) → (step_of f b).answer ≡ Err x → Mid f m p → IsRefused f p b x (head_of s)
  is-refused b rest x l e q = go (head_of s) (head-run q.start s q.room)
    where
      E : run_of fresh q.start s ≡ out (step_of f b).framing (length p + 1) (Err x) (store_of f m b)
      E = ap (run_of fresh q.start) l ∙ q.runs (b ∷ rest) ∙ ap (shift (length p)) (step_run f m b rest (Err x) e)

      go : (h : Head) → Ran q.start s (framing_of s) (half_of s) h → IsRefused f p b x h
      go partly r = apart (Ok None) (Err x) is_refusal refl refl (ap (λ (o : Out). o.got.answer) (sym r.runs ∙ E))
      go (whole k u) r = apart (Ok (Some u)) (Err x) is_refusal refl refl (ap (λ (o : Out). o.got.answer) (sym r.runs ∙ E))
      go (bad k y) r =
          let F : out Shut k (Err y) q.start ≡ out (step_of f b).framing (length p + 1) (Err x) (store_of f m b) = sym r ∙ E in
          record {
            k = k;
            head = ap (bad k) (the-refusal y x (ap (λ (o : Out). o.got.answer) F));
            count = ap (λ (o : Out). o.got.taken) F;
            over = ap (λ (o : Out). o.got.framing) (sym F);
          }

  -- all bytes are read: the connection stands as they say
  is-part : s ≡ p → Mid f m p → IsPart f m s (head_of s)
  is-part l q = go (head_of s) (head-run q.start s q.room)
    where
      E : run_of fresh q.start s ≡ out f (length p + 0) (Ok None) m
      E = ap (run_of fresh q.start) (l ∙ sym (append-nil p)) ∙ q.runs [] ∙ ap (shift (length p)) (run-nil f m)

      go : (h : Head) → Ran q.start s (framing_of s) (half_of s) h → IsPart f m s h
      go (whole k u) r = apart (Ok None) (Ok (Some u)) is_message refl refl (ap (λ (o : Out). o.got.answer) (sym E ∙ r.runs))
      go (bad k y) r = apart (Ok None) (Err y) is_refusal refl refl (ap (λ (o : Out). o.got.answer) (sym E ∙ r))
      go partly r =
          let F : out (framing_of s) (length s) (Ok None) r.buffer ≡ out f (length p + 0) (Ok None) m = sym r.runs ∙ E in
          record { head = refl; framing = ap (λ (o : Out). o.got.framing) (sym F); half = ap (λ (o : Out). take (length (half_of s)) o.buffer) (sym F) ∙ r.there }

-- after an event the next message begins
mid-fresh : (f : Framing) (m : List ℕ) → f ≡ fresh → most_body ≤ length m → Mid f m []
mid-fresh f m e r = record { start = m; room = r; runs = λ bs. ap (λ (x : Framing). run_of x m bs) (sym e) ∙ shift_zero (run_of f m bs) }

-- ---- a connection and its wire: it has read the bytes p since the last event, and `rest` is still to come
pub record Rel {P B : Type 0} (l : Line P) (w : Wire P B) (p : List ℕ) (rest : List (Act B)) : Type 0 where
  pub who : l.who ≡ w.who
  pub left : w.left ≡ bytes p rest
  pub shut : is_shut l.framing ≡ w.shut
  pub place : l.taken ≡ w.taken + cond w.shut 0 (length p)
  pub mid : w.shut ≡ false → Mid l.framing l.buffer p

module _ {P B : Type 0} (l : Line P) (w : Wire P B) (p : List ℕ) (rest : List (Act B)) (r : Rel l w p rest) where
  read-so-far : leading rest ≡ [] → leading w.left ≡ p
  read-so-far e = ap leading r.left ∙ leading-bytes p rest ∙ ap (λ (s : List ℕ). p ++ s) e ∙ append-nil p

  -- at the next act, and at the end
  rel-stands : leading rest ≡ [] → l ≡ standing w l.buffer
  rel-stands e = go w.shut refl
    where
      s : List ℕ
      s = leading w.left

      is : (f : Framing) (n : ℕ) → l.framing ≡ f → l.taken ≡ n → l ≡ record { who = w.who; framing = f; buffer = l.buffer; taken = n }
      is f n a b = λ i. record { who = r.who i; framing = a i; buffer = l.buffer; taken = b i }

      go : (t : Bool) → w.shut ≡ t → l ≡ standing w l.buffer
      go true h =
          is (cond w.shut Shut (framing_of s)) (w.taken + cond w.shut 0 (length s))
          (shut-only l.framing (r.shut ∙ h) ∙ sym (ap (λ (t : Bool). cond t Shut (framing_of s)) h))
          (r.place ∙ ap (λ (t : Bool). w.taken + cond t 0 (length p)) h ∙ sym (ap (λ (t : Bool). w.taken + cond t 0 (length s)) h))
      go false h =
          is (cond w.shut Shut (framing_of s)) (w.taken + cond w.shut 0 (length s))
          ((is-part l.framing l.buffer s p (read-so-far e) (r.mid h)).framing ∙ sym (ap (λ (t : Bool). cond t Shut (framing_of s)) h))
          (r.place ∙ ap (λ (q : List ℕ). w.taken + cond w.shut 0 (length q)) (sym (read-so-far e)))

  rel-half : leading rest ≡ [] → w.shut ≡ false → take (length (half_of (leading w.left))) l.buffer ≡ half_of (leading w.left)
  rel-half e h = (is-part l.framing l.buffer (leading w.left) p (read-so-far e) (r.mid h)).half

  rel-done : pending rest ≡ [] → pending w.left ≡ []
  rel-done e = ap pending r.left ∙ pending-bytes p rest ∙ e

  rel-part : leading rest ≡ [] → w.shut ≡ false → head_of (leading w.left) ≡ partly
  rel-part e h = (is-part l.framing l.buffer (leading w.left) p (read-so-far e) (r.mid h)).head

  rel-partly : leading rest ≡ [] → cond w.shut partly (head_of (leading w.left)) ≡ partly
  rel-partly e = cond_ind (λ (h : Head). h ≡ partly) w.shut partly (head_of (leading w.left)) (λ h. refl) (λ h. rel-part e h)

cond-shut : (z : Bool) (f : Framing) → is_shut f ≡ false → is_shut (cond z Shut f) ≡ z
cond-shut true f h = refl
cond-shut false f h = h

none : (t : Bool) (n : ℕ) → n + cond t 0 0 ≡ n
none true n = add-zero n
none false n = add-zero n

module _ {P A B O : Type 0} (L : Layer P A B O) where
  abbrev Here : Type 0
  Here = Did (Line P) (Shared A O)

  -- ---- a byte
  module _ (i : ℕ) (d : Here) (w : Wire P B) (p : List ℕ) (b : ℕ) (rest : List (Act B)) (room : most_body ≤ length d.line.buffer) (r : Rel d.line w p (takes b ∷ rest)) where
    abbrev f : Framing
    f = d.line.framing

    abbrev m : List ℕ
    m = store_of f d.line.buffer b

    abbrev s : List ℕ
    s = leading w.left

    abbrev did : Here
    did = byte L i d b

    abbrev then : Did (Wire P B) A
    then = next L i (record { line = w; shared = d.shared.state })

    long : most_body ≤ length m
    long = let e : length m ≡ length d.line.buffer = store_length f d.line.buffer b in omega arith

    string : s ≡ p ++ (b ∷ leading rest)
    string = ap leading r.left ∙ leading-bytes p (takes b ∷ rest) ∙ ap (λ (x : List ℕ). p ++ x) (leading-takes b rest)

    rest-is : (n : ℕ) → n ≡ length p + 1 → drop n w.left ≡ rest
    rest-is n e = ap (λ (j : ℕ). drop j w.left) (e ∙ sym (length-snoc p b)) ∙ ap (drop (length (p ++ (b ∷ [])))) (r.left ∙ bytes-snoc p b rest) ∙ drop-bytes (p ++ (b ∷ [])) rest

    placed : w.shut ≡ false → d.line.taken ≡ w.taken + length p
    placed h = r.place ∙ ap (λ (t : Bool). w.taken + cond t 0 (length p)) h

    abbrev Goes : Did (Wire P B) A → Type 0
    Goes x = (did.shared.state ≡ x.shared) × Rel did.line x.line [] rest

    by_next : (h : Head) → w.shut ≡ false → head_of s ≡ h → Goes (by_head L h i w d.shared.state) → Goes then
    by_next h e q g = subst Goes (sym (ap (λ (t : Bool). by_head L (cond t partly (head_of s)) i w d.shared.state) e ∙ ap (λ (x : Head). by_head L x i w d.shared.state) q)) g

    event-message : (v : ℕ) → w.shut ≡ false → (step_of f b).answer ≡ Ok (Some v) → Goes then
    event-message v h e =
        let q : IsMessage f d.line.buffer s p b v (head_of s) = is-message f d.line.buffer s p b (leading rest) v string e (r.mid h) in
        let o : Out = out (step_of f b).framing 1 (Ok (Some v)) m in
        let D : did ≡ lands L i d o = byte-by L i d b (Ok (Some v)) e (r.shut ∙ h) in
        let place : d.line.taken ≡ w.taken + length p = placed h in
        let count : q.k + v ≡ length p + 1 = q.count in
        let pos : d.line.taken + 1 ≡ w.taken + (q.k + v) = omega arith in
        let ew : Event = message (w.taken + (q.k + v)) (take v (drop q.k s)) in
        let E : message (d.line.taken + 1) (take v m) ≡ ew = λ j. message (pos j) (q.body j) in
        let t : Bool = L.stops i w.who d.shared.state ew in
        let X : Did (Wire P B) A = dealt L i w d.shared.state (q.k + v) ew t in
        let S : L.stops i d.line.who d.shared.state (message (d.line.taken + 1) (take v m)) ≡ t = λ j. L.stops i (r.who j) d.shared.state (E j) in
        let R : Rel (lands L i d o).line X.line [] rest =
        record {
          who = r.who;
          left = rest-is (q.k + v) count ∙ sym (bytes-none rest);
          shut = cond-shut (L.stops i d.line.who d.shared.state (message (d.line.taken + 1) (take v m))) (step_of f b).framing (ap is_shut q.anew) ∙ S;
          place = pos ∙ sym (none t (w.taken + (q.k + v)));
          mid = λ g. mid-fresh _ m (ap (λ (z : Bool). cond z Shut (step_of f b).framing) (S ∙ g) ∙ q.anew) long;
        } in
        by_next (whole q.k v) h q.head
        (ap (λ (x : Here). x.shared.state) D ∙ (λ j. L.put i (r.who j) d.shared.state (E j)), subst (λ (x : Here). Rel x.line X.line [] rest) (sym D) R)

    event-refused : (x : Refusal) → w.shut ≡ false → (step_of f b).answer ≡ Err x → Goes then
    event-refused x h e =
        let q : IsRefused f p b x (head_of s) = is-refused f d.line.buffer s p b (leading rest) x string e (r.mid h) in
        let o : Out = out (step_of f b).framing 1 (Err x) m in
        let D : did ≡ lands L i d o = byte-by L i d b (Err x) e (r.shut ∙ h) in
        let place : d.line.taken ≡ w.taken + length p = placed h in
        let count : q.k ≡ length p + 1 = q.count in
        let pos : d.line.taken + 1 ≡ w.taken + q.k = omega arith in
        let X : Did (Wire P B) A = dealt L i w d.shared.state q.k (refused (w.taken + q.k) x) true in
        let R : Rel (lands L i d o).line X.line [] rest =
        record { who = r.who; left = rest-is q.k count ∙ sym (bytes-none rest); shut = ap is_shut q.over; place = pos ∙ sym (none true (w.taken + q.k)); mid = λ g. absurd (true≢false g) } in
        by_next (bad q.k x) h q.head
        (ap (λ (y : Here). y.shared.state) D ∙ (λ j. L.put i (r.who j) d.shared.state (refused (pos j) x)), subst (λ (y : Here). Rel y.line X.line [] rest) (sym D) R)

    -- a byte that is no event
    quiet-rel : is_more (step_of f b).answer ≡ true → (did.shared.state ≡ d.shared.state) × Rel did.line w (p ++ (b ∷ [])) rest
    quiet-rel n = go w.shut refl (step_of f b).answer refl
      where
        go : (t : Bool) → w.shut ≡ t → (q : Result (Option ℕ) Refusal) → (step_of f b).answer ≡ q → (did.shared.state ≡ d.shared.state) × Rel did.line w (p ++ (b ∷ [])) rest
        go true h q e =
            let D : did ≡ d = byte-shut L i d b (r.shut ∙ h) in (
              ap (λ (y : Here). y.shared.state) D,
              subst (λ (y : Here). Rel y.line w (p ++ (b ∷ [])) rest) (sym D)
                  (record {
                    who = r.who;
                    left = r.left ∙ bytes-snoc p b rest;
                    shut = r.shut;
                    place = r.place ∙ ap (λ (t : Bool). w.taken + cond t 0 (length p)) h ∙ sym (ap (λ (t : Bool). w.taken + cond t 0 (length (p ++ (b ∷ [])))) h);
                    mid = λ g. absurd (true≢false (sym h ∙ g));
                  }),
            )
        go false h (Ok (Some v)) e = absurd (true≢false (sym n ∙ ap is_more e))
        go false h (Err x) e = absurd (true≢false (sym n ∙ ap is_more e))
        go false h (Ok None) e =
            let D : did ≡ record { line = step_line L d.line b; shared = d.shared } = byte-by L i d b (Ok None) e (r.shut ∙ h) in
            let place : d.line.taken ≡ w.taken + length p = placed h in
            let n : length (p ++ (b ∷ [])) ≡ length p + 1 = length-snoc p b in
            let pos : d.line.taken + 1 ≡ w.taken + length (p ++ (b ∷ [])) = omega arith in (
              ap (λ (y : Here). y.shared.state) D,
              subst (λ (y : Here). Rel y.line w (p ++ (b ∷ [])) rest) (sym D)
                  (record {
                    who = r.who;
                    left = r.left ∙ bytes-snoc p b rest;
                    shut = step-open f b (r.shut ∙ h) e ∙ sym h;
                    place = pos ∙ sym (ap (λ (t : Bool). w.taken + cond t 0 (length (p ++ (b ∷ [])))) h);
                    mid = λ g. mid-more f d.line.buffer s p b e (r.mid g);
                  }),
            )

    -- a byte that is one
    event-rel : is_more (step_of f b).answer ≡ false → Goes then
    event-rel n = go w.shut refl (step_of f b).answer refl
      where
        shut-more : is_shut f ≡ true → is_more (step_of f b).answer ≡ true
        shut-more h = ap (λ (x : Framing). is_more (step_of x b).answer) (shut-only f h)

        go : (t : Bool) → w.shut ≡ t → (q : Result (Option ℕ) Refusal) → (step_of f b).answer ≡ q → Goes then
        go true h q e = absurd (false≢true (sym n ∙ shut-more (r.shut ∙ h)))
        go false h (Ok (Some v)) e = event-message v h e
        go false h (Err x) e = event-refused x h e
        go false h (Ok None) e = absurd (false≢true (sym n ∙ ap is_more e))

  -- ---- an act
  module _ {Peer : P → Type 0} {Fits : B → Type 0} (K : Blunt L Peer Fits) where
    act-rel : (i : ℕ) (d : Here) (w : Wire P B) (p : List ℕ) (b : B) (rest : List (Act B)) → Fits b → Fine Peer d.line → most_body ≤ length (acted L i b d).line.buffer → Rel d.line w p (acts b ∷ rest)
        → ((acted L i b d).shared.state ≡ (next L i (record { line = w; shared = d.shared.state })).shared)
        × Rel (acted L i b d).line (next L i (record { line = w; shared = d.shared.state })).line [] rest
    act-rel i d w p b rest fit fine room r =
        let a : A = d.shared.state in
        let none_left : leading (acts b ∷ rest) ≡ [] = leading-acts b rest in
        let l : d.line ≡ standing w d.line.buffer = rel-stands d.line w p (acts b ∷ rest) r none_left in
        let e : Did (Line P) A = L.act i b (standing w []) a in
        let X : Did (Wire P B) A = record { line = record { who = e.line.who; shut = is_shut e.line.framing; taken = e.line.taken; left = rest }; shared = e.shared } in
        let N : next L i (record { line = w; shared = a }) ≡ X =
        ap (λ (h : Head). by_head L h i w a) (rel-partly d.line w p (acts b ∷ rest) r none_left)
        ∙ ap (λ (x : List (Act B)). act_next L x i w a) (ap pending r.left ∙ pending-bytes p (acts b ∷ rest) ∙ pending-acts b rest) in
        let same : L.act i b d.line a ≡ L.act i b (standing w d.line.buffer) a = ap (λ (x : Line P). L.act i b x a) l in
        let g : Did (Line P) A = L.act i b d.line a in
        let fr : g.line.framing ≡ e.line.framing = ap (λ (x : Did (Line P) A). x.line.framing) same ∙ K.framing i b w d.line.buffer a fit in
        let R : Rel g.line X.line [] rest =
        record {
          who = ap (λ (x : Did (Line P) A). x.line.who) same ∙ K.who i b w d.line.buffer a fit;
          left = sym (bytes-none rest);
          shut = ap is_shut fr;
          place = ap (λ (x : Did (Line P) A). x.line.taken) same ∙ K.taken i b w d.line.buffer a fit ∙ sym (none (is_shut e.line.framing) e.line.taken);
          mid = λ z. mid-fresh g.line.framing g.line.buffer (K.anew i b d.line a fit fine (ap is_shut fr ∙ z)) room;
        } in (
          ap (λ (x : Did (Line P) A). x.shared) same ∙ K.state i b w d.line.buffer a fit ∙ sym (ap (λ (x : Did (Wire P B) A). x.shared) N),
          subst (λ (x : Did (Wire P B) A). Rel g.line x.line [] rest) (sym N) R,
        )

  -- ---- all connections
  abbrev Rels : World P A O → Sys (Wire P B) A → (ℕ → List ℕ) → (ℕ → List (Act B)) → Type 0
  Rels s w p rest = (i : ℕ) → Rel (s.lines i) (w.lines i) (p i) (rest i)

  -- the lines and wires after a step on line i
  rels-after : (s : World P A O) (w : Sys (Wire P B) A) (p : ℕ → List ℕ) (xs : List (Step (Act B) O)) (i : ℕ) (b : Act B) (l : Line P) (wi : Wire P B) (pi : List ℕ)
      → Rels s w p (λ j. cond (eqb j i) (b ∷ acts_of j xs) (acts_of j xs)) → Rel l wi pi (acts_of i xs)
      → (j : ℕ) → Rel (set_at s.lines i l j) (set_at w.lines i wi j) (set_at p i pi j) (acts_of j xs)
  rels-after s w p xs i b l wi pi h k j = go (eqb j i) refl (h j)
    where
      go : (t : Bool) → eqb j i ≡ t → Rel (s.lines j) (w.lines j) (p j) (cond t (b ∷ acts_of j xs) (acts_of j xs))
          → Rel (cond t l (s.lines j)) (cond t wi (w.lines j)) (cond t pi (p j)) (acts_of j xs)
      go true e g = subst (λ (n : ℕ). Rel l wi pi (acts_of n xs)) (sym (eqb-true j i e)) k
      go false e g = g

  own-rel : (s : World P A O) (w : Sys (Wire P B) A) (p : ℕ → List ℕ) (xs : List (Step (Act B) O)) (i : ℕ) (b : Act B) → Rels s w p (λ j. cond (eqb j i) (b ∷ acts_of j xs) (acts_of j xs))
      → Rel (s.lines i) (w.lines i) (p i) (b ∷ acts_of i xs)
  own-rel s w p xs i b h = subst (λ (t : Bool). Rel (s.lines i) (w.lines i) (p i) (cond t (b ∷ acts_of i xs) (acts_of i xs))) (eq-eqb i i refl) (h i)

  module _ {Peer : P → Type 0} {Good : A → Type 0} {Fits : B → Type 0} (S : Sound L Peer Good Fits) (K : Blunt L Peer Fits) where
    unfoldable FitSteps : List (Step (Act B) O) → Type 0
    FitSteps [] = Unit {0}
    FitSteps (at i (takes b) ∷ xs) = FitSteps xs
    FitSteps (at i (acts b) ∷ xs) = Fits b × FitSteps xs
    FitSteps (other o ∷ xs) = FitSteps xs

    fit-taken : (i : ℕ) (bs : List ℕ) (r : List (Step (Act B) O)) → FitSteps r → FitSteps (taken i bs r)
    unfolding FitSteps taken
    fit-taken i [] r h = h
    fit-taken i (b ∷ bs) r h = fit-taken i bs r h

    fit-steps : (cs : List (Call B O)) → AllFit Fits cs → FitSteps (steps cs)
    unfolding FitSteps steps AllFit
    fit-steps [] h = h
    fit-steps (hand i p ∷ cs) h = fit-taken i p (steps cs) (fit-steps cs h)
    fit-steps (does i b ∷ cs) h = (h.0, fit-steps cs h.1)
    fit-steps (asks o ∷ cs) h = fit-steps cs h

    put-ready : (s : World P A O) (i : ℕ) (d : Here) → Ready Peer Good s → Fine Peer d.line → Good d.shared.state → Ready Peer Good (put_back s i d)
    put-ready s i d r f g = record { lines = λ j. cond_ind (Fine Peer) (eqb j i) d.line (s.lines j) (λ e. f) (λ e. r.lines j); good = g }

    abbrev Reads-out : List (Step (Act B) O) → Type 0
    Reads-out xs = (s : World P A O) (w : Sys (Wire P B) A) (p : ℕ → List ℕ) → Ready Peer Good s → s.shared.state ≡ w.shared → Rels s w p (λ j. acts_of j xs)
        → ReadOut (plainly L w (marks (rules L) s xs)) (run (rules L) s xs)

    -- an event on line i, in both readings
    after-event : (xs : List (Step (Act B) O)) (s : World P A O) (w : Sys (Wire P B) A) (p : ℕ → List ℕ) (i : ℕ) (b : Act B) (d : Here) → Reads-out xs
        → Ready Peer Good (put_back s i d) → s.shared.state ≡ w.shared → Rels s w p (λ j. cond (eqb j i) (b ∷ acts_of j xs) (acts_of j xs))
        → (d.shared.state ≡ (next L i (record { line = w.lines i; shared = s.shared.state })).shared) × Rel d.line (next L i (record { line = w.lines i; shared = s.shared.state })).line [] (acts_of i xs)
        → ReadOut (plainly L w (happened i ∷ marks (rules L) (put_back s i d) xs)) (run (rules L) (put_back s i d) xs)
    unfolding plainly
    after-event xs s w p i b d ih r e h k =
        let c : next L i (record { line = w.lines i; shared = s.shared.state }) ≡ next L i (here w i) = ap (λ (a : A). next L i (record { line = w.lines i; shared = a })) e in
        let g = rels-after s w p xs i b d.line (next L i (record { line = w.lines i; shared = s.shared.state })).line [] h k.1 in
        ih (put_back s i d) (put_back w i (next L i (here w i))) (set_at p i []) r (k.0 ∙ ap (λ (z : Did (Wire P B) A). z.shared) c)
        (λ j. subst (λ (z : Did (Wire P B) A). Rel ((put_back s i d).lines j) (set_at w.lines i z.line j) (set_at p i [] j) (acts_of j xs)) c (g j))

    plain-run : (xs : List (Step (Act B) O)) → FitSteps xs → Reads-out xs
    unfolding run marks plainly acts_of step byte FitSteps
    plain-run [] fit s w p r e h =
        record {
          state = e;
          lines = λ i. record {
            done = rel-done (s.lines i) (w.lines i) (p i) [] (h i) (pending-none B);
            part = rel-part (s.lines i) (w.lines i) (p i) [] (h i) (leading-none B);
            stands = rel-stands (s.lines i) (w.lines i) (p i) [] (h i) (leading-none B);
            half = rel-half (s.lines i) (w.lines i) (p i) [] (h i) (leading-none B);
          };
        }
    plain-run (at i (takes b) ∷ xs) fit s w p r e h = go (is_more (step_of (s.lines i).framing b).answer) refl (plain-run xs fit)
      where
        R : Rel (s.lines i) (w.lines i) (p i) (takes b ∷ acts_of i xs)
        R = own-rel s w p xs i (takes b) h

        d : Here
        d = byte L i (here s i) b

        s₁ : World P A O
        s₁ = put_back s i d

        r₁ : Ready Peer Good s₁
        r₁ = let v = byte-well L S i (here s i) b (record { line = r.lines i; good = r.good }) in put-ready s i d r v.line v.good

        go : (t : Bool) → is_more (step_of (s.lines i).framing b).answer ≡ t → Reads-out xs
            → ReadOut (plainly L w (cond (is_more (step_of (s.lines i).framing b).answer) (marks (rules L) s₁ xs) (happened i ∷ marks (rules L) s₁ xs))) (run (rules L) s₁ xs)
        go true n ih =
            let k = quiet-rel i (here s i) (w.lines i) (p i) b (acts_of i xs) (r.lines i).room R n in
            let g = rels-after s w p xs i (takes b) d.line (w.lines i) (p i ++ (b ∷ [])) h k.1 in
            subst (λ (t : Bool). ReadOut (plainly L w (cond t (marks (rules L) s₁ xs) (happened i ∷ marks (rules L) s₁ xs))) (run (rules L) s₁ xs)) (sym n)
            (ih s₁ w (set_at p i (p i ++ (b ∷ []))) r₁ (k.0 ∙ e)
            (λ j. subst (λ (z : Wire P B). Rel (s₁.lines j) z (set_at p i (p i ++ (b ∷ [])) j) (acts_of j xs)) (set_same w.lines i j) (g j)))
        go false n ih =
            subst (λ (t : Bool). ReadOut (plainly L w (cond t (marks (rules L) s₁ xs) (happened i ∷ marks (rules L) s₁ xs))) (run (rules L) s₁ xs)) (sym n)
            (after-event xs s w p i (takes b) d ih r₁ e h (event-rel i (here s i) (w.lines i) (p i) b (acts_of i xs) (r.lines i).room R n))
    plain-run (at i (acts b) ∷ xs) fit s w p r e h =
        let d : Here = acted L i b (here s i) in
        let f : Fine Peer d.line = S.act-line i b (s.lines i) s.shared.state fit.0 (r.lines i) r.good in
        let g : Good d.shared.state = S.act-good i b (s.lines i) s.shared.state fit.0 (r.lines i) r.good in
        after-event xs s w p i (acts b) d (plain-run xs fit.1) (put-ready s i d r f g) e h
        (act-rel K i (here s i) (w.lines i) (p i) b (acts_of i xs) fit.0 (r.lines i) f.room (own-rel s w p xs i (acts b) h))
    plain-run (other o ∷ xs) fit s w p r e h =
        plain-run xs fit (step (rules L) s (other o)) (record { lines = w.lines; shared = L.host w.shared o }) p
        (record { lines = r.lines; good = S.hosts s.shared.state o r.good }) (ap (λ (a : A). L.host a o) e) h

    pub read_out : (s : World P A O) → Ready Peer Good s → ((i : ℕ) → is_shut (s.lines i).framing ≡ false → (s.lines i).framing ≡ fresh) → s.shared.order ≡ []
        → (cs : List (Call B O)) → AllFit Fits cs → ReadOut (plainly L (unread s cs) (calls L s cs).shared.order) (calls L s cs)
    read_out s r g n cs h =
        let q : calls L s cs ≡ run (rules L) s (steps cs) = calls-steps L S cs s r h in
        let o : (calls L s cs).shared.order ≡ marks (rules L) s (steps cs) =
        ap (λ (w : World P A O). w.shared.order) q ∙ run-order L S (steps cs) s ∙ ap (λ (l : List (Mark O)). l ++ marks (rules L) s (steps cs)) n in
        let R : (i : ℕ) → Rel (s.lines i) ((unread s cs).lines i) [] (acts_of i (steps cs)) =
        λ i. record {
          who = refl;
          left = given-steps cs i ∙ sym (bytes-none (acts_of i (steps cs)));
          shut = refl;
          place = sym (none (is_shut (s.lines i).framing) (s.lines i).taken);
          mid = λ z. mid-fresh (s.lines i).framing (s.lines i).buffer (g i z) (r.lines i).room;
        } in
        subst (λ (w : World P A O). ReadOut (plainly L (unread s cs) (calls L s cs).shared.order) w) (sym q)
        (subst (λ (ms : List (Mark O)). ReadOut (plainly L (unread s cs) ms) (run (rules L) s (steps cs))) (sym o)
        (plain-run (steps cs) (fit-steps cs h) s (unread s cs) (λ i. []) r refl R))

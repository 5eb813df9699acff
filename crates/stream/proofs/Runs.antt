-- A prefix read in one go, and a body copied in one go, are the fold of their bytes. Assumes nothing.
use Prim.Native.Nat.{ℕ, zero, suc, ◌+◌, ◌-◌, ◌≤◌, ◌<◌}
use mathlib.Core.Path.{◌≡◌, refl, sym, ap, ◌∙◌}
use mathlib.Core.List.{List, [], ◌∷◌}
use mathlib.Core.Bool.{true, false, cond, true≢false, false≢true}
use native.Mathlib.Nat.{add-zero, zero-add, not-suc-le-zero, add_assoc}
use native.Mathlib.Numerals.{one-add, add-one}
use native.Mathlib.Omega.{arith}
use lib.ListN.{length, take, drop, set, get_or, length-drop, drop_of_length-le}
use lib.Seq.{sets, drop-cons, take_all}
use lib.Dec.{eqb}
use borrow.Author.Tests.{eq-eqb, ne_eqb}
use Rattle.octets.specs.Octets.{part}
use Rattle.octets.proofs.Bools.{cond_yes, cond_no, cond-ap}
use Rattle.stream.specs.declared.Held.{Held}
use Rattle.stream.specs.declared.Framing.{Framing}
use Rattle.stream.specs.declared.Framing.TheVariants.{Shut, Prefix, Body}
use Rattle.stream.specs.declared.Lead.{Lead}
use Rattle.stream.specs.declared.Lead.TheVariants.{On, Length}
use Rattle.stream.specs.declared.Prefixed.{Prefixed}
use Rattle.stream.specs.declared.Received.{Received}
use Rattle.stream.specs.Stream.{Stepped, Out, out, shift, after, fresh, stepped, led, step_of, store_of, run_of, Gives, prefix_step, prefixed, later, onward, prefix_of}
use Rattle.stream.specs.Inner.{goes_on, held_of, begun_of}
use Rattle.std.specs.Prelude.{Ok, Err, Some, None, Result}
use Rattle.refusal.specs.declared.Refusal.{Refusal}

-- ---- bytes later
pub shift-shift : (i j : ℕ) (o : Out) → shift i (shift j o) ≡ shift (i + j) o
shift-shift i j o = λ k. out o.got.framing (sym (add_assoc i j o.got.taken) k) o.got.answer o.buffer

pub shift_zero : (o : Out) → o ≡ shift 0 o
shift_zero o = λ k. out o.got.framing (sym (zero-add o.got.taken) k) o.got.answer o.buffer

abbrev pub later_by : ℕ → Prefixed → Prefixed
later_by n p = prefixed (n + p.taken) p.lead

-- ---- the loop over a prefix's bytes
pub record Reading (h₀ : Held) (piece : List ℕ) (h : Held) (i : ℕ) : Type 0 where
  pub within : i ≤ length piece
  pub same : prefix_of h₀ piece ≡ later_by i (prefix_of h (drop i piece))

pub reading : (h : Held) (piece : List ℕ) → Reading h piece h 0
reading h piece = record { within = omega arith; same = λ k. prefixed (sym (zero-add (prefix_of h piece).taken) k) (prefix_of h piece).lead }

prefix-cons : (h : Held) (z : ℕ) (zs : List ℕ) → prefix_of h (z ∷ zs) ≡ onward (prefix_step h z) (λ k. prefix_of k zs)
unfolding prefix_of
prefix-cons h z zs = refl

prefix-nil : (h : Held) → prefix_of h [] ≡ prefixed 0 (Ok (On h))
unfolding prefix_of
prefix-nil h = refl

onward-on : (l : Result Lead Refusal) (next : Held → Prefixed) → goes_on l ≡ true → onward l next ≡ later (next (held_of l))
onward-on (Ok (On h)) next e = refl
onward-on (Ok (Length n)) next e = absurd (false≢true e)
onward-on (Err r) next e = absurd (false≢true e)

onward-off : (l : Result Lead Refusal) (next : Held → Prefixed) → goes_on l ≡ false → onward l next ≡ prefixed 1 l
onward-off (Ok (On h)) next e = absurd (true≢false e)
onward-off (Ok (Length n)) next e = refl
onward-off (Err r) next e = refl

module _ (h₀ : Held) (piece : List ℕ) (h : Held) (i : ℕ) (g : Reading h₀ piece h i) (l : i < length piece) (x : Result Lead Refusal) (e : x ≡ prefix_step h (get_or piece i 0)) where
  turn : prefix_of h₀ piece ≡ later_by i (onward x (λ k. prefix_of k (drop (i + 1) piece)))
  turn =
      g.same
      ∙ ap (λ (s : List ℕ). later_by i (prefix_of h s)) (drop-cons piece i 0 l)
      ∙ ap (later_by i) (prefix-cons h (get_or piece i 0) (drop (suc i) piece))
      ∙ (λ j. later_by i (onward (sym e j) (λ k. prefix_of k (drop (sym (add-one i) j) piece))))

  pub read-on : (h' : Held) → goes_on x ≡ true → h' ≡ held_of x → Reading h₀ piece h' (i + 1)
  read-on h' t q =
      record {
        within = omega arith;
        same = turn ∙ ap (later_by i) (onward-on x _ t) ∙ (λ j. let p = prefix_of (sym q j) (drop (i + 1) piece) in prefixed (sym (add_assoc i 1 p.taken) j) p.lead);
      }

  pub read_off : goes_on x ≡ false → prefixed (i + 1) x ≡ prefix_of h₀ piece
  read_off t = sym (turn ∙ ap (later_by i) (onward-off x _ t))

pub read_out : (h₀ : Held) (piece : List ℕ) (h : Held) (i : ℕ) → Reading h₀ piece h i → length piece ≤ i → prefixed i (Ok (On h)) ≡ prefix_of h₀ piece
read_out h₀ piece h i g l =
    sym (g.same ∙ ap (λ (s : List ℕ). later_by i (prefix_of h s)) (drop_of_length-le piece l) ∙ ap (later_by i) (prefix-nil h) ∙ (λ j. prefixed (add-zero i j) (Ok (On h))))

-- a prefix has no more bytes than are there
onward-within : (l : Result Lead Refusal) (next : Held → Prefixed) (n : ℕ) → ((h : Held) → (next h).taken ≤ n) → (onward l next).taken ≤ suc n
onward-within (Ok (On h)) next n f = let q : (next h).taken ≤ n = f h in omega arith
onward-within (Ok (Length k)) next n f = omega arith
onward-within (Err r) next n f = omega arith

pub prefix-within : (bs : List ℕ) (h : Held) → (prefix_of h bs).taken ≤ length bs
unfolding prefix_of
prefix-within [] h = omega arith
prefix-within (z ∷ zs) h = onward-within (prefix_step h z) (λ k. prefix_of k zs) (length zs) (λ k. prefix-within zs k)

-- ---- the fold over a prefix's bytes goes by what the prefix leads to
abbrev pub leads : Result Lead Refusal → ℕ → List ℕ → List ℕ → Out
leads (Ok (On h)) k m bs = out (Prefix h) k (Ok None) m
leads (Ok (Length n)) k m bs = begun_of n k m bs
leads (Err r) k m bs = out Shut k (Err r) m

pub run-nil : (f : Framing) (m : List ℕ) → run_of f m [] ≡ out f 0 (Ok None) m
unfolding run_of
run-nil f m = refl

pub run-cons : (f : Framing) (m : List ℕ) (b : ℕ) (bs : List ℕ) → run_of f m (b ∷ bs) ≡ after (step_of f b).answer (step_of f b).framing (store_of f m b) (run_of (step_of f b).framing (store_of f m b) bs)
unfolding run_of
run-cons f m b bs = refl

abbrev goes : Stepped → List ℕ → List ℕ → Out
goes s m bs = after s.answer s.framing m (run_of s.framing m bs)

leads-later : (l : Result Lead Refusal) (k : ℕ) (m : List ℕ) (b : ℕ) (bs : List ℕ) → shift 1 (leads l k m bs) ≡ leads l (1 + k) m (b ∷ bs)
leads-later (Ok (On h)) k m b bs = refl
leads-later (Err r) k m b bs = refl
leads-later (Ok (Length n)) k m b bs =
    cond-ap (shift 1) (eqb n 0) (out fresh k (Ok (Some 0)) m) (shift k (run_of (Body n 0) m (drop k bs)))
    ∙ ap (cond (eqb n 0) (out fresh (1 + k) (Ok (Some 0)) m)) (shift-shift 1 k (run_of (Body n 0) m (drop k bs)) ∙ ap (λ (j : ℕ). shift (1 + k) (run_of (Body n 0) m (drop j (b ∷ bs)))) (sym (one-add k)))

pub run-prefix : (bs : List ℕ) (h : Held) (m : List ℕ) → run_of (Prefix h) m bs ≡ leads (prefix_of h bs).lead (prefix_of h bs).taken m bs
run-prefix [] h m = run-nil (Prefix h) m ∙ ap (λ (p : Prefixed). leads p.lead p.taken m []) (sym (prefix-nil h))
run-prefix (z ∷ zs) h m =
    run-cons (Prefix h) m z zs ∙ go (prefix_step h z) (run-prefix zs) ∙ ap (λ (p : Prefixed). leads p.lead p.taken m (z ∷ zs)) (sym (prefix-cons h z zs))
  where
    go : (l : Result Lead Refusal) → ((k : Held) (m : List ℕ) → run_of (Prefix k) m zs ≡ leads (prefix_of k zs).lead (prefix_of k zs).taken m zs)
        → goes (led l) m zs ≡ leads (onward l (λ k. prefix_of k zs)).lead (onward l (λ k. prefix_of k zs)).taken m (z ∷ zs)
    go (Ok (On k)) ih = ap (shift 1) (ih k m) ∙ leads-later (prefix_of k zs).lead (prefix_of k zs).taken m z zs
    go (Err r) ih = refl
    go (Ok (Length n)) ih = cond-ap (λ (s : Stepped). goes s m zs) (eqb n 0) (stepped fresh (Ok (Some 0))) (stepped (Body n 0) (Ok None))

-- ---- the fold over a body's bytes
body_more : (want k : ℕ) (m : List ℕ) (b : ℕ) (bs : List ℕ) → (suc k ≡ want → ⊥) → run_of (Body want k) m (b ∷ bs) ≡ shift 1 (run_of (Body want (suc k)) (set m k b) bs)
body_more want k m b bs h =
    run-cons (Body want k) m b bs ∙ ap (λ (s : Stepped). goes s (set m k b) bs) (cond_no (eqb (suc k) want) (stepped fresh (Ok (Some want))) (stepped (Body want (suc k)) (Ok None)) (ne_eqb _ _ h))

body-last : (want k : ℕ) (m : List ℕ) (b : ℕ) (bs : List ℕ) → suc k ≡ want → run_of (Body want k) m (b ∷ bs) ≡ out fresh 1 (Ok (Some want)) (set m k b)
body-last want k m b bs h =
    run-cons (Body want k) m b bs ∙ ap (λ (s : Stepped). goes s (set m k b) bs) (cond_yes (eqb (suc k) want) (stepped fresh (Ok (Some want))) (stepped (Body want (suc k)) (Ok None)) (eq-eqb _ _ h))

-- a part of a body
pub body-part : (want k : ℕ) (m bs : List ℕ) → k + length bs < want → run_of (Body want k) m bs ≡ out (Body want (k + length bs)) (length bs) (Ok None) (sets m k bs)
body-part want k m [] h = run-nil (Body want k) m ∙ (λ i. out (Body want (sym (add-zero k) i)) 0 (Ok None) m)
body-part want k m (b ∷ bs) h =
    let e : k + suc (length bs) ≡ suc k + length bs = omega arith in
    body_more want k m b bs (λ q. omega arith)
    ∙ ap (shift 1) (body-part want (suc k) (set m k b) bs (omega arith))
    ∙ (λ i. out (Body want (sym e i)) (one-add (length bs) i) (Ok None) (sets (set m k b) (suc k) bs))

-- the end of a body: suc n bytes of it are still to come, and are there
pub body-whole : (want k n : ℕ) (m bs : List ℕ) → want ≡ k + suc n → n < length bs → run_of (Body want k) m bs ≡ out fresh (suc n) (Ok (Some want)) (sets m k (take (suc n) bs))
body-whole want k n m [] h l = absurd (not-suc-le-zero l)
body-whole want k zero m (b ∷ bs) h l = body-last want k m b bs (omega arith)
body-whole want k (suc n) m (b ∷ bs) h l =
    body_more want k m b bs (λ q. omega arith)
    ∙ ap (shift 1) (body-whole want (suc k) n (set m k b) bs (omega arith) (omega arith))
    ∙ (λ i. out fresh (one-add (suc n) i) (Ok (Some want)) (sets (set m k b) (suc k) (take (suc n) bs)))

-- ---- what `read_body` does: the bytes of a piece from a place on
module _ (want have from : ℕ) (m piece : List ℕ) (h : have < want) (w : from ≤ length piece) where
  abbrev rest : List ℕ
  rest = drop from piece

  rest-length : length rest ≡ length piece - from
  rest-length = length-drop from piece

  abbrev through : Out
  through = shift from (run_of (Body want have) m rest)

  pub gives_part : (m' : List ℕ) → length piece - from < want - have → m' ≡ sets m have (part piece from (length piece))
      → Gives through (record { framing = Body want (have + (length piece - from)); taken = length piece; answer = (Ok None) }) m'
  gives_part m' l e =
      let d = rest-length in
      let t : part piece from (length piece) ≡ rest = take_all (length piece - from) rest (omega arith) in
      let n : from + length rest ≡ length piece = omega arith in
      let q : through ≡ out (Body want (have + (length piece - from))) (length piece) (Ok None) (sets m have rest) =
      ap (shift from) (body-part want have m rest (omega arith)) ∙ (λ i. out (Body want (have + d i)) (n i) (Ok None) (sets m have rest)) in
      record { got = ap (λ (o : Out). o.got) (sym q); buffer = e ∙ ap (sets m have) t ∙ ap (λ (o : Out). o.buffer) (sym q) }

  pub gives_whole : (f : Framing) (m' : List ℕ) → want - have ≤ length piece - from → f ≡ fresh → m' ≡ sets m have (part piece from (from + (want - have)))
      → Gives through (record { framing = f; taken = from + (want - have); answer = (Ok (Some want)) }) m'
  gives_whole f m' l g e =
      let d = rest-length in
      let n : ℕ = want - suc have in
      let s : want - have ≡ suc n = omega arith in
      let u : from + (want - have) - from ≡ suc n = omega arith in
      let q : through ≡ out fresh (from + suc n) (Ok (Some want)) (sets m have (take (suc n) rest)) =
      ap (shift from) (body-whole want have n m rest (omega arith) (omega arith)) in
      record {
        got = (λ i. record { framing = g i; taken = from + s i; answer = (Ok (Some want)) }) ∙ ap (λ (o : Out). o.got) (sym q);
        buffer = e ∙ ap (λ (k : ℕ). sets m have (take k rest)) u ∙ ap (λ (o : Out). o.buffer) (sym q);
      }

-- ---- what `start_body` and `read_message` give
pub gives-empty : (n k : ℕ) (m bs : List ℕ) (f : Framing) → n ≡ 0 → f ≡ fresh → Gives (begun_of n k m bs) (record { framing = f; taken = k; answer = (Ok (Some 0)) }) m
gives-empty n k m bs f e g =
    rw (cond_yes (eqb n 0) (out fresh k (Ok (Some 0)) m) (shift k (run_of (Body n 0) m (drop k bs))) (eq-eqb n 0 e))
    (record { got = λ i. record { framing = g i; taken = k; answer = (Ok (Some 0)) }; buffer = refl })

pub begun-some : (n k : ℕ) (m bs : List ℕ) → (n ≡ 0 → ⊥) → begun_of n k m bs ≡ shift k (run_of (Body n 0) m (drop k bs))
begun-some n k m bs e = cond_no (eqb n 0) (out fresh k (Ok (Some 0)) m) (shift k (run_of (Body n 0) m (drop k bs))) (ne_eqb n 0 e)

pub gives-begun : (n k : ℕ) (m bs : List ℕ) (r : Received) (m' : List ℕ) → (n ≡ 0 → ⊥) → Gives (shift k (run_of (Body n 0) m (drop k bs))) r m' → Gives (begun_of n k m bs) r m'
gives-begun n k m bs r m' e g = rw (begun-some n k m bs e) g

pub gives-lead : (h : Held) (m bs : List ℕ) (p : Prefixed) (l : Result Lead Refusal) (r : Received) (m' : List ℕ) → p ≡ prefix_of h bs → p.lead ≡ l
    → Gives (leads l p.taken m bs) r m' → Gives (run_of (Prefix h) m bs) r m'
gives-lead h m bs p l r m' e q g =
    rw (run-prefix bs h m ∙ ap (λ (x : Prefixed). leads x.lead x.taken m bs) (sym e) ∙ ap (λ (x : Result Lead Refusal). leads x p.taken m bs) q) g

pub taken-within : (h : Held) (bs : List ℕ) (p : Prefixed) → p ≡ prefix_of h bs → p.taken ≤ length bs
taken-within h bs p e = rw e (prefix-within bs h)

-- a body from the start of a piece
pub gives-body : (want have : ℕ) (m bs : List ℕ) (r : Received) (m' : List ℕ) → Gives (shift 0 (run_of (Body want have) m (drop 0 bs))) r m' → Gives (run_of (Body want have) m bs) r m'
gives-body want have m bs r m' g = rw (shift_zero (run_of (Body want have) m bs)) g

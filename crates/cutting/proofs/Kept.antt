-- What a step and a run keep: form, the buffer's length, an open connection; and how much a run takes. Assumes nothing.
use Prim.Native.Nat.{ℕ, suc, ◌+◌, ◌*◌, ◌%◌, ◌≤◌, ◌<◌}
use mathlib.Core.Path.{◌≡◌, refl, sym, ap, ◌∙◌}
use mathlib.Core.List.{List, [], ◌∷◌}
use mathlib.Core.Bool.{Bool, true, false, cond, not, true≢false, false≢true}
use native.Mathlib.Omega.{arith}
use lib.ListN.{length, length-set}
use lib.Dec.{eqb, ltb, leb}
use borrow.Author.Tests.{le-leb, lt-ltb, ltb-false, eqb-false}
use Rattle.octets.proofs.Bools.{cond_ind, and_i, and_l}
use Rattle.limits.specs.Limits.{most_body}
use Rattle.refusal.specs.declared.Refusal.{Refusal}
use Rattle.refusal.specs.declared.Refusal.TheVariants as no
use Rattle.stream.specs.declared.Held.{Held}
use Rattle.stream.specs.declared.Held.TheVariants.{Nothing, One, Two}
use Rattle.stream.specs.declared.Framing.{Framing}
use Rattle.stream.specs.declared.Framing.TheVariants.{Shut, Prefix, Body}
use Rattle.stream.specs.declared.Lead.{Lead}
use Rattle.stream.specs.declared.Lead.TheVariants.{On, Length}
use Rattle.stream.specs.Stream.{is_shut, held_form, in_form, limited, minimal, prefix_step, Stepped, led, step_of, store_of, Out, after, run_of, stays, receive_of, ended, end_in, end_of}
use Rattle.cutting.specs.World.{is_more}
use Rattle.stream.proofs.Steps.{body-short, body-small}
use Rattle.std.specs.Prelude.{Ok, Err, Some, None, Result, Option}

pub shut-only : (f : Framing) → is_shut f ≡ true → f ≡ Shut
shut-only Shut h = refl
shut-only (Prefix k) h = absurd (false≢true h)
shut-only (Body want have) h = absurd (false≢true h)

-- ---- form
abbrev pub LeadForm : Result Lead Refusal → Type 0
LeadForm (Ok (On h)) = held_form h ≡ true
LeadForm (Ok (Length n)) = n ≤ most_body
LeadForm (Err r) = Unit {0}

limited-form : (n : ℕ) → LeadForm (limited n)
unfolding limited
limited-form n = cond_ind LeadForm (ltb most_body n) _ _ (λ h. tt) (λ h. ltb-false most_body n h)

minimal-form : (z n : ℕ) → LeadForm (minimal z n)
unfolding minimal
minimal-form z n = cond_ind LeadForm (eqb z 0) _ _ (λ h. tt) (λ h. limited-form n)

pub prefix-form : (h : Held) (z : ℕ) → held_form h ≡ true → LeadForm (prefix_step h z)
unfolding prefix_step
prefix-form Nothing z g = cond_ind LeadForm (ltb z 128) _ _ (λ h. limited-form z) (λ h. le-leb 128 z (ltb-false z 128 h))
prefix-form (One a) z g =
    cond_ind LeadForm (ltb z 128) _ _ (λ h. minimal-form z (a % 128 + z * 128)) (λ h. and_i (leb 128 a) (leb 128 z) g (le-leb 128 z (ltb-false z 128 h)))
prefix-form (Two a b) z g = cond_ind LeadForm (ltb z 128) _ _ (λ h. minimal-form z (a % 128 + b % 128 * 128 + z * 16384)) (λ h. tt)

InForm : Stepped → Type 0
InForm s = in_form s.framing ≡ true

pos_of : (n : ℕ) → eqb n 0 ≡ false → 0 < n
pos_of n k = let h : n ≡ 0 → ⊥ = eqb-false n 0 k in omega arith

led-form : (l : Result Lead Refusal) → LeadForm l → InForm (led l)
unfolding InForm
led-form (Ok (On h)) g = g
led-form (Ok (Length n)) g = cond_ind InForm (eqb n 0) _ _ (λ h. refl) (λ h. and_i (leb n most_body) (ltb 0 n) (le-leb n most_body g) (lt-ltb 0 n (pos_of n h)))
led-form (Err r) g = refl

pub step-form : (f : Framing) (b : ℕ) → in_form f ≡ true → in_form (step_of f b).framing ≡ true
unfolding InForm
step-form Shut b g = refl
step-form (Prefix h) b g = led-form (prefix_step h b) (prefix-form h b g)
step-form (Body want have) b g =
    let l : have < want = body-short want have g in
    cond_ind InForm (eqb (suc have) want) _ _ (λ h. refl)
    (λ h. let n : suc have ≡ want → ⊥ = eqb-false (suc have) want h in
    and_i (leb want most_body) (ltb (suc have) want) (and_l (leb want most_body) (ltb have want) g) (lt-ltb (suc have) want (omega arith)))

pub store_length : (f : Framing) (m : List ℕ) (b : ℕ) → length (store_of f m b) ≡ length m
store_length Shut m b = refl
store_length (Prefix h) m b = refl
store_length (Body want have) m b = length-set m have b

-- ---- a step with no event leaves the connection open
Open : Stepped → Type 0
Open s = s.answer ≡ Ok None → is_shut s.framing ≡ false

not_more : {P : Type 0} (a : Result (Option ℕ) Refusal) → is_more a ≡ false → a ≡ Ok None → P
not_more a h e = absurd (false≢true (sym h ∙ ap is_more e))

led-open : (l : Result Lead Refusal) → Open (led l)
unfolding Open
led-open (Ok (On h)) = λ e. refl
led-open (Ok (Length n)) = cond_ind Open (eqb n 0) _ _ (λ h e. not_more (Ok (Some 0)) refl e) (λ h e. refl)
led-open (Err r) = λ e. not_more (Err r) refl e

pub step-open : (f : Framing) (b : ℕ) → is_shut f ≡ false → (step_of f b).answer ≡ Ok None → is_shut (step_of f b).framing ≡ false
unfolding Open
step-open Shut b h e = h
step-open (Prefix k) b h e = led-open (prefix_step k b) e
step-open (Body want have) b h e = cond_ind Open (eqb (suc have) want) _ _ (λ g q. not_more (Ok (Some want)) refl q) (λ g q. refl) e

-- ---- a run
after-form : (a : Result (Option ℕ) Refusal) (f : Framing) (m : List ℕ) (o : Out) → in_form f ≡ true → in_form o.got.framing ≡ true → in_form (after a f m o).got.framing ≡ true
after-form (Ok (Some n)) f m o h k = h
after-form (Err r) f m o h k = h
after-form (Ok None) f m o h k = k

pub run-form : (bs : List ℕ) (f : Framing) (m : List ℕ) → in_form f ≡ true → in_form (run_of f m bs).got.framing ≡ true
unfolding run_of
run-form [] f m h = h
run-form (b ∷ bs) f m h =
    after-form (step_of f b).answer (step_of f b).framing (store_of f m b) (run_of (step_of f b).framing (store_of f m b) bs) (step-form f b h)
    (run-form bs (step_of f b).framing (store_of f m b) (step-form f b h))

after-length : (a : Result (Option ℕ) Refusal) (f : Framing) (m : List ℕ) (o : Out) (n : ℕ) → length m ≡ n → length o.buffer ≡ n → length (after a f m o).buffer ≡ n
after-length (Ok (Some k)) f m o n h g = h
after-length (Err r) f m o n h g = h
after-length (Ok None) f m o n h g = g

pub run_length : (bs : List ℕ) (f : Framing) (m : List ℕ) → length (run_of f m bs).buffer ≡ length m
unfolding run_of
run_length [] f m = refl
run_length (b ∷ bs) f m =
    after-length (step_of f b).answer (step_of f b).framing (store_of f m b) (run_of (step_of f b).framing (store_of f m b) bs) (length m) (store_length f m b)
    (run_length bs (step_of f b).framing (store_of f m b) ∙ store_length f m b)

-- no more is taken than is there, an event takes a byte at least, and with no event all the bytes are taken
after-within : (a : Result (Option ℕ) Refusal) (f : Framing) (m : List ℕ) (o : Out) (n : ℕ) → o.got.taken ≤ n → (after a f m o).got.taken ≤ suc n
after-within (Ok (Some k)) f m o n h = omega arith
after-within (Err r) f m o n h = omega arith
after-within (Ok None) f m o n h = omega arith

pub run-within : (bs : List ℕ) (f : Framing) (m : List ℕ) → (run_of f m bs).got.taken ≤ length bs
unfolding run_of
run-within [] f m = omega arith
run-within (b ∷ bs) f m =
    after-within (step_of f b).answer (step_of f b).framing (store_of f m b) (run_of (step_of f b).framing (store_of f m b) bs) (length bs) (run-within bs (step_of f b).framing (store_of f m b))

after-some : (a : Result (Option ℕ) Refusal) (f : Framing) (m : List ℕ) (o : Out) → 1 ≤ (after a f m o).got.taken
after-some (Ok (Some n)) f m o = omega arith
after-some (Err r) f m o = omega arith
after-some (Ok None) f m o = omega arith

pub run-some : (bs : List ℕ) (f : Framing) (m : List ℕ) → is_more (run_of f m bs).got.answer ≡ false → 1 ≤ (run_of f m bs).got.taken
unfolding run_of
run-some [] f m h = absurd (true≢false h)
run-some (b ∷ bs) f m h = after-some (step_of f b).answer (step_of f b).framing (store_of f m b) (run_of (step_of f b).framing (store_of f m b) bs)

after-all : (a : Result (Option ℕ) Refusal) (f : Framing) (m : List ℕ) (o : Out) (n : ℕ) → is_more (after a f m o).got.answer ≡ true → (is_more o.got.answer ≡ true → n ≤ o.got.taken)
    → suc n ≤ (after a f m o).got.taken
after-all (Ok (Some k)) f m o n h ih = absurd (false≢true h)
after-all (Err r) f m o n h ih = absurd (false≢true h)
after-all (Ok None) f m o n h ih = let g : n ≤ o.got.taken = ih h in omega arith

pub run-all : (bs : List ℕ) (f : Framing) (m : List ℕ) → is_more (run_of f m bs).got.answer ≡ true → length bs ≤ (run_of f m bs).got.taken
unfolding run_of
run-all [] f m h = omega arith
run-all (b ∷ bs) f m h =
    after-all (step_of f b).answer (step_of f b).framing (store_of f m b) (run_of (step_of f b).framing (store_of f m b) bs) (length bs) h (run-all bs (step_of f b).framing (store_of f m b))

-- a message is no longer than the largest
Small : Result (Option ℕ) Refusal → Type 0
Small (Ok (Some n)) = n ≤ most_body
Small (Err r) = Unit {0}
Small (Ok None) = Unit {0}

SmallStep : Stepped → Type 0
SmallStep s = Small s.answer

led-small : (l : Result Lead Refusal) → SmallStep (led l)
unfolding Small SmallStep
led-small (Ok (On h)) = tt
led-small (Ok (Length n)) = cond_ind SmallStep (eqb n 0) _ _ (λ h. omega arith) (λ h. tt)
led-small (Err r) = tt

step_small : (f : Framing) (b : ℕ) → in_form f ≡ true → Small (step_of f b).answer
unfolding Small SmallStep
step_small Shut b g = tt
step_small (Prefix h) b g = led-small (prefix_step h b)
step_small (Body want have) b g = cond_ind SmallStep (eqb (suc have) want) _ _ (λ h. body-small want have g) (λ h. tt)

after_small : (a : Result (Option ℕ) Refusal) (f : Framing) (m : List ℕ) (o : Out) → Small a → Small o.got.answer → Small (after a f m o).got.answer
after_small (Ok (Some n)) f m o h k = h
after_small (Err r) f m o h k = h
after_small (Ok None) f m o h k = k

run_small : (bs : List ℕ) (f : Framing) (m : List ℕ) → in_form f ≡ true → Small (run_of f m bs).got.answer
unfolding run_of Small
run_small [] f m h = tt
run_small (b ∷ bs) f m h =
    after_small (step_of f b).answer (step_of f b).framing (store_of f m b) (run_of (step_of f b).framing (store_of f m b) bs) (step_small f b h)
    (run_small bs (step_of f b).framing (store_of f m b) (step-form f b h))

pub message-fits : (f : Framing) (m bs : List ℕ) (n : ℕ) → in_form f ≡ true → (run_of f m bs).got.answer ≡ Ok (Some n) → n ≤ most_body
unfolding Small
message-fits f m bs n h e = let s : Small (run_of f m bs).got.answer = run_small bs f m h in rw e at s

-- ---- what a call keeps
module _ (f : Framing) (m bs : List ℕ) where
  -- each way that a call can go
  pub receive-ind : (C : Out → Type 0) → C (stays f m no.OutOfForm) → C (stays f m no.SmallBuffer) → C (stays f m no.Shut)
      → (in_form f ≡ true → most_body ≤ length m → is_shut f ≡ false → C (run_of f m bs)) → C (receive_of f m bs)
  unfolding receive_of
  receive-ind C a b c d =
      cond_ind C (not (in_form f)) _ _ (λ g. a)
      (λ g. cond_ind C (ltb (length m) most_body) _ _ (λ h. b)
      (λ h. cond_ind C (is_shut f) _ _ (λ s. c) (λ s. d (not-off (in_form f) g) (ltb-false (length m) most_body h) s)))
    where
      not-off : (t : Bool) → not t ≡ false → t ≡ true
      not-off true h = refl
      not-off false h = absurd (true≢false h)

  pub receive-form : in_form f ≡ true → in_form (receive_of f m bs).got.framing ≡ true
  receive-form h = receive-ind (λ (o : Out). in_form o.got.framing ≡ true) h h h (λ g w s. run-form bs f m h)

  pub receive-within : (receive_of f m bs).got.taken ≤ length bs
  receive-within = receive-ind (λ (o : Out). o.got.taken ≤ length bs) (omega arith) (omega arith) (omega arith) (λ g w s. run-within bs f m)

  pub receive-message : (n : ℕ) → (receive_of f m bs).got.answer ≡ Ok (Some n) → (n ≤ most_body) × (most_body ≤ length m)
  receive-message n =
      receive-ind (λ (o : Out). o.got.answer ≡ Ok (Some n) → (n ≤ most_body) × (most_body ≤ length m)) (no-message no.OutOfForm) (no-message no.SmallBuffer) (no-message no.Shut)
      (λ g w s e. (message-fits f m bs n g e, w))
    where
      no-message : {X : Type 0} (r : Refusal) → Err r ≡ Ok (Some n) → X
      no-message r e = absurd (let z : ◌≡◌ {A = ℕ} 0 1 = cc in omega arith)

-- an end shuts a connection in form
pub end-shuts : (f : Framing) → in_form f ≡ true → (end_of f).framing ≡ Shut
unfolding end_of
end-shuts f h = ap (λ (t : Bool). (cond (not t) (ended f (Err no.OutOfForm)) (end_in f)).framing) h ∙ over f
  where
    over : (f : Framing) → (end_in f).framing ≡ Shut
    over Shut = refl
    over (Prefix Nothing) = refl
    over (Prefix (One a)) = refl
    over (Prefix (Two a b)) = refl
    over (Body want have) = refl

pub end-form : (f : Framing) → in_form f ≡ true → in_form (end_of f).framing ≡ true
end-form f h = ap in_form (end-shuts f h)

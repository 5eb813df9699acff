-- What the framing gives: its form is kept, and a message is no longer than the buffer. Assumes nothing.
use Prim.Native.Nat.{ℕ, suc, ◌+◌, ◌*◌, ◌%◌, ◌≤◌, ◌<◌}
use mathlib.Core.Path.{◌≡◌, refl, sym, ap, ◌∙◌}
use mathlib.Core.List.{List, [], ◌∷◌}
use mathlib.Core.Bool.{Bool, true, false, cond, not}
use native.Mathlib.Omega.{arith}
use lib.ListN.{length, take, length-take}
use lib.Dec.{eqb, ltb, leb}
use borrow.Author.Tests.{le-leb, lt-ltb, ltb-false, eqb-false, not-false}
use Rattle.octets.proofs.Bools.{cond_ind, and_i, and_l}
use Rattle.limits.specs.Limits.{most_body}
use Rattle.refusal.specs.declared.Refusal.{Refusal}
use Rattle.refusal.specs.declared.Refusal.TheVariants as no
use Rattle.stream.specs.declared.Held.{Held}
use Rattle.stream.specs.declared.Held.TheVariants.{Nothing, One, Two}
use Rattle.stream.specs.declared.Framing.{Framing}
use Rattle.stream.specs.declared.Framing.TheVariants.{Shut, Prefix, Body}
use Rattle.stream.specs.declared.Lead.{Lead}
use Rattle.stream.specs.declared.Lead.TheVariants.{On, Length}
use Rattle.stream.specs.declared.Received.{Received}
use Rattle.stream.specs.Stream.{is_shut, held_form, in_form, limited, minimal, prefix_step, Stepped, led, step_of, store_of, Out, after, run_of, stays, receive_of, ended, end_in, end_of}
use Rattle.stream.proofs.Steps.{body-short, body-small}
use Rattle.std.specs.Prelude.{Ok, Err, Some, None, Result, Option}

-- ---- a step
LeadForm : Result Lead Refusal → Type 0
LeadForm (Ok (On h)) = held_form h ≡ true
LeadForm (Ok (Length n)) = n ≤ most_body
LeadForm (Err r) = Unit {0}

Small : Result (Option ℕ) Refusal → Type 0
Small (Ok (Some n)) = n ≤ most_body
Small (Err r) = Unit {0}
Small (Ok None) = Unit {0}

-- in form, and with no message that is too long
Fits : Framing → Result (Option ℕ) Refusal → Type 0
Fits f a = (in_form f ≡ true) × Small a

StepFits : Stepped → Type 0
StepFits s = Fits s.framing s.answer

limited-form : (n : ℕ) → LeadForm (limited n)
unfolding limited LeadForm
limited-form n = cond_ind LeadForm (ltb most_body n) _ _ (λ h. tt) (λ h. ltb-false most_body n h)

minimal-form : (z n : ℕ) → LeadForm (minimal z n)
unfolding minimal LeadForm
minimal-form z n = cond_ind LeadForm (eqb z 0) _ _ (λ h. tt) (λ h. limited-form n)

prefix-form : (h : Held) (z : ℕ) → held_form h ≡ true → LeadForm (prefix_step h z)
unfolding prefix_step LeadForm
prefix-form Nothing z g = cond_ind LeadForm (ltb z 128) _ _ (λ h. limited-form z) (λ h. le-leb 128 z (ltb-false z 128 h))
prefix-form (One a) z g =
    cond_ind LeadForm (ltb z 128) _ _ (λ h. minimal-form z (a % 128 + z * 128)) (λ h. and_i (leb 128 a) (leb 128 z) g (le-leb 128 z (ltb-false z 128 h)))
prefix-form (Two a b) z g = cond_ind LeadForm (ltb z 128) _ _ (λ h. minimal-form z (a % 128 + b % 128 * 128 + z * 16384)) (λ h. tt)

some-length : (n : ℕ) → eqb n 0 ≡ false → 0 < n
some-length n k = let h : n ≡ 0 → ⊥ = eqb-false n 0 k in omega arith

led-fits : (l : Result Lead Refusal) → LeadForm l → StepFits (led l)
unfolding StepFits Fits Small LeadForm
led-fits (Ok (On h)) g = (g, tt)
led-fits (Ok (Length n)) g =
    cond_ind StepFits (eqb n 0) _ _ (λ h. (refl, omega arith)) (λ h. (and_i (leb n most_body) (ltb 0 n) (le-leb n most_body g) (lt-ltb 0 n (some-length n h)), tt))
led-fits (Err r) g = (refl, tt)

step_fits : (f : Framing) (b : ℕ) → in_form f ≡ true → StepFits (step_of f b)
unfolding StepFits Fits Small
step_fits Shut b g = (refl, tt)
step_fits (Prefix h) b g = led-fits (prefix_step h b) (prefix-form h b g)
step_fits (Body want have) b g =
    let l : have < want = body-short want have g in
    cond_ind StepFits (eqb (suc have) want) _ _ (λ h. (refl, body-small want have g))
    (λ h. let n : suc have ≡ want → ⊥ = eqb-false (suc have) want h in
    (and_i (leb want most_body) (ltb (suc have) want) (and_l (leb want most_body) (ltb have want) g) (lt-ltb (suc have) want (omega arith)), tt))

-- ---- a run
RunFits : Out → Type 0
RunFits o = Fits o.got.framing o.got.answer

after-fits : (a : Result (Option ℕ) Refusal) (f : Framing) (m : List ℕ) (o : Out) → Fits f a → RunFits o → RunFits (after a f m o)
unfolding RunFits
after-fits (Ok (Some n)) f m o h k = h
after-fits (Err r) f m o h k = h
after-fits (Ok None) f m o h k = k

run_fits : (bs : List ℕ) (f : Framing) (m : List ℕ) → in_form f ≡ true → RunFits (run_of f m bs)
unfolding run_of RunFits Fits Small StepFits
run_fits [] f m h = (h, tt)
run_fits (b ∷ bs) f m h =
    let s = step_fits f b h in
    after-fits (step_of f b).answer (step_of f b).framing (store_of f m b) (run_of (step_of f b).framing (store_of f m b) bs) s
    (run_fits bs (step_of f b).framing (store_of f m b) s.0)

-- ---- a call
module _ (f : Framing) (m bs : List ℕ) where
  call-ind : (C : Out → Type 0) → C (stays f m no.OutOfForm) → C (stays f m no.SmallBuffer) → C (stays f m no.Shut)
      → (in_form f ≡ true → most_body ≤ length m → C (run_of f m bs)) → C (receive_of f m bs)
  unfolding receive_of
  call-ind C a b d e =
      cond_ind C (not (in_form f)) _ _ (λ g. a)
      (λ g. cond_ind C (ltb (length m) most_body) _ _ (λ h. b)
      (λ h. cond_ind C (is_shut f) _ _ (λ s. d) (λ s. e (not-false (in_form f) g) (ltb-false (length m) most_body h))))

  pub framing-kept : in_form f ≡ true → in_form (receive_of f m bs).got.framing ≡ true
  unfolding RunFits Fits
  framing-kept h = call-ind (λ (o : Out). in_form o.got.framing ≡ true) h h h (λ g w. (run_fits bs f m g).0)

  small-message : (a : Result (Option ℕ) Refusal) (n : ℕ) → Small a → a ≡ Ok (Some n) → n ≤ most_body
  unfolding Small
  small-message a n s e = rw e at s

  no-message : {X : Type 0} (r : Refusal) (n : ℕ) → Err r ≡ Ok (Some n) → X
  no-message r n e = absurd (let z : ◌≡◌ {A = ℕ} 0 1 = cc in omega arith)

  message-short : (n : ℕ) → (receive_of f m bs).got.answer ≡ Ok (Some n) → n ≤ length m
  unfolding RunFits Fits
  message-short n =
      call-ind (λ (o : Out). o.got.answer ≡ Ok (Some n) → n ≤ length m) (no-message no.OutOfForm n) (no-message no.SmallBuffer n) (no-message no.Shut n)
      (λ g w e. let l : n ≤ most_body = small-message (run_of f m bs).got.answer n (run_fits bs f m g).1 e in omega arith)

  -- as the code has it: by what was handed back
  pub message-there : (r : Received) (n : ℕ) → r ≡ (receive_of f m bs).got → r.answer ≡ Ok (Some n) → n ≤ length m
  message-there r n e q = message-short n (ap (λ (x : Received). x.answer) (sym e) ∙ q)

pub prefix-length : (n : ℕ) (l : List ℕ) → n ≤ length l → n ≡ length (take n l)
prefix-length n l h = simp length-take (omega arith)

-- an end shuts a connection in form
pub end-shuts : (f : Framing) → in_form f ≡ true → (end_of f).framing ≡ Shut
unfolding end_of
end-shuts f h = ap (λ (t : Bool). (cond (not t) (ended f (Err no.OutOfForm)) (end_in f)).framing) h ∙ over f
  where
    over : (f : Framing) → (end_in f).framing ≡ Shut
    over Shut = refl
    over (Prefix Nothing) = refl
    over (Prefix (One a)) = refl
    over (Prefix (Two a b)) = refl
    over (Body want have) = refl

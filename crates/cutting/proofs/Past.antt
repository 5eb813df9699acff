-- What stands past the half-read body in the buffer changes no answer and no body. Assumes nothing.
use Prim.Native.Nat.{ℕ, suc, ◌+◌, ◌≤◌, ◌<◌}
use mathlib.Core.Path.{◌≡◌, refl, sym, ap, ◌∙◌, subst}
use mathlib.Core.List.{List, [], ◌∷◌, ◌++◌}
use mathlib.Core.Bool.{Bool, true, false}
use native.Mathlib.Omega.{arith}
use lib.ListN.{length, take, set}
use lib.Seq.{take-suc-set}
use lib.Dec.{eqb}
use borrow.Author.Tests.{eqb-true}
use Rattle.octets.proofs.Bools.{cond_ind}
use Rattle.limits.specs.Limits.{most_body}
use Rattle.refusal.specs.declared.Refusal.TheVariants as no
use Rattle.stream.specs.declared.Framing.{Framing}
use Rattle.stream.specs.declared.Framing.TheVariants.{Shut, Prefix, Body}
use Rattle.stream.specs.declared.Received.{Received}
use Rattle.stream.specs.declared.Lead.{Lead}
use Rattle.stream.specs.declared.Lead.TheVariants.{On, Length}
use Rattle.stream.specs.Stream.{fresh, is_shut, in_form, prefix_step, Stepped, stepped, led, step_of, store_of, Out, after, run_of, receive_of}
use Rattle.cutting.specs.Claims.{body_so_far, body_of, body_in}
use Rattle.stream.proofs.Steps.{body-short, body-small, call-bad, call-shut, call-runs}
use Rattle.cutting.proofs.Kept.{step-form, store_length}
use Rattle.std.specs.Prelude.{Ok, Err, Some, None, Result, Option}
use Rattle.refusal.specs.declared.Refusal.{Refusal}

-- a prefix byte has nothing of a body
Bare : Stepped → Type 0
Bare s = (m : List ℕ) → body_of s.answer s.framing m ≡ []

led-bare : (l : Result Lead Refusal) → Bare (led l)
unfolding Bare
led-bare (Ok (On h)) = λ m. refl
led-bare (Ok (Length n)) = cond_ind Bare (eqb n 0) _ _ (λ h m. refl) (λ h m. refl)
led-bare (Err r) = λ m. refl

-- a body byte adds itself to the half-read body
body-adds : (want have b : ℕ) (m : List ℕ) → have < length m
    → body_of (step_of (Body want have) b).answer (step_of (Body want have) b).framing (set m have b) ≡ take have m ++ (b ∷ [])
body-adds want have b m h =
    cond_ind (λ (s : Stepped). body_of s.answer s.framing (set m have b) ≡ take have m ++ (b ∷ [])) (eqb (suc have) want) (stepped fresh (Ok (Some want))) (stepped (Body want (suc have)) (Ok None))
    (λ e. ap (λ (k : ℕ). take k (set m have b)) (sym (eqb-true (suc have) want e)) ∙ take-suc-set m have b h)
    (λ e. take-suc-set m have b h)

step-body : (f : Framing) (b : ℕ) (m n : List ℕ) → in_form f ≡ true → most_body ≤ length m → most_body ≤ length n → take (body_so_far f) m ≡ take (body_so_far f) n
    → body_of (step_of f b).answer (step_of f b).framing (store_of f m b) ≡ body_of (step_of f b).answer (step_of f b).framing (store_of f n b)
unfolding Bare
step-body Shut b m n g j k e = refl
step-body (Prefix h) b m n g j k e = led-bare (prefix_step h b) m ∙ sym (led-bare (prefix_step h b) n)
step-body (Body want have) b m n g j k e =
    let s : have < want = body-short want have g in
    let t : want ≤ most_body = body-small want have g in
    body-adds want have b m (omega arith) ∙ ap (λ (l : List ℕ). l ++ (b ∷ [])) e ∙ sym (body-adds want have b n (omega arith))

abbrev Alike : Out → Out → Type 0
Alike o p = (o.got ≡ p.got) × (body_in o ≡ body_in p)

after-alike : (a : Result (Option ℕ) Refusal) (f : Framing) (m n : List ℕ) (o p : Out) → body_of a f m ≡ body_of a f n → (a ≡ Ok None → Alike o p) → Alike (after a f m o) (after a f n p)
after-alike (Ok (Some k)) f m n o p h ih = (refl, h)
after-alike (Err r) f m n o p h ih = (refl, h)
after-alike (Ok None) f m n o p h ih = (ap {B = Received} (λ (r : Received). record { framing = r.framing; taken = 1 + r.taken; answer = r.answer }) (ih refl).0, (ih refl).1)

run-alike : (bs : List ℕ) (f : Framing) (m n : List ℕ) → in_form f ≡ true → most_body ≤ length m → most_body ≤ length n → take (body_so_far f) m ≡ take (body_so_far f) n
    → Alike (run_of f m bs) (run_of f n bs)
unfolding run_of
run-alike [] f m n g j k e = (refl, e)
run-alike (b ∷ bs) f m n g j k e =
    let h = step-body f b m n g j k e in
    let u : length (store_of f m b) ≡ length m = store_length f m b in
    let v : length (store_of f n b) ≡ length n = store_length f n b in
    after-alike (step_of f b).answer (step_of f b).framing (store_of f m b) (store_of f n b) (run_of (step_of f b).framing (store_of f m b) bs) (run_of (step_of f b).framing (store_of f n b) bs) h
    (λ q. run-alike bs (step_of f b).framing (store_of f m b) (store_of f n b) (step-form f b g) (omega arith) (omega arith)
    (subst (λ (a : Result (Option ℕ) Refusal). body_of a (step_of f b).framing (store_of f m b) ≡ body_of a (step_of f b).framing (store_of f n b)) q h))

pub past-alike : (f : Framing) (m n bs : List ℕ) → most_body ≤ length m → most_body ≤ length n → take (body_so_far f) m ≡ take (body_so_far f) n → Alike (receive_of f m bs) (receive_of f n bs)
past-alike f m n bs j k e = go (in_form f) refl (is_shut f) refl
  where
    by : (o p : Out) → receive_of f m bs ≡ o → receive_of f n bs ≡ p → Alike o p → Alike (receive_of f m bs) (receive_of f n bs)
    by o p x y a = (ap (λ (z : Out). z.got) x ∙ a.0 ∙ ap (λ (z : Out). z.got) (sym y), ap body_in x ∙ a.1 ∙ ap body_in (sym y))

    go : (t : Bool) → in_form f ≡ t → (s : Bool) → is_shut f ≡ s → Alike (receive_of f m bs) (receive_of f n bs)
    go false g s h = by _ _ (call-bad f m bs g) (call-bad f n bs g) (refl, refl)
    go true g true h = by _ _ (call-shut f m bs g j h) (call-shut f n bs g k h) (refl, refl)
    go true g false h = by _ _ (call-runs f m bs g j h) (call-runs f n bs g k h) (run-alike bs f m n g j k e)

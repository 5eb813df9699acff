-- The tests of the code pick the cases of form, of a prefix byte, of an end and of a call. Assumes nothing.
use Prim.Native.Nat.{ℕ, ◌+◌, ◌*◌, ◌%◌, ◌≤◌, ◌<◌}
use mathlib.Core.Path.{◌≡◌, refl, sym, ap, ◌∙◌}
use mathlib.Core.List.{List}
use mathlib.Core.Bool.{Bool, true, false, cond, not, ◌&&◌}
use lib.ListN.{length}
use lib.Dec.{ltb, leb, eqb}
use borrow.Author.Tests.{lt-ltb, le-ltb, lt-leb, le-leb, eq-eqb, ne_eqb, ltb-true, leb-true}
use Rattle.octets.proofs.Bools.{cond_yes, cond_no, and_l, and_r}
use Rattle.limits.specs.Limits.{most_body}
use Rattle.refusal.specs.declared.Refusal.TheVariants as no
use Rattle.stream.specs.declared.Held.{Held}
use Rattle.stream.specs.declared.Held.TheVariants.{Nothing, One, Two}
use Rattle.stream.specs.declared.Framing.{Framing}
use Rattle.stream.specs.declared.Framing.TheVariants.{Shut, Body}
use Rattle.stream.specs.declared.Received.{Received}
use Rattle.stream.specs.declared.Ended.{Ended}
use Rattle.stream.specs.declared.Lead.{Lead}
use Rattle.stream.specs.declared.Lead.TheVariants.{On, Length}
use Rattle.stream.specs.Stream.{held_form, in_form, is_shut, limited, minimal, prefix_step, Out, stays, stayed, run_of, Gives, receive_of, ended, end_in, end_of}
use Rattle.std.specs.Prelude.{Ok, Err, Result}
use Rattle.refusal.specs.declared.Refusal.{Refusal}

-- ---- form
pub two-low : (h : Held) (a b : ℕ) → h ≡ Two a b → a < 128 → false ≡ held_form h
two-low h a b e l = sym (ap held_form e ∙ ap (λ (t : Bool). t && leb 128 b) (lt-leb 128 a l))

pub two-high : (h : Held) (a b : ℕ) → h ≡ Two a b → 128 ≤ a → leb 128 b ≡ held_form h
two-high h a b e l = sym (ap held_form e ∙ ap (λ (t : Bool). t && leb 128 b) (le-leb 128 a l))

pub body-long : (f : Framing) (want have : ℕ) → f ≡ Body want have → 16384 < want → false ≡ in_form f
body-long f want have e l = sym (ap in_form e ∙ ap (λ (t : Bool). t && ltb have want) (lt-leb want 16384 l))

pub body-fits : (f : Framing) (want have : ℕ) → f ≡ Body want have → want ≤ 16384 → ltb have want ≡ in_form f
body-fits f want have e l = sym (ap in_form e ∙ ap (λ (t : Bool). t && ltb have want) (le-leb want 16384 l))

-- a body in form is short of its length, and no longer than the largest
pub body-short : (want have : ℕ) → in_form (Body want have) ≡ true → have < want
body-short want have h = ltb-true have want (and_r (leb want most_body) (ltb have want) h)

pub body-small : (want have : ℕ) → in_form (Body want have) ≡ true → want ≤ most_body
body-small want have h = leb-true want most_body (and_l (leb want most_body) (ltb have want) h)

-- ---- a length
pub over-limit : (n : ℕ) → 16384 < n → Err no.TooLong ≡ limited n
unfolding limited
over-limit n l = sym (cond_yes (ltb most_body n) (Err no.TooLong) (Ok (Length n)) (lt-ltb _ _ l))

pub in-limit : (n : ℕ) → n ≤ 16384 → (Ok (Length n)) ≡ limited n
unfolding limited
in-limit n l = sym (cond_no (ltb most_body n) (Err no.TooLong) (Ok (Length n)) (le-ltb _ _ l))

pub zero-last : (z n : ℕ) → z ≡ 0 → Err no.PrefixNotMinimal ≡ minimal z n
unfolding minimal
zero-last z n e = sym (cond_yes (eqb z 0) (Err no.PrefixNotMinimal) (limited n) (eq-eqb _ _ e))

pub some-last : (z n : ℕ) (r : Result Lead Refusal) → (z ≡ 0 → ⊥) → r ≡ limited n → r ≡ minimal z n
unfolding minimal
some-last z n r e q = q ∙ sym (cond_no (eqb z 0) (Err no.PrefixNotMinimal) (limited n) (ne_eqb _ _ e))

-- ---- a prefix byte
module _ (h : Held) (z : ℕ) where
  by-held : (k : Held) (x : Result Lead Refusal) → h ≡ k → prefix_step k z ≡ x → x ≡ prefix_step h z
  by-held k x e q = sym (ap (λ (l : Held). prefix_step l z) e ∙ q)

  pub closes-first : (w : ℕ) (r : Result Lead Refusal) → h ≡ Nothing → z < 128 → w ≡ z → r ≡ limited w → r ≡ prefix_step h z
  unfolding prefix_step
  closes-first w r e l p q = q ∙ ap limited p ∙ by-held Nothing (limited z) e (cond_yes (ltb z 128) _ _ (lt-ltb z 128 l))

  pub closes-second : (a x w : ℕ) (r : Result Lead Refusal) → h ≡ One a → z < 128 → x ≡ a → w ≡ z → r ≡ minimal z (x % 128 + w * 128) → r ≡ prefix_step h z
  unfolding prefix_step
  closes-second a x w r e l p s q =
      q ∙ (λ i. minimal z (p i % 128 + s i * 128)) ∙ by-held (One a) (minimal z (a % 128 + z * 128)) e (cond_yes (ltb z 128) _ _ (lt-ltb z 128 l))

  pub closes-third : (a b x y w : ℕ) (r : Result Lead Refusal) → h ≡ Two a b → z < 128 → x ≡ a → y ≡ b → w ≡ z → r ≡ minimal z (x % 128 + y % 128 * 128 + w * 16384) → r ≡ prefix_step h z
  unfolding prefix_step
  closes-third a b x y w r e l p t s q =
      q ∙ (λ i. minimal z (p i % 128 + t i % 128 * 128 + s i * 16384))
      ∙ by-held (Two a b) (minimal z (a % 128 + b % 128 * 128 + z * 16384)) e (cond_yes (ltb z 128) _ _ (lt-ltb z 128 l))

  pub holds-first : h ≡ Nothing → 128 ≤ z → (Ok (On (One z))) ≡ prefix_step h z
  unfolding prefix_step
  holds-first e l = by-held Nothing (Ok (On (One z))) e (cond_no (ltb z 128) _ _ (le-ltb z 128 l))

  pub holds-second : (a : ℕ) → h ≡ One a → 128 ≤ z → (Ok (On (Two a z))) ≡ prefix_step h z
  unfolding prefix_step
  holds-second a e l = by-held (One a) (Ok (On (Two a z))) e (cond_no (ltb z 128) _ _ (le-ltb z 128 l))

  pub holds-third : (a b : ℕ) → h ≡ Two a b → 128 ≤ z → Err no.TooLong ≡ prefix_step h z
  unfolding prefix_step
  holds-third a b e l = by-held (Two a b) (Err no.TooLong) e (cond_no (ltb z 128) _ _ (le-ltb z 128 l))

-- ---- an end
pub end-bad : (f : Framing) → in_form f ≡ false → ended f (Err no.OutOfForm) ≡ end_of f
unfolding end_of
end-bad f h = sym (cond_yes (not (in_form f)) (ended f (Err no.OutOfForm)) (end_in f) (ap not h))

pub end-good : (f g : Framing) (r : Ended) → in_form f ≡ true → f ≡ g → r ≡ end_in g → r ≡ end_of f
unfolding end_of
end-good f g r h e q = q ∙ ap end_in (sym e) ∙ sym (cond_no (not (in_form f)) (ended f (Err no.OutOfForm)) (end_in f) (ap not h))

-- ---- a call
pub gives-by : (o o' : Out) (r : Received) (m : List ℕ) → o ≡ o' → Gives o' r m → Gives o r m
gives-by o o' r m e g = rw e g

module _ (f : Framing) (m bs : List ℕ) where
  abbrev rest : Out
  rest = cond (ltb (length m) most_body) (stays f m no.SmallBuffer) (cond (is_shut f) (stays f m no.Shut) (run_of f m bs))

  pub call-bad : in_form f ≡ false → receive_of f m bs ≡ stays f m no.OutOfForm
  unfolding receive_of
  call-bad h = cond_yes (not (in_form f)) (stays f m no.OutOfForm) rest (ap not h)

  call-good : in_form f ≡ true → receive_of f m bs ≡ rest
  unfolding receive_of
  call-good h = cond_no (not (in_form f)) (stays f m no.OutOfForm) rest (ap not h)

  pub call-small : in_form f ≡ true → length m < most_body → receive_of f m bs ≡ stays f m no.SmallBuffer
  call-small h l = call-good h ∙ cond_yes (ltb (length m) most_body) _ _ (lt-ltb _ _ l)

  call_fits : in_form f ≡ true → most_body ≤ length m → receive_of f m bs ≡ cond (is_shut f) (stays f m no.Shut) (run_of f m bs)
  call_fits h l = call-good h ∙ cond_no (ltb (length m) most_body) _ _ (le-ltb _ _ l)

  pub call-shut : in_form f ≡ true → most_body ≤ length m → is_shut f ≡ true → receive_of f m bs ≡ stays f m no.Shut
  call-shut h l s = call_fits h l ∙ cond_yes (is_shut f) _ _ s

  pub call-runs : in_form f ≡ true → most_body ≤ length m → is_shut f ≡ false → receive_of f m bs ≡ run_of f m bs
  call-runs h l s = call_fits h l ∙ cond_no (is_shut f) _ _ s

  -- what each answer of `receive` gives
  pub gives-bad : (r : Received) → in_form f ≡ false → r ≡ stayed f no.OutOfForm → Gives (receive_of f m bs) r m
  gives-bad r h q = gives-by _ _ r m (call-bad h) (record { got = q; buffer = refl })

  pub gives-small : (r : Received) → in_form f ≡ true → length m < 16384 → r ≡ stayed f no.SmallBuffer → Gives (receive_of f m bs) r m
  gives-small r h l q = gives-by _ _ r m (call-small h l) (record { got = q; buffer = refl })

  pub gives-shut : (r : Received) → in_form f ≡ true → 16384 ≤ length m → f ≡ Shut → r ≡ stayed f no.Shut → Gives (receive_of f m bs) r m
  gives-shut r h l e q = gives-by _ _ r m (call-shut h l (ap is_shut e)) (record { got = q; buffer = refl })

  pub gives-run : (g : Framing) (r : Received) (m' : List ℕ) → in_form f ≡ true → 16384 ≤ length m → is_shut g ≡ false → f ≡ g → Gives (run_of g m bs) r m'
      → Gives (receive_of f m bs) r m'
  gives-run g r m' h l s e q = gives-by _ _ r m' (call-runs h l (ap is_shut e ∙ s) ∙ ap (λ (x : Framing). run_of x m bs) e) q

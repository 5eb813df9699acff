-- The theorems of this crate: each claim of specs/Claims.antt. Assumes nothing.
use Prim.Native.Nat.{ℕ}
use mathlib.Core.List.{List, []}
use mathlib.Core.Path.{◌≡◌, refl, sym, ap, ◌∙◌, subst}
use mathlib.Core.Bool.{true, false, true≢false}
use Rattle.stream.specs.Stream.{fresh, is_shut, in_form, Out}
use Rattle.cutting.specs.Frames.{frames}
use Rattle.cutting.specs.World.{here, put_back, Line, call, called, joined, Fine, Turn, opens, ends, turned, Roomy}
use Rattle.cutting.specs.Plain.{Wire, standing}
use Rattle.cutting.specs.Claims.{OpenAndEnd, Cut, Later, FormKept, Bounded, Reading, Several, SeveralPlainly, Split, OneReceive, OwnReceive, Past, alone, opened, Reads, Anyone}
use Rattle.stream.proofs.Steps.{call-runs}
use Rattle.cutting.proofs.World.{play, handed-all, same_end, hand-split}
use Rattle.cutting.proofs.Once.{one-call}
use Rattle.cutting.proofs.Frames.{read_all}
use Rattle.cutting.proofs.Plain.{read_out}
use Rattle.cutting.proofs.Kept.{end-shuts, receive-form, receive-within, receive-message, end-form}
use Rattle.cutting.proofs.Later.{later-stays}
use Rattle.cutting.proofs.Past.{past-alike}
use Rattle.std.specs.Prelude.{Result, ⊤}
use Rattle.refusal.specs.declared.Refusal.{Refusal}

pub cut : Cut
cut P A B O L Peer Good Fits S i d f g ps qs e =
    handed-all L S ps i d (record { line = f; good = g }) ∙ ap (play L i d) e ∙ sym (handed-all L S qs i d (record { line = f; good = g }))

pub own-receive : OwnReceive
own-receive P A B O put stops act host Fits acts =
    record {
      receives = λ i l a bs f h g. ap (λ (o : Out). called put stops i l a o) (call-runs l.framing l.buffer bs f.form f.room h);
      puts = λ i p a e h g. tt;
      act-line = λ i b l a x f g. acts i b l a x f;
      act-good = λ i b l a x f g. tt;
      hosts = λ a o g. tt;
    }

turn-fine : {P A : Type 0} (tell : ℕ → P → A → ℕ → Result ⊤ Refusal → A) (i : ℕ) (b : Turn P) (l : Line P) (a : A) → Roomy b → Fine Anyone l → Fine Anyone (turned tell i b l a).line
turn-fine tell i (opens p m) l a x f = record { form = refl; room = x; peer = λ z. tt }
turn-fine tell i ends l a x f = record { form = end-form l.framing f.form; room = f.room; peer = λ z. tt }

turn-anew : {P A : Type 0} (tell : ℕ → P → A → ℕ → Result ⊤ Refusal → A) (i : ℕ) (b : Turn P) (l : Line P) (a : A) → in_form l.framing ≡ true
    → is_shut (turned tell i b l a).line.framing ≡ false → (turned tell i b l a).line.framing ≡ fresh
turn-anew tell i (opens p m) l a f z = refl
turn-anew tell i ends l a f z = absurd (true≢false (sym (ap is_shut (end-shuts l.framing f)) ∙ z))

-- an act that doesn't look at the buffer
module _ {P A : Type 0} (tell : ℕ → P → A → ℕ → Result ⊤ Refusal → A) (i : ℕ) (w : Wire P (Turn P)) (m : List ℕ) (a : A) where
  turn-who : (b : Turn P) → (turned tell i b (standing w m) a).line.who ≡ (turned tell i b (standing w []) a).line.who
  turn-who (opens p n) = refl
  turn-who ends = refl

  turn-framing : (b : Turn P) → (turned tell i b (standing w m) a).line.framing ≡ (turned tell i b (standing w []) a).line.framing
  turn-framing (opens p n) = refl
  turn-framing ends = refl

  turn-taken : (b : Turn P) → (turned tell i b (standing w m) a).line.taken ≡ (turned tell i b (standing w []) a).line.taken
  turn-taken (opens p n) = refl
  turn-taken ends = refl

  turn-state : (b : Turn P) → (turned tell i b (standing w m) a).shared ≡ (turned tell i b (standing w []) a).shared
  turn-state (opens p n) = refl
  turn-state ends = refl

pub open-and-end : OpenAndEnd
open-and-end P A O put stops tell host =
    record {
      sound = own-receive P A (Turn P) O put stops (turned tell) host Roomy (turn-fine tell);
      blunt = record {
        who = λ i b w m a x. turn-who tell i w m a b;
        framing = λ i b w m a x. turn-framing tell i w m a b;
        taken = λ i b w m a x. turn-taken tell i w m a b;
        state = λ i b w m a x. turn-state tell i w m a b;
        anew = λ i b l a x f z. turn-anew tell i b l a f.form z;
      };
    }

pub reading : Reading
reading A put a m w ps =
    let S = own-receive (Unit {0}) A ⊥ ⊥ (λ i p a e. put a e) (λ i p a e. false) (λ i b l a. absurd b) (λ a o. absurd o) (λ b. Unit {0}) (λ i b l a. absurd b) in
    subst (Reads put a (frames (joined ps))) (sym (handed-all (alone put) S ps 0 (opened tt m a) (record { line = record { form = refl; room = w; peer = λ z. tt }; good = tt })))
    (read_all put m (joined ps) a w)

pub several : Several
several P A B O L Peer Good Fits S s r cs ds h k g n = same_end L S cs ds s r h k g n

pub several-plainly : SeveralPlainly
several-plainly P A B O L Peer Good Fits S K s r f n cs h = read_out L S K s r f n cs h

pub split : Split
split P A B O L Peer Good Fits S s r i p q = hand-split L S s i p q r

pub one-receive : OneReceive
unfolding call
one-receive P A B O L Peer Good Fits S s r i p h = ap (put_back s i) (one-call L S i (here s i) p (record { line = r.lines i; good = r.good }) h)

pub past : Past
past f m n bs j k e = past-alike f m n bs j k e

pub later : Later
later f m bs w = later-stays f m bs w

pub form-kept : FormKept
form-kept = record { opens = refl; receives = λ f m bs h. receive-form f m bs h; ends = end-form }

pub bounded : Bounded
bounded = record { taken = receive-within; message = receive-message }

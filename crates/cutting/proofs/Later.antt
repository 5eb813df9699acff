-- The bytes of the buffer past the body so far stay. Assumes nothing.
use Prim.Native.Nat.{ℕ, zero, suc, ◌+◌, ◌-◌, ◌≤◌, ◌<◌}
use mathlib.Core.Path.{◌≡◌, refl, sym, subst}
use mathlib.Core.List.{List}
use mathlib.Core.Bool.{Bool, true, false, true≢false}
use native.Mathlib.Omega.{arith}
use lib.ListN.{length, take, drop}
use lib.Seq.{sets, length-sets, length-take-le}
use lib.Dec.{ltb}
use borrow.Author.Tests.{ltb-true, ltb-false}
use Rattle.octets.proofs.Stores.{drop-sets}
use Rattle.limits.specs.Limits.{most_body}
use Rattle.stream.specs.declared.Framing.{Framing}
use Rattle.stream.specs.declared.Framing.TheVariants.{Shut, Prefix, Body}
use Rattle.stream.specs.declared.Lead.{Lead}
use Rattle.stream.specs.declared.Lead.TheVariants.{On, Length}
use Rattle.stream.specs.Stream.{is_shut, in_form, prefix_of, Out, run_of, receive_of}
use Rattle.cutting.specs.Claims.{reach}
use Rattle.stream.proofs.Runs.{leads, run-prefix, begun-some, body-part, body-whole}
use Rattle.stream.proofs.Steps.{body-short, body-small, call-bad, call-shut, call-runs}
use Rattle.cutting.proofs.Heads.{Sensible, prefix-sensible}
use Rattle.std.specs.Prelude.{Ok, Err, Result}
use Rattle.refusal.specs.declared.Refusal.{Refusal}

abbrev Stays : List ℕ → Out → Type 0
Stays m o = drop (reach o) o.buffer ≡ drop (reach o) m

-- bytes stored before the n-th
stored : (m : List ℕ) (i : ℕ) (s : List ℕ) (n : ℕ) → i + length s ≤ n → n ≤ length m → drop (length (take n (sets m i s))) (sets m i s) ≡ drop (length (take n (sets m i s))) m
stored m i s n h l =
    let e : length (take n (sets m i s)) ≡ n = length-take-le n (sets m i s) (let q : length (sets m i s) ≡ length m = length-sets m i s in omega arith) in
    rw e (drop-sets n m i s h)

body-stays : (want have : ℕ) (m bs : List ℕ) → have < want → want ≤ most_body → most_body ≤ length m → Stays m (run_of (Body want have) m bs)
body-stays want have m bs h s l = go (ltb (length bs) (want - have)) refl
  where
    n : ℕ
    n = want - suc have

    go : (t : Bool) → ltb (length bs) (want - have) ≡ t → Stays m (run_of (Body want have) m bs)
    go true e =
        let q : length bs < want - have = ltb-true (length bs) (want - have) e in
        subst (Stays m) (sym (body-part want have m bs (omega arith))) (stored m have bs (have + length bs) (omega arith) (omega arith))
    go false e =
        let q : want - have ≤ length bs = ltb-false (length bs) (want - have) e in
        let w : want ≡ have + suc n = omega arith in
        let t : length (take (suc n) bs) ≡ suc n = length-take-le (suc n) bs (omega arith) in
        subst (Stays m) (sym (body-whole want have n m bs w (omega arith))) (stored m have (take (suc n) bs) want (omega arith) (omega arith))

lead-stays : (l : Result Lead Refusal) (k : ℕ) (m bs : List ℕ) → Sensible l k (length bs) → most_body ≤ length m → Stays m (leads l k m bs)
lead-stays (Ok (On h)) k m bs s w = refl
lead-stays (Err r) k m bs s w = refl
lead-stays (Ok (Length zero)) k m bs s w = refl
lead-stays (Ok (Length (suc n))) k m bs s w =
    subst (Stays m) (sym (begun-some (suc n) k m bs (λ z. omega arith))) (body-stays (suc n) 0 m (drop k bs) (omega arith) s.2 w)

run-stays : (f : Framing) (m bs : List ℕ) → in_form f ≡ true → is_shut f ≡ false → most_body ≤ length m → Stays m (run_of f m bs)
run-stays Shut m bs g s w = absurd (true≢false s)
run-stays (Prefix h) m bs g s w =
    subst (Stays m) (sym (run-prefix bs h m)) (lead-stays (prefix_of h bs).lead (prefix_of h bs).taken m bs (prefix-sensible bs h g) w)
run-stays (Body want have) m bs g s w = body-stays want have m bs (body-short want have g) (body-small want have g) w

pub later-stays : (f : Framing) (m bs : List ℕ) → most_body ≤ length m → Stays m (receive_of f m bs)
later-stays f m bs w = go (in_form f) refl (is_shut f) refl
  where
    go : (t : Bool) → in_form f ≡ t → (u : Bool) → is_shut f ≡ u → Stays m (receive_of f m bs)
    go false g u s = subst (Stays m) (sym (call-bad f m bs g)) refl
    go true g true s = subst (Stays m) (sym (call-shut f m bs g w s)) refl
    go true g false s = subst (Stays m) (sym (call-runs f m bs g w s)) (run-stays f m bs g s w)

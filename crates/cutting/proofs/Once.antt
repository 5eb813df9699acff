-- One call of `receive` is the hand-over of the bytes that it takes, whatever the layer. Assumes nothing.
use Prim.Native.Nat.{ℕ, ◌≤◌}
use mathlib.Core.Path.{◌≡◌, refl, sym, ap, ◌∙◌, subst}
use mathlib.Core.List.{List, [], ◌∷◌}
use mathlib.Core.Bool.{true, false}
use native.Mathlib.Numerals.{one-add}
use native.Mathlib.Omega.{arith}
use lib.ListN.{length, take, drop, length-take, drop_of_length-le}
use Rattle.stream.specs.declared.Framing.{Framing}
use Rattle.stream.specs.Stream.{is_shut, step_of, store_of, Out, shift, after, run_of}
use Rattle.cutting.specs.World.{Did, Line, Shared, Called, Layer, answered, handed, called, Fine, Sound}
use Rattle.cutting.proofs.World.{Well, lands, play, play-nil, play-shut, play-run, play-well, handed-play}
use Rattle.std.specs.Prelude.{Ok, Err, Some, None, Result, Option}
use Rattle.refusal.specs.declared.Refusal.{Refusal}

-- a run stops where it stops, whatever comes after
step_by : (f : Framing) (m : List ℕ) (b : ℕ) (a : Result (Option ℕ) Refusal) → (step_of f b).answer ≡ a → (x : List ℕ)
    → run_of f m (b ∷ x) ≡ after a (step_of f b).framing (store_of f m b) (run_of (step_of f b).framing (store_of f m b) x)
unfolding run_of
step_by f m b a e x = ap (λ (y : Result (Option ℕ) Refusal). after y (step_of f b).framing (store_of f m b) (run_of (step_of f b).framing (store_of f m b) x)) e

pub run-taken : (bs : List ℕ) (f : Framing) (m : List ℕ) → run_of f m (take (run_of f m bs).got.taken bs) ≡ run_of f m bs
unfolding run_of
run-taken [] f m = refl
run-taken (b ∷ bs) f m = go (step_of f b).answer refl (run-taken bs (step_of f b).framing (store_of f m b))
  where
    f' : Framing
    f' = (step_of f b).framing

    m' : List ℕ
    m' = store_of f m b

    k : ℕ
    k = (run_of f' m' bs).got.taken

    first : (o : Out) → run_of f m (b ∷ bs) ≡ o → run_of f m (take (run_of f m (b ∷ bs)).got.taken (b ∷ bs)) ≡ run_of f m (take o.got.taken (b ∷ bs))
    first o e = ap (λ (x : Out). run_of f m (take x.got.taken (b ∷ bs))) e

    go : (a : Result (Option ℕ) Refusal) → (step_of f b).answer ≡ a → run_of f' m' (take k bs) ≡ run_of f' m' bs → run_of f m (take (run_of f m (b ∷ bs)).got.taken (b ∷ bs)) ≡ run_of f m (b ∷ bs)
    go (Ok (Some n)) e ih = first _ (step_by f m b (Ok (Some n)) e bs) ∙ step_by f m b (Ok (Some n)) e (take 0 bs) ∙ sym (step_by f m b (Ok (Some n)) e bs)
    go (Err r) e ih = first _ (step_by f m b (Err r) e bs) ∙ step_by f m b (Err r) e (take 0 bs) ∙ sym (step_by f m b (Err r) e bs)
    go (Ok None) e ih =
        first _ (step_by f m b (Ok None) e bs) ∙ ap (λ (n : ℕ). run_of f m (take n (b ∷ bs))) (one-add k)
        ∙ step_by f m b (Ok None) e (take k bs) ∙ ap (shift 1) ih ∙ sym (step_by f m b (Ok None) e bs)

module _ {P A B O : Type 0} (L : Layer P A B O) {Peer : P → Type 0} {Good : A → Type 0} {Fits : B → Type 0} (S : Sound L Peer Good Fits) where
  abbrev Here : Type 0
  Here = Did (Line P) (Shared A O)

  pub one-call : (i : ℕ) (d : Here) (bs : List ℕ) → Well L S d → is_shut d.line.framing ≡ false
      → handed L i d (take (L.receive i d.line d.shared.state bs).count bs) ≡ answered L i d.shared (L.receive i d.line d.shared.state bs)
  one-call i d bs w h =
      let o : Out = run_of d.line.framing d.line.buffer bs in
      let c : Called P A = called L.put L.stops i d.line d.shared.state o in
      let e : L.receive i d.line d.shared.state bs ≡ c = S.receives i d.line d.shared.state bs w.line h w.good in
      let n : ℕ = o.got.taken in
      let p : List ℕ = take n bs in
      let r : run_of d.line.framing d.line.buffer p ≡ o = run-taken bs d.line.framing d.line.buffer in
      let short : length p ≤ n = omega (arith, length-take n bs) in
      ap (λ (x : Called P A). handed L i d (take x.count bs)) e ∙ handed-play L S i d p w ∙ play-run L p i d h
      ∙ ap (λ (x : Out). play L i (lands L i d x) (drop x.got.taken p)) r
      ∙ ap (play L i (lands L i d o)) (drop_of_length-le p short) ∙ play-nil L i (lands L i d o)
      ∙ ap (answered L i d.shared) (sym e)

  pub one-fine : (i : ℕ) (d : Here) (bs : List ℕ) → Well L S d → is_shut d.line.framing ≡ false → Fine Peer (L.receive i d.line d.shared.state bs).line
  one-fine i d bs w h =
      let p : List ℕ = take (L.receive i d.line d.shared.state bs).count bs in
      (subst (Well L S) (sym (handed-play L S i d p w) ∙ one-call i d bs w h) (play-well L S p i d w)).line

  pub no_call : (i : ℕ) (d : Here) (bs : List ℕ) → Well L S d → is_shut d.line.framing ≡ true → handed L i d bs ≡ d
  no_call i d bs w h = handed-play L S i d bs w ∙ play-shut L i d bs h

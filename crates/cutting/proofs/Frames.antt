-- What a connection makes of a whole byte string is its plain reading. Assumes nothing.
use Prim.Native.Nat.{ℕ, zero, suc, ◌+◌, ◌-◌, ◌≤◌, ◌<◌}
use mathlib.Core.Path.{◌≡◌, refl, sym, ap, ◌∙◌, subst}
use mathlib.Core.List.{List, [], ◌∷◌}
use mathlib.Core.Bool.{true, false}
use native.Mathlib.Nat.{add-zero, not-suc-le-zero}
use native.Mathlib.Omega.{arith}
use lib.ListN.{length, take, drop, length-drop, drop_of_length-le}
use Rattle.limits.specs.Limits.{most_body}
use Rattle.stream.specs.declared.Framing.TheVariants.{Shut}
use Rattle.stream.specs.Stream.{fresh, prefix_of, Out, out, run_of}
use Rattle.cutting.specs.Frames.{Event, message, refused, Head, partly, whole, bad, head_of, Frames, followed, by_head, frames_from, frames, framing_of, half_of, puts}
use Rattle.cutting.specs.World.{Did, Line, Shared}
use Rattle.cutting.specs.Claims.{alone, Reads}
use Rattle.cutting.proofs.Heads.{Ran, head-run}
use Rattle.cutting.proofs.Kept.{run_length}
use Rattle.cutting.proofs.World.{lands, play, play-nil, play-shut, play-run}
use Rattle.std.specs.Prelude.{Ok, Err, Some}

module _ {A : Type 0} (put : A → Event → A) where
  abbrev Alone : Type 0
  Alone = Did (Line (Unit {0})) (Shared A ⊥)

  abbrev start : List ℕ → ℕ → Shared A ⊥ → Alone
  start m n h = record { line = record { who = tt; framing = fresh; buffer = m; taken = n }; shared = h }

  abbrev plays : Alone → List ℕ → Alone
  plays d bs = play (alone put) 0 d bs

  abbrev lead-to : Alone → Out → Alone
  lead-to d o = lands (alone put) 0 d o

  -- the run up to the first event, and the rest
  ran : (m bs : List ℕ) (n : ℕ) (h : Shared A ⊥) (o : Out) → run_of fresh m bs ≡ o → plays (start m n h) bs ≡ plays (lead-to (start m n h) o) (drop o.got.taken bs)
  ran m bs n h o e = play-run (alone put) bs 0 (start m n h) refl ∙ ap (λ (p : Out). plays (lead-to (start m n h) p) (drop p.got.taken bs)) e

  ran-all : (m bs : List ℕ) (n : ℕ) (h : Shared A ⊥) (o : Out) → run_of fresh m bs ≡ o → length bs ≤ o.got.taken → plays (start m n h) bs ≡ lead-to (start m n h) o
  ran-all m bs n h o e l = ran m bs n h o e ∙ ap (plays (lead-to (start m n h) o)) (drop_of_length-le bs l) ∙ play-nil (alone put) 0 (lead-to (start m n h) o)

  no-events : (a : A) → a ≡ puts put a []
  unfolding puts
  no-events a = refl

  one-event : (a : A) (e : Event) → put a e ≡ puts put a (e ∷ [])
  unfolding puts
  one-event a e = refl

  more-events : (a : A) (e : Event) (es : List Event) → puts put (put a e) es ≡ puts put a (e ∷ es)
  unfolding puts
  more-events a e es = refl

  reads_followed : (d : Alone) (a : A) (e : Event) (r : Frames) → Reads put (put a e) r d → Reads put a (followed e r) d
  reads_followed d a e r p = record { events = p.events ∙ more-events a e r.events; framing = p.framing; taken = p.taken; half = p.half }

  by-head : (f : ℕ) (m bs : List ℕ) (n : ℕ) (h : Shared A ⊥) (x : Head) → Ran m bs (framing_of bs) (half_of bs) x → most_body ≤ length m → length bs < suc f
      → ((m' cs : List ℕ) (n' : ℕ) (h' : Shared A ⊥) → most_body ≤ length m' → length cs < f → Reads put h'.state (frames_from f n' cs) (plays (start m' n' h') cs))
      → Reads put h.state (by_head x n bs (λ k. frames_from f (n + k) (drop k bs))) (plays (start m n h) bs)
  unfolding prefix_of
  by-head f m bs n h partly r w l ih =
      subst (Reads put h.state (record { events = []; shut = false; at = n; rest = bs })) (sym (ran-all m bs n h _ r.runs (omega arith)))
      (record { events = no-events h.state; framing = refl; taken = refl; half = r.there })
  by-head f m bs n h (bad k x) r w l ih =
      let o : Out = out Shut k (Err x) m in
      subst (Reads put h.state (record { events = refused (n + k) x ∷ []; shut = true; at = n + k; rest = [] }))
      (sym (ran m bs n h o r ∙ play-shut (alone put) 0 (lead-to (start m n h) o) (drop k bs) refl))
      (record { events = one-event h.state (refused (n + k) x); framing = refl; taken = sym (add-zero (n + k)); half = refl })
  by-head f m bs n h (whole k v) r w l ih =
      let e : Event = message (n + (k + v)) (take v (drop k bs)) in
      let o : Out = out fresh (k + v) (Ok (Some v)) r.buffer in
      let d : length (drop (k + v) bs) ≡ length bs - (k + v) = length-drop (k + v) bs in
      let s : 1 ≤ k = r.some in
      let t : k + v ≤ length bs = r.fits in
      let u : length r.buffer ≡ length m = ap (λ (p : Out). length p.buffer) (sym r.runs) ∙ run_length bs fresh m in
      let h' : Shared A ⊥ = (lead-to (start m n h) o).shared in
      let go : plays (start m n h) bs ≡ plays (start r.buffer (n + (k + v)) (record { state = put h.state e; order = h'.order })) (drop (k + v) bs) =
      ran m bs n h o r.runs
      ∙ ap (λ (b : List ℕ). plays (start r.buffer (n + (k + v)) (record { state = put h.state (message (n + (k + v)) b); order = h'.order })) (drop (k + v) bs)) r.body in
      subst (Reads put h.state (followed e (frames_from f (n + (k + v)) (drop (k + v) bs)))) (sym go)
      (reads_followed _ h.state e (frames_from f (n + (k + v)) (drop (k + v) bs))
      (ih r.buffer (drop (k + v) bs) (n + (k + v)) (record { state = put h.state e; order = h'.order }) (omega arith) (omega arith)))

  pub read-from : (f : ℕ) (m bs : List ℕ) (n : ℕ) (h : Shared A ⊥) → most_body ≤ length m → length bs < f → Reads put h.state (frames_from f n bs) (plays (start m n h) bs)
  unfolding frames_from
  read-from zero m bs n h w l = absurd (not-suc-le-zero l)
  read-from (suc f) m bs n h w l = by-head f m bs n h (head_of bs) (head-run m bs w) w l (read-from f)

  pub read_all : (m bs : List ℕ) (a : A) → most_body ≤ length m → Reads put a (frames bs) (plays (start m 0 (record { state = a; order = [] })) bs)
  unfolding frames
  read_all m bs a w = read-from (suc (length bs)) m bs 0 (record { state = a; order = [] }) w (omega arith)

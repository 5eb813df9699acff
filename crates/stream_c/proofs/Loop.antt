-- The loop that hands a stream over in pieces: what is left to play from a place on completes the whole. Assumes nothing.
use Prim.Native.Nat.{ℕ, zero, suc, ◌+◌, ◌-◌, ◌≤◌, ◌<◌}
use mathlib.Core.Path.{◌≡◌, refl, sym, ap, ◌∙◌, subst}
use mathlib.Core.List.{List, []}
use mathlib.Core.Bool.{Bool, true, false, cond}
use native.Mathlib.Nat.{add-zero}
use native.Mathlib.Omega.{arith}
use lib.ListN.{length, drop, drop_of_length-le}
use lib.Seq.{drop-drop, drop-append-le}
use lib.Dec.{ltb}
use borrow.Author.Tests.{ltb-true, ltb-false}
use Rattle.octets.specs.Octets.{part}
use Rattle.octets.proofs.Parts.{part_length}
use Rattle.octets.proofs.Bools.{cond_ind}
use Rattle.limits.specs.Limits.{most_body}
use Rattle.refusal.specs.declared.Refusal.TheVariants as no
use Rattle.stream.specs.declared.Framing.{Framing}
use Rattle.stream.specs.declared.Received.{Received}
use Rattle.stream.specs.Stream.{fresh, is_shut, in_form, Out, out, run_of, stays, Gives, receive_of}
use Rattle.cutting.specs.World.{Did, Mark, Line, Shared, is_more, feed, Sound}
use Rattle.cutting.specs.Claims.{alone, opened, Anyone}
use Rattle.stream.proofs.Steps.{call-small, call-shut, call-runs}
use Rattle.octets.proofs.Lists.{part-rest}
use Rattle.cutting.proofs.Kept.{run-form, run_length, run-within, run-some, run-all, receive-within}
use Rattle.cutting.proofs.World.{lands, play, play-nil, play-append, play-shut, play-run, handed-play}
use Rattle.cutting.proofs.Claims.{own-receive}
use Rattle.stream_c.specs.Count.{tally, host_of, Counts, messages_in}
use Rattle.std.specs.Prelude.{Ok, Err, Some, None, Result, Option}
use Rattle.refusal.specs.declared.Refusal.{Refusal}

abbrev Host : Type 0
Host = Did (Line (Unit {0})) (Shared ℕ ⊥)

abbrev plays : Host → List ℕ → Host
plays d bs = play (alone tally) 0 d bs

abbrev standing : Framing → List ℕ → ℕ → ℕ → List (Mark ⊥) → Host
standing f m at k ms = record { line = record { who = tt; framing = f; buffer = m; taken = at }; shared = record { state = k; order = ms } }

sound : Sound (alone tally) (Anyone {X = Unit {0}}) (Anyone {X = ℕ}) (Anyone {X = ⊥})
sound = own-receive (Unit {0}) ℕ ⊥ ⊥ (λ i p a e. tally a e) (λ i p a e. false) (λ i b l a. absurd b) (λ a o. absurd o) (λ b. Unit {0}) (λ i b l a. absurd b)

-- a run over a piece, and what is left to play
play-piece : (d : Host) (bs : List ℕ) (a e : ℕ) → a ≤ e → e ≤ length bs → is_shut d.line.framing ≡ false
    → (o : Out) → run_of d.line.framing d.line.buffer (part bs a e) ≡ o → plays d (drop a bs) ≡ plays (lands (alone tally) 0 d o) (drop (a + o.got.taken) bs)
play-piece d bs a e h l s o q =
    let p : List ℕ = part bs a e in
    let n : ℕ = o.got.taken in
    let w : n ≤ length p = subst (λ (x : Out). x.got.taken ≤ length p) q (run-within p d.line.framing d.line.buffer) in
    ap (plays d) (sym (part-rest bs a e h))
    ∙ play-append (alone tally) 0 d p (drop e bs)
    ∙ ap (λ (y : Host). plays y (drop e bs)) (play-run (alone tally) p 0 d s ∙ ap (λ (x : Out). plays (lands (alone tally) 0 d x) (drop x.got.taken p)) q)
    ∙ sym (play-append (alone tally) 0 (lands (alone tally) 0 d o) (drop n p) (drop e bs))
    ∙ ap (plays (lands (alone tally) 0 d o)) (sym (drop-append-le n p (drop e bs) w) ∙ ap (drop n) (part-rest bs a e h) ∙ drop-drop n a bs)

-- ---- the loop
pub record Going (m₀ bs m : List ℕ) (f : Framing) (at k : ℕ) : Type 0 where
  pub within : at ≤ length bs
  pub few : k ≤ at
  pub long : length m ≡ length m₀
  pub form : in_form f ≡ true
  pub short : length m₀ < most_body → (k ≡ 0) × (m ≡ m₀)
  pub order : List (Mark ⊥)
  pub same : most_body ≤ length m₀ → plays (opened tt m₀ 0) bs ≡ plays (standing f m at k order) (drop at bs)

pub going : (m bs : List ℕ) (f : Framing) → f ≡ fresh → Going m bs m f 0 0
going m bs f e =
    record { within = omega arith; few = omega arith; long = refl; form = ap in_form e; short = λ h. (refl, refl); order = []; same = λ h. ap (λ (x : Framing). plays (standing x m 0 0 []) bs) (sym e) }

-- the messages so far are counted
module _ (f : Framing) (m : List ℕ) (at k : ℕ) (ms : List (Mark ⊥)) (g : Framing) (n : ℕ) (m' : List ℕ) where
  abbrev next-order : Result (Option ℕ) Refusal → List (Mark ⊥)
  next-order a = (lands (alone tally) 0 (standing f m at k ms) (out g n a m')).shared.order

  stands : (a : Result (Option ℕ) Refusal) → lands (alone tally) 0 (standing f m at k ms) (out g n a m') ≡ standing g m' (at + n) (k + messages_in a) (next-order a)
  stands (Ok (Some v)) = refl
  stands (Err r) = λ i. standing g m' (at + n) (sym (add-zero k) i) (next-order (Err r))
  stands (Ok None) = λ i. standing g m' (at + n) (sym (add-zero k) i) (next-order (Ok None))

pub at_most_one : (a : Result (Option ℕ) Refusal) → messages_in a ≤ 1
at_most_one (Ok (Some n)) = omega arith
at_most_one (Err r) = omega arith
at_most_one (Ok None) = omega arith

module _ (m₀ bs m : List ℕ) (f : Framing) (at k e : ℕ) (r : Received) (m' : List ℕ) (v : Going m₀ bs m f at k) (l : at < e) (w : e ≤ length bs)
    (g : Gives (receive_of f m (part bs at e)) r m') where
  abbrev piece : List ℕ
  piece = part bs at e

  piece-length : length piece ≡ e - at
  piece-length = part_length bs at e w

  pub took-within : at + r.taken ≤ length bs
  took-within =
      let t : r.taken ≤ length piece = subst (λ (x : Received). x.taken ≤ length piece) (sym g.got) (receive-within f m piece) in
      let p : length piece ≡ e - at = piece-length in
      omega arith

  module _ (o : Out) (q : receive_of f m piece ≡ o) where
    got-is : r ≡ o.got
    got-is = g.got ∙ ap (λ (x : Out). x.got) q

    buffer-is : m' ≡ o.buffer
    buffer-is = g.buffer ∙ ap (λ (x : Out). x.buffer) q

  room : most_body ≤ length m₀ → most_body ≤ length m
  room h = let x : length m ≡ length m₀ = v.long in omega arith

  no_room : length m₀ < most_body → length m < most_body
  no_room h = let x : length m ≡ length m₀ = v.long in omega arith

  -- a call that took a byte was on an open connection with room
  runs : most_body ≤ length m₀ → (r.taken ≡ 0 → ⊥) → receive_of f m piece ≡ run_of f m piece
  runs h z = go (is_shut f) refl
    where
      go : (t : Bool) → is_shut f ≡ t → receive_of f m piece ≡ run_of f m piece
      go true s = absurd (z (ap (λ (x : Received). x.taken) (got-is _ (call-shut f m piece v.form (room h) s))))
      go false s = call-runs f m piece v.form (room h) s

  opens : most_body ≤ length m₀ → (r.taken ≡ 0 → ⊥) → is_shut f ≡ false
  opens h z = go (is_shut f) refl
    where
      go : (t : Bool) → is_shut f ≡ t → is_shut f ≡ false
      go true s = absurd (z (ap (λ (x : Received). x.taken) (got-is _ (call-shut f m piece v.form (room h) s))))
      go false s = s

  has_room : (r.taken ≡ 0 → ⊥) → most_body ≤ length m₀
  has_room z = go (ltb (length m₀) most_body) refl
    where
      go : (t : Bool) → ltb (length m₀) most_body ≡ t → most_body ≤ length m₀
      go true s = absurd (z (ap (λ (x : Received). x.taken) (got-is _ (call-small f m piece v.form (no_room (ltb-true (length m₀) most_body s))))))
      go false s = ltb-false (length m₀) most_body s

  pub goes_on : (r.taken ≡ 0 → ⊥) → (n : ℕ) → n ≡ messages_in r.answer → Going m₀ bs m' r.framing (at + r.taken) (k + n)
  goes_on z n c =
      let h : most_body ≤ length m₀ = has_room z in
      let o : Out = run_of f m piece in
      let q : receive_of f m piece ≡ o = runs h z in
      let R : r ≡ o.got = got-is o q in
      let B : m' ≡ o.buffer = buffer-is o q in
      let one : messages_in r.answer ≤ 1 = at_most_one r.answer in
      let d : Host = standing f m at k v.order in
      let s : is_shut f ≡ false = opens h z in
      record {
        within = took-within;
        few = let x : k ≤ at = v.few in omega arith;
        long = ap length B ∙ run_length piece f m ∙ v.long;
        form = ap (λ (x : Received). in_form x.framing) R ∙ run-form piece f m v.form;
        short = λ x. absurd (omega arith);
        order = next-order f m at k v.order r.framing r.taken m' r.answer;
        same = λ x. v.same x
            ∙ play-piece d bs at e (omega arith) w s (out r.framing r.taken r.answer m') (λ i. record { got = sym R i; buffer = sym B i })
            ∙ ap (λ (y : Host). plays y (drop (at + r.taken) bs)) (stands f m at k v.order r.framing r.taken m' r.answer)
            ∙ ap (λ (j : ℕ). plays (standing r.framing m' (at + r.taken) (k + j) (next-order f m at k v.order r.framing r.taken m' r.answer)) (drop (at + r.taken) bs)) (sym c);
      }

-- ---- a buffer too short: nothing is counted and nothing stored
abbrev Keeps : Host → Host → Type 0
Keeps d y = (y.shared.state ≡ d.shared.state) × (y.line.buffer ≡ d.line.buffer)

short-feed : (n : ℕ) (d : Host) (bs : List ℕ) → in_form d.line.framing ≡ true → length d.line.buffer < most_body → Keeps d (feed (alone tally) 0 n d bs)
unfolding feed
short-feed zero d bs h l = (refl, refl)
short-feed (suc n) d bs h l =
    let f : Framing = d.line.framing in
    let o : Out = stays f d.line.buffer no.SmallBuffer in
    let y : Host = lands (alone tally) 0 d o in
    subst (λ (x : Out). Keeps d (cond (is_shut f) d (cond (is_more x.got.answer) (lands (alone tally) 0 d x) (feed (alone tally) 0 n (lands (alone tally) 0 d x) (drop x.got.taken bs)))))
    (sym (call-small f d.line.buffer bs h l))
    (cond_ind (Keeps d) (is_shut f) d (feed (alone tally) 0 n y (drop 0 bs)) (λ z. (refl, refl)) (λ z. short-feed n y (drop 0 bs) h l))

-- ---- the end of the loop
by-play : (m₀ bs : List ℕ) (k : ℕ) (m : List ℕ) (y : Host) → most_body ≤ length m₀ → plays (opened tt m₀ 0) bs ≡ y → k ≡ y.shared.state → m ≡ y.line.buffer → Counts m₀ bs k m
by-play m₀ bs k m y h e p q =
    let E : host_of m₀ bs ≡ y =
    handed-play (alone tally) sound 0 (opened tt m₀ 0) bs (record { line = record { form = refl; room = h; peer = λ z. tt }; good = tt }) ∙ e in
    record { count = p ∙ ap (λ (x : Host). x.shared.state) (sym E); buffer = q ∙ ap (λ (x : Host). x.line.buffer) (sym E) }

by-short : (m₀ bs : List ℕ) (k : ℕ) (m : List ℕ) → length m₀ < most_body → k ≡ 0 → m ≡ m₀ → Counts m₀ bs k m
by-short m₀ bs k m h p q = let s = short-feed (suc (length bs)) (opened tt m₀ 0) bs refl h in record { count = p ∙ sym s.0; buffer = q ∙ sym s.1 }

pub all_read : (m₀ bs m : List ℕ) (f : Framing) (at k : ℕ) → Going m₀ bs m f at k → length bs ≤ at → Counts m₀ bs k m
all_read m₀ bs m f at k v l = go (ltb (length m₀) most_body) refl
  where
    go : (t : Bool) → ltb (length m₀) most_body ≡ t → Counts m₀ bs k m
    go true s = let x = v.short (ltb-true (length m₀) most_body s) in by-short m₀ bs k m (ltb-true (length m₀) most_body s) x.0 x.1
    go false s =
        let h : most_body ≤ length m₀ = ltb-false (length m₀) most_body s in
        by-play m₀ bs k m (standing f m at k v.order) h (v.same h ∙ ap (plays (standing f m at k v.order)) (drop_of_length-le bs l) ∙ play-nil (alone tally) 0 (standing f m at k v.order)) refl refl

-- a call on a piece that took nothing: the connection is shut, or the buffer too short
pub stopped : (m₀ bs m : List ℕ) (f : Framing) (at k e : ℕ) (r : Received) (m' : List ℕ) → Going m₀ bs m f at k → at < e → e ≤ length bs
    → Gives (receive_of f m (part bs at e)) r m' → r.taken ≡ 0 → Counts m₀ bs k m'
stopped m₀ bs m f at k e r m' v l w g z = go (ltb (length m₀) most_body) refl (is_shut f) refl
  where
    p : List ℕ
    p = part bs at e

    some : length p ≡ e - at
    some = part_length bs at e w

    same_length : length m ≡ length m₀
    same_length = v.long

    took-some : (o : Out) → run_of f m p ≡ o → 1 ≤ o.got.taken
    took-some o q = subst (λ (x : Out). 1 ≤ x.got.taken) q (by (is_more (run_of f m p).got.answer) refl)
      where
        by : (t : Bool) → is_more (run_of f m p).got.answer ≡ t → 1 ≤ (run_of f m p).got.taken
        by true s = let x : length p ≤ (run_of f m p).got.taken = run-all p f m s in let y : length p ≡ e - at = some in omega arith
        by false s = run-some p f m s

    kept : (o : Out) → receive_of f m p ≡ o → m' ≡ o.buffer
    kept o q = g.buffer ∙ ap (λ (x : Out). x.buffer) q

    go : (t : Bool) → ltb (length m₀) most_body ≡ t → (u : Bool) → is_shut f ≡ u → Counts m₀ bs k m'
    go true s u c =
        let h : length m₀ < most_body = ltb-true (length m₀) most_body s in
        let x = v.short h in
        let y : length m ≡ length m₀ = same_length in
        by-short m₀ bs k m' h x.0 (kept _ (call-small f m p v.form (omega arith)) ∙ x.1)
    go false s true c =
        let h : most_body ≤ length m₀ = ltb-false (length m₀) most_body s in
        let y : length m ≡ length m₀ = same_length in
        by-play m₀ bs k m' (standing f m at k v.order) h (v.same h ∙ play-shut (alone tally) 0 (standing f m at k v.order) (drop at bs) c) refl
        (kept _ (call-shut f m p v.form (omega arith) c))
    go false s false c =
        let h : most_body ≤ length m₀ = ltb-false (length m₀) most_body s in
        let y : length m ≡ length m₀ = same_length in
        let q : receive_of f m p ≡ run_of f m p = call-runs f m p v.form (omega arith) c in
        let a : 1 ≤ (run_of f m p).got.taken = took-some (run_of f m p) refl in
        let b : r.taken ≡ (run_of f m p).got.taken = ap (λ (x : Received). x.taken) (g.got ∙ ap (λ (x : Out). x.got) q) in
        absurd (omega arith)

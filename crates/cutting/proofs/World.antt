-- The calls of a host are the bytes one by one; so their cut says nothing, and of their order only the order of the events. Assumes nothing.
use Prim.Native.Nat.{ℕ, zero, suc, ◌+◌, ◌-◌, ◌≤◌, ◌<◌}
use mathlib.Core.Path.{◌≡◌, refl, sym, ap, ◌∙◌, subst}
use mathlib.Core.List.{List, [], ◌∷◌, ◌++◌, append_assoc, append-nil}
use mathlib.Core.Bool.{Bool, true, false, cond}
use native.Mathlib.Nat.{add-zero, add_assoc, not-suc-le-zero}
use native.Mathlib.Numerals.{one-add}
use native.Mathlib.Omega.{arith}
use lib.ListN.{length, take, drop, length-drop, drop_of_length-le}
use lib.Dec.{eqb}
use Rattle.octets.proofs.Bools.{cond_ind, cond_yes, cond_no}
use Rattle.limits.specs.Limits.{most_body}
use Rattle.stream.specs.declared.Framing.{Framing}
use Rattle.stream.specs.declared.Framing.TheVariants.{Shut}
use Rattle.stream.specs.Stream.{is_shut, in_form, step_of, store_of, Out, out, shift, run_of}
use Rattle.cutting.specs.Frames.{message, refused}
use Rattle.cutting.proofs.Order.{Step, at, other, acts_of, Rules, act, step, run, marks}
use Rattle.cutting.specs.World.{Did, Mark, happened, asked, here, put_back, Line, Shared, World, Called, Layer, Call, hand, does, asks, Act, takes, acts, bytes, given, joined, is_more, note_if, answered, feed, handed, handed_all, acted, hosted, call, calls, noted, halted, called, Fine, Sound, Ready, AllFit}
use Rattle.octets.proofs.Lists.{cancel}
use Rattle.cutting.proofs.Kept.{shut-only, step-form, step-open, store_length, run-form, run_length, run-within, run-some, run-all}
use Rattle.cutting.proofs.Order.{here_back, back-back, back-here, order}
use Rattle.std.specs.Prelude.{Ok, Err, Some, None, Result, Option}
use Rattle.refusal.specs.declared.Refusal.{Refusal}

-- the steps of a list of calls
unfoldable pub taken : {B O : Type 0} → ℕ → List ℕ → List (Step (Act B) O) → List (Step (Act B) O)
taken i [] r = r
taken i (b ∷ bs) r = at i (takes b) ∷ taken i bs r

unfoldable pub steps : {B O : Type 0} → List (Call B O) → List (Step (Act B) O)
steps [] = []
steps (hand i p ∷ cs) = taken i p (steps cs)
steps (does i b ∷ cs) = at i (acts b) ∷ steps cs
steps (asks o ∷ cs) = other o ∷ steps cs

acts-taken : {B O : Type 0} (i j : ℕ) (bs : List ℕ) (r : List (Step (Act B) O)) → acts_of i (taken j bs r) ≡ cond (eqb i j) (bytes bs (acts_of i r)) (acts_of i r)
unfolding acts_of taken bytes
acts-taken i j [] r = cond_ind (λ (l : List (Act _)). acts_of i r ≡ l) (eqb i j) _ _ (λ h. refl) (λ h. refl)
acts-taken i j (b ∷ bs) r = go (eqb i j) (acts-taken i j bs r)
  where
    go : (t : Bool) → acts_of i (taken j bs r) ≡ cond t (bytes bs (acts_of i r)) (acts_of i r)
        → cond t (takes b ∷ acts_of i (taken j bs r)) (acts_of i (taken j bs r)) ≡ cond t (takes b ∷ bytes bs (acts_of i r)) (acts_of i r)
    go true ih = ap (λ (l : List (Act _)). takes b ∷ l) ih
    go false ih = ih

pub given-steps : {B O : Type 0} (cs : List (Call B O)) (i : ℕ) → given i cs ≡ acts_of i (steps cs)
unfolding given steps acts_of
given-steps [] i = refl
given-steps (hand j p ∷ cs) i = ap (λ (l : List (Act _)). cond (eqb i j) (bytes p l) l) (given-steps cs i) ∙ sym (acts-taken i j p (steps cs))
given-steps (does j b ∷ cs) i = ap (λ (l : List (Act _)). cond (eqb i j) (acts b ∷ l) l) (given-steps cs i)
given-steps (asks o ∷ cs) i = given-steps cs i

module _ {P A B O : Type 0} (L : Layer P A B O) where
  abbrev Here : Type 0
  Here = Did (Line P) (Shared A O)

  -- a byte that is no event changes its line alone, and on a shut line nothing; all else is an event
  abbrev pub quietly : Line P → Act B → Bool
  quietly l (takes b) = is_more (step_of l.framing b).answer
  quietly l (acts b) = false

  abbrev pub step_line : Line P → ℕ → Line P
  step_line l b = record { who = l.who; framing = (step_of l.framing b).framing; buffer = store_of l.framing l.buffer b; taken = l.taken + 1 }

  abbrev pub moves : Line P → Act B → Line P
  moves l (takes b) = cond (is_shut l.framing) l (step_line l b)
  moves l (acts b) = l

  -- a byte as a run of one
  abbrev pub one : Line P → ℕ → Out
  one l b = out (step_of l.framing b).framing 1 (step_of l.framing b).answer (store_of l.framing l.buffer b)

  -- where a connection stands after its framing gave o, at a place
  abbrev pub landed : ℕ → P → Shared A O → ℕ → Out → Here
  landed i p h n o =
      record {
        line = record { who = p; framing = halted L.stops i p h.state o.got.answer n o.buffer o.got.framing; buffer = o.buffer; taken = n };
        shared = note_if L (is_more o.got.answer) i h (noted L.put i p h.state o.got.answer n o.buffer);
      }

  abbrev pub lands : ℕ → Here → Out → Here
  lands i d o = landed i d.line.who d.shared (d.line.taken + o.got.taken) o

  abbrev pub happens : ℕ → Line P → Shared A O → Act B → Here
  happens i l h (takes b) = lands i (record { line = l; shared = h }) (one l b)
  happens i l h (acts b) = acted L i b (record { line = l; shared = h })

  abbrev pub rules : Rules (Line P) (Shared A O) (Act B) O
  rules = record { quiet = quietly; move = moves; event = happens; host = hosted L }

  -- ---- bytes one by one
  unfoldable pub byte : ℕ → Here → ℕ → Here
  byte i d b = act rules i d (takes b)

  unfoldable pub play : ℕ → Here → List ℕ → Here
  play i d [] = d
  play i d (b ∷ bs) = play i (byte i d b) bs

  pub play-nil : (i : ℕ) (d : Here) → play i d [] ≡ d
  unfolding play
  play-nil i d = refl

  pub play-append : (i : ℕ) (d : Here) (p q : List ℕ) → play i d (p ++ q) ≡ play i (play i d p) q
  unfolding play
  play-append i d [] q = refl
  play-append i d (b ∷ p) q = play-append i (byte i d b) p q

  abbrev with_framing : Here → Framing → Here
  with_framing d f = record { line = record { who = d.line.who; framing = f; buffer = d.line.buffer; taken = d.line.taken }; shared = d.shared }

  pub byte-shut : (i : ℕ) (d : Here) (b : ℕ) → is_shut d.line.framing ≡ true → byte i d b ≡ d
  unfolding byte
  byte-shut i d b h = let e : d.line.framing ≡ Shut = shut-only d.line.framing h in (λ k. act rules i (with_framing d (e k)) (takes b)) ∙ (λ k. with_framing d (sym e k))

  pub byte-by : (i : ℕ) (d : Here) (b : ℕ) (a : Result (Option ℕ) Refusal) → (step_of d.line.framing b).answer ≡ a → is_shut d.line.framing ≡ false
      → byte i d b ≡ lands i d (out (step_of d.line.framing b).framing 1 a (store_of d.line.framing d.line.buffer b))
  unfolding byte
  byte-by i d b a e h = ap picked e ∙ go a
    where
      f : Framing
      f = (step_of d.line.framing b).framing

      m : List ℕ
      m = store_of d.line.framing d.line.buffer b

      picked : Result (Option ℕ) Refusal → Here
      picked x = cond (is_more x) (record { line = moves d.line (takes b); shared = d.shared }) (lands i d (out f 1 x m))

      go : (x : Result (Option ℕ) Refusal) → picked x ≡ lands i d (out f 1 x m)
      go (Ok (Some n)) = refl
      go (Err r) = refl
      go (Ok None) = ap (λ (l : Line P). record { line = l; shared = d.shared }) (cond_no (is_shut d.line.framing) d.line (step_line d.line b) h)

  pub byte-open : (i : ℕ) (d : Here) (b : ℕ) → is_shut d.line.framing ≡ false → byte i d b ≡ lands i d (one d.line b)
  byte-open i d b h = byte-by i d b (step_of d.line.framing b).answer refl h

  pub byte_more : (i : ℕ) (d : Here) (b : ℕ) → is_shut d.line.framing ≡ false → (step_of d.line.framing b).answer ≡ Ok None
      → byte i d b ≡ record { line = step_line d.line b; shared = d.shared }
  byte_more i d b h e = byte-by i d b (Ok None) e h

  pub play-shut : (i : ℕ) (d : Here) (bs : List ℕ) → is_shut d.line.framing ≡ true → play i d bs ≡ d
  unfolding play
  play-shut i d [] h = refl
  play-shut i d (b ∷ bs) h = ap (λ (y : Here). play i y bs) (byte-shut i d b h) ∙ play-shut i d bs h

  -- ---- playing bytes is a run to the first event, and the rest
  abbrev Runs : ℕ → Here → List ℕ → Type 0
  Runs i d bs =
      let o = run_of d.line.framing d.line.buffer bs in
      play i d bs ≡ play i (lands i d o) (drop o.got.taken bs)

  lands-nil : (i : ℕ) (d : Here) → d ≡ lands i d (out d.line.framing 0 (Ok None) d.line.buffer)
  lands-nil i d = λ k. record { line = record { who = d.line.who; framing = d.line.framing; buffer = d.line.buffer; taken = sym (add-zero d.line.taken) k }; shared = d.shared }

  lands-later : (i : ℕ) (d : Here) (o : Out) (b : ℕ) (bs : List ℕ)
      → play i (landed i d.line.who d.shared (d.line.taken + 1 + o.got.taken) o) (drop o.got.taken bs) ≡ play i (lands i d (shift 1 o)) (drop (1 + o.got.taken) (b ∷ bs))
  lands-later i d o b bs =
      λ k. play i (landed i d.line.who d.shared (add_assoc d.line.taken 1 o.got.taken k) o) (drop (sym (one-add o.got.taken) k) (b ∷ bs))

  pub play-run : (bs : List ℕ) (i : ℕ) (d : Here) → is_shut d.line.framing ≡ false → Runs i d bs
  unfolding play run_of
  play-run [] i d h = lands-nil i d
  play-run (b ∷ bs) i d h = go (step_of d.line.framing b).answer refl (play-run bs i (record { line = step_line d.line b; shared = d.shared }))
    where
      go : (a : Result (Option ℕ) Refusal) → (step_of d.line.framing b).answer ≡ a
          → (is_shut (step_of d.line.framing b).framing ≡ false → Runs i (record { line = step_line d.line b; shared = d.shared }) bs) → Runs i d (b ∷ bs)
      go (Ok (Some n)) e ih = rw (byte-open i d b h) (rw e refl)
      go (Err r) e ih = rw (byte-open i d b h) (rw e refl)
      go (Ok None) e ih =
          rw (byte_more i d b h e)
          (rw e (ih (step-open d.line.framing b h e) ∙ lands-later i d (run_of (step_of d.line.framing b).framing (store_of d.line.framing d.line.buffer b) bs) b bs))

  -- and where the run takes all of them, no rest
  pub play-all : (bs : List ℕ) (i : ℕ) (d : Here) (o : Out) → is_shut d.line.framing ≡ false → run_of d.line.framing d.line.buffer bs ≡ o → length bs ≤ o.got.taken
      → play i d bs ≡ lands i d o
  play-all bs i d o h e l =
      play-run bs i d h ∙ ap (λ (x : Out). play i (lands i d x) (drop x.got.taken bs)) e ∙ ap (play i (lands i d o)) (drop_of_length-le bs l) ∙ play-nil i (lands i d o)

  module _ {Peer : P → Type 0} {Good : A → Type 0} {Fits : B → Type 0} (S : Sound L Peer Good Fits) where
    pub record Well (d : Here) : Type 0 where
      pub line : Fine Peer d.line
      pub good : Good d.shared.state

    noted-good : (i : ℕ) (p : P) (a : A) (w : Result (Option ℕ) Refusal) (n : ℕ) (m : List ℕ) → Peer p → Good a → Good (noted L.put i p a w n m)
    noted-good i p a (Ok (Some k)) n m h g = S.puts i p a (message n (take k m)) h g
    noted-good i p a (Err r) n m h g = S.puts i p a (refused n r) h g
    noted-good i p a (Ok None) n m h g = g

    halted-form : (i : ℕ) (p : P) (a : A) (w : Result (Option ℕ) Refusal) (n : ℕ) (m : List ℕ) (f : Framing) → in_form f ≡ true → in_form (halted L.stops i p a w n m f) ≡ true
    halted-form i p a (Ok (Some k)) n m f h = cond_ind (λ (x : Framing). in_form x ≡ true) (L.stops i p a (message n (take k m))) Shut f (λ e. refl) (λ e. h)
    halted-form i p a (Err r) n m f h = h
    halted-form i p a (Ok None) n m f h = h

    lands-well : (i : ℕ) (d : Here) (o : Out) → Well d → is_shut d.line.framing ≡ false → in_form o.got.framing ≡ true → length o.buffer ≡ length d.line.buffer → Well (lands i d o)
    lands-well i d o w h f l =
        let n : ℕ = d.line.taken + o.got.taken in
        record {
          line = record {
            form = halted-form i d.line.who d.shared.state o.got.answer n o.buffer o.got.framing f;
            room = let r : most_body ≤ length d.line.buffer = w.line.room in omega arith;
            peer = λ z. w.line.peer h;
          };
          good = noted-good i d.line.who d.shared.state o.got.answer n o.buffer (w.line.peer h) w.good;
        }

    pub byte-well : (i : ℕ) (d : Here) (b : ℕ) → Well d → Well (byte i d b)
    byte-well i d b w = go (is_shut d.line.framing) refl
      where
        go : (t : Bool) → is_shut d.line.framing ≡ t → Well (byte i d b)
        go true h = subst Well (sym (byte-shut i d b h)) w
        go false h = subst Well (sym (byte-open i d b h)) (lands-well i d (one d.line b) w h (step-form d.line.framing b w.line.form) (store_length d.line.framing d.line.buffer b))

    pub play-well : (bs : List ℕ) (i : ℕ) (d : Here) → Well d → Well (play i d bs)
    unfolding play
    play-well [] i d w = w
    play-well (b ∷ bs) i d w = play-well bs i (byte i d b) (byte-well i d b w)

    -- ---- what the host does with a piece
    feed-shut : (i f : ℕ) (d : Here) (bs : List ℕ) → is_shut d.line.framing ≡ true → feed L i (suc f) d bs ≡ d
    unfolding feed
    feed-shut i f d bs h = cond_yes (is_shut d.line.framing) d _ h

    feed-open : (i f : ℕ) (d : Here) (bs : List ℕ) (c : Called P A) → is_shut d.line.framing ≡ false → L.receive i d.line d.shared.state bs ≡ c
        → feed L i (suc f) d bs ≡ cond c.more (answered L i d.shared c) (feed L i f (answered L i d.shared c) (drop c.count bs))
    unfolding feed
    feed-open i f d bs c h e =
        cond_no (is_shut d.line.framing) d _ h ∙ ap (λ (x : Called P A). cond x.more (answered L i d.shared x) (feed L i f (answered L i d.shared x) (drop x.count bs))) e

    pub feed-play : (f : ℕ) (i : ℕ) (d : Here) (bs : List ℕ) → Well d → length bs < f → feed L i f d bs ≡ play i d bs
    feed-play zero i d bs w l = absurd (not-suc-le-zero l)
    feed-play (suc f) i d bs w l = go (is_shut d.line.framing) refl (feed-play f i)
      where
        o : Out
        o = run_of d.line.framing d.line.buffer bs

        on-more : is_shut d.line.framing ≡ false → is_more o.got.answer ≡ true → lands i d o ≡ play i d bs
        on-more h m = sym (play-all bs i d o h refl (run-all bs d.line.framing d.line.buffer m))

        on-event : ((y : Here) (cs : List ℕ) → Well y → length cs < f → feed L i f y cs ≡ play i y cs) → is_shut d.line.framing ≡ false → is_more o.got.answer ≡ false
            → feed L i f (lands i d o) (drop o.got.taken bs) ≡ play i d bs
        on-event ih h m =
            let s : 1 ≤ o.got.taken = run-some bs d.line.framing d.line.buffer m in
            let t : o.got.taken ≤ length bs = run-within bs d.line.framing d.line.buffer in
            let e : length (drop o.got.taken bs) ≡ length bs - o.got.taken = length-drop o.got.taken bs in
            ih (lands i d o) (drop o.got.taken bs) (lands-well i d o w h (run-form bs d.line.framing d.line.buffer w.line.form) (run_length bs d.line.framing d.line.buffer)) (omega arith)
            ∙ sym (play-run bs i d h)

        go : (t : Bool) → is_shut d.line.framing ≡ t → ((y : Here) (cs : List ℕ) → Well y → length cs < f → feed L i f y cs ≡ play i y cs) → feed L i (suc f) d bs ≡ play i d bs
        go true h ih = feed-shut i f d bs h ∙ sym (play-shut i d bs h)
        go false h ih =
            feed-open i f d bs (called L.put L.stops i d.line d.shared.state o) h (S.receives i d.line d.shared.state bs w.line h w.good)
            ∙ cond_ind (λ (y : Here). y ≡ play i d bs) (is_more o.got.answer) (lands i d o) (feed L i f (lands i d o) (drop o.got.taken bs)) (on-more h) (on-event ih h)

    pub handed-play : (i : ℕ) (d : Here) (p : List ℕ) → Well d → handed L i d p ≡ play i d p
    handed-play i d p w = feed-play (suc (length p)) i d p w (omega arith)

    -- THE THEOREM for one connection: pieces cut anywhere, empty ones too, are the bytes one by one
    pub handed-all : (ps : List (List ℕ)) (i : ℕ) (d : Here) → Well d → handed_all L i d ps ≡ play i d (joined ps)
    unfolding handed_all joined
    handed-all [] i d w = sym (play-nil i d)
    handed-all (p ∷ ps) i d w =
        ap (λ (y : Here). handed_all L i y ps) (handed-play i d p w) ∙ handed-all ps i (play i d p) (play-well p i d w) ∙ sym (play-append i d p (joined ps))

    -- ---- the calls are their steps
    abbrev runs : World P A O → List (Step (Act B) O) → World P A O
    runs s xs = run rules s xs

    play-steps : (bs : List ℕ) (s : World P A O) (i : ℕ) (d : Here) (r : List (Step (Act B) O)) → here s i ≡ d → runs s (taken i bs r) ≡ runs (put_back s i (play i d bs)) r
    unfolding run taken play step byte
    play-steps [] s i d r h = ap (λ (z : World P A O). runs z r) (sym (back-here s i) ∙ ap (put_back s i) h)
    play-steps (b ∷ bs) s i d r h =
        let y : Here = byte i d b in
        ap (λ (z : Here). runs (put_back s i (act rules i z (takes b))) (taken i bs r)) h
        ∙ play-steps bs (put_back s i y) i y r (here_back s i y)
        ∙ ap (λ (z : World P A O). runs z r) (back-back s i y (play i y bs))

    here-well : (s : World P A O) (i : ℕ) → Ready Peer Good s → Well (here s i)
    here-well s i r = record { line = r.lines i; good = r.good }

    back-ready : (s : World P A O) (i : ℕ) (d : Here) → Ready Peer Good s → Well d → Ready Peer Good (put_back s i d)
    back-ready s i d r w = record { lines = λ j. cond_ind (Fine Peer) (eqb j i) d.line (s.lines j) (λ e. w.line) (λ e. r.lines j); good = w.good }

    -- a piece is its bytes, so it may be handed over in two
    pub call-hand : (s : World P A O) (i : ℕ) (p : List ℕ) → Ready Peer Good s → call L s (hand i p) ≡ put_back s i (play i (here s i) p)
    unfolding call
    call-hand s i p r = ap (put_back s i) (handed-play i (here s i) p (here-well s i r))

    pub hand-split : (s : World P A O) (i : ℕ) (p q : List ℕ) → Ready Peer Good s → call L s (hand i (p ++ q)) ≡ call L (call L s (hand i p)) (hand i q)
    hand-split s i p q r =
        let d : Here = play i (here s i) p in
        let t : Ready Peer Good (put_back s i d) = back-ready s i d r (play-well p i (here s i) (here-well s i r)) in
        call-hand s i (p ++ q) r ∙ ap (put_back s i) (play-append i (here s i) p q) ∙ sym (back-back s i d (play i d q))
        ∙ ap (λ (x : Here). put_back (put_back s i d) i (play i x q)) (sym (here_back s i d)) ∙ sym (call-hand (put_back s i d) i q t)
        ∙ ap (λ (w : World P A O). call L w (hand i q)) (sym (call-hand s i p r))

    call-does : (s : World P A O) (i : ℕ) (b : B) → call L s (does i b) ≡ step rules s (at i (acts b))
    unfolding call step
    call-does s i b = refl

    call_asks : (s : World P A O) (o : O) → call L s (asks o) ≡ step rules s (other o)
    unfolding call step
    call_asks s o = refl

    does-ready : (s : World P A O) (i : ℕ) (b : B) → Ready Peer Good s → Fits b → Ready Peer Good (call L s (does i b))
    unfolding call
    does-ready s i b r f =
        back-ready s i (acted L i b (here s i)) r
        (record { line = S.act-line i b (s.lines i) s.shared.state f (r.lines i) r.good; good = S.act-good i b (s.lines i) s.shared.state f (r.lines i) r.good })

    asks-ready : (s : World P A O) (o : O) → Ready Peer Good s → Ready Peer Good (call L s (asks o))
    unfolding call
    asks-ready s o r = record { lines = r.lines; good = S.hosts s.shared.state o r.good }

    pub calls-steps : (cs : List (Call B O)) (s : World P A O) → Ready Peer Good s → AllFit Fits cs → calls L s cs ≡ runs s (steps cs)
    unfolding AllFit calls run steps
    calls-steps [] s r h = refl
    calls-steps (hand i p ∷ cs) s r h =
        let s₁ : World P A O = put_back s i (play i (here s i) p) in
        ap (λ (z : World P A O). calls L z cs) (call-hand s i p r)
        ∙ calls-steps cs s₁ (back-ready s i (play i (here s i) p) r (play-well p i (here s i) (here-well s i r))) h
        ∙ sym (play-steps p s i (here s i) (steps cs) refl)
    calls-steps (does i b ∷ cs) s r h = calls-steps cs (call L s (does i b)) (does-ready s i b r h.0) h.1 ∙ ap (λ (z : World P A O). runs z (steps cs)) (call-does s i b)
    calls-steps (asks o ∷ cs) s r h = calls-steps cs (call L s (asks o)) (asks-ready s o r) h ∙ ap (λ (z : World P A O). runs z (steps cs)) (call_asks s o)

    -- ---- the order that the host notes is the order of the marks
    happens-order : (i : ℕ) (l : Line P) (h : Shared A O) (b : Act B) → quietly l b ≡ false → (happens i l h b).shared.order ≡ h.order ++ (happened i ∷ [])
    happens-order i l h (takes b) q = cond_no (is_more (step_of l.framing b).answer) h.order (h.order ++ (happened i ∷ [])) q
    happens-order i l h (acts b) q = refl

    act-order : (i : ℕ) (d : Here) (b : Act B) (m : List (Mark O)) → (act rules i d b).shared.order ++ m ≡ d.shared.order ++ cond (quietly d.line b) m (happened i ∷ m)
    act-order i d b m = go (quietly d.line b) refl
      where
        go : (t : Bool) → quietly d.line b ≡ t
            → (cond t (record { line = moves d.line b; shared = d.shared }) (happens i d.line d.shared b)).shared.order ++ m ≡ d.shared.order ++ cond t m (happened i ∷ m)
        go true e = refl
        go false e = ap (λ (l : List (Mark O)). l ++ m) (happens-order i d.line d.shared b e) ∙ append_assoc d.shared.order (happened i ∷ []) m

    pub run-order : (xs : List (Step (Act B) O)) (s : World P A O) → (runs s xs).shared.order ≡ s.shared.order ++ marks rules s xs
    unfolding run marks step
    run-order [] s = sym (append-nil s.shared.order)
    run-order (at i b ∷ xs) s = run-order xs (step rules s (at i b)) ∙ act-order i (here s i) b (marks rules (step rules s (at i b)) xs)
    run-order (other o ∷ xs) s = run-order xs (step rules s (other o)) ∙ append_assoc s.shared.order (asked o ∷ []) (marks rules (step rules s (other o)) xs)

    pub same_end : (cs ds : List (Call B O)) (s : World P A O) → Ready Peer Good s → AllFit Fits cs → AllFit Fits ds → ((i : ℕ) → given i cs ≡ given i ds)
        → (calls L s cs).shared.order ≡ (calls L s ds).shared.order → calls L s cs ≡ calls L s ds
    same_end cs ds s r h k g n =
        let p = calls-steps cs s r h in
        let q = calls-steps ds s r k in
        let e : s.shared.order ++ marks rules s (steps cs) ≡ s.shared.order ++ marks rules s (steps ds) =
        sym (run-order (steps cs) s) ∙ ap (λ (w : World P A O). w.shared.order) (sym p) ∙ n ∙ ap (λ (w : World P A O). w.shared.order) q ∙ run-order (steps ds) s in
        p ∙ order rules (steps cs) (steps ds) s (λ i. sym (given-steps cs i) ∙ g i ∙ given-steps ds i) (cancel s.shared.order _ _ e) ∙ sym q

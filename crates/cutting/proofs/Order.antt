-- Quiet acts of a line commute with everything else, and events keep their order: two runs with the same acts on each line and the same order of
-- events and other calls end the same. Assumes nothing.
use Prim.Native.Nat.{ℕ}
use mathlib.Core.Path.{◌≡◌, refl, sym, ap, ◌∙◌}
use mathlib.Core.List.{List, [], ◌∷◌}
use mathlib.Core.Bool.{Bool, true, false, cond}
use native.Mathlib.Omega.{arith}
use lib.Dec.{eqb}
use borrow.Author.Tests.{eqb-true, eqb-false, eq-eqb, ne_eqb}
use Rattle.octets.proofs.Bools.{cond_ind}
use Rattle.octets.proofs.Lists.{head_of, tail_of, no-cons}
use Rattle.cutting.specs.World.{Did, Sys, Mark, happened, asked, set_at, here, put_back}

-- ---- acts: on a line an act is quiet and changes that line alone, or it is an event

-- an act b on line i, or a call of the host that is on no line
pub data Step (B O : Type 0) : Type 0 where
  at : ℕ → B → Step B O
  other : O → Step B O

-- the acts on line i alone
unfoldable pub acts_of : {B O : Type 0} → ℕ → List (Step B O) → List B
acts_of i [] = []
acts_of i (at j b ∷ xs) = cond (eqb i j) (b ∷ acts_of i xs) (acts_of i xs)
acts_of i (other o ∷ xs) = acts_of i xs

-- what the lines and the host can do
pub record Rules (L A B O : Type 0) : Type 0 where
  pub quiet : L → B → Bool
  pub move : L → B → L
  pub event : ℕ → L → A → B → Did L A
  pub host : A → O → A

module _ {L A B O : Type 0} (R : Rules L A B O) where
  abbrev pub act : ℕ → Did L A → B → Did L A
  act i d b = cond (R.quiet d.line b) (record { line = R.move d.line b; shared = d.shared }) (R.event i d.line d.shared b)

  unfoldable pub step : Sys L A → Step B O → Sys L A
  step s (at i b) = put_back s i (act i (here s i) b)
  step s (other o) = record { lines = s.lines; shared = R.host s.shared o }

  unfoldable pub run : Sys L A → List (Step B O) → Sys L A
  run s [] = s
  run s (x ∷ xs) = run (step s x) xs

  -- the events and other calls of a run, in their order
  unfoldable pub marks : Sys L A → List (Step B O) → List (Mark O)
  marks s [] = []
  marks s (at i b ∷ xs) = cond (R.quiet (s.lines i) b) (marks (step s (at i b)) xs) (happened i ∷ marks (step s (at i b)) xs)
  marks s (other o ∷ xs) = asked o ∷ marks (step s (other o)) xs

-- ---- lines that are set
same : (i : ℕ) → eqb i i ≡ true
same i = eq-eqb i i refl

flip : (i j : ℕ) → eqb i j ≡ false → eqb j i ≡ false
flip i j h = ne_eqb j i (λ e. eqb-false i j h (sym e))

pub set_same : {L : Type 0} (f : ℕ → L) (i j : ℕ) → set_at f i (f i) j ≡ f j
set_same {L} f i j = cond_ind (λ (l : L). l ≡ f j) (eqb j i) (f i) (f j) (λ h. ap f (sym (eqb-true j i h))) (λ h. refl)

module _ {L A : Type 0} where
  pub here_back : (s : Sys L A) (i : ℕ) (d : Did L A) → here (put_back s i d) i ≡ d
  here_back s i d = ap (λ (z : Bool). record { line = cond z d.line (s.lines i); shared = d.shared }) (same i)

  pub back-back : (s : Sys L A) (i : ℕ) (d e : Did L A) → put_back (put_back s i d) i e ≡ put_back s i e
  back-back s i d e = λ k. record { lines = λ j. go (eqb j i) j k; shared = e.shared }
    where
      go : (t : Bool) (j : ℕ) → cond t e.line (cond t d.line (s.lines j)) ≡ cond t e.line (s.lines j)
      go true j = refl
      go false j = refl

  pub back-here : (s : Sys L A) (i : ℕ) → put_back s i (here s i) ≡ s
  back-here s i = λ k. record { lines = λ j. set_same s.lines i j k; shared = s.shared }

-- two lines that are set, in either order
swap : {L : Type 0} (f : ℕ → L) (i j : ℕ) (v w : L) → eqb i j ≡ false → set_at (set_at f i v) j w ≡ set_at (set_at f j w) i v
swap f i j v w h = λ k n. at n k
  where
    go : (n : ℕ) (p q : Bool) → eqb n j ≡ p → eqb n i ≡ q → cond p w (cond q v (f n)) ≡ cond q v (cond p w (f n))
    go n true true a b = absurd (eqb-false i j h (sym (eqb-true n i b) ∙ eqb-true n j a))
    go n true false a b = refl
    go n false true a b = refl
    go n false false a b = refl

    at : (n : ℕ) → cond (eqb n j) w (cond (eqb n i) v (f n)) ≡ cond (eqb n i) v (cond (eqb n j) w (f n))
    at n = go n (eqb n j) (eqb n i) refl refl

-- the steps without the first act on line i; without the first other call
unfoldable pull : {B O : Type 0} → ℕ → List (Step B O) → List (Step B O)
pull i [] = []
pull i (at j b ∷ xs) = cond (eqb i j) xs (at j b ∷ pull i xs)
pull i (other o ∷ xs) = other o ∷ pull i xs

unfoldable pull_host : {B O : Type 0} → List (Step B O) → List (Step B O)
pull_host [] = []
pull_host (at j b ∷ xs) = at j b ∷ pull_host xs
pull_host (other o ∷ xs) = xs

-- the acts of each line after a pull
acts-own : {B O : Type 0} (i : ℕ) (b : B) (r : List B) (ys : List (Step B O)) → acts_of i ys ≡ b ∷ r → acts_of i (pull i ys) ≡ r
unfolding acts_of pull
acts-own i b r [] h = no-cons b r (sym h)
acts-own i b r (at j c ∷ ys) h = go (eqb i j) refl (acts-own i b r ys) h
  where
    go : (t : Bool) → eqb i j ≡ t → (acts_of i ys ≡ b ∷ r → acts_of i (pull i ys) ≡ r) → cond t (c ∷ acts_of i ys) (acts_of i ys) ≡ b ∷ r → acts_of i (cond t ys (at j c ∷ pull i ys)) ≡ r
    go true e ih k = tail_of _ _ _ _ k
    go false e ih k = ap (λ (z : Bool). cond z (c ∷ acts_of i (pull i ys)) (acts_of i (pull i ys))) e ∙ ih k
acts-own i b r (other o ∷ ys) h = acts-own i b r ys h

acts-other : {B O : Type 0} (i k : ℕ) (ys : List (Step B O)) → eqb k i ≡ false → acts_of k (pull i ys) ≡ acts_of k ys
unfolding acts_of pull
acts-other i k [] h = refl
acts-other i k (at j c ∷ ys) h = go (eqb i j) refl (acts-other i k ys h)
  where
    go : (t : Bool) → eqb i j ≡ t → acts_of k (pull i ys) ≡ acts_of k ys → acts_of k (cond t ys (at j c ∷ pull i ys)) ≡ cond (eqb k j) (c ∷ acts_of k ys) (acts_of k ys)
    go true e ih = sym (ap (λ (z : Bool). cond z (c ∷ acts_of k ys) (acts_of k ys)) (ap (eqb k) (sym (eqb-true i j e)) ∙ h))
    go false e ih = ap (λ (l : List _). cond (eqb k j) (c ∷ l) l) ih
acts-other i k (other o ∷ ys) h = acts-other i k ys h

acts-host : {B O : Type 0} (k : ℕ) (ys : List (Step B O)) → acts_of k (pull_host ys) ≡ acts_of k ys
unfolding acts_of pull_host
acts-host k [] = refl
acts-host k (at j c ∷ ys) = ap (λ (l : List _). cond (eqb k j) (c ∷ l) l) (acts-host k ys)
acts-host k (other o ∷ ys) = refl

module _ {L A B O : Type 0} (R : Rules L A B O) where
  abbrev quiet : L → B → Bool
  quiet l b = R.quiet l b

  abbrev next : Sys L A → Step B O → Sys L A
  next s x = step R s x

  abbrev runs : Sys L A → List (Step B O) → Sys L A
  runs s xs = run R s xs

  abbrev seen : Sys L A → List (Step B O) → List (Mark O)
  seen s xs = marks R s xs

  abbrev does : ℕ → L → A → B → Did L A
  does i l a b = act R i (record { line = l; shared = a }) b

  abbrev mark : Bool → ℕ → List (Mark O) → List (Mark O)
  mark q i l = cond q l (happened i ∷ l)

  line_other : (s : Sys L A) (i j : ℕ) (c : B) → eqb i j ≡ false → (next s (at j c)).lines i ≡ s.lines i
  unfolding step
  line_other s i j c h = ap (λ (z : Bool). cond z (does j (s.lines j) s.shared c).line (s.lines i)) h

  quiet_step : (s : Sys L A) (i : ℕ) (b : B) → quiet (s.lines i) b ≡ true
      → next s (at i b) ≡ record { lines = set_at s.lines i (R.move (s.lines i) b); shared = s.shared }
  unfolding step
  quiet_step s i b h =
      ap (λ (z : Bool). let d : Did L A = cond z (record { line = R.move (s.lines i) b; shared = s.shared }) (R.event i (s.lines i) s.shared b) in
      put_back s i d) h

  comm : (s : Sys L A) (i : ℕ) (b : B) (j : ℕ) (c : B) → eqb i j ≡ false → quiet (s.lines i) b ≡ true
      → next (next s (at j c)) (at i b) ≡ next (next s (at i b)) (at j c)
  unfolding step
  comm s i b j c h q =
      let d : Did L A = does j (s.lines j) s.shared c in
      let e : (next s (at j c)).lines i ≡ s.lines i = line_other s i j c h in
      let v : L = R.move (s.lines i) b in
      let s₂ : Sys L A = record { lines = set_at s.lines i v; shared = s.shared } in
      let f : s₂.lines j ≡ s.lines j = ap (λ (z : Bool). cond z v (s.lines j)) (flip i j h) in
      let one : next (next s (at j c)) (at i b) ≡ record { lines = set_at (set_at s.lines j d.line) i v; shared = d.shared } =
      quiet_step (next s (at j c)) i b (ap (λ (l : L). quiet l b) e ∙ q)
      ∙ ap {B = Sys L A} (λ (l : L). record { lines = set_at (set_at s.lines j d.line) i (R.move l b); shared = d.shared }) e in
      let two : next (next s (at i b)) (at j c) ≡ record { lines = set_at (set_at s.lines i v) j d.line; shared = d.shared } =
      ap (λ (r : Sys L A). next r (at j c)) (quiet_step s i b q)
      ∙ ap (λ (l : L). put_back s₂ j (does j l s.shared c)) f in
      one ∙ (λ k. record { lines = swap s.lines j i d.line v (flip i j h) k; shared = d.shared }) ∙ sym two

  comm-host : (s : Sys L A) (i : ℕ) (b : B) (o : O) → quiet (s.lines i) b ≡ true → next (next s (other o)) (at i b) ≡ next (next s (at i b)) (other o)
  unfolding step
  comm-host s i b o q = quiet_step (next s (other o)) i b q ∙ sym (ap (λ (r : Sys L A). next r (other o)) (quiet_step s i b q))

  host-line : (s : Sys L A) (o : O) (i : ℕ) (b : B) → quiet (s.lines i) b ≡ true → quiet ((next s (other o)).lines i) b ≡ true
  unfolding step
  host-line s o i b q = q

  run-cons : (s : Sys L A) (x : Step B O) (xs : List (Step B O)) → runs s (x ∷ xs) ≡ runs (next s x) xs
  unfolding run
  run-cons s x xs = refl

  seen-on : (s : Sys L A) (i : ℕ) (b : B) (xs : List (Step B O)) → seen s (at i b ∷ xs) ≡ mark (quiet (s.lines i) b) i (seen (next s (at i b)) xs)
  unfolding marks
  seen-on s i b xs = refl

  seen_other : (s : Sys L A) (o : O) (xs : List (Step B O)) → seen s (other o ∷ xs) ≡ asked o ∷ seen (next s (other o)) xs
  unfolding marks
  seen_other s o xs = refl

  seen-quiet : (s : Sys L A) (i : ℕ) (b : B) (xs : List (Step B O)) → quiet (s.lines i) b ≡ true → seen s (at i b ∷ xs) ≡ seen (next s (at i b)) xs
  seen-quiet s i b xs h = seen-on s i b xs ∙ ap (λ (z : Bool). mark z i (seen (next s (at i b)) xs)) h

  seen-event : (s : Sys L A) (i : ℕ) (b : B) (xs : List (Step B O)) → quiet (s.lines i) b ≡ false → seen s (at i b ∷ xs) ≡ happened i ∷ seen (next s (at i b)) xs
  seen-event s i b xs h = seen-on s i b xs ∙ ap (λ (z : Bool). mark z i (seen (next s (at i b)) xs)) h

  seen-nil : (s : Sys L A) → seen s [] ≡ []
  unfolding marks
  seen-nil s = refl

  -- a first act of line i that is quiet may come first
  pub record Pulled (s : Sys L A) (xs : List (Step B O)) (t : Sys L A) (ys : List (Step B O)) (m : List (Mark O)) : Type 0 where
    pub ran : runs s xs ≡ runs t ys
    pub left : seen t ys ≡ m

  pull-quiet : (ys : List (Step B O)) (s : Sys L A) (i : ℕ) (b : B) (r : List B) → acts_of i ys ≡ b ∷ r → quiet (s.lines i) b ≡ true
      → Pulled s ys (next s (at i b)) (pull i ys) (seen s ys)
  unfolding acts_of pull
  pull-quiet [] s i b r h q = no-cons b r (sym h)
  pull-quiet (at j c ∷ ys) s i b r h q = go (eqb i j) refl h (pull-quiet ys (next s (at j c)) i b r)
    where
      go : (t : Bool) → eqb i j ≡ t → cond t (c ∷ acts_of i ys) (acts_of i ys) ≡ b ∷ r
          → (acts_of i ys ≡ b ∷ r → quiet ((next s (at j c)).lines i) b ≡ true → Pulled (next s (at j c)) ys (next (next s (at j c)) (at i b)) (pull i ys) (seen (next s (at j c)) ys))
          → Pulled s (at j c ∷ ys) (next s (at i b)) (cond t ys (at j c ∷ pull i ys)) (seen s (at j c ∷ ys))
      go true e k ih =
          let p : i ≡ j = eqb-true i j e in
          let u : c ≡ b = head_of _ _ _ _ k in
          let x : ◌≡◌ {A = Step B O} (at j c) (at i b) = λ n. at (sym p n) (u n) in
          record {
            ran = run-cons s (at j c) ys ∙ ap (λ (z : Step B O). runs (next s z) ys) x;
            left = sym (ap (λ (z : Step B O). seen s (z ∷ ys)) x ∙ seen-quiet s i b ys q);
          }
      go false e k ih =
          let d = line_other s i j c e in
          let f = line_other s j i b (flip i j e) in
          let g = ih k (ap (λ (l : L). quiet l b) d ∙ q) in
          let w = comm s i b j c e q in
          record {
            ran = run-cons s (at j c) ys ∙ g.ran ∙ ap (λ (z : Sys L A). runs z (pull i ys)) w ∙ sym (run-cons (next s (at i b)) (at j c) (pull i ys));
            left = seen-on (next s (at i b)) j c (pull i ys) ∙ ap (λ (l : L). mark (quiet l c) j (seen (next (next s (at i b)) (at j c)) (pull i ys))) f
                ∙ ap (λ (z : Sys L A). mark (quiet (s.lines j) c) j (seen z (pull i ys))) (sym w)
                ∙ ap (mark (quiet (s.lines j) c) j) g.left
                ∙ sym (seen-on s j c ys);
          }
  pull-quiet (other o ∷ ys) s i b r h q =
      let g = pull-quiet ys (next s (other o)) i b r h (host-line s o i b q) in
      let w = comm-host s i b o q in
      record {
        ran = run-cons s (other o) ys ∙ g.ran ∙ ap (λ (z : Sys L A). runs z (pull i ys)) w ∙ sym (run-cons (next s (at i b)) (other o) (pull i ys));
        left = seen_other (next s (at i b)) o (pull i ys) ∙ ap (λ (z : Sys L A). asked o ∷ seen z (pull i ys)) (sym w) ∙ ap (λ (l : List (Mark O)). asked o ∷ l) g.left ∙ sym (seen_other s o ys);
      }

  not_own : {P : Type 0} (i j : ℕ) (l m : List (Mark O)) → eqb i j ≡ false → ◌≡◌ {A = List (Mark O)} (happened j ∷ l) (happened i ∷ m) → P
  not_own i j l m h e = let p : i ≡ j = cc in absurd (eqb-false i j h p)

  not-host : {P : Type 0} (i : ℕ) (o : O) (l m : List (Mark O)) → ◌≡◌ {A = List (Mark O)} (asked o ∷ l) (happened i ∷ m) → P
  not-host i o l m e = absurd (let z : ◌≡◌ {A = ℕ} 0 1 = cc in omega arith)

  not_none : {P : Type 0} (x : Mark O) (m : List (Mark O)) → [] ≡ x ∷ m → P
  not_none x m e = absurd (let z : ◌≡◌ {A = ℕ} 0 1 = cc in omega arith)

  -- a first act of line i that is the next event may come first
  pull-event : (ys : List (Step B O)) (s : Sys L A) (i : ℕ) (b : B) (r : List B) (m : List (Mark O)) → acts_of i ys ≡ b ∷ r → quiet (s.lines i) b ≡ false
      → seen s ys ≡ happened i ∷ m → Pulled s ys (next s (at i b)) (pull i ys) m
  unfolding acts_of pull
  pull-event [] s i b r m h q n = no-cons b r (sym h)
  pull-event (at j c ∷ ys) s i b r m h q n = go (eqb i j) refl (quiet (s.lines j) c) refl h (pull-event ys (next s (at j c)) i b r m)
    where
      go : (t : Bool) → eqb i j ≡ t → (z : Bool) → quiet (s.lines j) c ≡ z → cond t (c ∷ acts_of i ys) (acts_of i ys) ≡ b ∷ r
          → (acts_of i ys ≡ b ∷ r → quiet ((next s (at j c)).lines i) b ≡ false → seen (next s (at j c)) ys ≡ happened i ∷ m → Pulled (next s (at j c)) ys (next (next s (at j c)) (at i b)) (pull i ys) m)
          → Pulled s (at j c ∷ ys) (next s (at i b)) (cond t ys (at j c ∷ pull i ys)) m
      go true e z w k ih =
          let p : i ≡ j = eqb-true i j e in
          let u : c ≡ b = head_of _ _ _ _ k in
          let x : ◌≡◌ {A = Step B O} (at j c) (at i b) = λ n. at (sym p n) (u n) in
          record {
            ran = run-cons s (at j c) ys ∙ ap (λ (z : Step B O). runs (next s z) ys) x;
            left = tail_of _ _ _ _ (sym (seen-event s i b ys q) ∙ sym (ap (λ (z : Step B O). seen s (z ∷ ys)) x) ∙ n);
          }
      go false e false w k ih = not_own i j _ m e (sym (seen-event s j c ys w) ∙ n)
      go false e true w k ih =
          let d = line_other s i j c e in
          let f = line_other s j i b (flip i j e) in
          let g = ih k (ap (λ (l : L). quiet l b) d ∙ q) (sym (seen-quiet s j c ys w) ∙ n) in
          let v = comm s j c i b (flip i j e) w in
          record {
            ran = run-cons s (at j c) ys ∙ g.ran ∙ ap (λ (z : Sys L A). runs z (pull i ys)) (sym v) ∙ sym (run-cons (next s (at i b)) (at j c) (pull i ys));
            left = seen-quiet (next s (at i b)) j c (pull i ys) (ap (λ (l : L). quiet l c) f ∙ w) ∙ ap (λ (z : Sys L A). seen z (pull i ys)) v ∙ g.left;
          }
  pull-event (other o ∷ ys) s i b r m h q n = not-host i o _ m (sym (seen_other s o ys) ∙ n)

  pull-host : (ys : List (Step B O)) (s : Sys L A) (o : O) (m : List (Mark O)) → seen s ys ≡ asked o ∷ m → Pulled s ys (next s (other o)) (pull_host ys) m
  unfolding pull_host
  pull-host [] s o m n = not_none _ m (sym (seen-nil s) ∙ n)
  pull-host (at j c ∷ ys) s o m n = go (quiet (s.lines j) c) refl (pull-host ys (next s (at j c)) o m)
    where
      go : (z : Bool) → quiet (s.lines j) c ≡ z → (seen (next s (at j c)) ys ≡ asked o ∷ m → Pulled (next s (at j c)) ys (next (next s (at j c)) (other o)) (pull_host ys) m)
          → Pulled s (at j c ∷ ys) (next s (other o)) (at j c ∷ pull_host ys) m
      go false w ih = not-host j o m _ (sym n ∙ seen-event s j c ys w)
      go true w ih =
          let g = ih (sym (seen-quiet s j c ys w) ∙ n) in
          let v = comm-host s j c o w in
          record {
            ran = run-cons s (at j c) ys ∙ g.ran ∙ ap (λ (z : Sys L A). runs z (pull_host ys)) (sym v) ∙ sym (run-cons (next s (other o)) (at j c) (pull_host ys));
            left = seen-quiet (next s (other o)) j c (pull_host ys) (host-line s o j c w) ∙ ap (λ (z : Sys L A). seen z (pull_host ys)) v ∙ g.left;
          }
  pull-host (other p ∷ ys) s o m n =
      let e : ◌≡◌ {A = Mark O} (asked p) (asked o) = head_of _ _ _ _ (sym (seen_other s p ys) ∙ n) in
      let q : p ≡ o = cc in
      record {
        ran = run-cons s (other p) ys ∙ ap (λ (z : O). runs (next s (other z)) ys) q;
        left = tail_of _ _ _ _ (sym (seen_other s o ys) ∙ ap (λ (z : O). seen s (other z ∷ ys)) (sym q) ∙ n);
      }

  -- THE THEOREM: the same acts on each line and the same order of events and other calls end the same
  pub order : (xs ys : List (Step B O)) (s : Sys L A) → ((i : ℕ) → acts_of i xs ≡ acts_of i ys) → seen s xs ≡ seen s ys → runs s xs ≡ runs s ys
  unfolding acts_of
  order [] [] s a n = refl
  order [] (at i b ∷ ys) s a n = no-cons b (acts_of i ys) (sym (a i ∙ ap (λ (z : Bool). cond z (b ∷ acts_of i ys) (acts_of i ys)) (same i)))
  order [] (other o ∷ ys) s a n = not_none _ _ (sym (seen-nil s) ∙ n ∙ seen_other s o ys)
  order (at i b ∷ xs) ys s a n = go (quiet (s.lines i) b) refl (order xs (pull i ys) (next s (at i b)))
    where
      own : acts_of i ys ≡ b ∷ acts_of i xs
      own = sym (a i) ∙ ap (λ (z : Bool). cond z (b ∷ acts_of i xs) (acts_of i xs)) (same i)

      rest : (k : ℕ) → acts_of k xs ≡ acts_of k (pull i ys)
      rest k = by (eqb k i) refl (a k)
        where
          by : (t : Bool) → eqb k i ≡ t → cond t (b ∷ acts_of k xs) (acts_of k xs) ≡ acts_of k ys → acts_of k xs ≡ acts_of k (pull i ys)
          by true e h = let p : k ≡ i = eqb-true k i e in ap (λ (z : ℕ). acts_of z xs) p ∙ sym (acts-own i b (acts_of i xs) ys own) ∙ ap (λ (z : ℕ). acts_of z (pull i ys)) (sym p)
          by false e h = h ∙ sym (acts-other i k ys e)

      go : (z : Bool) → quiet (s.lines i) b ≡ z → (((k : ℕ) → acts_of k xs ≡ acts_of k (pull i ys)) → seen (next s (at i b)) xs ≡ seen (next s (at i b)) (pull i ys) → runs (next s (at i b)) xs ≡ runs (next s (at i b)) (pull i ys))
          → runs s (at i b ∷ xs) ≡ runs s ys
      go true w ih =
          let g = pull-quiet ys s i b (acts_of i xs) own w in
          run-cons s (at i b) xs ∙ ih rest (sym (seen-quiet s i b xs w) ∙ n ∙ sym g.left) ∙ sym g.ran
      go false w ih =
          let g = pull-event ys s i b (acts_of i xs) (seen (next s (at i b)) xs) own w (sym n ∙ seen-event s i b xs w) in
          run-cons s (at i b) xs ∙ ih rest (sym g.left) ∙ sym g.ran
  order (other o ∷ xs) ys s a n =
      let g = pull-host ys s o (seen (next s (other o)) xs) (sym n ∙ seen_other s o xs) in
      run-cons s (other o) xs ∙ order xs (pull_host ys) (next s (other o)) (λ k. a k ∙ sym (acts-host k ys)) (sym g.left) ∙ sym g.ran

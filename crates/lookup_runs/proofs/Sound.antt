-- Form is kept: a started lookup is in form, and every call leaves it so. Assumes nothing.
use Prim.Native.Nat.{ℕ, suc, ◌+◌, ◌-◌, ◌≤◌, ◌<◌}
use mathlib.Core.Path.{◌≡◌, refl, sym, ap, ap₂, ◌∙◌, subst}
use mathlib.Core.Bool.{Bool, true, false, not, ◌||◌}
use mathlib.Core.List.{List, [], ◌∷◌, ◌++◌, map, append-nil}
use native.Mathlib.Omega.{arith}
use lib.Dec.{leb, ltb}
use lib.ListN.{length, get_or, take, drop, replicate, length-append, length-take, length-drop, length-map, length-replicate, drop_of_length-le}
use lib.Seq.{sets-eq, take-append_seam}
use borrow.Author.Tests.{le-leb, leb-true, ltb-true, not-false}
use Rattle.octets.specs.Octets.{Bytes, same}
use Rattle.octets.proofs.Bools.{cond_ind, and_l, and_r, all-one-more, all_none, not-both}
use Rattle.limits.specs.Limits.{most_id, most_key}
use Rattle.peer.proofs.Meaning.{fits-least, fits-most}
use Rattle.place.specs.Place.{distance}
use Rattle.sha256.specs.Sha256.{sha256}
use Rattle.refusal.specs.declared.Refusal.{Refusal}
use Rattle.refusal.specs.declared.Refusal.TheVariants.{OutOfForm, BreaksRules, BadPeer, BadConcurrency}
use Rattle.sha256.proofs.Laws.{length-sha256, bytes-sha256}
use Rattle.contacts.specs.Table.{slots_of, slot, used, place}
use Rattle.contacts.specs.Form.{in_form as in_form_table}
use Rattle.contacts.specs.Near.{far, nearest_slots}
use Rattle.contact_table.proofs.Cuts.{slot_whole, place-size, bytes-place}
use Rattle.contact_form.proofs.FormFacts.{form-elim}
use Rattle.contact_form.proofs.EntryFacts.{entry-id-most, form-entry}
use Rattle.contacts.proofs.TwentyNearest.{nearest-held, nearest-strict}
use Rattle.lookup_marks.specs.Marks.{idle, flying, answered, failed}
use Rattle.octets.specs.Search.{any_in}
use Rattle.message.specs.Kinds.{key_fits}
use Rattle.lookup.specs.Lookup.{room, limit_most, candidates_of, well_made, follow, nearest_first, in_form, turn_away, put, mark, id_fits, padded, fresh, known, enter, meet, hear, hear_all, nobody, contact_at, first_ones, begun, refuses, settled, no_lookup, limit_fits, start_of}
use Rattle.lookup_candidates.specs.declared.Candidate.{Candidate}
use Rattle.lookup.specs.Value.{Lookup, Step}
use Rattle.lookup.proofs.Form.{Formed, formed, form_of}
use Rattle.lookup.proofs.Hearing.{enter-length}
use Rattle.lookup.proofs.Starting.{nearest-few}
use Rattle.lookup_runs.specs.Runs.{accepted, Started, Call, step, outcome}
use Rattle.lookup_runs.proofs.Marking.{length-mark, marked-candidates, put-candidates}
use Rattle.lookup_runs.proofs.Order.{Placed, AllPlaced, placed-nil, placed-cons, placed-mark, placed-enter, dist, follow-in, follow-nil, first-in, first-nil, near, order-mark, order-enter}
use Rattle.lookup_runs.proofs.Moves.{Move, stays, asks, fails, answers, moved}

pub record Sound (l : Lookup) : Type 0 where
  pub form : in_form l ≡ true
  pub long : length l.candidates ≡ 256
  pub target : length l.target ≡ 32
  pub placed : AllPlaced (candidates_of l)

-- ---- one mark set
pub sound-mark : (i m : ℕ) (l : Lookup) → m ≤ failed → Sound l → Sound (mark i m l)
sound-mark i m l h s =
    let f : Formed l = formed l s.form in
    record {
      form = form_of (mark i m l) (record {
        size_low = f.size_low;
        size_high = f.size_high;
        limit_low = f.limit_low;
        limit_high = f.limit_high;
        fits = f.fits;
        order = subst (λ (cs : List Candidate). nearest_first l.target cs ≡ true) (sym (marked-candidates i m l)) (order-mark l.target i m (candidates_of l) h f.order);
      });
      long = length-mark i m l.candidates ∙ s.long;
      target = s.target;
      placed = subst AllPlaced (sym (marked-candidates i m l)) (placed-mark i m (candidates_of l) s.placed);
    }

-- ---- one candidate more
sound-put : (c : Candidate) (l : Lookup) → well_made c ≡ true → Placed c.place → known c.place (candidates_of l) ≡ false → l.count < room → Sound l
    → Sound (put l (enter l.target c (candidates_of l)))
sound-put c l made p k h s =
    let f : Formed l = formed l s.form in
    let cs : List Candidate = enter l.target c (candidates_of l) in
    let n : length (enter l.target c (candidates_of l)) ≤ 256 = omega (arith, enter-length l.target c (candidates_of l), length-take l.count l.candidates) in
    record {
      form = form_of (put l (enter l.target c (candidates_of l))) (record {
        size_low = f.size_low;
        size_high = f.size_high;
        limit_low = f.limit_low;
        limit_high = f.limit_high;
        fits = n;
        order = subst (λ (xs : List Candidate). nearest_first l.target xs ≡ true) (sym (put-candidates l (enter l.target c (candidates_of l))))
            (order-enter l.target s.target c made p (candidates_of l) s.placed k f.order);
      });
      long = length-append (enter l.target c (candidates_of l)) (drop (length (enter l.target c (candidates_of l))) l.candidates)
          ∙ omega (arith, length-drop (length (enter l.target c (candidates_of l))) l.candidates, s.long, n);
      target = s.target;
      placed = subst AllPlaced (sym (put-candidates l (enter l.target c (candidates_of l)))) (placed-enter l.target c (candidates_of l) p s.placed);
    }

sound-turn : (l : Lookup) → Sound l → Sound (turn_away l)
sound-turn l s =
    let f : Formed l = formed l s.form in
    record {
      form = form_of (turn_away l) (record {
        size_low = f.size_low;
        size_high = f.size_high;
        limit_low = f.limit_low;
        limit_high = f.limit_high;
        fits = f.fits;
        order = f.order;
      });
      long = s.long;
      target = s.target;
      placed = s.placed;
    }

made-idle : (c : Candidate) → c.mark ≡ idle → 1 ≤ c.len → c.len ≤ most_id → well_made c ≡ true
unfolding well_made
made-idle c m a b =
    all-one-more (leb c.mark failed) _ (le-leb c.mark failed (omega arith))
    (all-one-more (leb 1 c.len) _ (le-leb 1 c.len a) (all-one-more (leb c.len most_id) [] (le-leb c.len most_id b) all_none))

pub sound-hear : (ours id : List ℕ) (l : Lookup) → Sound l → Sound (hear ours id l)
unfolding hear meet
sound-hear ours id l s =
    cond_ind Sound (not (id_fits id)) l _ (λ e. s)
    (λ f. cond_ind Sound (same (sha256 id) ours) l _ (λ e. s)
    (λ o. cond_ind Sound (known (sha256 id) (candidates_of l)) l _ (λ e. s)
    (λ k. cond_ind Sound (ltb l.count room) (put l (enter l.target (fresh id) (candidates_of l))) (turn_away l)
    (λ e. sound-put (fresh id) l
    (made-idle (fresh id) refl (fits-least id (not-false (id_fits id) f)) (fits-most id (not-false (id_fits id) f)))
    (record { long = length-sha256 id; bytes = bytes-sha256 id }) k (ltb-true l.count room e) s)
    (λ e. sound-turn l s))))

pub sound-all : (ours : List ℕ) (ids : List (List ℕ)) (l : Lookup) → Sound l → Sound (hear_all ours ids l)
unfolding hear_all
sound-all ours [] l s = s
sound-all ours (id ∷ ids) l s = sound-all ours ids (hear ours id l) (sound-hear ours id l s)

-- ---- the target stays
hear-target : (ours id : List ℕ) (l : Lookup) → (hear ours id l).target ≡ l.target
unfolding hear meet
hear-target ours id l =
    cond_ind P (not (id_fits id)) l _ (λ e. refl)
    (λ f. cond_ind P (same (sha256 id) ours) l _ (λ e. refl)
    (λ o. cond_ind P (known (sha256 id) (candidates_of l)) l _ (λ e. refl)
    (λ k. cond_ind P (ltb l.count room) (put l (enter l.target (fresh id) (candidates_of l))) (turn_away l) (λ e. refl) (λ e. refl))))
  where
    P : Lookup → Type 0
    P k = k.target ≡ l.target

all-target : (ours : List ℕ) (ids : List (List ℕ)) (l : Lookup) → (hear_all ours ids l).target ≡ l.target
unfolding hear_all
all-target ours [] l = refl
all-target ours (id ∷ ids) l = all-target ours ids (hear ours id l) ∙ hear-target ours id l

step-target : (c : Call) (l : Lookup) → Sound l → (step c l).lookup.target ≡ l.target
step-target c l s = go (moved c l s.long)
  where
    go : Move c l (step c l) → (step c l).lookup.target ≡ l.target
    go (stays e q n) = ap (λ (k : Lookup). k.target) e
    go (asks i n h g e q) = ap (λ (k : Lookup). k.target) e
    go (fails id i f h p e q a) = ap (λ (k : Lookup). k.target) e
    go (answers own ours id body v i ec k h p e q a) = ap (λ (k : Lookup). k.target) e ∙ all-target ours _ (mark i answered l)

-- ---- any call
pub sound-step : (c : Call) (l : Lookup) → Sound l → Sound (step c l).lookup
sound-step c l s = go (moved c l s.long)
  where
    go : Move c l (step c l) → Sound (step c l).lookup
    go (stays e q n) = subst Sound (sym e) s
    go (asks i n h g e q) = subst Sound (sym e) (sound-mark i flying l (omega arith) s)
    go (fails id i f h p e q a) = subst Sound (sym e) (sound-mark i failed l (omega arith) s)
    go (answers own ours id body v i ec k h p e q a) = subst Sound (sym e) (sound-all ours _ (mark i answered l) (sound-mark i answered l (omega arith) s))

pub sound-outcome : (cs : List Call) (s : Step) → Sound s.lookup → Sound (outcome step s cs).lookup
unfolding outcome
sound-outcome [] s h = h
sound-outcome (c ∷ cs) s h = sound-outcome cs (step c s.lookup) (sound-step c s.lookup h)

pub outcome-target : (cs : List Call) (s : Step) → Sound s.lookup → (outcome step s cs).lookup.target ≡ s.lookup.target
unfolding outcome
outcome-target [] s h = refl
outcome-target (c ∷ cs) s h = outcome-target cs (step c s.lookup) (sound-step c s.lookup h) ∙ step-target c s.lookup h

-- ---- a start
padded-whole : (n : ℕ) (p : List ℕ) → length p ≡ n → padded n p ≡ p
padded-whole n p e =
    let k : length (replicate {A = ℕ} n 0) ≤ 0 + length p = omega (arith, length-replicate {A = ℕ} n 0) in
    sets-eq p (replicate n 0) 0 (omega (arith, length-replicate {A = ℕ} n 0)) ∙ ap (λ (r : List ℕ). p ++ r) (drop_of_length-le (replicate {A = ℕ} n 0) k) ∙ append-nil p

pub padded-part : (n : ℕ) (p : List ℕ) → length p ≤ n → take (length p) (padded n p) ≡ p
padded-part n p h =
    ap (take (length p)) (sets-eq p (replicate n 0) 0 (omega (arith, length-replicate {A = ℕ} n 0))) ∙ take-append_seam p (drop (0 + length p) (replicate n 0))

module _ (t ours x : List ℕ) (ht : Bytes t) (table : in_form_table t ours ≡ true) (hx : length x ≡ 32) where
  abbrev Good : ℕ → Type 0
  Good i = (i < slots_of t) × (used (slot t i) ≡ true)

  pub place_is : (i : ℕ) → Good i → (contact_at t i).place ≡ place (slot t i)
  place_is i g = padded-whole 32 (place (slot t i)) (place-size t i (slot_whole t i g.0))

  contact-placed : (i : ℕ) → Good i → Placed (contact_at t i).place
  contact-placed i g =
      subst Placed (sym (place_is i g)) (record { long = place-size t i (slot_whole t i g.0); bytes = bytes-place t i ht })

  contact-made : (i : ℕ) → Good i → well_made (contact_at t i) ≡ true
  contact-made i g = made-idle (contact_at t i) refl (form-entry t ours table i g.0 g.1).id_some (entry-id-most (slot t i))

  contact-far : (i : ℕ) → Good i → dist x (contact_at t i) ≡ far t x i
  unfolding far
  contact-far i g = ap (λ (p : List ℕ). distance p x) (place_is i g)

  contact-near : (i j : ℕ) → Good i → Good j → far t x i < far t x j → dist x (contact_at t i) < dist x (contact_at t j)
  contact-near i j a b h = omega (arith, contact-far i a, contact-far j b)

  abbrev AllGood : List ℕ → Type 0
  AllGood ls = (i : ℕ) → i < length ls → Good (get_or ls i 0)

  abbrev Strict : List ℕ → Type 0
  Strict ls = (i j : ℕ) → i < j → j < length ls → far t x (get_or ls i 0) < far t x (get_or ls j 0)

  contacts-follow : (d : ℕ) (ls : List ℕ) → AllGood (d ∷ ls) → Strict (d ∷ ls) → follow x (contact_at t d) (map (contact_at t) ls) ≡ true
  contacts-follow d [] g s = follow-nil x (contact_at t d)
  contacts-follow d (e ∷ ls) g s =
      let gd : Good d = g 0 (omega arith) in
      let ge : Good e = g 1 (omega arith) in
      follow-in x (contact_at t d) (contact_at t e) (map (contact_at t) ls) (contact-made e ge)
      (near x hx (contact_at t d) (contact_at t e) (contact-placed d gd) (contact-placed e ge) (contact-near d e gd ge (s 0 1 (omega arith) (omega arith))))
      (contacts-follow e ls (λ i h. g (suc i) (omega arith)) (λ i j h k. s (suc i) (suc j) (omega arith) (omega arith)))

  contacts-order : (ls : List ℕ) → AllGood ls → Strict ls → nearest_first x (map (contact_at t) ls) ≡ true
  contacts-order [] g s = first-nil x
  contacts-order (d ∷ ls) g s = first-in x (contact_at t d) (map (contact_at t) ls) (contact-made d (g 0 (omega arith))) (contacts-follow d ls g s)

  contacts-placed : (ls : List ℕ) → AllGood ls → AllPlaced (map (contact_at t) ls)
  contacts-placed [] g = placed-nil
  contacts-placed (d ∷ ls) g = placed-cons (contact_at t d) (map (contact_at t) ls) (contact-placed d (g 0 (omega arith))) (contacts-placed ls (λ i h. g (suc i) (omega arith)))

  pub first-order : nearest_first x (first_ones t x) ≡ true
  unfolding first_ones
  first-order = contacts-order (nearest_slots t x) (nearest-held t x) (nearest-strict t ours x hx ht (form-elim t ours table))

  pub first-placed : AllPlaced (first_ones t x)
  unfolding first_ones
  first-placed = contacts-placed (nearest_slots t x) (nearest-held t x)

  -- they lie where the contacts do
  contacts-lie : (p : List ℕ) (ls : List ℕ) → AllGood ls → known p (map (contact_at t) ls) ≡ any_in (λ i. same (place (slot t i)) p) ls
  unfolding any_in
  contacts-lie p [] g = refl
  contacts-lie p (d ∷ ls) g =
      ap₂ (λ (a b : Bool). a || b) (ap (λ (q : List ℕ). same q p) (place_is d (g 0 (omega arith)))) (contacts-lie p ls (λ i h. g (suc i) (omega arith)))

  pub first-lie : (p : List ℕ) → known p (first_ones t x) ≡ any_in (λ i. same (place (slot t i)) p) (nearest_slots t x)
  unfolding first_ones
  first-lie p = contacts-lie p (nearest_slots t x) (nearest-held t x)

  pub first-few : length (first_ones t x) ≤ 20
  unfolding first_ones
  first-few = omega (arith, length-map (nearest_slots t x) (contact_at t), nearest-few t x)

pub begun-candidates : (t key : List ℕ) (limit : ℕ) → candidates_of (begun t key limit) ≡ first_ones t (sha256 key)
begun-candidates t key limit = take-append_seam (first_ones t (sha256 key)) (replicate (room - length (first_ones t (sha256 key))) nobody)

-- ---- a start that isn't refused: what it tests, and what it gives
pub record Taken (t own ours key : List ℕ) (limit : ℕ) : Type 0 where
  pub table : in_form_table t ours ≡ true
  pub keyed : key_fits key ≡ true
  pub limited : limit_fits limit ≡ true
  pub gave : start_of t own ours key limit ≡ settled (begun t key limit)

pub taken : (t own ours key : List ℕ) (limit : ℕ) → Started t own ours key limit → Taken t own ours key limit
unfolding start_of
taken t own ours key limit s =
    cond_ind P (not (in_form_table t ours)) (refuses no_lookup OutOfForm) _ (λ e. no OutOfForm)
    (λ a. cond_ind P (not (key_fits key)) (refuses no_lookup BreaksRules) _ (λ e. no BreaksRules)
    (λ b. cond_ind P (not (id_fits own)) (refuses no_lookup BadPeer) _ (λ e. no BadPeer)
    (λ c. cond_ind P (not (limit_fits limit)) (refuses no_lookup BadConcurrency) (settled (begun t key limit)) (λ e. no BadConcurrency)
    (λ d q. record { table = not-false (in_form_table t ours) a; keyed = not-false (key_fits key) b; limited = not-false (limit_fits limit) d; gave = q }))))
    refl
  where
    P : Step → Type 0
    P x = start_of t own ours key limit ≡ x → Taken t own ours key limit

    no : (r : Refusal) → start_of t own ours key limit ≡ refuses no_lookup r → Taken t own ours key limit
    no r q = absurd (not-both (accepted (start_of t own ours key limit).answer) s.taken (ap (λ (x : Step). accepted x.answer) q))

-- a started lookup is in form
pub sound-start : (t own ours key : List ℕ) (limit : ℕ) → Started t own ours key limit → Sound (begun t key limit)
unfolding key_fits
sound-start t own ours key limit st =
    let s : Taken t own ours key limit = taken t own ours key limit st in
    let few : length (first_ones t (sha256 key)) ≤ 20 = first-few t ours (sha256 key) st.bytes s.table (length-sha256 key) in
    record {
      form = form_of (begun t key limit) (record {
        size_low = leb-true 1 (length key) (and_l (leb 1 (length key)) _ s.keyed);
        size_high = leb-true (length key) most_key (and_r (leb 1 (length key)) _ s.keyed);
        limit_low = leb-true 1 limit (and_l (leb 1 limit) _ s.limited);
        limit_high = leb-true limit limit_most (and_r (leb 1 limit) _ s.limited);
        fits = omega arith;
        order = subst (λ (cs : List Candidate). nearest_first (sha256 key) cs ≡ true) (sym (begun-candidates t key limit))
            (first-order t ours (sha256 key) st.bytes s.table (length-sha256 key));
      });
      long = length-append (first_ones t (sha256 key)) (replicate (room - length (first_ones t (sha256 key))) nobody)
          ∙ omega (arith, length-replicate (room - length (first_ones t (sha256 key))) nobody);
      target = length-sha256 key;
      placed = subst AllPlaced (sym (begun-candidates t key limit)) (first-placed t ours (sha256 key) st.bytes s.table (length-sha256 key));
    }

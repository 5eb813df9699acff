-- Laws of a reply: the view that comes with it, and the peers that it names. Assumes nothing.
use Prim.Native.Nat.{ℕ, zero, suc, ◌+◌, ◌≤◌, ◌<◌}
use mathlib.Core.Path.{◌≡◌, refl, sym, ap, ap₂, ◌∙◌, subst}
use mathlib.Core.Bool.{Bool, true, false, cond, not}
use mathlib.Core.List.{List, [], ◌∷◌, map}
use native.Mathlib.Omega.{arith}
use native.Mathlib.Numerals.{add-one}
use lib.Dec.{eqb, ltb}
use lib.ListN.{length, get_or, drop, replicate, length-append, length-drop, length-map, length-take, length-replicate, drop_of_length-le, get_or-map, get_or-append}
use lib.Seq.{sets, sets-eq, drop-cons, get_or-take}
use borrow.Author.Tests.{eq-eqb, ne_eqb, ltb-true}
use Rattle.octets.specs.Octets.{part, same}
use Rattle.octets.proofs.Bools.{cond_yes, cond_no, cond_ind}
use Rattle.limits.specs.Limits.{most_heard}
use Rattle.place.specs.Place.{nearer_to}
use Rattle.sha256.specs.Sha256.{sha256}
use Rattle.refusal.specs.declared.Refusal.{Refusal}
use Rattle.refusal.specs.declared.Refusal.TheVariants.{OutOfForm}
use Rattle.lookup_marks.specs.Marks.{answered, failed}
use Rattle.wire.specs.Wire.{fields, spans, nowhere}
use Rattle.wire.specs.Items.{cut}
use Rattle.wire.specs.declared.Span.{Span}
use Rattle.wire.proofs.Reach.{AllInside}
use Rattle.message.specs.View.{id_at, closer_at, heard_at, starts, ends, ids_of}
use Rattle.message.specs.declared.Ids.{Ids}
use Rattle.message.specs.declared.Fields.{Fields}
use Rattle.message.proofs.Meaning.{Cuttable, inside, id-inside}
use Rattle.message.proofs.Views.{heard-meant}
use Rattle.parts.specs.Parts.{is_view}
use Rattle.message.specs.Kinds.{find_node}
use Rattle.lookup.specs.Lookup.{room, candidates_of, turn_away, put, mark, refuses, settled, whom_of, reported, known, enter, meet, hear, hear_all, heard_ids, heard_from, reply_of}
use Rattle.lookup_candidates.specs.Candidates.{id_fits, fresh}
use Rattle.lookup_candidates.specs.declared.Candidate.{Candidate}
use Rattle.lookup.specs.Value.{Lookup, Step}
use Rattle.std.specs.Prelude.{Ok, Err, Result}

-- ---- one more candidate leaves no more than there is room for
pub enter-length : (t : List ℕ) (c : Candidate) (cs : List Candidate) → length (enter t c cs) ≡ suc (length cs)
unfolding enter
enter-length t c [] = refl
enter-length t c (d ∷ cs) = go (enter-length t c cs)
  where
    go : length (enter t c cs) ≡ suc (length cs) → length (cond (nearer_to t d.place c.place) (d ∷ enter t c cs) (c ∷ d ∷ cs)) ≡ suc (suc (length cs))
    go e = cond_ind (λ (l : List Candidate). length l ≡ suc (suc (length cs))) (nearer_to t d.place c.place) (d ∷ enter t c cs) (c ∷ d ∷ cs) (λ q. ap suc e) (λ q. refl)

abbrev Fits : Lookup → Type 0
Fits l = l.count ≤ room

pub meet-fits : (c : Candidate) (l : Lookup) → Fits l → Fits (meet c l)
unfolding meet
meet-fits c l h =
    cond_ind Fits (known c.place (candidates_of l)) l _ (λ e. h)
    (λ e. cond_ind Fits (ltb l.count room) (put l (enter l.target c (candidates_of l))) (turn_away l)
    (λ q. omega (arith, enter-length l.target c (candidates_of l), length-take l.count l.candidates, ltb-true l.count room q))
    (λ q. h))

pub hear-fits : (ours id : List ℕ) (l : Lookup) → Fits l → Fits (hear ours id l)
unfolding hear
hear-fits ours id l h =
    cond_ind Fits (not (id_fits id)) l _ (λ e. h) (λ e. cond_ind Fits (same (sha256 id) ours) l (meet (fresh id) l) (λ q. h) (λ q. meet-fits (fresh id) l h))

-- and the array as long as it was
abbrev Long : Lookup → Type 0
Long l = length l.candidates ≡ room

hear-long : (ours id : List ℕ) (l : Lookup) → Fits l → Long l → Long (hear ours id l)
unfolding hear meet
hear-long ours id l f h =
    cond_ind Long (not (id_fits id)) l _ (λ e. h)
    (λ a. cond_ind Long (same (sha256 id) ours) l _ (λ e. h)
    (λ b. cond_ind Long (known (sha256 id) (candidates_of l)) l _ (λ e. h)
    (λ c. cond_ind Long (ltb l.count room) (put l (enter l.target (fresh id) (candidates_of l))) (turn_away l)
    (λ q. length-append (enter l.target (fresh id) (candidates_of l)) (drop (length (enter l.target (fresh id) (candidates_of l))) l.candidates)
    ∙ omega (arith, length-drop (length (enter l.target (fresh id) (candidates_of l))) l.candidates, enter-length l.target (fresh id) (candidates_of l), length-take l.count l.candidates, ltb-true l.count room q))
    (λ q. h))))

pub all-fits : (ours : List ℕ) (ids : List (List ℕ)) (l : Lookup) → Fits l → Fits (hear_all ours ids l)
unfolding hear_all
all-fits ours [] l h = h
all-fits ours (id ∷ ids) l h = all-fits ours ids (hear ours id l) (hear-fits ours id l h)

-- ---- where the ids of the first entries are
all-cuttable : (s : List ℕ) (ps : List Span) → AllInside 0 (length s) ps → (i : ℕ) → i < length ps → Cuttable (length s) (get_or (map (id_at s) ps) i nowhere)
all-cuttable s [] a i h = absurd (omega arith)
all-cuttable s (p ∷ ps) a zero h = id-inside s p (record { ordered = a.0.ordered; ends = a.0.ends })
all-cuttable s (p ∷ ps) a (suc i) h = all-cuttable s ps a.1 i (omega arith)

sets-read : (n : ℕ) (vs : List ℕ) (i : ℕ) → length vs ≤ n → i < length vs → get_or (sets (replicate n 0) 0 vs) i 0 ≡ get_or vs i 0
sets-read n vs i h l =
    ap (λ (x : List ℕ). get_or x i 0) (sets-eq vs (replicate n 0) 0 (omega (arith, length-replicate {A = ℕ} n 0)))
    ∙ get_or-append vs (drop (0 + length vs) (replicate n 0)) 0 i l

module _ (s : List ℕ) where
  pub heard-few : length (heard_at s) ≤ 21
  unfolding heard_at
  heard-few = omega (arith, length-take most_heard (map (id_at s) (closer_at s)))

  pub heard-cuttable : (i : ℕ) → i < length (heard_at s) → Cuttable (length s) (get_or (heard_at s) i nowhere)
  unfolding heard_at closer_at
  heard-cuttable i h =
      let l : i < most_heard = omega (arith, length-take most_heard (map (id_at s) (closer_at s))) in
      let k : i < length (spans 8 (fields s)) = omega (arith, length-take most_heard (map (id_at s) (closer_at s)), length-map (closer_at s) (id_at s)) in
      subst (Cuttable (length s)) (sym (get_or-take most_heard (map (id_at s) (closer_at s)) i nowhere l)) (all-cuttable s (spans 8 (fields s)) (inside s 8) i k)

  pub heard-ids : heard_ids s ≡ map (cut s) (heard_at s)
  unfolding heard_ids
  heard-ids = sym (heard-meant s)

  module _ (ids : Ids) (e : ids ≡ ids_of (heard_at s)) where
    pub ids-count : ids.n ≡ length (heard_at s)
    unfolding ids_of
    ids-count = ap (λ (x : Ids). x.n) e

    pub ids-start : (i : ℕ) → i < length (heard_at s) → get_or ids.at i 0 ≡ (get_or (heard_at s) i nowhere).at
    unfolding ids_of starts
    ids-start i h =
        ap (λ (x : Ids). get_or x.at i 0) e
        ∙ sets-read most_heard (map (λ (p : Span). p.at) (heard_at s)) i (omega (arith, length-map (heard_at s) (λ (p : Span). p.at), heard-few)) (omega (arith, length-map (heard_at s) (λ (p : Span). p.at)))
        ∙ get_or-map (λ (p : Span). p.at) (heard_at s) i nowhere

    pub ids-end : (i : ℕ) → i < length (heard_at s) → get_or ids.end i 0 ≡ (get_or (heard_at s) i nowhere).end
    unfolding ids_of ends
    ids-end i h =
        ap (λ (x : Ids). get_or x.end i 0) e
        ∙ sets-read most_heard (map (λ (p : Span). p.end) (heard_at s)) i (omega (arith, length-map (heard_at s) (λ (p : Span). p.end), heard-few)) (omega (arith, length-map (heard_at s) (λ (p : Span). p.end)))
        ∙ get_or-map (λ (p : Span). p.end) (heard_at s) i nowhere

    module _ (i : ℕ) (h : i < ids.n) where
      within : i < length (heard_at s)
      within = omega (arith, ids-count)

      pub ids-within : i < 21
      ids-within = omega (arith, within, heard-few)

      pub cut-order : get_or ids.at i 0 ≤ get_or ids.end i 0
      cut-order = omega (arith, ids-start i within, ids-end i within, (heard-cuttable i within).ordered)

      pub cut-end : get_or ids.end i 0 ≤ length s
      cut-end = omega (arith, ids-end i within, (heard-cuttable i within).ends)

      heard-next : drop i (heard_ids s) ≡ part s (get_or ids.at i 0) (get_or ids.end i 0) ∷ drop (i + 1) (heard_ids s)
      heard-next =
          let k : i < length (map (cut s) (heard_at s)) = omega (arith, length-map (heard_at s) (cut s), within) in
          let c : get_or (map (cut s) (heard_at s)) i (cut s nowhere) ≡ part s (get_or ids.at i 0) (get_or ids.end i 0) =
          get_or-map (cut s) (heard_at s) i nowhere ∙ ap₂ (part s) (sym (ids-start i within)) (sym (ids-end i within)) in
          ap (drop i) heard-ids ∙ drop-cons (map (cut s) (heard_at s)) i (cut s nowhere) k
          ∙ ap₂ (λ (x : List ℕ) (l : List (List ℕ)). x ∷ l) c (ap (λ (m : ℕ). drop m (map (cut s) (heard_at s))) (sym (add-one i)) ∙ sym (ap (drop (i + 1)) heard-ids))

-- ---- the loop: the entries from i on are still to be heard
pub record Heard (s ours : List ℕ) (n : ℕ) (l k : Lookup) (i : ℕ) : Type 0 where
  pub some : i ≤ n
  pub fits : k.count ≤ room
  pub long : length k.candidates ≡ room
  pub same : hear_all ours (drop i (heard_ids s)) k ≡ hear_all ours (heard_ids s) l

pub heard-start : (s ours : List ℕ) (n : ℕ) (l : Lookup) → l.count ≤ room → length l.candidates ≡ room → Heard s ours n l l 0
heard-start s ours n l h g = record { some = omega arith; fits = h; long = g; same = refl }

unrolled : (ours id : List ℕ) (ids : List (List ℕ)) (k : Lookup) → hear_all ours ids (hear ours id k) ≡ hear_all ours (id ∷ ids) k
unfolding hear_all
unrolled ours id ids k = refl

nothing : (ours : List ℕ) (k : Lookup) → hear_all ours [] k ≡ k
unfolding hear_all
nothing ours k = refl

pub heard-one : (s ours : List ℕ) (l : Lookup) (ids : Ids) → ids ≡ ids_of (heard_at s) → (k m : Lookup) (i : ℕ) → i < ids.n → Heard s ours ids.n l k i
    → m ≡ hear ours (part s (get_or ids.at i 0) (get_or ids.end i 0)) k → Heard s ours ids.n l m (i + 1)
heard-one s ours l ids e k m i h g em =
    record {
      some = omega arith;
      fits = subst Fits (sym em) (hear-fits ours (part s (get_or ids.at i 0) (get_or ids.end i 0)) k g.fits);
      long = subst Long (sym em) (hear-long ours (part s (get_or ids.at i 0) (get_or ids.end i 0)) k g.fits g.long);
      same = ap (hear_all ours (drop (i + 1) (heard_ids s))) em ∙ step (heard-next s ids e i h) ∙ g.same;
    }
  where
    step : drop i (heard_ids s) ≡ part s (get_or ids.at i 0) (get_or ids.end i 0) ∷ drop (i + 1) (heard_ids s)
        → hear_all ours (drop (i + 1) (heard_ids s)) (hear ours (part s (get_or ids.at i 0) (get_or ids.end i 0)) k) ≡ hear_all ours (drop i (heard_ids s)) k
    step q = unrolled ours (part s (get_or ids.at i 0) (get_or ids.end i 0)) (drop (i + 1) (heard_ids s)) k ∙ sym (ap (λ (x : List (List ℕ)). hear_all ours x k) q)

pub heard_all : (s ours : List ℕ) (l : Lookup) (ids : Ids) → ids ≡ ids_of (heard_at s) → (k : Lookup) (i : ℕ) → ids.n ≤ i → Heard s ours ids.n l k i
    → k ≡ hear_all ours (heard_ids s) l
heard_all s ours l ids e k i h g =
    sym (ap (λ (x : List (List ℕ)). hear_all ours x k) none ∙ nothing ours k) ∙ g.same
  where
    none : drop i (heard_ids s) ≡ []
    none =
        let q : length (heard_ids s) ≤ i = omega (arith, ap length (heard-ids s), length-map (heard_at s) (cut s), ids-count s ids e) in
        drop_of_length-le (heard_ids s) q

-- ---- by its type
module _ (ours body : List ℕ) (kind : ℕ) (l : Lookup) (i : ℕ) where
  pub from_found : (k m : Lookup) → kind ≡ find_node → k ≡ mark i answered l → m ≡ hear_all ours (heard_ids body) k → m ≡ heard_from ours body kind l i
  unfolding heard_from
  from_found k m e ek em =
      em ∙ ap (hear_all ours (heard_ids body)) ek
      ∙ sym (cond_yes (eqb kind find_node) (hear_all ours (heard_ids body) (mark i answered l)) (mark i failed l) (eq-eqb kind find_node e))

  pub from-other : (m : Lookup) → (kind ≡ find_node → ⊥) → m ≡ mark i failed l → m ≡ heard_from ours body kind l i
  unfolding heard_from
  from-other m e em = em ∙ sym (cond_no (eqb kind find_node) (hear_all ours (heard_ids body) (mark i answered l)) (mark i failed l) (ne_eqb kind find_node e))

pub found-fits : (ours body : List ℕ) (l k m : Lookup) (i : ℕ) → l.count ≤ room → k ≡ mark i answered l → m ≡ hear_all ours (heard_ids body) k → m.count ≤ room
found-fits ours body l k m i h ek em = subst Fits (sym em) (all-fits ours (heard_ids body) k (subst Fits (sym ek) h))

-- ---- reply
module _ (l : Lookup) (own ours id body : List ℕ) (v : Fields) (b : Bool) (eb : b ≡ is_view body v) (s : Step) where
  pub reply-bad : not b ≡ true → s ≡ refuses l OutOfForm → s ≡ reply_of l own ours id body v
  unfolding reply_of
  reply-bad h e = e ∙ sym (cond_yes (not (is_view body v)) (refuses l OutOfForm) _ (ap not (sym eb) ∙ h))

  module _ (h : not b ≡ false) (w : Result ℕ Refusal) (ew : w ≡ whom_of l own ours id) where
    viewed : reported l (whom_of l own ours id) (heard_from ours body v.kind l) ≡ reply_of l own ours id body v
    unfolding reply_of
    viewed = sym (cond_no (not (is_view body v)) (refuses l OutOfForm) (reported l (whom_of l own ours id) (heard_from ours body v.kind l)) (ap not (sym eb) ∙ h))

    pub reply-refused : (r : Refusal) → w ≡ Err r → s ≡ refuses l r → s ≡ reply_of l own ours id body v
    reply-refused r q e = e ∙ ap (λ (x : Result ℕ Refusal). reported l x (heard_from ours body v.kind l)) (sym q ∙ ew) ∙ viewed

    pub reply-at : (i : ℕ) (k : Lookup) → w ≡ Ok i → k ≡ heard_from ours body v.kind l i → s ≡ settled k → s ≡ reply_of l own ours id body v
    reply-at i k q ek e = e ∙ ap settled ek ∙ ap (λ (x : Result ℕ Refusal). reported l x (heard_from ours body v.kind l)) (sym q ∙ ew) ∙ viewed

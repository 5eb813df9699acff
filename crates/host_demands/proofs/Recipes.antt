-- What the calls on recipes give is what the bytes say, and what is written is given back: specs/Recipes.antt. Assumes nothing.
use Prim.Native.Nat.{ℕ, suc, ◌+◌, ◌-◌, ◌<◌, ◌≤◌, ◌^◌}
use mathlib.Core.Path.{◌≡◌, refl, sym, ap, ◌∙◌}
use mathlib.Core.Logic.{⊎_elim}
use mathlib.Core.Bool.{true, false, cond}
use mathlib.Core.List.{List, [], ◌∷◌, ◌++◌}
use native.Mathlib.Omega.{arith}
use lib.ListN.{length, take, drop, get_or}
use lib.Seq.{sets, sets-eq}
use lib.Dec.{eqb}
use lib.IntN.{ℤ}
use Rattle.std.specs.Prelude.{None, Result, Ok, Err, ⊤, is_ok}
use Rattle.octets.specs.Octets.{part}
use Rattle.octets.specs.Search.{all_of}
use Rattle.octets.proofs.Bools.{either, not-both, cond_yes, cond_no, all_head, all_rest}
use Rattle.octets.proofs.Stores.{drop-sets}
use Rattle.sightings_kept.proofs.Forms.{get_d-sets-in}
use Rattle.recipe.specs.Recipe.{Setpoints, These, NoList, setpoints, ruled, is_list, distance_of, count_of, format_of, sequence_of, trailer_of, core_distance_of, core_count_of, wrap_room, core_room, is_recipe}
use Rattle.recipe.specs.declared.Setpoint.{Setpoint}
use Rattle.recipe.specs.Faults.{first_of, fault_of}
use Rattle.recipe.specs.declared.Breach.{Breach}
use Rattle.recipe.proofs.Faults.{goes_on, fault-or-recipe}
use Rattle.recipe.proofs.Trailer.{our-recipe}
use Rattle.recipe.proofs.Bounded.{counted}
use Rattle.recipe_fields.specs.Fields.{Fields, Holds, fields, fields_of, listed, bytes_of, is_writable}
use Rattle.recipe_fields.specs.Places.{spans_of, points_in, turns_of, trims_of, list_of, turns_after, trims_after}
use Rattle.recipe_fields.specs.Writing.{Given, fields_in, given_fault, written_of, after_of}
use Rattle.recipe_fields.specs.declared.Spans.{Spans}
use Rattle.recipe_fields.proofs.Claims.{read-fields, claims}
use Rattle.host_answers.specs.Answers.{spans_number, spans_numbers, recipe_number, recipe_numbers}
use Rattle.host_demands.specs.Recipes.{Shown, RecipesCross}

-- ---- lists
length-turns : (ps : List Setpoint) → length (turns_of ps) ≡ length ps
unfolding turns_of
length-turns [] = refl
length-turns (p ∷ ps) = ap suc (length-turns ps)

length-trims : (ps : List Setpoint) → length (trims_of ps) ≡ length ps
unfolding trims_of
length-trims [] = refl
length-trims (p ∷ ps) = ap suc (length-trims ps)

take_own : {A : Type 0} (vs ws : List A) → take (length vs) (vs ++ ws) ≡ vs
take_own [] ws = refl
take_own (v ∷ vs) ws = ap (λ (x : List _). v ∷ x) (take_own vs ws)

-- memory that has room for a list begins with it
take-stored : {A : Type 0} (l vs : List A) (n : ℕ) → length vs ≡ n → n ≤ length l → take n (sets l 0 vs) ≡ vs
take-stored l vs n e h =
    ap (λ (x : List _). take n x) (sets-eq vs l 0 (omega (arith, e, h)))
    ∙ ap (λ (k : ℕ). take k (vs ++ drop (0 + length vs) l)) (sym e) ∙ take_own vs (drop (0 + length vs) l)

counted-list : (n : ℕ) (s : List ℕ) → is_list n s ≡ true → n ≡ length (points_in n s)
unfolding is_list ruled
counted-list n s h = go (setpoints n s) refl h
  where
    go : (x : Setpoints) → setpoints n s ≡ x → ruled None x ≡ true → n ≡ length (listed x)
    go (These ps) e q = sym (counted n s ps e)
    go NoList e q = absurd (not-both false q refl)

-- ---- read
module _ (v : List ℕ) (h : is_recipe v ≡ true) where
  abbrev numbers : List ℕ
  numbers =
      format_of v ∷ (length v - core_distance_of v) ∷ (length v - distance_of v) ∷ (length v - trailer_of (format_of v)) ∷ core_count_of v ∷ count_of v ∷ sequence_of v ∷ []

  abbrev spans : Spans
  spans =
      record {
        format = format_of v;
        core = length v - core_distance_of v;
        wrap = length v - distance_of v;
        trailer = length v - trailer_of (format_of v);
        cores = core_count_of v;
        wraps = count_of v;
        sequence = sequence_of v;
      }

  spans-are : spans_of v ≡ Ok spans
  unfolding spans_of
  spans-are = goes_on (fault_of v) (Ok spans) (fault-or-recipe v ∙ h)

  told : (out : List ℕ) → 7 ≤ length out → (k : ℕ) → k < 7 → get_or (spans_numbers out (spans_of v)) k 0 ≡ get_or numbers k 0
  told out l k m = let z : 0 + k ≡ k = omega arith in ap (λ (s : Result Spans Breach). get_or (spans_numbers out s) k 0) spans-are ∙ ap (λ (j : ℕ). get_or (sets out 0 numbers) j 0) (sym z) ∙ get_d-sets-in out 0 numbers k m l

  noted : part v 0 (length v - core_distance_of v) ≡ (fields v).note
  unfolding fields
  noted = let z : length v - length v ≡ 0 = omega arith in ap (λ (n : ℕ). part v n (length v - core_distance_of v)) (sym z)

  cores-are : core_count_of v ≡ length (fields v).core
  unfolding fields core_room
  cores-are = counted-list (core_count_of v) _ (our-recipe v h).core.list

  wraps-are : count_of v ≡ length (fields v).wrap
  unfolding fields wrap_room
  wraps-are = counted-list (count_of v) _ (our-recipe v h).wrap.list

  fields-shown : Shown v (fields v)
  unfolding fields turns_after trims_after
  fields-shown =
      record {
        code = ap spans_number spans-are;
        format = λ out l. told out l 0 (omega arith);
        note = λ out l. ap (λ (n : ℕ). part v 0 n) (told out l 1 (omega arith)) ∙ noted;
        cores = λ out l. told out l 4 (omega arith) ∙ cores-are;
        wraps = λ out l. told out l 5 (omega arith) ∙ wraps-are;
        sequence = λ out l. told out l 6 (omega arith);
        trailer = λ out l. told out l 3 (omega arith);
        turns = λ core turns l. ap (λ (x : List ℕ). take (length (list_of core (fields v))) x) (cond_yes (is_recipe v) _ turns h) ∙ take-stored turns _ _ (length-turns (list_of core (fields v))) l;
        trims = λ core trims l. ap (λ (x : List ℤ). take (length (list_of core (fields v))) x) (cond_yes (is_recipe v) _ trims h) ∙ take-stored trims _ _ (length-trims (list_of core (fields v))) l;
      }

shows : (v : List ℕ) (f : Fields) → fields_of v ≡ Holds f → Shown v f
shows v f e = let r = read-fields v f e in rw (sym r.1) (fields-shown v r.0)

spans-code : (v : List ℕ) → spans_number (spans_of v) ≡ cond (is_recipe v) 64 9
unfolding spans_of first_of
spans-code v = go (fault_of v) (sym (fault-or-recipe v)) _
  where
    go : (w : Result ⊤ Breach) → is_recipe v ≡ is_ok w → (s : Spans) → spans_number (first_of w (Ok s)) ≡ cond (is_recipe v) 64 9
    go (Ok u) e s = rw e refl
    go (Err f) e s = rw e refl

-- ---- written
module _ (g : Given) where
  abbrev whole : List ℕ
  whole = bytes_of (fields_in g)

  good_length : is_ok (given_fault g) ≡ true → written_of g ≡ Ok (length whole)
  unfolding written_of
  good_length h = goes_on (given_fault g) (Ok (length whole)) h

  bad-refused : is_ok (given_fault g) ≡ false → recipe_number (written_of g) ≡ 9
  unfolding written_of first_of
  bad-refused h = go (given_fault g) h
    where
      go : (w : Result ⊤ Breach) → is_ok w ≡ false → recipe_number (first_of w (Ok (length whole))) ≡ 9
      go (Ok u) e = absurd (not-both true refl e)
      go (Err f) e = refl

  -- 64 exactly for what breaks no rule
  is-good : recipe_number (written_of g) ≡ 64 → is_ok (given_fault g) ≡ true
  is-good e =
      ⊎_elim (λ h. h) (λ h. let q : ◌≡◌ {A = ℕ} 9 64 = sym (bad-refused h) ∙ e in absurd (omega (arith, q))) (either (is_ok (given_fault g)))

  module _ (s : g.sequence < 2 ^ 64) (h : is_ok (given_fault g) ≡ true) where
    tests : all_of (eqb (length g.wrap_turns) (length g.wrap_trims) ∷ eqb (length g.core_turns) (length g.core_trims) ∷ is_writable (fields_in g) ∷ []) ≡ true
    tests = sym (claims.written g s) ∙ h

    fields_back : fields_of whole ≡ Holds (fields_in g)
    fields_back =
        claims.reading-after-writing (fields_in g)
        (all_head (is_writable (fields_in g)) []
        (all_rest (eqb (length g.core_turns) (length g.core_trims)) _ (all_rest (eqb (length g.wrap_turns) (length g.wrap_trims)) _ tests)))

    module _ (buf : List ℕ) (l : length whole ≤ length buf) where
      left : after_of g buf ≡ sets buf 0 whole
      unfolding after_of
      left = cond_yes (is_ok (given_fault g)) _ buf h

      first : take (length whole) (after_of g buf) ≡ whole
      first = ap (λ (x : List ℕ). take (length whole) x) left ∙ take-stored buf whole (length whole) refl l

      rest : drop (length whole) (after_of g buf) ≡ drop (length whole) buf
      rest = ap (λ (x : List ℕ). drop (length whole) x) left ∙ drop-sets (length whole) buf 0 whole (omega arith)

      given_back : Shown (take (length whole) (after_of g buf)) (fields_in g)
      given_back = rw first (shows whole (fields_in g) fields_back)

  length-told : is_ok (given_fault g) ≡ true → (out : List ℕ) → 1 ≤ length out → get_or (recipe_numbers out (written_of g)) 0 0 ≡ length whole
  length-told h out l = ap (λ (w : Result ℕ Breach). get_or (recipe_numbers out w) 0 0) (good_length h) ∙ get_d-sets-in out 0 (length whole ∷ []) 0 (omega arith) l

  refuses : (recipe_number (written_of g) ≡ 64 → ⊥) → (recipe_number (written_of g) ≡ 9) × ((buf : List ℕ) → after_of g buf ≡ buf)
  unfolding after_of
  refuses n =
      ⊎_elim (λ h. absurd (n (ap recipe_number (good_length h)))) (λ h. (bad-refused h, λ buf. cond_no (is_ok (given_fault g)) _ buf h)) (either (is_ok (given_fault g)))

pub recipes-cross : RecipesCross
recipes-cross = record {
  reads = λ v. (spans-code v, refl);
  shows = shows;
  writes = λ g s e buf l. let h = is-good g e in (first g s h buf l, rest g s h buf l, length-told g h, given_back g s h buf l);
  refuses = refuses;
}

-- What a call does to a lookup: nothing; or it asks an idle candidate; or one in flight fails; or one in flight answers, and others are heard of.
-- Assumes nothing.
use Prim.Native.Nat.{ℕ, ◌≤◌, ◌<◌}
use mathlib.Core.Path.{◌≡◌, refl, sym, ◌∙◌, subst}
use mathlib.Core.Bool.{true, false, cond, not}
use mathlib.Core.List.{List}
use native.Mathlib.Omega.{arith}
use lib.Dec.{leb, ltb, eqb}
use lib.ListN.{length, get_or, length-take}
use lib.Seq.{length-take-le}
use borrow.Author.Tests.{ltb-true, leb-false, eqb-true, not-false}
use Rattle.octets.proofs.Bools.{cond_ind}
use Rattle.sha256.specs.Sha256.{sha256}
use Rattle.refusal.specs.declared.Refusal.TheVariants.{OutOfForm}
use Rattle.message.specs.declared.Fields.{Fields}
use Rattle.lookup_marks.specs.Marks.{idle, flying, answered, failed, is_over, idle_of, flights_of}
use Rattle.parts.specs.Parts.{is_view}
use Rattle.message.specs.Kinds.{find_node}
use Rattle.lookup.specs.Lookup.{candidates_of, marks_of, in_form, mark, gives, refuses, ends, settled, next_of, bad_step, flyer_of, whom_of, reported, failure_of, hear_all, heard_ids, heard_from, reply_of, nobody}
use Rattle.lookup.specs.Value.{Lookup, Step}
use Rattle.lookup.specs.declared.Answer.{Answer}
use Rattle.lookup.specs.declared.Answer.TheVariants.{Complete, CutShort, Wait, Ask, Going}
use Rattle.lookup.proofs.Steps.{settled-lookup}
use Rattle.lookup.proofs.Form.{formed}
use Rattle.lookup_runs.specs.Runs.{accepted, Call, go_next, go_reply, go_fail, step}
use Rattle.lookup_runs.proofs.Marking.{asked-idle, flyer-flies}
use Rattle.std.specs.Prelude.{Ok, Err, Result}
use Rattle.refusal.specs.declared.Refusal.{Refusal}

-- an answer that asks nobody
abbrev pub Quiet : Result Answer Refusal → Type 0
Quiet (Ok (Ask i)) = ⊥
Quiet (Err r) = Unit {0}
Quiet (Ok (Complete n)) = Unit {0}
Quiet (Ok (CutShort n)) = Unit {0}
Quiet (Ok Wait) = Unit {0}
Quiet (Ok Going) = Unit {0}

-- a call that tells nothing: next, or one that is refused
abbrev pub Silent : Call → Result Answer Refusal → Type 0
Silent go_next a = Unit {0}
Silent (go_reply own ours id body v) a = accepted a ≡ false
Silent (go_fail own ours id) a = accepted a ≡ false

-- a report that the peer with this id failed: a failure report, or a message of another type
abbrev pub Fails : List ℕ → Call → Type 0
Fails id go_next = ⊥
Fails id (go_reply own ours from body v) = (eqb v.kind find_node ≡ false) × (from ≡ id)
Fails id (go_fail own ours from) = from ≡ id

-- the candidate of rank i has the mark m
pub record Has (l : Lookup) (i m : ℕ) : Type 0 where
  pub form : in_form l ≡ true
  pub ongoing : is_over (marks_of l) ≡ false
  pub within : i < length (candidates_of l)
  pub is : (get_or (candidates_of l) i nobody).mark ≡ m

pub data Move (c : Call) (l : Lookup) (s : Step) : Type 0 where
  stays : s.lookup ≡ l → Quiet s.answer → Silent c s.answer → Move c l s
  asks : (i : ℕ) → c ≡ go_next → Has l i idle → flights_of (marks_of l) < l.limit → s.lookup ≡ mark i flying l → s.answer ≡ Ok (Ask i) → Move c l s
  fails : (id : List ℕ) (i : ℕ) → Fails id c → Has l i flying → (get_or (candidates_of l) i nobody).place ≡ sha256 id → s.lookup ≡ mark i failed l → Quiet s.answer
      → accepted s.answer ≡ true → Move c l s
  answers : (own ours id body : List ℕ) (v : Fields) (i : ℕ) → c ≡ go_reply own ours id body v → v.kind ≡ find_node → Has l i flying
      → (get_or (candidates_of l) i nobody).place ≡ sha256 id → s.lookup ≡ hear_all ours (heard_ids body) (mark i answered l) → Quiet s.answer
      → accepted s.answer ≡ true → Move c l s

-- in form, the array holds all that are counted
count-le : (l : Lookup) → length (candidates_of l) ≤ l.count
count-le l = omega (arith, length-take l.count l.candidates)

-- ---- over or going: the lookup stays as it is
ends-quiet : (l : Lookup) → Quiet (ends l).answer
ends-quiet l = cond_ind Quiet l.turned (Ok (CutShort _)) (Ok (Complete _)) (λ e. tt) (λ e. tt)

pub settled-quiet : (l : Lookup) → Quiet (settled l).answer
unfolding settled
settled-quiet l = cond_ind (λ (s : Step). Quiet s.answer) (is_over (marks_of l)) (ends l) (gives l (Ok Going)) (λ e. ends-quiet l) (λ e. tt)

-- and it is no refusal
pub ends-accepted : (l : Lookup) → accepted (ends l).answer ≡ true
ends-accepted l = cond_ind (λ (a : Result Answer Refusal). accepted a ≡ true) l.turned (Ok (CutShort _)) (Ok (Complete _)) (λ e. refl) (λ e. refl)

pub settled-accepted : (l : Lookup) → accepted (settled l).answer ≡ true
unfolding settled
settled-accepted l =
    cond_ind (λ (s : Step). accepted s.answer ≡ true) (is_over (marks_of l)) (ends l) (gives l (Ok Going)) (λ e. ends-accepted l) (λ e. refl)

-- ---- next
next-moves : (l : Lookup) → length l.candidates ≡ 256 → Move go_next l (next_of l)
unfolding next_of
next-moves l hl =
    cond_ind (Move go_next l) (not (in_form l)) _ _ (λ e. stays refl tt tt)
    (λ f. cond_ind (Move go_next l) (is_over (marks_of l)) _ _ (λ e. stays refl (ends-quiet l) tt)
    (λ o. cond_ind (Move go_next l) (leb l.limit (flights_of (marks_of l))) _ _ (λ e. stays refl tt tt)
    (λ g. cond_ind (Move go_next l) (ltb (idle_of (marks_of l)) l.count) _ _ (λ e. ask f o g e) (λ e. stays refl tt tt))))
  where
    ask : not (in_form l) ≡ false → is_over (marks_of l) ≡ false → leb l.limit (flights_of (marks_of l)) ≡ false → ltb (idle_of (marks_of l)) l.count ≡ true
        → Move go_next l (gives (mark (idle_of (marks_of l)) flying l) ((Ok (Ask (idle_of (marks_of l))))))
    ask f o g e =
        let z : in_form l ≡ true = not-false (in_form l) f in
        let k : length (candidates_of l) ≡ l.count = length-take-le l.count l.candidates (omega (arith, (formed l z).fits)) in
        let h : idle_of (marks_of l) < length (candidates_of l) = omega (arith, ltb-true (idle_of (marks_of l)) l.count e) in
        asks (idle_of (marks_of l)) refl (record { form = z; ongoing = o; within = h; is = asked-idle (candidates_of l) h }) (leb-false l.limit (flights_of (marks_of l)) g) refl refl

-- ---- reply and failure: who is found is in flight, at the sender's place
pub record Found (l : Lookup) (id : List ℕ) (i : ℕ) : Type 0 where
  pub has : Has l i flying
  pub place : (get_or (candidates_of l) i nobody).place ≡ sha256 id

abbrev About : Lookup → List ℕ → Result ℕ Refusal → Type 0
About l id (Err r) = Unit {0}
About l id (Ok i) = Found l id i

about : (l : Lookup) (own ours id : List ℕ) → length l.candidates ≡ 256 → About l id (whom_of l own ours id)
unfolding whom_of
about l own ours id hl =
    cond_ind (About l id) (not (in_form l)) _ _ (λ e. tt)
    (λ f. cond_ind (About l id) (bad_step own ours id) _ _ (λ e. tt)
    (λ b. cond_ind (About l id) (is_over (marks_of l)) _ _ (λ e. tt)
    (λ o. cond_ind (About l id) (leb l.count (flyer_of (sha256 id) (candidates_of l))) _ _ (λ e. tt) (λ e. found f o e))))
  where
    found : not (in_form l) ≡ false → is_over (marks_of l) ≡ false → leb l.count (flyer_of (sha256 id) (candidates_of l)) ≡ false → Found l id (flyer_of (sha256 id) (candidates_of l))
    found f o e =
        let z : in_form l ≡ true = not-false (in_form l) f in
        let k : length (candidates_of l) ≡ l.count = length-take-le l.count l.candidates (omega (arith, (formed l z).fits)) in
        let h : flyer_of (sha256 id) (candidates_of l) < length (candidates_of l) = omega (arith, leb-false l.count (flyer_of (sha256 id) (candidates_of l)) e) in
        let q = flyer-flies (sha256 id) (candidates_of l) h in
        record { has = record { form = z; ongoing = o; within = h; is = q.0 }; place = q.1 }

fail-moves : (own ours id : List ℕ) (l : Lookup) → length l.candidates ≡ 256 → Move (go_fail own ours id) l (failure_of l own ours id)
unfolding failure_of
fail-moves own ours id l hl = go (whom_of l own ours id) (about l own ours id hl)
  where
    go : (w : Result ℕ Refusal) → About l id w → Move (go_fail own ours id) l (reported l w (λ i. mark i failed l))
    go (Err r) a = stays refl tt refl
    go (Ok i) a = fails id i refl a.has a.place (settled-lookup (mark i failed l)) (settled-quiet (mark i failed l)) (settled-accepted (mark i failed l))

from_is : (ours body : List ℕ) (kind : ℕ) (l : Lookup) (i : ℕ) → heard_from ours body kind l i ≡ cond (eqb kind find_node) (hear_all ours (heard_ids body) (mark i answered l)) (mark i failed l)
unfolding heard_from
from_is ours body kind l i = refl

reply-moves : (own ours id body : List ℕ) (v : Fields) (l : Lookup) → length l.candidates ≡ 256 → Move (go_reply own ours id body v) l (reply_of l own ours id body v)
unfolding reply_of
reply-moves own ours id body v l hl =
    cond_ind (Move (go_reply own ours id body v) l) (not (is_view body v)) (refuses l OutOfForm) (reported l (whom_of l own ours id) (heard_from ours body v.kind l)) (λ e. stays refl tt refl)
    (λ e. go (whom_of l own ours id) (about l own ours id hl))
  where
    heard : (i : ℕ) → Found l id i → (k : Lookup) → (k ≡ hear_all ours (heard_ids body) (mark i answered l)) → v.kind ≡ find_node → Move (go_reply own ours id body v) l (settled k)
    heard i a k e q = answers own ours id body v i refl q a.has a.place (settled-lookup k ∙ e) (settled-quiet k) (settled-accepted k)

    by_kind : (i : ℕ) → Found l id i → Move (go_reply own ours id body v) l (settled (cond (eqb v.kind find_node) (hear_all ours (heard_ids body) (mark i answered l)) (mark i failed l)))
    by_kind i a =
        cond_ind (λ (k : Lookup). Move (go_reply own ours id body v) l (settled k)) (eqb v.kind find_node) (hear_all ours (heard_ids body) (mark i answered l)) (mark i failed l)
        (λ q. heard i a (hear_all ours (heard_ids body) (mark i answered l)) refl (eqb-true v.kind find_node q))
        (λ q. fails id i (q, refl) a.has a.place (settled-lookup (mark i failed l)) (settled-quiet (mark i failed l)) (settled-accepted (mark i failed l)))

    go : (w : Result ℕ Refusal) → About l id w → Move (go_reply own ours id body v) l (reported l w (heard_from ours body v.kind l))
    go (Err r) a = stays refl tt refl
    go (Ok i) a = subst (λ (k : Lookup). Move (go_reply own ours id body v) l (settled k)) (sym (from_is ours body v.kind l i)) (by_kind i a)

pub moved : (c : Call) (l : Lookup) → length l.candidates ≡ 256 → Move c l (step c l)
unfolding step
moved go_next l hl = next-moves l hl
moved (go_reply own ours id body v) l hl = reply-moves own ours id body v l hl
moved (go_fail own ours id) l hl = fail-moves own ours id l hl

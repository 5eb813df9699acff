-- Every row of the table, by computing. Assumes nothing.
use Prim.Native.Nat.{ℕ, ◌+◌, ◌<◌}
use mathlib.Core.Path.{◌≡◌, refl, sym, ap, ap₂, ◌∙◌}
use mathlib.Core.Bool.{true}
use mathlib.Core.List.{List, [], ◌∷◌, ◌++◌}
use native.Mathlib.Omega.{arith}
use lib.ListN.{length, drop, take-append-drop}
use lib.Seq.{sets}
use borrow.Author.Tests.{eqb-true}
use Rattle.octets.specs.Octets.{little_number, starts_with}
use Rattle.octets.specs.Search.{every, all_of, last_of}
use Rattle.octets.proofs.Strings.{starts-eq}
use Rattle.refusal.specs.declared.Refusal.TheVariants.{PrefixNotMinimal, TooLong, BreaksRules, BrokenRecipe}
use Rattle.place.specs.Place.{is_place, bits, common}
use Rattle.place.proofs.Buckets.{bucket-places}
use Rattle.stream.specs.declared.Framing.TheVariants.{Body}
use Rattle.stream.specs.Stream.{Out, out, fresh, shift, limited, minimal, prefix_step, run_of, receive_of}
use Rattle.stream.proofs.Runs.{body-part, body-whole}
use Rattle.stream.proofs.Steps.{call-runs}
use Rattle.recipe.specs.Recipe.{trim_of, zigzag_of, continued, varint, point, and_then, setpoints, in_range, no_leap, follows, rules, ruled, is_list, distance_of, count_of, format_of, sequence_of, trailer_of, core_distance_of, core_count_of, pad_of, wrap_room, list_fills, recipe_within, is_recipe}
use Rattle.records_history.proofs.Holding.{judged-first}
use Rattle.wire.specs.Wire.{fields, fields_at, fields_from, field_at, more, next_of, numbers, spans}
use Rattle.wire.specs.Items.{items, values, parts}
use Rattle.message.specs.Message.{merged, message_of, well_message, well_formed}
use Rattle.message.specs.View.{reading_of, fields_of}
use Rattle.replies.specs.Verdicts.{put_verdict}
use Rattle.answer.specs.Answers.{deal_of, verdict_of}
use Rattle.starred.specs.Starred.{Row, Holds, Each, prefix, bad_prefix, bad_request, bucket, Starred}
use Rattle.std.specs.Prelude.{Ok, None}

-- ---- prefixes
empty : Holds (prefix (0 ∷ []) 0)
unfolding run_of prefix_step limited
empty m s w = ((λ l. call-runs fresh m (0 ∷ s) refl w refl), (λ l. absurd (none l)))
  where
    none : {n : ℕ} → n < 0 → ⊥
    none l = omega arith

largest : Holds (prefix (128 ∷ 128 ∷ 1 ∷ []) 16384)
unfolding run_of prefix_step minimal limited
largest m s w = (
  (λ l. begun ∙ ap after-three (body-whole 16384 0 16383 m s refl (omega arith))),
  (λ l. begun ∙ ap after-three (body-part 16384 0 m s (omega arith)) ∙ (λ i. out (Body 16384 (have i)) (taken i) (Ok None) (sets m 0 s))),
)
  where
    after-three : Out → Out
    after-three o = shift 1 (shift 1 (shift 1 o))

    begun : receive_of fresh m (128 ∷ 128 ∷ 1 ∷ s) ≡ after-three (run_of (Body 16384 0) m s)
    begun = call-runs fresh m (128 ∷ 128 ∷ 1 ∷ s) refl w refl

    have : 0 + length s ≡ length s
    have = omega arith

    taken : 1 + (1 + (1 + length s)) ≡ 3 + length s
    taken = omega arith

padded : Holds (bad_prefix (128 ∷ 0 ∷ []) 2 3)
unfolding run_of prefix_step minimal limited
padded = (PrefixNotMinimal, refl, λ m s w. call-runs fresh m (128 ∷ 0 ∷ s) refl w refl)

over : Holds (bad_prefix (129 ∷ 128 ∷ 1 ∷ []) 3 4)
unfolding run_of prefix_step minimal limited
over = (TooLong, refl, λ m s w. call-runs fresh m (129 ∷ 128 ∷ 1 ∷ s) refl w refl)

third : Holds (bad_prefix (128 ∷ 128 ∷ 128 ∷ []) 3 4)
unfolding run_of prefix_step minimal limited
third = (TooLong, refl, λ m s w. call-runs fresh m (128 ∷ 128 ∷ 128 ∷ s) refl w refl)

-- ---- the empty message as a request
emptied : Holds (bad_request [] 8)
unfolding deal_of reading_of well_message well_formed fields_of merged message_of items fields fields_at fields_from field_at more next_of numbers spans values parts every all_of last_of verdict_of put_verdict
emptied = (BreaksRules, refl, λ me who l. refl)

-- ---- buckets: the bits that follow don't count
starts : (s b : List ℕ) → starts_with (bits s) b ≡ true → bits s ≡ b ++ drop (length b) (bits s)
starts s b h = sym (take-append-drop (length b) (bits s)) ∙ ap (λ (x : List ℕ). x ++ drop (length b) (bits s)) (starts-eq (bits s) b h)

by_bits : (us them : List ℕ) (n : ℕ) → ((xs ys : List ℕ) → common (them ++ xs) (us ++ ys) ≡ n) → Holds (bucket us them n)
unfolding is_place
by_bits us them n h ours p fo fp so sp =
    bucket-places p ours (eqb-true (length p) 32 fp) (eqb-true (length ours) 32 fo)
    ∙ ap₂ common (starts p them sp) (starts ours us so)
    ∙ h (drop (length them) (bits p)) (drop (length us) (bits ours))

-- ---- the claim
row : (r : Row) (rs : List Row) → Holds r → Each rs → Each (r ∷ rs)
unfolding Each
row r rs h hs = (h, hs)

done : Each []
unfolding Each
done = tt

pub starred : Starred
unfolding trim_of zigzag_of continued varint point and_then setpoints in_range no_leap follows rules ruled is_list distance_of count_of format_of sequence_of trailer_of core_distance_of core_count_of pad_of wrap_room list_fills recipe_within is_recipe little_number all_of common
starred =
    row _ _ empty
    (row _ _ emptied
    (row _ _ padded
    (row _ _ largest
    (row _ _ over
    (row _ _ third
    (row _ _ (refl, refl)
    (row _ _ (refl, refl)
    (row _ _ (λ s. refl)
    (row _ _ (refl, refl)
    (row _ _ (λ s. refl)
    (row _ _ (refl, refl, refl)
    (row _ _ (BrokenRecipe, refl, λ t k form key. judged-first.broken t k _ form key refl)
    (row _ _ (by_bits _ _ _ (λ xs ys. refl))
    (row _ _ (by_bits _ _ _ (λ xs ys. refl)) done))))))))))))))

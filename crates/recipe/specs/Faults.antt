-- Which rule is broken by a value that is no recipe (RULES, Recipes, which has the rules and their numbers): the first of them in the order of these definitions.
use Rattle.std.specs.Prelude.{ℕ, zero, suc, ◌-◌, Bool, true, cond, ◌&&◌, List, [], ◌∷◌, length, drop, ltb, leb, eqb, ℤ, pos, negsuc, Option, Some, None, Result, Ok, Err, ⊤}
use Rattle.std.specs.Int.Signed.{le_z}
use Rattle.limits.specs.Limits.{most_value, most_setpoints}
use Rattle.recipe.specs.Limits.{trailer_size, turn_max, trim_max}
use Rattle.recipe.specs.Recipe.{on_point, no_leap, from_end, distance_of, count_of, format_of, trailer_of, core_distance_of, core_count_of, pad_of, knows, ours}
use Rattle.recipe.specs.declared.Setpoint.{Setpoint}
use Rattle.recipe.specs.Inner.{short_point}
use Rattle.recipe.specs.declared.Rule.{Rule}
use Rattle.recipe.specs.declared.Rule.TheVariants.{TooShort, TooLong, UnknownFormat, CoreInFormatOne, PadNotZero, BadDistance, TooManySetpoints, Unpaired, NoSetpoint, TurnTooHigh, TurnNotRising, TrimOutOfRange, TrimLeaps, BytesLeft}
use Rattle.recipe.specs.declared.Part.{Part}
use Rattle.recipe.specs.declared.Part.TheVariants.{Whole, Wrap, Core}
use Rattle.recipe.specs.declared.Breach.{Breach}

-- ---- as numbers
abbrev pub rule_number : Rule → ℕ
rule_number TooShort = 1
rule_number TooLong = 2
rule_number UnknownFormat = 3
rule_number CoreInFormatOne = 4
rule_number PadNotZero = 5
rule_number BadDistance = 6
rule_number TooManySetpoints = 7
rule_number Unpaired = 8
rule_number NoSetpoint = 9
rule_number TurnTooHigh = 10
rule_number TurnNotRising = 11
rule_number TrimOutOfRange = 12
rule_number TrimLeaps = 13
rule_number BytesLeft = 14

abbrev pub part_number : Part → ℕ
part_number Whole = 0
part_number Wrap = 1
part_number Core = 2

-- ---- one rule after another: all are kept, or the first that is broken is told, with its part and its setpoint
abbrev pub broken : Rule → Part → ℕ → Result ⊤ Breach
broken rule part setpoint = Err (record { rule = rule; part = part; setpoint = setpoint })

-- a rule that is kept leads to the next; one that is broken is told
abbrev pub unless : Bool → Result ⊤ Breach → Result ⊤ Breach → Result ⊤ Breach
unless kept told next = cond kept next told

-- the first of two that is broken
unfoldable pub first_of : {A : Type 0} → Result ⊤ Breach → Result A Breach → Result A Breach
first_of (Ok u) next = next
first_of (Err f) next = Err f

-- ---- a setpoint, the i-th of a list, after the one before it
unfoldable pub rises : Option Setpoint → ℕ → Bool
rises None turn = true
rises (Some last) turn = ltb last.turn turn

unfoldable pub trim_in : ℤ → Bool
trim_in trim = le_z (negsuc (trim_max - 1)) trim && le_z trim (pos trim_max)

unfoldable pub stays : Option Setpoint → ℤ → Bool
stays None trim = true
stays (Some last) trim = no_leap last.trim trim

unfoldable pub setpoint_fault : Part → ℕ → Option Setpoint → ℕ → ℤ → Result ⊤ Breach
setpoint_fault part i p turn trim =
    unless (leb turn turn_max) (broken TurnTooHigh part i)
    (unless (rises p turn) (broken TurnNotRising part i)
    (unless (trim_in trim) (broken TrimOutOfRange part i)
    (unless (stays p trim) (broken TrimLeaps part i) (Ok tt))))

-- ---- a list of them, from the i-th on: as setpoints, and as n of them in bytes
unfoldable pub points_fault : Part → ℕ → Option Setpoint → List Setpoint → Result ⊤ Breach
points_fault part i p [] = Ok tt
points_fault part i p (q ∷ qs) = first_of (setpoint_fault part i p q.turn q.trim) (points_fault part (suc i) (Some q) qs)

unfoldable pub bytes_fault : Part → ℕ → Option Setpoint → ℕ → List ℕ → Result ⊤ Breach
bytes_fault part i p zero [] = Ok tt
bytes_fault part i p zero (b ∷ s) = broken BytesLeft part 0
bytes_fault part i p (suc n) s =
    on_point (short_point s) (λ turn trim k. first_of (setpoint_fault part i p turn trim) (bytes_fault part (suc i) (Some (record { turn = turn; trim = trim })) n (drop k s))) (broken NoSetpoint part i)

-- ---- a value
-- the list from d before its end up to e before it
unfoldable pub list_fault : Part → ℕ → ℕ → ℕ → List ℕ → Result ⊤ Breach
list_fault part n d e v =
    unless (leb e d) (broken BadDistance part 0)
    (unless (leb d (length v)) (broken BadDistance part 0)
    (unless (leb n most_setpoints) (broken TooManySetpoints part 0) (bytes_fault part 0 None n (from_end d e v))))

unfoldable pub lists_fault : ℕ → List ℕ → Result ⊤ Breach
lists_fault trailer v = first_of (list_fault Wrap (count_of v) (distance_of v) trailer v) (list_fault Core (core_count_of v) (core_distance_of v) (distance_of v) v)

unfoldable pub is_known : ℕ → Bool
is_known format = knows ours format

unfoldable pub fault_of : List ℕ → Result ⊤ Breach
fault_of v =
    unless (leb trailer_size (length v)) (broken TooShort Whole 0)
    (unless (leb (length v) most_value) (broken TooLong Whole 0)
    (unless (is_known (format_of v)) (broken UnknownFormat Whole 0)
    (unless (leb (trailer_of (format_of v)) (length v)) (broken TooShort Whole 0)
    (unless (eqb (pad_of v) 0) (broken PadNotZero Whole 0) (lists_fault (trailer_of (format_of v)) v)))))

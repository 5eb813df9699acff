-- What the rank, the zigzag form, the rules of a list, the formats and the bounds of a recipe come to: RULES, Recipes. proofs/Claims.antt shows all of it.
use Rattle.std.specs.Prelude.{ℕ, suc, ◌-◌, ◌<◌, ◌≤◌, ◌≡◌, ◌⊎◌, Bool, true, false, not, ◌&&◌, ◌||◌, List, [], ◌∷◌, ◌++◌, length, get_or, drop, ltb, leb, eqb, ℤ, pos, negsuc, nat_abs, ◌-ℤ◌, Option, Some, None, is_ok}
use Rattle.std.specs.Int.Signed.{le_z}
use Rattle.octets.specs.Octets.{little_number}
use Rattle.octets.specs.Search.{all, all_of}
use Rattle.recipe.specs.Recipe.{trim_of, zigzag_of, point, These, setpoints, rules, is_list, from_end, distance_of, count_of, format_of, core_count_of, wrap_room, core_room, Bounds, recipe_within, is_recipe, outranks}
use Rattle.recipe.specs.declared.Setpoint.{Setpoint}
use Rattle.recipe.specs.Inner.{short_point}
use Rattle.recipe.specs.Faults.{broken, points_fault, bytes_fault, fault_of}
use Rattle.recipe.specs.declared.Rule.{Rule}
use Rattle.recipe.specs.declared.Rule.TheVariants.{NoSetpoint, TurnTooHigh, TurnNotRising, TrimOutOfRange, TrimLeaps, BytesLeft}
use Rattle.recipe.specs.declared.Part.{Part}

-- the setpoint at a position, from 0; past the end, turn 0 with trim 0
abbrev pub point_at : List Setpoint → ℕ → Setpoint
point_at ps i = get_or ps i (record { turn = 0; trim = pos 0 })

-- each setpoint keeps its own limits: a turn of at most 1,000,000, a trim from -20,000 to 20,000
abbrev pub keeps_limits : List Setpoint → ℕ → Bool
keeps_limits ps i = leb (point_at ps i).turn 1000000 && (le_z (negsuc 19999) (point_at ps i).trim && le_z (point_at ps i).trim (pos 20000))

-- from each to the one after it the turn rises, and the trims differ by at most 5,000
abbrev pub turn_rises : List Setpoint → ℕ → Bool
turn_rises ps i = ltb (point_at ps i).turn (point_at ps (suc i)).turn

abbrev pub trim_stays : List Setpoint → ℕ → Bool
trim_stays ps i = leb (nat_abs ((point_at ps i).trim -ℤ (point_at ps (suc i)).trim)) 5000

-- a list keeps the rules exactly if these hold at every position
abbrev pub ByNeighbours : Type 0
ByNeighbours = (ps : List Setpoint) → rules None ps ≡ (all (length ps) (keeps_limits ps) && all (length ps - 1) (λ i. turn_rises ps i && trim_stays ps i))

-- "Refuse with 9 any recipe in which neighbouring trims differ by more than 5,000 millinewtons": no value whose setpoints do so, anywhere in either list, is a recipe
abbrev pub LeapsAreRefused : Type 0
LeapsAreRefused =
    (v : List ℕ) (ps : List Setpoint) (i : ℕ) → (setpoints (count_of v) (wrap_room v) ≡ These ps) ⊎ (setpoints (core_count_of v) (core_room v) ≡ These ps)
    → suc i < length ps → trim_stays ps i ≡ false → is_recipe v ≡ false

-- ---- how long a recipe may be
-- `setpoints n` gives n of them, or no list
abbrev pub Counted : Type 0
Counted = (n : ℕ) (s : List ℕ) (ps : List Setpoint) → setpoints n s ≡ These ps → length ps ≡ n

-- "A value has 16 to 3,072 bytes", "Values need 16 or 24 bytes at least", "u16 count, at most 400": no recipe has fewer or more, and in each format there is one that has as
-- many bytes, and 400 setpoints in every list
pub record LongestRecipes : Type 0 where
  pub bytes : (v : List ℕ) → is_recipe v ≡ true → (16 ≤ length v) × (length v ≤ 3072)
  pub least : (v : List ℕ) → is_recipe v ≡ true → format_of v ≡ 2 → 24 ≤ length v
  pub points : (v : List ℕ) → is_recipe v ≡ true → (count_of v ≤ 400) × (core_count_of v ≤ 400)
  pub one : (v : List ℕ) × (is_recipe v ≡ true) × (format_of v ≡ 1) × (length v ≡ 3072) × (count_of v ≡ 400)
  pub two : (v : List ℕ) × (is_recipe v ≡ true) × (format_of v ≡ 2) × (length v ≡ 3072) × (count_of v ≡ 400) × (core_count_of v ≡ 400)

-- ---- what is asked of a value, format by format, in numbers: nothing else is
-- "distance .. 16 up to the value's length", "u16 count, at most 400", "u16 format, 1", and its list up to the trailer
abbrev pub format_one_kept : List ℕ → Bool
format_one_kept v =
    all_of
    (eqb (format_of v) 1
    ∷ leb 16 (distance_of v)
    ∷ leb (distance_of v) (length v)
    ∷ leb (count_of v) 400
    ∷ is_list (count_of v) (from_end (distance_of v) 16 v)
    ∷ [])

-- "a second u32 distance back, a u16 count and two zero bytes"
abbrev pub second_distance : List ℕ → ℕ
second_distance v = little_number (from_end 24 20 v)

abbrev pub second_count : List ℕ → ℕ
second_count v = little_number (from_end 20 18 v)

-- "The second list ends where the first begins, the first ends at the trailer, and no distance is under 24; each keeps the turn, trim, count and leap rules"
abbrev pub format_two_kept : List ℕ → Bool
format_two_kept v =
    all_of
    (eqb (format_of v) 2
    ∷ eqb (little_number (from_end 18 16 v)) 0
    ∷ leb 24 (distance_of v)
    ∷ leb (distance_of v) (second_distance v)
    ∷ leb (second_distance v) (length v)
    ∷ leb (count_of v) 400
    ∷ leb (second_count v) 400
    ∷ is_list (count_of v) (from_end (distance_of v) 24 v)
    ∷ is_list (second_count v) (from_end (second_distance v) (distance_of v) v)
    ∷ [])

abbrev pub InNumbers : Type 0
InNumbers = (v : List ℕ) → is_recipe v ≡ all_of (leb 16 (length v) ∷ leb (length v) 3072 ∷ (format_one_kept v || format_two_kept v) ∷ [])

-- lower bounds refuse what is over them, and nothing else: every other rule is the same
abbrev pub BoundsAlone : Type 0
BoundsAlone =
    (a b : Bounds) → a.bytes ≤ b.bytes → a.points ≤ b.points → (a.two ≡ true → b.two ≡ true) → (v : List ℕ)
    → recipe_within a v
    ≡ (recipe_within b v && all_of (leb (length v) a.bytes ∷ leb (count_of v) a.points ∷ leb (core_count_of v) a.points ∷ (eqb (format_of v) 1 || (a.two && eqb (format_of v) 2)) ∷ []))

-- "A box knowing only format 1 refuses 2": whatever else its bounds are, no value of format 2 is a recipe to it
abbrev pub OneAlone : Type 0
OneAlone = (b : Bounds) (v : List ℕ) → b.two ≡ false → format_of v ≡ 2 → recipe_within b v ≡ false

-- ---- which rule is broken
-- none is, exactly by a recipe
abbrev pub NoneIsBroken : Type 0
NoneIsBroken = (v : List ℕ) → is_ok (fault_of v) ≡ is_recipe v

-- a rule on setpoints is broken by one that comes after p, in numbers
pub data Breaks (rule : Rule) (p : Option Setpoint) (q : Setpoint) : Type 0 where
  high : rule ≡ TurnTooHigh → 1000000 < q.turn → Breaks rule p q
  falls : rule ≡ TurnNotRising → (last : Setpoint) → p ≡ Some last → q.turn ≤ last.turn → Breaks rule p q
  far : rule ≡ TrimOutOfRange → 20000 < nat_abs q.trim → Breaks rule p q
  leaps : rule ≡ TrimLeaps → (last : Setpoint) → p ≡ Some last → 5000 < nat_abs (last.trim -ℤ q.trim) → Breaks rule p q

-- what comes after setpoints
unfoldable pub last_of : Option Setpoint → List Setpoint → Option Setpoint
last_of p [] = p
last_of p (q ∷ qs) = last_of (Some q) qs

-- which setpoint and which rule: of a list of setpoints the one that is named breaks the rule that is named, and those before it keep all
pub record FirstBroken (part : Part) (ps : List Setpoint) (rule : Rule) (told : Part) (i : ℕ) : Type 0 where
  pub there : told ≡ part
  pub before : List Setpoint
  pub this : Setpoint
  pub after : List Setpoint
  pub list : ps ≡ before ++ (this ∷ after)
  pub place : length before ≡ i
  pub kept : rules None before ≡ true
  pub broken : Breaks rule (last_of None before) this

abbrev pub OfSetpoints : Type 0
OfSetpoints = (part : Part) (ps : List Setpoint) (rule : Rule) (told : Part) (i : ℕ) → points_fault part 0 None ps ≡ broken rule told i → FirstBroken part ps rule told i

-- bytes that begin with setpoints, and what follows these
pub data Reads : List ℕ → List Setpoint → List ℕ → Type 0 where
  none : (s : List ℕ) → Reads s [] s
  more : (s : List ℕ) (turn : ℕ) (trim : ℤ) (k : ℕ) (ps : List Setpoint) (rest : List ℕ) → point s ≡ Some (record { turn = turn; trim = trim; size = k }) → Reads (drop k s) ps rest
      → Reads s (record { turn = turn; trim = trim } ∷ ps) rest

-- the same of bytes: what follows those that keep all rules is no setpoint of two short varints, or it is one that breaks the rule
pub data Follows (rule : Rule) (p : Option Setpoint) (s : List ℕ) : Type 0 where
  unread : rule ≡ NoSetpoint → short_point s ≡ None → Follows rule p s
  breaking : (q : Setpoint) (k : ℕ) → short_point s ≡ Some (record { turn = q.turn; trim = q.trim; size = k }) → Breaks rule p q → Follows rule p s

pub record FirstInBytes (part : Part) (n : ℕ) (s : List ℕ) (rule : Rule) (told : Part) (i : ℕ) : Type 0 where
  pub there : told ≡ part
  pub inside : i < n
  pub before : List Setpoint
  pub rest : List ℕ
  pub reads : Reads s before rest
  pub place : length before ≡ i
  pub kept : rules None before ≡ true
  pub broken : Follows rule (last_of None before) rest

abbrev pub InBytes : Type 0
InBytes =
    (part : Part) (n : ℕ) (s : List ℕ) (rule : Rule) (told : Part) (i : ℕ) → bytes_fault part 0 None n s ≡ broken rule told i
    → ((rule ≡ BytesLeft) × (told ≡ part) × (i ≡ 0)) ⊎ FirstInBytes part n s rule told i

-- ---- all of it
pub record Claims : Type 0 where
  pub by-neighbours : ByNeighbours
  pub leaps-are-refused : LeapsAreRefused
  pub counted : Counted
  pub longest-recipes : LongestRecipes
  pub in-numbers : InNumbers
  pub bounds-alone : BoundsAlone
  pub one-alone : OneAlone
  pub none-is-broken : NoneIsBroken
  pub of-setpoints : OfSetpoints
  pub in_bytes : InBytes
  -- the rank orders all values: of two that differ exactly one ranks higher; none ranks higher than itself; rank goes over
  pub rank-total : (a b : List ℕ) → (a ≡ b → ⊥) → outranks a b ≡ not (outranks b a)
  pub rank-self : (a : List ℕ) → outranks a a ≡ false
  pub rank-trans : (a b c : List ℕ) → outranks a b ≡ true → outranks b c ≡ true → outranks a c ≡ true
  -- zigzag there and back: every trim has one number, and every number is one trim's
  pub trim-zigzag : (t : ℤ) → trim_of (zigzag_of t) ≡ t
  pub zigzag-trim : (z : ℕ) → zigzag_of (trim_of z) ≡ z

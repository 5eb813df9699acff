-- The numbers of refusals: 0 is 'out of form' alone, and none is above 21. Assumes nothing.
use Prim.Native.Nat.{◌≤◌}
use mathlib.Core.Path.{◌≡◌, refl}
use native.Mathlib.Omega.{arith}
use Rattle.refusal.specs.declared.Refusal.{Refusal}
use Rattle.refusal.specs.declared.Refusal.TheVariants.{OutOfForm, SmallBuffer, Shut, PrefixNotMinimal, TooLong, Malformed, UnknownType, Providers, BreaksRules, BrokenRecipe, Outranked, NoRecordSlot, BadPeer, BucketFull, NoContactSlot, NoLongerFits, NotInFlight, LookupOver, Client, EndedInside, BadConcurrency, Unwritable}
use Rattle.refusal.specs.Refusal.{number_of}

pub number_small : (r : Refusal) → number_of r ≤ 21
number_small OutOfForm = omega arith
number_small SmallBuffer = omega arith
number_small Shut = omega arith
number_small PrefixNotMinimal = omega arith
number_small TooLong = omega arith
number_small Malformed = omega arith
number_small UnknownType = omega arith
number_small Providers = omega arith
number_small BreaksRules = omega arith
number_small BrokenRecipe = omega arith
number_small Outranked = omega arith
number_small NoRecordSlot = omega arith
number_small BadPeer = omega arith
number_small BucketFull = omega arith
number_small NoContactSlot = omega arith
number_small NoLongerFits = omega arith
number_small NotInFlight = omega arith
number_small LookupOver = omega arith
number_small Client = omega arith
number_small EndedInside = omega arith
number_small BadConcurrency = omega arith
number_small Unwritable = omega arith

pub number-zero : (r : Refusal) → number_of r ≡ 0 → r ≡ OutOfForm
number-zero OutOfForm e = refl
number-zero SmallBuffer e = absurd (omega arith)
number-zero Shut e = absurd (omega arith)
number-zero PrefixNotMinimal e = absurd (omega arith)
number-zero TooLong e = absurd (omega arith)
number-zero Malformed e = absurd (omega arith)
number-zero UnknownType e = absurd (omega arith)
number-zero Providers e = absurd (omega arith)
number-zero BreaksRules e = absurd (omega arith)
number-zero BrokenRecipe e = absurd (omega arith)
number-zero Outranked e = absurd (omega arith)
number-zero NoRecordSlot e = absurd (omega arith)
number-zero BadPeer e = absurd (omega arith)
number-zero BucketFull e = absurd (omega arith)
number-zero NoContactSlot e = absurd (omega arith)
number-zero NoLongerFits e = absurd (omega arith)
number-zero NotInFlight e = absurd (omega arith)
number-zero LookupOver e = absurd (omega arith)
number-zero Client e = absurd (omega arith)
number-zero EndedInside e = absurd (omega arith)
number-zero BadConcurrency e = absurd (omega arith)
number-zero Unwritable e = absurd (omega arith)

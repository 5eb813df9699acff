-- The number of each refusal: RULES, Refusals.
use Rattle.std.specs.Prelude.{ℕ}
use Rattle.refusal.specs.declared.Refusal.{Refusal}
use Rattle.refusal.specs.declared.Refusal.TheVariants.{OutOfForm, SmallBuffer, Shut, PrefixNotMinimal, TooLong, Malformed, UnknownType, Providers, BreaksRules, BrokenRecipe, Outranked, NoRecordSlot, BadPeer, BucketFull, NoContactSlot, NoLongerFits, NotInFlight, LookupOver, Client, EndedInside, BadConcurrency, Unwritable}

abbrev pub number_of : Refusal → ℕ
number_of OutOfForm = 0
number_of SmallBuffer = 1
number_of Shut = 2
number_of PrefixNotMinimal = 3
number_of TooLong = 4
number_of Malformed = 5
number_of UnknownType = 6
number_of Providers = 7
number_of BreaksRules = 8
number_of BrokenRecipe = 9
number_of Outranked = 10
number_of NoRecordSlot = 11
number_of BadPeer = 12
number_of BucketFull = 13
number_of NoContactSlot = 14
number_of NoLongerFits = 15
number_of NotInFlight = 16
number_of LookupOver = 17
number_of Client = 18
number_of EndedInside = 19
number_of BadConcurrency = 20
number_of Unwritable = 21

-- `number` answers each case by itself: the case that the match took is the refusal that came in.
use borrow.Author.Rules.{rules}
use Rattle.refusal.proofs.number.Goals as goal

pub returns-in-OutOfForm : goal.returns-in-OutOfForm
returns-in-OutOfForm c = rw c.in-OutOfForm.is

pub returns-in-SmallBuffer : goal.returns-in-SmallBuffer
returns-in-SmallBuffer c = rw c.in-SmallBuffer.is

pub returns-in-Shut : goal.returns-in-Shut
returns-in-Shut c = rw c.in-Shut.is

pub returns-in-PrefixNotMinimal : goal.returns-in-PrefixNotMinimal
returns-in-PrefixNotMinimal c = rw c.in-PrefixNotMinimal.is

pub returns-in-TooLong : goal.returns-in-TooLong
returns-in-TooLong c = rw c.in-TooLong.is

pub returns-in-Malformed : goal.returns-in-Malformed
returns-in-Malformed c = rw c.in-Malformed.is

pub returns-in-UnknownType : goal.returns-in-UnknownType
returns-in-UnknownType c = rw c.in-UnknownType.is

pub returns-in-Providers : goal.returns-in-Providers
returns-in-Providers c = rw c.in-Providers.is

pub returns-in-BreaksRules : goal.returns-in-BreaksRules
returns-in-BreaksRules c = rw c.in-BreaksRules.is

pub returns-in-BrokenRecipe : goal.returns-in-BrokenRecipe
returns-in-BrokenRecipe c = rw c.in-BrokenRecipe.is

pub returns-in-Outranked : goal.returns-in-Outranked
returns-in-Outranked c = rw c.in-Outranked.is

pub returns-in-NoRecordSlot : goal.returns-in-NoRecordSlot
returns-in-NoRecordSlot c = rw c.in-NoRecordSlot.is

pub returns-in-BadPeer : goal.returns-in-BadPeer
returns-in-BadPeer c = rw c.in-BadPeer.is

pub returns-in-BucketFull : goal.returns-in-BucketFull
returns-in-BucketFull c = rw c.in-BucketFull.is

pub returns-in-NoContactSlot : goal.returns-in-NoContactSlot
returns-in-NoContactSlot c = rw c.in-NoContactSlot.is

pub returns-in-NoLongerFits : goal.returns-in-NoLongerFits
returns-in-NoLongerFits c = rw c.in-NoLongerFits.is

pub returns-in-NotInFlight : goal.returns-in-NotInFlight
returns-in-NotInFlight c = rw c.in-NotInFlight.is

pub returns-in-LookupOver : goal.returns-in-LookupOver
returns-in-LookupOver c = rw c.in-LookupOver.is

pub returns-in-Client : goal.returns-in-Client
returns-in-Client c = rw c.in-Client.is

pub returns-in-EndedInside : goal.returns-in-EndedInside
returns-in-EndedInside c = rw c.in-EndedInside.is

pub returns-in-BadConcurrency : goal.returns-in-BadConcurrency
returns-in-BadConcurrency c = rw c.in-BadConcurrency.is

pub returns-in-Unwritable : goal.returns-in-Unwritable
returns-in-Unwritable c = rw c.in-Unwritable.is

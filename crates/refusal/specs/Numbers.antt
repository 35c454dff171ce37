-- The number of each refusal. Assumes nothing.
use Rattle.std.specs.Prelude.{ℕ}
use Rattle.refusal.specs.declared.Refusal.{Refusal}
use Rattle.refusal.specs.declared.Refusal.TheVariants.{NotThere, WorkMemory, Waiting, BadName, NameTaken, BadType, EditTarget, EditRule, IdsSpent, HistoryFull, WrongKind, Unfit, RecordField, Absent, MapEntry, ByteLength, OutOfRange, OverLimit, ResultMemory, Narrowing, CarrierFull, NoSuchItem}

abbrev pub number_of : Refusal → ℕ
number_of NotThere = 1
number_of WorkMemory = 2
number_of Waiting = 3
number_of BadName = 4
number_of NameTaken = 5
number_of BadType = 6
number_of EditTarget = 7
number_of EditRule = 8
number_of IdsSpent = 9
number_of HistoryFull = 10
number_of WrongKind = 11
number_of Unfit = 12
number_of RecordField = 13
number_of Absent = 14
number_of MapEntry = 15
number_of ByteLength = 16
number_of OutOfRange = 17
number_of OverLimit = 18
number_of ResultMemory = 19
number_of Narrowing = 20
number_of CarrierFull = 21
number_of NoSuchItem = 22

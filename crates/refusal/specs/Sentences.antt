-- Each refusal in words, and the name of each part of the library. Assumes nothing.
use Rattle.std.specs.Prelude.{ℕ, List, codes}
use Rattle.refusal.specs.declared.Layer.{Layer}
use Rattle.refusal.specs.declared.Layer.TheVariants.{Carrier, Conversion, History, Types, Values}
use Rattle.refusal.specs.declared.Refusal.{Refusal}
use Rattle.refusal.specs.declared.Refusal.TheVariants.{NotThere, WorkMemory, Waiting, BadName, NameTaken, BadType, EditTarget, EditRule, IdsSpent, HistoryFull, WrongKind, Unfit, RecordField, Absent, MapEntry, ByteLength, OutOfRange, OverLimit, ResultMemory, Narrowing, CarrierFull, NoSuchItem}

abbrev pub sentence_of : Refusal → List ℕ
sentence_of NotThere = codes "no node, byte, field or schema has that number"
sentence_of WorkMemory = codes "the work, table or result memory is below what the call needs"
sentence_of Waiting = codes "nothing waits, or something waits where nothing may"
sentence_of BadName = codes "a name is empty or longer than 64 bytes"
sentence_of NameTaken = codes "the struct has a field of that name already"
sentence_of BadType = codes "the type breaks a rule of types"
sentence_of EditTarget = codes "the edit aims at a map key or at no struct field"
sentence_of EditRule = codes "the edit is not allowed there"
sentence_of IdsSpent = codes "the last id has been given out"
sentence_of HistoryFull = codes "there are too many schemas or fields"
sentence_of WrongKind = codes "the type does not take a value of that kind"
sentence_of Unfit = codes "the value does not fit its schema"
sentence_of RecordField = codes "a record has a field that the struct lacks, or one twice"
sentence_of Absent = codes "a required value is null or absent"
sentence_of MapEntry = codes "a map entry is no record of key and value"
sentence_of ByteLength = codes "bytes have the wrong length, or a byte list another element"
sentence_of OutOfRange = codes "a number lies outside its type"
sentence_of OverLimit = codes "a value passes the limits"
sentence_of ResultMemory = codes "the result memory is too small"
sentence_of Narrowing = codes "showing would narrow a value"
sentence_of CarrierFull = codes "the carrier lacks space"
sentence_of NoSuchItem = codes "the row begins with no such item"

abbrev pub layer_name : Layer → List ℕ
layer_name Carrier = codes "carrier"
layer_name Conversion = codes "conversion"
layer_name History = codes "history"
layer_name Types = codes "types"
layer_name Values = codes "values"

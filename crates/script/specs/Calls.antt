-- The calls that lines spell. Assumes nothing.
use Rattle.std.specs.Prelude.{◌≡◌, ℕ, ◌⊎◌, List, [], ◌∷◌, length, Some, None, Ok, Err, vec_items, codes, Option, Result}
use Rattle.std.specs.Option.{ok_or}
use Rattle.std.specs.List.{AllByRecursion}
use Rattle.carrier.specs.Items.{Datum}
use Rattle.transfer.specs.Cells.{read, Below}
use Rattle.carrier.specs.declared.Kind.{Kind}
use Rattle.texts.specs.Encoded.{bytes_of}
use Rattle.script.specs.Laying.{datums}
use Rattle.script.specs.Lexing.{Tok, opening, closing, word}
use Rattle.spelling.specs.Naming.{lookup}
use Rattle.script.specs.Nouns.{size_of, items_of, kinds_of}
use Rattle.script.specs.Shapes.{and_then, an_argument, at_end}
use Rattle.spelling.specs.declared.bad.Bad.{Bad}
use Rattle.spelling.specs.declared.bad.Bad.TheVariants.{NoVerb, UnknownVerb, MissingArgument, NotBytes, NotACarrier, Brackets, TooMuch, NoMemory}
use Rattle.script.specs.declared.call.Call.{Call}
use Rattle.script.specs.declared.call.Call.TheVariants.{Carrier, Row, Room, Waiting, Price, ItemPut, ItemTake}
use Rattle.script.specs.declared.call.Opening.{Opening}
use Rattle.script.specs.declared.call.Opening.TheVariants.{Avro, Words, AvroWritten}
use Rattle.script.specs.declared.call.Sort.{Sort}
use Rattle.script.specs.declared.call.Sort.TheVariants as sort
use Rattle.script.specs.declared.call.Verb.{Verb}
use Rattle.script.specs.declared.call.Verb.TheVariants as verb

-- a carrier that is to be opened
pub data Opens : Type 0 where
  avro : ℕ → Opens
  words : ℕ → Opens
  written : List ℕ → Opens

-- what a call asks for, without memory
pub data Deed : Type 0 where
  carrier : Opens → Deed
  row : Deed
  room : Deed
  waiting : Deed
  price : Datum → Deed
  put : List Datum → Deed
  take : List Kind → Deed

abbrev pub opened : Opening → Opens
opened (Avro n) = avro n
opened (Words n) = words n
opened (AvroWritten v) = written (vec_items v)

abbrev pub said : Call → Deed
said (Carrier o) = carrier (opened o)
said Row = row
said Room = room
said Waiting = waiting
said (Price c bs) = price (read (vec_items bs) c)
said (ItemPut i) = put (datums i)
said (ItemTake ks) = take (vec_items ks)

abbrev pub verb_name : Verb → List ℕ
verb_name verb.Carrier = codes "carrier"
verb_name verb.Row = codes "row"
verb_name verb.Room = codes "room"
verb_name verb.Waiting = codes "waiting"
verb_name verb.Price = codes "price"
verb_name verb.ItemPut = codes "item-put"
verb_name verb.ItemTake = codes "item-take"

abbrev pub verb_of : List ℕ → Option Verb
verb_of w = lookup verb_name w (verb.Carrier ∷ verb.Row ∷ verb.Room ∷ verb.Waiting ∷ verb.Price ∷ verb.ItemPut ∷ verb.ItemTake ∷ [])

abbrev pub sort_name : Sort → List ℕ
sort_name sort.Avro = codes "avro"
sort_name sort.Words = codes "words"
sort_name sort.AvroWritten = codes "avro-written"

abbrev pub sort_of : List ℕ → Option Sort
sort_of w = lookup sort_name w (sort.Avro ∷ sort.Words ∷ sort.AvroWritten ∷ [])

-- a sort of carrier and what it is opened on
abbrev pub opens_by : Option Sort → List ℕ → Result Opens Bad
opens_by None v = Err NotACarrier
opens_by (Some sort.Avro) v = and_then (size_of v) (λ n. Ok (avro n))
opens_by (Some sort.Words) v = and_then (size_of v) (λ n. Ok (words n))
opens_by (Some sort.AvroWritten) v = and_then (ok_or (bytes_of v) NotBytes) (λ bs. Ok (written bs))

abbrev pub opening_of : List Tok → Result Opens Bad
opening_of ts = and_then (an_argument ts) (λ s. and_then (an_argument s.1) (λ v. and_then (at_end v.1) (λ _. opens_by (sort_of s.0) v.0)))

abbrev pub one : List Datum → Result Datum Bad
one [] = Err MissingArgument
one (d ∷ []) = Ok d
one (d ∷ e ∷ ds) = Err TooMuch

abbrev pub price_of : List Tok → Result Datum Bad
price_of ts = and_then (items_of ts) one

abbrev pub by_verb : Verb → List Tok → Result Deed Bad
by_verb verb.Carrier ts = and_then (opening_of ts) (λ o. Ok (carrier o))
by_verb verb.Row ts = and_then (at_end ts) (λ _. Ok row)
by_verb verb.Room ts = and_then (at_end ts) (λ _. Ok room)
by_verb verb.Waiting ts = and_then (at_end ts) (λ _. Ok waiting)
by_verb verb.Price ts = and_then (price_of ts) (λ d. Ok (price d))
by_verb verb.ItemPut ts = and_then (items_of ts) (λ ds. Ok (put ds))
by_verb verb.ItemTake ts = and_then (kinds_of ts) (λ ks. Ok (take ks))

-- the call that the tokens of a line spell, or why they spell none
abbrev pub call_of : List Tok → Result Deed Bad
call_of [] = Err NoVerb
call_of (opening ∷ ts) = Err Brackets
call_of (closing ∷ ts) = Err Brackets
call_of (word w ∷ ts) = and_then (ok_or (verb_of w) UnknownVerb) (λ v. by_verb v ts)

-- the bytes of its items lie inside its memory
abbrev pub Placed : Call → Type 0
Placed (Carrier o) = Unit {0}
Placed Row = Unit {0}
Placed Room = Unit {0}
Placed Waiting = Unit {0}
Placed (Price c bs) = Below (length (vec_items bs)) c
Placed (ItemPut i) = AllByRecursion (Below (length (vec_items i.bytes))) (vec_items i.cells)
Placed (ItemTake ks) = Unit {0}

-- the call is what was spelled, or the reason why none was, or memory failed
abbrev pub Parses : Result Call Bad → Result Deed Bad → Type 0
Parses (Ok c) o = (o ≡ Ok (said c)) × Placed c
Parses (Err e) o = (e ≡ NoMemory) ⊎ (o ≡ Err e)

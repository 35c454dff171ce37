-- The reasons why a line is no call, in words. Assumes nothing.
use Rattle.std.specs.Prelude.{ℕ, List, codes}
use Rattle.spelling.specs.declared.bad.Bad.{Bad}
use Rattle.spelling.specs.declared.bad.Bad.TheVariants.{NoVerb, UnknownVerb, MissingArgument, NotANumber, NotBytes, NotBits, NotText, NotAnItem, NotAKind, NotACarrier, Brackets, TooMuch, NoMemory, NoCarrier}

abbrev pub reason_of : Bad → List ℕ
reason_of NoVerb = codes "the line has no verb"
reason_of UnknownVerb = codes "unknown verb"
reason_of MissingArgument = codes "an argument is missing"
reason_of NotANumber = codes "not a number, or past its range"
reason_of NotBytes = codes "not bytes: x and pairs of hex digits"
reason_of NotBits = codes "not bits: x and all hex digits, 8 for a single, 16 for a double"
reason_of NotText = codes "not a text: \"..\" with \\xHH for what may not stand there"
reason_of NotAnItem = codes "not an item"
reason_of NotAKind = codes "not a kind"
reason_of NotACarrier = codes "not a carrier: avro, words or avro-written"
reason_of Brackets = codes "a bracket is missing or misplaced"
reason_of TooMuch = codes "too much on the line"
reason_of NoMemory = codes "no memory"
reason_of NoCarrier = codes "no carrier is open"

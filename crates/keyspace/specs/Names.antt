-- What a field name is. Assumes nothing.
use Rattle.std.specs.Prelude.{ℕ, List, take}
use Rattle.keyspace.specs.declared.name.Name.{Name}

-- the bytes of a name
abbrev pub text_of : Name → List ℕ
text_of name = take name.len name.bytes

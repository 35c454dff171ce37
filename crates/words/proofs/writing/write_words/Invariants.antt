use Rattle.std.proofs.Common.{◌≡◌, ◌+◌, ◌++◌, length, take, drop}
use Rattle.words.proofs.writing.write_words.Given as goal

abbrev pub invariant-loop-i : goal.invariant-loop-i
invariant-loop-i l = record { front : take (length l.head + l.i) l.out ≡ l.head ++ take l.i l.bytes; rest : drop l.n l.out ≡ drop l.n l.fn.out }

-- A row of words is its own list of numbers, and a code in front of it ends where its length says. Assumes nothing.
use Rattle.std.proofs.lemmas.List.{map-id, take_at, take_all, length-append}

pub ruleset same_numbers = (map-id, take_at, take_all, length-append)

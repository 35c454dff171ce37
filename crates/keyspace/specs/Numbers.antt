-- The numbers by which ids and names are spread over the slots. Assumes nothing.
use Rattle.std.specs.Prelude.{ℕ, ◌*◌, ◌/◌, ◌%◌, ◌^◌, List, fold, bit_xor}

-- the lower half of a number takes in its upper half
abbrev pub folded_down : ℕ → ℕ
folded_down p = bit_xor p (p / 2 ^ 16)

-- the product with 2^32 over the golden ratio, and then its halves
abbrev pub turned : ℕ → ℕ
turned h = folded_down ((h * 2654435761) % 2 ^ 32)

-- two turns, after which each bit of h has a part in the lowest
unfoldable pub spread : ℕ → ℕ
spread h = turned (turned h)

-- FNV-1a, one byte more
abbrev pub mixed : ℕ → ℕ → ℕ
mixed h b = (bit_xor h b * 16777619) % 2 ^ 32

-- FNV-1a over the bytes of a name, and then spread
unfoldable pub name_number : List ℕ → ℕ
name_number bytes = spread (fold mixed 2166136261 bytes)

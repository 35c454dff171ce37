-- Items that are laid into memory. Assumes nothing.
use Rattle.std.specs.Prelude.{◌≡◌, ℕ, ◌⊎◌, List, ◌++◌, map, length, drop, Ok, Err, vec_items, Result}
use Rattle.std.specs.List.{AllByRecursion}
use Rattle.carrier.specs.Items.{Datum}
use Rattle.carrier.specs.declared.Item.TheVariants.{Run}
use Rattle.transfer.specs.Cells.{Cell, within, read, Below}
use Rattle.transfer.specs.declared.cells.Span.{Span}
use Rattle.script.specs.Shapes.{and_then}
use Rattle.spelling.specs.declared.bad.Bad.{Bad}
use Rattle.spelling.specs.declared.bad.Bad.TheVariants.{NoMemory}
use Rattle.script.specs.declared.items.Items.{Items}

-- the memory is as it was, with more behind it
abbrev pub Grown : List ℕ → List ℕ → Type 0
Grown before after = after ≡ before ++ drop (length before) after

-- the bytes went to the end of the memory, or there are none, or memory failed
abbrev pub Extends : Result (Unit {0}) Bad → Result (List ℕ) Bad → List ℕ → List ℕ → Type 0
Extends (Ok _) o before after = and_then o (λ xs. Ok (before ++ xs)) ≡ Ok after
Extends (Err e) o before after = (e ≡ NoMemory) ⊎ (o ≡ Err e)

-- the bytes lie in the span, or there are none, or memory failed
abbrev pub Spans : Result Span Bad → Result (List ℕ) Bad → List ℕ → List ℕ → Type 0
Spans (Ok s) o before after = (o ≡ Ok (within after s)) × Below (length after) (Run s) × Grown before after
Spans (Err e) o before after = (e ≡ NoMemory) ⊎ (o ≡ Err e)

-- the item lies in the cell, its bytes inside the memory
abbrev pub Lays : Result Cell Bad → Result Datum Bad → List ℕ → List ℕ → Type 0
Lays (Ok c) o before after = (o ≡ Ok (read after c)) × Below (length after) c × Grown before after
Lays (Err e) o before after = (e ≡ NoMemory) ⊎ (o ≡ Err e)

abbrev pub datums : Items → List Datum
datums i = map (read (vec_items i.bytes)) (vec_items i.cells)

-- the items lie in the cells, their bytes inside the memory
abbrev pub Listed : Result Items Bad → Result (List Datum) Bad → Type 0
Listed (Ok i) o = (o ≡ Ok (datums i)) × AllByRecursion (Below (length (vec_items i.bytes))) (vec_items i.cells)
Listed (Err e) o = (e ≡ NoMemory) ⊎ (o ≡ Err e)

-- Items that are taken into lent memory, one after another. Assumes nothing.
use Rattle.std.specs.Prelude.{◌≡◌, ℕ, ◌+◌, ◌-◌, ◌<◌, ◌≤◌, min, Bool, true, false, List, [], ◌∷◌, ◌++◌, map, length, take, drop, Ok, Err, Result, nat_lt, slice_index_or}
use Rattle.refusal.specs.declared.Refusal.{Refusal}
use Rattle.refusal.specs.declared.Refusal.TheVariants.{ResultMemory, NoSuchItem}
use Rattle.carrier.specs.Items.{Datum, truth, whole, single, double, run, fixed, Held, Of, All, bulk}
use Rattle.carrier.specs.Steps.{State, None, Taken}
use Rattle.carrier.specs.Lists.{codes}
use Rattle.carrier.specs.declared.CarrierFault.{CarrierFault}
use Rattle.carrier.specs.declared.Kind.{Kind}
use Rattle.carrier.specs.declared.Kind.TheVariants as kind
use Rattle.carrier.specs.declared.Item.{Item}
use Rattle.carrier.specs.declared.Item.TheVariants.{Truth, Whole, Single, Double, Run, Fixed}
use Rattle.transfer.specs.declared.cells.Span.{Span}
use Rattle.transfer.specs.declared.cells.Taking.{Taking}

abbrev pub Cell : Type 0
Cell = Item Span

abbrev pub within : List ℕ → Span → List ℕ
within bytes s = take s.len (drop s.start bytes)

-- the item in a cell, its bytes being in the byte memory
abbrev pub read : List ℕ → Cell → Datum
read bytes (Truth b) = truth b
read bytes (Whole z) = whole z
read bytes (Single n) = single n
read bytes (Double n) = double n
read bytes (Run s) = run (within bytes s)
read bytes (Fixed s) = fixed (within bytes s)

-- the items in the first n cells
abbrev pub items : ℕ → List Cell → List ℕ → List Datum
items n cells bytes = map (read bytes) (take n cells)

-- the bytes of all of the items
abbrev pub bulks : List Datum → ℕ
bulks [] = 0
bulks (d ∷ ds) = bulk d + bulks ds

-- the items are of the kinds, one of each in order
abbrev pub Each : List Kind → List Datum → Type 0
Each [] [] = Unit {0}
Each [] (d ∷ ds) = ⊥
Each (k ∷ ks) [] = ⊥
Each (k ∷ ks) (d ∷ ds) = Of k d × Each ks ds

-- the codes of the items, which are of the kinds, left the front of the row
pub record Took (code : Datum → List ℕ) (ks : List Kind) (ds : List Datum) (s t : State) : Type 0 where
  pub kinds : Each ks ds
  pub held : All Held ds
  pub row : s.row ≡ codes code ds ++ t.row
  pub capacity : t.capacity ≡ s.capacity
  pub count : t.count ≤ s.count
  pub drained : 0 < length ds → t.row ≡ [] → t.count ≡ 0
  pub untouched : length ds ≡ 0 → t ≡ s

-- the items of all the kinds stand in the cells, and the rest of the memory is as it was
pub record TookAll (code : Datum → List ℕ) (ks : List Kind) (r : Taking) (cells cells' : List Cell) (bytes bytes' : List ℕ) (s t : State) : Type 0 where
  pub room : length ks ≤ length cells
  pub took : Took code ks (items (length ks) cells' bytes') s t
  pub bytes_used : r.bytes ≡ bulks (items (length ks) cells' bytes')
  pub numbers : r.numbers ≡ length (codes code (items (length ks) cells' bytes'))
  pub fits : r.bytes ≤ length bytes
  pub other_cells : drop (length ks) cells' ≡ drop (length ks) cells
  pub other_bytes : drop r.bytes bytes' ≡ drop r.bytes bytes

-- a fixed that is longer than the memory left
abbrev pub lacks : Kind → ℕ → Bool
lacks kind.Truth left = false
lacks kind.Whole left = false
lacks kind.Single left = false
lacks kind.Double left = false
lacks (kind.Run most) left = false
lacks (kind.Fixed n) left = nat_lt left n

-- the kind, a run being no longer than the memory left
abbrev pub limited : Kind → ℕ → Kind
limited kind.Truth left = kind.Truth
limited kind.Whole left = kind.Whole
limited kind.Single left = kind.Single
limited kind.Double left = kind.Double
limited (kind.Run most) left = kind.Run (min most left)
limited (kind.Fixed n) left = kind.Fixed n

-- why a kind was not taken: no cell is left, too few bytes are left for a fixed, or no such item stands there
pub data Cause (code : Datum → List ℕ) (k : Kind) (cells left : ℕ) (row : List ℕ) : Refusal → Type 0 where
  no_cell : cells ≡ 0 → Cause code k cells left row ResultMemory
  no_bytes : 0 < cells → lacks k left ≡ true → Cause code k cells left row ResultMemory
  no_item : 0 < cells → lacks k left ≡ false → None code (limited k left) row → Cause code k cells left row NoSuchItem

-- the items of the first n kinds stand in the cells and are lost to the carrier, and the next was not taken
pub record Stopped (code : Datum → List ℕ) (ks : List Kind) (n : ℕ) (e : CarrierFault) (cells cells' : List Cell) (bytes bytes' : List ℕ) (s t : State) : Type 0 where
  pub before : n < length ks
  pub took : Took code (take n ks) (items n cells' bytes') s t
  pub taken : e.taken ≡ length (codes code (items n cells' bytes'))
  pub cause : Cause code (slice_index_or ks n kind.Truth) (length cells - n) (length bytes - bulks (items n cells' bytes')) t.row e.refusal
  pub other_cells : drop n cells' ≡ drop n cells
  pub other_bytes : drop (bulks (items n cells' bytes')) bytes' ≡ drop (bulks (items n cells' bytes')) bytes

abbrev pub TakesAll : (Datum → List ℕ) → List Kind → Result Taking CarrierFault → List Cell → List Cell → List ℕ → List ℕ → State → State → Type 0
TakesAll code ks (Ok r) cells cells' bytes bytes' s t = TookAll code ks r cells cells' bytes bytes' s t
TakesAll code ks (Err e) cells cells' bytes bytes' s t = (n : ℕ) × Stopped code ks n e cells cells' bytes bytes' s t

-- the items came back, and the rest of the row stays
abbrev pub Back : Result Taking CarrierFault → List Datum → List Datum → List ℕ → State → Type 0
Back (Ok r) ds got rest t = (got ≡ ds) × (t.row ≡ rest)
Back (Err e) ds got rest t = ⊥

-- whatever items of the kinds stand at the front of the row, where the memory suffices they come back
abbrev pub ComesBack : (Datum → List ℕ) → List Kind → Result Taking CarrierFault → List Cell → List Cell → List ℕ → List ℕ → State → State → Type 0
ComesBack code ks r cells cells' bytes bytes' s t =
    (ds : List Datum) (rest : List ℕ) → Each ks ds → All Held ds → s.row ≡ codes code ds ++ rest
    → length ks ≤ length cells → bulks ds ≤ length bytes → Back r ds (items (length ks) cells' bytes') rest t

-- a cell's bytes end at or before n
abbrev pub Below : ℕ → Cell → Type 0
Below n (Truth b) = Unit {0}
Below n (Whole z) = Unit {0}
Below n (Single k) = Unit {0}
Below n (Double k) = Unit {0}
Below n (Run s) = s.start + s.len ≤ n
Below n (Fixed s) = s.start + s.len ≤ n

-- an item of the kind went into the cell, its bytes from `used` on
pub record TookOne (code : Datum → List ℕ) (k : Kind) (used : ℕ) (cell : Cell) (bytes bytes' : List ℕ) (s t : State) : Type 0 where
  pub of : Of k (read bytes' cell)
  pub taken : Taken code (read bytes' cell) s t
  pub fits : used + bulk (read bytes' cell) ≤ length bytes
  pub below : Below (used + bulk (read bytes' cell)) cell
  pub before : take used bytes' ≡ take used bytes
  pub after : drop (used + bulk (read bytes' cell)) bytes' ≡ drop (used + bulk (read bytes' cell)) bytes

-- the item was not taken, and nothing changed
pub record NotOne (code : Datum → List ℕ) (k : Kind) (left taken : ℕ) (e : CarrierFault) (bytes bytes' : List ℕ) (s t : State) : Type 0 where
  pub cause : Cause code k 1 left s.row e.refusal
  pub numbers : e.taken ≡ taken
  pub same_bytes : bytes' ≡ bytes
  pub same : t ≡ s

abbrev pub TakesOne : (Datum → List ℕ) → Kind → ℕ → ℕ → Result Cell CarrierFault → List ℕ → List ℕ → State → State → Type 0
TakesOne code k used taken (Ok cell) bytes bytes' s t = TookOne code k used cell bytes bytes' s t
TakesOne code k used taken (Err e) bytes bytes' s t = NotOne code k (length bytes - used) taken e bytes bytes' s t

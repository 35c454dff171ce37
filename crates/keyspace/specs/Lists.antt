-- What is said of a list of entries together with the key space of their keys. Assumes nothing.
use Rattle.std.specs.Prelude.{ℕ, List, Option, length}
use Rattle.keyspace.specs.Positions.{Meets, FirstOrNone, OnlyMeeting}
use Rattle.keyspace.specs.Slots.{IndexOf}
use Rattle.keyspace.specs.Spots.{EndsAt}
use Rattle.keyspace.specs.declared.index.KeyedList.{KeyedList}
use Rattle.keyspace.specs.declared.slot.Spot.{Spot}
use Rattle.keyspace.specs.declared.slot.Taken.{Taken}
use Rattle.keyspace.specs.declared.space.KeySpace.{Ghosts}

module _ {S K E : Type 0} (space : Ghosts S K) (keyed : E → K) (list : KeyedList S E) where
  -- what a key means
  abbrev pub means : K → space.Value
  means key = space.means list.space.now key

  -- what the key of an entry means
  abbrev pub entry_means : E → space.Value
  entry_means entry = means (keyed entry)

  -- the entry at a position has a key that means what this one does
  abbrev pub HasKeyAt : ℕ → K → Type 0
  HasKeyAt p key = Meets entry_means list.entries.now p (means key)

  -- the first position of such a key, or none
  abbrev pub FirstOfKey : K → Option ℕ → Type 0
  FirstOfKey key place = FirstOrNone entry_means list.entries.now (means key) place

  -- a position of such a key, or none
  abbrev pub SomeOfKey : K → Option ℕ → Type 0
  SomeOfKey key place = OnlyMeeting entry_means list.entries.now (means key) place

  -- where a walk for the key over the slots ends
  abbrev pub WalkEndsAt : List (Option Taken) → K → Spot → Type 0
  WalkEndsAt slots key spot = EndsAt entry_means space.numberof list.entries.now slots (means key) spot

  -- the slots are an index of the first `count` entries
  abbrev pub IsIndexOf : ℕ → List (Option Taken) → Type 0
  IsIndexOf count slots = IndexOf entry_means space.numberof list.entries.now count slots

  -- the slots are an index of all entries
  abbrev pub IsIndex : List (Option Taken) → Type 0
  IsIndex slots = IsIndexOf (length list.entries.now) slots

-- Lists of calls on files that are to be made in their order: what they ask of the files and of the names' rooms.
use Rattle.std.specs.Prelude.{◌≡◌, ℕ, ◌+◌, ◌<◌, ◌≤◌, false, List, [], ◌∷◌, length, Option, option_map, IfSome, IsSome, IsSomeAnd}
use Rattle.hd_base.specs.Faults.{FaultSchedule}
use Rattle.hd_base.specs.FileMaps.{FileMap}
use Rattle.hd_base.specs.Calls.{Call, Make, Write, Cut, Sync, Rename, Remove, effect_of}

-- The call finds its file, and its place in it.
abbrev pub FindsFile : FileMap → Call → Type 0
FindsFile files (Make name) = Unit {0}
FindsFile files (Write name place bytes) = IsSomeAnd (files name) (λ b. place ≤ length b)
FindsFile files (Cut name len) = IsSomeAnd (files name) (λ b. len ≤ length b)
FindsFile files (Sync name) = IsSome (files name)
FindsFile files (Rename from to) = IsSome (files from)
FindsFile files (Remove name) = IsSome (files name)

-- Each call finds its file, and its place in it, in what the calls before it made.
abbrev pub FindFiles : FileMap → List Call → Type 0
FindFiles files [] = Unit {0}
FindFiles files (call ∷ calls) = FindsFile files call × FindFiles (effect_of call files) calls

-- The call needs no memory.
abbrev pub HasRoomFor : (List ℕ → ℕ) → Call → Type 0
HasRoomFor room (Make name) = 0 < room name
HasRoomFor room (Write name place bytes) = place + length bytes < room name
HasRoomFor room (Cut name len) = Unit {0}
HasRoomFor room (Sync name) = Unit {0}
HasRoomFor room (Rename from to) = Unit {0}
HasRoomFor room (Remove name) = Unit {0}

-- none of the calls makes or writes a file
abbrev pub NeedNoRoom : List Call → Type 0
NeedNoRoom [] = Unit {0}
NeedNoRoom (Make name ∷ calls) = ⊥
NeedNoRoom (Write name place bytes ∷ calls) = ⊥
NeedNoRoom (Cut name len ∷ calls) = NeedNoRoom calls
NeedNoRoom (Sync name ∷ calls) = NeedNoRoom calls
NeedNoRoom (Rename from to ∷ calls) = NeedNoRoom calls
NeedNoRoom (Remove name ∷ calls) = NeedNoRoom calls

-- No call needs memory. A rename carries room from one name to another, so what makes or writes files stands before all renames.
abbrev pub HasRoom : (List ℕ → ℕ) → List Call → Type 0
HasRoom room [] = Unit {0}
HasRoom room (Make name ∷ calls) = HasRoomFor room (Make name) × HasRoom room calls
HasRoom room (Write name place bytes ∷ calls) = HasRoomFor room (Write name place bytes) × HasRoom room calls
HasRoom room (Cut name len ∷ calls) = HasRoom room calls
HasRoom room (Sync name ∷ calls) = HasRoom room calls
HasRoom room (Rename from to ∷ calls) = NeedNoRoom calls
HasRoom room (Remove name ∷ calls) = HasRoom room calls

-- After this call the calls behind it have their room.
abbrev pub KeepsRoomFor : (List ℕ → ℕ) → (List ℕ → ℕ) → Call → Type 0
KeepsRoomFor old new call = (rest : List Call) → HasRoom old (call ∷ rest) → HasRoom new rest

-- the schedule of faults after so many calls
abbrev pub after_calls : ℕ → FaultSchedule → FaultSchedule
after_calls n schedule = λ k. schedule (n + k)

-- Where the faults to come are observable and none is due in so many calls, the count stays.
abbrev pub StaysWithoutFaults : Option FaultSchedule → ℕ → ℕ → ℕ → Type 0
StaysWithoutFaults old n before now =
    IfSome old (λ schedule. ((k : ℕ) → k < n → schedule k ≡ false) → now ≡ before)

-- where the faults to come are observable, these are the ones after so many calls
abbrev pub GoesOnBy : ℕ → Option FaultSchedule → Option FaultSchedule → Type 0
GoesOnBy n old new = new ≡ option_map (after_calls n) old

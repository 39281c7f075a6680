-- Files as a finite map from names to bytes, and what each call on them does to that map.
use Rattle.std.specs.Prelude.{◌≡◌, ◌==◌, ℕ, ◌+◌, ◌<◌, ◌≤◌, ◌↔◌, Bool, true, false, cond, List, ◌++◌, length, take, drop, Option, Some, None, option_map, option_and_then, IsSome, IfSome, Contains, AllPairs, bytes_eq}
use Rattle.std.specs.Option.{option_or}
use Rattle.std.specs.Ordering.{nat_cmp, is_lt}
use Rattle.std.specs.Cmp.Lexicographic.{slice_cmp}
use Rattle.std.specs.Map.{update}
use Rattle.hd_base.specs.Blocks.{is_of_block}

-- the bytes of each file by its name, None where there is no such file
abbrev pub FileMap : Type 0
FileMap = List ℕ → Option (List ℕ)

-- no files
abbrev pub no_files : FileMap
no_files = λ _. None

-- the map with this file, whatever was there under its name
abbrev pub put : FileMap → List ℕ → List ℕ → FileMap
put files name bytes = update bytes_eq files name (Some bytes)

-- the map without this file
abbrev pub without : FileMap → List ℕ → FileMap
without files name = update bytes_eq files name None

-- the map with this file's bytes changed, where it is there
abbrev pub changed : FileMap → List ℕ → (List ℕ → List ℕ) → FileMap
changed files name f = update bytes_eq files name (option_map f (files name))

-- the map with the file of the first name under the second
abbrev pub moved : FileMap → List ℕ → List ℕ → FileMap
moved files from to = update bytes_eq (without files from) to (files from)

-- bytes with a piece written over them at a place
abbrev pub overwritten : List ℕ → ℕ → List ℕ → List ℕ
overwritten bytes place piece = take place bytes ++ piece ++ drop (place + length piece) bytes

-- the files of one block
abbrev pub part_of : ℕ → FileMap → FileMap
part_of block files = λ name. cond (is_of_block block name) (files name) None

-- the files of all other blocks, and those of none
abbrev pub rest_of : ℕ → FileMap → FileMap
rest_of block files = λ name. cond (is_of_block block name) None (files name)

-- the files of the second map beside those of the first
abbrev pub beside : FileMap → FileMap → FileMap
beside files more = λ name. option_or (more name) (files name)

-- both maps as one, where both are observable
abbrev pub both_observable : Option FileMap → Option FileMap → Option FileMap
both_observable files more = option_and_then (λ m. option_map (λ n. beside m n) more) files

-- Where the map is observable, it is now what the step makes of it; where it isn't, it stays so.
abbrev pub Becomes : Option FileMap → Option FileMap → (FileMap → FileMap) → Type 0
Becomes old new step = new ≡ option_map step old

-- Where observable, the file is there and has so many bytes.
abbrev pub HasLength : Option FileMap → List ℕ → ℕ → Type 0
HasLength files name len = IfSome files (λ m. option_map (λ bytes. length bytes) (m name) ≡ Some len)

-- Where observable, the file is there, and these are its bytes from a place on, so many at the most.
abbrev pub HasBytesAt : Option FileMap → List ℕ → ℕ → ℕ → List ℕ → Type 0
HasBytesAt files name place most bytes =
    IfSome files (λ m. option_map (λ b. take most (drop place b)) (m name) ≡ Some bytes)

-- Where observable and there, the place is within the file.
abbrev pub IsPlaceIn : Option FileMap → List ℕ → ℕ → Type 0
IsPlaceIn files name place = IfSome files (λ m. IfSome (m name) (λ bytes. place ≤ length bytes))

-- Where observable, the file is there with these bytes.
abbrev pub HasFile : Option FileMap → List ℕ → List ℕ → Type 0
HasFile files name bytes = IfSome files (λ m. m name ≡ Some bytes)

-- Where observable, each file is of this block.
abbrev pub OnlyOf : ℕ → Option FileMap → Type 0
OnlyOf block files = IfSome files (λ m. (name : List ℕ) → is_of_block block name ≡ false → m name ≡ None)

-- The names of a map's files, in ascending order.
pub record AreNamesOf (files : FileMap) (names : List (List ℕ)) : Type 0 where
  pub each : (name : List ℕ) → Contains names name ↔ IsSome (files name)
  pub ascending : AllPairs (λ a b. is_lt (slice_cmp nat_cmp a b) ≡ true) names

-- Each name has at least the room that it had. A room is a bound below which a length needs no memory; 0 is none.
abbrev pub KeepsRoom : (List ℕ → ℕ) → (List ℕ → ℕ) → Type 0
KeepsRoom old new = (name : List ℕ) → old name ≤ new name

-- The second name has at least the room that the first had, and each third name what it had.
pub record CarriesRoom (old new : List ℕ → ℕ) (from to : List ℕ) : Type 0 where
  pub carried : old from ≤ new to
  pub others : (name : List ℕ) → bytes_eq from name ≡ false → bytes_eq to name ≡ false → old name ≤ new name

-- Where observable, no file is longer than its name's room allows.
abbrev pub HasRoomForAll : Option FileMap → (List ℕ → ℕ) → Type 0
HasRoomForAll files room = IfSome files (λ m. (name : List ℕ) → IfSome (m name) (λ bytes. length bytes < room name))

-- Where both are observable, the files of other blocks are as they were.
abbrev pub KeepsOthers : ℕ → Option FileMap → Option FileMap → Type 0
KeepsOthers block old new =
    IfSome old (λ m. IfSome new (λ n. (name : List ℕ) → is_of_block block name ≡ false → n name ≡ m name))

-- which blocks are lent, with this one's mark set
abbrev pub marked : (ℕ → Bool) → ℕ → Bool → ℕ → Bool
marked marks block mark = λ b. cond (b == block) mark (marks b)

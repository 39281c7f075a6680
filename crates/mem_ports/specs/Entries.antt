-- What a list of entries says of files.
use Rattle.std.specs.Prelude.{ℕ, ◌+◌, ◌<◌, Bool, true, false, cond, List, [], ◌∷◌, map, filter, length, Option, Some, None, IfSome, vec_capacity}
use Rattle.std.specs.Str.{bytes_eq}
use Rattle.std.specs.List.{list_all}
use Rattle.hd_base.specs.Blocks.{is_of_block}
use Rattle.hd_base.specs.FileMaps.{FileMap}
use Rattle.mem_ports.specs.Apart.{all_apart}
use Rattle.mem_ports.specs.declared.entries.Entry.{Entry}
use Rattle.std.proofs.Common.{arith}

-- what an entry shows of its file
abbrev pub shown : Entry → Option (List ℕ)
shown entry = cond entry.there (Some entry.bytes.items) None

-- the files: the first entry of a name shows its file
abbrev pub look : List Entry → FileMap
look [] name = None
look (entry ∷ rest) name = cond (bytes_eq entry.name name) (shown entry) (look rest name)

-- the room of a name: one more than the length that its memory holds, and 0 without an entry
abbrev pub space : List Entry → List ℕ → ℕ
space [] name = 0
space (entry ∷ rest) name = cond (bytes_eq entry.name name) (vec_capacity entry.bytes + 1) (space rest name)

-- the names of all entries
abbrev pub names_of : List Entry → List (List ℕ)
names_of entries = map (λ entry. entry.name) entries

-- no name stands twice
abbrev pub names_apart : List Entry → Bool
names_apart entries = all_apart bytes_eq (names_of entries)

-- the names of the files
abbrev pub present : List Entry → List (List ℕ)
present [] = []
present (entry ∷ rest) = cond entry.there (entry.name ∷ present rest) (present rest)

-- each name is of this block
abbrev pub all_of_block : ℕ → List Entry → Bool
all_of_block block entries = list_all (λ entry. is_of_block block entry.name) entries

-- the entries whose names are of this block
abbrev pub of_block : ℕ → List Entry → List Entry
of_block block entries = filter (λ entry. is_of_block block entry.name) entries

-- an entry after a file got another name: the two names change places, and the second has no file
abbrev pub renamed : List ℕ → List ℕ → Entry → Entry
renamed from to entry =
    cond (bytes_eq entry.name from) (record entry { name = to })
    (cond (bytes_eq entry.name to) (record entry { name = from; there = false }) entry)

fits_shown : (entry : Entry) (there : Bool) →
    IfSome (cond there (Some entry.bytes.items) None) (λ b. length b < vec_capacity entry.bytes + 1)
fits_shown entry true = omega (arith, entry.bytes.ok)
fits_shown entry false = tt

-- A file is no longer than its name's room allows.
pub look-fits : (entries : List Entry) (name : List ℕ) → IfSome (look entries name) (λ b. length b < space entries name)
look-fits [] name = tt
look-fits (entry ∷ rest) name =
    elim (bytes_eq entry.name name) as
    (λ here. IfSome (cond here (shown entry) (look rest name))
    (λ b. length b < cond here (vec_capacity entry.bytes + 1) (space rest name))) [
      | true ↦ fits_shown entry entry.there
      | false ↦ look-fits rest name
    ]

-- What a list of slots says of a node's files.
use Rattle.std.specs.Prelude.{◌==◌, ℕ, Bool, false, cond, List, [], ◌∷◌, ◌++◌, map, None}
use Rattle.hd_base.specs.Blocks.{is_of_block}
use Rattle.hd_base.specs.FileMaps.{FileMap}
use Rattle.mem_ports.specs.Apart.{all_apart}
use Rattle.mem_ports.specs.Entries.{look, present}
use Rattle.mem_ports.specs.declared.slots.Slot.{Slot}

-- the files: a name's block gives its slot
abbrev pub files_of : List Slot → FileMap
files_of [] name = None
files_of (slot ∷ rest) name = cond (is_of_block slot.block.0 name) (look slot.table.entries.items name)
    (files_of rest name)

-- which blocks are lent
abbrev pub lent_of : List Slot → ℕ → Bool
lent_of [] block = false
lent_of (slot ∷ rest) block = cond (block == slot.block.0) slot.lent (lent_of rest block)

-- no block has two slots
abbrev pub blocks_apart : List Slot → Bool
blocks_apart slots = all_apart ◌==◌ (map (λ slot. slot.block.0) slots)

-- the names of the files in all slots
abbrev pub present_in : List Slot → List (List ℕ)
present_in [] = []
present_in (slot ∷ rest) = present slot.table.entries.items ++ present_in rest

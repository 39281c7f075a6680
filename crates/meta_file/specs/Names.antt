-- The names of replica files.
use Rattle.std.specs.Prelude.{◌==◌, ℕ, ◌/◌, ◌%◌, ◌^◌, ◌<◌, if◌then◌else◌, List, [], ◌∷◌, ◌++◌, drop, Option, Some, None, option_map, option_and_then, codes, decimal, nat_eq, bytes_eq}
use Rattle.std.specs.List.{starts_with}
use Rattle.hd_base.specs.Blocks.{number_at, base_of, block_pool}
use Rattle.meta_file.specs.declared.names.Folder.{Folder}
use Rattle.meta_file.specs.declared.names.Folder.TheVariants.{Rbw, Finalized, Finalized56, Tmp}
use Rattle.meta_file.specs.declared.names.Named.{Named}
use Rattle.meta_file.specs.declared.names.Named.TheVariants.{Body, Sums}

-- how the names of each folder begin
abbrev pub front_of : Folder → List ℕ
front_of Rbw = codes "current/" ++ (block_pool ++ codes "/current/rbw/")
front_of Finalized = codes "current/" ++ (block_pool ++ codes "/current/finalized/subdir")
front_of Finalized56 = codes "current/" ++ (block_pool ++ codes "/current/finalized/subdir")
front_of Tmp = codes "current/" ++ (block_pool ++ codes "/tmp/")

-- The subfolders of a finalized replica, of which each folder has so many: the bits of the block's number from the sixteenth on,
-- and those from the eighth on.
abbrev pub subfolders : ℕ → ℕ → List ℕ
subfolders count block =
    decimal (block / 2 ^ 16 % count) ++ (codes "/subdir" ++ (decimal (block / 2 ^ 8 % count) ++ codes "/"))

-- the path of a block's files in a folder, with its last slash: layout -57 has 32 subfolders, layout -56 has 256
abbrev pub path_of : Folder → ℕ → List ℕ
path_of Rbw block = front_of Rbw
path_of Finalized block = front_of Finalized ++ subfolders 32 block
path_of Finalized56 block = front_of Finalized56 ++ subfolders 256 block
path_of Tmp block = front_of Tmp

-- the data file's name within its folder
abbrev pub data_base : ℕ → List ℕ
data_base block = codes "blk_" ++ decimal block

-- the metadata file's name within its folder
abbrev pub meta_base : ℕ → ℕ → List ℕ
meta_base block stamp = codes "blk_" ++ (decimal block ++ (codes "_" ++ (decimal stamp ++ codes ".meta")))

-- the name that a block, a folder and perhaps a stamp print to
abbrev pub printed : Named → List ℕ
printed (Body block folder) = path_of folder block.0 ++ data_base block.0
printed (Sums block stamp folder) = path_of folder block.0 ++ meta_base block.0 stamp.0

-- Its numbers have 64 bits.
abbrev pub IsNamed : Named → Type 0
IsNamed (Body block folder) = block.0 < 2 ^ 64
IsNamed (Sums block stamp folder) = (block.0 < 2 ^ 64) × (stamp.0 < 2 ^ 64)

-- the folder in layout -57
abbrev pub present_folder : Folder → Folder
present_folder Rbw = Rbw
present_folder Finalized = Finalized
present_folder Finalized56 = Finalized
present_folder Tmp = Tmp

-- the folder in layout -56
abbrev pub older_folder : Folder → Folder
older_folder Rbw = Rbw
older_folder Finalized = Finalized56
older_folder Finalized56 = Finalized56
older_folder Tmp = Tmp

-- the same in the folder of layout -57
abbrev pub in_present_layout : Named → Named
in_present_layout (Body block folder) = Body block (present_folder folder)
in_present_layout (Sums block stamp folder) = Sums block stamp (present_folder folder)

-- the same in the folder of layout -56
abbrev pub in_older_layout : Named → Named
in_older_layout (Body block folder) = Body block (older_folder folder)
in_older_layout (Sums block stamp folder) = Sums block stamp (older_folder folder)

-- how its name is read: in the folder of layout -57, where that prints to the same name
abbrev pub as_read : Named → Named
as_read named = if bytes_eq (printed (in_present_layout named)) (printed named) then in_present_layout named else named

-- the folder that a name begins with, of those of layout -57
unfoldable pub folder_of : List ℕ → Option Folder
folder_of name =
    if starts_with nat_eq name (front_of Rbw) then Some Rbw
    else (if starts_with nat_eq name (front_of Finalized) then Some Finalized
    else (if starts_with nat_eq name (front_of Tmp) then Some Tmp else None))

-- a metadata file's stamp, where the end of its name follows
abbrev pub stamp_of : Option (ℕ × List ℕ) → Option ℕ
stamp_of None = None
stamp_of (Some (stamp, rest)) = if bytes_eq rest (codes ".meta") then Some stamp else None

-- what a block's number and the rest of a name say, in a folder
abbrev pub named_by : Folder → ℕ → List ℕ → Option Named
named_by folder block [] = Some (Body (record { 0 = block }) folder)
named_by folder block (c ∷ rest) =
    if c == 95 then option_map (λ stamp. Sums (record { 0 = block }) (record { 0 = stamp }) folder)
    (stamp_of (number_at rest)) else None

-- what the last part of a path says, in a folder
unfoldable pub named_in : Folder → List ℕ → Option Named
named_in folder base =
    if starts_with nat_eq base (codes "blk_")
    then option_and_then (λ x. named_by folder x.0 x.1) (number_at (drop 4 base)) else None

-- what a name says in the folders of layout -57, if any replica file's name is like it
unfoldable pub candidate_of : List ℕ → Option Named
candidate_of name = option_and_then (λ folder. named_in folder (base_of name)) (folder_of name)

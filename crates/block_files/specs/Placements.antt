-- Where the two files of a block lie, and under which names.
use Rattle.std.specs.Prelude.{ℕ, cond, List, ◌++◌, Some, None, bytes_eq}
use Rattle.hd_base.specs.FileMaps.{FileMap, no_files}
use Rattle.meta_file.specs.declared.names.Folder.{Folder}
use Rattle.meta_file.specs.Names.{path_of, data_base, meta_base}

-- the name of a block's data file in a folder
unfoldable pub data_name : Folder → ℕ → List ℕ
data_name folder block = path_of folder block ++ data_base block

-- the name of a block's metadata file in a folder, under a stamp
unfoldable pub meta_name : Folder → ℕ → ℕ → List ℕ
meta_name folder stamp block = path_of folder block ++ meta_base block stamp

-- Where the files of a block lie: none is there; the data file alone, as between the two calls that make them; or both, each in a folder, the metadata file under a stamp.
pub data Placement : Type 0 where
  Nowhere : Placement
  DataAlone : (folder : Folder) → (bytes : List ℕ) → Placement
  Both : (folder : Folder) → (bytes : List ℕ) → (meta_folder : Folder) → (stamp : ℕ) → (meta : List ℕ) → Placement

-- the files of a block that lie there, and no others
abbrev pub files_of : ℕ → Placement → FileMap
files_of block Nowhere = no_files
files_of block (DataAlone folder bytes) = λ name. cond (bytes_eq (data_name folder block) name) (Some bytes) None
files_of block (Both folder bytes meta_folder stamp meta) = λ name.
    cond (bytes_eq (data_name folder block) name) (Some bytes)
    (cond (bytes_eq (meta_name meta_folder stamp block) name) (Some meta) None)

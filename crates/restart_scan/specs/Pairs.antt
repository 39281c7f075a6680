-- The two files of a replica among those of its block.
use Rattle.std.specs.Prelude.{ℕ, ◌≡◌, ◌<◌, ◌^◌, ◌⊎◌, cond, not, Bool, List, [], ◌∷◌, ◌++◌, filter, ◌==◌, if◌then◌else◌, Option, Some, None, nat_eq}
use Rattle.std.specs.List.{starts_with}
use Rattle.hd_base.specs.FileMaps.{FileMap}
use Rattle.hd_base.specs.SumRules.{Rule, IsChunkSize}
use Rattle.hd_base.specs.declared.numbers.BlockId.{BlockId}
use Rattle.meta_file.specs.declared.names.Folder.{Folder}
use Rattle.meta_file.specs.declared.names.Folder.TheVariants.{Tmp}
use Rattle.hd_base.specs.declared.numbers.Stamp.{Stamp}
use Rattle.meta_file.specs.declared.names.Named.{Named}
use Rattle.meta_file.specs.declared.names.Named.TheVariants.{Body, Sums}
use Rattle.meta_file.specs.Names.{front_of, as_read}
use Rattle.meta_file.specs.Headers.{header_of}
use Rattle.block_files.specs.Placements.{Placement, Both, data_name, meta_name, files_of}
use Rattle.replica_calls.specs.declared.names.FileNames.{FileNames}
use Rattle.restart_scan.specs.declared.pairs.PairPlaces.{PairPlaces}

-- The file lies in tmp.
unfoldable pub is_temporary : List ℕ → Bool
is_temporary name = starts_with nat_eq name (front_of Tmp)

-- the files apart from those in tmp
abbrev pub without_temporary : FileMap → FileMap
without_temporary files = λ name. cond (is_temporary name) None (files name)

-- the files in tmp
abbrev pub temporary_part : FileMap → FileMap
temporary_part files = λ name. cond (is_temporary name) (files name) None

-- the names of the files apart from those in tmp
abbrev pub not_temporary : List (List ℕ) → List (List ℕ)
not_temporary names = filter (λ name. not (is_temporary name)) names

-- the names of a pair's files
abbrev pub pair_names : ℕ → PairPlaces → FileNames
pair_names block x = record { «data» = data_name x.folder block; meta = meta_name x.meta_folder x.stamp.0 block }

-- the folder of a data file of this block
abbrev pub body_in : BlockId → Named → Option Folder
body_in block (Body b folder) = if b.0 == block.0 then Some folder else None
body_in block (Sums b stamp folder) = None

-- the folder and the stamp of a metadata file of this block
abbrev pub sums_in : BlockId → Named → Option (Folder × Stamp)
sums_in block (Body b folder) = None
sums_in block (Sums b stamp folder) = if b.0 == block.0 then Some (folder, stamp) else None

-- This is the name of a block's data file in this folder, which is that of layout -57 where both layouts give one name.
pub record IsBodyAt (block : BlockId) (name : List ℕ) (folder : Folder) : Type 0 where
  pub named : name ≡ data_name folder block.0
  pub read : as_read (Body block folder) ≡ Body block folder

-- The same of a metadata file under this stamp.
pub record IsSumsAt (block : BlockId) (name : List ℕ) (x : Folder × Stamp) : Type 0 where
  pub stamp_fits : x.1.0 < 2 ^ 64
  pub named : name ≡ meta_name x.0 x.1.0 block.0
  pub read : as_read (Sums block x.1 x.0) ≡ Sums block x.1 x.0

-- These are the names of a block's data file and of its metadata file at these places.
pub record AreAt (block : BlockId) (body meta : List ℕ) (x : PairPlaces) : Type 0 where
  pub body_at : IsBodyAt block body x.folder
  pub sums_at : IsSumsAt block meta (x.meta_folder, x.stamp)

-- what is found has this property, and where nothing is found, nothing has it
abbrev pub Finds : {A : Type 0} → (A → Type 0) → Option A → Type 0
Finds {A} P None = (x : A) → P x → ⊥
Finds P (Some x) = P x

abbrev pub ReadsBody : BlockId → List ℕ → Option Folder → Type 0
ReadsBody block name found = Finds (IsBodyAt block name) found

abbrev pub ReadsSums : BlockId → List ℕ → Option (Folder × Stamp) → Type 0
ReadsSums block name found = Finds (IsSumsAt block name) found

abbrev pub ReadsBoth : BlockId → List ℕ → List ℕ → Option PairPlaces → Type 0
ReadsBoth block body meta found = Finds (AreAt block body meta) found

-- The names are those of a pair's two files at these places alone.
abbrev pub ArePair : BlockId → List (List ℕ) → PairPlaces → Type 0
ArePair block names x = (a : List ℕ) × (b : List ℕ) × AreAt block a b x × ((names ≡ a ∷ b ∷ []) ⊎ (names ≡ b ∷ a ∷ []))

abbrev pub ReadsPair : BlockId → List (List ℕ) → Option PairPlaces → Type 0
ReadsPair block names found = Finds (ArePair block names) found

-- A pair: where its files lie, the rule that the header says, the data, and what is stored behind the header.
pub record Pair : Type 0 where
  pub places : PairPlaces
  pub rule : Rule
  pub bytes : List ℕ
  pub stored : List ℕ

-- where the files of a pair lie
abbrev pub placement_of : Pair → Placement
placement_of p = Both p.places.folder p.bytes p.places.meta_folder p.places.stamp.0 (header_of p.rule ++ p.stored)

-- A block has a pair: apart from files in tmp it has just one data file and one metadata file, with a good header.
pub record IsPair (block : BlockId) (files : FileMap) (p : Pair) : Type 0 where
  pub files_are : without_temporary files ≡ files_of block.0 (placement_of p)
  pub chunk_fits : IsChunkSize p.rule.chunk
  pub places_are : AreAt block (data_name p.places.folder block.0) (meta_name p.places.meta_folder p.places.stamp.0 block.0) p.places

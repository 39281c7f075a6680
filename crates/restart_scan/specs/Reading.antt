-- A pair of files that is read.
use Rattle.std.specs.Prelude.{ℕ, ◌≡◌, ◌+◌, ◌==◌, ◌&&◌, Bool, List, ◌++◌, length, take, Option, Some, None}
use Rattle.hd_base.specs.SumRules.{Rule, IsChunkSize}
use Rattle.hd_base.specs.FileMaps.{FileMap}
use Rattle.hd_base.specs.Calls.{Call}
use Rattle.hd_base.specs.declared.numbers.BlockId.{BlockId}
use Rattle.hd_base.specs.declared.states.ReplicaState.{ReplicaState}
use Rattle.meta_file.specs.Headers.{header_of}
use Rattle.replica_model.specs.Sums.{meta_len}
use Rattle.replica_model.specs.Plans.{folder_of}
use Rattle.restart_scan.specs.declared.pairs.PairPlaces.{PairPlaces}
use Rattle.restart_scan.specs.declared.reading.ReadPair.{ReadPair}
use Rattle.restart_scan.specs.declared.settling.PairNames.{PairNames}
use Rattle.restart_scan.specs.declared.found.Scanned.{Scanned}
use Rattle.restart_scan.specs.Pairs.{Pair, IsPair, pair_names}
use Rattle.restart_scan.specs.Kept.{IsKept}
use Rattle.restart_scan.specs.Blocks.{both_final, is_moved, layout_places, last_places, state_when, move_list, cut_list}

-- A metadata file begins with the header of this rule.
pub record IsRuleOf (meta : List ℕ) (r : Rule) : Type 0 where
  pub chunk_fits : IsChunkSize r.chunk
  pub front : take 7 meta ≡ header_of r

-- What was read of a data file and a metadata file at these places.
pub record IsReadOf (places : PairPlaces) (bytes meta : List ℕ) (x : ReadPair) : Type 0 where
  pub at : x.places ≡ places
  pub chunk_fits : IsChunkSize x.rule.chunk
  pub stored : List ℕ
  pub meta_is : meta ≡ header_of x.rule ++ stored
  pub all_data : x.data_len ≡ length bytes
  pub all_meta : x.meta_len ≡ length meta
  pub kept_is : IsKept x.rule bytes stored x.kept

-- It is read where the metadata file begins with a rule's header.
abbrev pub ReadsFiles : PairPlaces → List ℕ → List ℕ → Option ReadPair → Type 0
ReadsFiles places bytes meta None = (r : Rule) → IsRuleOf meta r → ⊥
ReadsFiles places bytes meta (Some x) = IsReadOf places bytes meta x

-- What was read of a block's pair.
pub record IsReadPair (block : BlockId) (m : FileMap) (x : ReadPair) : Type 0 where
  pub pair : Pair
  pub is_pair : IsPair block m pair
  pub at : x.places ≡ pair.places
  pub rule_is : x.rule ≡ pair.rule
  pub all_data : x.data_len ≡ length pair.bytes
  pub all_meta : x.meta_len ≡ 7 + length pair.stored
  pub kept_is : IsKept pair.rule pair.bytes pair.stored x.kept

-- A block's pair is read, where there is one.
abbrev pub ReadsBlock : BlockId → FileMap → Option ReadPair → Type 0
ReadsBlock block m None = (p : Pair) → IsPair block m p → ⊥
ReadsBlock block m (Some x) = IsReadPair block m x

-- all bytes are kept, and the metadata file has just their sums
abbrev pub is_read_whole : ReadPair → Bool
is_read_whole x = x.kept == x.data_len && x.meta_len == meta_len x.rule x.data_len

-- the state of a pair that was read
abbrev pub read_state : ReadPair → ReplicaState
read_state x = state_when (both_final x.places && is_read_whole x)

-- the calls that settle it
abbrev pub settle_list : PairNames → ReadPair → List Call
settle_list names x =
    move_list names.first names.layout x.places (layout_places x.places)
    ++ (move_list names.layout names.last (layout_places x.places) (last_places (read_state x) x.places)
    ++ cut_list names.last x.rule x.data_len x.meta_len x.kept)

-- the names of a pair's files, where they lie at first, in layout -57, and at last
abbrev pub names_of : ℕ → ReadPair → PairNames
names_of block x = record {
  first = pair_names block x.places;
  layout = pair_names block (layout_places x.places);
  last = pair_names block (last_places (read_state x) x.places);
}

-- what is found of a pair that was read
abbrev pub read_scanned : BlockId → ReadPair → Scanned
read_scanned block x = record {
  seen = Some (record {
    block = block;
    folder = folder_of (read_state x);
    state = read_state x;
    stamp = x.places.stamp;
    sums = x.rule;
    length = x.kept;
  });
  is_moved = is_moved x.places;
}

-- How books stand before a restart.
use Rattle.std.proofs.Common.{◌≡◌, Option, Some, None, IfSome, refl, sym, ap, subst, ◌∙◌}
use Rattle.hd_base.specs.FileMaps.{FileMap, no_files}
use Rattle.hd_base.specs.declared.files.Files as files
use Rattle.hd_base.specs.declared.numbers.BlockId.{BlockId}
use Rattle.replica_model.specs.Rows.{FullReplica}
use Rattle.restart_scan.specs.Pairs.{Pair, IsPair, without_temporary}
use Rattle.restart_scan.proofs.RestartLemmas.{failed_calls_are_found}
use Rattle.restart_scan.proofs.WholeLemmas.{nothing_there}
use Rattle.node_opening.specs.Closing.{block_of}
use Rattle.node_opening.proofs.LendLemmas.{new_replica}
use Rattle.node_restarts.specs.Laws.{NewBooksAreUnbroken, FailedBooksAreBroken}
use Rattle.node_restarts.specs.Restarting.{HasNoPair}
use Rattle.node_restarts.proofs.ScannedLemmas.{without_none}

-- Among no files there is no pair.
no_pairs : (o : Option FileMap) (b : BlockId) → IfSome o (λ m. m ≡ no_files) → IfSome o (λ m. (p : Pair) → IsPair b m p → ⊥)
no_pairs None b h = tt
no_pairs (Some m) b h = nothing_there b m (ap without_temporary h ∙ without_none)

pub new_unbroken : {D : Type 0} (d : files.Ghosts D) → NewBooksAreUnbroken d
new_unbroken d x block n none =
    let is = new_replica x block x.drawer n in
    record {
      whole = ap (λ (r : FullReplica). r.known.is_broken) is;
      no_pair = subst (λ (r : FullReplica). HasNoPair d x r.known.info) (sym is) (no_pairs (d.files x.drawer) (block_of x) none);
    }

pub failed_broken : {D : Type 0} (d : files.Ghosts D) → FailedBooksAreBroken d
failed_broken d old new e receipt ruled book ends = record {
  before = old;
  of_block = sym ends.noted.block ∙ sym book.held.of_block;
  was = refl;
  leaves = failed_calls_are_found d old new e receipt ruled.is_book ruled.with_bytes ruled.numbers ruled.later ruled.no_strays ends;
}

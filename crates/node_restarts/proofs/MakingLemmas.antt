-- Books of what was found.
use Rattle.std.proofs.Common.{◌≡◌, ◌⊎◌, inl, inr, ℕ, List, length, Option, Some, None, IfSome, refl, sym, ap, subst, ◌∙◌}
use Rattle.hd_base.specs.Faults.{FaultsIncreased}
use Rattle.hd_base.specs.FileMaps.{FileMap}
use Rattle.hd_base.specs.SumRules.{Rule}
use Rattle.hd_base.specs.declared.files.Files as files
use Rattle.hd_base.specs.declared.numbers.BlockId.{BlockId}
use Rattle.hd_base.specs.declared.numbers.Stamp.{Stamp}
use Rattle.hd_base.specs.declared.states.ReplicaState.{ReplicaState}
use Rattle.hd_base.specs.declared.states.ReplicaState.TheVariants as state
use Rattle.block_files.specs.Placements.{data_name, meta_name}
use Rattle.replica_model.specs.Found.{Found, settled_state}
use Rattle.replica_model.specs.Histories.{begun, replay}
use Rattle.replica_model.specs.Plans.{folder_of}
use Rattle.replica_model.specs.Sums.{meta_of}
use Rattle.replica_model.specs.declared.histories.Entry.{Entry}
use Rattle.replica_model.specs.declared.histories.Start.{Start}
use Rattle.replica_model.specs.declared.histories.Start.TheVariants as start
use Rattle.replica_files.specs.declared.book_state.BookState.{BookState}
use Rattle.replica_files.specs.declared.faults.FoundFault.{FoundFault}
use Rattle.replica_files.specs.declared.faults.FoundFault.TheVariants as found_fault
use Rattle.replica_files.specs.Endings.{IsNew}
use Rattle.replica_files.specs.Finding.{HoldsBytes, HoldsFound, IsFound, GivesBack}
use Rattle.restart_scan.specs.declared.found.Seen.{Seen}
use Rattle.restart_scan.specs.Restarts.{Shows}
use Rattle.restart_scan.proofs.WholeLemmas.{first_there}
use Rattle.node_opening.proofs.LendLemmas.{new_replica}
use Rattle.node_restarts.specs.declared.faults.RestartFault.{RestartFault}
use Rattle.node_restarts.specs.Faults.{of_found, HasRestartCause}
use Rattle.node_restarts.specs.Making.{HoldsSeen, IsBookFor, ComesBack}

-- STATES

pub settled_is : (at : ReplicaState) → (settled_state at ≡ state.Finalized) ⊎ (settled_state at ≡ state.Rwr)
settled_is state.Finalized = inl refl
settled_is state.Rbw = inr refl
settled_is state.Rwr = inr refl
settled_is state.Rur = inr refl
settled_is state.Temporary = inr refl

-- A state in which replicas are found stays.
pub settled_same : (at : ReplicaState) → (at ≡ state.Finalized) ⊎ (at ≡ state.Rwr) → at ≡ settled_state at
settled_same at (inl e) = e ∙ sym (ap settled_state e)
settled_same at (inr e) = e ∙ sym (ap settled_state e)

-- FILES

some_bytes : (x y : List ℕ) → ◌≡◌ {A = Option (List ℕ)} (Some x) (Some y) → x ≡ y
some_bytes x y e = cc

-- Files that hold a replica hold it with these bytes alone.
pub same_bytes : (m : FileMap) (block : BlockId) (at : ReplicaState) (stamp : Stamp) (rule : Rule) (x y : List ℕ) → HoldsBytes m block at stamp rule x → HoldsBytes m block at stamp rule y → x ≡ y
same_bytes m block at stamp rule x y h k =
    let name = data_name (folder_of at) block.0 in
    let meta = meta_name (folder_of at) stamp.0 block.0 in
    some_bytes x y (sym (first_there name x meta (meta_of rule x)) ∙ (ap (λ (f : FileMap). f name) (sym h ∙ k) ∙ first_there name y meta (meta_of rule y)))

-- The files hold what was found in its settled state.
pub holds_settled : (files : Option FileMap) (block : BlockId) (seen : Seen) → HoldsSeen files block (Some seen) → HoldsFound files block (settled_state seen.state) seen.stamp seen.sums
holds_settled None block seen h = tt
holds_settled (Some m) block seen h = (
  h.held.bytes,
  subst (λ (q : ReplicaState). HoldsBytes m block q seen.stamp seen.sums h.held.bytes) (settled_same seen.state h.held.settled)
      (subst (λ (q : BlockId). HoldsBytes m q seen.state seen.stamp seen.sums h.held.bytes) h.of_block h.held.held),
)

-- BOOKS

shows_none : (files : Option FileMap) → IfSome files (λ m. Shows m None None)
shows_none None = tt
shows_none (Some m) = tt

pub absent_for : {D : Type 0} (d : files.Ghosts D) (block : BlockId) (drawer : D) (x : BookState D) → IsNew x block drawer → IsBookFor d block None (d.files drawer) x
absent_for d block drawer x n = record {
  found = None;
  is = new_replica x block drawer n;
  shows = shows_none (d.files drawer);
  files_are = ap d.files n.with_drawer;
}

-- what was found, with these bytes
abbrev found_with : Seen → List ℕ → Found
found_with seen bytes = record { state = settled_state seen.state; stamp = seen.stamp; sums = seen.sums; bytes = bytes }

shows_found : (files : Option FileMap) (block : BlockId) (seen : Seen) (bytes : List ℕ) → HoldsSeen files block (Some seen) → IfSome files (λ m. HoldsBytes m block (settled_state seen.state) seen.stamp seen.sums bytes)
    → IfSome files (λ m. Shows m (Some seen) (Some (found_with seen bytes)))
shows_found None block seen bytes h k = tt
shows_found (Some m) block seen bytes h k =
    let same : seen.state ≡ settled_state seen.state = settled_same seen.state h.held.settled in
    let holds = subst (λ (q : BlockId). HoldsBytes m q (settled_state seen.state) seen.stamp seen.sums bytes) (sym h.of_block) k in
    let held = subst (λ (q : ReplicaState). HoldsBytes m seen.block q seen.stamp seen.sums h.held.bytes) same h.held.held in
    record {
      state = same;
      stamp = refl;
      sums = refl;
      all = h.held.all ∙ ap length (same_bytes m seen.block (settled_state seen.state) seen.stamp seen.sums h.held.bytes bytes held holds);
      held = subst (λ (q : ReplicaState). HoldsBytes m seen.block q seen.stamp seen.sums bytes) (sym same) holds;
    }

pub found_for : {D : Type 0} (d : files.Ghosts D) (block : BlockId) (seen : Seen) (drawer : D) (x : BookState D) → HoldsSeen (d.files drawer) block (Some seen) → IsFound d x block (settled_state seen.state) seen.stamp seen.sums drawer
    → IsBookFor d block (Some seen) (d.files drawer) x
found_for d block seen drawer x h f = record {
  found = Some (found_with seen f.bytes);
  is = ap (λ (es : List Entry). replay (begun x.block x.history.start) es) f.entries
      ∙ (ap (λ (s : Start). begun x.block s) f.start ∙ ap (λ (b : BlockId). begun b (start.Found (settled_state seen.state) seen.stamp seen.sums f.bytes)) f.of_block);
  shows = shows_found (d.files drawer) block seen f.bytes h f.held;
  files_are = f.files;
}

-- DRAWERS THAT COME BACK

found_caused : (before now : ℕ) (why : FoundFault) → (why ≡ found_fault.File → FaultsIncreased before now) → HasRestartCause before now (of_found why)
found_caused before now found_fault.File h = h refl
found_caused before now found_fault.Memory h = tt

pub found_back : {D : Type 0} (d : files.Ghosts D) (old new : D) (why : FoundFault) (fault : RestartFault) → GivesBack d old new why → fault ≡ of_found why → ComesBack d old new fault
found_back d old new why fault g e = record {
  files = g.files;
  cause = subst (HasRestartCause (d.faults old) (d.faults new)) (sym e) (found_caused (d.faults old) (d.faults new) why g.file);
}

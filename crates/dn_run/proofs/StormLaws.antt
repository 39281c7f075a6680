-- What is so of a storm, by what is so of the play of its script.
use Rattle.std.proofs.Common.{◌≡◌, ◌≤◌, ◌<◌, ℕ, Bool, true, List, Option, Some, None, IfSome, Ok, take, slice_get, inl, inr, refl, sym, ap, subst, ◌∙◌, arith}
use Rattle.std.proofs.lemmas.Option.{same_Some, slice_get_within}
use Rattle.std.proofs.lemmas.List.{length-take}
use Rattle.hd_base.specs.declared.files.Files as files
use Rattle.hd_base.specs.declared.roads.Roads as roads
use Rattle.hd_base.specs.declared.shelves.Shelf as shelves
use Rattle.hd_base.specs.declared.streams.Sink as sinks
use Rattle.hd_base.specs.declared.numbers.NodeId.{NodeId}
use Rattle.script_lang.specs.declared.faults.BadKind.TheVariants as kind
use Rattle.script_lang.specs.Storms.{storm}
use Rattle.whole_play.specs.NodeOpening.Emptiness.{ShelfOf, HasFirstFile}
use Rattle.whole_play.proofs.NodeOpening.ListLemmas.{get_longer, get_take, get_within}
use Rattle.whole_play.specs.PlayScripts.Fitting.{ScriptFits}
use Rattle.whole_play.specs.PlayScripts.Head.{Head}
use Rattle.whole_play.specs.PlayScripts.Heads.{head_of}
use Rattle.whole_play.specs.PlayScripts.Unplayed.{first_unplayed}
use Rattle.whole_play.specs.declared.faults.RunFault.{RunFault}
use Rattle.whole_play.specs.declared.faults.RunFault.TheVariants as fault
use Rattle.whole_play.specs.Playing.{LeavesShelves, HasCause, HasUsedCause}
use Rattle.dn_run.specs.declared.exits.Exit.{Exit}
use Rattle.dn_run.specs.declared.exits.Exit.TheVariants as exit
use Rattle.dn_run.specs.Exits.{run_exit}
use Rattle.dn_run.specs.Runs.{KeepsShelves}
use Rattle.dn_run.proofs.RunLaws.{keeps_all}
use Rattle.dn_run.specs.Storming.{storm_nodes, CanStorm, RefusesStorm, IsStormFault, StormsKeep, WritesSummary, RunsStorm}
use Rattle.dn_run.specs.Tasks.{UsageFor}
use Rattle.dn_run.specs.declared.tasks.Task.{Task}
use Rattle.storm_summary.specs.declared.summaries.Summary.{Summary}

-- REFUSALS

module _ (tells : Bool) (shelves number : ℕ) where
  pub few_refused : shelves < storm_nodes → RefusesStorm tells shelves number (exit.BadScript 1 kind.TooManyNodes)
  few_refused few line why (inl h) = inl (ap (λ (l : ℕ). exit.BadScript l kind.TooManyNodes) (sym h.1) ∙ ap (exit.BadScript line) (sym h.2))
  few_refused few line why (inr h) = absurd (omega (arith, few, h.0))

  pub unplayed_refused : storm_nodes ≤ shelves → (at : ℕ) → first_unplayed tells (storm number) ≡ Some at → RefusesStorm tells shelves number (exit.BadScript at kind.Word)
  unplayed_refused enough at first line why (inl h) = absurd (omega (arith, enough, h.0))
  unplayed_refused enough at first line why (inr h) =
      inl (ap (λ (l : ℕ). exit.BadScript l kind.Word) (same_Some at line (sym first ∙ h.1)) ∙ ap (exit.BadScript line) (sym h.2))

  pub memory_refused : RefusesStorm tells shelves number exit.Memory
  memory_refused line why h = inr refl

  pub can_storm : storm_nodes ≤ shelves → first_unplayed tells (storm number) ≡ None → CanStorm tells shelves number
  can_storm enough none line why (inl h) = absurd (omega (arith, enough, h.0))
  can_storm enough none line why (inr h) = no_line (sym none ∙ h.1)
    where
      no_line : ◌≡◌ {A = Option ℕ} None (Some line) → ⊥
      no_line e = cc

  pub unrefused : (ended : Exit) → CanStorm tells shelves number → RefusesStorm tells shelves number ended
  unrefused ended can line why h = absurd (can line why h)

-- SHELVES THAT WEREN'T TOUCHED

pub storm_stays : {S D : Type 0} (s : shelves.Ghosts S D) (xs : List S) → StormsKeep s xs xs
storm_stays s xs = record { lent = kept.lent; others = λ k within. refl }
  where
    kept : KeepsShelves true s None xs xs
    kept = keeps_all s true None xs

-- THE HEAD

-- A storm has at most five nodes.
module _ (fit : (shelves number : ℕ) → storm_nodes ≤ shelves → ScriptFits shelves (storm number)) (number : ℕ) where
  abbrev fits : ScriptFits storm_nodes (storm number)
  fits = fit storm_nodes number (omega arith)

  abbrev head : Head
  head = record { nodes = fits.nodes; seed = fits.seed }

  is : head_of (storm number) ≡ Some head
  is = ap head_of fits.parts

  pub few_nodes : (other : Head) → head_of (storm number) ≡ Some other → other.nodes ≤ storm_nodes
  few_nodes other so = subst (λ (h : Head). h.nodes ≤ storm_nodes) (same_Some head other (sym is ∙ so)) fits.shelved

  -- SHELVES

  pub storm_keeps : {S D : Type 0} (s : shelves.Ghosts S D) (old new : List S) → IfSome (head_of (storm number)) (LeavesShelves s old new) → StormsKeep s old new
  storm_keeps s old new leaves = record { lent = here.lent; others = λ k within. here.others k (omega (arith, fits.shelved, within)) }
    where
      here : LeavesShelves s old new head
      here = subst (λ (h : Option Head). IfSome h (LeavesShelves s old new)) is leaves

  -- FAULTS

  more : {S : Type 0} (P : S → S → Type 0) (old new : List S) (node : ℕ) → ShelfOf P (take head.nodes old) (take head.nodes new) node → ShelfOf P (take storm_nodes old) (take storm_nodes new) node
  more P old new node h = record {
    before = h.before;
    after = h.after;
    was = get_longer old head.nodes storm_nodes node h.before fits.shelved h.was;
    is = get_longer new head.nodes storm_nodes node h.after fits.shelved h.is;
    so = h.so;
  }

  first_file : {S D : Type 0} (s : shelves.Ghosts S D) (old new : List S) (node : NodeId) (name : List ℕ) → HasFirstFile s (take head.nodes old) (take head.nodes new) node name → HasFirstFile s (take storm_nodes old) (take storm_nodes new) node name
  first_file s old new node name h = record {
    here = more _ old new node.0 h.here;
    empty = λ k a before at. h.empty k a before (within k before ∙ (get_take old storm_nodes k a at));
  }
    where
      shorter : node.0 < head.nodes
      shorter = omega (arith, slice_get_within (take head.nodes old) node.0 h.here.before h.here.was, length-take head.nodes old)

      within : (k : ℕ) → k < node.0 → slice_get (take head.nodes old) k ≡ slice_get old k
      within k before = get_within old head.nodes k (omega (arith, shorter, before))

  pub storm_fault : (tells : Bool) {S D R L M : Type 0} (s : shelves.Ghosts S D) (r : roads.Ghosts R L M) (old new : List S) (road road' : R) (why : RunFault) → HasUsedCause s r (storm number) old new road road' why → IsStormFault tells s r number old new road road' (run_exit why)
  storm_fault tells s r old new road road' why cause = by why (cause head is)
    where
      by : (w : RunFault) → HasCause s r (take head.nodes old) (take head.nodes new) road road' w → IsStormFault tells s r number old new road road' (run_exit w)
      by fault.RoadFault c = c
      by (fault.ShelfFault node) c = more _ old new node.0 c
      by (fault.NotEmpty node name) c = first_file s old new node name c
      by fault.Memory c = tt

-- USAGE

module _ {O S D R L M : Type 0} (o : sinks.Ghosts O) (s : shelves.Ghosts S D) (d : files.Ghosts D) (r : roads.Ghosts R L M) (number : ℕ) (report report' : O) (old new : List S) (road road' : R) where
  written_well : (summary : Summary) (ended : Exit) (t : Task) → WritesSummary o report report' number summary ended → UsageFor (Ok t) ended
  written_well summary exit.Done t w = λ r e. cc
  written_well summary (exit.Differs line want got) t w = λ r e. cc
  written_well summary exit.ReportFault t w = λ r e. cc
  written_well summary exit.Memory t w = λ r e. cc
  written_well summary (exit.Usage u) t w = absurd w
  written_well summary (exit.BadScript line why) t w = λ r e. cc
  written_well summary exit.ScriptFault t w = λ r e. cc
  written_well summary (exit.ShelfFault node) t w = λ r e. cc
  written_well summary exit.RoadFault t w = λ r e. cc
  written_well summary (exit.NotEmpty node name) t w = λ r e. cc

  faulted_well : (tells : Bool) (ended : Exit) (t : Task) → IsStormFault tells s r number old new road road' ended → UsageFor (Ok t) ended
  faulted_well tells exit.Done t c = λ r e. cc
  faulted_well tells (exit.Differs line want got) t c = λ r e. cc
  faulted_well tells exit.ReportFault t c = λ r e. cc
  faulted_well tells exit.Memory t c = λ r e. cc
  faulted_well tells (exit.Usage u) t c = absurd c
  faulted_well tells (exit.BadScript line why) t c = λ r e. cc
  faulted_well tells exit.ScriptFault t c = λ r e. cc
  faulted_well tells (exit.ShelfFault node) t c = λ r e. cc
  faulted_well tells exit.RoadFault t c = λ r e. cc
  faulted_well tells (exit.NotEmpty node name) t c = λ r e. cc

  pub storm_usage : (tells : Bool) (ended : Exit) (t : Task) → RunsStorm tells o s d r number report report' old new road road' ended → UsageFor (Ok t) ended
  storm_usage tells ended t (inl h) = written_well h.summary ended t h.written
  storm_usage tells ended t (inr h) = faulted_well tells ended t h.1

-- A line makes a write fail.
use Rattle.std.proofs.Common.{◌≡◌, ℕ, ◌<◌, Bool, true, false, List, Ok, refl, sym, subst}
use Rattle.hd_base.specs.declared.files.Files as files
use Rattle.hd_base.specs.declared.links.LinkIn as link_in
use Rattle.hd_base.specs.declared.links.LinkOut as link_out
use Rattle.hd_base.specs.declared.numbers.NodeId.{NodeId}
use Rattle.hd_base.specs.declared.roads.Roads as roads
use Rattle.hd_base.specs.declared.shelves.Shelf as shelves
use Rattle.script_lang.specs.declared.instructions.Instruction.{Instruction}
use Rattle.script_lang.specs.declared.instructions.Instruction.TheVariants as says
use Rattle.script_lang.specs.declared.instructions.ScriptLine.{ScriptLine}
use Rattle.script_lang.specs.Fits.{Before, after}
use Rattle.play_model.specs.States.{PlayState, armed}
use Rattle.play_scripts.specs.Fitting.{LineFits}
use Rattle.play_scripts.specs.Unplayed as unplayed
use Rattle.play_scripts.specs.Unplayed.{is_fault}
use Rattle.play_opening.specs.Play.Events.{FilesTell}
use Rattle.play_lines.specs.declared.playing.Playing.{Playing}
use Rattle.play_lines.specs.Drawing.{IsLeft}
use Rattle.play_lines.specs.Faulting.{Arms, ArmsArePlays}
use Rattle.play_lines.specs.Lines.{IsBehind, AsksBelow, LineLeft, LineShowsOver}
use Rattle.play_lines.specs.Showing.{PlayIs}
use Rattle.play_lines.proofs.Lined.{behind_next}
use Rattle.play_lines.proofs.Places.{asked_next}

module _ {S F R I O : Type 0} (s : shelves.Ghosts S F) (f : files.Ghosts F) (r : roads.Ghosts R I O) (i : link_in.Ghosts I) (o : link_out.Ghosts O) (old new : Playing F I O) (road : R) (shelves : List S) (l : ScriptLine) (node : NodeId) (nth : ℕ) where
  line_left : FilesTell f → ArmsArePlays f r i o → (before : Before) (lines : ℕ) (p : PlayState) → PlayIs f r i o p road old → IsBehind before lines p old → AsksBelow l.number p → LineFits before (says.Fault node nth) → Arms node nth old new
      → LineLeft f r i o l.number (says.Fault node nth) before lines p old new road
  line_left tell plays before lines p stands behind asks fit h =
      let left : IsLeft f r i o (armed p node.0 nth) old new road = plays old new node nth p road h stands tell (subst (λ (n : ℕ). node.0 < n) behind.nodes fit.words) in
      record {
        left = armed p node.0 nth;
        plays = refl;
        nodes = refl;
        is = left.is;
        blocks = left.blocks;
        behind = behind_next r i o before (after before (says.Fault node nth)) lines p (armed p node.0 nth) old new (record { nodes = refl; written = refl; stage = λ x. refl }) refl refl left.blocks (λ b h. refl) behind;
        asked = asked_next l.number p asks;
      }

  pub fault_line : l.instruction ≡ says.Fault node nth → FilesTell f → ArmsArePlays f r i o → Arms node nth old new → LineShowsOver s f r i o l shelves shelves old new road road (Ok tt)
  fault_line e tell plays h before lines p stands behind asks fit here few many =
      subst (λ (x : Instruction). LineLeft f r i o l.number x before lines p old new road) (sym e)
      (line_left tell plays before lines p stands behind asks (subst (λ (x : Instruction). LineFits before x) e fit) h)

pub told_fault : (told : Bool) (line : Instruction) (n : NodeId) (nth : ℕ) → line ≡ says.Fault n nth → unplayed.LineIsTold told line → told ≡ true
told_fault told line n nth e h = subst (λ (x : Instruction). unplayed.LineIsTold told x) e h

pub none_arms : (line : Instruction) → ((n : NodeId) (nth : ℕ) → line ≡ says.Fault n nth → ⊥) → is_fault line ≡ false
none_arms (says.Fault n nth) arms = absurd (arms n nth refl)
none_arms (says.Recover b n members) arms = refl
none_arms (says.Start n) arms = refl
none_arms (says.Nodes count) arms = refl
none_arms (says.Seed seed) arms = refl
none_arms (says.Sums b rule) arms = refl
none_arms (says.Create b members) arms = refl
none_arms (says.Append b members) arms = refl
none_arms (says.Write b bytes) arms = refl
none_arms (says.Fill b count) arms = refl
none_arms (says.Hflush b) arms = refl
none_arms (says.Hsync b) arms = refl
none_arms (says.Close b) arms = refl
none_arms (says.Read b n offset count) arms = refl
none_arms (says.Cut b place down up) arms = refl
none_arms (says.Stop n) arms = refl
none_arms (says.Run count) arms = refl
none_arms says.Settle arms = refl
none_arms (says.Step b event) arms = refl
none_arms (says.Expect n b state stamp written) arms = refl

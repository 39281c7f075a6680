-- A line asked to recover.
use Rattle.std.proofs.Common.{◌≡◌, ℕ, ◌<◌, ◌^◌, Bool, List, Result, Ok, Err, refl, sym, ap, ◌∙◌, subst}
use Rattle.hd_base.specs.declared.files.Files as files
use Rattle.hd_base.specs.declared.links.LinkIn as link_in
use Rattle.hd_base.specs.declared.links.LinkOut as link_out
use Rattle.hd_base.specs.declared.numbers.BlockId.{BlockId}
use Rattle.hd_base.specs.declared.numbers.NodeId.{NodeId}
use Rattle.hd_base.specs.declared.roads.Roads as roads
use Rattle.hd_base.specs.declared.shelves.Shelf as shelves
use Rattle.script_lang.specs.declared.instructions.Instruction.{Instruction}
use Rattle.script_lang.specs.declared.instructions.Instruction.TheVariants as says
use Rattle.script_lang.specs.declared.instructions.ScriptLine.{ScriptLine}
use Rattle.script_lang.specs.Fits.{Before, after}
use Rattle.world.specs.Worlds.{World}
use Rattle.play_scripts.specs.WorldRequests.Requests.{IsAmong}
use Rattle.play_model.specs.declared.recoveries.Recovery.{Recovery}
use Rattle.play_model.specs.Lines.{PlaysLine}
use Rattle.play_model.specs.States as states
use Rattle.play_model.specs.States.{PlayState, recovering}
use Rattle.play_scripts.specs.PlayNodes.Showing.{runs_in}
use Rattle.play_scripts.specs.Fitting.{LineFits}
use Rattle.play_opening.specs.Play.PlayFault.{PlayFault}
use Rattle.play_lines.specs.declared.playing.Playing.{Playing}
use Rattle.play_lines.specs.Drawing.{IsLeft, blocks_in}
use Rattle.play_lines.specs.Lines.{IsBehind, AsksBelow, LineLeft, LineShowsOver}
use Rattle.play_lines.specs.Recovering.{recovery_in, IsToRecover, Recovers, CanJoin, RecoversArePlays}
use Rattle.play_lines.specs.Showing.{PlayIs}
use Rattle.play_lines.proofs.Commands.{created_made}
use Rattle.play_lines.proofs.Drawn.{world_same}
use Rattle.play_lines.proofs.Joined.{recovered_more}
use Rattle.play_lines.proofs.Lined.{behind_next}

module _ {S F R I O : Type 0} (s : shelves.Ghosts S F) (f : files.Ghosts F) (r : roads.Ghosts R I O) (i : link_in.Ghosts I) (o : link_out.Ghosts O) (old new : Playing F I O) (road : R) (shelves : List S) (l : ScriptLine) (block : BlockId) (node : NodeId) (members : List NodeId) where
  -- what the line asks
  abbrev rec : Recovery
  rec = recovery_in old l.number block node members

  module _ (plays : RecoversArePlays f r i o) (before : Before) (lines : ℕ) (p : PlayState) (stands : PlayIs f r i o p road old) (behind : IsBehind before lines p old) (asks : AsksBelow l.number p) (fit : LineFits before (says.Recover block node members)) where
    -- whether the node runs in the model, as the player tells
    runs_same : runs_in old.player.running.items node.0 ≡ (states.world_of p).running node.0
    runs_same = stands.stands.shows.running node.0 ∙ ap (λ (w : World). w.running node.0) (sym (world_same f r i o p road old stands))

    can_join : CanJoin p old.player.nodes.blocks.items rec
    can_join =
        let h = behind.clients block.0 (created_made before block.0 fit.kept.0) in
        let c = stands.stands.clients h.place h.client h.found in
        record {
          fits = record {
            among = subst (λ (n : ℕ). IsAmong old.player.nodes.blocks.items n) h.block c.among;
            width = subst (λ (n : ℕ). n < 2 ^ 64) h.block c.width;
            node = subst (λ (n : ℕ). node.0 < n) behind.nodes fit.words.0;
          };
          formed = fit.words.1.formed;
          runs = λ may. sym runs_same ∙ may;
          above = asks.recovers;
        }

    -- it is what the model asks
    line_plays : PlaysLine (blocks_in old) l.number (says.Recover block node members) p (recovering p rec)
    line_plays = ap (λ (b : Bool). recovering p (record { primary = l.number; node = node; block = block; members = members; may_begin = b })) runs_same

    line_left : IsToRecover i o rec old new → LineLeft f r i o l.number (says.Recover block node members) before lines p old new road
    line_left h =
        let left : IsLeft f r i o (recovering p rec) old new road = plays old new rec p road h stands can_join in
        record {
          left = recovering p rec;
          plays = line_plays;
          nodes = refl;
          is = left.is;
          blocks = left.blocks;
          behind = behind_next r i o before (after before (says.Recover block node members)) lines p (recovering p rec) old new (record { nodes = refl; written = refl; stage = λ x. refl }) refl refl left.blocks (λ b h. refl) behind;
          asked = recovered_more l.number p rec refl asks;
        }

  pub recover_line : (given : List NodeId) (result : Result (Unit {0}) PlayFault) → given ≡ members → l.instruction ≡ says.Recover block node members → RecoversArePlays f r i o → Recovers i o (recovery_in old l.number block node given) old new result
      → LineShowsOver s f r i o l shelves shelves old new road road result
  recover_line given result same e plays asked = by result (subst (λ (ms : List NodeId). Recovers i o (recovery_in old l.number block node ms) old new result) same asked)
    where
      by : (result : Result (Unit {0}) PlayFault) → Recovers i o rec old new result → LineShowsOver s f r i o l shelves shelves old new road road result
      by (Ok u) h before lines p stands behind asks fit here few many =
          subst (λ (x : Instruction). LineLeft f r i o l.number x before lines p old new road) (sym e)
          (line_left plays before lines p stands behind asks (subst (λ (x : Instruction). LineFits before x) e fit) h)
      by (Err why) h before lines p stands behind asks fit here few many = rw (h) tt

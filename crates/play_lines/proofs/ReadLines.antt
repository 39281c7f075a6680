-- A line asked to read.
use Rattle.std.proofs.Common.{◌≡◌, ℕ, ◌<◌, List, Result, Ok, Err, refl, sym, ap, ◌∙◌, subst}
use Rattle.hd_base.specs.declared.files.Files as files
use Rattle.hd_base.specs.declared.links.LinkIn as link_in
use Rattle.hd_base.specs.declared.links.LinkOut as link_out
use Rattle.hd_base.specs.declared.numbers.BlockId.{BlockId}
use Rattle.hd_base.specs.declared.numbers.NodeId.{NodeId}
use Rattle.hd_base.specs.declared.roads.Roads as roads
use Rattle.hd_base.specs.declared.shelves.Shelf as shelves
use Rattle.name_core.specs.Offices.{OfficeState, committed_in}
use Rattle.script_lang.specs.declared.instructions.Instruction.{Instruction}
use Rattle.script_lang.specs.declared.instructions.Instruction.TheVariants as says
use Rattle.script_lang.specs.declared.instructions.ScriptLine.{ScriptLine}
use Rattle.script_lang.specs.Fits.{Before, after}
use Rattle.world.specs.Worlds.{World}
use Rattle.play_scripts.specs.WorldRequests.Requests.{IsAmong}
use Rattle.play_scripts.specs.WorldTexts.Texts.{CanBeAsked}
use Rattle.play_model.specs.declared.asks.ReadAsk.{ReadAsk}
use Rattle.play_model.specs.Asks.{request_of}
use Rattle.play_model.specs.Lines.{PlaysLine}
use Rattle.play_model.specs.States as states
use Rattle.play_model.specs.States.{PlayState, asked}
use Rattle.play_scripts.specs.Fitting.{LineFits}
use Rattle.play_opening.specs.Play.PlayFault.{PlayFault}
use Rattle.play_opening.specs.Play.Events.{FilesTell}
use Rattle.play_opening.specs.Play.Standing.{AskFits}
use Rattle.play_lines.specs.declared.playing.Playing.{Playing}
use Rattle.play_lines.specs.Asking.{ask_in, HasAsked, Asks, AsksArePlays}
use Rattle.play_lines.specs.Drawing.{IsLeft, blocks_in}
use Rattle.play_lines.specs.Lines.{IsBehind, AsksBelow, LineLeft, LineShowsOver}
use Rattle.play_lines.specs.Showing.{PlayIs}
use Rattle.play_lines.proofs.Asked.{asked_more}
use Rattle.play_lines.proofs.Commands.{created_made}
use Rattle.play_lines.proofs.Drawn.{world_same}
use Rattle.play_lines.proofs.Lined.{behind_next}

module _ {S F R I O : Type 0} (s : shelves.Ghosts S F) (f : files.Ghosts F) (r : roads.Ghosts R I O) (i : link_in.Ghosts I) (o : link_out.Ghosts O) (old new : Playing F I O) (road : R) (shelves : List S) (l : ScriptLine) (block : BlockId) (node : NodeId) (offset count : ℕ) where
  -- what the line asks
  abbrev ask : ReadAsk
  ask = ask_in old l.number block node offset count

  module _ (tell : FilesTell f) (plays : AsksArePlays f r i o) (can : CanBeAsked (request_of ask)) (before : Before) (lines : ℕ) (p : PlayState) (stands : PlayIs f r i o p road old) (behind : IsBehind before lines p old) (asks : AsksBelow l.number p) (fit : LineFits before (says.Read block node offset count)) where
    among : IsAmong old.player.nodes.blocks.items block.0
    among =
        let h = behind.clients block.0 (created_made before block.0 fit.kept.0) in
        subst (λ (n : ℕ). IsAmong old.player.nodes.blocks.items n) h.block (stands.stands.clients h.place h.client h.found).among

    fits : AskFits p.nodes old.player.nodes.blocks.items ask
    fits = record { among = among; node = subst (λ (n : ℕ). node.0 < n) behind.nodes fit.words; asked = can }

    -- it is what the model asks
    office_same : (states.world_of p).office ≡ old.player.office.office
    office_same = ap (λ (w : World). w.office) (world_same f r i o p road old stands) ∙ sym stands.stands.shows.office

    line_plays : PlaysLine (blocks_in old) l.number (says.Read block node offset count) p (asked p ask)
    line_plays = ap (λ (x : OfficeState). asked p (record { reader = l.number; node = node; block = block; stamp = committed_in x block; offset = offset; len = count })) (sym office_same)

    line_left : HasAsked i o ask old new → LineLeft f r i o l.number (says.Read block node offset count) before lines p old new road
    line_left h =
        let left : IsLeft f r i o (asked p ask) old new road = plays old new ask p road h stands tell fits asks.reads in
        record {
          left = asked p ask;
          plays = line_plays;
          nodes = refl;
          is = left.is;
          blocks = left.blocks;
          behind = behind_next r i o before (after before (says.Read block node offset count)) lines p (asked p ask) old new (record { nodes = refl; written = refl; stage = λ x. refl }) refl refl left.blocks (λ b h. refl) behind;
          asked = asked_more l.number p ask refl asks;
        }

  pub read_line : (result : Result (Unit {0}) PlayFault) → l.instruction ≡ says.Read block node offset count → FilesTell f → AsksArePlays f r i o → CanBeAsked (request_of ask) → Asks i o ask old new result → LineShowsOver s f r i o l shelves shelves old new road road result
  read_line (Ok u) e tell plays can h before lines p stands behind asks fit here few many =
      subst (λ (x : Instruction). LineLeft f r i o l.number x before lines p old new road) (sym e)
      (line_left tell plays can before lines p stands behind asks (subst (λ (x : Instruction). LineFits before x) e fit) h)
  read_line (Err why) e tell plays can h before lines p stands behind asks fit here few many = rw (h) tt

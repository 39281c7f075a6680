-- A script whose lines were played was played to an end of its play.
use Rattle.std.proofs.Common.{◌≡◌, ◌≤◌, ℕ, suc, Bool, List, [], ◌∷◌, length, map, drop, Option, Some, None, IfSome, Result, refl, sym, ap, subst, ◌∙◌, arith}
use Rattle.std.specs.Prelude.{option_map}
use Rattle.std.proofs.lemmas.Option.{same_Some}
use Rattle.hd_base.specs.Channels.{Carried}
use Rattle.hd_base.specs.Lists.{joined}
use Rattle.hd_base.specs.declared.files.Files as files
use Rattle.hd_base.specs.declared.links.LinkIn as link_in
use Rattle.hd_base.specs.declared.links.LinkOut as link_out
use Rattle.hd_base.specs.declared.roads.Roads as roads
use Rattle.hd_base.specs.declared.shelves.Shelf as shelves
use Rattle.road_traffic.specs.Traffic.{carried_of}
use Rattle.road_traffic.specs.Showing.{Net}
use Rattle.script_lang.specs.declared.instructions.ScriptLine.{ScriptLine}
use Rattle.world.specs.declared.events.Event.{Event}
use Rattle.world.specs.Worlds.{World, start}
use Rattle.world.specs.Events.{run}
use Rattle.play_report.specs.WorldNets.Nets.{IsNetOf}
use Rattle.play_report.specs.WorldNets.Rows.{rows_of, text_of}
use Rattle.play_report.specs.WorldNets.Starts.{NetsCarry}
use Rattle.play_model.specs.States.{PlayState, opened}
use Rattle.play_model.specs.States as states
use Rattle.play_model.specs.Lines.{Plays, PlaysLines, blocks_of}
use Rattle.play_report.specs.PlayLaws.Nodes.{OnlyNodesRun}
use Rattle.play_report.specs.PlayClients.Client.{Client}
use Rattle.play_report.specs.PlayClients.Blocks as client_blocks
use Rattle.play_report.specs.PlayNodes.Showing.{NodesShow}
use Rattle.completing_lines.specs.Play.Events as events
use Rattle.completing_lines.specs.Play.PlayFault.{PlayFault}
use Rattle.play_report.specs.PlayScripts.Head.{Head}
use Rattle.play_report.specs.PlayScripts.Blocks.{numbers}
use Rattle.play_report.specs.PlayScripts.Fitting.{begun}
use Rattle.play_report.specs.PlayScripts.Reads.{read_numbers, readers_of, PlaysAskByNumber}
use Rattle.play_report.specs.PlayScripts.Recoveries.{recovery_numbers, primaries_of, PlaysRecoverByNumber}
use Rattle.play_report.specs.PlayPrimaries.Clients.{PrimaryClientShows}
use Rattle.play_report.specs.PlayReaders.Clients.{ReadClientShows}
use Rattle.completing_lines.specs.PlayLines.Playing.{Playing}
use Rattle.completing_lines.specs.PlayLines.Drawing.{blocks_in}
use Rattle.completing_lines.specs.PlayLines.Lines.{LinesLeft, LinesEnd, LinesShow, IsReady}
use Rattle.completing_lines.specs.PlayLines.Showing.{PlayIs}
use Rattle.play_report.specs.Laws.{StillShow}
use Rattle.play_report.specs.Reports.{NodesAre, ClientsAre, ReadersAre, PrimariesAre}
use Rattle.play_report.specs.Rows.{LeavesAll}
use Rattle.whole_play.specs.declared.playing.Played.{Played}
use Rattle.whole_play.specs.Opening.{HasHead, first_of}
use Rattle.whole_play.specs.Playing.{BeginsScript, IsTold, IsToldOf, HaveCarried, IsThrough, IsOver}

-- SCRIPTS

-- there are the two lines of the head
pub head_within : (head : Head) (body script : List ScriptLine) → HasHead head body script → 2 ≤ length script
head_within head body script h = subst (λ (ls : List ScriptLine). 2 ≤ length ls) (sym h.parts) (two (length body))
  where
    two : (n : ℕ) → 2 ≤ suc (suc n)
    two n = omega arith

pub head_blocks : (head : Head) (body script : List ScriptLine) → HasHead head body script → blocks_of script ≡ blocks_of body
head_blocks head body script h = ap blocks_of h.parts

plays_script : (head : Head) (body script : List ScriptLine) (end : PlayState) → HasHead head body script → PlaysLines (blocks_of body) body (first_of head) end → Plays script end
plays_script head body script end h p = subst (λ (ls : List ScriptLine). Plays ls end) (sym h.parts) p

-- CLIENTS

same_numbers : {I O : Type 0} (clients : List (Client I O)) → numbers (events.blocks_of clients) ≡ client_blocks.blocks_of clients
same_numbers [] = refl
same_numbers (c ∷ clients) = ap (λ (bs : List ℕ). c.block.0 ∷ bs) (same_numbers clients)

-- ROADS

have_carried : {R I O : Type 0} (r : roads.Ghosts R I O) (w : World) (net : Net) (road : R) → NetsCarry → IsNetOf w net → r.carried road ≡ option_map (λ _. carried_of net.traffic) (r.carried road) → HaveCarried r w road
have_carried r w net road carry is e = by (r.carried road) e
  where
    by : (x : Option Carried) → x ≡ option_map (λ _. carried_of net.traffic) x → IfSome x (λ carried. (c : ℕ) (d : Bool) → carried c d ≡ joined (map text_of (rows_of w c d).sent))
    by None e = tt
    by (Some k) e = λ c d. ap (λ (f : Carried). f c d) (same_Some k (carried_of net.traffic) e) ∙ carry w net is c d

-- THE END

module _ {F R I O : Type 0} (f : files.Ghosts F) (r : roads.Ghosts R I O) (i : link_in.Ghosts I) (o : link_out.Ghosts O) where
  is_ready : (script : List ScriptLine) (shelved : ℕ) (road : R) (x : Playing F I O) → BeginsScript f r i o script shelved road x → IsReady f r i o (drop 2 script) shelved road x
  is_ready script shelved road x b = record {
    p = first_of b.head;
    is = b.begins.is;
    before = begun b.head.nodes b.head.seed;
    count = 0;
    can = b.begins.can;
    shelved = b.shelved;
  }

  -- The lines behind the head were played.
  pub lines_end : {S : Type 0} (s : shelves.Ghosts S F) (lines script : List ScriptLine) (shelved shelved' : List S) (road road' : R) (old x : Playing F I O) (result : Result (Unit {0}) PlayFault) → lines ≡ drop 2 script → (b : BeginsScript f r i o script (length shelved) road old)
      → LinesShow s f r i o lines shelved shelved' old x road road' result → LinesEnd s f r i o (drop 2 script) (first_of b.head) shelved shelved' old x road road' result
  lines_end s lines script shelved shelved' road road' old x result e b shows =
      subst (λ (ls : List ScriptLine). LinesShow s f r i o ls shelved shelved' old x road road' result) e shows (begun b.head.nodes b.head.seed) 0 (first_of b.head) b.begins.is b.begins.can b.shelved

  pub lines_ready : (lines script : List ScriptLine) (shelved : ℕ) (road : R) (x : Playing F I O) → lines ≡ drop 2 script → BeginsScript f r i o script shelved road x → IsReady f r i o lines shelved road x
  lines_ready lines script shelved road x e b = subst (λ (ls : List ScriptLine). IsReady f r i o ls shelved road x) (sym e) (is_ready script shelved road x b)

  same_blocks : (script : List ScriptLine) (shelved : ℕ) (road : R) (x : Playing F I O) → BeginsScript f r i o script shelved road x → blocks_in x ≡ blocks_of (drop 2 script)
  same_blocks script shelved road x b = sym (same_numbers x.player.clients.items) ∙ (ap numbers b.begins.clients ∙ b.begins.are.are)

  nodes_are : (end : PlayState) (x : Playing F I O) (road : R) → (is : PlayIs f r i o end road x) → OnlyNodesRun → NodesAre i o x.nodes x.player.running.items (states.world_of end) is.stands.net x.player.nodes
  nodes_are end x road is all = record {
    show = subst (λ (es : List Event). NodesShow i o (run (start end.nodes) es) is.stands.net x.player.nodes) (sym is.events) is.stands.shows.nodes.nodes_are;
    count_is = (all end.nodes end.events).nodes_are ∙ is.nodes_are;
    tells = λ n. is.stands.shows.running n ∙ ap (λ (es : List Event). (run (start end.nodes) es).running n) (sym is.events);
  }

  clients_are : (end : PlayState) (x : Playing F I O) (road : R) → (is : PlayIs f r i o end road x) → blocks_in x ≡ numbers x.player.nodes.blocks.items → ClientsAre (states.world_of end) x.player.nodes x.player.clients.items
  clients_are end x road is blocks = record {
    blocks = blocks;
    said = λ k c at. (is.stands.shows.clients k c at).shows.said ∙ ap (λ (es : List Event). (run (start end.nodes) es).said c.block.0) (sym is.events);
  }

  readers_are : (end : PlayState) (x : Playing F I O) (road : R) (script : List ScriptLine) → (is : PlayIs f r i o end road x) → readers_of end.asks ≡ read_numbers script → ReadersAre i o (states.world_of end) is.stands.net x.player.reads.clients.items script
  readers_are end x road script is numbers = record {
    numbers = ap readers_of is.asks ∙ numbers;
    each = λ k c at. subst (λ (es : List Event). ReadClientShows i o (run (start end.nodes) es) is.stands.net c) (sym is.events) (is.stands.shows.reads.clients.each k c at);
  }

  primaries_are : (end : PlayState) (x : Playing F I O) (road : R) (script : List ScriptLine) → (is : PlayIs f r i o end road x) → primaries_of end.recoveries ≡ recovery_numbers script → PrimariesAre i o (states.world_of end) is.stands.net x.player.recoveries.clients.items script
  primaries_are end x road script is numbers = record {
    numbers = ap primaries_of is.recovers ∙ numbers;
    each = λ k c at. subst (λ (es : List Event). PrimaryClientShows i o (run (start end.nodes) es) is.stands.net c) (sym is.events) (is.stands.shows.recoveries.clients.each k c at);
  }

  through : (script : List ScriptLine) (shelved : ℕ) (road road' : R) (old x : Playing F I O) (p : Played) → (b : BeginsScript f r i o script shelved road old) → (left : LinesLeft f r i o (drop 2 script) (first_of b.head) old x road') → x.player.nodes.blocks.items ≡ old.player.nodes.blocks.items → OnlyNodesRun → NetsCarry → PlaysAskByNumber → PlaysRecoverByNumber → IsToldOf f i o x script p
      → IsThrough f r script road' p
  through script shelved road road' old x p b left same all carry asks recovers told =
      let end : PlayState = left.left in
      let blocks : blocks_in old ≡ blocks_of (drop 2 script) = same_blocks script shelved road old b in
      let here : numbers x.player.nodes.blocks.items ≡ blocks_of (drop 2 script) = ap numbers same ∙ b.begins.are.are in
      let is : PlayIs f r i o end road' x = left.is in
      let plays : Plays script end = plays_script b.head (drop 2 script) script end b.has_head (subst (λ (bs : List ℕ). PlaysLines bs (drop 2 script) (first_of b.head) end) blocks left.plays) in
      let shown : IsTold f (states.world_of end) (numbers x.player.nodes.blocks.items) script p =
      told (states.world_of end) is.stands.net (nodes_are end x road' is all) (clients_are end x road' is (left.blocks ∙ (blocks ∙ sym here))) (readers_are end x road' script is (asks script end plays)) (primaries_are end x road' script is (recovers script end plays)) in
      record {
        end = end;
        plays = plays;
        told = subst (λ (bs : List ℕ). IsTold f (states.world_of end) bs script p) (here ∙ sym (head_blocks b.head (drop 2 script) script b.has_head)) shown;
        carried = have_carried r (states.world_of end) is.stands.net road' carry
            (subst (λ (es : List Event). IsNetOf (run (start end.nodes) es) is.stands.net) (sym is.events) is.stands.shows.nodes.roads_are.is_net) is.stands.shows.nodes.roads_are.shows.carried;
      }

  -- Once the report was made the nodes show the world still.
  pub over : (script : List ScriptLine) (shelved : ℕ) (road road' : R) (old x y : Playing F I O) (p : Played) → (b : BeginsScript f r i o script shelved road old) → (left : LinesLeft f r i o (drop 2 script) (first_of b.head) old x road') → x.player.nodes.blocks.items ≡ old.player.nodes.blocks.items → OnlyNodesRun → NetsCarry → PlaysAskByNumber → PlaysRecoverByNumber → StillShow F I O f i o
      → LeavesAll f x.player.nodes y.player.nodes → IsToldOf f i o x script p → IsOver f r i o script road' y p
  unfolding through
  over script shelved road road' old x y p b left same all carry asks recovers still kept told =
      let are : NodesAre i o x.nodes x.player.running.items (states.world_of left.left) left.is.stands.net x.player.nodes = nodes_are left.left x road' left.is all in
      record {
        through = through script shelved road road' old x p b left same all carry asks recovers told;
        net = left.is.stands.net;
        show = still (states.world_of left.left) left.is.stands.net x.player.nodes y.player.nodes kept are.show;
      }

-- A play that was opened can play its lines.
use Rattle.std.specs.Prelude.{replicate, unwrap_or}
use Rattle.std.specs.Global.{Vec}
use Rattle.std.proofs.lemmas.List.{length-replicate}
use Rattle.std.proofs.Common.{◌≡◌, ◌≤◌, ◌+◌, ℕ, zero, suc, true, false, List, [], ◌∷◌, length, slice_get, Some, refl, sym, ap, subst, ◌∙◌, arith, None}
use Rattle.hd_base.specs.declared.files.Files as files
use Rattle.hd_base.specs.declared.links.LinkIn as link_in
use Rattle.hd_base.specs.declared.links.LinkOut as link_out
use Rattle.hd_base.specs.declared.numbers.BlockId.{BlockId}
use Rattle.hd_base.specs.declared.numbers.NodeId.{NodeId}
use Rattle.hd_base.specs.declared.roads.Roads as roads
use Rattle.hd_base.specs.declared.shelves.Shelf as shelves
use Rattle.rand_pcg.specs.Lcg.{Lcg}
use Rattle.script_lang.specs.declared.instructions.Instruction.{Instruction}
use Rattle.script_lang.specs.declared.instructions.Instruction.TheVariants as says
use Rattle.script_lang.specs.declared.instructions.ScriptLine.{ScriptLine}
use Rattle.world.specs.Safe.{Has}
use Rattle.world.specs.Worlds.{start}
use Rattle.writer_core.specs.declared.intake.TheConstants.{MAX_COMMANDS}
use Rattle.play_report.specs.NodeOpening.Shelves.{AreDistinct}
use Rattle.play_model.specs.States.{opened}
use Rattle.play_report.specs.PlayClients.Client.{Client}
use Rattle.completing_lines.specs.PlayDues.LiveConns.{LiveConns}
use Rattle.completing_lines.specs.PlayDues.Live.{CoversNone}
use Rattle.completing_lines.specs.PlayDues.Showing.{HasClient}
use Rattle.completing_lines.specs.Play.Player.{Player}
use Rattle.completing_lines.specs.Play.Events.{blocks_of}
use Rattle.completing_lines.specs.Play.Standing.{PlayStands, world_of}
use Rattle.completing_lines.specs.PlayOpening.Opening.{IsOpenedPlay, no_commands}
use Rattle.play_report.specs.PlayScripts.Head.{Head}
use Rattle.play_report.specs.PlayScripts.Blocks.{AreAllCreated, AreBlocks}
use Rattle.play_report.specs.PlayScripts.Fitting.{begun}
use Rattle.play_model.specs.declared.recoveries.Recovery.{Recovery}
use Rattle.play_report.specs.PlayPrimaries.PrimaryClient.{PrimaryClient}
use Rattle.completing_lines.specs.PlayRecoveries.Places.{recoveries_of}
use Rattle.play_model.specs.declared.asks.ReadAsk.{ReadAsk}
use Rattle.play_report.specs.PlayReaders.ReadClient.{ReadClient}
use Rattle.play_report.specs.PlayReaders.Asks.{asks_of}
use Rattle.completing_lines.specs.PlayLines.Playing.{Playing}
use Rattle.completing_lines.specs.PlayLines.Lines.{GivenIs, IsBehind, CreatesHere, AllCreateHere}
use Rattle.completing_lines.specs.PlayLines.Showing.{FaultsShow, given_in}
use Rattle.whole_play.specs.Opening.{HeadFits, HaveNoFaults, first_of, Begins, HasOpened}

-- NOTHING WAS GIVEN

true_false : false ≡ true → ⊥
true_false e = cc

nothing_given : (nodes seed b : ℕ) → GivenIs (begun nodes seed) 0 b (given_in (opened nodes seed) b)
unfolding start
nothing_given nodes seed b = record {
  stand = record { unmade = λ _. refl; open_is = λ e. absurd (true_false e); closed = λ e. absurd (true_false e) };
  bytes = omega arith;
  commands = omega arith;
}

-- EACH BLOCK HAS A CLIENT

number_of : (b c : BlockId) → Some c ≡ Some b → c.0 ≡ b.0
number_of b c e = cc

module _ {I O : Type 0} where
  client_behind : (c : Client I O) (clients : List (Client I O)) (b : ℕ) → HasClient clients b → HasClient (c ∷ clients) b
  client_behind c clients b h = record { place = suc h.place; client = h.client; found = h.found; block = h.block }

  -- the client of a block that stands at a place
  client_at : (clients : List (Client I O)) (k : ℕ) (b : BlockId) → slice_get (blocks_of clients) k ≡ Some b → HasClient clients b.0
  client_at [] k b at = cc
  client_at (c ∷ clients) zero b at = record { place = 0; client = c; found = refl; block = number_of b c.block at }
  client_at (c ∷ clients) (suc k) b at = client_behind c clients b.0 (client_at clients k b at)

  client_of : (blocks : List BlockId) (clients : List (Client I O)) (b : BlockId) → blocks_of clients ≡ blocks → Has blocks b → HasClient clients b.0
  client_of blocks clients b order h = client_at clients h.place b (ap (λ (bs : List BlockId). slice_get bs h.place) order ∙ h.there)

module _ {F I O : Type 0} where
  creates_here : (blocks : List BlockId) (x : Playing F I O) (line : Instruction) → blocks_of x.player.clients.items ≡ blocks → ((b : BlockId) (members : List NodeId) → line ≡ says.Create b members → Has blocks b) → CreatesHere x line
  creates_here blocks x (says.Create b members) order has =
      client_of blocks x.player.clients.items b order (has b members refl)
  creates_here blocks x _ order has = tt

  all_create_here : (blocks : List BlockId) (x : Playing F I O) (lines : List ScriptLine) → blocks_of x.player.clients.items ≡ blocks → AreAllCreated lines blocks → AllCreateHere x lines
  all_create_here blocks x [] order all = tt
  all_create_here blocks x (l ∷ lines) order all =
      (creates_here blocks x l.instruction order (λ b members e. all 0 l b members refl e), all_create_here blocks x lines order (λ k m b members at e. all (suc k) m b members at e))

-- THE START

nothing_asked : (ask : ReadAsk) → None ≡ Some ask → ⊥
nothing_asked ask e = cc

nothing_recovered : (rec : Recovery) → None ≡ Some rec → ⊥
nothing_recovered rec e = cc

none_of_zeros : (n k : ℕ) → ◌≡◌ {A = ℕ} (unwrap_or (slice_get (replicate n 0) k) 0) 0
none_of_zeros zero k = refl
none_of_zeros (suc n) zero = refl
none_of_zeros (suc n) (suc k) = none_of_zeros n k

-- no write is to fail
no_faults : {D : Type 0} (d : files.Ghosts D) (nodes : ℕ) (numbers : List ℕ) → HaveNoFaults nodes numbers → FaultsShow d nodes (λ node. 0) numbers
no_faults d nodes numbers none = record {
  count = ap length none ∙ length-replicate nodes 0;
  tells = λ node. ap (λ (ns : List ℕ). unwrap_or (slice_get ns node) 0) none ∙ none_of_zeros nodes node;
  told = λ node some. absurd (some refl);
}

few_lines : (n : ℕ) → n ≤ MAX_COMMANDS → 0 + n ≤ MAX_COMMANDS
few_lines n h = omega (arith, h)

module _ {S D R I O : Type 0} (s : shelves.Ghosts S D) (d : files.Ghosts D) (r : roads.Ghosts R I O) (i : link_in.Ghosts I) (o : link_out.Ghosts O) where
  is_behind : (nodes seed : ℕ) (x : Playing D I O) → IsBehind (begun nodes seed) 0 (opened nodes seed) x
  is_behind nodes seed x = record {
    nodes = refl;
    written = omega arith;
    chunks = λ b. record { least = omega arith; greatest = omega arith };
    clients = λ b e. absurd (true_false e);
    given = λ b h. nothing_given nodes seed b;
  }

  pub opened_here : (blocks : List BlockId) (old new : List S) (x : Playing D I O) → AreDistinct blocks → IsOpenedPlay s d blocks old new x.player → HasOpened s d old new x
  opened_here blocks old new x distinct h =
      let same : x.player.nodes.blocks.items ≡ blocks = h.nodes.blocks_are in
      record {
        distinct = subst (λ (bs : List BlockId). AreDistinct bs) (sym same) distinct;
        opened_so = subst (λ (bs : List BlockId). IsOpenedPlay s d bs old new x.player) (sym same) h;
      }

  pub begins : (head : Head) (lines : List ScriptLine) (old new : List S) (road : R) (blocks : List BlockId) (player : Player D I O) (generator : Lcg) (faults : Vec ℕ) (live : LiveConns) → HeadFits (length old) head lines → AreBlocks lines blocks → IsOpenedPlay s d blocks old new player → PlayStands r i o (length old) no_commands road player → generator ≡ (first_of head).generator
      → HaveNoFaults head.nodes faults.items → CoversNone live → Begins d r i o head lines road (record { nodes = head.nodes; player = player; generator = generator; faults = faults; live = live })
  begins head lines old new road blocks player generator faults live fits are h stands drawn none covers =
      let x : Playing D I O = record { nodes = head.nodes; player = player; generator = generator; faults = faults; live = live } in
      record {
        are = subst (λ (bs : List BlockId). AreBlocks lines bs) (sym h.nodes.blocks_are) are;
        clients = h.clients.order ∙ sym h.nodes.blocks_are;
        is = record {
          stands = subst (λ (n : ℕ). PlayStands r i o n no_commands road player) (sym fits.nodes) stands;
          nodes_are = refl;
          events = sym h.events;
          generator = drawn;
          faults = no_faults d head.nodes faults.items none;
          asks = ap (λ (cs : List (ReadClient I O)). asks_of cs) h.reads.clients;
          told = λ k ask at. absurd (nothing_asked ask at);
          recovers = ap (λ (cs : List (PrimaryClient I O)). recoveries_of cs) h.recoveries.clients;
          formed = λ k rec at. absurd (nothing_recovered rec at);
          rules = λ k c at. (h.clients.each k c at).is_new.rule;
          live = covers (world_of head.nodes player);
        };
        can = record {
          behind = is_behind head.nodes head.seed x;
          fit = fits.fit;
          here = all_create_here blocks x lines h.clients.order are.all;
          few = few_lines (length lines) fits.count;
          least = 0;
          ascend = fits.ascend;
          asked = record { reads = λ k ask at. absurd (nothing_asked ask at); recovers = λ k rec at. absurd (nothing_recovered rec at) };
        };
      }

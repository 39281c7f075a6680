-- A line that gives no command is played.
use Rattle.std.proofs.Common.{arith, ◌≡◌, ℕ, suc, ◌<◌, ◌==◌, Bool, true, false, List, [], ◌∷◌, Option, Some, None, Result, Ok, Err, refl, sym, ap, ◌∙◌, subst, eqb-true}
use Rattle.std.specs.Prelude.{is_none, zero, if◌then◌else◌, ◌||◌}
use Rattle.hd_base.specs.declared.files.Files as files
use Rattle.hd_base.specs.declared.links.LinkIn as link_in
use Rattle.hd_base.specs.declared.links.LinkOut as link_out
use Rattle.hd_base.specs.declared.numbers.BlockId.{BlockId}
use Rattle.hd_base.specs.declared.numbers.NodeId.{NodeId}
use Rattle.hd_base.specs.declared.roads.Roads as roads
use Rattle.hd_base.specs.SumRules.{Rule, IsChunkSize}
use Rattle.rand_pcg.specs.Pcg.{pcg32}
use Rattle.script_lang.specs.declared.instructions.Instruction.{Instruction}
use Rattle.script_lang.specs.declared.instructions.Instruction.TheVariants as says
use Rattle.script_lang.specs.declared.instructions.StepEvent.{StepEvent}
use Rattle.script_lang.specs.Fits.{Before, is_open, is_closed, is_created, after}
use Rattle.world.specs.Worlds.{put}
use Rattle.play_model.proofs.WorldLaws.StampGivens.{put-there}
use Rattle.writer_core.specs.declared.intake.Intake.{Intake}
use Rattle.play_model.specs.declared.dues.Due.{Due}
use Rattle.play_model.specs.Draws.{draw, draws, drawn_from, drawn, happened, advanced}
use Rattle.play_model.specs.Dues.{dues, is_due}
use Rattle.play_model.specs.Faults.{befalls}
use Rattle.play_model.specs.Lines.{PlaysLine, stepped, step_due, pipeline_conn, cut_at, stopped, stop_at}
use Rattle.play_model.specs.States.{PlayState, ruled, world_of}
use Rattle.play_opening.specs.PlayDues.Places.{client_place}
use Rattle.play_opening.specs.PlayDues.Showing.{HasClient}
use Rattle.play_scripts.specs.Fitting.{LineFits, WordsFit}
use Rattle.play_scripts.specs.Unplayed.{is_start, is_fault}
use Rattle.play_opening.specs.Play.PlayFault.{PlayFault}
use Rattle.play_opening.proofs.PlayProofs.Dispatch.{has_place}
use Rattle.play_lines.specs.declared.playing.Playing.{Playing}
use Rattle.play_lines.specs.Drawing.{IsLeft, IsDrawn, RunEnds, RunShows, SettleEnds, SettleShows, blocks_in}
use Rattle.play_lines.specs.Ruling.{RulesAt, Rules, RulesArePlays}
use Rattle.play_lines.specs.Showing.{PlayIs, given_in}
use Rattle.play_lines.specs.Stepping.{StepEnds, StepShows}
use Rattle.play_lines.specs.Cutting.{CutEnds, CutShows}
use Rattle.play_lines.specs.Stopping.{StopEnds, StopShows}
use Rattle.play_scripts.specs.Reads.{is_read}
use Rattle.play_scripts.specs.Recoveries.{is_recovery}
use Rattle.play_lines.specs.Lines.{ordered_by, StandIs, GivenIs, is_made, IsBehind, AsksBelow, LineLeft, LineEnds, LineShows}
use Rattle.play_lines.proofs.Commands.{same_stand, created_made}
use Rattle.play_lines.proofs.Places.{moved, asked_next, each_stopped, stopped_number}

-- THE MODEL

-- Nodes and rules of a play stay, and nothing is asked by a line of another number.
pub record Stays (p q : PlayState) : Type 0 where
  pub nodes : q.nodes ≡ p.nodes
  pub rules : q.rules ≡ p.rules
  pub below : (number : ℕ) → AsksBelow number p → AsksBelow number q

happened_stays : (p : PlayState) (d : Option Due) → Stays p (happened p d)
unfolding befalls
happened_stays p None = record { nodes = refl; rules = refl; below = λ number h. h }
happened_stays p (Some d) = record { nodes = refl; rules = refl; below = λ number h. h }

drawn_stays : (due : List Due) (p : PlayState) → Stays p (drawn_from due p)
drawn_stays [] p = record { nodes = refl; rules = refl; below = λ number h. h }
drawn_stays (d ∷ due) p =
    let s : Stays (advanced p) (drawn_from (d ∷ due) p) = happened_stays (advanced p) (drawn (d ∷ due) (pcg32 p.generator).0) in
    record { nodes = s.nodes; rules = s.rules; below = s.below }

pub draws_stay : (blocks : List ℕ) (n : ℕ) (p : PlayState) → Stays p (draws blocks n p)
draws_stay blocks zero p = record { nodes = refl; rules = refl; below = λ number h. h }
draws_stay blocks (suc n) p =
    let s : Stays p (draw blocks p) = drawn_stays (dues blocks p) p in
    let t : Stays (draw blocks p) (draws blocks (suc n) p) = draws_stay blocks n (draw blocks p) in
    record { nodes = t.nodes ∙ s.nodes; rules = t.rules ∙ s.rules; below = λ number h. t.below number (s.below number h) }

pub stepped_stays : (p : PlayState) (d : Option Due) → Stays p (stepped p d)
stepped_stays p None = record { nodes = refl; rules = refl; below = λ number h. h }
stepped_stays p (Some d) = by (is_due (world_of p) p.queues d) refl
  where
    by : (q : Bool) → is_due (world_of p) p.queues d ≡ q → Stays p (stepped p (Some d))
    by true e = subst (λ (x : Bool). Stays p (if x then befalls p d else p)) (sym e) (happened_stays p (Some d))
    by false e = subst (λ (x : Bool). Stays p (if x then befalls p d else p)) (sym e) (record { nodes = refl; rules = refl; below = λ number h. h })

pub cut_stays : (p : PlayState) (conn : Option ℕ) (down up : ℕ) → Stays p (cut_at p conn down up)
cut_stays p conn down up = record { nodes = refl; rules = refl; below = λ number h. h }

pub stop_stays : (p : PlayState) (n : NodeId) → Stays p (stop_at p n)
stop_stays p n = by ((world_of p).running n.0)
  where
    by : (b : Bool) → Stays p (if b then stopped p n else p)
    by true = record {
      nodes = refl;
      rules = refl;
      below = λ number h. record {
        reads = h.reads;
        recovers = each_stopped (λ x. x.primary < number) n (λ x less. subst (λ (k : ℕ). k < number) (sym (stopped_number n x)) less) p.recoveries h.recovers;
      };
    }
    by false = record { nodes = refl; rules = refl; below = λ number h. h }

-- THE LINES BEFORE

true_false : true ≡ false → ⊥
true_false e = cc

-- A line that leaves nodes, stages and what was written as they were.
pub record Passes (before next : Before) : Type 0 where
  pub nodes : next.nodes ≡ before.nodes
  pub written : next.written ≡ before.written
  pub stage : (x : ℕ) → next.stage x ≡ before.stage x

same_given : (before next : Before) (lines x : ℕ) (j : Intake) → Passes before next → GivenIs before lines x j → GivenIs next (suc lines) x j
same_given before next lines x j same g = record {
  stand = same_stand before next x j.stand (same.stage x) g.stand;
  bytes = omega (arith, g.bytes, same.written);
  commands = omega (arith, g.commands);
}

module _ {F R I O : Type 0} (r : roads.Ghosts R I O) (i : link_in.Ghosts I) (o : link_out.Ghosts O) (before next : Before) (lines : ℕ) (p q : PlayState) (old new : Playing F I O) (same : Passes before next) (same_nodes : q.nodes ≡ p.nodes) (same_rules : q.rules ≡ p.rules) (blocks : blocks_in new ≡ blocks_in old)
    (given : (b : ℕ) → HasClient old.player.clients.items b → given_in q b ≡ given_in p b) (behind : IsBehind before lines p old) where
  pub behind_next : IsBehind next (suc lines) q new
  behind_next = record {
    nodes = same.nodes ∙ (behind.nodes ∙ sym same_nodes);
    written = omega (arith, behind.written, same.written);
    chunks = λ b. subst (λ (rules : ℕ → Rule). IsChunkSize (rules b).chunk) (sym same_rules) (behind.chunks b);
    clients = λ b made. moved new.player.clients.items old.player.clients.items b blocks
        (behind.clients b (sym (ap (λ s. is_created s || (is_open s || is_closed s)) (same.stage b)) ∙ made));
    given = λ b h.
        let was : HasClient old.player.clients.items b = moved old.player.clients.items new.player.clients.items b (sym blocks) h in
        subst (λ (j : Intake). GivenIs next (suc lines) b j) (sym (given b was)) (same_given before next lines b (given_in p b) same (behind.given b was));
  }

module _ {F R I O : Type 0} (f : files.Ghosts F) (r : roads.Ghosts R I O) (i : link_in.Ghosts I) (o : link_out.Ghosts O) (old new : Playing F I O) (road road' : R) where
  -- what was drawn, or stepped
  pub drawn_left : (number : ℕ) (line : Instruction) (before : Before) (lines : ℕ) (p q : PlayState) → Passes before (after before line) → Stays p q → PlaysLine (blocks_in old) number line p q → IsBehind before lines p old → AsksBelow number p → IsDrawn f r i o p q old new road'
      → LineLeft f r i o number line before lines p old new road'
  drawn_left number line before lines p q same stays plays behind asked d = record {
    left = q;
    plays = plays;
    nodes = stays.nodes;
    is = d.is;
    blocks = d.blocks;
    behind = behind_next r i o before (after before line) lines p q old new same stays.nodes stays.rules d.blocks d.given behind;
    asked = asked_next number q (stays.below number asked);
  }

  pub run_shows : (line : Instruction) (count : ℕ) (result : Result (Unit {0}) PlayFault) → line ≡ says.Run count → RunShows f r i o count old new road road' result → LineShows f r i o line old new road road' result
  run_shows line count result e shows = subst (λ (x : Instruction). LineShows f r i o x old new road road' result) (sym e) (λ number before lines p stands behind asked l here few. by number before lines p behind asked result (shows p stands))
    where
      by : (number : ℕ) (before : Before) (lines : ℕ) (p : PlayState) → IsBehind before lines p old → AsksBelow number p → (result : Result (Unit {0}) PlayFault) → RunEnds f r i o count p old new road road' result → LineEnds f r i o number (says.Run count) before lines p old new road road' result
      by number before lines p behind asked (Ok u) d = drawn_left number (says.Run count) before lines p (draws (blocks_in old) count p) (record { nodes = refl; written = refl; stage = λ x. refl }) (draws_stay (blocks_in old) count p) refl behind asked d
      by number before lines p behind asked (Err why) cause = cause

  pub settle_shows : (line : Instruction) (result : Result (Unit {0}) PlayFault) → line ≡ says.Settle → SettleShows f r i o old new road road' result → LineShows f r i o line old new road road' result
  settle_shows line result e shows = subst (λ (x : Instruction). LineShows f r i o x old new road road' result) (sym e) (λ number before lines p stands behind asked l here few. by number before lines p behind asked result (shows p stands))
    where
      by : (number : ℕ) (before : Before) (lines : ℕ) (p : PlayState) → IsBehind before lines p old → AsksBelow number p → (result : Result (Unit {0}) PlayFault) → SettleEnds f r i o p old new road road' result → LineEnds f r i o number says.Settle before lines p old new road road' result
      by number before lines p behind asked (Ok u) d = drawn_left number says.Settle before lines p d.after (record { nodes = refl; written = refl; stage = λ x. refl })
          (subst (λ (q : PlayState). Stays p q) d.settles.drawn_so (draws_stay (blocks_in old) d.settles.count p)) d.settles behind asked d.left
      by number before lines p behind asked (Err why) cause = cause

  pub step_shows : (line : Instruction) (block : BlockId) (event : StepEvent) (result : Result (Unit {0}) PlayFault) → line ≡ says.Step block event → StepShows f r i o block event old new road road' result → LineShows f r i o line old new road road' result
  step_shows line block event result e shows = subst (λ (x : Instruction). LineShows f r i o x old new road road' result) (sym e)
      (λ number before lines p stands behind asked l here few. by number before lines p behind asked result (shows p stands (behind.clients block.0 (created_made before block.0 l.kept.0))))
    where
      by : (number : ℕ) (before : Before) (lines : ℕ) (p : PlayState) → IsBehind before lines p old → AsksBelow number p → (result : Result (Unit {0}) PlayFault) → StepEnds f r i o block event p old new road road' result → LineEnds f r i o number (says.Step block event) before lines p old new road road' result
      by number before lines p behind asked (Ok u) d = drawn_left number (says.Step block event) before lines p (stepped p (step_due (world_of p) block.0 event)) (record { nodes = refl; written = refl; stage = λ x. refl }) (stepped_stays p (step_due (world_of p) block.0 event)) refl behind asked d
      by number before lines p behind asked (Err why) cause = cause

  pub cut_shows : (line : Instruction) (block : BlockId) (place down up : ℕ) (result : Result (Unit {0}) PlayFault) → line ≡ says.Cut block place down up → CutShows f r i o block place down up old new road road' result → LineShows f r i o line old new road road' result
  cut_shows line block place down up result e shows = subst (λ (x : Instruction). LineShows f r i o x old new road road' result) (sym e) (λ number before lines p stands behind asked l here few. by number before lines p behind asked result (shows p stands))
    where
      by : (number : ℕ) (before : Before) (lines : ℕ) (p : PlayState) → IsBehind before lines p old → AsksBelow number p → (result : Result (Unit {0}) PlayFault) → CutEnds f r i o block place down up p old new road road' result → LineEnds f r i o number (says.Cut block place down up) before lines p old new road road' result
      by number before lines p behind asked (Ok u) d = drawn_left number (says.Cut block place down up) before lines p (cut_at p (pipeline_conn (world_of p) block.0 place) down up) (record { nodes = refl; written = refl; stage = λ x. refl }) (cut_stays p (pipeline_conn (world_of p) block.0 place) down up) refl behind asked d
      by number before lines p behind asked (Err why) cause = cause

  pub stop_shows : (line : Instruction) (n : NodeId) (result : Result (Unit {0}) PlayFault) → line ≡ says.Stop n → StopShows f r i o n old new road road' result → LineShows f r i o line old new road road' result
  stop_shows line n result e shows = subst (λ (x : Instruction). LineShows f r i o x old new road road' result) (sym e) (λ number before lines p stands behind asked l here few. by number before lines p behind asked result (shows p stands))
    where
      by : (number : ℕ) (before : Before) (lines : ℕ) (p : PlayState) → IsBehind before lines p old → AsksBelow number p → (result : Result (Unit {0}) PlayFault) → StopEnds f r i o n p old new road road' result → LineEnds f r i o number (says.Stop n) before lines p old new road road' result
      by number before lines p behind asked (Ok u) d = drawn_left number (says.Stop n) before lines p (stop_at p n) (record { nodes = refl; written = refl; stage = λ x. refl }) (stop_stays p n) refl behind asked d
      by number before lines p behind asked (Err why) cause = cause

-- NO EVENT

-- The line is none of these.
abbrev pub IsOther : Instruction → Type 0
IsOther (says.Sums b rule) = ⊥
IsOther (says.Run count) = ⊥
IsOther says.Settle = ⊥
IsOther (says.Step b event) = ⊥
IsOther (says.Cut b place down up) = ⊥
IsOther (says.Fault n nth) = ⊥
IsOther (says.Stop n) = ⊥
IsOther (says.Start n) = ⊥
IsOther (says.Read b n offset count) = ⊥
IsOther (says.Recover b n members) = ⊥
IsOther line = Unit {0}

pub is_other : (line : Instruction) → ((b : BlockId) (rule : Rule) → line ≡ says.Sums b rule → ⊥) → ((count : ℕ) → line ≡ says.Run count → ⊥) → (line ≡ says.Settle → ⊥) → ((b : BlockId) (event : StepEvent) → line ≡ says.Step b event → ⊥) → ((b : BlockId) (place down up : ℕ) → line ≡ says.Cut b place down up → ⊥) → ((n : NodeId) → line ≡ says.Stop n → ⊥) → is_start line ≡ false → is_fault line ≡ false → is_read line ≡ false → is_recovery line ≡ false → IsOther line
is_other (says.Sums b rule) sums runs settles steps cuts stops other fails asks recovers = sums b rule refl
is_other (says.Run count) sums runs settles steps cuts stops other fails asks recovers = runs count refl
is_other says.Settle sums runs settles steps cuts stops other fails asks recovers = settles refl
is_other (says.Step b event) sums runs settles steps cuts stops other fails asks recovers = steps b event refl
is_other (says.Read b n offset count) sums runs settles steps cuts stops other fails asks recovers = absurd (true_false asks)
is_other (says.Recover b n members) sums runs settles steps cuts stops other fails asks recovers = absurd (true_false recovers)
is_other (says.Cut b place down up) sums runs settles steps cuts stops other fails asks recovers = cuts b place down up refl
is_other (says.Fault n nth) sums runs settles steps cuts stops other fails asks recovers = absurd (true_false fails)
is_other (says.Stop n) sums runs settles steps cuts stops other fails asks recovers = stops n refl
is_other (says.Start n) sums runs settles steps cuts stops other fails asks recovers = absurd (true_false other)
is_other (says.Expect n b state stamp written) sums runs settles steps cuts stops other fails asks recovers = tt
is_other (says.Nodes count) sums runs settles steps cuts stops other fails asks recovers = tt
is_other (says.Seed seed) sums runs settles steps cuts stops other fails asks recovers = tt
is_other (says.Create b members) sums runs settles steps cuts stops other fails asks recovers = tt
is_other (says.Append b members) sums runs settles steps cuts stops other fails asks recovers = tt
is_other (says.Write b bytes) sums runs settles steps cuts stops other fails asks recovers = tt
is_other (says.Fill b count) sums runs settles steps cuts stops other fails asks recovers = tt
is_other (says.Hflush b) sums runs settles steps cuts stops other fails asks recovers = tt
is_other (says.Hsync b) sums runs settles steps cuts stops other fails asks recovers = tt
is_other (says.Close b) sums runs settles steps cuts stops other fails asks recovers = tt

idle_passes : (before : Before) (line : Instruction) → ordered_by line ≡ None → IsOther line → WordsFit before.nodes line → Passes before (after before line)
idle_passes before (says.Read b n offset count) none other words = absurd other
idle_passes before (says.Recover b n members) none other words = absurd other
idle_passes before (says.Cut b place down up) none other words = absurd other
idle_passes before (says.Fault n nth) none other words = absurd other
idle_passes before (says.Stop n) none other words = absurd other
idle_passes before (says.Start n) none other words = absurd other
idle_passes before (says.Expect n b state stamp written) none other words = record { nodes = refl; written = refl; stage = λ x. refl }
idle_passes before (says.Nodes count) none other words = absurd words
idle_passes before (says.Seed seed) none other words = absurd words
idle_passes before (says.Sums b rule) none other words = absurd other
idle_passes before (says.Run count) none other words = absurd other
idle_passes before says.Settle none other words = absurd other
idle_passes before (says.Step b event) none other words = absurd other
idle_passes before (says.Create b members) none other words = cc
idle_passes before (says.Append b members) none other words = cc
idle_passes before (says.Write b bytes) none other words = cc
idle_passes before (says.Fill b count) none other words = cc
idle_passes before (says.Hflush b) none other words = cc
idle_passes before (says.Hsync b) none other words = cc
idle_passes before (says.Close b) none other words = cc

idle_plays : (blocks : List ℕ) (number : ℕ) (p : PlayState) (line : Instruction) → ordered_by line ≡ None → IsOther line → PlaysLine blocks number line p p
idle_plays blocks number p (says.Read b n offset count) none other = absurd other
idle_plays blocks number p (says.Recover b n members) none other = absurd other
idle_plays blocks number p (says.Cut b place down up) none other = absurd other
idle_plays blocks number p (says.Fault n nth) none other = absurd other
idle_plays blocks number p (says.Stop n) none other = absurd other
idle_plays blocks number p (says.Start n) none other = absurd other
idle_plays blocks number p (says.Expect n b state stamp written) none other = refl
idle_plays blocks number p (says.Nodes count) none other = refl
idle_plays blocks number p (says.Seed seed) none other = refl
idle_plays blocks number p (says.Sums b rule) none other = absurd other
idle_plays blocks number p (says.Run count) none other = absurd other
idle_plays blocks number p says.Settle none other = absurd other
idle_plays blocks number p (says.Step b event) none other = absurd other
idle_plays blocks number p (says.Create b members) none other = cc
idle_plays blocks number p (says.Append b members) none other = cc
idle_plays blocks number p (says.Write b bytes) none other = cc
idle_plays blocks number p (says.Fill b count) none other = cc
idle_plays blocks number p (says.Hflush b) none other = cc
idle_plays blocks number p (says.Hsync b) none other = cc
idle_plays blocks number p (says.Close b) none other = cc

module _ {F R I O : Type 0} (f : files.Ghosts F) (r : roads.Ghosts R I O) (i : link_in.Ghosts I) (o : link_out.Ghosts O) (old : Playing F I O) (road : R) where
  -- a line that does nothing
  idle_left : (number : ℕ) (line : Instruction) (before : Before) (lines : ℕ) (p : PlayState) → Passes before (after before line) → PlaysLine (blocks_in old) number line p p → IsBehind before lines p old → AsksBelow number p → PlayIs f r i o p road old
      → LineLeft f r i o number line before lines p old old road
  idle_left number line before lines p same plays behind asked stands = record {
    left = p;
    plays = plays;
    nodes = refl;
    is = stands;
    blocks = refl;
    behind = behind_next r i o before (after before line) lines p p old old same refl refl refl (λ b h. refl) behind;
    asked = asked_next number p asked;
  }

  pub idle_shows : (line : Instruction) → ordered_by line ≡ None → IsOther line → LineShows f r i o line old old road road (Ok tt)
  idle_shows line none other = λ number before lines p stands behind asked l here few. idle_left number line before lines p (idle_passes before line none other l.words) (idle_plays (blocks_in old) number p line none other) behind asked stands

-- RULES

none_created : (before : Before) (b : ℕ) → is_none (before.stage b) ≡ true → is_created (before.stage b) ≡ false
none_created before b e = by (before.stage b) e
  where
    by : (s : _) → is_none s ≡ true → is_created s ≡ false
    by None e = refl
    by (Some s) e = absurd (true_false (sym e))

module _ {F R I O : Type 0} (f : files.Ghosts F) (r : roads.Ghosts R I O) (i : link_in.Ghosts I) (o : link_out.Ghosts O) (old new : Playing F I O) (road : R) (block : BlockId) (rule : Rule) where
  -- a rule of a block that has no client
  ruled_alone : (p : PlayState) → client_place old.player.clients.items block.0 ≡ None → PlayIs f r i o p road old → PlayIs f r i o (ruled p block.0 rule) road old
  ruled_alone p none stands = record {
    stands = stands.stands;
    nodes_are = stands.nodes_are;
    events = stands.events;
    generator = stands.generator;
    faults = stands.faults;
    asks = stands.asks;
    told = stands.told;
    recovers = stands.recovers;
    formed = stands.formed;
    live = stands.live;
    rules = λ k c at. stands.rules k c at ∙ sym (put-there p.rules block.0 rule c.block.0 (λ same. has_place old.player.clients.items block.0 (record { place = k; client = c; found = at; block = same }) none));
  }

  module _ (before : Before) (lines : ℕ) (p : PlayState) (behind : IsBehind before lines p old) (l : LineFits before (says.Sums block rule)) (blocks : blocks_in new ≡ blocks_in old) where
    abbrev next : Before
    next = after before (says.Sums block rule)

    made_not : (x : ℕ) → (x == block.0) ≡ true → is_made next x ≡ false
    made_not x e = rw (e) refl

    stage_there : (x : ℕ) → (x == block.0) ≡ false → next.stage x ≡ before.stage x
    stage_there x e = rw (e) refl

    stand_here : (x : ℕ) (j : Intake) → (x == block.0) ≡ true → GivenIs before lines x j → StandIs next x j.stand
    stand_here x j e g = record {
      unmade = λ _. g.stand.unmade (subst (λ (n : ℕ). is_created (before.stage n) ≡ false) (sym (eqb-true x block.0 e)) (none_created before block.0 l.kept.0));
      open_is = λ k. absurd (true_false (sym k ∙ rw (e) refl));
      closed = λ k. absurd (true_false (sym k ∙ rw (e) refl));
    }

    given_next : (x : ℕ) (j : Intake) → GivenIs before lines x j → GivenIs next (suc lines) x j
    given_next x j g = by (x == block.0) refl
      where
        by : (q : Bool) → (x == block.0) ≡ q → GivenIs next (suc lines) x j
        by true e = record { stand = stand_here x j e g; bytes = g.bytes; commands = omega (arith, g.commands) }
        by false e = record { stand = same_stand before next x j.stand (stage_there x e) g.stand; bytes = g.bytes; commands = omega (arith, g.commands) }

    clients_next : (x : ℕ) → is_made next x ≡ true → HasClient old.player.clients.items x
    clients_next x made = by (x == block.0) refl
      where
        by : (q : Bool) → (x == block.0) ≡ q → HasClient old.player.clients.items x
        by true e = absurd (true_false (sym made ∙ made_not x e))
        by false e = behind.clients x (sym (ap (λ s. is_created s || (is_open s || is_closed s)) (stage_there x e)) ∙ made)

    rules_next : (x : ℕ) → IsChunkSize (put p.rules block.0 rule x).chunk
    rules_next x = by (x == block.0) refl
      where
        by : (q : Bool) → (x == block.0) ≡ q → IsChunkSize (put p.rules block.0 rule x).chunk
        by true e = subst (λ (y : Bool). IsChunkSize (if y then rule else p.rules x).chunk) (sym e) l.words
        by false e = subst (λ (y : Bool). IsChunkSize (if y then rule else p.rules x).chunk) (sym e) (behind.chunks x)

    behind_rule : IsBehind next (suc lines) (ruled p block.0 rule) new
    behind_rule = record {
      nodes = behind.nodes;
      written = behind.written;
      chunks = rules_next;
      clients = λ x made. moved new.player.clients.items old.player.clients.items x blocks (clients_next x made);
      given = λ x h. given_next x (given_in p x) (behind.given x (moved old.player.clients.items new.player.clients.items x (sym blocks) h));
    }

    ruled_left : (number : ℕ) → AsksBelow number p → PlayIs f r i o (ruled p block.0 rule) road new → LineLeft f r i o number (says.Sums block rule) before lines p old new road
    ruled_left number asked stands = record { left = ruled p block.0 rule; plays = refl; nodes = refl; is = stands; blocks = blocks; behind = behind_rule; asked = asked_next number p asked }

module _ {F R I O : Type 0} (f : files.Ghosts F) (r : roads.Ghosts R I O) (i : link_in.Ghosts I) (o : link_out.Ghosts O) (old new : Playing F I O) (road : R) (block : BlockId) (rule : Rule) (plays : RulesArePlays f r i o) where
  rule_left : (number : ℕ) (before : Before) (lines : ℕ) (p : PlayState) → PlayIs f r i o p road old → IsBehind before lines p old → AsksBelow number p → LineFits before (says.Sums block rule) → (place : Option ℕ) → client_place old.player.clients.items block.0 ≡ place → RulesAt block rule place old new
      → LineLeft f r i o number (says.Sums block rule) before lines p old new road
  rule_left number before lines p stands behind asked l None none h =
      ruled_left f r i o old new road block rule before lines p behind l (ap (λ (x : Playing F I O). blocks_in x) h) number asked
      (subst (λ (x : Playing F I O). PlayIs f r i o (ruled p block.0 rule) road x) (sym h) (ruled_alone f r i o old new road block rule p none stands))
  rule_left number before lines p stands behind asked l (Some place) there h =
      let left : IsLeft f r i o (ruled p block.0 rule) old new road = plays old new block rule place p road h stands in
      ruled_left f r i o old new road block rule before lines p behind l left.blocks number asked left.is

  pub rule_shows : (line : Instruction) → line ≡ says.Sums block rule → Rules block rule old new → LineShows f r i o line old new road road (Ok tt)
  rule_shows line e h = subst (λ (x : Instruction). LineShows f r i o x old new road road (Ok tt)) (sym e)
      (λ number before lines p stands behind asked l here few. rule_left number before lines p stands behind asked l (client_place old.player.clients.items block.0) refl h)

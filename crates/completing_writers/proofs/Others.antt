-- What an own step of a writer leaves of other blocks, and what it owes so that the play stays as it should be.
use Rattle.std.proofs.Common.{◌≡◌, ℕ, Bool, true, false, List, ◌++◌, length, refl, sym, ◌∙◌, ap, subst, eqb-true}
use Rattle.std.specs.Prelude.{◌==◌, if◌then◌else◌}
use Rattle.hd_base.specs.declared.numbers.BlockId.{BlockId}
use Rattle.name_core.specs.Offices.{record_of}
use Rattle.packet_stream.specs.Streams.{written_in}
use Rattle.replica_model.specs.Rows.{FullReplica}
use Rattle.writer_core.specs.declared.commands.Command.{Command}
use Rattle.writer_core.specs.declared.intake.Stand.{Stand}
use Rattle.writer_core.specs.declared.intake.Stand.TheVariants as stand
use Rattle.writer_core.specs.declared.phases.Phase.{Phase}
use Rattle.writer_core.specs.declared.phases.Phase.TheVariants as phase
use Rattle.writer_core.specs.declared.phases.Setup.{Setup}
use Rattle.writer_core.specs.declared.phases.Setup.TheVariants as setup
use Rattle.writer_core.specs.declared.records.WriterRecord.{WriterRecord}
use Rattle.world.specs.declared.events.Event.{Event}
use Rattle.world.specs.declared.events.TakenCommand.{TakenCommand}
use Rattle.world.specs.Parts.{Writing, Said}
use Rattle.world.specs.Worlds.{World, start}
use Rattle.world.specs.Events.{run}
use Rattle.world_laws.proofs.RunLaws.{runs-join}
use Rattle.play_model.specs.declared.dues.Due.TheVariants as due
use Rattle.play_model.specs.States.{PlayState, world_of}
use Rattle.play_model.specs.Dues.{queue_left, action_of, due_events, after_due}
use Rattle.play_model.specs.Laws.{IsQuiet}
use Rattle.play_completeness.proofs.PlayLaws.Untold.{stays-quiet}
use Rattle.play_completeness.specs.Plain.{ArePlain}
use Rattle.play_completeness.specs.Links.{IsFinalWith, Links}
use Rattle.play_completeness.specs.Writers.{IsUnknown, IsOpened, AreWhole, IsClosed, RestsWell, WantsWell, WellIn, WriterWell, Writers}
use Rattle.play_completeness.specs.Played.{DoneSoFar, QueueFits, BlockPlayed, Played}
use Rattle.play_completeness.proofs.Peace.{all-peaceful}
use Rattle.play_completeness.proofs.Plays.{plain-join, due-plain}
use Rattle.completing_writers.proofs.Leaving.{Aside}

-- A BLOCK OF WHICH ALL STAYS

-- what the office has of a block, its replicas, and what its latest session has
pub record SameBlock (w v : World) (b : ℕ) : Type 0 where
  pub entry : record_of v.office (record { 0 = b }) ≡ record_of w.office (record { 0 = b })
  pub replicas : (n : ℕ) → v.replicas n b ≡ w.replicas n b
  pub written : v.written (v.latest b) ≡ w.written (w.latest b)

module _ (w v : World) (b : ℕ) (s : SameBlock w v b) where
  pub unknown-kept : IsUnknown w b → IsUnknown v b
  unknown-kept h = record { entry = s.entry ∙ h.entry; none = λ n. ap (λ (r : FullReplica). r.known.info) (s.replicas n) ∙ h.none n }

  pub opened-kept : IsOpened w b → IsOpened v b
  opened-kept h = record { entry = h.entry; is = s.entry ∙ h.is; open_is = h.open_is }

  pub whole-kept : (x : WriterRecord) → AreWhole w b x → AreWhole v b x
  whole-kept x h = record { each = λ m has. subst (λ (r : FullReplica). IsFinalWith x.committed (written_in x.stream) x.stream.rule r) (sym (s.replicas m.0)) (h.each m has) }

  pub closed-kept : (x : WriterRecord) → IsClosed w b x → IsClosed v b x
  closed-kept x h = record {
    office = record { entry = h.office.entry; is = s.entry ∙ h.office.is; shut = h.office.shut; length_is = h.office.length_is };
    all = ap (λ (l : List ℕ). length l) s.written ∙ h.all;
    members = whole-kept x h.members;
  }

  rests-kept : (x : WriterRecord) (a : Stand) → RestsWell w b x a → RestsWell v b x a
  rests-kept x stand.Unmade h = unknown-kept h
  rests-kept x stand.Open h = h
  rests-kept x stand.Closed h = closed-kept x h

  wants-kept : (x : WriterRecord) (a : Setup) → WantsWell w b x a → WantsWell v b x a
  wants-kept x setup.Create h = unknown-kept h
  wants-kept x setup.Append h = closed-kept x h
  wants-kept x setup.AppendRecovery h = h
  wants-kept x setup.StreamRecovery h = h
  wants-kept x setup.CloseRecovery h = h

  in-kept : (x : WriterRecord) (q : Phase) → WellIn w b x q → WellIn v b x q
  in-kept x phase.Closed h = (h.0, rests-kept x x.intake.stand h.1)
  in-kept x (phase.Wanted a) h = (h.0, h.1, wants-kept x a h.2)
  in-kept x (phase.Requested a stamp) h = record { office = opened-kept h.office; opens = h.opens; waits = h.waits; stand = h.stand; none = h.none }
  in-kept x (phase.Accepted a stamp) h = record { office = opened-kept h.office; opens = h.opens; waits = h.waits; stand = h.stand; none = h.none }
  in-kept x (phase.Streaming sent) h = record { office = opened-kept h.office; sent_all = h.sent_all; waits = h.waits; stand = h.stand }
  in-kept x phase.Closing h = record { office = opened-kept h.office; waits = h.waits; some = h.some }
  in-kept x phase.Finished h = record { office = opened-kept h.office; waits = h.waits; members = whole-kept x h.members }
  in-kept x (phase.Stamped a stamp) h = h
  in-kept x phase.Opened h = h
  in-kept x phase.Completed h = h
  in-kept x (phase.Failed f) h = h

  pub well-kept : (x : WriterRecord) → WriterWell w b x → WriterWell v b x
  well-kept x h = record { stream = h.stream; phase_is = in-kept x x.phase h.phase_is }

-- what was done of the commands of a block of which nothing happens
pub block-kept : (w v : World) (b : ℕ) (queue : List TakenCommand) (commands : List Command) → v.written (v.latest b) ≡ w.written (w.latest b) → v.said b ≡ w.said b → v.writers b ≡ w.writers b → v.nodes ≡ w.nodes
    → BlockPlayed w b queue commands → BlockPlayed v b queue commands
block-kept w v b queue commands written said writer nodes h = record {
  taken = h.taken;
  are = h.are;
  writes = h.writes;
  number = ap (λ (y : Writing). y.known.taken) writer ∙ h.number;
  stand = ap (λ (y : Writing). y.known.intake.stand) writer ∙ h.stand;
  members = λ i created e. ap (λ (y : Writing). y.known.members) writer ∙ h.members i created e;
  answers = subst (λ (y : Writing). DoneSoFar h.taken (v.said b) y.known.waiting) (sym writer) (subst (λ (l : List Said). DoneSoFar h.taken l (w.writers b).known.waiting) (sym said) h.answers);
  bytes = written ∙ h.bytes;
  queued = subst (λ (y : Writing). QueueFits v.nodes y.known.intake queue) (sym writer) (subst (λ (n : ℕ). QueueFits n (w.writers b).known.intake queue) (sym nodes) h.queued);
}

same-block : (w v : World) (b : ℕ) (new : Writing) → Aside w v b new → (k : ℕ) → (k == b) ≡ false → SameBlock w v k
same-block w v b new a k other = record { entry = a.entries k other; replicas = λ n. a.replicas n k; written = a.written k other }

-- THE PLAY

-- it is as it should be after an own step of the writer of this block, and no session has the number 0
abbrev pub Kept : PlayState → (ℕ → List Command) → BlockId → Type 0
Kept p commands b = Played (after_due p (due.Own b)) commands × ((world_of (after_due p (due.Own b))).written 0 ≡ (world_of p).written 0)

module _ (p : PlayState) (commands : ℕ → List Command) (h : Played p commands) (b : BlockId) where
  abbrev w : World
  w = world_of p

  abbrev events : List Event
  events = due_events w p.queues (due.Own b)

  abbrev left : List TakenCommand
  left = queue_left (action_of w b) (p.queues b.0)

  -- the world after what happens
  pub after-is : world_of (after_due p (due.Own b)) ≡ run w events
  unfolding after_due
  after-is = runs-join (start p.nodes) p.events events

  plain : ArePlain (p.events ++ events)
  plain = plain-join p.events events h.plain (due-plain w p.queues (due.Own b) tt)

  writers-all : (v : World) (new : Writing) → Aside w v b.0 new → WriterWell v b.0 new.known → Writers v
  writers-all v new a well k = go (k == b.0) refl
    where
      go : (q : Bool) → (k == b.0) ≡ q → WriterWell v k (v.writers k).known
      go true e = subst (λ (i : ℕ). WriterWell v i (v.writers i).known) (sym (eqb-true k b.0 e)) (subst (λ (y : Writing). WriterWell v b.0 y.known) (sym a.writer) well)
      go false e = subst (λ (y : Writing). WriterWell v k y.known) (sym (a.writers k e)) (well-kept w v k (same-block w v b.0 new a k e) (w.writers k).known (h.writers k))

  blocks-all : (v : World) (new : Writing) → Aside w v b.0 new → BlockPlayed v b.0 left (commands b.0) → (k : ℕ) → BlockPlayed v k (if k == b.0 then left else p.queues k) (commands k)
  blocks-all v new a own k = go (k == b.0) refl
    where
      go : (q : Bool) → (k == b.0) ≡ q → BlockPlayed v k (if q then left else p.queues k) (commands k)
      go true e = subst (λ (i : ℕ). BlockPlayed v i left (commands i)) (sym (eqb-true k b.0 e)) own
      go false e = block-kept w v k (p.queues k) (commands k) (a.written k e) (a.said k e) (a.writers k e) a.nodes (h.blocks k)

  -- What a step owes for its own block, and for the connections.
  pub folds : (v : World) (new : Writing) → run w events ≡ v → Aside w v b.0 new → Links v → WriterWell v b.0 new.known → BlockPlayed v b.0 left (commands b.0) → Kept p commands b
  unfolding after_due
  folds v new is a links well own =
      let at : run (start p.nodes) (p.events ++ events) ≡ v = runs-join (start p.nodes) p.events events ∙ is in (
        record {
          recoveries = h.recoveries;
          unarmed = h.unarmed;
          plain = plain;
          quiet = subst IsQuiet (sym (runs-join (start p.nodes) p.events events)) (stays-quiet w p.queues (due.Own b) h.quiet);
          peaceful = all-peaceful p.nodes (p.events ++ events) plain;
          links = subst Links (sym at) links;
          writers = subst Writers (sym at) (writers-all v new a well);
          blocks = λ k. subst (λ (u : World). BlockPlayed u k (if k == b.0 then left else p.queues k) (commands k)) (sym at) (blocks-all v new a own k);
        },
        ap (λ (u : World). u.written 0) at ∙ a.unused,
      )

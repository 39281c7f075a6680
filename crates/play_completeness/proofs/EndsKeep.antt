-- What an end that isn't a writer's does keeps the writers as they should be, and what was done of each block's
-- commands.
use Rattle.std.proofs.Common.{◌≡◌, ℕ, Bool, true, false, List, length, Option, refl, sym, ◌∙◌, ap, subst, eqb-true}
use Rattle.std.specs.Prelude.{◌==◌}
use Rattle.std.proofs.lemmas.Bool.{false≢true}
use Rattle.hd_base.specs.SumRules.{Rule}
use Rattle.name_core.specs.Offices.{OfficeState, record_of}
use Rattle.packet_stream.specs.Streams.{written_in}
use Rattle.replica_model.specs.Rows.{FullReplica}
use Rattle.writer_core.specs.declared.commands.Command.{Command}
use Rattle.writer_core.specs.declared.intake.Intake.{Intake}
use Rattle.writer_core.specs.declared.intake.Stand.{Stand}
use Rattle.writer_core.specs.declared.intake.Stand.TheVariants as stand
use Rattle.writer_core.specs.declared.phases.Phase.{Phase}
use Rattle.writer_core.specs.declared.phases.Phase.TheVariants as phase
use Rattle.writer_core.specs.declared.phases.Setup.{Setup}
use Rattle.writer_core.specs.declared.phases.Setup.TheVariants as setup
use Rattle.writer_core.specs.declared.phases.Waiting.{Waiting}
use Rattle.writer_core.specs.declared.records.WriterRecord.{WriterRecord}
use Rattle.writer_core.specs.Transitions.{is_connected}
use Rattle.world.specs.declared.events.TakenCommand.{TakenCommand}
use Rattle.world.specs.Parts.{Said, Writing}
use Rattle.world.specs.Worlds.{World}
use Rattle.play_completeness.specs.Formed.{HasRule, AllHave, Ruled}
use Rattle.play_completeness.specs.Links.{IsFinalWith}
use Rattle.play_completeness.specs.Writers.{IsUnknown, IsOpened, IsShut, AreWhole, IsClosed, OpensWell, RestsWell, WantsWell, WellIn, WriterWell, Writers}
use Rattle.play_completeness.specs.Played.{QueueFits, DoneSoFar, BlockPlayed}
use Rattle.play_completeness.proofs.EndTurns.{EndTurned}

-- THE OFFICE, AND REPLICAS

-- All stays that a writer speaks of, and the replicas of its block where it isn't connected.
pub record SameFor (w v : World) (b : ℕ) (connected : Bool) : Type 0 where
  pub office : v.office ≡ w.office
  pub latest : v.latest b ≡ w.latest b
  pub written : (s : ℕ) → v.written s ≡ w.written s
  pub replicas : connected ≡ false → (n : ℕ) → v.replicas n b ≡ w.replicas n b

opened-same : (w v : World) (b : ℕ) → v.office ≡ w.office → IsOpened w b → IsOpened v b
opened-same w v b e h = record { entry = h.entry; is = ap (λ (o : OfficeState). record_of o (record { 0 = b })) e ∙ h.is; open_is = h.open_is }

shut-same : (w v : World) (b n : ℕ) → v.office ≡ w.office → IsShut w b n → IsShut v b n
shut-same w v b n e h = record { entry = h.entry; is = ap (λ (o : OfficeState). record_of o (record { 0 = b })) e ∙ h.is; shut = h.shut; length_is = h.length_is }

module _ (w v : World) (b : ℕ) (connected : Bool) (s : SameFor w v b connected) (off : connected ≡ false) where
  unknown-same : IsUnknown w b → IsUnknown v b
  unknown-same h = record { entry = ap (λ (o : OfficeState). record_of o (record { 0 = b })) s.office ∙ h.entry; none = λ n. ap (λ (r : FullReplica). r.known.info) (s.replicas off n) ∙ h.none n }

  whole-same : (x : WriterRecord) → AreWhole w b x → AreWhole v b x
  whole-same x h = record {
    each = λ m has. subst (λ (r : FullReplica). IsFinalWith x.committed (written_in x.stream) x.stream.rule r) (sym (s.replicas off m.0)) (h.each m has);
  }

  closed-same : (x : WriterRecord) → IsClosed w b x → IsClosed v b x
  closed-same x h = record {
    office = shut-same w v b (written_in x.stream) s.office h.office;
    all = ap (λ (l : List ℕ). length l) (s.written (v.latest b) ∙ ap w.written s.latest) ∙ h.all;
    members = whole-same x h.members;
  }

  rests-same : (x : WriterRecord) (t : Stand) → RestsWell w b x t → RestsWell v b x t
  rests-same x stand.Unmade h = unknown-same h
  rests-same x stand.Open h = h
  rests-same x stand.Closed h = closed-same x h

  wants-same : (x : WriterRecord) (t : Setup) → WantsWell w b x t → WantsWell v b x t
  wants-same x setup.Create h = unknown-same h
  wants-same x setup.Append h = closed-same x h
  wants-same x setup.AppendRecovery h = h
  wants-same x setup.StreamRecovery h = h
  wants-same x setup.CloseRecovery h = h

opens-same : (w v : World) (b : ℕ) (x : WriterRecord) (s : Setup) → v.office ≡ w.office → OpensWell w b x s → OpensWell v b x s
opens-same w v b x s e h = record { office = opened-same w v b e h.office; opens = h.opens; waits = h.waits; stand = h.stand; none = h.none }

pub well-same : (w v : World) (b : ℕ) (x : WriterRecord) (p : Phase) → SameFor w v b (is_connected p) → WellIn w b x p → WellIn v b x p
well-same w v b x phase.Closed s h = (h.0, rests-same w v b false s refl x x.intake.stand h.1)
well-same w v b x (phase.Wanted t) s h = (h.0, h.1, wants-same w v b false s refl x t h.2)
well-same w v b x (phase.Requested t stamp) s h = opens-same w v b x t s.office h
well-same w v b x (phase.Accepted t stamp) s h = opens-same w v b x t s.office h
well-same w v b x (phase.Streaming n) s h = record { office = opened-same w v b s.office h.office; sent_all = h.sent_all; waits = h.waits; stand = h.stand }
well-same w v b x phase.Closing s h = record { office = opened-same w v b s.office h.office; waits = h.waits; some = h.some }
well-same w v b x phase.Finished s h = record { office = opened-same w v b s.office h.office; waits = h.waits; members = whole-same w v b false s refl x h.members }
well-same w v b x (phase.Stamped t stamp) s h = h
well-same w v b x phase.Opened s h = h
well-same w v b x phase.Completed s h = h
well-same w v b x (phase.Failed e) s h = h

-- THE BLOCK

-- All stays that is said of a block's commands.
pub record SameBlock (w v : World) (b : ℕ) : Type 0 where
  pub nodes : v.nodes ≡ w.nodes
  pub taken : (v.writers b).known.taken ≡ (w.writers b).known.taken
  pub intake : (v.writers b).known.intake ≡ (w.writers b).known.intake
  pub members : (v.writers b).known.members ≡ (w.writers b).known.members
  pub waiting : (v.writers b).known.waiting ≡ (w.writers b).known.waiting
  pub said : v.said b ≡ w.said b
  pub bytes : v.written (v.latest b) ≡ w.written (w.latest b)

pub block-same : (w v : World) (b : ℕ) (queue : List TakenCommand) (commands : List Command) → SameBlock w v b → BlockPlayed w b queue commands → BlockPlayed v b queue commands
block-same w v b queue commands s h = record {
  taken = h.taken;
  are = h.are;
  writes = h.writes;
  number = s.taken ∙ h.number;
  stand = ap (λ (i : Intake). i.stand) s.intake ∙ h.stand;
  members = λ i created at. s.members ∙ h.members i created at;
  answers = subst (λ (q : List Said). DoneSoFar h.taken q (v.writers b).known.waiting) (sym s.said) (subst (λ (q : Option Waiting). DoneSoFar h.taken (w.said b) q) (sym s.waiting) h.answers);
  bytes = s.bytes ∙ h.bytes;
  queued = subst (λ (n : ℕ). QueueFits n (v.writers b).known.intake queue) (sym s.nodes) (subst (λ (i : Intake). QueueFits w.nodes i queue) (sym s.intake) h.queued);
}

-- ENDS

module _ (w v : World) (block : ℕ) (rule : Rule) (t : EndTurned w v block rule) (connected : is_connected (w.writers block).known.phase ≡ true) where
  -- a writer that isn't connected is of another block
  apart : (b : ℕ) → is_connected (w.writers b).known.phase ≡ false → (b == block) ≡ false
  apart b off = go (b == block) refl
    where
      go : (q : Bool) → (b == block) ≡ q → (b == block) ≡ false
      go false e = e
      go true e = absurd (false≢true (sym off ∙ (ap (λ (n : ℕ). is_connected (w.writers n).known.phase) (eqb-true b block e) ∙ connected)))

  same-for : (b : ℕ) → SameFor w v b (is_connected (w.writers b).known.phase)
  same-for b = record { office = t.office; latest = t.latest b; written = t.written; replicas = λ off n. t.replicas n b (apart b off) }

  writer-same : (b : ℕ) → WriterWell w b (w.writers b).known → WriterWell v b (w.writers b).known
  writer-same b h = record { stream = h.stream; phase_is = well-same w v b (w.writers b).known (w.writers b).known.phase (same-for b) h.phase_is }

  pub ends-keep-writers : Writers w → Writers v
  ends-keep-writers h b = subst (λ (x : Writing). WriterWell v b x.known) (sym (t.writers b)) (writer-same b (h b))

  pub ends-keep-block : (b : ℕ) → SameBlock w v b
  ends-keep-block b = record {
    nodes = t.nodes;
    taken = ap (λ (x : Writing). x.known.taken) (t.writers b);
    intake = ap (λ (x : Writing). x.known.intake) (t.writers b);
    members = ap (λ (x : Writing). x.known.members) (t.writers b);
    waiting = ap (λ (x : Writing). x.known.waiting) (t.writers b);
    said = t.said b;
    bytes = t.written (v.latest b) ∙ ap w.written (t.latest b);
  }

  -- the rule is that of the writer of the block
  pub ends-keep-ruled : rule ≡ (w.writers block).known.stream.rule → Ruled w → Ruled v
  ends-keep-ruled same h b = go (b == block) refl
    where
      own : AllHave v block (w.writers block).known.stream.rule
      own = subst (λ (r : Rule). AllHave v block r) same (t.rules (subst (λ (r : Rule). AllHave w block r) (sym same) (h block)))

      go : (q : Bool) → (b == block) ≡ q → AllHave v b (v.writers b).known.stream.rule
      go true e = subst (λ (x : Writing). AllHave v b x.known.stream.rule) (sym (t.writers b)) (subst (λ (n : ℕ). AllHave v n (w.writers n).known.stream.rule) (sym (eqb-true b block e)) own)
      go false e =
          subst (λ (x : Writing). AllHave v b x.known.stream.rule) (sym (t.writers b))
          (record { each = λ n. subst (λ (r : FullReplica). HasRule (w.writers b).known.stream.rule r) (sym (t.replicas n b e)) ((h b).each n) })

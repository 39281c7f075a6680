-- A writer's own step, and the office's answer to it, leave each replica the rule of its block's writer.
use Rattle.std.proofs.Common.{◌≡◌, ℕ, Bool, true, false, List, [], ◌∷◌, Option, Some, None, IfSome, refl, sym, ◌∙◌, ap, subst, eqb-true, ◌⊎◌, inl, inr}
use Rattle.std.specs.Prelude.{◌==◌, ◌&&◌, not, is_none}
use Rattle.hd_base.specs.SumRules.{Rule}
use Rattle.hd_base.specs.declared.numbers.NodeId.{NodeId}
use Rattle.hd_base.specs.declared.numbers.Stamp.{Stamp}
use Rattle.op_headers.specs.declared.ops.Op.{Op}
use Rattle.replica_core.specs.declared.info.ReplicaInfo.{ReplicaInfo}
use Rattle.replica_model.specs.Rows.{FullReplica}
use Rattle.writer_core.specs.declared.actions.Action.{Action}
use Rattle.writer_core.specs.declared.actions.Action.TheVariants as action
use Rattle.writer_core.specs.declared.commands.Command.{Command}
use Rattle.writer_core.specs.declared.commands.Command.TheVariants as command
use Rattle.writer_core.specs.declared.phases.Phase.{Phase}
use Rattle.writer_core.specs.declared.phases.Phase.TheVariants as phase
use Rattle.writer_core.specs.declared.phases.Setup.{Setup}
use Rattle.writer_core.specs.declared.phases.Waiting.{Waiting}
use Rattle.writer_core.specs.declared.records.WriterRecord.{WriterRecord}
use Rattle.writer_core.specs.Sound.{Sound}
use Rattle.writer_core.specs.Transitions.{given, granted, dialled, dial_step_as, open_step, completed_step, own_step}
use Rattle.writer_core.proofs.SoundLemmas.{given_sound}
use Rattle.world.specs.declared.events.Event.{Event}
use Rattle.world.specs.declared.events.TakenCommand.{TakenCommand}
use Rattle.world.specs.Parts.{Told, Writing}
use Rattle.world.specs.Worlds.{World, Change, put, put_at, apply}
use Rattle.world.specs.Clients.{writer_change, did, dialled_change, dialling, rest_in, is_formed, ruled, command_bytes, is_empty, takes_command, writer_step, own_writer}
use Rattle.world.specs.Primaries.{writer_asks, writer_asks_office}
use Rattle.world.specs.Events.{changed, after_event}
use Rattle.world_laws.specs.Stamping.{heard, known_heard}
use Rattle.world_laws.proofs.FactTables.{when-each}
use Rattle.world_laws.proofs.StampGivens.{put-here}
use Rattle.play_completeness.specs.Formed.{HasRule, Ruled}
use Rattle.play_completeness.proofs.MovesKeep.{dialled-goes, granted-goes}
use Rattle.play_completeness.proofs.OwnMoves.{given-goes, own-goes}
use Rattle.play_completeness.proofs.TurnWorld.{named, put-else}
use Rattle.play_completeness.proofs.WriterWorld.{at-same}

-- no node has a replica of the block
abbrev pub NoneThere : World → ℕ → Type 0
NoneThere w b = (n : ℕ) → (w.replicas n b).known.info ≡ None

-- the rule stays, or nobody has it yet
abbrev pub KeepsRule : World → ℕ → Rule → Type 0
KeepsRule w b rule = (rule ≡ (w.writers b).known.stream.rule) ⊎ NoneThere w b

-- A change of a writer that leaves the replicas, and such a rule.
pub record RuleMoves (w : World) (b : ℕ) (k : Change) : Type 0 where
  pub replica : k.replica ≡ w.replicas k.node k.block
  pub at : k.writer_at ≡ b
  pub rule : KeepsRule w b k.writer.known.stream.rule

none-has : (w : World) (n b : ℕ) (rule : Rule) → (w.replicas n b).known.info ≡ None → HasRule rule (w.replicas n b)
none-has w n b rule none = subst (λ (o : Option ReplicaInfo). IfSome o (λ i. i.sums ≡ rule)) (sym none) tt

rule-on : (w : World) (n b : ℕ) (rule : Rule) → KeepsRule w b rule → Ruled w → HasRule rule (w.replicas n b)
rule-on w n b rule (inl same) h = subst (λ (r : Rule). HasRule r (w.replicas n b)) (sym same) ((h b).each n)
rule-on w n b rule (inr none) h = none-has w n b rule (none n)

ruled-apply : (w : World) (b : ℕ) (k : Change) (e : Event) → RuleMoves w b k → Ruled w → Ruled (named e (apply w k))
unfolding apply
ruled-apply w b k e x h j = record { each = λ n. subst (λ (r : FullReplica). HasRule (put w.writers k.writer_at k.writer j).known.stream.rule r) (sym (same n)) (go n (j == k.writer_at) refl) }
  where
    same : (n : ℕ) → put_at w.replicas k.node k.block k.replica n j ≡ w.replicas n j
    same n = ap (λ (r : FullReplica). put_at w.replicas k.node k.block r n j) x.replica ∙ at-same w.replicas k.node k.block n j

    go : (n : ℕ) (q : Bool) → (j == k.writer_at) ≡ q → HasRule (put w.writers k.writer_at k.writer j).known.stream.rule (w.replicas n j)
    go n false other = subst (λ (y : Writing). HasRule y.known.stream.rule (w.replicas n j)) (sym (put-else w.writers k.writer_at k.writer j other)) ((h j).each n)
    go n true here =
        let one : j ≡ k.writer_at = eqb-true j k.writer_at here in
        subst (λ (i : ℕ). HasRule (put w.writers k.writer_at k.writer i).known.stream.rule (w.replicas n i)) (sym one)
        (subst (λ (y : Writing). HasRule y.known.stream.rule (w.replicas n k.writer_at)) (sym (put-here w.writers k.writer_at k.writer))
        (subst (λ (i : ℕ). HasRule k.writer.known.stream.rule (w.replicas n i)) (sym x.at) (rule-on w n b k.writer.known.stream.rule x.rule h)))

pub ruled-changed : (w : World) (b : ℕ) (e : Event) (o : Option Change) → IfSome o (RuleMoves w b) → Ruled w → Ruled (after_event w e (changed w o))
ruled-changed w b e None x h = h
ruled-changed w b e (Some k) x h = ruled-apply w b k e x h

-- OWN STEPS

module _ (w : World) (b : ℕ) where
  abbrev Moves : Option Change → Type 0
  Moves o = IfSome o (RuleMoves w b)

  did-rules : (waits : Option Waiting) (a : Action) (x : WriterRecord) (bytes : List ℕ) → KeepsRule w b x.stream.rule → Moves (did w b waits a x bytes)
  did-rules waits action.Took x bytes k = record { replica = refl; at = refl; rule = k }
  did-rules waits (action.Send p) x bytes k = record { replica = refl; at = refl; rule = k }
  did-rules waits (action.Answered n a) x bytes k = record { replica = refl; at = refl; rule = k }
  did-rules waits action.Wait x bytes k = tt
  did-rules waits (action.Ask c) x bytes k = tt
  did-rules waits (action.Dial to r) x bytes k = tt
  did-rules waits action.Memory x bytes k = tt

  comes : (x : WriterRecord) → KeepsRule w b x.stream.rule → RuleMoves w b (writer_change w b x)
  comes x k = record { replica = refl; at = refl; rule = k }

  -- a rule that stays does so behind another step
  behind : (x y : WriterRecord) → y.stream.rule ≡ x.stream.rule → KeepsRule w b x.stream.rule → KeepsRule w b y.stream.rule
  behind x y e (inl k) = inl (e ∙ k)
  behind x y e (inr none) = inr none

  dialled-rules : (x : WriterRecord) (to : NodeId) (r : Op) (answered : Bool) → KeepsRule w b x.stream.rule → RuleMoves w b (dialled_change w b x to r answered)
  dialled-rules x to r true k = record { replica = refl; at = refl; rule = behind x (dialled x true) (dialled-goes x true).rule k }
  dialled-rules x to r false k = comes (dialled x false) (behind x (dialled x false) (dialled-goes x false).rule k)

  dialling-rules : (x : WriterRecord) (s : Setup) (stamp : Stamp) (members : List NodeId) (answered : Bool) → KeepsRule w b x.stream.rule → RuleMoves w b (dialling w b x (dial_step_as x s stamp members).action answered)
  dialling-rules x s stamp [] answered k = comes x k
  dialling-rules x s stamp (first ∷ others) answered k = dialled-rules x first _ (answered && w.running first.0) k

  rest-rules : (p : Phase) (x : WriterRecord) (answered : Bool) → KeepsRule w b x.stream.rule → Moves (rest_in p w b x answered)
  rest-rules (phase.Stamped s stamp) x answered k = dialling-rules x s stamp x.members answered k
  rest-rules phase.Opened x answered k = did-rules x.waiting (open_step x).action (open_step x).writer [] k
  rest-rules phase.Completed x answered k = did-rules x.waiting (completed_step x).action (completed_step x).writer [] k
  rest-rules phase.Closed x answered k = comes x k
  rest-rules (phase.Wanted s) x answered k = comes x k
  rest-rules (phase.Requested s stamp) x answered k = comes x k
  rest-rules (phase.Accepted s stamp) x answered k = comes x k
  rest-rules (phase.Streaming n) x answered k = comes x k
  rest-rules phase.Closing x answered k = comes x k
  rest-rules phase.Finished x answered k = comes x k
  rest-rules (phase.Failed f) x answered k = comes x k

  -- a command that is taken brings a rule, if it is a create
  ruled-by : (x : WriterRecord) (c : Command) (rule : Rule) → Sound x → ((members : List NodeId) → c ≡ command.Create members → NoneThere w b) → x.stream.rule ≡ (w.writers b).known.stream.rule → KeepsRule w b (own_step (given (ruled x c rule) c)).writer.stream.rule
  ruled-by x (command.Create members) rule s none same = inr (none members refl)
  ruled-by x (command.Append members) rule s none same = inl ((own-goes (given x (command.Append members)) (given_sound x (command.Append members) s).stream).rule ∙ ((given-goes x (command.Append members)).rule ∙ same))
  ruled-by x (command.Write v) rule s none same = inl ((own-goes (given x (command.Write v)) (given_sound x (command.Write v) s).stream).rule ∙ ((given-goes x (command.Write v)).rule ∙ same))
  ruled-by x (command.Fill n) rule s none same = inl ((own-goes (given x (command.Fill n)) (given_sound x (command.Fill n) s).stream).rule ∙ ((given-goes x (command.Fill n)).rule ∙ same))
  ruled-by x command.Hflush rule s none same = inl ((own-goes (given x command.Hflush) (given_sound x command.Hflush s).stream).rule ∙ ((given-goes x command.Hflush).rule ∙ same))
  ruled-by x command.Hsync rule s none same = inl ((own-goes (given x command.Hsync) (given_sound x command.Hsync s).stream).rule ∙ ((given-goes x command.Hsync).rule ∙ same))
  ruled-by x command.Close rule s none same = inl ((own-goes (given x command.Close) (given_sound x command.Close s).stream).rule ∙ ((given-goes x command.Close).rule ∙ same))

  takes-rules : (x : WriterRecord) (t : TakenCommand) → KeepsRule w b (own_step (given (ruled x t.command t.rule) t.command)).writer.stream.rule → Moves (takes_command w b x t)
  takes-rules x t k =
      let y : WriterRecord = ruled x t.command t.rule in
      when-each (RuleMoves w b) (is_formed t.command t.rule && not (is_empty (given x t.command).queue)) _
      (λ _. when-each (RuleMoves w b) (is_empty (own_step (given y t.command)).writer.queue) _
      (λ _. did-rules y.waiting (own_step (given y t.command)).action (own_step (given y t.command)).writer (command_bytes y t.command) k))

  -- what a create that is taken finds
  abbrev pub FindsNone : Option TakenCommand → Type 0
  FindsNone takes = (t : TakenCommand) (members : List NodeId) → takes ≡ Some t → t.command ≡ command.Create members → NoneThere w b

  step-rules : (told : Option Told) (takes : Option TakenCommand) → Sound (known_heard (w.writers b).known told) → FindsNone takes → Moves (writer_step w b (w.writers b).known told takes true)
  step-rules (Some t) None s none = rest-rules (granted (w.writers b).known t).phase (granted (w.writers b).known t) true (inl (granted-goes (w.writers b).known t).rule)
  step-rules (Some t) (Some c) s none = tt
  step-rules None None s none = did-rules (w.writers b).known.waiting (own_step (w.writers b).known).action (own_step (w.writers b).known).writer [] (inl (own-goes (w.writers b).known s.stream).rule)
  step-rules None (Some c) s none = takes-rules (w.writers b).known c (ruled-by (w.writers b).known c.command c.rule s (λ members e. none c members refl e) refl)

  pub own-rules : (takes : Option TakenCommand) → Sound (heard (w.writers b)) → FindsNone takes → Moves (own_writer w b takes true)
  own-rules takes s none = step-rules (w.writers b).told takes s none

  -- THE OFFICE

  asks-rules : (a : Action) → Moves (writer_asks a w b)
  asks-rules (action.Ask c) = record { replica = refl; at = refl; rule = inl refl }
  asks-rules action.Wait = tt
  asks-rules action.Took = tt
  asks-rules (action.Dial to r) = tt
  asks-rules (action.Send p) = tt
  asks-rules (action.Answered n a) = tt
  asks-rules action.Memory = tt

  pub office-rules : Moves (writer_asks_office w b)
  office-rules = when-each (RuleMoves w b) (is_none (w.writers b).told) _ (λ _. asks-rules (own_step (w.writers b).known).action)

-- A writer takes the command that is queued first.
use Rattle.std.proofs.Common.{◌≡◌, ℕ, ◌+◌, true, List, [], ◌∷◌, ◌++◌, drop, length, map, slice_get, Option, Some, None, IfSome, sym, ◌∙◌, ap, subst, arith, length-append}
use Rattle.std.proofs.lemmas.List.{append-nil, append_assoc}
use Rattle.hd_base.specs.declared.numbers.BlockId.{BlockId}
use Rattle.hd_base.specs.declared.numbers.NodeId.{NodeId}
use Rattle.writer_core.specs.declared.actions.Action.{Action}
use Rattle.writer_core.specs.declared.actions.Action.TheVariants as action
use Rattle.writer_core.specs.declared.commands.Command.{Command}
use Rattle.writer_core.specs.declared.commands.Command.TheVariants as command
use Rattle.writer_core.specs.declared.intake.Intake.{Intake}
use Rattle.writer_core.specs.declared.intake.Stand.{Stand}
use Rattle.writer_core.specs.declared.intake.Stand.TheVariants as stand
use Rattle.writer_core.specs.declared.phases.Waiting.{Waiting}
use Rattle.writer_core.specs.declared.records.WriterRecord.{WriterRecord}
use Rattle.writer_core.specs.Commands.{stand_after}
use Rattle.writer_core.specs.Transitions.{taken_as, own_step}
use Rattle.world.specs.declared.events.Event.{Event}
use Rattle.world.specs.declared.events.TakenCommand.{TakenCommand}
use Rattle.world.specs.Parts.{Told, Writing, Said}
use Rattle.world.specs.Worlds.{World, Change, apply}
use Rattle.world.specs.Clients.{writing_as, writer_change, is_formed, ruled, command_bytes, takes_command, writer_step, own_writer}
use Rattle.world.specs.Events.{run}
use Rattle.play_model.specs.declared.dues.Due.TheVariants as due
use Rattle.play_model.specs.States.{PlayState, world_of}
use Rattle.play_model.specs.Dues.{acting, own_events, queue_left, action_of, due_events}
use Rattle.play_completeness.proofs.PlayLaws.Resting.{all-rest}
use Rattle.play_completeness.proofs.PlayLaws.Taking.{Admits, admitted-is}
use Rattle.play_completeness.specs.Complete.{is_answered, bytes_with}
use Rattle.play_completeness.specs.Writers.{WriterWell}
use Rattle.play_completeness.specs.Played.{IsOf, DoneSoFar, QueueFits, stand_of, BlockPlayed, Played}
use Rattle.play_completeness.proofs.TurnWorld.{named}
use Rattle.play_completeness.proofs.Whole.{stand-end}
use Rattle.completing_writers.proofs.Leaving.{Apart, happens-own}
use Rattle.completing_writers.proofs.Linking.{SameStream, quiet-links}
use Rattle.completing_writers.proofs.Others.{Kept, folds}
use Rattle.completing_writers.proofs.Doing.{StaysOpen, same-conn, Stepped, taking, taking-steps, taking-unsent, placed}
use Rattle.completing_writers.proofs.Known.{apart}
use Rattle.completing_writers.proofs.Taken.{with_it, takes_as, takes-change, taken-done, bytes-end}

module _ (p : PlayState) (commands : ℕ → List Command) (h : Played p commands) (b : BlockId) (t : TakenCommand) (rest : List TakenCommand) (are : p.queues b.0 ≡ t ∷ rest) where
  abbrev w : World
  w = world_of p

  abbrev X : WriterRecord
  X = (w.writers b.0).known

  abbrev B : BlockPlayed w b.0 (p.queues b.0) (commands b.0)
  B = h.blocks b.0

  abbrev c : Command
  c = t.command

  abbrev Y : WriterRecord
  Y = ruled X t.command t.rule

  pub queue-fits : QueueFits w.nodes X.intake (t ∷ rest)
  queue-fits = subst (λ (q : List TakenCommand). QueueFits w.nodes X.intake q) are B.queued

  abbrev pub after : Intake
  after = queue-fits.2

  pub formed : is_formed c t.rule ≡ true
  formed = queue-fits.0

  pub admits : Admits X.intake after c
  admits = admitted-is X.intake after c queue-fits.3

  -- the commands are those that were taken, this one, and the others
  pub commands-are : commands b.0 ≡ (B.taken ++ c ∷ []) ++ map (λ (x : TakenCommand). x.command) rest
  commands-are =
      B.are ∙ (ap (λ (q : List TakenCommand). B.taken ++ map (λ (x : TakenCommand). x.command) q) are
      ∙ sym (append_assoc B.taken (c ∷ []) (map (λ (x : TakenCommand). x.command) rest)))

  abbrev does : Event
  does = acting b.0 (Some t)

  -- WHAT WAS DONE OF THE COMMANDS

  module _ (v : World) (n : WriterRecord) (bytes : List ℕ) (s : Stepped w v b.0 (writing_as n (w.writers b.0).conn) [] bytes) where
    known-is : (v.writers b.0).known ≡ n
    known-is = ap (λ (z : Writing). z.known) s.aside.writer

    pub taken-block : X.waiting ≡ None → n.taken ≡ X.taken + 1 → n.intake ≡ after → ((i : ℕ) (created : List NodeId) → slice_get (B.taken ++ c ∷ []) i ≡ Some (command.Create created) → n.members ≡ created)
        → (is_answered c ≡ true → n.waiting ≡ None → ⊥) → IfSome n.waiting (λ (y : Waiting). IsOf y c) → bytes_with (record { 0 = b.0 }) (w.written (w.latest b.0)) c ≡ w.written (w.latest b.0) ++ bytes
        → BlockPlayed v b.0 rest (commands b.0)
    taken-block free number intake members waits of written =
        let before : DoneSoFar B.taken (w.said b.0) None = subst (λ (o : Option Waiting). DoneSoFar B.taken (w.said b.0) o) free B.answers in
        let said : v.said b.0 ≡ w.said b.0 = s.answered ∙ append-nil (w.said b.0) in
        let long : length (B.taken ++ c ∷ []) ≡ length B.taken + 1 = length-append B.taken (c ∷ []) in
        let count : X.taken ≡ length B.taken = B.number in
        let stands : after.stand ≡ stand_of stand.Unmade (B.taken ++ c ∷ []) =
        ap (λ (i : Intake). i.stand) admits.is ∙ (ap (λ (a : Stand). stand_after a c) B.stand ∙ sym (stand-end stand.Unmade B.taken c)) in
        record {
          taken = B.taken ++ c ∷ [];
          are = commands-are;
          writes = B.writes;
          number = ap (λ (z : WriterRecord). z.taken) known-is ∙ (number ∙ omega (arith, long, count));
          stand = ap (λ (z : WriterRecord). z.intake.stand) known-is ∙ (ap (λ (i : Intake). i.stand) intake ∙ stands);
          members = λ i created e. ap (λ (z : WriterRecord). z.members) known-is ∙ members i created e;
          answers = subst (λ (z : WriterRecord). DoneSoFar (B.taken ++ c ∷ []) (v.said b.0) z.waiting) (sym known-is)
              (subst (λ (l : List Said). DoneSoFar (B.taken ++ c ∷ []) l n.waiting) (sym said) (taken-done B.taken c (w.said b.0) n.waiting before waits of));
          bytes = s.wrote ∙ (sym written ∙ (ap (λ (u : List ℕ). bytes_with (record { 0 = b.0 }) u c) B.bytes ∙ sym (bytes-end (record { 0 = b.0 }) [] B.taken c)));
          queued = subst (λ (z : WriterRecord). QueueFits v.nodes z.intake rest) (sym known-is)
              (subst (λ (i : Intake). QueueFits v.nodes i rest) (sym intake) (subst (λ (k : ℕ). QueueFits k after rest) (sym s.aside.nodes) queue-fits.4));
        }

  -- THE PLAY

  abbrev taking-of : WriterRecord → List ℕ → Change
  taking-of m l = record (writer_change w b.0 m) { session = w.latest b.0; bytes = l }

  -- It takes the command, and keeps its connection and its stream.
  pub takes-keep : action_of w b ≡ action.Wait → (n : WriterRecord) (bytes : List ℕ) → own_step (with_it Y after c) ≡ takes_as Y after c → taken_as (with_it Y after c) c ≡ n → command_bytes Y c ≡ bytes → (stays : StaysOpen n.phase (w.writers b.0).conn)
      → ((k : ℕ) → (w.writers b.0).conn ≡ Some k → SameStream n X) → Apart w b.0 (w.latest b.0) bytes
      → ((v : World) → Stepped w v b.0 (writing_as n (w.writers b.0).conn) [] bytes → WriterWell v b.0 n × BlockPlayed v b.0 rest (commands b.0))
      → Kept p commands b
  takes-keep next n bytes step_is is wrote stays same apart own =
      let k : Change = taking w b.0 n stays does bytes in
      let v : World = named does (apply w k) in
      let s : Stepped w v b.0 (writing_as n (w.writers b.0).conn) [] bytes = taking-steps w b.0 n stays does bytes apart in
      let told : own_writer w b.0 (Some t) true ≡ takes_command w b.0 X t = ap (λ (o : Option Told). writer_step w b.0 X o (Some t) true) (h.quiet b.0) in
      let change : takes_command w b.0 X t ≡ Some k =
      takes-change w b.0 X t after formed queue-fits.3 (all-rest p.nodes p.events b.0).queue step_is
      ∙ (ap (λ (m : WriterRecord). Some (taking-of m (command_bytes Y c))) is ∙ ap (λ (l : List ℕ). Some (taking-of n l)) wrote) in
      let happened : run w (due_events w p.queues (due.Own b)) ≡ v =
      ap (λ (x : Action). run w (own_events x b.0 (p.queues b.0))) next
      ∙ (ap (λ (q : List TakenCommand). run w (own_events action.Wait b.0 q)) are ∙ happens-own w b.0 (Some t) k (told ∙ change)) in
      let left : queue_left (action_of w b) (p.queues b.0) ≡ rest = ap (λ (x : Action). queue_left x (p.queues b.0)) next ∙ ap (λ (q : List TakenCommand). drop 1 q) are in
      let z = own v s in
      folds p commands h b v (writing_as n (w.writers b.0).conn) happened s.aside
      (quiet-links w v b.0 (writing_as n (w.writers b.0).conn) (placed p commands h b) h.links s.aside (taking-unsent w b.0 n stays does bytes) (same-conn n.phase (w.writers b.0).conn stays) same)
      z.0 (subst (λ (q : List TakenCommand). BlockPlayed v b.0 q (commands b.0)) (sym left) z.1)

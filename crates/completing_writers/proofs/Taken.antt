-- The step in which a writer takes a command that fits, and what was done of its block's commands then.
use Rattle.std.proofs.Common.{◌≡◌, ℕ, suc, ◌+◌, Bool, true, false, List, [], ◌∷◌, ◌++◌, length, slice_get, Option, Some, None, IfSome, Ok, refl, sym, ◌∙◌, ap, subst, arith, length-append, ◌⊎◌, inl, inr}
use Rattle.std.specs.Prelude.{◌&&◌, ◌||◌, not, is_none, is_some, if◌then◌else◌, Result}
use Rattle.std.proofs.lemmas.Bool.{false≢true}
use Rattle.hd_base.specs.declared.numbers.BlockId.{BlockId}
use Rattle.packet_codec.specs.declared.packets.Packet.{Packet}
use Rattle.writer_core.specs.declared.actions.Action.TheVariants as action
use Rattle.writer_core.specs.declared.commands.Command.{Command}
use Rattle.writer_core.specs.declared.commands.Command.TheVariants as command
use Rattle.writer_core.specs.declared.commands.CommandFault.{CommandFault}
use Rattle.writer_core.specs.declared.intake.Intake.{Intake}
use Rattle.writer_core.specs.declared.phases.DuePacket.{DuePacket}
use Rattle.writer_core.specs.declared.phases.DuePacket.TheVariants as due_packet
use Rattle.writer_core.specs.declared.phases.Phase.{Phase}
use Rattle.writer_core.specs.declared.phases.Phase.TheVariants as phase
use Rattle.writer_core.specs.declared.phases.Waiting.{Waiting}
use Rattle.writer_core.specs.declared.records.WriterRecord.{WriterRecord}
use Rattle.writer_core.specs.Commands.{admitted}
use Rattle.writer_core.specs.Transitions.{Step, step, given_as, given, taken_as, free_step_as, reach_step_as, reached_length, due_step, due_now, stream_step_as, step_in, own_step, has_step, is_action}
use Rattle.world.specs.declared.events.TakenCommand.{TakenCommand}
use Rattle.world.specs.Parts.{Writing, Said}
use Rattle.world.specs.Worlds.{World}
use Rattle.world.specs.Clients.{did_step, is_formed, ruled, command_bytes, is_empty, takes_step, takes_given, takes_command}
use Rattle.world_laws.proofs.FactTables.{and-left, and-right}
use Rattle.play_completeness.proofs.WorldOrders.Lists.{Behind, get-append}
use Rattle.play_model.specs.Dues.{takes_due, own_due}
use Rattle.play_completeness.specs.Complete.{is_answered, bytes_with, bytes_after, IsDone, IsGood}
use Rattle.play_completeness.specs.Played.{IsOf, WaitsLast, DoneSoFar}
use Rattle.play_completeness.proofs.Flowing.{one-place, end-found, get-front}
use Rattle.completing_writers.proofs.Answering.{no_wait}

-- THE COMMAND

-- no command waits, and this one is queued first
pub record Queued (x : WriterRecord) (queue : List TakenCommand) : Type 0 where
  pub free : x.waiting ≡ None
  pub first : TakenCommand
  pub rest : List TakenCommand
  pub are : queue ≡ first ∷ rest

-- so it is where a step of a writer is due that has nothing else to do
pub queued : (x : Writing) (queue : List TakenCommand) → has_step x.known ≡ false → own_due x queue ≡ true → Queued x.known queue
queued x queue idle due = go x.known.waiting refl queue refl (sym (ap (λ (q : Bool). q || takes_due x queue) idle) ∙ due)
  where
    go : (o : Option Waiting) → x.known.waiting ≡ o → (l : List TakenCommand) → queue ≡ l → (is_none x.known.waiting && is_some (slice_get queue 0)) ≡ true → Queued x.known queue
    go None at (t ∷ rest) e d = record { free = at; first = t; rest = rest; are = e }
    go None at [] e d = absurd (false≢true (ap (λ (l : List TakenCommand). is_some (slice_get l 0)) (sym e) ∙ and-right (is_none x.known.waiting) (is_some (slice_get queue 0)) d))
    go (Some y) at l e d = absurd (false≢true (ap (λ (o : Option Waiting). is_none o) (sym at) ∙ and-left (is_none x.known.waiting) (is_some (slice_get queue 0)) d))

-- THE STEP

no : {A : Type 0} → true ≡ false → A
no e = absurd (false≢true (sym e))

-- a writer that was given this command
abbrev pub with_it : WriterRecord → Intake → Command → WriterRecord
with_it x i c = record x { intake = i; queue = c ∷ [] }

-- it takes it
abbrev pub takes_as : WriterRecord → Intake → Command → Step
takes_as x i c = step action.Took (taken_as (with_it x i c) c)

module _ (x : WriterRecord) (i : Intake) (c : Command) (w : x.waiting ≡ None) where
  free-takes : (o : Option Waiting) → o ≡ None → free_step_as (with_it x i c) o ≡ takes_as x i c
  free-takes None e = refl
  free-takes (Some y) e = absurd (cc)

  reach-takes : (o : Option ℕ) → is_action (reach_step_as x o).action ≡ false → reach_step_as (with_it x i c) o ≡ takes_as x i c
  reach-takes (Some n) e = no e
  reach-takes None e = free-takes x.waiting w

  due-takes : (o : Option DuePacket) → is_action (due_step x o).action ≡ false → due_step (with_it x i c) o ≡ takes_as x i c
  due-takes (Some (due_packet.Data end is_sync)) e = no e
  due-takes (Some due_packet.Sync) e = no e
  due-takes (Some due_packet.Last) e = no e
  due-takes None e = reach-takes (reached_length x.waiting x.stream) e

  stream-takes : (sent : ℕ) (o : Option Packet) → is_action (stream_step_as x sent o).action ≡ false → stream_step_as (with_it x i c) sent o ≡ takes_as x i c
  stream-takes sent (Some p) e = no e
  stream-takes sent None e = due-takes (due_now x) e

  -- where its block is closed
  pub closed-takes : x.phase ≡ phase.Closed → own_step (with_it x i c) ≡ takes_as x i c
  unfolding own_step
  closed-takes at = ap (step_in (with_it x i c)) at ∙ free-takes x.waiting w

  -- where it streams, and has nothing else to do
  pub streaming-takes : (sent : ℕ) → x.phase ≡ phase.Streaming sent → has_step x ≡ false → own_step (with_it x i c) ≡ takes_as x i c
  unfolding own_step
  streaming-takes sent at idle =
      ap (step_in (with_it x i c)) at
      ∙ stream-takes sent (slice_get x.stream.unacked sent) (sym (ap (λ (q : Phase). is_action (step_in x q).action) at) ∙ idle)

-- THE CHANGE

given-is : (y : WriterRecord) (c : Command) (i : Intake) → admitted y.intake c ≡ Ok i → y.queue ≡ [] → given y c ≡ with_it y i c
given-is y c i e q =
    subst (λ (r : Result Intake CommandFault). given_as y c r ≡ with_it y i c) (sym e)
    (ap (λ (l : List Command). record y { intake = i; queue = l ++ c ∷ [] }) q)

pub ruled-intake : (x : WriterRecord) (t : TakenCommand) → (ruled x t.command t.rule).intake ≡ x.intake
ruled-intake x t = go t.command
  where
    go : (c : Command) → (ruled x c t.rule).intake ≡ x.intake
    go (command.Create ms) = refl
    go (command.Append ms) = refl
    go (command.Write bytes) = refl
    go (command.Fill count) = refl
    go command.Hflush = refl
    go command.Hsync = refl
    go command.Close = refl

ruled-queue : (x : WriterRecord) (t : TakenCommand) → (ruled x t.command t.rule).queue ≡ x.queue
ruled-queue x t = go t.command
  where
    go : (c : Command) → (ruled x c t.rule).queue ≡ x.queue
    go (command.Create ms) = refl
    go (command.Append ms) = refl
    go (command.Write bytes) = refl
    go (command.Fill count) = refl
    go command.Hflush = refl
    go command.Hsync = refl
    go command.Close = refl

taken-queue : (x : WriterRecord) (i : Intake) (c d : Command) → (taken_as (with_it x i d) c).queue ≡ []
taken-queue x i (command.Create ms) d = refl
taken-queue x i (command.Append ms) d = refl
taken-queue x i (command.Write bytes) d = refl
taken-queue x i (command.Fill count) d = refl
taken-queue x i command.Hflush d = refl
taken-queue x i command.Hsync d = refl
taken-queue x i command.Close d = refl

pub taken-intake : (x : WriterRecord) (i : Intake) (c d : Command) → (taken_as (with_it x i d) c).intake ≡ i
taken-intake x i (command.Create ms) d = refl
taken-intake x i (command.Append ms) d = refl
taken-intake x i (command.Write bytes) d = refl
taken-intake x i (command.Fill count) d = refl
taken-intake x i command.Hflush d = refl
taken-intake x i command.Hsync d = refl
taken-intake x i command.Close d = refl

pub taken-number : (x : WriterRecord) (i : Intake) (c d : Command) → (taken_as (with_it x i d) c).taken ≡ x.taken + 1
taken-number x i (command.Create ms) d = refl
taken-number x i (command.Append ms) d = refl
taken-number x i (command.Write bytes) d = refl
taken-number x i (command.Fill count) d = refl
taken-number x i command.Hflush d = refl
taken-number x i command.Hsync d = refl
taken-number x i command.Close d = refl

both : (p q : Bool) → p ≡ true → q ≡ true → (p && q) ≡ true
both true q e f = f
both false q e f = absurd (false≢true e)

-- the change in which it takes the command
pub takes-change : (w : World) (b : ℕ) (x : WriterRecord) (t : TakenCommand) (i : Intake) → is_formed t.command t.rule ≡ true → admitted x.intake t.command ≡ Ok i → x.queue ≡ []
    → own_step (with_it (ruled x t.command t.rule) i t.command) ≡ takes_as (ruled x t.command t.rule) i t.command
    → takes_command w b x t ≡ did_step w b (ruled x t.command t.rule).waiting (takes_as (ruled x t.command t.rule) i t.command) (command_bytes (ruled x t.command t.rule) t.command)
takes-change w b x t i formed fits none does =
    let c : Command = t.command in
    let y : WriterRecord = ruled x c t.rule in
    let full : not (is_empty (given x c).queue) ≡ true = ap (λ (g : WriterRecord). not (is_empty g.queue)) (given-is x c i fits none) in
    let open_yet : (is_formed c t.rule && not (is_empty (given x c).queue)) ≡ true = both (is_formed c t.rule) (not (is_empty (given x c).queue)) formed full in
    let is : given y c ≡ with_it y i c = given-is y c i (ap (λ (j : Intake). admitted j c) (ruled-intake x t) ∙ fits) (ruled-queue x t ∙ none) in
    ap (λ (q : Bool). if q then takes_given w b y c else None) open_yet
    ∙ (ap (λ (g : WriterRecord). takes_step w b y.waiting (own_step g) (command_bytes y c)) is
    ∙ (ap (λ (s : Step). takes_step w b y.waiting s (command_bytes y c)) does
    ∙ ap (λ (l : List Command). if is_empty l then did_step w b y.waiting (takes_as y i c) (command_bytes y c) else None) (taken-queue y i c c)))

-- WHAT WAS DONE

-- One command more was taken, and waits, if it is answered.
pub taken-done : (taken : List Command) (c : Command) (said : List Said) (o : Option Waiting) → DoneSoFar taken said None → (is_answered c ≡ true → o ≡ None → ⊥) → IfSome o (λ (y : Waiting). IsOf y c) → DoneSoFar (taken ++ c ∷ []) said o
taken-done taken c said o h waits of = record {
  each = λ k d found answered. each k d answered (get-append taken (c ∷ []) k d found);
  only = λ s has.
      let g : IsGood taken s = h.only s has in
      record { command = g.command; is = get-front taken (c ∷ []) s.ordinal g.command g.is; good = g.good };
  last = last o of;
}
  where
    long : length (taken ++ c ∷ []) ≡ length taken + 1
    long = length-append taken (c ∷ [])

    each : (k : ℕ) (d : Command) → is_answered d ≡ true → (slice_get taken k ≡ Some d) ⊎ Behind taken (c ∷ []) k d → IsDone said k d ⊎ ((suc k ≡ length (taken ++ c ∷ [])) × (o ≡ None → ⊥))
    each k d answered (inl found) = old (h.each k d found answered)
      where
        old : IsDone said k d ⊎ ((suc k ≡ length taken) × (no_wait ≡ None → ⊥)) → IsDone said k d ⊎ ((suc k ≡ length (taken ++ c ∷ [])) × (o ≡ None → ⊥))
        old (inl done) = inl done
        old (inr late) = absurd (late.1 refl)
    each k d answered (inr q) =
        let z = one-place c d q.place q.found in
        let here : k ≡ length taken + q.place = q.is in
        let first : q.place ≡ 0 = z.0 in
        inr (omega (arith, here, first, long), waits (ap (λ (x : Command). is_answered x) z.1 ∙ answered))

    last : (z : Option Waiting) → IfSome z (λ (y : Waiting). IsOf y c) → IfSome z (WaitsLast (taken ++ c ∷ []))
    last None of = tt
    last (Some y) of = record { place = length taken; command = c; is = end-found taken c; last = omega (arith, long); of = of }

pub bytes-end : (block : BlockId) (v : List ℕ) (before : List Command) (c : Command) → bytes_after block v (before ++ c ∷ []) ≡ bytes_with block (bytes_after block v before) c
bytes-end block v [] c = refl
bytes-end block v (d ∷ before) c = bytes-end block (bytes_with block v d) before c

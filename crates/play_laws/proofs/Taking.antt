-- A writer takes the command that it is given.
use Rattle.std.proofs.Common.{◌≡◌, ℕ, Bool, true, false, List, [], ◌∷◌, ◌++◌, slice_get, Option, Some, None, Result, Ok, Err, refl, sym, ◌∙◌, ap, subst, ◌⊎◌, inl, inr}
use Rattle.std.specs.Prelude.{not, if◌then◌else◌}
use Rattle.std.proofs.lemmas.Bool.{false≢true}
use Rattle.hd_base.specs.declared.numbers.BlockId.{BlockId}
use Rattle.hd_base.specs.declared.numbers.NodeId.{NodeId}
use Rattle.hd_base.specs.declared.numbers.Stamp.{Stamp}
use Rattle.hd_base.specs.SumRules.{Rule, default_rule}
use Rattle.packet_codec.specs.declared.packets.Packet.{Packet}
use Rattle.writer_core.specs.declared.commands.Command.{Command}
use Rattle.writer_core.specs.declared.commands.Command.TheVariants as command
use Rattle.writer_core.specs.declared.commands.CommandFault.{CommandFault}
use Rattle.writer_core.specs.declared.commands.CommandFault.TheVariants as command_fault
use Rattle.writer_core.specs.declared.intake.Intake.{Intake}
use Rattle.writer_core.specs.declared.intake.Stand.{Stand}
use Rattle.writer_core.specs.declared.intake.Stand.TheVariants as stand
use Rattle.writer_core.specs.declared.phases.DuePacket.{DuePacket}
use Rattle.writer_core.specs.declared.phases.DuePacket.TheVariants as due
use Rattle.writer_core.specs.declared.phases.Failure.{Failure}
use Rattle.writer_core.specs.declared.phases.Phase.{Phase}
use Rattle.writer_core.specs.declared.phases.Phase.TheVariants as phase
use Rattle.writer_core.specs.declared.phases.Setup.{Setup}
use Rattle.writer_core.specs.declared.phases.Setup.TheVariants as setup
use Rattle.writer_core.specs.declared.phases.Waiting.{Waiting}
use Rattle.writer_core.specs.declared.phases.Waiting.TheVariants as waiting
use Rattle.writer_core.specs.declared.records.WriterRecord.{WriterRecord}
use Rattle.writer_core.specs.Commands.{admitted, fits, is_too_much, is_unmade, is_open, is_closed, stand_after, intake_after}
use Rattle.writer_core.specs.Transitions.{fresh, given, given_as, took, taken_as, take_first, free_step_as, open_step, completed_step, failed_command, failed_first, failed_step_as, dial_step_as, accepted_step, due_step, due_now, reach_step_as, reached_length, stream_step_as, step_in, own_step, dialled, ended, acked, setup_answered, granted}
use Rattle.world.specs.Parts.{request, packet, ack, response, read_status, recovery_answer, Told}
use Rattle.world.specs.Connections.{Next, message, the_end}
use Rattle.world.specs.Clients.{is_empty, ruled, writer_hears}
use Rattle.play_laws.proofs.Queues.{Bare}
use Rattle.play_laws.proofs.Standing.{Held, Holds, is_opened, is_opening, is_live, close-shuts, hears-holds, dialled-holds, opened-holds, completed-holds, own-holds, granted-holds}

-- Where the commands leave the block, and that a writer that was given nothing has done nothing.
pub record Kept (x : WriterRecord) : Type 0 where
  pub held : Holds x.intake.stand x
  pub unmade : is_unmade x.intake.stand ≡ true → x ≡ fresh x.block default_rule

-- so it stays in a step that gives no command
kept-by : (x y : WriterRecord) → Kept x → Holds x.intake.stand y → (x ≡ fresh x.block default_rule → y ≡ fresh y.block default_rule) → Kept y
kept-by x y h s f = record {
  held = subst (λ (a : Stand). Holds a y) (sym s.same) s;
  unmade = λ e. f (h.unmade (ap is_unmade (sym s.same) ∙ e));
}

-- a step that a fresh writer doesn't take
kept-live : (x y : WriterRecord) → is_live x.phase ≡ true → Kept x → Holds x.intake.stand y → Kept y
kept-live x y l h s = kept-by x y h s (λ e. absurd (false≢true (sym (ap (λ (z : WriterRecord). is_live z.phase) e) ∙ l)))

-- A FRESH WRITER

fresh-acked : (b : BlockId) (n : _) → acked (fresh b default_rule) n ≡ fresh b default_rule
unfolding acked
fresh-acked b n = refl

fresh-answered : (b : BlockId) (n : _) (bad : Option NodeId) → setup_answered (fresh b default_rule) n bad ≡ fresh b default_rule
unfolding setup_answered
fresh-answered b n bad = refl

fresh-ended : (b : BlockId) → ended (fresh b default_rule) ≡ fresh b default_rule
unfolding ended
fresh-ended b = refl

fresh-hears : (b : BlockId) (n : Next) → writer_hears (fresh b default_rule) n ≡ fresh b default_rule
fresh-hears b (message (response r)) = fresh-answered b r _
fresh-hears b (message (ack a)) = fresh-acked b a
fresh-hears b (message (request r)) = fresh-ended b
fresh-hears b (message (packet p)) = fresh-ended b
fresh-hears b (message (read_status s)) = fresh-ended b
fresh-hears b (message (recovery_answer a)) = fresh-ended b
fresh-hears b the_end = fresh-ended b

pub fresh-granted : (b : BlockId) (t : Told) → granted (fresh b default_rule) t ≡ fresh b default_rule
unfolding granted
fresh-granted b (Ok a) = refl
fresh-granted b (Err e) = refl

fresh-dialled : (b : BlockId) (answered : Bool) → dialled (fresh b default_rule) answered ≡ fresh b default_rule
unfolding dialled
fresh-dialled b answered = refl

fresh-steps : (b : BlockId) → (own_step (fresh b default_rule)).writer ≡ fresh b default_rule
unfolding own_step
fresh-steps b = refl

-- what leaves a fresh writer fresh
still-fresh : (f : WriterRecord → WriterRecord) → ((b : BlockId) → f (fresh b default_rule) ≡ fresh b default_rule) → (x : WriterRecord) → x ≡ fresh x.block default_rule → f x ≡ fresh (f x).block default_rule
still-fresh f k x e =
    let a : f x ≡ fresh x.block default_rule = ap f e ∙ k x.block in
    a ∙ ap (λ (z : BlockId). fresh z default_rule) (sym (ap (λ (z : WriterRecord). z.block) a))

pub fresh-kept : (b : BlockId) → Kept (fresh b default_rule)
fresh-kept b = record { held = record { same = refl; shut = λ e. absurd (false≢true e); opening = λ e. absurd (false≢true e) }; unmade = λ e. refl }

pub hears-kept : (x : WriterRecord) (n : Next) → Kept x → Kept (writer_hears x n)
hears-kept x n h = kept-by x (writer_hears x n) h (hears-holds x.intake.stand x n h.held) (still-fresh (λ (z : WriterRecord). writer_hears z n) (λ b. fresh-hears b n) x)

pub granted-kept : (x : WriterRecord) (t : Told) → Kept x → Kept (granted x t)
granted-kept x t h = kept-by x (granted x t) h (granted-holds x.intake.stand x t h.held) (still-fresh (λ (z : WriterRecord). granted z t) (λ b. fresh-granted b t) x)

pub dialled-kept : (x : WriterRecord) (answered : Bool) → Kept x → Kept (dialled x answered)
dialled-kept x a h = kept-by x (dialled x a) h (dialled-holds x.intake.stand x a h.held) (still-fresh (λ (z : WriterRecord). dialled z a) (λ b. fresh-dialled b a) x)

pub own-kept : (x : WriterRecord) → Bare x → Kept x → Kept (own_step x).writer
own-kept x q h = kept-by x (own_step x).writer h (own-holds x.intake.stand x q h.held) (still-fresh (λ (z : WriterRecord). (own_step z).writer) fresh-steps x)

pub opened-kept : (x : WriterRecord) → x.phase ≡ phase.Opened → Kept x → Kept (open_step x).writer
opened-kept x e h = kept-live x (open_step x).writer (ap is_live e) h (opened-holds x.intake.stand x (subst (Held x.intake.stand x.intake.stand x.waiting) e h.held))

pub completed-kept : (x : WriterRecord) → x.phase ≡ phase.Completed → Kept x → Kept (completed_step x).writer
completed-kept x e h = kept-live x (completed_step x).writer (ap is_live e) h (completed-holds x.intake.stand x h.held)

-- THE STEP THAT TAKES A COMMAND

record Takes (x : WriterRecord) (c : Command) (y : WriterRecord) : Type 0 where
  pub free : x.waiting ≡ None
  pub made : (y ≡ taken_as x c) ⊎ ((f : Failure) × (x.phase ≡ phase.Failed f) × (y ≡ took x))

module _ (x : WriterRecord) (c : Command) (q : x.queue ≡ c ∷ []) where
  -- the queue isn't empty
  stays : {A : Type 0} → is_empty x.queue ≡ true → A
  stays t = absurd (false≢true (sym (ap is_empty q) ∙ t))

  takes-free : (o : Option Waiting) → x.waiting ≡ o → is_empty (free_step_as x o).writer.queue ≡ true → Takes x c (free_step_as x o).writer
  takes-free (Some w) e t = stays t
  takes-free None e t = subst (λ (l : List Command). Takes x c (take_first x (slice_get l 0)).writer) (sym q) (record { free = e; made = inl refl })

  takes-failing : (f : Failure) (d : Command) → x.waiting ≡ None → x.phase ≡ phase.Failed f → Takes x d (failed_command x f d).writer
  takes-failing f (command.Append ms) e p = record { free = e; made = inl refl }
  takes-failing f (command.Create ms) e p = record { free = e; made = inr (f, p, refl) }
  takes-failing f (command.Write bytes) e p = record { free = e; made = inr (f, p, refl) }
  takes-failing f (command.Fill count) e p = record { free = e; made = inr (f, p, refl) }
  takes-failing f command.Hflush e p = record { free = e; made = inr (f, p, refl) }
  takes-failing f command.Hsync e p = record { free = e; made = inr (f, p, refl) }
  takes-failing f command.Close e p = record { free = e; made = inr (f, p, refl) }

  takes-failed : (f : Failure) (o : Option Waiting) → x.waiting ≡ o → x.phase ≡ phase.Failed f → is_empty (failed_step_as x f o).writer.queue ≡ true → Takes x c (failed_step_as x f o).writer
  takes-failed f (Some w) e p t = stays t
  takes-failed f None e p t = subst (λ (l : List Command). Takes x c (failed_first x f (slice_get l 0)).writer) (sym q) (takes-failing f c e p)

  takes-reach : (o : Option ℕ) → is_empty (reach_step_as x o).writer.queue ≡ true → Takes x c (reach_step_as x o).writer
  takes-reach (Some n) t = stays t
  takes-reach None t = takes-free x.waiting refl t

  takes-due : (o : Option DuePacket) → is_empty (due_step x o).writer.queue ≡ true → Takes x c (due_step x o).writer
  takes-due (Some (due.Data end is_sync)) t = stays t
  takes-due (Some due.Sync) t = stays t
  takes-due (Some due.Last) t = stays t
  takes-due None t = takes-reach (reached_length x.waiting x.stream) t

  takes-stream : (sent : ℕ) (o : Option Packet) → is_empty (stream_step_as x sent o).writer.queue ≡ true → Takes x c (stream_step_as x sent o).writer
  takes-stream sent (Some p) t = stays t
  takes-stream sent None t = takes-due (due_now x) t

  takes-dial : (s : Setup) (stamp : Stamp) (ns : List NodeId) → is_empty (dial_step_as x s stamp ns).writer.queue ≡ true → Takes x c (dial_step_as x s stamp ns).writer
  takes-dial s stamp [] t = stays t
  takes-dial s stamp (n ∷ ns) t = stays t

  takes-accepted : (s : Setup) (stamp : Stamp) → is_empty (accepted_step x s stamp).writer.queue ≡ true → Takes x c (accepted_step x s stamp).writer
  takes-accepted setup.Create stamp t = stays t
  takes-accepted setup.Append stamp t = stays t
  takes-accepted setup.AppendRecovery stamp t = stays t
  takes-accepted setup.StreamRecovery stamp t = stays t
  takes-accepted setup.CloseRecovery stamp t = stays t

  takes-step : (p : Phase) → x.phase ≡ p → is_empty (step_in x p).writer.queue ≡ true → Takes x c (step_in x p).writer
  takes-step phase.Closed e t = takes-free x.waiting refl t
  takes-step (phase.Wanted s) e t = stays t
  takes-step (phase.Stamped s stamp) e t = takes-dial s stamp x.members t
  takes-step (phase.Requested s stamp) e t = takes-free x.waiting refl t
  takes-step (phase.Accepted s stamp) e t = takes-accepted s stamp t
  takes-step phase.Opened e t = stays t
  takes-step (phase.Streaming sent) e t = takes-stream sent (slice_get x.stream.unacked sent) t
  takes-step phase.Closing e t = takes-free x.waiting refl t
  takes-step phase.Finished e t = stays t
  takes-step phase.Completed e t = stays t
  takes-step (phase.Failed f) e t = takes-failed f x.waiting refl e t

  own-takes : is_empty (own_step x).writer.queue ≡ true → Takes x c (own_step x).writer
  unfolding own_step
  own-takes t = takes-step x.phase refl t

-- WHERE IT LEAVES THE BLOCK

open-made : (s : Stand) → is_open s ≡ true → is_unmade s ≡ false
open-made stand.Unmade e = absurd (false≢true e)
open-made stand.Open e = refl
open-made stand.Closed e = refl

open-unclosed : (s : Stand) → is_open s ≡ true → is_closed s ≡ false
open-unclosed stand.Unmade e = absurd (false≢true e)
open-unclosed stand.Open e = refl
open-unclosed stand.Closed e = absurd (false≢true e)

after-made : (c : Command) (s : Stand) → fits s c ≡ true → is_unmade (stand_after s c) ≡ false
after-made (command.Create ms) s e = refl
after-made (command.Append ms) s e = refl
after-made (command.Write bytes) s e = open-made s e
after-made (command.Fill count) s e = open-made s e
after-made command.Hflush s e = open-made s e
after-made command.Hsync s e = open-made s e
after-made command.Close s e = refl

-- a writer that was given this command, which fits where those before it left the block
record Has (x : WriterRecord) (s : Stand) (c : Command) : Type 0 where
  pub fits_so : fits s c ≡ true
  pub now : x.intake.stand ≡ stand_after s c
  pub opening : is_opening x.phase ≡ true → is_opened x.waiting ≡ true

-- it is open, and no create or append waits
module _ (x : WriterRecord) (c : Command) (s : Stand) (g : Has x s c) (e : x.waiting ≡ None) where
  unopened : {A : Type 0} → is_opening x.phase ≡ true → A
  unopened i = absurd (false≢true (ap is_opened (sym e) ∙ g.opening i))

  stays-open : (o : Option Waiting) → is_open s ≡ true → stand_after s c ≡ s → Held (stand_after s c) x.intake.stand o x.phase
  stays-open o i k = record {
    same = g.now;
    shut = λ l. absurd (false≢true (sym (open-unclosed s i) ∙ (sym (ap is_closed k) ∙ l)));
    opening = unopened;
  }

taken-holds : (x : WriterRecord) (c : Command) (s : Stand) → Has x s c → x.waiting ≡ None → Holds (stand_after s c) (taken_as x c)
taken-holds x (command.Create ms) s g e = record { same = g.now; shut = λ l. absurd (false≢true l); opening = λ i. refl }
taken-holds x (command.Append ms) s g e = record { same = g.now; shut = λ l. absurd (false≢true l); opening = λ i. refl }
taken-holds x (command.Write bytes) s g e = stays-open x (command.Write bytes) s g e x.waiting g.fits_so refl
taken-holds x (command.Fill count) s g e = stays-open x (command.Fill count) s g e x.waiting g.fits_so refl
taken-holds x command.Hflush s g e = stays-open x command.Hflush s g e _ g.fits_so refl
taken-holds x command.Hsync s g e = stays-open x command.Hsync s g e _ g.fits_so refl
taken-holds x command.Close s g e = record { same = g.now; shut = λ l. close-shuts x.phase (Some waiting.Close) refl; opening = unopened x command.Close s g e }

took-holds : (x : WriterRecord) (c : Command) (s : Stand) (f : Failure) → Has x s c → x.phase ≡ phase.Failed f → Holds (stand_after s c) (took x)
took-holds x c s f g e = subst (λ (p : Phase). Held (stand_after s c) x.intake.stand x.waiting p) (sym e)
    (record { same = g.now; shut = λ l. refl; opening = λ i. absurd (false≢true i) })

takes-holds : (x y : WriterRecord) (c : Command) (s : Stand) → Has x s c → Takes x c y → Holds (stand_after s c) y
takes-holds x y c s g t = go t.made
  where
    go : ((y ≡ taken_as x c) ⊎ ((f : Failure) × (x.phase ≡ phase.Failed f) × (y ≡ took x))) → Holds (stand_after s c) y
    go (inl e) = subst (Holds (stand_after s c)) (sym e) (taken-holds x c s g t.free)
    go (inr (f, p, e)) = subst (Holds (stand_after s c)) (sym e) (took-holds x c s f g p)

holds-kept : (y : WriterRecord) (c : Command) (s : Stand) → fits s c ≡ true → Holds (stand_after s c) y → Kept y
holds-kept y c s f h = record {
  held = subst (λ (a : Stand). Holds a y) (sym h.same) h;
  unmade = λ e. absurd (false≢true (sym (after-made c s f) ∙ (ap is_unmade (sym h.same) ∙ e)));
}

-- A COMMAND IS GIVEN

pub record Admits (i j : Intake) (c : Command) : Type 0 where
  pub is : j ≡ intake_after i c
  pub fits_so : fits i.stand c ≡ true

pub admitted-is : (i j : Intake) (c : Command) → admitted i c ≡ Ok j → Admits i j c
unfolding admitted
admitted-is i j c = go (is_too_much i c) (fits i.stand c) refl
  where
    go : (a b : Bool) → fits i.stand c ≡ b → (if a then Err command_fault.TooMuch else if b then Ok (intake_after i c) else Err command_fault.Unfit) ≡ Ok j → Admits i j c
    go true b q e = absurd (cc)
    go false true q e = record { is = cc; fits_so = q }
    go false false q e = absurd (cc)

-- with the same command that waits, and the same phase
given-as-kept : (x y : WriterRecord) (c : Command) (r : Result Intake CommandFault) → admitted x.intake c ≡ r → not (is_empty (given_as x c r).queue) ≡ true → x.queue ≡ [] → y.queue ≡ [] → y.waiting ≡ x.waiting → y.phase ≡ x.phase → Kept x
    → is_empty (own_step (given_as y c r)).writer.queue ≡ true → Kept (own_step (given_as y c r)).writer
given-as-kept x y c (Err f) e n q k w p h t = absurd (false≢true (subst (λ (l : List Command). not (is_empty l) ≡ true) q n))
given-as-kept x y c (Ok i) e n q k w p h t =
    let a : Admits x.intake i c = admitted-is x.intake i c e in
    let z : WriterRecord = given_as y c (Ok i) in
    let g : Has z x.intake.stand c = record {
      fits_so = a.fits_so;
      now = ap (λ (j : Intake). j.stand) a.is;
      opening = λ o. ap is_opened w ∙ h.held.opening (ap is_opening (sym p) ∙ o);
    } in
    let d : z.queue ≡ c ∷ [] = ap (λ (l : List Command). l ++ c ∷ []) k in
    holds-kept (own_step z).writer c x.intake.stand a.fits_so (takes-holds z (own_step z).writer c x.intake.stand g (own-takes z c d t))

pub given-kept : (x : WriterRecord) (c : Command) (r : Rule) → not (is_empty (given x c).queue) ≡ true → x.queue ≡ [] → Kept x → is_empty (own_step (given (ruled x c r) c)).writer.queue ≡ true → Kept (own_step (given (ruled x c r) c)).writer
given-kept x (command.Create ms) r n q h = given-as-kept x (ruled x (command.Create ms) r) (command.Create ms) (admitted x.intake (command.Create ms)) refl n q q refl refl h
given-kept x (command.Append ms) r n q h = given-as-kept x x (command.Append ms) (admitted x.intake (command.Append ms)) refl n q q refl refl h
given-kept x (command.Write bytes) r n q h = given-as-kept x x (command.Write bytes) (admitted x.intake (command.Write bytes)) refl n q q refl refl h
given-kept x (command.Fill count) r n q h = given-as-kept x x (command.Fill count) (admitted x.intake (command.Fill count)) refl n q q refl refl h
given-kept x command.Hflush r n q h = given-as-kept x x command.Hflush (admitted x.intake command.Hflush) refl n q q refl refl h
given-kept x command.Hsync r n q h = given-as-kept x x command.Hsync (admitted x.intake command.Hsync) refl n q q refl refl h
given-kept x command.Close r n q h = given-as-kept x x command.Close (admitted x.intake command.Close) refl n q q refl refl h

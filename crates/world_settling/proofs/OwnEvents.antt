-- A writer's own step after every list of events that fit.
use Rattle.std.proofs.Common.{◌≡◌, ℕ, ◌<◌, ◌≤◌, ◌+◌, ◌^◌, Bool, true, List, slice_get, Option, Some, None, IfSome, refl, sym, ap, subst, arith}
use Rattle.hd_base.specs.declared.numbers.BlockId.{BlockId}
use Rattle.op_headers.specs.declared.ops.Op.{Op}
use Rattle.op_headers.specs.declared.ops.Op.TheVariants as op
use Rattle.world.specs.declared.events.Event.{Event}
use Rattle.world.specs.declared.events.Event.TheVariants as event
use Rattle.world.specs.declared.events.OwnStep.TheVariants as own
use Rattle.world.specs.declared.events.TakenCommand.{TakenCommand}
use Rattle.writer_core.specs.declared.records.WriterRecord.{WriterRecord}
use Rattle.world.specs.Parts.{Told, Message, request, packet, ack, response, read_status, recovery_answer}
use Rattle.world.specs.Worlds.{World, apply, start}
use Rattle.world.specs.Clients.{own_writer}
use Rattle.world.specs.Events.{changed, own_change, outcome, happens, run}
use Rattle.world_texts.proofs.WorldLaws.PlacedLaws.{all-placed}
use Rattle.world_texts.proofs.WorldLaws.AllCarried.{all-carried}
use Rattle.world_texts.specs.WorldLaws.Stamping.{heard}
use Rattle.world_texts.proofs.Spelling.{MessageFits}
use Rattle.world_texts.proofs.AllWritten.{all-formed}
use Rattle.world_texts.proofs.Frame.{Formed}
use Rattle.packet_stream.specs.Streams.{IsStream}
use Rattle.world_settling.specs.Traffic.{hops_of}
use Rattle.world_settling.specs.Measure.{given_weight, LowersBoth, OwnStepsLower}
use Rattle.world_settling.proofs.Begun.{AllBegun, all-begun}
use Rattle.world_settling.proofs.WriterHears.{changed-each, after-both}
use Rattle.world_settling.proofs.WriterOwn.{IsWriters, own-both}

-- few members stand below a connection whose first message fits
pub few-hops : (m : Message) → MessageFits m → hops_of (Some m) ≤ 17
few-hops (request (op.Write f)) h = omega (arith, h.few)
few-hops (request (op.Read r)) h = omega arith
few-hops (request (op.Transfer t)) h = omega arith
few-hops (request (op.Checksum c)) h = omega arith
few-hops (request (op.Recovery r)) h = omega arith
few-hops (packet p) h = omega arith
few-hops (ack a) h = omega arith
few-hops (response r) h = omega arith
few-hops (read_status s) h = omega arith
few-hops (recovery_answer a) h = omega arith

pub linked-as : (w : World) → AllBegun w → Formed w → (o : Option ℕ) → IfSome o (λ d. d < w.next_conn) → IfSome o (IsWriters w)
linked-as w begun formed None h = tt
linked-as w begun formed (Some d) h =
    let f = begun.first d h in
    record { first = f; few = omega (arith, few-hops f.message ((formed.downs d).at 0 f.message f.is), ap hops_of f.is) }

-- a writer for which no answer waits has heard all
pub heard-none : (known : WriterRecord) (conn : Option ℕ) (told : Option Told) → told ≡ None → heard (record { known = known; conn = conn; told = told }) ≡ known
heard-none known conn None is = refl
heard-none known conn (Some t) is = cc

pub own-steps-lower : OwnStepsLower
unfolding happens outcome
own-steps-lower nodes events b takes answered fit left told enabled =
    let w : World = run (start nodes) events in
    let formed = all-formed nodes events fit left in
    let linked : IfSome (w.writers b.0).conn (IsWriters w) = linked-as w (all-begun nodes events) formed (w.writers b.0).conn ((all-placed nodes events).writers b.0).below in
    let sound : IsStream (w.writers b.0).known.stream =
    subst (λ (x : WriterRecord). IsStream x.stream) (heard-none (w.writers b.0).known (w.writers b.0).conn (w.writers b.0).told told) ((all-carried nodes events).writers b.0).sound.stream in
    after-both w (event.Own (own.Writer b takes answered)) b.0 (given_weight takes) (changed w (own_writer w b.0 takes answered))
    (changed-each (λ v. LowersBoth w v b.0 (given_weight takes)) w (own_writer w b.0 takes answered) (own-both w b.0 takes answered told sound linked)) enabled

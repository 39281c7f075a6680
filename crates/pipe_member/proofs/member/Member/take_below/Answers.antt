-- What stands next is taken, or no memory was found for its copy.
use Rattle.std.proofs.Common.{sym, ap, slice_get, ◌∙◌}
use Rattle.replica_core.specs.declared.ack_queue.PendingPacket.{PendingPacket}
use Rattle.replica_core.specs.declared.records.ReplicaRecord.{ReplicaRecord}
use Rattle.std.proofs.Common.{Option}
use Rattle.pipe_setup.specs.MemberCore.Members.{up_turn}
use Rattle.pipe_turns.proofs.TurnLemmas.{up_doable, unspelled}
use Rattle.pipe_member.specs.declared.stages.Took.TheVariants as took
use Rattle.pipe_member.proofs.TurnLaws.{unmade, turned}
use Rattle.pipe_member.proofs.member.Member.take_below.Goals as goal

pub returns-in_default : goal.returns-in_default
returns-in_default g c =
    unmade g.F.Files g.O.LinkOut c.args.core (up_turn c.args.core (slice_get c.args.book.now.replica.pending 0)) c.args.self.now.below.next took.Below
    c.args.self.now c.args.book.now c.requires c.in_default.ensures.memory

pub turn-requires-clause-book : goal.turn-requires-clause-book
turn-requires-clause-book g c =
    rw c.up-turn.ensures ((up_doable c.args.core c.oldest.result c.in-Some.taken (rw c.in-Some.is at c.in-Ok.ensures.listed)).can _)

pub turn-requires-clause-listed : goal.turn-requires-clause-listed
turn-requires-clause-listed g c =
    rw c.up-turn.ensures (up_doable c.args.core c.oldest.result c.in-Some.taken (rw c.in-Some.is at c.in-Ok.ensures.listed)).listed

pub turn-requires-clause-spelled : goal.turn-requires-clause-spelled
turn-requires-clause-spelled g c = unspelled _

pub returns : goal.returns
returns g c =
    turned g.F.Files g.O.LinkOut c.args.core (up_turn c.args.core (slice_get c.args.book.now.replica.pending 0)) c.args.self.now.below.next c.in-Some.taken c.up-turn.result took.Below
    c.args.self.now c.turn.new.self c.args.book.now c.turn.new.book c.turn.result (sym c.in-Ok.ensures.due ∙ c.in-Some.is)
    (c.up-turn.ensures ∙ ap (λ (oldest : Option PendingPacket). up_turn c.args.core oldest c.in-Some.taken) (c.oldest.ensures.value ∙ ap (λ (r : ReplicaRecord). slice_get r.pending 0) c.replica.ensures.replica))
    c.turn.ensures

-- What stands next is taken where it may be, or no memory was found for its copy.
use Rattle.std.proofs.Common.{Some, sym, length, ◌≡◌}
use Rattle.pipe_setup.specs.MemberCore.Members.{down_turn}
use Rattle.pipe_member.specs.declared.stages.Took.TheVariants as took
use Rattle.pipe_member.specs.Above.{due_above}
use Rattle.pipe_member.proofs.TakeLemmas.{down_can, down_listed, down_spelled}
use Rattle.pipe_member.proofs.TurnLaws.{unmade, turned}
use Rattle.pipe_member.proofs.member.Member.take_above.Goals as goal

pub returns-in_default : goal.returns-in_default
returns-in_default g c =
    unmade g.F.Files g.O.LinkOut c.args.core (down_turn c.args.core) (due_above c.args.core (length c.args.book.now.replica.pending) c.args.self.now.above.next) took.Above
    c.args.self.now c.args.book.now c.requires (rw c.replica.ensures.replica at c.in_default.ensures.memory)

pub turn-requires-clause-book : goal.turn-requires-clause-book
turn-requires-clause-book g c =
    let due : due_above c.args.core (length c.args.book.now.replica.pending) c.args.self.now.above.next ≡ Some c.in-Some.field-0.taken = sym (rw (c.in-Some.is, c.replica.ensures.replica) at c.in-Ok.ensures.due) in
    rw c.down.ensures (down_can c.args.core (length c.args.book.now.replica.pending) c.args.self.now.above.next c.in-Some.field-0.taken c.in-Some.field-0.text due (rw c.in-Some.is at c.in-Ok.ensures.spelled))

pub turn-requires-clause-listed : goal.turn-requires-clause-listed
turn-requires-clause-listed g c = rw c.down.ensures (down_listed c.args.core c.in-Some.field-0.taken)

pub turn-requires-clause-spelled : goal.turn-requires-clause-spelled
turn-requires-clause-spelled g c = rw c.down.ensures (down_spelled c.args.core c.in-Some.field-0.taken c.in-Some.field-0.text (rw c.in-Some.is at c.in-Ok.ensures.spelled))

pub returns : goal.returns
returns g c =
    turned g.F.Files g.O.LinkOut c.args.core (down_turn c.args.core) (due_above c.args.core (length c.args.book.now.replica.pending) c.args.self.now.above.next) c.in-Some.field-0.taken c.down.result took.Above
    c.args.self.now c.turn.new.self c.args.book.now c.turn.new.book c.turn.result (sym (rw (c.in-Some.is, c.replica.ensures.replica) at c.in-Ok.ensures.due))
    c.down.ensures c.turn.ensures

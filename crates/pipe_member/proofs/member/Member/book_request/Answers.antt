-- No memory was found before the replica was asked.
use Rattle.std.proofs.Common.{refl, None}
use Rattle.replica_core.specs.Views.{rule_in}
use Rattle.pipe_setup.specs.declared.setups.Setup.TheVariants as setup
use Rattle.pipe_setup.proofs.RequestLemmas.{request_is_few, request_sets_up}
use Rattle.pipe_turns.proofs.StillLemmas.{still, unmade}
use Rattle.pipe_member.proofs.member.Member.book_request.Goals as goal

pub make_opening-made-requires-clause-few : goal.make_opening-made-requires-clause-few
make_opening-made-requires-clause-few g c = request_is_few c.args.self.now.upstream.id c.args.self.now.op (rule_in c.args.book.now.replica) c.args.event c.requires

pub make_opening-made-requires-clause-setup : goal.make_opening-made-requires-clause-setup
make_opening-made-requires-clause-setup g c = request_sets_up c.args.self.now.upstream.id c.args.self.now.op (rule_in c.args.book.now.replica) c.args.event c.requires

pub returns-in_default : goal.returns-in_default
returns-in_default g c = record {
  half = c.args.self.now.upstream.outward;
  quiet = still g.O.LinkOut c.args.self.now.upstream.outward;
  ended = setup.Memory None;
  sets_up = record { booked = unmade g.F.Files c.args.book.now; goes_on = refl };
  follows = (refl, refl);
}

pub returns-in_default-make_room : goal.returns-in_default-make_room
returns-in_default-make_room g c = record {
  half = c.make_room.new.outward;
  quiet = c.make_room.ensures.quiet;
  ended = setup.Memory None;
  sets_up = record { booked = unmade g.F.Files c.args.book.now; goes_on = refl };
  follows = (refl, refl);
}

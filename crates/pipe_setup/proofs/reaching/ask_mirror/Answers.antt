-- Room was taken on the end of the dial, and then the request was sent.
use Rattle.std.proofs.Common.{refl}
use Rattle.pipe_setup.specs.Reaching.{after}
use Rattle.pipe_setup.proofs.ReachingLemmas.{quiet_then_sends, quiet_then_fails, failed_to_send}
use Rattle.pipe_setup.proofs.reaching.ask_mirror.Goals as goal

pub returns-then-is_err : goal.returns-then-is_err
returns-then-is_err g c first listening dialled =
    after c.args.roads.now c.args.end
    (record { id = c.args.end.id; lower = c.args.end.lower; inward = c.args.end.inward; outward = c.take_room.new.outward })
    dialled (record { id = refl; lower = refl; inward = refl }) c.take_room.ensures.quiet c.give_up.ensures

pub returns-in-Ok : goal.returns-in-Ok
returns-in-Ok g c first listening dialled = record {
  fresh = c.args.end;
  listening = listening;
  dialled = dialled;
  kept = record { id = refl; lower = refl; inward = refl };
  sent = quiet_then_sends g.R.Outward.LinkOut c.args.text.now c.args.end.outward c.take_room.new.outward c.send_piece.new.outward c.take_room.ensures.quiet c.in-Ok.ensures.ends;
}

pub returns-in-Err : goal.returns-in-Err
returns-in-Err g c first listening dialled = record {
  fresh = c.args.end;
  dialled = dialled;
  kept = record { id = refl; lower = refl; inward = refl };
  failed = quiet_then_fails g.R.Outward.LinkOut c.args.end.outward c.take_room.new.outward c.send_piece.new.outward c.take_room.ensures.quiet
      (failed_to_send g.R.Outward.LinkOut c.args.text.now c.take_room.new.outward c.send_piece.new.outward c.in-Err.field-0 c.in-Err.ensures.ends);
}

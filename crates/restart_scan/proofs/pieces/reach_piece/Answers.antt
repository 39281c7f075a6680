-- A piece more was read, and looked at.
use Rattle.std.proofs.Common.{◌≡◌, ◌≤◌, length, take, arith, subst, ◌∙◌}
use Rattle.std.proofs.lemmas.List.{length-take, length-take-le}
use Rattle.hd_base.specs.FileMaps.{HasBytesAt}
use Rattle.replica_model.specs.Sums.{sum_place}
use Rattle.restart_scan.proofs.PieceLemmas.{reached}
use Rattle.restart_scan.proofs.pieces.reach_piece.Goals as goal

pub returns-clause-value : goal.returns-clause-value
returns-clause-value g c =
    let body = take c.in_ok-count.count c.read_at.new.into in
    let sums = take c.in_ok-stored.stored c.read_at-2.new.into in
    let room_le : c.min-room.result ≤ length c.args.buffer.now = omega (arith, c.min-room.ensures) in
    let room : length c.read_at.new.into ≡ c.min-room.result = c.read_at.auto.into ∙ length-take-le c.min-room.result c.args.buffer.now room_le in
    let sum_room : length c.read_at-2.new.into ≡ length c.args.sums.now = c.read_at-2.auto.into in
    reached (g.F.Files.files c.args.drawer.now) c.args.names.now c.args.rule c.args.len c.args.kept c.min-room.result c.kept_of-more.result c.args.buffer.now c.args.sums.now body sums
    (record {
      some = c.requires.room.chunk_some;
      within = c.requires.within;
      have = c.requires.room;
      room_is = c.min-room.ensures;
      few = omega (arith, length-take c.in_ok-count.count c.read_at.new.into, room);
      got_body = subst (λ n. HasBytesAt (g.F.Files.files c.args.drawer.now) c.args.names.now.«data» c.args.kept n body) room c.in_ok-count.ensures.value;
      got_sums = subst (λ n. HasBytesAt (g.F.Files.files c.args.drawer.now) c.args.names.now.meta (sum_place c.args.rule c.args.kept) n sums) sum_room
          (subst (λ f. HasBytesAt f c.args.names.now.meta (sum_place c.args.rule c.args.kept) (length c.read_at-2.new.into) sums) c.read_at.ensures.files
          (subst (λ n. HasBytesAt (g.F.Files.files c.read_at.new.self) c.args.names.now.meta n (length c.read_at-2.new.into) sums) c.sum_place.ensures c.in_ok-stored.ensures.value));
    }) c.kept_of-more.ensures

-- The packet was sent with the book at its place.
use Rattle.std.proofs.Common.{◌<◌, length, get_or, inl, Ok, Err, refl, ap, arith}
use Rattle.play_servers.proofs.TableLaws.{element_at}
use Rattle.play_servers.proofs.packets.send.Goals as goal

pub returns-in-Ok-clause-sends : goal.returns-in-Ok-clause-sends
returns-in-Ok-clause-sends g c =
    let within : c.args.place < length c.args.books.now = omega arith in
    inl (record {
      book = get_or c.args.books.now c.args.place c.index-books-place.result;
      book' = c.serve_packet.new.book;
      at_book = element_at c.args.books.now c.args.place c.index-books-place.result within;
      set = refl;
      made = Ok c.in-Ok.outcome;
      shows = c.in-Ok.ensures.shows;
      follows = ap Ok c.of.ensures;
    })

pub returns-in-Err-clause-sends : goal.returns-in-Err-clause-sends
returns-in-Err-clause-sends g c =
    let within : c.args.place < length c.args.books.now = omega arith in
    inl (record {
      book = get_or c.args.books.now c.args.place c.index-books-place.result;
      book' = c.serve_packet.new.book;
      at_book = element_at c.args.books.now c.args.place c.index-books-place.result within;
      set = refl;
      made = Err c.in-Err.fault;
      shows = c.in-Err.ensures.shows;
      follows = refl;
    })

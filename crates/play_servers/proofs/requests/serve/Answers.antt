-- The request was served with the book of its block.
use Rattle.std.proofs.Common.{◌<◌, length, get_or, inl, Ok, Err, refl, sym, ap, arith}
use Rattle.play_servers.proofs.TableLaws.{element_at}
use Rattle.play_servers.proofs.requests.serve.Goals as goal

pub returns-in-Ok-clause-serves : goal.returns-in-Ok-clause-serves
returns-in-Ok-clause-serves g c =
    let within : c.in-Some.place < length c.args.books.now = omega arith in
    inl (record {
      read = c.in-Read.read;
      is_read = c.in-Read.is;
      place = c.in-Some.place;
      at_place = sym c.in-Some.ensures;
      book = get_or c.args.books.now c.in-Some.place c.index-books-place.result;
      book' = c.serve_request.new.book;
      at_book = element_at c.args.books.now c.in-Some.place c.index-books-place.result within;
      set = refl;
      made = Ok c.in-Ok.outcome;
      shows = c.in-Ok.ensures.shows;
      follows = ap Ok c.of.ensures;
    })

pub returns-in-Err-clause-serves : goal.returns-in-Err-clause-serves
returns-in-Err-clause-serves g c =
    let within : c.in-Some.place < length c.args.books.now = omega arith in
    inl (record {
      read = c.in-Read.read;
      is_read = c.in-Read.is;
      place = c.in-Some.place;
      at_place = sym c.in-Some.ensures;
      book = get_or c.args.books.now c.in-Some.place c.index-books-place.result;
      book' = c.serve_request.new.book;
      at_book = element_at c.args.books.now c.in-Some.place c.index-books-place.result within;
      set = refl;
      made = Err c.in-Err.fault;
      shows = c.in-Err.ensures.shows;
      follows = refl;
    })

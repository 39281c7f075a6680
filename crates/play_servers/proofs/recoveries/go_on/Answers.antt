-- What stood next was taken with the book at its place.
use Rattle.std.proofs.Common.{◌<◌, ◌≤◌, length, get_or, inl, inr, Ok, Err, refl, ap, arith}
use Rattle.play_servers.proofs.TableLaws.{element_at, element_none}
use Rattle.play_servers.proofs.recoveries.go_on.Goals as goal

pub returns-then-place-books-clause-goes_on : goal.returns-then-place-books-clause-goes_on
returns-then-place-books-clause-goes_on g c =
    let past : length c.args.books.now ≤ c.args.place = omega arith in
    inr (element_none c.args.books.now c.args.place past)

pub returns-in-Ok-clause-goes_on : goal.returns-in-Ok-clause-goes_on
returns-in-Ok-clause-goes_on g c =
    let within : c.args.place < length c.args.books.now = omega arith in
    inl (record {
      book = get_or c.args.books.now c.args.place c.index-books-place.result;
      book' = c.recover_down.new.book;
      at_book = element_at c.args.books.now c.args.place c.index-books-place.result within;
      set = refl;
      made = Ok c.in-Ok.outcome;
      shows = c.in-Ok.ensures.shows;
      faulted = c.in-Ok.ensures.faulted;
      causes = c.in-Ok.ensures.causes;
      follows = ap Ok c.left.ensures;
    })

pub returns-in-Err-clause-goes_on : goal.returns-in-Err-clause-goes_on
returns-in-Err-clause-goes_on g c =
    let within : c.args.place < length c.args.books.now = omega arith in
    inl (record {
      book = get_or c.args.books.now c.args.place c.index-books-place.result;
      book' = c.recover_down.new.book;
      at_book = element_at c.args.books.now c.args.place c.index-books-place.result within;
      set = refl;
      made = Err c.in-Err.fault;
      shows = c.in-Err.ensures.shows;
      faulted = c.in-Err.ensures.faulted;
      causes = c.in-Err.ensures.causes;
      follows = refl;
    })

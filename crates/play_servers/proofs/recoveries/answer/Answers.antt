-- The first request was answered with the book of its block.
use Rattle.std.proofs.Common.{◌<◌, length, get_or, inl, Ok, Err, refl, sym, ap, subst, arith}
use Rattle.recovery_events.specs.Events as events
use Rattle.play_servers.proofs.TableLaws.{element_at}
use Rattle.play_servers.proofs.recoveries.answer.Goals as goal

pub returns-in-Ok-recover_request-clause-answers : goal.returns-in-Ok-recover_request-clause-answers
returns-in-Ok-recover_request-clause-answers g c =
    let within : c.in-Some.place < length c.args.books.now = omega arith in
    let book = get_or c.args.books.now c.in-Some.place c.index-books-place.result in
    let made = Ok c.in-Ok-recover_request.outcome in
    inl (record {
      asked = c.in-Recovery.asked;
      is_asked = c.in-Recovery.is;
      place = c.in-Some.place;
      at_place = sym c.in-Some.ensures;
      book = book;
      book' = c.recover_request.new.book;
      at_book = element_at c.args.books.now c.in-Some.place c.index-books-place.result within;
      set = refl;
      made = made;
      shows = subst (λ x. events.RequestShows g.F.Files g.R.Roads g.I.LinkIn g.O.LinkOut c.in-Recovery.asked c.args.first.end x book c.recover_request.new.book c.args.roads.now c.recover_request.new.roads made) c.in-Ok.ensures
          c.in-Ok-recover_request.ensures.shows;
      faulted = c.in-Ok-recover_request.ensures.faulted;
      causes = c.in-Ok-recover_request.ensures.causes;
      follows = ap Ok c.of.ensures;
    })

pub returns-in-Err-clause-answers : goal.returns-in-Err-clause-answers
returns-in-Err-clause-answers g c =
    let within : c.in-Some.place < length c.args.books.now = omega arith in
    let book = get_or c.args.books.now c.in-Some.place c.index-books-place.result in
    let made = Err c.in-Err.fault in
    inl (record {
      asked = c.in-Recovery.asked;
      is_asked = c.in-Recovery.is;
      place = c.in-Some.place;
      at_place = sym c.in-Some.ensures;
      book = book;
      book' = c.recover_request.new.book;
      at_book = element_at c.args.books.now c.in-Some.place c.index-books-place.result within;
      set = refl;
      made = made;
      shows = subst (λ x. events.RequestShows g.F.Files g.R.Roads g.I.LinkIn g.O.LinkOut c.in-Recovery.asked c.args.first.end x book c.recover_request.new.book c.args.roads.now c.recover_request.new.roads made) c.in-Ok.ensures
          c.in-Err.ensures.shows;
      faulted = c.in-Err.ensures.faulted;
      causes = c.in-Err.ensures.causes;
      follows = refl;
    })

-- The own step of the reader.
use Rattle.std.proofs.Common.{Ok, subst}
use Rattle.reader_events.specs.declared.asking.Asked.{Asked}
use Rattle.reader_events.specs.Asking.{AskShows}
use Rattle.play_model.specs.Asks.{request_of}
use Rattle.play_readers.proofs.OwnLaws.{own_reached, own_unreached}
use Rattle.play_readers.proofs.clients.ReadClient.own.Goals as goal

pub returns-in-Reading-clause-shows : goal.returns-in-Reading-clause-shows
returns-in-Reading-clause-shows g c =
    let S : Asked g.row.I.Denot g.row.O.Denot → Type 0 = λ a. AskShows g.R.Roads g.I.LinkIn g.O.LinkOut (request_of c.args.self.now.ask) c.args.self.now.ask.node c.args.roads.now c.asked.new.roads (Ok a) in
    own_reached g.R.Roads g.I.LinkIn g.O.LinkOut c.args.self.now c.in-Reading.reading c.in-Reading.lower c.args.roads.now c.asked.new.roads (subst S c.in-Reading.is c.in_ok-reading.ensures.shows)

pub returns-in-Unanswered-clause-shows : goal.returns-in-Unanswered-clause-shows
returns-in-Unanswered-clause-shows g c =
    let S : Asked g.row.I.Denot g.row.O.Denot → Type 0 = λ a. AskShows g.R.Roads g.I.LinkIn g.O.LinkOut (request_of c.args.self.now.ask) c.args.self.now.ask.node c.args.roads.now c.asked.new.roads (Ok a) in
    own_unreached g.R.Roads g.I.LinkIn g.O.LinkOut c.args.self.now c.args.roads.now c.asked.new.roads (subst S c.in-Unanswered.is c.in_ok-reading.ensures.shows)

-- The request couldn't be sent.
use Rattle.std.proofs.Common.{Result, inl, inr, refl, sym, subst}
use Rattle.visible_read.specs.declared.reading.Reading.{Reading}
use Rattle.reader_events.specs.declared.faults.ReaderFault.{ReaderFault}
use Rattle.reader_events.specs.Asking.{IsSent}
use Rattle.reader_events.proofs.asking.sent.Goals.{in-Ok, in-Err}
use Rattle.reader_events.proofs.asking.sent.Goals as goal

pub returns-after-given_back-clause-sends : goal.returns-after-given_back-clause-sends
returns-after-given_back-clause-sends g c =
    elim c.match-given_back.branch [
      | in-Ok w ↦ subst (λ (x : Result (Reading g.row.I.Denot g.row.O.Denot) ReaderFault). IsSent g.R.Roads g.I.LinkIn g.O.LinkOut c.args.reading c.args.roads.now c.given_back.new.roads x) (sym w.result-is) (inl refl)
      | in-Err w ↦ subst (λ (x : Result (Reading g.row.I.Denot g.row.O.Denot) ReaderFault). IsSent g.R.Roads g.I.LinkIn g.O.LinkOut c.args.reading c.args.roads.now c.given_back.new.roads x) (sym w.result-is)
          (inr (record { talk = c.step.new.self.talk; end = c.step.new.self.end; read = c.in-Ended.ended; steps = c.in-Ended.ensures.steps; gives = w.in-Err.ensures.gives }))
    ]

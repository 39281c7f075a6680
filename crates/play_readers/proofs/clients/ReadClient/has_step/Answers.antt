-- A client that hasn't asked yet may ask, and no other.
use Rattle.std.proofs.Common.{◌≡◌, true, false, ap, sym}
use Rattle.play_readers.proofs.DueLaws.{step_tells, begins_tells, old_state}
use Rattle.play_readers.proofs.clients.ReadClient.has_step.Goals as goal
use Rattle.play_readers.specs.Clients.{is_new}

pub returns-in-Asks-clause-tells : goal.returns-in-Asks-clause-tells
returns-in-Asks-clause-tells g c = step_tells g.I.LinkIn g.O.LinkOut c.args.self.now true (sym (ap is_new c.in-Asks.is))

pub returns-in-Asks-clause-begins : goal.returns-in-Asks-clause-begins
returns-in-Asks-clause-begins g c = begins_tells g.I.LinkIn g.O.LinkOut c.args.self.now true (sym (ap is_new c.in-Asks.is))

pub returns-in_default : goal.returns-in_default
returns-in_default g c =
    let old : false ≡ is_new c.args.self.now.state = old_state g.I.LinkIn g.O.LinkOut c.args.self.now.state c.in_default.not-Asks in
    record { value = old; tells = step_tells g.I.LinkIn g.O.LinkOut c.args.self.now false old; begins = begins_tells g.I.LinkIn g.O.LinkOut c.args.self.now false old }

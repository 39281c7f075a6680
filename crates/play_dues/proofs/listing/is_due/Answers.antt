-- Whoever would do it says whether it is due.
use Rattle.std.proofs.Common.{refl}
use Rattle.play_clients.proofs.MemberEvents.SetupKnown.{pass_same}
use Rattle.play_model.specs.declared.dues.Due.TheVariants as due
use Rattle.play_dues.proofs.ListingLaws.{own_tells, own_alone, reader_tells, reader_alone, primary_tells, primary_alone, never_alone, down_tells, ready_tells, up_tells}
use Rattle.play_dues.proofs.listing.is_due.Goals as goal

pub returns-in-Own-clause-tells : goal.returns-in-Own-clause-tells
returns-in-Own-clause-tells g c =
    own_tells g.R.Roads g.I.LinkIn g.O.LinkOut c.args.nodes.now c.args.clients.now c.args.reads.now c.args.recoveries.now c.args.due c.in-Own.block c.args.roads.now c.has_own.result c.in-Own.is c.has_own.ensures

pub returns-in-Own-clause-alone : goal.returns-in-Own-clause-alone
returns-in-Own-clause-alone g c = own_alone c.args.clients.now c.args.reads.now c.args.recoveries.now c.args.due c.in-Own.block c.has_own.result c.in-Own.is c.has_own.ensures

pub returns-in-Reader : goal.returns-in-Reader
returns-in-Reader g c = record {
  tells = reader_tells g.R.Roads g.I.LinkIn g.O.LinkOut c.args.nodes.now c.args.clients.now c.args.reads.now c.args.recoveries.now c.args.due c.in-Reader.ask c.as_slice.result.now c.args.roads.now c.begins.result c.in-Reader.is c.as_slice.ensures.value c.begins.ensures;
  alone = reader_alone c.args.clients.now c.args.reads.now c.args.recoveries.now c.args.due c.in-Reader.ask c.as_slice.result.now c.begins.result c.in-Reader.is c.as_slice.ensures.value c.begins.ensures;
  pass = pass_same g.R.Roads g.I.LinkIn g.O.LinkOut c.args.roads.now c.args.roads.now refl;
}

pub returns-in-Primary : goal.returns-in-Primary
returns-in-Primary g c = record {
  tells = primary_tells g.R.Roads g.I.LinkIn g.O.LinkOut c.args.nodes.now c.args.clients.now c.args.reads.now c.args.recoveries.now c.args.due c.in-Primary.recovery c.as_slice-in-Primary.result.now c.args.roads.now c.acts.result c.in-Primary.is c.as_slice-in-Primary.ensures.value c.acts.ensures;
  alone = primary_alone c.args.clients.now c.args.reads.now c.args.recoveries.now c.args.due c.in-Primary.recovery c.as_slice-in-Primary.result.now c.acts.result c.in-Primary.is c.as_slice-in-Primary.ensures.value c.acts.ensures;
  pass = pass_same g.R.Roads g.I.LinkIn g.O.LinkOut c.args.roads.now c.args.roads.now refl;
}

pub returns-in-Down : goal.returns-in-Down
returns-in-Down g c = record {
  tells = down_tells g.R.Roads g.I.LinkIn g.O.LinkOut c.args.nodes.now c.args.clients.now c.args.reads.now c.args.recoveries.now c.args.due c.in-Down.conn c.args.roads.now c.lower_takes.new.roads c.lower_takes.result c.in-Down.is c.lower_takes.ensures.tells;
  alone = never_alone c.args.clients.now c.args.reads.now c.args.recoveries.now c.args.due (due.Down c.in-Down.conn) c.lower_takes.result c.in-Down.is (λ no. no);
  pass = c.lower_takes.ensures.pass;
}

pub returns-in-Ready : goal.returns-in-Ready
returns-in-Ready g c = record {
  tells = ready_tells g.R.Roads g.I.LinkIn g.O.LinkOut c.args.nodes.now c.args.clients.now c.args.reads.now c.args.recoveries.now c.args.due c.in-Ready.conn c.args.roads.now c.lower_acts.result c.in-Ready.is c.lower_acts.ensures;
  alone = never_alone c.args.clients.now c.args.reads.now c.args.recoveries.now c.args.due (due.Ready c.in-Ready.conn) c.lower_acts.result c.in-Ready.is (λ no. no);
  pass = pass_same g.R.Roads g.I.LinkIn g.O.LinkOut c.args.roads.now c.args.roads.now refl;
}

pub returns-in-Up : goal.returns-in-Up
returns-in-Up g c = record {
  tells = up_tells g.R.Roads g.I.LinkIn g.O.LinkOut c.args.nodes.now c.args.clients.now c.args.reads.now c.args.recoveries.now c.args.due c.in-Up.conn c.args.roads.now c.upper_takes.new.roads c.upper_takes.result c.in-Up.is c.upper_takes.ensures.tells;
  alone = never_alone c.args.clients.now c.args.reads.now c.args.recoveries.now c.args.due (due.Up c.in-Up.conn) c.upper_takes.result c.in-Up.is (λ no. no);
  pass = c.upper_takes.ensures.pass;
}

-- There is no pipeline on which anything is sent.
use Rattle.std.proofs.Common.{refl}
use Rattle.member_events.proofs.SetupKnown.{pass_same}
use Rattle.client_events.proofs.sending.followed.Goals as goal

pub returns-in-Closed-clause-passes : goal.returns-in-Closed-clause-passes
returns-in-Closed-clause-passes g c = pass_same g.R.Roads g.I.LinkIn g.O.LinkOut c.args.roads.now c.args.roads.now refl

pub returns-in-SettingUp-clause-passes : goal.returns-in-SettingUp-clause-passes
returns-in-SettingUp-clause-passes g c = pass_same g.R.Roads g.I.LinkIn g.O.LinkOut c.args.roads.now c.args.roads.now refl

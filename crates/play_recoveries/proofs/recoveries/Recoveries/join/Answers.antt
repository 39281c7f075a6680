-- The client stands behind the others.
use Rattle.std.specs.declared.alloc.AllocError.{AllocError}
use Rattle.std.proofs.Common.{Result, refl, sym, subst}
use Rattle.play_recoveries.specs.Joining.{Joins}
use Rattle.play_recoveries.proofs.JoinLaws.{has_joined}
use Rattle.play_recoveries.proofs.recoveries.Recoveries.join.Goals.{in-Ok, in-Err}
use Rattle.play_recoveries.proofs.recoveries.Recoveries.join.Goals as goal

pub returns : goal.returns
returns g c = elim c.match-push.branch [
  | in-Ok b ↦ subst (λ (x : Result (Unit {0}) AllocError). Joins g.I.LinkIn g.O.LinkOut c.args.recovery c.args.self.now (record c.args.self.now { clients = c.push.new.self }) x) (sym b.result-is)
      (has_joined g.I.LinkIn g.O.LinkOut c.args.recovery c.args.self.now (record c.args.self.now { clients = c.push.new.self }) (rw (b.in-Ok.is, c.new.ensures) at c.push.ensures.items) refl)
  | in-Err b ↦ subst (λ (x : Result (Unit {0}) AllocError). Joins g.I.LinkIn g.O.LinkOut c.args.recovery c.args.self.now (record c.args.self.now { clients = c.push.new.self }) x) (sym b.result-is)
      (record { clients = rw b.in-Err.is at c.push.ensures.items; servers = refl })
]

-- The end from above found no memory, and the one to the mirror stays with the member.
use Rattle.std.proofs.Common.{rules, refl, Err}
use Rattle.pipe_member.proofs.member.Member.retire.Goals as goal

pub returns-in_err-bring : goal.returns-in_err-bring
returns-in_err-bring g c = record {
  middle = c.bring.new.self;
  first = Err c.in_err-bring.field-0.0;
  upper = record {
    carried = c.in_err-bring.ensures.carried;
    plain = c.in_err-bring.ensures.plain;
    connections = c.in_err-bring.ensures.connections;
    risen = c.in_err-bring.ensures.risen;
    err_carried = c.in_err-bring.ensures.err_carried;
    err_plain = c.in_err-bring.ensures.err_plain;
    err_risen = c.in_err-bring.ensures.err_risen;
    cause = c.in_err-bring.ensures.cause;
    schedule = c.in_err-bring.ensures.schedule;
  };
  lower = (refl, search rules);
}

-- The end was brought back, or there was no memory for it.
use Rattle.block_recovery.proofs.actions.bring_back.Goals as goal

pub returns-clause-brings : goal.returns-clause-brings
returns-clause-brings g c = record {
  result = c.bring-brought.result;
  brings = record {
    carried = c.bring-brought.ensures.carried;
    plain = c.bring-brought.ensures.plain;
    connections = c.bring-brought.ensures.connections;
    risen = c.bring-brought.ensures.risen;
    err_carried = c.bring-brought.ensures.err_carried;
    err_plain = c.bring-brought.ensures.err_plain;
    err_risen = c.bring-brought.ensures.err_risen;
    cause = c.bring-brought.ensures.cause;
    schedule = c.bring-brought.ensures.schedule;
  };
  place_is = c.place_after.ensures.place;
}

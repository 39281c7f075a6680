-- The members so far were sent the text, where they are chosen.
use Rattle.std.proofs.Common.{◌≡◌, ◌≤◌, length, Ok}
use Rattle.block_recovery.specs.Actions.{Passes, SendsAt}
use Rattle.block_recovery.specs.Dialling.{KeepsEnds}
use Rattle.block_recovery.proofs.actions.send_all.Given as goal

abbrev pub invariant-loop-place : goal.invariant-loop-place
invariant-loop-place g l = record {
  sent : Passes (SendsAt g.O.LinkOut l.text l.members l.chosen (Ok tt)) l.place l.fn.links l.links;
  count : length l.links ≡ length l.fn.links;
  ends : KeepsEnds l.fn.links l.links;
  within : l.place ≤ length l.fn.links;
}

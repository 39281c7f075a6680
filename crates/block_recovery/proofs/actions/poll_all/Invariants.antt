-- Nothing is there on the connections so far.
use Rattle.std.proofs.Common.{◌≡◌, ◌≤◌, length}
use Rattle.block_recovery.specs.Actions.{Passes, PollsPlace}
use Rattle.block_recovery.specs.declared.hearing.Looked.TheVariants as looked
use Rattle.block_recovery.specs.Dialling.{KeepsEnds}
use Rattle.block_recovery.proofs.actions.poll_all.Given as goal

abbrev pub invariant-loop-place : goal.invariant-loop-place
invariant-loop-place g l = record {
  quiet : Passes (PollsPlace g.I.LinkIn l.standings looked.Nothing) l.place l.fn.links l.links;
  count : length l.links ≡ length l.fn.links;
  ends : KeepsEnds l.fn.links l.links;
  within : l.place ≤ length l.fn.links;
}

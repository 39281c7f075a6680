-- What a member takes from below.
use Rattle.std.specs.Prelude.{All}
use Rattle.hd_base.specs.Wire.{IsStatus}
use Rattle.block_receiver.specs.MemberCore.FromBelow.{FromBelow}
use Rattle.block_receiver.specs.MemberCore.FromBelow.TheVariants as below

-- An ack is of listed statuses.
abbrev pub IsListedBelow : FromBelow → Type 0
IsListedBelow (below.Ack a) = All IsStatus a.replies
IsListedBelow other = Unit {0}

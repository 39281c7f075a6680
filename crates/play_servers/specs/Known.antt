-- The roads know the ends of connections that go on.
use Rattle.std.specs.Prelude.{Option, Some, None, IfSome}
use Rattle.hd_base.specs.Channels.{Plain}
use Rattle.hd_base.specs.Ends.{IsKnown}
use Rattle.hd_base.specs.declared.numbers.ConnId.{ConnId}
use Rattle.play_servers.specs.declared.servers.Left.{Left}
use Rattle.play_servers.specs.declared.servers.ReadEnd.{ReadEnd}
use Rattle.play_servers.specs.declared.servers.ReadEnd.TheVariants as read_end

-- the connection of a lower end that goes on
abbrev pub end_conn : {I O : Type 0} → ReadEnd I O → Option ConnId
end_conn (read_end.Idle e) = Some e.id
end_conn (read_end.Serving read place) = Some read.end.id
end_conn read_end.Ended = None

-- The roads know it.
abbrev pub EndIsKnown : {I O : Type 0} → Option Plain → ReadEnd I O → Type 0
EndIsKnown plain e = IfSome (end_conn e) (λ conn. IsKnown plain conn.0)

abbrev pub LeftIsKnown : {I O : Type 0} → Option Plain → Left I O → Type 0
LeftIsKnown plain left = EndIsKnown plain left.end

-- What an exchange, and giving back, make of a member's two ends and of the roads.
use Rattle.std.specs.Prelude.{◌≡◌, Option, Some, None, IfSome, Result, Ok, Err}
use Rattle.hd_base.specs.Ends.{IsKnown}
use Rattle.hd_base.specs.Channels.{Plain}
use Rattle.hd_base.specs.declared.ends.Conn.{Conn}
use Rattle.hd_base.specs.declared.ends.RoadError.{RoadError}
use Rattle.hd_base.specs.declared.numbers.ConnId.{ConnId}
use Rattle.hd_base.specs.declared.links.LinkIn as link_in
use Rattle.hd_base.specs.declared.links.LinkOut as link_out
use Rattle.hd_base.specs.declared.roads.Roads as roads
use Rattle.link_pieces.specs.Roads.{names, ExchangesEnd, BringsEnd}
use Rattle.pipe_member.specs.declared.member.Member.{Member}

-- The roads know both ends, where observable.
abbrev pub AreKnown : {I O : Type 0} → Option Plain → Member I O → Type 0
AreKnown plain m = IsKnown plain m.upstream.id.0 × IfSome m.mirror (λ end. IsKnown plain end.id.0)

-- All but the two ends stays.
pub record KeepsRest {I O : Type 0} (old new : Member I O) : Type 0 where
  pub node : new.node ≡ old.node
  pub op : new.op ≡ old.op
  pub above : new.above ≡ old.above
  pub below : new.below ≡ old.below
  pub stage : new.stage ≡ old.stage

-- The end to the mirror, if there is one, is exchanged where the exchange of the other one succeeded.
abbrev pub ExchangesMirror : {R I O : Type 0} → roads.Ghosts R I O → link_in.Ghosts I → link_out.Ghosts O →
    Option ConnId → Option (Conn I O) → Option (Conn I O) → R → R → Result (Unit {0}) RoadError →
    Result (Unit {0}) RoadError → Type 0
ExchangesMirror r i o take old new roads roads' (Err why) result = (new ≡ old) × (roads' ≡ roads) × (result ≡ Err why)
ExchangesMirror r i o take None None roads roads' (Ok u) result = (roads' ≡ roads) × (result ≡ Ok u)
ExchangesMirror r i o take (Some end) (Some end') roads roads' (Ok u) result =
    ExchangesEnd r i o (names take end.id) end end' roads roads' result
ExchangesMirror r i o take old new roads roads' (Ok u) result = ⊥

-- Both ends of a member are exchanged, the one from above first, and the named one takes.
pub record ExchangesBoth {R I O : Type 0} (r : roads.Ghosts R I O) (i : link_in.Ghosts I) (o : link_out.Ghosts O)
    (take : Option ConnId) (old new : Member I O) (roads roads' : R) (result : Result (Unit {0}) RoadError) : Type 0
  where
    pub middle : R
    pub first : Result (Unit {0}) RoadError
    pub upper : ExchangesEnd r i o (names take old.upstream.id) old.upstream new.upstream roads middle first
    pub lower : ExchangesMirror r i o take old.mirror new.mirror middle roads' first result
    pub rest : KeepsRest old new

abbrev pub BringsMirror : {R I O : Type 0} → roads.Ghosts R I O → link_in.Ghosts I → link_out.Ghosts O →
    Option (Conn I O) → R → R → Result (Unit {0}) RoadError → Result (Unit {0}) RoadError → Type 0
BringsMirror r i o mirror roads roads' (Err why) result = (roads' ≡ roads) × (result ≡ Err why)
BringsMirror r i o None roads roads' (Ok u) result = (roads' ≡ roads) × (result ≡ Ok u)
BringsMirror r i o (Some end) roads roads' (Ok u) result = BringsEnd r i o end roads roads' result

-- Both ends of a member are brought back, the one from above first.
pub record BringsBoth {R I O : Type 0} (r : roads.Ghosts R I O) (i : link_in.Ghosts I) (o : link_out.Ghosts O)
    (m : Member I O) (roads roads' : R) (result : Result (Unit {0}) RoadError) : Type 0 where
  pub middle : R
  pub first : Result (Unit {0}) RoadError
  pub upper : BringsEnd r i o m.upstream roads middle first
  pub lower : BringsMirror r i o m.mirror middle roads' first result

-- What an exchange, and giving back, make of the writer's connection and of the roads.
use Rattle.std.specs.Prelude.{◌≡◌, ◌||◌, is_some, Option, Some, None, Result, Ok}
use Rattle.hd_base.specs.declared.ends.RoadError.{RoadError}
use Rattle.hd_base.specs.declared.numbers.ConnId.{ConnId}
use Rattle.hd_base.specs.declared.links.LinkIn as link_in
use Rattle.hd_base.specs.declared.links.LinkOut as link_out
use Rattle.hd_base.specs.declared.roads.Roads as roads
use Rattle.link_pieces.specs.Roads.{names, ExchangesEnd, BringsEnd}
use Rattle.pipe_recovery.specs.declared.links.Link.{Link}

-- Its end is exchanged, and what was heard on it stays.
pub record Exchanges {R I O : Type 0} (r : roads.Ghosts R I O) (i : link_in.Ghosts I) (o : link_out.Ghosts O)
    (take : Option ConnId) (link link' : Link I O) (old new : R) (result : Result (Unit {0}) RoadError) : Type 0 where
  pub heard : link'.heard ≡ link.heard
  pub asked : link'.asked ≡ (is_some take || link.asked)
  pub end : ExchangesEnd r i o (names take link.end.id) link.end link'.end old new result

-- The same, if there is one.
abbrev pub ExchangesLink : {R I O : Type 0} → roads.Ghosts R I O → link_in.Ghosts I → link_out.Ghosts O
    → Option ConnId → Option (Link I O) → Option (Link I O) → R → R → Result (Unit {0}) RoadError → Type 0
ExchangesLink r i o take None None old new result = (new ≡ old) × (result ≡ Ok tt)
ExchangesLink r i o take (Some l) (Some l') old new result = Exchanges r i o take l l' old new result
ExchangesLink r i o take link link' old new result = ⊥

abbrev pub BringsLink : {R I O : Type 0} → roads.Ghosts R I O → link_in.Ghosts I → link_out.Ghosts O
    → Option (Link I O) → R → R → Result (Unit {0}) RoadError → Type 0
BringsLink r i o None old new result = (new ≡ old) × (result ≡ Ok tt)
BringsLink r i o (Some l) old new result = BringsEnd r i o l.end old new result

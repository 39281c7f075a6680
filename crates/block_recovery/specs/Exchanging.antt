-- What an exchange, and giving back, make of the connections of a primary and of the roads.
use Rattle.std.specs.Prelude.{◌≡◌, ◌||◌, ◌-◌, ℕ, true, false, List, length, Option, Some, Result, Ok, Err}
use Rattle.std.specs.List.{list_any}
use Rattle.hd_base.specs.declared.ends.RoadError.{RoadError}
use Rattle.hd_base.specs.declared.numbers.ConnId.{ConnId}
use Rattle.hd_base.specs.declared.links.LinkIn as link_in
use Rattle.hd_base.specs.declared.links.LinkOut as link_out
use Rattle.hd_base.specs.declared.roads.Roads as roads
use Rattle.link_pieces.specs.Roads.{names, ExchangesEnd}
use Rattle.block_recovery.specs.declared.links.Link.{Link}
use Rattle.block_recovery.specs.declared.links.Seat.{Seat}
use Rattle.block_recovery.specs.declared.links.Seat.TheVariants as seat
use Rattle.block_recovery.specs.Actions.{Held, IsAt, Passes, BringsBack}
use Rattle.block_recovery.specs.Dialling.{is_lost}

-- Its end is exchanged, and what was heard on it stays.
pub record Exchanges {R I O : Type 0} (r : roads.Ghosts R I O) (i : link_in.Ghosts I) (o : link_out.Ghosts O)
    (take : Option ConnId) (link link' : Link I O) (old new : R) (result : Result (Unit {0}) RoadError) : Type 0 where
  pub incoming : link'.incoming ≡ link.incoming
  pub failed : link'.failed ≡ link.failed
  pub over : link'.over ≡ link.over
  pub asked : link'.asked ≡ (names take link.end.id || link.asked)
  pub end : ExchangesEnd r i o (names take link.end.id) link.end link'.end old new result

-- The same, if there is one.
abbrev pub ExchangesLink : {R I O : Type 0} → roads.Ghosts R I O → link_in.Ghosts I → link_out.Ghosts O
    → Option ConnId → Seat I O → Seat I O → R → R → Result (Unit {0}) RoadError → Type 0
ExchangesLink r i o take seat.Empty seat.Empty old new result = (new ≡ old) × (result ≡ Ok tt)
ExchangesLink r i o take seat.Lost seat.Lost old new result = (new ≡ old) × (result ≡ Ok tt)
ExchangesLink r i o take (seat.Open l) (seat.Open l') old new result = Exchanges r i o take l l' old new result
ExchangesLink r i o take link link' old new result = ⊥

abbrev pub ExchangesAt : {R I O : Type 0} → roads.Ghosts R I O → link_in.Ghosts I → link_out.Ghosts O → Option ConnId
    → Result (Unit {0}) RoadError → ℕ → Held R I O → Held R I O → Type 0
ExchangesAt r i o take result k a b =
    IsAt (λ before after. ExchangesLink r i o take before after a.road b.road result) k a.links b.links

abbrev pub ExchangesEnded : {R I O : Type 0} → roads.Ghosts R I O → link_in.Ghosts I → link_out.Ghosts O → Option ConnId
    → ℕ → ℕ → Held R I O → Held R I O → Result (Unit {0}) RoadError → Type 0
ExchangesEnded r i o take rest count a b (Ok _) = (b ≡ a) × (rest ≡ 0)
ExchangesEnded r i o take rest count a b (Err e) = ExchangesAt r i o take (Err e) count a b

-- The connections are exchanged in order, up to one for which the roads fail.
pub record ExchangesAll {R I O : Type 0} (r : roads.Ghosts R I O) (i : link_in.Ghosts I) (o : link_out.Ghosts O)
    (take : Option ConnId) (links links' : List (Seat I O)) (old new : R) (result : Result (Unit {0}) RoadError)
    : Type 0 where
  pub count : ℕ
  pub middle : Held R I O
  pub passes : Passes (ExchangesAt r i o take (Ok tt)) count (record { links = links; road = old }) middle
  pub ends : ExchangesEnded r i o take (length links - count) count middle (record { links = links'; road = new })
      result

-- A connection is brought back, if there is one.
abbrev pub BringsLink : {R I O : Type 0} → roads.Ghosts R I O → link_in.Ghosts I → link_out.Ghosts O
    → Seat I O → Seat I O → R → R → Type 0
BringsLink r i o seat.Empty link' old new = (link' ≡ seat.Empty) × (new ≡ old)
BringsLink r i o seat.Lost link' old new = (link' ≡ seat.Lost) × (new ≡ old)
BringsLink r i o (seat.Open l) link' old new = BringsBack r i o l.end link' old new

abbrev pub BringsAt : {R I O : Type 0} → roads.Ghosts R I O → link_in.Ghosts I → link_out.Ghosts O
    → ℕ → Held R I O → Held R I O → Type 0
BringsAt r i o k a b = IsAt (λ before after. BringsLink r i o before after a.road b.road) k a.links b.links

-- The connections are brought back in order, each that there is.
abbrev pub BringsAll : {R I O : Type 0} → roads.Ghosts R I O → link_in.Ghosts I → link_out.Ghosts O
    → List (Seat I O) → List (Seat I O) → R → R → Type 0
BringsAll r i o links links' old new = Passes (BringsAt r i o) (length links)
    (record { links = links; road = old }) (record { links = links'; road = new })

-- The ends of all these connections are back with the roads.
pub record AllAreBack {R I O : Type 0} (r : roads.Ghosts R I O) (i : link_in.Ghosts I) (o : link_out.Ghosts O)
    (links : List (Seat I O)) (old new : R) : Type 0 where
  pub left : List (Seat I O)
  pub brings : BringsAll r i o links left old new
  pub none_lost : list_any (λ link. is_lost (Some link)) left ≡ false

-- The same, but for some that are lost, since the roads had no memory to take them back, here or before.
pub record OthersAreBack {R I O : Type 0} (r : roads.Ghosts R I O) (i : link_in.Ghosts I) (o : link_out.Ghosts O)
    (links : List (Seat I O)) (old new : R) : Type 0 where
  pub left : List (Seat I O)
  pub brings : BringsAll r i o links left old new
  pub some_lost : list_any (λ link. is_lost (Some link)) left ≡ true

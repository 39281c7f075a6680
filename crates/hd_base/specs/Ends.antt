-- What the ends of a connection hold and have sent, and what an exchange makes of an end and of roads over plain memory.
use Rattle.std.specs.Prelude.{◌≡◌, ℕ, ◌<◌, ◌≤◌, ◌||◌, ◌&&◌, not, nat_lt, Bool, true, false, List, length, Option, Some, None, IsSome, IfSome, MatchOption}
use Rattle.hd_base.specs.Faults.{FaultSchedule}
use Rattle.hd_base.specs.Links.{IsEmptyInbox, SentNothing}
use Rattle.hd_base.specs.Channels.{Carried, Carries, Plain, is_hungry, filled, unflushed, with_flushed, with_offer}
use Rattle.hd_base.specs.declared.ends.Conn.{Conn}
use Rattle.hd_base.specs.declared.links.LinkIn as link_in
use Rattle.hd_base.specs.declared.links.LinkOut as link_out

-- An end as `dial` and `accept` give it: it holds nothing and has sent nothing (both where observable), isn't shut, and its counts are 0.
pub record IsFresh {I O : Type 0} (i : link_in.Ghosts I) (o : link_out.Ghosts O) (end : Conn I O) : Type 0 where
  pub holds_nothing : IsEmptyInbox false (i.held end.inward)
  pub sent_nothing : SentNothing (o.sent end.outward)
  pub none_flushed : o.flushed end.outward ≡ 0
  pub none_lost : o.lost end.outward ≡ 0
  pub in_open : i.shut end.inward ≡ false
  pub out_open : o.shut end.outward ≡ false
  pub in_no_faults : i.faults end.inward ≡ 0
  pub out_no_faults : o.faults end.outward ≡ 0

-- What an end holds and has sent is observable.
pub record IsObservable {I O : Type 0} (i : link_in.Ghosts I) (o : link_out.Ghosts O) (end : Conn I O) : Type 0 where
  pub held : IsSome (i.held end.inward)
  pub sent : IsSome (o.sent end.outward)

-- Both halves of an end fail at the calls of this schedule.
pub record FailBy {I O : Type 0} (i : link_in.Ghosts I) (o : link_out.Ghosts O) (end : Conn I O)
    (schedule : Option FaultSchedule) : Type 0 where
  pub inward : i.schedule end.inward ≡ schedule
  pub outward : o.schedule end.outward ≡ schedule

-- one of an end's halves was shut
abbrev pub is_shut : {I O : Type 0} → link_in.Ghosts I → link_out.Ghosts O → Conn I O → Bool
is_shut i o end = i.shut end.inward || o.shut end.outward

-- a count of an end has risen
abbrev pub has_failed : {I O : Type 0} → link_in.Ghosts I → link_out.Ghosts O → Conn I O → Bool
has_failed i o end = nat_lt 0 (i.faults end.inward) || nat_lt 0 (o.faults end.outward)

-- An end after an exchange is the same in all but what it holds and has flushed.
pub record KeepsEnd {I O : Type 0} (i : link_in.Ghosts I) (o : link_out.Ghosts O) (old new : Conn I O) : Type 0 where
  pub id : new.id ≡ old.id
  pub lower : new.lower ≡ old.lower
  pub sent : o.sent new.outward ≡ o.sent old.outward
  pub lost : o.lost new.outward ≡ o.lost old.outward
  pub room : o.room old.outward ≤ o.room new.outward
  pub in_shut : i.shut new.inward ≡ i.shut old.inward
  pub out_shut : o.shut new.outward ≡ o.shut old.outward
  pub in_schedule : i.schedule new.inward ≡ i.schedule old.inward
  pub out_schedule : o.schedule new.outward ≡ o.schedule old.outward
  pub in_faults : i.faults new.inward ≡ i.faults old.inward
  pub out_faults : o.faults new.outward ≡ o.faults old.outward

-- Roads over plain memory with what an end has sent and not yet flushed, and perhaps its shut, where its sends are observable.
abbrev pub after_flush : {I O : Type 0} → link_in.Ghosts I → link_out.Ghosts O → Conn I O → List (List ℕ) → Plain →
    Plain
after_flush i o end sent plain =
    with_flushed plain end.id.0 end.lower (unflushed sent (o.flushed end.outward) (o.lost end.outward))
    (is_shut i o end)

-- What the roads carried now is what they had carried and what the end had sent and not yet flushed.
abbrev pub CarriesOf : {I O : Type 0} → link_out.Ghosts O → Conn I O → Option Carried → Option Carried → Type 0
CarriesOf o end old new = Carries old new end.id.0 (not end.lower) (o.flushed end.outward) (o.sent end.outward)

-- All that an end had sent is flushed, over plain memory; elsewhere nothing is.
abbrev pub FlushesAll : {I O : Type 0} → link_out.Ghosts O → Conn I O → Conn I O → Option Plain → Type 0
FlushesAll o old new plain =
    MatchOption plain
    (o.flushed new.outward ≡ o.flushed old.outward)
    (λ _. IfSome (o.sent old.outward) (λ sent. o.flushed new.outward ≡ length sent))

-- Roads over plain memory carry what an end flushes; others carry by their links alone.
abbrev pub CarriesFlushed : {I O : Type 0} → link_out.Ghosts O → Conn I O → Option Plain → Option Carried →
    Option Carried → Type 0
CarriesFlushed o end plain old new = MatchOption plain (new ≡ old) (λ _. CarriesOf o end old new)

-- Roads over plain memory after an exchange: what was not yet flushed stands there, and what stands next was given to a hungry half that takes.
abbrev pub Exchanges : {I O : Type 0} → link_in.Ghosts I → link_out.Ghosts O → Conn I O → Bool → Option Plain →
    Option Plain → Type 0
Exchanges i o end take old new =
    IfSome old (λ p. IfSome (o.sent end.outward) (λ sent. IfSome (i.held end.inward) (λ inbox.
    new ≡ Some (with_offer (after_flush i o end sent p) end.id.0 end.lower (take && is_hungry inbox)))))

-- What an inward half holds after an exchange that takes, over plain memory.
abbrev pub TakesNext : {I O : Type 0} → link_in.Ghosts I → link_out.Ghosts O → Conn I O → Conn I O → Bool →
    Option Plain → Type 0
TakesNext i o old new take plain =
    IfSome plain (λ p. IfSome (o.sent old.outward) (λ sent. IfSome (i.held old.inward) (λ inbox.
    take ≡ true → i.held new.inward ≡ Some (filled inbox ((after_flush i o old sent p).channels old.id.0 old.lower)))))

-- Roads over plain memory after an end was brought back: what was not yet flushed stands there.
abbrev pub Flushes : {I O : Type 0} → link_in.Ghosts I → link_out.Ghosts O → Conn I O → Option Plain → Option Plain →
    Type 0
Flushes i o end old new =
    IfSome old (λ p. IfSome (o.sent end.outward) (λ sent. new ≡ Some (after_flush i o end sent p)))

-- The number of connections stays, where observable, and roads that weren't observable stay so.
pub record KeepsConnections (old new : Option Plain) : Type 0 where
  pub stays_hidden : old ≡ None → new ≡ None
  pub dialled : IfSome old (λ p. IfSome new (λ q. q.dialled ≡ p.dialled))

-- The roads know the connection, where observable: it was dialled on them.
abbrev pub IsKnown : Option Plain → ℕ → Type 0
IsKnown plain conn = IfSome plain (λ p. conn < p.dialled)

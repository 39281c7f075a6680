-- The roads pass what is done with the ends of a member, and know them then.
use Rattle.std.proofs.Common.{◌≡◌, ℕ, Bool, Option, Some, None, IfSome, Result, Ok, Err, sym, subst}
use Rattle.std.specs.Prelude.{option_map, IfOk}
use Rattle.hd_base.specs.Channels.{Plain, with_accept}
use Rattle.hd_base.specs.Ends.{IsKnown}
use Rattle.hd_base.specs.declared.ends.Conn.{Conn}
use Rattle.hd_base.specs.declared.ends.RoadError.{RoadError}
use Rattle.hd_base.specs.declared.links.LinkIn as link_in
use Rattle.hd_base.specs.declared.links.LinkOut as link_out
use Rattle.hd_base.specs.declared.numbers.ConnId.{ConnId}
use Rattle.hd_base.specs.declared.roads.Roads as roads
use Rattle.link_pieces.specs.Roads.{names, ExchangesEnd}
use Rattle.pipe_member.specs.declared.member.Member.{Member}
use Rattle.pipe_member.specs.Exchanges.{AreKnown, ExchangesMirror, ExchangesBoth, BringsMirror, BringsBoth}
use Rattle.member_events.specs.declared.faults.MemberFault.{MemberFault}
use Rattle.member_events.specs.declared.joining.Joined.{Joined}
use Rattle.member_events.specs.declared.joining.MirrorDial.{MirrorDial}
use Rattle.member_events.specs.declared.joining.MirrorDial.TheVariants as dial
use Rattle.member_events.specs.Joining.{AcceptsDial, Accepts, MeetsNobody, MeetsMirror, Meets}
use Rattle.member_events.specs.Roads.{RoadsPass, ReachedIsKnown}
use Rattle.member_events.proofs.KnownLaws.{SameMirror, mirror_same, known_same, known_on}
use Rattle.member_events.proofs.SetupKnown.{pass_same, pass_brought, pass_on}

module _ {R I O : Type 0} (r : roads.Ghosts R I O) (i : link_in.Ghosts I) (o : link_out.Ghosts O) where
  -- WHAT WAS KNOWN IS KNOWN LATER

  later_if : (road road' : R) (e : Option (Conn I O)) → RoadsPass r road road' → IfSome e (λ x. IsKnown (r.plain road) x.id.0) → IfSome e (λ x. IsKnown (r.plain road') x.id.0)
  later_if road road' None p h = tt
  later_if road road' (Some e) p h = p.knows e.id.0 h

  pub known_later : (road road' : R) (m : Member I O) → RoadsPass r road road' → AreKnown (r.plain road) m → AreKnown (r.plain road') m
  known_later road road' m p k = (p.knows m.upstream.id.0 k.0, later_if road road' m.mirror p k.1)

  pub left_later : (road road' : R) (left : Option (Member I O)) → RoadsPass r road road' → IfSome left (AreKnown (r.plain road)) → IfSome left (AreKnown (r.plain road'))
  left_later road road' None p h = tt
  left_later road road' (Some m) p h = known_later road road' m p h

  -- EXCHANGES

  pub pass_exchanged : (take : Bool) (old new : Conn I O) (road road' : R) (result : Result (Unit {0}) RoadError) → ExchangesEnd r i o take old new road road' result → RoadsPass r road road'
  pass_exchanged take old new road road' result x = record { knows = λ c h. known_on (r.plain road) (r.plain road') c x.connections h; never_falls = x.cause.never_falls }

  mirror_passes : (take : Option ConnId) (old new : Option (Conn I O)) (middle road' : R) (first result : Result (Unit {0}) RoadError) → ExchangesMirror r i o take old new middle road' first result → RoadsPass r middle road'
  mirror_passes take old new middle road' (Err why) result x = pass_same r i o middle road' x.1
  mirror_passes take None None middle road' (Ok u) result x = pass_same r i o middle road' x.0
  mirror_passes take None (Some new) middle road' (Ok u) result x = absurd x
  mirror_passes take (Some old) None middle road' (Ok u) result x = absurd x
  mirror_passes take (Some old) (Some new) middle road' (Ok u) result x = pass_exchanged (names take old.id) old new middle road' result x

  pub exchange_passes : (take : Option ConnId) (old new : Member I O) (road road' : R) (result : Result (Unit {0}) RoadError) → ExchangesBoth r i o take old new road road' result → RoadsPass r road road'
  exchange_passes take old new road road' result x =
      pass_on r i o road x.middle road' (pass_exchanged (names take old.upstream.id) old.upstream new.upstream road x.middle x.first x.upper)
      (mirror_passes take old.mirror new.mirror x.middle road' x.first result x.lower)

  mirror_ids : (take : Option ConnId) (old new : Option (Conn I O)) (middle road' : R) (first result : Result (Unit {0}) RoadError) → ExchangesMirror r i o take old new middle road' first result → SameMirror old new
  mirror_ids take old new middle road' (Err why) result x = mirror_same old new x.0
  mirror_ids take None None middle road' (Ok u) result x = tt
  mirror_ids take None (Some new) middle road' (Ok u) result x = absurd x
  mirror_ids take (Some old) None middle road' (Ok u) result x = absurd x
  mirror_ids take (Some old) (Some new) middle road' (Ok u) result x = x.kept.id

  -- The roads know both ends after an exchange, however it ends.
  pub exchange_known : (take : Option ConnId) (old new : Member I O) (road road' : R) (result : Result (Unit {0}) RoadError) → ExchangesBoth r i o take old new road road' result → AreKnown (r.plain road) old → AreKnown (r.plain road') new
  exchange_known take old new road road' result x k =
      known_same (r.plain road') old new (record { upper = x.upper.kept.id; lower = mirror_ids take old.mirror new.mirror x.middle road' x.first result x.lower })
      (known_later road road' old (exchange_passes take old new road road' result x) k)

  -- ENDS THAT ARE BROUGHT BACK

  brings_mirror : (e : Option (Conn I O)) (middle road' : R) (first result : Result (Unit {0}) RoadError) → BringsMirror r i o e middle road' first result → RoadsPass r middle road'
  brings_mirror e middle road' (Err why) result x = pass_same r i o middle road' x.0
  brings_mirror None middle road' (Ok u) result x = pass_same r i o middle road' x.0
  brings_mirror (Some e) middle road' (Ok u) result x = pass_brought r i o e middle road' result x

  pub retire_passes : (m : Member I O) (road road' : R) (result : Result (Unit {0}) RoadError) → BringsBoth r i o m road road' result → RoadsPass r road road'
  retire_passes m road road' result x = pass_on r i o road x.middle road' (pass_brought r i o m.upstream road x.middle x.first x.upper) (brings_mirror m.mirror x.middle road' x.first result x.lower)

  -- DIALS THAT ARE ACCEPTED

  accepts_known : (p : Option Plain) (port c : ℕ) → IsKnown p c → IsKnown (option_map (λ q. with_accept q port) p) c
  accepts_known None port c h = tt
  accepts_known (Some q) port c h = h

  pub accept_knows : (port c : ℕ) (road road' : R) → r.plain road' ≡ option_map (λ q. with_accept q port) (r.plain road) → IsKnown (r.plain road) c → IsKnown (r.plain road') c
  accept_knows port c road road' is h = subst (λ (p : Option Plain). IsKnown p c) (sym is) (accepts_known (r.plain road) port c h)

  -- WHAT IS MET OF A MIRROR

  abbrev MemberIsKnown : R → Joined I O → Type 0
  MemberIsKnown road joined = IfSome joined.member (AreKnown (r.plain road))

  abbrev MirrorIsKnown : R → Joined I O → Type 0
  MirrorIsKnown road joined = ReachedIsKnown (r.plain road) joined.mirror

  nobody_met : (P : Joined I O → Type 0) (left : Option (Member I O)) (mirror : MirrorDial I O) (road road' : R) (result : Result (Joined I O) MemberFault) → MeetsNobody left mirror road road' result → P (record { member = left; mirror = mirror }) → IfOk result P
  nobody_met P left mirror road road' result met h = subst (λ (x : Result (Joined I O) MemberFault). IfOk x P) (sym met.is) h

  accepted_met : (P : Joined I O → Type 0) (port : ℕ) (m : Member I O) (road road' : R) (result : Result (Joined I O) MemberFault) → ((e : Conn I O) → AcceptsDial r i o port road road' e → P (record { member = Some m; mirror = dial.Reached e })) → Accepts r i o port m road road' result → IfOk result P
  accepted_met P port m road road' (Ok joined) h x = subst P (sym x.is) (h x.at_end x.accepts)
  accepted_met P port m road road' (Err why) h x = tt

  mirror_met : (P : Joined I O → Type 0) (port : ℕ) (m : Member I O) (e : Option (Conn I O)) (road road' : R) (result : Result (Joined I O) MemberFault) → P (record { member = Some m; mirror = dial.Unanswered })
      → ((e : Conn I O) → AcceptsDial r i o port road road' e → P (record { member = Some m; mirror = dial.Reached e })) → MeetsMirror r i o port m e road road' result → IfOk result P
  mirror_met P port m None road road' result h k met = nobody_met P (Some m) dial.Unanswered road road' result met h
  mirror_met P port m (Some e) road road' result h k met = accepted_met P port m road road' result k met

  -- The roads know both ends of a member that was met, and that to its mirror.
  pub met_known : (port : Option ℕ) (left : Option (Member I O)) (road road' : R) (result : Result (Joined I O) MemberFault) → RoadsPass r road road' → IfSome left (AreKnown (r.plain road)) → Meets r i o port left road road' result → IfOk result (MemberIsKnown road')
  met_known port None road road' result p k met = nobody_met (MemberIsKnown road') None dial.NotDialled road road' result met tt
  met_known None (Some m) road road' result p k met = nobody_met (MemberIsKnown road') (Some m) dial.NotDialled road road' result met (known_later road road' m p k)
  met_known (Some port) (Some m) road road' result p k met =
      mirror_met (MemberIsKnown road') port m m.mirror road road' result (known_later road road' m p k) (λ e x. known_later road road' m p k) met

  pub met_reached : (port : Option ℕ) (left : Option (Member I O)) (road road' : R) (result : Result (Joined I O) MemberFault) → Meets r i o port left road road' result → IfOk result (MirrorIsKnown road')
  met_reached port None road road' result met = nobody_met (MirrorIsKnown road') None dial.NotDialled road road' result met tt
  met_reached None (Some m) road road' result met = nobody_met (MirrorIsKnown road') (Some m) dial.NotDialled road road' result met tt
  met_reached (Some port) (Some m) road road' result met =
      mirror_met (MirrorIsKnown road') port m m.mirror road road' result tt (λ e x. accept_knows port e.id.0 road road' x.plain x.known) met

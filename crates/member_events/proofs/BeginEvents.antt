-- An end that has taken nothing yet takes its first message, a request to write.
use Rattle.std.proofs.Common.{◌≡◌, ℕ, Option, Some, None, Result, Ok, Err, sym, subst}
use Rattle.hd_base.specs.declared.ends.Conn.{Conn}
use Rattle.hd_base.specs.declared.links.LinkIn as link_in
use Rattle.hd_base.specs.declared.links.LinkOut as link_out
use Rattle.hd_base.specs.declared.roads.Roads as roads
use Rattle.op_headers.specs.declared.ops.Op.{Op}
use Rattle.op_headers.specs.declared.ops.Op.TheVariants as op
use Rattle.op_headers.specs.Values.{WriteFields}
use Rattle.road_traffic.specs.Showing.{Net}
use Rattle.world_texts.specs.World.Parts.{request}
use Rattle.world_texts.specs.World.Worlds.{World}
use Rattle.world_texts.specs.World.Connections.{Next, message, the_end}
use Rattle.member_events.specs.declared.beginning.Requested.{Requested}
use Rattle.member_events.specs.declared.faults.MemberFault.{MemberFault}
use Rattle.member_events.specs.Beginning.{FollowsRequest, IsFirstRequest, CanTakeFirst, HasFirst, FirstShows, IsFirst, CanBegin, HasRequest, BeginShows}

-- a request to write is a request
is_first_request : (x : Next) → IsFirst x → IsFirstRequest x
is_first_request (message (request (op.Write fields))) h = h
is_first_request (message other) h = absurd h
is_first_request the_end h = tt

can_take : (w : World) (c : ℕ) (x : Next) → CanBegin w c x → CanTakeFirst w c x
can_take w c x can = record { comes = can.comes; first = is_first_request x can.first }

module _ {R I O : Type 0} (r : roads.Ghosts R I O) (i : link_in.Ghosts I) (o : link_out.Ghosts O) where
  pub begin_failed : (old : Conn I O) (result : Result (Option (Requested I O)) MemberFault) (why : MemberFault) (road road' : R) → result ≡ Err why → FirstShows r i o old road road' (Err why) → BeginShows r i o old road road' result
  begin_failed old result why road road' is h = subst (λ (z : Result (Option (Requested I O)) MemberFault). BeginShows r i o old road road' z) (sym is)
      (λ w net conn answered x stands can. h w net conn answered x stands (can_take w conn.0 x can))

  pub begin_ended : (old : Conn I O) (road road' : R) → FirstShows r i o old road road' (Ok None) → BeginShows r i o old road road' (Ok None)
  begin_ended old road road' h = λ w net conn answered x stands can. h w net conn answered x stands (can_take w conn.0 x can)

  -- the request that was taken is one to write
  write_taken : (w : World) (net : Net) (c : ℕ) (x : Next) (road : R) (at_end : Conn I O) (fields : WriteFields) → HasFirst r i o w net c x road (record { end = at_end; op = op.Write fields }) → HasRequest r i o w net c x road (record { end = at_end; op = fields })
  write_taken w net c x road at_end fields h = record { is_request = h.is_request; made = h.made; roads_are = h.roads_are; end_is = h.end_is; others = h.others }

  pub begin_taken : (old at_end : Conn I O) (asked : Op) (result : Result (Option (Requested I O)) MemberFault) (road middle road' : R) → FirstShows r i o old road middle (Ok (Some (record { end = at_end; op = asked })))
      → FollowsRequest r i o asked at_end middle road' result → BeginShows r i o old road road' result
  begin_taken old at_end (op.Write fields) result road middle road' h follows =
      subst (λ (z : Result (Option (Requested I O)) MemberFault). BeginShows r i o old road road' z) (sym follows.1)
      (λ w net conn answered x stands can. subst (λ (y : R). HasRequest r i o w net conn.0 x y (record { end = at_end; op = fields })) (sym follows.0)
      (write_taken w net conn.0 x middle at_end fields (h w net conn answered x stands (can_take w conn.0 x can))))
  begin_taken old at_end other result road middle road' h follows =
      λ w net conn answered x stands can. absurd (subst IsFirst (h w net conn answered x stands (can_take w conn.0 x can)).is_request can.first)

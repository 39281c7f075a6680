-- What is due of the recoveries.
use Rattle.std.proofs.Common.{◌≡◌, ◌<◌, ◌≤◌, ℕ, Bool, true, false, List, length, slice_get, Option, Some, None, IfSome, refl, sym, ap, ◌∙◌, subst, arith}
use Rattle.std.specs.Prelude.{◌&&◌}
use Rattle.hd_base.specs.declared.links.LinkIn as link_in
use Rattle.hd_base.specs.declared.links.LinkOut as link_out
use Rattle.hd_base.specs.declared.numbers.BlockId.{BlockId}
use Rattle.hd_base.specs.declared.numbers.ConnId.{ConnId}
use Rattle.hd_base.specs.declared.numbers.NodeId.{NodeId}
use Rattle.hd_base.specs.declared.roads.Roads as roads
use Rattle.road_traffic.specs.Showing.{Net}
use Rattle.world.specs.Connections.{Next, is_served, next_down}
use Rattle.world.specs.Enabled.{takes_down, can_up}
use Rattle.world.specs.Parts as parts
use Rattle.world.specs.Parts.{by_writer, by_member, by_reader, by_primary, Lower, idle, writes, serves, recovers, ended_below}
use Rattle.world.specs.Worlds.{World}
use Rattle.play_nodes.specs.WorldOrders.Orders.{purpose_of, recovering}
use Rattle.play_model.specs.Dues.{is_open, is_open_above}
use Rattle.play_nodes.specs.declared.connections.Connection.{Connection}
use Rattle.play_nodes.specs.declared.connections.Upper.{Upper}
use Rattle.play_nodes.specs.declared.connections.Upper.TheVariants as upper
use Rattle.play_nodes.specs.declared.nodes.Nodes.{Nodes}
use Rattle.play_nodes.specs.Showing.{UpperShows}
use Rattle.play_nodes.proofs.PlaceLaws.{element_within, same_some}
use Rattle.play_primaries.specs.declared.clients.PrimaryClient.{PrimaryClient}
use Rattle.play_primaries.specs.Dues as primaries
use Rattle.play_servers.specs.declared.recoveries.AnswerEnd.{AnswerEnd}
use Rattle.play_servers.specs.declared.recoveries.AnswerEnd.TheVariants as answer_end
use Rattle.play_servers.specs.declared.recoveries.RecoveryServer.{RecoveryServer}
use Rattle.play_servers.specs.Recoveries.{EndShows}
use Rattle.play_recoveries.specs.declared.dues.Leader.{Leader}
use Rattle.play_recoveries.specs.declared.recoveries.Recoveries.{Recoveries}
use Rattle.play_recoveries.specs.Dues.{primary_in, TellsDialler, TellsClient, TellsUp}
use Rattle.play_recoveries.specs.Places.{PrimariesAscend, IsClientPlace, HasClient, ConnsAscend, IsServerPlace, HasServer}

-- WHO DIALLED

-- the primary that dialled, and for the member at which place
abbrev pub primary_above : Upper → Option (ℕ × ℕ)
primary_above (upper.Primary primary at node) = Some (primary, at)
primary_above other = None

pub not_primary : (x : Upper) → ((primary at : ℕ) (node : NodeId) → x ≡ upper.Primary primary at node → ⊥) → None ≡ primary_above x
not_primary (upper.Primary primary at node) never = absurd (never primary at node refl)
not_primary (upper.Writer block) never = refl
not_primary (upper.Member conn) never = refl
not_primary (upper.Reader reader) never = refl

upper_told : (u : parts.Upper) (x : Upper) → UpperShows u x → primary_above x ≡ primary_in u
upper_told (by_writer b) (upper.Writer block) h = refl
upper_told (by_member d) (upper.Member conn) h = refl
upper_told (by_reader line) (upper.Reader reader) h = refl
upper_told (by_primary p place) (upper.Primary primary at node) h = ap (λ (n : ℕ). Some (n, at)) h.0 ∙ ap (λ (n : ℕ). Some (p, n)) h.1
upper_told u x h = absurd h

pub primary_so : (u : parts.Upper) (x : ℕ × ℕ) → Some x ≡ primary_in u → u ≡ by_primary x.0 x.1
primary_so (by_primary p place) x e = ap (λ (y : ℕ × ℕ). by_primary y.0 y.1) (sym (same_some x (p, place) e))
primary_so (by_writer b) x e = cc
primary_so (by_member d) x e = cc
primary_so (by_reader line) x e = cc

module _ {F I O : Type 0} (i : link_in.Ghosts I) (o : link_out.Ghosts O) where
  pub dialler_told : (n : Nodes F I O) (conn : ConnId) (x : Connection I O) (result : Option (ℕ × ℕ)) → slice_get n.connections.items conn.0 ≡ Some x → result ≡ primary_above x.upper → TellsDialler i o conn n result
  dialler_told n conn x result found is = λ w net shows within. is ∙ upper_told (w.dialled conn.0).upper x.upper (shows.each conn.0 x found).upper_is

  pub none_dialled : (n : Nodes F I O) (conn : ConnId) (result : Option (ℕ × ℕ)) → length n.connections.items ≤ conn.0 → TellsDialler i o conn n result
  none_dialled n conn result behind = λ w net shows within. absurd (clash (length n.connections.items) w.next_conn conn.0 shows.count behind within)
    where
      clash : (a b c : ℕ) → a ≡ b → a ≤ c → c < b → ⊥
      clash a b c e le lt = omega (arith, e, le, lt)

-- CLIENTS

module _ {I O : Type 0} where
  pub client_within : (xs : List (PrimaryClient I O)) (primary : ℕ) (x : Option ℕ) → IsClientPlace xs primary x → IfSome x (λ k. k < length xs)
  client_within xs primary None is = tt
  client_within xs primary (Some k) is = element_within xs k is.found is.at

  -- the client of a primary is found
  pub no_place : (xs : List (PrimaryClient I O)) (primary : ℕ) → IsClientPlace xs primary None → PrimariesAscend xs → HasClient xs primary → ⊥
  no_place xs primary none up h = none up h.place (record { found = h.client; at = h.at; same = h.of_primary })

  pub client_at : (xs ys : List (PrimaryClient I O)) (primary : ℕ) (x y : Option ℕ) → xs ≡ ys → x ≡ y → IsClientPlace xs primary x → IsClientPlace ys primary y
  client_at xs ys primary x y there is h =
      subst (λ (z : Option ℕ). IsClientPlace ys primary z) is (subst (λ (zs : List (PrimaryClient I O)). IsClientPlace zs primary x) there h)

  -- the client at a place that was found is that of the primary
  pub client_primary : (xs : List (PrimaryClient I O)) (primary k : ℕ) (c : PrimaryClient I O) → IsClientPlace xs primary (Some k) → slice_get xs k ≡ Some c → c.recovery.primary ≡ primary
  client_primary xs primary k c is at = ap (λ (x : PrimaryClient I O). x.recovery.primary) (same_some c is.found (sym at ∙ is.at)) ∙ is.same

-- UP

pub open_so : (w : World) (u : parts.Upper) (number place : ℕ) (b : Bool) → u ≡ by_primary number place → b ≡ (is_open_above w u && b)
open_so w u number place b is = ap (λ (x : parts.Upper). is_open_above w x && b) (sym is)

-- what is of a recovery was dialled by a primary
number_of : (u : parts.Upper) → purpose_of u ≡ recovering → (x : ℕ × ℕ) × (u ≡ by_primary x.0 x.1)
number_of (by_primary p place) e = ((p, place), refl)
number_of (by_writer b) e = cc
number_of (by_member d) e = cc
number_of (by_reader line) e = cc

none_some : {A : Type 0} (x : A) → None ≡ Some x → ⊥
none_some x e = cc

module _ {F I O : Type 0} (i : link_in.Ghosts I) (o : link_out.Ghosts O) where
  pub no_dialler : (n : Nodes F I O) (conn : ConnId) (p : Recoveries I O) → TellsDialler i o conn n None → TellsClient i o conn n p None
  no_dialler n conn p told = λ w net shows recoveries within primary place is. absurd (none_some (primary, place) (told w net shows within ∙ ap primary_in is))

  -- each primary that dialled has a client
  pub no_client : (n : Nodes F I O) (conn : ConnId) (p : Recoveries I O) (x : ℕ × ℕ) → TellsDialler i o conn n (Some x) → IsClientPlace p.clients.items x.0 None → TellsClient i o conn n p None
  no_client n conn p x told none = λ w net shows recoveries within primary place is.
      no_place p.clients.items x.0 none recoveries.clients.ascend (recoveries.dialled conn.0 x.0 x.1 within (primary_so (w.dialled conn.0).upper x (told w net shows within)))

  pub client_told : (n : Nodes F I O) (conn : ConnId) (p : Recoveries I O) (x : ℕ × ℕ) (k : ℕ) → TellsDialler i o conn n (Some x) → IsClientPlace p.clients.items x.0 (Some k) → TellsClient i o conn n p (Some (record { client = k; place = x.1 }))
  client_told n conn p x k told found = λ w net shows recoveries within. record {
    client = found.found;
    at = found.at;
    dialled = primary_so (w.dialled conn.0).upper x (told w net shows within) ∙ ap (λ (m : ℕ). by_primary m x.1) (sym found.same);
  }

module _ {F R I O : Type 0} (r : roads.Ghosts R I O) (i : link_in.Ghosts I) (o : link_out.Ghosts O) where
  pub none_up : (conn : ConnId) (n : Nodes F I O) (p : Recoveries I O) (road : R) → TellsClient i o conn n p None → TellsUp r i o conn n p road road false
  none_up conn n p road told = λ w net queues h placed within is.
      let x = number_of (w.dialled conn.0).upper is in
      absurd (told w net h.nodes.nodes_are h.recoveries_are within x.0.0 x.0.1 x.1)

  pub told_up : (conn : ConnId) (n : Nodes F I O) (p : Recoveries I O) (l : Leader) (c : PrimaryClient I O) (road road' : R) (result : Bool) → TellsClient i o conn n p (Some l) → slice_get p.clients.items l.client ≡ Some c
      → primaries.TellsPrimary r i o conn l.place c road road' result → TellsUp r i o conn n p road road' result
  told_up conn n p l c road road' result told at shows = λ w net queues h placed within is.
      let client = told w net h.nodes.nodes_are h.recoveries_are within in
      let same : client.client ≡ c = same_some client.client c (sym client.at ∙ at) in
      let by : (w.dialled conn.0).upper ≡ by_primary c.recovery.primary l.place = client.dialled ∙ ap (λ (x : PrimaryClient I O). by_primary x.recovery.primary l.place) same in
      let left = shows w net (record { roads_are = h.nodes.roads_are; client_is = h.recoveries_are.clients.each l.client c at }) placed by in
      (left.0.roads_are, left.1 ∙ open_so w (w.dialled conn.0).upper c.recovery.primary l.place (can_up w conn.0) by)

-- SERVERS

module _ {I O : Type 0} where
  pub server_within : (xs : List (RecoveryServer I O)) (c : ℕ) (x : Option ℕ) → IsServerPlace xs c x → IfSome x (λ k. k < length xs)
  server_within xs c None is = tt
  server_within xs c (Some k) is = element_within xs k is.found is.at

  pub server_at : (xs ys : List (RecoveryServer I O)) (c : ℕ) (x y : Option ℕ) → xs ≡ ys → x ≡ y → IsServerPlace xs c x → IsServerPlace ys c y
  server_at xs ys c x y there is h =
      subst (λ (z : Option ℕ). IsServerPlace ys c z) is (subst (λ (zs : List (RecoveryServer I O)). IsServerPlace zs c x) there h)

  pub no_server : (xs : List (RecoveryServer I O)) (c : ℕ) → IsServerPlace xs c None → ConnsAscend xs → HasServer xs c → ⊥
  no_server xs c none up h = none up h.place (record { found = h.server; at = h.at; same = h.of_conn })

  -- the server at a place that was found is that of the connection
  pub server_conn : (xs : List (RecoveryServer I O)) (c k : ℕ) (s : RecoveryServer I O) → IsServerPlace xs c (Some k) → slice_get xs k ≡ Some s → s.conn.0 ≡ c
  server_conn xs c k s is at = ap (λ (x : RecoveryServer I O). x.conn.0) (same_some s is.found (sym at ∙ is.at)) ∙ is.same

-- an end that has ended takes nothing
none_taken : (w : World) (c : ℕ) (x : Option Next) → takes_down ended_below w c x ≡ false
none_taken w c None = refl
none_taken w c (Some x) = refl

both_none : (a b : Bool) → b ≡ false → (a && b) ≡ (false && (a && b))
both_none true b e = e
both_none false b e = refl

module _ {I O : Type 0} (i : link_in.Ghosts I) (o : link_out.Ghosts O) where
  pub down_open : (l : Lower) (e : AnswerEnd I O) (w : World) (net : Net) (c : ℕ) (blocks : List BlockId) → EndShows i o w net c blocks l e → (is_served w c && takes_down l w c (next_down w c)) ≡ (is_open l && (is_served w c && takes_down l w c (next_down w c)))
  down_open idle e w net c blocks h = refl
  down_open recovers e w net c blocks h = refl
  down_open ended_below e w net c blocks h = both_none (is_served w c) (takes_down ended_below w c (next_down w c)) (none_taken w c (next_down w c))
  down_open (serves b s) e w net c blocks h = refl
  down_open (writes m) (answer_end.Idle x) w net c blocks h = absurd h
  down_open (writes m) (answer_end.Answering old place) w net c blocks h = absurd h
  down_open (writes m) answer_end.Ended w net c blocks h = absurd h

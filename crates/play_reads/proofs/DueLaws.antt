-- What is due of the reads.
use Rattle.std.proofs.Common.{◌≡◌, ◌<◌, ◌≤◌, ℕ, Bool, true, false, List, length, slice_get, Option, Some, None, IfSome, refl, sym, ap, ◌∙◌, subst, arith}
use Rattle.std.specs.Prelude.{◌&&◌, is_some, nat_lt}
use Rattle.hd_base.specs.declared.links.LinkIn as link_in
use Rattle.hd_base.specs.declared.links.LinkOut as link_out
use Rattle.hd_base.specs.declared.numbers.BlockId.{BlockId}
use Rattle.hd_base.specs.declared.numbers.ConnId.{ConnId}
use Rattle.hd_base.specs.declared.roads.Roads as roads
use Rattle.road_traffic.specs.Showing.{Net}
use Rattle.world.specs.Connections.{Next, is_served, next_down, next_up}
use Rattle.world.specs.Enabled.{takes_down, acts_below, takes_above, can_up}
use Rattle.world.specs.Parts as parts
use Rattle.world.specs.Parts.{by_writer, by_member, by_reader, by_primary, Reader, no_reader, reads, has_read, Lower, idle, writes, serves, recovers, ended_below}
use Rattle.world.specs.Worlds.{World}
use Rattle.play_nodes.specs.WorldOrders.Orders.{purpose_of, reading}
use Rattle.play_nodes.specs.PlayModel.Dues.{is_open, is_open_above}
use Rattle.play_nodes.specs.declared.connections.Connection.{Connection}
use Rattle.play_nodes.specs.declared.connections.Upper.{Upper}
use Rattle.play_nodes.specs.declared.connections.Upper.TheVariants as upper
use Rattle.play_nodes.specs.declared.nodes.Nodes.{Nodes}
use Rattle.play_nodes.specs.Showing.{UpperShows}
use Rattle.play_primaries.specs.PlayReaders.ReadClient.{ReadClient}
use Rattle.play_primaries.specs.PlayReaders.Dues as readers
use Rattle.play_servers.specs.declared.servers.ReadEnd.{ReadEnd}
use Rattle.play_servers.specs.declared.servers.ReadEnd.TheVariants as read_end
use Rattle.play_servers.specs.declared.servers.ReadServer.{ReadServer}
use Rattle.play_servers.specs.Showing.{EndShows}
use Rattle.play_nodes.proofs.PlaceLaws.{element_within, same_some}
use Rattle.play_reads.specs.declared.reads.Reads.{Reads}
use Rattle.play_reads.specs.Dues.{reader_in, TellsDialler, ClientIs, TellsClient, TellsUp}
use Rattle.play_reads.specs.Places.{ReadersAscend, IsClientPlace, HasClient, ConnsAscend, IsServerPlace, HasServer}
use Rattle.play_reads.specs.Showing.{ReadsShow}
use Rattle.play_reads.proofs.HearLaws.{none_reads}

none_some : {A : Type 0} (x : A) → None ≡ Some x → ⊥
none_some x e = cc

-- WHO DIALLED

-- the reader that dialled
abbrev pub reader_above : Upper → Option ℕ
reader_above (upper.Reader reader) = Some reader
reader_above other = None

pub not_reader : (x : Upper) → ((reader : ℕ) → x ≡ upper.Reader reader → ⊥) → None ≡ reader_above x
not_reader (upper.Reader reader) never = absurd (never reader refl)
not_reader (upper.Writer block) never = refl
not_reader (upper.Member conn) never = refl
not_reader (upper.Primary primary at node) never = refl

upper_told : (u : parts.Upper) (x : Upper) → UpperShows u x → reader_above x ≡ reader_in u
upper_told (by_writer b) (upper.Writer block) h = refl
upper_told (by_member d) (upper.Member conn) h = refl
upper_told (by_reader line) (upper.Reader reader) h = ap Some h
upper_told (by_primary p place) (upper.Primary primary at node) h = refl
upper_told u x h = absurd h

reader_so : (u : parts.Upper) (reader : ℕ) → Some reader ≡ reader_in u → u ≡ by_reader reader
reader_so (by_reader line) reader e = ap (λ (n : ℕ). by_reader n) (sym (same_some reader line e))
reader_so (by_writer b) reader e = cc
reader_so (by_member d) reader e = cc
reader_so (by_primary p place) reader e = cc

module _ {F I O : Type 0} (i : link_in.Ghosts I) (o : link_out.Ghosts O) where
  pub dialler_told : (n : Nodes F I O) (conn : ConnId) (x : Connection I O) (result : Option ℕ) → slice_get n.connections.items conn.0 ≡ Some x → result ≡ reader_above x.upper → TellsDialler i o conn n result
  dialler_told n conn x result found is = λ w net shows within. is ∙ upper_told (w.dialled conn.0).upper x.upper (shows.each conn.0 x found).upper_is

  pub none_dialled : (n : Nodes F I O) (conn : ConnId) (result : Option ℕ) → length n.connections.items ≤ conn.0 → TellsDialler i o conn n result
  none_dialled n conn result behind = λ w net shows within. absurd (clash (length n.connections.items) w.next_conn conn.0 shows.count behind within)
    where
      clash : (a b c : ℕ) → a ≡ b → a ≤ c → c < b → ⊥
      clash a b c e le lt = omega (arith, e, le, lt)

-- CLIENTS

-- A reader that hasn't begun but not is one that hasn't begun.
pub none_begun : (w : World) (reader : ℕ) (x : Reader) → w.readers reader ≡ x → ((w.readers reader ≡ no_reader → ⊥) → ⊥) → w.readers reader ≡ no_reader
none_begun w reader no_reader is never = is
none_begun w reader (reads c s) is never = absurd (never (λ e. clash (sym is ∙ e)))
  where
    clash : reads c s ≡ no_reader → ⊥
    clash e = cc
none_begun w reader (has_read r) is never = absurd (never (λ e. clash (sym is ∙ e)))
  where
    clash : has_read r ≡ no_reader → ⊥
    clash e = cc

module _ {I O : Type 0} where
  pub client_within : (xs : List (ReadClient I O)) (reader : ℕ) (x : Option ℕ) → IsClientPlace xs reader x → IfSome x (λ k. k < length xs)
  client_within xs reader None is = tt
  client_within xs reader (Some k) is = element_within xs k is.found is.at

  -- the client of a reader is found
  no_place : (xs : List (ReadClient I O)) (reader : ℕ) → IsClientPlace xs reader None → ReadersAscend xs → HasClient xs reader → ⊥
  no_place xs reader none up h = none up h.place (record { found = h.client; at = h.at; same = h.of_reader })

module _ {F I O : Type 0} (i : link_in.Ghosts I) (o : link_out.Ghosts O) where
  pub no_dialler : (n : Nodes F I O) (conn : ConnId) (p : Reads I O) → TellsDialler i o conn n None → TellsClient i o conn n p None
  no_dialler n conn p told = λ w net shows reads within reader is. absurd (none_some reader (told w net shows within ∙ ap reader_in is))

  client_is : (w : World) (net : Net) (conn : ConnId) (n : Nodes F I O) (p : Reads I O) (reader : ℕ) (x : Option ℕ) → ReadsShow i o w net n.blocks.items p → Some reader ≡ reader_in (w.dialled conn.0).upper → IsClientPlace p.clients.items reader x → ClientIs w conn.0 p.clients.items x
  client_is w net conn n p reader (Some k) shows told is = record {
    client = is.found;
    at = is.at;
    dialled = reader_so (w.dialled conn.0).upper reader told ∙ ap (λ (m : ℕ). by_reader m) (sym is.same);
  }
  client_is w net conn n p reader None shows told is = λ other by.
      none_begun w other (w.readers other) refl (λ begun. no_place p.clients.items reader is shows.clients.ascend (subst (λ (m : ℕ). HasClient p.clients.items m) (sym (same_some reader other (told ∙ ap reader_in by))) (shows.clients.all other begun)))

  pub client_told : (n : Nodes F I O) (conn : ConnId) (p : Reads I O) (reader : ℕ) (x : Option ℕ) → TellsDialler i o conn n (Some reader) → IsClientPlace p.clients.items reader x → TellsClient i o conn n p x
  client_told n conn p reader x told is = λ w net shows reads within. client_is w net conn n p reader x reads (told w net shows within) is

-- UP

line_of : (u : parts.Upper) → purpose_of u ≡ reading → (line : ℕ) × (u ≡ by_reader line)
line_of (by_reader line) e = (line, refl)
line_of (by_writer b) e = cc
line_of (by_member d) e = cc
line_of (by_primary p place) e = cc

none_last : (a b c d : Bool) → d ≡ false → false ≡ (a && (b && c && d))
none_last true true true d e = sym e
none_last true true false d e = refl
none_last true false c d e = refl
none_last false b c d e = refl

open_so : (w : World) (u : parts.Upper) (line : ℕ) (b : Bool) → u ≡ by_reader line → b ≡ (is_open_above w u && b)
open_so w u line b is = ap (λ (x : parts.Upper). is_open_above w x && b) (sym is)

module _ {F R I O : Type 0} (r : roads.Ghosts R I O) (i : link_in.Ghosts I) (o : link_out.Ghosts O) where
  pub none_up : (conn : ConnId) (n : Nodes F I O) (p : Reads I O) (road : R) → TellsClient i o conn n p None → TellsUp r i o conn n p road road false
  none_up conn n p road told = λ w net queues h order within is.
      let line = line_of (w.dialled conn.0).upper is in
      let none = told w net h.nodes.nodes_are h.reads_are within line.0 line.1 in (
        h.nodes.roads_are,
        none_last (is_open_above w (w.dialled conn.0).upper) (nat_lt conn.0 w.next_conn) (is_some (next_up w conn.0)) (takes_above (w.dialled conn.0).upper w conn.0)
            (none_reads w conn.0 line.0 (w.dialled conn.0).upper no_reader line.1 refl none),
      )

  pub told_up : (conn : ConnId) (n : Nodes F I O) (p : Reads I O) (place : ℕ) (c : ReadClient I O) (road road' : R) (result : Bool) → TellsClient i o conn n p (Some place) → slice_get p.clients.items place ≡ Some c
      → readers.TellsReader r i o conn c road road' result → TellsUp r i o conn n p road road' result
  told_up conn n p place c road road' result told at shows = λ w net queues h order within is.
      let client = told w net h.nodes.nodes_are h.reads_are within in
      let same : client.client ≡ c = same_some client.client c (sym client.at ∙ at) in
      let by : (w.dialled conn.0).upper ≡ by_reader c.ask.reader = client.dialled ∙ ap (λ (x : ReadClient I O). by_reader x.ask.reader) same in
      let left = shows w net (record { roads_are = h.nodes.roads_are; client_is = h.reads_are.clients.each place c at }) order by in
      (left.0.roads_are, left.1 ∙ open_so w (w.dialled conn.0).upper c.ask.reader (can_up w conn.0) by)

-- SERVERS

module _ {I O : Type 0} where
  pub server_within : (xs : List (ReadServer I O)) (c : ℕ) (x : Option ℕ) → IsServerPlace xs c x → IfSome x (λ k. k < length xs)
  server_within xs c None is = tt
  server_within xs c (Some k) is = element_within xs k is.found is.at

  pub server_at : (xs ys : List (ReadServer I O)) (c : ℕ) (x y : Option ℕ) → xs ≡ ys → x ≡ y → IsServerPlace xs c x → IsServerPlace ys c y
  server_at xs ys c x y there is h =
      subst (λ (z : Option ℕ). IsServerPlace ys c z) is (subst (λ (zs : List (ReadServer I O)). IsServerPlace zs c x) there h)

  pub no_server : (xs : List (ReadServer I O)) (c : ℕ) → IsServerPlace xs c None → ConnsAscend xs → HasServer xs c → ⊥
  no_server xs c none up h = none up h.place (record { found = h.server; at = h.at; same = h.of_conn })

  -- the server at a place that was found is that of the connection
  pub server_conn : (xs : List (ReadServer I O)) (c k : ℕ) (s : ReadServer I O) → IsServerPlace xs c (Some k) → slice_get xs k ≡ Some s → s.conn.0 ≡ c
  server_conn xs c k s is at = ap (λ (x : ReadServer I O). x.conn.0) (same_some s is.found (sym at ∙ is.at)) ∙ is.same

-- an end that has ended takes nothing, and does nothing
none_taken : (w : World) (c : ℕ) (x : Option Next) → takes_down ended_below w c x ≡ false
none_taken w c None = refl
none_taken w c (Some x) = refl

both_none : (a b : Bool) → b ≡ false → (a && b) ≡ (false && (a && b))
both_none true b e = e
both_none false b e = refl

module _ {I O : Type 0} (i : link_in.Ghosts I) (o : link_out.Ghosts O) where
  pub down_open : (l : Lower) (e : ReadEnd I O) (w : World) (net : Net) (c : ℕ) (blocks : List BlockId) → EndShows i o w net c blocks l e → (is_served w c && takes_down l w c (next_down w c)) ≡ (is_open l && (is_served w c && takes_down l w c (next_down w c)))
  down_open idle e w net c blocks h = refl
  down_open (serves b s) e w net c blocks h = refl
  down_open ended_below e w net c blocks h = both_none (is_served w c) (takes_down ended_below w c (next_down w c)) (none_taken w c (next_down w c))
  down_open (writes m) (read_end.Idle x) w net c blocks h = absurd h
  down_open (writes m) (read_end.Serving read place) w net c blocks h = absurd h
  down_open (writes m) read_end.Ended w net c blocks h = absurd h
  down_open recovers (read_end.Idle x) w net c blocks h = absurd h
  down_open recovers (read_end.Serving read place) w net c blocks h = absurd h
  down_open recovers read_end.Ended w net c blocks h = absurd h

  pub ready_open : (l : Lower) (e : ReadEnd I O) (w : World) (net : Net) (c : ℕ) (blocks : List BlockId) → EndShows i o w net c blocks l e → (is_served w c && acts_below l w c) ≡ (is_open l && (is_served w c && acts_below l w c))
  ready_open idle e w net c blocks h = refl
  ready_open (serves b s) e w net c blocks h = refl
  ready_open ended_below e w net c blocks h = both_none (is_served w c) false refl
  ready_open (writes m) (read_end.Idle x) w net c blocks h = absurd h
  ready_open (writes m) (read_end.Serving read place) w net c blocks h = absurd h
  ready_open (writes m) read_end.Ended w net c blocks h = absurd h
  ready_open recovers (read_end.Idle x) w net c blocks h = absurd h
  ready_open recovers (read_end.Serving read place) w net c blocks h = absurd h
  ready_open recovers read_end.Ended w net c blocks h = absurd h

-- Whether the upper end of a connection takes what stands next: the member, the writer or the reader that dialled it.
use Rattle.std.proofs.Common.{◌≡◌, ◌<◌, ◌≤◌, ℕ, Bool, true, false, List, length, get_or, slice_get, option_map, Option, Some, None, is_some, refl, sym, ap, ◌∙◌, subst, eqb-true, eq-eqb, le-ltb, arith}
use Rattle.std.specs.Prelude.{◌&&◌, ◌==◌, nat_lt, is_none, is_some}
use Rattle.std.proofs.lemmas.Bool.Decides.{nat_tests}
use Rattle.std.proofs.lemmas.Option.{get_or_from_slice_get}
use Rattle.hd_base.specs.declared.links.LinkIn as link_in
use Rattle.hd_base.specs.declared.links.LinkOut as link_out
use Rattle.hd_base.specs.declared.numbers.BlockId.{BlockId}
use Rattle.hd_base.specs.declared.numbers.ConnId.{ConnId}
use Rattle.hd_base.specs.declared.roads.Roads as roads
use Rattle.road_traffic.specs.Showing.{Net}
use Rattle.world.specs.Connections.{is_conn, next_up}
use Rattle.world.specs.Enabled.{can_up, takes_above}
use Rattle.world.specs.Parts as parts
use Rattle.world.specs.Parts.{by_writer, by_member, by_reader, by_primary}
use Rattle.world.specs.Worlds.{World}
use Rattle.play_model.proofs.WorldLaws.FactTables.{and-left, and-right}
use Rattle.play_model.specs.declared.dues.Due.TheVariants as due
use Rattle.play_model.specs.Dues.{Queues, is_due, is_open_above}
use Rattle.play_clients.specs.declared.clients.Client.{Client}
use Rattle.play_reads.specs.PlayNodes.Connection.{Connection}
use Rattle.play_reads.specs.PlayNodes.Upper.{Upper}
use Rattle.play_reads.specs.PlayNodes.Upper.TheVariants as upper
use Rattle.play_reads.specs.PlayNodes.Nodes.{Nodes}
use Rattle.play_reads.specs.PlayNodes.Dues.{is_elsewhere, TellsElsewhere, TellsUp}
use Rattle.play_reads.specs.PlayNodes.Showing.{UpperShows, is_pipeline, NodesStand}
use Rattle.play_reads.proofs.PlayNodes.JoinNodes.{passes_at, place_there}
use Rattle.play_reads.proofs.PlayNodes.PlaceLaws.{element_within, same_some}
use Rattle.play_reads.proofs.PlayNodes.Tables.{element}
use Rattle.play_reads.specs.declared.reads.Reads.{Reads}
use Rattle.play_recoveries.specs.declared.recoveries.Recoveries.{Recoveries}
use Rattle.play_reads.specs.Dues as of_reads
use Rattle.play_dues.specs.Conns.{writer_above, TellsClient, TellsUpper}
use Rattle.play_dues.specs.Places.{client_place}
use Rattle.play_dues.specs.Showing.{DuesShow}
use Rattle.play_dues.specs.Writers.{TellsWriter}
use Rattle.play_recoveries.specs.declared.dues.Dialler.{Dialler}
use Rattle.play_recoveries.specs.Dues as of_recoveries
use Rattle.play_recoveries.specs.Dues.{TellsDialler, pair_of}
use Rattle.play_dues.proofs.ElsewhereLaws.{reading_so, recovering_so, away_within, away_so, piped_so}

-- where a connection is none
shut_so : (open_above within x takes : Bool) → within ≡ false → false ≡ (open_above && ((within && x) && takes))
shut_so true true x takes h = cc
shut_so true false x takes h = refl
shut_so false within x takes h = refl

-- a pipeline's connection that no writer dialled was dialled by a member
pub member_upper : (u : parts.Upper) (x : Upper) → is_pipeline u ≡ true → UpperShows u x → writer_above (Some x) ≡ None → (d : ℕ) × (u ≡ by_member d)
member_upper (by_member d) x of h is = (d, refl)
member_upper (by_writer b) (upper.Writer block) of h is = cc
member_upper (by_reader i) x of h is = cc
member_upper (by_primary i place) x of h is = cc
member_upper u x of h is = absurd h

pub writer_upper : (u : parts.Upper) (x : Upper) (block : BlockId) → UpperShows u x → writer_above (Some x) ≡ Some block → u ≡ by_writer block.0
writer_upper (by_writer b) (upper.Writer known) block h is = ap by_writer (sym h ∙ ap (λ (y : BlockId). y.0) (same_some known block is))
writer_upper (by_member d) (upper.Member conn) block h is = cc
writer_upper (by_reader i) (upper.Reader reader) block h is = cc
writer_upper (by_primary i place) (upper.Primary primary at node) block h is = cc
writer_upper u x block h is = absurd h

-- The place of a client is within the clients.
pub client_within : {I O : Type 0} (clients : List (Client I O)) (b place : ℕ) (sought : Option ℕ) → sought ≡ client_place clients b → sought ≡ Some place → place < length clients
client_within {I} {O} clients b place sought told there =
    let p = passes_at (λ (x : Client I O). x.block.0 == b) clients place (sym told ∙ there) in
    element_within clients place p.at p.found

-- Something is due on a connection: it was dialled, and its upper end takes what stands next.
pub record UpAt (w : World) (c : ℕ) : Type 0 where
  pub within : c < w.next_conn
  pub takes : takes_above (w.dialled c).upper w c ≡ true

within_so : (a b : ℕ) → nat_lt a b ≡ true → a < b
within_so a b h = grind (arith, nat_tests, h)

pub up_at : (w : World) (queues : Queues) (conn : ConnId) → is_due w queues (due.Up conn) ≡ true → UpAt w conn.0
up_at w queues conn is =
    let c : ℕ = conn.0 in
    let can : can_up w c ≡ true = and-right (is_open_above w (w.dialled c).upper) (can_up w c) is in
    record {
      within = within_so c w.next_conn (and-left (nat_lt c w.next_conn) (is_some (next_up w c)) (and-left (nat_lt c w.next_conn && is_some (next_up w c)) (takes_above (w.dialled c).upper w c) can));
      takes = and-right (nat_lt c w.next_conn && is_some (next_up w c)) (takes_above (w.dialled c).upper w c) can;
    }

pub conn_some : (x : Option ℕ) (c : ℕ) → is_conn x c ≡ true → x ≡ Some c
conn_some None c e = cc
conn_some (Some d) c e = ap (λ (n : ℕ). Some n) (sym (eqb-true c d e))

-- a writer that hears something has the connection
pub heard_conn : (w : World) (queues : Queues) (c : ConnId) (b : ℕ) → is_due w queues (due.Up c) ≡ true → (w.dialled c.0).upper ≡ by_writer b → (w.writers b).conn ≡ Some c.0
heard_conn w queues c b is e = conn_some (w.writers b).conn c.0 (and-left (is_conn (w.writers b).conn c.0) (is_none (w.writers b).told) (subst (λ (u : parts.Upper). takes_above u w c.0 ≡ true) e (up_at w queues c is).takes))

pub not_true : (b : Bool) → (b ≡ true → ⊥) → false ≡ b
not_true true h = absurd (h refl)
not_true false h = refl

pub none_is_some : {A : Type 0} (x : Option A) (a : A) → x ≡ None → x ≡ Some a → ⊥
none_is_some x a none some = cc

module _ {F R I O : Type 0} (r : roads.Ghosts R I O) (i : link_in.Ghosts I) (o : link_out.Ghosts O) where
  -- The roads show it, and all else is as it was.
  pub dues_with : (w : World) (net : Net) (queues : Queues) (road road' : R) (n : Nodes F I O) (clients : List (Client I O)) (reads : Reads I O) (recoveries : Recoveries I O) → DuesShow r i o w net queues road n clients reads recoveries → NodesStand r i o w net road' n → DuesShow r i o w net queues road' n clients reads recoveries
  dues_with w net queues road road' n clients reads recoveries h stands = record { stands = stands; orderly = h.orderly; in_order = h.in_order; primaries = h.primaries; each = h.each; connected = h.connected; reads_are = h.reads_are; recoveries_are = h.recoveries_are }

  pub upper_outside : (n : Nodes F I O) (clients : List (Client I O)) (reads : Reads I O) (recoveries : Recoveries I O) (conn : ConnId) (road : R) → length n.connections.items ≤ conn.0 → TellsUpper r i o conn n clients reads recoveries road road false
  upper_outside n clients reads recoveries conn road outside = λ w net queues h. (
    h,
    shut_so (is_open_above w (w.dialled conn.0).upper) (nat_lt conn.0 w.next_conn) (is_some (next_up w conn.0)) (takes_above (w.dialled conn.0).upper w conn.0)
        (le-ltb conn.0 w.next_conn (subst (λ (k : ℕ). k ≤ conn.0) h.stands.nodes_are.count outside)),
  )

  -- A reader dialled, or a primary.
  pub client_read : (n : Nodes F I O) (reads : Reads I O) (recoveries : Recoveries I O) (conn : ConnId) (x : Option Dialler) (road road' : R) (result : Bool) → TellsDialler i o conn n (option_map pair_of x) → is_some x ≡ false → of_reads.TellsUp r i o conn n reads road road' result → TellsClient r i o conn n reads recoveries road road' result
  client_read n reads recoveries conn x road road' result asked none tells = λ w net queues clients h within away.
      let of = reading_so (w.dialled conn.0).upper x (asked w net h.stands.nodes_are within) none away in
      let t = tells w net queues (record { nodes = h.stands; reads_are = h.reads_are }) h.in_order within of in
      (dues_with w net queues road road' n clients reads recoveries h (record { roads_are = t.0; nodes_are = h.stands.nodes_are }), t.1)

  pub client_led : (n : Nodes F I O) (reads : Reads I O) (recoveries : Recoveries I O) (conn : ConnId) (x : Option Dialler) (road road' : R) (result : Bool) → TellsDialler i o conn n (option_map pair_of x) → is_some x ≡ true → of_recoveries.TellsUp r i o conn n recoveries road road' result → TellsClient r i o conn n reads recoveries road road' result
  client_led n reads recoveries conn x road road' result asked some tells = λ w net queues clients h within away.
      let of = recovering_so (w.dialled conn.0).upper x (asked w net h.stands.nodes_are within) some in
      let t = tells w net queues (record { nodes = h.stands; recoveries_are = h.recoveries_are }) h.primaries within of in
      (dues_with w net queues road road' n clients reads recoveries h (record { roads_are = t.0; nodes_are = h.stands.nodes_are }), t.1)

  pub upper_away : (n : Nodes F I O) (clients : List (Client I O)) (reads : Reads I O) (recoveries : Recoveries I O) (conn : ConnId) (found : Bool) (road road' : R) (result : Bool) → TellsElsewhere i o conn n found → found ≡ is_elsewhere n conn.0 → found ≡ true
      → TellsClient r i o conn n reads recoveries road road' result → TellsUpper r i o conn n clients reads recoveries road road' result
  upper_away n clients reads recoveries conn found road road' result told is so tells = λ w net queues h.
      tells w net queues clients h (away_within i o w net n conn found h.stands.nodes_are told is so) (away_so i o w net n conn found h.stands.nodes_are told is so)

  pub upper_member : (n : Nodes F I O) (clients : List (Client I O)) (reads : Reads I O) (recoveries : Recoveries I O) (conn : ConnId) (found : Bool) (asked : Option BlockId) (road road' : R) (result : Bool) → conn.0 < length n.connections.items → TellsElsewhere i o conn n found → found ≡ false
      → asked ≡ writer_above (option_map (λ x. x.upper) (slice_get n.connections.items conn.0)) → asked ≡ None → TellsUp r i o conn n road road' result → TellsUpper r i o conn n clients reads recoveries road road' result
  upper_member n clients reads recoveries conn found asked road road' result within told isnt is none tells = λ w net queues h.
      let c : ℕ = conn.0 in
      let at = element n.connections.items c within in
      let piped = piped_so i o w net n conn found h.stands.nodes_are told isnt (subst (λ (k : ℕ). c < k) h.stands.nodes_are.count within) in
      let u = member_upper (w.dialled c).upper at.0.upper piped (h.stands.nodes_are.each c at.0 at.1).upper_is (ap (λ (x : Option (Connection I O)). writer_above (option_map (λ y. y.upper) x)) (sym at.1) ∙ (sym is ∙ none)) in
      let t = tells w net queues u.0 h.stands h.orderly u.1 in
      (dues_with w net queues road road' n clients reads recoveries h t.0, t.1)

  -- the writer of this block dialled
  writer_so : (w : World) (net : Net) (n : Nodes F I O) (conn : ConnId) (asked : Option BlockId) (block : BlockId) (road : R) → conn.0 < length n.connections.items → asked ≡ writer_above (option_map (λ x. x.upper) (slice_get n.connections.items conn.0)) → asked ≡ Some block
      → NodesStand r i o w net road n → (w.dialled conn.0).upper ≡ by_writer block.0
  writer_so w net n conn asked block road within told some h =
      let at = element n.connections.items conn.0 within in
      writer_upper (w.dialled conn.0).upper at.0.upper block (h.nodes_are.each conn.0 at.0 at.1).upper_is (ap (λ (x : Option (Connection I O)). writer_above (option_map (λ y. y.upper) x)) (sym at.1) ∙ (sym told ∙ some))

  pub upper_writer : (n : Nodes F I O) (clients : List (Client I O)) (reads : Reads I O) (recoveries : Recoveries I O) (conn : ConnId) (asked : Option BlockId) (sought : Option ℕ) (block : BlockId) (place : ℕ) (client : Client I O) (road road' : R) (result : Bool) → conn.0 < length n.connections.items
      → asked ≡ writer_above (option_map (λ x. x.upper) (slice_get n.connections.items conn.0)) → asked ≡ Some block → sought ≡ client_place clients block.0 → sought ≡ Some place → client ≡ get_or clients place client
      → TellsWriter r i o conn client road road' result → TellsUpper r i o conn n clients reads recoveries road road' result
  upper_writer n clients reads recoveries conn asked sought block place client road road' result within told some sought_is there read tells = λ w net queues h.
      let p = passes_at (λ (x : Client I O). x.block.0 == block.0) clients place (sym sought_is ∙ there) in
      let same : client ≡ p.at = read ∙ get_or_from_slice_get clients place p.at client p.found in
      let block_is : client.block.0 ≡ block.0 = ap (λ (x : Client I O). x.block.0) same ∙ eqb-true p.at.block.0 block.0 p.passes in
      let shown = h.each place client (p.found ∙ ap Some (sym same)) in
      let t = tells w net queues h.stands.roads_are shown.client_is h.orderly.open_ends (writer_so w net n conn asked block road within told some h.stands ∙ ap by_writer (sym block_is)) in
      (dues_with w net queues road road' n clients reads recoveries h (record { roads_are = t.0; nodes_are = h.stands.nodes_are }), t.1)

  -- each writer that has a connection has a client
  pub upper_nobody : (n : Nodes F I O) (clients : List (Client I O)) (reads : Reads I O) (recoveries : Recoveries I O) (conn : ConnId) (asked : Option BlockId) (sought : Option ℕ) (block : BlockId) (road : R) → conn.0 < length n.connections.items
      → asked ≡ writer_above (option_map (λ x. x.upper) (slice_get n.connections.items conn.0)) → asked ≡ Some block → sought ≡ client_place clients block.0 → sought ≡ None → TellsUpper r i o conn n clients reads recoveries road road false
  upper_nobody n clients reads recoveries conn asked sought block road within told some sought_is none = λ w net queues h. (
    h,
    not_true (is_due w queues (due.Up conn)) (λ is.
        let k = h.connected block.0 conn.0 (heard_conn w queues conn block.0 is (writer_so w net n conn asked block road within told some h.stands)) in
        none_is_some (client_place clients block.0) _ (sym sought_is ∙ none) (place_there (λ (x : Client I O). x.block.0 == block.0) clients k.place k.client k.found (eq-eqb k.client.block.0 block.0 k.block))),
  )

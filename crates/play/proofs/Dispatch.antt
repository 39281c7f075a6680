-- Who acts in what is due.
use Rattle.std.proofs.Common.{◌≡◌, ◌⊎◌, inl, inr, ℕ, ◌<◌, ◌≤◌, ◌+◌, Bool, true, false, List, slice_get, option_map, Option, Some, None, Result, Ok, Err, refl, sym, ap, ◌∙◌, subst, eqb-true, eq-eqb, arith}
use Rattle.std.specs.Prelude.{◌==◌, is_some, not}
use Rattle.std.proofs.lemmas.Bool.{and_parts, false≢true}
use Rattle.std.proofs.lemmas.Option.{slice_get-map}
use Rattle.hd_base.specs.declared.files.Files as files
use Rattle.hd_base.specs.declared.links.LinkIn as link_in
use Rattle.hd_base.specs.declared.links.LinkOut as link_out
use Rattle.hd_base.specs.declared.numbers.BlockId.{BlockId}
use Rattle.hd_base.specs.declared.numbers.ConnId.{ConnId}
use Rattle.hd_base.specs.declared.roads.Roads as roads
use Rattle.hd_base.specs.declared.roads.TheConstants.{FIRST_PORT, MAX_NODES}
use Rattle.node_starts.specs.MemberCore.TheConstants.{MAX_PORT}
use Rattle.world.specs.declared.events.Event.TheVariants as event
use Rattle.world.specs.Parts as parts
use Rattle.world.specs.Parts.{by_writer, by_member, by_reader, by_primary}
use Rattle.world.specs.Connections.{is_served, next_down}
use Rattle.world.specs.Enabled.{takes_down, can_down, acts_below, can_ready}
use Rattle.world.specs.Worlds.{World}
use Rattle.play_model.specs.declared.dues.Due.TheVariants as due
use Rattle.play_model.specs.declared.asks.ReadAsk.{ReadAsk}
use Rattle.play_model.specs.declared.recoveries.Recovery.{Recovery}
use Rattle.play_model.specs.Dues.{Queues, is_unbegun, is_open, is_due}
use Rattle.play_laws.specs.WorldOrders.Orders.{purpose_of, reading, recovering}
use Rattle.play_dues.specs.ReaderEvents.Asking.{CanAsk}
use Rattle.play_dues.specs.PlayReaders.ReadClient.{ReadClient}
use Rattle.play_dues.specs.PlayClients.Client.{Client}
use Rattle.node_stops.specs.PlayNodes.Upper.{Upper}
use Rattle.node_stops.specs.PlayNodes.Dues.{IdleIs, TellsIdle, TellsElsewhere}
use Rattle.node_stops.proofs.PlayNodes.Numbers.{same_place}
use Rattle.node_stops.proofs.PlayNodes.PlaceLaws.{same_some}
use Rattle.node_stops.proofs.PlayNodes.ReadyNodes.{served_within}
use Rattle.node_stops.specs.PlayNodes.Connection.{Connection}
use Rattle.node_stops.specs.PlayNodes.Showing.{UpperShows, is_pipeline, NodesShow}
use Rattle.node_stops.proofs.PlayNodes.JoinNodes.{passes_at, place_there}
use Rattle.node_stops.proofs.PlayNodes.Tables.{element}
use Rattle.play_dues.specs.Conns.{writer_above}
use Rattle.play_dues.specs.Places.{client_place}
use Rattle.play_dues.specs.Primaries.{primary_client_place}
use Rattle.play_dues.specs.Readers.{read_client_place}
use Rattle.play_dues.specs.PlayPrimaries.PrimaryClient.{PrimaryClient}
use Rattle.play_dues.specs.PlayRecoveries.Dialler.{Dialler}
use Rattle.play_dues.specs.PlayRecoveries.Dues.{NoneReady, TellsDialler, pair_of}
use Rattle.play_dues.specs.Showing.{HasClient}
use Rattle.play_dues.proofs.ElsewhereLaws.{recovering_so, reading_so}
use Rattle.play_dues.proofs.UpperLaws.{up_at, heard_conn, member_upper, writer_upper, none_is_some}
use Rattle.play.specs.declared.faults.PlayFault.{PlayFault}
use Rattle.play.specs.declared.player.Player.{Player}
use Rattle.play.specs.Laws.{Laws}
use Rattle.play.specs.Showing.{IsClient}
use Rattle.play.specs.Events.{FilesTell, BeginShows, DownEnds, DownShows, ReadyShows, MirrorShows, HeardShows, PlayEnds}
use Rattle.play.specs.Owning.{OwnShows}
use Rattle.play.specs.Reading.{ReadsAreTold, AskShows, ReaderShows, TakeShows, SendShows}
use Rattle.play.specs.Recovering.{LeadShows, PrimaryShows, AnswerShows}
use Rattle.play.specs.Standing.{AskFits, RecoveryFits, world_of, PlayStands, ElsewhereShows, HappenEnds, HappenShows}
use Rattle.play.proofs.CanOwning.{can_own}
use Rattle.play.proofs.Happened.{happened_so}
use Rattle.play.proofs.Lawful.{lawful, can_begin, can_hear, hears_quiet, can_read_own, can_read_up, can_take, serves_so, can_lead, can_be_told, can_answer}
use Rattle.play.proofs.ReadSteps.{reader_above}

-- a block that has a client has its place
pub has_place : {I O : Type 0} (clients : List (Client I O)) (b : ℕ) → HasClient clients b → client_place clients b ≡ None → ⊥
has_place {I} {O} clients b h none = never (client_place clients b) _ none (place_there (λ (c : Client I O). c.block.0 == b) clients h.place h.client h.found (eq-eqb h.client.block.0 b h.block))
  where
    never : (x : Option ℕ) (k : ℕ) → x ≡ None → x ≡ Some k → ⊥
    never x k a c = cc

-- the client at the place of a block
pub record ClientAt {I O : Type 0} (clients : List (Client I O)) (b : BlockId) (place : ℕ) : Type 0 where
  pub client : Client I O
  pub found : slice_get clients place ≡ Some client
  pub block : client.block ≡ b

pub client_at : {I O : Type 0} (clients : List (Client I O)) (b : BlockId) (place : ℕ) → client_place clients b.0 ≡ Some place → ClientAt clients b place
client_at {I} {O} clients b place there =
    let p = passes_at (λ (c : Client I O). c.block.0 == b.0) clients place there in
    record { client = p.at; found = p.found; block = ap (λ (n : ℕ). record { 0 = n }) (eqb-true p.at.block.0 b.0 p.passes) }

-- WHO DIALLED

not_false : (b : Bool) → false ≡ not b → b ≡ true
not_false true e = refl
not_false false e = cc

not_true : (b : Bool) → true ≡ not b → b ≡ false
not_true true e = cc
not_true false e = refl

-- one of both did
elsewhere_kind : (u : parts.Upper) → is_pipeline u ≡ false → (purpose_of u ≡ reading) ⊎ (purpose_of u ≡ recovering)
elsewhere_kind (by_writer b) away = cc
elsewhere_kind (by_member d) away = cc
elsewhere_kind (by_reader line) away = inl refl
elsewhere_kind (by_primary n place) away = inr refl

unbegun_so : (x : parts.Reader) → is_unbegun x ≡ true → x ≡ parts.no_reader
unbegun_so parts.no_reader e = refl
unbegun_so (parts.reads c s) e = cc
unbegun_so (parts.has_read read) e = cc

port_within : (nodes n : ℕ) → nodes ≤ MAX_NODES → n < nodes → FIRST_PORT + n ≤ MAX_PORT
port_within nodes n few within = omega (arith, within, few)

pub down_within : (w : World) (queues : Queues) (conn : ConnId) → is_due w queues (due.Down conn) ≡ true → conn.0 < w.next_conn
down_within w queues conn is = served_within w conn.0 (and_parts (is_served w conn.0) (takes_down (w.lowers conn.0) w conn.0 (next_down w conn.0)) (and_parts (is_open (w.lowers conn.0)) (can_down w conn.0) is).1).0

ready_within : (w : World) (queues : Queues) (conn : ConnId) → is_due w queues (due.Ready conn) ≡ true → conn.0 < w.next_conn
ready_within w queues conn is = served_within w conn.0 (and_parts (is_served w conn.0) (acts_below (w.lowers conn.0) w conn.0) (and_parts (is_open (w.lowers conn.0)) (can_ready w conn.0) is).1).0

-- how it ended, without what was told
abbrev pub forgotten : Result Bool PlayFault → Result (Unit {0}) PlayFault
forgotten (Ok writes) = Ok tt
forgotten (Err why) = Err why

module _ {F R I O : Type 0} (f : files.Ghosts F) (r : roads.Ghosts R I O) (i : link_in.Ghosts I) (o : link_out.Ghosts O) (L : Laws) (old new : Player F I O) (road road' : R) (result : Result (Unit {0}) PlayFault) where
  -- a connection of a pipeline, and one that is none of it
  of_pipeline : (conn : ConnId) (away : Bool) → away ≡ false → TellsElsewhere i o conn old.nodes away → (nodes : ℕ) (queues : Queues) → PlayStands r i o nodes queues road old → conn.0 < (world_of nodes old).next_conn → is_pipeline ((world_of nodes old).dialled conn.0).upper ≡ true
  of_pipeline conn away here tells nodes queues s within = not_false (is_pipeline ((world_of nodes old).dialled conn.0).upper) (sym here ∙ tells (world_of nodes old) s.net s.shows.nodes.nodes_are within)

  away_from : (conn : ConnId) (away : Bool) → away ≡ true → TellsElsewhere i o conn old.nodes away → (nodes : ℕ) (queues : Queues) → PlayStands r i o nodes queues road old → conn.0 < (world_of nodes old).next_conn → is_pipeline ((world_of nodes old).dialled conn.0).upper ≡ false
  away_from conn away there tells nodes queues s within = not_true (is_pipeline ((world_of nodes old).dialled conn.0).upper) (sym there ∙ tells (world_of nodes old) s.net s.shows.nodes.nodes_are within)

  -- seen a reader dialled all files are told
  files_tell : (conn : ConnId) (nodes : ℕ) (queues : Queues) (s : PlayStands r i o nodes queues road old) → conn.0 < (world_of nodes old).next_conn → purpose_of ((world_of nodes old).dialled conn.0).upper ≡ reading → ReadsAreTold f old → FilesTell f
  files_tell conn nodes queues s within of told =
      let line = reader_above ((world_of nodes old).dialled conn.0).upper of in
      let h = s.shows.reads.dialled conn.0 line.0 within line.1 in
      told h.place h.client h.at

  -- OWN STEPS

  pub steps : (block : BlockId) (place : ℕ) → client_place old.clients.items block.0 ≡ Some place → OwnShows f r i o place old new road road' result → HappenShows f r i o (due.Own block) old new road road' result
  steps block place there shows = λ nodes queues s is actor told.
      let w : World = world_of nodes old in
      let k : ClientAt old.clients.items block place = client_at old.clients.items block place there in
      let client : IsClient i o w s.net queues k.client = s.shows.clients place k.client k.found in
      let is' : is_due w queues (due.Own k.client.block) ≡ true = subst (λ (b : BlockId). is_due w queues (due.Own b) ≡ true) (sym k.block) is in
      let ends : PlayEnds f r i o w queues (due.Own k.client.block) old new road road' result =
      shows w s.net queues k.client s.shows k.found (L.ordered nodes old.events.items) is' (can_own i o L nodes old s.events s.few s.net queues k.client client (s.clients place k.client k.found) is' (record { 0 = w.next_conn }) refl) in
      happened_so r i o L nodes queues old road s f (due.Own block) is actor new road' result (subst (λ (b : BlockId). PlayEnds f r i o w queues (due.Own b) old new road road' result) k.block ends)

  -- WHAT COMES DOWN

  pub begins : (conn : ConnId) (away idle : Bool) → away ≡ false → TellsElsewhere i o conn old.nodes away → idle ≡ true → TellsIdle i o conn old.nodes idle → BeginShows f r i o conn old new road road' result → HappenShows f r i o (due.Down conn) old new road road' result
  begins conn away idle here seen first tells shows = λ nodes queues s is actor told.
      let w : World = world_of nodes old in
      let piped = of_pipeline conn away here seen nodes queues s (down_within w queues conn is) in
      happened_so r i o L nodes queues old road s f (due.Down conn) is actor new road' result
      (shows w s.net queues s.shows piped (can_begin L nodes old s.events conn) is (subst (λ (b : Bool). IdleIs b w conn.0) first (tells w s.net queues s.shows.nodes.nodes_are (λ within. piped) is)))

  -- what a member took, where no write is refused
  downed : (w : World) (queues : Queues) (conn : ConnId) (taken : Result Bool PlayFault) → DownEnds f r i o w queues conn false old new road road' taken → PlayEnds f r i o w queues (due.Down conn) old new road road' (forgotten taken)
  downed w queues conn (Ok writes) h = h.is_left
  downed w queues conn (Err why) h = h

  pub members : (conn : ConnId) (away idle : Bool) (taken : Result Bool PlayFault) → forgotten taken ≡ result → away ≡ false → TellsElsewhere i o conn old.nodes away → idle ≡ false → TellsIdle i o conn old.nodes idle → DownShows f r i o conn false old new road road' taken → HappenShows f r i o (due.Down conn) old new road road' result
  members conn away idle taken same here seen first tells shows = λ nodes queues s is actor told.
      let w : World = world_of nodes old in
      let piped = of_pipeline conn away here seen nodes queues s (down_within w queues conn is) in
      happened_so r i o L nodes queues old road s f (due.Down conn) is actor new road' result
      (subst (λ (x : Result (Unit {0}) PlayFault). PlayEnds f r i o w queues (due.Down conn) old new road road' x) same
      (downed w queues conn taken (shows w s.net queues s.shows piped (lawful L nodes old s.events (event.Down conn true) (tt, tt)) is (subst (λ (b : Bool). IdleIs b w conn.0) first (tells w s.net queues s.shows.nodes.nodes_are (λ within. piped) is)) (λ e. cc))))

  pub away_down : (conn : ConnId) (away : Bool) → away ≡ true → TellsElsewhere i o conn old.nodes away → ElsewhereShows f r i o conn (due.Down conn) old new road road' result → HappenShows f r i o (due.Down conn) old new road road' result
  away_down conn away there seen shows = λ nodes queues s is actor told.
      let within = down_within (world_of nodes old) queues conn is in
      shows nodes queues s within (away_from conn away there seen nodes queues s within) is told

  pub takes : (conn : ConnId) (x : Option Dialler) → is_some x ≡ false → TellsDialler i o conn old.nodes (option_map pair_of x) → TakeShows f r i o conn old new road road' result → ElsewhereShows f r i o conn (due.Down conn) old new road road' result
  takes conn x none tells shows = λ nodes queues s within away is told.
      let w : World = world_of nodes old in
      let of = reading_so (w.dialled conn.0).upper x (tells w s.net s.shows.nodes.nodes_are within) none away in
      happened_so r i o L nodes queues old road s f (due.Down conn) is tt new road' result
      (shows w s.net queues s.shows (files_tell conn nodes queues s within of told) of (can_take L nodes old s.events conn) is)

  pub answers : (conn : ConnId) (x : Option Dialler) → is_some x ≡ true → TellsDialler i o conn old.nodes (option_map pair_of x) → AnswerShows f r i o conn old new road road' result → ElsewhereShows f r i o conn (due.Down conn) old new road road' result
  answers conn x some tells shows = λ nodes queues s within away is told.
      let w : World = world_of nodes old in
      let of = recovering_so (w.dialled conn.0).upper x (tells w s.net s.shows.nodes.nodes_are within) some in
      happened_so r i o L nodes queues old road s f (due.Down conn) is tt new road' result
      (shows w s.net queues s.shows of (can_answer L nodes old s.events conn) is)

  -- WHAT IS DONE WITHOUT A MESSAGE

  pub acts : (conn : ConnId) (away : Bool) → away ≡ false → TellsElsewhere i o conn old.nodes away → ReadyShows f r i o conn old new road road' result → HappenShows f r i o (due.Ready conn) old new road road' result
  acts conn away here seen shows = λ nodes queues s is actor told.
      let w : World = world_of nodes old in
      happened_so r i o L nodes queues old road s f (due.Ready conn) is actor new road' result
      (shows w s.net queues s.shows (of_pipeline conn away here seen nodes queues s (ready_within w queues conn is)) (lawful L nodes old s.events (event.Ready conn) (tt, tt)) is)

  pub sends : NoneReady i o → (conn : ConnId) (away : Bool) → away ≡ true → TellsElsewhere i o conn old.nodes away → SendShows f r i o conn old new road road' result → HappenShows f r i o (due.Ready conn) old new road road' result
  sends none conn away there seen shows = λ nodes queues s is actor told.
      let w : World = world_of nodes old in
      let within = ready_within w queues conn is in
      by nodes queues s is told within (elsewhere_kind (w.dialled conn.0).upper (away_from conn away there seen nodes queues s within))
    where
      by : (nodes : ℕ) (queues : Queues) (s : PlayStands r i o nodes queues road old) → is_due (world_of nodes old) queues (due.Ready conn) ≡ true → ReadsAreTold f old → conn.0 < (world_of nodes old).next_conn → (purpose_of ((world_of nodes old).dialled conn.0).upper ≡ reading) ⊎ (purpose_of ((world_of nodes old).dialled conn.0).upper ≡ recovering)
          → HappenEnds f r i o nodes queues (due.Ready conn) old new road road' result
      by nodes queues s is told within (inl of) = happened_so r i o L nodes queues old road s f (due.Ready conn) is tt new road' result
          (shows (world_of nodes old) s.net queues s.shows (files_tell conn nodes queues s within of told) of (serves_so L nodes old s.events (event.Ready conn)) is)
      by nodes queues s is told within (inr of) = absurd (false≢true (sym (none (world_of nodes old) s.net queues old.nodes.blocks.items conn old.recoveries s.shows.recoveries within of) ∙ is))

  -- WHAT COMES UP

  pub away_up : (conn : ConnId) (away : Bool) → away ≡ true → TellsElsewhere i o conn old.nodes away → ElsewhereShows f r i o conn (due.Up conn) old new road road' result → HappenShows f r i o (due.Up conn) old new road road' result
  away_up conn away there seen shows = λ nodes queues s is actor told.
      let within = (up_at (world_of nodes old) queues conn is).within in
      shows nodes queues s within (away_from conn away there seen nodes queues s within) is told

  pub reader_hears : (conn : ConnId) (x : Option Dialler) → is_some x ≡ false → TellsDialler i o conn old.nodes (option_map pair_of x) → ReaderShows f r i o conn old new road road' result → ElsewhereShows f r i o conn (due.Up conn) old new road road' result
  reader_hears conn x none tells shows = λ nodes queues s within away is told.
      let w : World = world_of nodes old in
      let of = reading_so (w.dialled conn.0).upper x (tells w s.net s.shows.nodes.nodes_are within) none away in
      happened_so r i o L nodes queues old road s f (due.Up conn) is tt new road' result
      (shows w s.net queues s.shows (files_tell conn nodes queues s within of told) of (can_read_up L nodes old s.events) is)

  pub primary_hears : (conn : ConnId) (x : Option Dialler) → is_some x ≡ true → TellsDialler i o conn old.nodes (option_map pair_of x) → PrimaryShows f r i o conn old new road road' result → ElsewhereShows f r i o conn (due.Up conn) old new road road' result
  primary_hears conn x some tells shows = λ nodes queues s within away is told.
      let w : World = world_of nodes old in
      let of = recovering_so (w.dialled conn.0).upper x (tells w s.net s.shows.nodes.nodes_are within) some in
      happened_so r i o L nodes queues old road s f (due.Up conn) is tt new road' result
      (shows w s.net queues s.shows of (can_be_told L nodes old s.events) is)

  -- what is told of the upper end of a connection on which something is due
  told_upper : (conn : ConnId) (away : Bool) → away ≡ false → TellsElsewhere i o conn old.nodes away → (nodes : ℕ) (queues : Queues) (s : PlayStands r i o nodes queues road old) → is_due (world_of nodes old) queues (due.Up conn) ≡ true → (P : parts.Upper → Option BlockId → Type 0) → ((u : parts.Upper) (x : Upper) → is_pipeline u ≡ true → UpperShows u x → P u (writer_above (Some x)))
      → P ((world_of nodes old).dialled conn.0).upper (writer_above (option_map (λ x. x.upper) (slice_get old.nodes.connections.items conn.0)))
  told_upper conn away here seen nodes queues s is P each =
      let w : World = world_of nodes old in
      let n : NodesShow i o w s.net old.nodes = s.shows.nodes.nodes_are in
      let within : conn.0 < w.next_conn = (up_at w queues conn is).within in
      let at = element old.nodes.connections.items conn.0 (subst (λ (k : ℕ). conn.0 < k) (sym n.count) within) in
      subst (λ (x : Option (Connection I O)). P (w.dialled conn.0).upper (writer_above (option_map (λ y. y.upper) x))) (sym at.1) (each (w.dialled conn.0).upper at.0.upper (of_pipeline conn away here seen nodes queues s within) (n.each conn.0 at.0 at.1).upper_is)

  pub mirrors : (conn : ConnId) (away : Bool) → away ≡ false → TellsElsewhere i o conn old.nodes away → writer_above (option_map (λ x. x.upper) (slice_get old.nodes.connections.items conn.0)) ≡ None → MirrorShows f r i o conn old new road road' result → HappenShows f r i o (due.Up conn) old new road road' result
  mirrors conn away here seen none shows = λ nodes queues s is actor told.
      let w : World = world_of nodes old in
      let d = told_upper conn away here seen nodes queues s is (λ u b. b ≡ None → (d : ℕ) × (u ≡ by_member d)) (λ u x of h e. member_upper u x of h e) none in
      happened_so r i o L nodes queues old road s f (due.Up conn) is actor new road' result
      (shows w s.net queues d.0 s.shows (lawful L nodes old s.events (event.Up conn) (tt, tt)) is d.1)

  writer_up : (conn : ConnId) (away : Bool) → away ≡ false → TellsElsewhere i o conn old.nodes away → (nodes : ℕ) (queues : Queues) (s : PlayStands r i o nodes queues road old) → is_due (world_of nodes old) queues (due.Up conn) ≡ true → (block : BlockId) → writer_above (option_map (λ x. x.upper) (slice_get old.nodes.connections.items conn.0)) ≡ Some block → ((world_of nodes old).dialled conn.0).upper ≡ by_writer block.0
  writer_up conn away here seen nodes queues s is block some = told_upper conn away here seen nodes queues s is (λ u b. b ≡ Some block → u ≡ by_writer block.0) (λ u x of h e. writer_upper u x block h e) some

  pub hears : (conn : ConnId) (away : Bool) (block : BlockId) (place : ℕ) → away ≡ false → TellsElsewhere i o conn old.nodes away → writer_above (option_map (λ x. x.upper) (slice_get old.nodes.connections.items conn.0)) ≡ Some block → client_place old.clients.items block.0 ≡ Some place → HeardShows f r i o conn place old new road road' result
      → HappenShows f r i o (due.Up conn) old new road road' result
  hears conn away block place here seen some there shows = λ nodes queues s is actor told.
      let w : World = world_of nodes old in
      let k : ClientAt old.clients.items block place = client_at old.clients.items block place there in
      let above : (w.dialled conn.0).upper ≡ by_writer k.client.block.0 = writer_up conn away here seen nodes queues s is block some ∙ ap (λ (b : BlockId). by_writer b.0) (sym k.block) in
      happened_so r i o L nodes queues old road s f (due.Up conn) is actor new road' result
      (shows w s.net queues k.client s.shows k.found (can_hear L nodes old s.events k.client.block.0) is above (hears_quiet L nodes old s.events k.client.block.0))

  -- there is no such client
  pub nobody_steps : (block : BlockId) → client_place old.clients.items block.0 ≡ None → HappenShows f r i o (due.Own block) old new road road' result
  nobody_steps block none = λ nodes queues s is actor told. absurd (has_place old.clients.items block.0 actor none)

  pub nobody_hears : (conn : ConnId) (away : Bool) (block : BlockId) → away ≡ false → TellsElsewhere i o conn old.nodes away → writer_above (option_map (λ x. x.upper) (slice_get old.nodes.connections.items conn.0)) ≡ Some block → client_place old.clients.items block.0 ≡ None → HappenShows f r i o (due.Up conn) old new road road' result
  nobody_hears conn away block here seen some none = λ nodes queues s is actor told.
      absurd (has_place old.clients.items block.0 (s.connected block.0 conn.0 (heard_conn (world_of nodes old) queues conn block.0 is (writer_up conn away here seen nodes queues s is block some))) none)

  -- READERS

  pub reads : (ask : ReadAsk) (place : ℕ) → read_client_place old.reads.clients.items ask.reader ≡ Some place → AskShows f r i o place old new road road' result → HappenShows f r i o (due.Reader ask) old new road road' result
  reads ask place there shows = λ nodes queues s is actor told.
      let w : World = world_of nodes old in
      let p = passes_at (λ (c : ReadClient I O). c.ask.reader == ask.reader) old.reads.clients.items place there in
      let at = same_place (λ (c : ReadClient I O). c.ask.reader) old.reads.clients.items s.shows.reads.clients.ascend place actor.place p.at actor.client p.found actor.at (eqb-true p.at.ask.reader ask.reader p.passes ∙ sym (ap (λ (a : ReadAsk). a.reader) actor.asks)) in
      let same : p.at.ask ≡ ask = ap (λ (c : ReadClient I O). c.ask) (same_some p.at actor.client (sym p.found ∙ (ap (λ (k : ℕ). slice_get old.reads.clients.items k) at ∙ actor.at))) ∙ actor.asks in
      let fits : AskFits nodes old.nodes.blocks.items p.at.ask = s.asks place p.at.ask (slice_get-map (λ (c : ReadClient I O). c.ask) old.reads.clients.items place ∙ ap (λ (x : Option (ReadClient I O)). option_map (λ (c : ReadClient I O). c.ask) x) p.found) in
      let can : CanAsk w p.at.ask.reader p.at.ask.node = record {
        new = unbegun_so (w.readers p.at.ask.reader) (ap (λ (a : ReadAsk). is_unbegun (w.readers a.reader)) same ∙ is);
        has_port = port_within nodes p.at.ask.node.0 s.few fits.node;
      } in
      happened_so r i o L nodes queues old road s f (due.Reader ask) is actor new road' result
      (subst (λ (a : ReadAsk). PlayEnds f r i o w queues (due.Reader a) old new road road' result) same (shows w s.net queues p.at s.shows (told place p.at p.found) p.found (can_read_own L nodes old s.events) can))

  pub nobody_reads : (ask : ReadAsk) → read_client_place old.reads.clients.items ask.reader ≡ None → HappenShows f r i o (due.Reader ask) old new road road' result
  nobody_reads ask none = λ nodes queues s is actor told.
      absurd (none_is_some (read_client_place old.reads.clients.items ask.reader) _ none
      (place_there (λ (c : ReadClient I O). c.ask.reader == ask.reader) old.reads.clients.items actor.place actor.client actor.at (eq-eqb actor.client.ask.reader ask.reader (ap (λ (a : ReadAsk). a.reader) actor.asks))))

  -- PRIMARIES

  pub leads_on : (rec : Recovery) (place : ℕ) → primary_client_place old.recoveries.clients.items rec.primary ≡ Some place → LeadShows f r i o place old new road road' result → HappenShows f r i o (due.Primary rec) old new road road' result
  leads_on rec place there shows = λ nodes queues s is actor told.
      let w : World = world_of nodes old in
      let p = passes_at (λ (c : PrimaryClient I O). c.recovery.primary == rec.primary) old.recoveries.clients.items place there in
      let at = same_place (λ (c : PrimaryClient I O). c.recovery.primary) old.recoveries.clients.items s.shows.recoveries.clients.ascend place actor.place p.at actor.client p.found actor.at (eqb-true p.at.recovery.primary rec.primary p.passes ∙ sym (ap (λ (a : Recovery). a.primary) actor.recovers)) in
      let same : p.at.recovery ≡ rec = ap (λ (c : PrimaryClient I O). c.recovery) (same_some p.at actor.client (sym p.found ∙ (ap (λ (k : ℕ). slice_get old.recoveries.clients.items k) at ∙ actor.at))) ∙ actor.recovers in
      let fits : RecoveryFits nodes old.nodes.blocks.items p.at.recovery = s.recovers place p.at.recovery (slice_get-map (λ (c : PrimaryClient I O). c.recovery) old.recoveries.clients.items place ∙ ap (λ (x : Option (PrimaryClient I O)). option_map (λ (c : PrimaryClient I O). c.recovery) x) p.found) in
      happened_so r i o L nodes queues old road s f (due.Primary rec) is actor new road' result
      (subst (λ (a : Recovery). PlayEnds f r i o w queues (due.Primary a) old new road road' result) same
      (shows w s.net queues p.at s.shows p.found (can_lead L nodes old s.events p.at.recovery fits.width s.few) (ap (λ (a : Recovery). is_due w queues (due.Primary a)) same ∙ is)))

  pub nobody_leads : (rec : Recovery) → primary_client_place old.recoveries.clients.items rec.primary ≡ None → HappenShows f r i o (due.Primary rec) old new road road' result
  nobody_leads rec none = λ nodes queues s is actor told.
      absurd (none_is_some (primary_client_place old.recoveries.clients.items rec.primary) _ none
      (place_there (λ (c : PrimaryClient I O). c.recovery.primary == rec.primary) old.recoveries.clients.items actor.place actor.client actor.at (eq-eqb actor.client.recovery.primary rec.primary (ap (λ (a : Recovery). a.primary) actor.recovers))))

-- What is due is counted and sought: the own steps, and then connection by connection.
use Rattle.std.proofs.Common.{◌≡◌, ◌<◌, ◌≤◌, ◌+◌, ◌-◌, ◌*◌, ℕ, Bool, false, List, [], ◌++◌, length, drop, get_or, slice_get, Option, Some, None, sym, ap, ◌∙◌, subst, arith, length-append, eqb-true, eq-eqb}
use Rattle.std.specs.Prelude.{◌==◌}
use Rattle.std.specs.List.{position_or_len}
use Rattle.std.specs.List.{flat_map}
use Rattle.std.proofs.lemmas.List.{append_assoc, drop_all}
use Rattle.road_traffic.specs.Showing.{Net}
use Rattle.hd_base.specs.declared.links.LinkIn as link_in
use Rattle.hd_base.specs.declared.links.LinkOut as link_out
use Rattle.hd_base.specs.declared.numbers.BlockId.{BlockId}
use Rattle.hd_base.specs.declared.numbers.ConnId.{ConnId}
use Rattle.hd_base.specs.declared.roads.Roads as roads
use Rattle.world.specs.Worlds.{World}
use Rattle.play_model.specs.declared.asks.ReadAsk.{ReadAsk}
use Rattle.play_model.specs.declared.recoveries.Recovery.{Recovery}
use Rattle.play_model.specs.Recoveries.{recovery_due}
use Rattle.play_model.specs.declared.dues.Due.{Due}
use Rattle.play_model.specs.declared.dues.Due.TheVariants as due
use Rattle.play_model.specs.Dues.{Queues, is_unbegun, own_due, own_dues, reader_dues, primary_dues, conn_dues}
use Rattle.play_clients.specs.declared.clients.Client.{Client}
use Rattle.play_reads.specs.PlayNodes.Nodes.{Nodes}
use Rattle.play_reads.proofs.PlayNodes.JoinNodes.{passes_at, place_there}
use Rattle.play_reads.proofs.PlayNodes.Numbers.{same_place}
use Rattle.play_reads.proofs.PlayNodes.PlaceLaws.{same_some}
use Rattle.play_reads.specs.PlayPrimaries.PrimaryClient.{PrimaryClient}
use Rattle.play_reads.proofs.PlayPrimaries.DueLaws.{state_due}
use Rattle.play_recoveries.specs.Places.{recoveries_of}
use Rattle.play_reads.specs.PlayReaders.ReadClient.{ReadClient}
use Rattle.play_reads.specs.declared.reads.Reads.{Reads}
use Rattle.play_recoveries.specs.declared.recoveries.Recoveries.{Recoveries}
use Rattle.play_reads.specs.PlayReaders.Asks.{asks_of}
use Rattle.play_dues.specs.declared.conns.ConnDues.{ConnDues}
use Rattle.play_dues.specs.Conns.{listed, TellsUpper, TellsConn}
use Rattle.play_dues.specs.Listing.{shown_dues, CountsFront, StandsBehind, CountsDues, PicksDue, TellsDue, IsAlone}
use Rattle.play_dues.specs.Lowers.{TellsLower, TellsActs}
use Rattle.play_clients.specs.Blocks.{blocks_of}
use Rattle.play_dues.specs.Places.{client_place, has_step_of, has_step_at}
use Rattle.play_dues.specs.Primaries.{primary_client_place, acts_of, acts_at}
use Rattle.play_dues.specs.Readers.{read_client_place, is_new_of, is_new_at}
use Rattle.play_dues.specs.Showing.{DuesShow}
use Rattle.play_dues.specs.Steps.{steps_listed}
use Rattle.play_dues.proofs.ListLaws.{get_front, get_behind, next_left, counted_on, all_counted, left_behind}
use Rattle.play_dues.proofs.OwnLaws.{own_so, own_listed_so}
use Rattle.play_dues.proofs.PrimaryLaws.{primaries_listed_so}
use Rattle.play_dues.proofs.ReaderLaws.{new_so, readers_listed_so}

-- where a test says no
none_then : {I O : Type 0} (clients : List (Client I O)) (b : ℕ) (result : Bool) → result ≡ has_step_at clients (client_place clients b) → client_place clients b ≡ None → result ≡ false
none_then clients b result told none = told ∙ ap (λ (x : Option ℕ). has_step_at clients x) none

module _ {I O : Type 0} (clients : List (Client I O)) (reads : Reads I O) (recoveries : Recoveries I O) where
  pub own_alone : (d : Due) (block : BlockId) (result : Bool) → d ≡ due.Own block → result ≡ has_step_at clients (client_place clients block.0) → IsAlone clients reads recoveries d → result ≡ false
  own_alone d block result is told = subst (λ (e : Due). IsAlone clients reads recoveries e → result ≡ false) (sym is) (λ none. none_then clients block.0 result told none)

  pub reader_alone : (d : Due) (ask : ReadAsk) (xs : List (ReadClient I O)) (result : Bool) → d ≡ due.Reader ask → xs ≡ reads.clients.items → result ≡ is_new_at xs (read_client_place xs ask.reader) → IsAlone clients reads recoveries d → result ≡ false
  reader_alone d ask xs result is same told =
      subst (λ (e : Due). IsAlone clients reads recoveries e → result ≡ false) (sym is)
      (λ none. told ∙ ap (λ (x : Option ℕ). is_new_at xs x) (ap (λ (ys : List (ReadClient I O)). read_client_place ys ask.reader) same ∙ none))

  pub primary_alone : (d : Due) (r : Recovery) (xs : List (PrimaryClient I O)) (result : Bool) → d ≡ due.Primary r → xs ≡ recoveries.clients.items → result ≡ acts_at xs (primary_client_place xs r.primary) → IsAlone clients reads recoveries d → result ≡ false
  primary_alone d r xs result is same told =
      subst (λ (e : Due). IsAlone clients reads recoveries e → result ≡ false) (sym is)
      (λ none. told ∙ ap (λ (x : Option ℕ). acts_at xs x) (ap (λ (ys : List (PrimaryClient I O)). primary_client_place ys r.primary) same ∙ none))

  pub never_alone : (d e : Due) (result : Bool) → d ≡ e → (IsAlone clients reads recoveries e → ⊥) → IsAlone clients reads recoveries d → result ≡ false
  never_alone d e result is never alone = absurd (never (subst (λ (x : Due). IsAlone clients reads recoveries x) is alone))

-- The count is below this, with three of each connection.
pub count_below : (count here index most : ℕ) → count < most + 3 * index → here ≤ 3 → count + here < most + 3 * (index + 1)
count_below count here index most h few = omega arith

pub behind_first : (number own n : ℕ) → own ≤ number → own ≡ n → number ≡ n + (number - own)
behind_first number own n a b = omega arith

module _ {F R I O : Type 0} (r : roads.Ghosts R I O) (i : link_in.Ghosts I) (o : link_out.Ghosts O) (n : Nodes F I O) (clients : List (Client I O)) (reads : Reads I O) (recoveries : Recoveries I O) where
  -- OWN STEPS

  own_told : (block : BlockId) (road : R) (result : Bool) → result ≡ has_step_at clients (client_place clients block.0) → TellsDue r i o (due.Own block) n clients reads recoveries road road result
  own_told block road result is = λ played w net queues h.
      let test : Client I O → Bool = λ c. c.block.0 == block.0 in
      let place : ℕ = position_or_len test clients in
      let there : client_place clients block.0 ≡ Some place = place_there test clients played.place played.client played.found (eq-eqb played.client.block.0 block.0 played.block) in
      let p = passes_at test clients place there in (
        h,
        is ∙ (ap (λ (x : Option ℕ). has_step_at clients x) there ∙ (ap (λ (x : Option (Client I O)). has_step_of x) p.found ∙ (own_so i o w net queues p.at (h.each place p.at p.found)
            ∙ ap (λ (b : ℕ). own_due (w.writers b) (queues b)) (eqb-true p.at.block.0 block.0 p.passes)))),
      )

  pub own_tells : (d : Due) (block : BlockId) (road : R) (result : Bool) → d ≡ due.Own block → result ≡ has_step_at clients (client_place clients block.0) → TellsDue r i o d n clients reads recoveries road road result
  own_tells d block road result is told = subst (λ (e : Due). TellsDue r i o e n clients reads recoveries road road result) (sym is) (own_told block road result told)

  reader_told : (ask : ReadAsk) (xs : List (ReadClient I O)) (road : R) (result : Bool) → xs ≡ reads.clients.items → result ≡ is_new_at xs (read_client_place xs ask.reader) → TellsDue r i o (due.Reader ask) n clients reads recoveries road road result
  reader_told ask xs road result same is = λ played w net queues h.
      let all : List (ReadClient I O) = reads.clients.items in
      let test : ReadClient I O → Bool = λ c. c.ask.reader == ask.reader in
      let place : ℕ = position_or_len test all in
      let there : read_client_place all ask.reader ≡ Some place =
      place_there test all played.place played.client played.at (eq-eqb played.client.ask.reader ask.reader (ap (λ (a : ReadAsk). a.reader) played.asks)) in
      let p = passes_at test all place there in (
        h,
        is ∙ (ap (λ (ys : List (ReadClient I O)). is_new_at ys (read_client_place ys ask.reader)) same
            ∙ (ap (λ (x : Option ℕ). is_new_at all x) there ∙ (ap (λ (x : Option (ReadClient I O)). is_new_of x) p.found ∙ (new_so i o w net p.at.ask.reader p.at.state (h.reads_are.clients.each place p.at p.found)
            ∙ ap (λ (reader : ℕ). is_unbegun (w.readers reader)) (eqb-true p.at.ask.reader ask.reader p.passes))))),
      )

  pub reader_tells : (d : Due) (ask : ReadAsk) (xs : List (ReadClient I O)) (road : R) (result : Bool) → d ≡ due.Reader ask → xs ≡ reads.clients.items → result ≡ is_new_at xs (read_client_place xs ask.reader) → TellsDue r i o d n clients reads recoveries road road result
  reader_tells d ask xs road result is same told = subst (λ (e : Due). TellsDue r i o e n clients reads recoveries road road result) (sym is) (reader_told ask xs road result same told)

  primary_told : (rec : Recovery) (xs : List (PrimaryClient I O)) (road : R) (result : Bool) → xs ≡ recoveries.clients.items → result ≡ acts_at xs (primary_client_place xs rec.primary) → TellsDue r i o (due.Primary rec) n clients reads recoveries road road result
  primary_told rec xs road result same is = λ played w net queues h.
      let all : List (PrimaryClient I O) = recoveries.clients.items in
      let test : PrimaryClient I O → Bool = λ c. c.recovery.primary == rec.primary in
      let place : ℕ = position_or_len test all in
      let there : primary_client_place all rec.primary ≡ Some place =
      place_there test all played.place played.client played.at (eq-eqb played.client.recovery.primary rec.primary (ap (λ (a : Recovery). a.primary) played.recovers)) in
      let p = passes_at test all place there in
      let at = same_place (λ (c : PrimaryClient I O). c.recovery.primary) all h.recoveries_are.clients.ascend place played.place p.at played.client p.found played.at (eqb-true p.at.recovery.primary rec.primary p.passes ∙ sym (ap (λ (a : Recovery). a.primary) played.recovers)) in
      let is_it : p.at.recovery ≡ rec = ap (λ (c : PrimaryClient I O). c.recovery) (same_some p.at played.client (sym p.found ∙ (ap (λ (k : ℕ). slice_get all k) at ∙ played.at))) ∙ played.recovers in (
        h,
        is ∙ (ap (λ (ys : List (PrimaryClient I O)). acts_at ys (primary_client_place ys rec.primary)) same
            ∙ (ap (λ (x : Option ℕ). acts_at all x) there ∙ (ap (λ (x : Option (PrimaryClient I O)). acts_of x) p.found ∙ (state_due i o p.at.state w net p.at.recovery (h.recoveries_are.clients.each place p.at p.found)
            ∙ ap (λ (x : Recovery). recovery_due w x) is_it)))),
      )

  pub primary_tells : (d : Due) (rec : Recovery) (xs : List (PrimaryClient I O)) (road : R) (result : Bool) → d ≡ due.Primary rec → xs ≡ recoveries.clients.items → result ≡ acts_at xs (primary_client_place xs rec.primary) → TellsDue r i o d n clients reads recoveries road road result
  primary_tells d rec xs road result is same told = subst (λ (e : Due). TellsDue r i o e n clients reads recoveries road road result) (sym is) (primary_told rec xs road result same told)

  -- ONE THING

  pub down_tells : (d : Due) (conn : ConnId) (road road' : R) (result : Bool) → d ≡ due.Down conn → TellsLower r i o conn n reads recoveries road road' result → TellsDue r i o d n clients reads recoveries road road' result
  down_tells d conn road road' result is tells = subst (λ (e : Due). TellsDue r i o e n clients reads recoveries road road' result) (sym is) (λ played w net queues h. tells clients w net queues h)

  pub ready_tells : (d : Due) (conn : ConnId) (road : R) (result : Bool) → d ≡ due.Ready conn → TellsActs i o conn n reads recoveries result → TellsDue r i o d n clients reads recoveries road road result
  ready_tells d conn road result is tells = subst (λ (e : Due). TellsDue r i o e n clients reads recoveries road road result) (sym is) (λ played w net queues h.
      (h, tells w net queues h.stands.nodes_are h.orderly h.reads_are h.recoveries_are))

  pub up_tells : (d : Due) (conn : ConnId) (road road' : R) (result : Bool) → d ≡ due.Up conn → TellsUpper r i o conn n clients reads recoveries road road' result → TellsDue r i o d n clients reads recoveries road road' result
  up_tells d conn road road' result is tells = subst (λ (e : Due). TellsDue r i o e n clients reads recoveries road road' result) (sym is) (λ played w net queues h. tells w net queues h)

  -- COUNTING

  -- what is due of these connections
  abbrev dues_in : World → Queues → List ConnId → List Due
  dues_in w queues conns = flat_map (λ c. conn_dues w queues c.0) conns

  -- the own steps of the writers, of the readers and of the primaries
  abbrev steps : World → Queues → List Due
  steps w queues = own_dues w queues (blocks_of clients) ++ (reader_dues w queues (asks_of reads.clients.items) ++ primary_dues w queues (recoveries_of recoveries.clients.items))

  steps_so : (w : World) (net : Net) (queues : Queues) (road : R) → DuesShow r i o w net queues road n clients reads recoveries → steps_listed clients reads recoveries ≡ steps w queues
  steps_so w net queues road h = λ j. own_listed_so i o w net queues clients h.each j ++ (readers_listed_so i o w net queues reads.clients.items h.reads_are.clients.each j ++ primaries_listed_so i o w net queues recoveries.clients.items h.recoveries_are.clients.each j)

  -- They come first.
  steps_first : (w : World) (queues : Queues) (conns : List ConnId) → steps w queues ++ dues_in w queues conns ≡ shown_dues w queues clients reads recoveries conns
  steps_first w queues conns =
      let own = own_dues w queues (blocks_of clients) in
      let reading = reader_dues w queues (asks_of reads.clients.items) in
      let led = primary_dues w queues (recoveries_of recoveries.clients.items) in
      append_assoc own (reading ++ led) (dues_in w queues conns) ∙ ap (λ (xs : List Due). own ++ xs) (append_assoc reading led (dues_in w queues conns))

  pub counts_steps : (conns : List ConnId) (road : R) (count : ℕ) → count ≡ length (steps_listed clients reads recoveries) → CountsFront r i o conns conns n clients reads recoveries road road count
  counts_steps conns road count is = λ w net queues h. (
    h,
    ap (λ (k : ℕ). k + length (dues_in w queues conns)) (is ∙ ap length (steps_so w net queues road h))
        ∙ (sym (length-append (steps w queues) (dues_in w queues conns)) ∙ ap length (steps_first w queues conns)),
  )

  module _ (conns : List ConnId) (index : ℕ) (d : ConnId) where
    -- the first of those that are left
    abbrev conn : ConnId
    conn = get_or conns index d

    next_dues : (w : World) (queues : Queues) → index < length conns → dues_in w queues (drop index conns) ≡ conn_dues w queues conn.0 ++ dues_in w queues (drop (index + 1) conns)
    next_dues w queues within = next_left (λ (c : ConnId). conn_dues w queues c.0) conns index d within

    none_after : (w : World) (queues : Queues) → length conns ≤ index → dues_in w queues (drop index conns) ≡ []
    none_after w queues past = ap (dues_in w queues) (drop_all index conns past)

    pub counts_more : (road mid road' : R) (x : ConnDues) (count here : ℕ) → index < length conns → CountsFront r i o (drop index conns) conns n clients reads recoveries road mid count → TellsConn r i o conn n clients reads recoveries mid road' x → here ≡ length (listed conn x)
        → CountsFront r i o (drop (index + 1) conns) conns n clients reads recoveries road road' (count + here)
    counts_more road mid road' x count here within so_far tells told = λ w net queues h.
        let a = so_far w net queues h in
        let b = tells w net queues a.0 in
        let rest : List Due = dues_in w queues (drop (index + 1) conns) in
        let next : length (dues_in w queues (drop index conns)) ≡ length (conn_dues w queues conn.0) + length rest = ap length (next_dues w queues within) ∙ length-append (conn_dues w queues conn.0) rest in
        (b.0, counted_on count here (length (conn_dues w queues conn.0)) (length rest) (length (dues_in w queues (drop index conns))) _ a.1 next (told ∙ ap length b.1))

    pub counts_all : (road road' : R) (count : ℕ) → length conns ≤ index → CountsFront r i o (drop index conns) conns n clients reads recoveries road road' count → CountsDues r i o conns n clients reads recoveries road road' count
    counts_all road road' count past so_far = λ w net queues h.
        let a = so_far w net queues h in
        (a.0, all_counted count (dues_in w queues (drop index conns)) _ (none_after w queues past) a.1)

    -- PICKING

    pub behind_more : (road mid road' : R) (x : ConnDues) (number rest here : ℕ) → index < length conns → StandsBehind r i o number (drop index conns) conns n clients reads recoveries road mid rest → TellsConn r i o conn n clients reads recoveries mid road' x → here ≡ length (listed conn x) → here ≤ rest
        → StandsBehind r i o number (drop (index + 1) conns) conns n clients reads recoveries road road' (rest - here)
    behind_more road mid road' x number rest here within so_far tells told past = λ w net queues h.
        let a = so_far w net queues h in
        let b = tells w net queues a.0 in (
          b.0,
          sym (ap (λ (xs : List Due). slice_get xs rest) (next_dues w queues within)
              ∙ get_behind (conn_dues w queues conn.0) (dues_in w queues (drop (index + 1) conns)) rest (rest - here) (left_behind (length (conn_dues w queues conn.0)) rest here (told ∙ ap length b.1) past)) ∙ a.1,
        )

    pub picks_here : (road mid road' : R) (x : ConnDues) (number rest : ℕ) (result : Option Due) → index < length conns → StandsBehind r i o number (drop index conns) conns n clients reads recoveries road mid rest → TellsConn r i o conn n clients reads recoveries mid road' x
        → rest < length (listed conn x) → result ≡ slice_get (listed conn x) rest → PicksDue r i o number conns n clients reads recoveries road road' result
    picks_here road mid road' x number rest result within so_far tells few told = λ w net queues h.
        let a = so_far w net queues h in
        let b = tells w net queues a.0 in (
          b.0,
          told ∙ (ap (λ (xs : List Due). slice_get xs rest) b.1
              ∙ (sym (get_front (conn_dues w queues conn.0) (dues_in w queues (drop (index + 1) conns)) rest (subst (λ (xs : List Due). rest < length xs) b.1 few))
              ∙ (ap (λ (xs : List Due). slice_get xs rest) (sym (next_dues w queues within)) ∙ a.1))),
        )

    pub picks_none : (road road' : R) (number rest : ℕ) → length conns ≤ index → StandsBehind r i o number (drop index conns) conns n clients reads recoveries road road' rest → PicksDue r i o number conns n clients reads recoveries road road' None
    picks_none road road' number rest past so_far = λ w net queues h.
        let a = so_far w net queues h in
        (a.0, ap (λ (xs : List Due). slice_get xs rest) (sym (none_after w queues past)) ∙ a.1)

  pub behind_steps : (conns : List ConnId) (road : R) (number rest : ℕ) → number ≡ length (steps_listed clients reads recoveries) + rest → StandsBehind r i o number conns conns n clients reads recoveries road road rest
  behind_steps conns road number rest is = λ w net queues h. (
    h,
    sym (ap (λ (xs : List Due). slice_get xs number) (sym (steps_first w queues conns))
        ∙ get_behind (steps w queues) (dues_in w queues conns) number rest (is ∙ ap (λ (xs : List Due). length xs + rest) (steps_so w net queues road h))),
  )

  pub picks_step : (conns : List ConnId) (road : R) (number : ℕ) (result : Option Due) → number < length (steps_listed clients reads recoveries) → result ≡ slice_get (steps_listed clients reads recoveries) number → PicksDue r i o number conns n clients reads recoveries road road result
  picks_step conns road number result within is = λ w net queues h.
      let same : steps_listed clients reads recoveries ≡ steps w queues = steps_so w net queues road h in (
        h,
        is ∙ (ap (λ (xs : List Due). slice_get xs number) same
            ∙ (sym (get_front (steps w queues) (dues_in w queues conns) number (subst (λ (xs : List Due). number < length xs) same within)) ∙ ap (λ (xs : List Due). slice_get xs number) (steps_first w queues conns))),
      )

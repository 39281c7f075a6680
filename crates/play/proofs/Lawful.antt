-- What a play's events ask of the world holds of it.
use Rattle.std.proofs.Common.{◌≡◌, ℕ, ◌<◌, ◌≤◌, Bool, ◌+◌, ◌^◌, true, List, [], ◌∷◌, ◌++◌, length, Some, None, ap, subst, arith}
use Rattle.std.specs.Prelude.{if◌then◌else◌, is_some, nat_le}
use Rattle.std.proofs.lemmas.Bool.Decides.{nat_tests}
use Rattle.std.proofs.lemmas.List.{length-append}
use Rattle.hd_base.specs.declared.numbers.BlockId.{BlockId}
use Rattle.hd_base.specs.declared.numbers.ConnId.{ConnId}
use Rattle.hd_base.specs.declared.numbers.NodeId.{NodeId}
use Rattle.hd_base.specs.declared.roads.TheConstants.{FIRST_PORT, MAX_NODES}
use Rattle.name_core.specs.declared.office.TheConstants.{FIRST_STAMP}
use Rattle.block_recovery.specs.Dialling.{dial_port}
use Rattle.world.specs.declared.events.Delivery.TheVariants as delivery
use Rattle.world.specs.declared.events.Event.{Event}
use Rattle.world.specs.declared.events.Event.TheVariants as event
use Rattle.world.specs.Parts.{Primary, no_primary, was_told, leads, has_led}
use Rattle.world.specs.Worlds.{World, start}
use Rattle.world.specs.Events.{happens, run}
use Rattle.node_starts.specs.WorldBreaks.Breaks.{FaultsAreWrites}
use Rattle.play_laws.specs.WorldOrders.Orders.{Ordered}
use Rattle.node_stops.specs.WorldRequests.Requests.{AllAmong}
use Rattle.play_laws.specs.WorldTexts.Texts.{Written, AllFit}
use Rattle.play_laws.specs.Members.{IsNode, AllName}
use Rattle.play_laws.specs.Writers.{needs_members}
use Rattle.play_dues.specs.PlayClients.Events.{HearIsLawful, AcceptedIsQuiet}
use Rattle.node_stops.specs.PlayNodes.Events.{IsLawful}
use Rattle.play_dues.specs.PlayReads.Hearing as reads_hear
use Rattle.play_dues.specs.PlayReads.Owning as reads_own
use Rattle.play_dues.specs.PlayReads.Serving.{ServesInOrder}
use Rattle.play_model.specs.declared.recoveries.Recovery.{Recovery}
use Rattle.play_model.specs.Recoveries.{leads_events}
use Rattle.play_dues.specs.PlayPrimaries.Dues.{ArePlaced}
use Rattle.play_dues.specs.PlayPrimaries.Hearing as told
use Rattle.play_dues.specs.PlayPrimaries.Owning.{own_events, step_events}
use Rattle.play_dues.specs.PlayRecoveries.Owning as leading
use Rattle.play_dues.specs.PlayRecoveries.Serving as answering
use Rattle.recovery_core.specs.declared.primary.OwnStep.{OwnStep}
use Rattle.recovery_core.specs.declared.primary.OwnStep.TheVariants as step
use Rattle.recovery_core.specs.Primaries.{own_step}
use Rattle.play.specs.declared.player.Player.{Player}
use Rattle.play.specs.Events.{CanBegin}
use Rattle.play.specs.Laws.{Laws}
use Rattle.play.specs.Reading.{CanTake}
use Rattle.play.specs.Recovering.{CanAnswer}
use Rattle.play.specs.Standing.{EventsFit, world_of}

-- MORE EVENTS

widths_more : (es fs : List Event) → AllFit es → AllFit fs → AllFit (es ++ fs)
widths_more [] fs h k = k
widths_more (e ∷ es) fs h k = (h.0, widths_more es fs h.1 k)

names_more : (Of : NodeId → Type 0) (es fs : List Event) → AllName Of es → AllName Of fs → AllName Of (es ++ fs)
names_more Of [] fs h k = k
names_more Of (e ∷ es) fs h k = (h.0, names_more Of es fs h.1 k)

among_more : (blocks : List BlockId) (es fs : List Event) → AllAmong blocks es → AllAmong blocks fs → AllAmong blocks (es ++ fs)
among_more blocks [] fs h k = k
among_more blocks (e ∷ es) fs h k = (h.0, among_more blocks es fs h.1 k)

whole_more : (w : World) (es fs : List Event) → FaultsAreWrites w es → FaultsAreWrites (run w es) fs → FaultsAreWrites w (es ++ fs)
whole_more w [] fs h k = k
whole_more w (e ∷ es) fs h k = (h.0, whole_more (happens w e) es fs h.1 k)

pub fits_more : (nodes : ℕ) (blocks : List BlockId) (es fs : List Event) → EventsFit (start nodes) nodes blocks es → EventsFit (run (start nodes) es) nodes blocks fs → EventsFit (start nodes) nodes blocks (es ++ fs)
fits_more nodes blocks es fs h k = record {
  widths = widths_more es fs h.widths k.widths;
  names = names_more (IsNode nodes) es fs h.names k.names;
  among = among_more blocks es fs h.among k.among;
  whole = whole_more (start nodes) es fs h.whole k.whole;
}

-- There is room for stamps of as many events as a list can have, and more.
pub room : {F I O : Type 0} (p : Player F I O) (fs : List Event) → length fs ≤ 2 → FIRST_STAMP + length (p.events.items ++ fs) ≤ 2 ^ 64
room p fs few =
    let len = length-append p.events.items fs in
    let at = p.events.ok.0 in
    let within = p.events.ok.1 in
    let small = p.events.small in
    omega (arith, len, at, within, small, few)

-- WHAT THE EVENTS ASK

-- each node of a play has a port
has_port : (nodes : ℕ) (n : NodeId) → nodes ≤ MAX_NODES → n.0 < nodes → is_some (dial_port n) ≡ true
has_port nodes n few within =
    let at : FIRST_PORT + n.0 ≤ 65535 = omega (arith, few, within) in
    let test : nat_le (FIRST_PORT + n.0) 65535 ≡ true = grind (arith, nat_tests, at) in
    ap (λ (b : Bool). is_some (if b then Some (FIRST_PORT + n.0) else None)) test

few_stamps : (a b c : ℕ) → a ≤ b → b ≤ c → a ≤ c
few_stamps a b c h k = omega (arith, h, k)

written_after : Laws → (nodes : ℕ) (es fs : List Event) → AllFit es → AllFit fs → FIRST_STAMP + length (es ++ fs) ≤ 2 ^ 64 → Written (run (run (start nodes) es) fs)
written_after L nodes es fs fit more small =
    subst Written (L.joined (start nodes) es fs) (L.written nodes (es ++ fs) (widths_more es fs fit more) (few_stamps (run (start nodes) (es ++ fs)).office.next.0 (FIRST_STAMP + length (es ++ fs)) (2 ^ 64) (L.few nodes (es ++ fs)) small))

module _ {F I O : Type 0} (L : Laws) (nodes : ℕ) (p : Player F I O) (h : EventsFit (start nodes) nodes p.nodes.blocks.items p.events.items) where
  pub spelled : (fs : List Event) → AllFit fs → length fs ≤ 2 → Written (run (world_of nodes p) fs)
  spelled fs fit few = written_after L nodes p.events.items fs h.widths fit (room p fs few)

  pub lawful : (e : Event) → AllFit (e ∷ []) → IsLawful (world_of nodes p) e
  lawful e fit = record {
    ordered = L.ordered nodes p.events.items;
    taken = L.taken nodes p.events.items;
    placed = L.placed nodes p.events.items;
    before = spelled [] tt (omega arith);
    after = spelled (e ∷ []) fit (omega arith);
  }

  -- THE FIRST MESSAGE

  pub can_begin : (conn : ConnId) → CanBegin (world_of nodes p) conn p.nodes
  can_begin conn = record {
    lawful = λ answered. lawful (event.Down conn answered) (tt, tt);
    fit = (L.among nodes p.nodes.blocks.items p.events.items h.among).writes;
  }

  -- WHAT A WRITER HEARS

  pub can_hear : (b : ℕ) → HearIsLawful (world_of nodes p) b
  can_hear b = record {
    ordered = L.ordered nodes p.events.items;
    taken = L.taken nodes p.events.items;
    written = spelled [] tt (omega arith);
    rests = (L.rest nodes p.events.items b).alone;
  }

  pub hears_quiet : (b : ℕ) → AcceptedIsQuiet (world_of nodes p) b
  hears_quiet b = record {
    members = λ s stamp is. (L.rest nodes p.events.items b).members (ap needs_members is);
    quiet = λ c s stamp m is conn next. L.early nodes p.events.items b c s stamp m is conn next;
  }

  -- READS

  pub can_read_own : reads_own.OwnIsLawful (world_of nodes p)
  can_read_own = record { ordered = L.ordered nodes p.events.items; placed = L.placed nodes p.events.items }

  pub can_read_up : reads_hear.HearIsLawful (world_of nodes p)
  can_read_up = record { ordered = L.ordered nodes p.events.items; in_order = L.readers nodes p.events.items; written = spelled [] tt (omega arith) }

  pub serves_so : (e : Event) → ServesInOrder (world_of nodes p) e
  serves_so e = record {
    before = L.ordered nodes p.events.items;
    after = subst Ordered (L.joined (start nodes) p.events.items (e ∷ [])) (L.ordered nodes (p.events.items ++ e ∷ []));
    placed = L.placed nodes p.events.items;
  }

  pub can_take : (conn : ConnId) → CanTake (world_of nodes p) conn p
  can_take conn = record {
    order = serves_so (event.Down conn true);
    lawful = record {
      taken = L.taken nodes p.events.items;
      before = spelled [] tt (omega arith);
      after = λ answered. spelled (event.Down conn answered ∷ []) (tt, tt) (omega arith);
      broken = spelled (event.Fault (delivery.Down conn) ∷ []) (tt, tt) (omega arith);
    };
    among = λ k read at. (L.among nodes p.nodes.blocks.items p.events.items h.among).reads conn.0 k read at;
  }

  -- RECOVERIES

  -- a primary's connections stand at their places
  pub are_placed : ArePlaced (world_of nodes p)
  are_placed = (L.recovering nodes p.events.items).placed

  own_events_fit : (w : World) (r : Recovery) (answers : List Bool) → r.block.0 < 2 ^ 64 → (x : Primary) → AllFit (step_events x r answers) × (length (step_events x r answers) ≤ 2)
  own_events_fit w r answers width (leads l) = leads_so (own_step l.state).does
    where
      leads_so : (step : OwnStep) → AllFit (leads_events step r) × (length (leads_events step r) ≤ 2)
      leads_so (step.Commits c) = ((tt, (tt, tt)), omega arith)
      leads_so step.Waits = ((tt, tt), omega arith)
      leads_so (step.Updates c) = ((tt, tt), omega arith)
      leads_so (step.Ends e) = ((tt, tt), omega arith)
  own_events_fit w r answers width no_primary = ((tt, (width, tt)), omega arith)
  own_events_fit w r answers width (was_told block told) = ((tt, (width, tt)), omega arith)
  own_events_fit w r answers width (has_led e) = ((tt, (width, tt)), omega arith)

  pub can_lead : (r : Recovery) → r.block.0 < 2 ^ 64 → nodes ≤ MAX_NODES → leading.OwnIsLawful (world_of nodes p) r
  can_lead r width few = record {
    primary = record {
      ordered = L.ordered nodes p.events.items;
      written = λ answers.
          let k = own_events_fit (world_of nodes p) r answers width ((world_of nodes p).primaries r.primary) in
          spelled (own_events (world_of nodes p) r answers) k.0 k.1;
    };
    placed = L.placed nodes p.events.items;
    ports = λ n on. has_port nodes n few ((L.only nodes p.events.items).within n.0 on);
  }

  pub can_be_told : told.HearIsLawful (world_of nodes p)
  can_be_told = record { ordered = L.ordered nodes p.events.items; written = spelled [] tt (omega arith); placed = are_placed }

  pub can_answer : (conn : ConnId) → CanAnswer (world_of nodes p) conn p
  can_answer conn = record {
    order = answers_so (event.Down conn true);
    lawful = record {
      lawful = record {
        taken = L.taken nodes p.events.items;
        before = spelled [] tt (omega arith);
        after = λ answered. spelled (event.Down conn answered ∷ []) (tt, tt) (omega arith);
        broken = spelled (event.Fault (delivery.Down conn) ∷ []) (tt, tt) (omega arith);
      };
      ordered = L.ordered nodes p.events.items;
      takes = L.recoveries_ordered nodes p.events.items;
      names = L.recoveries_named nodes p.events.items;
    };
    among = λ k asked at. (L.among nodes p.nodes.blocks.items p.events.items h.among).recoveries conn.0 k asked at;
  }
    where
      answers_so : (e : Event) → answering.ServesInOrder (world_of nodes p) e
      answers_so e = record {
        before = L.ordered nodes p.events.items;
        after = subst Ordered (L.joined (start nodes) p.events.items (e ∷ [])) (L.ordered nodes (p.events.items ++ e ∷ []));
        placed = L.placed nodes p.events.items;
      }

-- The clients of a play over an event of one reader.
use Rattle.std.proofs.Common.{◌≡◌, ◌≢◌, ℕ, zero, suc, false, List, [], ◌∷◌, slice_get, slice_set, Some, ◌⊎◌, inl, inr, refl, sym, ap, ◌∙◌, subst}
use Rattle.std.specs.Prelude.{is_some}
use Rattle.hd_base.specs.declared.ends.Conn.{Conn}
use Rattle.hd_base.specs.declared.links.LinkIn as link_in
use Rattle.hd_base.specs.declared.links.LinkOut as link_out
use Rattle.hd_base.specs.declared.roads.Roads as roads
use Rattle.road_traffic.specs.Showing.{Net, RoadsShow}
use Rattle.world.specs.Parts.{Upper, by_writer, by_member, by_reader, no_reader}
use Rattle.world.specs.Worlds.{World}
use Rattle.play_servers.specs.WorldNets.Nets.{IsEndOf, is_over}
use Rattle.play_nodes.specs.WorldOrders.Orders.{Ordered, purpose_of, pipeline, reading, recovering}
use Rattle.play_nodes.specs.PlayModel.ReadAsk.{ReadAsk}
use Rattle.play_nodes.proofs.MemberNodes.{known}
use Rattle.play_nodes.proofs.Tables.{SetOr, set_or, set_here, set_there, same_or}
use Rattle.play_primaries.specs.PlayReaders.ReadClient.{ReadClient}
use Rattle.play_primaries.specs.PlayReaders.ReadState.{ReadState}
use Rattle.play_primaries.specs.PlayReaders.ReadState.TheVariants as state
use Rattle.play_primaries.specs.PlayReaders.Clients.{StateShows, ReadClientShows, ReadIsReady}
use Rattle.play_primaries.specs.PlayReaders.Staying.{KeepsReadClient, ReadClientsStay}
use Rattle.play_nodes.proofs.PlaceLaws.{same_some}
use Rattle.play_primaries.specs.PlayReaders.Asks.{asks_of}
use Rattle.play_nodes.specs.Numbers.{IsNumbered}
use Rattle.play_reads.specs.Places.{ReadersAscend, HasClient}
use Rattle.play_nodes.specs.declared.nodes.Nodes.{Nodes}
use Rattle.play_reads.specs.declared.reads.Reads.{Reads}
use Rattle.play_reads.specs.Showing.{ClientsShow, Stand}
use Rattle.play_reads.proofs.KeepLaws.{dialled_by}
use Rattle.play_nodes.proofs.Numbers.{same_place, ascend_same}

-- UPPER ENDS

pub reader_same : (a b : ℕ) → by_reader a ≡ by_reader b → a ≡ b
reader_same a b e = cc

pub no_writer_reads : (b : ℕ) (u : Upper) → u ≡ by_writer b → purpose_of u ≡ reading → ⊥
no_writer_reads b u is e = clash (sym (ap purpose_of is) ∙ e)
  where
    clash : pipeline ≡ reading → ⊥
    clash e = cc

pub no_member_reads : (d : ℕ) (u : Upper) → u ≡ by_member d → purpose_of u ≡ reading → ⊥
no_member_reads d u is e = clash (sym (ap purpose_of is) ∙ e)
  where
    clash : pipeline ≡ reading → ⊥
    clash e = cc

pub no_recovery_reads : (u : Upper) → purpose_of u ≡ recovering → purpose_of u ≡ reading → ⊥
no_recovery_reads u is e = clash (sym is ∙ e)
  where
    clash : recovering ≡ reading → ⊥
    clash e = cc

-- THE TABLE

module _ {I O : Type 0} where
  module _ (xs : List (ReadClient I O)) (place : ℕ) (c c' : ReadClient I O) (at : slice_get xs place ≡ Some c) (same : c'.ask ≡ c.ask) where
    pub has_client_set : (line : ℕ) → HasClient xs line → HasClient (slice_set xs place c') line
    has_client_set line h = by (same_or h.place place)
      where
        by : ((h.place ≡ place) ⊎ (h.place ≡ place → ⊥)) → HasClient (slice_set xs place c') line
        by (inl here) = record {
          place = place;
          client = c';
          at = set_here xs place c c' at;
          of_reader = ap (λ (x : ReadAsk). x.reader) same ∙
              (ap (λ (x : ReadClient I O). x.ask.reader) (same_some c h.client (sym at ∙ (ap (λ (k : ℕ). slice_get xs k) (sym here) ∙ h.at))) ∙ h.of_reader);
        }
        by (inr away) = record { place = h.place; client = h.client; at = set_there xs place c' h.place away ∙ h.at; of_reader = h.of_reader }

    -- the client that stood there before, of the same reader
    was_there : (k : ℕ) (a : ReadClient I O) → slice_get (slice_set xs place c') k ≡ Some a → IsNumbered (λ x. x.ask.reader) xs a.ask.reader k
    was_there k a is = by (set_or xs place c' k a is)
      where
        by : SetOr xs place c' k a → IsNumbered (λ x. x.ask.reader) xs a.ask.reader k
        by (inl x) = record {
          found = c;
          at = ap (λ (n : ℕ). slice_get xs n) x.0 ∙ at;
          same = sym (ap (λ (y : ReadClient I O). y.ask.reader) x.1 ∙ ap (λ (y : ReadAsk). y.reader) same);
        }
        by (inr x) = record { found = a; at = x.1; same = refl }

    pub ascend_set : ReadersAscend xs → ReadersAscend (slice_set xs place c')
    ascend_set up = ascend_same (λ x. x.ask.reader) xs up (slice_set xs place c') was_there

  pub asks_set : (xs : List (ReadClient I O)) (place : ℕ) (c c' : ReadClient I O) → slice_get xs place ≡ Some c → c'.ask ≡ c.ask → asks_of (slice_set xs place c') ≡ asks_of xs
  asks_set [] place c c' at same = refl
  asks_set (x ∷ xs) zero c c' at same = ap (λ (a : ReadAsk). a ∷ asks_of xs) (same ∙ sym (ap (λ (y : ReadClient I O). y.ask) (same_some x c at)))
  asks_set (x ∷ xs) (suc k) c c' at same = ap (λ (more : List ReadAsk). x.ask ∷ more) (asks_set xs k c c' at same)

module _ {I O : Type 0} (i : link_in.Ghosts I) (o : link_out.Ghosts O) where
  -- THE OTHERS

  -- An event of one reader keeps all others, and their connections.
  pub record ActsAlone (w : World) (net : Net) (v : World) (made : Net) (line : ℕ) : Type 0 where
    pub ordered : Ordered w
    pub readers : (other : ℕ) → other ≢ line → v.readers other ≡ w.readers other
    pub over : (other c : ℕ) → other ≢ line → (w.dialled c).upper ≡ by_reader other → is_over v c false ≡ is_over w c false
    pub ends : (other c : ℕ) (e : Conn I O) → other ≢ line → (w.dialled c).upper ≡ by_reader other → IsEndOf i o w net c false e → IsEndOf i o v made c false e

  module _ (w : World) (net : Net) (v : World) (made : Net) (line : ℕ) (h : ActsAlone w net v made line) where
    keeps_other : (other : ℕ) → other ≢ line → KeepsReadClient i o w net v made other
    keeps_other other apart = record {
      reader = h.readers other apart;
      over = λ c s is. h.over other c apart (dialled_by w h.ordered other c s is);
      ends = λ c s e is x. h.ends other c e apart (dialled_by w h.ordered other c s is) x;
    }

    -- the clients after an event of the one at a place
    pub clients_after : (xs : List (ReadClient I O)) (place : ℕ) (c c' : ReadClient I O) → ReadClientsStay i o → ClientsShow i o w net xs → slice_get xs place ≡ Some c → c.ask.reader ≡ line → c'.ask ≡ c.ask → ReadClientShows i o v made c' → ClientsShow i o v made (slice_set xs place c')
    clients_after xs place c c' stay shows at of_line same here = record {
      each = λ k a is. each k a (set_or xs place c' k a is);
      ascend = ascend_set xs place c c' at same shows.ascend;
      all = λ reader begun. has_client_set xs place c c' at same reader (all reader begun (same_or reader line));
    }
      where
        each : (k : ℕ) (a : ReadClient I O) → SetOr xs place c' k a → ReadClientShows i o v made a
        each k a (inl x) = subst (λ (y : ReadClient I O). ReadClientShows i o v made y) (sym x.1) here
        each k a (inr x) = stay a w net v made (shows.each k a x.1) (keeps_other a.ask.reader (λ e. x.0 (same_place (λ y. y.ask.reader) xs shows.ascend k place a c x.1 at (e ∙ sym of_line))))

        all : (reader : ℕ) → (v.readers reader ≡ no_reader → ⊥) → ((reader ≡ line) ⊎ (reader ≡ line → ⊥)) → HasClient xs reader
        all reader begun (inl e) = record { place = place; client = c; at = at; of_reader = of_line ∙ sym e }
        all reader begun (inr apart) = shows.all reader (λ none. begun (h.readers reader apart ∙ none))

-- THE ROADS KNOW A CLIENT'S CONNECTION

module _ {R I O : Type 0} (r : roads.Ghosts R I O) (i : link_in.Ghosts I) (o : link_out.Ghosts O) where
  pub is_ready : (st : ReadState I O) (w : World) (net : Net) (road : R) (line : ℕ) → RoadsShow r net road → StateShows i o w net line st → ReadIsReady (r.plain road) st
  is_ready state.Asks w net road line shows h = tt
  is_ready (state.HasRead read) w net road line shows h = tt
  is_ready (state.Reads x) w net road line shows h = record {
    open_is = ap is_some h.core;
    known = known r i o road net (r.plain road) x.end.id.0 x.end.id.0 shows refl h.end_is.within refl;
  }

  pub client_ready : {F : Type 0} (road : R) (n : Nodes F I O) (p : Reads I O) (place : ℕ) (c : ReadClient I O) → Stand r i o road n p → slice_get p.clients.items place ≡ Some c → ReadIsReady (r.plain road) c.state
  client_ready road n p place c s at = is_ready c.state s.w s.net road c.ask.reader s.stands.nodes.roads_are.shows (s.stands.reads_are.clients.each place c at)

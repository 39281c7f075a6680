-- Reads without clients, and clients that join.
use Rattle.std.proofs.Common.{◌≡◌, ◌<◌, ℕ, ◌++◌, List, [], ◌∷◌, slice_get, Some, inl, inr, refl, sym, ap, ◌∙◌, subst, arith}
use Rattle.hd_base.specs.declared.links.LinkIn as link_in
use Rattle.hd_base.specs.declared.links.LinkOut as link_out
use Rattle.road_traffic.specs.Showing.{Net}
use Rattle.world.specs.Worlds.{World}
use Rattle.play_nodes.specs.PlayModel.ReadAsk.{ReadAsk}
use Rattle.play_primaries.specs.PlayReaders.ReadClient.{ReadClient}
use Rattle.play_primaries.specs.PlayReaders.Clients.{ReadClientShows}
use Rattle.play_servers.specs.declared.servers.ReadServer.{ReadServer}
use Rattle.play_reads.specs.declared.reads.Reads.{Reads}
use Rattle.play_reads.specs.Joining.{NoneShow, made_client, HasJoined}
use Rattle.play_primaries.specs.PlayReaders.Asks.{asks_of}
use Rattle.play_reads.specs.Places.{ReadersBelow, HasClient}
use Rattle.play_reads.specs.Showing.{ClientsShow, ServersShow}
use Rattle.play_reads.proofs.DueLaws.{none_begun}
use Rattle.play_nodes.proofs.Numbers.{PutOr, put_or, ascend_put}
use Rattle.play_reads.proofs.OwnLaws.{front}
use Rattle.play_nodes.specs.WorldOrders.Orders.{purpose_of}

none_at : {A : Type 0} (k : ℕ) (a : A) → slice_get [] k ≡ Some a → ⊥
none_at k a e = cc

not_below : (a b : ℕ) → a ≡ b → a < b → ⊥
not_below a b e h = omega (arith, e, h)

module _ {I O : Type 0} (i : link_in.Ghosts I) (o : link_out.Ghosts O) where
  -- NO READS

  pub none_show : (p : Reads I O) → p.clients.items ≡ [] → p.servers.items ≡ [] → NoneShow i o p
  none_show p clients servers = λ w net blocks none. record {
    clients = subst (λ (xs : List (ReadClient I O)). ClientsShow i o w net xs) (sym clients) (record {
      each = λ k c at. absurd (none_at k c at);
      ascend = λ j k a b x y before. absurd (none_at j a x);
      all = λ reader begun. absurd (begun (none.unbegun reader));
    });
    servers = subst (λ (xs : List (ReadServer I O)). ServersShow i o w net blocks xs) (sym servers) (record {
      each = λ k s at. absurd (none_at k s at);
      ascend = λ j k a b x y before. absurd (none_at j a x);
      all = λ c within is. absurd (none.undialled c within is);
    });
    dialled = λ c line within by. absurd (none.undialled c within (ap purpose_of by));
  }

  -- A CLIENT MORE

  module _ (w : World) (net : Net) (ask : ReadAsk) (old : List (ReadClient I O)) (shows : ClientsShow i o w net old) (below : ReadersBelow old ask.reader) where
    abbrev made : ReadClient I O
    made = made_client ask

    -- the reader has no client
    never : HasClient old ask.reader → ⊥
    never h = not_below h.client.ask.reader ask.reader h.of_reader (below h.place h.client h.at)

    each_now : (k : ℕ) (c : ReadClient I O) → PutOr old made k c → ReadClientShows i o w net c
    each_now k c (inl at) = shows.each k c at
    each_now k c (inr x) =
        subst (λ (y : ReadClient I O). ReadClientShows i o w net y) (sym x.1) (none_begun w ask.reader (w.readers ask.reader) refl (λ begun. never (shows.all ask.reader begun)))

    pub clients_joined : ClientsShow i o w net (old ++ made ∷ [])
    clients_joined = record {
      each = λ k c at. each_now k c (put_or old made k c at);
      ascend = ascend_put (λ c. c.ask.reader) old shows.ascend made below;
      all = λ reader begun.
          let x : HasClient old reader = shows.all reader begun in
          record { place = x.place; client = x.client; at = front old (made ∷ []) x.place x.client x.at; of_reader = x.of_reader };
    }

asks_joined : {I O : Type 0} (xs : List (ReadClient I O)) (ask : ReadAsk) → asks_of (xs ++ made_client ask ∷ []) ≡ asks_of xs ++ ask ∷ []
asks_joined [] ask = refl
asks_joined (x ∷ xs) ask = ap (λ (more : List ReadAsk). x.ask ∷ more) (asks_joined xs ask)

pub has_joined : {I O : Type 0} (i : link_in.Ghosts I) (o : link_out.Ghosts O) (ask : ReadAsk) (old new : Reads I O) → new.clients.items ≡ old.clients.items ++ made_client ask ∷ [] → new.servers ≡ old.servers → HasJoined i o ask old new
has_joined {I} {O} i o ask old new clients servers = record {
  clients = clients;
  servers = servers;
  asks = ap (λ (xs : List (ReadClient I O)). asks_of xs) clients ∙ asks_joined old.clients.items ask;
  shows = λ w net blocks shows below. record {
    clients = subst (λ (xs : List (ReadClient I O)). ClientsShow i o w net xs) (sym clients) (clients_joined i o w net ask old.clients.items shows.clients below);
    servers = subst (λ (xs : List (ReadServer I O)). ServersShow i o w net blocks xs) (sym (ap (λ x. x.items) servers)) shows.servers;
    dialled = λ c line within by.
        let x : HasClient old.clients.items line = shows.dialled c line within by in
        subst (λ (xs : List (ReadClient I O)). HasClient xs line) (sym clients) (record { place = x.place; client = x.client; at = front old.clients.items (made_client ask ∷ []) x.place x.client x.at; of_reader = x.of_reader });
  };
}

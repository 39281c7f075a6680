-- Recoveries without clients, and clients that join.
use Rattle.std.proofs.Common.{◌≡◌, ◌<◌, ℕ, zero, suc, ◌++◌, List, [], ◌∷◌, slice_get, Some, inl, inr, refl, sym, ap, ◌∙◌, subst, arith}
use Rattle.hd_base.specs.declared.links.LinkIn as link_in
use Rattle.hd_base.specs.declared.links.LinkOut as link_out
use Rattle.road_traffic.specs.Showing.{Net}
use Rattle.world.specs.Parts.{Primary, no_primary, was_told, leads, has_led}
use Rattle.world.specs.Worlds.{World}
use Rattle.play_nodes.specs.WorldOrders.Orders.{purpose_of}
use Rattle.play_model.specs.declared.recoveries.Recovery.{Recovery}
use Rattle.play_nodes.proofs.Numbers.{PutOr, put_or, ascend_put}
use Rattle.play_primaries.specs.declared.clients.PrimaryClient.{PrimaryClient}
use Rattle.play_primaries.specs.Clients.{PrimaryClientShows}
use Rattle.play_servers.specs.declared.recoveries.RecoveryServer.{RecoveryServer}
use Rattle.play_recoveries.specs.declared.recoveries.Recoveries.{Recoveries}
use Rattle.play_recoveries.specs.Joining.{NoneShow, made_client, RunsIfItMay, HasJoined}
use Rattle.play_recoveries.specs.Places.{recoveries_of, PrimariesBelow, HasClient}
use Rattle.play_recoveries.specs.Showing.{ClientsShow, HasSeats, ServersShow}

none_at : {A : Type 0} (k : ℕ) (a : A) → slice_get [] k ≡ Some a → ⊥
none_at k a e = cc

not_below : (a b : ℕ) → a ≡ b → a < b → ⊥
not_below a b e h = omega (arith, e, h)

-- what stands in front of a list that grows
pub front : {A : Type 0} (xs ys : List A) (k : ℕ) (x : A) → slice_get xs k ≡ Some x → slice_get (xs ++ ys) k ≡ Some x
front [] ys k x h = cc
front (a ∷ xs) ys zero x h = h
front (a ∷ xs) ys (suc k) x h = front xs ys k x h

-- A primary that hasn't begun but not is one that hasn't begun.
none_begun : (w : World) (number : ℕ) (x : Primary) → w.primaries number ≡ x → ((w.primaries number ≡ no_primary → ⊥) → ⊥) → w.primaries number ≡ no_primary
none_begun w number no_primary is never = is
none_begun w number (was_told block told) is never = absurd (never (λ e. clash (sym is ∙ e)))
  where
    clash : was_told block told ≡ no_primary → ⊥
    clash e = cc
none_begun w number (leads l) is never = absurd (never (λ e. clash (sym is ∙ e)))
  where
    clash : leads l ≡ no_primary → ⊥
    clash e = cc
none_begun w number (has_led r) is never = absurd (never (λ e. clash (sym is ∙ e)))
  where
    clash : has_led r ≡ no_primary → ⊥
    clash e = cc

module _ {I O : Type 0} (i : link_in.Ghosts I) (o : link_out.Ghosts O) where
  -- NO RECOVERIES

  pub none_show : (p : Recoveries I O) → p.clients.items ≡ [] → p.servers.items ≡ [] → NoneShow i o p
  none_show p clients servers = λ w net blocks none. record {
    clients = subst (λ (xs : List (PrimaryClient I O)). ClientsShow i o w net xs) (sym clients) (record {
      each = λ k c at. absurd (none_at k c at);
      seats = λ k c at. absurd (none_at k c at);
      ascend = λ j k a b x y before. absurd (none_at j a x);
      all = λ number begun. absurd (begun (none.unbegun number));
    });
    servers = subst (λ (xs : List (RecoveryServer I O)). ServersShow i o w net blocks xs) (sym servers) (record {
      each = λ k s at. absurd (none_at k s at);
      ascend = λ j k a b x y before. absurd (none_at j a x);
      all = λ c within is. absurd (none.undialled c within is);
    });
    dialled = λ c number place within by. absurd (none.undialled c within (ap purpose_of by));
  }

  -- A CLIENT MORE

  module _ (w : World) (net : Net) (r : Recovery) (old : List (PrimaryClient I O)) (shows : ClientsShow i o w net old) (below : PrimariesBelow old r.primary) (runs : RunsIfItMay w r) where
    abbrev made : PrimaryClient I O
    made = made_client r

    -- the primary has no client
    never : HasClient old r.primary → ⊥
    never h = not_below h.client.recovery.primary r.primary h.of_primary (below h.place h.client h.at)

    made_shows : PrimaryClientShows i o w net made
    made_shows = record {
      is = none_begun w r.primary (w.primaries r.primary) refl (λ begun. never (shows.all r.primary begun));
      runs = runs;
    }

    each_now : (k : ℕ) (c : PrimaryClient I O) → PutOr old made k c → PrimaryClientShows i o w net c
    each_now k c (inl at) = shows.each k c at
    each_now k c (inr x) = subst (λ (y : PrimaryClient I O). PrimaryClientShows i o w net y) (sym x.1) made_shows

    seats_now : (k : ℕ) (c : PrimaryClient I O) → PutOr old made k c → HasSeats c.state
    seats_now k c (inl at) = shows.seats k c at
    seats_now k c (inr x) = subst (λ (y : PrimaryClient I O). HasSeats y.state) (sym x.1) tt

    pub clients_joined : ClientsShow i o w net (old ++ made ∷ [])
    clients_joined = record {
      each = λ k c at. each_now k c (put_or old made k c at);
      seats = λ k c at. seats_now k c (put_or old made k c at);
      ascend = ascend_put (λ c. c.recovery.primary) old shows.ascend made below;
      all = λ number begun.
          let x : HasClient old number = shows.all number begun in
          record { place = x.place; client = x.client; at = front old (made ∷ []) x.place x.client x.at; of_primary = x.of_primary };
    }

recoveries_joined : {I O : Type 0} (xs : List (PrimaryClient I O)) (r : Recovery) → recoveries_of (xs ++ made_client r ∷ []) ≡ recoveries_of xs ++ r ∷ []
recoveries_joined [] r = refl
recoveries_joined (x ∷ xs) r = ap (λ (more : List Recovery). x.recovery ∷ more) (recoveries_joined xs r)

pub has_joined : {I O : Type 0} (i : link_in.Ghosts I) (o : link_out.Ghosts O) (r : Recovery) (old new : Recoveries I O) → new.clients.items ≡ old.clients.items ++ made_client r ∷ [] → new.servers ≡ old.servers → HasJoined i o r old new
has_joined {I} {O} i o r old new clients servers = record {
  clients = clients;
  servers = servers;
  recovers = ap (λ (xs : List (PrimaryClient I O)). recoveries_of xs) clients ∙ recoveries_joined old.clients.items r;
  shows = λ w net blocks shows below runs. record {
    clients = subst (λ (xs : List (PrimaryClient I O)). ClientsShow i o w net xs) (sym clients) (clients_joined i o w net r old.clients.items shows.clients below runs);
    servers = subst (λ (xs : List (RecoveryServer I O)). ServersShow i o w net blocks xs) (sym (ap (λ x. x.items) servers)) shows.servers;
    dialled = λ c number place within by.
        let x : HasClient old.clients.items number = shows.dialled c number place within by in
        subst (λ (xs : List (PrimaryClient I O)). HasClient xs number) (sym clients) (record { place = x.place; client = x.client; at = front old.clients.items (made_client r ∷ []) x.place x.client x.at; of_primary = x.of_primary });
  };
}

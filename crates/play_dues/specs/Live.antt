-- The connections of which something may still be due.
use Rattle.std.specs.Prelude.{◌≡◌, ◌<◌, ◌≤◌, ℕ, ◌&&◌, ◌||◌, not, nat_lt, nat_le, Bool, true, false, List, filter}
use Rattle.hd_base.specs.declared.links.LinkIn as link_in
use Rattle.hd_base.specs.declared.links.LinkOut as link_out
use Rattle.hd_base.specs.declared.numbers.ConnId.{ConnId}
use Rattle.road_traffic.specs.Showing.{Net}
use Rattle.world.specs.Worlds.{World}
use Rattle.world.specs.Events.{run}
use Rattle.play_model.specs.declared.dues.Due.{Due}
use Rattle.play_model.specs.Dues.{Queues, when, upto, is_due, due_events}
use Rattle.play_clients.specs.declared.clients.Client.{Client}
use Rattle.play_reads.specs.PlayNodes.Nodes.{Nodes}
use Rattle.play_reads.specs.PlayNodes.Dues.{IsOrderly}
use Rattle.play_reads.specs.PlayPrimaries.Dues.{ArePlaced}
use Rattle.play_reads.specs.declared.reads.Reads.{Reads}
use Rattle.play_recoveries.specs.declared.recoveries.Recoveries.{Recoveries}
use Rattle.play_dues.specs.declared.live.LiveConns.{LiveConns}
use Rattle.play_dues.specs.Spending.{EndsShow}
use Rattle.play_dues.specs.Spent.{is_spent}

-- THE LIST

-- this number, where it passes a test
abbrev pub if_passing : (ℕ → Bool) → ℕ → List ConnId
if_passing test c = when (test c) (record { 0 = c })

-- the numbers below n that pass it, in ascending order
abbrev pub passing : (ℕ → Bool) → ℕ → List ConnId
passing test n = upto (if_passing test) n

-- The list has, in ascending order, numbers of connections below the one up to which they are known; of these the
-- others are spent.
pub record Covers (w : World) (live : LiveConns) : Type 0 where
  pub within : live.known ≤ w.next_conn
  pub has : ℕ → Bool
  pub listed : live.conns.items ≡ passing has live.known
  pub rest : (c : ℕ) → c < live.known → has c ≡ false → is_spent w c ≡ true

-- Of a play that begins it covers all connections.
abbrev pub CoversNone : LiveConns → Type 0
CoversNone live = (w : World) → Covers w live

-- It has those that aren't spent, of all connections.
pub record IsCurrent (w : World) (live : LiveConns) : Type 0 where
  pub known : live.known ≡ w.next_conn
  pub listed : live.conns.items ≡ passing (λ c. not (is_spent w c)) w.next_conn

-- CHANGES

-- Whether a number is no connection that is spent, in each world that they show.
abbrev pub TellsLive : {F I O : Type 0} → link_in.Ghosts I → link_out.Ghosts O → ConnId → Nodes F I O →
    List (Client I O) → Reads I O → Recoveries I O → Bool → Type 0
TellsLive i o conn n clients reads recoveries result =
    (w : World) (net : Net) → EndsShow i o w net n clients reads recoveries
    → result ≡ not (nat_lt conn.0 w.next_conn && is_spent w conn.0)

-- Such numbers are left of these.
abbrev pub DropsSpent : {F I O : Type 0} → link_in.Ghosts I → link_out.Ghosts O → List ConnId → List ConnId →
    Nodes F I O → List (Client I O) → Reads I O → Recoveries I O → Type 0
DropsSpent i o old new n clients reads recoveries =
    (w : World) (net : Net) → EndsShow i o w net n clients reads recoveries
    → new ≡ filter (λ c. not (nat_lt c.0 w.next_conn && is_spent w c.0)) old

-- a number that passes a test or isn't below this one
abbrev pub or_from : ℕ → (ℕ → Bool) → ℕ → Bool
or_from known has c = nat_le known c || has c

-- The list has more: from this number on, all below a count.
abbrev pub HasMore : List ConnId → List ConnId → ℕ → ℕ → Type 0
HasMore old new from count = (has : ℕ → Bool) → from ≤ count → old ≡ passing has from
    → new ≡ passing (or_from from has) count

-- What covered a world that they show is up to date in it.
abbrev pub IsRefreshed : {F I O : Type 0} → link_in.Ghosts I → link_out.Ghosts O → LiveConns → LiveConns →
    Nodes F I O → List (Client I O) → Reads I O → Recoveries I O → Type 0
IsRefreshed i o old new n clients reads recoveries =
    (w : World) (net : Net) → EndsShow i o w net n clients reads recoveries → Covers w old
    → IsCurrent w new

-- LAWS

-- What is up to date covers its world.
abbrev pub CurrentCovers : Type 0
CurrentCovers = (w : World) (live : LiveConns) → IsCurrent w live → Covers w live

-- What covers a world covers the one after whatever is due, where primaries have their connections at their places
-- (recoveries_fit).
abbrev pub CoversOn : Type 0
CoversOn = (w : World) (queues : Queues) (d : Due) (live : LiveConns) → IsOrderly w → ArePlaced w →
    is_due w queues d ≡ true → Covers w live
    → Covers (run w (due_events w queues d)) live

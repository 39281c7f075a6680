-- Connections of which nothing will ever be due.
use Rattle.std.specs.Prelude.{◌≡◌, ◌<◌, ℕ, ◌&&◌, not, Bool, true, false, []}
use Rattle.world.specs.Parts.{Upper, by_writer, by_member, by_reader, by_primary}
use Rattle.world.specs.Worlds.{World}
use Rattle.world.specs.Connections.{is_conn}
use Rattle.world.specs.Enabled.{leads_from, reads_from}
use Rattle.world.specs.Events.{run}
use Rattle.play_reads.specs.WorldNets.Nets.{is_over}
use Rattle.play_model.specs.declared.dues.Due.{Due}
use Rattle.play_model.specs.Dues.{Queues, is_due, conn_dues, due_events}
use Rattle.play_reads.specs.PlayNodes.Dues.{IsOrderly}
use Rattle.play_reads.specs.PlayNodes.Showing.{has_events}
use Rattle.play_reads.specs.PlayPrimaries.Dues.{ArePlaced}

-- The upper end takes nothing any more: the member that dialled has no further events, the writer that did has no
-- connection or another one, the reader that did takes nothing from it, or the primary that did takes nothing from it,
-- or has taken its end.
abbrev pub is_given_up : World → ℕ → Upper → Bool
is_given_up w c (by_writer b) = not (is_conn (w.writers b).conn c)
is_given_up w c (by_member d) = not (has_events w d)
is_given_up w c (by_reader i) = not (reads_from (w.readers i) c)
is_given_up w c (by_primary i place) = not (leads_from (w.primaries i) w place && not (is_over w c false))

-- neither the lower end nor the upper end has further events
abbrev pub is_spent : World → ℕ → Bool
is_spent w c = not (has_events w c) && is_given_up w c (w.dialled c).upper

-- Nothing is due of a connection that is spent.
abbrev pub NothingDue : Type 0
NothingDue = (w : World) (queues : Queues) (c : ℕ) → IsOrderly w → c < w.next_conn → is_spent w c ≡ true
    → conn_dues w queues c ≡ []

-- It stays so in whatever is due, where primaries have their connections at their places (recoveries_fit).
abbrev pub SpentStay : Type 0
SpentStay = (w : World) (queues : Queues) (d : Due) (c : ℕ) → IsOrderly w → ArePlaced w →
    is_due w queues d ≡ true → c < w.next_conn → is_spent w c ≡ true
    → is_spent (run w (due_events w queues d)) c ≡ true

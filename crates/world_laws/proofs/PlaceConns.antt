-- Connections that were dialled, and those past them.
use Rattle.std.proofs.Common.{◌≡◌, ℕ, ◌<◌, ◌≤◌, false, List, [], Option, Some, None, refl, arith}
use Rattle.std.proofs.lemmas.Bool.{ne_eqb}
use Rattle.world.specs.Parts.{Message}
use Rattle.world.specs.Connections.{sent_on, is_conn, is_either}
use Rattle.world_laws.specs.Placing.{IsConn}

-- a connection that was dialled isn't one past all that were
pub conn-out : (conns c : ℕ) (o : Option ℕ) → IsConn conns o → conns ≤ c → is_conn o c ≡ false
conn-out conns c None h le = refl
conn-out conns c (Some d) h le = ne_eqb c d (λ e. omega (arith, e, h.below, le))

pub either-out : (conns c : ℕ) (a b : Option ℕ) → IsConn conns a → IsConn conns b → conns ≤ c → is_either a b c ≡ false
either-out conns c a b h k le = rw (conn-out conns c a h le) (conn-out conns c b k le)

pub sent-out : (conns c : ℕ) (o : Option ℕ) (ms : List Message) → IsConn conns o → conns ≤ c → sent_on o ms c ≡ []
sent-out conns c None ms h le = refl
sent-out conns c (Some d) ms h le = rw (ne_eqb c d (λ e. omega (arith, e, h.below, le))) refl

pub no-conn : (conns : ℕ) → IsConn conns None
no-conn conns = record { below = tt }

pub one-conn : (conns c : ℕ) → c < conns → IsConn conns (Some c)
one-conn conns c h = record { below = h }

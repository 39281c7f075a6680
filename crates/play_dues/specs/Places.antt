-- Where the clients of a play stand among the others.
use Rattle.std.specs.Prelude.{◌==◌, ℕ, Bool, false, List, position, slice_get, Option, Some, None}
use Rattle.play_clients.specs.declared.clients.Client.{Client}
use Rattle.play_clients.specs.Clients.{client_has_step}

-- the place of the client of this block, if it has one
abbrev pub client_place : {I O : Type 0} → List (Client I O) → ℕ → Option ℕ
client_place clients b = position (λ c. c.block.0 == b) clients

-- the client, if there is one, has an own step
abbrev pub has_step_of : {I O : Type 0} → Option (Client I O) → Bool
has_step_of None = false
has_step_of (Some c) = client_has_step c

-- the client at this place, if there is one, has an own step
abbrev pub has_step_at : {I O : Type 0} → List (Client I O) → Option ℕ → Bool
has_step_at clients None = false
has_step_at clients (Some place) = has_step_of (slice_get clients place)

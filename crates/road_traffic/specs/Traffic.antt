-- What was sent on the directions of connections, and how much of it was taken; and what the roads carry and hold of it.
use Rattle.std.specs.Prelude.{ℕ, ◌+◌, ◌≤◌, ◌==◌, not, Bool, true, false, cond, List, [], ◌++◌, length, take, drop, Option, Some, None, is_some, unwrap_or, IfSome}
use Rattle.hd_base.specs.Lists.{joined}
use Rattle.hd_base.specs.Channels.{Carried, Channel, same_direction}

-- One direction of a connection: all messages that were ever sent on it, as bytes; how many were taken; behind how many of them the end stands,
-- where it does; and whether the end was taken, or the taker has gone.
pub record Traffic : Type 0 where
  pub sent : List (List ℕ)
  pub taken : ℕ
  pub end : Option ℕ
  pub over : Bool

-- the traffic by connection and direction (true is down)
abbrev pub Traffics : Type 0
Traffics = ℕ → Bool → Traffic

-- nothing was sent
abbrev pub no_traffic : Traffic
no_traffic = record { sent = []; taken = 0; end = None; over = false }

-- of the messages sent, those before the end
abbrev pub before_end : Option ℕ → List (List ℕ) → List (List ℕ)
before_end None sent = sent
before_end (Some n) sent = take n sent

-- those that arrive and were not yet taken
abbrev pub on_way : Traffic → List (List ℕ)
on_way t = drop t.taken (before_end t.end t.sent)

-- what roads over plain memory hold of it
abbrev pub channel_of : Traffic → Channel
channel_of t = record { pieces = on_way t; ended = is_some t.end }

-- all bytes that were sent, lost ones among them
abbrev pub carried_of : Traffics → Carried
carried_of traffic = λ c d. joined (traffic c d).sent

-- No more was taken than was sent, and the end doesn't stand behind more.
pub record Fits (t : Traffic) : Type 0 where
  pub taken : t.taken ≤ length t.sent
  pub end : IfSome t.end (λ n. (t.taken ≤ n) × (n ≤ length t.sent))

-- WHAT BECOMES OF IT

-- one connection's traffic becomes this, by direction
unfoldable pub changed : Traffics → ℕ → (Bool → Traffic → Traffic) → Traffics
changed traffic conn f = λ c d. cond (conn == c) (f d (traffic c d)) (traffic c d)

-- a step on one direction alone
abbrev pub one_way : Bool → (Traffic → Traffic) → Bool → Traffic → Traffic
one_way down f d t = cond (same_direction down d) (f t) t

-- more messages were sent
abbrev pub more : List (List ℕ) → Traffic → Traffic
more messages t = record t { sent = t.sent ++ messages }

-- The end stands behind all that was sent, where it doesn't stand already.
abbrev pub closes : Traffic → Traffic
closes t = record t { end = Some (unwrap_or t.end (length t.sent)) }

-- What stands next was taken, if a message does.
abbrev pub draws : Traffic → Traffic
draws t = record t { taken = t.taken + length (take 1 (on_way t)) }

-- The taker has gone: nothing further arrives, and nobody takes the end.
abbrev pub breaks : Traffic → Traffic
breaks t = record t { end = Some t.taken; over = true }

-- The same, or nothing.
abbrev pub closes_if : Bool → Traffic → Traffic
closes_if shut t = cond shut (closes t) t

-- An end sent these messages on its outward direction, which is down of the end that dialled, and was shut or not: a shut ends both directions
-- behind what was sent.
abbrev pub flushes : Bool → Bool → List (List ℕ) → Bool → Traffic → Traffic
flushes lower shut messages d t = closes_if shut (one_way (not lower) (more messages) d t)

abbrev pub after_flush : Traffics → ℕ → Bool → Bool → List (List ℕ) → Traffics
after_flush traffic conn lower shut messages = changed traffic conn (flushes lower shut messages)

-- An end took what stands next on its inward direction.
abbrev pub after_draw : Traffics → ℕ → Bool → Traffics
after_draw traffic conn lower = changed traffic conn (one_way lower draws)

-- An end that sent these messages is given up: what it sent arrives, and nothing further comes to it.
abbrev pub given_up : Bool → List (List ℕ) → Bool → Traffic → Traffic
given_up lower messages d t = cond (same_direction lower d) (breaks t) (closes (more messages t))

abbrev pub after_loss : Traffics → ℕ → Bool → List (List ℕ) → Traffics
after_loss traffic conn lower messages = changed traffic conn (given_up lower messages)

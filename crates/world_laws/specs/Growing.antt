-- The past only grows.
use Rattle.std.specs.Prelude.{ℕ, ◌≡◌, ◌<◌, ◌≤◌, List, ◌++◌}
use Rattle.world.specs.declared.events.Event.{Event}
use Rattle.world.specs.Worlds.{Past, World}
use Rattle.world.specs.Events.{run}

-- one list begins with the other
pub record Begins {A : Type 0} (front whole : List A) : Type 0 where
  pub rest : List A
  pub joins : front ++ rest ≡ whole

-- What was written, sent or recorded stays, with more behind it; connections stay what they were.
pub record Grows (before after : Past) : Type 0 where
  pub written : (session : ℕ) → Begins (before.written session) (after.written session)
  pub conns : before.next_conn ≤ after.next_conn
  pub dialled : (c : ℕ) → c < before.next_conn → after.dialled c ≡ before.dialled c
  pub downs : (c : ℕ) → Begins (before.downs c) (after.downs c)
  pub ups : (c : ℕ) → Begins (before.ups c) (after.ups c)
  pub joined : Begins before.joined after.joined
  pub updated : Begins before.updated after.updated
  pub answered : Begins before.answered after.answered
  pub said : (block : ℕ) → Begins (before.said block) (after.said block)

-- So it is whatever happens.
abbrev pub PastGrows : Type 0
PastGrows = (w : World) (events : List Event) → Grows w.past (run w events).past

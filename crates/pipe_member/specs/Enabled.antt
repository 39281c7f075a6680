-- Which events of a member are enabled.
use Rattle.std.specs.Prelude.{ℕ, is_some, Bool, false}
use Rattle.hd_base.specs.declared.ends.Standing.{Standing}
use Rattle.hd_base.specs.declared.ends.Standing.TheVariants as standing
use Rattle.replica_core.specs.declared.records.ReplicaRecord.{ReplicaRecord}
use Rattle.pipe_setup.specs.MemberCore.Members.{MemberState, takes_messages, hears, ready_turn_by}
use Rattle.pipe_member.specs.declared.stages.Stage.{Stage}
use Rattle.pipe_member.specs.declared.stages.Stage.TheVariants as stage

-- An open member takes what stands next from above: a message where it takes messages, and the end where it still takes from above.
abbrev pub takes_next : MemberState → ℕ → Standing → Bool
takes_next m pending standing.Piece = takes_messages m pending
takes_next m pending standing.End = m.receives
takes_next m pending standing.Nothing = false

abbrev pub takes_at : Stage → ℕ → Standing → Bool
takes_at (stage.Open m) pending next = takes_next m pending next
takes_at other pending next = false

-- It has something to do without a message.
abbrev pub acts_at : Stage → ReplicaRecord → Bool
acts_at (stage.Open m) r = is_some (ready_turn_by m r)
acts_at other r = false

-- It takes what stands next from its mirror.
abbrev pub hears_at : Stage → Bool
hears_at (stage.Open m) = hears m
hears_at other = false

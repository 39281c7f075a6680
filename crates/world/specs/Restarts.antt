-- What a restart makes of a node's replicas.
use Rattle.std.specs.Prelude.{ℕ, ◌==◌, ◌+◌, ◌&&◌, ◌||◌, not, is_none, find, if◌then◌else◌, Bool, true, false, List, [], length, option_map, Option, Some, None}
use Rattle.std.specs.List.{starts_with}
use Rattle.std.specs.Cmp.Lexicographic.{pointwise}
use Rattle.member_core.specs.HdBase.Stamp.{Stamp}
use Rattle.member_core.specs.HdBase.ReplicaState.{ReplicaState}
use Rattle.member_core.specs.HdBase.ReplicaState.TheVariants as state
use Rattle.member_core.specs.HdBase.SumRules.{Rule, kind_number}
use Rattle.member_core.specs.HdBase.Wire.{state_number}
use Rattle.member_core.specs.ReplicaCore.ReplicaInfo.{ReplicaInfo}
use Rattle.member_core.specs.ReplicaCore.Info.{is_finalized, is_temporary, settled_at}
use Rattle.member_core.specs.ReplicaCore.Transitions.{found}
use Rattle.member_core.specs.ReplicaModel.Rows.{FullReplica, row, nothing}
use Rattle.member_core.specs.ReplicaModel.Plans.{plan, has_changing}
use Rattle.member_core.specs.ReplicaModel.Found.{Found, found_whole}
use Rattle.world.specs.declared.events.FoundReplica.{FoundReplica}
use Rattle.world.specs.Parts.{Break}
use Rattle.world.specs.Worlds.{World, put}

-- WHAT MAY BE FOUND, AS A TEST

abbrev pub same_rule : Rule → Rule → Bool
same_rule a b = kind_number a.kind == kind_number b.kind && a.chunk == b.chunk

-- just this is found
abbrev pub is_found : Option Found → ReplicaState → Stamp → Rule → List ℕ → Bool
is_found None at stamp sums bytes = false
is_found (Some f) at stamp sums bytes =
    state_number f.state == state_number at && f.stamp.0 == stamp.0 && same_rule f.sums sums &&
    pointwise ◌==◌ f.bytes bytes

-- RWR under this stamp is found, with a front of these bytes
abbrev pub is_waiting : Option Found → Stamp → Rule → List ℕ → Bool
is_waiting None stamp sums bytes = false
is_waiting (Some f) stamp sums bytes =
    state_number f.state == state_number state.Rwr && f.stamp.0 == stamp.0 && same_rule f.sums sums &&
    starts_with ◌==◌ bytes f.bytes

-- the same as what is found where the files are whole
abbrev pub is_whole_as : Option Found → Option Found → Bool
is_whole_as None f = is_none f
is_whole_as (Some g) f = is_found f g.state g.stamp g.sums g.bytes

abbrev pub is_whole : Option ReplicaInfo → List ℕ → Option Found → Bool
is_whole info bytes f = is_whole_as (found_whole info bytes) f

abbrev pub waits_between : ReplicaInfo → List ℕ → ReplicaInfo → List ℕ → Option Found → Bool
waits_between h before k after f =
    is_waiting f h.stamp h.sums before || is_waiting f h.stamp h.sums after || is_waiting f k.stamp h.sums before ||
    is_waiting f k.stamp h.sums after

abbrev pub final_between : ReplicaInfo → List ℕ → ReplicaInfo → List ℕ → Option Found → Bool
final_between h before k after f =
    (is_finalized h.original && is_found f state.Finalized h.stamp h.sums before)
    || (is_finalized k.original && is_found f state.Finalized k.stamp h.sums after)
    || (is_finalized h.original && is_finalized k.original && is_found f state.Finalized h.stamp h.sums after)

abbrev pub is_found_new : ReplicaInfo → Option Found → Bool
is_found_new k f = is_none f || (not (is_temporary k.original) && is_found f state.Rwr k.stamp k.sums [])

abbrev pub is_found_changed : Bool → Bool → ReplicaInfo → List ℕ → ReplicaInfo → List ℕ → Option Found → Bool
is_found_changed true true h before k after f = is_none f
is_found_changed true false h before k after f = is_none f || is_found f state.Rwr h.stamp h.sums before
is_found_changed false _ h before k after f = waits_between h before k after f || final_between h before k after f

abbrev pub is_found_amid : Option ReplicaInfo → List ℕ → Option ReplicaInfo → List ℕ → Option Found → Bool
is_found_amid None before None after f = is_none f
is_found_amid None before (Some k) after f = is_found_new k f
is_found_amid (Some h) before None after f = is_whole (Some h) before f
is_found_amid (Some h) before (Some k) after f =
    is_found_changed (is_temporary h.original) (is_temporary k.original) h before k after f

abbrev pub is_found_within : Bool → FullReplica → FullReplica → Option Found → Bool
is_found_within true before after f = is_found_amid before.known.info before.bytes after.known.info after.bytes f
is_found_within false before after f = is_whole before.known.info before.bytes f

-- A restart may find this of a replica that isn't broken, or that broke in an event.
unfoldable pub may_find : FullReplica → Option Break → Option Found → Bool
may_find r None f = is_whole r.known.info r.bytes f
may_find r (Some b) f = is_found_within (has_changing (plan b.before b.event)) b.before (row b.before b.event) f

-- WHAT IS FOUND

abbrev pub found_of : FoundReplica → Found
found_of x = record { state = x.state; stamp = x.stamp; sums = x.sums; bytes = x.bytes }

-- what is found of a block, the first entry of it in the list
abbrev pub found_in : List FoundReplica → ℕ → Option Found
found_in list b = option_map found_of (find (λ x. x.block.0 == b) list)

-- a replica that was found so
abbrev pub replica_found : ℕ → Option Found → FullReplica
replica_found b None = nothing (record { 0 = b })
replica_found b (Some f) =
    record { known = found (record { 0 = b }) (settled_at f.state f.stamp f.sums (length f.bytes)); bytes = f.bytes }

-- the replica's files are whole
abbrev pub whole_found : FullReplica → Option Break → Option Found
whole_found r None = found_whole r.known.info r.bytes
whole_found r (Some b) = found_whole b.before.known.info b.before.bytes

-- A replica after a restart that finds this: where no restart may find this, its files are whole.
unfoldable pub restarted : ℕ → FullReplica → Option Break → Option Found → FullReplica
restarted b r broke f = replica_found b (if may_find r broke f then f else whole_found r broke)

-- The node runs in its next life, with what is found of its replicas. Of one that isn't broken nothing need be said: where
-- this isn't what may be found, its files are whole.
unfoldable pub restart : World → ℕ → List FoundReplica → World
restart w n list = record w {
  lives = put w.lives n (w.lives n + 1);
  running = put w.running n true;
  replicas = put w.replicas n (λ b. restarted b (w.replicas n b) (w.breaks n b) (found_in list b));
  breaks = put w.breaks n (λ b. None);
  last_answer = None;
}

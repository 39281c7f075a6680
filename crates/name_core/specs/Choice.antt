-- The choice of a block recovery: which replicas it keeps, and at which length.
use Rattle.std.specs.Prelude.{ℕ, ◌==◌, not, ◌&&◌, ◌||◌, nat_le, nat_lt, min, Bool, true, false, List, [], ◌∷◌, map, filter, find, Option, Some, None, option_map, Result, Ok, Err}
use Rattle.hd_base.specs.declared.numbers.Stamp.{Stamp}
use Rattle.hd_base.specs.declared.states.ReplicaState.{ReplicaState}
use Rattle.hd_base.specs.declared.states.ReplicaState.TheVariants as state
use Rattle.hd_base.specs.Results.{◌>>=◌}
use Rattle.name_core.specs.declared.choice.ChooseFault.{ChooseFault}
use Rattle.name_core.specs.declared.choice.ChooseFault.TheVariants as fault
use Rattle.name_core.specs.declared.choice.Chosen.{Chosen}
use Rattle.name_core.specs.declared.choice.Kept.{Kept}
use Rattle.name_core.specs.declared.choice.Kept.TheVariants as kept
use Rattle.name_core.specs.declared.infos.Info.{Info}

-- a candidate: its stamp isn't below the block's, and it has bytes
abbrev pub is_candidate : Stamp → Info → Bool
is_candidate block_stamp i = nat_le block_stamp.0 i.stamp.0 && nat_lt 0 i.length

abbrev pub is_finalized : ReplicaState → Bool
is_finalized state.Finalized = true
is_finalized _ = false

abbrev pub is_rbw : ReplicaState → Bool
is_rbw state.Rbw = true
is_rbw _ = false

abbrev pub is_rwr : ReplicaState → Bool
is_rwr state.Rwr = true
is_rwr _ = false

abbrev pub is_finalized_candidate : Stamp → Info → Bool
is_finalized_candidate block_stamp i = is_candidate block_stamp i && is_finalized i.state

-- which candidates are kept: finalized ones and RBW ones of this length, or the RBW ones, or the RWR ones
abbrev pub is_kept : Kept → Info → Bool
is_kept (kept.Finalized bytes) i = is_finalized i.state || (is_rbw i.state && i.length == bytes)
is_kept kept.Rbw i = is_rbw i.state
is_kept kept.Rwr i = is_rwr i.state

-- a candidate that is kept
abbrev pub is_chosen : Stamp → Kept → Info → Bool
is_chosen block_stamp k i = is_candidate block_stamp i && is_kept k i

-- the infos of the candidates that are kept, in their order
abbrev pub kept_infos : Stamp → Kept → List Info → List Info
kept_infos block_stamp k infos = filter (is_chosen block_stamp k) infos

-- the lesser of two numbers, of which the other may be wanting
abbrev pub lesser : ℕ → Option ℕ → ℕ
lesser n None = n
lesser n (Some m) = min n m

-- the least of the numbers, None of none
abbrev pub least : List ℕ → Option ℕ
least [] = None
least (n ∷ ns) = Some (lesser n (least ns))

-- the lengths of the candidates that are kept
abbrev pub kept_lengths : Stamp → Kept → List Info → List ℕ
kept_lengths block_stamp k infos = map (λ i. i.length) (kept_infos block_stamp k infos)

-- this length at the nodes of these candidates
abbrev pub chosen : ℕ → Stamp → Kept → List Info → Chosen
chosen bytes block_stamp k infos =
    record { length = bytes; members = map (λ i. i.node) (kept_infos block_stamp k infos) }

-- the candidates kept so, at their least length; None where there are none
abbrev pub shortest : Stamp → Kept → List Info → Option Chosen
shortest block_stamp k infos = option_map (λ bytes. chosen bytes block_stamp k infos)
    (least (kept_lengths block_stamp k infos))

-- Where a finalized candidate of another length stands, the two lengths; else the candidates with this length.
abbrev pub unless_other : Option Info → ℕ → Stamp → List Info → Result (Option Chosen) ChooseFault
unless_other (Some other) bytes block_stamp infos = Err (fault.Unequal bytes other.length)
unless_other None bytes block_stamp infos = Ok (Some (chosen bytes block_stamp (kept.Finalized bytes) infos))

-- the first finalized candidate whose length isn't this one
abbrev pub other_length : ℕ → Stamp → List Info → Option Info
other_length bytes block_stamp infos = find (λ i. is_finalized_candidate block_stamp i && not (i.length == bytes)) infos

abbrev pub finalized_by : Option Info → Stamp → List Info → Result (Option Chosen) ChooseFault
finalized_by None block_stamp infos = Ok None
finalized_by (Some first) block_stamp infos =
    unless_other (other_length first.length block_stamp infos) first.length block_stamp infos

-- the choice where a candidate is finalized, None where none is
abbrev pub finalized_choice : Stamp → List Info → Result (Option Chosen) ChooseFault
finalized_choice block_stamp infos = finalized_by (find (is_finalized_candidate block_stamp) infos) block_stamp infos

-- the first of these choices that there is
abbrev pub first_of : Option Chosen → Option Chosen → Option Chosen → Result Chosen ChooseFault
first_of (Some c) rbw rwr = Ok c
first_of None (Some c) rwr = Ok c
first_of None None (Some c) = Ok c
first_of None None None = Err fault.Nothing

-- the choice: finalized candidates with RBW ones of their length, else RBW ones, else RWR ones
unfoldable pub choice : Stamp → List Info → Result Chosen ChooseFault
choice block_stamp infos = finalized_choice block_stamp infos >>=
    (λ found. first_of found (shortest block_stamp kept.Rbw infos) (shortest block_stamp kept.Rwr infos))

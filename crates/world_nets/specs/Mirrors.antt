-- Whom a node dials that takes a request to write.
use Rattle.std.specs.Prelude.{◌≡◌, ℕ, Bool, true, false, List, [], ◌∷◌, Some, None}
use Rattle.world.specs.NodeRefs.NodeRefs.{ref_of}
use Rattle.world.specs.OpHeaders.Op.TheVariants as op
use Rattle.world.specs.OpHeaders.Values.{WriteFields}
use Rattle.world.specs.ReplicaModel.Rows.{FullReplica}
use Rattle.world.specs.MemberCore.Members.{MemberState}
use Rattle.world.specs.MemberCore.Requests.{mirror_request}
use Rattle.world.specs.MemberCore.Steps.{Setup, request_step}
use Rattle.world.specs.Parts.{request, by_member}
use Rattle.world.specs.Worlds.{World, Dial}
use Rattle.world.specs.Connections.{place_of}
use Rattle.world.specs.Nodes.{node_of, mirror_node, is_asked, member_dials}

-- A request goes on to a mirror that runs: what is sent there, and the mirror's node.
pub record HasMirror (w : World) (c : ℕ) (fields : WriteFields) : Type 0 where
  pub below : WriteFields
  pub node : ℕ
  pub request_is : mirror_request (ref_of (record { 0 = node_of w c })) fields ≡ Some below
  pub node_is : mirror_node fields.targets ≡ Some node
  pub runs : w.running node ≡ true

-- the dial of a mirror, with its request
abbrev pub mirror_dial_of : World → ℕ → WriteFields → ℕ → Dial
mirror_dial_of w c below node = record {
  dialled = record { upper = by_member c; from = Some (w.dialled c).to; to = place_of w node };
  request = request (op.Write below);
}

-- the mirror is dialled, and nobody else
abbrev pub DialsMirror : World → ℕ → WriteFields → List Dial → Type 0
DialsMirror w c fields dials = (h : HasMirror w c fields) × (dials ≡ mirror_dial_of w c h.below h.node ∷ [])

-- A request's step at a replica.
abbrev pub setup_at : World → ℕ → WriteFields → Bool → FullReplica → Setup
setup_at w c fields answered r = request_step (record { 0 = c }) fields (is_asked w c fields answered) r

-- A request that the replica takes dials the mirror where it could be asked; else nobody is dialled.
pub record SetupDials (w : World) (c : ℕ) (fields : WriteFields) (answered : Bool) (r : FullReplica) : Type 0 where
  pub mirrored : (m : MemberState) → (setup_at w c fields answered r).member ≡ Some m →
      is_asked w c fields answered ≡ true →
      DialsMirror w c fields (member_dials (setup_at w c fields answered r).member w c fields)
  pub alone : is_asked w c fields answered ≡ false →
      member_dials (setup_at w c fields answered r).member w c fields ≡ []
  pub refused : (setup_at w c fields answered r).member ≡ None →
      member_dials (setup_at w c fields answered r).member w c fields ≡ []

abbrev pub SetupsDial : Type 0
SetupsDial = (w : World) (c : ℕ) (fields : WriteFields) (answered : Bool) (r : FullReplica) →
    SetupDials w c fields answered r

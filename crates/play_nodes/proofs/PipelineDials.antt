-- The dials of writers and members are of pipelines.
use Rattle.std.proofs.Common.{◌≡◌, ◌<◌, ◌≤◌, ◌+◌, ◌-◌, ℕ, zero, suc, true, List, [], ◌∷◌, length, slice_get, Option, Some, None, refl, sym, ap, ◌∙◌, arith}
use Rattle.op_headers.specs.Values.{WriteFields}
use Rattle.member_events.specs.MemberCore.Mirror.{Mirror}
use Rattle.member_events.specs.MemberCore.Mirror.TheVariants as mirror
use Rattle.member_events.specs.MemberCore.Members.{MemberState}
use Rattle.play_model.specs.World.Nodes.{mirror_dial, dials_of, member_dials}
use Rattle.play_model.specs.World.Parts.{Dialled}
use Rattle.play_model.specs.World.Worlds.{World, Change, Dial, dialled_with}
use Rattle.world_orders.proofs.Lists.{dialled-here}
use Rattle.play_nodes.specs.Showing.{is_pipeline}
use Rattle.play_nodes.proofs.Tables.{element}

-- Each of these is of a pipeline.
abbrev pub OfPipelines : List Dial → Type 0
OfPipelines [] = Unit {0}
OfPipelines (d ∷ ds) = (is_pipeline d.dialled.upper ≡ true) × OfPipelines ds

-- MEMBERS

mirror_dials : (w : World) (c : ℕ) (fields : Option WriteFields) (n : Option ℕ) → OfPipelines (mirror_dial w c fields n)
mirror_dials w c None n = tt
mirror_dials w c (Some fields) None = tt
mirror_dials w c (Some fields) (Some n) = (refl, tt)

asked_dials : (m : Mirror) (w : World) (c : ℕ) (fields : WriteFields) → OfPipelines (dials_of m w c fields)
asked_dials mirror.Asked w c fields = mirror_dials w c _ _
asked_dials other w c fields = tt

pub members_dial : (m : Option MemberState) (w : World) (c : ℕ) (fields : WriteFields) → OfPipelines (member_dials m w c fields)
members_dial None w c fields = tt
members_dial (Some m) w c fields = asked_dials m.mirror w c fields

-- WHAT WAS DIALLED

one_of : (ds : List Dial) (k : ℕ) (d : Dial) → OfPipelines ds → slice_get ds k ≡ Some d → is_pipeline d.dialled.upper ≡ true
one_of [] k d h at = cc
one_of (a ∷ ds) zero d h at = ap (λ (x : Dial). is_pipeline x.dialled.upper) (sym (same a d at)) ∙ h.0
  where
    same : (a b : Dial) → Some a ≡ Some b → a ≡ b
    same a b e = cc
one_of (a ∷ ds) (suc k) d h at = one_of ds k d h.1 at

behind : (n m c : ℕ) → n ≤ c → c < n + m → c - n < m
behind n m c le lt = omega arith

pub fresh_dial : (w : World) (k : Change) (c : ℕ) → OfPipelines k.dials → w.next_conn ≤ c → c < w.next_conn + length k.dials → is_pipeline (dialled_with w k c).upper ≡ true
fresh_dial w k c h le lt =
    let at = element k.dials (c - w.next_conn) (behind w.next_conn (length k.dials) c le lt) in
    ap (λ (x : Dialled). is_pipeline x.upper) (dialled-here w k c (c - w.next_conn) at.0 (omega (arith, le)) at.1) ∙ one_of k.dials (c - w.next_conn) at.0 h at.1

-- What is known of a request before it is booked.
use Rattle.std.proofs.Common.{◌≡◌, ℕ, List, true, false, Option, Some, None, refl, length}
use Rattle.hd_base.specs.declared.numbers.ConnId.{ConnId}
use Rattle.op_headers.specs.Values.{WriteFields}
use Rattle.replica_core.specs.declared.refusals.Refusal.{Refusal}
use Rattle.replica_core.specs.Transitions.{Outcome}
use Rattle.pipe_setup.specs.RequestRefusals.RequestRefusal.TheVariants as request
use Rattle.pipe_setup.specs.MemberCore.Effect.{Effect}
use Rattle.pipe_setup.specs.MemberCore.Mirror.{Mirror}
use Rattle.pipe_setup.specs.MemberCore.Mirror.TheVariants as mirror
use Rattle.pipe_setup.specs.MemberCore.Members.{MemberState, set_up, set_up_at, mirror_for, refused_setup}
use Rattle.pipe_turns.specs.Acting.{texts_of}
use Rattle.pipe_turns.specs.Turning.{IsListed}
use Rattle.pipe_member.specs.Refusing.{refused_in}
use Rattle.pipe_member.specs.Setups.{opened, first_by}

listed_at : (mi : Mirror) (op : WriteFields) (conn : ConnId) → IsListed (set_up_at mi op conn).1.sends
listed_at mirror.Nobody op conn = tt
listed_at mirror.Asked op conn = tt
listed_at mirror.Unreachable op conn = tt
listed_at mirror.Open op conn = tt
listed_at mirror.Ended op conn = tt

-- the answer of a member without a mirror is no ack
listed_setup : (conn : ConnId) (op : WriteFields) → IsListed (set_up conn op false).1.sends
unfolding set_up
listed_setup conn op = listed_at (mirror_for (length op.targets) false) op conn

listed_by : (refused : Option Refusal) (effect : Effect) → IsListed effect.sends → IsListed (first_by refused effect).sends
listed_by None effect h = h
listed_by (Some why) effect h = tt

-- nor is why its replica refuses
pub listed_first : (conn : ConnId) (op : WriteFields) (refused : Option Refusal) (u : MemberState × Effect) (first : Effect) → u ≡ set_up conn op false → first ≡ first_by refused u.1 → IsListed first.sends
listed_first conn op refused u first is by = rw (by, is) (listed_by refused (set_up conn op false).1 (listed_setup conn op))

pub opened_of : (conn : ConnId) (op : WriteFields) (outcome : Outcome) (a u : MemberState × Effect) (refused : Option Refusal) (first failed : Effect) (answer fault : Option (List ℕ))
    → a ≡ set_up conn op true → u ≡ set_up conn op false → refused ≡ refused_in outcome → first ≡ first_by refused u.1 → failed ≡ refused_setup request.File
    → answer ≡ texts_of op first.sends → fault ≡ texts_of op failed.sends
    → record { asked = a.0; unasked = u.0; shuts = u.1.shuts; answer = answer; fault = fault } ≡ opened conn op outcome
opened_of conn op outcome a u refused first failed answer fault is_a is_u is_refused is_first is_failed is_answer is_fault =
    rw (is_answer, is_fault, is_first, is_failed, is_refused, is_u, is_a) refl

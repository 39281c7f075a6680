-- What a member makes of what it takes from its mirror, and which messages that may be.
use Rattle.std.proofs.Common.{◌≡◌, ℕ, ℤ, zero, suc, ◌<◌, ◌≤◌, Bool, true, false, List, [], ◌∷◌, drop, length, slice_get, Option, Some, None, refl, sym, ◌∙◌, ap, arith}
use Rattle.std.specs.Prelude.{◌==◌, ◌&&◌, ◌||◌, nat_lt, nat_le, if◌then◌else◌, option_map}
use Rattle.std.specs.Ordering.{int_eq}
use Rattle.std.proofs.lemmas.Bool.{false≢true}
use Rattle.std.proofs.lemmas.Bool.Decides.{nat_tests, Decides-int_eq}
use Rattle.std.proofs.lemmas.Option.{same_Some}
use Rattle.ack_codec.specs.declared.acks.Ack.{Ack}
use Rattle.ack_codec.specs.declared.responses.Response.{Response}
use Rattle.op_headers.specs.declared.nodes.NodeRef.{NodeRef}
use Rattle.op_headers.specs.declared.ops.Op.TheVariants as op
use Rattle.op_headers.specs.Values.{WriteFields}
use Rattle.replica_core.specs.declared.ack_queue.PendingPacket.{PendingPacket}
use Rattle.replica_model.specs.Rows.{FullReplica}
use Rattle.member_core.specs.declared.inputs.FromBelow.TheVariants as below
use Rattle.member_core.specs.declared.effects.SetupAnswer.TheVariants as setup_answer
use Rattle.member_core.specs.declared.member.Mirror.TheVariants as mirror
use Rattle.member_core.specs.declared.effects.Shuts.TheVariants as shuts
use Rattle.member_core.specs.declared.effects.Upward.TheVariants as upward
use Rattle.member_core.specs.Acks.{is_success, failures, is_read, with_own}
use Rattle.member_core.specs.Members.{MemberState, up_turn, good_turn, accept_turn}
use Rattle.member_core.specs.Requests.{request_from}
use Rattle.member_core.specs.Steps.{Step, step}
use Rattle.world.specs.Parts.{Message, request, packet, ack, response, read_status, recovery_answer, Marks}
use Rattle.world.specs.Worlds.{Past}
use Rattle.world.specs.Connections.{message, the_end, ends_at, next_on}
use Rattle.play_scripts.specs.WorldAcks.Acking.{Asked, Mirrors}
use Rattle.world_orders.specs.Orders.{is_ack, is_response}

-- THE CHAIN

pub same-fields : (f g : WriteFields) → request (op.Write f) ≡ request (op.Write g) → f ≡ g
same-fields f g e = cc

-- a member has one target more than its mirror
pub chain-length : (h : Past) (d c : ℕ) (f g : WriteFields) → Asked h d f → Asked h c g → Mirrors h d c → length f.targets ≡ suc (length g.targets)
chain-length h d c f g a b m =
    let one : f ≡ m.fields = same-fields f m.fields (same_Some (request (op.Write f)) (request (op.Write m.fields)) (sym a.first ∙ m.asked.first)) in
    let two : g ≡ request_from m.source m.fields m.rest = same-fields g (request_from m.source m.fields m.rest) (same_Some (request (op.Write g)) _ (sym b.first ∙ m.mirror.first)) in
    ap (λ (x : WriteFields). length x.targets) one ∙ (ap (λ (ts : List NodeRef). length ts) m.targets ∙ sym (ap (λ (x : WriteFields). suc (length x.targets)) two))

pub positive : (n k : ℕ) → n ≡ suc k → 0 < n
positive n k e = omega (arith, e)

-- TURNS

pub ack-turn : (m : MemberState) (e : PendingPacket) (a : Ack) → m.mirror ≡ mirror.Open → is_read m.below e.seqno a ≡ true → (failures a.replies == 0) ≡ true → up_turn m (Some e) (below.Ack a) ≡ good_turn m e (with_own a.replies)
ack-turn m e a z r k = rw (z, r, k) refl

pub read-so : (n : ℕ) (q : ℤ) (a : Ack) → a.seqno ≡ q → length a.replies ≡ n → 0 < n → is_read n q a ≡ true
read-so n q a e l some = rw (number a.seqno q e, l) (replies n some)
  where
    number : (x y : ℤ) → x ≡ y → int_eq x y ≡ true
    number x y s = (Decides-int_eq x y).1 s

    replies : (k : ℕ) → 0 < k → (nat_lt 0 k && (k == k || (nat_lt k k && nat_lt 0 (failures a.replies)))) ≡ true
    replies k lt = rw (pos k lt, same k) refl
      where
        pos : (j : ℕ) → 0 < j → nat_lt 0 j ≡ true
        pos j l = grind (arith, nat_tests, l)

        same : (j : ℕ) → (j == j) ≡ true
        same j = grind (arith, nat_tests)

pub accept-turn : (m : MemberState) (o : Option PendingPacket) (r : Response) → m.mirror ≡ mirror.Asked → is_success r.status ≡ true → up_turn m o (below.Response r) ≡ accept_turn m
accept-turn m o r z k = rw (z, k) refl

-- what a member makes of its mirror's answer
abbrev pub accepted_step : MemberState → FullReplica → Step
accepted_step m r = record {
  member = record m { mirror = mirror.Open };
  replica = r;
  effect = record { forwards = false; sends = Some (upward.Answer setup_answer.Success); shuts = shuts.Nothing };
}

pub accept-step : (m : MemberState) (r : FullReplica) → m.closes ≡ false → step m r (accept_turn m) ≡ accepted_step m r
accept-step m r e = rw e refl

-- MESSAGES

pub drop-past : {A : Type 0} (xs : List A) (n : ℕ) → length xs ≤ n → drop n xs ≡ []
drop-past [] zero le = refl
drop-past [] (suc n) le = refl
drop-past (x ∷ xs) zero le = absurd (omega (arith, le))
drop-past (x ∷ xs) (suc n) le = drop-past xs n (omega (arith, le))

-- the end that stands behind all that was sent stands next only where all was taken
pub end-last : (sent : List Message) (k : Marks) → k.end ≡ Some (length sent) → next_on sent k ≡ Some the_end → drop k.taken sent ≡ []
end-last sent k at e = go k.over (nat_le (length sent) k.taken) refl (sym (ap (λ (o : Option ℕ). if k.over then None else (if ends_at o k.taken then Some the_end else option_map message (slice_get sent k.taken))) at) ∙ e)
  where
    go : (over b : Bool) → nat_le (length sent) k.taken ≡ b → (if over then None else (if b then Some the_end else option_map message (slice_get sent k.taken))) ≡ Some the_end → drop k.taken sent ≡ []
    go true b q x = absurd (cc)
    go false true q x = drop-past sent k.taken (grind (arith, nat_tests, q))
    go false false q x = absurd (no-message (slice_get sent k.taken) x)
      where
        no-message : (o : Option Message) → option_map message o ≡ Some the_end → ⊥
        no-message None y = cc
        no-message (Some z) y = cc

pub ack-only : (y : Message) → is_ack y ≡ true → (a : Ack) × (y ≡ ack a)
ack-only (ack a) e = (a, refl)
ack-only (request o) e = absurd (false≢true e)
ack-only (packet p) e = absurd (false≢true e)
ack-only (response r) e = absurd (false≢true e)
ack-only (read_status s) e = absurd (false≢true e)
ack-only (recovery_answer a) e = absurd (false≢true e)

pub response-only : (y : Message) → is_response y ≡ true → (r : Response) × (y ≡ response r)
response-only (response r) e = (r, refl)
response-only (request o) e = absurd (false≢true e)
response-only (packet p) e = absurd (false≢true e)
response-only (ack a) e = absurd (false≢true e)
response-only (read_status s) e = absurd (false≢true e)
response-only (recovery_answer a) e = absurd (false≢true e)

-- By the numbers that each refusal keeps.
use Rattle.std.proofs.Common.{◌≡◌, ◌≤◌, ◌⊎◌, inl, inr, ℤ, length, Option, Some, None, subst, sym, refl, arith, ◌∙◌, SFits, w64, to_z-of_z, rules, pos}
use Rattle.std.specs.Option.{unwrap_or}
use Rattle.hd_base.specs.Wire.{state_number}
use Rattle.replica_core.specs.Refusals.{rule_number}
use Rattle.hd_base.specs.declared.states.ReplicaState.{ReplicaState}
use Rattle.hd_base.specs.declared.states.ReplicaState.TheVariants as state
use Rattle.replica_core.specs.declared.refusals.PieceRule.{PieceRule}
use Rattle.replica_core.specs.declared.refusals.PieceRule.TheVariants as rule
use Rattle.replica_core.specs.declared.refusals.Refusal.{Refusal}
use Rattle.replica_core.specs.declared.refusals.Refusal.TheVariants as refusal
use Rattle.pipe_setup.specs.RequestRefusals.Texts.{spaced, spaced_signed, spaced_if_there, kept_text}
use Rattle.pipe_member.specs.Answering.{max_values, max_number}
use Rattle.pipe_member.proofs.AnswerSizes.{two_short, three_short, four_short, digit_short}
use Rattle.pipe_member.proofs.answers.kept_are_short.Goals as goal

-- a refusal that is known
known : (a b : Refusal) → a ≡ b → length (kept_text b) ≤ max_values → length (kept_text a) ≤ max_values
known a b is h = subst (λ (r : Refusal). length (kept_text r) ≤ max_values) (sym is) h

pub returns-in-Stale : goal.returns-in-Stale
unfolding kept_text
returns-in-Stale c =
    known _ _ c.in-Stale.is (omega (arith, three_short (spaced c.in-Stale.held.0) (spaced c.in-Stale.low.0) (spaced c.in-Stale.high.0) c.number_is_short.ensures c.number_is_short-in-Stale.ensures c.number_is_short-in-Stale-2.ensures))

pub returns-in-LengthOut : goal.returns-in-LengthOut
unfolding kept_text
returns-in-LengthOut c =
    known _ _ c.in-LengthOut.is (four_short (spaced c.in-LengthOut.acked) (spaced c.in-LengthOut.written) (spaced c.in-LengthOut.min) (spaced c.in-LengthOut.max) c.number_is_short-in-LengthOut.ensures c.number_is_short-in-LengthOut-2.ensures c.number_is_short-in-LengthOut-3.ensures c.number_is_short-in-LengthOut-4.ensures)

pub returns-in-Gap : goal.returns-in-Gap
unfolding kept_text
returns-in-Gap c = known _ _ c.in-Gap.is (omega (arith, two_short (spaced c.in-Gap.written) (spaced c.in-Gap.offset) c.number_is_short-in-Gap.ensures c.number_is_short-in-Gap-2.ensures))

pub returns-in-BadSum : goal.returns-in-BadSum
unfolding kept_text
returns-in-BadSum c = known _ _ c.in-BadSum.is (omega (arith, c.number_is_short-in-BadSum.ensures))

pub returns-in-RecoveryHeld : goal.returns-in-RecoveryHeld
unfolding kept_text
returns-in-RecoveryHeld c = known _ _ c.in-RecoveryHeld.is (omega (arith, c.number_is_short-in-RecoveryHeld.ensures))

pub returns-in-OutOfRange : goal.returns-in-OutOfRange
unfolding kept_text
returns-in-OutOfRange c = known _ _ c.in-OutOfRange.is (omega (arith, c.number_is_short-in-OutOfRange.ensures))

wanted : (want : Option ℤ) (n : ℤ) → ((z : ℤ) → want ≡ Some z → n ≡ z) → length (spaced_signed n) ≤ max_number → length (spaced_if_there want) ≤ max_number
wanted None n is h = omega arith
wanted (Some z) n is h = subst (λ (y : ℤ). length (spaced_signed y) ≤ max_number) (is z refl) h

unwrapped : (o : Option ℤ) (z : ℤ) → o ≡ Some z → unwrap_or o (pos 0) ≡ z
unwrapped (Some y) z is = cc
unwrapped None z is = cc

pub returns-in-Seqno : goal.returns-in-Seqno
unfolding kept_text
returns-in-Seqno c =
    let fits : SFits w64 c.in-Seqno.got = search rules in
    let some : SFits w64 c.unwrap_or.result = record { sfits = c.unwrap_or.type_inv } in
    let got : length (spaced_signed c.in-Seqno.got) ≤ max_number = subst (λ (z : ℤ). length (spaced_signed z) ≤ max_number) (to_z-of_z fits) c.signed_is_short-in-Seqno.ensures in
    let want : length (spaced_signed c.unwrap_or.result) ≤ max_number = subst (λ (z : ℤ). length (spaced_signed z) ≤ max_number) (to_z-of_z some) c.signed_is_short.ensures in
    known _ _ c.in-Seqno.is (omega (arith, two_short (spaced_if_there c.in-Seqno.want) (spaced_signed c.in-Seqno.got) (wanted c.in-Seqno.want c.unwrap_or.result (λ z is. c.unwrap_or.ensures ∙ unwrapped c.in-Seqno.want z is) want) got))

state_short : (s : ReplicaState) → length (spaced (state_number s)) ≤ max_values
state_short state.Finalized = digit_short 0 (omega arith)
state_short state.Rbw = digit_short 1 (omega arith)
state_short state.Rwr = digit_short 2 (omega arith)
state_short state.Rur = digit_short 3 (omega arith)
state_short state.Temporary = digit_short 4 (omega arith)

rule_short : (r : PieceRule) → length (spaced (rule_number r)) ≤ max_values
rule_short rule.Negative = digit_short 0 (omega arith)
rule_short rule.Heartbeat = digit_short 1 (omega arith)
rule_short rule.AfterLast = digit_short 2 (omega arith)
rule_short rule.LastShape = digit_short 3 (omega arith)
rule_short rule.MidChunk = digit_short 4 (omega arith)
rule_short rule.Sums = digit_short 5 (omega arith)
rule_short rule.TooLong = digit_short 6 (omega arith)

-- the refusals that keep no number
by_case : (r : Refusal) → (r ≡ refusal.NoReplica) ⊎ ((r ≡ refusal.Exists) ⊎ (((s : ReplicaState) × (r ≡ refusal.WrongState s)) ⊎ ((r ≡ refusal.NotWriter) ⊎ (((p : PieceRule) × (r ≡ refusal.Piece p)) ⊎ (r ≡ refusal.Broken)))))
    → length (kept_text r) ≤ max_values
unfolding kept_text
by_case r (inl is) = known _ _ is (omega arith)
by_case r (inr (inl is)) = known _ _ is (omega arith)
by_case r (inr (inr (inl h))) = known _ _ h.1 (state_short h.0)
by_case r (inr (inr (inr (inl is)))) = known _ _ is (omega arith)
by_case r (inr (inr (inr (inr (inl h))))) = known _ _ h.1 (rule_short h.0)
by_case r (inr (inr (inr (inr (inr is))))) = known _ _ is (omega arith)

pub returns-in-NoReplica : goal.returns-in-NoReplica
returns-in-NoReplica c = by_case c.args.refusal c.in-NoReplica.is

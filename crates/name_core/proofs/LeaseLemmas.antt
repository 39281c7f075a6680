-- A lease that was lost stays lost.
use Rattle.std.proofs.Common.{◌≡◌, ℕ, ◌<◌, ◌≤◌, true, false, List, [], ◌∷◌, Option, Some, None, Result, Ok, ◌⊎◌, inl, inr, refl, sym, ap, ◌∙◌, subst, arith, nat_lt, nat_le}
use Rattle.std.specs.Option.{IfSome, IsSome}
use Rattle.std.specs.Result.{IsErr}
use Rattle.std.proofs.lemmas.Bool.Decides.{nat_tests}
use Rattle.std.specs.BTreeMap.{is_at}
use Rattle.hd_base.specs.declared.numbers.BlockId.{BlockId}
use Rattle.hd_base.specs.declared.numbers.NodeId.{NodeId}
use Rattle.hd_base.specs.declared.numbers.Stamp.{Stamp}
use Rattle.name_core.specs.declared.calls.Begun.{Begun}
use Rattle.name_core.specs.declared.calls.OfficeAnswer.{OfficeAnswer}
use Rattle.name_core.specs.declared.calls.OfficeAnswer.TheVariants as answer
use Rattle.name_core.specs.declared.calls.OfficeCall.{OfficeCall}
use Rattle.name_core.specs.declared.calls.OfficeCall.TheVariants as call
use Rattle.name_core.specs.declared.faults.OfficeFault.{OfficeFault}
use Rattle.name_core.specs.declared.records.BlockRecord.{BlockRecord}
use Rattle.name_core.specs.Records.{opened, is_stamp}
use Rattle.name_core.specs.Steps.{state_after, reply}
use Rattle.name_core.specs.Offices.{OfficeState, block_order, stamp_given, record_of, with_record, with_new_record, office_after, answer_to, run}
use Rattle.name_core.specs.Laws.{RefusesWriter}
use Rattle.name_core.proofs.BlockLemmas.{same_or_other, record_of-with_record_same, record_of-with_record_other, record_of-with_new_record_other}
use Rattle.name_core.proofs.CaseLemmas.{IsWriters, each_case}

-- A block's record from the beginning of a block recovery with this id on: recoveries are this one or later ones, and either a recovery is under
-- way, or one of them was committed.
pub record FencedRecord (id : ℕ) (r : BlockRecord) : Type 0 where
  pub later : IfSome r.recovery (λ latest. id ≤ latest.0)
  pub fence : (id ≤ r.committed.0) ⊎ ((r.is_open ≡ true) × IsSome r.recovery)

pub record Fenced (id : ℕ) (block : BlockId) (o : OfficeState) : Type 0 where
  pub known : BlockRecord
  pub is : record_of o block ≡ Some known
  pub past : id < o.next.0
  pub fenced : FencedRecord id known

-- the next stamp was given
given : (id : ℕ) (block : BlockId) (o : OfficeState) → Fenced id block o → Fenced id block (stamp_given o)
given id block o h = record { known = h.known; is = h.is; past = let p = h.past in omega arith; fenced = h.fenced }

some_injective : {A : Type 0} (x y : A) → Some x ≡ Some y → x ≡ y
some_injective x y e = cc

-- a record was changed
stepped : (id : ℕ) (block b : BlockId) (o : OfficeState) (r s : BlockRecord) → record_of o b ≡ Some r → (FencedRecord id r → FencedRecord id s) → Fenced id block o → Fenced id block (with_record o b s)
stepped id block b o r s is step h = go (same_or_other b block) where
  go : (b ≡ block) ⊎ (is_at (block_order block) b ≡ false) → Fenced id block (with_record o b s)
  go (inl same) =
      let known_is : h.known ≡ r = some_injective h.known r (sym h.is ∙ ap (record_of o) (sym same) ∙ is) in
      record {
        known = s;
        is = subst (λ q. record_of (with_record o b s) q ≡ Some s) same (record_of-with_record_same o b r s is);
        past = h.past;
        fenced = step (subst (FencedRecord id) known_is h.fenced);
      }
  go (inr other) = record { known = h.known; is = record_of-with_record_other o b block s other ∙ h.is; past = h.past; fenced = h.fenced }

-- a block became known
made : (id : ℕ) (block b : BlockId) (o : OfficeState) (s : BlockRecord) → record_of o b ≡ None → Fenced id block o → Fenced id block (with_new_record o b s)
made id block b o s absent h = go (same_or_other b block) where
  go : (b ≡ block) ⊎ (is_at (block_order block) b ≡ false) → Fenced id block (with_new_record o b s)
  go (inl same) = absurd (known_absent h.known (sym h.is ∙ ap (record_of o) (sym same) ∙ absent)) where
    known_absent : (k : BlockRecord) → Some k ≡ None → ⊥
    known_absent k e = cc
  go (inr other) = record { known = h.known; is = record_of-with_new_record_other o b block s other ∙ h.is; past = h.past; fenced = h.fenced }

-- ---- each step of a record

no_recovery : (found : Option Stamp) → found ≡ None → IsSome found → ⊥
no_recovery None e some = cc
no_recovery (Some id) e some = cc

if_none : (found : Option Stamp) (P : Stamp → Type 0) → found ≡ None → IfSome found P
if_none None P e = tt
if_none (Some id) P e = absurd (cc)

-- a writer's call passes only where one of the recoveries was committed
was_committed : (id : ℕ) (r : BlockRecord) → IsWriters r → (id ≤ r.committed.0) ⊎ ((r.is_open ≡ true) × IsSome r.recovery) → id ≤ r.committed.0
was_committed id r writers (inl past) = past
was_committed id r writers (inr h) = absurd (no_recovery r.recovery writers.lease h.1)

shut_was_committed : (id : ℕ) (r : BlockRecord) → r.is_open ≡ false → (id ≤ r.committed.0) ⊎ ((r.is_open ≡ true) × IsSome r.recovery) → id ≤ r.committed.0
shut_was_committed id r shut (inl past) = past
shut_was_committed id r shut (inr h) = absurd (cc)

latest_is_later : (id : ℕ) (found : Option Stamp) (s : Stamp) → IfSome found (λ latest. id ≤ latest.0) → is_stamp found s ≡ true → id ≤ s.0
latest_is_later id None s later e = absurd (cc)
latest_is_later id (Some latest) s later e = grind (arith, nat_tests)

begun_fence : (id : ℕ) (r : BlockRecord) (next : Stamp) → r.is_open ≡ true → (id ≤ r.committed.0) ⊎ ((r.is_open ≡ true) × IsSome r.recovery) → (id ≤ r.committed.0) ⊎ ((r.is_open ≡ true) × IsSome (Some next))
begun_fence id r next is_open f = inr (is_open, refl)

pub fenced_after : (id : ℕ) (block : BlockId) (o : OfficeState) (c : OfficeCall) → Fenced id block o → Fenced id block (office_after o c)
fenced_after id block o c h =
    each_case o (λ _ step. Fenced id block (state_after o step)) (record {
      refused = λ c e. h;
      created = λ b members is. made id block b (stamp_given o) (opened members o.next) is (given id block o h);
      appended = λ b r is shut short. stepped id block b (stamp_given o) r (record r { is_open = true; recovery = None }) is (λ f. record { later = tt; fence = inl (shut_was_committed id r shut f.fence) }) (given id block o h);
      stamped = λ b r is writers. stepped id block b (stamp_given o) r r is (λ f. f) (given id block o h);
      committed = λ b stamp members r is writers new. stepped id block b o r (record r { committed = stamp; members = members }) is (λ f. record { later = f.later; fence = inl (let past = was_committed id r writers f.fence in grind (arith, nat_tests)) }) h;
      completed = λ b stamp bytes r is writers new. stepped id block b o r (record r { is_open = false; length = bytes }) is (λ f. record { later = f.later; fence = inl (was_committed id r writers f.fence) }) h;
      begun = λ b r is is_open. stepped id block b (stamp_given o) r (record r { recovery = Some o.next }) is (λ f. record { later = let p = h.past in omega arith; fence = inr (is_open, refl) }) (given id block o h);
      synced = λ b s bytes members r is is_open latest. stepped id block b o r (record r { is_open = false; committed = s; members = members; length = bytes }) is (λ f. record { later = f.later; fence = inl (latest_is_later id r.recovery s f.later latest) }) h;
    }) c

pub fenced_run : (id : ℕ) (block : BlockId) (o : OfficeState) (calls : List OfficeCall) → Fenced id block o → Fenced id block (run o calls)
fenced_run id block o [] h = h
fenced_run id block o (c ∷ calls) h = fenced_run id block (office_after o c) calls (fenced_after id block o c h)

-- ---- the beginning

begins : (block : BlockId) (b : Begun) (o : OfficeState) (c : BlockId) (r : BlockRecord) → record_of o c ≡ Some r → r.is_open ≡ true → c ≡ block → record { id = o.next; committed = r.committed } ≡ b → Fenced b.id.0 block (with_record (stamp_given o) c (record r { recovery = Some o.next }))
begins block b o c r is is_open same told =
    let id_is : o.next.0 ≡ b.id.0 = ap (λ (x : Begun). x.id.0) told in
    let s = record r { recovery = Some o.next } in
    record {
      known = s;
      is = subst (λ q. record_of (with_record (stamp_given o) c s) q ≡ Some s) same (record_of-with_record_same (stamp_given o) c r s is);
      past = omega arith;
      fenced = record { later = omega arith; fence = inr (is_open, refl) };
    }

same_begin : (b c : BlockId) → call.BeginRecovery b ≡ call.BeginRecovery c → b ≡ c
same_begin b c e = cc

told_begun : (r : Result OfficeAnswer OfficeFault) (x b : Begun) → r ≡ Ok (answer.Begun x) → r ≡ Ok (answer.Begun b) → x ≡ b
told_begun r x b here there = cc

pub begun_is_fenced : (o : OfficeState) (block : BlockId) (b : Begun) → answer_to o (call.BeginRecovery block) ≡ Ok (answer.Begun b) → Fenced b.id.0 block (office_after o (call.BeginRecovery block))
begun_is_fenced o block b e =
    each_case o (λ c step. c ≡ call.BeginRecovery block → reply step ≡ Ok (answer.Begun b) → Fenced b.id.0 block (state_after o step)) (record {
      refused = λ c x same told. absurd (cc);
      created = λ d members is same told. absurd (cc);
      appended = λ d r is shut short same told. absurd (cc);
      stamped = λ d r is writers same told. absurd (cc);
      committed = λ d stamp members r is writers new same told. absurd (cc);
      completed = λ d stamp bytes r is writers new same told. absurd (cc);
      begun = λ d r is is_open same told. begins block b o d r is is_open (same_begin d block same) (told_begun _ (record { id = o.next; committed = r.committed }) b refl told);
      synced = λ d id bytes members r is is_open latest same told. absurd (cc);
    }) (call.BeginRecovery block) refl e

-- ---- the writer is refused

same_commit : (b c : BlockId) (s t : Stamp) (m n : List NodeId) → call.Commit b s m ≡ call.Commit c t n → (b ≡ c) × (s ≡ t)
same_commit b c s t m n e = (cc, cc)

same_complete : (b c : BlockId) (s t : Stamp) (m n : ℕ) → call.Complete b s m ≡ call.Complete c t n → (b ≡ c) × (s ≡ t)
same_complete b c s t m n e = (cc, cc)

-- what a writer's call finds is above every stamp that was given before
found_past : (id : ℕ) (block b : BlockId) (o : OfficeState) (r : BlockRecord) → Fenced id block o → b ≡ block → record_of o b ≡ Some r → IsWriters r → id ≤ r.committed.0
found_past id block b o r h same is writers =
    let known_is : h.known ≡ r = some_injective h.known r (sym h.is ∙ ap (record_of o) (sym same) ∙ is) in
    was_committed id r writers (subst (FencedRecord id) known_is h.fenced).fence

no_commit : (id : ℕ) (committed s t : Stamp) → id ≤ committed.0 → s ≡ t → t.0 < id → nat_lt committed.0 s.0 ≡ true → ⊥
no_commit id committed s t past same old new = let e = ap (λ (x : Stamp). x.0) same in grind (arith, nat_tests)

no_complete : (id : ℕ) (committed s t : Stamp) → id ≤ committed.0 → s ≡ t → t.0 < id → nat_le committed.0 s.0 ≡ true → ⊥
no_complete id committed s t past same old new = let e = ap (λ (x : Stamp). x.0) same in grind (arith, nat_tests)

commit_refused : (id : ℕ) (block : BlockId) (o : OfficeState) (stamp : Stamp) (members : List NodeId) → stamp.0 < id → Fenced id block o → IsErr (answer_to o (call.Commit block stamp members))
commit_refused id block o stamp members old h =
    each_case o (λ c step. c ≡ call.Commit block stamp members → IsErr (reply step)) (record {
      refused = λ c x same. refl;
      created = λ d m is same. absurd (cc);
      appended = λ d r is shut short same. absurd (cc);
      stamped = λ d r is writers same. absurd (cc);
      committed = λ d s m r is writers new same.
          let parts = same_commit d block s stamp m members same in
          absurd (no_commit id r.committed s stamp (found_past id block d o r h parts.0 is writers) parts.1 old new);
      completed = λ d s bytes r is writers new same. absurd (cc);
      begun = λ d r is is_open same. absurd (cc);
      synced = λ d s bytes m r is is_open latest same. absurd (cc);
    }) (call.Commit block stamp members) refl

complete_refused : (id : ℕ) (block : BlockId) (o : OfficeState) (stamp : Stamp) (bytes : ℕ) → stamp.0 < id → Fenced id block o → IsErr (answer_to o (call.Complete block stamp bytes))
complete_refused id block o stamp bytes old h =
    each_case o (λ c step. c ≡ call.Complete block stamp bytes → IsErr (reply step)) (record {
      refused = λ c x same. refl;
      created = λ d m is same. absurd (cc);
      appended = λ d r is shut short same. absurd (cc);
      stamped = λ d r is writers same. absurd (cc);
      committed = λ d s m r is writers new same. absurd (cc);
      completed = λ d s n r is writers new same.
          let parts = same_complete d block s stamp n bytes same in
          absurd (no_complete id r.committed s stamp (found_past id block d o r h parts.0 is writers) parts.1 old new);
      begun = λ d r is is_open same. absurd (cc);
      synced = λ d s n m r is is_open latest same. absurd (cc);
    }) (call.Complete block stamp bytes) refl

pub lease_stays_lost : (o : OfficeState) (block : BlockId) (begun : Begun) (calls : List OfficeCall) (stamp : Stamp) → answer_to o (call.BeginRecovery block) ≡ Ok (answer.Begun begun) → stamp.0 < begun.id.0 → RefusesWriter (run (office_after o (call.BeginRecovery block)) calls) block stamp
lease_stays_lost o block begun calls stamp told old =
    let later = office_after o (call.BeginRecovery block) in
    let h = fenced_run begun.id.0 block later calls (begun_is_fenced o block begun told) in
    record {
      commit = λ members. commit_refused begun.id.0 block (run later calls) stamp members old h;
      complete = λ bytes. complete_refused begun.id.0 block (run later calls) stamp bytes old h;
    }

-- A read at a replica, by what its book answers.
use Rattle.std.proofs.Common.{◌≡◌, ℕ, Bool, true, false, not, if◌then◌else◌, Option, Some, None, Result, Ok, Err, inl, inr, refl, sym, ap, subst, ◌∙◌}
use Rattle.std.specs.Prelude.{IsOk}
use Rattle.hd_base.specs.Results.{◌>>=◌}
use Rattle.hd_base.specs.SumRules.{Rule, IsChunkSize}
use Rattle.hd_base.specs.declared.files.Files as files
use Rattle.hd_base.specs.declared.links.LinkOut as link_out
use Rattle.hd_base.specs.declared.numbers.Receipt.{Receipt}
use Rattle.hd_base.specs.declared.numbers.Stamp.{Stamp}
use Rattle.op_headers.specs.declared.ops.ReadOp.{ReadOp}
use Rattle.replica_core.specs.declared.events.Answer.TheVariants as answer
use Rattle.replica_core.specs.declared.events.Event.{Event}
use Rattle.replica_core.specs.declared.events.Event.TheVariants as event
use Rattle.replica_core.specs.declared.info.ReplicaInfo.{ReplicaInfo}
use Rattle.replica_core.specs.declared.records.ReplicaRecord.{ReplicaRecord}
use Rattle.replica_core.specs.declared.refusals.Refusal.{Refusal}
use Rattle.replica_core.specs.declared.refusals.Refusal.TheVariants as core_refusal
use Rattle.replica_core.specs.Refusals.{check}
use Rattle.replica_core.specs.Info.{visible_of, readable}
use Rattle.replica_core.specs.Transitions.{Outcome, reply, answer_of, there, transition, answer_to}
use Rattle.replica_core.specs.Views.{rule_in}
use Rattle.read_core.specs.ReplicaModel.Rows.{FullReplica}
use Rattle.read_core.specs.ReplicaModel.ReplicaEvent.TheVariants as replica_event
use Rattle.pipe_turns.specs.ReplicaFiles.BookState.{BookState}
use Rattle.pipe_turns.specs.ReplicaFiles.BookFault.{BookFault}
use Rattle.pipe_turns.specs.ReplicaFiles.BookFault.TheVariants as fault
use Rattle.pipe_turns.specs.ReplicaFiles.Books.{replica_of, IsBookOf}
use Rattle.pipe_turns.specs.ReplicaFiles.Endings.{BookEnds}
use Rattle.request_refusals.specs.declared.refusals.RequestRefusal.{RequestRefusal}
use Rattle.request_refusals.specs.declared.refusals.RequestRefusal.TheVariants as refusal
use Rattle.request_refusals.specs.Pools.{is_in_pool}
use Rattle.read_core.specs.Servings.{ServingState, begun, begun_as, begun_at, read_at, read_event, piece_len, piece_as}
use Rattle.visible_read.specs.declared.answering.Took.{Took}
use Rattle.visible_read.specs.Laws.{FollowsAt}
use Rattle.visible_read.specs.Sound.{IsNext}
use Rattle.link_pieces.specs.Pieces.{SendsNothing}
use Rattle.pipe_turns.proofs.StillLemmas.{unmade}
use Rattle.visible_read.specs.declared.answering.Course.TheVariants as course
use Rattle.visible_read.specs.Answers.{IsAsked, Asks, Tells, TellsIf, Answers, Refuses, wanting, begun_with, receipt_in}
use Rattle.visible_read.proofs.SendingLaws.{tells_if_after}

-- a read that is begun has its first packet next
pub begun-next : (op : ReadOp) (rule : Rule) (visible : ℕ) → IsChunkSize rule.chunk → IsNext (begun op rule visible)
unfolding begun
begun-next op rule visible h = record { chunk = h; sending = refl }

-- a read that isn't refused before is booked as it is asked
pub in-pool : (op : ReadOp) (e : Event) → read_event op ≡ Ok e → IsAsked op
unfolding read_event
in-pool op e h = go (is_in_pool op.block) h
  where
    go : (b : Bool) → (if b then Ok (event.Read op.block.stamp op.offset op.len) else Err refusal.Pool) ≡ Ok e → (if b then Ok (event.Read op.block.stamp op.offset op.len) else Err refusal.Pool) ≡ Ok (event.Read op.block.stamp op.offset op.len)
    go true h = refl
    go false h = cc

at-asked : (op : ReadOp) (r : FullReplica) → IsAsked op → read_at op r ≡ begun_as op (rule_in r.known) (answer_to r.known (event.Read op.block.stamp op.offset op.len))
at-asked op r h = ap (begun_at op r) h

-- ---- what the book answers

module _ {F O : Type 0} (f : files.Ghosts F) (o : link_out.Ghosts O) where
  pub asks : (op : ReadOp) (book book' : BookState F) (booked : Result Receipt BookFault) → IsAsked op
      → BookEnds f book book' (replica_event.Other (event.Read op.block.stamp op.offset op.len)) booked → Asks f (read_event op) book book' (Some booked)
  asks op book book' booked h ends = subst (λ x. Asks f x book book' (Some booked)) (sym h) ends

  -- what was booked is answered as it is at the replica
  pub answers : (op : ReadOp) (book book' : BookState F) (out mid out' : O) (took : Took) (booked : Result Receipt BookFault)
      (k : ReplicaRecord) (x : Result ServingState RequestRefusal) → IsAsked op
      → BookEnds f book book' (replica_event.Other (event.Read op.block.stamp op.offset op.len)) booked
      → k ≡ book.replica → IsBookOf f book → x ≡ begun_as op (rule_in k) (answer_to k (event.Read op.block.stamp op.offset op.len))
      → SendsNothing o out mid → TellsIf o (begun_with x booked) (receipt_in (Some booked)) mid out' took → Answers f o op book book' out out' took
  answers op book book' out mid out' took booked k x h ends is held begun quiet tells = record {
    booked = Some booked;
    asks = asks op book book' booked h ends;
    tells = subst (λ y. TellsIf o (begun_with y booked) (receipt_in (Some booked)) out out' took)
        (begun ∙ (ap (λ c. begun_as op (rule_in c) (answer_to c (event.Read op.block.stamp op.offset op.len))) (is ∙ held.known) ∙ sym (at-asked op (replica_of book) h)))
        (tells_if_after o (begun_with x booked) (receipt_in (Some booked)) out mid out' took quiet tells);
  }

  -- memory ran out before
  pub wants-asked : (op : ReadOp) (book : BookState F) (out out' : O) (took : Took) → IsAsked op → SendsNothing o out out' → took ≡ wanting course.Asked → Answers f o op book book out out' took
  wants-asked op book out out' took h quiet is = record { booked = Some (Err fault.Memory); asks = asks op book book (Err fault.Memory) h (unmade f book); tells = (is, quiet) }

  -- a read that isn't booked
  pub refuses : (op : ReadOp) (why : RequestRefusal) (book : BookState F) (out out' : O) (took : Took) → read_event op ≡ Err why → Refuses o why out out' took → Answers f o op book book out out' took
  refuses op why book out out' took h (inl tells) = record {
    booked = None;
    asks = subst (λ x. Asks f x book book None) (sym h) refl;
    tells = subst (λ x. Tells o x None out out' took) (sym (ap (begun_at op (replica_of book)) h)) tells;
  }
  refuses op why book out out' took h (inr want) = record {
    booked = Some (Err fault.Memory);
    asks = subst (λ x. Asks f x book book (Some (Err fault.Memory))) (sym h) refl;
    tells = want;
  }

-- ---- a packet that is taken

abbrev IsTaken : Outcome → Type 0
IsTaken x = IsOk x

visible_read : (c : ReplicaRecord) (h : ReplicaInfo) (x : Result ℕ Refusal)
    → IsTaken (x >>= (λ u. Ok (record { replica = c; answer = answer.Visible u }))) → (v : ℕ) × (answer_of (reply (x >>= (λ u. Ok (record { replica = c; answer = answer.Visible u })))) ≡ answer.Visible v)
visible_read c h (Ok u) ok = (u, refl)
visible_read c h (Err e) ok = cc

present_read : (c : ReplicaRecord) (named : Stamp) (offset n : ℕ) (broken : Bool) (i : Option ReplicaInfo) →
    IsTaken (check (not broken) core_refusal.Broken (there i) >>= (λ h. readable h (visible_of h) named offset n >>= (λ u. Ok (record { replica = c; answer = answer.Visible u }))))
    → (v : ℕ) × (answer_of (reply (check (not broken) core_refusal.Broken (there i) >>= (λ h. readable h (visible_of h) named offset n >>= (λ u. Ok (record { replica = c; answer = answer.Visible u }))))) ≡ answer.Visible v)
present_read c named offset n true i ok = cc
present_read c named offset n false None ok = cc
present_read c named offset n false (Some h) ok = visible_read c h (readable h (visible_of h) named offset n) ok

sees : (c : ReplicaRecord) (named : Stamp) (offset n : ℕ) → IsOk (transition c (event.Read named offset n)) → (v : ℕ) × (answer_to c (event.Read named offset n) ≡ answer.Visible v)
unfolding transition
sees c named offset n ok = present_read c named offset n c.is_broken c.info ok

-- what is sent of a read is what it is at the replica
pub follows : (s : ServingState) (r : FullReplica) → FollowsAt s r
follows s r = record {
  taken = λ ok. ap (piece_as s r) (sees r.known s.named s.at (piece_len s) ok).1;
  refused = λ e refused. ap (λ x. piece_as s r (answer_of (reply x))) refused;
}

-- What the office's answers make of the lengths of closed blocks.
use Rattle.std.proofs.Common.{◌≡◌, ℕ, ◌⊎◌, inl, inr, true, false, List, length, Option, Some, None, IfSome, refl, sym, ◌∙◌, ap, subst}
use Rattle.std.proofs.lemmas.Bool.{false≢true}
use Rattle.std.specs.BTreeMap.{is_at}
use Rattle.hd_base.specs.declared.numbers.BlockId.{BlockId}
use Rattle.name_core.specs.declared.calls.OfficeAnswer.{OfficeAnswer}
use Rattle.name_core.specs.declared.calls.OfficeCall.{OfficeCall}
use Rattle.name_core.specs.declared.calls.OfficeCall.TheVariants as call
use Rattle.name_core.specs.declared.records.BlockRecord.{BlockRecord}
use Rattle.name_core.specs.Offices.{OfficeState, block_order, record_of, with_record, with_new_record, stamp_given, office_case}
use Rattle.name_core.specs.Records.{opened}
use Rattle.name_core.specs.Steps.{Step, state_after}
use Rattle.name_core.proofs.BlockLemmas.{same_or_other, record_of-with_record_same, record_of-with_record_other, record_of-with_new_record_same, record_of-with_new_record_other}
use Rattle.name_core.proofs.CaseLemmas.{each_case}
use Rattle.packet_stream.specs.Streams.{written_in}
use Rattle.writer_core.specs.declared.phases.Phase.{Phase}
use Rattle.writer_core.specs.declared.phases.Phase.TheVariants as phase
use Rattle.writer_core.specs.declared.records.WriterRecord.{WriterRecord}
use Rattle.world.specs.Worlds.{World}
use Rattle.world_laws.specs.Stamping.{Givens, IsOfLatest, InPhase, Entries, HeldOf, heard}
use Rattle.world_laws.specs.Carrying.{StreamOf, Streams, WriterSays}
use Rattle.world_laws.proofs.ByteLeaves.{Facts}
use Rattle.world_finals.specs.Finishing.{Ids, writes_no_more, Completes, ClosedLength, EntryEnds, Finals}
use Rattle.world_finals.proofs.Frame.{Stays, closed-stays, entries-stay}

-- WRITERS THAT COMPLETE

-- what a writer completes its block with
pub finished-completes : (g : Givens) (w : World) (b : ℕ) (r : BlockRecord) → Facts g w → (heard (w.writers b)).phase ≡ phase.Finished → record_of w.office (record { 0 = b }) ≡ Some r
    → Completes g w b r.committed.0 (written_in (heard (w.writers b)).stream)
finished-completes g w b r a e is = record {
  ends = record {
    session = w.latest b;
    given = v.office.committed ∙ ap (λ (n : ℕ). Some n) (v.writer.rooted known);
    shut = record { is = inr (ap writes_no_more e) };
    length = sym stream.carries.whole ∙ ap (λ (xs : List ℕ). length xs) (says.are v.office.begins);
  };
  last = λ t d q _. v.office.within t d q;
}
  where
    x : WriterRecord
    x = heard (w.writers b)

    says : WriterSays g w.past b (w.latest b) (w.writers b)
    says = a.carried.writers b

    v : Entries (g b) (w.latest b) r (heard (w.writers b))
    v = subst (λ (o : Option BlockRecord). HeldOf (g b) (w.latest b) o (heard (w.writers b))) is (a.recorded.blocks b)

    known : IsOfLatest (g b) (w.latest b) (heard (w.writers b)).committed
    known = (subst (λ (p : Phase). InPhase (g b) (w.latest b) r.recovery x.committed x.waiting x.stream.unacked p) e v.writer.fits).session

    stream : StreamOf says.own (heard (w.writers b)).stream
    stream = subst (λ (p : Phase). Streams says.own x.stream p) e says.streams

-- RECORDS

-- what a call closes a block with
abbrev pub Closes : Ids → Givens → World → OfficeCall → Type 0
Closes f g w (call.Complete b stamp bytes) = (r : BlockRecord) → record_of w.office b ≡ Some r → ClosedLength f g w b.0 r.committed.0 bytes
Closes f g w (call.CommitSync b id bytes members) = ClosedLength f g w b.0 id.0 bytes
Closes f g w _ = Unit {0}

abbrev pub EntriesEnd : Ids → Givens → World → OfficeState → Type 0
EntriesEnd f g w o = (q : BlockId) → IfSome (record_of o q) (EntryEnds f g w q.0)

-- a block that is open
open-entry : (f : Ids) (g : Givens) (w : World) (b : ℕ) (r : BlockRecord) → r.is_open ≡ true → EntryEnds f g w b r
open-entry f g w b r t = record { closed = λ q. absurd (false≢true (sym q ∙ t)) }

-- where one record changes to another
with-entries : (f : Ids) (g : Givens) (w : World) (o from : OfficeState) (block : BlockId) (r k : BlockRecord) → record_of from block ≡ Some r → ((p : BlockId) → record_of from p ≡ record_of o p) → EntriesEnd f g w o → EntryEnds f g w block.0 k
    → EntriesEnd f g w (with_record from block k)
with-entries f g w o from block r k is alike old new q = go (same_or_other block q)
  where
    go : (block ≡ q) ⊎ (is_at (block_order q) block ≡ false) → IfSome (record_of (with_record from block k) q) (EntryEnds f g w q.0)
    go (inl e) = subst (λ (p : BlockId). IfSome (record_of (with_record from block k) p) (EntryEnds f g w p.0)) e
        (subst (λ (z : Option BlockRecord). IfSome z (EntryEnds f g w block.0)) (sym (record_of-with_record_same from block r k is)) new)
    go (inr other) = subst (λ (z : Option BlockRecord). IfSome z (EntryEnds f g w q.0)) (sym (record_of-with_record_other from block q k other ∙ alike q)) (old q)

-- where a block becomes known
with-new-entries : (f : Ids) (g : Givens) (w : World) (o from : OfficeState) (block : BlockId) (k : BlockRecord) → ((p : BlockId) → record_of from p ≡ record_of o p) → EntriesEnd f g w o → EntryEnds f g w block.0 k
    → EntriesEnd f g w (with_new_record from block k)
with-new-entries f g w o from block k alike old new q = go (same_or_other block q)
  where
    go : (block ≡ q) ⊎ (is_at (block_order q) block ≡ false) → IfSome (record_of (with_new_record from block k) q) (EntryEnds f g w q.0)
    go (inl e) = subst (λ (p : BlockId). IfSome (record_of (with_new_record from block k) p) (EntryEnds f g w p.0)) e
        (subst (λ (z : Option BlockRecord). IfSome z (EntryEnds f g w block.0)) (sym (record_of-with_new_record_same from block k)) new)
    go (inr other) = subst (λ (z : Option BlockRecord). IfSome z (EntryEnds f g w q.0)) (sym (record_of-with_new_record_other from block q k other ∙ alike q)) (old q)

abbrev EntriesBy : Ids → Givens → World → Ids → Givens → World → OfficeCall → Step OfficeState OfficeAnswer → Type 0
EntriesBy f g w e l v c s = Closes f g w c → EntriesEnd e l v (state_after w.office s)

pub entries-by : (f : Ids) (g : Givens) (w : World) (e : Ids) (l : Givens) (v : World) → Stays f g w e l v → Finals f g w → (c : OfficeCall) → EntriesBy f g w e l v c (office_case w.office c)
entries-by f g w e l v s h c = each_case w.office (EntriesBy f g w e l v) (record {
  refused = λ d x. λ p. old;
  created = λ block members none. λ p. with-new-entries e l v w.office (stamp_given w.office) block (opened members w.office.next) (λ _. refl) old (open-entry e l v block.0 (opened members w.office.next) refl);
  appended = λ block r is shut short. λ p.
      let k : BlockRecord = record r { is_open = true; recovery = None } in with-entries e l v w.office (stamp_given w.office) block r k is (λ _. refl) old (open-entry e l v block.0 k refl);
  stamped = λ block r is writers. λ p. with-entries e l v w.office (stamp_given w.office) block r r is (λ _. refl) old (open-entry e l v block.0 r writers.is_open);
  committed = λ block stamp members r is writers new. λ p.
      let k : BlockRecord = record r { committed = stamp; members = members } in with-entries e l v w.office w.office block r k is (λ _. refl) old (open-entry e l v block.0 k writers.is_open);
  completed = λ block stamp bytes r is writers new. λ p.
      let k : BlockRecord = record r { is_open = false; length = bytes } in with-entries e l v w.office w.office block r k is (λ _. refl) old (record { closed = λ _. closed-stays f g w e l v block.0 r.committed.0 bytes s (p r is) });
  begun = λ block r is is_open. λ p.
      let k : BlockRecord = record r { recovery = Some w.office.next } in with-entries e l v w.office (stamp_given w.office) block r k is (λ _. refl) old (open-entry e l v block.0 k is_open);
  synced = λ block id bytes members r is is_open latest. λ p.
      let k : BlockRecord = record r { is_open = false; committed = id; members = members; length = bytes } in
      with-entries e l v w.office w.office block r k is (λ _. refl) old (record { closed = λ _. closed-stays f g w e l v block.0 id.0 bytes s p });
}) c
  where
    old : EntriesEnd e l v w.office
    old q = entries-stay f g w e l v w.office s refl h.entries q.0

-- What an answer of the office makes of what is held of its block.
use Rattle.std.proofs.Common.{◌≡◌, ℕ, ◌≤◌, ◌⊎◌, inl, inr, true, false, List, [], length, take, Option, Some, None, IfSome, Ok, Err, refl, sym, ◌∙◌, ap, subst, arith}
use Rattle.std.specs.Prelude.{nat_le}
use Rattle.std.proofs.lemmas.Bool.{false≢true}
use Rattle.std.proofs.lemmas.Option.{none-some, same_Some}
use Rattle.std.proofs.lemmas.List.{length-take-le, take-take}
use Rattle.hd_base.specs.declared.numbers.NodeId.{NodeId}
use Rattle.hd_base.specs.declared.numbers.Stamp.{Stamp}
use Rattle.name_core.specs.declared.calls.OfficeAnswer.TheVariants as office
use Rattle.name_core.specs.declared.faults.OfficeFault.{OfficeFault}
use Rattle.name_core.specs.declared.faults.OfficeFault.TheVariants as fault
use Rattle.name_core.specs.declared.records.BlockRecord.{BlockRecord}
use Rattle.name_core.specs.declared.records.TheConstants.{MAX_APPEND_LENGTH}
use Rattle.name_core.specs.Records.{opened}
use Rattle.name_core.proofs.CaseLemmas.{IsWriters}
use Rattle.world.specs.PacketStream.Carried.{Carries}
use Rattle.world.specs.PacketStream.Streams.{StreamState, begun, written_in}
use Rattle.world.proofs.PacketStream.CarryLemmas.{begun_carries}
use Rattle.world.proofs.PacketStream.StreamLemmas.{begun_written}
use Rattle.world.specs.ReplicaModel.Found.{IsFront}
use Rattle.world.specs.WriterCore.Phase.{Phase}
use Rattle.world.specs.WriterCore.Phase.TheVariants as phase
use Rattle.world.specs.WriterCore.Setup.{Setup}
use Rattle.world.specs.WriterCore.Setup.TheVariants as setup
use Rattle.world.specs.WriterCore.WriterRecord.{WriterRecord}
use Rattle.world.specs.WriterCore.Requests.{min_length}
use Rattle.world.specs.WriterCore.Transitions.{granted, refused, asks, phase_committed}
use Rattle.world.specs.Worlds.{Past, put}
use Rattle.world_laws.proofs.FactTables.{if-each}
use Rattle.world_laws.proofs.OfficeSteps.{IsAgain, IsLater}
use Rattle.world_laws.specs.Stamping.{Wanting, InPhase, OfficeEntry, WriterEntry, Entries}
use Rattle.world_laws.proofs.StampGivens.{put-here, put-old, put-new, Below, low-high}
use Rattle.world_laws.proofs.StampGranting.{back, granted-create, granted-append, granted-again, granted-commit, granted-complete}
use Rattle.world_laws.specs.Carrying.{Shares, Passing, StreamOf, Streams, kind_of, Asks, EntrySays}
use Rattle.world_laws.proofs.Fronts.{front-refl, front-take, front-length, front-takes}

-- WHAT IS HELD

-- a writer of a block with these stamps, this latest session and this past
pub record OwnSays (f : ℕ → Option ℕ) (p : Past) (l : ℕ) (y : WriterRecord) : Type 0 where
  pub queue : y.queue ≡ []
  pub own : List ℕ
  pub are : f l ≡ Some l → own ≡ p.written l
  pub streams : Streams own y.stream y.phase
  pub asks : Asks f p l y.committed y.stream y.phase

-- and what the office has of the block
pub record BlockSays (f : ℕ → Option ℕ) (p : Past) (l : ℕ) (o : Option BlockRecord) (y : WriterRecord) : Type 0 where
  pub writer : OwnSays f p l y
  pub entry : IfSome o (EntrySays f p l)

true-false : true ≡ false → ⊥
true-false e = false≢true (sym e)

at-phase : (v : List ℕ) (s : StreamState) (p q : Phase) → p ≡ q → Streams v s p → Streams v s q
at-phase v s p q e k = subst (λ (r : Phase). Streams v s r) e k

-- the front of a session that is the same one
front-same : (p : Past) (l e : ℕ) → l ≡ e → IsFront (p.written l) (p.written e)
front-same p l e q = subst (λ (m : ℕ). IsFront (p.written l) (p.written m)) q (front-refl (p.written l))

-- A CREATE

pub created-says : (f : ℕ → Option ℕ) (p : Past) (n : ℕ) (members : List NodeId) (x : WriterRecord) → p.written n ≡ [] → x.phase ≡ phase.Wanted setup.Create → x.queue ≡ []
    → BlockSays (put f n (Some n)) p n (Some (opened members (record { 0 = n }))) (granted x (Ok (office.Stamp (record { 0 = n }))))
created-says f p n members x empty at none =
    rw (granted-create x (record { 0 = n }) at) (record {
      writer = record {
        queue = none;
        own = [];
        are = λ _. sym empty;
        streams = record { carries = begun_carries x.stream.rule []; pieces = λ i q e. absurd (none-some q e) };
        asks = record { given = put-here f n (Some n); created = λ _. refl; passes = λ t e k low high. tt };
      };
      entry = record {
        front = λ e k. front-same p n e (same_Some n e (sym (put-here f n (Some n)) ∙ k));
        length = λ c. absurd (true-false c);
      };
    })

-- AN APPEND

-- the bytes that a session begins with
base-shares : (h p : Past) (base n k : ℕ) → k ≤ length (h.written base) → p.written base ≡ h.written base → p.written n ≡ take k (h.written base) → Shares p base n k
base-shares h p base n k le old new = record {
  same = ap (λ (v : List ℕ). take k v) old ∙ sym (take-take k k (h.written base) (omega arith)) ∙ ap (λ (v : List ℕ). take k v) (sym new);
  within = omega (arith, le, ap (λ (v : List ℕ). length v) old);
  inside = omega (arith, length-take-le k (h.written base) le, ap (λ (v : List ℕ). length v) new);
}

pub appended-says : (f : ℕ → Option ℕ) (h p : Past) (n l base : ℕ) (r : BlockRecord) (x : WriterRecord) → Below f n → r.is_open ≡ false → nat_le r.length MAX_APPEND_LENGTH ≡ true → x.phase ≡ phase.Wanted setup.Append → x.queue ≡ []
    → OfficeEntry f l base r → EntrySays f h l r → p.written base ≡ h.written base → p.written n ≡ take r.length (h.written base)
    → BlockSays (put f n (Some n)) p n (Some (record r { is_open = true; recovery = None })) (granted x (Ok (office.Reopened (record { committed = r.committed; length = r.length; new = record { 0 = n } }))))
appended-says f h p n l base r x b shut short at none o e old new =
    let le : r.length ≤ length (h.written base) = e.length shut base o.committed in
    let size : length (take r.length (h.written base)) ≡ r.length = length-take-le r.length (h.written base) le in
    let w : written_in (begun x.stream.rule r.length) ≡ r.length = begun_written x.stream.rule r.length in
    rw (granted-append x (record { committed = r.committed; length = r.length; new = record { 0 = n } }) at short) (record {
      writer = record {
        queue = none;
        own = take r.length (h.written base);
        are = λ _. sym new;
        streams = record {
          carries = subst (λ (k : ℕ). Carries (take r.length (h.written base)) (begun x.stream.rule k)) size (begun_carries x.stream.rule (take r.length (h.written base)));
          pieces = λ i q z. absurd (none-some q z);
        };
        asks = record {
          given = put-here f n (Some n);
          created = λ z. absurd (not-create z);
          passes = put-new (λ (t e : ℕ). r.committed.0 ≤ t → t ≤ n → (e ≡ n) ⊎ Shares p e n (written_in (begun x.stream.rule r.length))) f n n (λ _ _. inl refl)
              (λ t d k low _. inr (rw w (subst (λ (m : ℕ). Shares p m n r.length) (sym (only t d k low)) (base-shares h p base n r.length le old new))));
        };
      };
      entry = record {
        front = λ d k. subst (λ (m : ℕ). IsFront (p.written n) (p.written m)) (same_Some base d (sym (put-old f n n r.committed.0 base b o.committed) ∙ k))
            (subst (λ (v : List ℕ). IsFront v (p.written base)) (sym new) (subst (λ (v : List ℕ). IsFront (take r.length (h.written base)) v) (sym old) (front-take r.length (h.written base))));
        length = λ c. absurd (true-false c);
      };
    })
  where
    not-create : setup.Append ≡ setup.Create → ⊥
    not-create z = cc

    only : (t d : ℕ) → f t ≡ Some d → r.committed.0 ≤ t → d ≡ base
    only t d k low =
        let same : t ≡ r.committed.0 = omega (arith, o.closed shut t d k, low) in
        same_Some d base (sym k ∙ ap f same ∙ o.committed)

-- A SETUP AGAIN

again-streams : (v : List ℕ) (s : StreamState) (way : Setup) → IsAgain way → Streams v s (phase.Wanted way) → StreamOf v s
again-streams v s setup.Create a k = absurd a
again-streams v s setup.Append a k = absurd a
again-streams v s setup.AppendRecovery a k = k
again-streams v s setup.StreamRecovery a k = k
again-streams v s setup.CloseRecovery a k = k

not-created : (way : Setup) → IsAgain way → way ≡ setup.Create → ⊥
not-created setup.Create a e = a
not-created setup.Append a e = a
not-created setup.AppendRecovery a e = cc
not-created setup.StreamRecovery a e = cc
not-created setup.CloseRecovery a e = cc

-- in the recovery of an append: what stands under the committed stamp has the bytes of the latest session before others
recovery-passes : (f : ℕ → Option ℕ) (h p : Past) (l base : ℕ) (r : BlockRecord) (v : List ℕ) (s : StreamState) → IsWriters r → OfficeEntry f l base r → EntrySays f h l r → StreamOf v s → v ≡ h.written l
    → p.written l ≡ h.written l → p.written base ≡ h.written base → (t e : ℕ) → f t ≡ Some e → r.committed.0 ≤ t → (e ≡ l) ⊎ Shares p e l (written_in s)
recovery-passes f h p l base r v s w o e k own same old t d q low = low-high ((d ≡ l) ⊎ Shares p d l (written_in s)) t r.committed.0 at (λ high. inl (o.free w.is_open w.lease t d q high))
  where
    size : written_in s ≡ length (h.written l)
    size = sym k.carries.whole ∙ ap (λ (x : List ℕ). length x) own

    front : IsFront (h.written l) (h.written base)
    front = e.front base o.committed

    shares : Shares p base l (written_in s)
    shares = record {
      same = ap (λ (x : List ℕ). take (written_in s) x) old ∙ sym (front-takes (written_in s) (h.written l) (h.written base) front (omega (arith, size))) ∙ ap (λ (x : List ℕ). take (written_in s) x) (sym same);
      within = omega (arith, size, front-length (h.written l) (h.written base) front, ap (λ (x : List ℕ). length x) old);
      inside = omega (arith, size, ap (λ (x : List ℕ). length x) same);
    }

    at : t ≤ r.committed.0 → (d ≡ l) ⊎ Shares p d l (written_in s)
    at le =
        let same-stamp : t ≡ r.committed.0 = omega (arith, le, low) in
        inr (subst (λ (m : ℕ). Shares p m l (written_in s)) (sym (same_Some d base (sym q ∙ ap f same-stamp ∙ o.committed))) shares)

-- in a session that is committed, all stamps from the committed one on are its own
rooted-passes : (f : ℕ → Option ℕ) (l base : ℕ) (r : BlockRecord) → OfficeEntry f l base r → base ≡ l → (t e : ℕ) → f t ≡ Some e → r.committed.0 ≤ t → e ≡ l
rooted-passes f l base r o root t e q low = o.whole root t e q (omega (arith, o.before r.committed.0 base o.committed, root, low))

way-passes : (f : ℕ → Option ℕ) (h p : Past) (l base : ℕ) (r : BlockRecord) (x : WriterRecord) (v : List ℕ) (way : Setup) → IsAgain way → IsWriters r → OfficeEntry f l base r → WriterEntry f l base r x → EntrySays f h l r → StreamOf v x.stream
    → v ≡ h.written l → p.written l ≡ h.written l → p.written base ≡ h.written base → Wanting f l x.committed x.waiting x.stream.unacked way
    → (t e : ℕ) → f t ≡ Some e → r.committed.0 ≤ t → Passing (Some (kind_of way)) p e l (min_length way x.stream)
way-passes f h p l base r x v setup.Create a w o u e k own same old z t d q low = absurd a
way-passes f h p l base r x v setup.Append a w o u e k own same old z t d q low = absurd a
way-passes f h p l base r x v setup.AppendRecovery a w o u e k own same old z t d q low = recovery-passes f h p l base r v x.stream w o e k own same old t d q low
way-passes f h p l base r x v setup.StreamRecovery a w o u e k own same old z t d q low = rooted-passes f l base r o (u.rooted z.0) t d q low
way-passes f h p l base r x v setup.CloseRecovery a w o u e k own same old z t d q low = inl (rooted-passes f l base r o (u.rooted z) t d q low)

-- the new stamp is of the latest session
new-passes : (p : Past) (l n : ℕ) (way : Setup) → IsAgain way → Passing (Some (kind_of way)) p l l n
new-passes p l n setup.Create a = absurd a
new-passes p l n setup.Append a = absurd a
new-passes p l n setup.AppendRecovery a = inl refl
new-passes p l n setup.StreamRecovery a = refl
new-passes p l n setup.CloseRecovery a = inl refl

-- an entry that stays
pub entry-stays : (f g : ℕ → Option ℕ) (h p : Past) (l base : ℕ) (r k : BlockRecord) → k.committed ≡ r.committed → k.is_open ≡ r.is_open → k.length ≡ r.length → ((e : ℕ) → g r.committed.0 ≡ Some e → f r.committed.0 ≡ Some e)
    → f r.committed.0 ≡ Some base → p.written l ≡ h.written l → p.written base ≡ h.written base → EntrySays f h l r → EntrySays g p l k
entry-stays f g h p l base r k c o n back at same old e = record {
  front = λ d q. go d (at-base d q);
  length = λ shut d q. subst (λ (m : ℕ). k.length ≤ length (p.written m)) (sym (at-base d q)) (omega (arith, n, e.length (sym o ∙ shut) base at, ap (λ (x : List ℕ). length x) old));
}
  where
    at-base : (d : ℕ) → g k.committed.0 ≡ Some d → d ≡ base
    at-base d q = same_Some d base (sym (back d (ap (λ (s : Stamp). g s.0) (sym c) ∙ q)) ∙ at)

    go : (d : ℕ) → d ≡ base → IsFront (p.written l) (p.written d)
    go d q = subst (λ (m : ℕ). IsFront (p.written l) (p.written m)) (sym q)
        (subst (λ (v : List ℕ). IsFront v (p.written base)) (sym same) (subst (λ (v : List ℕ). IsFront (h.written l) v) (sym old) (e.front base at)))

pub stamped-says : (f : ℕ → Option ℕ) (h p : Past) (n l : ℕ) (r : BlockRecord) (x : WriterRecord) (way : Setup) (v : Entries f l r x) → Below f n → IsWriters r → x.committed ≡ r.committed → x.phase ≡ phase.Wanted way → IsAgain way
    → OwnSays f h l x → EntrySays f h l r → p.written l ≡ h.written l → p.written v.base ≡ h.written v.base
    → BlockSays (put f n (Some l)) p l (Some r) (granted x (Ok (office.Stamp (record { 0 = n }))))
stamped-says f h p n l r x way v b w named at again own e same old =
    let base = v.base in
    let o = v.office in
    let k = again-streams own.own x.stream way again (at-phase own.own x.stream x.phase (phase.Wanted way) at own.streams) in
    let z = subst (λ (q : Phase). InPhase f l r.recovery x.committed x.waiting x.stream.unacked q) at v.writer.fits in
    rw (granted-again x (record { 0 = n }) way at again) (record {
      writer = record {
        queue = own.queue;
        own = own.own;
        are = λ _. own.are o.begins ∙ sym same;
        streams = k;
        asks = record {
          given = put-here f n (Some l);
          created = λ c. absurd (not-created way again c);
          passes = put-new (λ (t e : ℕ). x.committed.0 ≤ t → t ≤ n → Passing (Some (kind_of way)) p e l (min_length way x.stream)) f n l (λ _ _. new-passes p l (min_length way x.stream) way again)
              (λ t d q low _. way-passes f h p l base r x own.own way again w o v.writer e k (own.are o.begins) same old z t d q (subst (λ (s : Stamp). s.0 ≤ t) named low));
        };
      };
      entry = entry-stays f (put f n (Some l)) h p l base r r refl refl refl (λ d q. ap (λ (m : Option ℕ). m) (o.committed ∙ sym (put-old f n l r.committed.0 base b o.committed) ∙ q)) o.committed same old e;
    })

-- A COMMIT

committed-streams : (v : List ℕ) (s : StreamState) (way : Setup) → IsLater way → StreamOf v s → Streams v s (phase_committed way)
committed-streams v s setup.Create a k = absurd a
committed-streams v s setup.Append a k = k
committed-streams v s setup.AppendRecovery a k = k
committed-streams v s setup.StreamRecovery a k = k
committed-streams v s setup.CloseRecovery a k = k

committed-asks : (f : ℕ → Option ℕ) (p : Past) (l : ℕ) (c : Stamp) (s : StreamState) (way : Setup) → Asks f p l c s (phase_committed way)
committed-asks f p l c s setup.Create = tt
committed-asks f p l c s setup.Append = tt
committed-asks f p l c s setup.AppendRecovery = tt
committed-asks f p l c s setup.StreamRecovery = tt
committed-asks f p l c s setup.CloseRecovery = tt

pub committed-says : (f : ℕ → Option ℕ) (h p : Past) (l : ℕ) (r : BlockRecord) (x : WriterRecord) (t : Stamp) (members : List NodeId) (way : Setup) (v : Entries f l r x) → IsWriters r → x.phase ≡ phase.Accepted way t → IsLater way
    → OwnSays f h l x → p.written l ≡ h.written l
    → BlockSays f p l (Some (record r { committed = t; members = members })) (granted x (Ok office.Nothing))
committed-says f h p l r x t members way v w at later own same =
    let k = at-phase own.own x.stream x.phase (phase.Accepted way t) at own.streams in
    let z = subst (λ (q : Phase). InPhase f l r.recovery x.committed x.waiting x.stream.unacked q) at v.writer.fits in
    rw (granted-commit x t way at later) (record {
      writer = record {
        queue = own.queue;
        own = own.own;
        are = λ q. own.are q ∙ sym same;
        streams = committed-streams own.own x.stream way later k;
        asks = committed-asks f p l t x.stream way;
      };
      entry = record {
        front = λ e q. front-same p l e (same_Some l e (sym z.0.session.is ∙ q));
        length = λ c. absurd (true-false (sym w.is_open ∙ c));
      };
    })

-- A COMPLETION

pub completed-says : (f : ℕ → Option ℕ) (h p : Past) (l : ℕ) (r : BlockRecord) (x : WriterRecord) (bytes : ℕ) (v : Entries f l r x) → IsWriters r → x.committed ≡ r.committed → x.phase ≡ phase.Finished → bytes ≡ written_in x.stream
    → OwnSays f h l x → p.written l ≡ h.written l
    → BlockSays f p l (Some (record r { is_open = false; length = bytes })) (granted x (Ok office.Nothing))
completed-says f h p l r x bytes v w named at size own same =
    let k = at-phase own.own x.stream x.phase phase.Finished at own.streams in
    let z = subst (λ (q : Phase). InPhase f l r.recovery x.committed x.waiting x.stream.unacked q) at v.writer.fits in
    let latest : (e : ℕ) → f r.committed.0 ≡ Some e → l ≡ e = λ e q. same_Some l e (sym z.session.is ∙ ap (λ (s : Stamp). f s.0) named ∙ q) in
    let whole : bytes ≡ length (p.written l) = size ∙ sym k.carries.whole ∙ ap (λ (u : List ℕ). length u) (own.are v.office.begins ∙ sym same) in
    rw (granted-complete x at) (record {
      writer = record { queue = own.queue; own = own.own; are = λ q. own.are q ∙ sym same; streams = k; asks = tt };
      entry = record {
        front = λ e q. front-same p l e (latest e q);
        length = λ _ e q. subst (λ (m : ℕ). bytes ≤ length (p.written m)) (latest e q) (omega (arith, whole));
      };
    })

-- A REFUSAL

failed-own : (f : ℕ → Option ℕ) (p : Past) (l : ℕ) (x : WriterRecord) (e : OfficeFault) → OwnSays f p l x → OwnSays f p l (refused x e)
failed-own f p l x fault.Known k = record { queue = k.queue; own = k.own; are = k.are; streams = tt; asks = tt }
failed-own f p l x fault.Unknown k = record { queue = k.queue; own = k.own; are = k.are; streams = tt; asks = tt }
failed-own f p l x fault.NotOpen k = record { queue = k.queue; own = k.own; are = k.are; streams = tt; asks = tt }
failed-own f p l x fault.NotClosed k = record { queue = k.queue; own = k.own; are = k.are; streams = tt; asks = tt }
failed-own f p l x (fault.LeaseLost recovery) k = record { queue = k.queue; own = k.own; are = k.are; streams = tt; asks = tt }
failed-own f p l x (fault.OldStamp committed) k = record { queue = k.queue; own = k.own; are = k.are; streams = tt; asks = tt }
failed-own f p l x (fault.OldRecovery latest) k = record { queue = k.queue; own = k.own; are = k.are; streams = tt; asks = tt }
failed-own f p l x (fault.TooLong bytes) k = record { queue = k.queue; own = k.own; are = k.are; streams = tt; asks = tt }
failed-own f p l x fault.Memory k = k

pub refused-own : (f : ℕ → Option ℕ) (p : Past) (l : ℕ) (x : WriterRecord) (e : OfficeFault) → OwnSays f p l x → OwnSays f p l (granted x (Err e))
unfolding granted
refused-own f p l x e k = if-each (OwnSays f p l) (asks x.phase) (refused x e) x (λ _. failed-own f p l x e k) (λ _. k)

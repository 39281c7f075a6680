-- How the office's answers begin sessions.
use Rattle.std.proofs.Common.{◌≡◌, ℕ, ◌<◌, ◌≤◌, true, List, [], ◌++◌, length, Option, Some, None, IfSome, Ok, Err, refl, sym, ◌∙◌, ap, subst, arith}
use Rattle.std.specs.Prelude.{◌==◌}
use Rattle.std.proofs.lemmas.Bool.{eqb-false, false≢true}
use Rattle.std.proofs.lemmas.List.{length-take-le}
use Rattle.std.proofs.lemmas.Option.{none-some}
use Rattle.hd_base.specs.declared.numbers.Stamp.{Stamp}
use Rattle.name_core.specs.declared.calls.OfficeAnswer.{OfficeAnswer}
use Rattle.name_core.specs.declared.calls.OfficeAnswer.TheVariants as office
use Rattle.name_core.specs.declared.calls.OfficeCall.{OfficeCall}
use Rattle.name_core.specs.declared.calls.OfficeCall.TheVariants as call
use Rattle.name_core.specs.declared.calls.Reopened.{Reopened}
use Rattle.name_core.specs.declared.faults.OfficeFault.{OfficeFault}
use Rattle.name_core.specs.declared.faults.OfficeFault.TheVariants as fault
use Rattle.name_core.specs.declared.records.BlockRecord.{BlockRecord}
use Rattle.name_core.specs.Offices.{OfficeState, record_of, office_case}
use Rattle.name_core.specs.Steps.{Step, reply}
use Rattle.name_core.proofs.CaseLemmas.{each_case}
use Rattle.writer_core.specs.declared.phases.Failure.{Failure}
use Rattle.writer_core.specs.declared.phases.Phase.TheVariants as phase
use Rattle.writer_core.specs.declared.phases.Setup.{Setup}
use Rattle.writer_core.specs.declared.phases.Setup.TheVariants as setup
use Rattle.writer_core.specs.declared.records.WriterRecord.{WriterRecord}
use Rattle.writer_core.specs.Transitions.{phase_committed, granted, refused, asks}
use Rattle.world.specs.Worlds.{World, Stamped, put, add, latest_with}
use Rattle.world.specs.Primaries.{stamped_by, base_of, session_begun}
use Rattle.world_laws.specs.Stamping.{Givens, given_with, Entries, HeldOf}
use Rattle.world_laws.proofs.FactTables.{if-each}
use Rattle.world_laws.proofs.OfficeSteps.{IsAgain, AsksAs, block_in}
use Rattle.world_laws.proofs.Sessions.{refused-stamp}
use Rattle.world_laws.proofs.StampGranting.{granted-create, granted-append, granted-again, granted-commit, granted-complete}
use Rattle.world_laws.proofs.StampGivens.{put-here}
use Rattle.world_laws.proofs.StampRecording.{given-each}
use Rattle.world_laws.specs.Carrying.{EntrySays}
use Rattle.world_laws.proofs.ByteLeaves.{Facts}
use Rattle.world_recoveries.specs.Naming.{IsBefore}
use Rattle.world_finals.specs.Finishing.{Ids, EntryEnds, SessionBegins, first_session, begins_behind, has_packets, AcksFrom, Finals}
use Rattle.world_finals.proofs.Frame.{Stays, closed-stays, begins-more, acks-stays}

-- What a session begins with that a stamp begins: so many bytes are written in it, and acked at the writer.
pub record Begun (f : Ids) (g : Givens) (w : World) (z : Stamped) (acked : ℕ) : Type 0 where
  pub least : ℕ
  pub begins : SessionBegins f g w z.block z.stamp least
  pub written : least ≤ length (w.written z.stamp)
  pub acked_so : least ≤ acked

abbrev pub BegunAs : Ids → Givens → World → ℕ → Stamped → Type 0
BegunAs f g w acked z = z.session ≡ z.stamp → Begun f g w z acked

-- what is written after an answer
abbrev pub Wrote : World → OfficeCall → Step OfficeState OfficeAnswer → World → Type 0
Wrote w c s v = (n : ℕ) → v.written n ≡ add w.written (session_begun (stamped_by w c (reply s))) (base_of w (reply s)) n

abbrev BegunBy : Ids → Givens → World → World → OfficeCall → Step OfficeState OfficeAnswer → Type 0
BegunBy f g w v c s = (x : WriterRecord) → AsksAs x c → HeldOf (g (block_in c).0) (w.latest (block_in c).0) (record_of w.office (block_in c)) x → Stays f g w f (given_with g (stamped_by w c (reply s))) v → Wrote w c s v
    → IfSome (stamped_by w c (reply s)) (BegunAs f (given_with g (stamped_by w c (reply s))) v (granted x (reply s)).stream.acked)

-- the new session's bytes
added-new : (f : ℕ → List ℕ) (n : ℕ) (xs : List ℕ) → f n ≡ [] → add f n xs n ≡ xs
added-new f n xs e = if-each (λ (v : List ℕ). v ≡ xs) (n == n) (f n ++ xs) (f n) (λ _. ap (λ (v : List ℕ). v ++ xs) e) (λ q. absurd (eqb-false n n q refl))

-- a block that becomes known
created-begins : (f : Ids) (g : Givens) (w v : World) (b n : ℕ) → ((t : ℕ) → g b t ≡ None) → SessionBegins f (given_with g (Some (record { block = b; stamp = n; session = n; latest = n }))) v b n 0
created-begins f g w v b n gone = first_session (λ t d q.
    given-each (λ (c t d : ℕ). c ≡ b → n ≤ t) g (Some (record { block = b; stamp = n; session = n; latest = n })) (λ _. omega arith)
    (λ c t d q i. absurd (none-some d (sym (gone t) ∙ subst (λ (m : ℕ). g m t ≡ Some d) i q))) b t d q refl)

-- a block that is opened again
appended-before : (g : Givens) (b n base committed : ℕ) → g b committed ≡ Some base → committed < n → ((t d : ℕ) → g b t ≡ Some d → t ≤ committed) → ((t d : ℕ) → g b t ≡ Some d → given_with g (Some (record { block = b; stamp = n; session = n; latest = n })) b t ≡ Some d)
    → IsBefore (given_with g (Some (record { block = b; stamp = n; session = n; latest = n })) b) committed n
appended-before g b n base committed is less closed same = record {
  base = base;
  is = same committed base is;
  less = less;
  last = λ t d q lt.
      given-each (λ (c t d : ℕ). c ≡ b → t < n → t ≤ committed) g (Some (record { block = b; stamp = n; session = n; latest = n })) (λ _ z. absurd (omega (arith, z)))
      (λ c t d q i _. closed t d (subst (λ (m : ℕ). g m t ≡ Some d) i q)) b t d q refl lt;
}

held-record : (f : ℕ → Option ℕ) (l : ℕ) (o : Option BlockRecord) (r : BlockRecord) (x : WriterRecord) → o ≡ Some r → HeldOf f l o x → Entries f l r x
held-record f l o r x e h = subst (λ (z : Option BlockRecord). HeldOf f l z x) e h

pub begun-by : (f : Ids) (g : Givens) (w v : World) → Finals f g w → Facts g w → (c : OfficeCall) → BegunBy f g w v c (office_case w.office c)
begun-by f g w v h a c = each_case w.office (BegunBy f g w v) (record {
  refused = λ d e. λ x asks held s wrote.
      subst (λ (o : Option Stamped). IfSome o (BegunAs f (given_with g o) v (granted x (Err e)).stream.acked)) (sym (refused-stamp w d e)) tt;
  created = λ block members none. λ x asks held s wrote. λ _.
      let gone : HeldOf (g block.0) (w.latest block.0) None x = subst (λ (z : Option BlockRecord). HeldOf (g block.0) (w.latest block.0) z x) none held in
      record { least = 0; begins = created-begins f g w v block.0 w.office.next.0 gone.1; written = omega arith; acked_so = omega arith };
  appended = λ block r is shut short. λ x asks held s wrote. λ _.
      let y = held-record (g block.0) (w.latest block.0) (record_of w.office block) r x is held in
      let n = w.office.next.0 in
      let k : Reopened = record { committed = r.committed; length = r.length; new = w.office.next } in
      let ends : EntryEnds f g w block.0 r = subst (λ (z : Option BlockRecord). IfSome z (EntryEnds f g w block.0)) is (h.entries block.0) in
      let says : EntrySays (g block.0) w.past (w.latest block.0) r = subst (λ (z : Option BlockRecord). IfSome z (EntrySays (g block.0) w.past (w.latest block.0))) is (a.carried.entries block.0) in
      let base : w.session_of r.committed.0 ≡ y.base = a.recorded.session block.0 r.committed.0 y.base y.office.committed in
      let fits : r.length ≤ length (w.written (w.session_of r.committed.0)) = subst (λ (m : ℕ). r.length ≤ length (w.written m)) (sym base) (says.length shut y.base y.office.committed) in
      let size : length (v.written n) ≡ r.length = ap (λ (xs : List ℕ). length xs) (wrote n ∙ added-new w.written n _ (a.unused n (omega arith))) ∙ length-take-le r.length (w.written (w.session_of r.committed.0)) fits in
      record {
        least = r.length;
        begins = begins_behind r.committed.0 r.length (appended-before g block.0 n y.base r.committed.0 y.office.committed (a.recorded.below block.0 r.committed.0 y.base y.office.committed) (y.office.closed shut) (s.same block.0))
            (closed-stays f g w f _ v block.0 r.committed.0 r.length s (ends.closed shut)) (omega arith);
        written = omega (arith, size);
        acked_so = subst (λ (z : WriterRecord). r.length ≤ z.stream.acked) (sym (granted-append x k asks.at short)) (omega arith);
      };
  stamped = λ block r is writers. λ x asks held s wrote. λ e.
      let y = held-record (g block.0) (w.latest block.0) (record_of w.office block) r x is held in
      absurd (omega (arith, e, a.recorded.below block.0 (w.latest block.0) (w.latest block.0) y.office.begins));
  committed = λ block stamp members r is writers new. λ x asks held s wrote. tt;
  completed = λ block stamp bytes r is writers new. λ x asks held s wrote. tt;
  begun = λ block r is is_open. λ x asks held s wrote. absurd asks;
  synced = λ block id bytes members r is is_open latest. λ x asks held s wrote. absurd asks;
}) c

-- WHAT THE WRITER HAS ACKED

-- a writer that goes on in its session
record Goes (x y : WriterRecord) : Type 0 where
  pub acks : has_packets y.phase ≡ true → (has_packets x.phase ≡ true) × (x.stream.acked ≤ y.stream.acked)
  pub creates : (t : Stamp) → y.phase ≡ phase.Stamped setup.Create t → x.phase ≡ phase.Stamped setup.Create t

goes-same : (x : WriterRecord) → Goes x x
goes-same x = record { acks = λ q. (q, omega arith); creates = λ t q. q }

goes-failed : (x : WriterRecord) (d : Failure) → Goes x (record x { phase = phase.Failed d })
goes-failed x d = record { acks = λ q. absurd (false≢true q); creates = λ t q. absurd (cc) }

-- a session that began with nothing
begins-none : (f : Ids) (g : Givens) (w : World) (b e n : ℕ) → n ≤ 0 → SessionBegins f g w b e n → SessionBegins f g w b e 0
begins-none f g w b e n le h = subst (λ (m : ℕ). SessionBegins f g w b e m) (none n le) h
  where
    none : (n : ℕ) → n ≤ 0 → n ≡ 0
    none n le = omega (arith, le)

refused-acks : (x : WriterRecord) (e : OfficeFault) → Goes x (refused x e)
refused-acks x fault.Memory = goes-same x
refused-acks x (fault.LeaseLost r) = goes-failed x _
refused-acks x fault.Known = goes-failed x _
refused-acks x fault.Unknown = goes-failed x _
refused-acks x fault.NotOpen = goes-failed x _
refused-acks x fault.NotClosed = goes-failed x _
refused-acks x (fault.OldStamp s) = goes-failed x _
refused-acks x (fault.OldRecovery s) = goes-failed x _
refused-acks x (fault.TooLong n) = goes-failed x _

refusal-acks : (x : WriterRecord) (e : OfficeFault) → Goes x (granted x (Err e))
unfolding granted
refusal-acks x e = if-each (λ (y : WriterRecord). Goes x y) (asks x.phase) (refused x e) x (λ _. refused-acks x e) (λ _. goes-same x)

again-packets : (way : Setup) → IsAgain way → has_packets (phase.Wanted way) ≡ true
again-packets setup.Create a = absurd a
again-packets setup.Append a = absurd a
again-packets setup.AppendRecovery a = refl
again-packets setup.StreamRecovery a = refl
again-packets setup.CloseRecovery a = refl

again-unlike : (way : Setup) (s t : Stamp) → IsAgain way → phase.Stamped way s ≡ phase.Stamped setup.Create t → ⊥
again-unlike setup.Create s t a e = a
again-unlike setup.Append s t a e = a
again-unlike setup.AppendRecovery s t a e = cc
again-unlike setup.StreamRecovery s t a e = cc
again-unlike setup.CloseRecovery s t a e = cc

later-unlike : (way : Setup) (t : Stamp) → phase_committed way ≡ phase.Stamped setup.Create t → ⊥
later-unlike setup.Create t e = cc
later-unlike setup.Append t e = cc
later-unlike setup.AppendRecovery t e = cc
later-unlike setup.StreamRecovery t e = cc
later-unlike setup.CloseRecovery t e = cc

append-unlike : (s t : Stamp) → phase.Stamped setup.Append s ≡ phase.Stamped setup.Create t → ⊥
append-unlike s t e = cc

completed-unlike : (t : Stamp) → phase.Completed ≡ phase.Stamped setup.Create t → ⊥
completed-unlike t e = cc

-- the next stamp begins a session
own-given : (g : Givens) (b n : ℕ) → given_with g (Some (record { block = b; stamp = n; session = n; latest = n })) b n ≡ Some n
own-given g b n = ap (λ (h : ℕ → Option ℕ). h n) (put-here g b (put (g b) n (Some n))) ∙ put-here (g b) n (Some n)

abbrev AcksBy : Ids → Givens → World → World → OfficeCall → Step OfficeState OfficeAnswer → Type 0
AcksBy f g w v c s = (x : WriterRecord) → AsksAs x c → Stays f g w f (given_with g (stamped_by w c (reply s))) v → IfSome (stamped_by w c (reply s)) (BegunAs f (given_with g (stamped_by w c (reply s))) v (granted x (reply s)).stream.acked)
    → AcksFrom f g w (block_in c).0 (w.latest (block_in c).0) x → AcksFrom f (given_with g (stamped_by w c (reply s))) v (block_in c).0 (latest_with w.latest (stamped_by w c (reply s)) (block_in c).0) (granted x (reply s))

goes-acks : (f : Ids) (g : Givens) (w : World) (b n : ℕ) (x y : WriterRecord) → Goes x y → AcksFrom f g w b n x → AcksFrom f g w b n y
goes-acks f g w b n x y k h = record {
  begins = λ q. let u = k.acks q in let z = h.begins u.0 in (z.0, begins-more f g w b n x.stream.acked y.stream.acked u.1 z.1);
  first = λ t q. h.first t (k.creates t q);
}

pub acks-by : (f : Ids) (g : Givens) (w v : World) (c : OfficeCall) → AcksBy f g w v c (office_case w.office c)
acks-by f g w v c = each_case w.office (AcksBy f g w v) (record {
  refused = λ d e. λ x asks s new h.
      let b = (block_in d).0 in
      subst (λ (o : Option Stamped). Stays f g w f (given_with g o) v → AcksFrom f (given_with g o) v b (latest_with w.latest o b) (granted x (Err e))) (sym (refused-stamp w d e))
      (λ k. acks-stays f g w f g v b (w.latest b) (granted x (Err e)) k (goes-acks f g w b (w.latest b) x (granted x (Err e)) (refusal-acks x e) h)) s;
  created = λ block members none. λ x asks s new h.
      let n = w.office.next.0 in
      let k = new refl in
      let y = granted x (Ok (office.Stamp w.office.next)) in
      subst (λ (m : ℕ). AcksFrom f (given_with g (stamped_by w (call.Create block members) (Ok (office.Stamp w.office.next)))) v block.0 m y) (sym (put-here w.latest block.0 n)) (record {
        begins = λ _. (own-given g block.0 n, begins-more f _ v block.0 n k.least y.stream.acked k.acked_so k.begins);
        first = λ _ _. begins-none f _ v block.0 n k.least (omega (arith, k.acked_so, ap (λ (z : WriterRecord). z.stream.acked) (granted-create x w.office.next asks.at))) k.begins;
      });
  appended = λ block r is shut short. λ x asks s new h.
      let n = w.office.next.0 in
      let k = new refl in
      let i : Reopened = record { committed = r.committed; length = r.length; new = w.office.next } in
      let y = granted x (Ok (office.Reopened i)) in
      subst (λ (m : ℕ). AcksFrom f (given_with g (stamped_by w (call.Append block) (Ok (office.Reopened i)))) v block.0 m y) (sym (put-here w.latest block.0 n)) (record {
        begins = λ _. (own-given g block.0 n, begins-more f _ v block.0 n k.least y.stream.acked k.acked_so k.begins);
        first = λ t q. absurd (append-unlike w.office.next t (sym (ap (λ (z : WriterRecord). z.phase) (granted-append x i asks.at short)) ∙ q));
      });
  stamped = λ block r is writers. λ x asks s new h.
      let y = granted-again x w.office.next asks.way asks.at asks.again in
      let l = given_with g (stamped_by w (call.NewStamp block) (Ok (office.Stamp w.office.next))) in
      let z = acks-stays f g w f l v block.0 (w.latest block.0) x s h in
      subst (λ (m : ℕ). AcksFrom f l v block.0 m (granted x (Ok (office.Stamp w.office.next)))) (sym (put-here w.latest block.0 (w.latest block.0)))
      (subst (λ (u : WriterRecord). AcksFrom f l v block.0 (w.latest block.0) u) (sym y) (record {
        begins = λ _. z.begins (ap has_packets asks.at ∙ again-packets asks.way asks.again);
        first = λ t q. absurd (again-unlike asks.way w.office.next t asks.again q);
      }));
  committed = λ block stamp members r is writers new. λ x asks s begins h.
      let z = acks-stays f g w f g v block.0 (w.latest block.0) x s h in
      subst (λ (u : WriterRecord). AcksFrom f g v block.0 (w.latest block.0) u) (sym (granted-commit x stamp asks.way asks.at asks.later)) (record {
        begins = λ _. z.begins (ap has_packets asks.at);
        first = λ t q. absurd (later-unlike asks.way t q);
      });
  completed = λ block stamp bytes r is writers new. λ x asks s begins h.
      subst (λ (u : WriterRecord). AcksFrom f g v block.0 (w.latest block.0) u) (sym (granted-complete x asks.at)) (record { begins = λ q. absurd (false≢true q); first = λ t q. absurd (completed-unlike t q) });
  begun = λ block r is is_open. λ x asks s new h. absurd asks;
  synced = λ block id bytes members r is is_open latest. λ x asks s new h. absurd asks;
}) c

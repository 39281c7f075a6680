-- The stamps that the office gives to writers: what writers know fits these alone, whatever recoveries begin.
use Rattle.std.proofs.Common.{◌≡◌, ℕ, ◌<◌, ◌≤◌, inl, Option, Some, None, IfSome, Ok, Err, refl, sym, ◌∙◌, ap, subst, arith}
use Rattle.hd_base.specs.declared.numbers.BlockId.{BlockId}
use Rattle.name_core.specs.declared.calls.OfficeAnswer.{OfficeAnswer}
use Rattle.name_core.specs.declared.calls.OfficeAnswer.TheVariants as office
use Rattle.name_core.specs.declared.calls.OfficeCall.{OfficeCall}
use Rattle.name_core.specs.declared.calls.OfficeCall.TheVariants as call
use Rattle.name_core.specs.Offices.{OfficeState, office_case}
use Rattle.name_core.specs.Steps.{Step, reply}
use Rattle.name_core.proofs.CaseLemmas.{each_case}
use Rattle.writer_core.specs.declared.phases.Phase.TheVariants as phase
use Rattle.writer_core.specs.declared.phases.Setup.TheVariants as setup
use Rattle.writer_core.specs.declared.records.WriterRecord.{WriterRecord}
use Rattle.writer_core.specs.Transitions.{begin_session, granted}
use Rattle.world.specs.Parts.{Writing}
use Rattle.world.specs.Worlds.{World, Change, Stamped, put, sessions_with, latest_with}
use Rattle.world.specs.Primaries.{stamp_of, stamped_by}
use Rattle.world_laws.proofs.FactTables.{put-each}
use Rattle.world_laws.specs.Stamping.{Givens, given_with, Fits, heard}
use Rattle.world_laws.proofs.OfficeSteps.{AsksAs}
use Rattle.world_laws.proofs.StampGivens.{put-here, put-old, put-new, Below}
use Rattle.world_laws.proofs.StampMoves.{no-last-nil}
use Rattle.world_laws.proofs.StampGranting.{back, granted-create, granted-append, granted-again, granted-commit, granted-complete, refusal-fits, at-phase, again-setting, committed-fits}
use Rattle.world_laws.proofs.Sessions.{refused-stamp}
use Rattle.world_laws.proofs.StampRecording.{Quietly}
use Rattle.world_writers.specs.Taking.{Joins}
use Rattle.world_writers.proofs.Lifting.{Lifts, Begun, AnswerFits, Lifted}

-- what a change makes of the stamps that were given to writers
pub record Sets (w : World) (k : Change) (h : Givens) : Type 0 where
  pub setups : Givens
  pub keeps : (b t e : ℕ) → h b t ≡ Some e → setups b t ≡ Some e
  pub lifts : (b : ℕ) → Begun w b k.stamped (heard (w.writers b)) (heard (put w.writers k.writer_at k.writer b))
  pub sessions : (b t e : ℕ) → setups b t ≡ Some e → sessions_with w.session_of k.stamped t ≡ e
  pub early : (b t e : ℕ) → setups b t ≡ Some e → e < k.office.next.0
  pub late : (b : ℕ) → latest_with w.latest k.stamped b < k.office.next.0
  pub within : (b t e : ℕ) → setups b t ≡ Some e → e ≤ latest_with w.latest k.stamped b
  pub order : (b t u e d : ℕ) → setups b t ≡ Some e → setups b u ≡ Some d → t ≤ u → e ≤ d
  pub answers : IfSome k.answered (AnswerFits w)
  pub fits : (b : ℕ) → Fits (setups b) (latest_with w.latest k.stamped b) None (heard (put w.writers k.writer_at k.writer b))
  pub under : (b t e : ℕ) → setups b t ≡ Some e → t < k.office.next.0

-- none is given
pub quiet-sets : (w : World) (k : Change) (j : Joins w) → Quietly w k → Lifted w k → Sets w k j.setups
quiet-sets w k j q l = record {
  setups = h;
  keeps = λ b t e x. x;
  lifts = λ b. subst (λ (o : Option Stamped). Begun w b o (heard (w.writers b)) (heard (put w.writers k.writer_at k.writer b))) (sym q.stamped)
      (inl (refl, put-each (λ (d : ℕ) (y : Writing). Lifts (heard (w.writers d)) (heard y)) w.writers k.writer_at k.writer l.acked (λ d. omega arith) b));
  sessions = λ b t e x. subst (λ (o : Option Stamped). sessions_with w.session_of o t ≡ e) (sym q.stamped) (j.sessions b t e x);
  early = λ b t e x. subst (λ (o : OfficeState). e < o.next.0) (sym q.office) (j.early b t e x);
  late = λ b. subst (λ (o : Option Stamped). latest_with w.latest o b < k.office.next.0) (sym q.stamped) (subst (λ (o : OfficeState). w.latest b < o.next.0) (sym q.office) (j.late b));
  within = λ b t e x. subst (λ (o : Option Stamped). e ≤ latest_with w.latest o b) (sym q.stamped) (j.within b t e x);
  order = j.order;
  answers = l.answers;
  fits = λ b. subst (λ (o : Option Stamped). Fits (h b) (latest_with w.latest o b) None (heard (put w.writers k.writer_at k.writer b))) (sym q.stamped)
      (put-each (λ (d : ℕ) (y : Writing). Fits (h d) (w.latest d) None (heard y)) w.writers k.writer_at k.writer
      (q.moved.goes.fits (h k.writer_at) (w.latest k.writer_at) None (j.fits k.writer_at)) j.fits b);
  under = λ b t e x. subst (λ (o : OfficeState). t < o.next.0) (sym q.office) (j.under b t e x);
}
  where
    h : Givens
    h = j.setups

-- WHAT THE OFFICE ANSWERS A WRITER

-- the writer fits the stamps with the one that it was given
abbrev pub Settled : World → ℕ → Givens → Option Stamped → WriterRecord → Type 0
Settled w b h o y = Fits (given_with h o b) (latest_with w.latest o b) None y

new-settled : (w : World) (b d n e l : ℕ) (h : Givens) (y : WriterRecord) → d ≡ b → Fits (put (h b) n (Some e)) l None y → Settled w b h (stamp_of d n e l) y
new-settled w b d n e l h y at x =
    subst (λ (i : ℕ). Settled w b h (stamp_of i n e l) y) (sym at)
    (subst (λ (f : ℕ → Option ℕ). Fits f (latest_with w.latest (stamp_of b n e l) b) None y) (sym (put-here h b (put (h b) n (Some e))))
    (subst (λ (i : ℕ). Fits (put (h b) n (Some e)) i None y) (sym (put-here w.latest b l)) x))

index-of : (b : ℕ) (block own : BlockId) → block ≡ own → own ≡ record { 0 = b } → block.0 ≡ b
index-of b block own e q = ap (λ (i : BlockId). i.0) (e ∙ q)

abbrev SettlesBy : World → ℕ → Givens → OfficeCall → Step OfficeState OfficeAnswer → Type 0
SettlesBy w b h c s = (x : WriterRecord) → AsksAs x c → x.block ≡ record { 0 = b } → Fits (h b) (w.latest b) None x → Below (h b) w.office.next.0 → Settled w b h (stamped_by w c (reply s)) (granted x (reply s))

pub settles-by : (w : World) (b : ℕ) (h : Givens) (c : OfficeCall) → SettlesBy w b h c (office_case w.office c)
settles-by w b h c = each_case w.office (SettlesBy w b h) (record {
  refused = λ d e. λ x a q k u. subst (λ (o : Option Stamped). Settled w b h o (granted x (Err e))) (sym (refused-stamp w d e)) (refusal-fits (h b) (w.latest b) None x e k);
  created = λ block members none. λ x a q k u.
      let n = w.office.next.0 in
      subst (λ (y : WriterRecord). Settled w b h (stamped_by w (call.Create block members) (Ok (office.Stamp w.office.next))) y) (sym (granted-create x w.office.next a.at))
      (new-settled w b block.0 n n n h (record (begin_session x w.office.next 0) { phase = phase.Stamped setup.Create w.office.next }) (index-of b block x.block a.block q) (
        record {
          session = record { is = put-here (h b) n (Some n) };
          newest = record { last = λ _. put-new (λ t e. t ≤ n) (h b) n n (omega arith) (λ t e z. omega (arith, u.below t e z)) };
        },
        (record { is = refl }, no-last-nil),
      ));
  appended = λ block r is shut short. λ x a q k u.
      let n = w.office.next.0 in
      subst (λ (y : WriterRecord). Settled w b h (stamped_by w (call.Append block) (Ok (office.Reopened (record { committed = r.committed; length = r.length; new = w.office.next })))) y)
      (sym (granted-append x (record { committed = r.committed; length = r.length; new = w.office.next }) a.at short))
      (new-settled w b block.0 n n n h (back x (record { committed = r.committed; length = r.length; new = w.office.next })) (index-of b block x.block a.block q) (
        record {
          session = record { is = put-here (h b) n (Some n) };
          newest = record { last = λ _. put-new (λ t e. t ≤ n) (h b) n n (omega arith) (λ t e z. omega (arith, u.below t e z)) };
        },
        (at-phase (h b) (w.latest b) None x (phase.Wanted setup.Append) a.at k, no-last-nil),
      ));
  stamped = λ block r is writers. λ x a q k u.
      let n = w.office.next.0 in
      let at = index-of b block x.block a.block q in
      subst (λ (y : WriterRecord). Settled w b h (stamped_by w (call.NewStamp block) (Ok (office.Stamp w.office.next))) y) (sym (granted-again x w.office.next a.way a.at a.again))
      (subst (λ (i : ℕ). Settled w b h (stamp_of block.0 n i i) (record x { phase = phase.Stamped a.way w.office.next })) (ap (λ (i : ℕ). w.latest i) (sym at))
      (new-settled w b block.0 n (w.latest b) (w.latest b) h (record x { phase = phase.Stamped a.way w.office.next }) at (
        record {
          session = record { is = put-here (h b) n (Some (w.latest b)) };
          newest = record { last = λ _. put-new (λ t e. t ≤ n) (h b) n (w.latest b) (omega arith) (λ t e z. omega (arith, u.below t e z)) };
        },
        again-setting (h b) (put (h b) n (Some (w.latest b))) (w.latest b) x w.office.next a.way a.again (λ s i. record { is = put-old (h b) n (w.latest b) s.0 (w.latest b) u i.is })
            (at-phase (h b) (w.latest b) None x (phase.Wanted a.way) a.at k),
      )));
  committed = λ block stamp members r is writers new. λ x a q k u.
      subst (λ (y : WriterRecord). Settled w b h None y) (sym (granted-commit x stamp a.way a.at a.later))
      (committed-fits (h b) (w.latest b) None x stamp a.way a.later (at-phase (h b) (w.latest b) None x (phase.Accepted a.way stamp) a.at k));
  completed = λ block stamp bytes r is writers new. λ x a q k u.
      subst (λ (y : WriterRecord). Settled w b h None y) (sym (granted-complete x a.at)) (at-phase (h b) (w.latest b) None x phase.Finished a.at k);
  begun = λ block r is is_open. λ x a q k u. absurd a;
  synced = λ block id bytes members r is is_open latest. λ x a q k u. absurd a;
}) c

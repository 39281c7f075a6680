-- What the office's answer to a writer makes of what both hold of its block.
use Rattle.std.proofs.Common.{◌≡◌, ℕ, ◌<◌, ◌≤◌, Bool, true, false, List, Option, Some, None, Ok, Err, refl, sym, ◌∙◌, subst, ap, arith}
use Rattle.std.specs.Prelude.{nat_le, if◌then◌else◌}
use Rattle.std.proofs.lemmas.Option.{none-some, same_Some}
use Rattle.hd_base.specs.declared.numbers.NodeId.{NodeId}
use Rattle.hd_base.specs.declared.numbers.Stamp.{Stamp}
use Rattle.name_core.specs.declared.calls.OfficeAnswer.{OfficeAnswer}
use Rattle.name_core.specs.declared.calls.OfficeAnswer.TheVariants as office
use Rattle.name_core.specs.declared.calls.Reopened.{Reopened}
use Rattle.name_core.specs.declared.faults.OfficeFault.{OfficeFault}
use Rattle.name_core.specs.declared.faults.OfficeFault.TheVariants as fault
use Rattle.name_core.specs.declared.records.BlockRecord.{BlockRecord}
use Rattle.name_core.specs.declared.records.TheConstants.{MAX_APPEND_LENGTH}
use Rattle.name_core.specs.Records.{opened}
use Rattle.name_core.proofs.CaseLemmas.{IsWriters}
use Rattle.world.specs.WriterCore.Phase.{Phase}
use Rattle.world.specs.WriterCore.Phase.TheVariants as phase
use Rattle.world.specs.WriterCore.Setup.{Setup}
use Rattle.world.specs.WriterCore.Setup.TheVariants as setup
use Rattle.world.specs.WriterCore.WriterRecord.{WriterRecord}
use Rattle.world.specs.WriterCore.Transitions.{begin_session, phase_committed, granted, granted_in, refused, asks}
use Rattle.world_laws.proofs.OfficeSteps.{IsAgain, IsLater}
use Rattle.world.specs.Worlds.{put}
use Rattle.world_laws.proofs.FactTables.{if-each}
use Rattle.world_laws.specs.Stamping.{IsOfLatest, IsSetup, Wanting, Setting, InPhase, Fits, Entries, HeldOf}
use Rattle.world_laws.proofs.StampGivens.{put-here, put-old, put-new, Below}
use Rattle.world_laws.proofs.StampMoves.{no-last-nil, phase-by}
use Rattle.world_laws.proofs.StampEntering.{created-entry, appended-entry, stamped-entry, committed-entry, completed-entry, begun-entry, synced-entry}

-- WHAT A WRITER MAKES OF AN ANSWER

in-phase : (x : WriterRecord) (p : Phase) (a : OfficeAnswer) → x.phase ≡ p → granted x (Ok a) ≡ granted_in x p a
unfolding granted
in-phase x p a e = ap (λ (q : Phase). granted_in x q a) e

pub granted-create : (x : WriterRecord) (t : Stamp) → x.phase ≡ phase.Wanted setup.Create
    → granted x (Ok (office.Stamp t)) ≡ record (begin_session x t 0) { phase = phase.Stamped setup.Create t }
granted-create x t e = in-phase x (phase.Wanted setup.Create) (office.Stamp t) e

-- the writer of a block that was opened again
abbrev pub back : WriterRecord → Reopened → WriterRecord
back x r = record (begin_session x r.committed r.length) { phase = phase.Stamped setup.Append r.new }

pub granted-append : (x : WriterRecord) (r : Reopened) → x.phase ≡ phase.Wanted setup.Append → nat_le r.length MAX_APPEND_LENGTH ≡ true → granted x (Ok (office.Reopened r)) ≡ back x r
granted-append x r e short =
    in-phase x (phase.Wanted setup.Append) (office.Reopened r) e ∙ ap (λ (b : Bool). if b then back x r else x) short

again-in : (x : WriterRecord) (t : Stamp) (way : Setup) → IsAgain way → granted_in x (phase.Wanted way) (office.Stamp t) ≡ record x { phase = phase.Stamped way t }
again-in x t setup.Create a = absurd a
again-in x t setup.Append a = absurd a
again-in x t setup.AppendRecovery a = refl
again-in x t setup.StreamRecovery a = refl
again-in x t setup.CloseRecovery a = refl

pub granted-again : (x : WriterRecord) (t : Stamp) (way : Setup) → x.phase ≡ phase.Wanted way → IsAgain way → granted x (Ok (office.Stamp t)) ≡ record x { phase = phase.Stamped way t }
granted-again x t way e a = in-phase x (phase.Wanted way) (office.Stamp t) e ∙ again-in x t way a

commit-in : (x : WriterRecord) (t : Stamp) (way : Setup) → IsLater way → granted_in x (phase.Accepted way t) office.Nothing ≡ record x { committed = t; phase = phase_committed way }
commit-in x t setup.Create a = absurd a
commit-in x t setup.Append a = refl
commit-in x t setup.AppendRecovery a = refl
commit-in x t setup.StreamRecovery a = refl
commit-in x t setup.CloseRecovery a = refl

pub granted-commit : (x : WriterRecord) (t : Stamp) (way : Setup) → x.phase ≡ phase.Accepted way t → IsLater way → granted x (Ok office.Nothing) ≡ record x { committed = t; phase = phase_committed way }
granted-commit x t way e a = in-phase x (phase.Accepted way t) office.Nothing e ∙ commit-in x t way a

pub granted-complete : (x : WriterRecord) → x.phase ≡ phase.Finished → granted x (Ok office.Nothing) ≡ record x { phase = phase.Completed }
granted-complete x e = in-phase x phase.Finished office.Nothing e

-- a refusal: the writer fails, or stays as it was
refused-fits : (f : ℕ → Option ℕ) (l : ℕ) (r : Option Stamp) (x : WriterRecord) (e : OfficeFault) → Fits f l r x → Fits f l r (refused x e)
refused-fits f l r x fault.Known h = tt
refused-fits f l r x fault.Unknown h = tt
refused-fits f l r x fault.NotOpen h = tt
refused-fits f l r x fault.NotClosed h = tt
refused-fits f l r x (fault.LeaseLost recovery) h = tt
refused-fits f l r x (fault.OldStamp committed) h = tt
refused-fits f l r x (fault.OldRecovery latest) h = tt
refused-fits f l r x (fault.TooLong bytes) h = tt
refused-fits f l r x fault.Memory h = h

refused-as-fits : (f : ℕ → Option ℕ) (l : ℕ) (r : Option Stamp) (x : WriterRecord) (e : OfficeFault) (b : Bool) → Fits f l r x → Fits f l r (if b then refused x e else x)
refused-as-fits f l r x e true h = refused-fits f l r x e h
refused-as-fits f l r x e false h = h

pub refusal-fits : (f : ℕ → Option ℕ) (l : ℕ) (r : Option Stamp) (x : WriterRecord) (e : OfficeFault) → Fits f l r x → Fits f l r (granted x (Err e))
unfolding granted
refusal-fits f l r x e h = refused-as-fits f l r x e (asks x.phase) h

-- WRITERS THAT ASKED

-- what is in a phase
pub at-phase : (f : ℕ → Option ℕ) (l : ℕ) (r : Option Stamp) (x : WriterRecord) (p : Phase) → x.phase ≡ p → Fits f l r x → InPhase f l r x.committed x.waiting x.stream.unacked p
at-phase f l r x p e h = subst (λ (q : Phase). InPhase f l r x.committed x.waiting x.stream.unacked q) e h

pub created-held : (f : ℕ → Option ℕ) (n : ℕ) (members : List NodeId) (x : WriterRecord) → ((t : ℕ) → f t ≡ None) → x.phase ≡ phase.Wanted setup.Create
    → HeldOf (put f n (Some n)) n (Some (opened members (record { 0 = n }))) (granted x (Ok (office.Stamp (record { 0 = n }))))
created-held f n members x none e =
    rw (granted-create x (record { 0 = n }) e) (record {
      base = n;
      office = created-entry f n members none;
      writer = record {
        rooted = λ _. refl;
        fits = (
          record {
            session = record { is = put-here f n (Some n) };
            newest = record { last = λ _. put-new (λ t e. t ≤ n) f n n (omega arith) (λ t e k. absurd (none-some e (sym (none t) ∙ k))) };
          },
          (record { is = refl }, no-last-nil),
        );
      };
    })

pub appended-held : (f : ℕ → Option ℕ) (n latest : ℕ) (r : BlockRecord) (x : WriterRecord) → Below f n → r.is_open ≡ false → nat_le r.length MAX_APPEND_LENGTH ≡ true
    → x.phase ≡ phase.Wanted setup.Append → Entries f latest r x
    → HeldOf (put f n (Some n)) n (Some (record r { is_open = true; recovery = None })) (granted x (Ok (office.Reopened (record { committed = r.committed; length = r.length; new = record { 0 = n } }))))
appended-held f n latest r x b shut short e h =
    rw (granted-append x (record { committed = r.committed; length = r.length; new = record { 0 = n } }) e short) (record {
      base = h.base;
      office = appended-entry f n latest h.base r b shut h.office;
      writer = record {
        rooted = λ i. same_Some h.base n (sym (put-old f n n r.committed.0 h.base b h.office.committed) ∙ i.is);
        fits = (
          record {
            session = record { is = put-here f n (Some n) };
            newest = record { last = λ _. put-new (λ t e. t ≤ n) f n n (omega arith) (λ t e k. omega (arith, b.below t e k)) };
          },
          (at-phase f latest r.recovery x (phase.Wanted setup.Append) e h.writer.fits, no-last-nil),
        );
      };
    })

-- the setup that follows what was wanted
pub again-setting : (f g : ℕ → Option ℕ) (l : ℕ) (x : WriterRecord) (t : Stamp) (way : Setup) → IsAgain way → ((s : Stamp) → IsOfLatest f l s → IsOfLatest g l s)
    → Wanting f l x.committed x.waiting x.stream.unacked way → Setting g l x.committed x.waiting x.stream.unacked t way
again-setting f g l x t setup.Create a old h = absurd a
again-setting f g l x t setup.Append a old h = absurd a
again-setting f g l x t setup.AppendRecovery a old h = h
again-setting f g l x t setup.StreamRecovery a old h = (old x.committed h.0, h.1)
again-setting f g l x t setup.CloseRecovery a old h = old x.committed h

pub stamped-held : (f : ℕ → Option ℕ) (n latest : ℕ) (r : BlockRecord) (x : WriterRecord) (way : Setup) → Below f n → IsWriters r → x.committed ≡ r.committed
    → x.phase ≡ phase.Wanted way → IsAgain way → Entries f latest r x
    → HeldOf (put f n (Some latest)) latest (Some r) (granted x (Ok (office.Stamp (record { 0 = n }))))
stamped-held f n latest r x way b w same e a h =
    rw (granted-again x (record { 0 = n }) way e a) (record {
      base = h.base;
      office = stamped-entry f n latest h.base r b w h.office;
      writer = record {
        rooted = λ i. same_Some h.base latest (sym (put-old f n latest r.committed.0 h.base b h.office.committed) ∙ ap (λ (s : Stamp). put f n (Some latest) s.0) (sym same) ∙ i.is);
        fits = (
          record {
            session = record { is = put-here f n (Some latest) };
            newest = record { last = λ _. put-new (λ t e. t ≤ n) f n latest (omega arith) (λ t e k. omega (arith, b.below t e k)) };
          },
          again-setting f (put f n (Some latest)) latest x (record { 0 = n }) way a (λ s i. record { is = put-old f n latest s.0 latest b i.is })
              (at-phase f latest r.recovery x (phase.Wanted way) e h.writer.fits),
        );
      };
    })

-- where a writer is whose setup was committed
pub committed-fits : (f : ℕ → Option ℕ) (l : ℕ) (r : Option Stamp) (x : WriterRecord) (t : Stamp) (way : Setup) → IsLater way
    → InPhase f l r x.committed x.waiting x.stream.unacked (phase.Accepted way t) → InPhase f l r t x.waiting x.stream.unacked (phase_committed way)
committed-fits f l r x t setup.Create a k = absurd a
committed-fits f l r x t setup.Append a k = (k.0, k.1.0, k.1.1)
committed-fits f l r x t setup.AppendRecovery a k = (k.0, k.1.0, k.1.1)
committed-fits f l r x t setup.StreamRecovery a k = (k.0, k.1.1)
committed-fits f l r x t setup.CloseRecovery a k = k.0

accepted-setup : (f : ℕ → Option ℕ) (l : ℕ) (r : Option Stamp) (x : WriterRecord) (t : Stamp) (way : Setup) → InPhase f l r x.committed x.waiting x.stream.unacked (phase.Accepted way t) → IsSetup f l r t
accepted-setup f l r x t way k = k.0

pub committed-held : (f : ℕ → Option ℕ) (latest : ℕ) (r : BlockRecord) (x : WriterRecord) (t : Stamp) (members : List NodeId) (way : Setup) → IsWriters r → r.committed.0 < t.0
    → x.phase ≡ phase.Accepted way t → IsLater way → Entries f latest r x
    → HeldOf f latest (Some (record r { committed = t; members = members })) (granted x (Ok office.Nothing))
committed-held f latest r x t members way w lt e a h =
    let k = at-phase f latest r.recovery x (phase.Accepted way t) e h.writer.fits in
    rw (granted-commit x t way e a) (record {
      base = latest;
      office = committed-entry f latest h.base r t members w lt (accepted-setup f latest r.recovery x t way k) h.office;
      writer = record { rooted = λ _. refl; fits = committed-fits f latest r.recovery x t way a k };
    })

pub completed-held : (f : ℕ → Option ℕ) (latest : ℕ) (r : BlockRecord) (x : WriterRecord) (bytes : ℕ) → IsWriters r → x.committed ≡ r.committed → x.phase ≡ phase.Finished → Entries f latest r x
    → HeldOf f latest (Some (record r { is_open = false; length = bytes })) (granted x (Ok office.Nothing))
completed-held f latest r x bytes w same e h =
    let k = at-phase f latest r.recovery x phase.Finished e h.writer.fits in
    rw (granted-complete x e) (record {
      base = h.base;
      office = completed-entry f latest h.base r bytes (subst (λ (s : Stamp). (t e : ℕ) → f t ≡ Some e → t ≤ s.0) same (k.newest.last w.lease)) h.office;
      writer = record { rooted = h.writer.rooted; fits = k };
    })

refused-committed : (x : WriterRecord) (e : OfficeFault) → (refused x e).committed ≡ x.committed
refused-committed x fault.Known = refl
refused-committed x fault.Unknown = refl
refused-committed x fault.NotOpen = refl
refused-committed x fault.NotClosed = refl
refused-committed x (fault.LeaseLost recovery) = refl
refused-committed x (fault.OldStamp committed) = refl
refused-committed x (fault.OldRecovery latest) = refl
refused-committed x (fault.TooLong bytes) = refl
refused-committed x fault.Memory = refl

pub refusal-committed : (x : WriterRecord) (e : OfficeFault) → (granted x (Err e)).committed ≡ x.committed
unfolding granted
refusal-committed x e = if-each (λ (y : WriterRecord). y.committed ≡ x.committed) (asks x.phase) (refused x e) x (λ _. refused-committed x e) (λ _. refl)

-- a writer that goes on under the same committed stamp
pub moved-held : (f : ℕ → Option ℕ) (latest : ℕ) (o : Option BlockRecord) (x y : WriterRecord) → y.committed ≡ x.committed → ((r : Option Stamp) → Fits f latest r x → Fits f latest r y)
    → HeldOf f latest o x → HeldOf f latest o y
moved-held f latest None x y c k h = (h.0, h.1, ap (λ (t : Stamp). t.0) c ∙ h.2)
moved-held f latest (Some r) x y c k h = record {
  base = h.base;
  office = h.office;
  writer = record { rooted = λ i. h.writer.rooted (subst (λ (s : Stamp). IsOfLatest f latest s) c i); fits = k r.recovery h.writer.fits };
}

-- WRITERS WHOSE BLOCK A RECOVERY TAKES

pub begun-held : (f : ℕ → Option ℕ) (n latest : ℕ) (r : BlockRecord) (x : WriterRecord) (h : Entries f latest r x) → Below f n → r.is_open ≡ true
    → Entries (put f n (Some h.base)) latest (record r { recovery = Some (record { 0 = n }) }) x
begun-held f n latest r x h b is_open = record {
  base = h.base;
  office = begun-entry f n latest h.base r b is_open h.office;
  writer = record {
    rooted = λ i. put-new (λ t e. t ≡ x.committed.0 → e ≡ latest → h.base ≡ latest) f n h.base (λ _ q. q) (λ t e k s q. root t e k s q) x.committed.0 latest i.is refl refl;
    fits = phase-by f (put f n (Some h.base)) latest latest r.recovery (Some (record { 0 = n })) x.waiting x.waiting x.stream.unacked x.stream.unacked x.committed x.phase (record {
      latest = λ t i. old t i;
      setup = λ t i. record { session = old t i.session; newest = record { last = λ l. absurd (none-some (record { 0 = n }) (sym l)) } };
      waits = λ i. i;
      packets = λ i. i;
    }) h.writer.fits;
  };
}
  where
    old : (t : Stamp) → IsOfLatest f latest t → IsOfLatest (put f n (Some h.base)) latest t
    old t i = record { is = put-old f n h.base t.0 latest b i.is }

    root : (t e : ℕ) → f t ≡ Some e → t ≡ x.committed.0 → e ≡ latest → h.base ≡ latest
    root t e k s q = h.writer.rooted (record { is = ap f (sym s) ∙ k ∙ ap (λ (m : ℕ). Some m) q })

pub synced-held : (f : ℕ → Option ℕ) (latest : ℕ) (r : BlockRecord) (x : WriterRecord) (id : Stamp) (bytes : ℕ) (members : List NodeId) → r.is_open ≡ true → r.recovery ≡ Some id → Entries f latest r x
    → Entries f latest (record r { is_open = false; committed = id; members = members; length = bytes }) x
synced-held f latest r x id bytes members is_open e h = record {
  base = h.base;
  office = synced-entry f latest h.base r id bytes members (h.office.held is_open id e) h.office;
  writer = record { rooted = h.writer.rooted; fits = h.writer.fits };
}

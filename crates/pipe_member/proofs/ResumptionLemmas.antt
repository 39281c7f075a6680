-- A setup that goes on later with its dial as the step of its request.
use Rattle.std.proofs.Common.{◌≡◌, ◌≢◌, Bool, true, false, Some, None, Ok, sym, ap, ◌∙◌, subst}
use Rattle.hd_base.specs.declared.files.Files as files
use Rattle.hd_base.specs.declared.links.LinkIn as link_in
use Rattle.hd_base.specs.declared.links.LinkOut as link_out
use Rattle.hd_base.specs.declared.numbers.ConnId.{ConnId}
use Rattle.hd_base.specs.declared.numbers.Receipt.{Receipt}
use Rattle.hd_base.specs.declared.roads.Roads as roads
use Rattle.link_pieces.specs.Pieces.{SendsNothing}
use Rattle.op_headers.specs.Values.{WriteFields}
use Rattle.replica_core.specs.declared.events.Event.{Event}
use Rattle.replica_core.specs.Transitions.{transition}
use Rattle.pipe_setup.specs.ReplicaModel.ReplicaEvent.TheVariants as replica_event
use Rattle.pipe_setup.specs.ReplicaFiles.Endings.{BookEnds}
use Rattle.pipe_setup.specs.ReplicaFiles.BookState.{BookState}
use Rattle.pipe_setup.specs.ReplicaFiles.Books.{replica_of}
use Rattle.pipe_setup.specs.MemberCore.Shuts.{Shuts}
use Rattle.pipe_setup.specs.MemberCore.Shuts.TheVariants as shuts
use Rattle.pipe_setup.specs.MemberCore.Members.{MemberState, set_up}
use Rattle.pipe_setup.specs.declared.refusals.SetupRefusal.TheVariants as setup_refusal
use Rattle.pipe_setup.specs.declared.setups.Setup as local
use Rattle.pipe_setup.specs.declared.setups.Setup.TheVariants as setup
use Rattle.pipe_setup.specs.Setups.{SetsUpBy, GoesOn, HasTarget, booked_in}
use Rattle.pipe_turns.specs.Acting.{with_half}
use Rattle.pipe_member.specs.declared.member.Member.{Member}
use Rattle.pipe_member.specs.declared.stages.Stage.{Stage}
use Rattle.pipe_member.specs.declared.stages.Stage.TheVariants as stage
use Rattle.pipe_member.specs.declared.stepped.Stepped.{Stepped}
use Rattle.pipe_member.specs.declared.stepped.Stepped.TheVariants as stepped
use Rattle.pipe_member.specs.Steps.{stage_after}
use Rattle.pipe_member.specs.Setups.{Opened, opened, asked_if, Waits, with_mirror, with_outward, FollowsSetup, FollowsDial}
use Rattle.pipe_member.specs.EventSteps.{HoldsMirror}
use Rattle.pipe_member.specs.SetupSteps.{was_answered, setup_by, IsSetup, IsNewRequest, ResumptionsAreSteps}
use Rattle.pipe_member.proofs.SetupStepLemmas.{waits_lead}

-- a member that a turn led to isn't booked
after_turn : (m : MemberState) (s : Shuts) (receipt : Receipt) (asked unasked : MemberState) → stage_after m s ≢ stage.Booked receipt asked unasked
after_turn m shuts.Nothing receipt asked unasked is = cc
after_turn m shuts.Mirror receipt asked unasked is = cc
after_turn m shuts.Both receipt asked unasked is = cc

-- the member between the two calls
pub record IsBooked {I O : Type 0} (o : link_out.Ghosts O) (x : Opened) (ended : local.Setup I O) (old mid : Member I O) (half : O) (receipt : Receipt) (asked unasked : MemberState) : Type 0 where
  pub is : mid ≡ record (with_outward old half) { stage = stage.Booked receipt asked unasked }
  pub ended_is : ended ≡ setup.Memory (Some receipt)
  pub asked_is : asked ≡ x.asked
  pub unasked_is : unasked ≡ x.unasked

module _ {I O : Type 0} (o : link_out.Ghosts O) (x : Opened) (old mid : Member I O) (half : O) (receipt : Receipt) (asked unasked : MemberState) where
  not_there : (st : Stage) → mid.stage ≡ st → mid.stage ≡ stage.Booked receipt asked unasked → st ≡ stage.Booked receipt asked unasked
  not_there st there is = sym there ∙ is

  is_booked : (ended : local.Setup I O) → old.stage ≡ stage.New → mid.stage ≡ stage.Booked receipt asked unasked → FollowsSetup o x ended (with_outward old half) mid stepped.Memory
      → IsBooked o x ended old mid half receipt asked unasked
  is_booked (setup.Last r) fresh is h = absurd (after_turn x.unasked x.shuts receipt asked unasked (sym h.follows.stage ∙ is))
  is_booked (setup.Mirrored r end) fresh is h = let e = sym h.stage ∙ is in cc
  is_booked (setup.MirrorDown r answered) fresh is h = let e = sym h.stage ∙ is in cc
  is_booked (setup.Refused (setup_refusal.Core why r)) fresh is h = let e = sym h.follows.stage ∙ is in cc
  is_booked (setup.Refused (setup_refusal.Stage n)) fresh is h = absurd h
  is_booked (setup.Refused setup_refusal.Pool) fresh is h = absurd h
  is_booked (setup.Refused (setup_refusal.Checksum k c)) fresh is h = absurd h
  is_booked (setup.Refused (setup_refusal.TooMany n)) fresh is h = absurd h
  is_booked (setup.File r) fresh is h = let e = h.is in cc
  is_booked (setup.Memory None) fresh is h = let e = sym fresh ∙ (sym (ap (λ (m : Member I O). m.stage) h.0) ∙ is) in cc
  is_booked (setup.Memory (Some r)) fresh is h =
      let s : stage.Booked r x.asked x.unasked ≡ stage.Booked receipt asked unasked = sym (ap (λ (m : Member I O). m.stage) h.0) ∙ is in
      record {
        is = subst (λ (st : Stage). mid ≡ record (with_outward old half) { stage = st }) s h.0;
        ended_is = let same : r ≡ receipt = cc in ap (λ (y : Receipt). setup.Memory (Some y)) same;
        asked_is = cc;
        unasked_is = cc;
      }

-- the rules by whether the mirror was asked
abbrev rules_if : MemberState → MemberState → Bool → MemberState
rules_if asked unasked answered = asked_if (record { asked = asked; unasked = unasked; shuts = shuts.Nothing; answer = None; fault = None }) answered

rules_are : (conn : ConnId) (op : WriteFields) (asked unasked : MemberState) (answered : Bool) → asked ≡ (set_up conn op true).0 → unasked ≡ (set_up conn op false).0 → rules_if asked unasked answered ≡ (set_up conn op answered).0
rules_are conn op asked unasked true a u = a
rules_are conn op asked unasked false a u = u

-- ---- the second call

module _ {F I O : Type 0} (f : files.Ghosts F) (o : link_out.Ghosts O) (e : Event) (old mid new : Member I O) (half : O) (book book' : BookState F) (result : Stepped) (receipt : Receipt) (asked unasked : MemberState) where
  waits_later : (answered : Bool) (core : MemberState) (from : Member I O) (other : Receipt) → IsNewRequest (Ok e) old book result → SendsNothing o old.upstream.outward half → BookEnds f book book' (replica_event.Other e) (Ok receipt)
      → HasTarget old.op → core ≡ (set_up old.upstream.id old.op answered).0 → from.upstream ≡ with_half old.upstream half → other ≡ receipt → Waits o other core from new result
      → IsSetup o (setup_by result old.upstream.id old.op answered (replica_of book)) old new book' × HoldsMirror new.stage new.mirror
  waits_later answered core from other request quiet ends some is same there x =
      waits_lead f o e old new half book book' result answered core from receipt request quiet ends some is same (subst (λ (y : Receipt). Waits o y core from new result) there x)

  module _ {R : Type 0} (r : roads.Ghosts R I O) (i : link_in.Ghosts I) where
    second : (first ended : local.Setup I O) (later later' : R) → IsNewRequest (Ok e) old book result → SendsNothing o old.upstream.outward half → BookEnds f book book' (replica_event.Other e) (Ok receipt)
        → HasTarget old.op → IsBooked o (opened old.upstream.id old.op (transition book.replica e)) first old mid half receipt asked unasked → booked_in ended ≡ Some (Ok receipt) → GoesOn r i o mid.node mid.op later later' ended
        → FollowsDial o (record { asked = asked; unasked = unasked; shuts = shuts.Nothing; answer = None; fault = None }) ended mid new result
        → IsSetup o (setup_by result old.upstream.id old.op (was_answered ended) (replica_of book)) old new book' × HoldsMirror new.stage new.mirror
    second first (setup.Last rc) later later' request quiet ends some b booked goes x = absurd (some (sym (ap (λ (m : Member I O). m.op.targets) b.is) ∙ goes.0))
    second first (setup.Mirrored rc end) later later' request quiet ends some b booked goes x =
        waits_later true asked (with_mirror mid end) rc request quiet ends some b.asked_is (ap (λ (m : Member I O). m.upstream) b.is) (cc) x
    second first (setup.MirrorDown rc answered) later later' request quiet ends some b booked goes x =
        waits_later answered (rules_if asked unasked answered) mid rc request quiet ends some (rules_are old.upstream.id old.op asked unasked answered b.asked_is b.unasked_is) (ap (λ (m : Member I O). m.upstream) b.is) (cc) x
    second first (setup.Refused why) later later' request quiet ends some b booked goes x = absurd (request.found_memory x.1)
    second first (setup.File rc) later later' request quiet ends some b booked goes x = absurd (request.found_memory x.1)
    second first (setup.Memory None) later later' request quiet ends some b booked goes x = absurd (request.found_memory x.1)
    second first (setup.Memory (Some rc)) later later' request quiet ends some b booked goes x = absurd (request.found_memory x.1)

module _ {F R I O : Type 0} (f : files.Ghosts F) (r : roads.Ghosts R I O) (i : link_in.Ghosts I) (o : link_out.Ghosts O) where
  pub resumptions_step : ResumptionsAreSteps F R I O f r i o
  resumptions_step e old mid new book book' roads roads' later later' result asked x =
      let b : IsBooked o (opened old.upstream.id old.op (transition book.replica e)) x.first.ended old mid x.first.half x.receipt x.asked x.unasked =
      is_booked o (opened old.upstream.id old.op (transition book.replica e)) old mid x.first.half x.receipt x.asked x.unasked x.first.ended x.fresh x.booked x.first.follows in
      let s : SetsUpBy f r i o old.node old.op e book book' roads roads' (setup.Memory (Some x.receipt)) = subst (λ (y : local.Setup I O). SetsUpBy f r i o old.node old.op e book book' roads roads' y) b.ended_is x.first.sets_up in
      second f o e old mid new x.first.half book book' result x.receipt x.asked x.unasked r i x.first.ended x.goes_on.ended later later' asked x.first.quiet s.booked s.goes_on.0 b x.goes_on.booked x.goes_on.goes_on x.goes_on.follows

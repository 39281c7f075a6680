-- The events of an open member, by what it found when it looked.
use Rattle.std.proofs.Common.{◌≡◌, Bool, true, Option, refl, sym, subst}
use Rattle.hd_base.specs.declared.ends.Conn.{Conn}
use Rattle.hd_base.specs.declared.files.Files as files
use Rattle.hd_base.specs.declared.links.LinkIn as link_in
use Rattle.hd_base.specs.declared.links.LinkOut as link_out
use Rattle.pipe_setup.specs.ReplicaFiles.BookState.{BookState}
use Rattle.pipe_setup.specs.MemberCore.Members.{MemberState, hears}
use Rattle.pipe_turns.specs.Acting.{ShutsEnd, ShutsMirror}
use Rattle.pipe_member.specs.declared.member.Member.{Member}
use Rattle.pipe_member.specs.declared.stages.Looked.{Looked}
use Rattle.pipe_member.specs.declared.stages.Stage.{Stage}
use Rattle.pipe_member.specs.declared.stages.Stage.TheVariants as stage
use Rattle.pipe_member.specs.declared.stepped.Stepped.{Stepped}
use Rattle.pipe_member.specs.Above.{AboveState, LooksAbove}
use Rattle.pipe_member.specs.Below.{BelowState, LooksBelow}
use Rattle.pipe_member.specs.Steps.{is_failed, is_asked, finds_no_memory}
use Rattle.pipe_member.specs.Events.{GoesDown, GoesDownBy, LooksUp, TakesDown, GoesUp, GoesUpIf, GoesUpBy, LooksDown, LooksDownAt, TakesUp}

module _ {I O : Type 0} (i : link_in.Ghosts I) (o : link_out.Ghosts O) where
  pub looked_up : (old : Member I O) (above : AboveState) (inward : I) (upper : Conn I O) (found : Looked) (shuts : Bool) → shuts ≡ is_failed found
      → LooksAbove i old.above.next old.above above old.upstream.inward inward found
      → ShutsEnd o shuts (record { id = old.upstream.id; lower = old.upstream.lower; inward = inward; outward = old.upstream.outward }) upper
      → LooksUp i o old (record old { upstream = upper; above = above }) found
  looked_up old above inward upper found shuts is looks shut = record {
    inward = inward;
    looks = looks;
    shuts = rw is at shut;
    same = record { node = refl; op = refl };
    mirror = refl;
    below = refl;
    stage = refl;
  }

  pub looked_down : (m : MemberState) (old : Member I O) (below : BelowState) (middle lower : Option (Conn I O)) (found : Looked) (awaits shuts : Bool) → awaits ≡ is_asked m.mirror → shuts ≡ is_failed found
      → LooksBelow i awaits old.below.next old.below below old.mirror middle found → ShutsMirror o shuts middle lower
      → LooksDown i o m old (record old { mirror = lower; below = below }) found
  looked_down m old below middle lower found awaits shuts asks is looks shut = record {
    mirror = middle;
    looks = rw asks at looks;
    shuts = rw is at shut;
    same = record { node = refl; op = refl };
    upstream = refl;
    above = refl;
    stage = refl;
  }

  pub looks_open : (m : MemberState) (old new : Member I O) (found : Looked) → old.stage ≡ stage.Open m → LooksDown i o m old new found → LooksDownAt i o old.stage old new found
  looks_open m old new found here looks = subst (λ (st : Stage). LooksDownAt i o st old new found) (sym here) looks

  pub looked_at : (m : MemberState) (old new : Member I O) (found : Looked) → old.stage ≡ stage.Open m → LooksDownAt i o old.stage old new found → LooksDown i o m old new found
  looked_at m old new found here looks = subst (λ (st : Stage). LooksDownAt i o st old new found) here looks

module _ {F I O : Type 0} (f : files.Ghosts F) (i : link_in.Ghosts I) (o : link_out.Ghosts O) where
  pub goes_down : (m : MemberState) (old seen new : Member I O) (found : Looked) (out : Bool) (book book' : BookState F) (result : Stepped) → old.stage ≡ stage.Open m → finds_no_memory found ≡ out
      → LooksUp i o old seen found → TakesDown f o m out found seen new book book' result → GoesDown f i o old.stage old new book book' result
  goes_down m old seen new found out book book' result here is looks takes =
      let by : GoesDownBy f i o m old new book book' result = record { seen = seen; found = found; looks = looks; takes = rw is takes } in
      subst (λ (st : Stage). GoesDown f i o st old new book book' result) (sym here) by

  pub goes_up : (m : MemberState) (old seen new : Member I O) (found : Looked) (out : Bool) (book book' : BookState F) (result : Stepped) → old.stage ≡ stage.Open m → hears m ≡ true → finds_no_memory found ≡ out
      → LooksDown i o m old seen found → TakesUp f o m out seen new book book' result → GoesUp f i o old.stage old new book book' result
  goes_up m old seen new found out book book' result here heard is looks takes =
      let by : GoesUpBy f i o m old new book book' result = record { seen = seen; found = found; looks = looks; takes = rw is takes } in
      subst (λ (st : Stage). GoesUp f i o st old new book book' result) (sym here) (subst (λ (b : Bool). GoesUpIf f i o m b old new book book' result) (sym heard) by)

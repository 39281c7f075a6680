-- A turn for which no memory was found before it began.
use Rattle.std.proofs.Common.{◌≡◌, false, Option, Some, None, IsSome, option_map, refl, subst, ◌∙◌}
use Rattle.hd_base.specs.declared.ends.Conn.{Conn}
use Rattle.hd_base.specs.declared.files.Files as files
use Rattle.hd_base.specs.declared.links.LinkOut as link_out
use Rattle.pipe_setup.specs.ReplicaFiles.BookState.{BookState}
use Rattle.pipe_setup.specs.MemberCore.Shuts.{Shuts}
use Rattle.pipe_setup.specs.MemberCore.Shuts.TheVariants as shuts
use Rattle.pipe_setup.specs.MemberCore.Turn.{Turn}
use Rattle.pipe_setup.specs.MemberCore.Members.{MemberState}
use Rattle.pipe_turns.specs.declared.turning.Done.{Done}
use Rattle.pipe_turns.specs.declared.turning.Done.TheVariants as done
use Rattle.pipe_turns.specs.Acting.{texts_of, ShutsMirror}
use Rattle.pipe_turns.proofs.StillLemmas.{does_nothing}
use Rattle.pipe_member.specs.declared.member.Member.{Member}
use Rattle.pipe_member.specs.declared.stages.Stage.{Stage}
use Rattle.pipe_member.specs.declared.stages.Stage.TheVariants as stage
use Rattle.pipe_member.specs.declared.stages.Took.{Took}
use Rattle.pipe_member.specs.declared.stepped.Stepped.{Stepped}
use Rattle.pipe_member.specs.declared.stepped.Stepped.TheVariants as stepped
use Rattle.pipe_member.specs.Turns.{Turns, Follows}
use Rattle.pipe_member.specs.Events.{TurnsIf}

module _ {F I O : Type 0} (f : files.Ghosts F) (o : link_out.Ghosts O) where
  unchanged_mirror : (mirror : Option (Conn I O)) → ShutsMirror o false mirror mirror
  unchanged_mirror None = tt
  unchanged_mirror (Some end) = refl

  unmade_turn : (m : MemberState) (t : Turn) (took : Took) (member : Member I O) (book : BookState F) → member.stage ≡ stage.Open m → Turns f o m t took member member book book stepped.Memory
  unmade_turn m t took member book is = record {
    settled = m;
    upstream = member.upstream;
    mirror = member.mirror;
    done = done.Memory;
    shuts = shuts.Nothing;
    acts = record {
      sent = member.upstream.outward;
      passed = member.mirror;
      performed = does_nothing f o t.call (texts_of member.op t.effect.sends) book member.upstream.outward member.mirror;
      followed = (refl, refl, refl, refl);
    };
    follows = record {
      same = record { node = refl; op = refl };
      stage = is;
      above = refl;
      below = refl;
      upper = refl;
      lower = unchanged_mirror member.mirror;
      answer = refl;
    };
  }

  -- of something that is there
  pub unmade : {T : Type 0} (m : MemberState) (turn : T → Turn) (due : Option T) (took : Took) (member : Member I O) (book : BookState F)
      → member.stage ≡ stage.Open m → IsSome due → TurnsIf f o m (option_map turn due) took member member book book stepped.Memory
  unmade m turn None took member book is there = cc
  unmade m turn (Some x) took member book is there = unmade_turn m (turn x) took member book is

  -- A turn of what is there.
  pub turned : {T : Type 0} (m : MemberState) (turn : T → Turn) (due : Option T) (x : T) (t : Turn) (took : Took) (old new : Member I O) (book book' : BookState F) (result : Stepped)
      → due ≡ Some x → t ≡ turn x → Turns f o m t took old new book book' result → TurnsIf f o m (option_map turn due) took old new book book' result
  turned m turn due x t took old new book book' result there is turns =
      rw there (subst (λ (u : Turn). Turns f o m u took old new book book' result) is turns)

module _ {I O : Type 0} (o : link_out.Ghosts O) where
  -- What follows speaks of the two ends as they were after the turn.
  pub follows_of : (st st' : Stage) (t : Took) (d : Done) (s : Shuts) (upper upper' : Conn I O) (lower lower' : Option (Conn I O)) (old new : Member I O) (result : Stepped) → st ≡ st'
      → Follows o st t d s upper lower (record old { upstream = upper'; mirror = lower' }) new result → Follows o st' t d s upper lower old new result
  follows_of st st' t d s upper upper' lower lower' old new result is x = record {
    same = record { node = x.same.node; op = x.same.op };
    stage = x.stage ∙ is;
    above = x.above;
    below = x.below;
    upper = x.upper;
    lower = x.lower;
    answer = x.answer;
  }

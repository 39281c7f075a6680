-- The parts of an own step, where there is a writer.
use Rattle.std.proofs.Common.{◌≡◌, Bool, true, false, slice_get, Option, Some, Result, Ok, Err, sym, ap, ◌∙◌, subst, inr, append-nil}
use Rattle.std.specs.Prelude.{is_some, drop}
use Rattle.hd_base.specs.declared.numbers.ConnId.{ConnId}
use Rattle.hd_base.specs.declared.links.LinkIn as link_in
use Rattle.hd_base.specs.declared.links.LinkOut as link_out
use Rattle.hd_base.specs.declared.roads.Roads as roads
use Rattle.name_core.specs.declared.desks.Desk as desks
use Rattle.client_events.specs.PipeRecovery.Rebuild.{Rebuild}
use Rattle.client_events.specs.PipeRecovery.Steps.{fits_in}
use Rattle.world.specs.declared.events.TakenCommand.{TakenCommand}
use Rattle.writer_core.specs.declared.records.WriterRecord.{WriterRecord}
use Rattle.client_events.specs.declared.acting.Acted.{Acted}
use Rattle.client_events.specs.declared.acting.Said.{Said}
use Rattle.client_events.specs.declared.faults.ClientFault.{ClientFault}
use Rattle.client_events.specs.declared.pipes.Pipe.{Pipe}
use Rattle.client_events.specs.declared.pipes.Pipe.TheVariants as pipe
use Rattle.client_events.specs.declared.setting_up.SetUp.{SetUp}
use Rattle.client_events.specs.Events as events
use Rattle.client_events.specs.Showing.{awaits}
use Rattle.play_clients.specs.declared.clients.Client.{Client}
use Rattle.play_clients.specs.declared.clients.Owned.{Owned}
use Rattle.play_clients.specs.Owning.{IsWith, Keeps, FollowsActed, ActsIf, Acts, Gives, taken_of, TakesIf, Takes, Answers, FollowsSaid, CompletesIf, Completes, setup_of, CommitsBy, CommitsFitting, CommitsIf, Commits, owned_as, FollowsSetUp, SetsUpBy, SetsUpFitting, SetsUpIf, SetsUp}

module _ {I O : Type 0} where
  -- What stays of a client whose setup was taken off.
  pub record IsKept (old new : Client I O) : Type 0 where
    pub block : new.block ≡ old.block
    pub rule : new.rule ≡ old.rule
    pub writer : new.writer ≡ old.writer
    pub queue : new.queue.items ≡ old.queue.items
    pub said : new.said.items ≡ old.said.items

  pub is_kept : (old new : Client I O) → new ≡ record old { pipe = pipe.Closed } → IsKept old new
  is_kept old new e = record {
    block = ap (λ (y : Client I O). y.block) e;
    rule = ap (λ (y : Client I O). y.rule) e;
    writer = ap (λ (y : Client I O). y.writer) e;
    queue = ap (λ (y : Client I O). y.queue.items) e;
    said = ap (λ (y : Client I O). y.said.items) e;
  }

  -- What is left of the client in which the writer has changed, and its connection was taken off.
  pub with_writer : (old mid new : Client I O) (known : WriterRecord) (left : Pipe I O) (said : Option Said) → mid.block ≡ old.block → mid.rule ≡ old.rule → mid.queue.items ≡ old.queue.items → mid.said.items ≡ old.said.items → mid.writer ≡ Some known
      → IsWith mid new mid.writer left said → IsWith old new (Some known) left said
  with_writer old mid new known left said block rule queue answers writer h = record {
    block = h.block ∙ block;
    rule = h.rule ∙ rule;
    writer_is = h.writer_is ∙ writer;
    pipe_is = h.pipe_is;
    queue = h.queue ∙ queue;
    said_is = rw (sym answers) h.said_is;
  }

  pub kept_follows : (old mid new : Client I O) (known : WriterRecord) (acted : Acted I O) (result : Result (Unit {0}) ClientFault) → mid.block ≡ old.block → mid.rule ≡ old.rule → mid.queue.items ≡ old.queue.items → mid.said.items ≡ old.said.items → mid.writer ≡ Some known
      → Keeps mid new acted result → FollowsActed old new known (Ok acted) result
  kept_follows old mid new known acted (Ok u) block rule queue answers writer h = with_writer old mid new known acted.pipe acted.said block rule queue answers writer h
  kept_follows old mid new known acted (Err why) block rule queue answers writer h = h

  pub said_follows : (old mid new : Client I O) (known : WriterRecord) (said : Option Said) (result : Result (Unit {0}) ClientFault) → mid.block ≡ old.block → mid.rule ≡ old.rule → mid.queue.items ≡ old.queue.items → mid.said.items ≡ old.said.items → mid.pipe ≡ old.pipe
      → mid.writer ≡ Some known → Answers mid new said result → FollowsSaid old new known (Ok said) result
  said_follows old mid new known said (Ok u) block rule queue answers pipe writer h = subst (λ (p : Pipe I O). IsWith old new (Some known) p said) pipe (with_writer old mid new known mid.pipe said block rule queue answers writer h)
  said_follows old mid new known said (Err why) block rule queue answers pipe writer h = h

module _ {R I O : Type 0} (r : roads.Ghosts R I O) (i : link_in.Ghosts I) (o : link_out.Ghosts O) where
  pub acts_so : (old new : Client I O) (known after : WriterRecord) (acted : Result (Acted I O) ClientFault) (road road' : R) (result : Result (Unit {0}) ClientFault) → old.writer ≡ Some known → events.ActShows r i o known after old.pipe road road' acted → events.FitsActed known after old.pipe acted → FollowsActed old new after acted result
      → Acts r i o old new road road' result
  acts_so old new known after acted road road' result is shows fits follows =
      subst (λ (x : Option WriterRecord). ActsIf r i o x old new road road' result) (sym is) (record { after = after; acted = acted; shows = shows; fits = fits; follows = follows })

  pub takes_so : (old popped middle new : Client I O) (t : TakenCommand) (road road' : R) (acted : Result (Unit {0}) ClientFault) (result : Result (Option TakenCommand) ClientFault) → popped ≡ record old { queue = popped.queue } → slice_get old.queue.items 0 ≡ Some t
      → popped.queue.items ≡ drop 1 old.queue.items → Gives popped middle t (Ok tt) → Acts r i o middle new road road' acted → result ≡ taken_of t acted → Takes r i o old new road road' result
  takes_so old popped middle new t road road' acted result same first rest gives acts ends =
      subst (λ (x : Option TakenCommand). TakesIf r i o x old new road road' result) (sym first)
      (inr (record { popped = popped; middle = middle; acted = acted; same = same; queue = rest; gives = gives; acts = acts; ends = ends }))

module _ {D I O : Type 0} (d : desks.Ghosts D) where
  pub completes_so : (old new : Client I O) (known after : WriterRecord) (said : Result (Option Said) ClientFault) (desk desk' : D) (result : Result (Unit {0}) ClientFault) → old.writer ≡ Some known → events.CompleteShows d known after desk desk' said → (awaits known.phase ≡ false → awaits after.phase ≡ false) → FollowsSaid old new after said result
      → Completes d old new desk desk' result
  completes_so old new known after said desk desk' result is shows fits follows =
      subst (λ (x : Option WriterRecord). CompletesIf d x old new desk desk' result) (sym is) (record { after = after; said = said; shows = shows; fits = fits; follows = follows })

module _ {D R I O : Type 0} (d : desks.Ghosts D) (r : roads.Ghosts R I O) (i : link_in.Ghosts I) (o : link_out.Ghosts O) where
  commits_at : (q : Bool) (known : WriterRecord) (setup : Rebuild I O) (old new : Client I O) (desk desk' : D) (road road' : R) (result : Result (Unit {0}) ClientFault) → CommitsBy d r i o known setup old new desk desk' road road' result
      → CommitsFitting d r i o q known setup old new desk desk' road road' result
  commits_at true known setup old new desk desk' road road' result h = h
  commits_at false known setup old new desk desk' road road' result h = tt

  pub commits_so : (old new : Client I O) (known : WriterRecord) (setup : Rebuild I O) (desk desk' : D) (road road' : R) (result : Result (Unit {0}) ClientFault) → old.writer ≡ Some known → setup_of old.pipe ≡ Some setup
      → CommitsBy d r i o known setup old new desk desk' road road' result → Commits d r i o old new desk desk' road road' result
  commits_so old new known setup desk desk' road road' result is held h =
      subst (λ (x : Option WriterRecord). CommitsIf d r i o x (setup_of old.pipe) old new desk desk' road road' result) (sym is)
      (subst (λ (x : Option (Rebuild I O)). CommitsIf d r i o (Some known) x old new desk desk' road road' result) (sym held)
      (commits_at (fits_in known.phase (is_some setup.link)) known setup old new desk desk' road road' result h))

  sets_up_at : (q : Bool) (next : ConnId) (known : WriterRecord) (setup : Rebuild I O) (old new : Client I O) (desk desk' : D) (road road' : R) (result : Result (Owned I O) ClientFault) → SetsUpBy d r i o next known setup old new desk desk' road road' result
      → SetsUpFitting d r i o q next known setup old new desk desk' road road' result
  sets_up_at true next known setup old new desk desk' road road' result h = h
  sets_up_at false next known setup old new desk desk' road road' result h = tt

  pub sets_up_so : (next : ConnId) (old new : Client I O) (known : WriterRecord) (setup : Rebuild I O) (desk desk' : D) (road road' : R) (result : Result (Owned I O) ClientFault) → old.writer ≡ Some known → setup_of old.pipe ≡ Some setup
      → SetsUpBy d r i o next known setup old new desk desk' road road' result → SetsUp d r i o next old new desk desk' road road' result
  sets_up_so next old new known setup desk desk' road road' result is held h =
      subst (λ (x : Option WriterRecord). SetsUpIf d r i o next x (setup_of old.pipe) old new desk desk' road road' result) (sym is)
      (subst (λ (x : Option (Rebuild I O)). SetsUpIf d r i o next (Some known) x old new desk desk' road road' result) (sym held)
      (sets_up_at (fits_in known.phase (is_some setup.link)) next known setup old new desk desk' road road' result h))

module _ {I O : Type 0} where
  pub set_up_follows : (old mid new : Client I O) (known : WriterRecord) (left : SetUp I O) (result : Result (Owned I O) ClientFault) → IsKept old mid → new ≡ record mid { writer = Some known; pipe = left.pipe } → result ≡ Ok (owned_as known left)
      → FollowsSetUp old new known (Ok left) result
  set_up_follows old mid new known left result kept is ends = (
    record {
      block = ap (λ (y : Client I O). y.block) is ∙ kept.block;
      rule = ap (λ (y : Client I O). y.rule) is ∙ kept.rule;
      writer_is = ap (λ (y : Client I O). y.writer) is;
      pipe_is = ap (λ (y : Client I O). y.pipe) is;
      queue = ap (λ (y : Client I O). y.queue.items) is ∙ kept.queue;
      said_is = ap (λ (y : Client I O). y.said.items) is ∙ (kept.said ∙ sym (append-nil old.said.items));
    },
    ends,
  )

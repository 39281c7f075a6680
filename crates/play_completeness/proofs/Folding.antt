-- What each thing that is due keeps, draws and named events keep: so a play stays as it should be in them, as long as it
-- does where what is due of a writer happens.
use Rattle.std.proofs.Common.{◌≡◌, ℕ, zero, suc, Bool, true, false, List, [], ◌∷◌, length, slice_get, Option, Some, None, IfSome, refl, sym, ◌∙◌, ap, subst}
use Rattle.std.specs.Prelude.{◌%◌, if◌then◌else◌}
use Rattle.hd_base.specs.declared.numbers.BlockId.{BlockId}
use Rattle.rand_pcg.specs.Pcg.{pcg32}
use Rattle.writer_core.specs.declared.commands.Command.{Command}
use Rattle.play_model.specs.declared.dues.Due.{Due}
use Rattle.play_model.specs.declared.dues.Due.TheVariants as due
use Rattle.play_model.specs.States.{PlayState, world_of}
use Rattle.play_model.specs.Dues.{is_due, dues, after_due}
use Rattle.play_model.specs.Faults.{befalls}
use Rattle.play_model.specs.Draws.{drawn, happened, advanced, drawn_from, draw, draws}
use Rattle.play_model.specs.Laws.{IsListed}
use Rattle.play_model.specs.Lines.{stepped}
use Rattle.play_model.proofs.ListedLemmas.{listed_due}
use Rattle.play_completeness.specs.Complete.{KeepsMembers}
use Rattle.play_completeness.specs.Keeping.{PlayedOn}
use Rattle.play_completeness.specs.Played.{Played}
use Rattle.play_completeness.proofs.Keeping.{conns-keep, readers-keep}
use Rattle.play_completeness.proofs.OwnFacts.{own-keeps}
use Rattle.play_completeness.proofs.Plays.{Among, none-recovered}
use Rattle.play_completeness.proofs.Unarmed.{befalls-due}

-- DRAWS

module _ (P : PlayState → Type 0) (happens : (p : PlayState) (d : Due) → P p → is_due (world_of p) p.queues d ≡ true → Among p d → P (after_due p d)) (words : (p : PlayState) → P p → P (advanced p)) (unarmed : (p : PlayState) → P p → (n : ℕ) → p.faults n ≡ 0) where
  -- where no write is to fail
  befalls-keeps : (p : PlayState) (d : Due) → P p → is_due (world_of p) p.queues d ≡ true → Among p d → P (befalls p d)
  befalls-keeps p d h is asked = subst P (sym (befalls-due p d (unarmed p h))) (happens p d h is asked)

  happened-keeps : (blocks : List ℕ) (p : PlayState) (o : Option Due) → ((d : Due) → o ≡ Some d → IsListed blocks p d) → P p → P (happened p o)
  happened-keeps blocks p None is h = h
  happened-keeps blocks p (Some d) is h = befalls-keeps p d h (is d refl).is ((is d refl).asked, (is d refl).recovers)

  -- what is drawn is due
  drawn-is : (blocks : List ℕ) (p : PlayState) (ds : List Due) → dues blocks p ≡ ds → (word : ℕ) (d : Due) → drawn ds word ≡ Some d → IsListed blocks (advanced p) d
  drawn-is blocks p ds are word d found =
      let z = listed_due blocks p (word % length ds) d (ap (λ (xs : List Due). slice_get xs (word % length ds)) are ∙ found) in
      record { is = z.is; among = z.among; asked = z.asked; recovers = z.recovers }

  drawn-keeps : (blocks : List ℕ) (p : PlayState) (ds : List Due) → dues blocks p ≡ ds → P p → P (drawn_from ds p)
  drawn-keeps blocks p [] are h = h
  drawn-keeps blocks p (d ∷ ds) are h =
      happened-keeps blocks (advanced p) (drawn (d ∷ ds) (pcg32 p.generator).0) (λ x found. drawn-is blocks p (d ∷ ds) are (pcg32 p.generator).0 x found) (words p h)

  pub draws-keep : (blocks : List ℕ) (count : ℕ) (p : PlayState) → P p → P (draws blocks count p)
  draws-keep blocks zero p h = h
  draws-keep blocks (suc count) p h = draws-keep blocks count (draw blocks p) (drawn-keeps blocks p (dues blocks p) refl h)

  -- a named event happens where it is due
  pub stepped-keeps : (p : PlayState) (o : Option Due) → IfSome o (Among p) → P p → P (stepped p o)
  stepped-keeps p None asked h = h
  stepped-keeps p (Some d) asked h = go (is_due (world_of p) p.queues d) refl
    where
      go : (q : Bool) → is_due (world_of p) p.queues d ≡ q → P (if q then befalls p d else p)
      go true is = befalls-keeps p d h is asked
      go false is = h

-- PLAYS

-- A play stays as it should be where what is due of a writer happens, as long as each append among the commands of its
-- block names the members of the create.
abbrev pub OwnKeepsPlays : Type 0
OwnKeepsPlays = (p : PlayState) (commands : ℕ → List Command) (b : BlockId) → KeepsMembers (commands b.0) → PlayedOn p commands → is_due (world_of p) p.queues (due.Own b) ≡ true → Played (after_due p (due.Own b)) commands

-- whatever is due
pub due-keeps : OwnKeepsPlays → (commands : ℕ → List Command) → ((b : ℕ) → KeepsMembers (commands b)) → (p : PlayState) (d : Due) → PlayedOn p commands → is_due (world_of p) p.queues d ≡ true → Among p d → PlayedOn (after_due p d) commands
due-keeps own commands members p (due.Own b) h is asked =
    let facts = own-keeps p commands b h.played h.names h.ruled in
    record { played = own p commands b (members b.0) h is; names = facts.0; ruled = facts.1 }
due-keeps own commands members p (due.Reader ask) h is asked = readers-keep p commands ask h
due-keeps own commands members p (due.Primary r) h is asked = none-recovered p.recoveries r h.played.recoveries asked.1
due-keeps own commands members p (due.Down c) h is asked = conns-keep p commands (due.Down c) h is tt
due-keeps own commands members p (due.Ready c) h is asked = conns-keep p commands (due.Ready c) h is tt
due-keeps own commands members p (due.Up c) h is asked = conns-keep p commands (due.Up c) h is tt

-- a word that is taken from the generator
pub advanced-keeps : (commands : ℕ → List Command) (p : PlayState) → PlayedOn p commands → PlayedOn (advanced p) commands
advanced-keeps commands p h = record {
  played = record { recoveries = h.played.recoveries; unarmed = h.played.unarmed; plain = h.played.plain; quiet = h.played.quiet; peaceful = h.played.peaceful; links = h.played.links; writers = h.played.writers; blocks = h.played.blocks };
  names = record { few = h.names.few; named = h.names.named };
  ruled = h.ruled;
}

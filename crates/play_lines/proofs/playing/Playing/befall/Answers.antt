-- The numbers of the nodes are what was left of them.
use Rattle.std.proofs.Common.{◌≡◌, ◌++◌, ℕ, List, drop, take, length, refl, sym, ap, ◌∙◌, subst, rules}
use Rattle.std.proofs.Math.Seq.{take-append_seam}
use Rattle.play.specs.Befalling.{BefallShows}
use Rattle.play_lines.proofs.playing.Playing.befall.Goals as goal

pub returns-clause-shows : goal.returns-clause-shows
returns-clause-shows g c =
    let old = c.args.self.now.faults in
    let new = c.befall.new.numbers in
    let given : c.as_mut_slice-numbers.result.now ≡ old.items = search rules in
    let count : old.len ≡ length new = old.ok.0 ∙ (ap length (sym given) ∙ sym c.befall.auto.numbers) in
    let all : new ≡ take old.len (new ++ drop (length new) old.items) =
    sym (ap (λ (k : ℕ). take k (new ++ drop (length new) old.items)) count ∙ take-append_seam new (drop (length new) old.items)) in
    subst (λ (xs : List ℕ). BefallShows g.F.Files g.R.Roads g.I.LinkIn g.O.LinkOut c.args.due old.items xs c.args.self.now.player c.befall.new.self c.args.roads.now c.befall.new.roads c.befall.result) all
    (subst (λ (xs : List ℕ). BefallShows g.F.Files g.R.Roads g.I.LinkIn g.O.LinkOut c.args.due xs new c.args.self.now.player c.befall.new.self c.args.roads.now c.befall.new.roads c.befall.result) given c.befall.ensures.shows)

pub returns-clause-rest : goal.returns-clause-rest
returns-clause-rest g c =
    let old = c.args.self.now.faults in
    let new = c.befall.new.numbers in
    let given : c.as_mut_slice-numbers.result.now ≡ old.items = search rules in
    let count : old.len ≡ length new = old.ok.0 ∙ (ap length (sym given) ∙ sym c.befall.auto.numbers) in
    record {
      same = refl;
      count = ap length (ap (λ (k : ℕ). take k (new ++ drop (length new) old.items)) count ∙ take-append_seam new (drop (length new) old.items)) ∙ (sym count ∙ old.ok.0);
    }

-- What was made of an end is in its place, and so is the connection to its mirror.
use Rattle.std.proofs.Common.{◌≡◌, Some, None, Ok, Err, refl, sym, subst, rules}
use Rattle.play_nodes.specs.Places.{AddsReached, AddsDial}
use Rattle.play_nodes.proofs.PlaceLaws.{put_within}
use Rattle.play_nodes.proofs.SizeLaws.{put_sizes, sizes_after}
use Rattle.play_nodes.proofs.nodes.Nodes.settle.Goals as goal

pub add-requires : goal.add-requires
add-requires g c = put_within c.args.self.now c.put_back.new.self c.args.seat c.args.joined.member c.put_back.ensures c.requires

pub returns-in-NotDialled-clause-settled : goal.returns-in-NotDialled-clause-settled
returns-in-NotDialled-clause-settled g c = record {
  middle = c.put_back.new.self;
  put = c.put_back.ensures;
  adds = subst (λ x. AddsDial c.put_back.new.self c.put_back.new.self c.args.seat c.args.next c.args.mirror x (Ok None)) (sym c.in-NotDialled.is) (refl, refl);
}

pub returns-in-Unanswered-clause-settled : goal.returns-in-Unanswered-clause-settled
returns-in-Unanswered-clause-settled g c = record {
  middle = c.put_back.new.self;
  put = c.put_back.ensures;
  adds = subst (λ x. AddsDial c.put_back.new.self c.put_back.new.self c.args.seat c.args.next c.args.mirror x (Ok (Some c.args.mirror))) (sym c.in-Unanswered.is) (refl, refl);
}

pub returns-in_ok-add-in-Reached-clause-settled : goal.returns-in_ok-add-in-Reached-clause-settled
returns-in_ok-add-in-Reached-clause-settled g c = record {
  middle = c.put_back.new.self;
  put = c.put_back.ensures;
  adds = subst (λ x. AddsDial c.put_back.new.self c.add.new.self c.args.seat c.args.next c.args.mirror x (Ok None)) (sym c.in-Reached.is) (refl, rw c.in-Reached.is at c.in_ok-add-in-Reached.ensures.adds);
}

pub returns-in_err-add-in-Reached-clause-settled : goal.returns-in_err-add-in-Reached-clause-settled
returns-in_err-add-in-Reached-clause-settled g c =
    let is : c.from_residual.result ≡ Err c.in_err-add-in-Reached.field-0.0 = search rules in
    record {
      middle = c.put_back.new.self;
      put = c.put_back.ensures;
      adds = subst (λ x. AddsDial c.put_back.new.self c.add.new.self c.args.seat c.args.next c.args.mirror x c.from_residual.result) (sym c.in-Reached.is)
          (subst (λ y. AddsReached c.put_back.new.self c.add.new.self c.args.seat c.args.next c.args.mirror c.in-Reached.end y) (sym is) c.in_err-add-in-Reached.ensures.adds);
    }

pub returns-in-NotDialled-clause-sizes : goal.returns-in-NotDialled-clause-sizes
returns-in-NotDialled-clause-sizes g c = put_sizes c.args.self.now c.put_back.new.self c.args.seat c.args.joined.member c.put_back.ensures

pub returns-in-Unanswered-clause-sizes : goal.returns-in-Unanswered-clause-sizes
returns-in-Unanswered-clause-sizes g c = put_sizes c.args.self.now c.put_back.new.self c.args.seat c.args.joined.member c.put_back.ensures

pub returns-in_ok-add-in-Reached-clause-sizes : goal.returns-in_ok-add-in-Reached-clause-sizes
returns-in_ok-add-in-Reached-clause-sizes g c =
    sizes_after c.args.self.now c.put_back.new.self c.add.new.self (put_sizes c.args.self.now c.put_back.new.self c.args.seat c.args.joined.member c.put_back.ensures) c.add.ensures.sizes

pub returns-in_err-add-in-Reached-clause-sizes : goal.returns-in_err-add-in-Reached-clause-sizes
returns-in_err-add-in-Reached-clause-sizes g c =
    sizes_after c.args.self.now c.put_back.new.self c.add.new.self (put_sizes c.args.self.now c.put_back.new.self c.args.seat c.args.joined.member c.put_back.ensures) c.add.ensures.sizes

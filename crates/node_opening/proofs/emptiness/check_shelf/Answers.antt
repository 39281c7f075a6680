-- The names that were listed tell whether there are files.
use Rattle.std.proofs.Common.{ℕ, List, slice_get, IfSome, refl, sym, ap, subst, ◌∙◌}
use Rattle.node_opening.specs.Emptiness.{IsFirstName, IsShelfFault}
use Rattle.node_opening.specs.declared.faults.OpenFault.{OpenFault}
use Rattle.node_opening.proofs.EmptyLemmas.{listed, shelf_caused, first_told, none_told}
use Rattle.node_opening.proofs.emptiness.check_shelf.Goals as goal

pub returns-in-Err : goal.returns-in-Err
returns-in-Err g c =
    let s = g.S.Shelf in
    let l = c.in-Err.ensures in (
      listed s c.args.shelf.now c.list.new.self l.files l.lent l.cause.never_falls,
      subst (λ (q : OpenFault). IsShelfFault s c.args.node c.args.shelf.now c.list.new.self q) (sym c.shelf_fault.ensures)
          (shelf_caused s c.args.node c.args.shelf.now c.list.new.self c.in-Err.error l.cause),
    )

pub returns-in-Some : goal.returns-in-Some
returns-in-Some g c =
    let s = g.S.Shelf in
    let l = c.in-Ok.ensures in (
      listed s c.args.shelf.now c.list.new.self l.files l.lent l.cause.never_falls,
      (
        refl,
        subst (λ (q : List ℕ). IfSome (s.files c.args.shelf.now) (λ m. IsFirstName m q)) (sym c.duplicate.ensures)
            (first_told (s.files c.args.shelf.now) c.in-Ok.names.items c.in-Some.name.now l.names (c.in-Some.ensures.value ∙ ap (λ (xs : List (List ℕ)). slice_get xs 0) c.deref.ensures.value)),
      ),
    )

pub returns : goal.returns
returns g c =
    let s = g.S.Shelf in
    let l = c.in-Ok.ensures in (
      listed s c.args.shelf.now c.list.new.self l.files l.lent l.cause.never_falls,
      none_told (s.files c.args.shelf.now) c.in-Ok.names.items l.names (c.in-None.ensures.value ∙ ap (λ (xs : List (List ℕ)). slice_get xs 0) c.deref.ensures.value),
    )

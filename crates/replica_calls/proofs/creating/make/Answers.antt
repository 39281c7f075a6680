-- Two files are made, and the header written.
use Rattle.std.specs.Prelude.{[], ◌∷◌, ◌++◌}
use Rattle.std.proofs.lemmas.Result.{err_from_is_err_and}
use Rattle.hd_base.specs.Calls.{Make, Write}
use Rattle.replica_calls.proofs.PerformLemmas.{ready_front, ready_next, performs_fails, performs_then}
use Rattle.replica_calls.proofs.creating.make.Goals as goal

pub returns-in_err-step : goal.returns-in_err-step
returns-in_err-step g c =
    let failed = err_from_is_err_and c.from_residual.result c.from_residual.ensures.1 in
    rw (failed.1, failed.2)
    (performs_fails g.F.Files c.args.files.now c.step.new.files (Make c.args.names.now.«data» ∷ []) ((Make c.args.names.now.meta ∷ []) ++ (Write c.args.names.now.meta 0 c.args.header.now ∷ [])) _ c.in_err-step.ensures)

pub returns-in_err-step-2 : goal.returns-in_err-step-2
returns-in_err-step-2 g c =
    let failed = err_from_is_err_and c.from_residual-in_err-step-2.result c.from_residual-in_err-step-2.ensures.1 in
    rw (failed.1, failed.2)
    (performs_then g.F.Files c.args.files.now c.step.new.files c.step-2.new.files (Make c.args.names.now.«data» ∷ []) ((Make c.args.names.now.meta ∷ []) ++ (Write c.args.names.now.meta 0 c.args.header.now ∷ [])) _ _ c.in_ok-step.ensures
    (performs_fails g.F.Files c.step.new.files c.step-2.new.files (Make c.args.names.now.meta ∷ []) (Write c.args.names.now.meta 0 c.args.header.now ∷ []) _ c.in_err-step-2.ensures))

pub returns : goal.returns
returns g c =
    performs_then g.F.Files c.args.files.now c.step.new.files c.step-3.new.files (Make c.args.names.now.«data» ∷ []) ((Make c.args.names.now.meta ∷ []) ++ (Write c.args.names.now.meta 0 c.args.header.now ∷ [])) _ c.step-3.result c.in_ok-step.ensures
    (performs_then g.F.Files c.step.new.files c.step-2.new.files c.step-3.new.files (Make c.args.names.now.meta ∷ []) (Write c.args.names.now.meta 0 c.args.header.now ∷ []) _ c.step-3.result c.in_ok-step-2.ensures c.step-3.ensures)

pub step-requires-2 : goal.step-requires-2
step-requires-2 g c =
    let rest = ready_next g.F.Files c.args.files.now c.step.new.files (Make c.args.names.now.«data» ∷ []) (Make c.args.names.now.meta ∷ Write c.args.names.now.meta 0 c.args.header.now ∷ []) _ c.requires c.in_ok-step.ensures in
    ready_front g.F.Files c.step.new.files (Make c.args.names.now.meta ∷ []) (Write c.args.names.now.meta 0 c.args.header.now ∷ []) rest

pub step-requires-3 : goal.step-requires-3
step-requires-3 g c =
    let rest = ready_next g.F.Files c.args.files.now c.step.new.files (Make c.args.names.now.«data» ∷ []) (Make c.args.names.now.meta ∷ Write c.args.names.now.meta 0 c.args.header.now ∷ []) _ c.requires c.in_ok-step.ensures in
    ready_next g.F.Files c.step.new.files c.step-2.new.files (Make c.args.names.now.meta ∷ []) (Write c.args.names.now.meta 0 c.args.header.now ∷ []) _ rest c.in_ok-step-2.ensures

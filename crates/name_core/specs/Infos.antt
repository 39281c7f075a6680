-- What a block recovery learns of replicas.
use Rattle.std.specs.Prelude.{◌≢◌, List, AllPairs}
use Rattle.name_core.specs.declared.infos.Info.{Info}

-- no node stands twice
abbrev pub NodesDiffer : List Info → Type 0
NodesDiffer infos = AllPairs (λ a b. a.node ≢ b.node) infos

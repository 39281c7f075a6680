-- Two tests of the same.
use Rattle.std.proofs.Common.{◌≡◌, ap, ◌∙◌}
use Rattle.std.specs.Bool.{Decides}
use Rattle.std.specs.Prelude.{decimal}
use Rattle.std.proofs.lemmas.Bool.Decides.{same_from_decides}
use Rattle.std.proofs.lemmas.Slice.Eq.{bytes_eq-Decides}
use Rattle.node_refs.specs.NodeRefs.{port_of}
use Rattle.pipe_recovery.specs.Naming.{address_of, is_address}
use Rattle.pipe_recovery.proofs.naming.has_address.Goals as goal

pub returns : goal.returns
unfolding is_address
returns c =
    let e : c.as_bytes.result.now ≡ decimal (port_of c.args.node) = c.as_bytes.ensures.value ∙ c.format.ensures.text ∙ ap decimal c.port.ensures in
    let same : Decides c.is_joined.result (address_of c.args.node ≡ c.args.text.now) = rw e at c.is_joined.ensures in
    same_from_decides _ _ same (bytes_eq-Decides _ _)

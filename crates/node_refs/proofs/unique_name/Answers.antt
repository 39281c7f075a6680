-- The text is that of the node's number.
use Rattle.std.proofs.Common.{◌≡◌, ◌+◌, ◌∙◌, ap, subst, IfOk}
use Rattle.std.specs.Int.{w128, to_be_bytes}
use Rattle.uuid.specs.Text.{hyphenated_text, lower}
use Rattle.node_refs.specs.declared.TheConstants.{FIRST_UUID}
use Rattle.node_refs.specs.NodeRefs.{uuid_of}
use Rattle.node_refs.proofs.unique_name.Goals as goal

pub returns : goal.returns
returns c =
    let number = c.hyphenated-name.ensures ∙ c.from_u128.ensures ∙ ap (λ n. to_be_bytes w128 (FIRST_UUID + n)) c.from.ensures in
    let text : c.as_bytes.result.now ≡ uuid_of c.args.node = c.as_bytes.ensures.value ∙ c.encode_lower-text.ensures.text ∙ ap (hyphenated_text lower) number in
    subst (λ t. IfOk c.from_slice.result (λ name. name ≡ t)) text c.from_slice.ensures

-- The first member of which this is the address is found.
use Rattle.std.proofs.Common.{◌≡◌, option_map, Bor, ◌∙◌, rules, tests}
use Rattle.std.proofs.lemmas.Iterator.{YieldsList-from_slice}
use Rattle.std.proofs.lemmas.Iterator.Search.{find_from_yields_List}
use Rattle.hd_base.specs.declared.numbers.NodeId.{NodeId}
use Rattle.pipe_recovery.specs.Naming.{is_address, named_member}
use Rattle.pipe_recovery.proofs.naming.named_member.Goals as goal

pub returns-in_err-member : goal.returns-in_err-member
returns-in_err-member c =
    let found : option_map (λ (m : Bor NodeId). m.now) c.find.result ≡ named_member c.args.members.now c.args.text.now =
    find_from_yields_List (is_address c.args.text.now) _ _ c.find.result c.find.ensures.ran (YieldsList-from_slice c.args.members.now cc) (λ x b q k. search (rules, tests)) in
    c.from_residual.ensures ∙ rw c.in_err-member.was at found

pub returns : goal.returns
returns c =
    let found : option_map (λ (m : Bor NodeId). m.now) c.find.result ≡ named_member c.args.members.now c.args.text.now =
    find_from_yields_List (is_address c.args.text.now) _ _ c.find.result c.find.ensures.ran (YieldsList-from_slice c.args.members.now cc) (λ x b q k. search (rules, tests)) in
    rw c.in_ok-member.was at found

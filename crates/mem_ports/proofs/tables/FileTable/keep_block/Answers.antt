-- Some of the entries stay.
use Rattle.std.proofs.Common.{◌≡◌, rules, ap, ◌∙◌}
use Rattle.std.proofs.lemmas.Fn.{filter_same}
use Rattle.hd_base.specs.Blocks.{is_of_block}
use Rattle.mem_ports.specs.Entries.{names_apart, of_block}
use Rattle.mem_ports.proofs.EntryLaws.{apart-of_block}
use Rattle.mem_ports.proofs.tables.FileTable.keep_block.Goals as goal

pub returns : goal.returns
returns c = filter_same _ (λ e. is_of_block c.args.block.0 e.name) _ (λ x b q k. search rules) _ _ c.retain.ensures.filtered

pub invariant_of-self : goal.invariant_of-self
invariant_of-self c =
    let kept : c.retain.new.self.items ≡ of_block c.args.block.0 c.args.self.now.entries.items =
    filter_same _ (λ e. is_of_block c.args.block.0 e.name) _ (λ x b q k. search rules) _ _ c.retain.ensures.filtered in
    record { apart = ap names_apart kept ∙ apart-of_block c.args.block.0 c.args.self.now.entries.items c.args.self.now.apart }

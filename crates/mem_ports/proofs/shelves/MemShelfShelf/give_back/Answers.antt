-- The block's slot takes its files back.
use Rattle.std.proofs.Common.{◌≡◌, true, Some, arith, ap, sym, refl, ◌∙◌, []}
use Rattle.std.proofs.lemmas.List.{nil_from_length}
use Rattle.mem_ports.specs.Entries.{look, all_of_block}
use Rattle.mem_ports.proofs.EntryLaws.{look-of_block, all-of_block}
use Rattle.mem_ports.proofs.SlotLaws.{block-at, lent-at, lent-written, apart-written, others-kept, files-back, lent-nowhere}
use Rattle.mem_ports.proofs.shelves.MemShelfShelf.give_back.Goals as goal

pub invariant_of-slot : goal.invariant_of-slot
invariant_of-slot c = record {
  own = ap (λ b. all_of_block b c.keep_block.new.self.entries.items) (block-at c.args.self.now.slots.items c.args.block.0 c.in-Some.place c.index_mut-slot.result.now c.in-Some.ensures.place c.index_mut-slot.ensures.value) ∙ ap (all_of_block c.args.block.0) c.keep_block.ensures ∙ all-of_block c.args.block.0 c.args.drawer.table.entries.items;
  out = λ e. absurd (cc e);
}

pub invariant_of-self : goal.invariant_of-self
invariant_of-self c =
    record { apart = apart-written c.args.self.now.slots.items c.args.block.0 c.in-Some.place c.index_mut-slot.result.now _ c.in-Some.ensures.place c.index_mut-slot.ensures.value refl c.args.self.now.apart }

pub returns-clause-files : goal.returns-clause-files
returns-clause-files c =
    let old = c.index_mut-slot.result.now in
    let lent : old.lent ≡ true = sym (lent-at c.args.self.now.slots.items c.args.block.0 c.in-Some.place c.index_mut-slot.result.now c.in-Some.ensures.place c.index_mut-slot.ensures.value) ∙ c.requires in
    let empty : old.table.entries.items ≡ [] = nil_from_length old.table.entries.items (omega (arith, old.out lent, old.table.entries.ok.0)) in
    λ only. ap Some (files-back c.args.self.now.slots.items c.args.block.0 c.in-Some.place c.index_mut-slot.result.now _ (look c.args.drawer.table.entries.items) c.in-Some.ensures.place c.index_mut-slot.ensures.value refl empty (λ name own. ap (λ es. look es name) c.keep_block.ensures ∙ look-of_block c.args.block.0 c.args.drawer.table.entries.items name own) only)

pub returns-clause-others : goal.returns-clause-others
returns-clause-others c = others-kept c.args.self.now.slots.items c.args.block.0 c.in-Some.place c.index_mut-slot.result.now _ c.in-Some.ensures.place c.index_mut-slot.ensures.value refl

pub returns-clause-lent : goal.returns-clause-lent
returns-clause-lent c = lent-written c.args.self.now.slots.items c.args.block.0 c.in-Some.place c.index_mut-slot.result.now _ c.in-Some.ensures.place c.index_mut-slot.ensures.value refl

pub unreachable-requires : goal.unreachable-requires
unreachable-requires c = cc (lent-nowhere c.args.self.now.slots.items c.args.block.0 c.in_default.ensures.place, c.requires)

-- The block's slot gives its files.
use Rattle.std.proofs.Common.{true, Some, ap, refl, ◌∙◌}
use Rattle.mem_ports.specs.Entries.{look}
use Rattle.hd_base.specs.FileMaps.{part_of, rest_of, marked}
use Rattle.mem_ports.proofs.SlotLaws.{lent-written, apart-written, files-lent, files-left}
use Rattle.mem_ports.proofs.shelves.MemShelfShelf.lend.Goals as goal

pub invariant_of-self : goal.invariant_of-self
invariant_of-self c =
    record { apart = apart-written c.slot.new.self.slots.items c.args.block.0 c.in_ok-place.place c.index_mut-slot.result.now _ c.in_ok-place.ensures.place c.index_mut-slot.ensures.value refl c.slot.new.self.apart }

pub returns-clause-drawer : goal.returns-clause-drawer
returns-clause-drawer c =
    ap Some (ap (λ t. look t.entries.items) c.replace-table.ensures.value ∙ files-lent c.slot.new.self.slots.items c.args.block.0 c.in_ok-place.place c.index_mut-slot.result.now c.in_ok-place.ensures.place c.index_mut-slot.ensures.value ∙ ap (part_of c.args.block.0) c.in_ok-place.ensures.files)

pub returns-clause-rest : goal.returns-clause-rest
returns-clause-rest c =
    ap Some (files-left c.slot.new.self.slots.items c.args.block.0 c.in_ok-place.place c.index_mut-slot.result.now _ c.in_ok-place.ensures.place c.index_mut-slot.ensures.value refl (ap (λ t. t.entries.items) c.replace-table.ensures.after ∙ c.new.ensures) ∙ ap (rest_of c.args.block.0) c.in_ok-place.ensures.files)

pub returns-clause-lent : goal.returns-clause-lent
returns-clause-lent c =
    lent-written c.slot.new.self.slots.items c.args.block.0 c.in_ok-place.place c.index_mut-slot.result.now _ c.in_ok-place.ensures.place c.index_mut-slot.ensures.value refl ∙ ap (λ l. marked l c.args.block.0 true) c.in_ok-place.ensures.lent

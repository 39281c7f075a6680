-- The names of the files are listed.
use Rattle.std.proofs.Common.{◌≡◌, ap, ◌∙◌, arith, append-nil}
use Rattle.std.proofs.lemmas.Grind.{common_steps}
use Rattle.std.proofs.lemmas.List.{drop_all}
use Rattle.std.specs.Str.{bytes_eq}
use Rattle.mem_ports.specs.Apart.{is_among}
use Rattle.mem_ports.specs.Slots.{files_of, present_in}
use Rattle.mem_ports.proofs.NameLaws.{names_by}
use Rattle.mem_ports.proofs.SlotLaws.{present_in-files_of}
use Rattle.mem_ports.proofs.shelves.MemShelf.listed.Goals as goal

pub returns : goal.returns
returns c =
    let slots = c.args.self.now.slots.items in
    let names : c.loop-slot.names.items ≡ present_in slots = grind (arith, common_steps, drop_all, append-nil) in
    record {
      names = names_by c.in_order.result c.loop-slot.names.items (files_of slots) c.in_order.ensures.each c.in_order.ensures.ascending
          (λ name. ap (λ ns. is_among bytes_eq ns name) names ∙ present_in-files_of slots name c.args.self.now.apart);
    }

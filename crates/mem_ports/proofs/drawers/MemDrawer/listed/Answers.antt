-- The names of the files are listed.
use Rattle.std.proofs.Common.{◌≡◌, ◌++◌, ap, ◌∙◌}
use Rattle.std.specs.Str.{bytes_eq}
use Rattle.mem_ports.specs.Apart.{is_among}
use Rattle.mem_ports.specs.Entries.{look, present}
use Rattle.mem_ports.proofs.NameLaws.{names_by}
use Rattle.mem_ports.proofs.EntryLaws.{present-look}
use Rattle.mem_ports.proofs.drawers.MemDrawer.listed.Goals as goal

pub returns : goal.returns
returns c =
    let entries = c.args.self.now.table.entries.items in
    let names : c.push_names.new.names.items ≡ present entries =
    c.in_ok-push_names.ensures ∙ ap (λ l. l ++ present c.deref.result.now) c.new-names.ensures.items ∙ ap present c.deref.ensures.value in
    record {
      names = names_by c.in_order.result c.push_names.new.names.items (look entries) c.in_order.ensures.each c.in_order.ensures.ascending
          (λ name. ap (λ ns. is_among bytes_eq ns name) names ∙ present-look entries name c.args.self.now.table.apart);
    }

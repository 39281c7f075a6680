-- The two names change places.
use Rattle.std.proofs.Common.{◌≡◌, arith, ap, sym, ◌∙◌}
use Rattle.mem_ports.specs.Entries.{look, space, names_apart}
use Rattle.hd_base.specs.FileMaps.{moved}
use Rattle.mem_ports.proofs.EntryLaws.{same_name}
use Rattle.mem_ports.proofs.RenameLaws.{apart-renamed, look-renamed, space-renamed, moved-same}
use Rattle.mem_ports.proofs.tables.FileTable.rename.Goals as goal

pub invariant_of-self : goal.invariant_of-self
invariant_of-self c =
    record { apart = ap (λ es. names_apart es) c.rename_entries.ensures ∙ apart-renamed c.args.from.now c.args.to.now c.args.self.now.entries.items c.args.self.now.apart }

pub returns-then-eq-clause-files : goal.returns-then-eq-clause-files
returns-then-eq-clause-files c =
    let same : c.args.from.now ≡ c.args.to.now = same_name _ _ (sym c.eq.ensures ∙ c.if-eq.true) in
    sym (ap (λ n. moved (look c.args.self.now.entries.items) n c.args.to.now) same ∙ moved-same (look c.args.self.now.entries.items) c.args.to.now)

pub returns-then-eq-clause-room : goal.returns-then-eq-clause-room
returns-then-eq-clause-room c =
    let same : c.args.from.now ≡ c.args.to.now = same_name _ _ (sym c.eq.ensures ∙ c.if-eq.true) in
    record { carried = let room = ap (space c.args.self.now.entries.items) same in omega (arith, room); others = λ q f t. omega arith }

pub returns-clause-files : goal.returns-clause-files
returns-clause-files c =
    ap look c.rename_entries.ensures ∙ look-renamed c.args.from.now c.args.to.now c.args.self.now.entries.items (sym c.eq.ensures ∙ c.if-eq.false)

pub returns-clause-room : goal.returns-clause-room
returns-clause-room c =
    rw c.rename_entries.ensures (space-renamed c.args.from.now c.args.to.now c.args.self.now.entries.items (sym c.eq.ensures ∙ c.if-eq.false))

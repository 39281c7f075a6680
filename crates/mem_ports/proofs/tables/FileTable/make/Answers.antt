-- The entry at the name's place was changed.
use Rattle.std.proofs.Common.{Some, [], arith, ap, refl}
use Rattle.mem_ports.proofs.EntryLaws.{look-written, room-written, apart-written, space-nowhere}
use Rattle.mem_ports.proofs.tables.FileTable.make.Goals as goal

pub invariant_of-self : goal.invariant_of-self
invariant_of-self c =
    record { apart = apart-written c.args.self.now.entries.items c.args.name.now c.in-Some.place c.index_mut-entry.result.now _ c.in-Some.ensures.place c.index_mut-entry.ensures.value refl c.args.self.now.apart }

pub returns-in-Some-clause-files : goal.returns-in-Some-clause-files
returns-in-Some-clause-files c =
    look-written c.args.self.now.entries.items c.args.name.now c.in-Some.place c.index_mut-entry.result.now _ (Some []) c.in-Some.ensures.place c.index_mut-entry.ensures.value refl (ap Some c.clear.ensures.items)

pub returns-in-Some-clause-room : goal.returns-in-Some-clause-room
returns-in-Some-clause-room c =
    room-written c.args.self.now.entries.items c.args.name.now c.in-Some.place c.index_mut-entry.result.now _ c.in-Some.ensures.place c.index_mut-entry.ensures.value refl (omega (arith, c.clear.ensures.capacity))

pub returns-in_default-clause-files : goal.returns-in_default-clause-files
returns-in_default-clause-files c =
    absurd (omega (arith, space-nowhere c.args.self.now.entries.items c.args.name.now c.in_default.ensures.place, c.requires))

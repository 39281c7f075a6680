-- The entry at the name's place was changed.
use Rattle.std.proofs.Common.{take, arith, refl}
use Rattle.mem_ports.proofs.EntryLaws.{look-changed, room-written, apart-written, look-nowhere}
use Rattle.mem_ports.proofs.tables.FileTable.cut.Goals as goal

pub invariant_of-self : goal.invariant_of-self
invariant_of-self c =
    record { apart = apart-written c.args.self.now.entries.items c.args.name.now c.in-Some.found c.index_mut-entry.result.now _ c.in-Some.ensures.place c.index_mut-entry.ensures.value refl c.args.self.now.apart }

pub returns-in-Some-clause-files : goal.returns-in-Some-clause-files
returns-in-Some-clause-files c =
    look-changed c.args.self.now.entries.items c.args.name.now c.in-Some.found c.index_mut-entry.result.now _ (take c.args.len) c.in-Some.ensures.place c.index_mut-entry.ensures.value refl refl c.truncate.ensures.items

pub returns-in-Some-clause-room : goal.returns-in-Some-clause-room
returns-in-Some-clause-room c =
    room-written c.args.self.now.entries.items c.args.name.now c.in-Some.found c.index_mut-entry.result.now _ c.in-Some.ensures.place c.index_mut-entry.ensures.value refl (omega (arith, c.truncate.ensures.capacity))

pub returns-in_default-clause-files : goal.returns-in_default-clause-files
returns-in_default-clause-files c =
    let gone = look-nowhere c.args.self.now.entries.items c.args.name.now c.in_default.ensures.place in absurd (cc (rw gone at c.requires))

-- The entry at the name's place was changed.
use Rattle.std.proofs.Common.{arith, refl}
use Rattle.hd_base.specs.FileMaps.{overwritten}
use Rattle.mem_ports.proofs.EntryLaws.{space-at, look-changed, room-written, apart-written, look-nowhere, place-fits}
use Rattle.mem_ports.proofs.tables.FileTable.write_at.Goals as goal

pub invariant_of-self : goal.invariant_of-self
invariant_of-self c =
    record { apart = apart-written c.args.self.now.entries.items c.args.name.now c.in-Some.found c.index_mut-entry.result.now _ c.in-Some.ensures.place c.index_mut-entry.ensures.value refl c.args.self.now.apart }

pub returns-in-Some-clause-files : goal.returns-in-Some-clause-files
returns-in-Some-clause-files c =
    look-changed c.args.self.now.entries.items c.args.name.now c.in-Some.found c.index_mut-entry.result.now _ (λ b. overwritten b c.args.place c.args.piece.now) c.in-Some.ensures.place c.index_mut-entry.ensures.value refl refl c.overwrite.ensures.items

pub returns-in-Some-clause-room : goal.returns-in-Some-clause-room
returns-in-Some-clause-room c =
    room-written c.args.self.now.entries.items c.args.name.now c.in-Some.found c.index_mut-entry.result.now _ c.in-Some.ensures.place c.index_mut-entry.ensures.value refl c.overwrite.ensures.capacity

pub returns-in_default-clause-files : goal.returns-in_default-clause-files
returns-in_default-clause-files c =
    let gone = look-nowhere c.args.self.now.entries.items c.args.name.now c.in_default.ensures.place in absurd (cc (rw gone at c.requires.there))

pub overwrite-requires-clause-within : goal.overwrite-requires-clause-within
overwrite-requires-clause-within c =
    omega (arith, place-fits c.args.self.now.entries.items c.args.name.now c.in-Some.found c.index_mut-entry.result.now c.args.place c.in-Some.ensures.place c.index_mut-entry.ensures.value c.requires.place c.requires.there, c.index_mut-entry.result.now.bytes.ok.0)

pub overwrite-requires-clause-room : goal.overwrite-requires-clause-room
overwrite-requires-clause-room c =
    omega (arith, space-at c.args.self.now.entries.items c.args.name.now c.in-Some.found c.index_mut-entry.result.now c.in-Some.ensures.place c.index_mut-entry.ensures.value, c.requires.room)

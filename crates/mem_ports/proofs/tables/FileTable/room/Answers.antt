-- The entry at the name's place, or a new one behind all others, has the room.
use Rattle.std.proofs.Common.{◌≡◌, false, Some, None, arith, ap, sym, refl, ◌∙◌, cond, [], ◌∷◌, ◌++◌}
use Rattle.std.proofs.lemmas.Result.{on_ok_weaker}
use Rattle.mem_ports.specs.declared.entries.Entry.{Entry}
use Rattle.mem_ports.specs.Entries.{look, names_apart}
use Rattle.mem_ports.proofs.EntryLaws.{look-at, look-written, update-same, room-written, apart-written, room-at, look-push, space-push, space-push_at, apart-push}
use Rattle.mem_ports.proofs.tables.FileTable.room.Goals as goal

pub invariant_of-self : goal.invariant_of-self
invariant_of-self c =
    record { apart = apart-written c.args.self.now.entries.items c.args.name.now c.in-Some.place c.index_mut.result.now _ c.in-Some.ensures.place c.index_mut.ensures.value refl c.args.self.now.apart }

pub invariant_of-self-in-None : goal.invariant_of-self-in-None
invariant_of-self-in-None c =
    let es = c.args.self.now.entries.items in
    let e : Entry = record { name = c.duplicate.result; bytes = c.in_ok-bytes-in-None.bytes; there = false } in
    let all : c.push_reserved.new.self.items ≡ es ++ e ∷ [] = c.push_reserved.ensures.items ∙ ap (λ l. l ++ e ∷ []) c.reserve-in-None.ensures.items in
    record { apart = ap (λ l. names_apart l) all ∙ apart-push es e c.args.name.now c.in-None.ensures.place c.duplicate.ensures c.args.self.now.apart }

pub returns-in-Some-clause-covers : goal.returns-in-Some-clause-covers
returns-in-Some-clause-covers c =
    let room = room-at c.args.self.now.entries.items c.args.name.now c.in-Some.place c.index_mut.result.now (record { name = c.index_mut.result.now.name; bytes = c.reserve.new.self; there = c.index_mut.result.now.there }) c.in-Some.ensures.place c.index_mut.ensures.value refl in
    on_ok_weaker c.reserve.result (λ enough. omega (arith, room, enough, c.reserve.ensures.len, c.saturating_sub.ensures, c.len.ensures)) c.reserve.ensures.ok

pub returns-in-Some-clause-files : goal.returns-in-Some-clause-files
returns-in-Some-clause-files c =
    let es = c.args.self.now.entries.items in
    let old = c.index_mut.result.now in
    let is_shown : cond old.there (Some c.reserve.new.self.items) None ≡ look es c.args.name.now =
    ap (λ b. cond old.there (Some b) None) c.reserve.ensures.items ∙ sym (look-at es c.args.name.now c.in-Some.place old c.in-Some.ensures.place c.index_mut.ensures.value) in
    look-written es c.args.name.now c.in-Some.place old _ (look es c.args.name.now) c.in-Some.ensures.place c.index_mut.ensures.value refl is_shown ∙ update-same (look es) c.args.name.now (look es c.args.name.now) refl

pub returns-in-Some-clause-room : goal.returns-in-Some-clause-room
returns-in-Some-clause-room c =
    room-written c.args.self.now.entries.items c.args.name.now c.in-Some.place c.index_mut.result.now _ c.in-Some.ensures.place c.index_mut.ensures.value refl c.reserve.ensures.capacity

pub returns-in_ok-bytes-in-None-clause-covers : goal.returns-in_ok-bytes-in-None-clause-covers
returns-in_ok-bytes-in-None-clause-covers c =
    let es = c.args.self.now.entries.items in
    let e : Entry = record { name = c.duplicate.result; bytes = c.in_ok-bytes-in-None.bytes; there = false } in
    let all : c.push_reserved.new.self.items ≡ es ++ e ∷ [] = c.push_reserved.ensures.items ∙ ap (λ l. l ++ e ∷ []) c.reserve-in-None.ensures.items in
    let room = space-push_at es e c.args.name.now c.in-None.ensures.place c.duplicate.ensures in
    rw all (omega (arith, room, c.in_ok-bytes-in-None.ensures.capacity))

pub returns-in_ok-bytes-in-None-clause-files : goal.returns-in_ok-bytes-in-None-clause-files
returns-in_ok-bytes-in-None-clause-files c =
    let es = c.args.self.now.entries.items in
    let e : Entry = record { name = c.duplicate.result; bytes = c.in_ok-bytes-in-None.bytes; there = false } in
    let all : c.push_reserved.new.self.items ≡ es ++ e ∷ [] = c.push_reserved.ensures.items ∙ ap (λ l. l ++ e ∷ []) c.reserve-in-None.ensures.items in
    ap look all ∙ look-push es e refl

pub returns-in_ok-bytes-in-None-clause-room : goal.returns-in_ok-bytes-in-None-clause-room
returns-in_ok-bytes-in-None-clause-room c =
    let es = c.args.self.now.entries.items in
    let e : Entry = record { name = c.duplicate.result; bytes = c.in_ok-bytes-in-None.bytes; there = false } in
    let all : c.push_reserved.new.self.items ≡ es ++ e ∷ [] = c.push_reserved.ensures.items ∙ ap (λ l. l ++ e ∷ []) c.reserve-in-None.ensures.items in
    rw all (space-push es e)

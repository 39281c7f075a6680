-- A new slot stands behind all others.
use Rattle.std.proofs.Common.{◌≡◌, ◌==◌, true, Some, arith, ap, refl, ◌∙◌, length}
use Rattle.std.proofs.lemmas.Bool.Decides.{nat_tests}
use Rattle.mem_ports.proofs.Places.{place-push, nowhere_found}
use Rattle.mem_ports.proofs.SlotLaws.{is_slot, files-push, lent-push, apart-push}
use Rattle.mem_ports.proofs.shelves.MemShelf.slot.Goals as goal

pub invariant_of-self-2 : goal.invariant_of-self-2
invariant_of-self-2 c =
    record { apart = rw c.push_reserved.ensures.items (rw c.reserve.ensures.items (apart-push c.args.self.now.slots.items _ c.args.block.0 c.in_default.ensures.place refl c.args.self.now.apart)) }

pub returns-clause-place : goal.returns-clause-place
returns-clause-place c =
    let here : (c.args.block.0 == c.args.block.0) ≡ true = grind (arith, nat_tests) in
    let count : c.len-place.result ≡ length c.args.self.now.slots.items = omega (arith, c.len-place.ensures, c.reserve.ensures.len, c.args.self.now.slots.ok.0) in
    rw c.push_reserved.ensures.items (rw c.reserve.ensures.items (ap Some count ∙ place-push (is_slot c.args.block.0) c.args.self.now.slots.items _ (nowhere_found (is_slot c.args.block.0) c.args.self.now.slots.items c.in_default.ensures.place) here))

pub returns-clause-files : goal.returns-clause-files
returns-clause-files c = rw c.push_reserved.ensures.items (rw c.reserve.ensures.items (files-push c.args.self.now.slots.items _ c.new.ensures))

pub returns-clause-lent : goal.returns-clause-lent
returns-clause-lent c = rw c.push_reserved.ensures.items (rw c.reserve.ensures.items (lent-push c.args.self.now.slots.items _ refl))

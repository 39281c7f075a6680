-- The block stands before the first that is greater.
use Rattle.std.proofs.Common.{◌≤◌, ℕ, length, ◌∙◌, sym, ap, subst}
use Rattle.play_scripts.proofs.Placed.{place_for, within, put_there}
use Rattle.play_scripts.proofs.blocks.put.Goals as goal

pub insert-requires : goal.insert-requires
insert-requires c =
    let xs = c.args.blocks.now.items in
    let n = c.unwrap_or-place.result in
    let at = place_for c.args.block.0 xs c.deref.result.now c.first_greater.result n c.len.result _ c.unwrap_or-place.ensures c.first_greater.ensures c.deref.ensures.value c.len.ensures c.deref.ensures.len in
    subst (λ (l : ℕ). n ≤ l) (sym (ap length c.deref.ensures.value) ∙ c.deref.ensures.len) (within c.args.block.0 xs n at)

pub returns : goal.returns
returns c =
    let xs = c.args.blocks.now.items in
    let n = c.unwrap_or-place.result in
    let at = place_for c.args.block.0 xs c.deref.result.now c.first_greater.result n c.len.result _ c.unwrap_or-place.ensures c.first_greater.ensures c.deref.ensures.value c.len.ensures c.deref.ensures.len in
    put_there c.args.block xs c.insert.new.self.items n at c.in_ok-insert.ensures.items

-- The rule was kept, and one more block is open.
use Rattle.std.proofs.Common.{◌≡◌, nat_cmp, nat_lt, true, false, Ok, sym, ◌∙◌, ap, arith}
use Rattle.std.specs.BTreeMap.{get}
use Rattle.std.proofs.lemmas.Bool.Decides.{nat_tests}
use Rattle.script_lang.specs.Fits.{is_created, most_blocks}
use Rattle.script_lang.proofs.progress.Progress.create.Goals as goal

pub returns : goal.returns
returns c =
    let made : is_created (get nat_cmp c.args.self.now.blocks c.args.block.0) ≡ false = sym c.is_created.ensures ∙ c.if-is_created.false in
    let few : nat_lt c.args.self.now.created most_blocks ≡ true = grind (arith, nat_tests, c.if-self-ge-MAX_BLOCKS.false) in
    rw made (rw few (ap Ok (sym c.in_ok-set_stage.ensures)))

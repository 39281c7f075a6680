-- One line more.
use Rattle.std.proofs.Common.{◌∙◌, ap}
use Rattle.std.proofs.lemmas.List.{take_all}
use Rattle.play_laws.specs.PlayModel.Lines.{blocks_of}
use Rattle.play_scripts.specs.Blocks.{numbers}
use Rattle.play_scripts.proofs.Placed.{one_created, none_created}
use Rattle.play_scripts.proofs.Distinct.{are_blocks}
use Rattle.play_scripts.proofs.blocks.blocks_of.Goals.{in-Create+in_ok-put, in_default}
use Rattle.play_scripts.proofs.blocks.blocks_of.Goals as goal

pub loop-line-preserved : goal.loop-line-preserved
loop-line-preserved c =
    let lines = c.args.lines.now in
    let i = c.loop-line.line-index in
    let l = c.line-item.result in
    let old = numbers c.loop-line.blocks.items in
    elim c.match-line.branch [
      | in-Create+in_ok-put w ↦
          one_created lines i l w.in-Create.block w.in-Create.members old (numbers c.match-line.blocks.items) c.loop-line-test.true c.line-item.is w.in-Create.is c.loop-line.invariant
          (ap (λ v. numbers v.items) w.blocks-is ∙ w.in_ok-put.ensures)
      | in_default w ↦
          none_created lines i l old (numbers c.match-line.blocks.items) c.loop-line-test.true c.line-item.is w.in_default.not-Create c.loop-line.invariant
          (ap (λ v. numbers v.items) w.blocks-is)
    ]

pub returns : goal.returns
returns c =
    are_blocks c.args.lines.now c.loop-line.blocks.items (c.loop-line.invariant ∙ ap blocks_of (take_all c.loop-line.line-index c.args.lines.now c.loop-line-test.false))

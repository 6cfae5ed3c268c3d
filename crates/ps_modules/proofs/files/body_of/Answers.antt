use Rattle.std.proofs.Common.{rules, ◌≡◌, ◌++◌, arith}
use Rattle.ps_modules.proofs.PartsAreGathered.{none_gathered, part_gathered, part_lost, part_refused}
use Rattle.ps_modules.proofs.files.body_of.Goals as goal

pub loop-part-init : goal.loop-part-init
loop-part-init g c = none_gathered _ _ _ _ _ _ c.new-forms.ensures c.requires.taken

pub part_of-requires-clause-room : goal.part_of-requires-clause-room
part_of-requires-clause-room g c = let x = c.loop-part.invariant.room in let y = c.requires.room in omega arith

pub returns-then-is_err : goal.returns-then-is_err
returns-then-is_err g c = part_lost _ _ _ _ _ _ _ _ _ _ c.loop-part.invariant _ c.loop-part-test.true c.part-item.is _ _ c.in-Ok.more c.in-Ok.ensures

pub returns-in-Err : goal.returns-in-Err
returns-in-Err g c = part_refused _ _ _ _ _ _ _ _ _ _ c.loop-part.invariant _ c.loop-part-test.true c.part-item.is c.part_of.new.names _ c.in-Err.refusal c.in-Err.ensures

pub loop-part-preserved : goal.loop-part-preserved
loop-part-preserved g c =
    let now : c.append.new.self ≡ c.loop-part.forms ++ c.in-Ok.more.forms = search rules in
    part_gathered _ _ _ _ _ _ _ _ _ _ c.loop-part.invariant _ c.loop-part-test.true c.part-item.is _ _ c.in-Ok.more c.in-Ok.ensures _ now

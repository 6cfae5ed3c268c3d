use Rattle.std.proofs.Common.{Ok, Err}
use Rattle.ps_reify.specs.InsideWork.{program_of}
use Rattle.ps_reify.proofs.WalkGoesOnAsMeant.{turn_after, ends_after, over_taken}
use Rattle.ps_reify.proofs.find.run.Goals as goal

pub loop-frame-smaller : goal.loop-frame-smaller
loop-frame-smaller g c = (turn_after (program_of c.args.image.now) c.loop-frame.walk c.take.new.walk c.turn.new.walk c.in-Some.frame (Ok c.in-Ok.field-0) c.loop-frame.invariant c.in-Some.ensures c.in-Ok.ensures).less

pub loop-frame-preserved : goal.loop-frame-preserved
loop-frame-preserved g c = (turn_after (program_of c.args.image.now) c.loop-frame.walk c.take.new.walk c.turn.new.walk c.in-Some.frame (Ok c.in-Ok.field-0) c.loop-frame.invariant c.in-Some.ensures c.in-Ok.ensures).is

pub returns-in-Err : goal.returns-in-Err
returns-in-Err g c = ends_after (program_of c.args.image.now) c.loop-frame.walk c.turn.new.walk c.in-Err.refusal (turn_after (program_of c.args.image.now) c.loop-frame.walk c.take.new.walk c.turn.new.walk c.in-Some.frame (Err c.in-Err.refusal) c.loop-frame.invariant c.in-Some.ensures c.in-Err.ensures)

pub returns : goal.returns
returns g c = over_taken (program_of c.args.image.now) c.loop-frame.walk c.take.new.walk c.loop-frame.invariant c.in_default.ensures

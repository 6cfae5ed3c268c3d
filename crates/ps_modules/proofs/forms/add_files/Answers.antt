use Rattle.std.proofs.Common.{rules, ◌≡◌, [], ◌∷◌, ◌++◌, arith}
use Rattle.ps_modules.specs.declared.shapes.Part.TheVariants as parts
use Rattle.ps_modules.specs.Shapes.{file, file_parts, each}
use Rattle.ps_modules.proofs.Gathering.{put_starts, put_goes_on, put_breaks, put_ends, says_adds}
use Rattle.ps_modules.proofs.forms.add_files.Goals as goal

pub loop-d-init : goal.loop-d-init
loop-d-init c = put_starts _ _ _ _

pub loop-d-preserved : goal.loop-d-preserved
loop-d-preserved c =
    let now : c.push.new.self ≡ c.loop-d.parts ++ parts.File c.in_ok-file.file ∷ [] = search rules in
    put_goes_on _ _ _ _ _ _ c.loop-d.invariant _ c.loop-d-test.true c.d-item.is _ c.in_ok-file.ensures _ now

pub returns-in_err-file : goal.returns-in_err-file
returns-in_err-file c =
    let all = says_adds (file c.args.names.now c.d-item.result) (each (file c.args.names.now) c.args.ds.now) (λ files. c.args.parts.now ++ file_parts files) c.loop-d.parts c.in_err-file.field-0.0
    (put_breaks _ _ _ _ _ _ c.loop-d.invariant _ c.loop-d-test.true c.d-item.is) c.in_err-file.ensures in
    search rules

pub returns : goal.returns
returns c = put_ends _ _ _ _ _ _ c.loop-d.invariant (omega arith)

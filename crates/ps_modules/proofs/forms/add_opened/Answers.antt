use Rattle.std.proofs.Common.{rules, ◌≡◌, [], ◌∷◌, ◌++◌, ◌∙◌, arith}
use Rattle.ps_modules.specs.Shapes.{symbol, each}
use Rattle.ps_modules.proofs.Gathering.{put_starts, put_goes_on, put_breaks, put_ends, says_adds, as_read}
use Rattle.ps_modules.proofs.forms.add_opened.Goals as goal

pub loop-d-init : goal.loop-d-init
loop-d-init c = put_starts _ _ _ _

pub loop-d-preserved : goal.loop-d-preserved
loop-d-preserved c =
    let now : c.push.new.self ≡ c.loop-d.opens ++ c.in_ok-name.name ∷ [] = search rules in
    put_goes_on _ _ _ _ _ _ c.loop-d.invariant _ c.loop-d-test.true c.d-item.is _ c.in_ok-name.ensures _ now

pub returns-in_err-name : goal.returns-in_err-name
returns-in_err-name c =
    let all = says_adds (symbol c.d-item.result) (each symbol c.args.ds.now) (λ names. c.args.opens.now ++ names) c.loop-d.opens c.in_err-name.field-0.0
    (put_breaks _ _ _ _ _ _ c.loop-d.invariant _ c.loop-d-test.true c.d-item.is) c.in_err-name.ensures in
    search rules

pub returns : goal.returns
returns c = as_read c.args.opens.now symbol c.args.ds.now ∙ put_ends _ _ _ _ _ _ c.loop-d.invariant (omega arith)

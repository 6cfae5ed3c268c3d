use Rattle.ps_pattern.proofs.Compilations.{compiled_is}
use Rattle.ps_pattern.proofs.compile.compile_rules.Goals as goal

pub returns-in-None : goal.returns-in-None
returns-in-None c = compiled_is c.args.form.now _ _ _ _ _ _ c.number-dots.ensures c.number-keyword.ensures c.in_ok-read_all.ensures c.in-None.is

pub returns-in-Some : goal.returns-in-Some
returns-in-Some c = compiled_is c.args.form.now _ _ _ _ _ _ c.number-dots.ensures c.number-keyword.ensures c.in_ok-read_all.ensures c.in-Some.is

use Rattle.std.proofs.Common.{refl, sym, Ok, Err}
use Rattle.std.proofs.lemmas.Bool.{eqb-true}
use Rattle.ps_base.proofs.Writing.{writes_rest, appended_empty, cut_nothing}
use Rattle.ps_base.proofs.sink.write_all.Goals as goal

pub loop-rest-preserved : goal.loop-rest-preserved
loop-rest-preserved g c = λ t r w. c.loop-rest.invariant t r (writes_rest _ _ _ _ c.in-Bytes.k _ r refl c.in-Bytes.ensures.2 w)

pub returns-in-Failed : goal.returns-in-Failed
returns-in-Failed g c = c.loop-rest.invariant _ (Err _) (cut_nothing _ _ _ c.in-Failed.ensures.0 c.in-Failed.ensures.1)

pub returns : goal.returns
returns g c = c.loop-rest.invariant _ (Ok _) (appended_empty _ _ (eqb-true _ _ (sym c.loop-rest-test.ensures)))

use Rattle.std.proofs.Common.{rules, ◌≡◌, Err, subst}
use Rattle.ps_library.specs.declared.fetching.FetchFault.TheVariants as fault
use Rattle.ps_library.specs.Fetching.{ReadsFile}
use Rattle.ps_library.proofs.Asking.{found_at, passed_at, none_has}
use Rattle.ps_library.proofs.Following.{fetches}
use Rattle.ps_library.proofs.fetching.fetch.Goals as goal

pub returns-then-not-is_absent : goal.returns-then-not-is_absent
returns-then-not-is_absent g c = fetches _ _ _ _ _ (found_at _ _ _ _ _ _ (search rules) c.loop-i.invariant.so _ _ c.index_mut.ensures.value _ (search rules) c.ask-answer.ensures)

pub loop-i-preserved : goal.loop-i-preserved
loop-i-preserved g c = let is : c.ask-answer.result ≡ Err fault.Absent = search rules in record {
  so = passed_at _ _ _ _ _ _ (search rules) c.loop-i.invariant.so _ _ c.index_mut.ensures.value (subst (ReadsFile _ _ _ _ _) is c.ask-answer.ensures);
  count = search rules;
}

pub returns : goal.returns
returns g c = fetches _ _ _ _ _ (none_has _ _ _ _ _ _ (search rules) c.loop-i.invariant.so)

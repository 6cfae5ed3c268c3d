use Rattle.std.proofs.Common.{sym, ◌∙◌, subst}
use Rattle.std.specs.List.Sorted.{IsStrictlyIncreasing}
use Rattle.std.specs.Map.{keys_of}
use Rattle.std.proofs.lemmas.List.{length-map}
use Rattle.std.proofs.lemmas.Map.Keys.{IsStrictlyIncreasing-from_sorted}
use Rattle.byte_store.specs.Inside.{seen, seen_numbered}
use Rattle.byte_store.proofs.NumbersAscend.{numbers_shown}
use Rattle.byte_store.proofs.store.Store.fixed_count.Goals as goal

pub returns-clause-count : goal.returns-clause-count
returns-clause-count g c = rw (← c.self.view_is) (c.len.ensures.len ∙ sym (length-map c.self.inside.fixed.entries seen_numbered))

pub returns-clause-ascending : goal.returns-clause-ascending
returns-clause-ascending g c =
    rw (← c.self.view_is) (subst IsStrictlyIncreasing (sym (numbers_shown seen c.self.inside.fixed.entries)) (IsStrictlyIncreasing-from_sorted (keys_of c.self.inside.fixed.entries) c.len.ensures.ordered))

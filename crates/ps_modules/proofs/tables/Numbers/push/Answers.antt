use Rattle.std.proofs.Common.{◌≡◌, ◌∷◌, ◌++◌, [], false, nat_eq, ap, sym, subst, ◌∙◌, if◌then◌else◌}
use Rattle.std.specs.List.{list_any}
use Rattle.ps_modules.specs.InsideTables.{AreNumbers}
use Rattle.ps_modules.specs.Texts.{place_in}
use Rattle.ps_modules.proofs.NumbersAreFew.{numbers_more, numbers_few}
use Rattle.ps_modules.proofs.Places.{absent}
use Rattle.ps_modules.proofs.tables.Numbers.push.Goals as goal

-- the numbers behind it
more : (c : goal.In_ok-insert_full) → c.insert_full.new.self.keys ≡ c.self.inside.numbers.keys ++ c.args.number ∷ []
more c =
    let keys = c.self.inside.numbers.keys in
    let none : list_any (nat_eq c.args.number) keys ≡ false = absent keys c.args.number (ap (λ ks. place_in ks c.args.number) c.self.view_is ∙ c.requires) in
    c.in_ok-insert_full.ensures.keys ∙ ap (λ t. if t then keys else keys ++ c.args.number ∷ []) none

are : (c : goal.In_ok-insert_full) → AreNumbers c.insert_full.new.self.keys
are c = subst AreNumbers (sym (more c)) (numbers_more c.self.inside.numbers.keys c.args.number c.self.invariant c.ranges.number.fits)

pub returns-clause-is : goal.returns-clause-is
returns-clause-is c = more c ∙ ap (λ ks. ks ++ c.args.number ∷ []) c.self.view_is

pub returns-clause-few : goal.returns-clause-few
returns-clause-few c = numbers_few c.insert_full.new.self.keys c.in_ok-insert_full.ensures.unique (are c)

pub invariant_of-self-2 : goal.invariant_of-self-2
invariant_of-self-2 c = are c

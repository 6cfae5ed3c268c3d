use Rattle.std.proofs.Common.{rules, ℕ, List, ◌∷◌, [], ◌++◌, ◌≡◌, sym, subst}
use Rattle.ps_datum.specs.declared.datum.Datum.{Datum}
use Rattle.ps_resolve.specs.declared.definition.Definition.{Definition}
use Rattle.ps_resolve.specs.InsideAnswers.{IsNotProgram}
use Rattle.ps_resolve.specs.InsideDefinitions.{AreDefinitions, IsDefinition}
use Rattle.ps_resolve.proofs.Definitions.{good-parts}
use Rattle.ps_resolve.proofs.program.in_order.Goals as goal

-- the first definition alone
first : (names : List (List ℕ)) (main : Datum) (x : Definition) (none xs : List Definition) → IsDefinition names main x → none ≡ [] → xs ≡ none ++ x ∷ [] → AreDefinitions names (main ∷ []) xs
first names main x [] xs is empty all = subst (AreDefinitions names (main ∷ [])) (sym all) (record { each = (is, tt) })
first names main x (y ∷ ys) xs is empty all = absurd cc

pub returns-in_err-read_definitions-clause-unread : goal.returns-in_err-read_definitions-clause-unread
returns-in_err-read_definitions-clause-unread c = λ u hs are fine.
    let bad : IsNotProgram c.in_err-read_definitions.field-0.0 = search rules in
    let rest = (good-parts c.args.names.now (c.args.main.now ∷ []) (c.args.before.now ++ c.args.after.now) (record { heads = hs; are = are; good = fine })).1 in
    let good = (good-parts c.args.names.now c.args.before.now c.args.after.now rest).0 in
    c.in_err-read_definitions.ensures.unread bad good.heads good.are good.good

pub returns-in_err-read_definitions-2-clause-unread : goal.returns-in_err-read_definitions-2-clause-unread
returns-in_err-read_definitions-2-clause-unread c = λ u hs are fine.
    let bad : IsNotProgram c.in_err-read_definitions-2.field-0.0 = search rules in
    let rest = (good-parts c.args.names.now (c.args.main.now ∷ []) (c.args.before.now ++ c.args.after.now) (record { heads = hs; are = are; good = fine })).1 in
    let good = (good-parts c.args.names.now c.args.before.now c.args.after.now rest).1 in
    c.in_err-read_definitions-2.ensures.unread bad good.heads good.are good.good

pub returns-clause-read : goal.returns-clause-read
returns-clause-read c =
    c.in_ok-read_definitions-2.ensures.read
    (c.args.main.now ∷ c.args.before.now)
    (c.in_ok-read_definitions.ensures.read
    (c.args.main.now ∷ [])
    (first c.args.names.now c.args.main.now c.in_ok-read_definition.field-0 c.new-definitions.result c.push.new.self c.in_ok-read_definition.ensures.read c.new-definitions.ensures c.in_ok-push.ensures.ok))

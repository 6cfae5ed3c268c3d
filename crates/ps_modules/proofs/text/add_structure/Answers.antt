use Rattle.std.proofs.Common.{rules, ◌≡◌, ◌≤◌, ◌++◌, ◌∷◌, [], length}
use Rattle.ps_modules.proofs.FormsDefine.{shape_twice, structure_added}
use Rattle.ps_modules.proofs.text.add_structure.Goals as goal

pub returns-then-is_taken : goal.returns-then-is_taken
returns-then-is_taken c = shape_twice c.args.names.now c.args.text.now c.requires.indexed c.args.shape c.is_taken.result c.is_taken.ensures c.module.result c.module.ensures c.if-is_taken.true

pub returns : goal.returns
returns c =
    let more : c.push.new.self ≡ c.args.text.now.structures ++ c.args.shape.name.name.0 ∷ [] = search rules in
    let few : length c.push.new.self ≤ 4294967296 = search rules in
    let grown : c.push-else-is_err.new.self ≡ c.args.text.now.shapes ++ c.args.shape ∷ [] = search rules in
    structure_added c.args.names.now c.args.text.now c.requires.indexed c.args.shape c.is_taken.result c.is_taken.ensures c.if-is_taken.false _ more few _ grown

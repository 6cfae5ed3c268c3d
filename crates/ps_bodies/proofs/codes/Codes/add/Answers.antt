use Rattle.std.proofs.Common.{List, ℤ, Bool, [], ◌∷◌, ◌++◌, ap, ◌∙◌, not, w64}
use Rattle.std.specs.Prelude.{if◌then◌else◌}
use Rattle.std.proofs.lemmas.Int.{to_z-of_z}
use Rattle.ps_kernel.specs.Rules.{is_among}
use Rattle.ps_bodies.specs.InsideBranches.{with_code}
use Rattle.ps_bodies.proofs.LabelsAreFewAndDiffer.{any_is}
use Rattle.ps_bodies.proofs.codes.Codes.add.Goals as goal

pub returns-clause-added : goal.returns-clause-added
returns-clause-added c =
    let keys = c.self.inside.codes.keys in
    (rw (to_z-of_z w64 c.args.code c.ranges.code) at c.in_ok-new.ensures.keys)
    ∙ ap (λ (b : Bool). if b then keys else keys ++ c.args.code ∷ []) (any_is c.args.code keys)
    ∙ ap (λ (ks : List ℤ). with_code ks c.args.code) c.self.view_is

pub returns-clause-told : goal.returns-clause-told
returns-clause-told c =
    (rw (to_z-of_z w64 c.args.code c.ranges.code) at c.in_ok-new.ensures.added)
    ∙ ap not (any_is c.args.code c.self.inside.codes.keys ∙ ap (is_among c.args.code) c.self.view_is)

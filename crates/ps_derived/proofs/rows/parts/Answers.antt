use Rattle.std.proofs.Common.{ap, sym, ◌∙◌, ℕ, Option}
use Rattle.std.specs.Prelude.{codes}
use Rattle.std.specs.Option.{option_map}
use Rattle.ps_base.specs.Names.{number_of}
use Rattle.ps_pattern.specs.declared.syntax.Ident.{Ident}
use Rattle.ps_pattern.specs.declared.binding.Binding.{Binding}
use Rattle.ps_derived.specs.Forms.{counts}
use Rattle.ps_derived.specs.Parts.{parts_of}
use Rattle.ps_derived.specs.Seen.{seen}
use Rattle.ps_derived.proofs.rows.parts.Goals as goal

pub returns-in-Some : goal.returns-in-Some
returns-in-Some g c =
    let use_of : Ident → Binding = g.S.Scope.use_of c.args.scope.now in
    ap (λ (w : Option ℕ). parts_of (counts use_of w) (counts use_of (number_of c.args.names.now (codes "=>"))) c.args.core c.args.form.now) (sym c.number-otherwise.ensures)
    ∙ ap (λ (w : Option ℕ). parts_of (counts use_of c.number-otherwise.result) (counts use_of w) c.args.core c.args.form.now) (sym c.number-arrow.ensures)
    ∙ sym c.in_ok-parts_at.ensures
    ∙ ap (option_map seen) c.in-Some.is

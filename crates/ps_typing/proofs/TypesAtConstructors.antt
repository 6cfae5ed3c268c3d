-- What a substitution does to a type, a constructor each, and which constructor a type has.
-- For: each law of rules and of data
use Rattle.std.proofs.Common.{◌≡◌, List, map, sym, ap, ◌∙◌}
use Rattle.ps_types.specs.declared.types.Ty.{Ty, Ty-F, roll-Ty, out-Ty, out-roll-Ty}
use Rattle.ps_types.specs.declared.types.Ty.TheVariants as ty
use Rattle.ps_types.specs.Substitutions.{Substitution, apply}
use Rattle.ps_types.proofs.TypesAreTerms.{apply_at}

-- the constructor of a type
pub layer_is : (x y : Ty-F Ty) (t : Ty) → roll-Ty x ≡ t → out-Ty t ≡ y → x ≡ y
layer_is x y t h e = sym (out-roll-Ty x) ∙ ap out-Ty h ∙ e

module _ (σ : Substitution) where
  pub at_integer : apply σ ty.Integer ≡ ty.Integer
  at_integer = ap (apply σ) (sym ty.rolls-Integer) ∙ apply_at σ Ty-F.Integer ∙ ty.rolls-Integer

  pub at_boolean : apply σ ty.Boolean ≡ ty.Boolean
  at_boolean = ap (apply σ) (sym ty.rolls-Boolean) ∙ apply_at σ Ty-F.Boolean ∙ ty.rolls-Boolean

  pub at_char : apply σ ty.Char ≡ ty.Char
  at_char = ap (apply σ) (sym ty.rolls-Char) ∙ apply_at σ Ty-F.Char ∙ ty.rolls-Char

  pub at_unit : apply σ ty.Unit ≡ ty.Unit
  at_unit = ap (apply σ) (sym ty.rolls-Unit) ∙ apply_at σ Ty-F.Unit ∙ ty.rolls-Unit

  pub at_address : apply σ ty.Address ≡ ty.Address
  at_address = ap (apply σ) (sym ty.rolls-Address) ∙ apply_at σ Ty-F.Address ∙ ty.rolls-Address

  pub at_proc : (ts : List Ty) (r : Ty) → apply σ (ty.Proc ts r) ≡ ty.Proc (map (apply σ) ts) (apply σ r)
  at_proc ts r = ap (apply σ) (sym (ty.rolls-Proc ts r)) ∙ apply_at σ (Ty-F.Proc ts r) ∙ ty.rolls-Proc (map (apply σ) ts) (apply σ r)

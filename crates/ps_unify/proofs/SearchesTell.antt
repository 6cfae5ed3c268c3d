-- What a search tells of a procedure's type, from what it tells of the parts.
-- For: search
use Rattle.std.proofs.Common.{◌≡◌, ℕ, ◌+◌, ◌-◌, ◌<◌, Bool, true, false, List, map, sym, ap, ◌∙◌, arith}
use Rattle.std.specs.Prelude.{◌||◌}
use Rattle.ps_types.specs.declared.types.Ty.{Ty, Ty-F, roll-Ty}
use Rattle.ps_types.specs.declared.types.Ty.TheVariants.{Proc, rolls-Proc}
use Rattle.ps_types.specs.Substitutions.{apply, mentions, some_mentions, size}
use Rattle.ps_types.proofs.TypesAreTerms.{apply_at, mentions_at, size_at}
use Rattle.ps_types.proofs.SubstitutionsCompose.{left_true}
use Rattle.ps_unify.specs.declared.searching.Sought.{Sought}
use Rattle.ps_unify.specs.declared.searching.Sought.TheVariants.{Found, Left, Spent}
use Rattle.ps_unify.specs.Bindings.{Bindings, means}
use Rattle.ps_unify.specs.InsideBindings.{meant, meant_all, told, Told}

module _ (s : Bindings) (x : ℕ) (t h : Ty) (same : apply (means s) h ≡ apply (means s) t) (ts : List Ty) (r : Ty) (is : h ≡ Proc ts r) where
  at : apply (means s) t ≡ roll-Ty (Ty-F.Proc (map (apply (means s)) ts) (apply (means s) r))
  at = sym same ∙ ap (apply (means s)) (is ∙ sym (rolls-Proc ts r)) ∙ apply_at (means s) (Ty-F.Proc ts r)

  abbrev in_parameters : Bool
  in_parameters = some_mentions x (map (apply (means s)) ts)

  abbrev in_answer : Bool
  in_answer = mentions x (apply (means s) r)

  seen : mentions x (apply (means s) t) ≡ (in_parameters || in_answer)
  seen = ap (mentions x) at ∙ mentions_at x (Ty-F.Proc (map (apply (means s)) ts) (apply (means s) r))

  weighs : meant s t ≡ 1 + meant_all s ts + meant s r
  weighs = ap size at ∙ size_at (Ty-F.Proc (map (apply (means s)) ts) (apply (means s) r))

  pub told_in_parameters : (room : ℕ) → in_parameters ≡ true → Told (mentions x (apply (means s) t)) (meant s t) room Found
  told_in_parameters room on = record { told = seen ∙ left_true in_parameters in_answer on }

  module _ (room left : ℕ) (some : 0 < room) (off : in_parameters ≡ false) (rest : left + meant_all s ts ≡ room - 1) where
    of : (result : Sought) → told in_answer (meant s r) left result → told (mentions x (apply (means s) t)) (meant s t) room result
    of Found on = seen ∙ ap (λ b. b || in_answer) off ∙ on
    of (Left n) on = (seen ∙ ap (λ b. b || in_answer) off ∙ on.0, omega (arith, weighs, some, rest, on.1))
    of Spent on = omega (arith, weighs, some, rest, on)

    pub told_of_answer : (result : Sought) → Told in_answer (meant s r) left result → Told (mentions x (apply (means s) t)) (meant s t) room result
    told_of_answer result on = record { told = of result on.told }

-- The texts of parameters and of arguments: the first, and then the others.
-- For: put_parameters, put_arguments
use Rattle.std.proofs.Common.{◌≡◌, ℕ, zero, suc, ◌+◌, ◌-◌, ◌<◌, List, [], ◌∷◌, refl, sym, ap, ◌∙◌, arith, length}
use Rattle.std.proofs.lemmas.List.{nil_from_length}
use Rattle.std.specs.Prelude.{codes, decimal}
use Rattle.ps_base.specs.Texts.{◌&◌, each}
use Rattle.ps_base.proofs.Writing.{join_assoc}
use Rattle.c_ast.specs.Text.{next_argument, arguments_text, next_parameters, parameters_text}

-- one parameter, and the others
parameters_more : (k n m : ℕ) → n ≡ suc m → next_parameters k n ≡ (codes ", int64_t v" & decimal k) & next_parameters (suc k) m
unfolding next_parameters
parameters_more k n m e = ap (λ i. next_parameters k i) e ∙ sym (join_assoc (codes ", int64_t v") (decimal k) (next_parameters (suc k) m))

-- the first of the parameters that are left, and the others
pub parameters_at : (k n : ℕ) → k < n → next_parameters k (n - k) ≡ (codes ", int64_t v" & decimal k) & next_parameters (k + 1) (n - (k + 1))
parameters_at k n lt =
    let one : n - k ≡ suc (n - (k + 1)) = omega arith in
    let next : suc k ≡ k + 1 = omega arith in
    parameters_more k (n - k) (n - (k + 1)) one ∙ ap (λ i. (codes ", int64_t v" & decimal k) & next_parameters i (n - (k + 1))) next

pub parameters_none : (k n : ℕ) → n ≡ 0 → next_parameters k n ≡ []
unfolding next_parameters
parameters_none k n e = rw e refl

pub no_parameters : (n : ℕ) → n ≡ 0 → parameters_text n ≡ codes "void"
unfolding parameters_text
no_parameters n e = rw e refl

pub some_parameters : (n : ℕ) → 0 < n → parameters_text n ≡ codes "int64_t v0" & next_parameters 1 (n - 1)
unfolding parameters_text
some_parameters zero lt = absurd (omega arith)
some_parameters (suc n) lt = let less : suc n - 1 ≡ n = omega arith in rw less refl

pub no_arguments : (ks : List ℕ) → length ks ≡ 0 → arguments_text ks ≡ []
unfolding arguments_text
no_arguments ks e = rw (nil_from_length ks e) refl

pub some_arguments : (ks : List ℕ) (k : ℕ) (others : List ℕ) → ks ≡ k ∷ others → arguments_text ks ≡ (codes "v" & decimal k) & each next_argument 0 others
unfolding arguments_text
some_arguments ks k others e = rw e (sym (join_assoc (codes "v") (decimal k) (each next_argument 0 others)))

-- The text of a type, by what it is.
-- For: put_type, put_vector
use Rattle.std.proofs.Common.{◌≡◌, ℕ, zero, suc, ◌-◌, List, refl, sym, ap, ◌∙◌, arith}
use Rattle.std.specs.Prelude.{codes}
use Rattle.ps_types.specs.declared.types.Ty.{Ty, Ty-F, fold-Ty, fold-roll-Ty}
use Rattle.ps_types.specs.declared.types.Ty.TheVariants as types
use Rattle.ps_show.specs.Shown.{Shown, Text, Deep, ◌⋄◌}
use Rattle.ps_show.specs.Words.{kind_type, numbered}
use Rattle.ps_show.specs.ShowText.{beginning, type_node, type_text}
use Rattle.ps_show.specs.InsideForms.{vector_text}

pub of_vector : (n : ℕ) (t : Ty) → type_text n (types.Vector t) ≡ vector_text n t
unfolding type_text
of_vector zero t = ap (λ (x : Ty). fold-Ty (ℕ → Shown) type_node x 0) (sym (types.rolls-Vector t)) ∙ ap (λ (f : ℕ → Shown). f 0) (fold-roll-Ty (ℕ → Shown) type_node (Ty-F.Vector t))
of_vector (suc n) t = ap (λ (x : Ty). fold-Ty (ℕ → Shown) type_node x (suc n)) (sym (types.rolls-Vector t)) ∙ ap (λ (f : ℕ → Shown). f (suc n)) (fold-roll-Ty (ℕ → Shown) type_node (Ty-F.Vector t))

pub of_record : (n k : ℕ) → type_text n (types.Tuple k) ≡ kind_type k
unfolding type_text
of_record n k = ap (λ (x : Ty). fold-Ty (ℕ → Shown) type_node x n) (sym (types.rolls-Tuple k)) ∙ ap (λ (f : ℕ → Shown). f n) (fold-roll-Ty (ℕ → Shown) type_node (Ty-F.Tuple k))

pub of_variable : (n x : ℕ) → type_text n (types.Var x) ≡ numbered (codes "t") x
unfolding type_text
of_variable n x = ap (λ (t : Ty). fold-Ty (ℕ → Shown) type_node t n) (sym (types.rolls-Var x)) ∙ ap (λ (f : ℕ → Shown). f n) (fold-roll-Ty (ℕ → Shown) type_node (Ty-F.Var x))

pub of_procedure : (n : ℕ) (ts : List Ty) (t : Ty) → type_text n (types.Proc ts t) ≡ Text (codes "proc")
unfolding type_text
of_procedure n ts t = ap (λ (x : Ty). fold-Ty (ℕ → Shown) type_node x n) (sym (types.rolls-Proc ts t)) ∙ ap (λ (f : ℕ → Shown). f n) (fold-roll-Ty (ℕ → Shown) type_node (Ty-F.Proc ts t))

pub no_vector : (n : ℕ) (t : Ty) → n ≡ 0 → Deep beginning ≡ vector_text n t
no_vector zero t e = refl
no_vector (suc n) t e = absurd (omega arith)

pub some_vector : (n : ℕ) (t : Ty) → (n ≡ 0 → ⊥) → Text (codes "(vector ") ⋄ (type_text (n - 1) t ⋄ Text (codes ")")) ≡ vector_text n t
some_vector zero t ne = absurd (ne refl)
some_vector (suc n) t ne = let less : suc n - 1 ≡ n = omega arith in ap (λ (m : ℕ). Text (codes "(vector ") ⋄ (type_text m t ⋄ Text (codes ")"))) less

-- Refusals of one that are refusals of all.
-- For: loops over parts of which one does not read: in `expr`, `writes` and `procedures`
use Rattle.std.proofs.Common.{◌≡◌, ℕ, ◌<◌, List, map, length, get_or, None, Some, sym, ◌∙◌}
use Rattle.std.specs.Prelude.{Option}
use Rattle.ps_plain.specs.Forms.{all_some}
use Rattle.ps_resolve.specs.declared.program.Unresolved.{Unresolved}
use Rattle.ps_resolve.specs.declared.program.Unresolved.TheVariants.{NotProgram, NoMemory}
use Rattle.ps_resolve.specs.InsideAnswers.{RefusesBy, IsNotProgram}
use Rattle.ps_resolve.proofs.Options.{fails, one_fails}

pub refuses_all : {A B C : Type 0} (f : A → B) (g : B → Option C) (ds : List A) (i : ℕ) (d : A) (e : Unresolved) → i < length ds → d ≡ get_or ds i d → RefusesBy e (g (f d)) → RefusesBy e (all_some (map g (map f ds)))
refuses_all f g ds i d NotProgram within is h = one_fails f g ds i d within is h
refuses_all f g ds i d NoMemory within is h = tt

-- one that is refused stands in no list that is read
pub refuses_list : {A C : Type 0} (h : A → Option C) (ds : List A) (i : ℕ) (d : A) (e : Unresolved) (ys : List C) → i < length ds → d ≡ get_or ds i d → IsNotProgram e → RefusesBy e (h d) → all_some (map h ds) ≡ Some ys → ⊥
refuses_list h ds i d NotProgram ys within is u bad all = let none = fails h ds i d within is bad in let clash : None ≡ Some ys = sym none ∙ all in cc
refuses_list h ds i d NoMemory ys within is u bad all = u

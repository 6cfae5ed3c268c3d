-- An environment, once what was bound in it is left again.
-- For: letrec_macros
use Rattle.std.proofs.Common.{◌≡◌, ℕ, zero, suc, ◌+◌, List, [], ◌∷◌, length, drop, map, refl, ap, sym, ◌∙◌}
use Rattle.std.proofs.lemmas.List.{length-map}
use Rattle.ps_derived.specs.Seen.{seen_macro}
use Rattle.ps_derived.specs.declared.types.Macro.{Macro}
use Rattle.ps_hygiene.specs.Runs.{Step, Goes, and_then, pure}
use Rattle.ps_base.specs.declared.faults.Place.{Place}
use Rattle.ps_pattern.specs.declared.syntax.Syntax.{Syntax}
use Rattle.ps_expansion.specs.States.{State, Task}
use Rattle.ps_expansion.specs.declared.level.Level.{Level}
use Rattle.ps_plans.specs.Nodes.{Same, Staged}
use Rattle.ps_plans.specs.Parts.{Alone}
use Rattle.ps_binders.specs.Binders.{letrec_macros, where_keyed}
use Rattle.ps_derived.specs.PartsOf.{MacroOf}
use Rattle.ps_pattern.specs.declared.binding.Binding.TheVariants as b
use Rattle.ps_scope.specs.Environments.{Env, Pair, pair_of, word_of}
use Rattle.ps_expansion.specs.Macros.{add_macros, bind_macros}

-- one pair more is left with those before it
one_more : (n : ℕ) (xs : Env) (p : Pair) (env : Env) → drop n xs ≡ p ∷ env → drop (suc n) xs ≡ env
one_more zero [] p env e = cc
one_more zero (x ∷ xs) p env e = cc
one_more (suc n) [] p env e = cc
one_more (suc n) (x ∷ xs) p env e = one_more n xs p env e

pub macros_are_left : (ms : List MacroOf) (m : ℕ) (env : Env) → drop (length ms) (bind_macros ms m env) ≡ env
macros_are_left [] m env = refl
macros_are_left (x ∷ xs) m env =
    let p = pair_of (word_of x.keyword) (b.Macro m) in
    one_more (length xs) (bind_macros xs (m + 1) (p ∷ env)) p env (macros_are_left xs (m + 1) (p ∷ env))

-- the same of macros that the code holds
pub held_are_left : (ms : List Macro) (m : ℕ) (env around : Env) → around ≡ bind_macros (map seen_macro ms) m env
    → drop (length ms) around ≡ env
held_are_left ms m env around e =
    ap (λ (xs : Env). drop (length ms) xs) e
    ∙ ap (λ (n : ℕ). drop n (bind_macros (map seen_macro ms) m env)) (sym (length-map ms seen_macro))
    ∙ macros_are_left (map seen_macro ms) m env

-- the rules stand where the keywords are bound
pub rules_stand_inside : (task : Task) (l : Level) (at : Place) (env inside : Env) (ms : List MacroOf) (fs : List Syntax)
    (s bound t : State) (m : ℕ) (part : Staged)
    → m ≡ length s.world.rules → inside ≡ bind_macros ms m env → bound ≡ s → add_macros task inside ms bound ≡ Goes tt t
    → part ≡ where_keyed l ms m (Alone at fs)
    → letrec_macros task l at env ms fs s ≡ Goes (Same part) t
unfolding letrec_macros
rules_stand_inside task l at env inside ms fs s bound t m part count is same added made =
    let n = length s.world.rules in
    let here : add_macros task (bind_macros ms n env) ms s ≡ Goes tt t
    = sym (ap (λ (k : ℕ). add_macros task (bind_macros ms k env) ms s) count)
    ∙ sym (ap (λ (e : Env). add_macros task e ms s) is)
    ∙ sym (ap (λ (r : State). add_macros task inside ms r) same) ∙ added in
    ap (λ (r : Step State (Unit {0})). and_then r (λ _. pure (Same (where_keyed l ms n (Alone at fs))))) here
    ∙ ap (λ (p : Staged). Goes (Same p) t) (ap (λ (k : ℕ). where_keyed l ms k (Alone at fs)) (sym count) ∙ sym made)
